use borrow.Author.Rules.{rules}
use mathlib.Core.Path.{sym, ap, ◌∙◌}
use Rattle.image.specs.Kinds.{TermKind}
use Rattle.image.proofs.KindNumbers.{same_term_kind}
use Rattle.need_sums.specs.Walks.{shape_of}
use Rattle.need_sums.proofs.Tables.{plain_shape}
use Rattle.need_sums.proofs.shapes.shape_of.Goals as goal

pub returns-in-32 : goal.returns-in-32
returns-in-32 c = λ k e. c.childless.ensures ∙ ap shape_of (same_term_kind TermKind.unit k (sym c.in-32.is ∙ e))

pub returns-in-33 : goal.returns-in-33
returns-in-33 c = λ k e. c.childless-in-33.ensures ∙ ap shape_of (same_term_kind TermKind.truth k (sym c.in-33.is ∙ e))

pub returns-in-34 : goal.returns-in-34
returns-in-34 c = λ k e. c.childless-in-34.ensures ∙ ap shape_of (same_term_kind TermKind.number k (sym c.in-34.is ∙ e))

pub returns-in-35 : goal.returns-in-35
returns-in-35 c = λ k e. c.childless-in-35.ensures ∙ ap shape_of (same_term_kind TermKind.var k (sym c.in-35.is ∙ e))

pub returns-in-36 : goal.returns-in-36
returns-in-36 c = λ k e. c.two.ensures ∙ ap shape_of (same_term_kind TermKind.seq k (sym c.in-36.is ∙ e))

pub returns-in-37 : goal.returns-in-37
returns-in-37 c = λ k e. c.one.ensures ∙ ap shape_of (same_term_kind TermKind.print k (sym c.in-37.is ∙ e))

pub returns-in-38 : goal.returns-in-38
returns-in-38 c = λ k e. c.three.ensures ∙ ap shape_of (same_term_kind TermKind.ite k (sym c.in-38.is ∙ e))

pub returns-in-39 : goal.returns-in-39
returns-in-39 c = λ k e. c.two-in-39.ensures ∙ ap shape_of (same_term_kind TermKind.pair k (sym c.in-39.is ∙ e))

pub returns-in-40 : goal.returns-in-40
returns-in-40 c = λ k e. c.two-in-40.ensures ∙ ap shape_of (same_term_kind TermKind.split k (sym c.in-40.is ∙ e))

pub returns-in-41 : goal.returns-in-41
returns-in-41 c = λ k e. c.childless-in-41.ensures ∙ ap shape_of (same_term_kind TermKind.fun k (sym c.in-41.is ∙ e))

pub returns-in-42 : goal.returns-in-42
returns-in-42 c = λ k e. c.two-in-42.ensures ∙ ap shape_of (same_term_kind TermKind.app k (sym c.in-42.is ∙ e))

pub returns-in-43 : goal.returns-in-43
returns-in-43 c = λ k e. c.two-in-43.ensures ∙ ap shape_of (same_term_kind TermKind.arith k (sym c.in-43.is ∙ e))

pub returns-in-44 : goal.returns-in-44
returns-in-44 c = λ k e. c.childless-in-44.ensures ∙ ap shape_of (same_term_kind TermKind.new_label k (sym c.in-44.is ∙ e))

pub returns-in-45 : goal.returns-in-45
returns-in-45 c = λ k e. c.two-in-45.ensures ∙ ap shape_of (same_term_kind TermKind.mark k (sym c.in-45.is ∙ e))

pub returns-in-46 : goal.returns-in-46
returns-in-46 c = λ k e. ap shape_of (same_term_kind TermKind.pcd k (sym c.in-46.is ∙ e))

pub returns-in-47 : goal.returns-in-47
returns-in-47 c = λ k e. c.two-in-47.ensures ∙ ap shape_of (same_term_kind TermKind.adv k (sym c.in-47.is ∙ e))

pub returns-in-48 : goal.returns-in-48
returns-in-48 c = λ k e. c.one-in-48.ensures ∙ ap shape_of (same_term_kind TermKind.install k (sym c.in-48.is ∙ e))

pub returns-in-49 : goal.returns-in-49
returns-in-49 c = λ k e. c.one-in-49.ensures ∙ ap shape_of (same_term_kind TermKind.new_cell k (sym c.in-49.is ∙ e))

pub returns-in-50 : goal.returns-in-50
returns-in-50 c = λ k e. c.one-in-50.ensures ∙ ap shape_of (same_term_kind TermKind.read k (sym c.in-50.is ∙ e))

pub returns-in-51 : goal.returns-in-51
returns-in-51 c = λ k e. c.two-in-51.ensures ∙ ap shape_of (same_term_kind TermKind.store k (sym c.in-51.is ∙ e))

pub returns-in-52 : goal.returns-in-52
returns-in-52 c = λ k e. c.one-in-52.ensures ∙ ap shape_of (same_term_kind TermKind.lower k (sym c.in-52.is ∙ e))

pub returns-in-54 : goal.returns-in-54
returns-in-54 c = λ k e. c.childless-in-54.ensures ∙ ap shape_of (same_term_kind TermKind.obj k (sym c.in-54.is ∙ e))

pub returns-in-55 : goal.returns-in-55
returns-in-55 c = λ k e. c.one-in-55.ensures ∙ ap shape_of (same_term_kind TermKind.call k (sym c.in-55.is ∙ e))

pub returns-in-56 : goal.returns-in-56
returns-in-56 c = λ k e. c.childless-in-56.ensures ∙ ap shape_of (same_term_kind TermKind.stack k (sym c.in-56.is ∙ e))

pub returns-in-57 : goal.returns-in-57
returns-in-57 c = λ k e. c.three-in-57.ensures ∙ ap shape_of (same_term_kind TermKind.keep k (sym c.in-57.is ∙ e))

pub returns-in-58 : goal.returns-in-58
returns-in-58 c = λ k e. c.three-in-58.ensures ∙ ap shape_of (same_term_kind TermKind.match k (sym c.in-58.is ∙ e))

pub returns-in-60 : goal.returns-in-60
returns-in-60 c = λ k e. c.one-in-60.ensures ∙ ap shape_of (same_term_kind TermKind.byte k (sym c.in-60.is ∙ e))

pub returns-in_default : goal.returns-in_default
returns-in_default c = λ k e. c.childless-in_default.ensures ∙ sym (plain_shape _ (search rules) k e)
