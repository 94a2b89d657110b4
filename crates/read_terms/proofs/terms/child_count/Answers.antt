-- `read_terms::terms::child_count` meets its contract.
use Prim.Native.Nat.{ℕ}
use mathlib.Core.Path.{◌≡◌, refl, sym, ap, ◌∙◌}
use mathlib.Core.Bool.{true}
use mathlib.Core.List.{List}
use lib.ListN.{length}
use Rattle.image.specs.Kinds.{TermKind}
use Rattle.image.proofs.KindNumbers.{same_term_kind}
use Rattle.read_terms.specs.Fields.{children_in, count_in}
use Rattle.image.proofs.Offsets.{side_by_side}
use Rattle.read_terms.proofs.Counts.{children_counted}
use Rattle.read_terms.proofs.terms.child_count.Goals as goal

-- A kind's children stand side by side, as many as its fields tell.
counted : (fs : List ℕ) (j k : TermKind) → side_by_side j ≡ true → j ≡ k → count_in fs j ≡ length (children_in fs k)
counted fs j k side e = sym (children_counted fs j side) ∙ ap (λ i. length (children_in fs i)) e

pub returns-in-36 : goal.returns-in-36
returns-in-36 c = λ k e. counted c.args.fields.now TermKind.seq k refl (same_term_kind TermKind.seq k (sym c.in-36.is ∙ e))

pub returns-in-37 : goal.returns-in-37
returns-in-37 c = λ k e. counted c.args.fields.now TermKind.print k refl (same_term_kind TermKind.print k (sym c.in-37.is ∙ e))

pub returns-in-38 : goal.returns-in-38
returns-in-38 c = λ k e. counted c.args.fields.now TermKind.ite k refl (same_term_kind TermKind.ite k (sym c.in-38.is ∙ e))

pub returns-in-39 : goal.returns-in-39
returns-in-39 c = λ k e. counted c.args.fields.now TermKind.pair k refl (same_term_kind TermKind.pair k (sym c.in-39.is ∙ e))

pub returns-in-40 : goal.returns-in-40
returns-in-40 c = λ k e. counted c.args.fields.now TermKind.split k refl (same_term_kind TermKind.split k (sym c.in-40.is ∙ e))

pub returns-in-41 : goal.returns-in-41
returns-in-41 c = λ k e. counted c.args.fields.now TermKind.fun k refl (same_term_kind TermKind.fun k (sym c.in-41.is ∙ e))

pub returns-in-42 : goal.returns-in-42
returns-in-42 c = λ k e. counted c.args.fields.now TermKind.app k refl (same_term_kind TermKind.app k (sym c.in-42.is ∙ e))

pub returns-in-43 : goal.returns-in-43
returns-in-43 c = λ k e. counted c.args.fields.now TermKind.arith k refl (same_term_kind TermKind.arith k (sym c.in-43.is ∙ e))

pub returns-in-45 : goal.returns-in-45
returns-in-45 c = λ k e. counted c.args.fields.now TermKind.mark k refl (same_term_kind TermKind.mark k (sym c.in-45.is ∙ e))

pub returns-in-46 : goal.returns-in-46
returns-in-46 c = λ k e. c.labels_in.ensures ∙ counted c.args.fields.now TermKind.pcd k refl (same_term_kind TermKind.pcd k (sym c.in-46.is ∙ e))

pub returns-in-47 : goal.returns-in-47
returns-in-47 c = λ k e. counted c.args.fields.now TermKind.adv k refl (same_term_kind TermKind.adv k (sym c.in-47.is ∙ e))

pub returns-in-48 : goal.returns-in-48
returns-in-48 c = λ k e. counted c.args.fields.now TermKind.install k refl (same_term_kind TermKind.install k (sym c.in-48.is ∙ e))

pub returns-in-49 : goal.returns-in-49
returns-in-49 c = λ k e. counted c.args.fields.now TermKind.new_cell k refl (same_term_kind TermKind.new_cell k (sym c.in-49.is ∙ e))

pub returns-in-50 : goal.returns-in-50
returns-in-50 c = λ k e. counted c.args.fields.now TermKind.read k refl (same_term_kind TermKind.read k (sym c.in-50.is ∙ e))

pub returns-in-51 : goal.returns-in-51
returns-in-51 c = λ k e. counted c.args.fields.now TermKind.store k refl (same_term_kind TermKind.store k (sym c.in-51.is ∙ e))

pub returns-in-52 : goal.returns-in-52
returns-in-52 c = λ k e. counted c.args.fields.now TermKind.lower k refl (same_term_kind TermKind.lower k (sym c.in-52.is ∙ e))

pub returns-in-60 : goal.returns-in-60
returns-in-60 c = λ k e. counted c.args.fields.now TermKind.byte k refl (same_term_kind TermKind.byte k (sym c.in-60.is ∙ e))

pub returns-in-54 : goal.returns-in-54
returns-in-54 c = λ k e. c.bodies_in.ensures ∙ counted c.args.fields.now TermKind.obj k refl (same_term_kind TermKind.obj k (sym c.in-54.is ∙ e))

pub returns-in-55 : goal.returns-in-55
returns-in-55 c = λ k e. counted c.args.fields.now TermKind.call k refl (same_term_kind TermKind.call k (sym c.in-55.is ∙ e))

pub returns-in-57 : goal.returns-in-57
returns-in-57 c = λ k e. counted c.args.fields.now TermKind.keep k refl (same_term_kind TermKind.keep k (sym c.in-57.is ∙ e))
