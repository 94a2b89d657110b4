-- `check_shape::check_shape` meets its contract: refusal 9 by the counts; the others by the first places of the tables.
use Prim.Native.Nat.{◌<◌}
use native.Mathlib.Omega.{arith}
use mathlib.Core.Bool.{true, false}
use mathlib.Core.Path.{◌≡◌, ap, sym, ◌∙◌}
use lib.ListN.{length}
use Rattle.image.specs.Layout.{records_of}
use Rattle.verdict.specs.Shape.{none_empty}
use Rattle.check_shape.proofs.TermRecords.{domains_of, terms_of_lem}
use Rattle.check_shape.proofs.Answers.{shape_empty, shape_passes, none_empty_lem, some_terms}
use Rattle.check_shape.proofs.check_shape.Goals as goal

pub returns-then-not-none_empty : goal.returns-then-not-none_empty
returns-then-not-none_empty c =
    let s = c.requires.1 in
    let b = c.args.image.now in
    let L = records_of b in
    let r = c.none_empty in
    let e : none_empty L ≡ false = none_empty_lem L _ _ _ s.counts.domains s.counts.types s.counts.terms ∙ sym r.ensures ∙ c.if-not-none_empty.true in
    sym (shape_empty L (length b) e)

pub check_passes-requires : goal.check_passes-requires
check_passes-requires c =
    let a = c.args in
    let b = a.image.now in
    let s = c.requires.1 in
    let r = c.none_empty in
    let n = a.counts in
    let h : 0 < n.terms = some_terms n.domains n.types n.terms (sym r.ensures ∙ c.if-not-none_empty.false) in (
      c.requires.0,
      rw s.counts.domains (domains_of b a.doms.now a.terms.now s.descriptor_table s.tables),
      rw s.counts.terms (terms_of_lem b a.doms.now a.terms.now s.descriptor_table s.tables),
      rw s.counts.terms (omega (arith, ap length s.tables.terms, s.counts.terms)),
      record { laid_out = s.tables.laid_out; marks = c.requires.2 },
    )

pub returns : goal.returns
returns c =
    let s = c.requires.1 in
    let b = c.args.image.now in
    let L = records_of b in
    let r = c.none_empty in
    let e : none_empty L ≡ true = none_empty_lem L _ _ _ s.counts.domains s.counts.types s.counts.terms ∙ sym r.ensures ∙ c.if-not-none_empty.false in
    c.check_passes.ensures ∙ sym (shape_passes L (length b) e)
