-- `write_unit_bodies::copy_with_unit_bodies` meets its contract.
use borrow.Author.Rules.{rules}
use Prim.Native.Nat.{ℕ, ◌+◌}
use native.Mathlib.Omega.{arith}
use mathlib.Core.Path.{◌≡◌, sym, ap, subst, ◌∙◌}
use mathlib.Core.Bool.{Bool}
use mathlib.Core.List.{List}
use lib.ListN.{set}
use Rattle.calculus.specs.Syntax.{Dom}
use Rattle.image.specs.Layout.{records_of}
use Rattle.image.specs.Types.{term_place}
use Rattle.read_records.specs.Heads.{field_in}
use Rattle.read_terms.proofs.Located.{good_of}
use Rattle.write_masks.specs.Masks.{in_mask}
use Rattle.write_unit_bodies.specs.UnitBodies.{UnitBodies}
use Rattle.write_unit_bodies.proofs.Reading.{watch_asks, watch_told, body_there, body_is, byte_there, unit_bodies_stays, unit_bodies_more}
use Rattle.write_unit_bodies.proofs.copy_with_unit_bodies.Goals as goal
use Rattle.write_unit_bodies.proofs.copy_with_unit_bodies.Goals.{else-is_low_advice_or_lower, then-is_low_advice_or_lower}

pub overflow_cast-n : goal.overflow_cast-n
overflow_cast-n c =
    let f = (good_of c.args.image.now c.requires.0.terms.laid_out).few_terms in
    search rules

pub is_low_advice_or_lower-requires : goal.is_low_advice_or_lower-requires
is_low_advice_or_lower-requires c = rw (c.term_kind.ensures, c.term_fields-fields.ensures) (watch_asks c.requires.0 (search rules))

pub put_unit_body-requires : goal.put_unit_body-requires
put_unit_body-requires c =
    let H : Dom → Bool = in_mask c.args.high in
    let e = watch_told c.requires.0 {n = c.loop-i.i} (search rules) H c.is_low_advice_or_lower.ensures c.term_kind.ensures c.term_fields-fields.ensures in
    (c.requires.0.terms, rw c.term_fields-fields.ensures (body_there c.requires.0 {n = c.loop-i.i} (search rules) H (sym e ∙ c.if-is_low_advice_or_lower.true)), c.loop-i.invariant.same)

pub loop-i-preserved : goal.loop-i-preserved
loop-i-preserved c =
    let l = c.loop-i in
    let b : List ℕ = c.args.image.now in
    let H : Dom → Bool = in_mask c.args.high in
    let e = watch_told c.requires.0 {n = l.i} (search rules) H c.is_low_advice_or_lower.ensures c.term_kind.ensures c.term_fields-fields.ensures in
    elim c.if-is_low_advice_or_lower.branch [
      | then-is_low_advice_or_lower w ↦
          let low = sym e ∙ w.if-is_low_advice_or_lower.true in
          let k = byte_there c.requires.0 {n = l.i} (search rules) H low in
          let n = l.invariant.same in
          let f : field_in c.term_fields-fields.result.now 2 ≡ _ = ap (λ fs. field_in fs 2) c.term_fields-fields.ensures ∙ body_is c.requires.0 {n = l.i} (search rules) H low in
          let g = w.put_unit_body.ensures ∙ ap (λ e. set l.copy (term_place (records_of b) e + 2) 32) f in
          rw w.copy-is (subst (λ xs. UnitBodies (records_of b) H (l.i + 1) b xs) (sym g) (unit_bodies_more (records_of b) H b l.i l.copy l.invariant low (omega arith)))
      | else-is_low_advice_or_lower w ↦
          rw w.copy-is (unit_bodies_stays (records_of b) H b l.i l.copy l.invariant (sym e ∙ w.if-is_low_advice_or_lower.false))
    ]
