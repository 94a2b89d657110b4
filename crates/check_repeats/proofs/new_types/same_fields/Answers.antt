-- `check_repeats::new_types::same_fields` meets its contract: so far all numbers are the same.
use Prim.Native.Nat.{ℕ, ◌/◌}
use mathlib.Core.Path.{◌≡◌, refl, sym, ◌∙◌}
use mathlib.Core.Bool.{Bool, true, false}
use mathlib.Core.List.{List}
use lib.ListN.{length}
use lib.Dec.{eqb}
use borrow.Author.Tests.{eq-eqb, ne_eqb}
use Rattle.laws.specs.Tests.{all_below}
use Rattle.read_records.specs.Heads.{field_in}
use Rattle.check_repeats.proofs.Below.{below_more, below_not, and_no}
use borrow.Author.Rules.{rules}
use Rattle.check_repeats.proofs.new_types.same_fields.Goals as goal

-- The numbers at a place are the same.
abbrev same : List ℕ → List ℕ → ℕ → Bool
same a b j = eqb (field_in a j) (field_in b j)

pub loop-i-init : goal.loop-i-init
unfolding all_below
loop-i-init c = (search rules, refl)

pub returns-then-field : goal.returns-then-field
returns-then-field c =
    let a = c.args in
    let h : same a.a.now a.b.now c.loop-i.i ≡ false = ne_eqb _ _ (λ e. c.if-field.true (c.field.ensures ∙ (e ∙ sym c.field-in-loop-i.ensures))) in
    and_no (eqb (length a.a.now) (length a.b.now)) _ (below_not (same a.a.now a.b.now) (length a.a.now / 2) c.loop-i.i (search rules) h)

pub loop-i-preserved : goal.loop-i-preserved
loop-i-preserved c =
    let a = c.args in
    let h : same a.a.now a.b.now c.loop-i.i ≡ true = eq-eqb _ _ (sym c.field.ensures ∙ (c.if-field.false ∙ c.field-in-loop-i.ensures)) in
    (c.loop-i.invariant.0, below_more (same a.a.now a.b.now) c.loop-i.i c.loop-i.invariant.1 h)

pub returns : goal.returns
returns c =
    let a = c.args in
    let e : c.loop-i.i ≡ length a.a.now / 2 = search rules in
    simp (eq-eqb _ _ c.loop-i.invariant.0, rw e at c.loop-i.invariant.1)
