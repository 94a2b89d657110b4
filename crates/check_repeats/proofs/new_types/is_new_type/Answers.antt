-- `check_repeats::new_types::is_new_type` meets its contract: so far no type is the same.
use Prim.Native.Nat.{ℕ}
use mathlib.Core.Path.{◌≡◌, refl, sym, ap, ◌∙◌}
use mathlib.Core.Bool.{Bool, not}
use Rattle.laws.specs.Tests.{all_below}
use Rattle.check_repeats.specs.NewTypes.{equal_type}
use Rattle.check_repeats.proofs.Below.{below_more, below_not}
use borrow.Author.Rules.{rules}
use Rattle.check_repeats.proofs.new_types.is_new_type.Goals as goal

pub loop-i-init : goal.loop-i-init
unfolding all_below
loop-i-init c = refl

pub returns-then-is_equal_type : goal.returns-then-is_equal_type
returns-then-is_equal_type c =
    let a = c.args in
    let ok : ℕ → Bool = λ i. not (equal_type a.image.now a.fields.now a.types.now a.descriptors.now a.descriptor i) in
    sym (below_not ok a.t.0 c.loop-i.i (search rules) (ap not (sym c.is_equal_type.ensures ∙ c.if-is_equal_type.true)))

pub loop-i-preserved : goal.loop-i-preserved
loop-i-preserved c =
    let a = c.args in
    let ok : ℕ → Bool = λ i. not (equal_type a.image.now a.fields.now a.types.now a.descriptors.now a.descriptor i) in
    below_more ok c.loop-i.i c.loop-i.invariant (ap not (sym c.is_equal_type.ensures ∙ c.if-is_equal_type.false))

pub returns : goal.returns
returns c =
    let e : c.loop-i.i ≡ c.args.t.0 = search rules in
    sym (rw e at c.loop-i.invariant)
