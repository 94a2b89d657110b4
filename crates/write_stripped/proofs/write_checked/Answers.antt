-- `write_stripped::write_checked` meets its contract.
use Prim.Native.Nat.{ℕ, ◌≤◌}
use mathlib.Core.Path.{sym, subst, ◌∙◌}
use mathlib.Core.List.{List}
use lib.ListN.{length, replicate, length-replicate}
use lib.Seq.{length-take-le}
use Rattle.image.specs.Limits.{image_limit}
use Rattle.write_stripped.proofs.Acceptance.{wrong_left, short_left, written_left}
use Rattle.write_stripped.proofs.write_checked.Goals as goal

pub returns-then-is_wrong_set : goal.returns-then-is_wrong_set
returns-then-is_wrong_set c =
    wrong_left c.args.image.now c.args.mask c.args.out.now c.requires.0 c.requires.1 (sym c.is_wrong_set.ensures ∙ c.if-is_wrong_set.true)

pub returns-then-out-size : goal.returns-then-out-size
returns-then-out-size c =
    short_left c.args.image.now c.args.mask c.args.out.now c.requires.0 c.requires.1 (sym c.is_wrong_set.ensures ∙ c.if-is_wrong_set.false) c.if-out-size.true

pub slice_bounds-write_copy-end : goal.slice_bounds-write_copy-end
slice_bounds-write_copy-end c =
    let b : List ℕ = c.args.image.now in
    sym (length-take-le (length b) (replicate image_limit 0) (subst (λ n. length b ≤ n) (sym (length-replicate {A = ℕ} image_limit 0)) c.requires.0))

pub write_copy-n-requires : goal.write_copy-n-requires
write_copy-n-requires c =
    let b : List ℕ = c.args.image.now in
    (c.requires.0, c.requires.1, c.requires.2, c.requires.3, c.requires.4, c.requires.5, length-take-le (length b) (replicate image_limit 0) (subst (λ n. length b ≤ n) (sym (length-replicate {A = ℕ} image_limit 0)) c.requires.0), c.if-out-size.false)

pub returns : goal.returns
returns c =
    let w = c.write_copy-n in
    written_left c.args.image.now c.args.mask c.args.out.now c.requires.0 c.requires.1 (sym c.is_wrong_set.ensures ∙ c.if-is_wrong_set.false) _ _ c.if-out-size.false w.ensures.0 w.ensures.1
