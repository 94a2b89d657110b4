-- Leaves in eight slots are read back from them.
use Prim.Native.Nat.{◌≤◌}
use mathlib.Core.Path.{◌≡◌, refl, ap, ◌∙◌}
use mathlib.Core.List.{List, [], ◌∷◌, ◌++◌, map}
use lib.ListN.{length, replicate, length-map}
use lib.Seq.{take_at, take-take}
use Rattle.calculus.specs.declared.Leaf.{Leaf}
use Rattle.calculus.specs.Limits.{leaf_limit}
use Rattle.report.specs.Written.{leaves_in}
use Rattle.call_spec.specs.Calls.{slot_of, slots_of}

leaves_of_slots : (x : List Leaf) → map (λ s. s.leaf) (map slot_of x) ≡ x
leaves_of_slots [] = refl
leaves_of_slots (l ∷ x) = ap (l ∷◌) (leaves_of_slots x)

pub leaves_back : (x : List Leaf) → length x ≤ leaf_limit → leaves_in (length x) (slots_of x) ≡ x
leaves_back x h =
    ap (map (λ s. s.leaf)) (take-take (length x) leaf_limit (map slot_of x ++ replicate leaf_limit (slot_of Leaf.Unit)) h ∙ take_at (map slot_of x) (replicate leaf_limit (slot_of Leaf.Unit)) (length x) (length-map x slot_of))
    ∙ leaves_of_slots x
