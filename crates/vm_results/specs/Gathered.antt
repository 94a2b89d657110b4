-- Leaves gathered one by one, eight at most (document 01, "The image", limits: a plain type has at most 8 leaves).
use Rattle.std.specs.Prelude.{◌+◌, List, [], ◌∷◌, length, set, ltb}
use Rattle.calculus.specs.declared.Leaf.{Leaf}
use Rattle.calculus.specs.Combinators.{choose}
use Rattle.calculus.specs.Limits.{leaf_limit}
use Rattle.call_spec.specs.Calls.{slot_of, slots_of}
use Rattle.vm_results.specs.declared.Gathered.{Gathered}

-- One leaf more, where there is a slot for it.
abbrev pub with_leaf : Gathered → Leaf → Gathered
with_leaf g l = choose (ltb g.count leaf_limit) (record { count = g.count + 1; slots = set g.slots g.count (slot_of l) }) g

unfoldable pub with_leaves : Gathered → List Leaf → Gathered
with_leaves g [] = g
with_leaves g (l ∷ ls) = with_leaves (with_leaf g l) ls

-- Leaves in slots, with their number.
abbrev pub gathered : List Leaf → Gathered
gathered ls = record { count = length ls; slots = slots_of ls }
