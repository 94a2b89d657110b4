-- The loop keeps: the bits done, and those of what is left of the mask.
use Prim.Native.Nat.{◌-◌}
use mathlib.Core.Path.{◌≡◌}
use mathlib.Core.List.{◌++◌}
use lib.ListN.{length, take}
use Rattle.image.specs.Limits.{domain_limit}
use Rattle.verdict.specs.Domains.{bits}
use Rattle.check_shape.proofs.order.row_of.Given as goal

abbrev pub invariant-loop-q : goal.invariant-loop-q
invariant-loop-q l = (length l.row ≡ domain_limit) × (take l.q l.row ++ bits (domain_limit - l.q) l.m ≡ bits domain_limit l.mask)
