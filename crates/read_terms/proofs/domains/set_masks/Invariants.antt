-- `read_terms::domains::set_masks` meets its contract.
use mathlib.Core.Path.{◌≡◌}
use Prim.Native.Nat.{ℕ, ◌≤◌}
use lib.ListN.{length, get_or, take}
use Rattle.image.specs.Limits.{domain_limit}
use Rattle.image.specs.Layout.{records_of}
use Rattle.verdict.specs.Domains.{masks}
use Rattle.read_terms.proofs.domains.set_masks.Given as goal

abbrev pub invariant-loop-i : goal.invariant-loop-i
invariant-loop-i l = (l.count ≤ domain_limit) × (length l.table ≡ domain_limit) × ((k : ℕ) → get_or l.table k 0 ≡ get_or (take l.i (masks (records_of l.image))) k 0)
