use mathlib.Core.Path.{refl, ap}
use native.Mathlib.Omega.{arith}
use Prim.Native.Nat.{ℕ, ◌%◌}
use lib.Dec.{leb}
use Rattle.vm_code.specs.Words.{count_size}
use Rattle.vm_matches.proofs.looks.looked_with.Goals as goal

pub returns : goal.returns
returns c = let a = c.args in (ap (λ (x : ℕ). record { next = a.byte % count_size; rest = x; fits = leb count_size a.byte }) c.rest_after.ensures, refl, omega arith)
