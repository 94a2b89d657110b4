use mathlib.Core.Path.{ap}
use Prim.Native.Nat.{ℕ}
use mathlib.Core.Bool.{not}
use lib.Dec.{eqb}
use Rattle.vm_matches.proofs.Fields.{close_of}
use Rattle.vm_matches.proofs.entries.binds_rest.Goals as goal

pub returns : goal.returns
returns c =
    let a = c.args in
    λ C e. ap (λ (x : ℕ). not (eqb x 0)) (close_of C a.w a.fields.now e _ _ c.count_of.ensures c.field_or_zero.ensures)
