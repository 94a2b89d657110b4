-- What all laws of the simulation are about: linked code and the words that say it, and a run of the root's term, which is sound, with its budget and log.
use Prim.Native.Nat.{ℕ}
use mathlib.Core.Path.{◌≡◌}
use mathlib.Core.List.{List}
use lib.ListN.{length}
use Rattle.calculus.specs.Syntax.{Tm}
use Rattle.calculus.specs.State.{Given}
use Rattle.vm_theory.specs.Table.{Table, Linked}
use Rattle.vm_theory.proofs.Sound.{Sound}
use Rattle.vm_theory.specs.Says.{SaysCode}
use Rattle.vm_machine.specs.Fetch.{Program}

pub record Setup : Type 1 where
  pub table : Table
  pub root : ℕ
  pub linked : Linked table 0 root
  pub program : Program
  pub says : SaysCode table program.image program.code
  pub given : Given
  pub sound : Sound given (table.term root)
  pub budget : ℕ
  -- the log as it was at the start, which is as long as the run supposes
  pub log : List ℕ
  pub log_kept : given.log_length ≡ length log

abbrev pub root_term : Setup → Tm
root_term Θ = Θ.table.term Θ.root
