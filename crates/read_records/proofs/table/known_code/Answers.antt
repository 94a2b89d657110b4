-- The table has a code for each number below code_count.
use mathlib.Core.Path.{◌≡◌}
use native.Mathlib.Omega.{arith}
use lib.ListN.{length}
use Rattle.read_records.specs.Codes.{code_count}
use Rattle.read_records.proofs.Codes.{codes_length}
use Rattle.read_records.proofs.table.known_code.Goals as goal

pub bounds-kinds-kind : goal.bounds-kinds-kind
bounds-kinds-kind c = let h : length c.args.kinds.now ≡ code_count = rw c.requires.0 codes_length in omega arith
