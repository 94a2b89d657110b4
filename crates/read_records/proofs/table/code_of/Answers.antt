-- A number past the table is no kind's.
use mathlib.Core.Path.{◌≡◌, sym}
use native.Mathlib.Omega.{arith}
use lib.ListN.{length, get_or-eq_default}
use borrow.Author.Tests.{ltb-false}
use Rattle.read_records.specs.Codes.{code_count, kind_codes}
use Rattle.read_records.proofs.Codes.{codes_length}
use Rattle.read_records.proofs.table.code_of.Goals as goal

pub bounds-kinds-kind : goal.bounds-kinds-kind
bounds-kinds-kind c = let h : length c.args.kinds.now ≡ code_count = rw c.requires codes_length in omega arith

pub returns-else-kind-lt-KIND_COUNT : goal.returns-else-kind-lt-KIND_COUNT
returns-else-kind-lt-KIND_COUNT c = sym (get_or-eq_default kind_codes 0 {n = c.args.kind} (omega (arith, ltb-false, codes_length)))
