-- The published lengths (document 01, "A run" and "Turned back at the gate").
use Prim.Native.Nat.{◌+◌, ◌*◌, ◌≤◌}
use native.Mathlib.Omega.{arith}
use mathlib.Core.Path.{◌≡◌, refl}
use Rattle.calculus.specs.Limits.{leaf_limit, cell_limit}
use Rattle.image.specs.Limits.{work_length, report_length}

-- The longest report: its 10 bytes, a result of 8 leaves of at most 8 bytes, and the cells of both halves (card 9), each of 6 bytes and as many leaves.
pub longest_report : report_length ≡ 10 + leaf_limit * 8 + (cell_limit + cell_limit) * (6 + leaf_limit * 8)
longest_report = refl

pub short_work : work_length ≤ 65536
short_work = omega arith
