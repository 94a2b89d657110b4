-- Parts that end where the image ends, and numbers at the end of a part and past it.
use Prim.Native.Nat.{ℕ, ◌+◌, ◌≤◌}
use native.Mathlib.Omega.{arith}
use mathlib.Core.Path.{◌≡◌}
use mathlib.Core.List.{List}
use lib.ListN.{length, get_or, get_or-eq_default}
use Rattle.image.specs.Bytes.{le16}

pub last_byte : (xs : List ℕ) (at b : ℕ) → length xs ≤ at + 1 → b ≡ get_or xs at 0 → b ≡ le16 xs at
last_byte xs at b h e = let z = get_or-eq_default xs 0 {n = at + 1} h in omega arith
