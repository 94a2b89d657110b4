-- Records that stand end to end: each ends before the later ones begin.
use Prim.Native.Nat.{ℕ, zero, suc, ◌+◌, ◌≤◌, ◌<◌}
use native.Mathlib.Omega.{arith}
use mathlib.Core.Path.{sym, subst}
use mathlib.Core.List.{List, [], ◌∷◌, ◌++◌}
use lib.ListN.{length, get_or}
use Rattle.image.specs.Bytes.{length_at}
use Rattle.image.specs.LaidOut.{EndToEnd}

behind : (b : List ℕ) (o : ℕ) (ps : List ℕ) → EndToEnd b o ps → (i : ℕ) → i < length ps → o ≤ get_or ps i 0
behind b o [] e i h = absurd (omega arith)
behind b o (p ∷ ps) e zero h = let q = e.0 in omega arith
behind b o (p ∷ ps) e (suc i) h = let r = behind b (o + length_at b o) ps e.1 i (omega arith) in omega arith

pub ends_before : (b : List ℕ) (o : ℕ) (ps : List ℕ) → EndToEnd b o ps → (i j : ℕ) → i < j → j < length ps → get_or ps i 0 + length_at b (get_or ps i 0) ≤ get_or ps j 0
ends_before b o [] e i j l h = absurd (omega arith)
ends_before b o (p ∷ ps) e zero zero l h = absurd (omega arith)
ends_before b o (p ∷ ps) e zero (suc j) l h = subst (λ q. q + length_at b q ≤ get_or ps j 0) (sym e.0) (behind b (o + length_at b o) ps e.1 j (omega arith))
ends_before b o (p ∷ ps) e (suc i) zero l h = absurd (omega arith)
ends_before b o (p ∷ ps) e (suc i) (suc j) l h = ends_before b (o + length_at b o) ps e.1 i j (omega arith) (omega arith)

-- The later ones stand so by themselves.
pub from_append : (b : List ℕ) (o : ℕ) (ps qs : List ℕ) → EndToEnd b o (ps ++ qs) → (p : ℕ) × EndToEnd b p qs
from_append b o [] qs e = (o, e)
from_append b o (p ∷ ps) qs e = from_append b (o + length_at b o) ps qs e.1
