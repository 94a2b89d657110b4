-- Domain 0 as the one high domain, for calls on images that have domain 1 below it and no other.
use Prim.Native.Nat.{zero, suc, ◌<◌}
use native.Mathlib.Omega.{arith}
use mathlib.Core.Path.{◌≡◌, refl, sym, ◌∙◌}
use mathlib.Core.Bool.{Bool, true, false}
use lib.ListN.{length}
use lib.Dec.{eqb}
use Rattle.laws.proofs.Booleans.{no_path, eq_of}
use Rattle.calculus.specs.Syntax.{Dom}
use Rattle.image.specs.Records.{Layout}
use Rattle.verdict.specs.Domains.{leq}
use Rattle.demands.specs.Compare.{HighSet}

abbrev pub mainline_only : Dom → Bool
mainline_only d = eqb d 0

pub mainline_high : (L : Layout) → length L.domains ≡ 2 → leq L 0 1 ≡ false → HighSet L mainline_only
mainline_high L two below = record { mainline = refl; up = up }
  where
    up : (d q : Dom) → d < length L.domains → q < length L.domains → eqb d 0 ≡ true → leq L d q ≡ true → eqb q 0 ≡ true
    up zero zero l m h k = refl
    up zero (suc zero) l m h k = no_path (sym k ∙ below)
    up zero (suc (suc q)) l m h k = absurd (omega (arith, two))
    up (suc d) q l m h k = let z : suc d ≡ 0 = eq_of h in absurd (omega arith)
