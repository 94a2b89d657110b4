-- A takedown in a low body is a difference between low bodies (card 7), so that demand 3 holds of programs that differ in it.
use Prim.Native.Nat.{ℕ, suc}
use mathlib.Core.Path.{◌≡◌, refl, ap}
use mathlib.Core.Bool.{Bool}
use Rattle.calculus.specs.Syntax.{Dom}
use Rattle.image.specs.Program.{Program, node, Programs, low_body, blanked, blankeds}
use Rattle.demands.specs.LowTakedowns.{SameButLow, same, inside, LowChildren, no_child, alike, a_low_body, Card7}
use Rattle.demands.proofs.Demands.{demand3}
use Rattle.demands.proofs.LowMethods.{low_blank, like_blank}

module _ (high : Dom → Bool) where
  mutual
    unfolding blanked

    pub same_blanked : {e f : Program} → SameButLow high e f → blanked high e ≡ blanked high f
    same_blanked (same e) = refl
    same_blanked (inside {k} {t} {vs} s) = ap (node k t vs) (children_blanked (low_body high k t vs) s)

    children_blanked : (low : ℕ → Bool) → {es fs : Programs} → LowChildren high low es fs → blankeds high es low ≡ blankeds high fs low
    children_blanked low no_child = refl
    children_blanked low (alike {e = e} {f = f} {es = es} {fs = fs} s r) = like_blank high low e f es fs (same_blanked s) (children_blanked (λ i. low (suc i)) r)
    children_blanked low (a_low_body {e = e} {f = f} {es = es} {fs = fs} l r) = low_blank high low e f es fs l (children_blanked (λ i. low (suc i)) r)

pub card7 : Card7
card7 high b b' domains highs s = demand3 high b b' (record { domains = domains; highs = highs; programs = same_blanked high s.programs })
