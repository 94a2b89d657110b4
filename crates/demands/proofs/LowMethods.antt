-- Bodies of low methods are low bodies (card 3), so that demand 3 holds of programs that differ in them.
use Prim.Native.Nat.{ℕ, suc}
use mathlib.Core.Path.{◌≡◌, refl, sym, ap, ap₂}
use mathlib.Core.Bool.{Bool, true, false}
use Rattle.calculus.specs.Syntax.{Dom}
use Rattle.image.specs.Kinds.{TermKind}
use Rattle.image.specs.Program.{Program, node, blank, Programs, more, low_body, blanked, blankeds}
use Rattle.laws.proofs.Booleans.{no_path}
use Rattle.demands.specs.LowMethods.{SameButMethods, same, inside, object, SameChildren, no_child, alike, a_low_body, Card3}
use Rattle.demands.proofs.Demands.{demand3}

module _ (high : Dom → Bool) where
  -- A child that is a low body is blank, whatever it was.
  pub low_blank : (low : ℕ → Bool) (e f : Program) (es fs : Programs) → low 0 ≡ true → blankeds high es (λ i. low (suc i)) ≡ blankeds high fs (λ i. low (suc i))
      → blankeds high (more e es) low ≡ blankeds high (more f fs) low
  unfolding blanked
  low_blank low e f es fs h q = rw h (ap (more blank) q)

  pub like_blank : (low : ℕ → Bool) (e f : Program) (es fs : Programs) → blanked high e ≡ blanked high f → blankeds high es (λ i. low (suc i)) ≡ blankeds high fs (λ i. low (suc i))
      → blankeds high (more e es) low ≡ blankeds high (more f fs) low
  unfolding blanked
  like_blank low e f es fs h q = ap₂ more (pick (low 0)) q
    where
      pick : (s : Bool) → ◌≡◌ {A = Program} (elim s [ true ↦ blank | false ↦ blanked high e ]) (elim s [ true ↦ blank | false ↦ blanked high f ])
      pick true = refl
      pick false = h

  mutual
    unfolding blanked

    pub methods_blanked : {e f : Program} → SameButMethods high e f → blanked high e ≡ blanked high f
    methods_blanked (same e) = refl
    methods_blanked (inside {k} {t} {vs} s) = ap (node k t vs) (children_blanked (λ i. false) (low_body high k t vs) (λ i h. no_path (sym h)) s)
    methods_blanked (object {t} {vs} s) = ap (node TermKind.obj t vs) (children_blanked _ (low_body high TermKind.obj t vs) (λ i h. h) s)

    children_blanked : (may low : ℕ → Bool) → ((i : ℕ) → may i ≡ true → low i ≡ true) → {es fs : Programs} → SameChildren high may es fs → blankeds high es low ≡ blankeds high fs low
    children_blanked may low h no_child = refl
    children_blanked may low h (alike {e = e} {f = f} {es = es} {fs = fs} s r) =
        like_blank low e f es fs (methods_blanked s) (children_blanked (λ i. may (suc i)) (λ i. low (suc i)) (λ i. h (suc i)) r)
    children_blanked may low h (a_low_body {e = e} {f = f} {es = es} {fs = fs} l r) =
        low_blank low e f es fs (h 0 l) (children_blanked (λ i. may (suc i)) (λ i. low (suc i)) (λ i. h (suc i)) r)

pub card3 : Card3
card3 high b b' domains highs s = demand3 high b b' (record { domains = domains; highs = highs; programs = methods_blanked high s })
