-- Domain 0's half (card 9): what low domains use is not charged to it.
use Prim.Native.Nat.{◌+◌}
use native.Mathlib.Omega.{arith}
use mathlib.Core.Path.{◌≡◌, refl, sym, ap, ap₂, ◌∙◌}
use mathlib.Core.Bool.{Bool, true, false}
use mathlib.Core.List.{List, ◌∷◌}
use lib.Dec.{eqb, eqb→eq}
use Rattle.calculus.specs.Combinators.{choose}
use Rattle.calculus.specs.Syntax.{Dom, Tm}
use Rattle.calculus.specs.State.{Advice, Counts, no_counts, add_counts, some_bindings, at_dom, advice_bindings}
use Rattle.laws.proofs.Lists.{All, All.all_nil, All.all_cons}
use Rattle.calculus_noninterference.specs.Observe.{NoMore}
use Rattle.calculus_noninterference.proofs.Clash.{clash}

pub add_none : (x : Counts) → add_counts x no_counts ≡ x
add_none x =
    let b : x.bindings + 0 ≡ x.bindings = omega arith in
    let c : x.cells + 0 ≡ x.cells = omega arith in
    let p : x.pieces + 0 ≡ x.pieces = omega arith in
    λ i. record { bindings = b i; cells = c i; pieces = p i }

none_add : (x : Counts) → add_counts no_counts x ≡ x
none_add x =
    let b : 0 + x.bindings ≡ x.bindings = omega arith in
    let c : 0 + x.cells ≡ x.cells = omega arith in
    let p : 0 + x.pieces ≡ x.pieces = omega arith in
    λ i. record { bindings = b i; cells = c i; pieces = p i }

-- Counts that are no more than others (card 13).
pub no_more_refl : (u : Counts) → NoMore u u
no_more_refl u = record { bindings = omega arith; cells = omega arith; pieces = omega arith }

pub no_more_same : {u v : Counts} → u ≡ v → NoMore u v
no_more_same {u} e = rw (← e) (no_more_refl u)

pub no_more_trans : {u v w : Counts} → NoMore u v → NoMore v w → NoMore u w
no_more_trans x y =
    let b = x.bindings in let c = x.cells in let p = x.pieces in let b' = y.bindings in let c' = y.cells in let p' = y.pieces in
    record { bindings = omega arith; cells = omega arith; pieces = omega arith }

pub no_more_add : {m m' n n' : Counts} → NoMore m m' → NoMore n n' → NoMore (add_counts m n) (add_counts m' n')
no_more_add x y =
    let b = x.bindings in let c = x.cells in let p = x.pieces in let b' = y.bindings in let c' = y.cells in let p' = y.pieces in
    record { bindings = omega arith; cells = omega arith; pieces = omega arith }

pub no_more_left : (u n : Counts) → NoMore (add_counts u n) u
no_more_left u n = record { bindings = omega arith; cells = omega arith; pieces = omega arith }

pub no_more_right : (n u : Counts) → NoMore (add_counts n u) u
no_more_right n u = record { bindings = omega arith; cells = omega arith; pieces = omega arith }

-- The bindings of the other domains, as mainline_both and mainline_alone below.
pub others_both : (a a' : Advice Tm) (x x' : List (Advice Tm)) (b b' : Bool) → b ≡ b' → a.dom ≡ a'.dom → NoMore (advice_bindings x).others (advice_bindings x').others → NoMore (advice_bindings (choose b (a ∷ x) x)).others (advice_bindings (choose b' (a' ∷ x') x')).others
others_both a a' x x' true true e d r = no_more_add (no_more_same (ap (λ q. (at_dom q (some_bindings 1)).others) d)) r
others_both a a' x x' true false e d r = clash refl e
others_both a a' x x' false true e d r = clash refl (sym e)
others_both a a' x x' false false e d r = r

pub others_alone : (a : Advice Tm) (x : List (Advice Tm)) {u : Counts} (b : Bool) → NoMore (advice_bindings x).others u → NoMore (advice_bindings (choose b (a ∷ x) x)).others u
others_alone a x true r = no_more_trans (no_more_right (at_dom a.dom (some_bindings 1)).others (advice_bindings x).others) r
others_alone a x false r = r

-- Advice that both runs have is put before the rest if a test says so.
pub mainline_both : (a a' : Advice Tm) (x x' : List (Advice Tm)) (b b' : Bool) → b ≡ b' → a.dom ≡ a'.dom → (advice_bindings x).mainline ≡ (advice_bindings x').mainline → (advice_bindings (choose b (a ∷ x) x)).mainline ≡ (advice_bindings (choose b' (a' ∷ x') x')).mainline
mainline_both a a' x x' true true e d r = ap₂ add_counts (ap (λ q. (at_dom q (some_bindings 1)).mainline) d) r
mainline_both a a' x x' true false e d r = clash refl e
mainline_both a a' x x' false true e d r = clash refl (sym e)
mainline_both a a' x x' false false e d r = r

module _ (hi : Dom → Bool) (main : hi 0 ≡ true) where
  -- Domain 0 is not low.
  pub at_low : (c : Dom) (n : Counts) → hi c ≡ false → (at_dom c n).mainline ≡ no_counts
  at_low c n f = pick (eqb c 0) refl
    where
      pick : (b : Bool) → eqb c 0 ≡ b → choose b n no_counts ≡ no_counts
      pick true e = let z : c ≡ 0 = eqb→eq c 0 (rw e tt) in clash (rw z main) f
      pick false e = refl

  pub advice_low : {x : List (Advice Tm)} → All (λ a. hi a.dom ≡ false) x → (advice_bindings x).mainline ≡ no_counts
  advice_low all_nil = refl
  advice_low (all_cons {x = a} f fs) = ap₂ add_counts (at_low a.dom (some_bindings 1) f) (advice_low fs) ∙ add_none no_counts

  pub mainline_alone : (a : Advice Tm) (x : List (Advice Tm)) (b : Bool) → hi a.dom ≡ false → (advice_bindings (choose b (a ∷ x) x)).mainline ≡ (advice_bindings x).mainline
  mainline_alone a x true f = ap (λ u. add_counts u (advice_bindings x).mainline) (at_low a.dom (some_bindings 1) f) ∙ none_add (advice_bindings x).mainline
  mainline_alone a x false f = refl
