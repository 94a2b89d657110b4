-- The lowest fault, child by child; and the kinds that may not stand anywhere.
use Prim.Native.Nat.{ℕ, zero, suc, ◌+◌, ◌≤◌, ◌<◌, min}
use native.Mathlib.Omega.{arith}
use native.Mathlib.Numerals.{add-one}
use mathlib.Core.Path.{◌≡◌, refl, sym, ap, ◌∙◌}
use mathlib.Core.Bool.{Bool, true, false}
use mathlib.Core.List.{List, [], ◌∷◌, ◌++◌}
use lib.ListN.{length, get_or, take}
use lib.Dec.{ltb}
use lib.Seq.{take-suc, take_all, length-take-le}
use borrow.Author.Tests.{ltb-true, ltb-false}
use Rattle.calculus.specs.Combinators.{choose}
use Rattle.image.specs.Kinds.{body_of}
use Rattle.image.specs.Records.{Layout}
use Rattle.image.specs.Layout.{records_of}
use Rattle.image.specs.Types.{term_kind, children}
use Rattle.image.proofs.Laid.{LayoutOk, Below}
use Rattle.read_terms.specs.Lent.{Terms, IsTerm}
use Rattle.read_terms.proofs.Located.{child_lower}
use Rattle.image_needs.specs.Faults.{outside, least, permitted, lowest}
use Rattle.need_terms.specs.First.{lowest_at}

-- A list without elements has no first.
pub no_first : (es : List ℕ) → length es ≡ 0 → get_or es 0 0 ≡ 0
no_first [] h = refl
no_first (e ∷ es) h = absurd (omega arith)

-- The first child is one of the terms, and so is the term of number 0.
pub first_there : {b table : List ℕ} (T : Terms b table) {n : ℕ} (h : IsTerm b n) (e : ℕ) → e ≡ get_or (children (records_of b) n) 0 0 → IsTerm b e
first_there {b} T {n} h e is = look (ltb 0 (length es)) refl
  where
    es : List ℕ
    es = children (records_of b) n

    look : (c : Bool) → ltb 0 (length es) ≡ c → IsTerm b e
    look true q = let z = child_lower T h {k = term_kind (records_of b) n} refl 0 (ltb-true 0 (length es) q) in omega arith
    look false q = let m = ltb-false 0 (length es) q in let z = no_first es (omega arith) in omega arith

-- One child more.
least_snoc : (f : ℕ → ℕ → ℕ) (d i : ℕ) (es : List ℕ) (e m : ℕ) → m ≡ i + length es → least f d i (es ++ (e ∷ [])) ≡ min (least f d i es) (f m e)
unfolding least
least_snoc f d i [] e m q = let z : i ≡ m = omega arith in ap (λ x. min (f x e) d) z ∙ swap (f m e) d
  where
    swap : (a b : ℕ) → min a b ≡ min b a
    swap a b = omega arith
least_snoc f d i (a ∷ es) e m q = ap (λ x. min (f i a) x) (least_snoc f d (suc i) es e m (omega arith)) ∙ assoc (f i a) (least f d (suc i) es) (f m e)
  where
    assoc : (a b c : ℕ) → min a (min b c) ≡ min (min a b) c
    assoc a b c = omega arith

module _ (L : Layout) (good : LayoutOk L) where
  least_cong : (f g : ℕ → ℕ → ℕ) (d n : ℕ) → ((i e : ℕ) → e < n → f i e ≡ g i e) → (i : ℕ) (es : List ℕ) → Below n es → least f d i es ≡ least g d i es
  unfolding least
  least_cong f g d n h i [] b = refl
  least_cong f g d n h i (e ∷ es) b = ap (λ x. min x (least f d (suc i) es)) (h i e b.0) ∙ ap (λ x. min (g i e) x) (least_cong f g d n h (suc i) es b.1)

  -- The fuel does not matter.
  pub lowest_fuel : (f g : ℕ) (m : Bool) (n : ℕ) → n < f → n < g → n < length L.terms → lowest L f m n ≡ lowest L g m n
  unfolding lowest
  lowest_fuel zero g m n a b c = absurd (omega arith)
  lowest_fuel (suc f) zero m n a b c = absurd (omega arith)
  lowest_fuel (suc f) (suc g) m n a b c =
      ap (λ x. min (choose (permitted L m n) (length L.terms) n) x)
      (least_cong (λ i e. lowest L f (outside m (body_of (term_kind L n) i)) e) (λ i e. lowest L g (outside m (body_of (term_kind L n) i)) e) (length L.terms) n
      (λ i e h. lowest_fuel f g (outside m (body_of (term_kind L n) i)) e (omega arith) (omega arith) (omega arith)) 0 (children L n) (good.terms n c).below)

-- The lowest fault below the first j children.
module _ (L : Layout) (m : Bool) (n : ℕ) where
  abbrev pub below_child : ℕ → ℕ → ℕ
  below_child i e = lowest_at L (outside m (body_of (term_kind L n) i)) e

  unfoldable pub least_to : ℕ → ℕ
  least_to j = least below_child (length L.terms) 0 (take j (children L n))

  -- o is the number of the term itself, if it is at fault.
  pub least_turn : (o j : ℕ) → j < length (children L n) → (x : Bool) (e a f r : ℕ) → x ≡ outside m (body_of (term_kind L n) j) → e ≡ get_or (children L n) j 0 → f ≡ lowest_at L x e → a ≡ min o (least_to j) → r ≡ min a f → r ≡ min o (least_to (j + 1))
  unfolding least_to
  least_turn o j h x e a f r hx he hf ha hr =
      let es = children L n in
      let one : take (j + 1) es ≡ take j es ++ (get_or es j 0 ∷ []) = rw (add-one j) (take-suc es j 0 (omega arith)) in
      let long : j ≡ 0 + length (take j es) = omega (arith, length-take-le j es (omega arith)) in
      let g : f ≡ below_child j (get_or es j 0) = hf ∙ (ap (λ x. lowest_at L x e) hx ∙ ap (λ x. lowest_at L (outside m (body_of (term_kind L n) j)) x) he) in
      let s : min (least_to j) f ≡ least_to (j + 1) =
      ap (min (least_to j)) g ∙ (sym (least_snoc below_child (length L.terms) 0 (take j es) (get_or es j 0) j long) ∙ ap (least below_child (length L.terms) 0) (sym one)) in
      let z : min (min o (least_to j)) f ≡ min o (min (least_to j) f) = omega arith in
      hr ∙ (ap (λ y. min y f) ha ∙ (z ∙ ap (min o) s))

  pub least_whole : LayoutOk L → n < length L.terms → (j : ℕ) → length (children L n) ≤ j → (ok : Bool) (o r : ℕ) → ok ≡ permitted L m n → o ≡ choose ok (length L.terms) n → r ≡ min o (least_to j) → r ≡ lowest_at L m n
  unfolding least_to lowest_at lowest
  least_whole good l j h ok o r hk ho hr =
      let es = children L n in
      let N = length L.terms in
      let t : take j es ≡ es = take_all j es h in
      let q : least below_child N 0 es ≡ least (λ i e. lowest L n (outside m (body_of (term_kind L n) i)) e) N 0 es =
      least_cong L good below_child (λ i e. lowest L n (outside m (body_of (term_kind L n) i)) e) N n (λ i e x. lowest_fuel L good (suc e) n (outside m (body_of (term_kind L n) i)) e (omega arith) x (omega arith)) 0 es (good.terms n l).below in
      hr ∙ (ap (λ x. min x (least_to j)) (ho ∙ ap (λ b. choose b N n) hk) ∙ ap (min (choose (permitted L m n) N n)) (ap (least below_child N 0) t ∙ q))

  pub least_start : (ok : Bool) (o : ℕ) → n < length L.terms → o ≡ choose ok (length L.terms) n → o ≡ min o (least_to 0)
  unfolding least_to least
  least_start true o l h = omega arith
  least_start false o l h = omega arith
