-- Two lists in one common order: what both have, what only the left has, what only the right has.
use Prim.Native.Nat.{ℕ, zero, suc, ◌≤◌}
use native.Mathlib.Omega.{arith}
use mathlib.Core.Path.{◌≡◌, refl, sym, ◌∙◌}
use mathlib.Core.List.{List, [], ◌∷◌, ◌++◌, reverse, reverse_aux}
use mathlib.Core.Option.{some, some-injective}
use lib.ListN.{length, set, get_elem?}
use lib.Dec.{eqb, eqb-zero-suc, eqb-suc-zero, eqb-suc-suc}
use Rattle.laws.proofs.Lists.{Prefix, Prefix.pre_cons, All2, all2_map}

-- Whose a place of the order is.
pub data Side : Type 0 where
  both left right : Side

-- Place i of the left list and place j of the right list are one place of the order.
pub data Matched : List Side → ℕ → ℕ → Type 0 where
  here : {w : List Side} → Matched (both ∷ w) zero zero
  past_both : {w : List Side} {i j : ℕ} → Matched w i j → Matched (both ∷ w) (suc i) (suc j)
  past_left : {w : List Side} {i j : ℕ} → Matched w i j → Matched (left ∷ w) (suc i) j
  past_right : {w : List Side} {i j : ℕ} → Matched w i j → Matched (right ∷ w) i (suc j)

-- Lists of places, matched one by one.
abbrev pub Matches : List Side → List ℕ → List ℕ → Type 0
Matches w = All2 (Matched w)

-- A longer order keeps what was matched.
pub matched_mono : {w w' : List Side} {i j : ℕ} → Matched w i j → Prefix w w' → Matched w' i j
matched_mono here (pre_cons p) = here
matched_mono (past_both m) (pre_cons p) = past_both (matched_mono m p)
matched_mono (past_left m) (pre_cons p) = past_left (matched_mono m p)
matched_mono (past_right m) (pre_cons p) = past_right (matched_mono m p)

pub matches_mono : {w w' : List Side} {x y : List ℕ} → Matches w x y → Prefix w w' → Matches w' x y
matches_mono m p = all2_map (λ i j n. matched_mono n p) m

-- Two matched pairs agree on whether they are one pair.
pub matched_eqb : {w : List Side} {i j k l : ℕ} → Matched w i j → Matched w k l → eqb i k ≡ eqb j l
matched_eqb here here = refl
matched_eqb here (past_both {i} {j} n) = eqb-zero-suc i ∙ sym (eqb-zero-suc j)
matched_eqb (past_both {i} {j} m) here = eqb-suc-zero i ∙ sym (eqb-suc-zero j)
matched_eqb (past_both {i} {j} m) (past_both {i = k} {j = l} n) = eqb-suc-suc i k ∙ matched_eqb m n ∙ sym (eqb-suc-suc j l)
matched_eqb (past_left {i} m) (past_left {i = k} n) = eqb-suc-suc i k ∙ matched_eqb m n
matched_eqb (past_right {j} m) (past_right {j = l} n) = matched_eqb m n ∙ sym (eqb-suc-suc j l)

module _ {A : Type 0} where
  -- What both have is related by H; what the left has alone satisfies L, what the right has alone R.
  pub data Interleaving (H : A → A → Type 0) (L R : A → Type 0) : List Side → List A → List A → Type 0 where
    i_nil : Interleaving H L R [] [] []
    i_both : {w : List Side} {a b : A} {x y : List A} → H a b → Interleaving H L R w x y → Interleaving H L R (both ∷ w) (a ∷ x) (b ∷ y)
    i_left : {w : List Side} {a : A} {x y : List A} → L a → Interleaving H L R w x y → Interleaving H L R (left ∷ w) (a ∷ x) y
    i_right : {w : List Side} {b : A} {x y : List A} → R b → Interleaving H L R w x y → Interleaving H L R (right ∷ w) x (b ∷ y)

  pub interleaving_map : {H K : A → A → Type 0} {L R S : A → Type 0} {w : List Side} {x y : List A} → ((a b : A) → H a b → K a b) → ((a : A) → R a → S a) → Interleaving H L R w x y → Interleaving K L S w x y
  interleaving_map f g i_nil = i_nil
  interleaving_map f g (i_both h k) = i_both (f _ _ h) (interleaving_map f g k)
  interleaving_map f g (i_left l k) = i_left l (interleaving_map f g k)
  interleaving_map f g (i_right l k) = i_right (g _ l) (interleaving_map f g k)

module _ {A : Type 0} {H : A → A → Type 0} {L R : A → Type 0} where
  -- One more at the end.
  pub append_both : {w : List Side} {x y : List A} {a b : A} → Interleaving H L R w x y → H a b → Interleaving H L R (w ++ (both ∷ [])) (x ++ (a ∷ [])) (y ++ (b ∷ []))
  append_both i_nil h = i_both h i_nil
  append_both (i_both g k) h = i_both g (append_both k h)
  append_both (i_left l k) h = i_left l (append_both k h)
  append_both (i_right l k) h = i_right l (append_both k h)

  pub append_left : {w : List Side} {x y : List A} {a : A} → Interleaving H L R w x y → L a → Interleaving H L R (w ++ (left ∷ [])) (x ++ (a ∷ [])) y
  append_left i_nil h = i_left h i_nil
  append_left (i_both g k) h = i_both g (append_left k h)
  append_left (i_left l k) h = i_left l (append_left k h)
  append_left (i_right l k) h = i_right l (append_left k h)

  pub append_right : {w : List Side} {x y : List A} {b : A} → Interleaving H L R w x y → R b → Interleaving H L R (w ++ (right ∷ [])) x (y ++ (b ∷ []))
  append_right i_nil h = i_right h i_nil
  append_right (i_both g k) h = i_both g (append_right k h)
  append_right (i_left l k) h = i_left l (append_right k h)
  append_right (i_right l k) h = i_right l (append_right k h)

  -- What is appended to both is matched.
  pub matched_last : {w : List Side} {x y : List A} → Interleaving H L R w x y → Matched (w ++ (both ∷ [])) (length x) (length y)
  matched_last i_nil = here
  matched_last (i_both g k) = past_both (matched_last k)
  matched_last (i_left l k) = past_left (matched_last k)
  matched_last (i_right l k) = past_right (matched_last k)

  -- What stands at matched places is there, and related.
  pub get_both : {w : List Side} {x y : List A} {i j : ℕ} → Matched w i j → Interleaving H L R w x y → (a b : A) × (get_elem? x i ≡ some a) × (get_elem? y j ≡ some b) × H a b
  get_both here (i_both {a} {b} h k) = (a, b, refl, refl, h)
  get_both (past_both m) (i_both h k) = get_both m k
  get_both (past_left m) (i_left l k) = get_both m k
  get_both (past_right m) (i_right l k) = get_both m k

  -- Another element at matched places.
  pub set_both : {w : List Side} {x y : List A} {i j : ℕ} {a b : A} → Interleaving H L R w x y → H a b → Matched w i j → Interleaving H L R w (set x i a) (set y j b)
  set_both (i_both h k) n here = i_both n k
  set_both (i_both h k) n (past_both m) = i_both h (set_both k n m)
  set_both (i_left l k) n (past_left m) = i_left l (set_both k n m)
  set_both (i_right l k) n (past_right m) = i_right l (set_both k n m)
  set_both {i = i} {j = j} {a = a} {b = b} i_nil n x12 = elim x12 [ ]

  -- Another element n in the place of a on one side alone, where whatever related a, or was said of it, holds of n.
  pub set_left : {w : List Side} {x y : List A} (i : ℕ) (n : A) {a : A} → Interleaving H L R w x y → get_elem? x i ≡ some a → ((b : A) → H a b → H n b) → (L a → L n) → Interleaving H L R w (set x i n) y
  set_left i n i_nil e f g = i_nil
  set_left zero n (i_both h k) e f g = i_both (f _ (rw (some-injective _ _ e) at h)) k
  set_left (suc i) n (i_both h k) e f g = i_both h (set_left i n k e f g)
  set_left zero n (i_left l k) e f g = i_left (g (rw (some-injective _ _ e) at l)) k
  set_left (suc i) n (i_left l k) e f g = i_left l (set_left i n k e f g)
  set_left i n (i_right l k) e f g = i_right l (set_left i n k e f g)

  pub set_right : {w : List Side} {x y : List A} (i : ℕ) (n : A) {b : A} → Interleaving H L R w x y → get_elem? y i ≡ some b → ((a : A) → H a b → H a n) → (R b → R n) → Interleaving H L R w x (set y i n)
  set_right i n i_nil e f g = i_nil
  set_right zero n (i_both h k) e f g = i_both (f _ (rw (some-injective _ _ e) at h)) k
  set_right (suc i) n (i_both h k) e f g = i_both h (set_right i n k e f g)
  set_right zero n (i_right l k) e f g = i_right (g (rw (some-injective _ _ e) at l)) k
  set_right (suc i) n (i_right l k) e f g = i_right l (set_right i n k e f g)
  set_right i n (i_left l k) e f g = i_left l (set_right i n k e f g)

  -- Both lists the other way round.
  interleaving_onto : {w v : List Side} {x y z u : List A} → Interleaving H L R w x y → Interleaving H L R v z u → Interleaving H L R (reverse_aux w v) (reverse_aux x z) (reverse_aux y u)
  interleaving_onto i_nil k = k
  interleaving_onto (i_both h i) k = interleaving_onto i (i_both h k)
  interleaving_onto (i_left l i) k = interleaving_onto i (i_left l k)
  interleaving_onto (i_right l i) k = interleaving_onto i (i_right l k)

  pub interleaving_reverse : {w : List Side} {x y : List A} → Interleaving H L R w x y → Interleaving H L R (reverse w) (reverse x) (reverse y)
  interleaving_reverse i = interleaving_onto i i_nil

  -- Where the right has nothing alone, it is no longer (card 13).
  pub no_longer : {w : List Side} {x y : List A} → ((a : A) → R a → ⊥) → Interleaving H L R w x y → length y ≤ length x
  no_longer z i_nil = omega arith
  no_longer z (i_both h k) = let l = no_longer z k in omega arith
  no_longer z (i_left h k) = let l = no_longer z k in omega arith
  no_longer z (i_right h k) = absurd (z _ h)
