-- Laws of the filter of keys: equal types have equal keys; a type whose key is new is new; and the filter with one key more.
use Prim.Native.Nat.{ℕ, zero, suc, ◌+◌, ◌/◌, ◌≤◌, ◌<◌}
use native.Mathlib.Omega.{arith}
use mathlib.Core.Path.{◌≡◌, refl, sym, ap, ◌∙◌}
use mathlib.Core.Bool.{Bool, true, false, not}
use mathlib.Core.List.{List}
use lib.ListN.{length, get_or, set, length-set}
use lib.Seq.{get_or-set_same, get_or-set_other}
use lib.Dec.{eqb, ltb}
use Rattle.calculus.specs.Combinators.{choose}
use Rattle.laws.specs.Tests.{all_below}
use Rattle.laws.proofs.Booleans.{no_path, and_l, and_r, not_t, lt_of, ge_of, eq_of, of_eq}
use Rattle.laws.proofs.Tests.{all_below_lem, below_all}
use Rattle.read_records.specs.Heads.{fields_at, field_in}
use Rattle.check_repeats.specs.NewTypes.{is_object, same_fields, equal_type, new_type}
use Rattle.check_repeats.specs.Keys.{key_count, mixed, hash_to, hash_of, key_of, word_of, bit_of, has_bit, with_bit, marked, with_mark, new_key, with_key, Filled, Filters}
use Rattle.check_repeats.proofs.Bits.{bit_there, bit_stays}

-- The same fields have the same hash.
hash_below : (n : ℕ) (fs gs : List ℕ) → ((i : ℕ) → i < n → field_in fs i ≡ field_in gs i) → hash_to n fs ≡ hash_to n gs
unfolding hash_to
hash_below zero fs gs h = refl
hash_below (suc n) fs gs h =
    let e : hash_to n fs ≡ hash_to n gs = hash_below n fs gs (λ i l. h i (omega arith)) in
    let f : field_in fs n ≡ field_in gs n = h n (omega arith) in
    ap (λ x. mixed x (field_in fs n)) e ∙ ap (mixed (hash_to n gs)) f

hash_same : (fs gs : List ℕ) → same_fields fs gs ≡ true → hash_of fs ≡ hash_of gs
hash_same fs gs h =
    let same : ℕ → Bool = λ i. eqb (field_in fs i) (field_in gs i) in
    let l : length fs ≡ length gs = eq_of (and_l _ (all_below (length fs / 2) same) h) in
    let f = and_r (eqb (length fs) (length gs)) (all_below (length fs / 2) same) h in
    hash_below (length fs / 2) fs gs (λ i m. eq_of (all_below_lem (length fs / 2) same f i m)) ∙ ap (λ n. hash_to (n / 2) gs) l

-- Equal types have equal keys.
key_same : (b fs ts ks : List ℕ) (x i : ℕ) → equal_type b fs ts ks x i ≡ true → key_of x fs ≡ key_of (get_or ks i 0) (fields_at b (get_or ts i 0))
key_same b fs ts ks x i h =
    let gs = fields_at b (get_or ts i 0) in
    let e : x ≡ get_or ks i 0 = eq_of (and_l (eqb x (get_or ks i 0)) (choose (is_object x) (same_fields fs gs) true) h) in
    go (is_object x) (and_r (eqb x (get_or ks i 0)) (choose (is_object x) (same_fields fs gs) true) h) ∙ ap (λ y. key_of y gs) e
  where
    go : (t : Bool) → choose t (same_fields fs (fields_at b (get_or ts i 0))) true ≡ true → choose t (hash_of fs) x ≡ choose t (hash_of (fields_at b (get_or ts i 0))) x
    go true s = hash_same fs (fields_at b (get_or ts i 0)) s
    go false s = refl

-- A key whose bit is not there is new.
pub unmarked : {n : ℕ} {rs : List ℕ} → Filled n rs → (k : ℕ) → marked rs k ≡ false → new_key n rs k ≡ true
unmarked {n} {rs} F k h = below_all n (λ i. not (eqb k (get_or rs i 0))) (λ i l. go i l (eqb k (get_or rs i 0)) refl)
  where
    go : (i : ℕ) → i < n → (t : Bool) → eqb k (get_or rs i 0) ≡ t → not t ≡ true
    go i l true e = let z : k ≡ get_or rs i 0 = eq_of e in no_path (sym (ap (marked rs) z ∙ F.at i l) ∙ h)
    go i l false e = refl

-- A type whose key is new is new.
pub new_by_key : {b : List ℕ} {n : ℕ} {ts ks rs : List ℕ} → Filters b n ts ks rs → (fs : List ℕ) (x : ℕ) → new_key n rs (key_of x fs) ≡ true → new_type b fs n ts ks x ≡ true
new_by_key {b} {n} {ts} {ks} {rs} F fs x h = below_all n (λ i. not (equal_type b fs ts ks x i)) (λ i l. go i l (equal_type b fs ts ks x i) refl)
  where
    go : (i : ℕ) → i < n → (t : Bool) → equal_type b fs ts ks x i ≡ t → not t ≡ true
    go i l true e =
        let z : key_of x fs ≡ get_or rs i 0 = key_same b fs ts ks x i e ∙ sym (F.keys i l) in
        let q : eqb (key_of x fs) (get_or rs i 0) ≡ false = not_t _ (all_below_lem n (λ i. not (eqb (key_of x fs) (get_or rs i 0))) h i l) in
        no_path (sym (of_eq z) ∙ q)
    go i l false e = refl

-- A mark is there, and each that was there stays.
mark_there : (rs : List ℕ) (k : ℕ) → word_of k < length rs → marked (with_mark rs k) k ≡ true
mark_there rs k l = rw (get_or-set_same rs (word_of k) (with_bit (get_or rs (word_of k) 0) (bit_of k)) 0 l) (bit_there (get_or rs (word_of k) 0) (bit_of k))

mark_stays : (rs : List ℕ) (k j : ℕ) → word_of k < length rs → marked rs j ≡ true → marked (with_mark rs k) j ≡ true
mark_stays rs k j l h = go (eqb (word_of j) (word_of k)) refl
  where
    go : (t : Bool) → eqb (word_of j) (word_of k) ≡ t → marked (with_mark rs k) j ≡ true
    go true q =
        let z : word_of j ≡ word_of k = eq_of q in
        let g : has_bit (get_or rs (word_of k) 0) (bit_of j) ≡ true = ap (λ w. has_bit (get_or rs w 0) (bit_of j)) (sym z) ∙ h in
        ap (λ w. has_bit (get_or (with_mark rs k) w 0) (bit_of j)) z
        ∙ (ap (λ w. has_bit w (bit_of j)) (get_or-set_same rs (word_of k) (with_bit (get_or rs (word_of k) 0) (bit_of k)) 0 l)
        ∙ bit_stays (get_or rs (word_of k) 0) (bit_of k) (bit_of j) g)
    go false q = ap (λ w. has_bit w (bit_of j)) (get_or-set_other rs (word_of k) (word_of j) (with_bit (get_or rs (word_of k) 0) (bit_of k)) 0 (λ z. no_path (sym (of_eq z) ∙ q))) ∙ h

-- The filter with the key k of type n.
module _ {n : ℕ} {rs : List ℕ} (F : Filled n rs) (k : ℕ) (few : n < key_count) where
  abbrev put : List ℕ
  put = set rs n k

  capacity : word_of k < length put
  capacity = let p = F.places in rw (length-set rs n k) (omega arith)

  -- A key, old or new, and its mark.
  key_kept : (i : ℕ) → i < n → get_or (with_key rs n k) i 0 ≡ get_or rs i 0
  key_kept i l = get_or-set_other put (word_of k) i (with_bit (get_or put (word_of k) 0) (bit_of k)) 0 (λ q. absurd (omega arith)) ∙ get_or-set_other rs n i k 0 (λ q. absurd (omega arith))

  key_put : get_or (with_key rs n k) n 0 ≡ k
  key_put = let p = F.places in get_or-set_other put (word_of k) n (with_bit (get_or put (word_of k) 0) (bit_of k)) 0 (λ q. absurd (omega arith)) ∙ get_or-set_same rs n k 0 (omega arith)

  mark_kept : (j : ℕ) → marked rs j ≡ true → marked (with_key rs n k) j ≡ true
  mark_kept j h = mark_stays put k j capacity (ap (λ w. has_bit w (bit_of j)) (get_or-set_other rs n (word_of j) k 0 (λ q. absurd (omega arith))) ∙ h)

  filled_more : Filled (n + 1) (with_key rs n k)
  filled_more = record { places = rw (length-set put (word_of k) (with_bit (get_or put (word_of k) 0) (bit_of k)), length-set rs n k) F.places; few = omega arith; at = λ i l. go i l (ltb i n) refl }
    where
      go : (i : ℕ) → i < n + 1 → (t : Bool) → ltb i n ≡ t → marked (with_key rs n k) (get_or (with_key rs n k) i 0) ≡ true
      go i m true e = let z : i < n = lt_of e in ap (marked (with_key rs n k)) (key_kept i z) ∙ mark_kept (get_or rs i 0) (F.at i z)
      go i m false e =
          let g : n ≤ i = ge_of e in
          let z : i ≡ n = omega arith in
          ap (marked (with_key rs n k)) (ap (λ j. get_or (with_key rs n k) j 0) z ∙ key_put) ∙ mark_there put k capacity

-- The filter with the key of the type at o, which has the descriptor x.
pub filters_more : {b : List ℕ} {n : ℕ} {ts ks rs : List ℕ} → Filters b n ts ks rs → (o x : ℕ) → n < key_count → n < length ts → n < length ks → Filters b (n + 1) (set ts n o) (set ks n x) (with_key rs n (key_of x (fields_at b o)))
filters_more {b} {n} {ts} {ks} {rs} F o x few lt lk = record { filled = filled_more F.filled key few; keys = λ i l. go i l (ltb i n) refl }
  where
    key : ℕ
    key = key_of x (fields_at b o)

    go : (i : ℕ) → i < n + 1 → (t : Bool) → ltb i n ≡ t → get_or (with_key rs n key) i 0 ≡ key_of (get_or (set ks n x) i 0) (fields_at b (get_or (set ts n o) i 0))
    go i m true e =
        let z : i < n = lt_of e in
        key_kept F.filled key few i z ∙ (F.keys i z ∙ sym (ap (λ y. key_of y (fields_at b (get_or (set ts n o) i 0))) (get_or-set_other ks n i x 0 (λ q. absurd (omega arith))) ∙ ap (λ p. key_of (get_or ks i 0) (fields_at b p)) (get_or-set_other ts n i o 0 (λ q. absurd (omega arith)))))
    go i m false e =
        let g : n ≤ i = ge_of e in
        let z : i ≡ n = omega arith in
        ap (λ j. get_or (with_key rs n key) j 0) z ∙ (key_put F.filled key few ∙ sym (ap (λ j. key_of (get_or (set ks n x) j 0) (fields_at b (get_or (set ts n o) j 0))) z ∙ (ap (λ y. key_of y (fields_at b (get_or (set ts n o) n 0))) (get_or-set_same ks n x 0 lk) ∙ ap (λ p. key_of x (fields_at b p)) (get_or-set_same ts n o 0 lt))))
