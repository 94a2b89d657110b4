-- Laws of gathered leaves.
use Prim.Native.Nat.{ℕ, zero, suc, ◌+◌, ◌-◌, ◌≤◌, ◌<◌}
use native.Mathlib.Omega.{arith}
use mathlib.Core.Path.{◌≡◌, refl, sym, ap, ap₂, ◌∙◌}
use mathlib.Core.Bool.{Bool, true, false}
use mathlib.Core.List.{List, [], ◌∷◌, ◌++◌, map, map-append, append-nil}
use lib.ListN.{length, set, take, replicate, length-append, length-map, length-take}
use lib.Seq.{take_all, take-append-le, append_snoc}
use lib.Dec.{eqb, ltb}
use borrow.Author.Tests.{lt-ltb, le-ltb, ltb-true, ltb-false, eq-eqb, ne_eqb}
use Rattle.calculus.specs.declared.Leaf.{Leaf}
use Rattle.calculus.specs.Combinators.{choose}
use Rattle.report.specs.Written.{leaves_in}
use Rattle.vm_code.specs.Values.{tag_of, body_of, pair_tag}
use Rattle.vm_machine.specs.Memory.{Memory, piece_first, piece_second, piece_of}
use Rattle.vm_machine.specs.Leaves.{leaf_of, one_leaf, leaves_of}
use Rattle.call_spec.specs.Calls.{slot_of, slots_of}
use Rattle.call_spec.proofs.Slots.{leaves_back}
use Rattle.vm_results.specs.declared.Gathered.{Gathered}
use Rattle.vm_results.specs.Gathered.{with_leaf, with_leaves, gathered}
use Rattle.vm_results.specs.Ended.{plain_leaves_in}

-- A word by its tag t.
module _ {A : Type 0} (tag v t : ℕ) (a b : A) (e : t ≡ tag_of v) where
  tagged_yes : t ≡ tag → choose (eqb (tag_of v) tag) a b ≡ a
  tagged_yes h = ap (λ (x : Bool). choose x a b) (eq-eqb (tag_of v) tag (sym e ∙ h))

  tagged_no : (t ≡ tag → ⊥) → choose (eqb (tag_of v) tag) a b ≡ b
  tagged_no h = ap (λ (x : Bool). choose x a b) (ne_eqb (tag_of v) tag (λ q. h (e ∙ q)))

-- Leaves end to end.
with_append : (g : Gathered) (x y : List Leaf) → with_leaves g (x ++ y) ≡ with_leaves (with_leaves g x) y
unfolding with_leaves
with_append g [] y = refl
with_append g (l ∷ x) y = with_append (with_leaf g l) x y

-- One leaf more, by the number of leaves.
pub leaf_added : (g : Gathered) (l : Leaf) → g.count < 8 → with_leaf g l ≡ record { count = g.count + 1; slots = set g.slots g.count (slot_of l) }
leaf_added g l h = rw (lt-ltb g.count 8 h)

pub leaf_left_out : (g : Gathered) (l : Leaf) → 8 ≤ g.count → with_leaf g l ≡ g
leaf_left_out g l h = rw (le-ltb g.count 8 h)

module _ (w t : ℕ) (e : t ≡ tag_of w) where
  pub leaf_number : (t ≡ 0 → ⊥) → (t ≡ 1 → ⊥) → leaf_of w ≡ Leaf.Number (body_of w)
  leaf_number h k = rw (sym e, ne_eqb t 0 h, ne_eqb t 1 k)

  -- What is no pair.
  pub word_none : (g : Gathered) → 2 < t → with_leaves g (one_leaf w) ≡ g
  unfolding with_leaves
  word_none g h = rw (sym e, lt-ltb 2 t h)

  one_leaf_lem : t ≤ 2 → one_leaf w ≡ leaf_of w ∷ []
  one_leaf_lem h = ap (λ b. choose b [] (leaf_of w ∷ [])) (ap (ltb 2) (sym e) ∙ le-ltb 2 t h)

  pub word_leaf : (g : Gathered) → t ≤ 2 → with_leaves g (one_leaf w) ≡ with_leaf g (leaf_of w)
  unfolding with_leaves
  word_leaf g h = ap (with_leaves g) (one_leaf_lem h)

  leaves_one : (M : Memory) (d : ℕ) → (t ≡ 4 → ⊥) → leaves_of M d w ≡ one_leaf w
  unfolding leaves_of
  leaves_one M zero h = tagged_no pair_tag w t [] (one_leaf w) e h
  leaves_one M (suc d) h = tagged_no pair_tag w t (leaves_of M d (piece_first M (piece_of w)) ++ leaves_of M d (piece_second M (piece_of w))) (one_leaf w) e h

  -- A value that is one leaf.
  pub plain_one : (M : Memory) → t ≤ 2 → plain_leaves_in M w ≡ leaf_of w ∷ []
  plain_one M h = ap (take 8) (leaves_one M 8 (λ q. absurd (omega arith)) ∙ one_leaf_lem h)

  module _ (M : Memory) (g : Gathered) where
    pub leaves_word : (d : ℕ) → (t ≡ 4 → ⊥) → with_leaves g (leaves_of M d w) ≡ with_leaves g (one_leaf w)
    leaves_word d h = ap (with_leaves g) (leaves_one M d h)

    -- A pair that is too deep.
    pub leaves_deep : (d : ℕ) → t ≡ 4 → d ≡ 0 → with_leaves g (leaves_of M d w) ≡ g
    unfolding leaves_of with_leaves
    leaves_deep d h z = rw z (ap (with_leaves g) (tagged_yes pair_tag w t [] (one_leaf w) e h))

    -- A pair: the first part's leaves, then the second's.
    pub leaves_pair : (d p a b : ℕ) (x y : Gathered) → t ≡ 4 → (d ≡ 0 → ⊥) → p ≡ piece_of w → a ≡ piece_first M p → b ≡ piece_second M p
        → x ≡ with_leaves g (leaves_of M (d - 1) a) → y ≡ with_leaves x (leaves_of M (d - 1) b) → y ≡ with_leaves g (leaves_of M d w)
    unfolding leaves_of
    leaves_pair zero p a b x y h z i j k l m = absurd (z refl)
    leaves_pair (suc d) p a b x y h z i j k l m =
        let n : suc d - 1 ≡ d = omega arith in
        let first : List Leaf = leaves_of M d (piece_first M (piece_of w)) in
        let second : List Leaf = leaves_of M d (piece_second M (piece_of w)) in
        let f : leaves_of M (suc d - 1) a ≡ first = ap₂ (leaves_of M) n (j ∙ ap (piece_first M) i) in
        let s : leaves_of M (suc d - 1) b ≡ second = ap₂ (leaves_of M) n (k ∙ ap (piece_second M) i) in
        m
        ∙ ap₂ with_leaves (l ∙ ap (with_leaves g) f) s
        ∙ sym (with_append g first second)
        ∙ ap (with_leaves g) (sym (tagged_yes pair_tag w t (first ++ second) (one_leaf w) e h))

-- A slot set right after those in use.
take_repeated : {A : Type 0} (n m : ℕ) (u : A) → n ≤ m → take n (replicate m u) ≡ replicate n u
take_repeated zero m u h = refl
take_repeated (suc n) zero u h = absurd (omega arith)
take_repeated (suc n) (suc m) u h = ap (u ∷◌) (take_repeated n m u (omega arith))

set_next : {A : Type 0} (n m : ℕ) (x : List A) (u s : A) → length x < n → n ≤ length x + m → set (take n (x ++ replicate m u)) (length x) s ≡ take n (x ++ (s ∷ []) ++ replicate m u)
set_next zero m x u s h k = absurd (omega arith)
set_next (suc n) zero [] u s h k = absurd (omega arith)
set_next (suc n) (suc m) [] u s h k = ap (s ∷◌) (take_repeated n m u (omega arith) ∙ sym (take_repeated n (suc m) u (omega arith)))
set_next (suc n) m (a ∷ x) u s h k = ap (a ∷◌) (set_next n m x u s (omega arith) (omega arith))

-- One leaf more of a list's first eight.
next_slot : (x : List Leaf) (l : Leaf) → length x < 8 → set (slots_of x) (length x) (slot_of l) ≡ slots_of (x ++ (l ∷ []))
next_slot x l h =
    let k : length (map slot_of x) ≡ length x = length-map x slot_of in
    ap (λ i. set (slots_of x) i (slot_of l)) (sym k)
    ∙ set_next 8 8 (map slot_of x) (slot_of Leaf.Unit) (slot_of l) (omega arith) (omega arith)
    ∙ ap (λ y. take 8 (y ++ replicate 8 (slot_of Leaf.Unit))) (sym (map-append slot_of x (l ∷ [])))

next_leaf : (x : List Leaf) (l : Leaf) → length x < 8 → with_leaf (gathered x) l ≡ gathered (x ++ (l ∷ []))
next_leaf x l h = leaf_added (gathered x) l h ∙ ap₂ {C = Gathered} (λ i y. record { count = i; slots = y }) (sym (length-append x (l ∷ []))) (next_slot x l h)

first_leaf : (x : List Leaf) (l : Leaf) (b : Bool) → ltb (length x) 8 ≡ b → with_leaf (gathered (take 8 x)) l ≡ gathered (take 8 (x ++ (l ∷ [])))
first_leaf x l true e =
    let h : length x < 8 = ltb-true (length x) 8 e in
    let n = length-append x (l ∷ []) in
    ap (λ y. with_leaf (gathered y) l) (take_all 8 x (omega arith)) ∙ next_leaf x l h ∙ ap gathered (sym (take_all 8 (x ++ (l ∷ [])) (omega arith)))
first_leaf x l false e =
    let h : 8 ≤ length x = ltb-false (length x) 8 e in
    let n = length-take 8 x in
    leaf_left_out (gathered (take 8 x)) l (omega arith) ∙ ap gathered (sym (take-append-le 8 x (l ∷ []) h))

first_leaves : (x y : List Leaf) → with_leaves (gathered (take 8 x)) y ≡ gathered (take 8 (x ++ y))
unfolding with_leaves
first_leaves x [] = ap (λ z. gathered (take 8 z)) (sym (append-nil x))
first_leaves x (l ∷ y) =
    ap (λ g. with_leaves g y) (first_leaf x l (ltb (length x) 8) refl) ∙ first_leaves (x ++ (l ∷ [])) y ∙ ap (λ z. gathered (take 8 z)) (append_snoc x l y)

-- The leaves of a value, gathered from none.
pub from_none : (M : Memory) (w : ℕ) {g r : Gathered} → g ≡ gathered [] → r ≡ with_leaves g (leaves_of M 8 w) → r ≡ gathered (plain_leaves_in M w)
from_none M w a b = b ∙ ap (λ g. with_leaves g (leaves_of M 8 w)) a ∙ first_leaves [] (leaves_of M 8 w)

-- One leaf alone.
pub from_one : (M : Memory) (w : ℕ) {l : Leaf} {g r : Gathered} → plain_leaves_in M w ≡ leaf_of w ∷ [] → g ≡ gathered [] → l ≡ leaf_of w → r ≡ with_leaf g l → r ≡ gathered (plain_leaves_in M w)
from_one M w {l} e a b d = d ∙ ap (λ x. with_leaf x l) a ∙ next_leaf [] l (omega arith) ∙ ap gathered (ap (λ x. x ∷ []) b ∙ sym e)

-- The leaves in slots are those gathered.
pub gathered_leaves : {g : Gathered} (x : List Leaf) → g ≡ gathered x → length x ≤ 8 → leaves_in g.count g.slots ≡ x
gathered_leaves x e h = ap (λ g. leaves_in g.count g.slots) e ∙ leaves_back x h

pub gathered_few : {g : Gathered} (x : List Leaf) → g ≡ gathered x → length x ≤ 8 → g.count ≤ 8
gathered_few {g} x e h = let n : g.count ≡ length x = ap (λ y. y.count) e in omega arith

-- A value has at most eight.
pub plain_few : (M : Memory) (w : ℕ) → length (plain_leaves_in M w) ≤ 8
plain_few M w = let n = length-take 8 (leaves_of M 8 w) in omega arith
