-- Layouts with the same records by their known fields, offset by offset, and what is read of such records.
use Prim.Native.Nat.{ℕ, zero, suc, ◌<◌}
use native.Mathlib.Omega.{arith}
use mathlib.Core.Path.{◌≡◌, refl, ap, subst, ◌∙◌}
use mathlib.Core.Bool.{Bool}
use mathlib.Core.List.{List, [], ◌∷◌, ◌++◌}
use lib.ListN.{length, get_or}
use Rattle.laws.specs.Tests.{all_of}
use Rattle.image.specs.Kinds.{Field, domain, Row, row_of, kind_of}
use Rattle.image.specs.Records.{Layout, or_else, kind_at, fields_at, numbers_at, given}
use Rattle.image.specs.Layout.{is_nil}
use Rattle.image_trimmed.specs.SameRecords.{SameRecord}

-- The same record in two images, whose kind has the row r.
module _ {b c : List ℕ} {o p : ℕ} (S : SameRecord b c o p) where
  pub same_kind : kind_at c p ≡ kind_at b o
  same_kind = ap (λ n. or_else (kind_of n) domain) S.number

  module _ {r : Row} (e : row_of (kind_at b o) ≡ r) where
    pub same_fields_lem : fields_at c p r ≡ fields_at b o r
    same_fields_lem = subst (λ q. fields_at c p q ≡ fields_at b o q) e S.fields

    pub same_numbers_lem : numbers_at c p r ≡ numbers_at b o r
    same_numbers_lem = subst (λ q. numbers_at c p q ≡ numbers_at b o q) e S.numbers

    pub same_given : (of : Field → ℕ → List ℕ) → given of (fields_at c p r) (numbers_at c p r) ≡ given of (fields_at b o r) (numbers_at b o r)
    same_given of = ap (λ fs. given of fs (numbers_at c p r)) same_fields_lem ∙ ap (given of (fields_at b o r)) same_numbers_lem

module _ (b c : List ℕ) (place : ℕ → ℕ) where
  -- Offsets of b, each with its place in c.
  pub data Paired : List ℕ → List ℕ → Type 0 where
    no_pair : Paired [] []
    pair_on : (o : ℕ) (xs ys : List ℕ) → SameRecord b c o (place o) → Paired xs ys → Paired (o ∷ xs) (place o ∷ ys)

  pub pair_count : {xs ys : List ℕ} → Paired xs ys → length xs ≡ length ys
  pair_count no_pair = refl
  pair_count (pair_on o xs ys s q) = ap suc (pair_count q)

  pub pair_nil : {xs ys : List ℕ} → Paired xs ys → is_nil xs ≡ is_nil ys
  pair_nil no_pair = refl
  pair_nil (pair_on o xs ys s q) = refl

  pub pair_more : {xs ys : List ℕ} (o : ℕ) → Paired xs ys → SameRecord b c o (place o) → Paired (xs ++ (o ∷ [])) (ys ++ (place o ∷ []))
  pair_more o no_pair s = pair_on o [] [] s no_pair
  pair_more o (pair_on x xs ys t q) s = pair_on x (xs ++ (o ∷ [])) (ys ++ (place o ∷ [])) t (pair_more o q s)

  pub record PairAt (xs ys : List ℕ) (t : ℕ) : Type 0 where
    pub at : get_or ys t 0 ≡ place (get_or xs t 0)
    pub same : SameRecord b c (get_or xs t 0) (get_or ys t 0)

  pub pair_at : {xs ys : List ℕ} → Paired xs ys → (t : ℕ) → t < length xs → PairAt xs ys t
  pair_at no_pair t h = absurd (omega arith)
  pair_at (pair_on o xs ys s q) zero h = record { at = refl; same = s }
  pair_at (pair_on o xs ys s q) (suc t) h = let r = pair_at q t (omega arith) in record { at = r.at; same = r.same }

  -- Tests that agree on the same records.
  pub all_paired : (f g : ℕ → Bool) → ((q r : ℕ) → SameRecord b c q r → f q ≡ g r) → {xs ys : List ℕ} → Paired xs ys → all_of f xs ≡ all_of g ys
  unfolding all_of
  all_paired f g h no_pair = refl
  all_paired f g h (pair_on o xs ys s q) = let x = h o (place o) s in let y = all_paired f g h q in cc

  -- Layouts of the two.
  pub record SameLayout (L M : Layout) : Type 0 where
    pub image : L.image ≡ b
    pub image' : M.image ≡ c
    pub domains : Paired L.domains M.domains
    pub types : Paired L.types M.types
    pub terms : Paired L.terms M.terms
