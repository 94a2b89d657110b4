-- The array of depths, up to one past the limit, holds what the definition sets.
use borrow.Author.Tests.{leb-true, leb-false, le-leb, lt-leb}
use Prim.Native.Nat.{ℕ, zero, suc, ◌+◌, ◌-◌, min, ◌≤◌, ◌<◌}
use native.Mathlib.Omega.{arith}
use mathlib.Core.Path.{◌≡◌, refl, ap, subst, sym, ◌∙◌}
use mathlib.Core.List.{List, [], ◌∷◌, ◌++◌, map}
use lib.ListN.{length, get_or, take, set, replicate, get_or-map, get_or-append}
use lib.Seq.{take-set-lt}
use lib.Dec.{leb}
use Rattle.laws.proofs.Booleans.{by_test}
use Rattle.image.specs.Limits.{depth_limit}
use Rattle.image.specs.Records.{Layout}
use Rattle.image.specs.Types.{children}
use Rattle.verdict.specs.Shape.{set_all, depths_from, depths}
use Rattle.check_uses.specs.Marks.{more}
use Rattle.check_shape.specs.Records.{TermsOf}
use Rattle.check_shape.specs.Depths.{capped_from, deep_from}
use Rattle.check_shape.specs.Checks.{no_term_deep}
use Rattle.check_shape.proofs.Answers.{from_same}
use Rattle.check_shape.proofs.Zeros.{zeros_front}

-- One term after another, down.
pub capped_next : (L : Layout) (i : ℕ) (ds es : List ℕ) → 0 < i → children L (i - 1) ≡ es → capped_from L i ds ≡ capped_from L (i - 1) (set_all es (more (suc depth_limit) (get_or ds (i - 1) 0)) ds)
unfolding capped_from
capped_next L i ds es h c = let e : i ≡ suc (i - 1) = omega arith in ap (λ k. capped_from L k ds) e ∙ ap (λ cs. capped_from L (i - 1) (set_all cs (more (suc depth_limit) (get_or ds (i - 1) 0)) ds)) c

pub capped_end : (L : Layout) (i : ℕ) (ds : List ℕ) → i ≤ 0 → capped_from L i ds ≡ ds
unfolding capped_from
capped_end L i ds h = let e : i ≡ 0 = omega arith in rw e refl

-- A depth, up to one past the limit; and of a list of them.
abbrev capped : ℕ → ℕ
capped d = min (suc depth_limit) d

map_set : (f : ℕ → ℕ) (xs : List ℕ) (i x : ℕ) → map f (set xs i x) ≡ set (map f xs) i (f x)
map_set f [] i x = refl
map_set f (y ∷ ys) zero x = refl
map_set f (y ∷ ys) (suc i) x = ap (λ zs. f y ∷ zs) (map_set f ys i x)

set_capped : (es : List ℕ) (d : ℕ) (ds : List ℕ) → set_all es (capped d) (map capped ds) ≡ map capped (set_all es d ds)
set_capped [] d ds = refl
set_capped (e ∷ es) d ds = ap (λ xs. set_all es (capped d) xs) (sym (map_set capped ds e d)) ∙ set_capped es d (set ds e d)

from_capped : (L : Layout) (n : ℕ) (ds : List ℕ) → capped_from L n (map capped ds) ≡ map capped (depths_from L n ds)
unfolding capped_from depths_from
from_capped L zero ds = refl
from_capped L (suc n) ds =
    let g : get_or (map capped ds) n 0 ≡ capped (get_or ds n 0) = get_or-map capped ds n 0 in
    let m : more (suc depth_limit) (get_or (map capped ds) n 0) ≡ capped (suc (get_or ds n 0)) = omega arith in
    ap (λ d. capped_from L n (set_all (children L n) d (map capped ds))) m
    ∙ (ap (λ xs. capped_from L n xs) (set_capped (children L n) (suc (get_or ds n 0)) ds)
    ∙ from_capped L n (set_all (children L n) (suc (get_or ds n 0)) ds))

-- Whether a depth is within the limit shows.
within : (d : ℕ) → leb (capped d) depth_limit ≡ leb d depth_limit
within d = by_test (leb d depth_limit)
    (λ t. let z : d ≤ depth_limit = leb-true _ _ t in le-leb (capped d) depth_limit (omega arith) ∙ sym t)
    λ t. let z : depth_limit < d = leb-false _ _ t in lt-leb (capped d) depth_limit (omega arith) ∙ sym t

map_zeros : (n : ℕ) → map capped (replicate n 0) ≡ replicate n 0
map_zeros zero = refl
map_zeros (suc n) = ap (λ xs. 0 ∷ xs) (map_zeros n)

-- The array that the depths are set in.
first_depths : (n r m : ℕ) (xs : List ℕ) → r < n → n ≤ m → xs ≡ replicate m 0 → take n (set xs r 1) ≡ map capped (set (replicate n 0) r 1)
first_depths n r m xs h k e =
    take-set-lt n xs r 1 h ∙ (ap (λ ys. set (take n ys) r 1) e ∙ (ap (λ ys. set ys r 1) (zeros_front n m k ∙ sym (map_zeros n)) ∙ sym (map_set capped (replicate n 0) r 1)))

-- Refusal 12, by the array: its first places are those of the terms.
module _ (L : Layout) (xs ds rest : List ℕ) (m : ℕ) (zeros : xs ≡ replicate m 0) where
  -- ds is what is set for the terms at the offsets ts, of which the last is the root.
  abbrev Set : List ℕ → Type 0
  Set ts = ds ≡ capped_from L (length ts) (take (length ts) (set xs (length ts - 1) 1))

  capped_depths : 0 < length L.terms → length L.terms ≤ m → Set L.terms → ds ≡ map capped (depths L)
  unfolding depths
  capped_depths p k s =
      let n : ℕ = length L.terms in
      s ∙ (ap (λ ys. capped_from L n ys) (first_depths n (n - 1) m xs (omega arith) k zeros) ∙ from_capped L n (set (replicate n 0) (n - 1) 1))

  pub deep_same : (b ts : List ℕ) → TermsOf L b ts → 0 < length ts → length ts ≤ m → length ds ≡ length ts → Set ts → deep_from ts (ds ++ rest) (length ts) 0 ≡ no_term_deep L
  deep_same b ts T = subst (λ us. 0 < length us → length us ≤ m → length ds ≡ length us → Set us → deep_from us (ds ++ rest) (length us) 0 ≡ no_term_deep L) T.offsets go
    where
      go : 0 < length L.terms → length L.terms ≤ m → length ds ≡ length L.terms → Set L.terms → deep_from L.terms (ds ++ rest) (length L.terms) 0 ≡ no_term_deep L
      go p k l s = from_same _ _ _ _ _ (length L.terms) 0 (λ i h. refl) same
        where
          same : (i : ℕ) → i < 0 + length L.terms → leb (get_or (ds ++ rest) i 0) depth_limit ≡ leb (get_or (depths L) i 0) depth_limit
          same i h =
              let z : i < length ds = omega arith in
              let e : get_or (ds ++ rest) i 0 ≡ capped (get_or (depths L) i 0) = get_or-append ds rest 0 i z ∙ (ap (λ ys. get_or ys i 0) (capped_depths p k s) ∙ get_or-map capped (depths L) i 0) in
              ap (λ d. leb d depth_limit) e ∙ within (get_or (depths L) i 0)
