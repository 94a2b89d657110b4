-- A mark says how often a term is used: refusal 11.
use borrow.Author.Tests.{lt-ltb, le-ltb, lt-leb, le-leb, ne_eqb}
use Prim.Native.Nat.{ℕ, zero, suc, ◌+◌, ◌≤◌, ◌<◌}
use native.Mathlib.Omega.{arith}
use mathlib.Core.Path.{◌≡◌, refl, ap, sym, ◌∙◌}
use mathlib.Core.Bool.{Bool, true, false}
use mathlib.Core.List.{List}
use lib.ListN.{length, get_or, set, length-set, length-replicate}
use lib.Seq.{get_or-set_same, get_or-set_other}
use lib.Dec.{eqb, ltb}
use Rattle.image.specs.Limits.{term_limit, depth_limit}
use Rattle.image.specs.Records.{Layout}
use Rattle.image.specs.Types.{children}
use Rattle.image.proofs.Laid.{LayoutOk}
use Rattle.laws.proofs.Booleans.{lt_of, ge_of}
use Rattle.verdict.specs.Shape.{count, uses}
use Rattle.verdict.proofs.Changes.{change_length, change_at}
use Rattle.verdict.proofs.Depth.{below_count}
use Rattle.check_uses.specs.Marks.{used_mark, is_once, use_all, height_of, marks_of, first_use}

-- The mark of a term that has the height h and is used so often.
abbrev pub mark_of : ℕ → ℕ → ℕ
mark_of h zero = h
mark_of h (suc zero) = h + first_use
mark_of h (suc (suc u)) = 255

-- A height leaves room for the use.
abbrev Low : ℕ → Type 0
Low h = h ≤ suc depth_limit

one_more : (h u : ℕ) → Low h → used_mark (mark_of h u) ≡ mark_of h (suc u)
one_more h zero l = rw (lt-ltb h first_use (omega arith)) refl
one_more h (suc zero) l = rw (le-ltb (h + first_use) first_use (omega arith)) refl
one_more h (suc (suc u)) l = refl

pub once_is : (h u : ℕ) → Low h → is_once (mark_of h u) ≡ eqb u 1
once_is h zero l = rw (lt-leb first_use h (omega arith)) refl
once_is h (suc zero) l = rw (le-leb first_use (h + first_use) (omega arith), lt-ltb (h + first_use) 255 (omega arith)) refl
once_is h (suc (suc u)) l = sym (ne_eqb (suc (suc u)) 1 (λ q. omega arith))

-- One use more of each of es.
uses_more : (es ms : List ℕ) (e h u : ℕ) → Low h → e < length ms → get_or ms e 0 ≡ mark_of h u → get_or (use_all es ms) e 0 ≡ mark_of h (u + count e es)
uses_more es ms e h u l p q = change_at used_mark (λ n m. m ≡ mark_of h n) (λ n m w. ap used_mark w ∙ one_more h n l) es ms e u p q

module _ (L : Layout) where
  -- The height of term n.
  abbrev pub height : ℕ → ℕ
  height n = height_of (children L n) (marks_of L n)

  pub marks_length : (m : ℕ) → length (marks_of L m) ≡ term_limit
  unfolding marks_of
  marks_length zero = length-replicate {A = ℕ} term_limit 0
  marks_length (suc m) = length-set (use_all (children L m) (marks_of L m)) m _ ∙ (change_length used_mark (children L m) (marks_of L m) ∙ marks_length m)

  module _ (good : LayoutOk L) where
    -- A term is no child of a term at or below it.
    no_uses_lem : (m e : ℕ) → m ≤ length L.terms → m ≤ suc e → uses L m e ≡ 0
    unfolding uses
    no_uses_lem zero e l h = refl
    no_uses_lem (suc m) e l h =
        let a = no_uses_lem m e (omega arith) (omega arith) in
        let b = below_count m e (children L m) (good.terms m (omega arith)).below (omega arith) in
        omega arith

    -- When the m first terms are there, the mark of each is that of its height and its uses.
    pub mark_is : (m e : ℕ) → m ≤ length L.terms → e < m → get_or (marks_of L m) e 0 ≡ mark_of (height e) (uses L m e)
    unfolding marks_of uses
    mark_is zero e l h = absurd (omega arith)
    mark_is (suc m) e l h = go (λ k. mark_is m e (omega arith) k) (ltb e m) refl
      where
        cs : List ℕ
        cs = children L m

        ms : List ℕ
        ms = use_all cs (marks_of L m)

        few : e < term_limit
        few = let z = good.few_terms in omega arith

        go : (e < m → get_or (marks_of L m) e 0 ≡ mark_of (height e) (uses L m e)) → (t : Bool) → ltb e m ≡ t → get_or (set ms m (height m)) e 0 ≡ mark_of (height e) (uses L m e + count e cs)
        go ih true t =
            let k : e < m = lt_of t in
            let p : e < length (marks_of L m) = let z = marks_length m in let f = few in omega arith in
            get_or-set_other ms m e (height m) 0 (λ x. omega arith) ∙ uses_more cs (marks_of L m) e (height e) (uses L m e) (omega arith) p (ih k)
        go ih false t =
            let k : m ≤ e = ge_of t in
            let z : e ≡ m = omega arith in
            let n : uses L m e + count e cs ≡ 0 = no_uses_lem (suc m) e l (omega arith) in
            let p : m < length ms = let x = change_length used_mark cs (marks_of L m) in let y = marks_length m in let f = few in omega arith in
            rw (n, z) (get_or-set_same ms m (height m) 0 p)

    -- Refusal 11, and the height of the root, by the marks of all terms.
    pub once_marked : (e : ℕ) → e < length L.terms → is_once (get_or (marks_of L (length L.terms)) e 0) ≡ eqb (uses L (length L.terms) e) 1
    once_marked e l = ap is_once (mark_is (length L.terms) e (omega arith) l) ∙ once_is (height e) (uses L (length L.terms) e) (omega arith)

    pub root_marked : (r : ℕ) → suc r ≡ length L.terms → get_or (marks_of L (length L.terms)) r 0 ≡ height r
    root_marked r e =
        let m = mark_is (length L.terms) r (omega arith) (omega arith) in
        let n : uses L (length L.terms) r ≡ 0 = no_uses_lem (length L.terms) r (omega arith) (omega arith) in
        rw n at m
