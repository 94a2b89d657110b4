-- Refusals 9 to 12: sections, order of the domains, uses and depth of the terms (document 01, "Turned back at the gate").
use Rattle.std.specs.Prelude.{ℕ, zero, suc, ◌+◌, ◌≤◌, ◌<◌, ◌≡◌, Bool, true, false, not, length, get_or, set, replicate, eqb, leb}
use mathlib.Core.List.{List, [], ◌∷◌, foldl}
use Rattle.calculus.specs.Combinators.{choose}
use Rattle.calculus.specs.Syntax.{Dom}
use Rattle.image.specs.declared.Refusal.{Refusal}
use Rattle.image.specs.Limits.{depth_limit}
use Rattle.laws.specs.Tests.{all}
use Rattle.image.specs.Records.{Layout}
use Rattle.image.specs.Layout.{is_nil}
use Rattle.image.specs.Types.{domain_place, term_place, children, root_of}
use Rattle.verdict.specs.Answers.{require, require_from, in_turn, Verdict}
use Rattle.verdict.specs.Order.{at_fault}

-- How often n stands in a list.
unfoldable pub count : ℕ → List ℕ → ℕ
count n [] = 0
count n (m ∷ ms) = choose (eqb n m) 1 0 + count n ms

-- The numbers es all set to d.
abbrev pub set_all : List ℕ → ℕ → List ℕ → List ℕ
set_all es d ds = foldl (λ xs e. set xs e d) ds es

module _ (L : Layout) where
  -- 9: each section has a record.
  abbrev pub none_empty : Bool
  none_empty = all (not (is_nil L.domains) ∷ not (is_nil L.types) ∷ not (is_nil L.terms) ∷ [])

  -- 11: how often term n is a child of one of the m first terms.
  unfoldable pub uses : ℕ → ℕ → ℕ
  uses zero n = 0
  uses (suc m) n = uses m n + count n (children L m)

  abbrev pub used_once : ℕ → Bool
  used_once n = eqb (uses (length L.terms) n) 1

  -- 12: from the root down, each term gives its children one more than its own depth.
  unfoldable pub depths_from : ℕ → List ℕ → List ℕ
  depths_from zero ds = ds
  depths_from (suc n) ds = depths_from n (set_all (children L n) (suc (get_or ds n 0)) ds)

  -- The depth of each term; "root 1".
  unfoldable pub depths : List ℕ
  depths = depths_from (length L.terms) (set (replicate (length L.terms) 0) (root_of L) 1)

  -- 9 to 12, in their order, for an image of size bytes.
  unfoldable pub shape : ℕ → Verdict
  shape size =
      in_turn
      ((λ u. require none_empty Refusal.EmptySection size)
      ∷ (λ u. require_from (length L.domains) 0 Refusal.DomainOrder (λ d. domain_place L d) (λ d. not (at_fault L d)))
      ∷ (λ u. require_from (root_of L) 0 Refusal.UseCount (λ n. term_place L n) (λ n. used_once n))
      ∷ (λ u. let ds = depths in require_from (length L.terms) 0 Refusal.TooDeep (λ n. term_place L n) (λ n. leb (get_or ds n 0) depth_limit))
      ∷ [])

-- What 9 to 12 have found of records that they pass.
pub record Shaped (L : Layout) : Type 0 where
  pub has_domains : 0 < length L.domains
  pub has_types : 0 < length L.types
  pub has_terms : 0 < length L.terms
  pub ordered : (d : Dom) → d < length L.domains → at_fault L d ≡ false
  pub used : (n : ℕ) → n < root_of L → used_once L n ≡ true
  pub shallow : (n : ℕ) → n < length L.terms → get_or (depths L) n 0 ≤ depth_limit
