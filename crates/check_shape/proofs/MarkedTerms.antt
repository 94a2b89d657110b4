-- Refusals 11 and 12 of a layout, by the marks of its terms.
use Rattle.std.specs.Prelude.{Ok, is_err}
use Prim.Native.Nat.{ℕ, ◌-◌, ◌≤◌, ◌<◌}
use native.Mathlib.Omega.{arith}
use mathlib.Core.Path.{◌≡◌, ap, sym, ◌∙◌}
use mathlib.Core.Bool.{true}
use mathlib.Core.List.{List}
use lib.ListN.{length, get_or}
use borrow.Author.Tests.{le-leb}
use Rattle.image.specs.declared.Refusal.{Refusal}
use Rattle.image.specs.Limits.{depth_limit}
use Rattle.image.specs.Records.{Layout}
use Rattle.image.specs.Layout.{records_of}
use Rattle.image.specs.Types.{root_of}
use Rattle.image.proofs.Laid.{LayoutOk, layout_good}
use Rattle.laws.proofs.Tests.{below_all}
use Rattle.verdict.specs.Answers.{refused_at}
use Rattle.verdict.specs.Shape.{used_once}
use Rattle.verdict.proofs.Answered.{turn_stops, turn_goes, last_turn}
use Rattle.check_uses.specs.Marks.{is_once, marks_of, FirstMisused}
use Rattle.check_uses.proofs.UseCounts.{height, marks_length, once_marked, root_marked}
use Rattle.check_uses.proofs.Heights.{shallow}
use Rattle.check_shape.specs.Records.{Terms, Marked}
use Rattle.check_shape.specs.Checks.{terms_used_once, no_term_deep, terms_right}
use Rattle.check_shape.proofs.Answers.{from_hold, from_first}

-- The marks ms, of which that of f is the first below the root's that is not of a term used once; at least one term is there.
module _ (L : Layout) (good : LayoutOk L) (ms : List ℕ) (f : ℕ) (marks : ms ≡ marks_of L (length L.terms)) (some : 0 < length L.terms) (F : FirstMisused ms (root_of L) f) where
  once : (k : ℕ) → k < length L.terms → is_once (get_or ms k 0) ≡ used_once L k
  once k l = ap (λ xs. is_once (get_or xs k 0)) marks ∙ once_marked L good k l

  misused : f < root_of L → terms_used_once L ≡ refused_at Refusal.UseCount (get_or L.terms f 0)
  misused h = from_first _ _ _ (root_of L) f h (λ k l. sym (once k (omega arith)) ∙ F.before k l) (sym (once f (omega arith)) ∙ F.here h)

  -- Each term below the root is used once.
  module _ (h : root_of L ≤ f) where
    all_once : (k : ℕ) → k < root_of L → used_once L k ≡ true
    all_once k l = sym (once k (omega arith)) ∙ F.before k (omega arith)

    none_misused : terms_used_once L ≡ Ok tt
    none_misused = from_hold _ _ _ (root_of L) (below_all _ _ all_once)

    none_deep : get_or ms (root_of L) 0 ≤ depth_limit → no_term_deep L ≡ Ok tt
    none_deep l =
        let e : get_or ms (root_of L) 0 ≡ height L (root_of L) = ap (λ xs. get_or xs (root_of L) 0) marks ∙ root_marked L good (root_of L) (omega arith) in
        let d = shallow L good some all_once (omega arith) in
        from_hold _ _ _ (length L.terms) (below_all _ _ (λ k i. le-leb _ _ (d k i)))

-- The same of an image, whose terms have the offsets ts.
module _ (b ts ms : List ℕ) (T : Terms b ts) (M : Marked b ms) where
  abbrev L : Layout
  L = records_of b

  good : LayoutOk L
  good = layout_good b L M.laid_out

  pub enough_marks : length ts ≤ length ms
  enough_marks =
      let e = ap length M.marks ∙ marks_length L (length L.terms) in
      let f = T.few in
      omega arith

  module _ (f : ℕ) (some : 0 < length ts) (F : FirstMisused ms (length ts - 1) f) where
    there : 0 < length L.terms
    there = rw T.offsets some

    first : FirstMisused ms (root_of L) f
    first = rw T.offsets F

    -- Refused at f; or what is left is refusal 12, which a low root excludes.
    pub refused_first : f < length ts - 1 → terms_right L ≡ refused_at Refusal.UseCount (get_or ts f 0)
    refused_first h =
        let u = misused L good ms f M.marks there first (rw T.offsets h) in
        turn_stops _ _ (ap is_err u) ∙ u ∙ ap (λ us. refused_at Refusal.UseCount (get_or us f 0)) T.offsets

    module _ (h : length ts - 1 ≤ f) where
      last : root_of L ≤ f
      last = rw T.offsets h

      pub depths_decide : terms_right L ≡ no_term_deep L
      depths_decide = turn_goes _ _ (ap is_err (none_misused L good ms f M.marks there first last)) ∙ last_turn _

      pub accepted_low : get_or ms (length ts - 1) 0 ≤ depth_limit → terms_right L ≡ Ok tt
      accepted_low l = depths_decide ∙ none_deep L good ms f M.marks there first last (rw T.offsets l)
