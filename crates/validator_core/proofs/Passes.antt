-- The answers of the parts, one after another, are the definition's.
use Rattle.std.specs.Prelude.{Ok, Err, is_err}
use Prim.Native.Nat.{ℕ, ◌≤◌}
use mathlib.Core.Path.{◌≡◌, refl, sym, ap, subst, ◌∙◌}
use mathlib.Core.Bool.{true, false}
use mathlib.Core.List.{List, [], ◌∷◌}
use lib.ListN.{length}
use Rattle.image.specs.declared.Refusal.{Refusal}
use Rattle.image.specs.Limits.{image_limit}
use Rattle.image.specs.Layout.{stopped, laid, layout, records_of}
use Rattle.laws.proofs.Booleans.{no_path}
use Rattle.verdict.specs.Answers.{in_turn, Verdict, refused_at}
use Rattle.verdict.specs.Shape.{shape, Shaped}
use Rattle.verdict.specs.Check.{typing}
use Rattle.verdict.specs.Verdicts.{laid_out_of}
use Rattle.verdict.proofs.Answered.{accepted_is, turn_stops, turn_goes, last_turn}
use Rattle.verdict.proofs.Passed.{shape_accepts}
use Rattle.read_records.specs.declared.numbers.Counts.{Counts}
use Rattle.check_uses.specs.Marks.{all_marks}
use Rattle.check_layout.specs.Tables.{layout_of, scan_of, Marks, Scanned}
use Rattle.validator_core.specs.Examined.{Checked}
use Rattle.validator_core.specs.Examined.{checked_records, examined, verdict_of, with_counts, Filled, Answered}
use Rattle.validator_core.proofs.Filling.{filled, marked}

-- Two checks in turn.
refused_turn : (v w : Verdict) → is_err v ≡ true → in_turn ((λ u. v) ∷ (λ u. w) ∷ []) ≡ v
refused_turn v w h = turn_stops (λ u. v) _ h

accepted_turn : (v w : Verdict) → is_err v ≡ false → in_turn ((λ u. v) ∷ (λ u. w) ∷ []) ≡ w
accepted_turn v w h = turn_goes (λ u. v) _ h ∙ last_turn (λ u. w)

pub shape_refuses : (b : List ℕ) (v : Verdict) → v ≡ shape (records_of b) (length b) → is_err v ≡ true → v ≡ checked_records b
unfolding checked_records
shape_refuses b v e h = sym (refused_turn v (typing (records_of b)) h) ∙ ap (λ x. in_turn ((λ u. x) ∷ (λ u. typing (records_of b)) ∷ [])) e

pub typing_decides : (b : List ℕ) (v w : Verdict) → v ≡ shape (records_of b) (length b) → is_err v ≡ false → w ≡ typing (records_of b) → w ≡ checked_records b
unfolding checked_records
typing_decides b v w e h f =
    sym (accepted_turn v w h)
    ∙ ap (λ x. in_turn ((λ u. x) ∷ (λ u. w) ∷ [])) e
    ∙ ap (λ x. in_turn ((λ u. shape (records_of b) (length b)) ∷ (λ u. x) ∷ [])) f

-- An image whose shape is accepted has a term, each term but the root is used once, and none is too deep.
pub shaped : (b : List ℕ) (v : Verdict) → v ≡ shape (records_of b) (length b) → is_err v ≡ false → Shaped (records_of b)
shaped b v e h = (shape_accepts (records_of b) (length b)).0 (sym e ∙ accepted_is v h)

-- The scan stopped, or laid the image out.
module _ (b ds ts ks es ms : List ℕ) (x : Checked) (short : length b ≤ image_limit) (s : Scanned x b ds ts ks es ms) where
  pub stopped_answer : (r : Refusal) (o : ℕ) → x ≡ Err (record { why = r; place = o }) → Answered (Err (record { why = r; place = o })) b ds ts ks es
  unfolding examined in_turn
  stopped_answer r o e =
      let a : stopped r o ≡ layout b = ap (λ y. scan_of y b ds ts es) (sym e) ∙ s.answer in
      record {
        answer = sym (refused_turn (refused_at r o) (checked_records b) refl) ∙ ap (λ y. in_turn ((λ u. laid_out_of y) ∷ (λ u. checked_records b) ∷ [])) a;
        filled = λ n h. no_path cc;
        entered = s.counts;
        holds = s.holds;
      }

  module _ (n : Counts) (e : x ≡ Ok n) where
    laid_answer : laid (layout_of b n ds ts es) ≡ layout b
    laid_answer = ap (λ y. scan_of y b ds ts es) (sym e) ∙ s.answer

    -- What the checks of the records ask, and what they answer.
    pub laid_tables : Filled b n ds ts ks es
    laid_tables = filled b n ds ts ks es short laid_answer (rw (s.counted n e) at s.holds.tables)

    pub laid_marks : ms ≡ all_marks b
    laid_marks = marked b n ds ts ks es short laid_answer (rw (s.counted n e) at s.holds.tables) ms (subst (λ m. Marks b m ds ts es ms) (s.counted n e) s.marks)

    pub checked_answer : (v : Verdict) (r : Checked) → v ≡ checked_records b → r ≡ with_counts v n → Answered r b ds ts ks es
    unfolding examined
    checked_answer v r c d =
        record {
          answer =
              ap verdict_of d ∙ back v ∙ sym (accepted_turn (Ok tt) v refl) ∙ ap (λ y. in_turn ((λ u. laid_out_of y) ∷ (λ u. v) ∷ [])) laid_answer
              ∙ ap (λ y. in_turn ((λ u. laid_out_of (layout b)) ∷ (λ u. y) ∷ [])) c;
          filled = λ m h. subst (λ k. Filled b k ds ts ks es) (same v m (sym d ∙ h)) laid_tables;
          entered = s.counts;
          holds = s.holds;
        }
      where
        back : (w : Verdict) → verdict_of (with_counts w n) ≡ w
        back (Ok tt) = refl
        back (Err refusal) = refl

        same : (w : Verdict) (m : Counts) → with_counts w n ≡ Ok m → n ≡ m
        same (Ok tt) m h = cc
        same (Err refusal) m h = no_path cc
