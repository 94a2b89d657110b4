-- The verdict is the image's length, then what an examination answers, then the lengths of lent memory.
use Rattle.std.specs.Prelude.{Ok, Err, is_err}
use Prim.Native.Nat.{ℕ, ◌≤◌, ◌<◌}
use native.Mathlib.Omega.{arith}
use mathlib.Core.Path.{◌≡◌, refl, sym, ap, ◌∙◌}
use mathlib.Core.Bool.{true, false, true≢false}
use mathlib.Core.List.{List, [], ◌∷◌}
use lib.ListN.{length}
use lib.Dec.{leb}
use borrow.Author.Tests.{le-leb, lt-leb}
use Rattle.image.specs.declared.Refusal.{Refusal}
use Rattle.image.specs.Limits.{image_limit, work_length, report_length}
use Rattle.image.specs.Layout.{layout, records_of}
use Rattle.verdict.specs.Answers.{require, in_turn, Verdict, refused_at}
use Rattle.verdict.specs.Shape.{shape}
use Rattle.verdict.specs.Check.{typing}
use Rattle.verdict.specs.Verdicts.{laid_out_of, verdict}
use Rattle.verdict.proofs.Answered.{last_turn}
use Rattle.validator_core.specs.Examined.{checked_records, examined}

-- The second answer, if the first accepts.
abbrev after : Verdict → Verdict → Verdict
after (Ok tt) w = w
after (Err refusal) w = Err refusal

after_after : (u v w : Verdict) → after (after u v) w ≡ after u (after v w)
after_after (Ok tt) v w = refl
after_after (Err refusal) v w = refl

turn_after : (v : Unit {0} → Verdict) (vs : List (Unit {0} → Verdict)) → in_turn (v ∷ vs) ≡ after (v tt) (in_turn vs)
unfolding in_turn
turn_after v vs = by (v tt)
  where
    by : (x : Verdict) → elim x [ Ok tt ↦ in_turn vs | Err refusal ↦ Err refusal ] ≡ after x (in_turn vs)
    by (Ok tt) = refl
    by (Err refusal) = refl

both : (v w : Unit {0} → Verdict) → in_turn (v ∷ w ∷ []) ≡ after (v tt) (w tt)
both v w = turn_after v (w ∷ []) ∙ ap (after (v tt)) (last_turn w)

examined_is : (b : List ℕ) → examined b ≡ after (laid_out_of (layout b)) (after (shape (records_of b) (length b)) (typing (records_of b)))
unfolding examined checked_records
examined_is b = both _ _ ∙ ap (after (laid_out_of (layout b))) (both _ _)

module _ (b : List ℕ) (work report : ℕ) where
  abbrev lengths : Verdict
  lengths = after (require (leb work_length work) Refusal.ShortWorkArea 0) (require (leb report_length report) Refusal.ShortReport 0)

  verdict_is : verdict b work report ≡ after (require (leb (length b) image_limit) Refusal.ImageTooLong 0) (after (examined b) lengths)
  unfolding verdict
  verdict_is =
      let s : Verdict = shape (records_of b) (length b) in
      let t : Verdict = typing (records_of b) in
      let inner : in_turn ((λ u. laid_out_of (layout b)) ∷ (λ u. s) ∷ (λ u. t) ∷ (λ u. require (leb work_length work) Refusal.ShortWorkArea 0) ∷ (λ u. require (leb report_length report) Refusal.ShortReport 0) ∷ [])
      ≡ after (laid_out_of (layout b)) (after s (after t lengths)) =
      turn_after _ _ ∙ ap (after (laid_out_of (layout b))) (turn_after _ _ ∙ ap (after s) (turn_after _ _ ∙ ap (after t) (both _ _))) in
      let joined : after (laid_out_of (layout b)) (after s (after t lengths)) ≡ after (examined b) lengths =
      ap (after (laid_out_of (layout b))) (sym (after_after s t lengths)) ∙ sym (after_after (laid_out_of (layout b)) (after s t) lengths) ∙ ap (λ x. after x lengths) (sym (examined_is b)) in
      turn_after _ _ ∙ ap (after (require (leb (length b) image_limit) Refusal.ImageTooLong 0)) (inner ∙ joined)

  pub too_long : image_limit < length b → refused_at Refusal.ImageTooLong 0 ≡ verdict b work report
  too_long h = rw (verdict_is, lt-leb _ _ h) refl

  -- An image that is not too long.
  module _ (short : length b ≤ image_limit) where
    short_is : verdict b work report ≡ after (examined b) lengths
    short_is = rw (verdict_is, le-leb _ _ short) refl

    pub examined_refuses : (v : Verdict) → v ≡ examined b → is_err v ≡ true → v ≡ verdict b work report
    examined_refuses (Ok tt) e h = absurd (true≢false (sym h))
    examined_refuses (Err refusal) e h = rw (short_is, sym e) refl

    accepts : (v : Verdict) → v ≡ examined b → is_err v ≡ false → verdict b work report ≡ lengths
    accepts (Ok tt) e h = rw (short_is, sym e) refl
    accepts (Err refusal) e h = absurd (true≢false h)

    pub short_work : (v : Verdict) → v ≡ examined b → is_err v ≡ false → work < work_length → refused_at Refusal.ShortWorkArea 0 ≡ verdict b work report
    short_work v e h l = rw (accepts v e h, lt-leb _ _ l) refl

    pub short_report : (v : Verdict) → v ≡ examined b → is_err v ≡ false → work_length ≤ work → report < report_length → refused_at Refusal.ShortReport 0 ≡ verdict b work report
    short_report v e h w l = rw (accepts v e h, le-leb _ _ w, lt-leb _ _ l) refl

    pub all_enough : (v : Verdict) → v ≡ examined b → is_err v ≡ false → work_length ≤ work → report_length ≤ report → (Ok tt) ≡ verdict b work report
    all_enough v e h w l = rw (accepts v e h, le-leb _ _ w, le-leb _ _ l) refl

-- The image is accepted where work area and report are long enough.
pub accepted : (b : List ℕ) → length b ≤ image_limit → examined b ≡ Ok tt → verdict b work_length report_length ≡ Ok tt
accepted b short ok = sym (all_enough b work_length report_length short (Ok tt) (sym ok) refl (omega arith) (omega arith))
