-- The check of a call, from the examination of its image.
use Rattle.std.specs.Prelude.{Ok, Err}
use Prim.Native.Nat.{ℕ, ◌≤◌, ◌<◌}
use native.Mathlib.Omega.{arith}
use mathlib.Core.Path.{◌≡◌, refl, sym, ap, ◌∙◌}
use mathlib.Core.List.{List}
use lib.ListN.{length}
use Rattle.image.specs.declared.Refusal.{Refusal}
use Rattle.image.specs.declared.Refused.{Refused}
use Rattle.image.specs.Limits.{image_limit, work_length, report_length}
use Rattle.verdict.specs.Answers.{Verdict}
use Rattle.verdict.specs.Verdicts.{verdict}
use Rattle.verdict.proofs.Passed.{passed_iff}
use Rattle.read_records.specs.declared.numbers.Counts.{Counts}
use Rattle.validator_core.specs.declared.call.Lent.{Lent}
use Rattle.validator_core.specs.Examined.{Checked}
use Rattle.validator_core.specs.Examined as Examined
use Rattle.validator_core.specs.Examined.{verdict_of, examined}
use Rattle.validator_core.specs.Calls.{Answered}
use Rattle.validator_core.proofs.Stages.{too_long, examined_refuses, short_work, short_report, all_enough}

-- What `check_call` answers; what the tables hold matters only if it accepts.
module _ (b : List ℕ) (lent : Lent) where
  pub refuses : (refusal : Refused) (ts ks es : List ℕ) → ◌≡◌ {A = Verdict} (Err refusal) (verdict b lent.work lent.report) → Answered b lent (Err refusal) ts ks es
  refuses refusal ts ks es e = record { answer = e; filled = λ n d. let z : ◌≡◌ {A = ℕ} 0 1 = cc in absurd (omega arith) }

  pub too_long_refused : (ts ks es : List ℕ) → image_limit < length b → Answered b lent (Err (record { why = Refusal.ImageTooLong; place = 0 })) ts ks es
  too_long_refused ts ks es h = refuses _ ts ks es (too_long b lent.work lent.report h)

  -- Of an image that is not too long, from the answer c to its examination.
  module _ (short : length b ≤ image_limit) (c : Checked) (ds ts ks es : List ℕ) (E : Examined.Answered c b ds ts ks es) where
    pub examined_refused : (refusal : Refused) → c ≡ Err refusal → Answered b lent (Err refusal) ts ks es
    examined_refused refusal e = refuses refusal ts ks es (examined_refuses b lent.work lent.report short (Err refusal) (ap verdict_of (sym e) ∙ E.answer) refl)

    module _ (n : Counts) (ok : c ≡ Ok n) where
      passed : (Ok tt) ≡ examined b
      passed = ap verdict_of (sym ok) ∙ E.answer

      pub short_work_refused : lent.work < work_length → Answered b lent (Err (record { why = Refusal.ShortWorkArea; place = 0 })) ts ks es
      short_work_refused h = refuses _ ts ks es (short_work b lent.work lent.report short (Ok tt) passed refl h)

      pub short_report_refused : work_length ≤ lent.work → lent.report < report_length → Answered b lent (Err (record { why = Refusal.ShortReport; place = 0 })) ts ks es
      short_report_refused w h = refuses _ ts ks es (short_report b lent.work lent.report short (Ok tt) passed refl w h)

      pub accepts : work_length ≤ lent.work → report_length ≤ lent.report → Answered b lent (Ok n) ts ks es
      accepts w r =
          record {
            answer = all_enough b lent.work lent.report short (Ok tt) passed refl w r;
            filled = λ m d. (ds, E.filled m (ok ∙ d));
          }

-- What the answer says of the verdict, and of lent memory.
module _ (b ts ks es : List ℕ) (lent : Lent) (c : Checked) (A : Answered b lent c ts ks es) where
  pub refused_so : (refusal : Refused) → c ≡ Err refusal → verdict b lent.work lent.report ≡ Err refusal
  refused_so refusal e = sym A.answer ∙ ap verdict_of e

  module _ (n : Counts) (e : c ≡ Ok n) where
    pub accepted_so : verdict b lent.work lent.report ≡ Ok tt
    accepted_so = sym A.answer ∙ ap verdict_of e

    pub lent_enough : (work_length ≤ lent.work) × (report_length ≤ lent.report)
    lent_enough = let h = (passed_iff b lent.work lent.report).0 accepted_so in (h.work_enough, h.report_enough)
