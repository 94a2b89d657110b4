-- A call that writes the fixed form, from its verdict.
use Rattle.std.specs.Prelude.{Ok, Err}
use Prim.Native.Nat.{ℕ, ◌≤◌, ◌<◌}
use native.Mathlib.Omega.{arith}
use mathlib.Core.Path.{◌≡◌, refl, sym, ap, ◌∙◌}
use mathlib.Core.List.{List}
use lib.ListN.{length}
use borrow.Author.Tests.{lt-ltb, le-ltb}
use Rattle.image.specs.declared.Refusal.{Refusal}
use Rattle.image.specs.declared.Refused.{Refused}
use Rattle.image.specs.Limits.{image_limit, work_length, report_length}
use Rattle.image.specs.Layout.{records_of}
use Rattle.image.proofs.Laid.{layout_good}
use Rattle.verdict.specs.Verdicts.{verdict}
use Rattle.verdict.proofs.Passed.{passed_iff}
use Rattle.validator_core.specs.Examined.{examined}
use Rattle.validator_core.proofs.Stages.{too_long, examined_refuses, accepted}
use Rattle.base_bytes.specs.Bytes.{over}
use Rattle.image_written.specs.Written.{fixed}
use Rattle.image_written.proofs.Sizes.{few_terms}
use Rattle.image_written.proofs.Fixed.{fixed_short}
use Rattle.write_image.specs.Fits.{Fits}
use Rattle.write_fixed.specs.declared.FixedError.{FixedError}
use Rattle.write_fixed.specs.Calls.{after_check, fixed_call}

-- Its fixed form fits where the image does.
pub accepted_fits : (b : List ℕ) (n : ℕ) → length b ≤ image_limit → examined b ≡ Ok tt → length b ≤ n → Fits b n
accepted_fits b n short ok h =
    let A = accepted b short ok in
    let a = (passed_iff b work_length report_length).0 A in
    let g = layout_good b (records_of b) a.laid_out in
    let s = fixed_short b work_length report_length A in
    let f = few_terms (records_of b) g a.shaped.used a.shaped.has_terms in
    let l = g.few_terms in
    record { has_terms = a.shaped.has_terms; few_terms = omega arith; capacity = omega arith }

module _ (b out : List ℕ) where
  refused : (x : Refused) → Err x ≡ verdict b work_length report_length → record { answer = Err (FixedError.Refused x); out = out } ≡ fixed_call b out
  unfolding fixed_call
  refused x e = ap (λ v. after_check v b out) e

  pub too_long_left : image_limit < length b → record { answer = Err (FixedError.Refused (record { why = Refusal.ImageTooLong; place = 0 })); out = out } ≡ fixed_call b out
  too_long_left h = refused (record { why = Refusal.ImageTooLong; place = 0 }) (too_long b work_length report_length h)

  module _ (short : length b ≤ image_limit) where
    pub examined_left : (x : Refused) → Err x ≡ examined b → record { answer = Err (FixedError.Refused x); out = out } ≡ fixed_call b out
    examined_left x e = refused x (examined_refuses b work_length report_length short (Err x) e refl)

    module _ (ok : examined b ≡ Ok tt) where
      checked : after_check (Ok tt) b out ≡ fixed_call b out
      unfolding fixed_call
      checked = ap (λ v. after_check v b out) (sym (accepted b short ok))

      pub short_left : length out < length b → record { answer = Err FixedError.ShortOutput; out = out } ≡ fixed_call b out
      short_left h = rest ∙ checked
        where
          rest : record { answer = Err FixedError.ShortOutput; out = out } ≡ after_check (Ok tt) b out
          rest = simp (lt-ltb _ _ h)

      pub written_left : (n : ℕ) (out' : List ℕ) → length b ≤ length out → n ≡ length (fixed b) → out' ≡ over 0 (fixed b) out → record { answer = Ok n; out = out' } ≡ fixed_call b out
      written_left n out' h e f = (λ i. record { answer = Ok (e i); out = f i }) ∙ rest ∙ checked
        where
          rest : record { answer = Ok (length (fixed b)); out = over 0 (fixed b) out } ≡ after_check (Ok tt) b out
          rest = simp (le-ltb _ _ h)
