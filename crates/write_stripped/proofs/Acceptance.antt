-- A call that writes an image without its watches, from its verdict.
use Rattle.std.specs.Prelude.{Ok, Err}
use Prim.Native.Nat.{ℕ, ◌≤◌, ◌<◌}
use mathlib.Core.Path.{◌≡◌, refl, sym, ap, ◌∙◌}
use mathlib.Core.Bool.{true, false}
use mathlib.Core.List.{List}
use lib.ListN.{length}
use borrow.Author.Tests.{lt-ltb, le-ltb}
use Rattle.image.specs.declared.Refusal.{Refusal}
use Rattle.image.specs.declared.Refused.{Refused}
use Rattle.image.specs.Limits.{image_limit, work_length, report_length}
use Rattle.image.specs.Layout.{records_of}
use Rattle.verdict.specs.Verdicts.{verdict}
use Rattle.validator_core.specs.Examined.{examined}
use Rattle.validator_core.proofs.Stages.{too_long, examined_refuses, accepted}
use Rattle.base_bytes.specs.Bytes.{over}
use Rattle.image_written.specs.Stripped.{without_watches}
use Rattle.write_masks.specs.Masks.{in_mask}
use Rattle.write_stripped.specs.declared.StripError.{StripError}
use Rattle.write_stripped.specs.Calls.{wrong_set, after_check, stripped_call}

module _ (b : List ℕ) (mask : ℕ) (out : List ℕ) where
  refused : (x : Refused) → Err x ≡ verdict b work_length report_length → record { answer = Err (StripError.Refused x); out = out } ≡ stripped_call b mask out
  unfolding stripped_call
  refused x e = ap (λ v. after_check v b mask out) e

  pub too_long_left : image_limit < length b → record { answer = Err (StripError.Refused (record { why = Refusal.ImageTooLong; place = 0 })); out = out } ≡ stripped_call b mask out
  too_long_left h = refused (record { why = Refusal.ImageTooLong; place = 0 }) (too_long b work_length report_length h)

  module _ (short : length b ≤ image_limit) where
    pub examined_left : (x : Refused) → Err x ≡ examined b → record { answer = Err (StripError.Refused x); out = out } ≡ stripped_call b mask out
    examined_left x e = refused x (examined_refuses b work_length report_length short (Err x) e refl)

    module _ (ok : examined b ≡ Ok tt) where
      checked : after_check (Ok tt) b mask out ≡ stripped_call b mask out
      unfolding stripped_call
      checked = ap (λ v. after_check v b mask out) (sym (accepted b short ok))

      pub wrong_left : wrong_set (records_of b) mask ≡ true → record { answer = Err StripError.WrongSet; out = out } ≡ stripped_call b mask out
      wrong_left h = rest ∙ checked
        where
          rest : record { answer = Err StripError.WrongSet; out = out } ≡ after_check (Ok tt) b mask out
          rest = rw h refl

      module _ (right : wrong_set (records_of b) mask ≡ false) where
        pub short_left : length out < length b → record { answer = Err StripError.ShortOutput; out = out } ≡ stripped_call b mask out
        short_left h = rest ∙ checked
          where
            rest : record { answer = Err StripError.ShortOutput; out = out } ≡ after_check (Ok tt) b mask out
            rest = rw (right, lt-ltb _ _ h) refl

        pub written_left : (n : ℕ) (out' : List ℕ) → length b ≤ length out → n ≡ length (without_watches (in_mask mask) b) → out' ≡ over 0 (without_watches (in_mask mask) b) out → record { answer = Ok n; out = out' } ≡ stripped_call b mask out
        written_left n out' h e f = (λ i. record { answer = Ok (e i); out = f i }) ∙ rest ∙ checked
          where
            rest : record { answer = Ok (length (without_watches (in_mask mask) b)); out = over 0 (without_watches (in_mask mask) b) out } ≡ after_check (Ok tt) b mask out
            rest = rw (right, le-ltb _ _ h) refl
