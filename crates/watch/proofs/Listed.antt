-- The listing of the sheet's call, whole at the front of a buffer.
use Prim.Native.Nat.{ℕ, ◌≤◌}
use native.Mathlib.Omega.{arith}
use mathlib.Core.Path.{◌≡◌, ap, ◌∙◌}
use mathlib.Core.List.{List}
use lib.ListN.{length}
use Rattle.image.specs.Limits.{work_length, report_length}
use Rattle.call_spec.specs.declared.Answer.{Answer}
use Rattle.call_spec.specs.Calls.{called}
use Rattle.listing.specs.Listing.{listing, listing_bound}
use Rattle.listing_lines.specs.Puts.{PutsWithin}
use Rattle.listing.specs.Conformance.{conformance_frame, conformance_log_length, zeros, conformance_call, conformance_listing, conformance_listing_length, listing_of, Listed}
use Rattle.listing_lines.proofs.Puts.{fits_whole}

module _ (b frame : List ℕ) (budget : ℕ) (e : frame ≡ conformance_frame) (a : Answer) (log report work : List ℕ) (run : record { answer = a; log = log; report = report; work = work } ≡ called b frame budget (zeros conformance_log_length) (zeros report_length) (zeros work_length)) where
  -- What the call answered and left is the sheet's.
  conformance_call_lem : record { answer = a; log = log; report = report; work = work } ≡ conformance_call b budget
  unfolding conformance_call
  conformance_call_lem = run ∙ ap (λ f. called b f budget (zeros conformance_log_length) (zeros report_length) (zeros work_length)) e

  pub conformance_listed : {xs ys : List ℕ} {n : ℕ} → length log ≡ conformance_log_length → length report ≡ report_length → conformance_listing_length ≤ length xs
      → PutsWithin (listing_bound (length log) (length report)) xs (listing a log report) ys n → Listed xs (conformance_listing b budget) ys n
  conformance_listed {xs} {ys} {n} l r h p =
      let same : listing a log report ≡ conformance_listing b budget = ap listing_of conformance_call_lem in
      let whole = fits_whole p.put (omega (arith, p.short)) in
      record { bytes = rw same at whole.0; size = (let k = ap length same in omega (arith, whole.1)); front = p.front }
