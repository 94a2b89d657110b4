-- The bench sheet's call (document 01, "Bench sheet").
use Rattle.std.specs.Prelude.{ℕ, zero, suc, ◌≡◌, List, [], ◌∷◌, ◌++◌, length, replicate}
use Rattle.image.specs.Limits.{work_length, report_length}
use Rattle.base_bytes.specs.Bytes.{over}
use Rattle.call_spec.specs.Calls.{Left, called}
use Rattle.listing.specs.Listing.{listing, listing_bound}
use Rattle.listing_lines.specs.Puts.{Front}

-- The first n numbers, in order.
unfoldable pub up_to : ℕ → List ℕ
up_to zero = []
up_to (suc n) = up_to n ++ (n ∷ [])

-- "Its frame is the 256 bytes 0 to 255 in order", "budget 100,000, log 16,384 bytes".
abbrev pub conformance_frame : List ℕ
conformance_frame = up_to 256

abbrev pub conformance_budget : ℕ
conformance_budget = 100000

abbrev pub conformance_log_length : ℕ
conformance_log_length = 16384

abbrev pub zeros : ℕ → List ℕ
zeros n = replicate n 0

-- The call of an image with a budget. Report and work area are as long as they must be, and all memory lent to be written is zero.
unfoldable pub conformance_call : List ℕ → ℕ → Left
conformance_call b budget = called b conformance_frame budget (zeros conformance_log_length) (zeros report_length) (zeros work_length)

-- What `watch` prints of it.
abbrev pub listing_of : Left → List ℕ
listing_of X = listing X.answer X.log X.report

abbrev pub conformance_listing : List ℕ → ℕ → List ℕ
conformance_listing b budget = listing_of (conformance_call b budget)

-- How long such a listing can be.
abbrev pub conformance_listing_length : ℕ
conformance_listing_length = listing_bound conformance_log_length report_length

-- A listing at the front of a buffer xs, which then is ys; n is its length.
pub record Listed (xs text ys : List ℕ) (n : ℕ) : Type 0 where
  pub bytes : ys ≡ over 0 text xs
  pub size : n ≡ length text
  pub front : Front n ys
