-- The verdict on an image: refusals 1 to 18, in their order (document 01, "Turned back at the gate").
use Rattle.std.specs.Prelude.{ℕ, List, [], ◌∷◌, length, leb, Ok}
use Rattle.image.specs.declared.Refusal.{Refusal}
use Rattle.image.specs.Limits.{image_limit, work_length, report_length}
use Rattle.image.specs.Layout.{Scan, stopped, laid, layout, records_of}
use Rattle.verdict.specs.Answers.{require, in_turn, Verdict, refused_at}
use Rattle.verdict.specs.Shape.{shape}
use Rattle.verdict.specs.Check.{typing}

-- 2 to 8.
abbrev pub laid_out_of : Scan → Verdict
laid_out_of (stopped r place) = refused_at r place
laid_out_of (laid L) = Ok tt

-- What the validator answers of an image, a work area of so many bytes and a report of so many.
unfoldable pub verdict : List ℕ → ℕ → ℕ → Verdict
verdict b work report =
    in_turn
    ((λ u. require (leb (length b) image_limit) Refusal.ImageTooLong 0)
    ∷ (λ u. laid_out_of (layout b))
    ∷ (λ u. shape (records_of b) (length b))
    ∷ (λ u. typing (records_of b))
    ∷ (λ u. require (leb work_length work) Refusal.ShortWorkArea 0)
    ∷ (λ u. require (leb report_length report) Refusal.ShortReport 0)
    ∷ [])
