-- The listing of a call, by its verdict.
use Rattle.std.specs.Prelude.{Ok}
use Prim.Native.Nat.{ℕ}
use mathlib.Core.Path.{◌≡◌, sym, ap, ap₂, ◌∙◌}
use mathlib.Core.List.{List}
use lib.ListN.{take}
use Rattle.image.specs.declared.Refusal.{Refusal}
use Rattle.verdict.specs.Answers.{refused_at}
use Rattle.call_spec.specs.declared.Answer.{Answer}
use Rattle.listing_lines.specs.Lines.{refusal_line}
use Rattle.listing.specs.Listing.{run_listing, listing_by, listing}

module _ (a : Answer) (log report : List ℕ) where
  pub refusal_listed : {r : Refusal} {place : ℕ} → a.verdict ≡ refused_at r place → refusal_line r place ≡ listing a log report
  unfolding listing
  refusal_listed e = ap (λ v. listing_by v a log report) (sym e)

  pub run_listed : {written reported : List ℕ} → a.verdict ≡ Ok tt → written ≡ take a.log log → reported ≡ take a.report report → run_listing a.ending a.steps written reported ≡ listing a log report
  unfolding listing
  run_listed e f g = ap₂ (run_listing a.ending a.steps) f g ∙ ap (λ v. listing_by v a log report) (sym e)
