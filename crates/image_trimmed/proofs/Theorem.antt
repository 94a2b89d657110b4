-- Two images with the same records by their known fields get the same verdict, but for places, and have the same program; so do an image that meets none of 1 to 4 and its trimmed form (document 02, card 1).
use Rattle.std.specs.Prelude.{Ok}
use Prim.Native.Nat.{ℕ, ◌≤◌}
use native.Mathlib.Omega.{arith}
use mathlib.Core.Path.{◌≡◌, refl, sym, ap, ◌∙◌}
use mathlib.Core.List.{List}
use lib.ListN.{length}
use lib.Dec.{leb}
use Rattle.image.specs.declared.Refusal.{Refusal}
use Rattle.image.specs.Limits.{image_limit, work_length, report_length}
use Rattle.image.specs.Layout.{Scan, layout, records_of}
use Rattle.image.specs.Program.{program}
use Rattle.laws.proofs.Booleans.{of_le}
use Rattle.image.proofs.Laid.{layout_good, records_of_lem}
use Rattle.verdict.specs.Answers.{require, refused_at}
use Rattle.verdict.specs.Shape.{shape}
use Rattle.verdict.specs.Check.{typing}
use Rattle.verdict.specs.Verdicts.{laid_out_of, verdict}
use Rattle.verdict.proofs.Answered.{not_refused, in_turn_lem}
use Rattle.verdict.proofs.Passed.{shape_accepts}
use Rattle.image_trimmed.specs.SameRecords.{SameFrom, ends, next, SameRecords}
use Rattle.image_trimmed.specs.Trimmed.{ReadableImage, trimmed, trimmed_place}
use Rattle.image_trimmed.specs.Places.{map_place}
use Rattle.image_trimmed.proofs.Layouts.{ScanAlike, both_stopped, both_laid, layouts_alike}
use Rattle.image_trimmed.proofs.Programs.{program_same}
use Rattle.image_trimmed.proofs.Verdicts.{turn, no_more, require_moved, shape_same, typing_same}
use Rattle.image_trimmed.proofs.Trimmed.{trimmed_short, trimmed_same}

module _ (b c : List ℕ) (place : ℕ → ℕ) where
  end_place : {o : ℕ} → SameFrom b c place o → place (length b) ≡ length c
  end_place (ends o e d) = ap place (sym e) ∙ d
  end_place (next o S s F) = end_place F

  module _ (R : SameRecords b c place) (short : length b ≤ image_limit) (short' : length c ≤ image_limit) (work report : ℕ) where
    -- The same verdict: "only places move".
    pub verdict_same : verdict c work report ≡ map_place place (verdict b work report)
    unfolding verdict
    verdict_same = go refl refl (layouts_alike b c place R)
      where
        origin : 0 ≡ place 0
        origin = sym R.start

        first : require (leb (length c) image_limit) Refusal.ImageTooLong 0 ≡ map_place place (require (leb (length b) image_limit) Refusal.ImageTooLong 0)
        first = rw (of_le short, of_le short') refl

        go : {x y : Scan} → layout b ≡ x → layout c ≡ y → ScanAlike b c place x y → verdict c work report ≡ map_place place (verdict b work report)
        go e f (both_stopped r o) =
            turn place _ _ _ _ first (λ _.
            turn place _ _ _ _ (ap laid_out_of f ∙ ap (λ s. map_place place (laid_out_of s)) (sym e)) (λ h.
            let z : refused_at r o ≡ Ok tt = ap laid_out_of (sym e) ∙ h in not_refused z))
        go e f (both_laid L M A) =
            let G = layout_good b L e in
            let l = records_of_lem b L e in
            let m = records_of_lem c M f in
            turn place _ _ _ _ first (λ _.
            turn place _ _ _ _ (ap laid_out_of f ∙ ap (λ s. map_place place (laid_out_of s)) (sym e)) (λ _.
            turn place _ _ _ _ (ap (λ K. shape K (length c)) m ∙ (shape_same A G (length b) (length c) (sym (end_place R.each)) ∙ ap (λ K. map_place place (shape K (length b))) (sym l))) (λ h.
            turn place _ _ _ _ (ap typing m ∙ (typing_same A G ((shape_accepts L (length b)).0 (ap (λ K. shape K (length b)) (sym l) ∙ h)).has_terms ∙ ap (λ K. map_place place (typing K)) (sym l))) (λ _.
            turn place _ _ _ _ (require_moved place (leb work_length work) Refusal.ShortWorkArea 0 0 origin) (λ _.
            turn place _ _ _ _ (require_moved place (leb report_length report) Refusal.ShortReport 0 0 origin) (λ _.
            no_more place))))))

    -- The same program, of an image that is accepted.
    pub programs_same : verdict b work report ≡ Ok tt → program (records_of c) ≡ program (records_of b)
    unfolding verdict
    programs_same h = go refl refl (layouts_alike b c place R)
      where
        h2 : (laid_out_of (layout b) ≡ Ok tt) × (shape (records_of b) (length b) ≡ Ok tt)
        h2 = let z = in_turn_lem _ _ (in_turn_lem _ _ h).1 in (z.0, (in_turn_lem _ _ z.1).0)

        go : {x y : Scan} → layout b ≡ x → layout c ≡ y → ScanAlike b c place x y → program (records_of c) ≡ program (records_of b)
        go e f (both_stopped r o) = let z : refused_at r o ≡ Ok tt = ap laid_out_of (sym e) ∙ h2.0 in not_refused z
        go e f (both_laid L M A) =
            let l = records_of_lem b L e in
            ap program (records_of_lem c M f) ∙ (program_same A (layout_good b L e) ((shape_accepts L (length b)).0 (ap (λ K. shape K (length b)) (sym l) ∙ h2.1)).has_terms ∙ ap program (sym l))

-- "An image that meets none of refusals 1 to 4, and its form trimmed to known fields, get the same verdict."
module _ (b : List ℕ) (R : ReadableImage b) where
  pub trimmed_records : SameRecords b (trimmed b) (trimmed_place b)
  trimmed_records = trimmed_same b R.records

  short' : length (trimmed b) ≤ image_limit
  short' = let z = trimmed_short b R.records in let y = R.short in omega arith

  module _ (work report : ℕ) where
    pub trimmed_verdict : verdict (trimmed b) work report ≡ map_place (trimmed_place b) (verdict b work report)
    trimmed_verdict = verdict_same b (trimmed b) (trimmed_place b) trimmed_records R.short short' work report

    pub trimmed_program : verdict b work report ≡ Ok tt → program (records_of (trimmed b)) ≡ program (records_of b)
    trimmed_program h = programs_same b (trimmed b) (trimmed_place b) trimmed_records R.short short' work report h
