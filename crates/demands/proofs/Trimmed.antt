-- Card 1 of document 02: an image that meets none of the refusals 1 to 4 and its trimmed form get the same verdict and the same run; only places move (specs/Trimmed.antt).
use Rattle.std.specs.Prelude.{Ok, Err}
use Prim.Native.Nat.{ℕ}
use mathlib.Core.Path.{◌≡◌, refl, ap, ◌∙◌}
use mathlib.Core.List.{List}
use lib.ListN.{length}
use Rattle.calculus.specs.State.{fresh}
use Rattle.calculus.specs.Run.{run}
use Rattle.image.specs.Program.{to_tm}
use Rattle.verdict.specs.Answers.{Verdict, refused_at}
use Rattle.verdict.specs.Verdicts.{verdict}
use Rattle.image_trimmed.specs.Trimmed.{ReadableImage, trimmed, trimmed_place}
use Rattle.image_trimmed.specs.Places.{map_place}
use Rattle.image_trimmed.proofs.Theorem.{trimmed_records, trimmed_verdict, trimmed_program}
use Rattle.call_spec.specs.Runs.{given_by, run_of}
use Rattle.call_spec.specs.Calls.{after_verdict, called}
use Rattle.demands.specs.Calls.{Runs}
use Rattle.demands.specs.Trimmed.{left_moved, Card1}

module _ (b : List ℕ) (R : ReadableImage b) (frame : List ℕ) (budget : ℕ) (log report work : List ℕ) where
  run_same : Runs b report work → run_of (trimmed b) frame budget log ≡ run_of b frame budget log
  run_same h = ap (λ P. run budget (given_by frame log) 0 fresh (to_tm P)) (trimmed_program b R (length work) (length report) h)

  call_same : called (trimmed b) frame budget log report work ≡ left_moved (trimmed_place b) (called b frame budget log report work)
  unfolding called
  call_same = go (verdict b (length work) (length report)) refl
    where
      moves : verdict (trimmed b) (length work) (length report) ≡ map_place (trimmed_place b) (verdict b (length work) (length report))
      moves = trimmed_verdict b R (length work) (length report)

      go : (v : Verdict) → verdict b (length work) (length report) ≡ v → called (trimmed b) frame budget log report work ≡ left_moved (trimmed_place b) (called b frame budget log report work)
      go (Ok tt) e =
          let z : verdict (trimmed b) (length work) (length report) ≡ Ok tt = moves ∙ ap (map_place (trimmed_place b)) e in
          rw (z, e) (ap (λ E. after_verdict (Ok tt) E log report work) (run_same e))
      go (Err refusal) e =
          let z : verdict (trimmed b) (length work) (length report) ≡ refused_at refusal.why (trimmed_place b refusal.place) = moves ∙ ap (map_place (trimmed_place b)) e in
          rw (z, e) refl

pub card1 : (b : List ℕ) → ReadableImage b → Card1 b
card1 b R =
    record {
      records = trimmed_records b R;
      same_verdict = λ work report. trimmed_verdict b R work report;
      same_run = λ frame budget log report work h. run_same b R frame budget log report work h;
      same_call = λ frame budget log report work. call_same b R frame budget log report work;
    }
