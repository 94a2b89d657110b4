-- A call: what is refused writes nothing, and what is accepted leaves what the run leaves.
use Rattle.std.specs.Prelude.{Ok}
use Prim.Native.Nat.{ℕ}
use mathlib.Core.Path.{◌≡◌, sym, ◌∙◌}
use mathlib.Core.List.{List}
use lib.ListN.{length}
use Rattle.image.specs.declared.Refusal.{Refusal}
use Rattle.image.specs.Limits.{work_length}
use Rattle.verdict.specs.Answers.{refused_at}
use Rattle.verdict.specs.Verdicts.{verdict}
use Rattle.base_bytes.specs.Bytes.{cleared}
use Rattle.call_spec.specs.declared.Answer.{Answer}
use Rattle.call_spec.specs.Runs.{run_of}
use Rattle.call_spec.specs.Calls.{refused_answer, left_by, called}
use Rattle.call_spec.proofs.Called.{refused_leaves, accepted_leaves}

module _ (b frame : List ℕ) (budget : ℕ) (log report work : List ℕ) where
  pub refusal_left : (r : Refusal) (place : ℕ) (a : Answer) → verdict b (length work) (length report) ≡ refused_at r place → a ≡ refused_answer r place
      → record { answer = a; log = log; report = report; work = work } ≡ called b frame budget log report work
  refusal_left r place a e d = (λ i. record { answer = d i; log = log; report = report; work = work }) ∙ sym (refused_leaves b frame budget log report work r place e)

  -- The run leaves work', which is then cleared.
  pub run_called : (a : Answer) (log' report' work' work'' : List ℕ) → verdict b (length work) (length report) ≡ Ok tt
      → record { answer = a; log = log'; report = report'; work = cleared work_length work' } ≡ left_by (run_of b frame budget log) log report work → work'' ≡ cleared work_length work'
      → record { answer = a; log = log'; report = report'; work = work'' } ≡ called b frame budget log report work
  run_called a log' report' work' work'' e d w = (λ i. record { answer = a; log = log'; report = report'; work = w i }) ∙ d ∙ sym (accepted_leaves b frame budget log report work e)
