-- A call, by its verdict.
use Rattle.std.specs.Prelude.{Ok}
use Prim.Native.Nat.{ℕ, ◌<◌}
use mathlib.Core.Path.{◌≡◌, sym, ap, subst, ◌∙◌}
use mathlib.Core.List.{List}
use lib.ListN.{length, get_or, drop, replicate, length-replicate, get_or-replicate, get_or-append}
use Rattle.calculus.specs.Run.{Ended}
use Rattle.image.specs.declared.Refusal.{Refusal}
use Rattle.image.specs.Limits.{work_length}
use Rattle.verdict.specs.Answers.{Verdict, refused_at}
use Rattle.verdict.specs.Verdicts.{verdict}
use Rattle.base_bytes.specs.Bytes.{cleared}
use Rattle.call_spec.specs.Runs.{run_of}
use Rattle.call_spec.specs.Calls.{refused_answer, left_by, after_verdict, called}

module _ (b frame : List ℕ) (budget : ℕ) (log report work : List ℕ) where
  by_verdict : (v : Verdict) → verdict b (length work) (length report) ≡ v → called b frame budget log report work ≡ after_verdict v (run_of b frame budget log) log report work
  unfolding called
  by_verdict v h = ap (λ x. after_verdict x (run_of b frame budget log) log report work) h

  -- A call that is refused has its number and place, and all lent memory is "left as it was".
  pub refused_leaves : (r : Refusal) (place : ℕ) → verdict b (length work) (length report) ≡ refused_at r place
      → called b frame budget log report work ≡ record { answer = refused_answer r place; log = log; report = report; work = work }
  refused_leaves r place h = by_verdict (refused_at r place) h

  -- A call that is accepted leaves what the calculus's run says.
  pub accepted_leaves : verdict b (length work) (length report) ≡ Ok tt → called b frame budget log report work ≡ left_by (run_of b frame budget log) log report work
  accepted_leaves h = by_verdict (Ok tt) h

-- A run leaves "the work area zero over its published length": each of its bytes, to the last one.
pub work_zero : (E : Ended) (log report work : List ℕ) (i d : ℕ) → i < work_length → get_or (left_by E log report work).work i d ≡ 0
unfolding cleared
work_zero E log report work i d h =
    get_or-append (replicate work_length 0) (drop work_length work) d i (subst (i <◌) (sym (length-replicate {A = ℕ} work_length 0)) h)
    ∙ get_or-replicate work_length i 0 d h
