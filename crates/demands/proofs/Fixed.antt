-- Card 11: the fixed form of an image that runs.
use Rattle.std.specs.Prelude.{Ok, Err}
use Prim.Native.Nat.{ℕ, ◌≤◌}
use native.Mathlib.Omega.{arith}
use mathlib.Core.Path.{◌≡◌, sym, ap, ◌∙◌}
use mathlib.Core.List.{List}
use mathlib.Core.Logic.{◌↔◌}
use lib.ListN.{length, take}
use borrow.Author.Tests.{le-ltb}
use Rattle.calculus.specs.State.{fresh}
use Rattle.calculus.specs.Run.{run}
use Rattle.image.specs.Limits.{work_length, report_length}
use Rattle.image.specs.Program.{to_tm}
use Rattle.verdict.specs.Verdicts.{verdict}
use Rattle.verdict.proofs.Passed.{passed_iff}
use Rattle.base_bytes.specs.Bytes.{over}
use Rattle.image_written.specs.Written.{fixed}
use Rattle.image_written.proofs.Fixed.{fixed_holds, fixed_twice, fixed_short, fixed_same}
use Rattle.write_fixed.specs.Calls.{Left, after_check, fixed_call}
use Rattle.call_spec.specs.Runs.{given_by, run_of}
use Rattle.call_spec.specs.Calls.{after_verdict, called}
use Rattle.demands.specs.Calls.{Runs}
use Rattle.demands.specs.Fixed.{SameProgram, Card11}
use Rattle.demands.proofs.Written.{take_front}

module _ (b report work : List ℕ) (ok : Runs b report work) where
  module _ (frame : List ℕ) (budget : ℕ) (log : List ℕ) where
    run_same : run_of (fixed b) frame budget log ≡ run_of b frame budget log
    run_same = ap (λ e. run budget (given_by frame log) 0 fresh (to_tm e)) (fixed_holds b (length work) (length report) ok).tree

    call_same : called (fixed b) frame budget log report work ≡ called b frame budget log report work
    unfolding called
    call_same =
        ap (λ v. after_verdict v (run_of (fixed b) frame budget log) log report work) ((fixed_holds b (length work) (length report) ok).accepted ∙ sym ok)
        ∙ ap (λ E. after_verdict (verdict b (length work) (length report)) E log report work) run_same

  -- The check accepts the image for the least work area and report too.
  least : verdict b work_length report_length ≡ Ok tt
  least =
      let a = (passed_iff b (length work) (length report)).0 ok in
      (passed_iff b work_length report_length).1 (record { short = a.short; laid_out = a.laid_out; shaped = a.shaped; well_typed = a.well_typed; plain = a.plain; work_enough = omega arith; report_enough = omega arith })

  writes : (out : List ℕ) → length b ≤ length out → fixed_call b out ≡ record { answer = Ok (length (fixed b)); out = over 0 (fixed b) out }
  unfolding fixed_call
  writes out h = ap (λ v. after_check v b out) least ∙ chosen
    where
      chosen : after_check (Ok tt) b out ≡ record { answer = Ok (length (fixed b)); out = over 0 (fixed b) out }
      chosen = simp (le-ltb _ _ h)

-- What was written is told by the answer and the output.
abbrev count_of : Left → ℕ
count_of X = elim X.answer [ Ok n ↦ n | Err e ↦ 0 ]

abbrev wrote : List ℕ → List ℕ → Left
wrote xs out = record { answer = Ok (length xs); out = over 0 xs out }

same_front : (xs ys out : List ℕ) → wrote xs out ≡ wrote ys out → xs ≡ ys
same_front xs ys out e = sym (take_front xs out) ∙ ap (λ X. take (count_of X) X.out) e ∙ take_front ys out

module _ (b c report work : List ℕ) (ok : Runs b report work) (also : Runs c report work) (out : List ℕ) (h : length b ≤ length out) (k : length c ≤ length out) where
  calls_equal : fixed_call b out ≡ fixed_call c out ↔ SameProgram b c
  calls_equal =
      let s = fixed_same b c (length work) (length report) ok also in
      let x = writes b report work ok out h in
      let y = writes c report work also out k in (
        λ e. let p = s.0 (same_front (fixed b) (fixed c) out (sym x ∙ e ∙ y)) in record { domains = p.0; tree = p.1 },
        λ p. x ∙ ap (λ bs. wrote bs out) (s.1 (p.domains, p.tree)) ∙ sym y,
      )

pub card11 : (b report work : List ℕ) → Runs b report work → Card11 b report work
card11 b report work ok =
    let h = fixed_holds b (length work) (length report) ok in
    record {
      accepted = h.accepted;
      same_program = record { domains = h.domains; tree = h.tree };
      short = fixed_short b (length work) (length report) ok;
      written = writes b report work ok;
      equal = λ c also out x y. calls_equal b c report work ok also out x y;
      twice = fixed_twice b (length work) (length report) ok;
      same_run = run_same b report work ok;
      same_call = call_same b report work ok;
    }
