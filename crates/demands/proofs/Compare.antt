-- Demand 3 for runs of the calculus, and for the bytes that they write: two accepted images that differ only in low bodies (document 01, "Two runs compared").
use Prim.Native.Nat.{ℕ}
use native.Mathlib.Omega.{arith}
use mathlib.Core.Path.{◌≡◌, refl, sym, subst, ◌∙◌}
use mathlib.Core.Bool.{Bool}
use mathlib.Core.List.{List}
use Rattle.calculus.specs.Syntax.{Dom}
use Rattle.calculus.specs.Typing.{Policy}
use Rattle.calculus.specs.Accepted.{Accepted}
use Rattle.calculus.specs.Blank.{blank}
use Rattle.image.specs.Layout.{records_of}
use Rattle.image.specs.Program.{to_tm, blanked}
use Rattle.image.proofs.Blanked.{same_but_low}
use Rattle.verdict.specs.Domains.{policy}
use Rattle.verdict.proofs.Passed.{passed_iff}
use Rattle.verdict.proofs.Accept.{accepted_good, accepted_order}
use Rattle.verdict.proofs.Order.{leq_same}
use Rattle.calculus_noninterference.specs.Observe.{Highs, Same}
use Rattle.calculus_noninterference.proofs.Theorem.{demand3}
use Rattle.demands.specs.SameBytes.{SameBytes}
use Rattle.report.specs.OfRun.{written_log, written_report}
use Rattle.report.specs.Fits.{by_field}
use Rattle.demands.proofs.AcceptedBytes.{demand3_bytes}
use Rattle.call_spec.specs.Runs.{Accepts, program_of, given_by, run_of}
use Rattle.demands.specs.Compare.{Compared}
use Rattle.call_spec.proofs.Accepted.{transitive, typed}
use Rattle.demands.proofs.ByField.{small_field, program_same}

-- The program of an accepted image names no domain that its 2 bytes could change.
program_by_field : (high : Dom → Bool) (b : List ℕ) → Accepts b → blanked (by_field high) (program_of b) ≡ blanked high (program_of b)
program_by_field high b A =
    program_same (by_field high) high (small_field high) (records_of b) (accepted_good b A.work A.report A.verdict_is) ((passed_iff b A.work A.report).0 A.verdict_is).shaped.has_terms

module _ (high : Dom → Bool) (b b' : List ℕ) (A : Accepts b) (A' : Accepts b') (C : Compared high b b') where
  highs : Highs (policy (records_of b)) high
  highs = record {
    mainline = C.highs.mainline;
    up = λ d q h l. (let t = (accepted_order b A.work A.report A.verdict_is).there d q l in C.highs.up d q t.0 t.1 h l);
  }

  pub highs_by_field : Highs (policy (records_of b)) (by_field high)
  highs_by_field = record {
    mainline = C.highs.mainline;
    up = λ d q h l.
        let t = (accepted_order b A.work A.report A.verdict_is).there d q l in
        let few = (accepted_good b A.work A.report A.verdict_is).few_domains in
        let d_small = t.0 in
        let q-small = t.1 in
        small_field high q (omega arith) ∙ highs.up d q (sym (small_field high d (omega arith)) ∙ h) l;
  }

  same_order : policy (records_of b) ≡ policy (records_of b')
  same_order = λ i. record { leq = λ d q. leq_same (records_of b) (records_of b') C.domains d q i }

  -- The right image's program, typed by the left one's order, which is the same.
  right_typed : Accepted (policy (records_of b)) (to_tm (program_of b'))
  right_typed = subst (λ (D : Policy). Accepted D (to_tm (program_of b'))) (sym same_order) (typed b' A')

  pub demand3_images : (frame : List ℕ) (budget budget' : ℕ) (log log' : List ℕ) → Same high (run_of b frame budget log) (run_of b' frame budget' log')
  demand3_images frame budget budget' log log' =
      demand3 (policy (records_of b)) high (transitive b A) highs (to_tm (program_of b)) (to_tm (program_of b')) (typed b A) right_typed
      (same_but_low high (program_of b) (program_of b') C.programs) (given_by frame log) (given_by frame log') refl budget budget'

  alike_by_field : blank (by_field high) (to_tm (program_of b)) ≡ blank (by_field high) (to_tm (program_of b'))
  alike_by_field = same_but_low (by_field high) (program_of b) (program_of b') (program_by_field high b A ∙ (C.programs ∙ sym (program_by_field high b' A')))

  -- The same of the domains as their 2 bytes have them.
  pub demand3_by_field : (frame : List ℕ) (budget budget' : ℕ) (log log' : List ℕ) → Same (by_field high) (run_of b frame budget log) (run_of b' frame budget' log')
  demand3_by_field frame budget budget' log log' =
      demand3 (policy (records_of b)) (by_field high) (transitive b A) highs_by_field (to_tm (program_of b)) (to_tm (program_of b')) (typed b A) right_typed alike_by_field (given_by frame log) (given_by frame log') refl budget budget'

  pub demand3_written : (frame : List ℕ) (budget budget' : ℕ) (log log' : List ℕ)
      → SameBytes high (written_log (run_of b frame budget log)) (written_log (run_of b' frame budget' log')) (written_report (run_of b frame budget log)) (written_report (run_of b' frame budget' log'))
  demand3_written frame budget budget' log log' =
      demand3_bytes (policy (records_of b)) high (transitive b A) highs_by_field (to_tm (program_of b)) (to_tm (program_of b')) (typed b A) right_typed alike_by_field
      (given_by frame log) (given_by frame log') refl budget budget'
