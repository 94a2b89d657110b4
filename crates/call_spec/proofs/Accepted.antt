-- An accepted image's program is accepted by the calculus, and its domains are ordered as type safety asks.
use Rattle.std.specs.Prelude.{Ok}
use Prim.Native.Nat.{ℕ, ◌≤◌}
use mathlib.Core.Path.{◌≡◌}
use mathlib.Core.List.{List}
use Rattle.calculus.specs.Accepted.{Transitive, Accepted}
use Rattle.image.specs.Limits.{work_length, report_length}
use Rattle.image.specs.Layout.{records_of}
use Rattle.image.specs.Types.{root_type}
use Rattle.image.specs.Program.{to_tm}
use Rattle.verdict.specs.Verdicts.{verdict}
use Rattle.verdict.specs.Domains.{policy}
use Rattle.verdict.proofs.Accept.{accepted_typed, accepted_plain, accepted_order}
use Rattle.verdict.proofs.Passed.{passed_iff}
use Rattle.call_spec.specs.Runs.{Accepts, program_of}

module _ (b : List ℕ) (A : Accepts b) where
  pub transitive : Transitive (policy (records_of b))
  transitive = (accepted_order b A.work A.report A.verdict_is).transitive

  pub typed : Accepted (policy (records_of b)) (to_tm (program_of b))
  typed = record {
    type = root_type (records_of b);
    typed = accepted_typed b A.work A.report A.verdict_is;
    plain = accepted_plain b A.work A.report A.verdict_is;
  }

  -- It is accepted with any lent memory that is long enough.
  pub accepted_with : (work report : ℕ) → work_length ≤ work → report_length ≤ report → verdict b work report ≡ Ok tt
  accepted_with work report w r =
      let p = (passed_iff b A.work A.report).0 A.verdict_is in
      (passed_iff b work report).1 (record { short = p.short; laid_out = p.laid_out; shaped = p.shaped; well_typed = p.well_typed; plain = p.plain; work_enough = w; report_enough = r })
