-- The bytes that a run of the calculus writes (document 01, "A run"), and how it ended.
use Rattle.std.specs.Prelude.{ℕ, List}
use Rattle.std.proofs.Math.Option.{Option, none, some}
use Rattle.calculus.specs.declared.Outcome.{Outcome}
use Rattle.calculus.specs.State.{log_of}
use Rattle.calculus.specs.Run.{Ended}
use Rattle.calculus.specs.Report.{outcome_number, Report, report}
use Rattle.report.specs.declared.Ending.{Ending}
use Rattle.report.specs.Written.{log_bytes, report_bytes}

-- How a run with this outcome ended. A stuck run has none; no accepted program ends so.
abbrev pub ending_of : Option Outcome → Ending
ending_of none = Ending.NoOutcome
ending_of (some o) = Ending.Ended o

-- Its number in a report. No outcome of document 01 has the greatest number of 16 bits.
abbrev pub ending_number : Ending → ℕ
ending_number Ending.NoOutcome = 65535
ending_number (Ending.Ended o) = outcome_number o

abbrev pub reported_number : Option Outcome → ℕ
reported_number o = ending_number (ending_of o)

-- The bytes that a run of the calculus writes.
abbrev pub written_log : Ended → List ℕ
written_log E = log_bytes (log_of E.state.trace)

abbrev pub bytes_of_report : Report → List ℕ
bytes_of_report r = report_bytes (reported_number r.outcome) r.steps r.result r.cells

abbrev pub written_report : Ended → List ℕ
written_report E = bytes_of_report (report E)
