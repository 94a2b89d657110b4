-- The listing of a call (document 01, "Bench sheet"), from what it answered and what its log and its report then hold.
use Rattle.std.specs.Prelude.{ℕ, ◌+◌, ◌*◌, List, ◌++◌, take, Ok, Err}
use Rattle.verdict.specs.Answers.{Verdict}
use Rattle.report.specs.declared.Ending.{Ending}
use Rattle.report.specs.Read.{read_log, read_report}
use Rattle.call_spec.specs.declared.Answer.{Answer}
use Rattle.listing_lines.specs.Text.{texts}
use Rattle.listing_lines.specs.Lines.{print_line, ending_lines, cell_line, refusal_line}

-- Of a run that wrote these bytes of log and of report.
abbrev pub run_listing : Ending → ℕ → List ℕ → List ℕ → List ℕ
run_listing ending steps log report =
    texts print_line (read_log log) ++ ending_lines ending steps (read_report report).result ++ texts cell_line (read_report report).cells

abbrev pub listing_by : Verdict → Answer → List ℕ → List ℕ → List ℕ
listing_by (Ok tt) a log report = run_listing a.ending a.steps (take a.log log) (take a.report report)
listing_by (Err refusal) a log report = refusal_line refusal.why refusal.place

unfoldable pub listing : Answer → List ℕ → List ℕ → List ℕ
listing a log report = listing_by a.verdict a log report

-- How long a refusal and a listing can be, the latter by the bytes of log and of report.
abbrev pub refusal_bound : ℕ
refusal_bound = 40

abbrev pub listing_bound : ℕ → ℕ → ℕ
listing_bound log report = 6 * log + 9 * report + 40
