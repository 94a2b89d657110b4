-- What a whole call answers and leaves, from any image, frame, budget, log, report and work area (document 01, "Turned back at the gate" and "A run").
use Rattle.std.specs.Prelude.{ℕ, List, [], ◌++◌, map, length, take, replicate, Ok, Err}
use Rattle.calculus.specs.declared.Leaf.{Leaf}
use Rattle.calculus.specs.Limits.{leaf_limit}
use Rattle.calculus.specs.Run.{Ended}
use Rattle.calculus.specs.Report.{report}
use Rattle.image.specs.declared.Refusal.{Refusal}
use Rattle.image.specs.Limits.{work_length}
use Rattle.verdict.specs.Answers.{Verdict, refused_at}
use Rattle.verdict.specs.Verdicts.{verdict}
use Rattle.base_bytes.specs.Bytes.{over, cleared}
use Rattle.report.specs.declared.Ending.{Ending}
use Rattle.report.specs.declared.Slot.{Slot}
use Rattle.report.specs.OfRun.{ending_of, written_log, written_report}
use Rattle.call_spec.specs.declared.Answer.{Answer}
use Rattle.call_spec.specs.Runs.{run_of}

-- Leaves in eight slots; those that are left over hold unit.
abbrev pub slot_of : Leaf → Slot
slot_of l = record { leaf = l }

abbrev pub slots_of : List Leaf → List Slot
slots_of ls = take leaf_limit (map slot_of ls ++ replicate leaf_limit (slot_of Leaf.Unit))

-- "A run returns how many bytes of log and of report it wrote", with its outcome, its steps and its result's leaves.
abbrev pub answer_of : Ended → Answer
answer_of E =
    record {
      verdict = Ok tt;
      ending = ending_of (report E).outcome;
      steps = (report E).steps;
      log = length (written_log E);
      report = length (written_report E);
      count = length (report E).result;
      leaves = slots_of (report E).result;
    }

-- "A call turned back at the gate makes no run": its answer has no outcome.
abbrev pub refused_answer : Refusal → ℕ → Answer
refused_answer r place =
    record { verdict = refused_at r place; ending = Ending.NoOutcome; steps = 0; log = 0; report = 0; count = 0; leaves = slots_of [] }

-- What a call answers, and what the lent memory then holds.
pub record Left : Type 0 where
  pub answer : Answer
  pub log : List ℕ
  pub report : List ℕ
  pub work : List ℕ

-- A run writes its records at the front of log and report: "bytes past these are unchanged. The work area is zero over its published length and unchanged past it."
abbrev pub left_by : Ended → List ℕ → List ℕ → List ℕ → Left
left_by E log report work =
    record { answer = answer_of E; log = over 0 (written_log E) log; report = over 0 (written_report E) report; work = cleared work_length work }

-- A call that is refused leaves all lent memory as it was.
abbrev pub after_verdict : Verdict → Ended → List ℕ → List ℕ → List ℕ → Left
after_verdict (Ok tt) E log report work = left_by E log report work
after_verdict (Err refusal) E log report work = record { answer = refused_answer refusal.why refusal.place; log = log; report = report; work = work }

unfoldable pub called : List ℕ → List ℕ → ℕ → List ℕ → List ℕ → List ℕ → Left
called b frame budget log report work = after_verdict (verdict b (length work) (length report)) (run_of b frame budget log) log report work
