use mathlib.Core.Path.{◌≡◌}
use lib.ListN.{length}
use Rattle.answers_as_numbers.specs.Recordings.{first_calls}
use Rattle.answers_as_numbers.proofs.Recordings.{with_clear_work}
use Rattle.engine_frames.proofs.run_each.Given as goal

abbrev pub invariant-loop-i : goal.invariant-loop-i
invariant-loop-i l =
    ((length l.numbers ≡ length l.initial.numbers) × (length l.logs ≡ length l.initial.logs) × (length l.reports ≡ length l.initial.reports) × (length l.work ≡ length l.initial.work))
    × (with_clear_work (record { answers = l.numbers; logs = l.logs; reports = l.reports; work = l.work }) ≡ first_calls l.image l.frames l.budget l.count l.i (with_clear_work (record { answers = l.initial.numbers; logs = l.initial.logs; reports = l.initial.reports; work = l.initial.work })))
