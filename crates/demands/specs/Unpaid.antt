-- Card 5 of document 02 about whole calls: "The old answers that change are those with steps equal to the budget, no value reached, and no room for the next step: outcome 1 becomes 3 to 9."
use Rattle.std.specs.Prelude.{ℕ, zero, suc, ◌≡◌, Bool, true, false, ◌&&◌, List, length, eqb, ltb}
use Rattle.calculus.specs.declared.Outcome.{Outcome}
use Rattle.calculus.specs.Combinators.{choose}
use Rattle.calculus.specs.Syntax.{Tm}
use Rattle.calculus.specs.State.{State, Given, fresh}
use Rattle.calculus.specs.Place.{top}
use Rattle.calculus.specs.Step.{step}
use Rattle.calculus.specs.Run.{stopped, stuck, Ended, ended, after, unless_done}
use Rattle.calculus.specs.Report.{outcome_number}
use Rattle.image.specs.Program.{to_tm}
use Rattle.verdict.specs.Verdicts.{verdict}
use Rattle.report.specs.declared.Ending.{Ending}
use Rattle.call_spec.specs.declared.Answer.{Answer}
use Rattle.call_spec.specs.Runs.{program_of, given_by}
use Rattle.call_spec.specs.Calls.{Left, left_by, after_verdict, called}

-- A run before the card: where no value is reached it is spent as soon as steps equal the budget. All else is as in `run`.
unfoldable pub run_before : ℕ → Given → ℕ → State → Tm → Ended
run_before zero G k s e = unless_done e k s λ no_value. ended (stopped Outcome.Spent) k s
run_before (suc n) G k s e =
    unless_done e k s λ no_value.
    after (step e G top s)
    (λ s' e'. run_before n G (suc k) s' e')
    (λ capacity. ended (stopped capacity) k s)
    (λ aborted. ended (stopped Outcome.Aborted) (suc k) s)
    (λ no-rule. ended stuck k s)

-- A whole call before the card.
abbrev pub called_before : List ℕ → List ℕ → ℕ → List ℕ → List ℕ → List ℕ → Left
called_before b frame budget log report work =
    after_verdict (verdict b (length work) (length report)) (run_before budget (given_by frame log) 0 fresh (to_tm (program_of b))) log report work

-- The outcomes 3 to 12, of which each names a room: the card's 3 to 9, and 10 to 12, which card 9 added.
abbrev pub names_capacity : Ending → Bool
names_capacity (Ending.Ended o) = ltb (outcome_number Outcome.Aborted) (outcome_number o)
names_capacity Ending.NoOutcome = false

-- "No value reached, and no room for the next step" after so many steps: the call with one step more in its budget has this answer.
abbrev pub lacks_next : ℕ → Answer → Bool
lacks_next steps a = eqb a.steps steps && names_capacity a.ending

-- Two calls that left the same but for the outcome: spent, and a room that is missing. last is the state in which both runs ended, after as many steps as the budget.
pub record OnlyOutcome (budget : ℕ) (log report work : List ℕ) (X Z : Left) : Type 0 where
  pub capacity : Outcome
  pub last : State
  pub was : X ≡ left_by (ended (stopped Outcome.Spent) budget last) log report work
  pub is : Z ≡ left_by (ended (stopped capacity) budget last) log report work

-- Of any call: X is what it answered and left before the card, and Z what it then answered and left with one step more in its budget.
pub record Card5 (b frame : List ℕ) (budget : ℕ) (log report work : List ℕ) (X Z : Left) : Type 0 where
  -- where the next step lacks room, the call now answers and leaves what it did with one step more; else what it did before
  pub now : called b frame budget log report work ≡ choose (lacks_next budget Z.answer) Z X
  -- what changes was outcome 1, "with steps equal to the budget", and nothing else changes
  pub changed : lacks_next budget Z.answer ≡ true → OnlyOutcome budget log report work X Z
