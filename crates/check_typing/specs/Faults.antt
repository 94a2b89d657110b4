-- What the typing pass hands from term to term (document 01, "Turned back at the gate", refusals 13 to 15): a verdict as one number. 0 is accepted; of a refusal it has four times the number of the term at fault, and the refusal's number less 12.
use Rattle.std.specs.Prelude.{ℕ, ◌+◌, ◌*◌, ◌/◌, ◌%◌, eqb, Ok, Err}
use Rattle.calculus.specs.Combinators.{choose}
use Rattle.image.specs.declared.Refusal.{Refusal}
use Rattle.image.specs.Refusals.{refusal_number}
use Rattle.image.specs.Records.{Layout}
use Rattle.image.specs.Types.{term_place}
use Rattle.verdict.specs.Answers.{Verdict, refused_at}

-- Refusals 13, 14 and 15 leave the remainders 1, 2 and 3 by it.
abbrev pub causes : ℕ
causes = 4

-- The verdict v of term n's own rule.
abbrev pub fault_at : Verdict → ℕ → ℕ
fault_at (Ok tt) n = 0
fault_at (Err refusal) n = refusal_number refusal.why % causes + causes * n

-- And back: the refusal that a remainder stands for, and the verdict of a fault.
abbrev pub refusal_with : ℕ → Refusal
refusal_with k = choose (eqb k 1) Refusal.UnboundVariable (choose (eqb k 2) Refusal.TypeRule Refusal.DomainRule)

abbrev pub verdict_at : Layout → ℕ → Verdict
verdict_at L f = choose (eqb f 0) (Ok tt) (refused_at (refusal_with (f % causes)) (term_place L (f / causes)))
