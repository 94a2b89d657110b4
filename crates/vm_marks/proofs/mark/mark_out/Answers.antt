use mathlib.Core.Path.{sym, ap}
use borrow.Author.Tests.{le-leb, lt-leb}
use Rattle.calculus.specs.declared.Outcome.{Outcome}
use Rattle.calculus.specs.Report.{outcome_number}
use Rattle.vm_memory.proofs.Chosen.{chosen_yes, chosen_no}
use Rattle.vm_marks.proofs.mark.mark_out.Goals as goal

pub returns-then-b-le-BINDING_LIMIT : goal.returns-then-b-le-BINDING_LIMIT
returns-then-b-le-BINDING_LIMIT c = sym (ap outcome_number (chosen_yes _ Outcome.OtherBindings Outcome.Bindings (le-leb _ _ c.if-b-le-BINDING_LIMIT.true)))

pub returns-else-b-le-BINDING_LIMIT : goal.returns-else-b-le-BINDING_LIMIT
returns-else-b-le-BINDING_LIMIT c = sym (ap outcome_number (chosen_no _ Outcome.OtherBindings Outcome.Bindings (lt-leb _ _ c.if-b-le-BINDING_LIMIT.false)))
