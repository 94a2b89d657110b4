-- Done, or not.
use mathlib.Core.Path.{sym, ◌∙◌}
use mathlib.Core.Bool.{true, false}
use Rattle.listing_lines.proofs.Puts.{as_text, puts_nothing}
use Rattle.listing_lines.proofs.Said.{result_said}
use Rattle.listing_lines.proofs.endings.put_result.Goals as goal

pub returns-then-eq : goal.returns-then-eq
returns-then-eq c = as_text (result_said c.args.outcome _ true (sym c.if-eq.true ∙ c.eq.ensures)) c.put_value.ensures

pub returns : goal.returns
returns c = as_text (result_said c.args.outcome _ false (sym c.if-eq.false ∙ c.eq.ensures)) (puts_nothing _ _)
