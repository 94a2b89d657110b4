-- `check_repeats::keys::has_key` meets its contract: a key whose bit is not there is new.
use mathlib.Core.Path.{sym, ap, ◌∙◌}
use mathlib.Core.Bool.{not}
use Rattle.check_repeats.proofs.Filter.{unmarked}
use Rattle.check_repeats.proofs.keys.has_key.Goals as goal

pub returns-else-is_marked : goal.returns-else-is_marked
returns-else-is_marked c =
    c.if-is_marked.false ∙ ap not (sym (unmarked c.requires c.args.key (sym c.is_marked.ensures ∙ c.if-is_marked.false)))
