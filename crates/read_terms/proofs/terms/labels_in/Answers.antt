-- `read_terms::terms::labels_in` meets its contract.
use mathlib.Core.Path.{sym}
use Rattle.read_terms.proofs.Counts.{label_count}
use Rattle.read_terms.proofs.terms.labels_in.Goals as goal

pub returns : goal.returns
returns c = sym (label_count c.args.fields.now)
