-- `read_terms::terms::bodies_in` meets its contract.
use mathlib.Core.Path.{sym}
use Rattle.read_terms.proofs.Counts.{body_count}
use Rattle.read_terms.proofs.terms.bodies_in.Goals as goal

pub returns : goal.returns
returns c = sym (body_count c.args.fields.now)
