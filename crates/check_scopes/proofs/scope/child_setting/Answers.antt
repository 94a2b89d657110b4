-- `check_scopes::scope::child_setting` meets its contract.
use native.Mathlib.Omega.{arith}
use mathlib.Core.Path.{refl}
use Rattle.image.specs.Kinds.{TermKind}
use Rattle.read_terms.proofs.Counts.{children_counted}
use Rattle.check_scopes.proofs.scope.child_setting.Goals as goal

pub function_setting-requires : goal.function_setting-requires
function_setting-requires c =
    (c.requires.0.types, (c.requires.1 TermKind.fun c.in-41.is).0)

pub lower_setting-requires : goal.lower_setting-requires
lower_setting-requires c =
    (c.requires.1 TermKind.lower c.in-52.is).0

pub split_setting-requires : goal.split_setting-requires
split_setting-requires c =
    (c.requires.0, (c.requires.1 TermKind.split c.in-40.is).0)

pub advice_setting-requires : goal.advice_setting-requires
advice_setting-requires c =
    (c.requires.0, (c.requires.1 TermKind.adv c.in-47.is).0)

pub object_setting-requires : goal.object_setting-requires
object_setting-requires c =
    let q = c.requires.1 TermKind.obj c.in-54.is in
    let n = children_counted c.args.fields.now TermKind.obj refl in
    let l = q.1 in
    (c.requires.2, q.0, omega arith)

pub match_setting-requires : goal.match_setting-requires
match_setting-requires c =
    (c.requires.0, (c.requires.1 TermKind.match c.in-58.is).0)
