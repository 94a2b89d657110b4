-- `check_scopes::matches::match_setting` meets its contract.
use Prim.Native.Nat.{◌<◌}
use native.Mathlib.Omega.{arith}
use mathlib.Core.Path.{sym, ◌∙◌}
use lib.ListN.{length}
use Rattle.read_terms.proofs.Located.{good_of}
use Rattle.check_scopes.proofs.Bindings.{with_rest, without_rest}
use Rattle.check_scopes.proofs.matches.match_setting.Goals as goal

pub bind-requires : goal.bind-requires
bind-requires c =
    let u = c.bind_entries-used.ensures.1 in
    let r = c.requires.1.capacity in
    let few = (good_of c.args.image.now c.requires.0.terms.laid_out).few_types in
    let h = c.type_at_field-stack.ensures.1 in
    (omega arith, omega arith)

pub returns-then-binds_rest : goal.returns-then-binds_rest
returns-then-binds_rest c =
    let B = c.bind_entries-used.ensures in
    let same = c.bind_entries-used.ensures.0.same in
    let places = c.requires.1.places in
    let u = c.bind_entries-used.ensures.1 in
    let capacity = c.requires.1.capacity in
    let l : c.bind_entries-used.result < length c.bind_entries-used.new.scope = omega arith in
    rw (c.bind.ensures, c.type_at_field-stack.ensures.0) (with_rest c.args.image.now c.args.fields.now c.args.p.dom.0 B.0 B.1 (sym c.binds_rest.ensures ∙ c.if-binds_rest.true) l)

pub returns : goal.returns
returns c =
    let B = c.bind_entries-used.ensures in
    without_rest c.args.image.now c.args.fields.now c.args.p.dom.0 B.0 B.1 (sym c.binds_rest.ensures ∙ c.if-binds_rest.false)
