-- `check_scopes::matches::bind_entries` meets its contract: who binds the entries that are left binds all.
use borrow.Author.Rules.{rules}
use native.Mathlib.Omega.{arith}
use mathlib.Core.Path.{sym, subst, ◌∙◌}
use Rattle.image.specs.Kinds.{an_entry}
use Rattle.image.specs.Records.{as_child}
use Rattle.image.specs.Layout.{records_of}
use Rattle.read_records.proofs.Entries.{none_left}
use Rattle.read_terms.specs.Fields.{first_entry}
use Rattle.read_terms.proofs.Matches.{few_named}
use Rattle.check_scopes.specs.Scopes.{value_types, Binds}
use Rattle.check_scopes.proofs.Bindings.{values_length, binds_none, binds_entry}
use Rattle.check_scopes.proofs.matches.bind_entries.Goals as goal

pub loop-i-preserved : goal.loop-i-preserved
loop-i-preserved c =
    let v = c.field-entry in
    let l = c.loop-i in
    let a = c.args in
    let L = records_of a.image.now in
    let B = c.bind_entry-used.ensures in
    let few = few_named v.result in
    let size = values_length L (as_child an_entry v.result) in
    let w = c.bind_entry-used.ensures.used in
    let u = c.loop-i.invariant.0 in
    (omega arith, B.same ∙ l.invariant.1, λ x m D. l.invariant.2 x m (binds_entry L a.fields.now c.entries_in-i-end.result l.i v.result c.loop-i-test.true v.ensures B D))

pub returns : goal.returns
returns c =
    let l = c.loop-i in
    let L = records_of c.args.image.now in
    let z = none_left c.args.fields.now first_entry c.entries_in-i-end.result l.i (search rules) in
    let u = c.loop-i.invariant.0 in
    let i = c.loop-i.auto.i-end in
    let k = c.entries_in-i-end.ensures in
    let f = c.requires.1.few in
    (l.invariant.2 l.scope l.used (subst (λ es. Binds l.scope l.scope l.used l.used (value_types L es)) (sym z) (binds_none l.scope l.used)), omega arith)
