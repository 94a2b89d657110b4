-- `read_terms::entries::entry_term_count` meets its contract: the terms of the entries so far, and of those that are left.
use native.Mathlib.Omega.{arith}
use mathlib.Core.Path.{ap, ◌∙◌}
use Prim.Native.Nat.{◌+◌}
use lib.ListN.{length, length-append}
use Rattle.image.specs.Kinds.{an_entry}
use Rattle.image.specs.Records.{as_child}
use Rattle.read_records.proofs.Entries.{entries_left, next_left}
use Rattle.read_terms.specs.Fields.{first_entry}
use Rattle.read_terms.proofs.Matches.{few_named}
use Rattle.read_terms.proofs.entries.entry_term_count.Goals as goal

pub loop-i-preserved : goal.loop-i-preserved
loop-i-preserved c =
    let l = c.loop-i in
    let fs = c.args.fields.now in
    let n = c.entries_in-i-end.result in
    let v = c.field.result in
    let few = few_named v in
    let one = c.names_one-count.ensures in
    let e = ap length (next_left fs first_entry n l.i v c.loop-i-test.true c.field.ensures) ∙ length-append (as_child an_entry v) (entries_left fs first_entry n (l.i + 1)) in
    let q = l.invariant.1 in
    let h = l.invariant.0 in
    (omega arith, omega arith)
