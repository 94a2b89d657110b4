-- `read_terms::entries::entry_term_at` meets its contract: the term is one of those of the entries that are left.
use native.Mathlib.Omega.{arith}
use mathlib.Core.Path.{sym, ap, ◌∙◌}
use Prim.Native.Nat.{◌+◌, ◌<◌}
use lib.ListN.{get_or}
use Rattle.read_records.proofs.Entries.{entries_left, next_left}
use Rattle.read_terms.specs.Fields.{first_entry}
use Rattle.read_terms.proofs.Matches.{first_named, later_named}
use Rattle.read_terms.proofs.entries.entry_term_at.Goals as goal
use Rattle.read_terms.proofs.entries.entry_term_at.Goals.{else-entry-ne0-via-then-entry-ne0+else-left-eq0, else-entry-ne0-via-else-entry-ne0}

pub returns-then-left-eq0 : goal.returns-then-left-eq0
returns-then-left-eq0 c =
    let l = c.loop-i in
    let fs = c.args.fields.now in
    let n = c.entries_in-i-end.result in
    let v = c.field-entry.result in
    let e = next_left fs first_entry n l.i v c.loop-i-test.true c.field-entry.ensures in
    first_named v c.entry_term.result.0 (entries_left fs first_entry n (l.i + 1)) c.entry_term.ensures
    ∙ (ap (λ xs. get_or xs 0 0) (sym e) ∙ (ap (λ k. get_or (entries_left fs first_entry n l.i) k 0) (sym c.if-left-eq0.true) ∙ l.invariant.1))

pub loop-i-preserved : goal.loop-i-preserved
loop-i-preserved c =
    let l = c.loop-i in
    let fs = c.args.fields.now in
    let n = c.entries_in-i-end.result in
    let v = c.field-entry.result in
    let e = next_left fs first_entry n l.i v c.loop-i-test.true c.field-entry.ensures in
    let behind : 0 < v → 0 < l.left = λ h. elim c.else-entry-ne0.branch [
      | else-entry-ne0-via-then-entry-ne0+else-left-eq0 w ↦ (let z = w.if-left-eq0.false in omega arith)
      | else-entry-ne0-via-else-entry-ne0 w ↦ (let z = w.if-entry-ne0.false in omega arith)
    ] in
    let q = later_named v l.left (entries_left fs first_entry n (l.i + 1)) behind (rw e at l.invariant.0) in
    rw c.names_one-left.ensures (q.0, q.1 ∙ (ap (λ xs. get_or xs l.left 0) (sym e) ∙ l.invariant.1))
