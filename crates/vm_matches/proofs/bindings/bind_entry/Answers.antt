use Rattle.vm_matches.specs.Matching.{entry_in}
use Rattle.vm_matches.proofs.Binding.{entry_nothing, entry_value, entry_frames}
use borrow.Author.Rules.{rules}
use Rattle.vm_matches.proofs.bindings.bind_entry.Goals as goal

pub returns-then-entry_at-eq0 : goal.returns-then-entry_at-eq0
returns-then-entry_at-eq0 c =
    let a = c.args in
    (entry_nothing (entry_in a.fields.now a.i) _ c.entry_at.ensures a.v a.work.now a.b c.if-entry_at-eq0.true, c.requires.2)

pub bind_inside-requires : goal.bind_inside-requires
bind_inside-requires c =
    let a = c.args in
    (search rules, entry_frames (entry_in a.fields.now a.i) _ c.entry_at.ensures a.b.count c.if-entry_at-eq0.false c.requires.3, c.requires.2)

pub returns : goal.returns
returns c =
    let a = c.args in
    (entry_value (entry_in a.fields.now a.i) _ c.entry_at.ensures a.v _ a.work.now _ a.b _ c.if-entry_at-eq0.false c.top_entry-y.ensures c.bind_inside.ensures.0, c.bind_inside.ensures.1)
