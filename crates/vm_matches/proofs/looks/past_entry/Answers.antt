use Rattle.vm_machine.specs.Fetch.{Program}
use Rattle.vm_matches.proofs.Fields.{entry_of}
use Rattle.vm_memory.specs.View.{memory_of}
use Rattle.vm_matches.specs.Matching.{looked_of}
use Rattle.vm_matches.proofs.Looking.{entry_any, entry_cut}
use Rattle.vm_matches.proofs.looks.past_entry.Goals as goal

pub returns-then-e-eq0 : goal.returns-then-e-eq0
returns-then-e-eq0 c =
    let a = c.args in (
      (λ image w h e.
          let C : Program = record { code = a.code.now; image = image } in
          entry_any C (memory_of a.work.now) a.env w (looked_of a.k) _ (entry_of C w a.fields.now e a.k.next _ h c.entry_at-e.ensures) _ c.if-e-eq0.true c.past_any.ensures.0),
      c.past_any.ensures.1,
      c.past_any.ensures.2,
    )

pub returns : goal.returns
returns c =
    let a = c.args in (
      (λ image w h e.
          let C : Program = record { code = a.code.now; image = image } in
          entry_cut C (memory_of a.work.now) a.env w (looked_of a.k) _ (entry_of C w a.fields.now e a.k.next _ h c.entry_at-e.ensures) _ _ _ c.if-e-eq0.false c.cut_term.ensures (c.atom_at-v.ensures image) c.past_cut.ensures.0),
      c.past_cut.ensures.1,
      c.past_cut.ensures.2,
    )
