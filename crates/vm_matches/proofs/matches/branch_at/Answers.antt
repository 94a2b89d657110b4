use mathlib.Core.Path.{ap, ◌∙◌}
use Rattle.vm_machine.specs.Fetch.{Program}
use Rattle.vm_machine.specs.Turn.{begun_at}
use Rattle.vm_matches.proofs.Fields.{term_of}
use Rattle.vm_matches.proofs.matches.branch_at.Goals as goal

pub returns : goal.returns
returns c =
    let a = c.args in
    λ image w e.
    let C : Program = record { code = a.code.now; image = image } in
    c.begun_at.ensures image ∙ ap (begun_at C) (term_of C w a.fields.now e a.i _ c.requires.1 c.term_at.ensures)
