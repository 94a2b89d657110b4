use Rattle.vm_machine.specs.Fetch.{Program}
use Rattle.vm_machine.specs.Turn.{Taken}
use Rattle.vm_labels.proofs.Taking.{child_in_lem}
use Rattle.vm_labels.proofs.Labelling.{child_made}
use mathlib.Core.Path.{refl}
use borrow.Author.Rules.{rules}
use Rattle.vm_labels.proofs.labels.begin_child.Goals as goal

pub returns : goal.returns
returns c =
    let a = c.args in
    let k : Taken = record { count = a.done.count; digits = a.done.digits } in
    λ image e.
    let C : Program = record { code = a.code.now; image = image } in
    child_made C a.work.now _ a.r _ a.w _ _ _ _ k c.same-q.ensures c.depth_of.ensures refl (search rules)
    (child_in_lem C a.w k.count _ a.fields.now e c.requires.6 c.term_at.ensures) (c.entry_from.ensures.0 image) c.put_digits.ensures
