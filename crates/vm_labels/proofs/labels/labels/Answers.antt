use Rattle.vm_machine.specs.Fetch.{Program}
use mathlib.Core.Path.{sym, ap, subst, ◌∙◌}
use Rattle.vm_labels.specs.PointcutChildren.{resumes_other}
use Rattle.vm_labels.proofs.Labelling.{part_pc, part_env, part_frames, labelled_on, frames_on, resumes_other_stuck}
use native.Mathlib.Omega.{arith}
use Rattle.calculus.specs.Limits.{piece_limit}
use Rattle.vm_machine.specs.declared.Regs.{Regs}
use Rattle.vm_machine.specs.Fits.{PoolFits}
use Rattle.vm_memory.specs.View.{memory_of}
use Rattle.vm_labels.proofs.labels.labels.Goals as goal

pub instruction-requires : goal.instruction-requires
instruction-requires c =
    let a = c.args in
    let h = part_pc (record { code = a.code.now; image = a.image.now }) (memory_of a.work.now) a.f a.r _ a.resumed (c.part_of-p.ensures a.image.now) c.requires.2 in
    omega (arith, h, c.requires.0)

pub returns-then-resumes_other : goal.returns-then-resumes_other
returns-then-resumes_other c =
    let a = c.args in
    resumes_other_stuck (record { code = a.code.now; image = a.image.now }) a.work.now a.work.now a.r _ a.f c.part_of-p.result a.resumed (c.part_of-p.ensures a.image.now) (sym (c.resumes_other.ensures ∙ ap (resumes_other a.resumed) c.instruction.ensures) ∙ c.if-resumes_other.true) c.stuck.ensures

pub labels_from-requires : goal.labels_from-requires
labels_from-requires c =
    let a = c.args in
    let C : Program = record { code = a.code.now; image = a.image.now } in
    let M = memory_of a.work.now in
    let p = c.part_of-p.result in
    let e = c.part_of-p.ensures a.image.now in (
      c.requires.0,
      c.requires.1,
      part_pc C M a.f a.r p a.resumed e c.requires.2,
      part_env C M a.f a.r p a.resumed e c.requires.3,
      part_frames C M a.f a.r p a.resumed e c.requires.4 c.requires.5,
      subst (λ (x : Regs). PoolFits piece_limit x.pools.pieces) (sym c.same-q.ensures) c.requires.6,
      frames_on C a.work.now a.work.now a.r a.r a.f p a.resumed e _ c.same-q.ensures (sym (c.resumes_other.ensures ∙ ap (resumes_other a.resumed) c.instruction.ensures) ∙ c.if-resumes_other.false) c.requires.7,
    )

pub returns : goal.returns
returns c =
    let a = c.args in
    labelled_on (record { code = a.code.now; image = a.image.now }) a.work.now _ a.r _ a.f c.part_of-p.result a.resumed (c.part_of-p.ensures a.image.now) _ c.same-q.ensures (sym (c.resumes_other.ensures ∙ ap (resumes_other a.resumed) c.instruction.ensures) ∙ c.if-resumes_other.false) c.labels_from.ensures
