use native.Mathlib.Omega.{arith}
use mathlib.Core.Path.{ap}
use Prim.Native.Nat.{◌+◌}
use Rattle.vm_machine.specs.Registers.{set_env, set_frames}
use Rattle.vm_actions.proofs.Judged.{returned_made}
use borrow.Author.Rules.{rules}
use Rattle.vm_actions.proofs.ends.returned.Goals as goal

pub completed-requires : goal.completed-requires
completed-requires c =
    (search rules, omega (arith, c.depth_of.ensures, c.requires.2))

pub returns : goal.returns
returns c =
    let a = c.args in
    λ image. returned_made (record { code = a.code.now; image = image }) a.f _ _ a.r _ _ _ _ _ _ c.slot_pc-pc.ensures c.instruction-w.ensures c.depth_of.ensures c.slot_env.ensures (ap (set_env c.slot_env.result) (ap (set_frames (a.r.frames + c.depth_of.result)) c.same-q.ensures)) c.completed.ensures
