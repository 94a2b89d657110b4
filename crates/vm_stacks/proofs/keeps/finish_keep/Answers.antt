use Prim.Native.Nat.{◌%◌}
use mathlib.Core.Path.{◌≡◌, ap, ◌∙◌}
use lib.ListN.{get_or}
use native.Mathlib.Omega.{arith}
use Rattle.vm_memory.specs.View.{memory_of}
use Rattle.vm_machine.specs.Fetch.{code_at, atom_value}
use Rattle.vm_code.specs.Words.{term_count}
use Rattle.vm_stacks.proofs.Keeping.{atom_given, atom_spent}
use Rattle.vm_stacks.proofs.keeps.finish_keep.Goals as goal

pub returns-then-r-le-FUEL_BIAS : goal.returns-then-r-le-FUEL_BIAS
returns-then-r-le-FUEL_BIAS c = let a = c.args in λ image. atom_spent a.work.now a.work.now a.r _ a.w (λ S. atom_value (record { code = a.code.now; image = image }) S.memory S.regs.env (code_at (record { code = a.code.now; image = image }) a.g)) c.if-r-le-FUEL_BIAS.true c.halt.ensures

pub returns : goal.returns
returns c =
    let a = c.args in
    let z : a.g % term_count ≡ a.g = omega (arith, c.requires.2) in
    λ image. atom_given a.work.now _ a.r _ a.w (λ S. atom_value (record { code = a.code.now; image = image }) S.memory S.regs.env (code_at (record { code = a.code.now; image = image }) a.g)) c.if-r-le-FUEL_BIAS.false _
    (λ log. c.atom_at.ensures image ∙ ap (λ i. atom_value (record { code = a.code.now; image = image }) (memory_of a.work.now) a.r.env (get_or a.code.now i 0)) (c.term_with-t.ensures ∙ z)) c.given.ensures
