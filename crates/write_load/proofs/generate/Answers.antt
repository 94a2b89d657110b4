-- `write_load::generate` meets its contract.
use Prim.Native.Nat.{◌-◌}
use native.Mathlib.Omega.{arith}
use mathlib.Core.Path.{refl, ◌∙◌}
use Rattle.image_written.proofs.Load.{few}
use Rattle.write_load.proofs.Whole.{head_length, whole_image, loaded_none, loaded_deep, loaded_short, loaded_written}
use Rattle.write_load.proofs.generate.Goals as goal
use Rattle.write_load.proofs.generate.Goals.{then-depth-eq0-via-then-depth-eq0, then-depth-eq0-via-else-depth-eq0+then-depth-gt-DEPTH_LIMIT}

pub returns-then-depth-eq0 : goal.returns-then-depth-eq0
returns-then-depth-eq0 c =
    let a = c.args in
    elim c.then-depth-eq0.branch [
      | then-depth-eq0-via-then-depth-eq0 w ↦ loaded_none a.seed a.depth a.out.now w.if-depth-eq0.true
      | then-depth-eq0-via-else-depth-eq0+then-depth-gt-DEPTH_LIMIT w ↦ loaded_deep a.seed a.depth a.out.now w.if-depth-gt-DEPTH_LIMIT.true
    ]

pub returns-then-out-lt-OUTPUT_LENGTH : goal.returns-then-out-lt-OUTPUT_LENGTH
returns-then-out-lt-OUTPUT_LENGTH c =
    let a = c.args in
    let z = c.if-depth-eq0.false in
    loaded_short a.seed a.depth a.out.now (omega arith) c.if-depth-gt-DEPTH_LIMIT.false c.if-out-lt-OUTPUT_LENGTH.true

pub put_head-behind_head-requires : goal.put_head-behind_head-requires
put_head-behind_head-requires c =
    let n = head_length in
    let o = c.if-out-lt-OUTPUT_LENGTH.false in
    omega arith

pub grow-requires : goal.grow-requires
grow-requires c =
    let a = c.args in
    let l = c.if-depth-gt-DEPTH_LIMIT.false in
    let m = few (a.depth - 1) (omega arith) in
    let n = c.put_head-behind_head.auto.out in
    let e = c.put_head-behind_head.ensures.0 ∙ head_length in
    let o = c.if-out-lt-OUTPUT_LENGTH.false in
    record { depth = omega arith; bytes = omega arith; terms = omega arith }

pub returns : goal.returns
returns c =
    let a = c.args in
    let z = c.if-depth-eq0.false in
    let l = c.if-depth-gt-DEPTH_LIMIT.false in
    let o = c.if-out-lt-OUTPUT_LENGTH.false in
    let w = whole_image a.depth a.seed a.out.now c.put_head-behind_head.ensures.0 refl refl o l c.put_head-behind_head.ensures.1 c.grow.ensures in
    loaded_written a.seed a.depth a.out.now (omega arith) l o w.0 w.1
