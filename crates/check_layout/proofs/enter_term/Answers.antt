-- `check_layout::enter_term` meets its contract: what 4 to 7 answer decides.
use Prim.Native.Nat.{◌<◌}
use native.Mathlib.Omega.{arith}
use Rattle.image.specs.Limits.{term_limit}
use Rattle.check_layout.proofs.Marked.{term_passed, passed_capacity}
use Rattle.check_layout.proofs.enter_term.Goals as goal

pub put_term-requires : goal.put_term-requires
put_term-requires c =
    let p = c.requires in
    let r : c.args.counts.terms < term_limit = passed_capacity c.args.fields.now c.args.code c.args.counts c.term_fault.result c.term_fault.ensures.0 c.in_ok-term_fault.was p.0.term in
    let l = p.4 in
    (p.2, omega (arith, c.next.ensures))

pub returns : goal.returns
returns c =
    term_passed _ _ _ _ c.term_fault.ensures.0 c.in_ok-term_fault.was c.with_one.ensures (rw c.next.ensures at c.put_term.ensures) c.term_fault.ensures.1
