-- `write_load::Growth::grow` meets its contract.
use borrow.Author.Rules.{rules}
use Prim.Native.Nat.{suc, ◌-◌, ◌/◌, ◌%◌, ◌<◌}
use native.Mathlib.Omega.{arith}
use mathlib.Core.Path.{◌≡◌, sym, ap, ◌∙◌}
use mathlib.Core.Bool.{true}
use Rattle.image_written.specs.Generated.{next, drawn, sum, traced, both, grow}
use Rattle.write_load.specs.Growing.{number_follows}
use Rattle.write_load.proofs.Draws.{number_follows_lem, sum_follows, trace_follows, no_number, deep}
use Rattle.write_load.proofs.Growing.{same_grew, sum_grew, trace_grew}
use Rattle.write_load.proofs.Capacities.{capacity_number, capacity_first, capacity_inner, capacity_second, capacity_sum, some_first, capacity_both, capacity_print, capacity_behind, some_print, capacity_sequence, capacity_trace}
use Rattle.write_load.proofs.Growth.+grow.Goals as goal

pub put_number-requires : goal.put_number-requires
put_number-requires t c = capacity_number c.requires

pub put_number-requires-then-is_number : goal.put_number-requires-then-is_number
put_number-requires-then-is_number t c =
    let r = capacity_number c.requires in
    let d = c.drawn-here.ensures.1 in
    rw d r

pub returns-then-is_number : goal.returns-then-is_number
returns-then-is_number t c =
    let n = c.is_number.ensures in
    let w = c.drawn-here.ensures.0 in
    let z = c.if-depth-eq0.false in
    let q : number_follows (drawn (next c.args.self.state) % 4) c.args.depth ≡ true = ap (λ q. number_follows (drawn q % 4) c.args.depth) (sym w) ∙ sym n ∙ c.if-is_number.true in
    same_grew {d = c.args.depth} {d' = 0} (number_follows_lem c.args.depth c.args.self.state (omega arith) q ∙ ap (λ q. grow 0 q) (sym w)) (ap (λ d. d.at) c.drawn-here.ensures.1) (ap (λ d. d.terms) c.drawn-here.ensures.1) c.put_number-then-is_number.ensures

pub grow-inner-requires : goal.grow-inner-requires
grow-inner-requires t c =
    let h = deep (c.drawn-here.result.state / 16777216 % 4) c.args.depth c.if-c-eq-A_PRINT.true (sym c.is_number.ensures ∙ c.if-is_number.false) in
    let m = c.decreases in
    (omega arith, capacity_inner c.requires (ap (λ d. d.at) c.drawn-here.ensures.1) (ap (λ d. d.terms) c.drawn-here.ensures.1) h)

pub last-requires : goal.last-requires
last-requires t c =
    let h = deep (c.drawn-here.result.state / 16777216 % 4) c.args.depth c.if-c-eq-A_PRINT.true (sym c.is_number.ensures ∙ c.if-is_number.false) in
    let r = capacity_print c.requires (ap (λ d. d.at) c.drawn-here.ensures.1) (ap (λ d. d.terms) c.drawn-here.ensures.1) h c.grow-inner.ensures in
    (r.2, omega arith)

pub put_term-first-requires : goal.put_term-first-requires
put_term-first-requires t c =
    let h = deep (c.drawn-here.result.state / 16777216 % 4) c.args.depth c.if-c-eq-A_PRINT.true (sym c.is_number.ensures ∙ c.if-is_number.false) in
    let r = capacity_print c.requires (ap (λ d. d.at) c.drawn-here.ensures.1) (ap (λ d. d.terms) c.drawn-here.ensures.1) h c.grow-inner.ensures in
    (search rules, r.0, r.1)

pub grow-second-requires : goal.grow-second-requires
grow-second-requires t c =
    let h = deep (c.drawn-here.result.state / 16777216 % 4) c.args.depth c.if-c-eq-A_PRINT.true (sym c.is_number.ensures ∙ c.if-is_number.false) in
    let m = c.decreases in
    (omega arith, capacity_behind c.requires (ap (λ d. d.at) c.drawn-here.ensures.1) (ap (λ d. d.terms) c.drawn-here.ensures.1) h c.grow-inner.ensures (rw c.last.ensures at c.put_term-first.ensures) c.put_term-first.auto.out)

pub last-requires-then-c-eq-A_PRINT : goal.last-requires-then-c-eq-A_PRINT
last-requires-then-c-eq-A_PRINT t c =
    let h = deep (c.drawn-here.result.state / 16777216 % 4) c.args.depth c.if-c-eq-A_PRINT.true (sym c.is_number.ensures ∙ c.if-is_number.false) in
    some_print c.requires (ap (λ d. d.at) c.drawn-here.ensures.1) (ap (λ d. d.terms) c.drawn-here.ensures.1) h c.grow-inner.ensures (rw c.last.ensures at c.put_term-first.ensures) c.put_term-first.auto.out

pub last-requires-then-c-eq-A_PRINT-2 : goal.last-requires-then-c-eq-A_PRINT-2
last-requires-then-c-eq-A_PRINT-2 t c =
    let h = deep (c.drawn-here.result.state / 16777216 % 4) c.args.depth c.if-c-eq-A_PRINT.true (sym c.is_number.ensures ∙ c.if-is_number.false) in
    let r = capacity_sequence c.requires (ap (λ d. d.at) c.drawn-here.ensures.1) (ap (λ d. d.terms) c.drawn-here.ensures.1) h c.grow-inner.ensures (rw c.last.ensures at c.put_term-first.ensures) c.put_term-first.auto.out c.grow-second.ensures in
    (r.2, omega arith)

pub put_term-requires : goal.put_term-requires
put_term-requires t c =
    let h = deep (c.drawn-here.result.state / 16777216 % 4) c.args.depth c.if-c-eq-A_PRINT.true (sym c.is_number.ensures ∙ c.if-is_number.false) in
    let r = capacity_sequence c.requires (ap (λ d. d.at) c.drawn-here.ensures.1) (ap (λ d. d.terms) c.drawn-here.ensures.1) h c.grow-inner.ensures (rw c.last.ensures at c.put_term-first.ensures) c.put_term-first.auto.out c.grow-second.ensures in
    (search rules, r.0, r.1)

pub returns-then-c-eq-A_PRINT : goal.returns-then-c-eq-A_PRINT
returns-then-c-eq-A_PRINT t c =
    let h = deep (c.drawn-here.result.state / 16777216 % 4) c.args.depth c.if-c-eq-A_PRINT.true (sym c.is_number.ensures ∙ c.if-is_number.false) in
    let w = c.drawn-here.ensures.0 in
    let e = trace_follows c.args.depth c.args.self.state h ((ap (λ q. drawn q % 4) (sym c.drawn-here.ensures.0)) ∙ c.if-c-eq-A_PRINT.true) ∙ ap (λ q. both traced (grow (c.args.depth - 2) q) (grow (c.args.depth - 1))) (sym w) in
    trace_grew c.args.depth e (ap (λ d. d.at) c.drawn-here.ensures.1) (ap (λ d. d.terms) c.drawn-here.ensures.1) (capacity_trace c.requires h) c.grow-inner.ensures (rw c.last.ensures at c.put_term-first.ensures) c.grow-second.ensures (rw (c.last-then-c-eq-A_PRINT.ensures, c.last-then-c-eq-A_PRINT-2.ensures) at c.put_term.ensures)

pub grow-left-requires : goal.grow-left-requires
grow-left-requires t c =
    let d : 0 < c.args.depth = omega arith in
    let m = c.decreases in
    (omega arith, capacity_first c.requires (ap (λ d. d.at) c.drawn-here.ensures.1) (ap (λ d. d.terms) c.drawn-here.ensures.1) d)

pub grow-right-requires : goal.grow-right-requires
grow-right-requires t c =
    let d : 0 < c.args.depth = omega arith in
    let m = c.decreases in
    (omega arith, capacity_second c.requires (ap (λ d. d.at) c.drawn-here.ensures.1) (ap (λ d. d.terms) c.drawn-here.ensures.1) d c.grow-left.ensures)

pub last-requires-2 : goal.last-requires-2
last-requires-2 t c = some_first c.requires (ap (λ d. d.at) c.drawn-here.ensures.1) (ap (λ d. d.terms) c.drawn-here.ensures.1) (omega arith) c.grow-left.ensures

pub last-requires-3 : goal.last-requires-3
last-requires-3 t c =
    let d : 0 < c.args.depth = omega arith in
    let r = capacity_sum c.requires (ap (λ d. d.at) c.drawn-here.ensures.1) (ap (λ d. d.terms) c.drawn-here.ensures.1) d c.grow-left.ensures c.grow-right.ensures in
    (r.2, omega arith)

pub put_term-requires-2 : goal.put_term-requires-2
put_term-requires-2 t c =
    let d : 0 < c.args.depth = omega arith in
    let r = capacity_sum c.requires (ap (λ d. d.at) c.drawn-here.ensures.1) (ap (λ d. d.terms) c.drawn-here.ensures.1) d c.grow-left.ensures c.grow-right.ensures in
    (search rules, r.0, r.1)

pub returns : goal.returns
returns t c =
    let d : 0 < c.args.depth = omega arith in
    let w = c.drawn-here.ensures.0 in
    let n = no_number (c.drawn-here.result.state / 16777216 % 4) c.args.depth (sym c.is_number.ensures ∙ c.if-is_number.false) in
    let z = c.if-c-eq-A_PRINT.false in
    let o : (c.drawn-here.result.state / 16777216 % 4) ≡ suc ((c.drawn-here.result.state / 16777216 % 4) - 1) = omega arith in
    let e = sum_follows c.args.depth c.args.self.state ((c.drawn-here.result.state / 16777216 % 4) - 1) d ((ap (λ q. drawn q % 4) (sym c.drawn-here.ensures.0)) ∙ o) (omega arith) ∙ ap (λ q. both (sum ((c.drawn-here.result.state / 16777216 % 4) - 1)) (grow (c.args.depth - 1) q) (grow (c.args.depth - 1))) (sym w) in
    sum_grew c.args.depth ((c.drawn-here.result.state / 16777216 % 4) - 1) e (ap (λ d. d.at) c.drawn-here.ensures.1) (ap (λ d. d.terms) c.drawn-here.ensures.1) (capacity_both c.requires d) c.grow-left.ensures c.grow-right.ensures (rw (c.last-2.ensures, c.last-3.ensures) at c.put_term-2.ensures)
