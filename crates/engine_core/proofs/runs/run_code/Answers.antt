use native.Mathlib.Omega.{arith}
use Rattle.engine_core.proofs.Ran.{code_long, run_safe, report_asks, run_left}
use borrow.Author.Rules.{rules}
use Rattle.engine_core.proofs.runs.run_code.Goals as goal

pub run_program-r-requires : goal.run_program-r-requires
run_program-r-requires c =
    let a = c.args in
    (code_long a.image.now a.frame.now c.requires.0 (λ n. omega (arith, c.shared_slice_known-1.given n)) a.budget a.log.now a.code.now a.work.now a.target c.requires.1.code_is c.requires.1.target_is c.requires.2, search rules, run_safe a.image.now a.frame.now c.requires.0 (λ n. omega (arith, c.shared_slice_known-1.given n)) a.budget a.log.now a.code.now a.work.now a.target c.requires.1.code_is c.requires.1.target_is c.requires.2, c.requires.1.enough, c.requires.1.fused)

pub put_report-requires : goal.put_report-requires
put_report-requires c =
    let a = c.args in
    let r = report_asks a.image.now a.frame.now c.requires.0 (λ n. omega (arith, c.shared_slice_known-1.given n)) a.budget a.log.now a.code.now a.work.now a.target c.requires.1.code_is c.requires.1.target_is c.requires.2 _ c.run_program-r.ensures.regs in
    (omega (arith, c.run_program-r.auto.work, c.requires.2), search rules, r.0, r.1)

pub returns : goal.returns
returns c =
    let a = c.args in
    run_left a.image.now a.frame.now c.requires.0 (λ n. omega (arith, c.shared_slice_known-1.given n)) a.budget a.log.now a.code.now a.work.now a.target c.requires.1.code_is c.requires.1.target_is c.requires.2 _ _ a.report.now _ _ _ c.run_program-r.ensures c.put_report.ensures.0 c.put_report.ensures.1
