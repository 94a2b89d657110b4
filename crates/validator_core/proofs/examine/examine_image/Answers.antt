-- `validator_core::examine::examine_image` meets its contract: the scan stopped, or its tables are what the checks of the records ask.
use Rattle.validator_core.proofs.Filling.{offsets_held}
use Rattle.validator_core.proofs.Passes.{stopped_answer, laid_tables, laid_marks, checked_answer}
use borrow.Author.Rules.{rules}
use mathlib.Core.Path.{sym, ap, ◌∙◌}
use Rattle.std.proofs.Common.{◌≡◌, Err}
use Rattle.validator_core.specs.Examined.{with_counts}
use Rattle.validator_core.proofs.examine.examine_image.Goals as goal

pub check_laid_out-requires : goal.check_laid_out-requires
check_laid_out-requires c =
    let p = c.requires in
    let f = laid_tables _ _ _ _ _ _ _ p.0 c.scan_records.ensures _ c.in_ok-counts.was in
    (c.kind_codes-kinds.ensures, f.tables, f.counts, offsets_held f, laid_marks _ _ _ _ _ _ _ p.0 c.scan_records.ensures _ c.in_ok-counts.was)

pub returns-in_err-counts : goal.returns-in_err-counts
returns-in_err-counts c =
    let r : c.from_residual.result ≡ Err c.in_err-counts.field-0.0 = search rules in
    rw r (stopped_answer _ _ _ _ _ _ _ c.requires.0 c.scan_records.ensures _ _ c.in_err-counts.was, search rules, search rules, search rules)

-- The tables of an image that is laid out, whatever the checks of its records answer.
pub returns-in_err-check_laid_out : goal.returns-in_err-check_laid_out
returns-in_err-check_laid_out c =
    let r : c.from_residual-in_err-check_laid_out.result ≡ Err c.in_err-check_laid_out.field-0.0 = search rules in
    let d = r ∙ sym (ap (λ v. with_counts v c.in_ok-counts.counts) c.in_err-check_laid_out.was) in
    (checked_answer _ _ _ _ _ _ _ c.requires.0 c.scan_records.ensures _ c.in_ok-counts.was _ _ c.check_laid_out.ensures d, search rules, search rules, search rules)

pub returns : goal.returns
returns c =
    let d = sym (ap (λ v. with_counts v c.in_ok-counts.counts) c.in_ok-check_laid_out.was) in
    (checked_answer _ _ _ _ _ _ _ c.requires.0 c.scan_records.ensures _ c.in_ok-counts.was _ _ c.check_laid_out.ensures d, search rules, search rules, search rules)
