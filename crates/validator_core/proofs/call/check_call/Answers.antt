-- An image that is too long, one that its examination refuses, lent memory that is too short, or none of these.
use Rattle.validator_core.proofs.Calls.{too_long_refused, examined_refused, short_work_refused, short_report_refused, accepts}
use borrow.Author.Rules.{rules}
use Rattle.std.proofs.Common.{◌≡◌, Err}
use Rattle.validator_core.proofs.call.check_call.Goals as goal

pub returns-then-image-gt-IMAGE_LIMIT : goal.returns-then-image-gt-IMAGE_LIMIT
returns-then-image-gt-IMAGE_LIMIT c =
    (too_long_refused c.args.image.now c.args.lent _ _ _ c.if-image-gt-IMAGE_LIMIT.true, c.requires.0, c.requires.1, c.requires.2)

pub returns-then-lent-lt-WORK_LENGTH : goal.returns-then-lent-lt-WORK_LENGTH
returns-then-lent-lt-WORK_LENGTH c =
    (short_work_refused c.args.image.now c.args.lent c.if-image-gt-IMAGE_LIMIT.false _ _ _ _ _ c.examine_image.ensures.0 _ c.in_ok-counts.was c.if-lent-lt-WORK_LENGTH.true, c.examine_image.ensures.1, c.examine_image.ensures.2, c.examine_image.ensures.3)

pub returns-then-lent-lt-REPORT_LENGTH : goal.returns-then-lent-lt-REPORT_LENGTH
returns-then-lent-lt-REPORT_LENGTH c =
    (short_report_refused c.args.image.now c.args.lent c.if-image-gt-IMAGE_LIMIT.false _ _ _ _ _ c.examine_image.ensures.0 _ c.in_ok-counts.was c.if-lent-lt-WORK_LENGTH.false c.if-lent-lt-REPORT_LENGTH.true, c.examine_image.ensures.1, c.examine_image.ensures.2, c.examine_image.ensures.3)

pub returns-in_err-counts : goal.returns-in_err-counts
returns-in_err-counts c =
    let r : c.from_residual.result ≡ Err c.in_err-counts.field-0.0 = search rules in
    let a = examined_refused c.args.image.now c.args.lent c.if-image-gt-IMAGE_LIMIT.false _ _ _ _ _ c.examine_image.ensures.0 _ c.in_err-counts.was in
    (rw r a, c.examine_image.ensures.1, c.examine_image.ensures.2, c.examine_image.ensures.3)

pub returns : goal.returns
returns c =
    (accepts c.args.image.now c.args.lent c.if-image-gt-IMAGE_LIMIT.false _ _ _ _ _ c.examine_image.ensures.0 _ c.in_ok-counts.was c.if-lent-lt-WORK_LENGTH.false c.if-lent-lt-REPORT_LENGTH.false, c.examine_image.ensures.1, c.examine_image.ensures.2, c.examine_image.ensures.3)
