-- `write_stripped::write_stripped` meets its contract.
use Rattle.std.specs.Prelude.{ℕ, Result, Err}
use Rattle.std.proofs.lemmas.Result.{err_from_is_err_and}
use mathlib.Core.Path.{sym, ap, ◌∙◌}
use Rattle.validator_core.specs.Examined.{verdict_of}
use Rattle.write_stripped.specs.declared.StripError.{StripError}
use Rattle.write_stripped.proofs.Acceptance.{too_long_left, examined_left}
use Rattle.write_stripped.proofs.write_stripped.Goals as goal

pub returns-then-image-gt-IMAGE_LIMIT : goal.returns-then-image-gt-IMAGE_LIMIT
returns-then-image-gt-IMAGE_LIMIT c = too_long_left c.args.image.now c.args.mask c.args.out.now c.if-image-gt-IMAGE_LIMIT.true

pub returns-in_err-counts : goal.returns-in_err-counts
returns-in_err-counts c =
    let k = err_from_is_err_and c.from_residual.result c.from_residual.ensures.1 in
    ap (λ (a : Result ℕ StripError). record { answer = a; out = c.args.out.now }) (k.1 ∙ ap Err k.2)
    ∙ examined_left c.args.image.now c.args.mask c.args.out.now c.if-image-gt-IMAGE_LIMIT.false _ (ap verdict_of (sym c.in_err-counts.was) ∙ c.examine_image.ensures.0.answer)

pub write_checked-requires : goal.write_checked-requires
write_checked-requires c =
    let t = c.in_ok-counts.was in
    let e = c.examine_image.ensures.0 in
    let f = e.filled _ t in
    (c.if-image-gt-IMAGE_LIMIT.false, sym e.answer ∙ ap verdict_of t, c.kind_codes-codes.ensures, f.tables, f.counts, record { laid_out = f.tables.laid_out; offsets = rw (← f.counts.types) f.types })
