use Rattle.needs.proofs.Told.{too_long_told}
use Rattle.needs.proofs.forecast_image.Goals as goal

pub returns-then-image-gt-IMAGE_LIMIT : goal.returns-then-image-gt-IMAGE_LIMIT
returns-then-image-gt-IMAGE_LIMIT c = too_long_told c.args.image.now c.if-image-gt-IMAGE_LIMIT.true
