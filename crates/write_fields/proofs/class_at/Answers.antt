-- `write_fields::class_at` meets its contract.
use Rattle.write_fields.proofs.Told.{digit_is}
use Rattle.write_fields.proofs.class_at.Goals as goal

pub returns : goal.returns
returns c = digit_is c.args.slot c.args.classes c.requires
