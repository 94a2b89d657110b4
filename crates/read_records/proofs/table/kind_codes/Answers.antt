-- The literal list is the table of codes, computed.
use mathlib.Core.Path.{refl}
use Rattle.image.specs.Kinds.{find}
use Rattle.read_records.specs.Codes.{class_numbers, code_number, codes_from, kind_codes}
use Rattle.read_records.proofs.table.kind_codes.Goals as goal

pub returns : goal.returns
unfolding kind_codes codes_from code_number find class_numbers
returns c = refl
