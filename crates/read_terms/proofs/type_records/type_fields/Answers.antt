-- `read_terms::type_records::type_fields` meets its contract.
use mathlib.Core.Path.{ap, ◌∙◌}
use Rattle.read_records.specs.Heads.{fields_at}
use Rattle.read_terms.proofs.TypeRecords.{type_in_table, type_place_is, type_whole}
use Rattle.read_terms.proofs.type_records.type_fields.Goals as goal

pub fields_at-requires : goal.fields_at-requires
fields_at-requires c = rw (c.type_offset.ensures ∙ type_place_is c.requires.0 c.requires.1) (type_whole c.requires.0 c.requires.1)

pub returns : goal.returns
returns c = c.fields_at.ensures ∙ ap (fields_at c.args.image.now) (c.type_offset.ensures ∙ type_place_is c.requires.0 c.requires.1)

pub type_offset-requires : goal.type_offset-requires
type_offset-requires c = type_in_table c.requires.0 c.requires.1
