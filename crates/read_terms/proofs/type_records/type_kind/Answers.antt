-- `read_terms::type_records::type_kind` meets its contract.
use native.Mathlib.Omega.{arith}
use mathlib.Core.Path.{ap, ◌∙◌}
use Rattle.image.specs.Bytes.{number_at}
use Rattle.read_terms.proofs.TypeRecords.{type_in_table, type_place_is, type_whole}
use Rattle.read_terms.proofs.type_records.type_kind.Goals as goal

pub kind_at-requires : goal.kind_at-requires
kind_at-requires c =
    let w = type_whole c.requires.0 c.requires.1 in
    rw (c.type_offset.ensures ∙ type_place_is c.requires.0 c.requires.1) (omega (arith, w.0, w.1))

pub returns : goal.returns
returns c = c.kind_at.ensures ∙ ap (number_at c.args.image.now) (c.type_offset.ensures ∙ type_place_is c.requires.0 c.requires.1)

pub type_offset-requires : goal.type_offset-requires
type_offset-requires c = type_in_table c.requires.0 c.requires.1
