-- `read_terms::terms::stated_type` meets its contract.
use mathlib.Core.Path.{ap, ◌∙◌}
use Rattle.read_records.specs.Heads.{field_in}
use Rattle.read_terms.proofs.Located.{typed_in, type_in_lem}
use Rattle.read_terms.proofs.terms.stated_type.Goals as goal

pub own_type-requires : goal.own_type-requires
own_type-requires c = rw c.term_fields.ensures (typed_in c.requires.0 c.requires.1).long

pub returns : goal.returns
returns c =
    let t = typed_in c.requires.0 c.requires.1 in
    let e = c.own_type.ensures ∙ ap (λ fs. field_in fs 0) c.term_fields.ensures in
    (e ∙ type_in_lem c.requires.0 c.requires.1, rw e t.type)
