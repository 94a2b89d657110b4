-- `read_terms::terms::term_fields` meets its contract.
use Rattle.read_terms.proofs.Located.{whole}
use Rattle.read_terms.proofs.terms.term_fields.Goals as goal

pub fields_at-requires : goal.fields_at-requires
fields_at-requires c = rw c.term_place.ensures.0 (whole c.requires.0 c.requires.1)
