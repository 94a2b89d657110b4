-- `read_terms::domains::mask_of` meets its contract.
use mathlib.Core.Path.{ap, ◌∙◌}
use Rattle.image.specs.Bytes.{le16}
use Rattle.read_records.specs.Heads.{fields_at}
use Rattle.read_terms.proofs.Masks.{domain_in_table, domain_place_is, domain_whole, mask_there, mask_is}
use Rattle.read_terms.proofs.domains.mask_of.Goals as goal

pub fields_at-requires : goal.fields_at-requires
fields_at-requires c =
    let e = c.domain_offset-at.ensures ∙ domain_place_is c.requires.0 c.requires.1 in
    rw e (domain_whole c.requires.0 c.requires.1)

pub word-requires : goal.word-requires
word-requires c =
    let e = c.domain_offset-at.ensures ∙ domain_place_is c.requires.0 c.requires.1 in
    rw (c.fields_at.ensures, e) (mask_there c.requires.0 c.requires.1)

pub returns : goal.returns
returns c =
    let e = c.domain_offset-at.ensures ∙ domain_place_is c.requires.0 c.requires.1 in
    c.word.ensures ∙ ap (λ fs. le16 fs 0) (c.fields_at.ensures ∙ ap (fields_at c.args.image.now) e) ∙ mask_is c.requires.0 c.requires.1

pub domain_offset-at-requires : goal.domain_offset-at-requires
domain_offset-at-requires c = domain_in_table c.requires.0 c.requires.1
