-- `write_masks::lacks_above` meets its contract.
use Rattle.std.proofs.Common.{not, ◌&&◌, refl, ◌∙◌, rules, tests}
use Rattle.std.proofs.lemmas.Iterator.{YieldsList-from_range}
use Rattle.std.proofs.lemmas.Iterator.Search.{any_from_yields_List}
use Rattle.image.specs.Limits.{domain_limit}
use Rattle.read_terms.specs.Masks.{bit_of}
use Rattle.write_masks.specs.Masks.{in_mask}
use Rattle.write_masks.proofs.Ranges.{any_in_range}
use Rattle.write_masks.proofs.lacks_above.Goals as goal

pub returns : goal.returns
returns c = any_from_yields_List (λ q. bit_of c.args.masks.now c.args.d.0 q && not (in_mask c.args.mask q)) _ _ _ c.any.ensures.ran (YieldsList-from_range 0 domain_limit domain_limit refl refl) (λ x b q k. search (rules, tests)) ∙ any_in_range domain_limit _
