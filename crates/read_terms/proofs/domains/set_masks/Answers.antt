-- `read_terms::domains::set_masks` meets its contract.
use native.Mathlib.Omega.{arith}
use mathlib.Core.Path.{◌≡◌, ap, ◌∙◌}
use lib.ListN.{length, get_or, set, replicate, length-map}
use Rattle.image.specs.Limits.{domain_limit}
use Rattle.image.specs.Bytes.{field_at}
use Rattle.image.specs.Layout.{records_of}
use Rattle.image.proofs.Laid.{layout_good}
use Rattle.verdict.specs.Domains.{masks}
use Rattle.read_terms.proofs.Lists.{filled_none, filled_more}
use lib.ListN.{length-set}
use Rattle.read_terms.proofs.domains.set_masks.Goals as goal

pub loop-i-init : goal.loop-i-init
loop-i-init c =
    let few = (layout_good c.args.image.now (records_of c.args.image.now) c.requires.0.laid_out).few_domains in
    let n = c.requires.1 in
    let z : c.args.table.now ≡ replicate domain_limit 0 = c.requires.2 in
    (omega arith, ap length z, λ k. ap (λ t. get_or t k 0) z ∙ filled_none domain_limit k (masks (records_of c.args.image.now)))

pub loop-i-preserved : goal.loop-i-preserved
loop-i-preserved c =
    let i = c.loop-i.invariant in
    let n = c.requires.1 in
    let L = records_of c.args.image.now in
    let m : length (masks L) ≡ length L.domains = length-map L.domains (λ o. field_at L.image o 0) in (
      i.0,
      ap length c.set_mask.ensures ∙ length-set c.loop-i.table c.loop-i.i c.mask_of-mask.result ∙ i.1,
      λ k. ap (λ t. get_or t k 0) c.set_mask.ensures ∙ ap (λ v. get_or (set c.loop-i.table c.loop-i.i v) k 0) c.mask_of-mask.ensures ∙ filled_more c.loop-i.table (masks L) c.loop-i.i (omega arith) (omega arith) i.2 k,
    )
