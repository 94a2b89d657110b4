-- `write_image::keep_domains` meets its contract.
use mathlib.Core.Path.{sym, ap, ◌∙◌}
use lib.ListN.{length}
use lib.Seq.{length-take-le}
use Rattle.base_bytes.specs.Bytes.{over}
use Rattle.write_sections.specs.Sections.{domain_bytes}
use Rattle.write_image.proofs.Assembled.{masks_taken}
use Rattle.write_image.proofs.keep_domains.Goals as goal

pub slice_bounds-masks-end : goal.slice_bounds-masks-end
slice_bounds-masks-end c = (masks_taken c.args.image.now c.args.doms.now _ c.args.count c.requires.0 c.requires.1 c.set_masks.ensures).1

pub slice_bounds-write_domains-end : goal.slice_bounds-write_domains-end
slice_bounds-write_domains-end c =
    let m = masks_taken c.args.image.now c.args.doms.now _ c.args.count c.requires.0 c.requires.1 c.set_masks.ensures in
    sym (length-take-le c.args.count c.set_masks.new.table m.1)

pub write_domains-requires : goal.write_domains-requires
write_domains-requires c =
    let m = masks_taken c.args.image.now c.args.doms.now _ c.args.count c.requires.0 c.requires.1 c.set_masks.ensures in
    rw m.0 c.requires.2

pub returns : goal.returns
returns c =
    let m = masks_taken c.args.image.now c.args.doms.now _ c.args.count c.requires.0 c.requires.1 c.set_masks.ensures in
    let w = c.write_domains.ensures in
    (w.0 ∙ ap (λ ms. length (domain_bytes ms)) m.0, w.1 ∙ ap (λ ms. over 0 (domain_bytes ms) c.args.out.now) m.0)
