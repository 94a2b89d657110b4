-- `write_sections::write_domains` meets its contract.
use borrow.Author.Rules.{rules}
use native.Mathlib.Omega.{arith}
use mathlib.Core.List.{List, map}
use lib.ListN.{length}
use Rattle.image_written.specs.Records.{Record}
use Rattle.image_written.specs.Written.{domain_record}
use Rattle.write_sections.proofs.Firsts.{firsts_none, record_fits, come_more, over_more, domain_at}
use Rattle.write_sections.proofs.write_domains.Goals as goal

pub loop-mask-init : goal.loop-mask-init
loop-mask-init c = firsts_none (map (λ m. domain_record m) c.args.masks.now) 0 c.args.out.now

pub put_domain-at-requires : goal.put_domain-at-requires
put_domain-at-requires c =
    let i = c.loop-mask in
    let e = domain_at c.args.masks.now i.mask-index c.loop-mask-test.true in
    let r = record_fits (map (λ m. domain_record m) c.args.masks.now) 0 i.mask-index i.at e.0 _ e.1 i.invariant.0 {n = length c.args.out.now} (search rules) in
    omega arith

pub loop-mask-preserved : goal.loop-mask-preserved
loop-mask-preserved c =
    let i = c.loop-mask in
    let w = c.put_domain-at in
    let rs : List Record = map (λ m. domain_record m) c.args.masks.now in
    let e = domain_at c.args.masks.now i.mask-index c.loop-mask-test.true in
    (come_more rs 0 i.mask-index i.at e.0 _ e.1 i.invariant.0 w.result w.ensures.0, over_more rs 0 i.mask-index i.at e.0 _ e.1 i.invariant.0 c.args.out.now (search rules) i.invariant.1 w.ensures.1)
