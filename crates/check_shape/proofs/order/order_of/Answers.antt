-- The loop keeps: the rows of the d first domains, and no others.
use Rattle.image.specs.Bytes.{length_at}
use native.Mathlib.Omega.{arith}
use mathlib.Core.Path.{◌≡◌, ap, ◌∙◌}
use lib.ListN.{length, get_or}
use Rattle.image.specs.Limits.{domain_limit}
use Rattle.image.specs.Layout.{records_of}
use Rattle.verdict.specs.Domains.{bits}
use Rattle.read_records.specs.Heads.{fields_at, field_in}
use Rattle.read_records.proofs.Parts.{bytes_length, field_is}
use Rattle.check_shape.proofs.Orders.{rows_none, rows_more, rows_all}
use Rattle.check_shape.proofs.order.order_of.Goals as goal

pub fields_at-fields-requires : goal.fields_at-fields-requires
fields_at-fields-requires c =
    let l = c.loop-d in
    rw c.domain_offset.ensures (c.requires.stands l.d (omega arith)).whole

pub mask_of-requires : goal.mask_of-requires
mask_of-requires c =
    let l = c.loop-d in
    let D = c.requires.stands l.d (omega arith) in
    let m = D.mask in
    rw (c.fields_at-fields.ensures, c.domain_offset.ensures) (omega (arith, bytes_length c.args.image.now (get_or c.args.doms.now l.d 0) D.whole))

pub loop-d-preserved : goal.loop-d-preserved
loop-d-preserved c =
    let l = c.loop-d in
    let b = c.args.image.now in
    let ds = c.args.doms.now in
    let o = get_or ds l.d 0 in
    let D = c.requires.stands l.d (omega arith) in
    let m = D.mask in
    let at = ap (fields_at b) c.domain_offset.ensures in
    let mask = c.mask_of.ensures ∙ ap (λ fs. field_in fs 0) (c.fields_at-fields.ensures ∙ at) ∙ field_is b o (length_at b o) 0 (omega arith) in
    let row = c.row_of.ensures ∙ ap (bits domain_limit) mask in
    rows_more (records_of b) b ds c.requires l.o l.d (omega arith) l.invariant _ row

pub returns : goal.returns
returns c =
    let l = c.loop-d in
    let b = c.args.image.now in
    let ds = c.args.doms.now in
    let e : l.d ≡ length ds = omega arith in
    rows_all (records_of b) b ds c.requires l.o (rw e at l.invariant)

pub loop-d-init : goal.loop-d-init
loop-d-init c = rows_none _
