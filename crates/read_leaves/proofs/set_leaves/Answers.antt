-- `read_leaves::set_leaves` meets its contract.
use native.Mathlib.Omega.{arith}
use mathlib.Core.Path.{◌≡◌, ap, ◌∙◌}
use Prim.Native.Nat.{◌<◌}
use lib.ListN.{length, get_or, set, length-set}
use lib.Seq.{drop-set-lt, get_or-set_same, get_or-set_other}
use borrow.Author.Count.{below_more}
use Rattle.image.specs.Layout.{records_of}
use Rattle.image.specs.Types.{type_of}
use Rattle.read_records.specs.Leaves.{plain_leaves}
use Rattle.read_terms.proofs.Located.{good_of}
use Rattle.read_leaves.specs.Leaves.{leaves_of}
use Rattle.read_leaves.proofs.PlainTypes.{plain_few, pair_parts, leaves_right}
use Rattle.read_leaves.proofs.set_leaves.Goals as goal

pub overflow_cast-t : goal.overflow_cast-t
overflow_cast-t c =
    let f = (good_of c.args.image.now c.requires.0.laid_out).few_types in
    let n = c.requires.1 in
    let h = c.loop-i-test.true in
    record { fits = omega arith }

pub leaves_of-n-requires : goal.leaves_of-n-requires
leaves_of-n-requires c =
    let m = c.requires.1 in
    let h : c.loop-i.i < length (records_of c.args.image.now).types = omega arith in
    rw c.type_descriptor.ensures
    (λ e. let p = pair_parts c.args.image.now c.args.descriptors.now c.requires.0 c.loop-i.i h e in
    let i = c.loop-i.invariant in
    let l = c.requires.2 in
    (record { inside = omega arith; few = rw (i.1 _ p.2) (plain_few _) }, record { inside = omega arith; few = rw (i.1 _ p.3) (plain_few _) }))

pub loop-i-preserved : goal.loop-i-preserved
loop-i-preserved c =
    let m = c.requires.1 in
    let h : c.loop-i.i < length (records_of c.args.image.now).types = omega arith in
    let i = c.loop-i.invariant in
    let l = c.requires.2 in
    let r : c.leaves_of-n.result ≡ plain_leaves (type_of (records_of c.args.image.now) c.loop-i.i) = c.leaves_of-n.ensures ∙ ap (λ x. leaves_of x c.loop-i.table) c.type_descriptor.ensures ∙ leaves_right c.args.image.now c.args.descriptors.now c.requires.0 c.loop-i.i h c.loop-i.table i.1 in
    rw c.set_leaf.ensures (
      length-set c.loop-i.table c.loop-i.i c.leaves_of-n.result ∙ i.0,
      below_more (λ u. get_or (set c.loop-i.table c.loop-i.i c.leaves_of-n.result) u 0 ≡ plain_leaves (type_of (records_of c.args.image.now) u)) c.loop-i.i
          (λ u z. get_or-set_other c.loop-i.table c.loop-i.i u c.leaves_of-n.result 0 (λ q. omega arith) ∙ i.1 u z)
          (get_or-set_same c.loop-i.table c.loop-i.i c.leaves_of-n.result 0 (omega arith) ∙ r),
      drop-set-lt c.args.count c.loop-i.table c.loop-i.i c.leaves_of-n.result (omega arith) ∙ i.2,
    )
