-- `read_leaves::type_leaves` meets its contract.
use native.Mathlib.Omega.{arith}
use Rattle.read_terms.proofs.Located.{good_of}
use Rattle.read_leaves.proofs.PlainTypes.{scalar_leaf}
use Rattle.read_leaves.proofs.type_leaves.Goals as goal

pub returns-then-descriptor_kind-lt-PAIR_TYPE : goal.returns-then-descriptor_kind-lt-PAIR_TYPE
returns-then-descriptor_kind-lt-PAIR_TYPE c =
    let k = c.descriptor_kind.ensures in
    let e = c.type_descriptor.ensures in
    scalar_leaf c.args.image.now c.args.descriptors.now c.requires.0 c.args.t.0 c.requires.2 (rw (← e, ← k) c.if-descriptor_kind-lt-PAIR_TYPE.true)

pub set_leaves-requires : goal.set_leaves-requires
set_leaves-requires c =
    let f = (good_of c.args.image.now c.requires.0.laid_out).few_types in
    let n = c.requires.1 in
    (c.requires.0, c.requires.1, omega arith)
