use Rattle.vm_memory.specs.View.{memory_of}
use Rattle.vm_results.proofs.Gathering.{plain_one, from_one, from_none}
use Rattle.vm_results.proofs.leaves.plain_leaves.Goals as goal

pub returns-then-tag-le-NUMBER : goal.returns-then-tag-le-NUMBER
returns-then-tag-le-NUMBER c =
    let a = c.args in
    from_one (memory_of a.work.now) a.w (plain_one a.w c.tag.result c.tag.ensures (memory_of a.work.now) c.if-tag-le-NUMBER.true) c.no_leaves.ensures c.leaf_of.ensures c.with_leaf.ensures

pub returns : goal.returns
returns c =
    let a = c.args in
    from_none (memory_of a.work.now) a.w c.no_leaves-2.ensures c.gather.ensures
