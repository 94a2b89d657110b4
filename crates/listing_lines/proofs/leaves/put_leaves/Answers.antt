-- One record after another.
use native.Mathlib.Omega.{arith}
use mathlib.Core.Path.{refl}
use Rattle.report.specs.Read.{leaf_in}
use Rattle.listing_lines.specs.Lines.{leaf_text}
use Rattle.listing_lines.proofs.Puts.{kept}
use Rattle.listing_lines.proofs.Walk.{walk_starts, walk_long, walk_on, walk_ends}
use borrow.Author.Rules.{rules}
use Rattle.listing_lines.proofs.leaves.put_leaves.Goals as goal

pub loop-size-init : goal.loop-size-init
loop-size-init c = let a = c.args in walk_starts leaf_text leaf_in a.out.now a.at a.s.now _ c.size_at-size.ensures

pub slice_bounds-put_leaf-count : goal.slice_bounds-put_leaf-count
slice_bounds-put_leaf-count c = let h = walk_long leaf_text leaf_in c.loop-size.invariant (omega arith) in search rules

pub slice_bounds-put_leaf-start : goal.slice_bounds-put_leaf-start
slice_bounds-put_leaf-start c = let h = walk_long leaf_text leaf_in c.loop-size.invariant (omega arith) in search rules

pub loop-size-preserved : goal.loop-size-preserved
loop-size-preserved c =
    let l = c.loop-size in
    walk_on leaf_text leaf_in l.invariant _ _ _ (omega arith) refl c.word.ensures c.put_leaf-o.ensures c.size_at-size-in-loop-size.ensures

pub shape_of-out : goal.shape_of-out
shape_of-out c = kept c.loop-size.invariant.put

pub returns : goal.returns
returns c = walk_ends leaf_text leaf_in c.loop-size.invariant (search rules)
