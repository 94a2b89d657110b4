-- One record after another.
use native.Mathlib.Omega.{arith}
use mathlib.Core.Path.{refl}
use Rattle.report.specs.Read.{cell_in_of}
use Rattle.listing_lines.specs.Lines.{cell_line}
use Rattle.listing_lines.proofs.Puts.{kept}
use Rattle.listing_lines.proofs.Walk.{walk_starts, walk_long, walk_on, walk_ends}
use borrow.Author.Rules.{rules}
use Rattle.listing_lines.proofs.lines.put_cells.Goals as goal

pub loop-size-init : goal.loop-size-init
loop-size-init c = let a = c.args in walk_starts cell_line cell_in_of a.out.now a.at a.report.now _ c.size_at-size.ensures

pub slice_bounds-put_cell-count : goal.slice_bounds-put_cell-count
slice_bounds-put_cell-count c = let h = walk_long cell_line cell_in_of c.loop-size.invariant (omega arith) in search rules

pub slice_bounds-put_cell-start : goal.slice_bounds-put_cell-start
slice_bounds-put_cell-start c = let h = walk_long cell_line cell_in_of c.loop-size.invariant (omega arith) in search rules

pub loop-size-preserved : goal.loop-size-preserved
loop-size-preserved c =
    let l = c.loop-size in
    walk_on cell_line cell_in_of l.invariant _ _ _ (omega arith) refl c.word.ensures c.put_cell-o.ensures c.size_at-size-in-loop-size.ensures

pub shape_of-out : goal.shape_of-out
shape_of-out c = kept c.loop-size.invariant.put

pub returns : goal.returns
returns c = walk_ends cell_line cell_in_of c.loop-size.invariant (search rules)
