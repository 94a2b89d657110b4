-- One record after another.
use native.Mathlib.Omega.{arith}
use mathlib.Core.Path.{refl}
use Rattle.report.specs.Read.{print_in}
use Rattle.listing_lines.specs.Lines.{print_line}
use Rattle.listing_lines.proofs.Puts.{kept}
use Rattle.listing_lines.proofs.Walk.{walk_starts, walk_long, walk_on, walk_ends}
use borrow.Author.Rules.{rules}
use Rattle.listing_lines.proofs.lines.put_prints.Goals as goal

pub loop-size-init : goal.loop-size-init
loop-size-init c = let a = c.args in walk_starts print_line print_in a.out.now a.at a.log.now _ c.size_at-size.ensures

pub slice_bounds-put_print-count : goal.slice_bounds-put_print-count
slice_bounds-put_print-count c = let h = walk_long print_line print_in c.loop-size.invariant (omega arith) in search rules

pub slice_bounds-put_print-start : goal.slice_bounds-put_print-start
slice_bounds-put_print-start c = let h = walk_long print_line print_in c.loop-size.invariant (omega arith) in search rules

pub loop-size-preserved : goal.loop-size-preserved
loop-size-preserved c =
    let l = c.loop-size in
    walk_on print_line print_in l.invariant _ _ _ (omega arith) refl c.word.ensures c.put_print-o.ensures c.size_at-size-in-loop-size.ensures

pub shape_of-out : goal.shape_of-out
shape_of-out c = kept c.loop-size.invariant.put

pub returns : goal.returns
returns c = walk_ends print_line print_in c.loop-size.invariant (search rules)
