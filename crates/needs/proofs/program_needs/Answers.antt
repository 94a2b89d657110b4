use mathlib.Core.Path.{ap}
use native.Mathlib.Omega.{arith}
use Rattle.image.specs.Layout.{records_of}
use Rattle.read_terms.proofs.Located.{good_of}
use Rattle.need_walk.specs.Counted.{Known}
use Rattle.need_rows.specs.Pieces.{of_advice}
use Rattle.needs.specs.Known.{program_position}
use Rattle.needs.proofs.Told.{level_placed, program_placed, marks_known, program_known}
use Rattle.needs.proofs.program_needs.Goals as goal

pub walk-each-requires : goal.walk-each-requires
walk-each-requires c =
    let L = records_of c.args.image.now in
    let few = (good_of c.args.image.now c.requires.0.terms.laid_out).few_terms in
    let some = c.requires.1 in
    let root = c.requires.2 in
    (c.requires.0, omega arith, level_placed L _ _ c.mark_position.ensures root (omega arith) c.requires.3, rw c.mark_position.ensures tt)

pub add_pieces-requires : goal.add_pieces-requires
add_pieces-requires c =
    let L = records_of c.args.image.now in
    let few = (good_of c.args.image.now c.requires.0.terms.laid_out).few_terms in
    let some = c.requires.1 in
    let root = c.requires.2 in
    (c.requires.0, omega arith, level_placed L _ _ c.mark_position-2.ensures root (omega arith) c.requires.3, ap (λ x. of_advice x.mode) c.mark_position-2.ensures)

pub walk-requires : goal.walk-requires
walk-requires c =
    let L = records_of c.args.image.now in
    let few = (good_of c.args.image.now c.requires.0.terms.laid_out).few_terms in
    let some = c.requires.1 in
    let root = c.requires.2 in
    let rows = c.add_pieces.new.rows in
    let known : Known L program_position c.walk-each.result rows = marks_known L c.mark_position.result c.mark_position-2.result c.args.root.0 c.walk-each.result rows c.mark_position.ensures c.mark_position-2.ensures root c.walk-each.ensures c.add_pieces.ensures in
    (c.requires.0, omega arith, program_placed L _ _ c.program_position.ensures root (omega arith) c.requires.3, rw c.program_position.ensures known)

pub returns : goal.returns
returns c =
    let L = records_of c.args.image.now in
    program_known L c.requires.1 _ _ _ c.program_position.ensures c.requires.2 c.walk.ensures
