-- `write_fixed::write_checked` meets its contract.
use Rattle.write_fixed.proofs.Acceptance.{accepted_fits, short_left, written_left}
use Rattle.write_fixed.proofs.write_checked.Goals as goal

pub returns-then-out-image : goal.returns-then-out-image
returns-then-out-image c =
    short_left c.args.image.now c.args.out.now c.requires.0 c.requires.1 c.if-out-image.true

pub write_whole-requires : goal.write_whole-requires
write_whole-requires c =
    let Q = c.requires.3.1 in
    (c.requires.2, record { laid_out = Q.laid_out; offsets = Q.domains }, c.requires.5, record { laid_out = Q.laid_out; offsets = Q.terms }, c.requires.4, accepted_fits c.args.image.now _ c.requires.0 c.requires.1 c.if-out-image.false)

pub returns : goal.returns
returns c =
    let w = c.write_whole in
    written_left c.args.image.now c.args.out.now c.requires.0 c.requires.1 _ _ c.if-out-image.false w.ensures.0 w.ensures.1
