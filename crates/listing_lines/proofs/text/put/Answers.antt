use lib.Seq.{take_all}
use Rattle.listing_lines.proofs.Puts.{puts_nothing, kept, as_text, one_more}
use borrow.Author.Rules.{rules}
use Rattle.listing_lines.proofs.text.put.Goals as goal

pub loop-b-init : goal.loop-b-init
loop-b-init c = let a = c.args in puts_nothing a.out.now a.at

pub loop-b-preserved : goal.loop-b-preserved
loop-b-preserved c =
    let l = c.loop-b in
    one_more c.args.text.now l.b-index (search rules) l.invariant c.put_byte-o.ensures

pub returns : goal.returns
returns c = as_text (take_all c.loop-b.b-index c.args.text.now (search rules)) c.loop-b.invariant

pub shape_of-out : goal.shape_of-out
shape_of-out c = kept c.loop-b.invariant
