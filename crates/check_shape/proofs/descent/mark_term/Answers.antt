-- `check_shape::descent::mark_term` meets its contract: its fields hold its children.
use native.Mathlib.Omega.{arith}
use lib.ListN.{length}
use Rattle.check_uses.proofs.ChildByChild.{lower_up}
use Rattle.check_shape.proofs.descent.mark_term.Goals as goal

pub kind_at-requires : goal.kind_at-requires
kind_at-requires c =
    let t = (c.requires.1.stands c.args.n.0 c.requires.3).whole in
    omega (arith, c.term_offset-at.ensures)

pub known_code-code-requires : goal.known_code-code-requires
known_code-code-requires c =
    (c.requires.0, rw (c.kind_at.ensures, c.term_offset-at.ensures) (c.requires.1.stands c.args.n.0 c.requires.3).known)

pub fields_at-fields-requires : goal.fields_at-fields-requires
fields_at-fields-requires c =
    rw c.term_offset-at.ensures (c.requires.1.stands c.args.n.0 c.requires.3).whole

pub mark_children-requires : goal.mark_children-requires
mark_children-requires c =
    let T = c.requires.1 in
    let o = c.term_offset-at.ensures in
    let l = c.requires.2 in
    let i = c.requires.3 in
    (rw (c.fields_at-fields.ensures, c.known_code-code.ensures, c.kind_at.ensures, o) (T.stands c.args.n.0 i).fitting, rw (c.fields_at-fields.ensures, c.known_code-code.ensures, c.kind_at.ensures, o) (lower_up c.args.n.0 (length c.args.depths.now) _ (omega arith) (T.lower c.args.n.0 i)))

pub returns : goal.returns
returns c =
    let m = c.mark_children in
    let o = c.term_offset-at.ensures in
    rw (c.fields_at-fields.ensures, c.known_code-code.ensures, c.kind_at.ensures, o, c.one_more-d.ensures, c.mark_of.ensures) at m.ensures
