-- What small programs will need, worked.
use Prim.Native.Nat.{ℕ}
use mathlib.Core.Path.{◌≡◌, refl}
use Rattle.calculus.specs.Syntax.{Ty, Val, Tm, at_end, Op2, val, op0, op1, op2, seq, pcd, adv, lower, keep, match, end, more, new_label, the_stack, install, mark}
use Rattle.calculus.specs.State.{at_dom, one_piece}
use Rattle.calculus_needs.specs.Numbers.{◌⊕◌, dearer}
use Rattle.calculus_needs.specs.Needs.{need, rounds, need_of}

-- Card 9: a pair takes a piece of the half of the domain in which it is made.
abbrev a_pair : Tm
a_pair = op2 Op2.pair (Ty.pair Ty.unit Ty.unit) (val Val.unit) (val Val.unit)

pub made_at_1 : (need_of (lower 1 a_pair)).used ≡ at_dom 1 one_piece
unfolding need ◌⊕◌
made_at_1 = refl

-- Card 6: a watch that looks at the stack takes a piece for each value kept around the mark, besides those of its pointcut and of the advice itself.
abbrev looking : Tm
looking = op1 install Ty.unit (adv 0 (pcd end) (match at_end (more (op0 the_stack Ty.stack) end) (val Val.unit) (val Val.unit)))

abbrev label : Tm
label = op0 new_label (Ty.label Ty.unit 0)

abbrev marked : Tm
marked = op2 mark Ty.unit label (val Val.unit)

abbrev pieces : Tm → ℕ
pieces e = (need_of e).used.mainline.pieces

pub nothing_kept : pieces (seq looking marked) ≡ 2
unfolding need rounds ◌⊕◌ dearer
nothing_kept = refl

pub one_kept : pieces (seq looking (keep label (val Val.unit) marked)) ≡ 3
unfolding need rounds ◌⊕◌ dearer
one_kept = refl
