-- What a run will need, from the tree (document 02, card 10). The fold goes by the places at which the definition of a step works the parts out (calculus's Step).
use Rattle.std.specs.Prelude.{ℕ, suc, Bool, true, false}
use Rattle.calculus.specs.Syntax.{Dom, Val, Tm, Tms, Pattern, at_end, at_rest, anything, pointcut, Op0, Op1, Op2, val, var, lam, op0, op1, op2, seq, ite, split, pcd, adv, lower, obj, keep, match, end, more, new_label, abort, takedown, the_stack, print, install, read, byte, new_cell, call, app, mark, store, plus, minus, less, equal}
use Rattle.calculus.specs.State.{Counts, Uses, no_uses, at_dom, some_bindings, one_cell, one_piece, some_pieces}
use Rattle.calculus_needs.specs.Here.{Here, at, deeper, keeping, top}
use Rattle.calculus_needs.specs.Numbers.{Numbers, none, ◌⊕◌, dearer}

-- One step at a place.
abbrev pub once : Here → Numbers
once P = record { steps = 1; used = no_uses; labels = 0; advices = 0; prints = 0; frames = P.depth }

-- What a step takes besides: of the rooms with two halves, charged to a domain (card 9); a label, an advice, a log record.
abbrev pub spent : Uses → Numbers
spent u = record { steps = 0; used = u; labels = 0; advices = 0; prints = 0; frames = 0 }

abbrev pub uses : Dom → Counts → Numbers
uses c u = spent (at_dom c u)

abbrev pub binds : Dom → ℕ → Numbers
binds c n = uses c (some_bindings n)

abbrev pub a_cell : Dom → Numbers
a_cell c = uses c one_cell

-- One piece, which is document 01's word: the room that a pair, a pointcut or an advice takes.
abbrev pub a_piece_of : Dom → Numbers
a_piece_of c = uses c one_piece

abbrev pub a_label : Numbers
a_label = record { steps = 0; used = no_uses; labels = 1; advices = 0; prints = 0; frames = 0 }

abbrev pub an_advice : Numbers
an_advice = record { steps = 0; used = no_uses; labels = 0; advices = 1; prints = 0; frames = 0 }

abbrev pub a_print : Numbers
a_print = record { steps = 0; used = no_uses; labels = 0; advices = 0; prints = 1; frames = 0 }

-- What the reduction of an operator without operands takes besides its step: nothing, a label, or one piece a kept value. "An abort or a takedown counts as one step and nothing more"; where it stands counts for the frames.
pub data Extra : Type 0 where
  no_extra a_new_label kept_pieces : Extra

abbrev pub extra0 : Op0 → Extra
extra0 new_label = a_new_label
extra0 abort = no_extra
extra0 (takedown p) = no_extra
extra0 the_stack = kept_pieces

-- Whether a program "without choice, mark or takedown" (Class, `straight`) may have the operator.
abbrev pub straight0 : Op0 → Bool
straight0 new_label = true
straight0 abort = true
straight0 (takedown p) = false
straight0 the_stack = true

abbrev pub with_extra : Here → Extra → Numbers
with_extra P no_extra = once P
with_extra P a_new_label = once P ⊕ a_label
with_extra P kept_pieces = once P ⊕ uses P.dom (some_pieces P.kept)

-- The reduction of an operator at a place.
abbrev pub own0 : Here → Op0 → Numbers
own0 P o = with_extra P (extra0 o)

abbrev pub own1 : Here → Op1 → Numbers
own1 P print = once P ⊕ a_print
own1 P install = once P ⊕ an_advice
own1 P read = once P
own1 P byte = once P
own1 P new_cell = once P ⊕ a_cell P.dom
own1 P (call m) = once P ⊕ binds P.dom 1

-- W says what all advice that a mark may find takes at the mark's place.
abbrev pub own2 : (Here → Numbers) → Here → Op2 → Numbers
own2 W P Op2.pair = once P ⊕ a_piece_of P.dom
own2 W P app = once P ⊕ binds P.dom 1
own2 W P mark = once P ⊕ W P
own2 W P store = once P
own2 W P plus = once P
own2 W P minus = once P
own2 W P less = once P
own2 W P equal = once P

-- How many variables a match binds (card 6).
abbrev pub variables : Pattern → ℕ
variables at_end = 0
variables at_rest = 1
variables (anything p) = variables p
variables (pointcut p) = suc (variables p)

unfoldable mutual
  -- Left to right, as a step goes. "Bodies of functions and methods, which never run there, are not counted", nor is a body of advice where it stands.
  pub need : (Here → Numbers) → Here → Tm → Numbers
  need W P (val v) = none
  need W P (var k) = none
  need W P (lam t b) = none
  need W P (op0 o t) = own0 P o
  need W P (op1 o t e) = need W (deeper P) e ⊕ own1 P o
  need W P (op2 o t e f) = need W (deeper P) e ⊕ (need W (deeper P) f ⊕ own2 W P o)
  need W P (seq e f) = need W (deeper P) e ⊕ (once P ⊕ need W P f)
  need W P (ite e f g) = need W (deeper P) e ⊕ (once P ⊕ dearer (need W P f) (need W P g))
  need W P (split e f) = need W (deeper P) e ⊕ ((once P ⊕ binds P.dom 2) ⊕ need W P f)
  need W P (pcd es) = needs W (deeper P) es ⊕ (once P ⊕ a_piece_of P.dom)
  need W P (adv p e b) = need W (deeper P) e ⊕ (once P ⊕ a_piece_of P.dom)
  need W P (lower p e) = need W (at p (deeper P)) e ⊕ once P
  need W P (obj t bs) = none
  need W P (keep e f g) = need W (deeper P) e ⊕ (need W (deeper P) f ⊕ (need W (keeping (deeper P)) g ⊕ once P))
  need W P (match p es f g) = needs W (deeper P) es ⊕ (once P ⊕ dearer (binds P.dom (variables p) ⊕ need W P f) (need W P g))

  pub needs : (Here → Numbers) → Here → Tms → Numbers
  needs W P end = none
  needs W P (more e es) = need W P e ⊕ needs W P es

-- One advice at a mark that stands at P (figure 5): its binding, charged to its domain; then its body, lowered, in a sequence. Its body has no mark.
abbrev pub round : Here → Dom → Tm → Numbers
round P p b = binds p 1 ⊕ (need (λ Q. none) (at p (deeper (deeper P))) b ⊕ (once (deeper P) ⊕ once P))

-- The advice that an install stands directly over: a term, or the value that it has become in a run.
abbrev pub round_of_value : Here → Val → Numbers
round_of_value P Val.unit = none
round_of_value P (Val.truth b) = none
round_of_value P (Val.number n) = none
round_of_value P (Val.pair v w) = none
round_of_value P (Val.fun t e) = none
round_of_value P (Val.label l) = none
round_of_value P (Val.cell r) = none
round_of_value P (Val.pointcut ls) = none
round_of_value P (Val.advice p ls b) = round P p b
round_of_value P (Val.object t bs) = none
round_of_value P Val.bottom = none
round_of_value P (Val.kept l v k) = none

abbrev pub round_of : Here → Tm → Numbers
round_of P (val v) = round_of_value P v
round_of P (var k) = none
round_of P (lam t b) = none
round_of P (op0 o t) = none
round_of P (op1 o t e) = none
round_of P (op2 o t e f) = none
round_of P (seq e f) = none
round_of P (ite e f g) = none
round_of P (split e f) = none
round_of P (pcd es) = none
round_of P (adv p e b) = round P p b
round_of P (lower p e) = none
round_of P (obj t bs) = none
round_of P (keep e f g) = none
round_of P (match p es f g) = none

abbrev pub installs : Op1 → Here → Tm → Numbers
installs print P e = none
installs install P e = round_of P e
installs read P e = none
installs byte P e = none
installs new_cell P e = none
installs (call m) P e = none

unfoldable mutual
  -- At a mark at P: "every advice that stands directly under an install outside function and method bodies" (in the class, no install stands in an advice body), whether or not its label fits or it is installed yet.
  pub rounds : Here → Tm → Numbers
  rounds P (val v) = none
  rounds P (var k) = none
  rounds P (lam t b) = none
  rounds P (op0 o t) = none
  rounds P (op1 o t e) = rounds P e ⊕ installs o P e
  rounds P (op2 o t e f) = rounds P e ⊕ rounds P f
  rounds P (seq e f) = rounds P e ⊕ rounds P f
  rounds P (ite e f g) = rounds P e ⊕ (rounds P f ⊕ rounds P g)
  rounds P (split e f) = rounds P e ⊕ rounds P f
  rounds P (pcd es) = all_rounds P es
  rounds P (adv p e b) = rounds P e
  rounds P (lower p e) = rounds P e
  rounds P (obj t bs) = none
  rounds P (keep e f g) = rounds P e ⊕ (rounds P f ⊕ rounds P g)
  rounds P (match p es f g) = all_rounds P es ⊕ (rounds P f ⊕ rounds P g)

  pub all_rounds : Here → Tms → Numbers
  all_rounds P end = none
  all_rounds P (more e es) = rounds P e ⊕ all_rounds P es

-- What a program will need.
abbrev pub need_of : Tm → Numbers
need_of e = need (λ P. rounds P e) top e
