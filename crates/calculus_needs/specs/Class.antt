-- The programs of which card 10 speaks (document 02): "no apply and no call, whose installs each stand directly over an advice, and whose advice bodies contain no mark and no install".
use Rattle.std.specs.Prelude.{Bool, true, false, ◌&&◌}
use Rattle.calculus.specs.Syntax.{Tm, Tms, Op1, Op2, val, var, lam, op0, op1, op2, seq, ite, split, pcd, adv, lower, obj, keep, match, end, more, print, install, read, byte, new_cell, call, app, mark, store, plus, minus, less, equal}
use Rattle.calculus_needs.specs.Needs.{straight0}

abbrev pub is_advice : Tm → Bool
is_advice (val v) = false
is_advice (var k) = false
is_advice (lam t b) = false
is_advice (op0 o t) = false
is_advice (op1 o t e) = false
is_advice (op2 o t e f) = false
is_advice (seq e f) = false
is_advice (ite e f g) = false
is_advice (split e f) = false
is_advice (pcd es) = false
is_advice (adv p e b) = true
is_advice (lower p e) = false
is_advice (obj t bs) = false
is_advice (keep e f g) = false
is_advice (match p es f g) = false

-- Whether an operator may stand over this operand; m is true outside the bodies of advice.
abbrev pub permits1 : Bool → Op1 → Tm → Bool
permits1 m print e = true
permits1 m install e = m && is_advice e
permits1 m read e = true
permits1 m byte e = true
permits1 m new_cell e = true
permits1 m (call n) e = false

abbrev pub permits2 : Bool → Op2 → Bool
permits2 m Op2.pair = true
permits2 m app = false
permits2 m mark = m
permits2 m store = true
permits2 m plus = true
permits2 m minus = true
permits2 m less = true
permits2 m equal = true

-- Every term counts, those in the bodies of functions and methods too.
unfoldable mutual
  pub in_class : Bool → Tm → Bool
  in_class m (val v) = true
  in_class m (var k) = true
  in_class m (lam t b) = in_class m b
  in_class m (op0 o t) = true
  in_class m (op1 o t e) = permits1 m o e && in_class m e
  in_class m (op2 o t e f) = permits2 m o && (in_class m e && in_class m f)
  in_class m (seq e f) = in_class m e && in_class m f
  in_class m (ite e f g) = in_class m e && (in_class m f && in_class m g)
  in_class m (split e f) = in_class m e && in_class m f
  in_class m (pcd es) = all_in_class m es
  in_class m (adv p e b) = in_class m e && in_class false b
  in_class m (lower p e) = in_class m e
  in_class m (obj t bs) = all_in_class m bs
  in_class m (keep e f g) = in_class m e && (in_class m f && in_class m g)
  in_class m (match p es f g) = all_in_class m es && (in_class m f && in_class m g)

  pub all_in_class : Bool → Tms → Bool
  all_in_class m end = true
  all_in_class m (more e es) = in_class m e && all_in_class m es

-- "Without choice, mark or takedown": none stands outside the bodies of functions, methods and advice. Such a program has one way to run.
abbrev pub straight2 : Op2 → Bool
straight2 Op2.pair = true
straight2 app = true
straight2 mark = false
straight2 store = true
straight2 plus = true
straight2 minus = true
straight2 less = true
straight2 equal = true

unfoldable mutual
  pub straight : Tm → Bool
  straight (val v) = true
  straight (var k) = true
  straight (lam t b) = true
  straight (op0 o t) = straight0 o
  straight (op1 o t e) = straight e
  straight (op2 o t e f) = straight2 o && (straight e && straight f)
  straight (seq e f) = straight e && straight f
  straight (ite e f g) = false
  straight (split e f) = straight e && straight f
  straight (pcd es) = all_straight es
  straight (adv p e b) = straight e
  straight (lower p e) = straight e
  straight (obj t bs) = true
  straight (keep e f g) = straight e && (straight f && straight g)
  straight (match p es f g) = false

  pub all_straight : Tms → Bool
  all_straight end = true
  all_straight (more e es) = straight e && all_straight es
