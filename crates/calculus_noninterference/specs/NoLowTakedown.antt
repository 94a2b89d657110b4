-- Card 13's condition on takedowns: "no body that runs at a low domain, functions and methods included, contains a takedown".
-- It is said of the domain at which a takedown would run, which asks a little less: a function of a high domain may have one, wherever the function stands.
use Rattle.std.specs.Prelude.{◌≡◌, Bool, true}
use Rattle.calculus.specs.Syntax.{Dom, Sigs, no_method, method, Val, Tm, Tms, Op0, val, var, lam, op0, op1, op2, seq, ite, split, pcd, adv, lower, obj, keep, match, end, more, new_label, abort, takedown, the_stack}
use Rattle.calculus.specs.Plain.{dom_of, methods_of}

module _ (high : Dom → Bool) where
  abbrev pub NoLowTakedownOp : Dom → Op0 → Type 0
  NoLowTakedownOp c new_label = Unit {0}
  NoLowTakedownOp c abort = Unit {0}
  NoLowTakedownOp c (takedown p) = high c ≡ true
  NoLowTakedownOp c the_stack = Unit {0}

  unfoldable mutual
    -- A term that runs at c: every takedown in it runs at a high domain.
    pub NoLowTakedown : Dom → Tm → Type 0
    NoLowTakedown c (val v) = NoLowTakedownVal v
    NoLowTakedown c (var k) = Unit {0}
    NoLowTakedown c (lam t b) = NoLowTakedown (dom_of t) b
    NoLowTakedown c (op0 o t) = NoLowTakedownOp c o
    NoLowTakedown c (op1 o t e) = NoLowTakedown c e
    NoLowTakedown c (op2 o t e f) = NoLowTakedown c e × NoLowTakedown c f
    NoLowTakedown c (seq e f) = NoLowTakedown c e × NoLowTakedown c f
    NoLowTakedown c (ite e f g) = NoLowTakedown c e × NoLowTakedown c f × NoLowTakedown c g
    NoLowTakedown c (split e f) = NoLowTakedown c e × NoLowTakedown c f
    NoLowTakedown c (pcd es) = NoLowTakedowns c es
    NoLowTakedown c (adv p e b) = NoLowTakedown c e × NoLowTakedown p b
    NoLowTakedown c (lower p e) = NoLowTakedown p e
    NoLowTakedown c (obj t bs) = NoLowTakedownBodies (methods_of t) bs
    NoLowTakedown c (keep e f g) = NoLowTakedown c e × NoLowTakedown c f × NoLowTakedown c g
    NoLowTakedown c (match p es f g) = NoLowTakedowns c es × NoLowTakedown c f × NoLowTakedown c g

    pub NoLowTakedowns : Dom → Tms → Type 0
    NoLowTakedowns c end = Unit {0}
    NoLowTakedowns c (more e es) = NoLowTakedown c e × NoLowTakedowns c es

    -- Bodies, each at its method's domain (`method_dom`).
    pub NoLowTakedownBodies : Sigs → Tms → Type 0
    NoLowTakedownBodies ms end = Unit {0}
    NoLowTakedownBodies no_method (more e bs) = NoLowTakedown 0 e × NoLowTakedownBodies no_method bs
    NoLowTakedownBodies (method p a ms) (more e bs) = NoLowTakedown p e × NoLowTakedownBodies ms bs

    pub NoLowTakedownVal : Val → Type 0
    NoLowTakedownVal Val.unit = Unit {0}
    NoLowTakedownVal (Val.truth b) = Unit {0}
    NoLowTakedownVal (Val.number n) = Unit {0}
    NoLowTakedownVal (Val.pair v w) = NoLowTakedownVal v × NoLowTakedownVal w
    NoLowTakedownVal (Val.fun t b) = NoLowTakedown (dom_of t) b
    NoLowTakedownVal (Val.label l) = Unit {0}
    NoLowTakedownVal (Val.cell r) = Unit {0}
    NoLowTakedownVal (Val.pointcut ls) = Unit {0}
    NoLowTakedownVal (Val.advice p ls b) = NoLowTakedown p b
    NoLowTakedownVal (Val.object t bs) = NoLowTakedownBodies (methods_of t) bs
    NoLowTakedownVal Val.bottom = Unit {0}
    NoLowTakedownVal (Val.kept l v k) = NoLowTakedownVal v × NoLowTakedownVal k
