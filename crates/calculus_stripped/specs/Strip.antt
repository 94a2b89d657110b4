-- Card 13: a program stripped of its watches.
use Rattle.std.specs.Prelude.{Bool}
use Rattle.calculus.specs.Syntax.{Dom, Val, Tm, Tms, val, var, lam, op0, op1, op2, seq, ite, split, pcd, adv, lower, obj, keep, match, end, more}
use Rattle.calculus.specs.Blank.{body}

module _ (high : Dom → Bool) where
  -- "Every low lower body and low advice body replaced by unit", wherever it stands; bodies of functions and methods stay, but for such bodies inside them.
  unfoldable mutual
    pub strip : Tm → Tm
    strip (val v) = val (strip_val v)
    strip (var k) = var k
    strip (lam t b) = lam t (strip b)
    strip (op0 o t) = op0 o t
    strip (op1 o t e) = op1 o t (strip e)
    strip (op2 o t e f) = op2 o t (strip e) (strip f)
    strip (seq e f) = seq (strip e) (strip f)
    strip (ite e f g) = ite (strip e) (strip f) (strip g)
    strip (split e f) = split (strip e) (strip f)
    strip (pcd es) = pcd (strips es)
    strip (adv p e b) = adv p (strip e) (body high p (strip b))
    strip (lower p e) = lower p (body high p (strip e))
    strip (obj t bs) = obj t (strips bs)
    strip (keep e f g) = keep (strip e) (strip f) (strip g)
    strip (match p es f g) = match p (strips es) (strip f) (strip g)

    pub strips : Tms → Tms
    strips end = end
    strips (more e es) = more (strip e) (strips es)

    pub strip_val : Val → Val
    strip_val Val.unit = Val.unit
    strip_val (Val.truth b) = Val.truth b
    strip_val (Val.number n) = Val.number n
    strip_val (Val.pair v w) = Val.pair (strip_val v) (strip_val w)
    strip_val (Val.fun t b) = Val.fun t (strip b)
    strip_val (Val.label l) = Val.label l
    strip_val (Val.cell r) = Val.cell r
    strip_val (Val.pointcut ls) = Val.pointcut ls
    strip_val (Val.advice p ls b) = Val.advice p ls (body high p (strip b))
    strip_val (Val.object t bs) = Val.object t (strips bs)
    strip_val Val.bottom = Val.bottom
    strip_val (Val.kept l v k) = Val.kept l (strip_val v) (strip_val k)
