-- The class, of terms in a run: an install may stand over the value that its advice has become, and bodies of functions do not matter.
use mathlib.Core.Path.{◌≡◌, refl}
use mathlib.Core.Bool.{Bool, true, false, ◌&&◌}
use lib.Dec.{T}
use Rattle.calculus.specs.Syntax.{Val, Tm, Tms, Op1, Op2, val, var, lam, op0, op1, op2, seq, ite, split, pcd, adv, lower, obj, keep, match, end, more, call, print, install, read, byte, new_cell, app, mark, store, plus, minus, less, equal}
use Rattle.calculus_needs.specs.Here.{Here, at, deeper, keeping}
use Rattle.calculus_needs.specs.Numbers.{Numbers, none}
use Rattle.calculus_needs.specs.Class.{is_advice, permits1, permits2, in_class, all_in_class}
use Rattle.calculus_needs.specs.Needs.{own2, need, needs, installs, rounds, all_rounds}
use Rattle.calculus_needs.proofs.Sums.{plus_same, dearer_same, plus_none}

pub both : (a b : Bool) → T a → T b → T (a && b)
both true b x y = y
both false b x y = elim x [ ]

pub first : (a b : Bool) → T (a && b) → T a
first true b x = tt
first false b x = elim x [ ]

pub second : (a b : Bool) → T (a && b) → T b
second true b x = x
second false b x = elim x [ ]

abbrev pub Permits2 : Bool → Op2 → Type 0
Permits2 m o = T (permits2 m o)

-- X: what is asked of an install's operand.
abbrev pub Allows : Bool → Op1 → Type 0 → Type 0
Allows m print X = Unit
Allows m install X = T m × X
Allows m read X = Unit
Allows m byte X = Unit
Allows m new_cell X = Unit
Allows m (call n) X = ⊥

unfoldable mutual
  pub Admitted : Bool → Tm → Type 0
  Admitted m (val v) = Unit
  Admitted m (var k) = Unit
  Admitted m (lam t b) = Unit
  Admitted m (op0 o t) = Unit
  Admitted m (op1 o t e) = Allows m o (Over e) × Admitted m e
  Admitted m (op2 o t e f) = Permits2 m o × Admitted m e × Admitted m f
  Admitted m (seq e f) = Admitted m e × Admitted m f
  Admitted m (ite e f g) = Admitted m e × Admitted m f × Admitted m g
  Admitted m (split e f) = Admitted m e × Admitted m f
  Admitted m (pcd es) = AllAdmitted m es
  Admitted m (adv p e b) = Admitted m e × Admitted false b
  Admitted m (lower p e) = Admitted m e
  Admitted m (obj t bs) = Unit
  Admitted m (keep e f g) = Admitted m e × Admitted m f × Admitted m g
  Admitted m (match p es f g) = AllAdmitted m es × Admitted m f × Admitted m g

  pub AllAdmitted : Bool → Tms → Type 0
  AllAdmitted m end = Unit
  AllAdmitted m (more e es) = Admitted m e × AllAdmitted m es

  -- An advice, or the value that it has become.
  pub Over : Tm → Type 0
  Over (val v) = OverValue v
  Over (var k) = ⊥
  Over (lam t b) = ⊥
  Over (op0 o t) = ⊥
  Over (op1 o t e) = ⊥
  Over (op2 o t e f) = ⊥
  Over (seq e f) = ⊥
  Over (ite e f g) = ⊥
  Over (split e f) = ⊥
  Over (pcd es) = ⊥
  Over (adv p e b) = Unit
  Over (lower p e) = ⊥
  Over (obj t bs) = ⊥
  Over (keep e f g) = ⊥
  Over (match p es f g) = ⊥

  pub OverValue : Val → Type 0
  OverValue Val.unit = ⊥
  OverValue (Val.truth b) = ⊥
  OverValue (Val.number n) = ⊥
  OverValue (Val.pair v w) = ⊥
  OverValue (Val.fun t e) = ⊥
  OverValue (Val.label l) = ⊥
  OverValue (Val.cell r) = ⊥
  OverValue (Val.pointcut ls) = ⊥
  OverValue (Val.advice p ls b) = Admitted false b
  OverValue (Val.object t bs) = ⊥
  OverValue Val.bottom = ⊥
  OverValue (Val.kept l v k) = ⊥

abbrev pub Permits1 : Bool → Op1 → Tm → Type 0
Permits1 m o e = Allows m o (Over e)

-- The class of the tree is this one.
over_advice : (e : Tm) → T (is_advice e) → Over e
unfolding Over
over_advice (adv p e b) x = tt
over_advice (val _) x = elim x [ ]
over_advice (var _) x = elim x [ ]
over_advice (lam _ _) x = elim x [ ]
over_advice (op0 _ _) x = elim x [ ]
over_advice (op1 _ _ _) x = elim x [ ]
over_advice (op2 _ _ _ _) x = elim x [ ]
over_advice (seq _ _) x = elim x [ ]
over_advice (ite _ _ _) x = elim x [ ]
over_advice (split _ _) x = elim x [ ]
over_advice (pcd _) x = elim x [ ]
over_advice (lower _ _) x = elim x [ ]
over_advice (obj _ _) x = elim x [ ]
over_advice (keep _ _ _) x = elim x [ ]
over_advice (match _ _ _ _) x = elim x [ ]

permitted : (m : Bool) (o : Op1) (e : Tm) → T (permits1 m o e) → Permits1 m o e
permitted m print e x = tt
permitted m install e x = (first m (is_advice e) x, over_advice e (second m (is_advice e) x))
permitted m read e x = tt
permitted m byte e x = tt
permitted m new_cell e x = tt
permitted m (call n) e x = x

mutual
  unfolding Admitted AllAdmitted in_class

  pub admitted : (m : Bool) (e : Tm) → T (in_class m e) → Admitted m e
  admitted m (val v) x = tt
  admitted m (var k) x = tt
  admitted m (lam t b) x = tt
  admitted m (op0 o t) x = tt
  admitted m (op1 o t e) x = (permitted m o e (first (permits1 m o e) (in_class m e) x), admitted m e (second (permits1 m o e) (in_class m e) x))
  admitted m (op2 o t e f) x =
      let y = second (permits2 m o) (in_class m e && in_class m f) x in
      (first (permits2 m o) (in_class m e && in_class m f) x, admitted m e (first (in_class m e) (in_class m f) y), admitted m f (second (in_class m e) (in_class m f) y))
  admitted m (seq e f) x = (admitted m e (first (in_class m e) (in_class m f) x), admitted m f (second (in_class m e) (in_class m f) x))
  admitted m (ite e f g) x =
      let y = second (in_class m e) (in_class m f && in_class m g) x in
      (admitted m e (first (in_class m e) (in_class m f && in_class m g) x), admitted m f (first (in_class m f) (in_class m g) y), admitted m g (second (in_class m f) (in_class m g) y))
  admitted m (split e f) x = (admitted m e (first (in_class m e) (in_class m f) x), admitted m f (second (in_class m e) (in_class m f) x))
  admitted m (pcd es) x = all_admitted m es x
  admitted m (adv p e b) x = (admitted m e (first (in_class m e) (in_class false b) x), admitted false b (second (in_class m e) (in_class false b) x))
  admitted m (lower p e) x = admitted m e x
  admitted m (obj t bs) x = tt
  admitted m (keep e f g) x =
      let y = second (in_class m e) (in_class m f && in_class m g) x in
      (admitted m e (first (in_class m e) (in_class m f && in_class m g) x), admitted m f (first (in_class m f) (in_class m g) y), admitted m g (second (in_class m f) (in_class m g) y))
  admitted m (match p es f g) x =
      let y = second (all_in_class m es) (in_class m f && in_class m g) x in
      (all_admitted m es (first (all_in_class m es) (in_class m f && in_class m g) x), admitted m f (first (in_class m f) (in_class m g) y), admitted m g (second (in_class m f) (in_class m g) y))

  all_admitted : (m : Bool) (es : Tms) → T (all_in_class m es) → AllAdmitted m es
  all_admitted m end x = tt
  all_admitted m (more e es) x = (admitted m e (first (in_class m e) (all_in_class m es) x), all_admitted m es (second (in_class m e) (all_in_class m es) x))

-- What is admitted within advice is admitted outside.
outside1 : (o : Op1) (e : Tm) → Permits1 false o e → Permits1 true o e
outside1 print e x = tt
outside1 install e x = absurd x.0
outside1 read e x = tt
outside1 byte e x = tt
outside1 new_cell e x = tt
outside1 (call n) e x = x

outside2 : (o : Op2) → Permits2 false o → Permits2 true o
outside2 Op2.pair x = tt
outside2 app x = x
outside2 mark x = tt
outside2 store x = tt
outside2 plus x = tt
outside2 minus x = tt
outside2 less x = tt
outside2 equal x = tt

mutual
  unfolding Admitted AllAdmitted

  pub outside : (e : Tm) → Admitted false e → Admitted true e
  outside (val v) x = tt
  outside (var k) x = tt
  outside (lam t b) x = tt
  outside (op0 o t) x = tt
  outside (op1 o t e) x = (outside1 o e x.0, outside e x.1)
  outside (op2 o t e f) x = (outside2 o x.0, outside e x.1, outside f x.2)
  outside (seq e f) x = (outside e x.0, outside f x.1)
  outside (ite e f g) x = (outside e x.0, outside f x.1, outside g x.2)
  outside (split e f) x = (outside e x.0, outside f x.1)
  outside (pcd es) x = all_outside es x
  outside (adv p e b) x = (outside e x.0, x.1)
  outside (lower p e) x = outside e x
  outside (obj t bs) x = tt
  outside (keep e f g) x = (outside e x.0, outside f x.1, outside g x.2)
  outside (match p es f g) x = (all_outside es x.0, outside f x.1, outside g x.2)

  all_outside : (es : Tms) → AllAdmitted false es → AllAdmitted true es
  all_outside end x = tt
  all_outside (more e es) x = (outside e x.0, all_outside es x.1)

-- A body of advice installs nothing, and needs the same whatever a mark finds.
installs_none : (o : Op1) (e : Tm) → Permits1 false o e → (Q : Here) → installs o Q e ≡ none
installs_none print e x Q = refl
installs_none install e x Q = absurd x.0
installs_none read e x Q = refl
installs_none byte e x Q = refl
installs_none new_cell e x Q = refl
installs_none (call n) e x Q = refl

mutual
  unfolding Admitted AllAdmitted rounds all_rounds

  pub rounds_none : (e : Tm) → Admitted false e → (Q : Here) → rounds Q e ≡ none
  rounds_none (val v) x Q = refl
  rounds_none (var k) x Q = refl
  rounds_none (lam t b) x Q = refl
  rounds_none (op0 o t) x Q = refl
  rounds_none (op1 o t e) x Q = plus_none (rounds_none e x.1 Q) (installs_none o e x.0 Q)
  rounds_none (op2 o t e f) x Q = plus_none (rounds_none e x.1 Q) (rounds_none f x.2 Q)
  rounds_none (seq e f) x Q = plus_none (rounds_none e x.0 Q) (rounds_none f x.1 Q)
  rounds_none (ite e f g) x Q = plus_none (rounds_none e x.0 Q) (plus_none (rounds_none f x.1 Q) (rounds_none g x.2 Q))
  rounds_none (split e f) x Q = plus_none (rounds_none e x.0 Q) (rounds_none f x.1 Q)
  rounds_none (pcd es) x Q = all_rounds_none es x Q
  rounds_none (adv p e b) x Q = rounds_none e x.0 Q
  rounds_none (lower p e) x Q = rounds_none e x Q
  rounds_none (obj t bs) x Q = refl
  rounds_none (keep e f g) x Q = plus_none (rounds_none e x.0 Q) (plus_none (rounds_none f x.1 Q) (rounds_none g x.2 Q))
  rounds_none (match p es f g) x Q = plus_none (all_rounds_none es x.0 Q) (plus_none (rounds_none f x.1 Q) (rounds_none g x.2 Q))

  all_rounds_none : (es : Tms) → AllAdmitted false es → (Q : Here) → all_rounds Q es ≡ none
  all_rounds_none end x Q = refl
  all_rounds_none (more e es) x Q = plus_none (rounds_none e x.0 Q) (all_rounds_none es x.1 Q)

module _ (W : Here → Numbers) where
  own_same : (P : Here) (o : Op2) → Permits2 false o → own2 W P o ≡ own2 (λ Q. none) P o
  own_same P Op2.pair x = refl
  own_same P app x = refl
  own_same P mark x = absurd x
  own_same P store x = refl
  own_same P plus x = refl
  own_same P minus x = refl
  own_same P less x = refl
  own_same P equal x = refl

  mutual
    unfolding Admitted AllAdmitted need needs

    pub need_same : (e : Tm) → Admitted false e → (P : Here) → need W P e ≡ need (λ Q. none) P e
    need_same (val v) x P = refl
    need_same (var k) x P = refl
    need_same (lam t b) x P = refl
    need_same (op0 o t) x P = refl
    need_same (op1 o t e) x P = plus_same (need_same e x.1 (deeper P)) refl
    need_same (op2 o t e f) x P = plus_same (need_same e x.1 (deeper P)) (plus_same (need_same f x.2 (deeper P)) (own_same P o x.0))
    need_same (seq e f) x P = plus_same (need_same e x.0 (deeper P)) (plus_same refl (need_same f x.1 P))
    need_same (ite e f g) x P = plus_same (need_same e x.0 (deeper P)) (plus_same refl (dearer_same (need_same f x.1 P) (need_same g x.2 P)))
    need_same (split e f) x P = plus_same (need_same e x.0 (deeper P)) (plus_same refl (need_same f x.1 P))
    need_same (pcd es) x P = plus_same (needs_same es x (deeper P)) refl
    need_same (adv p e b) x P = plus_same (need_same e x.0 (deeper P)) refl
    need_same (lower p e) x P = plus_same (need_same e x (at p (deeper P))) refl
    need_same (obj t bs) x P = refl
    need_same (keep e f g) x P = plus_same (need_same e x.0 (deeper P)) (plus_same (need_same f x.1 (deeper P)) (plus_same (need_same g x.2 (keeping (deeper P))) refl))
    need_same (match p es f g) x P = plus_same (needs_same es x.0 (deeper P)) (plus_same refl (dearer_same (plus_same refl (need_same f x.1 P)) (need_same g x.2 P)))

    needs_same : (es : Tms) → AllAdmitted false es → (P : Here) → needs W P es ≡ needs (λ Q. none) P es
    needs_same end x P = refl
    needs_same (more e es) x P = plus_same (need_same e x.0 P) (needs_same es x.1 P)
