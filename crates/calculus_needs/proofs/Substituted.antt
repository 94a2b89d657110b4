-- A value in the place of a variable changes none of the numbers, and keeps a term in the class.
use Prim.Native.Nat.{ℕ, suc, ◌-◌}
use mathlib.Core.Path.{◌≡◌, refl}
use mathlib.Core.Bool.{Bool, true, false}
use lib.Dec.{eqb, ltb}
use Rattle.calculus.specs.Combinators.{choose}
use Rattle.calculus.specs.Syntax.{Val, Tm, Tms, Op1, val, var, lam, op0, op1, op2, seq, ite, split, pcd, adv, lower, obj, keep, match, end, more, call, print, install, read, byte, new_cell}
use Rattle.calculus.specs.Subst.{subst_var, under, subst, substs}
use Rattle.calculus_needs.specs.Here.{Here, at, deeper, keeping}
use Rattle.calculus_needs.specs.Numbers.{Numbers, none}
use Rattle.calculus_needs.specs.Class.{straight, all_straight}
use Rattle.calculus_needs.specs.Needs.{need, needs, round_of, installs, rounds, all_rounds}
use Rattle.calculus_needs.proofs.Sums.{plus_same, dearer_same}
use Rattle.calculus_needs.proofs.Admitted.{Admitted, AllAdmitted, Over, Permits1}

-- A value in the place of a variable changes nothing.
module _ (W : Here → Numbers) (v : Val) where
  need_var : (P : Here) (k i : ℕ) → need W P (subst_var k v i) ≡ none
  unfolding need
  need_var P k i = look (eqb i k) (ltb k i)
    where
      look : (b b' : Bool) → need W P (choose b (val v) (choose b' (var (i - 1)) (var i))) ≡ none
      look true b' = refl
      look false true = refl
      look false false = refl

  mutual
    unfolding need needs subst substs

    pub need_subst : (e : Tm) (P : Here) (k : ℕ) → need W P (subst k v e) ≡ need W P e
    need_subst (val w) P k = refl
    need_subst (var i) P k = need_var P k i
    need_subst (lam t b) P k = refl
    need_subst (op0 o t) P k = refl
    need_subst (op1 o t e) P k = plus_same (need_subst e (deeper P) k) refl
    need_subst (op2 o t e f) P k = plus_same (need_subst e (deeper P) k) (plus_same (need_subst f (deeper P) k) refl)
    need_subst (seq e f) P k = plus_same (need_subst e (deeper P) k) (plus_same refl (need_subst f P k))
    need_subst (ite e f g) P k = plus_same (need_subst e (deeper P) k) (plus_same refl (dearer_same (need_subst f P k) (need_subst g P k)))
    need_subst (split e f) P k = plus_same (need_subst e (deeper P) k) (plus_same refl (need_subst f P (suc (suc k))))
    need_subst (pcd es) P k = plus_same (needs_subst es (deeper P) k) refl
    need_subst (adv p e b) P k = plus_same (need_subst e (deeper P) k) refl
    need_subst (lower p e) P k = plus_same (need_subst e (at p (deeper P)) k) refl
    need_subst (obj t bs) P k = refl
    need_subst (keep e f g) P k = plus_same (need_subst e (deeper P) k) (plus_same (need_subst f (deeper P) k) (plus_same (need_subst g (keeping (deeper P)) k) refl))
    need_subst (match p es f g) P k = plus_same (needs_subst es (deeper P) k) (plus_same refl (dearer_same (plus_same refl (need_subst f P (under p k))) (need_subst g P k)))

    needs_subst : (es : Tms) (P : Here) (k : ℕ) → needs W P (substs k v es) ≡ needs W P es
    needs_subst end P k = refl
    needs_subst (more e es) P k = plus_same (need_subst e P k) (needs_subst es P k)

module _ (v : Val) where
  straight_var : (k i : ℕ) → straight (subst_var k v i) ≡ true
  unfolding straight
  straight_var k i = look (eqb i k) (ltb k i)
    where
      look : (b b' : Bool) → straight (choose b (val v) (choose b' (var (i - 1)) (var i))) ≡ true
      look true b' = refl
      look false true = refl
      look false false = refl

  mutual
    unfolding straight all_straight subst substs

    pub straight_subst : (e : Tm) (k : ℕ) → straight (subst k v e) ≡ straight e
    straight_subst (val w) k = refl
    straight_subst (var i) k = straight_var k i
    straight_subst (lam t b) k = refl
    straight_subst (op0 o t) k = refl
    straight_subst (op1 o t e) k = straight_subst e k
    straight_subst (op2 o t e f) k = rw (straight_subst e k, straight_subst f k) refl
    straight_subst (seq e f) k = rw (straight_subst e k, straight_subst f k) refl
    straight_subst (ite e f g) k = refl
    straight_subst (split e f) k = rw (straight_subst e k, straight_subst f (suc (suc k))) refl
    straight_subst (pcd es) k = straights_subst es k
    straight_subst (adv p e b) k = straight_subst e k
    straight_subst (lower p e) k = straight_subst e k
    straight_subst (obj t bs) k = refl
    straight_subst (keep e f g) k = rw (straight_subst e k, straight_subst f k, straight_subst g k) refl
    straight_subst (match p es f g) k = refl

    straights_subst : (es : Tms) (k : ℕ) → all_straight (substs k v es) ≡ all_straight es
    straights_subst end k = refl
    straights_subst (more e es) k = rw (straight_subst e k, straights_subst es k) refl

  admitted_var : (m : Bool) (k i : ℕ) → Admitted m (subst_var k v i)
  unfolding Admitted
  admitted_var m k i = look (eqb i k) (ltb k i)
    where
      look : (b b' : Bool) → Admitted m (choose b (val v) (choose b' (var (i - 1)) (var i)))
      look true b' = tt
      look false true = tt
      look false false = tt

  over_subst : (e : Tm) (k : ℕ) → Over e → Over (subst k v e)
  unfolding Over subst
  over_subst (val w) k x = x
  over_subst (adv p e b) k x = tt
  over_subst (var _) k x = elim x [ ]
  over_subst (lam _ _) k x = elim x [ ]
  over_subst (op0 _ _) k x = elim x [ ]
  over_subst (op1 _ _ _) k x = elim x [ ]
  over_subst (op2 _ _ _ _) k x = elim x [ ]
  over_subst (seq _ _) k x = elim x [ ]
  over_subst (ite _ _ _) k x = elim x [ ]
  over_subst (split _ _) k x = elim x [ ]
  over_subst (pcd _) k x = elim x [ ]
  over_subst (lower _ _) k x = elim x [ ]
  over_subst (obj _ _) k x = elim x [ ]
  over_subst (keep _ _ _) k x = elim x [ ]
  over_subst (match _ _ _ _) k x = elim x [ ]

  permits_subst : (m : Bool) (o : Op1) (e : Tm) (k : ℕ) → Permits1 m o e → Permits1 m o (subst k v e)
  permits_subst m print e k x = tt
  permits_subst m install e k x = (x.0, over_subst e k x.1)
  permits_subst m read e k x = tt
  permits_subst m byte e k x = tt
  permits_subst m new_cell e k x = tt
  permits_subst m (call n) e k x = x

  mutual
    unfolding Admitted AllAdmitted subst substs

    pub admitted_subst : (m : Bool) (e : Tm) (k : ℕ) → Admitted m e → Admitted m (subst k v e)
    admitted_subst m (val w) k x = tt
    admitted_subst m (var i) k x = admitted_var m k i
    admitted_subst m (lam t b) k x = tt
    admitted_subst m (op0 o t) k x = tt
    admitted_subst m (op1 o t e) k x = (permits_subst m o e k x.0, admitted_subst m e k x.1)
    admitted_subst m (op2 o t e f) k x = (x.0, admitted_subst m e k x.1, admitted_subst m f k x.2)
    admitted_subst m (seq e f) k x = (admitted_subst m e k x.0, admitted_subst m f k x.1)
    admitted_subst m (ite e f g) k x = (admitted_subst m e k x.0, admitted_subst m f k x.1, admitted_subst m g k x.2)
    admitted_subst m (split e f) k x = (admitted_subst m e k x.0, admitted_subst m f (suc (suc k)) x.1)
    admitted_subst m (pcd es) k x = admitteds_subst m es k x
    admitted_subst m (adv p e b) k x = (admitted_subst m e k x.0, admitted_subst false b (suc k) x.1)
    admitted_subst m (lower p e) k x = admitted_subst m e k x
    admitted_subst m (obj t bs) k x = tt
    admitted_subst m (keep e f g) k x = (admitted_subst m e k x.0, admitted_subst m f k x.1, admitted_subst m g k x.2)
    admitted_subst m (match p es f g) k x = (admitteds_subst m es k x.0, admitted_subst m f (under p k) x.1, admitted_subst m g k x.2)

    admitteds_subst : (m : Bool) (es : Tms) (k : ℕ) → AllAdmitted m es → AllAdmitted m (substs k v es)
    admitteds_subst m end k x = tt
    admitteds_subst m (more e es) k x = (admitted_subst m e k x.0, admitteds_subst m es k x.1)

  rounds_var : (Q : Here) (k i : ℕ) → rounds Q (subst_var k v i) ≡ none
  unfolding rounds
  rounds_var Q k i = look (eqb i k) (ltb k i)
    where
      look : (b b' : Bool) → rounds Q (choose b (val v) (choose b' (var (i - 1)) (var i))) ≡ none
      look true b' = refl
      look false true = refl
      look false false = refl

  round_subst : (Q : Here) (e : Tm) (k : ℕ) → Over e → round_of Q (subst k v e) ≡ round_of Q e
  unfolding Over subst
  round_subst Q (val w) k x = refl
  round_subst Q (adv p e b) k x = rw (need_subst (λ R. none) v b (at p (deeper (deeper Q))) (suc k)) refl
  round_subst Q (var _) k x = elim x [ ]
  round_subst Q (lam _ _) k x = elim x [ ]
  round_subst Q (op0 _ _) k x = elim x [ ]
  round_subst Q (op1 _ _ _) k x = elim x [ ]
  round_subst Q (op2 _ _ _ _) k x = elim x [ ]
  round_subst Q (seq _ _) k x = elim x [ ]
  round_subst Q (ite _ _ _) k x = elim x [ ]
  round_subst Q (split _ _) k x = elim x [ ]
  round_subst Q (pcd _) k x = elim x [ ]
  round_subst Q (lower _ _) k x = elim x [ ]
  round_subst Q (obj _ _) k x = elim x [ ]
  round_subst Q (keep _ _ _) k x = elim x [ ]
  round_subst Q (match _ _ _ _) k x = elim x [ ]

  installs_subst : (Q : Here) (o : Op1) (e : Tm) (k : ℕ) → Permits1 true o e → installs o Q (subst k v e) ≡ installs o Q e
  installs_subst Q print e k x = refl
  installs_subst Q install e k x = round_subst Q e k x.1
  installs_subst Q read e k x = refl
  installs_subst Q byte e k x = refl
  installs_subst Q new_cell e k x = refl
  installs_subst Q (call n) e k x = refl

  mutual
    unfolding Admitted AllAdmitted rounds all_rounds subst substs

    pub rounds_subst : (e : Tm) → Admitted true e → (Q : Here) (k : ℕ) → rounds Q (subst k v e) ≡ rounds Q e
    rounds_subst (val w) x Q k = refl
    rounds_subst (var i) x Q k = rounds_var Q k i
    rounds_subst (lam t b) x Q k = refl
    rounds_subst (op0 o t) x Q k = refl
    rounds_subst (op1 o t e) x Q k = plus_same (rounds_subst e x.1 Q k) (installs_subst Q o e k x.0)
    rounds_subst (op2 o t e f) x Q k = plus_same (rounds_subst e x.1 Q k) (rounds_subst f x.2 Q k)
    rounds_subst (seq e f) x Q k = plus_same (rounds_subst e x.0 Q k) (rounds_subst f x.1 Q k)
    rounds_subst (ite e f g) x Q k = plus_same (rounds_subst e x.0 Q k) (plus_same (rounds_subst f x.1 Q k) (rounds_subst g x.2 Q k))
    rounds_subst (split e f) x Q k = plus_same (rounds_subst e x.0 Q k) (rounds_subst f x.1 Q (suc (suc k)))
    rounds_subst (pcd es) x Q k = all_rounds_subst es x Q k
    rounds_subst (adv p e b) x Q k = rounds_subst e x.0 Q k
    rounds_subst (lower p e) x Q k = rounds_subst e x Q k
    rounds_subst (obj t bs) x Q k = refl
    rounds_subst (keep e f g) x Q k = plus_same (rounds_subst e x.0 Q k) (plus_same (rounds_subst f x.1 Q k) (rounds_subst g x.2 Q k))
    rounds_subst (match p es f g) x Q k = plus_same (all_rounds_subst es x.0 Q k) (plus_same (rounds_subst f x.1 Q (under p k)) (rounds_subst g x.2 Q k))

    all_rounds_subst : (es : Tms) → AllAdmitted true es → (Q : Here) (k : ℕ) → all_rounds Q (substs k v es) ≡ all_rounds Q es
    all_rounds_subst end x Q k = refl
    all_rounds_subst (more e es) x Q k = plus_same (rounds_subst e x.0 Q k) (all_rounds_subst es x.1 Q k)
