-- The programs, each with a place left open, and what two runs of them show.
use Prim.Native.Nat.{ℕ}
use mathlib.Core.Path.{◌≡◌, ap}
use mathlib.Core.List.{List, [], ◌∷◌}
use lib.ListN.{length}
use Rattle.calculus.specs.Syntax.{Dom, Ty, no_method, method, Val, Tm, val, var, lam, op0, op1, op2, seq, pcd, adv, end, more, new_label, print, install, read, new_cell, app, mark, store}
use Rattle.calculus.specs.State.{Print}
use Rattle.calculus.specs.Run.{done, Ended}
use Rattle.calculus_noninterference.specs.Observe.{high_prints, high_cells, Same}
use Rattle.calculus_rules_needed.specs.Need.{is_high}

abbrev pub number : ℕ → Tm
number n = val (Val.number n)

abbrev pub unit : Tm
unit = val Val.unit

-- The type of an object of one method (card 3).
abbrev pub one_method : Dom → Ty → Ty
one_method p b = Ty.object (method p b no_method)

abbrev pub say : Tm → Tm
say e = op1 print Ty.unit e

-- {{l}.x →0 print x}, with l the innermost variable, and its pointcut
abbrev pub on_label : Tm
on_label = pcd (more (var 0) end)

abbrev pub watching : Tm → Tm
watching e = adv 0 e (say (var 0))

abbrev pub put : Tm → Tm
put e = op1 install Ty.unit e

-- (λ r. e; f) (ref_q 0)
abbrev pub with_cell : Dom → Tm → Tm → Tm
with_cell q e f = op2 app Ty.number (lam (Ty.fun (Ty.ref Ty.number q) 0 Ty.number) (seq e f)) (op1 new_cell (Ty.ref Ty.number q) (number 0))

-- !r, r := 3
abbrev pub read_it : Tm
read_it = op1 read Ty.number (var 0)

abbrev pub store_it : Tm
store_it = op2 store Ty.unit (var 0) (number 3)

-- (λ l. e; f; print 5) new_q
abbrev pub with_label : Dom → Tm → Tm → Tm
with_label q e f = op2 app Ty.unit (lam (Ty.fun (Ty.label Ty.number q) 0 Ty.unit) (seq e (seq f (say (number 5))))) (op0 new_label (Ty.label Ty.number q))

-- l[3]
abbrev pub mark_it : Tm
mark_it = op2 mark Ty.unit (var 0) (number 3)

-- Two results, two lists of high prints, two numbers of high cells that are not the same.
pub results_differ : {E E' : Ended} (m n : ℕ) → E.end ≡ done (Val.number m) → E'.end ≡ done (Val.number n) → (m ≡ n → ⊥) → Same is_high E E' → ⊥
results_differ m n p q f S = let z : Val.number m ≡ Val.number n = S.result (Val.number m) (Val.number n) p q in f (cc)

abbrev first : List Print → ℕ
first [] = 0
first (a ∷ x) = a.shown

pub prints_differ : {E E' : Ended} (m n : ℕ) (x y : List Print) → high_prints is_high E ≡ record { dom = 0; shown = m } ∷ x → high_prints is_high E' ≡ record { dom = 0; shown = n } ∷ y → (m ≡ n → ⊥) → Same is_high E E' → ⊥
prints_differ m n x y p q f S = f (ap first (rw (p, q) at S.prints))

pub cells_differ : {E E' : Ended} {v v' : Val} (m n : ℕ) → E.end ≡ done v → E'.end ≡ done v' → length (high_cells is_high E) ≡ m → length (high_cells is_high E') ≡ n → (m ≡ n → ⊥) → Same is_high E E' → ⊥
cells_differ m n p p' q q' f S = f (let z = ap length (S.cells _ _ p p') in cc)
