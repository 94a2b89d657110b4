-- The numbers of card 10 (document 02) are small: each term adds at most what its place allows, and a mark what all advice takes there. So none is above a product of the program's size with itself and with its places.
use Prim.Native.Nat.{ℕ, ◌+◌, ◌≤◌}
use native.Mathlib.Omega.{arith}
use mathlib.Core.Bool.{Bool, true, false}
use lib.Dec.{eqb}
use Rattle.calculus.specs.Combinators.{choose}
use Rattle.calculus.specs.Syntax.{Dom, Val, Tm, Tms, Pattern, Op1, Op2, val, var, lam, op0, op1, op2, seq, ite, split, pcd, adv, lower, obj, keep, match, end, more, print, install, read, byte, new_cell, call, app, mark, store, plus, minus, less, equal}
use Rattle.calculus.specs.State.{Counts, no_counts, some_bindings, one_cell, some_pieces}
use Rattle.calculus_needs.specs.Here.{Here, at, deeper, keeping, top}
use Rattle.calculus_needs.specs.Numbers.{Numbers, none, ◌⊕◌, dearer}
use Rattle.calculus_needs.specs.Needs.{once, spent, uses, binds, a_cell, a_label, an_advice, a_print, own1, own2, variables, need, needs, round, round_of, round_of_value, installs, rounds, all_rounds, need_of, Extra, no_extra, a_new_label, kept_pieces, extra0, with_extra}
use Rattle.calculus_needs.specs.Claims.{Under}

-- K for each term, those in bodies of advice too, and pat for the pattern of a match.
unfoldable mutual
  pub amount : ℕ → (Pattern → ℕ) → Tm → ℕ
  amount K pat (val v) = amount_of K pat v
  amount K pat (var k) = 0
  amount K pat (lam t b) = 0
  amount K pat (op0 o t) = K
  amount K pat (op1 o t e) = K + amount K pat e
  amount K pat (op2 o t e f) = K + (amount K pat e + amount K pat f)
  amount K pat (seq e f) = K + (amount K pat e + amount K pat f)
  amount K pat (ite e f g) = K + (amount K pat e + (amount K pat f + amount K pat g))
  amount K pat (split e f) = K + (amount K pat e + amount K pat f)
  amount K pat (pcd es) = K + amounts K pat es
  amount K pat (adv p e b) = K + (amount K pat e + amount K pat b)
  amount K pat (lower p e) = K + amount K pat e
  amount K pat (obj t bs) = 0
  amount K pat (keep e f g) = K + (amount K pat e + (amount K pat f + amount K pat g))
  amount K pat (match p es f g) = K + (pat p + (amounts K pat es + (amount K pat f + amount K pat g)))

  pub amounts : ℕ → (Pattern → ℕ) → Tms → ℕ
  amounts K pat end = 0
  amounts K pat (more e es) = amount K pat e + amounts K pat es

  pub amount_of : ℕ → (Pattern → ℕ) → Val → ℕ
  amount_of K pat Val.unit = 0
  amount_of K pat (Val.truth b) = 0
  amount_of K pat (Val.number n) = 0
  amount_of K pat (Val.pair v w) = 0
  amount_of K pat (Val.fun t e) = 0
  amount_of K pat (Val.label l) = 0
  amount_of K pat (Val.cell r) = 0
  amount_of K pat (Val.pointcut ls) = 0
  amount_of K pat (Val.advice p ls b) = amount K pat b
  amount_of K pat (Val.object t bs) = 0
  amount_of K pat Val.bottom = 0
  amount_of K pat (Val.kept l v k) = 0

abbrev pub nothing : Pattern → ℕ
nothing p = 0

-- How many terms there are, besides values, functions and objects.
abbrev pub size : Tm → ℕ
size e = amount 1 nothing e

abbrev sizes : Tms → ℕ
sizes es = amounts 1 nothing es

-- D: how deep a place may be, and how many values may be kept around it.
abbrev pub most : ℕ → ℕ → Numbers
most D n = record { steps = n; used = record { mainline = record { bindings = n; cells = n; pieces = n }; others = record { bindings = n; cells = n; pieces = n } }; labels = n; advices = n; prints = n; frames = D }

module _ (D : ℕ) where
  pub record Small (n : ℕ) (x : Numbers) : Type 0 where
    pub under : Under x (most D n)

  upto : {m n : ℕ} {x : Numbers} → Small m x → m ≤ n → Small n x
  upto s l = record { under = record { steps = omega (arith, s.under.steps, l); bindings = omega (arith, s.under.bindings, l); other_bindings = omega (arith, s.under.other_bindings, l); cells = omega (arith, s.under.cells, l); other_cells = omega (arith, s.under.other_cells, l); pieces = omega (arith, s.under.pieces, l); other_pieces = omega (arith, s.under.other_pieces, l); labels = omega (arith, s.under.labels, l); advices = omega (arith, s.under.advices, l); prints = omega (arith, s.under.prints, l); frames = omega (arith, s.under.frames, l) } }

  small_plus : {m n : ℕ} {x y : Numbers} → Small m x → Small n y → Small (m + n) (x ⊕ y)
  unfolding ◌⊕◌
  small_plus s u = record { under = record { steps = omega (arith, s.under.steps, u.under.steps); bindings = omega (arith, s.under.bindings, u.under.bindings); other_bindings = omega (arith, s.under.other_bindings, u.under.other_bindings); cells = omega (arith, s.under.cells, u.under.cells); other_cells = omega (arith, s.under.other_cells, u.under.other_cells); pieces = omega (arith, s.under.pieces, u.under.pieces); other_pieces = omega (arith, s.under.other_pieces, u.under.other_pieces); labels = omega (arith, s.under.labels, u.under.labels); advices = omega (arith, s.under.advices, u.under.advices); prints = omega (arith, s.under.prints, u.under.prints); frames = omega (arith, s.under.frames, u.under.frames) } }

  small_dearer : {m n : ℕ} {x y : Numbers} → Small m x → Small n y → Small (m + n) (dearer x y)
  unfolding dearer
  small_dearer s u = record { under = record { steps = omega (arith, s.under.steps, u.under.steps); bindings = omega (arith, s.under.bindings, u.under.bindings); other_bindings = omega (arith, s.under.other_bindings, u.under.other_bindings); cells = omega (arith, s.under.cells, u.under.cells); other_cells = omega (arith, s.under.other_cells, u.under.other_cells); pieces = omega (arith, s.under.pieces, u.under.pieces); other_pieces = omega (arith, s.under.other_pieces, u.under.other_pieces); labels = omega (arith, s.under.labels, u.under.labels); advices = omega (arith, s.under.advices, u.under.advices); prints = omega (arith, s.under.prints, u.under.prints); frames = omega (arith, s.under.frames, u.under.frames) } }

  small_none : (n : ℕ) → Small n none
  small_none n = record { under = record { steps = omega arith; bindings = omega arith; other_bindings = omega arith; cells = omega arith; other_cells = omega arith; pieces = omega arith; other_pieces = omega arith; labels = omega arith; advices = omega arith; prints = omega arith; frames = omega arith } }

  -- One step, and what it takes besides.
  one : (P : Here) → P.depth ≤ D → Small 1 (once P)
  one P h = record { under = record { steps = omega arith; bindings = omega arith; other_bindings = omega arith; cells = omega arith; other_cells = omega arith; pieces = omega arith; other_pieces = omega arith; labels = omega arith; advices = omega arith; prints = omega arith; frames = omega arith } }

  small_spent : (n : ℕ) (b : Bool) (u : Counts) → u.bindings ≤ n → u.cells ≤ n → u.pieces ≤ n → Small n (spent (record { mainline = choose b u no_counts; others = choose b no_counts u }))
  small_spent n true u x y z = record { under = record { steps = omega arith; bindings = omega arith; other_bindings = omega arith; cells = omega arith; other_cells = omega arith; pieces = omega arith; other_pieces = omega arith; labels = omega arith; advices = omega arith; prints = omega arith; frames = omega arith } }
  small_spent n false u x y z = record { under = record { steps = omega arith; bindings = omega arith; other_bindings = omega arith; cells = omega arith; other_cells = omega arith; pieces = omega arith; other_pieces = omega arith; labels = omega arith; advices = omega arith; prints = omega arith; frames = omega arith } }

  small_binds : (c : Dom) (n : ℕ) → Small n (binds c n)
  small_binds c n = small_spent n (eqb c 0) (some_bindings n) (omega arith) (omega arith) (omega arith)

  small_pieces : (c : Dom) (n : ℕ) → Small n (uses c (some_pieces n))
  small_pieces c n = small_spent n (eqb c 0) (some_pieces n) (omega arith) (omega arith) (omega arith)

  small_cell : (c : Dom) → Small 1 (a_cell c)
  small_cell c = small_spent 1 (eqb c 0) one_cell (omega arith) (omega arith) (omega arith)

  small_label : Small 1 a_label
  small_label = record { under = record { steps = omega arith; bindings = omega arith; other_bindings = omega arith; cells = omega arith; other_cells = omega arith; pieces = omega arith; other_pieces = omega arith; labels = omega arith; advices = omega arith; prints = omega arith; frames = omega arith } }

  small_advice : Small 1 an_advice
  small_advice = record { under = record { steps = omega arith; bindings = omega arith; other_bindings = omega arith; cells = omega arith; other_cells = omega arith; pieces = omega arith; other_pieces = omega arith; labels = omega arith; advices = omega arith; prints = omega arith; frames = omega arith } }

  small_print : Small 1 a_print
  small_print = record { under = record { steps = omega arith; bindings = omega arith; other_bindings = omega arith; cells = omega arith; other_cells = omega arith; pieces = omega arith; other_pieces = omega arith; labels = omega arith; advices = omega arith; prints = omega arith; frames = omega arith } }

  -- S: what W takes at a place with room for R more.
  module _ (W : Here → Numbers) (S R : ℕ) (hW : (P : Here) → P.depth + R ≤ D → P.kept + R ≤ D → Small S (W P)) where
    abbrev K : ℕ
    K = 3 + D + S

    step : (P : Here) → P.depth ≤ D → Small K (once P)
    step P h = upto (one P h) (omega arith)

    small0 : (P : Here) (x : Extra) → P.depth ≤ D → P.kept ≤ D → Small K (with_extra P x)
    small0 P no_extra h k = step P h
    small0 P a_new_label h k = upto (small_plus (one P h) small_label) (omega arith)
    small0 P kept_pieces h k = upto (small_plus (one P h) (small_pieces P.dom P.kept)) (omega arith)

    small1 : (P : Here) (o : Op1) → P.depth ≤ D → Small K (own1 P o)
    small1 P print h = upto (small_plus (one P h) small_print) (omega arith)
    small1 P install h = upto (small_plus (one P h) small_advice) (omega arith)
    small1 P read h = step P h
    small1 P byte h = step P h
    small1 P new_cell h = upto (small_plus (one P h) (small_cell P.dom)) (omega arith)
    small1 P (call m) h = upto (small_plus (one P h) (small_binds P.dom 1)) (omega arith)

    small2 : (P : Here) (o : Op2) → P.depth + R ≤ D → P.kept + R ≤ D → Small K (own2 W P o)
    small2 P Op2.pair h k = upto (small_plus (one P (omega arith)) (small_pieces P.dom 1)) (omega arith)
    small2 P app h k = upto (small_plus (one P (omega arith)) (small_binds P.dom 1)) (omega arith)
    small2 P mark h k = upto (small_plus (one P (omega arith)) (hW P h k)) (omega arith)
    small2 P store h k = step P (omega arith)
    small2 P plus h k = step P (omega arith)
    small2 P minus h k = step P (omega arith)
    small2 P less h k = step P (omega arith)
    small2 P equal h k = step P (omega arith)

    mutual
      unfolding need needs amount amounts

      small_need : (e : Tm) (P : Here) → P.depth + (size e + R) ≤ D → P.kept + (size e + R) ≤ D → Small (amount K variables e) (need W P e)
      small_need (val v) P h k = small_none _
      small_need (var i) P h k = small_none _
      small_need (lam t b) P h k = small_none _
      small_need (op0 o t) P h k = small0 P (extra0 o) (omega arith) (omega arith)
      small_need (op1 o t e) P h k = upto (small_plus (small_need e (deeper P) (omega arith) (omega arith)) (small1 P o (omega arith))) (omega arith)
      small_need (op2 o t e f) P h k =
          upto (small_plus (small_need e (deeper P) (omega arith) (omega arith)) (small_plus (small_need f (deeper P) (omega arith) (omega arith)) (small2 P o (omega arith) (omega arith)))) (omega arith)
      small_need (seq e f) P h k =
          upto (small_plus (small_need e (deeper P) (omega arith) (omega arith)) (small_plus (step P (omega arith)) (small_need f P (omega arith) (omega arith)))) (omega arith)
      small_need (ite e f g) P h k =
          upto (small_plus (small_need e (deeper P) (omega arith) (omega arith)) (small_plus (step P (omega arith)) (small_dearer (small_need f P (omega arith) (omega arith)) (small_need g P (omega arith) (omega arith))))) (omega arith)
      small_need (split e f) P h k =
          upto (small_plus (small_need e (deeper P) (omega arith) (omega arith)) (small_plus (small_plus (one P (omega arith)) (small_binds P.dom 2)) (small_need f P (omega arith) (omega arith)))) (omega arith)
      small_need (pcd es) P h k = upto (small_plus (small_needs es (deeper P) (omega arith) (omega arith)) (small_plus (one P (omega arith)) (small_pieces P.dom 1))) (omega arith)
      small_need (adv p e b) P h k = upto (small_plus (small_need e (deeper P) (omega arith) (omega arith)) (small_plus (one P (omega arith)) (small_pieces P.dom 1))) (omega arith)
      small_need (lower p e) P h k = upto (small_plus (small_need e (at p (deeper P)) (omega arith) (omega arith)) (step P (omega arith))) (omega arith)
      small_need (obj t bs) P h k = small_none _
      small_need (keep e f g) P h k =
          upto (small_plus (small_need e (deeper P) (omega arith) (omega arith)) (small_plus (small_need f (deeper P) (omega arith) (omega arith)) (small_plus (small_need g (keeping (deeper P)) (omega arith) (omega arith)) (step P (omega arith))))) (omega arith)
      small_need (match p es f g) P h k =
          upto (small_plus (small_needs es (deeper P) (omega arith) (omega arith))
          (small_plus (step P (omega arith)) (small_dearer (small_plus (small_binds P.dom (variables p)) (small_need f P (omega arith) (omega arith))) (small_need g P (omega arith) (omega arith))))) (omega arith)

      small_needs : (es : Tms) (P : Here) → P.depth + (sizes es + R) ≤ D → P.kept + (sizes es + R) ≤ D → Small (amounts K variables es) (needs W P es)
      small_needs end P h k = small_none _
      small_needs (more e es) P h k = small_plus (small_need e P (omega arith) (omega arith)) (small_needs es P (omega arith) (omega arith))

  -- What all advice takes at a mark.
  abbrev B : ℕ
  B = 3 + D + 0

  small_round : (P : Here) (p : Dom) (b : Tm) → P.depth + (2 + size b) ≤ D → P.kept + size b ≤ D → Small (amount B variables b + 3) (round P p b)
  small_round P p b h k =
      upto (small_plus (small_binds p 1) (small_plus (small_need (λ Q. none) 0 0 (λ Q x y. small_none 0) b (at p (deeper (deeper P))) (omega arith) (omega arith)) (small_plus (one (deeper P) (omega arith)) (one P (omega arith))))) (omega arith)

  -- Of a term, and with the advice that it is.
  record Rounds (n : ℕ) (x y : Numbers) : Type 0 where
    rest : Small n x
    advised : Small (n + 3) (x ⊕ y)

  no_advice : {n : ℕ} {x : Numbers} → Small n x → Rounds n x none
  no_advice s = record { rest = s; advised = small_plus s (small_none 3) }

  small_op1 : (o : Op1) (P : Here) (e : Tm) (n : ℕ) → Rounds n (rounds P e) (round_of P e) → Small (n + 3) (rounds P e ⊕ installs o P e)
  small_op1 print P e n r = small_plus r.rest (small_none 3)
  small_op1 install P e n r = r.advised
  small_op1 read P e n r = small_plus r.rest (small_none 3)
  small_op1 byte P e n r = small_plus r.rest (small_none 3)
  small_op1 new_cell P e n r = small_plus r.rest (small_none 3)
  small_op1 (call m) P e n r = small_plus r.rest (small_none 3)

  mutual
    unfolding rounds all_rounds amount amounts amount_of

    small_value : (v : Val) (P : Here) → P.depth + (2 + size (val v)) ≤ D → P.kept + size (val v) ≤ D → Rounds (amount B variables (val v)) none (round_of_value P v)
    small_value Val.unit P h k = no_advice (small_none _)
    small_value (Val.truth b) P h k = no_advice (small_none _)
    small_value (Val.number n) P h k = no_advice (small_none _)
    small_value (Val.pair v w) P h k = no_advice (small_none _)
    small_value (Val.fun t e) P h k = no_advice (small_none _)
    small_value (Val.label l) P h k = no_advice (small_none _)
    small_value (Val.cell r) P h k = no_advice (small_none _)
    small_value (Val.pointcut ls) P h k = no_advice (small_none _)
    small_value (Val.advice p ls b) P h k = record { rest = small_none _; advised = upto (small_plus (small_none 0) (small_round P p b (omega arith) (omega arith))) (omega arith) }
    small_value (Val.object t bs) P h k = no_advice (small_none _)
    small_value Val.bottom P h k = no_advice (small_none _)
    small_value (Val.kept l v i) P h k = no_advice (small_none _)

    small_rounds : (e : Tm) (P : Here) → P.depth + (2 + size e) ≤ D → P.kept + size e ≤ D → Rounds (amount B variables e) (rounds P e) (round_of P e)
    small_rounds (val v) P h k = small_value v P h k
    small_rounds (var i) P h k = no_advice (small_none _)
    small_rounds (lam t b) P h k = no_advice (small_none _)
    small_rounds (op0 o t) P h k = no_advice (small_none _)
    small_rounds (op1 o t e) P h k = no_advice (upto (small_op1 o P e (amount B variables e) (small_rounds e P (omega arith) (omega arith))) (omega arith))
    small_rounds (op2 o t e f) P h k = no_advice (upto (small_plus (small_rounds e P (omega arith) (omega arith)).rest (small_rounds f P (omega arith) (omega arith)).rest) (omega arith))
    small_rounds (seq e f) P h k = no_advice (upto (small_plus (small_rounds e P (omega arith) (omega arith)).rest (small_rounds f P (omega arith) (omega arith)).rest) (omega arith))
    small_rounds (ite e f g) P h k =
        no_advice (upto (small_plus (small_rounds e P (omega arith) (omega arith)).rest (small_plus (small_rounds f P (omega arith) (omega arith)).rest (small_rounds g P (omega arith) (omega arith)).rest)) (omega arith))
    small_rounds (split e f) P h k = no_advice (upto (small_plus (small_rounds e P (omega arith) (omega arith)).rest (small_rounds f P (omega arith) (omega arith)).rest) (omega arith))
    small_rounds (pcd es) P h k = no_advice (upto (small_all es P (omega arith) (omega arith)) (omega arith))
    small_rounds (adv p e b) P h k =
        let r = (small_rounds e P (omega arith) (omega arith)).rest in
        record { rest = upto r (omega arith); advised = upto (small_plus r (small_round P p b (omega arith) (omega arith))) (omega arith) }
    small_rounds (lower p e) P h k = no_advice (upto (small_rounds e P (omega arith) (omega arith)).rest (omega arith))
    small_rounds (obj t bs) P h k = no_advice (small_none _)
    small_rounds (keep e f g) P h k =
        no_advice (upto (small_plus (small_rounds e P (omega arith) (omega arith)).rest (small_plus (small_rounds f P (omega arith) (omega arith)).rest (small_rounds g P (omega arith) (omega arith)).rest)) (omega arith))
    small_rounds (match p es f g) P h k =
        no_advice (upto (small_plus (small_all es P (omega arith) (omega arith)) (small_plus (small_rounds f P (omega arith) (omega arith)).rest (small_rounds g P (omega arith) (omega arith)).rest)) (omega arith))

    small_all : (es : Tms) (P : Here) → P.depth + (2 + sizes es) ≤ D → P.kept + sizes es ≤ D → Small (amounts B variables es) (all_rounds P es)
    small_all end P h k = small_none _
    small_all (more e es) P h k = small_plus (small_rounds e P (omega arith) (omega arith)).rest (small_all es P (omega arith) (omega arith))

  -- What a program needs, of which twice its size is within D: at each mark, what all advice takes.
  pub small : (e : Tm) → size e + (2 + size e) ≤ D → Under (need_of e) (most D (amount (3 + D + amount B variables e) variables e))
  small e h = (small_need (λ P. rounds P e) (amount B variables e) (2 + size e) (λ P x y. (small_rounds e P x (omega arith)).rest) e top (omega arith) (omega arith)).under
