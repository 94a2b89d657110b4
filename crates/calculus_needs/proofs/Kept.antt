-- How many values are kept around a place (card 6) matters to pieces alone: a stack takes one for each. All other numbers are the same wherever a mark stands.
use Prim.Native.Nat.{ℕ, suc}
use mathlib.Core.Path.{◌≡◌, refl, sym, ap, ◌∙◌}
use mathlib.Core.Bool.{Bool, true, false}
use lib.Dec.{eqb}
use Rattle.calculus.specs.Combinators.{choose}
use Rattle.calculus.specs.State.{no_counts, some_pieces}
use Rattle.calculus.specs.Syntax.{Dom, Val, Tm, Tms, Op1, Op2, val, var, lam, op0, op1, op2, seq, ite, split, pcd, adv, lower, obj, keep, match, end, more, print, install, read, byte, new_cell, call, app, mark, store, plus, minus, less, equal}
use Rattle.calculus_needs.specs.Here.{Here, at, deeper, keeping}
use Rattle.calculus_needs.specs.Numbers.{Numbers, none, ◌⊕◌, dearer}
use Rattle.calculus_needs.specs.Needs.{once, uses, variables, binds, own1, own2, need, needs, round, round_of, round_of_value, installs, rounds, all_rounds, Extra, no_extra, a_new_label, kept_pieces, extra0, with_extra}

-- The numbers without the pieces.
unfoldable pub pieceless : Numbers → Numbers
pieceless m = record {
  steps = m.steps;
  used = record {
    mainline = record { bindings = m.used.mainline.bindings; cells = m.used.mainline.cells; pieces = 0 };
    others = record { bindings = m.used.others.bindings; cells = m.used.others.cells; pieces = 0 };
  };
  labels = m.labels;
  advices = m.advices;
  prints = m.prints;
  frames = m.frames;
}

-- The same in all but pieces.
pub record SameButPieces (m n : Numbers) : Type 0 where
  pub alike : pieceless m ≡ pieceless n

itself : {m : Numbers} → SameButPieces m m
itself = record { alike = refl }

plus_pieceless : (m n : Numbers) → pieceless (m ⊕ n) ≡ pieceless m ⊕ pieceless n
unfolding pieceless ◌⊕◌
plus_pieceless m n = refl

dearer_pieceless : (m n : Numbers) → pieceless (dearer m n) ≡ dearer (pieceless m) (pieceless n)
unfolding pieceless dearer
dearer_pieceless m n = refl

both : {m m' n n' : Numbers} → SameButPieces m m' → SameButPieces n n' → SameButPieces (m ⊕ n) (m' ⊕ n')
both {m} {m'} {n} {n'} x y =
    record { alike = plus_pieceless m n ∙ (ap (λ z. z ⊕ pieceless n) x.alike ∙ (ap (λ z. pieceless m' ⊕ z) y.alike ∙ sym (plus_pieceless m' n'))) }

-- Behind the same.
after : (x : Numbers) {n n' : Numbers} → SameButPieces n n' → SameButPieces (x ⊕ n) (x ⊕ n')
after x y = both itself y

either : {m m' n n' : Numbers} → SameButPieces m m' → SameButPieces n n' → SameButPieces (dearer m n) (dearer m' n')
either {m} {m'} {n} {n'} x y =
    record { alike = dearer_pieceless m n ∙ (ap (λ z. dearer z (pieceless n)) x.alike ∙ (ap (λ z. dearer (pieceless m') z) y.alike ∙ sym (dearer_pieceless m' n'))) }

-- The place with k values kept.
abbrev pub with_kept : ℕ → Here → Here
with_kept k P = record { dom = P.dom; depth = P.depth; kept = k }

some_pieces_lem : (c : Dom) (j k : ℕ) → SameButPieces (uses c (some_pieces j)) (uses c (some_pieces k))
unfolding pieceless
some_pieces_lem c j k = look (eqb c 0)
  where
    look : (b : Bool)
        → SameButPieces (record { steps = 0; used = record { mainline = choose b (some_pieces j) no_counts; others = choose b no_counts (some_pieces j) }; labels = 0; advices = 0; prints = 0; frames = 0 })
        (record { steps = 0; used = record { mainline = choose b (some_pieces k) no_counts; others = choose b no_counts (some_pieces k) }; labels = 0; advices = 0; prints = 0; frames = 0 })
    look true = record { alike = refl }
    look false = record { alike = refl }

extra_alike : (P : Here) (k : ℕ) (x : Extra) → SameButPieces (with_extra P x) (with_extra (with_kept k P) x)
extra_alike P k no_extra = itself
extra_alike P k a_new_label = itself
extra_alike P k kept_pieces = after (once P) (some_pieces_lem P.dom P.kept k)

own1_alike : (P : Here) (k : ℕ) (o : Op1) → SameButPieces (own1 P o) (own1 (with_kept k P) o)
own1_alike P k print = itself
own1_alike P k install = itself
own1_alike P k read = itself
own1_alike P k byte = itself
own1_alike P k new_cell = itself
own1_alike P k (call m) = itself

module _ (W : Here → Numbers) (hW : (P : Here) (k : ℕ) → SameButPieces (W P) (W (with_kept k P))) where
  own2_alike : (P : Here) (k : ℕ) (o : Op2) → SameButPieces (own2 W P o) (own2 W (with_kept k P) o)
  own2_alike P k Op2.pair = itself
  own2_alike P k app = itself
  own2_alike P k mark = after (once P) (hW P k)
  own2_alike P k store = itself
  own2_alike P k plus = itself
  own2_alike P k minus = itself
  own2_alike P k less = itself
  own2_alike P k equal = itself

  mutual
    unfolding need needs

    pub need_alike : (e : Tm) (P : Here) (k : ℕ) → SameButPieces (need W P e) (need W (with_kept k P) e)
    need_alike (val v) P k = itself
    need_alike (var j) P k = itself
    need_alike (lam t b) P k = itself
    need_alike (op0 o t) P k = extra_alike P k (extra0 o)
    need_alike (op1 o t e) P k = both (need_alike e (deeper P) k) (own1_alike P k o)
    need_alike (op2 o t e f) P k = both (need_alike e (deeper P) k) (both (need_alike f (deeper P) k) (own2_alike P k o))
    need_alike (seq e f) P k = both (need_alike e (deeper P) k) (after (once P) (need_alike f P k))
    need_alike (ite e f g) P k = both (need_alike e (deeper P) k) (after (once P) (either (need_alike f P k) (need_alike g P k)))
    need_alike (split e f) P k = both (need_alike e (deeper P) k) (after (once P ⊕ binds P.dom 2) (need_alike f P k))
    need_alike (pcd es) P k = both (needs_alike es (deeper P) k) itself
    need_alike (adv p e b) P k = both (need_alike e (deeper P) k) itself
    need_alike (lower p e) P k = both (need_alike e (at p (deeper P)) k) itself
    need_alike (obj t bs) P k = itself
    need_alike (keep e f g) P k = both (need_alike e (deeper P) k) (both (need_alike f (deeper P) k) (both (need_alike g (keeping (deeper P)) (suc k)) itself))
    need_alike (match p es f g) P k =
        both (needs_alike es (deeper P) k) (after (once P) (either (after (binds P.dom (variables p)) (need_alike f P k)) (need_alike g P k)))

    needs_alike : (es : Tms) (P : Here) (k : ℕ) → SameButPieces (needs W P es) (needs W (with_kept k P) es)
    needs_alike end P k = itself
    needs_alike (more e es) P k = both (need_alike e P k) (needs_alike es P k)

round_alike : (P : Here) (k : ℕ) (p : Dom) (b : Tm) → SameButPieces (round P p b) (round (with_kept k P) p b)
round_alike P k p b = after (binds p 1) (both (need_alike (λ Q. none) (λ Q j. itself) b (at p (deeper (deeper P))) k) itself)

value_alike : (P : Here) (k : ℕ) (v : Val) → SameButPieces (round_of_value P v) (round_of_value (with_kept k P) v)
value_alike P k Val.unit = itself
value_alike P k (Val.truth b) = itself
value_alike P k (Val.number n) = itself
value_alike P k (Val.pair v w) = itself
value_alike P k (Val.fun t e) = itself
value_alike P k (Val.label l) = itself
value_alike P k (Val.cell r) = itself
value_alike P k (Val.pointcut ls) = itself
value_alike P k (Val.advice p ls b) = round_alike P k p b
value_alike P k (Val.object t bs) = itself
value_alike P k Val.bottom = itself
value_alike P k (Val.kept l v j) = itself

over_alike : (P : Here) (k : ℕ) (e : Tm) → SameButPieces (round_of P e) (round_of (with_kept k P) e)
over_alike P k (val v) = value_alike P k v
over_alike P k (var j) = itself
over_alike P k (lam t b) = itself
over_alike P k (op0 o t) = itself
over_alike P k (op1 o t e) = itself
over_alike P k (op2 o t e f) = itself
over_alike P k (seq e f) = itself
over_alike P k (ite e f g) = itself
over_alike P k (split e f) = itself
over_alike P k (pcd es) = itself
over_alike P k (adv p e b) = round_alike P k p b
over_alike P k (lower p e) = itself
over_alike P k (obj t bs) = itself
over_alike P k (keep e f g) = itself
over_alike P k (match p es f g) = itself

installs_alike : (o : Op1) (P : Here) (k : ℕ) (e : Tm) → SameButPieces (installs o P e) (installs o (with_kept k P) e)
installs_alike print P k e = itself
installs_alike install P k e = over_alike P k e
installs_alike read P k e = itself
installs_alike byte P k e = itself
installs_alike new_cell P k e = itself
installs_alike (call m) P k e = itself

mutual
  unfolding rounds all_rounds

  pub rounds_alike : (e : Tm) (P : Here) (k : ℕ) → SameButPieces (rounds P e) (rounds (with_kept k P) e)
  rounds_alike (val v) P k = itself
  rounds_alike (var j) P k = itself
  rounds_alike (lam t b) P k = itself
  rounds_alike (op0 o t) P k = itself
  rounds_alike (op1 o t e) P k = both (rounds_alike e P k) (installs_alike o P k e)
  rounds_alike (op2 o t e f) P k = both (rounds_alike e P k) (rounds_alike f P k)
  rounds_alike (seq e f) P k = both (rounds_alike e P k) (rounds_alike f P k)
  rounds_alike (ite e f g) P k = both (rounds_alike e P k) (both (rounds_alike f P k) (rounds_alike g P k))
  rounds_alike (split e f) P k = both (rounds_alike e P k) (rounds_alike f P k)
  rounds_alike (pcd es) P k = all_alike es P k
  rounds_alike (adv p e b) P k = rounds_alike e P k
  rounds_alike (lower p e) P k = rounds_alike e P k
  rounds_alike (obj t bs) P k = itself
  rounds_alike (keep e f g) P k = both (rounds_alike e P k) (both (rounds_alike f P k) (rounds_alike g P k))
  rounds_alike (match p es f g) P k = both (all_alike es P k) (both (rounds_alike f P k) (rounds_alike g P k))

  all_alike : (es : Tms) (P : Here) (k : ℕ) → SameButPieces (all_rounds P es) (all_rounds (with_kept k P) es)
  all_alike end P k = itself
  all_alike (more e es) P k = both (rounds_alike e P k) (all_alike es P k)
