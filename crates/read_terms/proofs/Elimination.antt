-- What is left of the kinds where a number is none of some: what stands behind the last arm of a match.
use Prim.Native.Nat.{ℕ, ◌≤◌, ◌<◌}
use native.Mathlib.Omega.{arith}
use mathlib.Core.Path.{◌≡◌, refl, sym, ◌∙◌}
use mathlib.Core.Bool.{Bool, true, false, ◌||◌}
use mathlib.Core.List.{List, [], ◌∷◌}
use lib.ListN.{length}
use lib.Dec.{eqb, leb, ltb}
use Rattle.laws.specs.Tests.{all}
use Rattle.image.specs.Kinds.{TermKind, term_row, lead_of}
use Rattle.laws.proofs.Booleans.{no_path, lt_of, le_of, eq_of}
use Rattle.image.proofs.KindNumbers.{same_term_kind}
use Rattle.image.proofs.Offsets.{side_by_side}
use Rattle.image.proofs.EveryKind.{every_of, Everywhere, of_terms, at_term, or_else}
use Rattle.read_terms.specs.Fields.{children_in}
use Rattle.read_terms.proofs.Counts.{childless, no_children, children_counted}

-- The number m is none of some kinds', the last first; k has the number of one of them.
abbrev pub apart : ℕ → List TermKind → Type 0
apart m [] = Unit {0}
apart m (j ∷ js) = apart m js × (m ≡ (term_row j).number → ⊥)

abbrev pub is_one : List TermKind → TermKind → Bool
is_one [] k = false
is_one (j ∷ js) k = eqb (term_row k).number (term_row j).number || is_one js k

not_one : (m : ℕ) (js : List TermKind) → apart m js → (k : TermKind) → m ≡ (term_row k).number → is_one js k ≡ true → ⊥
not_one m [] r k e h = no_path (sym h)
not_one m (j ∷ js) r k e h = not_one m js r.0 k e (or_else (eqb (term_row k).number (term_row j).number) (is_one js k) h (λ z. r.1 (e ∙ eq_of z)))

-- A test that passes at every kind but these passes at a kind whose number m is none of theirs.
pub left_over : (f : TermKind → Bool) (js : List TermKind) → Everywhere (of_terms (λ k. is_one js k || f k)) → (m : ℕ) → apart m js → (k : TermKind) → m ≡ (term_row k).number → f k ≡ true
left_over f js h m r k e = or_else (is_one js k) (f k) (at_term (λ k. is_one js k || f k) h k) (not_one m js r k e)

-- The kinds with more than a type before their children.
abbrev pub long_lead : List TermKind
long_lead = TermKind.takedown ∷ TermKind.lower ∷ TermKind.arith ∷ TermKind.var ∷ TermKind.number ∷ TermKind.truth ∷ []

pub one_before : (m : ℕ) → apart m long_lead → (k : TermKind) → m ≡ (term_row k).number → lead_of k ≡ 1
unfolding every_of
one_before m r k e = eq_of (left_over (λ k. eqb (lead_of k) 1) long_lead refl m r k e)

-- The kinds with children.
abbrev pub with_children : List TermKind
with_children =
    TermKind.match ∷ TermKind.keep ∷ TermKind.call ∷ TermKind.obj ∷ TermKind.byte ∷ TermKind.lower ∷ TermKind.store ∷ TermKind.read ∷ TermKind.new_cell ∷ TermKind.install ∷ TermKind.adv ∷ TermKind.pcd ∷ TermKind.mark
    ∷ TermKind.arith ∷ TermKind.app ∷ TermKind.fun ∷ TermKind.split ∷ TermKind.pair ∷ TermKind.ite ∷ TermKind.print ∷ TermKind.seq ∷ []

-- The kinds that may have children, but the last.
abbrev pub before_last : List TermKind
before_last =
    TermKind.takedown ∷ TermKind.match ∷ TermKind.keep ∷ TermKind.stack ∷ TermKind.call ∷ TermKind.obj ∷ TermKind.abort ∷ TermKind.lower ∷ TermKind.store ∷ TermKind.read ∷ TermKind.new_cell ∷ TermKind.install ∷ TermKind.adv ∷ TermKind.pcd ∷ TermKind.mark ∷ TermKind.new_label
    ∷ TermKind.arith ∷ TermKind.app ∷ TermKind.fun ∷ TermKind.split ∷ TermKind.pair ∷ TermKind.ite ∷ TermKind.print ∷ TermKind.seq ∷ []

pub last_kind : (m : ℕ) → apart m before_last → (k : TermKind) → m ≡ (term_row k).number → 35 < m → k ≡ TermKind.byte
unfolding every_of
last_kind m r k e l =
    let is_last : TermKind → Bool = λ k. leb (term_row k).number 35 || eqb (term_row k).number 60 in
    let n : (term_row k).number ≤ 35 → ⊥ = λ z. omega arith in
    same_term_kind k TermKind.byte (eq_of (or_else (leb (term_row k).number 35) (eqb (term_row k).number 60) (left_over is_last before_last refl m r k e) (λ z. n (le_of z))))

-- Constants and variables have no children.
pub leaf_childless : (fs : List ℕ) (k : TermKind) → (term_row k).number ≤ 35 → length (children_in fs k) ≡ 0
unfolding every_of all
leaf_childless fs k l =
    let n : 35 < (term_row k).number → ⊥ = λ z. omega arith in
    children_counted fs k (or_else (ltb 35 (term_row k).number) (side_by_side k) (at_term (λ k. ltb 35 (term_row k).number || side_by_side k) refl k) (λ z. n (lt_of z)))
    ∙ no_children fs k (or_else (ltb 35 (term_row k).number) (childless k) (at_term (λ k. ltb 35 (term_row k).number || childless k) refl k) (λ z. n (lt_of z)))

-- What holds of some kinds holds of a kind that has the number of one of them.
abbrev Each : (TermKind → Type 0) → List TermKind → Type 0
Each P [] = Unit {0}
Each P (j ∷ js) = P j × Each P js

one_of : (P : TermKind → Type 0) (js : List TermKind) → Each P js → (k : TermKind) → is_one js k ≡ true → P k
one_of P [] h k e = no_path (sym e)
one_of P (j ∷ js) h k e = go (λ z. one_of P js h.1 k z) (eqb (term_row k).number (term_row j).number) refl
  where
    go : (is_one js k ≡ true → P k) → (x : Bool) → eqb (term_row k).number (term_row j).number ≡ x → P k
    go next true q = rw (same_term_kind k j (eq_of q)) h.0
    go next false q = next (or_else (eqb (term_row k).number (term_row j).number) (is_one js k) e (λ z. no_path (sym z ∙ q)))

-- The constants: the kinds before a variable's.
pub constants : (P : TermKind → Type 0) → P TermKind.unit → P TermKind.truth → P TermKind.number → (k : TermKind) → (term_row k).number < 35 → P k
unfolding every_of
constants P u t n k l =
    let three : List TermKind = TermKind.unit ∷ TermKind.truth ∷ TermKind.number ∷ [] in
    let m : 35 ≤ (term_row k).number → ⊥ = λ z. omega arith in
    one_of P three (u, (t, (n, tt))) k (or_else (leb 35 (term_row k).number) (is_one three k) (at_term (λ k. leb 35 (term_row k).number || is_one three k) refl k) (λ z. m (le_of z)))
