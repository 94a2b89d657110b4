-- A term's record is filled with what is read from it, and what it is filled with is read from it.
use Prim.Native.Nat.{ℕ, zero, suc, ◌+◌, ◌-◌, ◌≤◌}
use native.Mathlib.Omega.{arith}
use mathlib.Core.Path.{◌≡◌, refl, sym, ap, ◌∙◌}
use mathlib.Core.Bool.{Bool, true, false}
use mathlib.Core.List.{List, [], ◌∷◌, ◌++◌}
use lib.ListN.{length, get_or, length-append}
use lib.Dec.{eqb}
use Rattle.laws.specs.Tests.{all}
use Rattle.image.specs.Kinds.{Field, a_type, own, a_term, an_entry, TermKind, Row, term_row, again, fields_of}
use Rattle.image.specs.Records.{as_child, as_other, given}
use Rattle.image.specs.TermFields.{next, rest, filled, giving, standing, times_for, term_fields}
use Rattle.laws.proofs.Booleans.{no_path, eq_of}
use Rattle.laws.proofs.Tests.{each}
use Rattle.image.proofs.EveryKind.{every_of, at_term}
use Rattle.image.proofs.Counts.{giving_row, fields_give}

-- No field of a list is a type.
abbrev typeless : List Field → Bool
typeless [] = true
typeless (a_type ∷ fs) = false
typeless (own r ∷ fs) = typeless fs
typeless (a_term b ∷ fs) = typeless fs
typeless (an_entry ∷ fs) = typeless fs

typeless_append : (fs gs : List Field) → typeless fs ≡ true → typeless gs ≡ true → typeless (fs ++ gs) ≡ true
typeless_append [] gs h g = g
typeless_append (a_type ∷ fs) gs h g = no_path (sym h)
typeless_append (own r ∷ fs) gs h g = typeless_append fs gs h g
typeless_append (a_term b ∷ fs) gs h g = typeless_append fs gs h g
typeless_append (an_entry ∷ fs) gs h g = typeless_append fs gs h g

typeless_again : (n : ℕ) (fs : List Field) → typeless fs ≡ true → typeless (again n fs) ≡ true
typeless_again zero fs h = refl
typeless_again (suc n) fs h = typeless_append fs (again n fs) h (typeless_again n fs h)

-- A type stands first, and nowhere else.
abbrev led : List Field → Bool
led [] = false
led (a_type ∷ fs) = typeless fs
led (own r ∷ fs) = false
led (a_term b ∷ fs) = false
led (an_entry ∷ fs) = false

-- Filled with what it gives, it is as it was.
refilled : (fs : List Field) (t : ℕ) (ws : List ℕ) → typeless fs ≡ true → length ws ≡ length fs → filled fs t (given as_other fs ws) (given as_child fs ws) ≡ ws
unfolding filled
refilled [] t [] h l = refl
refilled [] t (w ∷ ws) h l = absurd (omega arith)
refilled (f ∷ fs) t [] h l = absurd (omega arith)
refilled (a_type ∷ fs) t (w ∷ ws) h l = no_path (sym h)
refilled (own r ∷ fs) t (w ∷ ws) h l = ap (λ vs. w ∷ vs) (refilled fs t ws h (omega arith))
refilled (a_term b ∷ fs) t (w ∷ ws) h l = ap (λ vs. w ∷ vs) (refilled fs t ws h (omega arith))
refilled (an_entry ∷ fs) t (zero ∷ ws) h l = ap (λ vs. 0 ∷ vs) (refilled fs t ws h (omega arith))
refilled (an_entry ∷ fs) t (suc e ∷ ws) h l = ap (λ vs. suc e ∷ vs) (refilled fs t ws h (omega arith))

refilled_led : (fs gs : List Field) (ws : List ℕ) → led fs ≡ true → typeless gs ≡ true → length ws ≡ length (fs ++ gs) → filled (fs ++ gs) (get_or ws 0 0) (given as_other (fs ++ gs) ws) (given as_child (fs ++ gs) ws) ≡ ws
unfolding filled
refilled_led [] gs ws h g l = no_path (sym h)
refilled_led (own r ∷ fs) gs ws h g l = no_path (sym h)
refilled_led (a_term b ∷ fs) gs ws h g l = no_path (sym h)
refilled_led (an_entry ∷ fs) gs ws h g l = no_path (sym h)
refilled_led (a_type ∷ fs) gs [] h g l = absurd (omega arith)
refilled_led (a_type ∷ fs) gs (w ∷ ws) h g l = ap (λ vs. w ∷ vs) (refilled (fs ++ gs) w ws (typeless_append fs gs h g) (omega arith))

-- Filled with other children, as many, it gives these and the same others.
pub record Back (fs : List Field) (t : ℕ) (vs es : List ℕ) : Type 0 where
  pub size : length (filled fs t vs es) ≡ length fs
  pub others : given as_other fs (filled fs t vs es) ≡ vs
  pub children : given as_child fs (filled fs t vs es) ≡ es

none_left : (es : List ℕ) → length es ≡ 0 → [] ≡ es
none_left [] h = refl
none_left (e ∷ es) h = absurd (omega arith)

as_cons : (es : List ℕ) (n : ℕ) → length es ≡ suc n → (es ≡ next es ∷ rest es) × (length (rest es) ≡ n)
as_cons [] n h = absurd (omega arith)
as_cons (e ∷ es) n h = (refl, omega arith)

-- A field that is an other, of number w; a child; a type.
other_back : (fs : List Field) (f : Field) (t w : ℕ) (vs es : List ℕ) → filled (f ∷ fs) t (w ∷ vs) es ≡ w ∷ filled fs t vs es → as_other f w ≡ w ∷ [] → as_child f w ≡ [] → Back fs t vs es → Back (f ∷ fs) t (w ∷ vs) es
other_back fs f t w vs es e o c b =
    let s = b.size in
    let x = b.others in
    let y = b.children in
    record { size = rw e (omega arith); others = rw (e, o) (ap (λ vs. w ∷ vs) x); children = rw (e, c) y }

back : (fs : List Field) (t : ℕ) (ws es : List ℕ) → length ws ≡ length fs → length es ≡ length (given as_child fs ws) → Back fs t (given as_other fs ws) es
unfolding filled
back [] t ws es l h = record { size = refl; others = refl; children = none_left es h }
back (f ∷ fs) t [] es l h = absurd (omega arith)
back (a_type ∷ fs) t (w ∷ ws) es l h =
    let b = back fs t ws es (omega arith) h in
    record { size = ap suc b.size; others = b.others; children = b.children }
back (own r ∷ fs) t (w ∷ ws) es l h = other_back fs (own r) t w (given as_other fs ws) es refl refl refl (back fs t ws es (omega arith) h)
back (a_term x ∷ fs) t (w ∷ ws) es l h =
    let c = as_cons es (length (given as_child fs ws)) h in
    let b = back fs t ws (rest es) (omega arith) c.1 in
    record { size = ap suc b.size; others = b.others; children = ap (λ vs. next es ∷ vs) b.children ∙ sym c.0 }
back (an_entry ∷ fs) t (zero ∷ ws) es l h =
    let b = back fs t ws es (omega arith) h in
    record { size = ap suc b.size; others = ap (λ vs. 0 ∷ vs) b.others; children = b.children }
back (an_entry ∷ fs) t (suc w ∷ ws) es l h =
    let c = as_cons es (length (given as_child fs ws)) h in
    let b = back fs t ws (rest es) (omega arith) c.1 in
    record { size = ap suc b.size; others = ap (λ vs. 1 ∷ vs) b.others; children = ap (λ vs. next es ∷ vs) b.children ∙ sym c.0 }

-- How often the group stands is told by how many others and children there are: a term's group is one field, and beside a group of terms no field is an entry.
abbrev told : List Field → ℕ → ℕ → Bool
told [] m n = true
told (f ∷ []) m n = elim (as_other f 0) [ [] ↦ all (eqb (length (as_child f 0)) 1 ∷ eqb (length (as_child f 1)) 1 ∷ eqb m n ∷ []) | o ∷ os ↦ eqb (length (as_other f 0)) 1 ]
told (f ∷ g ∷ fs) m n = false

abbrev told_row : Row → Bool
told_row r = told r.group (giving as_child 1 (r.first ++ r.last)) (giving as_child 0 (r.first ++ r.last))

giving_one : (of : Field → ℕ → List ℕ) (n : ℕ) (f : Field) (c : ℕ) → length (of f n) ≡ 1 → giving of n (again c (f ∷ [])) ≡ c
giving_one of n f zero h = refl
giving_one of n f (suc c) h = let i = giving_one of n f c h in omega arith

standing_told : (gs : List Field) (c o m n v e : ℕ) → told gs m n ≡ true → (length gs ≡ 0 → c ≡ 0) → v ≡ o + giving as_other 0 (again c gs)
    → n + giving as_child 0 (again c gs) ≤ e → e ≤ m + giving as_child 1 (again c gs) → standing gs (v - o) (e - n) ≡ c
standing_told [] c o m n v e h z p q r = sym (z refl)
standing_told (f ∷ g ∷ gs) c o m n v e h z p q r = no_path (sym h)
standing_told (f ∷ []) c o m n v e h z p q r = go (as_other f 0) refl
  where
    go : (x : List ℕ) → as_other f 0 ≡ x → standing (f ∷ []) (v - o) (e - n) ≡ c
    go [] w =
        let t = each _ (rw (w, told) at h) in
        let a = giving_one as_child 0 f c (eq_of t.0) in
        let b = giving_one as_child 1 f c (eq_of t.1.0) in
        let d : m ≡ n = eq_of t.1.1.0 in
        rw (w, standing) (omega arith)
    go (u ∷ us) w =
        let t : eqb (length (as_other f 0)) 1 ≡ true = rw (w, told) at h in
        let a = giving_one as_other 0 f c (eq_of t) in
        rw (w, standing) (omega arith)

others_count : (fs : List Field) (ws : List ℕ) → length ws ≡ length fs → length (given as_other fs ws) ≡ giving as_other 0 fs
others_count [] ws l = refl
others_count (f ∷ fs) [] l = absurd (omega arith)
others_count (f ∷ fs) (w ∷ ws) l =
    let i = others_count fs ws (omega arith) in
    let e = length-append (as_other f w) (given as_other fs ws) in
    let s = same f w in
    omega arith
  where
    same : (f : Field) (w : ℕ) → length (as_other f w) ≡ length (as_other f 0)
    same a_type w = refl
    same (own r) w = refl
    same (a_term b) w = refl
    same an_entry zero = refl
    same an_entry (suc w) = refl

-- A record of kind k in which the group stands c times, and the numbers ws of its fields.
module _ (k : TermKind) (c : ℕ) (ws : List ℕ) (count : length ws ≡ length (fields_of (term_row k) c)) (none : length (term_row k).group ≡ 0 → c ≡ 0) where
  abbrev r : Row
  r = term_row k

  abbrev fs : List Field
  fs = fields_of r c

  -- Its others and so many children tell how often its group stands.
  pub times_for_lem : (es : List ℕ) → length es ≡ length (given as_child fs ws) → times_for r (given as_other fs ws) es ≡ c
  unfolding every_of all
  times_for_lem es h =
      let v = others_count fs ws count in
      let g = fields_give fs ws count in
      let g0 = g.0 in
      let g1 = g.1 in
      let a = giving_row as_other 0 r c in
      let d = giving_row as_child 0 r c in
      let e = giving_row as_child 1 r c in
      standing_told r.group c (giving as_other 0 (r.first ++ r.last)) (giving as_child 1 (r.first ++ r.last)) (giving as_child 0 (r.first ++ r.last)) (length (given as_other fs ws)) (length es)
      (at_term (λ k. told_row (term_row k)) refl k) none (omega arith) (omega arith) (omega arith)

  -- What is read of it fills it.
  pub read_filled : term_fields k (get_or ws 0 0) (given as_other fs ws) (given as_child fs ws) ≡ ws
  unfolding term_fields every_of
  read_filled =
      let group = at_term (λ k. typeless (term_row k).group) refl k in
      let last = at_term (λ k. typeless (term_row k).last) refl k in
      let lead = at_term (λ k. led (term_row k).first) refl k in
      ap (λ c. filled (fields_of r c) (get_or ws 0 0) (given as_other fs ws) (given as_child fs ws)) (times_for_lem (given as_child fs ws) refl)
      ∙ refilled_led r.first (again c r.group ++ r.last) ws lead (typeless_append (again c r.group) r.last (typeless_again c r.group group) last) count

  -- With another type and other children, as many, it has as many fields, and the same others and those children are read of it.
  pub filled_read : (t : ℕ) (es : List ℕ) → length es ≡ length (given as_child fs ws) → Back fs t (given as_other fs ws) es
  filled_read t es h = back fs t ws es count h

  pub filled_times : (t : ℕ) (es : List ℕ) → length es ≡ length (given as_child fs ws) → term_fields k t (given as_other fs ws) es ≡ filled fs t (given as_other fs ws) es
  unfolding term_fields
  filled_times t es h = ap (λ c. filled (fields_of r c) t (given as_other fs ws) es) (times_for_lem es h)

  -- Its first field is its type.
  pub filled_first : (t : ℕ) (es : List ℕ) → get_or (filled fs t (given as_other fs ws) es) 0 0 ≡ t
  unfolding filled every_of
  filled_first t es = first r.first (at_term (λ k. led (term_row k).first) refl k)
    where
      first : (gs : List Field) → led gs ≡ true → get_or (filled (gs ++ (again c r.group ++ r.last)) t (given as_other fs ws) es) 0 0 ≡ t
      first [] h = no_path (sym h)
      first (a_type ∷ gs) h = refl
      first (own x ∷ gs) h = no_path (sym h)
      first (a_term x ∷ gs) h = no_path (sym h)
      first (an_entry ∷ gs) h = no_path (sym h)
