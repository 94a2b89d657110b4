-- How many children a term of a kind has.
use Prim.Native.Nat.{ℕ, zero, suc, ◌+◌, ◌-◌, ◌*◌, ◌/◌, ◌≤◌}
use native.Mathlib.Omega.{arith}
use native.Mathlib.Nat.{zero-mul, suc-mul, add_comm}
use mathlib.Core.Path.{◌≡◌, refl, sym, ap, ◌∙◌}
use mathlib.Core.List.{List, [], ◌∷◌, ◌++◌}
use lib.ListN.{length, length-append}
use lib.Arith.{digits_div}
use Rattle.image.specs.Kinds.{Field, a_type, own, a_term, an_entry, Row, again, fields_of}
use Rattle.image.specs.Records.{goes_into, times, as_child, given}
use Rattle.image.specs.TermFields.{giving}

abbrev pub least_children : Row → ℕ
least_children r = giving as_child 0 (fields_of r r.least)

abbrev pub most_children : Row → ℕ
most_children r = giving as_child 1 (fields_of r r.most)

module _ (of : Field → ℕ → List ℕ) (n : ℕ) where
  pub giving_append : (fs gs : List Field) → giving of n (fs ++ gs) ≡ giving of n fs + giving of n gs
  giving_append [] gs = omega arith
  giving_append (f ∷ fs) gs = let e = giving_append fs gs in omega arith

  giving_again : (c d : ℕ) (fs : List Field) → c ≤ d → giving of n (again c fs) ≤ giving of n (again d fs)
  giving_again zero d fs h = omega arith
  giving_again (suc c) zero fs h = absurd (omega arith)
  giving_again (suc c) (suc d) fs h =
      let i = giving_again c d fs (omega arith) in
      let e = giving_append fs (again c fs) in
      let g = giving_append fs (again d fs) in
      omega arith

  pub giving_row : (r : Row) (c : ℕ) → giving of n (fields_of r c) ≡ giving of n (r.first ++ r.last) + giving of n (again c r.group)
  giving_row r c =
      let e = giving_append r.first (again c r.group ++ r.last) in
      let f = giving_append (again c r.group) r.last in
      let g = giving_append r.first r.last in
      omega arith

  giving_more : (r : Row) (c d : ℕ) → c ≤ d → giving of n (fields_of r c) ≤ giving of n (fields_of r d)
  giving_more r c d h =
      let i = giving_again c d r.group h in
      let e = giving_row r c in
      let f = giving_row r d in
      omega arith

field_gives : (f : Field) (v : ℕ) → (length (as_child f 0) ≤ length (as_child f v)) × (length (as_child f v) ≤ length (as_child f 1))
field_gives a_type v = (omega arith, omega arith)
field_gives (own r) v = (omega arith, omega arith)
field_gives (a_term b) v = (omega arith, omega arith)
field_gives an_entry zero = (omega arith, omega arith)
field_gives an_entry (suc e) = (omega arith, omega arith)

pub fields_give : (fs : List Field) (vs : List ℕ) → length vs ≡ length fs → (giving as_child 0 fs ≤ length (given as_child fs vs)) × (length (given as_child fs vs) ≤ giving as_child 1 fs)
fields_give [] vs l = (omega arith, omega arith)
fields_give (f ∷ fs) [] l = absurd (omega arith)
fields_give (f ∷ fs) (v ∷ vs) l =
    let h = field_gives f v in
    let i = fields_give fs vs (omega arith) in
    let a = h.0 in
    let b = h.1 in
    let c = i.0 in
    let d = i.1 in
    let e = length-append (as_child f v) (given as_child fs vs) in
    (omega arith, omega arith)

-- A record in which the group stands as often as it may has as many children as it may.
pub children_between : (r : Row) (c : ℕ) (vs : List ℕ) → length vs ≡ length (fields_of r c) → r.least ≤ c → c ≤ r.most
    → (least_children r ≤ length (given as_child (fields_of r c) vs)) × (length (given as_child (fields_of r c) vs) ≤ most_children r)
children_between r c vs l h k =
    let g = fields_give (fields_of r c) vs l in
    let a = g.0 in
    let b = g.1 in
    let d = giving_more as_child 0 r r.least c h in
    let e = giving_more as_child 1 r c r.most k in
    (omega arith, omega arith)

-- How many fields a record has in which the group stands c times.
again_length : (c : ℕ) (fs : List Field) → length (again c fs) ≡ c * length fs
again_length zero fs = sym (zero-mul (length fs))
again_length (suc c) fs = length-append fs (again c fs) ∙ ap (λ n. length fs + n) (again_length c fs) ∙ add_comm (length fs) (c * length fs) ∙ sym (suc-mul c (length fs))

pub fields_length : (r : Row) (c : ℕ) → length (fields_of r c) ≡ length r.first + (c * length r.group + length r.last)
fields_length r c =
    length-append r.first (again c r.group ++ r.last)
    ∙ ap (λ n. length r.first + n) (length-append (again c r.group) r.last ∙ ap (λ n. n + length r.last) (again_length c r.group))

-- A record of just these fields has its group so often.
pub times_fields : (r : Row) (c : ℕ) → (length r.group ≡ 0 → c ≡ 0) → times r (4 + 2 * length (fields_of r c)) ≡ c
times_fields r c none = go (length r.group) refl
  where
    go : (g : ℕ) → length r.group ≡ g → times r (4 + 2 * length (fields_of r c)) ≡ c
    go zero q = ap (λ h. goes_into h ((4 + 2 * length (fields_of r c) - 4) / 2 - (length r.first + length r.last))) q ∙ sym (none q)
    go (suc g) q =
        let l = fields_length r c in
        let m : c * length r.group ≡ c * suc g = ap (λ h. c * h) q in
        let n : (4 + 2 * length (fields_of r c) - 4) / 2 - (length r.first + length r.last) ≡ c * suc g + 0 = omega arith in
        ap (λ h. goes_into h ((4 + 2 * length (fields_of r c) - 4) / 2 - (length r.first + length r.last))) q ∙ ap (λ h. h / suc g) n ∙ digits_div c {m = suc g} {r = 0} (omega arith)
