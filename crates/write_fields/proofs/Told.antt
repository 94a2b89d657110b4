-- The fields that a code tells are those of its kind's row.
use Prim.Native.Nat.{ℕ, zero, suc, ◌+◌, ◌-◌, ◌*◌, ◌/◌, ◌%◌, ◌^◌, ◌≤◌, ◌<◌}
use native.Mathlib.Omega.{arith}
use native.Mathlib.Nat.{suc-mul}
use mathlib.Core.Path.{◌≡◌, refl, sym, ap, subst, ◌∙◌}
use mathlib.Core.Bool.{Bool, true, false}
use mathlib.Core.List.{List, [], ◌∷◌, ◌++◌}
use lib.ListN.{length, get_or, length-append, get_or-append}
use lib.Seq.{get_or-append-add}
use lib.Dec.{ltb, leb}
use Rattle.calculus.specs.Combinators.{choose}
use Rattle.image.specs.Kinds.{in_domains, in_operations, in_truths, any_number, Field, a_type, own, free, a_term, an_entry, Kind, Row, row_of, again, fields_of}
use Rattle.image.specs.Records.{times, as_child}
use Rattle.laws.proofs.Booleans.{no_path, lt_of, ge_of, le_of, of_lt, of_le}
use Rattle.image.proofs.EveryKind.{every_of, at_kind}
use Rattle.image.proofs.Counts.{fields_length}
use Rattle.read_records.specs.Codes.{class_number, class_numbers, code_at, first_of, group_of, last_of, Sized, times_in, code_count}
use Rattle.read_records.proofs.Codes.{Packs, known_code, kind_sized, times_in_lem, kind_small}
use Rattle.read_records.proofs.Classes.{first_class}
use Rattle.write_fields.specs.Classes.{kind_numbered, known_fields, known_count, Known, slot_in, digit_at, class_in, is_child, child_no}

-- No kind has more than six classes, nor more than sixteen fields.
abbrev narrow : Kind → Bool
narrow k = let r : Row = row_of k in leb (length r.first + (length r.group + length r.last)) 6

abbrev short : Kind → Bool
short k = let r : Row = row_of k in leb (length r.first + (r.most * length r.group + length r.last)) 16

six_classes : (k : Kind) → length (row_of k).first + (length (row_of k).group + length (row_of k).last) ≤ 6
unfolding every_of
six_classes k = le_of (at_kind narrow refl k)

sixteen_fields : (k : Kind) → length (row_of k).first + ((row_of k).most * length (row_of k).group + length (row_of k).last) ≤ 16
unfolding every_of
sixteen_fields k = le_of (at_kind short refl k)

-- The class at a place is that of the field there.
digit_class : (fs : List Field) (j : ℕ) → j < length fs → digit_at j (class_numbers fs) ≡ class_number (get_or fs j free)
unfolding digit_at
digit_class [] j l = absurd (omega arith)
digit_class (f ∷ fs) zero l = (first_class f fs).0
digit_class (f ∷ fs) (suc j) l = ap (λ x. digit_at j x) (first_class f fs).1 ∙ digit_class fs j (omega arith)

-- Field j of a group of one field, or of two, that stands c times.
again_one : (c : ℕ) (f : Field) (j : ℕ) → j < c → get_or (again c (f ∷ [])) j free ≡ f
again_one zero f j l = absurd (omega arith)
again_one (suc c) f zero l = refl
again_one (suc c) f (suc j) l = again_one c f j (omega arith)

again_two : (c : ℕ) (f g : Field) (j : ℕ) → j < 2 * c → get_or (again c (f ∷ g ∷ [])) j free ≡ get_or (f ∷ g ∷ []) (j % 2) free
again_two zero f g j l = absurd (omega arith)
again_two (suc c) f g zero l = refl
again_two (suc c) f g (suc zero) l = refl
again_two (suc c) f g (suc (suc j)) l = let z : j % 2 ≡ suc (suc j) % 2 = omega arith in again_two c f g j (omega arith) ∙ ap (λ i. get_or (f ∷ g ∷ []) i free) z

again_at : (c : ℕ) (gs : List Field) (j : ℕ) → length gs ≤ 2 → j < c * length gs → get_or (again c gs) j free ≡ get_or gs (choose (ltb (length gs) 2) 0 (j % 2)) free
again_at c [] j h l = absurd (omega arith)
again_at c (f ∷ []) j h l = again_one c f j (omega arith)
again_at c (f ∷ g ∷ []) j h l = again_two c f g j (omega arith)
again_at c (f ∷ g ∷ x ∷ gs) j h l = absurd (omega arith)

module _ (k : Kind) (x : ℕ) (P : Packs k x) (c : ℕ) where
  abbrev r : Row
  r = row_of k

  abbrev all : List Field
  all = fields_of r c

  abbrev classes : List Field
  classes = r.first ++ (r.group ++ r.last)

  abbrev n : ℕ
  n = length all

  long : n ≡ length r.first + (c * length r.group + length r.last)
  long = fields_length r c

  widths : length classes ≡ length r.first + (length r.group + length r.last)
  widths = length-append r.first (r.group ++ r.last) ∙ ap (λ m. length r.first + m) (length-append r.group r.last)

  abbrev Right : ℕ → ℕ → Type 0
  Right i j = (j < length classes) × (get_or classes j free ≡ get_or all i free)

  -- Among the first fields, the group's, the last.
  right_first : (i : ℕ) → i < length r.first → Right i i
  right_first i l = (omega (arith, widths), get_or-append r.first (r.group ++ r.last) free i l ∙ sym (get_or-append r.first (again c r.group ++ r.last) free i l))

  right_last : (j : ℕ) → j < length r.last → Right (length r.first + (c * length r.group + j)) (length r.first + (length r.group + j))
  right_last j l =
      let m : length (again c r.group) ≡ c * length r.group = let z = long in let y = length-append r.first (again c r.group ++ r.last) in let x = length-append (again c r.group) r.last in omega arith in (
        omega (arith, widths),
        get_or-append-add r.first (r.group ++ r.last) (length r.group + j) free ∙ get_or-append-add r.group r.last j free
            ∙ sym (ap (λ q. get_or all (length r.first + (q + j)) free) (sym m) ∙ get_or-append-add r.first (again c r.group ++ r.last) (length (again c r.group) + j) free ∙ get_or-append-add (again c r.group) r.last j free),
      )

  right_group : (j : ℕ) → j < c * length r.group → Right (length r.first + j) (length r.first + choose (ltb (length r.group) 2) 0 (j % 2))
  right_group j l =
      let few = P.few in
      let s : ℕ = choose (ltb (length r.group) 2) 0 (j % 2) in
      let m : length (again c r.group) ≡ c * length r.group = let z = long in let y = length-append r.first (again c r.group ++ r.last) in let x = length-append (again c r.group) r.last in omega arith in
      let b : s < length r.group = small (length r.group) refl in (
        omega (arith, widths),
        get_or-append-add r.first (r.group ++ r.last) s free ∙ get_or-append r.group r.last free s b
            ∙ sym (get_or-append-add r.first (again c r.group ++ r.last) j free ∙ get_or-append (again c r.group) r.last free j (omega arith) ∙ again_at c r.group j few l),
      )
    where
      small : (g : ℕ) → length r.group ≡ g → choose (ltb (length r.group) 2) 0 (j % 2) < length r.group
      small zero q = let z : c * length r.group ≡ c * 0 = ap (λ m. c * m) q in absurd (omega arith)
      small (suc zero) q = rw q (omega arith)
      small (suc (suc g)) q = let few = P.few in let z : g ≡ 0 = omega arith in rw (q, z) (omega arith)

  slot_right : (i : ℕ) → i < n → Right i (slot_in x n i)
  slot_right i l = rw (P.first, P.group, P.last) (go (ltb i (length r.first)) refl)
    where
      last : (t : Bool) → leb (n - length r.last) i ≡ t → length r.first ≤ i
          → Right i (choose (leb (n - length r.last) i) (length r.first + length r.group + (i - (n - length r.last))) (choose (ltb (length r.group) 2) (length r.first) (length r.first + (i - length r.first) % 2)))
      last true q h =
          let z = long in
          let p : n - length r.last ≤ i = le_of q in
          let j : ℕ = i - (n - length r.last) in
          let e : length r.first + (c * length r.group + j) ≡ i = omega arith in
          let f : length r.first + (length r.group + j) ≡ length r.first + length r.group + j = omega arith in
          rw q (subst (λ a. Right a (length r.first + length r.group + j)) e (subst (λ a. Right (length r.first + (c * length r.group + j)) a) f (right_last j (omega arith))))
      last false q h =
          let z = long in
          let p : i < n - length r.last = gt_of q in
          let j : ℕ = i - length r.first in
          let e : length r.first + j ≡ i = omega arith in
          rw q (two (ltb (length r.group) 2) refl (subst (λ a. Right a (length r.first + choose (ltb (length r.group) 2) 0 (j % 2))) e (right_group j (omega arith))))
        where
          gt_of : {a b : ℕ} → leb a b ≡ false → b < a
          gt_of {a} {b} h = more (ltb b a) refl
            where
              more : (t : Bool) → ltb b a ≡ t → b < a
              more true u = lt_of u
              more false u = let y : a ≤ b = ge_of u in no_path (sym (of_le y) ∙ h)

          two : (t : Bool) → ltb (length r.group) 2 ≡ t → Right i (length r.first + choose (ltb (length r.group) 2) 0 ((i - length r.first) % 2))
              → Right i (choose (ltb (length r.group) 2) (length r.first) (length r.first + (i - length r.first) % 2))
          two true u w = let y : Right i (length r.first + 0) = rw u at w in let v : length r.first + 0 ≡ length r.first = omega arith in rw u (subst (λ a. Right i a) v y)
          two false u w = rw u (rw u at w)

      go : (t : Bool) → ltb i (length r.first) ≡ t
          → Right i (choose (ltb i (length r.first)) i (choose (leb (n - length r.last) i) (length r.first + length r.group + (i - (n - length r.last))) (choose (ltb (length r.group) 2) (length r.first) (length r.first + (i - length r.first) % 2))))
      go true q = rw q (right_first i (lt_of q))
      go false q = rw q (last (leb (n - length r.last) i) refl (ge_of q))

  pub class_right : (i : ℕ) → i < n → class_in x n i ≡ class_number (get_or all i free)
  class_right i l =
      let s = slot_right i l in
      ap (λ q. digit_at (slot_in x n i) q) P.classes ∙ digit_class classes (slot_in x n i) s.0 ∙ ap class_number s.1

  pub slot_small : (i : ℕ) → i < n → slot_in x n i < 6
  slot_small i l = let s = (slot_right i l).0 in let w = widths in let c = six_classes k in omega arith

-- The class at a place, by its bits.
pub digit_is : (j cs : ℕ) → j < 6 → cs / 2 ^ (3 * j) % 8 ≡ digit_at j cs
unfolding digit_at
digit_is zero cs l = omega arith
digit_is (suc zero) cs l = omega arith
digit_is (suc (suc zero)) cs l = omega arith
digit_is (suc (suc (suc zero))) cs l = omega arith
digit_is (suc (suc (suc (suc zero)))) cs l = omega arith
digit_is (suc (suc (suc (suc (suc zero))))) cs l = omega arith
digit_is (suc (suc (suc (suc (suc (suc j)))))) cs l = absurd (omega arith)

-- Of a record of the kind with the number q, whose fields are fs.
module _ (q : ℕ) (fs : List ℕ) (K : Known q fs) where
  abbrev code : ℕ
  code = code_at q

  abbrev row : Row
  row = row_of (kind_numbered q)

  pub code_packs : Packs (kind_numbered q) code
  code_packs = known_code q (kind_numbered q) K.kind

  pub code_sized : Sized code
  code_sized = kind_sized (kind_numbered q) code code_packs

  pub small_kind : q < code_count
  small_kind = kind_small q (kind_numbered q) K.kind

  pub count_is : first_of code + (times_in code (length fs) * group_of code + last_of code) ≡ known_count q fs
  count_is =
      let P = code_packs in
      let n : 4 + length fs - 4 ≡ length fs = omega arith in
      let t : times_in code (length fs) ≡ times row (4 + length fs) = ap (λ m. times_in code m) (sym n) ∙ times_in_lem (kind_numbered q) code (4 + length fs) P in
      rw (t, P.first, P.group, P.last) (sym (fields_length row (times row (4 + length fs))))

  pub enough_fields : first_of code + last_of code ≤ known_count q fs
  enough_fields = let c = count_is in omega arith

  pub few_fields : known_count q fs ≤ 16
  few_fields =
      let c : ℕ = times row (4 + length fs) in
      let e = fields_length row c in
      let i = grow c row.most (length row.group) K.most in
      let k = sixteen_fields (kind_numbered q) in
      omega arith
    where
      grow : (c m g : ℕ) → c ≤ m → c * g ≤ m * g
      grow zero m g h = omega arith
      grow (suc c) zero g h = absurd (omega arith)
      grow (suc c) (suc m) g h = let i = grow c m g (omega arith) in let x = suc-mul c g in let y = suc-mul m g in omega arith

  pub slot_fits : (i : ℕ) → i < known_count q fs → slot_in code (known_count q fs) i < 6
  slot_fits i l = slot_small (kind_numbered q) code code_packs (times row (4 + length fs)) i l

  pub class_is : (i : ℕ) → i < known_count q fs → class_in code (known_count q fs) i ≡ class_number (get_or (known_fields q fs) i free)
  class_is i l = class_right (kind_numbered q) code code_packs (times row (4 + length fs)) i l

-- The same of numbers that are known to be the code and the count: what class_of asks, and what it tells.
module _ {q : ℕ} {fs : List ℕ} (K : Known q fs) {x n : ℕ} (code_is : x ≡ code_at q) (counted : n ≡ known_count q fs) (i : ℕ) (l : i < n) where
  pub class_asks : Sized x × (first_of x + last_of x ≤ n) × (i < n) × (slot_in x n i < 6)
  class_asks =
      let m : i < known_count q fs = omega arith in
      subst (λ y. Sized y × (first_of y + last_of y ≤ n) × (i < n) × (slot_in y n i < 6)) (sym code_is)
      (subst (λ m. Sized (code_at q) × (first_of (code_at q) + last_of (code_at q) ≤ m) × (i < m) × (slot_in (code_at q) m i < 6)) (sym counted) (code_sized q fs K, enough_fields q fs K, m, slot_fits q fs K i m))

  pub class_tells : {r : ℕ} → r ≡ class_in x n i → r ≡ class_number (get_or (known_fields q fs) i free)
  class_tells {r} e =
      let m : i < known_count q fs = omega arith in
      e ∙ ap (λ y. class_in y n i) code_is ∙ ap (λ j. class_in (code_at q) j i) counted ∙ class_is q fs K i m

-- The child that a field names.
pub child_is : (f : Field) (v : ℕ) → is_child (class_number f) v ≡ true → as_child f v ≡ child_no (class_number f) v ∷ []
child_is a_type v h = no_path (sym h)
child_is (own in_domains) v h = no_path (sym h)
child_is (own in_operations) v h = no_path (sym h)
child_is (own in_truths) v h = no_path (sym h)
child_is (own any_number) v h = no_path (sym h)
child_is (a_term b) v h = refl
child_is an_entry zero h = no_path (sym h)
child_is an_entry (suc v) h = let z : v ≡ suc v - 1 = omega arith in ap (λ m. m ∷ []) z

pub no_child : (f : Field) (v : ℕ) → is_child (class_number f) v ≡ false → as_child f v ≡ []
no_child a_type v h = refl
no_child (own r) v h = refl
no_child (a_term b) v h = no_path h
no_child an_entry zero h = refl
no_child an_entry (suc v) h = let z : ltb 0 (suc v) ≡ true = of_lt {m = 0} {n = suc v} (omega arith) in no_path (sym z ∙ h)

-- A known field stands among the fields.
pub known_inside : {q : ℕ} {fs : List ℕ} → Known q fs → (i : ℕ) → i < known_count q fs → 2 * i + 1 < length fs
known_inside K i l = let s = K.held in omega arith
