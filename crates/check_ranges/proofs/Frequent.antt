-- The frequent kinds of terms: what 7 says of their fields, and which of these are children.
use Prim.Native.Nat.{ℕ, ◌-◌, ◌/◌}
use native.Mathlib.Omega.{arith}
use mathlib.Core.Path.{◌≡◌, ap, ◌∙◌}
use mathlib.Core.Bool.{Bool, ◌&&◌, and-true}
use mathlib.Core.List.{List, [], ◌∷◌}
use lib.ListN.{length}
use lib.Dec.{ltb}
use Rattle.calculus.specs.Combinators.{choose}
use Rattle.laws.specs.Tests.{all}
use Rattle.image.specs.Limits.{operation_count}
use Rattle.image.specs.Bytes.{words}
use Rattle.image.specs.Kinds.{TermKind, term}
use Rattle.read_records.specs.declared.numbers.Counts.{Counts}
use Rattle.read_records.specs.Codes.{class_numbers, code_of}
use Rattle.read_records.specs.Heads.{field_in, children_of}
use Rattle.check_uses.specs.Marks.{entered}
use Rattle.check_ranges.specs.Ranges.{ranges_from, groups_from, classes_past}
use Rattle.check_ranges.specs.Numbers.{range_fits}

-- Of a term with the code x and the fields fs, behind so many records, 7 is the test t, and the children are es.
pub record Has (x : ℕ) (fs : List ℕ) (n : Counts) (t : Bool) (es : List ℕ) : Type 0 where
  pub range : t ≡ range_fits fs x n
  pub children : es ≡ children_of x fs

-- So a function that tests t and enters es does what is asked.
pub taken : {x : ℕ} {fs : List ℕ} {n : Counts} {t : Bool} {es : List ℕ} → Has x fs n t es → (r : Bool) (ms ms' : List ℕ) → (r ≡ t) × (ms' ≡ choose r (entered es n.terms ms) ms)
    → (r ≡ range_fits fs x n) × (ms' ≡ choose r (entered (children_of x fs) n.terms ms) ms)
taken {n = n} H r ms ms' e = (e.0 ∙ H.range, e.1 ∙ ap (λ cs. choose r (entered cs n.terms ms) ms) H.children)

module _ (x : ℕ) (fs : List ℕ) (n : Counts) where
  abbrev typed : Bool
  typed = ltb (field_in fs 0) n.types

  abbrev child : ℕ → Bool
  child i = ltb (field_in fs i) n.terms

  pub unit_has : x ≡ code_of (term TermKind.unit) → Has x fs n typed []
  unfolding all ranges_from groups_from classes_past class_numbers words
  unit_has e = record { range = simp (e, and-true); children = simp e }

  pub var_has : x ≡ code_of (term TermKind.var) → Has x fs n typed []
  unfolding all ranges_from groups_from classes_past class_numbers words
  var_has e = record { range = simp (e, and-true); children = simp e }

  pub number_has : x ≡ code_of (term TermKind.number) → Has x fs n typed []
  unfolding all ranges_from groups_from classes_past class_numbers words
  number_has e = record { range = simp (e, and-true); children = simp e }

  pub one_has : x ≡ code_of (term TermKind.print) → Has x fs n (typed && child 1) (field_in fs 1 ∷ [])
  unfolding all ranges_from groups_from classes_past class_numbers words
  one_has e = record { range = simp (e, and-true); children = simp e }

  pub two_has : x ≡ code_of (term TermKind.seq) → Has x fs n (typed && (child 1 && child 2)) (field_in fs 1 ∷ field_in fs 2 ∷ [])
  unfolding all ranges_from groups_from classes_past class_numbers words
  two_has e = record { range = simp (e, and-true); children = simp e }

  pub three_has : x ≡ code_of (term TermKind.ite) → Has x fs n (typed && (child 1 && (child 2 && child 3))) (field_in fs 1 ∷ field_in fs 2 ∷ field_in fs 3 ∷ [])
  unfolding all ranges_from groups_from classes_past class_numbers words
  three_has e = record { range = simp (e, and-true); children = simp e }

  pub arith_has : x ≡ code_of (term TermKind.arith) → Has x fs n (typed && (ltb (field_in fs 1) operation_count && (child 2 && child 3))) (field_in fs 2 ∷ field_in fs 3 ∷ [])
  unfolding all ranges_from groups_from classes_past class_numbers words
  arith_has e = record { range = simp (e, and-true); children = simp e }

  pub lower_has : x ≡ code_of (term TermKind.lower) → Has x fs n (typed && (ltb (field_in fs 1) n.domains && child 2)) (field_in fs 2 ∷ [])
  unfolding all ranges_from groups_from classes_past class_numbers words
  lower_has e = record { range = simp (e, and-true); children = simp e }

  -- A pointcut has as many children as its fields hold.
  pub pointcut_range : x ≡ code_of (term TermKind.pcd) → (typed && groups_from (length fs / 2 - 1) 1 5 fs n 1) ≡ range_fits fs x n
  unfolding all ranges_from groups_from classes_past class_numbers
  pointcut_range e =
      let m : length fs / 2 - 1 ≡ (length fs / 2 - 1) / 1 = omega arith in
      simp (e, and-true) (ap (λ c. typed && groups_from c 1 5 fs n 1) m)
