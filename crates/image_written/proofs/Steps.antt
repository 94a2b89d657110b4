-- What a program that writes an image, one type and one child at a time, needs of the definitions.
use Prim.Native.Nat.{ℕ, ◌+◌}
use native.Mathlib.Omega.{arith}
use mathlib.Core.Path.{◌≡◌, refl, sym, ap, subst, ◌∙◌}
use mathlib.Core.Bool.{true}
use mathlib.Core.List.{List, [], ◌∷◌, ◌++◌, append_assoc, append-nil}
use Rattle.calculus.specs.Syntax.{Ty}
use Rattle.image.specs.Program.{Program, subtrees}
use Rattle.image_written.specs.TypeParts.{Part, sub, at, parts_of, parts_first, joined}
use Rattle.image_written.specs.Table.{place, has, entered, types_in, types_in_all}
use Rattle.image_written.specs.Written.{terms, terms_all, term_records, term_records_all}
use Rattle.image_written.proofs.TypeParts.{map_parts, AllSubs, by_parts, parts_first_law}
use Rattle.image_written.proofs.Places.{at_place, has_place}
use Rattle.image_written.proofs.Writable.{PartsIn, TableFrom}
use Rattle.image_written.proofs.Tables.{table_parts}
use Rattle.image_written.proofs.Entering.{entered_append}

module _ (n : ℕ) where
  -- A type that the table has need not be entered, nor any of its parts.
  module _ (T : List Ty) (table : TableFrom n [] T) where
    abbrev Skips : Ty → Type 0
    Skips t = has T t ≡ true → entered T (parts_first t) ≡ T

    skip_parts : (ps : List (Part Ty)) → AllSubs Skips ps → PartsIn n T ps → entered T (joined (map_parts (λ a. parts_first a) ps)) ≡ T
    unfolding entered
    skip_parts [] s h = refl
    skip_parts (sub a ∷ ps) s h =
        entered_append T (parts_first a) (joined (map_parts (λ a. parts_first a) ps)) ∙ ap (λ X. entered X (joined (map_parts (λ a. parts_first a) ps))) (s.0 h.0) ∙ skip_parts ps s.1 h.1
    skip_parts (at p ∷ ps) s h = skip_parts ps s h.1

    pub entered_there : (t : Ty) → has T t ≡ true → entered T (parts_first t) ≡ T
    unfolding entered
    entered_there = by_parts Skips step
      where
        step : (t : Ty) → AllSubs Skips (parts_of t) → Skips t
        step t s h =
            let J : List Ty = joined (map_parts (λ a. parts_first a) (parts_of t)) in
            let p : PartsIn n T (parts_of t) = subst (λ u. PartsIn n T (parts_of u)) (at_place T t Ty.unit h) (table_parts n T table (place T t) (has_place T t h)) in
            let e : entered T (t ∷ []) ≡ T = rw h refl in
            ap (λ ts. entered T ts) (parts_first_law t) ∙ entered_append T J (t ∷ []) ∙ ap (λ X. entered X (t ∷ [])) (skip_parts (parts_of t) s p) ∙ e

-- One child more.
module _ (g : ℕ → Program) where
  pub terms_snoc : (es : List ℕ) (e : ℕ) → terms_all (subtrees g (es ++ (e ∷ []))) ≡ terms_all (subtrees g es) + terms (g e)
  unfolding terms
  terms_snoc [] e = omega arith
  terms_snoc (x ∷ es) e = let a = terms_snoc es e in omega arith

  pub types_snoc : (es : List ℕ) (e : ℕ) → types_in_all (subtrees g (es ++ (e ∷ []))) ≡ types_in_all (subtrees g es) ++ types_in (g e)
  unfolding types_in
  types_snoc [] e = append-nil (types_in (g e))
  types_snoc (x ∷ es) e = ap (λ ts. types_in (g x) ++ ts) (types_snoc es e) ∙ sym (append_assoc (types_in (g x)) (types_in_all (subtrees g es)) (types_in (g e)))

  pub entered_snoc : (T : List Ty) (es : List ℕ) (e : ℕ) → entered T (types_in_all (subtrees g (es ++ (e ∷ [])))) ≡ entered (entered T (types_in_all (subtrees g es))) (types_in (g e))
  entered_snoc T es e = ap (λ ts. entered T ts) (types_snoc es e) ∙ entered_append T (types_in_all (subtrees g es)) (types_in (g e))

  pub records_snoc : (T : List Ty) (m : ℕ) (es : List ℕ) (e : ℕ) → term_records_all T m (subtrees g (es ++ (e ∷ []))) ≡ term_records_all T m (subtrees g es) ++ term_records T (m + terms_all (subtrees g es)) (g e)
  unfolding term_records terms
  records_snoc T m [] e = let z : m ≡ m + 0 = omega arith in append-nil (term_records T m (g e)) ∙ ap (λ q. term_records T q (g e)) z
  records_snoc T m (x ∷ es) e =
      let z : m + terms (g x) + terms_all (subtrees g es) ≡ m + (terms (g x) + terms_all (subtrees g es)) = omega arith in
      ap (λ rs. term_records T m (g x) ++ rs) (records_snoc T (m + terms (g x)) es e ∙ ap (λ q. term_records_all T (m + terms (g x)) (subtrees g es) ++ term_records T q (g e)) z)
      ∙ sym (append_assoc (term_records T m (g x)) (term_records_all T (m + terms (g x)) (subtrees g es)) (term_records T (m + (terms (g x) + terms_all (subtrees g es))) (g e)))
