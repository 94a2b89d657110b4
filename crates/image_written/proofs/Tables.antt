-- What the types of a table are: each has its parts in front of it, and is what its record makes of them.
use Prim.Native.Nat.{ℕ, zero, suc, ◌<◌}
use native.Mathlib.Omega.{arith}
use mathlib.Core.Path.{◌≡◌, refl, sym, ap, subst, ◌∙◌}
use mathlib.Core.Bool.{true, false}
use mathlib.Core.List.{List, [], ◌∷◌, ◌++◌, append_assoc, append-nil}
use lib.ListN.{length, get_or, take, drop, take-append-drop}
use lib.Seq.{split_at, length-take-le}
use Rattle.calculus.specs.Syntax.{Ty}
use Rattle.image.specs.Types.{head_of, type_out}
use Rattle.image_written.specs.TypeParts.{Part, sub, at, parts_of}
use Rattle.image_written.specs.Table.{place, has, part_nos}
use Rattle.image_written.proofs.TypeParts.{Told, made, part_fields}
use Rattle.image_written.proofs.Places.{at_place, has_more, place_last}
use Rattle.image_written.proofs.Writable.{Bounded, PartsIn, TableFrom}

pub parts_length : (T : List Ty) (ps : List (Part Ty)) → length (part_nos T ps) ≡ length ps
parts_length T [] = refl
parts_length T (p ∷ ps) = ap suc (parts_length T ps)

pub fields_length : (ps : List (Part Ty)) → length (part_fields ps) ≡ length ps
fields_length [] = refl
fields_length (p ∷ ps) = ap suc (fields_length ps)

module _ (n : ℕ) where
  pub parts_more : (T us : List Ty) (ps : List (Part Ty)) → PartsIn n T ps → PartsIn n (T ++ us) ps
  parts_more T us [] h = tt
  parts_more T us (sub a ∷ ps) h = (has_more T us a h.0, parts_more T us ps h.1)
  parts_more T us (at p ∷ ps) h = (h.0, parts_more T us ps h.1)

  -- The numbers of parts in a table tell them, where g tells the types of places.
  pub told : (T D : List Ty) (g : ℕ → Ty) (ps : List (Part Ty)) → ((a : Ty) → has D a ≡ true → g (place T a) ≡ a) → PartsIn n D ps → Told g (part_nos T ps) ps
  told T D g [] hg h = tt
  told T D g (sub a ∷ ps) hg h = (hg a h.0, told T D g ps hg h.1)
  told T D g (at p ∷ ps) hg h = (refl, told T D g ps hg h.1)

  -- Different types have different records.
  pub record_apart : (T : List Ty) (t u : Ty) → PartsIn n T (parts_of t) → PartsIn n T (parts_of u) → head_of t ≡ head_of u → part_nos T (parts_of t) ≡ part_nos T (parts_of u) → t ≡ u
  record_apart T t u h k x y = sym (back t h) ∙ ap (λ j. type_out j (part_nos T (parts_of t)) (λ a. get_or T a Ty.unit)) x ∙ ap (λ ns. type_out (head_of u) ns (λ a. get_or T a Ty.unit)) y ∙ back u k
    where
      back : (t : Ty) → PartsIn n T (parts_of t) → type_out (head_of t) (part_nos T (parts_of t)) (λ a. get_or T a Ty.unit) ≡ t
      back t h = made t _ _ (told T T (λ a. get_or T a Ty.unit) (parts_of t) (λ a k. at_place T a Ty.unit k) h)

  -- In a table each type's parts stand in front of it.
  pub table_at : (done ts : List Ty) → TableFrom n done ts → (i : ℕ) → i < length ts → PartsIn n (done ++ take i ts) (parts_of (get_or ts i Ty.unit))
  table_at done [] h i l = absurd (omega arith)
  table_at done (t ∷ ts) h zero l = subst (λ D. PartsIn n D (parts_of t)) (sym (append-nil done)) h.2
  table_at done (t ∷ ts) h (suc i) l = subst (λ D. PartsIn n D (parts_of (get_or ts i Ty.unit))) (append_assoc done (t ∷ []) (take i ts)) (table_at (done ++ (t ∷ [])) ts h.3 i (omega arith))

  pub table_bounded : (done ts : List Ty) → TableFrom n done ts → (i : ℕ) → i < length ts → Bounded (get_or ts i Ty.unit)
  table_bounded done [] h i l = absurd (omega arith)
  table_bounded done (t ∷ ts) h zero l = h.1
  table_bounded done (t ∷ ts) h (suc i) l = table_bounded (done ++ (t ∷ [])) ts h.3 i (omega arith)

  pub table_parts : (T : List Ty) → TableFrom n [] T → (i : ℕ) → i < length T → PartsIn n T (parts_of (get_or T i Ty.unit))
  table_parts T h i l = subst (λ D. PartsIn n D (parts_of (get_or T i Ty.unit))) (take-append-drop i T) (parts_more (take i T) (drop i T) (parts_of (get_or T i Ty.unit)) (table_at [] T h i l))

  -- The type at a place of a table has that place.
  table_new : (done ts : List Ty) → TableFrom n done ts → (i : ℕ) → i < length ts → has (done ++ take i ts) (get_or ts i Ty.unit) ≡ false
  table_new done [] h i l = absurd (omega arith)
  table_new done (t ∷ ts) h zero l = subst (λ D. has D t ≡ false) (sym (append-nil done)) h.0
  table_new done (t ∷ ts) h (suc i) l = subst (λ D. has D (get_or ts i Ty.unit) ≡ false) (append_assoc done (t ∷ []) (take i ts)) (table_new (done ++ (t ∷ [])) ts h.3 i (omega arith))

  pub place_at : (T : List Ty) → TableFrom n [] T → (i : ℕ) → i < length T → place T (get_or T i Ty.unit) ≡ i
  place_at T h i l =
      ap (λ X. place X (get_or T i Ty.unit)) (split_at T i Ty.unit l) ∙ place_last (take i T) (get_or T i Ty.unit) (drop (suc i) T) (table_new [] T h i l) ∙ length-take-le i T (omega arith)
