-- Places in a table of types.
use Prim.Native.Nat.{ℕ, zero, suc, ◌≤◌, ◌<◌}
use native.Mathlib.Omega.{arith}
use mathlib.Core.Path.{◌≡◌, refl, sym, ap, subst, ◌∙◌}
use mathlib.Core.Bool.{Bool, true, false}
use mathlib.Core.List.{List, [], ◌∷◌, ◌++◌}
use lib.ListN.{length, get_or, length-append, get_or-append}
use lib.Seq.{get_or-append_seam}
use lib.Dec.{ltb}
use Rattle.calculus.specs.Syntax.{Ty}
use Rattle.calculus.specs.Combinators.{choose}
use Rattle.laws.proofs.Booleans.{no_path, lt_of, of_lt, ge_of}
use Rattle.image_written.specs.TypeParts.{same}
use Rattle.image_written.specs.Table.{place, has}
use Rattle.image_written.proofs.TypeParts.{same_sound, same_refl}

pub has_place : (T : List Ty) (t : Ty) → has T t ≡ true → place T t < length T
has_place T t h = lt_of h

pub of_place : (T : List Ty) (t : Ty) → place T t < length T → has T t ≡ true
of_place T t h = of_lt h

nothing_there : (t : Ty) → has [] t ≡ true → ⊥
unfolding place
nothing_there t h = no_path (sym h)

-- The type at the place of a type that the table has is that type.
pub at_place : (T : List Ty) (t d : Ty) → has T t ≡ true → get_or T (place T t) d ≡ t
unfolding place
at_place [] t d h = absurd (nothing_there t h)
at_place (u ∷ us) t d h = go (same u t) refl (λ k. at_place us t d k)
  where
    go : (c : Bool) → same u t ≡ c → (has us t ≡ true → get_or us (place us t) d ≡ t) → get_or (u ∷ us) (choose (same u t) 0 (suc (place us t))) d ≡ t
    go true e ih = rw e (same_sound u t e)
    go false e ih =
        let l : choose (same u t) 0 (suc (place us t)) < suc (length us) = has_place (u ∷ us) t h in
        let m : suc (place us t) < suc (length us) = rw e at l in
        rw e (ih (of_place us t (omega arith)))

-- Each type of a table is there.
pub has_at : (T : List Ty) (i : ℕ) (d : Ty) → i < length T → has T (get_or T i d) ≡ true
unfolding place
has_at [] i d l = absurd (omega arith)
has_at (u ∷ us) zero d l = of_place (u ∷ us) u (rw (same_refl u) (omega arith))
has_at (u ∷ us) (suc i) d l = go (same u (get_or us i d)) refl (has_at us i d (omega arith))
  where
    go : (c : Bool) → same u (get_or us i d) ≡ c → has us (get_or us i d) ≡ true → has (u ∷ us) (get_or us i d) ≡ true
    go true e h = of_place (u ∷ us) (get_or us i d) (rw e (omega arith))
    go false e h = let z = has_place us (get_or us i d) h in of_place (u ∷ us) (get_or us i d) (rw e (omega arith))

-- A longer table has what the shorter has, at the same place.
pub place_more : (T us : List Ty) (t : Ty) → has T t ≡ true → place (T ++ us) t ≡ place T t
unfolding place
place_more [] us t h = absurd (nothing_there t h)
place_more (u ∷ T) us t h = go (same u t) refl (λ k. place_more T us t k)
  where
    go : (c : Bool) → same u t ≡ c → (has T t ≡ true → place (T ++ us) t ≡ place T t) → choose (same u t) 0 (suc (place (T ++ us) t)) ≡ choose (same u t) 0 (suc (place T t))
    go true e ih = rw e refl
    go false e ih =
        let l : choose (same u t) 0 (suc (place T t)) < suc (length T) = has_place (u ∷ T) t h in
        let m : suc (place T t) < suc (length T) = rw e at l in
        rw e (ap suc (ih (of_place T t (omega arith))))

pub has_more : (T us : List Ty) (t : Ty) → has T t ≡ true → has (T ++ us) t ≡ true
has_more T us t h = let z = has_place T t h in let p = place_more T us t h in of_place (T ++ us) t (omega (arith, length-append T us))

-- The last of a table is there, behind the rest if that has it not.
pub place_last : (T : List Ty) (t : Ty) (us : List Ty) → has T t ≡ false → place (T ++ (t ∷ us)) t ≡ length T
unfolding place
place_last [] t us h = rw (same_refl t) refl
place_last (u ∷ T) t us h = go (same u t) refl (λ k. place_last T t us k)
  where
    go : (c : Bool) → same u t ≡ c → (has T t ≡ false → place (T ++ (t ∷ us)) t ≡ length T) → choose (same u t) 0 (suc (place (T ++ (t ∷ us)) t)) ≡ suc (length T)
    go true e ih = no_path (sym (of_place (u ∷ T) t (rw e (omega arith))) ∙ h)
    go false e ih = rw e (ap suc (ih (not_there (ltb (place T t) (length T)) refl)))
      where
        not_there : (c : Bool) → ltb (place T t) (length T) ≡ c → ltb (place T t) (length T) ≡ false
        not_there false q = q
        not_there true q =
            let z = has_place T t q in
            no_path (sym (of_place (u ∷ T) t (rw e (omega arith))) ∙ h)

pub has_last : (T : List Ty) (t : Ty) → has (T ++ (t ∷ [])) t ≡ true
has_last T t =
    let i : length T < length (T ++ (t ∷ [])) = omega (arith, length-append T (t ∷ [])) in
    subst (λ u. has (T ++ (t ∷ [])) u ≡ true) (seam T) (has_at (T ++ (t ∷ [])) (length T) t i)
  where
    seam : (X : List Ty) → get_or (X ++ (t ∷ [])) (length X) t ≡ t
    seam [] = refl
    seam (x ∷ X) = seam X

-- What a table with one type more has.
pub has_snoc : (T : List Ty) (t u : Ty) → has (T ++ (t ∷ [])) u ≡ true → has T u ≡ false → u ≡ t
has_snoc T t u h n = go (ltb i (length T)) refl
  where
    U : List Ty
    U = T ++ (t ∷ [])

    i : ℕ
    i = place U u

    is : get_or U i u ≡ u
    is = at_place U u u h

    go : (c : Bool) → ltb i (length T) ≡ c → u ≡ t
    go true q = no_path (sym (subst (λ v. has T v ≡ true) (sym (get_or-append T (t ∷ []) u i (lt_of q)) ∙ is) (has_at T i u (lt_of q))) ∙ n)
    go false q =
        let l = has_place U u h in
        let z : length T ≤ i = ge_of q in
        let e : i ≡ length T = omega (arith, length-append T (t ∷ [])) in
        sym is ∙ ap (λ j. get_or U j u) e ∙ get_or-append_seam T t [] u
