-- 8 as the last test, and what its answer tells.
use mathlib.Core.Path.{◌≡◌, refl, sym, ◌∙◌}
use mathlib.Core.Bool.{Bool, true, false}
use mathlib.Core.List.{[], ◌∷◌}
use mathlib.Core.Option.{none, some}
use Rattle.image.specs.declared.Refusal.{Refusal}
use Rattle.laws.specs.Tests.{first_fault}
use Rattle.laws.proofs.Booleans.{no_path}

-- 8: the last test.
pub repeated : (a : Bool) → a ≡ false → some Refusal.RepeatedType ≡ first_fault ((Refusal.RepeatedType, a) ∷ [])
unfolding first_fault
repeated a h = rw h

pub not_repeated : (a : Bool) → a ≡ true → none ≡ first_fault ((Refusal.RepeatedType, a) ∷ [])
unfolding first_fault
not_repeated a h = rw h

-- What its answer tells of the type.
pub old_type : (a : Bool) {r : Refusal} → some r ≡ first_fault ((Refusal.RepeatedType, a) ∷ []) → a ≡ false
old_type a {r} h = go a refl
  where
    go : (t : Bool) → a ≡ t → a ≡ false
    go true e = let z : some r ≡ none = h ∙ sym (not_repeated a e) in no_path cc
    go false e = e

pub new_type_lem : (a : Bool) → none ≡ first_fault ((Refusal.RepeatedType, a) ∷ []) → a ≡ true
new_type_lem a h = go a refl
  where
    go : (t : Bool) → a ≡ t → a ≡ true
    go true e = e
    go false e = let z : none ≡ some Refusal.RepeatedType = h ∙ sym (repeated a e) in no_path cc
