-- Types by their parts: recursion and induction over them, sameness, and a type from its record.
use Prim.Native.Nat.{ℕ, zero, suc, ◌+◌, ◌<◌}
use native.Mathlib.Omega.{arith}
use mathlib.Core.Path.{◌≡◌, refl, sym, ap, ◌∙◌}
use mathlib.Core.Bool.{Bool, true, ◌&&◌}
use mathlib.Core.List.{List, [], ◌∷◌, ◌++◌}
use lib.ListN.{length, get_or}
use lib.Dec.{eqb}
use Rattle.calculus.specs.Syntax.{Dom, Ty, Sigs, no_method, method}
use Rattle.image.specs.Kinds.{TypeKind, type, type_row_of, again, fields_of, a_type, a_domain, Field}
use Rattle.image.specs.Types.{head_of, type_kind_of, methods_out, type_out}
use Rattle.laws.proofs.Booleans.{no_path, and_l, and_r, and_i, eq_of, of_eq}
use Rattle.image.proofs.KindNumbers.{same_kind}
use Rattle.image_written.specs.TypeParts.{Part, sub, at, method_parts, parts_of, recur, recurs, joined, parts_first, same_parts_of, same}

abbrev pub map_part : {A B : Type 0} → (A → B) → Part A → Part B
map_part f (sub a) = sub (f a)
map_part f (at p) = at p

abbrev pub map_parts : {A B : Type 0} → (A → B) → List (Part A) → List (Part B)
map_parts f [] = []
map_parts f (p ∷ ps) = map_part f p ∷ map_parts f ps

recurs_law : {A : Type 0} (f : Ty → List (Part A) → A) (ms : Sigs) → recurs f ms ≡ map_parts (λ a. recur f a) (method_parts ms)
unfolding recur
recurs_law f no_method = refl
recurs_law f (method p a ms) = ap (λ ps. at p ∷ sub (recur f a) ∷ ps) (recurs_law f ms)

recur_law : {A : Type 0} (f : Ty → List (Part A) → A) (t : Ty) → recur f t ≡ f t (map_parts (λ a. recur f a) (parts_of t))
unfolding recur
recur_law f Ty.unit = refl
recur_law f Ty.truth = refl
recur_law f Ty.number = refl
recur_law f (Ty.pair a b) = refl
recur_law f (Ty.fun a p b) = refl
recur_law f (Ty.ref a p) = refl
recur_law f (Ty.label a p) = refl
recur_law f (Ty.pointcut a p) = refl
recur_law f (Ty.advice p) = refl
recur_law f (Ty.object ms) = ap (λ ps. f (Ty.object ms) ps) (recurs_law f ms)
recur_law f Ty.stack = refl

pub parts_first_law : (t : Ty) → parts_first t ≡ joined (map_parts (λ a. parts_first a) (parts_of t)) ++ (t ∷ [])
unfolding parts_first
parts_first_law t = recur_law (λ u ps. joined ps ++ (u ∷ [])) t

same_law : (t u : Ty) → same t u ≡ (eqb (type_row_of (head_of t)).number (type_row_of (head_of u)).number && same_parts_of (map_parts (λ a. same a) (parts_of t)) (parts_of u))
unfolding same
same_law t u = ap (λ h. h u) (recur_law {A = Ty → Bool} (λ v ps w. eqb (type_row_of (head_of v)).number (type_row_of (head_of w)).number && same_parts_of ps (parts_of w)) t)

-- What holds of each lower type among the parts.
abbrev pub AllSubs : (Ty → Type 0) → List (Part Ty) → Type 0
AllSubs P [] = Unit {0}
AllSubs P (sub a ∷ ps) = P a × AllSubs P ps
AllSubs P (at p ∷ ps) = AllSubs P ps

mutual
  pub by_parts : (P : Ty → Type 0) → ((t : Ty) → AllSubs P (parts_of t) → P t) → (t : Ty) → P t
  by_parts P f Ty.unit = f Ty.unit tt
  by_parts P f Ty.truth = f Ty.truth tt
  by_parts P f Ty.number = f Ty.number tt
  by_parts P f (Ty.pair a b) = f (Ty.pair a b) (by_parts P f a, (by_parts P f b, tt))
  by_parts P f (Ty.fun a p b) = f (Ty.fun a p b) (by_parts P f a, (by_parts P f b, tt))
  by_parts P f (Ty.ref a p) = f (Ty.ref a p) (by_parts P f a, tt)
  by_parts P f (Ty.label a p) = f (Ty.label a p) (by_parts P f a, tt)
  by_parts P f (Ty.pointcut a p) = f (Ty.pointcut a p) (by_parts P f a, tt)
  by_parts P f (Ty.advice p) = f (Ty.advice p) tt
  by_parts P f (Ty.object ms) = f (Ty.object ms) (by_methods P f ms)
  by_parts P f Ty.stack = f Ty.stack tt

  by_methods : (P : Ty → Type 0) → ((t : Ty) → AllSubs P (parts_of t) → P t) → (ms : Sigs) → AllSubs P (method_parts ms)
  by_methods P f no_method = tt
  by_methods P f (method p a ms) = (by_parts P f a, by_methods P f ms)

-- A number tells a part, where g tells the types of numbers; numbers tell parts, one by one.
abbrev pub Tells : (ℕ → Ty) → ℕ → Part Ty → Type 0
Tells g v (sub a) = g v ≡ a
Tells g v (at p) = v ≡ p

abbrev pub Told : (ℕ → Ty) → List ℕ → List (Part Ty) → Type 0
Told g [] [] = Unit {0}
Told g [] (p ∷ ps) = ⊥
Told g (v ∷ vs) [] = ⊥
Told g (v ∷ vs) (p ∷ ps) = Tells g v p × Told g vs ps

told_at : (g : ℕ → Ty) (vs : List ℕ) (ps : List (Part Ty)) → Told g vs ps → (i : ℕ) → i < length ps → Tells g (get_or vs i 0) (get_or ps i (at 0))
told_at g [] [] h i l = absurd (omega arith)
told_at g [] (p ∷ ps) h i l = absurd h
told_at g (v ∷ vs) [] h i l = absurd h
told_at g (v ∷ vs) (p ∷ ps) h zero l = h.0
told_at g (v ∷ vs) (p ∷ ps) h (suc i) l = told_at g vs ps h.1 i (omega arith)

methods_made : (ms : Sigs) (vs : List ℕ) (g : ℕ → Ty) → Told g vs (method_parts ms) → methods_out vs g ≡ ms
methods_made no_method [] g h = refl
methods_made no_method (v ∷ vs) g h = absurd h
methods_made (method p a ms) [] g h = absurd h
methods_made (method p a ms) (v ∷ []) g h = absurd h.1
methods_made (method p a ms) (v ∷ w ∷ vs) g h = cc (h.0, h.1.0, methods_made ms vs g h.1.1)

-- A type is what its kind makes of the numbers that tell its parts.
pub made : (t : Ty) (vs : List ℕ) (g : ℕ → Ty) → Told g vs (parts_of t) → type_out (head_of t) vs g ≡ t
unfolding type_out
made Ty.unit vs g h = refl
made Ty.truth vs g h = refl
made Ty.number vs g h = refl
made (Ty.pair a b) vs g h = cc (told_at g vs _ h 0 (omega arith), told_at g vs _ h 1 (omega arith))
made (Ty.fun a p b) vs g h = cc (told_at g vs _ h 0 (omega arith), told_at g vs _ h 1 (omega arith), told_at g vs _ h 2 (omega arith))
made (Ty.ref a p) vs g h = cc (told_at g vs _ h 0 (omega arith), told_at g vs _ h 1 (omega arith))
made (Ty.label a p) vs g h = cc (told_at g vs _ h 0 (omega arith), told_at g vs _ h 1 (omega arith))
made (Ty.pointcut a p) vs g h = cc (told_at g vs _ h 0 (omega arith), told_at g vs _ h 1 (omega arith))
made (Ty.advice p) vs g h = told_at_adv p vs h
  where
    told_at_adv : (p : Dom) (vs : List ℕ) → Told g vs (parts_of (Ty.advice p)) → Ty.advice (get_or vs 0 0) ≡ Ty.advice p
    told_at_adv p vs h = ap Ty.advice (told_at g vs (at p ∷ []) h 0 (omega arith))
made (Ty.object ms) vs g h = ap Ty.object (methods_made ms vs g h)
made Ty.stack vs g h = refl

-- The fields that parts stand for, and a type's record: its group stands once for each method.
abbrev pub field_of : {A : Type 0} → Part A → Field
field_of (sub a) = a_type
field_of (at p) = a_domain

abbrev pub part_fields : {A : Type 0} → List (Part A) → List Field
part_fields [] = []
part_fields (p ∷ ps) = field_of p ∷ part_fields ps

abbrev pub methods : Sigs → ℕ
methods no_method = 0
methods (method p a ms) = suc (methods ms)

abbrev pub groups_of : Ty → ℕ
groups_of Ty.unit = 0
groups_of Ty.truth = 0
groups_of Ty.number = 0
groups_of (Ty.pair a b) = 0
groups_of (Ty.fun a p b) = 0
groups_of (Ty.ref a p) = 0
groups_of (Ty.label a p) = 0
groups_of (Ty.pointcut a p) = 0
groups_of (Ty.advice p) = 0
groups_of (Ty.object ms) = methods ms
groups_of Ty.stack = 0

method_fields_lem : (ms : Sigs) → again (methods ms) (a_domain ∷ a_type ∷ []) ++ [] ≡ part_fields (method_parts ms)
method_fields_lem no_method = refl
method_fields_lem (method p a ms) = ap (λ fs. a_domain ∷ a_type ∷ fs) (method_fields_lem ms)

-- The fields of a type's record are its parts; a kind without a group has it no times.
pub row_parts : (t : Ty) → (fields_of (type_row_of (head_of t)) (groups_of t) ≡ part_fields (parts_of t)) × (length (type_row_of (head_of t)).group ≡ 0 → groups_of t ≡ 0)
row_parts Ty.unit = (refl, λ h. refl)
row_parts Ty.truth = (refl, λ h. refl)
row_parts Ty.number = (refl, λ h. refl)
row_parts (Ty.pair a b) = (refl, λ h. refl)
row_parts (Ty.fun a p b) = (refl, λ h. refl)
row_parts (Ty.ref a p) = (refl, λ h. refl)
row_parts (Ty.label a p) = (refl, λ h. refl)
row_parts (Ty.pointcut a p) = (refl, λ h. refl)
row_parts (Ty.advice p) = (refl, λ h. refl)
row_parts (Ty.object ms) = (method_fields_lem ms, λ h. absurd (omega arith))
row_parts Ty.stack = (refl, λ h. refl)

-- Types of one kind with the same parts are the same: each is what its kind makes of its parts, told by their places.
abbrev numbers_from : ℕ → List (Part Ty) → List ℕ
numbers_from i [] = []
numbers_from i (sub a ∷ ps) = i ∷ numbers_from (suc i) ps
numbers_from i (at p ∷ ps) = p ∷ numbers_from (suc i) ps

abbrev type_in : Part Ty → Ty
type_in (sub a) = a
type_in (at p) = Ty.unit

abbrev rebuilt : TypeKind → List (Part Ty) → Ty
rebuilt k ps = type_out k (numbers_from 0 ps) (λ i. type_in (get_or ps i (at 0)))

told_places : (ps : List (Part Ty)) (g : ℕ → Ty) (i : ℕ) → ((j : ℕ) → j < length ps → g (i + j) ≡ type_in (get_or ps j (at 0))) → Told g (numbers_from i ps) ps
told_places [] g i h = tt
told_places (sub a ∷ ps) g i h =
    let z : i + 0 ≡ i = omega arith in
    (ap g (sym z) ∙ h 0 (omega arith), told_places ps g (suc i) (λ j l. let y : suc i + j ≡ i + suc j = omega arith in ap g y ∙ h (suc j) (omega arith)))
told_places (at p ∷ ps) g i h = (refl, told_places ps g (suc i) (λ j l. let y : suc i + j ≡ i + suc j = omega arith in ap g y ∙ h (suc j) (omega arith)))

rebuilt_same : (t : Ty) → rebuilt (head_of t) (parts_of t) ≡ t
rebuilt_same t = made t _ _ (told_places (parts_of t) (λ i. type_in (get_or (parts_of t) i (at 0))) 0 (λ j l. let z : 0 + j ≡ j = omega arith in ap (λ i. type_in (get_or (parts_of t) i (at 0))) z))

parts_same : (t u : Ty) → head_of t ≡ head_of u → parts_of t ≡ parts_of u → t ≡ u
parts_same t u h k = sym (rebuilt_same t) ∙ ap (λ j. rebuilt j (parts_of t)) h ∙ ap (λ ps. rebuilt (head_of u) ps) k ∙ rebuilt_same u

abbrev Sound : Ty → Type 0
Sound t = (u : Ty) → same t u ≡ true → t ≡ u

same_parts : (ps qs : List (Part Ty)) → AllSubs Sound ps → same_parts_of (map_parts (λ a. same a) ps) qs ≡ true → ps ≡ qs
same_parts [] [] s h = refl
same_parts [] (q ∷ qs) s h = no_path (sym h)
same_parts (sub a ∷ ps) [] s h = no_path (sym h)
same_parts (at p ∷ ps) [] s h = no_path (sym h)
same_parts (sub a ∷ ps) (sub b ∷ qs) s h = let x : a ≡ b = s.0 b (and_l (same a b) _ h) in let y : ps ≡ qs = same_parts ps qs s.1 (and_r (same a b) _ h) in cc
same_parts (sub a ∷ ps) (at q ∷ qs) s h = no_path (sym h)
same_parts (at p ∷ ps) (sub b ∷ qs) s h = no_path (sym h)
same_parts (at p ∷ ps) (at q ∷ qs) s h = let x : p ≡ q = eq_of (and_l (eqb p q) _ h) in let y : ps ≡ qs = same_parts ps qs s (and_r (eqb p q) _ h) in cc

pub same_sound : (t u : Ty) → same t u ≡ true → t ≡ u
same_sound = by_parts Sound step
  where
    step : (t : Ty) → AllSubs Sound (parts_of t) → Sound t
    step t s u h =
        let x : Bool = eqb (type_row_of (head_of t)).number (type_row_of (head_of u)).number in
        let y : Bool = same_parts_of (map_parts (λ a. same a) (parts_of t)) (parts_of u) in
        let z : x && y ≡ true = sym (same_law t u) ∙ h in
        let k : type (head_of t) ≡ type (head_of u) = same_kind (type (head_of t)) (type (head_of u)) (eq_of (and_l x y z)) in
        parts_same t u (ap type_kind_of k) (same_parts (parts_of t) (parts_of u) s (and_r x y z))

parts_refl : (ps : List (Part Ty)) → AllSubs (λ t. same t t ≡ true) ps → same_parts_of (map_parts (λ a. same a) ps) ps ≡ true
parts_refl [] s = refl
parts_refl (sub a ∷ ps) s = and_i s.0 (parts_refl ps s.1)
parts_refl (at p ∷ ps) s = and_i (of_eq {m = p} refl) (parts_refl ps s)

pub same_refl : (t : Ty) → same t t ≡ true
same_refl = by_parts (λ t. same t t ≡ true) (λ t s. same_law t t ∙ and_i (of_eq {m = (type_row_of (head_of t)).number} refl) (parts_refl (parts_of t) s))
