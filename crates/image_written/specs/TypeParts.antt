-- Types by their parts: what stands for each field of a type's record, in their order, and recursion over it.
use Rattle.std.specs.Prelude.{Bool, true, false, ◌&&◌, List, [], ◌∷◌, ◌++◌, eqb}
use Rattle.calculus.specs.Syntax.{Dom, Ty, Sigs, no_method, method}
use Rattle.image.specs.Kinds.{type_row_of}
use Rattle.image.specs.Types.{head_of}

-- A field of a type's record: a lower type, for which an A stands, or a domain.
pub data Part (A : Type 0) : Type 0 where
  sub : A → Part A
  at : Dom → Part A

-- The parts of an object's type (card 3): of each method its domain and its type.
abbrev pub method_parts : Sigs → List (Part Ty)
method_parts no_method = []
method_parts (method p a ms) = at p ∷ sub a ∷ method_parts ms

-- A type's parts, in the order of its record's fields.
abbrev pub parts_of : Ty → List (Part Ty)
parts_of Ty.unit = []
parts_of Ty.truth = []
parts_of Ty.number = []
parts_of (Ty.pair a b) = sub a ∷ sub b ∷ []
parts_of (Ty.fun a p b) = sub a ∷ at p ∷ sub b ∷ []
parts_of (Ty.ref a p) = sub a ∷ at p ∷ []
parts_of (Ty.label a p) = sub a ∷ at p ∷ []
parts_of (Ty.pointcut a p) = sub a ∷ at p ∷ []
parts_of (Ty.advice p) = at p ∷ []
parts_of (Ty.object ms) = method_parts ms
parts_of Ty.stack = []

-- What f makes of a type and of what it makes of its parts.
unfoldable mutual
  pub recur : {A : Type 0} → (Ty → List (Part A) → A) → Ty → A
  recur f Ty.unit = f Ty.unit []
  recur f Ty.truth = f Ty.truth []
  recur f Ty.number = f Ty.number []
  recur f (Ty.pair a b) = f (Ty.pair a b) (sub (recur f a) ∷ sub (recur f b) ∷ [])
  recur f (Ty.fun a p b) = f (Ty.fun a p b) (sub (recur f a) ∷ at p ∷ sub (recur f b) ∷ [])
  recur f (Ty.ref a p) = f (Ty.ref a p) (sub (recur f a) ∷ at p ∷ [])
  recur f (Ty.label a p) = f (Ty.label a p) (sub (recur f a) ∷ at p ∷ [])
  recur f (Ty.pointcut a p) = f (Ty.pointcut a p) (sub (recur f a) ∷ at p ∷ [])
  recur f (Ty.advice p) = f (Ty.advice p) (at p ∷ [])
  recur f (Ty.object ms) = f (Ty.object ms) (recurs f ms)
  recur f Ty.stack = f Ty.stack []

  pub recurs : {A : Type 0} → (Ty → List (Part A) → A) → Sigs → List (Part A)
  recurs f no_method = []
  recurs f (method p a ms) = at p ∷ sub (recur f a) ∷ recurs f ms

-- "Each after its own parts, left to right" (card 11): a type behind its parts, each behind its own.
abbrev pub joined : List (Part (List Ty)) → List Ty
joined [] = []
joined (sub ts ∷ ps) = ts ++ joined ps
joined (at p ∷ ps) = joined ps

unfoldable pub parts_first : Ty → List Ty
parts_first t = recur (λ u ps. joined ps ++ (u ∷ [])) t

-- Whether two types are the same: of one kind, with the same parts.
abbrev pub same_part : Part (Ty → Bool) → Part Ty → Bool
same_part (sub same) (sub u) = same u
same_part (sub same) (at q) = false
same_part (at p) (sub u) = false
same_part (at p) (at q) = eqb p q

abbrev pub same_parts_of : List (Part (Ty → Bool)) → List (Part Ty) → Bool
same_parts_of [] [] = true
same_parts_of [] (q ∷ qs) = false
same_parts_of (p ∷ ps) [] = false
same_parts_of (p ∷ ps) (q ∷ qs) = same_part p q && same_parts_of ps qs

unfoldable pub same : Ty → Ty → Bool
same t u = recur {A = Ty → Bool} (λ v ps w. eqb (type_row_of (head_of v)).number (type_row_of (head_of w)).number && same_parts_of ps (parts_of w)) t u
