-- Where a child of a term stands: its variables' types and the current domain (document 01, "Typing").
use Rattle.std.specs.Prelude.{ℕ, Bool, true, false, get_or, drop}
use mathlib.Core.List.{List, [], ◌∷◌, ◌++◌, map, reverse_aux}
use Rattle.calculus.specs.Combinators.{choose}
use Rattle.calculus.specs.Syntax.{Dom, Ty, Pattern, at_end, at_rest, anything, pointcut}
use Rattle.image.specs.Kinds.{Body, here, function_body, advice_body, split_body, lower_body, object_body, match_body}
use Rattle.image.specs.Records.{or_else}
use Rattle.image.specs.Program.{pattern_of, own_domain}

-- The context of variables, innermost first, and the current domain. A is what types are: numbers, or types in full.
pub record Setting (A : Type 0) : Type 0 where
  pub context : List A
  pub dom : Dom

-- Whether a pattern binds the rest of the stack (card 6).
abbrev pub binds_rest : Pattern → Bool
binds_rest at_end = false
binds_rest at_rest = true
binds_rest (anything p) = binds_rest p
binds_rest (pointcut p) = binds_rest p

-- The types that the first branch of a match binds (card 6), where s is the stack's type and ts are the pointcuts': "Values bind in the first branch, left to right, rest last."
abbrev pub match_binds : {A : Type 0} → (A → A) → Pattern → A → List A → List A
match_binds first p s ts = map first ts ++ choose (binds_rest p) (s ∷ []) []

-- The types that a child binds, in the order of binding: "Function binds a, advice binds its pointcut's a; split binds first, then second, in its second child." A method's body binds the object itself (card 3), the first branch of a match what its pattern binds (card 6).
-- first and second give the parts of a type; t is the term's own type, vs are its fields that are neither type nor child, ts its children's types.
abbrev pub bound : {A : Type 0} → (A → A) → (A → A) → Body → A → List ℕ → List A → List A
bound first second here t vs ts = []
bound first second function_body t vs ts = first t ∷ []
bound first second advice_body t vs ts = first (get_or ts 0 t) ∷ []
bound first second split_body t vs ts = first (get_or ts 0 t) ∷ second (get_or ts 0 t) ∷ []
bound first second lower_body t vs ts = []
bound first second object_body t vs ts = t ∷ []
bound first second match_body t vs ts = match_binds first (pattern_of vs) (get_or ts 0 t) (drop 3 ts)

-- "Outer variables stay visible." Each type is put before those that were bound earlier.
abbrev pub context_of : {A : Type 0} → (A → A) → (A → A) → Body → A → List ℕ → List A → List A → List A
context_of first second b t vs ts Γ = reverse_aux (bound first second b t vs ts) Γ

-- "Bodies of function and advice are checked at their type's p, the body of lower at its field p; other children at the parent's domain." A method's body is checked at the method's (card 3). Of child i.
abbrev pub domain_of : Body → Ty → List ℕ → Dom → ℕ → Dom
domain_of b t vs c i = or_else (own_domain b t vs i) c
