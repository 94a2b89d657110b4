-- The pattern of a match (card 6): over pointcuts of the types that it asks for, it binds the types that its first branch is said to bind.
use Prim.Native.Nat.{ℕ, suc}
use native.Mathlib.Omega.{arith}
use mathlib.Core.Path.{◌≡◌, refl, ap}
use mathlib.Core.Bool.{true}
use mathlib.Core.List.{List, [], ◌∷◌, map}
use lib.ListN.{length}
use Rattle.calculus.specs.Syntax.{Dom, Ty, Pattern, at_end, at_rest, anything, pointcut}
use Rattle.calculus.specs.Typing.{PatternTy, p_end, p_rest, p_any, p_cut}
use Rattle.laws.specs.Tests.{all}
use Rattle.image.specs.Kinds.{TypeKind}
use Rattle.image.specs.Records.{Layout}
use Rattle.image.specs.Types.{is_type, type_out, type_of}
use Rattle.laws.proofs.Booleans.{and_l, and_r}
use Rattle.image.proofs.Laid.{Below, LayoutOk}
use Rattle.image.proofs.Fitting.{pointcuts}
use Rattle.image.proofs.TypeNumbers.{out_as}
use Rattle.verdict.specs.Settings.{match_binds}
use Rattle.verdict.specs.Rules.{is}
use Rattle.verdict.specs.Check.{described}
use Rattle.verdict.specs.WellTyped.{first_of}

-- What a typed pattern binds.
pub pattern_binds : {p : Pattern} {ts us : List Ty} → PatternTy p ts us → us ≡ match_binds first_of p Ty.stack ts
pattern_binds p_end = refl
pattern_binds p_rest = refl
pattern_binds (p_any o) = pattern_binds o
pattern_binds (p_cut {a} o) = ap (λ us. a ∷ us) (pattern_binds o)

-- It has a pointcut for each type.
pub pattern_count : {p : Pattern} {ts us : List Ty} → PatternTy p ts us → pointcuts p ≡ length ts
pattern_count p_end = refl
pattern_count p_rest = refl
pattern_count (p_any o) = pattern_count o
pattern_count (p_cut o) = ap suc (pattern_count o)

-- The parts of a typed pattern.
pub any_part : {p : Pattern} {ts us : List Ty} → PatternTy (anything p) ts us → PatternTy p ts us
any_part (p_any o) = o

pub cut_parts : {p : Pattern} {t : Ty} {ts us : List Ty} → PatternTy (pointcut p) (t ∷ ts) us → (a : Ty) × (q : Dom) × (ws : List Ty) × (t ≡ Ty.pointcut a q) × PatternTy p ts ws
cut_parts (p_cut {us = ws} {a} {q} o) = (a, q, ws, refl, o)

module _ (L : Layout) (good : LayoutOk L) where
  pub pattern_typed : (p : Pattern) (xs : List ℕ) → Below (length L.types) xs → all (map (λ a. is TypeKind.pcd a) (described L xs)) ≡ true → pointcuts p ≡ length xs
      → PatternTy p (map (λ a. type_of L a) xs) (match_binds first_of p Ty.stack (map (λ a. type_of L a) xs))
  unfolding type_out all
  pattern_typed at_end [] ks h n = p_end
  pattern_typed at_end (x ∷ xs) ks h n = absurd (omega arith)
  pattern_typed at_rest [] ks h n = p_rest
  pattern_typed at_rest (x ∷ xs) ks h n = absurd (omega arith)
  pattern_typed (anything p) xs ks h n = p_any (pattern_typed p xs ks h n)
  pattern_typed (pointcut p) [] ks h n = absurd (omega arith)
  pattern_typed (pointcut p) (x ∷ xs) ks h n =
      let e = out_as L good TypeKind.pcd x ks.0 (and_l (is_type L TypeKind.pcd x) (all (map (λ a. is TypeKind.pcd a) (described L xs))) h) in
      let r = pattern_typed p xs ks.1 (and_r (is_type L TypeKind.pcd x) (all (map (λ a. is TypeKind.pcd a) (described L xs))) h) (omega arith) in
      rw e (p_cut r)
