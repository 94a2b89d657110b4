-- Small laws: tests in a row, what a rule comes to, and what arithmetic gives.
use Rattle.std.specs.Prelude.{Ok}
use Prim.Native.Nat.{ℕ}
use mathlib.Core.Path.{◌≡◌, refl, sym}
use mathlib.Core.Bool.{Bool, true, false}
use mathlib.Core.List.{List, [], ◌∷◌}
use Rattle.image.specs.declared.Refusal.{Refusal}
use Rattle.laws.specs.Tests.{all, first_fault}
use Rattle.laws.proofs.Booleans.{no_path}
use Rattle.verdict.specs.Answers.{refused_at}
use Rattle.check_rules.specs.Judged.{judged}

-- Tests in a row: of one alone, of one that holds before others, and of one that fails.
pub alone : (a : Bool) → all (a ∷ []) ≡ a
unfolding all
alone true = refl
alone false = refl

pub holds_first : (a : Bool) (bs : List Bool) → a ≡ true → all bs ≡ all (a ∷ bs)
unfolding all
holds_first true bs h = refl
holds_first false bs h = no_path (sym h)

pub fails_first : (a : Bool) (bs : List Bool) → a ≡ false → a ≡ all (a ∷ bs)
unfolding all
fails_first false bs h = refl
fails_first true bs h = no_path h

-- Two of three tests first.
pub two_first : (a b c : Bool) → all (all (a ∷ b ∷ []) ∷ c ∷ []) ≡ all (a ∷ b ∷ c ∷ [])
unfolding all
two_first true true c = refl
two_first true false c = refl
two_first false b c = refl

-- A test before three others, from the left.
pub three_behind : (a b c d : Bool) → all (all (all (a ∷ b ∷ []) ∷ c ∷ []) ∷ d ∷ []) ≡ all (a ∷ all (b ∷ c ∷ d ∷ []) ∷ [])
unfolding all
three_behind true true true true = refl
three_behind true true true false = refl
three_behind true true false d = refl
three_behind true false c d = refl
three_behind false b c d = refl

-- What a rule comes to.
module _ (place : ℕ) where
  pub unbound : (b t d : Bool) → b ≡ false → refused_at Refusal.UnboundVariable place ≡ judged place (record { bound = b; typed = t; allowed = d })
  unfolding judged first_fault
  unbound false t d h = refl
  unbound true t d h = no_path h

  pub mistyped : (b t d : Bool) → b ≡ true → t ≡ false → refused_at Refusal.TypeRule place ≡ judged place (record { bound = b; typed = t; allowed = d })
  unfolding judged first_fault
  mistyped true false d h k = refl
  mistyped true true d h k = no_path k
  mistyped false t d h k = no_path (sym h)

  pub not_allowed : (b t d : Bool) → b ≡ true → t ≡ true → d ≡ false → refused_at Refusal.DomainRule place ≡ judged place (record { bound = b; typed = t; allowed = d })
  unfolding judged first_fault
  not_allowed true true false h k l = refl
  not_allowed true true true h k l = no_path l
  not_allowed true false d h k l = no_path (sym k)
  not_allowed false t d h k l = no_path (sym h)

  pub accepted : (b t d : Bool) → b ≡ true → t ≡ true → d ≡ true → (Ok tt) ≡ judged place (record { bound = b; typed = t; allowed = d })
  unfolding judged first_fault
  accepted true true true h k l = refl
  accepted true true false h k l = no_path (sym l)
  accepted true false d h k l = no_path (sym k)
  accepted false t d h k l = no_path (sym h)
