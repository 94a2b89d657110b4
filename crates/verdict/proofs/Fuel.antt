-- The typing pass with no fuel to give: a term's own rule, then its children; and a refusal of it is 13, 14 or 15.
use Rattle.std.specs.Prelude.{Ok, Err}
use Prim.Native.Nat.{ℕ, zero, suc, ◌<◌}
use native.Mathlib.Omega.{arith}
use mathlib.Core.Path.{◌≡◌, refl, ◌∙◌}
use mathlib.Core.List.{List, [], ◌∷◌}
use mathlib.Core.Option.{Option, none, some}
use lib.ListN.{length}
use Rattle.image.specs.declared.Refusal.{Refusal}
use Rattle.laws.specs.Tests.{first_fault}
use Rattle.image.specs.Records.{Layout}
use Rattle.image.specs.Types.{term_place, children}
use Rattle.image.proofs.Laid.{Below, LayoutOk}
use Rattle.verdict.specs.Answers.{Verdict, refused_at}
use Rattle.verdict.specs.Settings.{Setting}
use Rattle.verdict.specs.Rules.{rule_faults}
use Rattle.verdict.specs.Check.{rule_at, setting_at, check_all, check, checked}

module _ (L : Layout) (good : LayoutOk L) where
  children_cong : (u v : ℕ → ℕ → Verdict) (m : ℕ) → ((i e : ℕ) → e < m → u i e ≡ v i e) → (i : ℕ) (es : List ℕ) → Below m es → check_all L u i es ≡ check_all L v i es
  unfolding check_all
  children_cong u v m h i [] b = refl
  children_cong u v m h i (e ∷ es) b = go (children_cong u v m h (suc i) es b.1) (v i e) refl
    where
      go : check_all L u (suc i) es ≡ check_all L v (suc i) es → (x : Verdict) → v i e ≡ x → check_all L u i (e ∷ es) ≡ check_all L v i (e ∷ es)
      go r (Ok tt) q = let z : u i e ≡ Ok tt = h i e b.0 ∙ q in rw (z, q, check_all) r
      go r (Err refusal) q = let z : u i e ≡ Err refusal = h i e b.0 ∙ q in rw (z, q, check_all) refl

  pub check_fuel : (f g : ℕ) (p : Setting ℕ) (n : ℕ) → n < f → n < g → n < length L.terms → check L f p n ≡ check L g p n
  unfolding check
  check_fuel zero g p n l m t = absurd (omega arith)
  check_fuel (suc f) zero p n l m t = absurd (omega arith)
  check_fuel (suc f) (suc g) p n l m t =
      go (first_fault (rule_faults (rule_at L p n))) refl
      (children_cong (λ i e. check L f (setting_at L p n i) e) (λ i e. check L g (setting_at L p n i) e) n (λ i e h. check_fuel f g (setting_at L p n i) e (omega arith) (omega arith) (omega arith)) 0 (children L n) (good.terms n t).below)
    where
      go : (x : Option Refusal) → first_fault (rule_faults (rule_at L p n)) ≡ x
          → check_all L (λ i e. check L f (setting_at L p n i) e) 0 (children L n) ≡ check_all L (λ i e. check L g (setting_at L p n i) e) 0 (children L n) → check L (suc f) p n ≡ check L (suc g) p n
      go (some r) e h = rw (e, check) refl
      go none e h = rw (e, check) h

  pub checked_refused : (p : Setting ℕ) (n : ℕ) (r : Refusal) → first_fault (rule_faults (rule_at L p n)) ≡ some r → checked L p n ≡ refused_at r (term_place L n)
  unfolding checked check
  checked_refused p n r e = rw (e, check) refl

  pub checked_children : (p : Setting ℕ) (n : ℕ) → n < length L.terms → first_fault (rule_faults (rule_at L p n)) ≡ none
      → checked L p n ≡ check_all L (λ i e. checked L (setting_at L p n i) e) 0 (children L n)
  unfolding checked check
  checked_children p n t e =
      let c = children_cong (λ i e. check L n (setting_at L p n i) e) (λ i e. checked L (setting_at L p n i) e) n (λ i e h. check_fuel n (suc e) (setting_at L p n i) e h (omega arith) (omega arith)) 0 (children L n) (good.terms n t).below in
      rw (e, check) c
