-- A fault says the verdict that it was made from.
use Rattle.std.specs.Prelude.{Ok, Err, is_err}
use Prim.Native.Nat.{ℕ, ◌+◌, ◌*◌, ◌/◌, ◌%◌, ◌≤◌, ◌<◌}
use native.Mathlib.Omega.{arith}
use mathlib.Core.Path.{◌≡◌, refl, sym, ap, subst, ◌∙◌}
use mathlib.Core.Bool.{Bool, true, false}
use borrow.Author.Tests.{eq-eqb, ne_eqb}
use Rattle.image.specs.declared.Refusal.{Refusal}
use Rattle.image.specs.Records.{Layout}
use Rattle.image.specs.Types.{term_place}
use Rattle.verdict.specs.Answers.{Verdict, refused_at}
use Rattle.verdict.specs.Settings.{Setting}
use Rattle.verdict.specs.Rules.{Rule}
use Rattle.verdict.specs.Check.{rule_at}
use Rattle.check_rules.specs.Judged.{judged, rule_verdict}
use Rattle.check_rules.proofs.Small.{unbound, mistyped, not_allowed, accepted}
use Rattle.check_typing.specs.Faults.{fault_at, refusal_with, verdict_at}

module _ (L : Layout) where
  -- A number other than 0 is a refusal, and 0 none.
  pub fault_refused : (f : ℕ) → (f ≡ 0 → ⊥) → is_err (verdict_at L f) ≡ true
  fault_refused f h = rw (ne_eqb f 0 h) refl

  pub fault_accepted : (f : ℕ) → f ≡ 0 → is_err (verdict_at L f) ≡ false
  fault_accepted f h = rw (eq-eqb f 0 h) refl

  pub fault_at_lem : (f : ℕ) {r : Refusal} {place : ℕ} → (f ≡ 0 → ⊥) → r ≡ refusal_with (f % 4) → place ≡ term_place L (f / 4 % 65536) → f / 4 < 65536 → refused_at r place ≡ verdict_at L f
  fault_at_lem f h e q l =
      let z : f / 4 % 65536 ≡ f / 4 = omega arith in
      rw (ne_eqb f 0 h) (λ i. refused_at (e i) ((q ∙ ap (term_place L) z) i))

  -- The refusal k at term n, as a number and back.
  back : (k n : ℕ) → 0 < k → k < 4 → verdict_at L (k + 4 * n) ≡ refused_at (refusal_with k) (term_place L n)
  back k n l h =
      let r : (k + 4 * n) % 4 ≡ k = omega arith in
      let q : (k + 4 * n) / 4 ≡ n = omega arith in
      rw (ne_eqb (k + 4 * n) 0 (λ e. omega arith), r, q) refl

  -- What the rule of term n alone comes to is one of four.
  judged_back : (n : ℕ) (x y z : Bool) → let v : Verdict = judged (term_place L n) (record { bound = x; typed = y; allowed = z }) in verdict_at L (fault_at v n) ≡ v
  judged_back n false y z = subst (λ v. verdict_at L (fault_at v n) ≡ v) (unbound (term_place L n) false y z refl) (back 1 n (omega arith) (omega arith))
  judged_back n true false z = subst (λ v. verdict_at L (fault_at v n) ≡ v) (mistyped (term_place L n) true false z refl refl) (back 2 n (omega arith) (omega arith))
  judged_back n true true false = subst (λ v. verdict_at L (fault_at v n) ≡ v) (not_allowed (term_place L n) true true false refl refl refl) (back 3 n (omega arith) (omega arith))
  judged_back n true true true = subst (λ v. verdict_at L (fault_at v n) ≡ v) (accepted (term_place L n) true true true refl refl refl) refl

  module _ (p : Setting ℕ) (n : ℕ) {v : Verdict} (e : v ≡ rule_verdict L p n) where
    pub own_back : {f : ℕ} → f ≡ fault_at v n → verdict_at L f ≡ v
    unfolding rule_verdict
    own_back q =
        let r : Rule = rule_at L p n in
        ap (verdict_at L) q ∙ subst (λ u. verdict_at L (fault_at u n) ≡ u) (sym e) (judged_back n r.bound r.typed r.allowed)

-- The number of the term at fault is not above n's.
pub own_below : (v : Verdict) (n : ℕ) {f : ℕ} → f ≡ fault_at v n → f ≤ 4 * n + 3
own_below (Ok tt) n e = omega arith
own_below (Err refusal) n e = omega arith
