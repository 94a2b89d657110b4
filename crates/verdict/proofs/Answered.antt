-- Verdicts that accept: what each check in turn has passed, and the other way round.
use Rattle.std.specs.Prelude.{Ok, Err, is_err}
use Prim.Native.Nat.{ℕ, zero, suc, ◌+◌, ◌≤◌, ◌<◌}
use native.Mathlib.Omega.{arith}
use mathlib.Core.Path.{◌≡◌, refl, sym}
use mathlib.Core.Bool.{Bool, true, false}
use mathlib.Core.List.{List, [], ◌∷◌}
use lib.Dec.{ltb}
use Rattle.image.specs.declared.Refusal.{Refusal}
use Rattle.image.specs.declared.Refused.{Refused}
use Rattle.laws.proofs.Booleans.{no_path, lt_of, ge_of}
use Rattle.verdict.specs.Answers.{require, require_from, in_turn, Verdict, refused_at}

pub not_refused : {A : Type 0} {refusal : Refused} → ◌≡◌ {A = Verdict} (Err refusal) (Ok tt) → A
not_refused h = no_path cc

pub accepted_is : (v : Verdict) → is_err v ≡ false → v ≡ Ok tt
accepted_is (Ok tt) h = refl
accepted_is (Err refusal) h = no_path h

pub in_turn_lem : (v : Unit {0} → Verdict) (vs : List (Unit {0} → Verdict)) → in_turn (v ∷ vs) ≡ Ok tt → (v tt ≡ Ok tt) × (in_turn vs ≡ Ok tt)
unfolding in_turn
in_turn_lem v vs h = go (v tt) refl
  where
    go : (x : Verdict) → v tt ≡ x → (v tt ≡ Ok tt) × (in_turn vs ≡ Ok tt)
    go (Ok tt) e = (e, rw (e, in_turn) at h)
    go (Err refusal) e = let z : ◌≡◌ {A = Verdict} (Err refusal) (Ok tt) = rw (e, in_turn) at h in not_refused z

pub turn_in : (v : Unit {0} → Verdict) (vs : List (Unit {0} → Verdict)) → v tt ≡ Ok tt → in_turn vs ≡ Ok tt → in_turn (v ∷ vs) ≡ Ok tt
unfolding in_turn
turn_in v vs h k = rw (h, in_turn) k

pub turned : in_turn [] ≡ Ok tt
unfolding in_turn
turned = refl

-- Of checks in turn, the first: it refuses, it passes, it is the last.
module _ (v : Unit {0} → Verdict) (vs : List (Unit {0} → Verdict)) where
  pub turn_stops : is_err (v tt) ≡ true → in_turn (v ∷ vs) ≡ v tt
  unfolding in_turn
  turn_stops h = go (v tt) refl
    where
      go : (w : Verdict) → v tt ≡ w → in_turn (v ∷ vs) ≡ v tt
      go (Ok tt) e = let z : false ≡ true = rw e at h in no_path (sym z)
      go (Err refusal) e = rw (e, in_turn) refl

  pub turn_goes : is_err (v tt) ≡ false → in_turn (v ∷ vs) ≡ in_turn vs
  unfolding in_turn
  turn_goes h = go (v tt) refl
    where
      go : (w : Verdict) → v tt ≡ w → in_turn (v ∷ vs) ≡ in_turn vs
      go (Ok tt) e = rw (e, in_turn) refl
      go (Err refusal) e = let z : true ≡ false = rw e at h in no_path z

pub last_turn : (v : Unit {0} → Verdict) → in_turn (v ∷ []) ≡ v tt
unfolding in_turn
last_turn v = go (v tt) refl
  where
    go : (w : Verdict) → v tt ≡ w → in_turn (v ∷ []) ≡ v tt
    go (Ok tt) e = rw (e, in_turn) refl
    go (Err refusal) e = rw (e, in_turn) refl

pub required : (b : Bool) (r : Refusal) (o : ℕ) → require b r o ≡ Ok tt → b ≡ true
required true r o h = refl
required false r o h = not_refused h

pub of_required : {b : Bool} (r : Refusal) (o : ℕ) → b ≡ true → require b r o ≡ Ok tt
of_required r o h = rw h refl

pub required_each : (n i : ℕ) (r : Refusal) (place : ℕ → ℕ) (ok : ℕ → Bool) → require_from n i r place ok ≡ Ok tt → (j : ℕ) → i ≤ j → j < i + n → ok j ≡ true
unfolding require_from
required_each zero i r place ok h j l m = absurd (omega arith)
required_each (suc n) i r place ok h j l m = go (λ k z w. required_each n (suc i) r place ok k j z w) (ok i) refl (ltb i j) refl
  where
    go : (require_from n (suc i) r place ok ≡ Ok tt → suc i ≤ j → j < suc i + n → ok j ≡ true) → (b : Bool) → ok i ≡ b → (c : Bool) → ltb i j ≡ c → ok j ≡ true
    go ih true e true f = let z : i < j = lt_of f in ih (rw (e, require_from) at h) z (omega arith)
    go ih true e false f = let z : j ≤ i = ge_of f in let q : j ≡ i = omega arith in rw q e
    go ih false e c f = let z : refused_at r (place i) ≡ Ok tt = rw (e, require_from) at h in not_refused z

pub each_required : (n i : ℕ) (r : Refusal) (place : ℕ → ℕ) (ok : ℕ → Bool) → ((j : ℕ) → i ≤ j → j < i + n → ok j ≡ true) → require_from n i r place ok ≡ Ok tt
unfolding require_from
each_required zero i r place ok h = refl
each_required (suc n) i r place ok h =
    let e : ok i ≡ true = h i (omega arith) (omega arith) in
    rw (e, require_from) (each_required n (suc i) r place ok (λ j l m. h j (omega arith) (omega arith)))
