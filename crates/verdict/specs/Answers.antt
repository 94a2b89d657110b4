-- Verdicts: one requirement, requirements of a row of numbers, and checks in turn (document 01, "Turned back at the gate").
use Rattle.std.specs.Prelude.{ℕ, zero, suc, Bool, true, false, List, [], ◌∷◌, Result, Ok, Err}
use Rattle.std.proofs.Math.Option.{Option, none, some}
use Rattle.image.specs.declared.Refusal.{Refusal}
use Rattle.image.specs.Refusals.{refusal_number}
use Rattle.image.specs.declared.Refused.{Refused}

-- Accepted, or refused with the reason and the place.
abbrev pub Verdict : Type 0
Verdict = Result (Unit {0}) Refused

abbrev pub refused_at : Refusal → ℕ → Verdict
refused_at r place = Err (record { why = r; place = place })

-- Document 01's number and place of a refusal; nothing of an image that is accepted.
abbrev pub refusal_of : Verdict → Option (ℕ × ℕ)
refusal_of (Ok tt) = none
refusal_of (Err refusal) = some (refusal_number refusal.why, refusal.place)

-- Refused at a place, unless the test holds.
abbrev pub require : Bool → Refusal → ℕ → Verdict
require true r place = Ok tt
require false r place = refused_at r place

-- Of n numbers from i on: refused at the place of the lowest at which the test fails.
unfoldable pub require_from : ℕ → ℕ → Refusal → (ℕ → ℕ) → (ℕ → Bool) → Verdict
require_from zero i r place ok = Ok tt
require_from (suc n) i r place ok = elim (ok i) [ true ↦ require_from n (suc i) r place ok | false ↦ refused_at r (place i) ]

-- Checks in turn: the first refusal is the answer. Each check is a function, which is computed only if those before it have passed.
unfoldable pub in_turn : List (Unit {0} → Verdict) → Verdict
in_turn [] = Ok tt
in_turn (v ∷ vs) = elim (v tt) [ Ok tt ↦ in_turn vs | Err refusal ↦ Err refusal ]
