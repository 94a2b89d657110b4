-- An image whose numbers are known is accepted, its program is in the class, and the numbers are those of its program; one that is refused with 19 is accepted, and its program is outside the class. And the other way.
use Prim.Native.Nat.{ℕ, ◌≤◌, ◌<◌}
use native.Mathlib.Omega.{arith}
use mathlib.Core.Path.{◌≡◌, refl}
use mathlib.Core.Bool.{Bool, true, false}
use mathlib.Core.List.{List}
use Rattle.std.proofs.Common.{Ok, Err}
use lib.ListN.{length}
use lib.Dec.{T, ltb}
use Rattle.calculus.specs.Combinators.{choose}
use Rattle.calculus_needs.specs.Class.{in_class}
use Rattle.calculus_needs.specs.Needs.{need_of}
use Rattle.image.specs.declared.Refusal.{Refusal}
use Rattle.image.specs.Limits.{work_length, report_length}
use Rattle.image.specs.Layout.{records_of}
use Rattle.image.specs.Types.{term_place}
use Rattle.image.specs.Program.{program, to_tm}
use Rattle.laws.proofs.Booleans.{no_path, lt_of, ge_of}
use Rattle.verdict.specs.Answers.{Verdict, refused_at}
use Rattle.verdict.specs.Verdicts.{verdict}
use Rattle.verdict.proofs.Accept.{accepted_good}
use Rattle.verdict.proofs.Passed.{passed_iff}
use Rattle.image_needs.specs.declared.Needs.{Needs}
use Rattle.image_needs.specs.declared.Unforeseen.{Unforeseen}
use Rattle.image_needs.specs.Faults.{lowest_fault}
use Rattle.image_needs.specs.Forecasts.{Forecast, needs_of, unless, forecast}
use Rattle.image_needs.proofs.Class.{in_class_lem}
use Rattle.image_needs.proofs.Faultless.{faultless}

abbrev InClass : List ℕ → Type 0
InClass b = T (in_class true (to_tm (program (records_of b))))

pub record Known (b : List ℕ) (n : Needs) : Type 0 where
  pub accepted : verdict b work_length report_length ≡ Ok tt
  pub class : InClass b
  pub numbers : needs_of (need_of (to_tm (program (records_of b)))) ≡ n

pub record Outside (b : List ℕ) (place : ℕ) : Type 0 where
  pub accepted : verdict b work_length report_length ≡ Ok tt
  pub class : InClass b → ⊥
  pub place_is : term_place (records_of b) (lowest_fault (records_of b)) ≡ place

module _ (b : List ℕ) (v : verdict b work_length report_length ≡ Ok tt) where
  abbrev fault : ℕ
  fault = lowest_fault (records_of b)

  abbrev count : ℕ
  count = length (records_of b).terms

  there : 0 < count
  there = ((passed_iff b work_length report_length).0 v).shaped.has_terms

  no_fault : count ≤ fault → InClass b
  no_fault l = in_class_lem (records_of b) (accepted_good b work_length report_length v) there l

  a_fault : fault < count → InClass b → ⊥
  a_fault l c = let m = faultless (records_of b) (accepted_good b work_length report_length v) there c in absurd (omega arith)

-- By the verdict and by whether there is a fault.
abbrev after : Verdict → Bool → List ℕ → Forecast
after v c b = unless v (choose c (Err (Unforeseen.OutsideClass (term_place (records_of b) (lowest_fault (records_of b))))) (Ok (needs_of (need_of (to_tm (program (records_of b)))))))

abbrev faulty : List ℕ → Bool
faulty b = ltb (lowest_fault (records_of b)) (length (records_of b).terms)

pub known : (b : List ℕ) (n : Needs) → forecast b ≡ Ok n → Known b n
unfolding forecast
known b n h = go (verdict b work_length report_length) refl (faulty b) refl h
  where
    go : (v : Verdict) → verdict b work_length report_length ≡ v → (c : Bool) → faulty b ≡ c → after v c b ≡ Ok n → Known b n
    go (Ok tt) v true e k = no_path cc
    go (Ok tt) v false e k = record { accepted = v; class = no_fault b v (ge_of e); numbers = cc }
    go (Err refusal) v c e k = no_path cc

pub outside : (b : List ℕ) (place : ℕ) → forecast b ≡ Err (Unforeseen.OutsideClass place) → Outside b place
unfolding forecast
outside b place h = go (verdict b work_length report_length) refl (faulty b) refl h
  where
    go : (v : Verdict) → verdict b work_length report_length ≡ v → (c : Bool) → faulty b ≡ c → after v c b ≡ Err (Unforeseen.OutsideClass place) → Outside b place
    go (Ok tt) v true e k = record { accepted = v; class = a_fault b v (lt_of e); place_is = cc }
    go (Ok tt) v false e k = no_path cc
    go (Err refusal) v c e k = no_path cc

-- The forecast of an image that is accepted, inside the class and outside of it.
pub known_back : (b : List ℕ) → verdict b work_length report_length ≡ Ok tt → InClass b → forecast b ≡ Ok (needs_of (need_of (to_tm (program (records_of b)))))
unfolding forecast
known_back b v class = rw v (go (faulty b) refl)
  where
    go : (c : Bool) → faulty b ≡ c → after (Ok tt) c b ≡ Ok (needs_of (need_of (to_tm (program (records_of b)))))
    go true e = absurd (a_fault b v (lt_of e) class)
    go false e = refl

pub outside_back : (b : List ℕ) → verdict b work_length report_length ≡ Ok tt → (InClass b → ⊥) → forecast b ≡ Err (Unforeseen.OutsideClass (term_place (records_of b) (lowest_fault (records_of b))))
unfolding forecast
outside_back b v class = rw v (go (faulty b) refl)
  where
    go : (c : Bool) → faulty b ≡ c → after (Ok tt) c b ≡ Err (Unforeseen.OutsideClass (term_place (records_of b) (lowest_fault (records_of b))))
    go true e = refl
    go false e = absurd (class (no_fault b v (ge_of e)))

pub refused_first : (b : List ℕ) (r : Refusal) (place : ℕ) → verdict b work_length report_length ≡ refused_at r place → forecast b ≡ Err (Unforeseen.Refused (record { why = r; place = place }))
unfolding forecast
refused_first b r place v = rw v refl
