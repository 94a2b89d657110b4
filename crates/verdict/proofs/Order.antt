-- No domain is at fault exactly if the domains are partially ordered, as their masks say.
use Prim.Native.Nat.{ℕ, zero, suc, ◌≤◌, ◌<◌}
use native.Mathlib.Omega.{arith}
use mathlib.Core.Path.{◌≡◌, refl, sym, ap, ◌∙◌}
use mathlib.Core.Logic.{◌↔◌}
use mathlib.Core.Bool.{Bool, true, false, not, ◌&&◌, ◌||◌}
use mathlib.Core.List.{List, [], ◌∷◌, map}
use lib.ListN.{length, get_or, length-map, get_or-eq_default}
use lib.Dec.{eqb, ltb, leb}
use borrow.Author.Tests.{not-false}
use Rattle.calculus.specs.Syntax.{Dom}
use Rattle.image.specs.Limits.{domain_limit}
use Rattle.laws.specs.Tests.{any_below}
use Rattle.image.specs.Records.{Layout}
use Rattle.laws.proofs.Tests.{below_none, none_below}
use Rattle.laws.proofs.Booleans.{no_path, and_false, or_false_l, or_false_r, lt_of, ge_of, le_of, of_le, eq_of, of_eq, by_test}
use Rattle.verdict.specs.Domains.{bits, masks, order, leq}
use Rattle.verdict.specs.Order.{fault_at, at_fault}
use Rattle.verdict.specs.Acceptable.{PartialOrder}

bits_length : (n m : ℕ) → length (bits n m) ≡ n
unfolding bits
bits_length zero m = refl
bits_length (suc n) m = ap suc (bits_length n _)

rows_length : (ms : List ℕ) (d q : ℕ) → get_or (get_or (map (λ m. bits domain_limit m) ms) d []) q false ≡ true → (d < length ms) × (q < domain_limit)
rows_length [] d q h = no_path (sym h)
rows_length (m ∷ ms) zero q h = by_test (ltb q domain_limit)
    (λ e. (omega arith, lt_of e))
    λ e.
    let z : domain_limit ≤ q = ge_of e in
    let w : length (bits domain_limit m) ≤ q = omega (arith, bits_length domain_limit m) in
    no_path (sym (sym (get_or-eq_default (bits domain_limit m) false w) ∙ h))
rows_length (m ∷ ms) (suc d) q h = let r = rows_length ms d q h in (let l = r.0 in omega arith, r.1)

module _ (L : Layout) where
  -- Whatever names a domain is one, and has 16 bits to do so.
  leq_bounds : (d q : Dom) → leq L d q ≡ true → (d < length L.domains) × (q < domain_limit)
  unfolding leq order
  leq_bounds d q h = let r = rows_length (masks L) d q h in (rw length-map at r.0, r.1)

module _ (L : Layout) (ok : (d : ℕ) → d < length L.domains → at_fault L d ≡ false) where
  -- What is not at fault at e.
  fine : (d e : Dom) → leq L d e ≡ true → leb (length L.domains) e || ((not (eqb e d) && leq L e d) || any_below domain_limit (λ f. leq L e f && not (leq L d f))) ≡ false
  unfolding at_fault
  fine d e h =
      let b = leq_bounds L d e h in
      let any = or_false_r (not (leq L d d)) (any_below domain_limit (λ e. fault_at L d e)) (ok d b.0) in
      let here = none_below domain_limit (λ e. fault_at L d e) any e b.1 in
      and_false (leq L d e) _ here h

  -- Both of two domains that are ordered are there.
  leq_there : (d e : Dom) → leq L d e ≡ true → (d < length L.domains) × (e < length L.domains)
  leq_there d e h = ((leq_bounds L d e h).0, go (ltb e (length L.domains)) refl)
    where
      go : (t : Bool) → ltb e (length L.domains) ≡ t → e < length L.domains
      go true q = lt_of q
      go false q = no_path (sym (of_le {m = length L.domains} {n = e} (ge_of q)) ∙ or_false_l (leb (length L.domains) e) _ (fine d e h))

  leq_reflexive : (d : Dom) → d < length L.domains → leq L d d ≡ true
  unfolding at_fault
  leq_reflexive d l = not-false (leq L d d) (or_false_l (not (leq L d d)) _ (ok d l))

  leq_antisymmetric : (d e : Dom) → leq L d e ≡ true → leq L e d ≡ true → d ≡ e
  leq_antisymmetric d e h k =
      let x = or_false_r (leb (length L.domains) e) _ (fine d e h) in
      let y : not (eqb e d) && leq L e d ≡ false = or_false_l (not (eqb e d) && leq L e d) _ x in
      go (eqb e d) refl y
    where
      go : (t : Bool) → eqb e d ≡ t → not (eqb e d) && leq L e d ≡ false → d ≡ e
      go true q y = sym (eq_of q)
      go false q y = let z : leq L e d ≡ false = rw q at y in no_path (sym k ∙ z)

  leq_transitive : (d e f : Dom) → leq L d e ≡ true → leq L e f ≡ true → leq L d f ≡ true
  leq_transitive d e f h k =
      let x = or_false_r (leb (length L.domains) e) _ (fine d e h) in
      let y : any_below domain_limit (λ f. leq L e f && not (leq L d f)) ≡ false = or_false_r (not (eqb e d) && leq L e d) _ x in
      let z = none_below domain_limit (λ f. leq L e f && not (leq L d f)) y f (leq_bounds L e f k).1 in
      not-false (leq L d f) (and_false (leq L e f) (not (leq L d f)) z k)

module _ (L : Layout) (P : PartialOrder L) where
  present : (d e : Dom) → leq L d e ≡ true → (t : Bool) → leb (length L.domains) e ≡ t → leb (length L.domains) e ≡ false
  present d e h true q = let z : length L.domains ≤ e = le_of q in let y = (P.there d e h).1 in absurd (omega arith)
  present d e h false q = q

  one_way : (d e : Dom) → leq L d e ≡ true → (t : Bool) → eqb e d ≡ t → (u : Bool) → leq L e d ≡ u → not (eqb e d) && leq L e d ≡ false
  one_way d e h true q u r = rw q refl
  one_way d e h false q true r = no_path (sym (of_eq (sym (P.antisymmetric d e h r))) ∙ q)
  one_way d e h false q false r = rw (q, r) refl

  onward : (d e f : Dom) → leq L d e ≡ true → (t : Bool) → leq L e f ≡ t → leq L e f && not (leq L d f) ≡ false
  onward d e f h true q = rw (q, P.transitive d e f h q) refl
  onward d e f h false q = rw q refl

  fault_free : (d e : Dom) (t : Bool) → leq L d e ≡ t → fault_at L d e ≡ false
  fault_free d e false q = rw q refl
  fault_free d e true q =
      rw (q, present d e q (leb (length L.domains) e) refl, one_way d e q (eqb e d) refl (leq L e d) refl)
      (below_none domain_limit (λ f. leq L e f && not (leq L d f)) (λ f. onward d e f q (leq L e f) refl))

  none_at_fault : (d : Dom) → d < length L.domains → at_fault L d ≡ false
  unfolding at_fault
  none_at_fault d l = rw (P.reflexive d l) (below_none domain_limit (λ e. fault_at L d e) (λ e. fault_free d e (leq L d e) refl))

-- No domain is at fault exactly if the domains are partially ordered.
pub order_iff : (L : Layout) → ((d : Dom) → d < length L.domains → at_fault L d ≡ false) ↔ PartialOrder L
order_iff L = (
  λ ok. record { there = leq_there L ok; reflexive = leq_reflexive L ok; antisymmetric = leq_antisymmetric L ok; transitive = leq_transitive L ok },
  λ P. none_at_fault L P,
)

-- Images with the same masks have the same order.
pub leq_same : (L M : Layout) → masks L ≡ masks M → (d e : Dom) → leq L d e ≡ leq M d e
unfolding leq order
leq_same L M h d e = rw h refl
