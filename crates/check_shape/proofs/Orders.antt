-- Laws of the rows of the order and of its faults.
use Prim.Native.Nat.{ℕ, zero, suc, ◌+◌, ◌/◌, ◌%◌, ◌≤◌, ◌<◌}
use native.Mathlib.Omega.{arith}
use native.Mathlib.Numerals.{add-one}
use mathlib.Core.Path.{◌≡◌, refl, ap, sym, ◌∙◌}
use mathlib.Core.Bool.{Bool, true, false, not, ◌&&◌, ◌||◌}
use mathlib.Core.List.{List, [], ◌++◌, append_assoc}
use lib.ListN.{length, get_or, take, set, replicate, length-map, length-set, get_or-eq_default}
use lib.Seq.{take-suc-set, get_or-set_same, get_or-set_other}
use lib.Dec.{eqb, leb, ltb}
use Rattle.image.specs.Limits.{domain_limit}
use Rattle.laws.specs.Tests.{any_below}
use Rattle.image.specs.Bytes.{field_at}
use Rattle.image.specs.Records.{Layout}
use Rattle.verdict.specs.Domains.{bits, masks, order, leq}
use Rattle.verdict.specs.Order.{at_fault}
use Rattle.check_shape.specs.Records.{DomainsOf}
use Rattle.check_shape.specs.Faults.{names, gap_in, fault_in, faulty, order_from, Rows}
use Rattle.check_shape.specs.Checks.{domains_ordered}
use Rattle.laws.proofs.Booleans.{lt_of, ge_of}
use Rattle.laws.proofs.Lists.{map_at}
use Rattle.laws.proofs.Tests.{any_same}
use Rattle.check_shape.proofs.Answers.{from_same}

-- One bit more of a row.
pub row_more : (row : List Bool) (q m k : ℕ) → q < length row → take (q + 1) (set row q (eqb (m % 2) 1)) ++ bits k (m / 2) ≡ take q row ++ bits (suc k) m
unfolding bits
row_more row q m k h = rw (add-one, take-suc-set row q (eqb (m % 2) 1) h, append_assoc)

-- What the rows say of a layout is what its order says.
module _ (L : Layout) (o : List (List Bool)) (R : Rows L o) where
  gap_same : (d e : ℕ) → gap_in (get_or o d []) (get_or o e []) ≡ any_below domain_limit (λ f. leq L e f && not (leq L d f))
  gap_same d e = any_same domain_limit _ _ (λ f. rw (R.same e f, R.same d f))

  fault_same : (d e : ℕ) → fault_in (get_or o d []) (get_or o e []) (length L.domains) d e ≡ (leq L d e && (leb (length L.domains) e || ((not (eqb e d) && leq L e d) || any_below domain_limit (λ f. leq L e f && not (leq L d f)))))
  fault_same d e = rw (gap_same d e, R.same d e, R.same e d)

  pub faulty_same : (d : ℕ) → faulty o (length L.domains) d ≡ at_fault L d
  unfolding at_fault
  faulty_same d = rw (any_same domain_limit _ _ (λ e. fault_same d e), R.same d d)

-- The rows of the first domains, and none beyond.
pub record RowsTo (L : Layout) (n : ℕ) (o : List (List Bool)) : Type 0 where
  pub long : length o ≡ domain_limit
  pub before : (d : ℕ) → d < n → get_or o d [] ≡ get_or (order L) d []
  pub beyond : (d q : ℕ) → n ≤ d → names o d q ≡ false

pub row_blank : (n q : ℕ) → get_or (replicate n false) q false ≡ false
row_blank zero q = refl
row_blank (suc n) zero = refl
row_blank (suc n) (suc q) = row_blank n q

rows_blank : (m n d q : ℕ) → names (replicate m (replicate n false)) d q ≡ false
rows_blank zero n d q = refl
rows_blank (suc m) n zero q = row_blank n q
rows_blank (suc m) n (suc d) q = rows_blank m n d q

pub rows_none : (L : Layout) → RowsTo L 0 (replicate domain_limit (replicate domain_limit false))
rows_none L = record { long = refl; before = λ d h. absurd (omega arith); beyond = λ d q h. rows_blank domain_limit domain_limit d q }

-- Row d of the order is the bits of domain d's mask.
row_is : (L : Layout) (d : ℕ) → d < length L.domains → get_or (order L) d [] ≡ bits domain_limit (field_at L.image (get_or L.domains d 0) 0)
unfolding order
row_is L d h =
    map_at (λ m. bits domain_limit m) (masks L) d 0 [] (rw length-map h)
    ∙ ap (λ m. bits domain_limit m) (map_at (λ o. field_at L.image o 0) L.domains d 0 0 h)

module _ (L : Layout) (b ds : List ℕ) (D : DomainsOf L b ds) (o : List (List Bool)) where
  pub rows_more : (n : ℕ) → n < length ds → RowsTo L n o → (row : List Bool) → row ≡ bits domain_limit (field_at b (get_or ds n 0) 0) → RowsTo L (n + 1) (set o n row)
  rows_more n h R row e =
      record {
        long = length-set o n row ∙ R.long;
        before = λ d l. go d l (ltb d n) refl;
        beyond = λ d q l. ap (λ r. get_or r q false) (get_or-set_other o n d row [] (λ x. omega arith)) ∙ R.beyond d q (omega arith);
      }
    where
      here : get_or (set o n row) n [] ≡ get_or (order L) n []
      here =
          let z : n < length o = omega (arith, R.long, D.few) in
          let m : field_at b (get_or ds n 0) 0 ≡ field_at L.image (get_or L.domains n 0) 0 = rw (D.image, D.offsets) in
          get_or-set_same o n row [] z ∙ (e ∙ (ap (λ m. bits domain_limit m) m ∙ sym (row_is L n (rw D.offsets h))))

      go : (d : ℕ) → d < n + 1 → (t : Bool) → ltb d n ≡ t → get_or (set o n row) d [] ≡ get_or (order L) d []
      go d l true t = let z : d < n = lt_of t in get_or-set_other o n d row [] (λ x. omega arith) ∙ R.before d z
      go d l false t = let z : n ≤ d = ge_of t in let y : d ≡ n = omega arith in rw y here

  pub rows_all : RowsTo L (length ds) o → Rows L o
  unfolding leq order
  rows_all R = record { same = λ d q. go d q (ltb d (length ds)) refl }
    where
      go : (d q : ℕ) → (t : Bool) → ltb d (length ds) ≡ t → names o d q ≡ leq L d q
      go d q true t = ap (λ r. get_or r q false) (R.before d (lt_of t))
      go d q false t =
          let z : length ds ≤ d = ge_of t in
          let y : length (order L) ≤ d = rw (length-map, length-map, D.offsets) z in
          R.beyond d q z ∙ sym (ap (λ r. get_or r q false) (get_or-eq_default (order L) [] {n = d} y))

-- Refusal 10, by the rows.
pub order_same : (L : Layout) (b ds : List ℕ) → DomainsOf L b ds → (o : List (List Bool)) → Rows L o → order_from ds o (length ds) 0 ≡ domains_ordered L
order_same L b ds D o R = rw (← D.offsets) (from_same _ _ _ _ _ (length L.domains) 0 (λ k l. refl) (λ k l. ap not (faulty_same L o R k)))
