-- Bits of the masks are the order of the domains.
use Prim.Native.Nat.{ℕ, zero, suc, ◌+◌, ◌-◌, ◌/◌, ◌%◌, ◌^◌, ◌≤◌, ◌<◌}
use native.Mathlib.Omega.{arith}
use native.Mathlib.Nat.{div-div-eq-div-mul, pow-succ', div-one}
use mathlib.Core.Path.{◌≡◌, refl, sym, ap, subst, ◌∙◌}
use mathlib.Core.Bool.{Bool, true, false}
use mathlib.Core.List.{List, [], ◌∷◌, map}
use lib.ListN.{length, get_or, get_or-eq_default}
use lib.Dec.{eqb, ltb}
use Rattle.image.specs.Limits.{domain_limit}
use Rattle.image.specs.Bytes.{le16, length_at, field_at}
use Rattle.image.specs.Kinds.{domain_row}
use Rattle.image.specs.Layout.{records_of}
use Rattle.image.specs.Types.{domain_place}
use Rattle.image.specs.LaidOut.{Stands}
use Rattle.laws.proofs.Booleans.{lt_of, ge_of}
use Rattle.image.proofs.Words.{le16_part}
use Rattle.image.proofs.Laid.{layout_good, image_kept}
use Rattle.verdict.specs.Domains.{bits, masks, order, leq}
use Rattle.read_records.specs.Heads.{IsWhole, fields_at}
use Rattle.read_records.proofs.Parts.{bytes_length}
use Rattle.read_terms.specs.Lent.{Domains, Masks}
use Rattle.read_terms.specs.Masks.{bit_of}
use Rattle.laws.proofs.Lists.{map_at}
use Rattle.read_terms.proofs.Lists.{table_long, table_at}

bits_at : (n m q : ℕ) → q < n → get_or (bits n m) q false ≡ eqb (m / 2 ^ q % 2) 1
unfolding bits
bits_at zero m q h = absurd (omega arith)
bits_at (suc n) m zero h = rw (div-one m)
bits_at (suc n) m (suc q) h =
    let z : m / 2 / 2 ^ q ≡ m / 2 ^ suc q = div-div-eq-div-mul m 2 (2 ^ q) ∙ ap (λ p. m / p) (sym (pow-succ' 2 q)) in
    bits_at n (m / 2) q (omega arith) ∙ ap (λ p. eqb (p % 2) 1) z

bits_past : (n m q : ℕ) → n ≤ q → get_or (bits n m) q false ≡ false
unfolding bits
bits_past zero m q h = refl
bits_past (suc n) m zero h = absurd (omega arith)
bits_past (suc n) m (suc q) h = bits_past n (m / 2) q (omega arith)

bits_zero : (n q : ℕ) → get_or (bits n 0) q false ≡ false
unfolding bits
bits_zero zero q = refl
bits_zero (suc n) zero = refl
bits_zero (suc n) (suc q) = bits_zero n q

row_at : (ms : List ℕ) (d q : ℕ) → get_or (get_or (map (λ m. bits domain_limit m) ms) d []) q false ≡ get_or (bits domain_limit (get_or ms d 0)) q false
row_at [] d q = sym (bits_zero domain_limit q)
row_at (m ∷ ms) zero q = refl
row_at (m ∷ ms) (suc d) q = row_at ms d q

-- Whatever d and q are.
pub order_is : (b table : List ℕ) → Masks b table → (d q : ℕ) → leq (records_of b) d q ≡ bit_of table d q
unfolding leq order bit_of
order_is b table M d q = row_at (masks (records_of b)) d q ∙ sym (ap (λ m. get_or (bits domain_limit m) q false) (M.each d)) ∙ go (ltb d domain_limit) refl (ltb q domain_limit) refl
  where
    go : (x : Bool) → ltb d domain_limit ≡ x → (y : Bool) → ltb q domain_limit ≡ y → get_or (bits domain_limit (get_or table d 0)) q false ≡ bit_of table d q
    go true e true f = simp (e, f) (bits_at domain_limit (get_or table d 0) q (lt_of f))
    go true e false f = simp (e, f) (bits_past domain_limit (get_or table d 0) q (ge_of f))
    go false e y f =
        let l : domain_limit ≤ d = ge_of e in
        let z : get_or table d 0 ≡ 0 = get_or-eq_default table 0 {n = d} (omega (arith, M.sixteen)) in
        rw (e, z) (bits_zero domain_limit q)

-- What stands in the image at the offsets of a table of domains: the mask is the first field.
module _ {b table : List ℕ} (D : Domains b table) {d : ℕ} (h : d < length (records_of b).domains) where
  pub domain_in_table : d < length table
  domain_in_table = let z = table_long table (records_of b).domains D.offsets in omega arith

  pub domain_place_is : get_or table d 0 ≡ domain_place (records_of b) d
  domain_place_is = table_at table (records_of b).domains D.offsets d h

  domain_stands : Stands b domain_row (domain_place (records_of b) d)
  domain_stands = subst (λ i. Stands i domain_row (domain_place (records_of b) d)) (image_kept b (records_of b) D.laid_out) ((layout_good b (records_of b) D.laid_out).domains d h)

  pub domain_whole : IsWhole b (domain_place (records_of b) d)
  domain_whole = (omega (arith, domain_stands.size), domain_stands.inside)

  pub mask_there : 1 < length (fields_at b (domain_place (records_of b) d))
  mask_there = rw (bytes_length b (domain_place (records_of b) d) domain_whole) (omega (arith, domain_stands.size))

  pub mask_is : le16 (fields_at b (domain_place (records_of b) d)) 0 ≡ get_or (masks (records_of b)) d 0
  mask_is =
      let o : ℕ = domain_place (records_of b) d in
      le16_part b (o + 4) (length_at b o - 4) 0 (omega (arith, domain_stands.size))
      ∙ sym (ap (λ i. field_at i o 0) (image_kept b (records_of b) D.laid_out))
      ∙ sym (map_at (λ o. field_at (records_of b).image o 0) (records_of b).domains d 0 0 h)
