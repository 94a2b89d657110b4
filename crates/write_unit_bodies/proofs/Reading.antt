-- What the functions read of a term, and one body more that gives way.
use Prim.Native.Nat.{ℕ, ◌+◌, ◌<◌}
use native.Mathlib.Omega.{arith}
use mathlib.Core.Path.{◌≡◌, refl, sym, ap, subst, ◌∙◌}
use mathlib.Core.Bool.{Bool, true, false, not}
use mathlib.Core.List.{List}
use mathlib.Core.Logic.{◌≢◌}
use lib.ListN.{length, get_or, set, length-set}
use lib.Seq.{get_or-set_same, get_or-set_other}
use lib.Dec.{eqb}
use Rattle.calculus.specs.Syntax.{Dom}
use Rattle.calculus.specs.Combinators.{choose}
use Rattle.calculus.specs.Plain.{dom_of}
use Rattle.image.specs.Bytes.{words, length_at, number_at, field_at}
use Rattle.image.specs.Kinds.{TermKind, term_row}
use Rattle.image.specs.Records.{Layout}
use Rattle.image.specs.Layout.{records_of}
use Rattle.image.specs.Types.{type_place, term_place, term_kind, type_no, stated_type, others}
use Rattle.laws.proofs.Booleans.{no_path, eq_of, of_eq, by_test}
use Rattle.image.proofs.Laid.{LayoutOk}
use Rattle.read_records.specs.Descriptors.{Describes}
use Rattle.read_records.specs.Heads.{field_in}
use Rattle.read_records.proofs.Parts.{bytes_length, field_is}
use Rattle.read_terms.specs.Descriptors.{descriptor_domain}
use Rattle.read_terms.specs.Lent.{Lent, IsTerm}
use Rattle.read_terms.specs.Fields.{fields_of, others_in, AtField}
use Rattle.read_terms.proofs.Located.{good_of, image_is, kind_is, inside, long_enough_lem, whole, typed_in, type_in_lem, others_in_lem, second_in, at_field_in}
use Rattle.read_terms.proofs.Described.{descriptor_domain_lem}
use Rattle.image_written.proofs.Stripping.{Watch, of_advice_lem, of_lower}
use Rattle.write_unit_bodies.specs.UnitBodies.{low_advice_or_lower, body_at, kind_byte, UnitBodies}
use Rattle.write_unit_bodies.specs.WatchFields.{low_watch_in}
use Rattle.write_unit_bodies.proofs.Watches.{by_number}

-- Numbers that are not equal.
differ : (n m : ℕ) → eqb n m ≡ false → n ≢ m
differ n m q e = no_path (sym (of_eq e) ∙ q)

-- The domain of a lower stands behind its type.
lower_domain : (fs : List ℕ) → field_in fs 1 ≡ get_or (others_in fs TermKind.lower) 0 0
unfolding words
lower_domain fs = refl

module _ {b ts ks : List ℕ} (T : Lent b ts ks) {n : ℕ} (l : IsTerm b n) where
  abbrev L : Layout
  L = records_of b

  abbrev fs : List ℕ
  fs = fields_of b n

  abbrev q : ℕ
  q = number_at b (term_place L n)

  same : L.image ≡ b
  same = image_is b T.terms.laid_out

  good : LayoutOk L
  good = good_of b T.terms.laid_out

  -- What is asked of the fields.
  pub watch_asks : (1 < length fs) × (field_in fs 0 < length ks) × (q ≡ (term_row TermKind.lower).number → 3 < length fs)
  watch_asks =
      let t = typed_in T.terms l in
      let y = t.type in
      let e = T.types.enough in
      (t.long, omega arith, λ e. second_in T.terms l (kind_is T.terms l TermKind.lower e) refl)

  -- The fields tell what the term is.
  domain_in_lem : descriptor_domain (get_or ks (field_in fs 0) 0) ≡ dom_of (stated_type L n)
  domain_in_lem =
      let y : type_no L n < length L.types = (good.terms n l).typed in
      ap (λ t. descriptor_domain (get_or ks t 0)) (type_in_lem T.terms l)
      ∙ descriptor_domain_lem L good (type_no L n) y (get_or ks (type_no L n) 0) (subst (λ i. Describes i (type_place L (type_no L n)) (get_or ks (type_no L n) 0)) (sym same) (T.types.descriptors (type_no L n) y))

  watch_in : (high : Dom → Bool) → low_watch_in high q fs ks ≡ low_advice_or_lower L high n
  watch_in high =
      ap (λ d. choose (eqb q (term_row TermKind.adv).number) (not (high d)) (choose (eqb q (term_row TermKind.lower).number) (not (high (field_in fs 1))) false)) domain_in_lem
      ∙ (lower (eqb q (term_row TermKind.lower).number) refl
      ∙ ap (λ i. choose (eqb (number_at i (term_place L n)) (term_row TermKind.adv).number) (not (high (dom_of (stated_type L n)))) (choose (eqb (number_at i (term_place L n)) (term_row TermKind.lower).number) (not (high (get_or (others L n) 0 0))) false)) (sym same))
    where
      lower : (c : Bool) → eqb q (term_row TermKind.lower).number ≡ c
          → choose (eqb q (term_row TermKind.adv).number) (not (high (dom_of (stated_type L n)))) (choose (eqb q (term_row TermKind.lower).number) (not (high (field_in fs 1))) false)
          ≡ choose (eqb q (term_row TermKind.adv).number) (not (high (dom_of (stated_type L n)))) (choose (eqb q (term_row TermKind.lower).number) (not (high (get_or (others L n) 0 0))) false)
      lower true e =
          let d : field_in fs 1 ≡ get_or (others L n) 0 0 = lower_domain fs ∙ ap (λ vs. get_or vs 0 0) (others_in_lem T.terms l (kind_is T.terms l TermKind.lower (eq_of e))) in
          rw d refl
      lower false e = rw e refl

  -- The body of a low watch, in its fields and in the image.
  -- The test of what has been read of the term.
  pub watch_told : (high : Dom → Bool) {s : Bool} {k : ℕ} {gs : List ℕ} → s ≡ low_watch_in high k gs ks → k ≡ q → gs ≡ fs → s ≡ low_advice_or_lower L high n
  watch_told high {gs = gs} e f g = e ∙ ap (λ j. low_watch_in high j gs ks) f ∙ ap (λ xs. low_watch_in high q xs ks) g ∙ watch_in high

  module _ (high : Dom → Bool) (low : low_advice_or_lower L high n ≡ true) where
    pub body_there : AtField b fs 2
    body_there =
        let w = by_number high (term_kind L n) _ (good.terms n l).is.stands.number (stated_type L n) (others L n) low in
        go (term_kind L n) w.0 w.1.0 refl
      where
        go : (k : TermKind) (j : ℕ) → Watch k j → term_kind L n ≡ k → AtField b fs 2
        go k j of_advice_lem e = at_field_in T.terms l e 1 (omega arith)
        go k j of_lower e = at_field_in T.terms l e 0 (omega arith)

    pub body_is : field_in fs 2 ≡ body_at L n
    body_is =
        let h = body_there.long in
        let m = bytes_length b (term_place L n) (whole T.terms l) in
        field_is b (term_place L n) (length_at b (term_place L n)) 2 (omega arith) ∙ ap (λ i. field_at i (term_place L n) 2) (sym same)

    pub byte_there : kind_byte L n < length b
    byte_there =
        let h : IsTerm b (body_at L n) = subst (λ e. IsTerm b e) body_is body_there.term in
        let i = inside T.terms h in
        let m = long_enough_lem T.terms h in
        omega arith

-- No body yet; and one term more.
module _ (L : Layout) (high : Dom → Bool) (b : List ℕ) where
  module _ (m : ℕ) (c : List ℕ) (I : UnitBodies L high m b c) where
    pub unit_bodies_stays : low_advice_or_lower L high m ≡ false → UnitBodies L high (m + 1) b c
    unit_bodies_stays q = record { same = I.same; kept = λ j h. I.kept j (λ n l w e. h n (omega arith) w e); units = told }
      where
        told : (n : ℕ) → n < m + 1 → low_advice_or_lower L high n ≡ true → get_or c (kind_byte L n) 0 ≡ (term_row TermKind.unit).number
        told n l w = by_test (eqb n m)
            (λ r. let z : n ≡ m = eq_of r in no_path (sym w ∙ ap (λ k. low_advice_or_lower L high k) z ∙ q))
            λ r. I.units n (omega (arith, differ n m r)) w

    pub unit_bodies_more : low_advice_or_lower L high m ≡ true → kind_byte L m < length c → UnitBodies L high (m + 1) b (set c (kind_byte L m) (term_row TermKind.unit).number)
    unit_bodies_more q k = record { same = length-set c (kind_byte L m) _ ∙ I.same; kept = kept; units = told }
      where
        kept : (j : ℕ) → ((n : ℕ) → n < m + 1 → low_advice_or_lower L high n ≡ true → j ≡ kind_byte L n → ⊥) → get_or (set c (kind_byte L m) (term_row TermKind.unit).number) j 0 ≡ get_or b j 0
        kept j h = get_or-set_other c (kind_byte L m) j _ 0 (λ e. h m (omega arith) q e) ∙ I.kept j (λ n l w e. h n (omega arith) w e)

        told : (n : ℕ) → n < m + 1 → low_advice_or_lower L high n ≡ true → get_or (set c (kind_byte L m) (term_row TermKind.unit).number) (kind_byte L n) 0 ≡ (term_row TermKind.unit).number
        told n l w = go (eqb (kind_byte L n) (kind_byte L m)) refl (eqb n m) refl
          where
            go : (x : Bool) → eqb (kind_byte L n) (kind_byte L m) ≡ x → (y : Bool) → eqb n m ≡ y → get_or (set c (kind_byte L m) (term_row TermKind.unit).number) (kind_byte L n) 0 ≡ (term_row TermKind.unit).number
            go true r y s = let z : kind_byte L n ≡ kind_byte L m = eq_of r in subst (λ j. get_or (set c (kind_byte L m) (term_row TermKind.unit).number) j 0 ≡ (term_row TermKind.unit).number) (sym z) (get_or-set_same c (kind_byte L m) _ 0 k)
            go false r true s = let z : n ≡ m = eq_of s in no_path (sym (of_eq (ap (λ i. kind_byte L i) z)) ∙ r)
            go false r false s =
                get_or-set_other c (kind_byte L m) (kind_byte L n) _ 0 (λ z. no_path (sym (of_eq z) ∙ r)) ∙ I.units n (omega (arith, differ n m s)) w
