-- The copy is laid out, with records at the same offsets: of the same kinds and fields, but for units in the place of the bodies that give way.
use Prim.Native.Nat.{ℕ, zero, suc, ◌+◌, ◌-◌, ◌*◌, ◌≤◌, ◌<◌}
use native.Mathlib.Omega.{arith}
use mathlib.Core.Path.{◌≡◌, refl, sym, ap, subst, ◌∙◌}
use mathlib.Core.Bool.{Bool, true, false, ◌&&◌}
use mathlib.Core.List.{List, ◌++◌}
use lib.ListN.{length, get_or, length-append, get_or-append}
use lib.Seq.{get_or-append-add}
use lib.Dec.{eqb, ltb}
use Rattle.calculus.specs.Syntax.{Dom}
use Rattle.laws.specs.Tests.{any_below}
use Rattle.laws.proofs.Booleans.{no_path, and_l, and_r, and_i, lt_of, ge_of, eq_of, of_eq, by_test}
use Rattle.laws.proofs.Tests.{none_below}
use Rattle.image.specs.Bytes.{le16, words, length_at, number_at, field_at}
use Rattle.image.specs.Kinds.{free, TermKind, domain, Row, domain_row, type_row_of, term_row, find, kind_of}
use Rattle.image.specs.Records.{Layout, or_else, fields_at, numbers_at}
use Rattle.image.specs.Layout.{laid, layout}
use Rattle.image.specs.Types.{type_kind_of, term_kind_of, domain_place, type_place, term_place, type_kind, type_fields, term_kind, type_no}
use Rattle.image.specs.LaidOut.{Stands, Within, IsRecord, LaidOut}
use Rattle.image.proofs.EveryKind.{every_of, at_term}
use Rattle.image.proofs.Offsets.{number_at_lem}
use Rattle.image.proofs.Laid.{LayoutOk, layout_good, type_there}
use Rattle.image.proofs.LaidOut.{laid_iff}
use Rattle.write_unit_bodies.specs.UnitBodies.{low_advice_or_lower, body_at, kind_byte, UnitBodies}
use Rattle.write_unit_bodies.proofs.Apart.{Inside, one_record, le16_same, words_same, ends_same, stands_same, fields_same, record_same}
use Rattle.write_unit_bodies.proofs.Watches.{body_below}

-- A truth that holds somewhere below n.
some_below : (n : ℕ) (ok : ℕ → Bool) → any_below n ok ≡ true → (i : ℕ) × ((i < n) × (ok i ≡ true))
unfolding any_below
some_below zero ok h = no_path (sym h)
some_below (suc n) ok h = go (ok n) refl (any_below n ok) refl (λ z. some_below n ok z)
  where
    go : (x : Bool) → ok n ≡ x → (y : Bool) → any_below n ok ≡ y → (any_below n ok ≡ true → (i : ℕ) × ((i < n) × (ok i ≡ true))) → (i : ℕ) × ((i < suc n) × (ok i ≡ true))
    go true q y r f = (n, (omega arith, q))
    go false q true r f = let w = f r in let l = w.1.0 in (w.0, (omega arith, w.1.1))
    go false q false r f = let g : false ≡ true = rw (r, q) at h in no_path (sym g)

small_number : (k : TermKind) → (term_row k).number < 256
unfolding every_of
small_number k = lt_of (at_term (λ k. ltb (term_row k).number 256) refl k)

-- Field 0 is the word behind the head.
one_word : (b c : List ℕ) (p : ℕ) → words c (p + 4) 1 ≡ words b (p + 4) 1 → field_at c p 0 ≡ field_at b p 0
unfolding words
one_word b c p e = let z : p + 4 + 2 * 0 ≡ p + 4 = omega arith in subst (λ q. le16 c q ≡ le16 b q) (sym z) (ap (λ vs. get_or vs 0 0) e)

module _ (L : Layout) (walked : layout L.image ≡ laid L) (high : Dom → Bool) (c : List ℕ) (I : UnitBodies L high (length L.terms) L.image c) where
  abbrev b : List ℕ
  b = L.image

  out : LaidOut L
  out = (laid_iff L).0 walked

  pub good : LayoutOk L
  good = layout_good b L walked

  -- The copy's records, at the same offsets.
  abbrev pub copied : Layout
  copied = record { image = c; domains = L.domains; types = L.types; terms = L.terms }

  -- All offsets, and those of each section among them.
  abbrev xs : List ℕ
  xs = L.domains ++ (L.types ++ L.terms)

  abbrev o : ℕ → ℕ
  o i = get_or xs i 0

  abbrev index : ℕ → ℕ
  index n = length L.domains + (length L.types + n)

  all_count : length xs ≡ length L.domains + (length L.types + length L.terms)
  all_count = length-append L.domains (L.types ++ L.terms) ∙ ap (λ n. length L.domains + n) (length-append L.types L.terms)

  at_domain : (d : ℕ) → d < length L.domains → o d ≡ domain_place L d
  at_domain d h = get_or-append L.domains (L.types ++ L.terms) 0 d h

  at_type : (t : ℕ) → t < length L.types → o (length L.domains + t) ≡ type_place L t
  at_type t h = get_or-append-add L.domains (L.types ++ L.terms) t 0 ∙ get_or-append L.types L.terms 0 t h

  at_place : (n : ℕ) → o (index n) ≡ term_place L n
  at_place n = get_or-append-add L.domains (L.types ++ L.terms) (length L.types + n) 0 ∙ get_or-append-add L.types L.terms n 0

  term_long : (n : ℕ) → n < length L.terms → 6 ≤ length_at b (term_place L n)
  term_long n h =
      let s = (good.terms n h).is.stands.size in
      let f = (type_there (term_kind L n) b (term_place L n)).1 in
      omega arith

  -- Every record has a head.
  headed : (i : ℕ) → i < length xs → 4 ≤ length_at b (o i)
  headed i l = go (ltb i (length L.domains)) refl (ltb i (length L.domains + length L.types)) refl
    where
      go : (x : Bool) → ltb i (length L.domains) ≡ x → (y : Bool) → ltb i (length L.domains + length L.types) ≡ y → 4 ≤ length_at b (o i)
      go true q y r =
          let h : i < length L.domains = lt_of q in
          let s = (out.domains i h).size in
          subst (λ p. 4 ≤ length_at b p) (sym (at_domain i h)) (omega arith)
      go false q true r =
          let u : length L.domains ≤ i = ge_of q in
          let v : i < length L.domains + length L.types = lt_of r in
          let t : ℕ = i - length L.domains in
          let e : length L.domains + t ≡ i = omega arith in
          let h : t < length L.types = omega arith in
          let s = (out.types t h).stands.size in
          subst (λ j. 4 ≤ length_at b (o j)) e (subst (λ p. 4 ≤ length_at b p) (sym (at_type t h)) (omega arith))
      go false q false r =
          let u : length L.domains + length L.types ≤ i = ge_of r in
          let n : ℕ = i - (length L.domains + length L.types) in
          let e : index n ≡ i = omega arith in
          let k = all_count in
          let h : n < length L.terms = omega arith in
          let s = term_long n h in
          subst (λ j. 4 ≤ length_at b (o j)) e (subst (λ p. 4 ≤ length_at b p) (sym (at_place n)) (omega arith))

  -- A byte of record i that was changed is the number of its kind, and the record is a body that gives way.
  module _ (i : ℕ) (l : i < length xs) where
    changed : (j : ℕ) → Inside b (o i) j → (n : ℕ) → n < length L.terms → low_advice_or_lower L high n ≡ true → j ≡ kind_byte L n → i ≡ index (body_at L n)
    changed j x n h w e =
        let s = body_below L good high n h w in
        let k = all_count in
        let t = term_long (body_at L n) (omega arith) in
        one_record b xs out.in_order i (index (body_at L n)) j l (omega arith) x (subst (λ p. Inside b p j) (sym (at_place (body_at L n))) (omega arith, omega arith))

    bytes_same : (j : ℕ) → Inside b (o i) j → (j ≡ o i + 2 → ⊥) → get_or c j 0 ≡ get_or b j 0
    bytes_same j x spared = I.kept j (λ n h w e. let z = changed j x n h w e in spared (e ∙ ap (λ p. p + 2) (sym (at_place (body_at L n)) ∙ ap o (sym z))))

    length_same : length_at c (o i) ≡ length_at b (o i)
    length_same =
        let k = headed i l in
        let x = bytes_same (o i) (omega arith, omega arith) (λ e. omega arith) in
        let y = bytes_same (o i + 1) (omega arith, omega arith) (λ e. omega arith) in
        omega arith

    fields_bytes : (n : ℕ) → 4 + 2 * n ≤ length_at b (o i) → words c (o i + 4) n ≡ words b (o i + 4) n
    fields_bytes n h = words_same b c (o i + 4) (o i + length_at b (o i)) (o i + 4) n (λ j x y. bytes_same j (omega arith, y) (λ e. omega arith)) (omega arith) (omega arith)

    module _ (spared : (n : ℕ) → n < length L.terms → low_advice_or_lower L high n ≡ true → i ≡ index (body_at L n) → ⊥) where
      number_same : number_at c (o i) ≡ number_at b (o i)
      number_same =
          let k = headed i l in
          le16_same b c (o i) (o i + length_at b (o i)) (o i + 2) (λ j x y. I.kept j (λ n h w e. spared n h w (changed j (x, y) n h w e))) (omega arith) (omega arith)

      stands_kept : (r : Row) → Stands b r (o i) → Stands c r (o i)
      stands_kept r s = stands_same b c I.same r (o i) length_same number_same s

      numbers_kept : (r : Row) → Stands b r (o i) → numbers_at c (o i) r ≡ numbers_at b (o i) r
      numbers_kept r s =
          let k = s.size in
          ap (λ fs. words c (o i + 4) (length fs)) (fields_same b c I.same r (o i) length_same number_same) ∙ fields_bytes (length (fields_at b (o i) r)) (omega arith)

      record_kept : (r : Row) (ds ts es : ℕ) → IsRecord b r (o i) ds ts es → IsRecord c r (o i) ds ts es
      record_kept r ds ts es R = record_same b c I.same r (o i) length_same number_same ds ts es (numbers_kept r R.stands) R

  -- Domains and types are as they were.
  module _ (d : ℕ) (h : d < length L.domains) where
    no_term : (n : ℕ) → n < length L.terms → low_advice_or_lower L high n ≡ true → d ≡ index (body_at L n) → ⊥
    no_term n k w e = omega arith

    there : d < length xs
    there = let k = all_count in omega arith

    pub domain_stands : Stands c domain_row (domain_place L d)
    domain_stands = subst (λ p. Stands c domain_row p) (at_domain d h) (stands_kept d there no_term domain_row (subst (λ p. Stands b domain_row p) (sym (at_domain d h)) (out.domains d h)))

    pub mask_same : field_at c (domain_place L d) 0 ≡ field_at b (domain_place L d) 0
    mask_same =
        let s : Stands b domain_row (o d) = subst (λ p. Stands b domain_row p) (sym (at_domain d h)) (out.domains d h) in
        let e = ap (λ vs. get_or vs 0 0) (numbers_kept d there no_term domain_row s) in
        subst (λ p. field_at c p 0 ≡ field_at b p 0) (at_domain d h) (sym (number_at_lem c (o d) domain_row 0 (omega arith)) ∙ e ∙ number_at_lem b (o d) domain_row 0 (omega arith))

  module _ (t : ℕ) (h : t < length L.types) where
    abbrev i : ℕ
    i = length L.domains + t

    no_body : (n : ℕ) → n < length L.terms → low_advice_or_lower L high n ≡ true → i ≡ index (body_at L n) → ⊥
    no_body n k w e = omega arith

    within : i < length xs
    within = let k = all_count in omega arith

    type_record_lem : IsRecord b (type_row_of (type_kind L t)) (o i) (length L.domains) t 0
    type_record_lem = subst (λ p. IsRecord b (type_row_of (type_kind L t)) p (length L.domains) t 0) (sym (at_type t h)) (out.types t h)

    pub type_number_same : number_at c (type_place L t) ≡ number_at b (type_place L t)
    type_number_same = subst (λ p. number_at c p ≡ number_at b p) (at_type t h) (number_same i within no_body)

    pub type_kind_same : type_kind copied t ≡ type_kind L t
    type_kind_same = ap (λ n. type_kind_of (or_else (kind_of n) domain)) type_number_same

    pub type_fields_same : type_fields copied t ≡ type_fields L t
    type_fields_same =
        ap (λ k. numbers_at c (type_place L t) (type_row_of k)) type_kind_same
        ∙ subst (λ p. numbers_at c p (type_row_of (type_kind L t)) ≡ numbers_at b p (type_row_of (type_kind L t))) (at_type t h) (numbers_kept i within no_body (type_row_of (type_kind L t)) type_record_lem.stands)

    type_stands : IsRecord c (type_row_of (type_kind copied t)) (type_place L t) (length L.domains) t 0
    type_stands =
        subst (λ k. IsRecord c (type_row_of k) (type_place L t) (length L.domains) t 0) (sym type_kind_same)
        (subst (λ p. IsRecord c (type_row_of (type_kind L t)) p (length L.domains) t 0) (at_type t h) (record_kept i within no_body (type_row_of (type_kind L t)) (length L.domains) t 0 type_record_lem))

  -- Whether term n is a body that gives way.
  unfoldable pub cut : ℕ → Bool
  cut n = any_below (length L.terms) (λ p. low_advice_or_lower L high p && eqb n (body_at L p))

  pub cut_some : (n : ℕ) → cut n ≡ true → (p : ℕ) × ((p < length L.terms) × (low_advice_or_lower L high p ≡ true) × (n ≡ body_at L p))
  unfolding cut
  cut_some n h =
      let w = some_below (length L.terms) (λ p. low_advice_or_lower L high p && eqb n (body_at L p)) h in
      (w.0, (w.1.0, and_l (low_advice_or_lower L high w.0) (eqb n (body_at L w.0)) w.1.1, eq_of (and_r (low_advice_or_lower L high w.0) (eqb n (body_at L w.0)) w.1.1)))

  pub cut_none : (n : ℕ) → cut n ≡ false → (p : ℕ) → p < length L.terms → low_advice_or_lower L high p ≡ true → n ≡ body_at L p → ⊥
  unfolding cut
  cut_none n h p l w e = no_path (sym (and_i w (of_eq e)) ∙ none_below (length L.terms) (λ p. low_advice_or_lower L high p && eqb n (body_at L p)) h p l)

  module _ (n : ℕ) (h : n < length L.terms) where
    inside : index n < length xs
    inside = let k = all_count in omega arith

    first_field : field_at c (term_place L n) 0 ≡ field_at b (term_place L n) 0
    first_field =
        let k : 6 ≤ length_at b (o (index n)) = subst (λ p. 6 ≤ length_at b p) (sym (at_place n)) (term_long n h) in
        subst (λ p. field_at c p 0 ≡ field_at b p 0) (at_place n) (one_word b c (o (index n)) (fields_bytes (index n) inside 1 (omega arith)))

    pub type_no_same : type_no copied n ≡ type_no L n
    type_no_same = first_field

    -- A term that stays.
    module _ (stays : cut n ≡ false) where
      spared : (p : ℕ) → p < length L.terms → low_advice_or_lower L high p ≡ true → index n ≡ index (body_at L p) → ⊥
      spared p l w e = cut_none n stays p l w (omega arith)

      term_record : IsRecord b (term_row (term_kind L n)) (o (index n)) (length L.domains) (length L.types) n
      term_record = subst (λ p. IsRecord b (term_row (term_kind L n)) p (length L.domains) (length L.types) n) (sym (at_place n)) (out.terms n h)

      pub kind_stays : term_kind copied n ≡ term_kind L n
      kind_stays = ap (λ m. term_kind_of (or_else (kind_of m) domain)) (subst (λ p. number_at c p ≡ number_at b p) (at_place n) (number_same (index n) inside spared))

      pub length_stays : length_at c (term_place L n) ≡ length_at b (term_place L n)
      length_stays = subst (λ p. length_at c p ≡ length_at b p) (at_place n) (length_same (index n) inside)

      pub numbers_stay : numbers_at c (term_place L n) (term_row (term_kind L n)) ≡ numbers_at b (term_place L n) (term_row (term_kind L n))
      numbers_stay =
          subst (λ p. numbers_at c p (term_row (term_kind L n)) ≡ numbers_at b p (term_row (term_kind L n))) (at_place n) (numbers_kept (index n) inside spared (term_row (term_kind L n)) term_record.stands)

      record_stays : IsRecord c (term_row (term_kind copied n)) (term_place L n) (length L.domains) (length L.types) n
      record_stays =
          subst (λ k. IsRecord c (term_row k) (term_place L n) (length L.domains) (length L.types) n) (sym kind_stays)
          (subst (λ p. IsRecord c (term_row (term_kind L n)) p (length L.domains) (length L.types) n) (at_place n) (record_kept (index n) inside spared (term_row (term_kind L n)) (length L.domains) (length L.types) n term_record))

    -- A body that gives way: its kind's number is unit's, and its first field its type.
    module _ (gone : cut n ≡ true) where
      unit_number : number_at c (term_place L n) ≡ (term_row TermKind.unit).number
      unit_number =
          let w = cut_some n gone in
          let low : get_or c (term_place L n + 2) 0 ≡ (term_row TermKind.unit).number = ap (λ e. get_or c (term_place L e + 2) 0) w.1.2 ∙ I.units w.0 w.1.0 w.1.1 in
          let k = term_long n h in
          let a = at_place n in
          let high_byte : get_or c (term_place L n + 3) 0 ≡ get_or b (term_place L n + 3) 0 = bytes_same (index n) inside (term_place L n + 3) (subst (λ p. Inside b p (term_place L n + 3)) (sym a) (omega arith, omega arith)) (λ e. omega arith) in
          let s = (good.terms n h).is.stands.number in
          let small = small_number (term_kind L n) in
          let z : term_place L n + 2 + 1 ≡ term_place L n + 3 = omega arith in
          let y : get_or c (term_place L n + 2 + 1) 0 ≡ get_or c (term_place L n + 3) 0 = ap (λ q. get_or c q 0) z in
          let x : get_or b (term_place L n + 2 + 1) 0 ≡ get_or b (term_place L n + 3) 0 = ap (λ q. get_or b q 0) z in
          omega arith

      pub kind_unit : term_kind copied n ≡ TermKind.unit
      unfolding find
      kind_unit = ap (λ m. term_kind_of (or_else (kind_of m) domain)) unit_number

      record_unit : IsRecord c (term_row (term_kind copied n)) (term_place L n) (length L.domains) (length L.types) n
      record_unit = subst (λ k. IsRecord c (term_row k) (term_place L n) (length L.domains) (length L.types) n) (sym kind_unit) unit
        where
          len : length_at c (term_place L n) ≡ length_at b (term_place L n)
          len = subst (λ p. length_at c p ≡ length_at b p) (at_place n) (length_same (index n) inside)

          its_type : (i : ℕ) → i < 1 → Within (length L.domains) (length L.types) n (get_or (fields_at c (term_place L n) (term_row TermKind.unit)) i free) (get_or (numbers_at c (term_place L n) (term_row TermKind.unit)) i 0)
          its_type zero l = subst (λ v. v < length L.types) (sym (number_at_lem c (term_place L n) (term_row TermKind.unit) 0 (omega arith) ∙ first_field)) (good.terms n h).typed
          its_type (suc i) l = absurd (omega arith)

          unit : IsRecord c (term_row TermKind.unit) (term_place L n) (length L.domains) (length L.types) n
          unit =
              let k = term_long n h in
              let e = (out.terms n h).stands.inside in
              let s = I.same in
              let f = len in
              record {
                stands = record { number = unit_number; inside = omega arith; size = omega arith; exact = λ z. absurd (omega arith); least = omega arith; most = omega arith };
                fields = its_type;
              }

    term_stands : IsRecord c (term_row (term_kind copied n)) (term_place L n) (length L.domains) (length L.types) n
    term_stands = by_test (cut n) (λ q. record_unit q) λ q. record_stays q

  copied_out : LaidOut copied
  copied_out = record {
    in_order = ends_same b c I.same 0 xs (λ i l. length_same i l) out.in_order;
    few_domains = out.few_domains;
    few_types = out.few_types;
    few_terms = out.few_terms;
    domains = λ d h. domain_stands d h;
    types = λ t h. type_stands t h;
    terms = λ n h. term_stands n h;
    apart = λ t u h k s. out.apart t u h k (sym (type_number_same t h) ∙ s.0 ∙ type_number_same u (omega arith), sym (type_fields_same t h) ∙ s.1 ∙ type_fields_same u (omega arith));
  }

  pub copied_laid : layout c ≡ laid copied
  copied_laid = (laid_iff copied).1 copied_out
