-- The bodies that give way are those that a program without its watches lacks; each is the child of one term alone.
use Prim.Native.Nat.{ℕ, zero, suc, ◌≤◌, ◌<◌}
use native.Mathlib.Omega.{arith}
use mathlib.Core.Path.{◌≡◌, refl, sym, subst, ◌∙◌}
use mathlib.Core.Bool.{Bool, true, false, not}
use mathlib.Core.List.{List, [], ◌∷◌}
use lib.ListN.{length, get_or}
use lib.Dec.{eqb, ltb}
use Rattle.calculus.specs.Syntax.{Dom, Ty}
use Rattle.calculus.specs.Combinators.{choose}
use Rattle.calculus.specs.Plain.{dom_of}
use Rattle.image.specs.Bytes.{field_at}
use Rattle.image.specs.Kinds.{TermKind, term_row, body_of}
use Rattle.image.specs.Records.{Layout, fields_at, children_at}
use Rattle.image.specs.Types.{term_place, term_kind, stated_type, others, children, root_of}
use Rattle.image.specs.Program.{low_body}
use Rattle.laws.proofs.Booleans.{no_path, lt_of, ge_of, eq_of, of_eq}
use Rattle.image.proofs.KindNumbers.{same_term_kind}
use Rattle.image.proofs.Offsets.{fields_count, child_at_lem}
use Rattle.image.proofs.Laid.{LayoutOk, below_at}
use Rattle.verdict.specs.Shape.{count, uses, used_once}
use Rattle.verdict.proofs.Depth.{uses_one, uses_two}
use Rattle.image_written.specs.Stripped.{watches, gives_way}
use Rattle.image_written.proofs.Stripping.{Watch, of_advice_lem, of_lower, watch, chosen}
use Rattle.write_unit_bodies.specs.UnitBodies.{low_advice_or_lower, body_at}

-- The body of an advice or of a lower is the child in its third field.
third_field : (k : TermKind) (j : ℕ) → Watch k j → (b : List ℕ) (o : ℕ) → (j < length (children_at b o (term_row k))) × (field_at b o 2 ≡ get_or (children_at b o (term_row k)) j 0)
third_field k j of_advice_lem b o =
    let n : length (fields_at b o (term_row TermKind.adv)) ≡ 3 = refl in
    let c = fields_count TermKind.adv refl b o in
    let l : 1 < length (children_at b o (term_row TermKind.adv)) = omega arith in
    (l, sym (child_at_lem TermKind.adv refl b o 1 l))
third_field k j of_lower b o =
    let n : length (fields_at b o (term_row TermKind.lower)) ≡ 3 = refl in
    let c = fields_count TermKind.lower refl b o in
    let l : 0 < length (children_at b o (term_row TermKind.lower)) = omega arith in
    (l, sym (child_at_lem TermKind.lower refl b o 0 l))

module _ (high : Dom → Bool) where
  abbrev by_number_of : ℕ → Ty → List ℕ → Bool
  by_number_of m t vs = choose (eqb m (term_row TermKind.adv).number) (not (high (dom_of t))) (choose (eqb m (term_row TermKind.lower).number) (not (high (get_or vs 0 0))) false)

  by_kind : (k : TermKind) (j : ℕ) → Watch k j → (m : ℕ) → m ≡ (term_row k).number → (t : Ty) (vs : List ℕ) → gives_way high k t vs j ≡ true → by_number_of m t vs ≡ true
  by_kind k j of_advice_lem m e t vs g = subst (λ x. by_number_of x t vs ≡ true) (sym e) g
  by_kind k j of_lower m e t vs g = subst (λ x. by_number_of x t vs ≡ true) (sym e) g

  pub by_number : (k : TermKind) (m : ℕ) → m ≡ (term_row k).number → (t : Ty) (vs : List ℕ) → by_number_of m t vs ≡ true → (j : ℕ) × (Watch k j × (gives_way high k t vs j ≡ true))
  by_number k m e t vs h = go (eqb m (term_row TermKind.adv).number) refl (eqb m (term_row TermKind.lower).number) refl
    where
      go : (x : Bool) → eqb m (term_row TermKind.adv).number ≡ x → (y : Bool) → eqb m (term_row TermKind.lower).number ≡ y → (j : ℕ) × (Watch k j × (gives_way high k t vs j ≡ true))
      go true q y r =
          let z : k ≡ TermKind.adv = same_term_kind k TermKind.adv (sym e ∙ eq_of q) in
          let g : not (high (dom_of t)) ≡ true = rw q at h in
          (1, subst (λ x. Watch x 1 × (gives_way high x t vs 1 ≡ true)) (sym z) (of_advice_lem, g))
      go false q true r =
          let z : k ≡ TermKind.lower = same_term_kind k TermKind.lower (sym e ∙ eq_of r) in
          let g : not (high (get_or vs 0 0)) ≡ true = rw (q, r) at h in
          (0, subst (λ x. Watch x 0 × (gives_way high x t vs 0 ≡ true)) (sym z) (of_lower, g))
      go false q false r = let g : false ≡ true = rw (q, r) at h in no_path (sym g)

module _ (L : Layout) (good : LayoutOk L) (high : Dom → Bool) where
  abbrev pub gives : ℕ → ℕ → Bool
  gives n j = gives_way high (term_kind L n) (stated_type L n) (others L n) j

  pub gives_low : (n : ℕ) → n < length L.terms → (j : ℕ) → gives n j ≡ true → (low_advice_or_lower L high n ≡ true) × (body_at L n ≡ get_or (children L n) j 0)
  gives_low n h j g =
      let w : Watch (term_kind L n) j = watch (term_kind L n) j (chosen (watches (body_of (term_kind L n) j)) (low_body high (term_kind L n) (stated_type L n) (others L n) j) g) in
      (by_kind high (term_kind L n) j w _ (good.terms n h).is.stands.number (stated_type L n) (others L n) g, (third_field (term_kind L n) j w L.image (term_place L n)).1)

  pub low_gives : (n : ℕ) → n < length L.terms → low_advice_or_lower L high n ≡ true → (j : ℕ) × ((j < length (children L n)) × (body_at L n ≡ get_or (children L n) j 0) × (gives n j ≡ true))
  low_gives n h l =
      let w = by_number high (term_kind L n) _ (good.terms n h).is.stands.number (stated_type L n) (others L n) l in
      let f = third_field (term_kind L n) w.0 w.1.0 L.image (term_place L n) in
      (w.0, (f.0, f.1, w.1.1))

  pub body_below : (n : ℕ) → n < length L.terms → low_advice_or_lower L high n ≡ true → body_at L n < n
  body_below n h l = let w = low_gives n h l in subst (λ e. e < n) (sym w.1.1) (below_at n (children L n) w.0 (good.terms n h).below w.1.0)

-- A number that stands in a list, and one that stands at two places of it.
count_one : (e : ℕ) (es : List ℕ) (i : ℕ) → i < length es → get_or es i 0 ≡ e → 1 ≤ count e es
unfolding count
count_one e [] i l q = absurd (omega arith)
count_one e (x ∷ es) zero l q = let z : eqb e x ≡ true = of_eq (sym q) in rw z (omega arith)
count_one e (x ∷ es) (suc i) l q = let r = count_one e es i (omega arith) q in omega arith

count_two : (e : ℕ) (es : List ℕ) (i j : ℕ) → i < j → j < length es → get_or es i 0 ≡ e → get_or es j 0 ≡ e → 2 ≤ count e es
unfolding count
count_two e [] i j k l q r = absurd (omega arith)
count_two e (x ∷ es) i zero k l q r = absurd (omega arith)
count_two e (x ∷ es) zero (suc j) k l q r = let z : eqb e x ≡ true = of_eq (sym q) in let c = count_one e es j (omega arith) r in rw z (omega arith)
count_two e (x ∷ es) (suc i) (suc j) k l q r = let c = count_two e es i j (omega arith) (omega arith) q r in omega arith

-- Where each term but the root is used once, it is one child of one term.
module _ (L : Layout) (good : LayoutOk L) (once : (n : ℕ) → n < root_of L → used_once L n ≡ true) where
  pub one_place : (n p i j : ℕ) → n < length L.terms → p < length L.terms → i < length (children L n) → j < length (children L p) → get_or (children L n) i 0 ≡ get_or (children L p) j 0 → (n ≡ p) × (i ≡ j)
  one_place n p i j hn hp li lj e = go (ltb n p) refl (ltb p n) refl
    where
      c : ℕ
      c = get_or (children L p) j 0

      used : uses L (length L.terms) c ≡ 1
      used = let b = below_at p (children L p) j (good.terms p hp).below lj in eq_of (once c (omega arith))

      in_n : 1 ≤ count c (children L n)
      in_n = count_one c (children L n) i li e

      in_p : 1 ≤ count c (children L p)
      in_p = count_one c (children L p) j lj refl

      same : n ≡ p → (s : Bool) → ltb i j ≡ s → (t : Bool) → ltb j i ≡ t → i ≡ j
      same z true q t r =
          let u = uses_one L c (length L.terms) p hp in
          let v = count_two c (children L p) i j (lt_of q) lj (subst (λ m. get_or (children L m) i 0 ≡ c) z e) refl in
          let w = used in
          absurd (omega arith)
      same z false q true r =
          let u = uses_one L c (length L.terms) n hn in
          let v = count_two c (children L n) j i (lt_of r) li (subst (λ m. get_or (children L m) j 0 ≡ c) (sym z) refl) e in
          let w = used in
          absurd (omega arith)
      same z false q false r = let u : j ≤ i = ge_of q in let v : i ≤ j = ge_of r in omega arith

      go : (s : Bool) → ltb n p ≡ s → (t : Bool) → ltb p n ≡ t → (n ≡ p) × (i ≡ j)
      go true q t r = let u = uses_two L c (length L.terms) n p (lt_of q) hp in let v = in_n in let w = in_p in let x = used in absurd (omega arith)
      go false q true r = let u = uses_two L c (length L.terms) p n (lt_of r) hn in let v = in_n in let w = in_p in let x = used in absurd (omega arith)
      go false q false r =
          let u : p ≤ n = ge_of q in
          let v : n ≤ p = ge_of r in
          let z : n ≡ p = omega arith in
          (z, same z (ltb i j) refl (ltb j i) refl)
