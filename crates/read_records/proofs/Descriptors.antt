-- The descriptors of two types are equal exactly if the types are; of types that may have more fields than a descriptor, exactly if these are besides.
use Prim.Native.Nat.{ℕ, zero, suc, ◌+◌, ◌*◌, ◌≤◌, ◌<◌}
use native.Mathlib.Omega.{arith}
use mathlib.Core.Path.{◌≡◌, refl, sym, ap, ◌∙◌}
use mathlib.Core.Bool.{Bool, true, ◌&&◌}
use mathlib.Core.List.{List, [], ◌∷◌}
use mathlib.Core.Option.{some}
use lib.ListN.{length, get_or}
use lib.Dec.{eqb, leb}
use Rattle.image.specs.Bytes.{number_at, field_at}
use Rattle.image.specs.Kinds.{TypeKind, domain, type, type_row_of, row_of, kind_of, fields_of}
use Rattle.image.specs.Records.{or_else, kind_at, times, fields_at, numbers_at}
use Rattle.image.specs.Layout.{same_numbers, same_type}
use Rattle.laws.proofs.Booleans.{and_l, and_r, and_i, same_truth, le_of, eq_of, of_eq}
use Rattle.laws.proofs.Tests.{each, of_each}
use Rattle.image.proofs.Words.{words_length}
use Rattle.image.proofs.EveryKind.{every_of, at_type}
use Rattle.image.proofs.Counts.{fields_length}
use Rattle.image.proofs.Laid.{same_numbers_lem, numbers_same}
use Rattle.image.proofs.Offsets.{number_at_lem, no_number}
use Rattle.read_records.specs.Descriptors.{descriptor_of, descriptor_kind, descriptor_field0, descriptor_field1, descriptor_field2, field_or0, Describes}

-- A descriptor has the parts that it is made of, and is made of its parts.
pub made : (k a b c : ℕ) → k < 256 → a < 256 → b < 256
    → (descriptor_kind (descriptor_of k a b c) ≡ k) × (descriptor_field0 (descriptor_of k a b c) ≡ a) × (descriptor_field1 (descriptor_of k a b c) ≡ b) × (descriptor_field2 (descriptor_of k a b c) ≡ c)
made k a b c hk ha hb = (omega arith, omega arith, omega arith, omega arith)

of_parts : (x : ℕ) → x ≡ descriptor_of (descriptor_kind x) (descriptor_field0 x) (descriptor_field1 x) (descriptor_field2 x)
of_parts x = omega arith

parts_same : (x y : ℕ) → descriptor_kind x ≡ descriptor_kind y → descriptor_field0 x ≡ descriptor_field0 y → descriptor_field1 x ≡ descriptor_field1 y → descriptor_field2 x ≡ descriptor_field2 y → x ≡ y
parts_same x y k a b c = of_parts x ∙ rw (k, a, b, c) (sym (of_parts y))

-- A field that the record has, and one that it has not.
pub has_field : (b : List ℕ) (o i : ℕ) → i < length (fields_at b o (row_of (kind_at b o))) → field_or0 b o i ≡ field_at b o i
has_field b o i h = number_at_lem b o (row_of (kind_at b o)) i h

pub no_field : (b : List ℕ) (o i : ℕ) → length (fields_at b o (row_of (kind_at b o))) ≤ i → field_or0 b o i ≡ 0
no_field b o i h = no_number b o (row_of (kind_at b o)) i h

-- A type without a group has at most three fields, and as many in each record of its kind.
abbrev few_row : TypeKind → Bool
few_row k = leb (length (type_row_of k).first + length (type_row_of k).last) 3

every_few : (k : TypeKind) → few_row k ≡ true
unfolding every_of
every_few k = at_type few_row refl k

pub type_fields_lem : (k : TypeKind) → length (type_row_of k).group ≡ 0 → (n : ℕ) → length (fields_of (type_row_of k) (times (type_row_of k) n)) ≡ length (type_row_of k).first + length (type_row_of k).last
type_fields_lem k g n =
    let c : ℕ = times (type_row_of k) n in
    let e : length (fields_of (type_row_of k) c) ≡ length (type_row_of k).first + (c * 0 + length (type_row_of k).last) = fields_length (type_row_of k) c ∙ ap (λ m. length (type_row_of k).first + (c * m + length (type_row_of k).last)) g in
    omega arith

pub few_fields : (k : TypeKind) → length (type_row_of k).first + length (type_row_of k).last ≤ 3
few_fields k = le_of (every_few k)

pub same_lists : (vs ws : List ℕ) → length vs ≡ length ws → ((i : ℕ) → i < length vs → get_or vs i 0 ≡ get_or ws i 0) → vs ≡ ws
same_lists [] [] l h = refl
same_lists [] (w ∷ ws) l h = absurd (omega arith)
same_lists (v ∷ vs) [] l h = absurd (omega arith)
same_lists (v ∷ vs) (w ∷ ws) l h =
    let e : v ≡ w = h 0 (omega arith) in
    let i = same_lists vs ws (omega arith) (λ i m. h (suc i) (omega arith)) in
    cc

three : (P : ℕ → Type 0) → P 0 → P 1 → P 2 → (i : ℕ) → i < 3 → P i
three P a b c zero l = a
three P a b c (suc zero) l = b
three P a b c (suc (suc zero)) l = c
three P a b c (suc (suc (suc i))) l = absurd (omega arith)

module _ (b : List ℕ) (o p : ℕ) (k : TypeKind) (known : kind_of (number_at b o) ≡ some (type k)) where
  at_o : kind_at b o ≡ type k
  at_o = ap (λ q. or_else q domain) known

  at_p : number_at b o ≡ number_at b p → kind_at b p ≡ type k
  at_p e = ap (λ n. or_else (kind_of n) domain) (sym e) ∙ at_o

  -- The fields of the two, as of kind k.
  in_o : (i : ℕ) → field_or0 b o i ≡ get_or (numbers_at b o (type_row_of k)) i 0
  in_o i = ap (λ K. get_or (numbers_at b o (row_of K)) i 0) at_o

  in_p : number_at b o ≡ number_at b p → (i : ℕ) → field_or0 b p i ≡ get_or (numbers_at b p (type_row_of k)) i 0
  in_p e i = ap (λ K. get_or (numbers_at b p (row_of K)) i 0) (at_p e)

  -- Equal types have equal descriptors.
  equal : (x y : ℕ) → Describes b o x → Describes b p y → same_type b (type_row_of k) o p ≡ true → x ≡ y
  equal x y X Y s =
      let z = each _ s in
      let n : number_at b o ≡ number_at b p = eq_of z.0 in
      let v = numbers_same (numbers_at b o (type_row_of k)) (numbers_at b p (type_row_of k)) z.1.0 in
      let f : (i : ℕ) → field_or0 b o i ≡ field_or0 b p i = λ i. in_o i ∙ (ap (λ vs. get_or vs i 0) v ∙ sym (in_p n i)) in
      parts_same x y (X.kind ∙ (n ∙ sym Y.kind)) (X.field0 ∙ (f 0 ∙ sym Y.field0)) (X.field1 ∙ (f 1 ∙ sym Y.field1)) (X.field2 ∙ (f 2 ∙ sym Y.field2))

  -- Types with equal descriptors and equal fields are equal.
  pub same_fields_lem : (x y : ℕ) → Describes b o x → Describes b p y → same_type b (type_row_of k) o p ≡ (eqb x y && same_numbers (numbers_at b o (type_row_of k)) (numbers_at b p (type_row_of k)))
  same_fields_lem x y X Y = same_truth (same_type b (type_row_of k) o p) (eqb x y && same_numbers (numbers_at b o (type_row_of k)) (numbers_at b p (type_row_of k))) to from
    where
      to : same_type b (type_row_of k) o p ≡ true → (eqb x y && same_numbers (numbers_at b o (type_row_of k)) (numbers_at b p (type_row_of k))) ≡ true
      to s = and_i (of_eq (equal x y X Y s)) (each _ s).1.0

      from : (eqb x y && same_numbers (numbers_at b o (type_row_of k)) (numbers_at b p (type_row_of k))) ≡ true → same_type b (type_row_of k) o p ≡ true
      from s =
          let e : x ≡ y = eq_of (and_l (eqb x y) (same_numbers (numbers_at b o (type_row_of k)) (numbers_at b p (type_row_of k))) s) in
          of_each _ (of_eq (sym X.kind ∙ (ap descriptor_kind e ∙ Y.kind)), (and_r (eqb x y) (same_numbers (numbers_at b o (type_row_of k)) (numbers_at b p (type_row_of k))) s, tt))

  -- Without a group there are no fields but those that the descriptor has.
  module _ (plain : length (type_row_of k).group ≡ 0) where
    count : (q : ℕ) → length (numbers_at b q (type_row_of k)) ≡ length (type_row_of k).first + length (type_row_of k).last
    count q = words_length b (q + 4) (length (fields_at b q (type_row_of k))) ∙ type_fields_lem k plain _

    pub same_descriptor : (x y : ℕ) → Describes b o x → Describes b p y → same_type b (type_row_of k) o p ≡ eqb x y
    same_descriptor x y X Y = same_truth (same_type b (type_row_of k) o p) (eqb x y) (λ s. of_eq (equal x y X Y s)) (λ s. same (eq_of s))
      where
        same : x ≡ y → same_type b (type_row_of k) o p ≡ true
        same e =
            let n : number_at b o ≡ number_at b p = sym X.kind ∙ (ap descriptor_kind e ∙ Y.kind) in
            let f : (i : ℕ) → i < 3 → field_or0 b o i ≡ field_or0 b p i = three (λ i. field_or0 b o i ≡ field_or0 b p i) (sym X.field0 ∙ (ap descriptor_field0 e ∙ Y.field0)) (sym X.field1 ∙ (ap descriptor_field1 e ∙ Y.field1)) (sym X.field2 ∙ (ap descriptor_field2 e ∙ Y.field2)) in
            let few = few_fields k in
            let c = count o in
            let v : numbers_at b o (type_row_of k) ≡ numbers_at b p (type_row_of k) = same_lists _ _ (count o ∙ sym (count p)) (λ i l. sym (in_o i) ∙ (f i (omega arith) ∙ in_p n i)) in
            of_each _ (of_eq n, (rw (← v) (same_numbers_lem (numbers_at b o (type_row_of k))), tt))
