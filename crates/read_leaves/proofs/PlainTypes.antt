-- The leaves of plain types, from their descriptors.
use Prim.Native.Nat.{ℕ, ◌+◌, ◌≤◌, ◌<◌}
use native.Mathlib.Omega.{arith}
use mathlib.Core.Path.{◌≡◌, refl, sym, ap, subst, ◌∙◌}
use mathlib.Core.Bool.{Bool, true, false}
use mathlib.Core.List.{List, []}
use mathlib.Core.Option.{Option, none, some}
use lib.ListN.{length, get_or}
use lib.Dec.{eqb, ltb, leb}
use borrow.Author.Tests.{leb-false, lt-leb, lt-ltb, ne_eqb}
use Rattle.calculus.specs.Limits.{leaf_limit}
use Rattle.calculus.specs.Syntax.{Ty}
use Rattle.calculus.specs.Plain.{both_leaves, leaf_count, is_plain}
use Rattle.image.specs.Bytes.{number_at}
use Rattle.image.specs.Kinds.{a_type, free, TypeKind, type_row_of}
use Rattle.image.specs.Records.{Layout, fields_at}
use Rattle.image.specs.Layout.{records_of}
use Rattle.image.specs.Types.{type_place, type_kind, type_fields, type_field, is_type, type_out, type_of}
use Rattle.laws.proofs.Booleans.{no_path, le_of, of_eq, by_test}
use Rattle.image.proofs.Laid.{LayoutOk, layout_good, image_kept}
use Rattle.image.proofs.TypeNumbers.{type_out_lem, type_kind_lem}
use Rattle.read_records.specs.Descriptors.{descriptor_kind, descriptor_field0, descriptor_field1}
use Rattle.read_terms.specs.Lent.{Types}
use Rattle.verdict.specs.Rules.{is}
use Rattle.read_terms.proofs.Descriptors.{describes}
use Rattle.read_records.specs.Leaves.{few_or0, plain_leaves}
use Rattle.read_leaves.specs.Leaves.{join_leaves, leaves_of}

-- Every type of plain parts has a leaf.
pub some_leaf : (t : Ty) (n : ℕ) → leaf_count t ≡ some n → 1 ≤ n
some_leaf Ty.unit n h = let z : 1 ≡ n = cc in omega arith
some_leaf Ty.truth n h = let z : 1 ≡ n = cc in omega arith
some_leaf Ty.number n h = let z : 1 ≡ n = cc in omega arith
some_leaf (Ty.pair a b) n h = go (leaf_count a) (leaf_count b) (some_leaf a) h
  where
    go : (x y : Option ℕ) → ((m : ℕ) → x ≡ some m → 1 ≤ m) → both_leaves x y ≡ some n → 1 ≤ n
    go none y f e = no_path cc
    go (some m) none f e = no_path cc
    go (some m) (some k) f e = let z : m + k ≡ n = cc in let w = f m refl in omega arith
some_leaf (Ty.fun a p b) n h = no_path cc
some_leaf (Ty.ref a p) n h = no_path cc
some_leaf (Ty.label a p) n h = no_path cc
some_leaf (Ty.pointcut a p) n h = no_path cc
some_leaf (Ty.advice p) n h = no_path cc
some_leaf (Ty.object ms) n h = no_path cc
some_leaf Ty.stack n h = no_path cc

few_or_0 : (x : Option ℕ) → few_or0 x ≤ leaf_limit
few_or_0 none = omega arith
few_or_0 (some n) = by_test (leb n leaf_limit) (λ e. rw e (le_of e)) λ e. rw e (omega arith)

pub plain_few : (t : Ty) → plain_leaves t ≤ leaf_limit
unfolding plain_leaves
plain_few t = few_or_0 (leaf_count t)

join_zero : (m : ℕ) → join_leaves m 0 ≡ 0
unfolding join_leaves
join_zero m = by_test (eqb m 0) (λ e. rw e) λ e. rw e

-- The leaves of a pair are joined from its parts'.
join_right : (x y : Option ℕ) → ((m : ℕ) → x ≡ some m → 1 ≤ m) → ((n : ℕ) → y ≡ some n → 1 ≤ n) → join_leaves (few_or0 x) (few_or0 y) ≡ few_or0 (both_leaves x y)
unfolding join_leaves
join_right none y f g = refl
join_right (some m) none f g = join_zero (few_or0 (some m))
join_right (some m) (some n) f g = go (leb m leaf_limit) refl (leb n leaf_limit) refl
  where
    a : 1 ≤ m
    a = f m refl

    b : 1 ≤ n
    b = g n refl

    past : leaf_limit < m → 1 ≤ n → leaf_limit < m + n
    past h k = omega arith

    past' : leaf_limit < n → 1 ≤ m → leaf_limit < m + n
    past' h k = omega arith

    go : (p : Bool) → leb m leaf_limit ≡ p → (q : Bool) → leb n leaf_limit ≡ q → join_leaves (few_or0 (some m)) (few_or0 (some n)) ≡ few_or0 (both_leaves (some m) (some n))
    go true d true e = simp (d, e, ne_eqb m 0 (λ z. let w = a in omega arith), ne_eqb n 0 (λ z. let w = b in omega arith))
    go false d q e = simp (d, lt-leb (m + n) leaf_limit (past (leb-false m leaf_limit d) b))
    go true d false e = simp (d, e, lt-leb (m + n) leaf_limit (past' (leb-false n leaf_limit e) a)) (join_zero m)

pub join_plain : (a b : Ty) → join_leaves (plain_leaves a) (plain_leaves b) ≡ plain_leaves (Ty.pair a b)
unfolding plain_leaves
join_plain a b = join_right (leaf_count a) (leaf_count b) (some_leaf a) (some_leaf b)

-- The leaves of a type of kind k, with the fields vs and its parts written out by g, from its descriptor and a table that has its parts.
by_kind : (k : TypeKind) (vs : List ℕ) (g : ℕ → Ty) (x : ℕ) (table : List ℕ) → descriptor_kind x ≡ (type_row_of k).number
    → ((type_row_of k).number ≡ 19 → (get_or table (descriptor_field0 x) 0 ≡ plain_leaves (g (get_or vs 0 0))) × (get_or table (descriptor_field1 x) 0 ≡ plain_leaves (g (get_or vs 1 0)))) → leaves_of x table ≡ plain_leaves (type_out k vs g)
unfolding leaves_of type_out plain_leaves
by_kind TypeKind.unit vs g x table e h = rw e
by_kind TypeKind.truth vs g x table e h = rw e
by_kind TypeKind.number vs g x table e h = rw e
by_kind TypeKind.pair vs g x table e h = let z = h refl in rw (e, z.0, z.1) (join_plain (g (get_or vs 0 0)) (g (get_or vs 1 0)))
by_kind TypeKind.fun vs g x table e h = rw e
by_kind TypeKind.ref vs g x table e h = rw e
by_kind TypeKind.label vs g x table e h = rw e
by_kind TypeKind.pcd vs g x table e h = rw e
by_kind TypeKind.adv vs g x table e h = rw e
by_kind TypeKind.obj vs g x table e h = rw e
by_kind TypeKind.stack vs g x table e h = rw e

-- Type t, after the types before it.
module _ (b descriptors : List ℕ) (T : Types b descriptors) (t : ℕ) (h : t < length (records_of b).types) where
  good_types : LayoutOk (records_of b)
  good_types = layout_good b (records_of b) T.laid_out

  kind_descriptor : descriptor_kind (get_or descriptors t 0) ≡ (type_row_of (type_kind (records_of b) t)).number
  kind_descriptor = (T.descriptors t h).kind ∙ sym (ap (λ i. number_at i (type_place (records_of b) t)) (image_kept b (records_of b) T.laid_out)) ∙ (good_types.types t h).is.stands.number

  is_pair : descriptor_kind (get_or descriptors t 0) ≡ 19 → is_type (records_of b) TypeKind.pair t ≡ true
  is_pair e = ap (is TypeKind.pair) (describes T h) ∙ of_eq e

  -- The parts of a pair: fields of the descriptor, and lower types.
  pub pair_parts : descriptor_kind (get_or descriptors t 0) ≡ 19
      → (type_field (records_of b) t 0 ≡ descriptor_field0 (get_or descriptors t 0)) × (type_field (records_of b) t 1 ≡ descriptor_field1 (get_or descriptors t 0)) × (descriptor_field0 (get_or descriptors t 0) < t) × (descriptor_field1 (get_or descriptors t 0) < t)
  pair_parts e =
      let L : Layout = records_of b in
      let k = type_kind_lem L good_types TypeKind.pair t h (is_pair e) in
      let x : type_field L t 0 ≡ descriptor_field0 (get_or descriptors t 0) = ap (λ d. d.part 0) (describes T h) in
      let y : type_field L t 1 ≡ descriptor_field1 (get_or descriptors t 0) = ap (λ d. d.part 1) (describes T h) in
      let lower : (i : ℕ) → get_or (fields_at L.image (type_place L t) (type_row_of TypeKind.pair)) i free ≡ a_type → type_field L t i < t =
      λ i q. (good_types.types t h).lower i (subst (λ j. get_or (fields_at L.image (type_place L t) (type_row_of j)) i free ≡ a_type) (sym k) q) in
      (x, y, rw (← x) (lower 0 refl), rw (← y) (lower 1 refl))

  pub leaves_right : (table : List ℕ) → ((u : ℕ) → u < t → get_or table u 0 ≡ plain_leaves (type_of (records_of b) u)) → leaves_of (get_or descriptors t 0) table ≡ plain_leaves (type_of (records_of b) t)
  leaves_right table before =
      by_kind (type_kind (records_of b) t) (type_fields (records_of b) t) (λ a. type_of (records_of b) a) (get_or descriptors t 0) table kind_descriptor
      (λ e. let p = pair_parts (kind_descriptor ∙ e) in (before _ p.2 ∙ ap (λ a. plain_leaves (type_of (records_of b) a)) (sym p.0), before _ p.3 ∙ ap (λ a. plain_leaves (type_of (records_of b) a)) (sym p.1)))
      ∙ ap plain_leaves (sym (type_out_lem (records_of b) good_types t h))

  -- A unit, truth or number has one leaf.
  pub scalar_leaf : descriptor_kind (get_or descriptors t 0) < 19 → 1 ≡ plain_leaves (type_of (records_of b) t)
  unfolding leaves_of
  scalar_leaf l =
      let x = get_or descriptors t 0 in
      let one : leaves_of x [] ≡ 1 = simp (ne_eqb (descriptor_kind x) 19 (λ e. omega arith), lt-ltb (descriptor_kind x) 19 l) in
      sym one
      ∙ by_kind (type_kind (records_of b) t) (type_fields (records_of b) t) (λ a. type_of (records_of b) a) x [] kind_descriptor (λ e. let k : descriptor_kind x ≡ 19 = kind_descriptor ∙ e in absurd (omega arith))
      ∙ ap plain_leaves (sym (type_out_lem (records_of b) good_types t h))

-- A type is plain where it has leaves in the table.
pub plain_is : (t : Ty) → is_plain t ≡ ltb 0 (plain_leaves t)
unfolding plain_leaves
plain_is t = go (leaf_count t) refl
  where
    go : (x : Option ℕ) → leaf_count t ≡ x → is_plain t ≡ ltb 0 (plain_leaves t)
    go none e = rw e
    go (some n) e = small (leb n leaf_limit) refl
      where
        small : (q : Bool) → leb n leaf_limit ≡ q → is_plain t ≡ ltb 0 (plain_leaves t)
        small true d = rw (e, d) (sym (lt-ltb 0 n (some_leaf t n e)))
        small false d = rw (e, d)
