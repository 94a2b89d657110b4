-- What has been written of a term after the first of its fields, and after all of them.
use Prim.Native.Nat.{ℕ, ◌+◌, ◌-◌, ◌*◌, ◌≤◌, ◌<◌}
use native.Mathlib.Omega.{arith}
use mathlib.Core.Path.{◌≡◌, refl, sym, ap, subst, ◌∙◌}
use mathlib.Core.Bool.{true, false}
use mathlib.Core.List.{List, [], ◌∷◌, ◌++◌}
use lib.ListN.{length, get_or, set, take, drop}
use lib.Seq.{length-take-le}
use Rattle.calculus.specs.Syntax.{Ty}
use Rattle.image.specs.Bytes.{number_at}
use Rattle.image.specs.Limits.{term_limit}
use Rattle.image.specs.Kinds.{Field, free, term_row}
use Rattle.image.specs.Records.{Layout, as_child, given}
use Rattle.image.specs.Layout.{records_of}
use Rattle.image.specs.Types.{term_place, term_kind, type_no, type_of, stated_type, others, children}
use Rattle.image.proofs.Words.{words_length}
use Rattle.image.proofs.Laid.{image_kept}
use Rattle.base_bytes.specs.Bytes.{over}
use Rattle.base_bytes.proofs.Over.{over_nothing, onward}
use Rattle.read_records.specs.Codes.{class_number}
use Rattle.read_terms.specs.Lent.{Terms, IsTerm}
use Rattle.write_fields.specs.Classes.{is_child, child_no, as_field}
use Rattle.image_written.specs.Table.{has, place}
use Rattle.image_written.specs.Records.{little, image}
use Rattle.image_written.specs.Written.{terms, terms_all, term_records, term_records_all}
use Rattle.image_written.proofs.Writable.{several, Formed, FormedAll}
use Rattle.image_written.proofs.Taken.{several_trees}
use Rattle.image_written.proofs.Sums.{Weighing, weight, weight_all}
use Rattle.image_written.proofs.Sizes.{term_size, terms_size, terms_size_all, own_size}
use Rattle.image_written.proofs.Fronts.{tree_at, trees, sorts_at, numbers_of, kids, kids_all, given_split, terms_append, tree_at_lem, type_field_lem, new_field, new_fields}
use Rattle.write_types.specs.Entries.{Placed, kept_number}
use Rattle.write_types.proofs.Located.{class_type}
use Rattle.write_terms.proofs.Located.{good, next_child, child_lower, next_same, typed}
use Rattle.write_records.specs.declared.Done.{Done}
use Rattle.write_program.specs.Writing.{Capacity, Wrote}
use Rattle.write_program.proofs.Writing.{child_field, kept_field, one_child, first_numbers, one_number, term_written}

-- Of children side by side, the first and the rest.
module _ (L : Layout) where
  formed_append : (n : ℕ) (T : List Ty) (xs ys : List ℕ) → FormedAll n T (trees L (xs ++ ys)) → FormedAll n T (trees L xs) × FormedAll n T (trees L ys)
  unfolding Formed
  formed_append n T [] ys h = (tt, h)
  formed_append n T (x ∷ xs) ys h = let r = formed_append n T xs ys h.1 in ((h.0, r.0), r.1)

  formed_one : (n : ℕ) (T : List Ty) (x : ℕ) → FormedAll n T (trees L (x ∷ [])) → Formed n T (tree_at L x)
  unfolding Formed
  formed_one n T x h = h.0

  weight_append : (v : Weighing) (xs ys : List ℕ) → weight_all v (trees L (xs ++ ys)) ≡ weight_all v (trees L xs) + weight_all v (trees L ys)
  unfolding weight
  weight_append v [] ys = omega arith
  weight_append v (x ∷ xs) ys = let r = weight_append v xs ys in omega arith

-- The first i fields of term n of the image b have been looked at: the children that they name are written behind d, and their numbers stand in the table of numbers.
pub record Begun (b places : List ℕ) (n : ℕ) (d : Done) (i : ℕ) (out₀ out numbers : List ℕ) : Type 0 where
  pub wrote : (T : List Ty) → Placed b places T → Formed (length (records_of b).domains) T (tree_at (records_of b) n)
      → (out ≡ over d.at (image (term_records_all T d.terms (trees (records_of b) (kids (records_of b) n i)))) out₀) × (take i numbers ≡ first_numbers (records_of b) T n i d.terms)

-- How far the output is written then.
pub record Come (b : List ℕ) (n i : ℕ) (d m : Done) : Type 0 where
  pub at : m.at ≡ d.at + weight_all term_size (trees (records_of b) (kids (records_of b) n i))
  pub terms : m.terms ≡ d.terms + terms_all (trees (records_of b) (kids (records_of b) n i))

-- A term and those below it.
counts : {b table : List ℕ} (M : Terms b table) {n : ℕ} (h : IsTerm b n) → terms (tree_at (records_of b) n) ≡ terms_all (trees (records_of b) (children (records_of b) n)) + 1
unfolding terms
counts {b} M {n} h = ap terms (tree_at_lem (records_of b) (good M h) n h) ∙ omega arith

module _ {b table : List ℕ} (M : Terms b table) {n : ℕ} (h : IsTerm b n) where
  abbrev L : Layout
  L = records_of b

  abbrev D : ℕ
  D = length L.domains

  front : (i : ℕ) → children L n ≡ kids L n i ++ given as_child (drop i (sorts_at L n)) (drop i (numbers_of L n))
  front i = given_split as_child (sorts_at L n) (numbers_of L n) i (words_length L.image _ _)

  -- The term weighs its own fields and its children.
  weighs : weight term_size (tree_at L n) ≡ 4 + 2 * length (sorts_at L n) + weight_all term_size (trees L (children L n))
  unfolding weight
  weighs =
      let s : term_size (term_kind L n) (others L n) (several (trees L (children L n))) ≡ term_size (term_kind L n) (others L n) (length (children L n)) = ap (λ q. term_size (term_kind L n) (others L n) q) (several_trees (λ e. tree_at L e) (children L n)) in
      ap (λ e. weight term_size e) (tree_at_lem L (good M h) n h) ∙ ap (λ q. q + weight_all term_size (trees L (children L n))) (s ∙ own_size L (good M h) n)

  lighter : (i : ℕ) → weight_all term_size (trees L (kids L n i)) ≤ weight_all term_size (trees L (children L n))
  lighter i =
      let a = weight_append L term_size (kids L n i) (given as_child (drop i (sorts_at L n)) (drop i (numbers_of L n))) in
      let e : weight_all term_size (trees L (children L n)) ≡ weight_all term_size (trees L (kids L n i ++ given as_child (drop i (sorts_at L n)) (drop i (numbers_of L n)))) = ap (λ es. weight_all term_size (trees L es)) (front i) in
      omega arith

  fewer : (i : ℕ) → terms_all (trees L (kids L n i)) ≤ terms_all (trees L (children L n))
  fewer i =
      let a = terms_append L (kids L n i) (given as_child (drop i (sorts_at L n)) (drop i (numbers_of L n))) in
      let e : terms_all (trees L (children L n)) ≡ terms_all (trees L (kids L n i ++ given as_child (drop i (sorts_at L n)) (drop i (numbers_of L n)))) = ap (λ es. terms_all (trees L es)) (front i) in
      omega arith

  formed_first : (T : List Ty) → Formed D T (tree_at L n) → has T (stated_type L n) ≡ true
  unfolding Formed
  formed_first T F = (subst (λ e. Formed D T e) (tree_at_lem L (good M h) n h) F).0

  formed_kids : (T : List Ty) → Formed D T (tree_at L n) → (i : ℕ) → FormedAll D T (trees L (kids L n i))
  unfolding Formed
  formed_kids T F i = (formed_append L D T (kids L n i) _ (subst (λ es. FormedAll D T (trees L es)) (front i) (subst (λ e. Formed D T e) (tree_at_lem L (good M h) n h) F).2)).0

  pub come_none : (d : Done) → Come b n 0 d d
  unfolding weight terms
  come_none d = record { at = omega arith; terms = omega arith }

  pub begun_none : (places : List ℕ) (d : Done) (out numbers : List ℕ) → Begun b places n d 0 out out numbers
  unfolding term_records image new_fields
  begun_none places d out numbers = record { wrote = λ T P F. (sym (over_nothing out d.at), refl) }

  -- The room for the record itself, behind the children.
  pub record_capacity : {d m : Done} {N : ℕ} (i : ℕ) → Capacity b n d N → Come b n i d m → m.at + (4 + 2 * length (sorts_at L n)) ≤ N
  record_capacity i R C =
      let r = R.bytes in
      let w = weighs in
      let l = lighter i in
      let a = C.at in
      omega arith

  -- The term itself, behind all its children.
  pub come_behind : {d m : Done} (i : ℕ) → length (sorts_at L n) ≤ i → Come b n i d m → (m.at + (4 + 2 * length (sorts_at L n)) ≡ d.at + weight term_size (tree_at L n)) × (m.terms + 1 ≡ d.terms + terms (tree_at L n))
  come_behind i l C =
      let x : weight_all term_size (trees L (kids L n i)) ≡ weight_all term_size (trees L (children L n)) = ap (λ es. weight_all term_size (trees L es)) (kids_all L n i l) in
      let y : terms_all (trees L (kids L n i)) ≡ terms_all (trees L (children L n)) = ap (λ es. terms_all (trees L es)) (kids_all L n i l) in
      let w = weighs in
      let k = counts M h in
      let a = C.at in
      let t = C.terms in
      (omega arith, omega arith)

  pub few_terms : {d m : Done} {N : ℕ} (i : ℕ) → Capacity b n d N → Come b n i d m → m.terms < term_limit
  few_terms i R C =
      let r = R.terms in
      let w = counts M h in
      let l = fewer i in
      let a = C.terms in
      omega arith

  -- A field of the class of types has the number of one.
  pub type_number_lem : (i : ℕ) → i < length (sorts_at L n) → {c v : ℕ} → c ≡ class_number (get_or (sorts_at L n) i free) → v ≡ get_or (numbers_of L n) i 0 → c ≡ 0 → v < length L.types
  type_number_lem i l e f z =
      let t = f ∙ type_field_lem L n i l (class_type _ (sym e ∙ z)) in
      let y = typed M h in
      omega arith

  -- One field more, of the class c and the number v.
  module _ (i : ℕ) (l : i < length (sorts_at L n)) {c v : ℕ} (e : c ≡ class_number (get_or (sorts_at L n) i free)) (f : v ≡ get_or (numbers_of L n) i 0) where
    -- It names a child.
    module _ (q : is_child c v ≡ true) where
      abbrev child : ℕ
      child = child_no c v

      next : kids L n (i + 1) ≡ kids L n i ++ (child ∷ [])
      next = next_child M h i l e f q

      heavier : weight_all term_size (trees L (kids L n (i + 1))) ≡ weight_all term_size (trees L (kids L n i)) + weight term_size (tree_at L child)
      unfolding weight
      heavier = ap (λ es. weight_all term_size (trees L es)) next ∙ weight_append L term_size (kids L n i) (child ∷ []) ∙ omega arith

      more : terms_all (trees L (kids L n (i + 1))) ≡ terms_all (trees L (kids L n i)) + terms (tree_at L child)
      unfolding terms
      more = ap (λ es. terms_all (trees L es)) next ∙ terms_append L (kids L n i) (child ∷ []) ∙ omega arith

      pub child_capacity : {d m : Done} {N : ℕ} → Capacity b n d N → Come b n i d m → Capacity b child m N
      child_capacity R C =
          let a = C.at in
          let t = C.terms in
          let r = R.bytes in
          let s = R.terms in
          let w = weighs in
          let k = counts M h in
          let x = heavier in
          let y = more in
          let o = lighter (i + 1) in
          let p = fewer (i + 1) in
          record { bytes = omega arith; terms = omega arith }

      pub come_child : {d m r : Done} → Come b n i d m → r.at ≡ m.at + weight term_size (tree_at L child) → r.terms ≡ m.terms + terms (tree_at L child) → Come b n (i + 1) d r
      come_child C x y =
          let a = C.at in
          let t = C.terms in
          let u = heavier in
          let w = more in
          record { at = omega arith; terms = omega arith }

      pub child_number : {d m : Done} {N r : ℕ} → Capacity b n d N → Come b n i d m → r ≡ m.terms + terms (tree_at L child) → (0 < r) × (r ≤ term_limit)
      child_number R C y =
          let s = (child_capacity R C).terms in
          let k = child_lower M h i l e f q in
          let o = counts M {n = child} (omega arith) in
          (omega arith, omega arith)

      pub begun_child : {places out₀ out out' numbers : List ℕ} {d m : Done} {x : ℕ} → i < length numbers → Capacity b n d (length out₀) → Come b n i d m → Begun b places n d i out₀ out numbers → Wrote b places child m out out'
          → x ≡ as_field c (m.terms + terms (tree_at L child) - 1) → Begun b places n d (i + 1) out₀ out' (set numbers i x)
      begun_child {places} {out₀} {out} {out'} {numbers} {d} {m} {x} k R C B W z = record { wrote = told }
        where
          told : (T : List Ty) → Placed b places T → Formed D T (tree_at L n)
              → (out' ≡ over d.at (image (term_records_all T d.terms (trees L (kids L n (i + 1))))) out₀) × (take (i + 1) (set numbers i x) ≡ first_numbers L T n (i + 1) d.terms)
          told T P F =
              let both = formed_append L D T (kids L n i) (child ∷ []) (subst (λ es. FormedAll D T (trees L es)) next (formed_kids T F (i + 1))) in
              let before : List ℕ = image (term_records_all T d.terms (trees L (kids L n i))) in
              let this : List ℕ = image (term_records T (d.terms + terms_all (trees L (kids L n i))) (tree_at L child)) in
              let s : length before ≡ weight_all term_size (trees L (kids L n i)) = terms_size_all D T T d.terms (trees L (kids L n i)) both.0 in
              let o : length this ≡ weight term_size (tree_at L child) = terms_size D T T (d.terms + terms_all (trees L (kids L n i))) (tree_at L child) (formed_one L D T child both.1) in
              let w : out' ≡ over m.at this out = W.over_table T P (formed_one L D T child both.1) ∙ ap (λ j. over m.at (image (term_records T j (tree_at L child))) out) C.terms in
              let a = C.at in
              let r = R.bytes in
              let u = weighs in
              let y = lighter (i + 1) in
              let t = heavier in (
                onward before this out₀ d.at m.at (B.wrote T P F).0 w (omega arith) (omega arith) ∙ ap (λ bs. over d.at bs out₀) (sym (one_child L T n i child d.terms next).1),
                one_number L T n i d.terms x numbers l k (B.wrote T P F).1 (z ∙ as_new T),
              )
            where
              as_new : (T : List Ty) → as_field c (m.terms + terms (tree_at L child) - 1) ≡ new_field L T (d.terms + terms_all (trees L (kids L n i))) (get_or (sorts_at L n) i free) (get_or (numbers_of L n) i 0)
              as_new T =
                  let Q : ℕ = d.terms + terms_all (trees L (kids L n i)) in
                  let g : Field = get_or (sorts_at L n) i free in
                  let w : ℕ = get_or (numbers_of L n) i 0 in
                  let y : is_child (class_number g) w ≡ true = subst (λ z. is_child (class_number g) z ≡ true) f (subst (λ z. is_child z v ≡ true) e q) in
                  ap (λ z. as_field c (z + terms (tree_at L (child_no c v)) - 1)) C.terms ∙ ap (λ z. as_field z (Q + terms (tree_at L (child_no z v)) - 1)) e
                  ∙ ap (λ z. as_field (class_number g) (Q + terms (tree_at L (child_no (class_number g) z)) - 1)) f ∙ sym (child_field L T Q g w y)

    -- It names none.
    module _ (q : is_child c v ≡ false) where
      pub come_same : {d m : Done} → Come b n i d m → Come b n (i + 1) d m
      come_same {d} {m} C =
          let x = next_same M h i l e f q in
          record { at = C.at ∙ ap (λ es. d.at + weight_all term_size (trees L es)) x; terms = C.terms ∙ ap (λ es. d.terms + terms_all (trees L es)) x }

      pub begun_kept : {places out₀ out numbers : List ℕ} {d : Done} {x : ℕ} → i < length numbers → Begun b places n d i out₀ out numbers → x ≡ kept_number places c v → Begun b places n d (i + 1) out₀ out (set numbers i x)
      begun_kept {places} {out₀} {out} {numbers} {d} {x} k B z = record {
        wrote = λ T P F. (
          (B.wrote T P F).0 ∙ ap (λ es. over d.at (image (term_records_all T d.terms (trees L es))) out₀) (next_same M h i l e f q),
          one_number L T n i d.terms x numbers l k (B.wrote T P F).1 (z ∙ as_new T P F),
        );
      }
        where
          as_new : (T : List Ty) → Placed b places T → Formed D T (tree_at L n) → kept_number places c v ≡ new_field L T (d.terms + terms_all (trees L (kids L n i))) (get_or (sorts_at L n) i free) (get_or (numbers_of L n) i 0)
          as_new T P F =
              let Q : ℕ = d.terms + terms_all (trees L (kids L n i)) in
              let g : Field = get_or (sorts_at L n) i free in
              let w : ℕ = get_or (numbers_of L n) i 0 in
              let y : is_child (class_number g) w ≡ false = subst (λ z. is_child (class_number g) z ≡ false) f (subst (λ z. is_child z v ≡ false) e q) in
              ap (λ z. kept_number places z v) e ∙ ap (λ z. kept_number places (class_number g) z) f
              ∙ sym (kept_field L T places Q g w y (λ s. let t = type_field_lem L n i l s in ap (λ z. get_or places z 0) t ∙ P.each (type_no L n) (typed M h) (formed_first T F) ∙ ap (λ z. place T (type_of L z)) (sym t)))

  -- All fields, and the record.
  pub begun_all : {places out₀ out out' numbers : List ℕ} {d m : Done} (i kind : ℕ) → i ≡ length (sorts_at L n) → i ≤ length numbers → kind ≡ number_at b (term_place L n) → Capacity b n d (length out₀) → Come b n i d m
      → Begun b places n d i out₀ out numbers → out' ≡ over m.at (little ((4 + 2 * length (take i numbers)) ∷ (kind ∷ take i numbers))) out → Wrote b places n d out₀ out'
  begun_all {places} {out₀} {out} {out'} {numbers} {d} {m} i kind s k e R C B w = record { over_table = told }
    where
      told : (T : List Ty) → Placed b places T → Formed D T (tree_at L n) → out' ≡ over d.at (image (term_records T d.terms (tree_at L n))) out₀
      told T P F =
          let W = B.wrote T P F in
          let before : List ℕ = image (term_records_all T d.terms (trees L (kids L n i))) in
          let fields : List ℕ = first_numbers L T n i d.terms in
          let number : ℕ = (term_row (term_kind L n)).number in
          let z : length before ≡ weight_all term_size (trees L (kids L n i)) = terms_size_all D T T d.terms (trees L (kids L n i)) (formed_kids T F i) in
          let a : m.at ≡ d.at + length before = C.at ∙ ap (λ q. d.at + q) (sym z) in
          let o : kind ≡ number = e ∙ ap (λ j. number_at j (term_place L n)) (sym (image_kept b L M.laid_out)) ∙ ((good M h).terms n h).is.stands.number in
          let v : out' ≡ over (d.at + length before) (little ((4 + 2 * length fields) ∷ (number ∷ fields))) out =
          w ∙ ap (λ q. over q (little ((4 + 2 * length (take i numbers)) ∷ (kind ∷ take i numbers))) out) a
          ∙ ap (λ q. over (d.at + length before) (little ((4 + 2 * length (take i numbers)) ∷ (q ∷ take i numbers))) out) o
          ∙ ap (λ ws. over (d.at + length before) (little ((4 + 2 * length ws) ∷ (number ∷ ws))) out) W.1 in
          let r = record_capacity i R C in
          let q : length fields ≡ i = sym (ap length W.1) ∙ length-take-le i numbers k in
          term_written L T (good M h) n d.terms h i (omega arith) out₀ d.at W.0 v (omega arith)
