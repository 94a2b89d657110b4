-- The written form of an accepted image is no longer than the image.
use Prim.Native.Nat.{ℕ, ◌+◌, ◌-◌, ◌*◌, ◌≤◌, ◌<◌}
use native.Mathlib.Omega.{arith}
use mathlib.Core.Path.{◌≡◌, refl, sym, ap, subst, ◌∙◌}
use mathlib.Core.Bool.{Bool, true, false}
use mathlib.Core.List.{List, [], ◌∷◌, ◌++◌, map}
use lib.ListN.{length, get_or, length-append, length-map}
use lib.Dec.{eqb}
use Rattle.calculus.specs.Syntax.{Ty}
use Rattle.calculus.specs.Combinators.{choose}
use Rattle.image.specs.Bytes.{length_at}
use Rattle.image.specs.Kinds.{TermKind, Kind, domain, type, term, type_row_of, term_row, again, fields_of}
use Rattle.image.specs.TermFields.{giving, standing, times_for, term_fields}
use Rattle.image.specs.Records.{Layout, kind_at, times, fields_at, numbers_at, as_child, as_other}
use Rattle.image.specs.Layout.{nothing, add, laid, layout}
use Rattle.image.specs.Types.{head_of, type_of, type_kind, type_place, term_place, term_kind, children, root_of}
use Rattle.image.specs.Program.{Program, Programs, node, blank, end, more, program}
use Rattle.laws.proofs.Booleans.{no_path, eq_of}
use Rattle.image.proofs.Words.{words_length}
use Rattle.image.proofs.Laid.{LayoutOk, Below, walk_reaches}
use Rattle.image.proofs.EveryKind.{has_type}
use Rattle.image.proofs.TermFields.{times_for_lem}
use Rattle.image.proofs.TypeNumbers.{kind_head}
use Rattle.verdict.specs.Shape.{count, used_once}
use Rattle.verdict.specs.Domains.{masks}
use Rattle.image_written.specs.TypeParts.{parts_of}
use Rattle.image_written.specs.Table.{place, has, enter, entered, table_of, types_in}
use Rattle.image_written.specs.Records.{Record, record_of, size, bytes, image}
use Rattle.image_written.specs.Written.{terms, roots, domain_record, type_record, term_records, term_records_all, records_over, written_over}
use Rattle.image_written.proofs.Reading.{bytes_length}
use Rattle.image_written.proofs.Writable.{TableFrom, Fielded, Formed, FormedAll, Every, Shaped, several}
use Rattle.image_written.proofs.Laying.{image_append, roots_length, fielded}
use Rattle.image_written.proofs.Filled.{fields_count}
use Rattle.image_written.proofs.TypeParts.{row_parts}
use Rattle.image_written.proofs.Places.{has_more, has_last}
use Rattle.image_written.proofs.Tables.{parts_length, fields_length}
use Rattle.image_written.proofs.Entering.{table_of_lem, formed_of}
use Rattle.image_written.proofs.Sums.{sum_of, sum_le, sum_const, multiple, multiple_ones, sum_distinct, sum_places, sum_append, Weighing, weight, weight_all, weight_terms, own, weight_all_lem}
use Rattle.image_written.proofs.Taken.{type_groups, program_every}

-- The bytes of records.
pub append_size : (xs ys : List Record) → length (image (xs ++ ys)) ≡ length (image xs) + length (image ys)
append_size xs ys = ap length (image_append xs ys) ∙ length-append (image xs) (image ys)

image_one : (r : Record) → length (image (r ∷ [])) ≡ size r
unfolding image
image_one r = length-append (bytes r) [] ∙ (let z = bytes_length r in omega arith)

-- A term's fields are told by its kind, its others and how many children it has.
abbrev pub term_size : Weighing
term_size k vs n = 4 + 2 * length (fields_of (term_row k) (standing (term_row k).group (length vs - giving as_other 0 ((term_row k).first ++ (term_row k).last)) (n - giving as_child 0 ((term_row k).first ++ (term_row k).last))))

-- It has one for its type.
pub least_size : (k : TermKind) (vs : List ℕ) (n : ℕ) → 6 ≤ term_size k vs n
least_size k vs n =
    let z = has_type k in
    let c : ℕ = standing (term_row k).group (length vs - giving as_other 0 ((term_row k).first ++ (term_row k).last)) (n - giving as_child 0 ((term_row k).first ++ (term_row k).last)) in
    let y = length-append (term_row k).first (again c (term_row k).group ++ (term_row k).last) in
    omega arith

size_of : (n : ℕ) (k : TermKind) (vs ns : List ℕ) → Fielded n k vs (length ns) → (t : ℕ) → 4 + 2 * length (term_fields k t vs ns) ≡ term_size k vs (length ns)
size_of n k vs ns F t =
    let c : times_for (term_row k) vs ns ≡ F.groups = subst (λ xs. times_for (term_row k) xs ns ≡ F.groups) F.others (times_for_lem k F.groups F.numbers F.sized.count F.sized.none ns (sym F.children)) in
    ap (λ q. 4 + 2 * q) (fields_count n k vs ns F t ∙ ap (λ g. length (fields_of (term_row k) g)) (sym c))

pub domains_size : (ms : List ℕ) → length (image (map (λ m. domain_record m) ms)) ≡ multiple (length ms) 6
unfolding image multiple
domains_size [] = refl
domains_size (m ∷ ms) = length-append (bytes (domain_record m)) (image (map (λ m. domain_record m) ms)) ∙ (let a = bytes_length (domain_record m) in let b = domains_size ms in omega arith)

module _ (n : ℕ) (T U : List Ty) where
  mutual
    unfolding weight term_records image Formed

    pub terms_size : (m : ℕ) (e : Program) → Formed n U e → length (image (term_records T m e)) ≡ weight term_size e
    terms_size m (node k t vs es) h =
        let r : Record = record_of (term k) (term_fields k (place T t) vs (roots m es)) in
        let a = append_size (term_records_all T m es) (r ∷ []) in
        let b = image_one r in
        let c = terms_size_all m es h.2 in
        let d : size r ≡ term_size k vs (several es) = size_of n k vs (roots m es) (fielded n U k vs m es h.1) (place T t) ∙ ap (λ q. term_size k vs q) (roots_length m es) in
        omega arith
    terms_size m blank h = refl

    pub terms_size_all : (m : ℕ) (es : Programs) → FormedAll n U es → length (image (term_records_all T m es)) ≡ weight_all term_size es
    terms_size_all m end h = refl
    terms_size_all m (more e es) h = let a = append_size (term_records T m e) (term_records_all T (m + terms e) es) in let b = terms_size m e h.0 in let c = terms_size_all (m + terms e) es h.1 in omega arith

-- The length of an image that is laid out is that of its records.
abbrev pub total : Layout → ℕ
total L = sum_of (λ o. length_at L.image o) L.domains + sum_of (λ o. length_at L.image o) L.types + sum_of (λ o. length_at L.image o) L.terms

total_add : (L : Layout) (o : ℕ) (k : Kind) → total (add k o L) ≡ total L + length_at L.image o
unfolding sum_of
total_add L o domain = let a = sum_append (λ p. length_at L.image p) L.domains (o ∷ []) in omega arith
total_add L o (type k) = let a = sum_append (λ p. length_at L.image p) L.types (o ∷ []) in omega arith
total_add L o (term k) = let a = sum_append (λ p. length_at L.image p) L.terms (o ∷ []) in omega arith

pub layout_total : (b : List ℕ) (L : Layout) → layout b ≡ laid L → total L ≡ length L.image
unfolding layout sum_of
layout_total b L h =
    walk_reaches (λ o K. total K ≡ o) (λ o K q g. total_add K o (kind_at K.image o) ∙ ap (λ x. x + length_at K.image o) g) (length b) 0 (nothing b) L h refl

-- Types of a table, and type numbers of a layout for them.
module _ (L : Layout) (good : LayoutOk L) where
  abbrev pub From : Ty → Type 0
  From t = (j : ℕ) × (j < length L.types) × (type_of L j ≡ t)

  every_snoc : (xs : List Ty) (t : Ty) → Every From xs → From t → Every From (xs ++ (t ∷ []))
  every_snoc [] t h k = (k, tt)
  every_snoc (x ∷ xs) t h k = (h.0, every_snoc xs t h.1 k)

  every_entered : (T ts : List Ty) → Every From T → Every From ts → Every From (entered T ts)
  unfolding entered
  every_entered T [] h k = h
  every_entered T (t ∷ ts) h k = every_entered (enter T t) ts (go (has T t) refl) k.1
    where
      go : (c : Bool) → has T t ≡ c → Every From (choose (has T t) T (T ++ (t ∷ [])))
      go true q = rw q h
      go false q = rw q (every_snoc T t h k.0)

  abbrev numbers : (T : List Ty) → Every From T → List ℕ
  numbers [] h = []
  numbers (t ∷ ts) h = h.0.0 ∷ numbers ts h.1

  numbers_below : (T : List Ty) (h : Every From T) → Below (length L.types) (numbers T h)
  numbers_below [] h = tt
  numbers_below (t ∷ ts) h = (h.0.1, numbers_below ts h.1)

  -- A type that the table has in front stands not behind.
  numbers_none : (n : ℕ) (done ts : List Ty) → TableFrom n done ts → (h : Every From ts) (c : ℕ) → has done (type_of L c) ≡ true → count c (numbers ts h) ≡ 0
  unfolding count
  numbers_none n done [] w h c k = refl
  numbers_none n done (t ∷ ts) w h c k = go (eqb c h.0.0) refl (numbers_none n (done ++ (t ∷ [])) ts w.3 h.1 c (has_more done (t ∷ []) (type_of L c) k))
    where
      go : (x : Bool) → eqb c h.0.0 ≡ x → count c (numbers ts h.1) ≡ 0 → choose (eqb c h.0.0) 1 0 + count c (numbers ts h.1) ≡ 0
      go true q r =
          let e : type_of L c ≡ t = ap (λ j. type_of L j) (eq_of q) ∙ h.0.2 in
          no_path (sym (subst (λ u. has done u ≡ true) e k) ∙ w.0)
      go false q r = rw q (omega arith)

  numbers_once : (n : ℕ) (done ts : List Ty) → TableFrom n done ts → (h : Every From ts) (c : ℕ) → count c (numbers ts h) ≤ 1
  unfolding count
  numbers_once n done [] w h c = omega arith
  numbers_once n done (t ∷ ts) w h c = go (eqb c h.0.0) refl (numbers_once n (done ++ (t ∷ [])) ts w.3 h.1 c)
    where
      go : (x : Bool) → eqb c h.0.0 ≡ x → count c (numbers ts h.1) ≤ 1 → choose (eqb c h.0.0) 1 0 + count c (numbers ts h.1) ≤ 1
      go true q r =
          let e : t ≡ type_of L c = sym (ap (λ j. type_of L j) (eq_of q) ∙ h.0.2) in
          let z = numbers_none n (done ++ (t ∷ [])) ts w.3 h.1 c (subst (λ u. has (done ++ (t ∷ [])) u ≡ true) e (has_last done t)) in
          rw q (omega arith)
      go false q r = rw q (omega arith)

  numbers_length : (T : List Ty) (h : Every From T) → length T ≡ sum_of (λ j. 1) (numbers T h)
  unfolding sum_of
  numbers_length [] h = refl
  numbers_length (t ∷ ts) h = let a = numbers_length ts h.1 in omega arith

  -- A table of the layout's types has no more of them than the layout.
  pub table_few : (n : ℕ) (T : List Ty) → TableFrom n [] T → Every From T → length T ≤ length L.types
  table_few n T w h =
      let a = numbers_length T h in
      let b = sum_distinct (length L.types) (λ j. 1) (numbers T h) (numbers_below T h) (numbers_once n [] T w h) in
      let c = sum_const (length L.types) 1 in
      let d = multiple_ones (length L.types) in
      omega arith

  abbrev type_size : ℕ → ℕ
  type_size j = 4 + 2 * length (parts_of (type_of L j))

  numbers_size : (U T : List Ty) (h : Every From T) → length (image (map (λ t. type_record U t) T)) ≡ sum_of type_size (numbers T h)
  unfolding image sum_of
  numbers_size U [] h = refl
  numbers_size U (t ∷ ts) h =
      let a = length-append (bytes (type_record U t)) (image (map (λ t. type_record U t) ts)) in
      let b = bytes_length (type_record U t) in
      let c = parts_length U (parts_of t) in
      let d : length (parts_of (type_of L h.0.0)) ≡ length (parts_of t) = ap (λ u. length (parts_of u)) h.0.2 in
      let e = numbers_size U ts h.1 in
      omega arith

  type_size_lem : (j : ℕ) → j < length L.types → type_size j ≤ length_at L.image (type_place L j)
  type_size_lem j l =
      let s = (good.types j l).is.stands.size in
      let n : ℕ = times (type_row_of (type_kind L j)) (length_at L.image (type_place L j)) in
      let a : length (fields_of (type_row_of (type_kind L j)) n) ≡ length (parts_of (type_of L j)) =
      ap (λ k. length (fields_of (type_row_of k) n)) (kind_head L good j l) ∙ ap (λ c. length (fields_of (type_row_of (head_of (type_of L j))) c)) (sym (type_groups L good j l)) ∙ ap length (row_parts (type_of L j)).0 ∙ fields_length (parts_of (type_of L j)) in
      omega arith

  -- A term's own bytes are those of its known fields.
  pub own_size : (m : ℕ) → own term_size L m ≡ 4 + 2 * length (fields_at L.image (term_place L m) (term_row (term_kind L m)))
  own_size m =
      let b : List ℕ = L.image in
      let o : ℕ = term_place L m in
      let k : TermKind = term_kind L m in
      ap (λ g. 4 + 2 * length (fields_of (term_row k) g)) (times_for_lem k (times (term_row k) (length_at b o)) (numbers_at b o (term_row k)) (words_length b (o + 4) (length (fields_at b o (term_row k)))) (λ h. rw h refl) (children L m) refl)

  term_size_lem : (m : ℕ) → m < length L.terms → own term_size L m ≤ length_at L.image (term_place L m)
  term_size_lem m l =
      let s = (good.terms m l).is.stands.size in
      let e = own_size m in
      omega arith

  domain_size : (d : ℕ) → d < length L.domains → 6 ≤ length_at L.image (get_or L.domains d 0)
  domain_size d l = let s = (good.domains d l).size in omega arith

  pub program_from : 0 < length L.terms → Every From (types_in (program L))
  program_from h = program_every L good From (λ t l. (t, l, refl)) h

  module _ (once : (y : ℕ) → y < root_of L → used_once L y ≡ true) (some_terms : 0 < length L.terms) where
    pub few_terms : terms (program L) ≡ length L.terms
    few_terms =
        let a = weight_terms (program L) in
        let b = weight_all_lem (λ k vs n. 1) L good once some_terms in
        let c = sum_const (length L.terms) 1 in
        let d = multiple_ones (length L.terms) in
        omega arith

    -- A program whose types are the layout's, and that weighs no more than the layout's own.
    module _ (whole : total L ≡ length L.image) (n : ℕ) (e : Program) (from : Every From (types_in e)) (shaped : Shaped n e) (lighter : weight term_size e ≤ weight term_size (program L)) where
      froms : Every From (table_of e)
      unfolding table_of
      froms = every_entered [] (types_in e) tt from

      pub few_types : length (table_of e) ≤ length L.types
      few_types = table_few n (table_of e) (table_of_lem n e shaped) froms

      pub no_longer : length (written_over (table_of e) (masks L) e) ≤ length L.image
      unfolding written_over records_over
      no_longer =
          let T : List Ty = table_of e in
          let ds : List Record = map (λ m. domain_record m) (masks L) in
          let ts : List Record = map (λ t. type_record T t) T in
          let es : List Record = term_records T 0 e in
          let a : length (image (ds ++ (ts ++ es))) ≡ length (image ds) + (length (image ts) + length (image es)) = append_size ds (ts ++ es) ∙ ap (λ q. length (image ds) + q) (append_size ts es) in
          let d1 : length (image ds) ≡ multiple (length L.domains) 6 = domains_size (masks L) ∙ ap (λ q. multiple q 6) (length-map L.domains _) in
          let d2 = sum_const (length L.domains) 6 in
          let d3 = sum_le (length L.domains) (λ c. 6) (λ d. length_at L.image (get_or L.domains d 0)) domain_size in
          let d4 = sum_places (λ o. length_at L.image o) L.domains in
          let d : length (image ds) ≤ sum_of (λ o. length_at L.image o) L.domains = omega arith in
          let t1 = numbers_size T T froms in
          let t2 = sum_distinct (length L.types) type_size (numbers T froms) (numbers_below T froms) (numbers_once n [] T (table_of_lem n e shaped) froms) in
          let t3 = sum_le (length L.types) type_size (λ j. length_at L.image (type_place L j)) type_size_lem in
          let t4 = sum_places (λ o. length_at L.image o) L.types in
          let t : length (image ts) ≤ sum_of (λ o. length_at L.image o) L.types = omega arith in
          let e1 = terms_size n T T 0 e (formed_of n e shaped) in
          let e2 = weight_all_lem term_size L good once some_terms in
          let e3 = sum_le (length L.terms) (λ m. own term_size L m) (λ m. length_at L.image (term_place L m)) term_size_lem in
          let e4 = sum_places (λ o. length_at L.image o) L.terms in
          let f : length (image es) ≤ sum_of (λ o. length_at L.image o) L.terms = omega arith in
          omega arith
