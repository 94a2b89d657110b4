-- Layouts that are alike have the same types and the same terms by number, and so the same program.
use Prim.Native.Nat.{ℕ, zero, suc, ◌-◌, ◌<◌}
use native.Mathlib.Omega.{arith}
use mathlib.Core.Path.{◌≡◌, refl, sym, ap, ◌∙◌}
use mathlib.Core.List.{List, [], ◌∷◌}
use lib.ListN.{length, get_or}
use Rattle.image.specs.Bytes.{length_at, number_at, field_at}
use Rattle.image.specs.Kinds.{Field, TypeKind, domain, type_row_of, term_row, row_of, kind_of, fields_of}
use Rattle.image.specs.Records.{Layout, or_else, kind_at, times, fields_at, numbers_at, as_child, as_other, given}
use Rattle.image.specs.Types.{type_kind_of, term_kind_of, type_place, term_place, type_number, type_kind, type_fields, method_count, type_of, term_kind, type_no, others, children, stated_type}
use Rattle.image.specs.Program.{subtrees, tree, program}
use Rattle.image.proofs.Offsets.{number_at_lem}
use Rattle.image.proofs.Laid.{Below, type_there, LayoutOk}
use Rattle.image.proofs.TypeNumbers.{type_same}
use Rattle.verdict.proofs.Methods.{two_each}
use Rattle.image_trimmed.proofs.Paired.{same_kind, same_fields_lem, same_numbers_lem, same_given, pair_count, pair_at, PairAt, SameLayout}

-- The fields of a type say how often its group stands in it: only an object's type has one (card 3).
times_same : (k : TypeKind) (m n : ℕ) → fields_of (type_row_of k) (times (type_row_of k) m) ≡ fields_of (type_row_of k) (times (type_row_of k) n) → times (type_row_of k) m ≡ times (type_row_of k) n
times_same TypeKind.unit m n e = refl
times_same TypeKind.truth m n e = refl
times_same TypeKind.number m n e = refl
times_same TypeKind.pair m n e = refl
times_same TypeKind.fun m n e = refl
times_same TypeKind.ref m n e = refl
times_same TypeKind.label m n e = refl
times_same TypeKind.pcd m n e = refl
times_same TypeKind.adv m n e = refl
times_same TypeKind.obj m n e =
    let x = two_each (times (type_row_of TypeKind.obj) m) in
    let y = two_each (times (type_row_of TypeKind.obj) n) in
    let z = ap length e in
    omega arith
times_same TypeKind.stack m n e = refl

module _ {b c : List ℕ} {place : ℕ → ℕ} {L M : Layout} (A : SameLayout b c place L M) (G : LayoutOk L) where
  module _ (t : ℕ) (h : t < length L.types) where
    type_pair : PairAt b c place L.types M.types t
    type_pair = pair_at b c place A.types t h

    pub number_same : type_number M t ≡ type_number L t
    number_same = ap (λ d. number_at d (type_place M t)) A.image' ∙ (type_pair.same.number ∙ ap (λ d. number_at d (type_place L t)) (sym A.image))

    kind_same : type_kind M t ≡ type_kind L t
    kind_same = ap (λ n. type_kind_of (or_else (kind_of n) domain)) number_same

    type_row : row_of (kind_at b (type_place L t)) ≡ type_row_of (type_kind L t)
    type_row = ap row_of (ap (λ d. kind_at d (type_place L t)) (sym A.image) ∙ ap (λ q. or_else q domain) (G.types t h).kind)

    pub fields_same : type_fields M t ≡ type_fields L t
    fields_same =
        ap (λ k. numbers_at M.image (type_place M t) (type_row_of k)) kind_same
        ∙ (ap (λ d. numbers_at d (type_place M t) (type_row_of (type_kind L t))) A.image'
        ∙ (same_numbers_lem type_pair.same type_row ∙ ap (λ d. numbers_at d (type_place L t) (type_row_of (type_kind L t))) (sym A.image)))

    pub methods_same : method_count M t ≡ method_count L t
    methods_same =
        ap (λ k. times (type_row_of k) (length_at M.image (type_place M t))) kind_same
        ∙ (ap (λ d. times (type_row_of (type_kind L t)) (length_at d (type_place M t))) A.image'
        ∙ (times_same (type_kind L t) _ _ (same_fields_lem type_pair.same type_row) ∙ ap (λ d. times (type_row_of (type_kind L t)) (length_at d (type_place L t))) (sym A.image)))

  pub types_same : (t : ℕ) → t < length L.types → type_of M t ≡ type_of L t
  types_same = type_same L M G kind_same fields_same

  module _ (n : ℕ) (h : n < length L.terms) where
    term_pair : PairAt b c place L.terms M.terms n
    term_pair = pair_at b c place A.terms n h

    pub place_same : term_place M n ≡ place (term_place L n)
    place_same = term_pair.at

    pub term_kind_same : term_kind M n ≡ term_kind L n
    term_kind_same =
        ap term_kind_of (ap (λ d. kind_at d (term_place M n)) A.image' ∙ (same_kind term_pair.same ∙ ap (λ d. kind_at d (term_place L n)) (sym A.image)))

    term_row_lem : row_of (kind_at b (term_place L n)) ≡ term_row (term_kind L n)
    term_row_lem = ap row_of (ap (λ d. kind_at d (term_place L n)) (sym A.image) ∙ ap (λ q. or_else q domain) (G.terms n h).kind)

    -- What its fields give: its children, its other fields, and its type.
    given_same : (of : Field → ℕ → List ℕ)
        → given of (fields_at M.image (term_place M n) (term_row (term_kind M n))) (numbers_at M.image (term_place M n) (term_row (term_kind M n)))
        ≡ given of (fields_at L.image (term_place L n) (term_row (term_kind L n))) (numbers_at L.image (term_place L n) (term_row (term_kind L n)))
    given_same of =
        ap (λ k. given of (fields_at M.image (term_place M n) (term_row k)) (numbers_at M.image (term_place M n) (term_row k))) term_kind_same
        ∙ (ap (λ d. given of (fields_at d (term_place M n) (term_row (term_kind L n))) (numbers_at d (term_place M n) (term_row (term_kind L n)))) A.image'
        ∙ (same_given term_pair.same term_row_lem of
        ∙ ap (λ d. given of (fields_at d (term_place L n) (term_row (term_kind L n))) (numbers_at d (term_place L n) (term_row (term_kind L n)))) (sym A.image)))

    pub others_same : others M n ≡ others L n
    others_same = given_same as_other

    pub children_same : children M n ≡ children L n
    children_same = given_same as_child

    pub type_no_same : type_no M n ≡ type_no L n
    type_no_same =
        let first : (d : List ℕ) (o : ℕ) → get_or (numbers_at d o (term_row (term_kind L n))) 0 0 ≡ field_at d o 0 = λ d o. number_at_lem d o (term_row (term_kind L n)) 0 (type_there (term_kind L n) d o).1 in
        ap (λ d. field_at d (term_place M n) 0) A.image'
        ∙ (sym (first c (term_place M n))
        ∙ (ap (λ vs. get_or vs 0 0) (same_numbers_lem term_pair.same term_row_lem)
        ∙ (first b (term_place L n) ∙ ap (λ d. field_at d (term_place L n) 0) (sym A.image))))

    pub stated_same : stated_type M n ≡ stated_type L n
    stated_same = ap (λ t. type_of M t) type_no_same ∙ types_same (type_no L n) (G.terms n h).typed

  subtrees_same : (f m : ℕ) → ((e : ℕ) → e < m → tree M f e ≡ tree L f e) → (es : List ℕ) → Below m es → subtrees (λ e. tree M f e) es ≡ subtrees (λ e. tree L f e) es
  subtrees_same f m h [] d = refl
  subtrees_same f m h (e ∷ es) d = let x = h e d.0 in let y = subtrees_same f m h es d.1 in cc

  tree_same : (f n : ℕ) → n < length L.terms → tree M f n ≡ tree L f n
  unfolding tree
  tree_same zero n h = refl
  tree_same (suc f) n h =
      let k = term_kind_same n h in
      let t = stated_same n h in
      let v = others_same n h in
      let e : subtrees (λ e. tree M f e) (children M n) ≡ subtrees (λ e. tree L f e) (children L n) =
      ap (λ es. subtrees (λ e. tree M f e) es) (children_same n h) ∙ subtrees_same f n (λ e l. tree_same f e (omega arith)) (children L n) (G.terms n h).below in
      cc

  pub terms_count : length M.terms ≡ length L.terms
  terms_count = sym (pair_count b c place A.terms)

  pub program_same : 0 < length L.terms → program M ≡ program L
  unfolding program
  program_same h = ap (λ m. tree M m (m - 1)) terms_count ∙ tree_same (length L.terms) (length L.terms - 1) (omega arith)
