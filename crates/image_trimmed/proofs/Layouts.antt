-- Two images with the same records by their known fields are laid out alike: the walks over them stop at the same record, for the same cause, or lay the same records out.
use Prim.Native.Nat.{ℕ, zero, suc, ◌+◌, ◌≤◌}
use native.Mathlib.Omega.{arith}
use mathlib.Core.Path.{◌≡◌, refl, sym, ap, subst, ◌∙◌}
use mathlib.Core.Bool.{Bool, true, false, not}
use mathlib.Core.List.{List, [], ◌∷◌}
use mathlib.Core.Option.{Option, none, some}
use lib.ListN.{length}
use lib.Dec.{eqb, ltb, leb}
use borrow.Author.Tests.{ne_eqb}
use Rattle.image.specs.declared.Refusal.{Refusal}
use Rattle.image.specs.Limits.{domain_limit, type_limit, term_limit}
use Rattle.laws.specs.Tests.{all, first_fault}
use Rattle.image.specs.Bytes.{length_at, number_at}
use Rattle.image.specs.Kinds.{in_domains, in_operations, in_truths, any_number, Field, a_type, own, a_term, an_entry, TypeKind, Kind, domain, type, term, Row, type_row_of, row_of, kind_of}
use Rattle.image.specs.Records.{Layout, or_else, kind_at, fields_at, numbers_at}
use Rattle.image.specs.Layout.{nothing, framed, known, right_length, in_order_of, has_capacity, within, all_within, in_range, same_type, is_new, tests, add, Scan, stopped, laid, walk, layout}
use Rattle.laws.proofs.Booleans.{no_path, le_of, eq_of}
use Rattle.image.proofs.LaidOut.{walk_end}
use Rattle.laws.proofs.Tests.{each}
use Rattle.image_trimmed.specs.SameRecords.{SameRecord, SameFrom, ends, next, SameRecords}
use Rattle.image_trimmed.proofs.Paired.{same_kind, same_fields_lem, same_numbers_lem, no_pair, pair_count, pair_nil, pair_more, all_paired, SameLayout}

-- Tests that agree, the later ones where the first holds.
all_cong : (a d : Bool) (xs ys : List Bool) → a ≡ d → (a ≡ true → all xs ≡ all ys) → all (a ∷ xs) ≡ all (d ∷ ys)
unfolding all
all_cong true true xs ys e h = h refl
all_cong true false xs ys e h = no_path e
all_cong false true xs ys e h = no_path (sym e)
all_cong false false xs ys e h = refl

-- 8: types that are equal in one are so in the other.
type_alike : {b c : List ℕ} (k : TypeKind) {o p q r : ℕ} → SameRecord b c o p → SameRecord b c q r → kind_at b o ≡ type k → same_type b (type_row_of k) o q ≡ same_type c (type_row_of k) p r
type_alike {b} {c} k {o} {p} {q} {r} S T e =
    all_cong _ _ _ _ (rw (S.number, T.number) refl)
    (λ h.
    let n : number_at b o ≡ number_at b q = eq_of h in
    let d : kind_at b q ≡ type k = ap (λ m. or_else (kind_of m) domain) (sym n) ∙ e in
    let x : numbers_at c p (type_row_of k) ≡ numbers_at b o (type_row_of k) = same_numbers_lem S (ap row_of e) in
    let y : numbers_at c r (type_row_of k) ≡ numbers_at b q (type_row_of k) = same_numbers_lem T (ap row_of d) in
    all_cong _ _ _ _ (rw (x, y) refl) (λ _. refl))

module _ {b c : List ℕ} {place : ℕ → ℕ} {L M : Layout} (A : SameLayout b c place L M) where
  types_count : length L.types ≡ length M.types
  types_count = pair_count b c place A.types

  domains_count : length L.domains ≡ length M.domains
  domains_count = pair_count b c place A.domains

  terms_count : length L.terms ≡ length M.terms
  terms_count = pair_count b c place A.terms

  -- 5 and 6
  order_alike : (k : Kind) → in_order_of k L ≡ in_order_of k M
  order_alike domain = let x = pair_nil b c place A.types in let y = pair_nil b c place A.terms in rw (x, y) refl
  order_alike (type k) = pair_nil b c place A.terms
  order_alike (term k) = refl

  capacity_alike : (k : Kind) → has_capacity k L ≡ has_capacity k M
  capacity_alike domain = ap (λ n. ltb n domain_limit) domains_count
  capacity_alike (type k) = ap (λ n. ltb n type_limit) types_count
  capacity_alike (term k) = ap (λ n. ltb n term_limit) terms_count

  -- 7
  within_alike : (f : Field) (v : ℕ) → within L f v ≡ within M f v
  within_alike a_type v = ap (ltb v) types_count
  within_alike (own in_domains) v = ap (ltb v) domains_count
  within_alike (own in_operations) v = refl
  within_alike (own in_truths) v = refl
  within_alike (own any_number) v = refl
  within_alike (a_term x) v = ap (ltb v) terms_count
  within_alike an_entry v = ap (leb v) terms_count

  all_within_alike : (fs : List Field) (vs : List ℕ) → all_within L fs vs ≡ all_within M fs vs
  unfolding all_within
  all_within_alike [] vs = refl
  all_within_alike (f ∷ fs) [] = refl
  all_within_alike (f ∷ fs) (v ∷ vs) = let x = within_alike f v in let y = all_within_alike fs vs in cc

  -- A record of L, at o, and its place in M.
  module _ (o : ℕ) (S : SameRecord b c o (place o)) where
    range_alike : {r : Row} → row_of (kind_at b o) ≡ r → in_range L o r ≡ in_range M (place o) r
    range_alike {r} e =
        ap (λ d. all_within L (fields_at d o r) (numbers_at d o r)) A.image
        ∙ (all_within_alike (fields_at b o r) (numbers_at b o r)
        ∙ (ap (λ fs. all_within M fs (numbers_at b o r)) (sym (same_fields_lem S e))
        ∙ (ap (λ vs. all_within M (fields_at c (place o) r) vs) (sym (same_numbers_lem S e))
        ∙ ap (λ d. all_within M (fields_at d (place o) r) (numbers_at d (place o) r)) (sym A.image'))))

    new_alike : (k : Kind) → kind_at b o ≡ k → is_new k o L ≡ is_new k (place o) M
    new_alike domain e = refl
    new_alike (type k) e =
        all_paired b c place (λ q. not (same_type L.image (type_row_of k) o q)) (λ q. not (same_type M.image (type_row_of k) (place o) q))
        (λ q r T. rw (A.image, A.image') (ap not (type_alike k S T e))) A.types
    new_alike (term k) e = refl

    kind_alike : kind_at M.image (place o) ≡ kind_at L.image o
    kind_alike = ap (λ d. kind_at d (place o)) A.image' ∙ (same_kind S ∙ ap (λ d. kind_at d o) (sym A.image))

    -- 2 to 8
    tests_alike : tests L o ≡ tests M (place o)
    unfolding tests
    tests_alike =
        let i = A.image in
        let j = A.image' in
        let q : kind_at b o ≡ kind_at L.image o = ap (λ d. kind_at d o) (sym i) in
        let k : kind_at L.image o ≡ kind_at M.image (place o) = sym kind_alike in
        let x2 : framed L.image o ≡ framed M.image (place o) = rw (i, j) (S.here.whole ∙ sym S.there.whole) in
        let x3 : known L.image o ≡ known M.image (place o) = rw (i, j) (S.here.known ∙ sym S.there.known) in
        let x4 : right_length (row_of (kind_at L.image o)) (length_at L.image o) ≡ right_length (row_of (kind_at M.image (place o))) (length_at M.image (place o)) =
        rw (i, j) (S.here.long ∙ sym S.there.long) in
        let x5 : in_order_of (kind_at L.image o) L ≡ in_order_of (kind_at M.image (place o)) M = order_alike (kind_at L.image o) ∙ ap (λ h. in_order_of h M) k in
        let x6 : has_capacity (kind_at L.image o) L ≡ has_capacity (kind_at M.image (place o)) M = capacity_alike (kind_at L.image o) ∙ ap (λ h. has_capacity h M) k in
        let x7 : in_range L o (row_of (kind_at L.image o)) ≡ in_range M (place o) (row_of (kind_at M.image (place o))) =
        range_alike (ap row_of q) ∙ ap (λ h. in_range M (place o) (row_of h)) k in
        let x8 : is_new (kind_at L.image o) o L ≡ is_new (kind_at M.image (place o)) (place o) M = new_alike (kind_at L.image o) q ∙ ap (λ h. is_new h (place o) M) k in
        cc

    add_alike : (k : Kind) → SameLayout b c place (add k o L) (add k (place o) M)
    add_alike domain = record { image = A.image; image' = A.image'; domains = pair_more b c place o A.domains S; types = A.types; terms = A.terms }
    add_alike (type k) = record { image = A.image; image' = A.image'; domains = A.domains; types = pair_more b c place o A.types S; terms = A.terms }
    add_alike (term k) = record { image = A.image; image' = A.image'; domains = A.domains; types = A.types; terms = pair_more b c place o A.terms S }

-- One turn of the walk.
walk_stop : (f o : ℕ) (L : Layout) → eqb o (length L.image) ≡ false → (r : Refusal) → first_fault (tests L o) ≡ some r → walk (suc f) o L ≡ stopped r o
unfolding walk
walk_stop f o L e r h = rw (e, h, walk) refl

walk_on : (f o : ℕ) (L : Layout) → eqb o (length L.image) ≡ false → first_fault (tests L o) ≡ none → walk (suc f) o L ≡ walk f (o + length_at L.image o) (add (kind_at L.image o) o L)
unfolding walk
walk_on f o L e h = rw (e, h, walk) refl

-- A readable record has 4 bytes or more, inside the image.
pub frame : (b : List ℕ) (o : ℕ) → framed b o ≡ true → (o + 4 ≤ length b) × (4 ≤ length_at b o) × (o + length_at b o ≤ length b)
frame b o w = let z = each _ w in (le_of z.0, le_of z.1.0, le_of z.1.1.0)

module _ (b c : List ℕ) (place : ℕ → ℕ) where
  -- What the walks over the two come to.
  pub data ScanAlike : Scan → Scan → Type 0 where
    both_stopped : (r : Refusal) (o : ℕ) → ScanAlike (stopped r o) (stopped r (place o))
    both_laid : (L M : Layout) → SameLayout b c place L M → ScanAlike (laid L) (laid M)

  walk_alike : (f g : ℕ) {o : ℕ} (L M : Layout) → SameFrom b c place o → SameLayout b c place L M → length b ≤ o + f → length c ≤ place o + g → ScanAlike (walk f o L) (walk g (place o) M)
  walk_alike f g L M (ends o e d) A l m = rw (walk_end f o L (rw A.image e), walk_end g (place o) M (rw A.image' d)) (both_laid L M A)
  walk_alike zero g L M (next o S s F) A l m = let w = (frame b o S.here.whole).0 in absurd (omega arith)
  walk_alike (suc f) zero L M (next o S s F) A l m = let w = (frame c (place o) S.there.whole).0 in absurd (omega arith)
  walk_alike (suc f) (suc g) L M (next o S s F) A l m =
      go (λ K N B. walk_alike f g K N F B (let z = (frame b o S.here.whole).1 in omega arith) (rw s (let z = (frame c (place o) S.there.whole).1 in omega arith))) (first_fault (tests L o)) refl
    where
      inside : eqb o (length L.image) ≡ false
      inside = rw A.image (ne_eqb o (length b) (λ e. let z = (frame b o S.here.whole).0 in omega arith))

      inside' : eqb (place o) (length M.image) ≡ false
      inside' = rw A.image' (ne_eqb (place o) (length c) (λ e. let z = (frame c (place o) S.there.whole).0 in omega arith))

      k : Kind
      k = kind_at L.image o

      go : ((K N : Layout) → SameLayout b c place K N → ScanAlike (walk f (o + length_at b o) K) (walk g (place (o + length_at b o)) N)) → (x : Option Refusal) → first_fault (tests L o) ≡ x
          → ScanAlike (walk (suc f) o L) (walk (suc g) (place o) M)
      go rest (some r) h = rw (walk_stop f o L inside r h, walk_stop g (place o) M inside' r (ap first_fault (sym (tests_alike A o S)) ∙ h)) (both_stopped r o)
      go rest none h =
          let x : walk (suc f) o L ≡ walk f (o + length_at b o) (add k o L) = walk_on f o L inside h ∙ ap (λ d. walk f (o + length_at d o) (add k o L)) A.image in
          let y : walk (suc g) (place o) M ≡ walk g (place (o + length_at b o)) (add k (place o) M) =
          walk_on g (place o) M inside' (ap first_fault (sym (tests_alike A o S)) ∙ h)
          ∙ (ap (λ d. walk g (place o + length_at d (place o)) (add (kind_at M.image (place o)) (place o) M)) A.image'
          ∙ (ap (λ q. walk g q (add (kind_at M.image (place o)) (place o) M)) (sym s) ∙ ap (λ j. walk g (place (o + length_at b o)) (add j (place o) M)) (kind_alike A o S))) in
          rw (x, y) (rest (add k o L) (add k (place o) M) (add_alike A o S k))

  pub layouts_alike : SameRecords b c place → ScanAlike (layout b) (layout c)
  unfolding layout
  layouts_alike R =
      subst (λ q. ScanAlike (walk (length b) 0 (nothing b)) (walk (length c) q (nothing c))) R.start
      (walk_alike (length b) (length c) (nothing b) (nothing c) R.each (record { image = refl; image' = refl; domains = no_pair; types = no_pair; terms = no_pair }) (omega arith) (omega arith))
