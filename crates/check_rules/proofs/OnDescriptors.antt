-- The rule of a term, on the descriptors of the types and the masks of the domains, comes to what the rule of the definition comes to.
use Rattle.std.specs.Prelude.{Ok}
use Prim.Native.Nat.{ℕ, zero, suc, ◌+◌, ◌-◌, ◌*◌, ◌<◌}
use native.Mathlib.Omega.{arith}
use mathlib.Core.Path.{◌≡◌, refl, sym, ap, subst, ◌∙◌}
use mathlib.Core.Bool.{Bool, true, ◌&&◌}
use mathlib.Core.List.{List, [], ◌∷◌, ◌++◌, map}
use lib.ListN.{length, get_or, length-map}
use lib.Dec.{eqb}
use Rattle.calculus.specs.Syntax.{Dom}
use Rattle.laws.specs.Tests.{all, all_of}
use Rattle.image.specs.Bytes.{le16, words}
use Rattle.image.specs.Kinds.{Body, here, object_body, a_term, TypeKind, TermKind, term_row, again}
use Rattle.image.specs.Records.{times, as_child, given}
use Rattle.image.specs.Layout.{records_of}
use Rattle.image.specs.Types.{type_no}
use Rattle.image.proofs.Words.{words_at}
use Rattle.image.proofs.Offsets.{side_by_side}
use Rattle.image.proofs.Laid.{Below}
use Rattle.verdict.specs.Domains.{leq}
use Rattle.verdict.specs.Settings.{Setting}
use Rattle.verdict.specs.Rules.{Descriptor, Rule, fits, fits_at, is, rule}
use Rattle.verdict.specs.Check.{describe, described, type_nos}
use Rattle.verdict.proofs.Descriptors.{same_rule}
use Rattle.read_records.specs.Heads.{field_in}
use Rattle.read_records.specs.Descriptors.{descriptor_kind, descriptor_field0, descriptor_field1}
use Rattle.read_terms.specs.Lent.{Types, Lent, Masks, IsType, IsTerm}
use Rattle.read_terms.specs.Fields.{count_in, children_in, others_in, types_in, Typed, AtField, Labels, entry_terms, Entries}
use Rattle.check_rules.specs.Rules.{rule_in}
use Rattle.check_rules.specs.Judged.{judged, label_of, label_above, cut_of}
use Rattle.read_terms.specs.Descriptors.{descriptor_is}
use Rattle.read_terms.specs.Masks.{bit_of}
use Rattle.check_rules.proofs.Small.{alone, accepted}
use Rattle.laws.proofs.Lists.{map_at}
use Rattle.read_terms.proofs.Lists.{tests_mapped, tests_both, each_mapped}
use Rattle.read_terms.proofs.Matches.{match_children, entry_there}
use Rattle.read_terms.proofs.Counts.{giving_fields, children_counted}
use Rattle.read_terms.proofs.Elimination.{constants}
use Rattle.read_terms.proofs.Descriptors.{unpacked, describes}
use Rattle.read_terms.proofs.Located.{typed_in, type_in_lem}
use Rattle.read_terms.proofs.Masks.{order_is}

-- The descriptor of a term's own type, and of the type of the child at field k.
abbrev pub own_descriptor : List ℕ → List ℕ → ℕ
own_descriptor descriptors fs = get_or descriptors (field_in fs 0) 0

abbrev pub type_at_field : List ℕ → List ℕ → ℕ → ℕ
type_at_field b fs k = type_no (records_of b) (field_in fs k)

abbrev pub descriptor_at_field : List ℕ → List ℕ → List ℕ → ℕ → ℕ
descriptor_at_field b descriptors fs k = get_or descriptors (type_at_field b fs k) 0

pub at_field_typed : {b terms descriptors fs : List ℕ} {k : ℕ} → Lent b terms descriptors → AtField b fs k → IsType b (type_at_field b fs k)
at_field_typed G u = rw (← type_in_lem G.terms u.term) (typed_in G.terms u.term).type

-- What a table of descriptors says of some types.
abbrev described_in : List ℕ → List ℕ → List ℕ → List Descriptor
described_in b descriptors ts = map (λ a. unpacked (records_of b) a (get_or descriptors a 0)) ts

describes_all : {b descriptors : List ℕ} → Types b descriptors → (ts : List ℕ) → Below (length (records_of b).types) ts → described (records_of b) ts ≡ described_in b descriptors ts
describes_all K [] w = refl
describes_all {b} {descriptors} K (t ∷ ts) w =
    ap (λ d. d ∷ described (records_of b) ts) (describes K w.0) ∙ ap (λ ds. unpacked (records_of b) t (get_or descriptors t 0) ∷ ds) (describes_all K ts w.1)

-- The rule of a term of kind k on its fields: at a kind, it computes to the tests that a program makes.
module _ {b descriptors fs : List ℕ} (K : Types b descriptors) (t : Typed b fs) (place : ℕ) (k : TermKind) (p : Setting ℕ) (w : Below (length (records_of b).types) (types_in b fs k)) where
  abbrev rule_on : (Dom → Dom → Bool) → Rule
  rule_on order = rule order p.context p.dom (unpacked (records_of b) (field_in fs 0) (own_descriptor descriptors fs)) (others_in fs k) (described_in b descriptors (types_in b fs k)) k

  on_order : (order : Dom → Dom → Bool) → ((d e : Dom) → order d e ≡ leq (records_of b) d e) → judged place (rule_on order) ≡ judged place (rule_in b fs k p)
  on_order order o =
      ap (judged place)
      (same_rule order (leq (records_of b)) o p.context p.dom (unpacked (records_of b) (field_in fs 0) (own_descriptor descriptors fs)) (describe (records_of b) (field_in fs 0)) (sym (describes K t.type)) (others_in fs k)
      (described_in b descriptors (types_in b fs k)) (described (records_of b) (types_in b fs k)) (sym (describes_all K (types_in b fs k) w)) k)

  -- Of a kind that does not ask the order of the domains; of one that may.
  pub on_descriptors : judged place (rule_on (leq (records_of b))) ≡ judged place (rule_in b fs k p)
  on_descriptors = on_order (leq (records_of b)) (λ d e. refl)

  pub on_masks : {ms : List ℕ} → Masks b ms → judged place (rule_on (bit_of ms)) ≡ judged place (rule_in b fs k p)
  on_masks {ms} M = on_order (bit_of ms) (λ d e. sym (order_is b ms M d e))

-- One test alone.
one_test : (place : ℕ) (x d : Bool) → judged place (record { bound = true; typed = x; allowed = d }) ≡ judged place (fits_at (x ∷ []) d)
one_test place x d = ap (λ t. judged place (record { bound = true; typed = t; allowed = d })) (sym (alone x))

module _ {b descriptors fs : List ℕ} (K : Types b descriptors) (t : Typed b fs) (place : ℕ) (p : Setting ℕ) where
  pub new_label_right : {ms : List ℕ} → Masks b ms
      → judged place (record { bound = true; typed = descriptor_is (own_descriptor descriptors fs) TypeKind.label; allowed = bit_of ms (descriptor_field1 (own_descriptor descriptors fs)) p.dom }) ≡ judged place (rule_in b fs TermKind.new_label p)
  unfolding words
  new_label_right M = one_test place _ _ ∙ on_masks K t place TermKind.new_label p tt M

  pub stack_right : judged place (record { bound = true; typed = descriptor_is (own_descriptor descriptors fs) TypeKind.stack; allowed = true }) ≡ judged place (rule_in b fs TermKind.stack p)
  unfolding words
  stack_right = one_test place _ _ ∙ on_descriptors K t place TermKind.stack p tt

  -- Card 7: the domain that a takedown names stands behind its type.
  pub takedown_right : {ms : List ℕ} → Masks b ms
      → judged place (record { bound = true; typed = descriptor_is (own_descriptor descriptors fs) TypeKind.unit; allowed = bit_of ms (field_in fs 1) p.dom }) ≡ judged place (rule_in b fs TermKind.takedown p)
  unfolding words
  takedown_right M = one_test place _ _ ∙ on_masks K t place TermKind.takedown p tt M

  -- A constant: the number of its kind is 16 more than that of its type's.
  pub constant_right : (k : TermKind) → (term_row k).number < 35
      → judged place (record { bound = true; typed = eqb (descriptor_kind (own_descriptor descriptors fs)) ((term_row k).number - 16); allowed = true }) ≡ judged place (rule_in b fs k p)
  unfolding words
  constant_right =
      constants (λ k. judged place (record { bound = true; typed = eqb (descriptor_kind (own_descriptor descriptors fs)) ((term_row k).number - 16); allowed = true }) ≡ judged place (rule_in b fs k p))
      (one_test place _ _ ∙ on_descriptors K t place TermKind.unit p tt) (one_test place _ _ ∙ on_descriptors K t place TermKind.truth p tt) (one_test place _ _ ∙ on_descriptors K t place TermKind.number p tt)

-- Abort fits everywhere.
pub abort_right : (place : ℕ) (b fs : List ℕ) (p : Setting ℕ) → (Ok tt) ≡ judged place (rule_in b fs TermKind.abort p)
unfolding all
abort_right place b fs p = accepted place true (all []) true refl refl refl

-- The labels of a pointcut, or the bodies of an object (card 3), stand side by side behind its type: c children, each a term f.
side_by_side_lem : (b : List ℕ) (o c : ℕ) (q : Body) → given as_child (again c (a_term q ∷ []) ++ []) (words b o (length (again c (a_term q ∷ []) ++ []))) ≡ words b o c
unfolding words
side_by_side_lem b o zero q = refl
side_by_side_lem b o (suc c) q = ap (λ es. le16 b o ∷ es) (side_by_side_lem b (o + 2) c q)

labels_are : (fs : List ℕ) → children_in fs TermKind.pcd ≡ words fs 2 (count_in fs TermKind.pcd)
unfolding words
labels_are fs =
    let c : ℕ = times (term_row TermKind.pcd) (4 + length fs) in
    let e = giving_fields 0 c (term_row TermKind.pcd) in
    let n : c ≡ count_in fs TermKind.pcd = omega arith in
    side_by_side_lem fs 2 c here ∙ ap (words fs 2) n

bodies_are : (fs : List ℕ) → children_in fs TermKind.obj ≡ words fs 2 (count_in fs TermKind.obj)
unfolding words
bodies_are fs =
    let c : ℕ = times (term_row TermKind.obj) (4 + length fs) in
    let e = giving_fields 0 c (term_row TermKind.obj) in
    let n : c ≡ count_in fs TermKind.obj = omega arith in
    side_by_side_lem fs 2 c object_body ∙ ap (words fs 2) n

pub types_length : (b fs : List ℕ) (k : TermKind) → side_by_side k ≡ true → length (types_in b fs k) ≡ count_in fs k
types_length b fs k side = length-map (children_in fs k) (λ e. type_no (records_of b) e) ∙ children_counted fs k side

type_at : (b fs : List ℕ) (k : TermKind) → side_by_side k ≡ true → children_in fs k ≡ words fs 2 (count_in fs k) → (i : ℕ) → i < count_in fs k → get_or (types_in b fs k) i 0 ≡ type_at_field b fs (1 + i)
type_at b fs k side are i l =
    let e : 2 + 2 * i ≡ 2 * (1 + i) = omega arith in
    let n = children_counted fs k side in
    map_at (λ e. type_no (records_of b) e) (children_in fs k) i 0 0 (omega arith)
    ∙ ap (λ e. type_no (records_of b) e) (ap (λ es. get_or es i 0) are ∙ (words_at fs 2 (count_in fs k) i l ∙ ap (le16 fs) e))

pub labels_length : (b fs : List ℕ) → length (types_in b fs TermKind.pcd) ≡ count_in fs TermKind.pcd
labels_length b fs = types_length b fs TermKind.pcd refl

pub label_at : (b fs : List ℕ) (i : ℕ) → i < count_in fs TermKind.pcd → get_or (types_in b fs TermKind.pcd) i 0 ≡ type_at_field b fs (1 + i)
label_at b fs = type_at b fs TermKind.pcd refl (labels_are fs)

pub body_at : (b fs : List ℕ) (i : ℕ) → i < count_in fs TermKind.obj → get_or (types_in b fs TermKind.obj) i 0 ≡ type_at_field b fs (1 + i)
body_at b fs = type_at b fs TermKind.obj refl (bodies_are fs)

below_all : (n : ℕ) (ts : List ℕ) → ((i : ℕ) → i < length ts → get_or ts i 0 < n) → Below n ts
below_all n [] h = tt
below_all n (t ∷ ts) h = (h 0 (omega arith), below_all n ts (λ i l. h (suc i) (omega arith)))

module _ {b terms descriptors ms fs : List ℕ} (G : Lent b terms descriptors) (M : Masks b ms) (t : Typed b fs) (N : Labels b fs) (place : ℕ) (p : Setting ℕ) where
  labels_typed : Below (length (records_of b).types) (types_in b fs TermKind.pcd)
  labels_typed =
      below_all (length (records_of b).types) (types_in b fs TermKind.pcd) λ i l.
      let c = labels_length b fs in
      let m : i < count_in fs TermKind.pcd = omega arith in
      rw (label_at b fs i m) (at_field_typed G (N.each i m))

  pub pointcut_right : judged place
      (fits_at (descriptor_is (own_descriptor descriptors fs) TypeKind.pcd ∷ all_of (label_of descriptors (descriptor_field0 (own_descriptor descriptors fs))) (types_in b fs TermKind.pcd) ∷ []) (all_of (label_above ms descriptors (descriptor_field1 (own_descriptor descriptors fs))) (types_in b fs TermKind.pcd)))
      ≡ judged place (rule_in b fs TermKind.pcd p)
  unfolding all
  pointcut_right =
      let ts : List ℕ = types_in b fs TermKind.pcd in
      let descriptor : ℕ → Descriptor = λ a. unpacked (records_of b) a (get_or descriptors a 0) in
      let x = tests_mapped descriptor (λ a. is TypeKind.label a) ts in
      let y = tests_mapped descriptor (λ a. eqb (a.part 0) (descriptor_field0 (own_descriptor descriptors fs))) ts in
      let z = tests_mapped descriptor (λ a. bit_of ms (descriptor_field1 (own_descriptor descriptors fs)) (a.part 1)) ts in
      let f : all (all_of (label_of descriptors (descriptor_field0 (own_descriptor descriptors fs))) ts ∷ []) ≡ all (all (map (λ a. is TypeKind.label a) (map descriptor ts)) ∷ all (map (λ a. eqb (a.part 0) (descriptor_field0 (own_descriptor descriptors fs))) (map descriptor ts)) ∷ []) =
      rw (x, y) (alone _ ∙ sym (tests_both _ _ ts)) in
      ap (λ q. judged place (record { bound = true; typed = descriptor_is (own_descriptor descriptors fs) TypeKind.pcd && q; allowed = all_of (label_above ms descriptors (descriptor_field1 (own_descriptor descriptors fs))) ts })) f
      ∙ (ap (λ q. judged place (fits_at (descriptor_is (own_descriptor descriptors fs) TypeKind.pcd ∷ all (map (λ a. is TypeKind.label a) (map descriptor ts)) ∷ all (map (λ a. eqb (a.part 0) (descriptor_field0 (own_descriptor descriptors fs))) (map descriptor ts)) ∷ []) q)) (sym z)
      ∙ on_masks G.types t place TermKind.pcd p labels_typed M)

-- Card 6: a match. Each of some terms is of a type that is there.
terms_typed : {b terms descriptors : List ℕ} → Lent b terms descriptors → (es : List ℕ) → ((i : ℕ) → i < length es → IsTerm b (get_or es i 0)) → Below (length (records_of b).types) (type_nos (records_of b) es)
terms_typed G [] h = tt
terms_typed G (e ∷ es) h = (rw (← type_in_lem G.terms (h 0 (omega arith))) (typed_in G.terms (h 0 (omega arith))).type, terms_typed G es (λ i l. h (suc i) (omega arith)))

module _ {b terms descriptors fs : List ℕ} (G : Lent b terms descriptors) (t : Typed b fs) (stack : AtField b fs 1) (first : AtField b fs 2) (second : AtField b fs 3) (N : Entries b fs) (place : ℕ) (p : Setting ℕ) where
  abbrev four : List ℕ
  four = field_in fs 1 ∷ field_in fs 2 ∷ field_in fs 3 ∷ entry_terms fs

  four_typed : Below (length (records_of b).types) (type_nos (records_of b) four)
  four_typed = (at_field_typed G stack, (at_field_typed G first, (at_field_typed G second, terms_typed G (entry_terms fs) (entry_there b fs N))))

  match_typed : Below (length (records_of b).types) (types_in b fs TermKind.match)
  match_typed = subst (λ es. Below (length (records_of b).types) (type_nos (records_of b) es)) (sym (match_children fs)) four_typed

  cuts_are : all_of (cut_of (records_of b) descriptors) (entry_terms fs) ≡ all (map (λ a. is TypeKind.pcd a) (described_in b descriptors (type_nos (records_of b) (entry_terms fs))))
  cuts_are =
      sym (tests_mapped (λ a. unpacked (records_of b) a (get_or descriptors a 0)) (λ a. is TypeKind.pcd a) (type_nos (records_of b) (entry_terms fs))
      ∙ each_mapped (λ a. descriptor_is (get_or descriptors a 0) TypeKind.pcd) (λ e. type_no (records_of b) e) (entry_terms fs))

  pub match_right : judged place (fits (descriptor_is (descriptor_at_field b descriptors fs 1) TypeKind.stack ∷ all (eqb (type_at_field b fs 2) (field_in fs 0) ∷ eqb (type_at_field b fs 3) (field_in fs 0) ∷ all_of (cut_of (records_of b) descriptors) (entry_terms fs) ∷ []) ∷ [])) ≡ judged place (rule_in b fs TermKind.match p)
  unfolding all
  match_right =
      let first : Bool = descriptor_is (descriptor_at_field b descriptors fs 1) TypeKind.stack in
      let same : Bool → List Bool = λ q. eqb (type_at_field b fs 2) (field_in fs 0) ∷ eqb (type_at_field b fs 3) (field_in fs 0) ∷ q ∷ [] in
      ap (λ q. judged place (record { bound = true; typed = first && q; allowed = true })) (alone (all (same (all_of (cut_of (records_of b) descriptors) (entry_terms fs)))) ∙ ap (λ q. all (same q)) cuts_are)
      ∙ (ap (λ es. judged place (rule (leq (records_of b)) p.context p.dom (unpacked (records_of b) (field_in fs 0) (own_descriptor descriptors fs)) (others_in fs TermKind.match) (described_in b descriptors (type_nos (records_of b) es)) TermKind.match)) (sym (match_children fs))
      ∙ on_descriptors G.types t place TermKind.match p match_typed)
