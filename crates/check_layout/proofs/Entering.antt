-- One record of the walk: each way that it ends leaves the tables as the definition says.
use Rattle.std.specs.Prelude.{Result, Ok, Err}
use Prim.Native.Nat.{ℕ, suc, ◌+◌, ◌-◌, ◌*◌, ◌≤◌, ◌<◌}
use native.Mathlib.Omega.{arith}
use native.Mathlib.Numerals.{add-one}
use mathlib.Core.Path.{◌≡◌, refl, sym, ap, subst, ◌∙◌}
use mathlib.Core.Bool.{true, false}
use mathlib.Core.List.{List, [], ◌∷◌}
use mathlib.Core.Option.{Option, none, some}
use lib.ListN.{length, set}
use Rattle.image.specs.declared.Refusal.{Refusal}
use Rattle.image.specs.Limits.{domain_limit, type_limit, term_limit}
use Rattle.laws.specs.Tests.{first_fault}
use Rattle.image.specs.Bytes.{length_at, number_at}
use Rattle.image.specs.Kinds.{TypeKind, TermKind, Kind, domain, type, term, type_row_of, term_row, row_of, kind_of}
use Rattle.image.specs.Records.{Layout, kind_at, times, fields_at, children_at}
use Rattle.image.specs.Records as Records
use Rattle.image.specs.Layout.{right_length, is_new, tests, add}
use Rattle.image.specs.Layout as Image
use Rattle.laws.proofs.Booleans.{no_path, lt_of, of_eq}
use Rattle.laws.proofs.Tests.{each, passed}
use Rattle.read_records.specs.declared.numbers.Counts.{Counts}
use Rattle.read_records.specs.Counts.{with_domain, with_type, with_term}
use Rattle.read_records.specs.Codes.{section_number, group_of, classes_of, section_of, first_of, times_in, code_at}
use Rattle.read_records.specs.Descriptors.{Describes}
use Rattle.read_records.proofs.Codes.{Packs, times_in_lem, known_code, unknown_code, kind_small, code_sized}
use Rattle.image.proofs.Counts.{fields_length}
use Rattle.read_records.proofs.Heads.{Whole, whole_of}
use Rattle.read_records.proofs.Parts.{part_length, children_fit, children_are}
use Rattle.check_fields.specs.Fields.{type_count, Narrow, DescriptorFrom}
use Rattle.check_ranges.specs.Ranges.{ranges_from, groups_from, classes_past}
use Rattle.check_ranges.specs.Numbers.{length_fits, Held, capacity_fits, number_tests, told_of}
use Rattle.check_repeats.specs.NewTypes.{new_type, Placed}
use Rattle.check_repeats.specs.Keys.{key_of, with_key, Filters}
use Rattle.check_repeats.proofs.Filter.{filters_more}
use Rattle.check_layout.specs.Tables.{layout_of, Tables, PutType, entering, Marks, Entering, Entered, entry_for, EntersTerm}
use Rattle.check_ranges.proofs.Numbers.{fits_held}
use Rattle.check_layout.proofs.Repeats.{not_repeated, old_type, new_type_lem}
use Rattle.check_layout.proofs.RecordFields.{descriptor_part}
use Rattle.check_layout.proofs.Narrow.{type_counted, narrow}
use Rattle.image.specs.LaidOut.{Stands}
use Rattle.image.proofs.Laid.{stands, Passes, tests_passed, add_good}
use Rattle.read_records.specs.Heads.{field_bytes, children_of, Fitting}
use Rattle.read_records.specs.Heads as Heads
use Rattle.check_layout.proofs.Sections.{right_length_lem}
use Rattle.check_layout.proofs.NewTypes.{reached_good, types_placed, new_law}
use Rattle.check_uses.specs.Marks.{Lower, entered, marks_of}
use Rattle.check_uses.proofs.ChildByChild.{marks_same}
use Rattle.check_uses.proofs.UseCounts.{marks_length}
use Rattle.check_ranges.specs.Terms.{TermFields}
use Rattle.check_layout.proofs.Marked.{last_lower, last_marked}
use Rattle.check_layout.proofs.Kept.{term_count_lem, domain_more, term_more, type_more, domain_kept, term_kept, type_kept}
use Rattle.check_layout.proofs.Steps.{or_else, unknown, known_law}

-- The section tells the sort of kind.
pub record IsType (K : Kind) : Type 0 where
  pub kind : TypeKind
  pub is : K ≡ type kind

is_type_lem : (K : Kind) → section_number K ≡ 2 → IsType K
is_type_lem domain e = absurd (omega arith)
is_type_lem (type k) e = record { kind = k; is = refl }
is_type_lem (term k) e = absurd (omega arith)

pub record IsTerm (K : Kind) : Type 0 where
  pub kind : TermKind
  pub is : K ≡ term kind

is_term : (K : Kind) → section_number K ≡ 3 → IsTerm K
is_term domain e = absurd (omega arith)
is_term (type k) e = absurd (omega arith)
is_term (term k) e = record { kind = k; is = refl }

is_domain : (K : Kind) → (section_number K ≡ 3 → ⊥) → (section_number K ≡ 2 → ⊥) → K ≡ domain
is_domain domain a b = refl
is_domain (type k) a b = absurd (b refl)
is_domain (term k) a b = absurd (a refl)

same_sum : {f f' t t' g g' l l' : ℕ} → f ≡ f' → t ≡ t' → g ≡ g' → l ≡ l' → f + (t * g + l) ≡ f' + (t' * g' + l')
same_sum f t g l = cc

module _ {b fs kinds : List ℕ} {o q k : ℕ} {n : Counts} {ds ts ks rs es ms : List ℕ} (R : Entering b fs kinds o q k n ds ts ks rs es ms) where
  pub entry : Whole b o q k
  entry = whole_of b o q k R.head

  abbrev L : Layout
  L = layout_of b n ds ts es

  -- The fields are the part of the image that they occupy.
  known_tests : (K : Kind) → kind_of (number_at b o) ≡ some K → first_fault (tests L o) ≡ or_else (first_fault (number_tests fs (code_at k) n)) (first_fault ((Refusal.RepeatedType, is_new K o L) ∷ []))
  known_tests K e = rw R.fields (known_law entry R.tables K e)

  pub full : length fs + 4 ≡ q
  full = rw R.fields (let W = entry in let z = part_length b (o + 4) (q - 4) (omega arith) in omega arith)

  pub placed : Placed b n.types ts
  placed = types_placed R.tables (reached_good R.reached)

  -- A refusal leaves the tables as they were.
  refused : (r : Refusal) → first_fault (tests L o) ≡ some r → Entered (Err r) b o n ds ts es ds ts ks rs es ms
  refused r h = record { answer = ap (λ x. entering x o (add (kind_at b o) o L)) (sym h); kept = λ x e. refl; tables = R.tables; filter = R.filter; marks = R.marks }

  -- 3
  pub unknown_entry : code_at k ≡ 0 → Entered (Err Refusal.UnknownKind) b o n ds ts es ds ts ks rs es ms
  unknown_entry h = go (kind_of (number_at b o)) refl
    where
      go : (x : Option Kind) → kind_of (number_at b o) ≡ x → Entered (Err Refusal.UnknownKind) b o n ds ts es ds ts ks rs es ms
      go none e = refused Refusal.UnknownKind (unknown entry R.tables e)
      go (some K) e = let z : code_at (number_at b o) ≡ 0 = rw entry.kind at h in no_path (sym (of_eq z) ∙ (known_code (number_at b o) K e).used)

  pub record Known : Type 0 where
    pub kind : Kind
    pub is : kind_of (number_at b o) ≡ some kind

  pub record KnownTerm : Type 0 where
    pub kind : TermKind
    pub is : kind_of (number_at b o) ≡ some (term kind)

  pub record KnownType : Type 0 where
    pub kind : TypeKind
    pub is : kind_of (number_at b o) ≡ some (type kind)

  known_kind : (code_at k ≡ 0 → ⊥) → Known
  known_kind h = go (kind_of (number_at b o)) refl
    where
      go : (x : Option Kind) → kind_of (number_at b o) ≡ x → Known
      go none e = absurd (h (rw entry.kind (unknown_code (number_at b o) e)))
      go (some K) e = record { kind = K; is = e }

  kind_packs : (K : Kind) → kind_of (number_at b o) ≡ some K → Packs K (code_at k)
  kind_packs K e = rw entry.kind (known_code (number_at b o) K e)

  at_kind : (K : Kind) → kind_of (number_at b o) ≡ some K → kind_at b o ≡ K
  at_kind K e = ap (λ x. Records.or_else x domain) e

  own_fields : fs ≡ Heads.fields_at b o
  own_fields = R.fields ∙ ap (λ m. field_bytes b o m) entry.len

  pub marks_long : term_limit ≤ length ms
  marks_long = let e = ap length R.marks ∙ marks_length L n.terms in omega arith

  -- A record of another section leaves the marks as they are.
  same_marks : (d t : ℕ) (ds' ts' : List ℕ) → Marks b (record { domains = d; types = t; terms = n.terms }) ds' ts' es ms
  same_marks d t ds' ts' = R.marks ∙ marks_same L (layout_of b (record { domains = d; types = t; terms = n.terms }) ds' ts' es) n.terms (λ j l. refl)

  -- 4 to 7
  pub fault_entry : (code_at k ≡ 0 → ⊥) → (r : Refusal) → some r ≡ first_fault (number_tests fs (code_at k) n) → Entered (Err r) b o n ds ts es ds ts ks rs es ms
  fault_entry u r h =
      let K = known_kind u in
      refused r (known_tests K.kind K.is ∙ ap (λ x. or_else x (first_fault ((Refusal.RepeatedType, is_new K.kind o L) ∷ []))) (sym h))

  -- A term: its fields hold its children, if its length is right, and these are lower terms, if it passes 4 to 7.
  module _ (u : code_at k ≡ 0 → ⊥) (s : section_of (code_at k) ≡ 3) where
    known_term : KnownTerm
    known_term =
        let K = known_kind u in
        let t = is_term K.kind (sym (kind_packs K.kind K.is).section ∙ s) in
        record { kind = t.kind; is = K.is ∙ ap some t.is }

    module _ (right : length_fits (code_at k) (length fs + 4) ≡ true) where
      term_stands : Stands b (term_row known_term.kind) o
      term_stands =
          let K = term known_term.kind in
          let e = known_term.is in
          stands b o K entry.framed e (right_length_lem K (code_at k) (length_at b o) (kind_packs K e) ∙ ap (λ m. length_fits (code_at k) m) (sym (full ∙ entry.len)) ∙ right)

      term_fits : Fitting (code_at k) fs
      term_fits = subst (λ gs. Fitting (code_at k) gs) (sym own_fields) (children_fit b o known_term.kind (code_at k) (kind_packs (term known_term.kind) known_term.is) term_stands)

      term_children : children_of (code_at k) fs ≡ children_at b o (term_row known_term.kind)
      term_children = ap (children_of (code_at k)) own_fields ∙ children_are b o known_term.kind (code_at k) (kind_packs (term known_term.kind) known_term.is) term_stands

    term_lower : none ≡ first_fault (number_tests fs (code_at k) n) → Lower n.terms (children_of (code_at k) fs)
    term_lower h =
        let K = known_term.kind in
        let e = at_kind (term K) known_term.is in
        let t : first_fault (tests L o) ≡ none = known_tests (term K) known_term.is ∙ (ap (λ x. or_else x (first_fault ((Refusal.RepeatedType, true) ∷ []))) (sym h) ∙ sym (not_repeated true refl)) in
        let p : Passes L o (term K) = subst (λ J. Passes L o J) e (tests_passed L o t) in
        let g = add_good L o (term K) e p (reached_good R.reached) in
        subst (λ m. Lower m (children_of (code_at k) fs)) (term_count_lem R.tables) (subst (λ cs. Lower (length L.terms) cs) (sym (term_children (passed _ _ _ (sym h)).0)) (last_lower L o K e g))

    pub term_fields_lem : TermFields fs (code_at k) n
    term_fields_lem = record { sized = code_sized k u; term = s; fitting = term_fits; lower = term_lower }

  -- A record that passes 3 to 7.
  module _ (u : code_at k ≡ 0 → ⊥) (h : none ≡ first_fault (number_tests fs (code_at k) n)) where
    pub fits : length_fits (code_at k) q ≡ true
    fits = rw full at (passed _ _ _ (sym h)).0

    pub capacity : capacity_fits (section_of (code_at k)) n ≡ true
    capacity = (passed _ _ _ (passed _ _ _ (passed _ _ _ (sym h)).1).1).0

    right : length_fits (code_at k) (length fs + 4) ≡ true
    right = rw (← full) at fits

    ranges : ranges_from (first_of (code_at k)) (classes_of (code_at k)) fs n 0 ≡ true
    ranges = (each _ (passed _ _ _ (passed _ _ _ (passed _ _ _ (passed _ _ _ (sym h)).1).1).1).0).0

    groups : groups_from (times_in (code_at k) (length fs)) (group_of (code_at k)) (classes_past (first_of (code_at k)) (classes_of (code_at k))) fs n (first_of (code_at k)) ≡ true
    groups = (each _ (passed _ _ _ (passed _ _ _ (passed _ _ _ (passed _ _ _ (sym h)).1).1).1).0).1.0

    -- What is left is 8.
    last_test : (K : Kind) → kind_of (number_at b o) ≡ some K → first_fault (tests L o) ≡ first_fault ((Refusal.RepeatedType, is_new K o L) ∷ [])
    last_test K e = known_tests K e ∙ ap (λ x. or_else x (first_fault ((Refusal.RepeatedType, is_new K o L) ∷ []))) (sym h)

    -- A record of section 2 is a type's.
    known_type : section_of (code_at k) ≡ 2 → KnownType
    known_type s =
        let K = known_kind u in
        let t = is_type_lem K.kind (sym (kind_packs K.kind K.is).section ∙ s) in
        record { kind = t.kind; is = K.is ∙ ap some t.is }

    -- The kind's number and the fields of a type fit in eight bits each.
    pub kind_narrow : k < 256
    kind_narrow = let K = known_kind u in let l = kind_small (number_at b o) K.kind K.is in omega (arith, entry.kind)

    pub fields_narrow : section_of (code_at k) ≡ 2 → Narrow fs (type_count (code_at k) (length fs))
    fields_narrow s = let t = known_type s in narrow fs n R.tables.few t.kind (code_at k) (kind_packs (type t.kind) t.is) right ranges groups

    -- The fields hold the kind's, those of a type among them.
    pub held : Held (code_at k) (length fs)
    held = fits_held (code_at k) (length fs) right

    pub type_held : section_of (code_at k) ≡ 2 → 2 * type_count (code_at k) (length fs) ≤ length fs
    type_held s = let t = known_type s in let c = type_counted t.kind (code_at k) (length fs) (kind_packs (type t.kind) t.is) right in let h = held in omega arith

    -- A kind's record that passes 8 too, with the tables that it leaves.
    enters : (K : Kind) → kind_of (number_at b o) ≡ some K → is_new K o L ≡ true → (m : Counts) (ds' ts' ks' rs' es' ms' : List ℕ) → layout_of b m ds' ts' es' ≡ add K o L
        → Tables b m ds' ts' ks' es' → Filters b m.types ts' ks' rs' → Marks b m ds' ts' es' ms' → Entered (Ok m) b o n ds ts es ds' ts' ks' rs' es' ms'
    enters K e new m ds' ts' ks' rs' es' ms' l T' F' M' =
        record {
          answer = ap Image.laid l ∙ (ap (λ x. entering x o (add K o L)) (not_repeated _ new ∙ sym (last_test K e)) ∙ ap (λ J. entering (first_fault (tests L o)) o (add J o L)) (sym (at_kind K e)));
          kept = λ x d. no_path cc;
          tables = T';
          filter = F';
          marks = M';
        }

    capacity_at : (s : ℕ) → section_of (code_at k) ≡ s → capacity_fits s n ≡ true
    capacity_at s e = ap (λ x. capacity_fits x n) (sym e) ∙ capacity

    -- A record of neither section 3 nor section 2 is a domain's.
    known_domain : (section_of (code_at k) ≡ 3 → ⊥) → (section_of (code_at k) ≡ 2 → ⊥) → kind_of (number_at b o) ≡ some domain
    known_domain a c = let K = known_kind u in let P = kind_packs K.kind K.is in K.is ∙ ap some (is_domain K.kind (λ e. a (P.section ∙ e)) (λ e. c (P.section ∙ e)))

    pub domain_capacity : (section_of (code_at k) ≡ 3 → ⊥) → (section_of (code_at k) ≡ 2 → ⊥) → n.domains < domain_limit
    domain_capacity a c = lt_of (capacity_at 1 (kind_packs domain (known_domain a c)).section)

    pub type_capacity : section_of (code_at k) ≡ 2 → n.types < type_limit
    type_capacity e = lt_of (capacity_at 2 e)

    pub term_capacity : section_of (code_at k) ≡ 3 → n.terms < term_limit
    term_capacity e = lt_of (capacity_at 3 e)

    pub domain_entry : (section_of (code_at k) ≡ 3 → ⊥) → (section_of (code_at k) ≡ 2 → ⊥) → Entered (Ok (with_domain n)) b o n ds ts es (set ds n.domains o) ts ks rs es ms
    domain_entry a c =
        let m = domain_capacity a c in
        enters domain (known_domain a c) refl (with_domain n) _ ts ks rs es ms (domain_more R.tables o m) (domain_kept R.tables o m) R.filter (same_marks (n.domains + 1) n.types _ ts)

    -- A record of section 3 is a term's, with the children that the definition gives it.
    term_entry : section_of (code_at k) ≡ 3 → Entered (Ok (with_term n)) b o n ds ts es ds ts ks rs (set es n.terms o) (entered (children_of (code_at k) fs) n.terms ms)
    term_entry s =
        let t = known_term u s in
        let K = t.kind in
        let m = term_capacity s in
        let c = term_count_lem R.tables in
        let l = term_more R.tables o K m in
        let w : marks_of (add (term K) o L) (suc n.terms) ≡ entered (children_at b o (term_row K)) n.terms (marks_of L n.terms) = subst (λ x. marks_of (add (term K) o L) (suc x) ≡ entered (children_at b o (term_row K)) x (marks_of L x)) c (last_marked L o K (at_kind (term K) t.is)) in
        let f : children_of (code_at k) fs ≡ children_at b o (term_row K) = term_children u s right in
        let M' : Marks b (with_term n) ds ts (set es n.terms o) (entered (children_of (code_at k) fs) n.terms ms) =
        ap (λ cs. entered cs n.terms ms) f ∙ (ap (λ xs. entered (children_at b o (term_row K)) n.terms xs) R.marks ∙ (sym w ∙ (ap (λ x. marks_of (add (term K) o L) x) (sym (add-one n.terms)) ∙ ap (λ M. marks_of M (n.terms + 1)) (sym l)))) in
        enters (term K) t.is refl (with_term n) ds ts ks rs _ _ l (term_kept R.tables o K m) R.filter M'

    -- A type, whose descriptor is x.
    module _ (s : section_of (code_at k) ≡ 2) {x : ℕ} (F : DescriptorFrom fs (type_count (code_at k) (length fs)) k x) where
      type_is : KnownType
      type_is = known_type s

      counted : type_count (code_at k) (length fs) ≡ length (fields_at b o (row_of (kind_at b o)))
      counted =
          let K = type_is.kind in
          let e = type_is.is in
          let P = kind_packs (type K) e in
          let f : length fs ≡ q - 4 = let z = full in omega arith in
          let t : times_in (code_at k) (length fs) ≡ times (type_row_of K) (length_at b o) = ap (λ m. times_in (code_at k) m) f ∙ (times_in_lem (type K) (code_at k) q P ∙ ap (λ m. times (type_row_of K) m) entry.len) in
          let c : type_count (code_at k) (length fs) ≡ length (type_row_of K).first + (times (type_row_of K) (length_at b o) * length (type_row_of K).group + length (type_row_of K).last) = type_counted K (code_at k) (length fs) P right ∙ same_sum P.first t P.group P.last in
          c ∙ (sym (fields_length (type_row_of K) _) ∙ ap (λ J. length (fields_at b o (row_of J))) (sym (at_kind (type K) e)))

      descriptor_is_lem : Describes b o x
      descriptor_is_lem =
          let h = type_held s in
          let f = full in
          descriptor_part b o q (type_count (code_at k) (length fs)) k x (omega arith) counted entry.kind (subst (λ gs. DescriptorFrom gs (type_count (code_at k) (length fs)) k x) R.fields F)

      new : is_new (type type_is.kind) o L ≡ new_type b fs n.types ts ks x
      new =
          let K = type_is.kind in
          let e = type_is.is in
          let right : right_length (type_row_of K) (length_at b o) ≡ true = right_length_lem (type K) (code_at k) (length_at b o) (kind_packs (type K) e) ∙ ap (λ m. length_fits (code_at k) m) (sym entry.len) ∙ fits in
          new_law R.tables (reached_good R.reached) o K x e descriptor_is_lem (stands b o (type K) entry.framed e right) ∙ ap (λ gs. new_type b gs n.types ts ks x) (sym own_fields)

      -- It is there already, or it is put into the tables.
      module _ {t : Result (Unit {0}) Refusal} {ts' ks' rs' : List ℕ} (p : PutType t b fs o x n.types ts ks rs ts' ks' rs') where
        pub repeated_entry : {r : Refusal} → t ≡ Err r → Entered (Err r) b o n ds ts es ds ts' ks' rs' es ms
        repeated_entry {r} e =
            let f : some r ≡ first_fault ((Refusal.RepeatedType, new_type b fs n.types ts ks x) ∷ []) = ap told_of (sym e) ∙ p.answer in
            let a : new_type b fs n.types ts ks x ≡ false = old_type _ f in
            let g : first_fault (tests L o) ≡ some r = last_test (type type_is.kind) type_is.is ∙ (ap (λ y. first_fault ((Refusal.RepeatedType, y) ∷ [])) new ∙ sym f) in
            rw (p.types, p.descriptors, p.filter, a) (refused r g)

        pub type_entry : t ≡ Ok tt → Entered (Ok (with_type n)) b o n ds ts es ds ts' ks' rs' es ms
        type_entry e =
            let a : new_type b fs n.types ts ks x ≡ true = new_type_lem _ (ap told_of (sym e) ∙ p.answer) in
            let m = type_capacity s in
            let long = R.tables.long in
            let lt = long.types in
            let lk = long.descriptors in
            let F' : Filters b (n.types + 1) (set ts n.types o) (set ks n.types x) (with_key rs n.types (key_of x fs)) = rw own_fields (filters_more R.filter o x m (omega arith) (omega arith)) in
            rw (p.types, p.descriptors, p.filter, a)
            (enters (type type_is.kind) type_is.is (new ∙ a) (with_type n) ds _ _ _ es ms (type_more R.tables o type_is.kind m) (type_kept R.tables o type_is.kind x m descriptor_is_lem) F' (same_marks n.domains (n.types + 1) ds _))

  -- What becomes of a term.
  pub term_answer : (u : code_at k ≡ 0 → ⊥) → section_of (code_at k) ≡ 3 → {r : Result Counts Refusal} {es' ms' : List ℕ} → EntersTerm r fs (code_at k) o n es ms es' ms' → Entered r b o n ds ts es ds ts ks rs es' ms'
  term_answer u s {r} {es'} {ms'} E = go (first_fault (number_tests fs (code_at k) n)) refl
    where
      go : (x : Option Refusal) → first_fault (number_tests fs (code_at k) n) ≡ x → Entered r b o n ds ts es ds ts ks rs es' ms'
      go (some f) e = let a : r ≡ Err f = E.answer ∙ ap (λ y. entry_for y (with_term n)) e in rw (E.terms, E.marks, a) (fault_entry u f (sym e))
      go none e = let a : r ≡ Ok (with_term n) = E.answer ∙ ap (λ y. entry_for y (with_term n)) e in rw (E.terms, E.marks, a) (term_entry u (sym e) s)
