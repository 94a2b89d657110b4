-- The fields of a term as the part that the reader lent say what its type, its fields and its pattern do.
use Prim.Native.Nat.{ℕ, ◌+◌, ◌-◌, ◌≤◌, ◌<◌}
use native.Mathlib.Omega.{arith}
use mathlib.Core.Path.{◌≡◌, refl, sym, ap, subst, ◌∙◌}
use mathlib.Core.Bool.{Bool, true, false}
use mathlib.Core.List.{List}
use lib.ListN.{length, get_or}
use lib.Dec.{ltb}
use Rattle.calculus.specs.Combinators.{choose}
use Rattle.calculus.specs.Syntax.{Pattern, at_end, at_rest, anything, pointcut}
use Rattle.calculus.specs.Plain.{dom_of}
use Rattle.calculus_needs.specs.Needs.{variables}
use Rattle.laws.proofs.Booleans.{eq_of}
use Rattle.image.specs.Bytes.{words, length_at, number_at}
use Rattle.image.specs.Kinds.{TermKind, term_row, is_kind}
use Rattle.image.specs.Program.{pattern_of}
use Rattle.image.specs.Records.{Layout, times, numbers_at}
use Rattle.image.specs.Layout.{records_of}
use Rattle.image.specs.Types.{type_place, term_place, type_no, term_kind, stated_type, others, children}
use Rattle.image.proofs.Counts.{most_children, children_between}
use Rattle.image.proofs.Fitting.{Fitting, pointcuts, match_pointcuts}
use Rattle.image.proofs.KindNumbers.{same_term_kind}
use Rattle.image.proofs.Words.{words_length}
use Rattle.verdict.specs.Settings.{binds_rest}
use Rattle.read_records.specs.Descriptors.{Describes}
use Rattle.read_records.specs.Heads.{field_in}
use Rattle.read_terms.specs.Lent.{Terms, Lent, IsTerm}
use Rattle.read_terms.specs.Fields.{fields_of, classes_in, numbers_in, others_in, children_in, first_entry, entry_count}
use Rattle.read_terms.proofs.Located.{good_of, image_is, number_is, typed_in, type_in_lem, others_in_lem, children_in_lem, child_lower, has_child, second_in, entries_in_lem}
use Rattle.read_terms.proofs.Matches.{close_told}
use Rattle.read_terms.specs.Descriptors.{descriptor_domain}
use Rattle.read_terms.proofs.Described.{descriptor_domain_lem}
use Rattle.need_terms.specs.GivenToChildren.{part_domain, branch_variables, with_one, domain_in, match_variables, variables_in, HasFields, MatchPart, Part, child_bound}

-- The domain in a lower's field.
lower_field : (fs : List ℕ) → field_in fs 1 ≡ get_or (others_in fs TermKind.lower) 0 0
unfolding words
lower_field fs = refl

-- How many variables a pattern binds.
variables_are : (p : Pattern) → variables p ≡ pointcuts p + choose (binds_rest p) 1 0
variables_are at_end = refl
variables_are at_rest = refl
variables_are (anything p) = variables_are p
variables_are (pointcut p) = let h = variables_are p in omega arith

module _ {b table : List ℕ} (T : Terms b table) {n : ℕ} (h : IsTerm b n) where
  abbrev L : Layout
  L = records_of b

  fitting : term_kind L n ≡ TermKind.match → Fitting TermKind.match (others L n) (length (children L n))
  fitting e =
      let fs = fields_of b n in
      record {
        times = times (term_row TermKind.match) (4 + length fs);
        numbers = numbers_in fs TermKind.match;
        size = words_length fs 0 (length (classes_in fs TermKind.match));
        others = sym (others_in_lem T h e);
        children = ap length (sym (children_in_lem T h e));
      }

  pub match_three : term_kind L n ≡ TermKind.match → 3 ≤ length (children L n)
  match_three e = let z = match_pointcuts (others L n) (length (children L n)) (fitting e) in omega arith

  match_few : term_kind L n ≡ TermKind.match → length (children L n) ≤ child_bound
  match_few e =
      let t = (good_of b T.laid_out).terms n h in
      let c : length (children L n) ≤ most_children (term_row (term_kind L n)) =
      (children_between (term_row (term_kind L n)) (times (term_row (term_kind L n)) (length_at L.image (term_place L n))) (numbers_at L.image (term_place L n) (term_row (term_kind L n))) (words_length L.image _ _) t.is.stands.least t.is.stands.most).1 in
      let m : most_children (term_row (term_kind L n)) ≡ 11 = ap (λ k. most_children (term_row k)) e in
      omega arith

  match_part : term_kind L n ≡ TermKind.match → MatchPart (fields_of b n)
  match_part e =
      let s : length (children_in (fields_of b n) TermKind.match) ≡ length (children L n) = ap length (children_in_lem T h e) in
      let t = match_three e in
      let f = match_few e in
      record { long = (entries_in_lem T h e).long; three = omega arith; few = omega arith }

  -- Of a match: its children behind the first three, and the close.
  match_binds_lem : term_kind L n ≡ TermKind.match → match_variables (fields_of b n) ≡ variables (pattern_of (others L n))
  match_binds_lem e = go closed told
    where
      p : Pattern
      p = pattern_of (others L n)

      k : ℕ
      k = length (children_in (fields_of b n) TermKind.match)

      closed : Bool
      closed = ltb 0 (field_in (fields_of b n) (first_entry + entry_count (fields_of b n)))

      told : closed ≡ binds_rest p
      told = sym (close_told (fields_of b n)) ∙ ap (λ vs. binds_rest (pattern_of vs)) (others_in_lem T h e)

      size : 3 + pointcuts p ≡ k
      size = match_pointcuts (others L n) (length (children L n)) (fitting e) ∙ ap length (sym (children_in_lem T h e))

      go : (c : Bool) → c ≡ binds_rest p → with_one (k - 3) c ≡ variables p
      go true r = let w : variables p ≡ pointcuts p + 1 = variables_are p ∙ ap (λ b. pointcuts p + choose b 1 0) (sym r) in let z = size in omega arith
      go false r = let w : variables p ≡ pointcuts p + 0 = variables_are p ∙ ap (λ b. pointcuts p + choose b 1 0) (sym r) in let z = size in omega arith

  variables_of : variables_in (fields_of b n) (term_kind L n) ≡ branch_variables (term_kind L n) (others L n)
  variables_of = look (is_kind TermKind.match (term_kind L n)) refl
    where
      look : (c : Bool) → is_kind TermKind.match (term_kind L n) ≡ c → choose c (match_variables (fields_of b n)) 0 ≡ choose c (variables (pattern_of (others L n))) 0
      look true q = match_binds_lem (same_term_kind (term_kind L n) TermKind.match (eq_of q))
      look false q = refl

pub read_off : {b : List ℕ} {n kind : ℕ} {fs : List ℕ} → IsTerm b n → kind ≡ number_at b (term_place (records_of b) n) → fs ≡ fields_of b n → HasFields b n kind fs
read_off i k f = record { there = i; number = k; fields = f }

-- What is read off a part is so of the term that has these fields.
module _ {b table : List ℕ} (T : Terms b table) {n kind : ℕ} {fs : List ℕ} (r : HasFields b n kind fs) where
  abbrev k : TermKind
  k = term_kind (records_of b) n

  pub kind_of_lem : kind ≡ (term_row k).number
  kind_of_lem = r.number ∙ number_is T r.there

  pub part_of : Part kind fs
  part_of =
      subst (Part kind) (sym r.fields)
      (record {
        kind_of_term = k;
        number = kind_of_lem;
        long = (typed_in T r.there).long;
        child = λ j l. has_child T r.there refl j l;
        second = λ e. second_in T r.there e refl;
        branched = match_part T r.there;
      })

  -- The number of its children, each of them, and the variables of a branch.
  children_of_lem : children_in fs k ≡ children (records_of b) n
  children_of_lem = ap (λ f. children_in f k) r.fields ∙ children_in_lem T r.there refl

  pub count_of_lem : (c : ℕ) → ((k : TermKind) → kind ≡ (term_row k).number → c ≡ length (children_in fs k)) → c ≡ length (children (records_of b) n)
  count_of_lem c e = e k kind_of_lem ∙ ap length children_of_lem

  pub has_of : (j : ℕ) → j < length (children (records_of b) n) → (P : Part kind fs) × (j < length (children_in fs P.kind_of_term))
  has_of j l =
      let e : part_of.kind_of_term ≡ k = same_term_kind part_of.kind_of_term k (sym part_of.number ∙ kind_of_lem) in
      (part_of, subst (λ q. j < length (children_in fs q)) (sym e) (subst (λ es. j < length es) (sym children_of_lem) l))

  module _ (j c : ℕ) (e : (k : TermKind) → kind ≡ (term_row k).number → c ≡ get_or (children_in fs k) j 0) where
    pub child_is : c ≡ get_or (children (records_of b) n) j 0
    child_is = e k kind_of_lem ∙ ap (λ es. get_or es j 0) children_of_lem

    pub child_below : j < length (children (records_of b) n) → c < n
    child_below l = subst (λ x. x < n) (sym child_is) (child_lower T r.there {k = k} refl j l)

  pub variables_in_lem : (v : ℕ) → ((k : TermKind) → kind ≡ (term_row k).number → v ≡ variables_in fs k) → v ≡ branch_variables k (others (records_of b) n)
  variables_in_lem v e = e k kind_of_lem ∙ (ap (λ f. variables_in f k) r.fields ∙ variables_of T r.there)

-- The domain that a term gives to a body, with the descriptors of the types.
module _ {b table descriptors : List ℕ} (T : Lent b table descriptors) {n : ℕ} (h : IsTerm b n) where
  stated_domain : descriptor_domain (get_or descriptors (field_in (fields_of b n) 0) 0) ≡ dom_of (stated_type (records_of b) n)
  stated_domain =
      let L = records_of b in
      let t = type_no L n in
      let good = good_of b T.terms.laid_out in
      let there = (good.terms n h).typed in
      let D : Describes L.image (type_place L t) (get_or descriptors t 0) = subst (λ i. Describes i (type_place L t) (get_or descriptors t 0)) (sym (image_is b T.terms.laid_out)) (T.types.descriptors t there) in
      ap (λ u. descriptor_domain (get_or descriptors u 0)) (type_in_lem T.terms h) ∙ descriptor_domain_lem L good t there (get_or descriptors t 0) D

  domain_of_lem : domain_in (fields_of b n) descriptors (term_kind (records_of b) n) ≡ part_domain (term_kind (records_of b) n) (stated_type (records_of b) n) (others (records_of b) n)
  domain_of_lem =
      ap (λ x. choose (is_kind TermKind.adv k) x (choose (is_kind TermKind.lower k) (field_in (fields_of b n) 1) 0)) stated_domain
      ∙ ap (λ x. choose (is_kind TermKind.adv k) (dom_of (stated_type (records_of b) n)) x) (look (is_kind TermKind.lower k) refl)
    where
      k : TermKind
      k = term_kind (records_of b) n

      look : (c : Bool) → is_kind TermKind.lower k ≡ c → choose c (field_in (fields_of b n) 1) 0 ≡ choose c (get_or (others (records_of b) n) 0 0) 0
      look true q = lower_field (fields_of b n) ∙ ap (λ vs. get_or vs 0 0) (others_in_lem T.terms h (same_term_kind k TermKind.lower (eq_of q)))
      look false q = refl

module _ {b table descriptors : List ℕ} (T : Lent b table descriptors) {n kind : ℕ} {fs : List ℕ} (r : HasFields b n kind fs) where
  pub type_there : field_in fs 0 < length descriptors
  type_there = let t = (typed_in T.terms r.there).type in let m = T.types.enough in subst (λ f. field_in f 0 < length descriptors) (sym r.fields) (omega arith)

  pub domain_in_lem : (d : ℕ) → ((k : TermKind) → kind ≡ (term_row k).number → d ≡ domain_in fs descriptors k)
      → d ≡ part_domain (term_kind (records_of b) n) (stated_type (records_of b) n) (others (records_of b) n)
  domain_in_lem d e = e (term_kind (records_of b) n) (kind_of_lem T.terms r) ∙ (ap (λ f. domain_in f descriptors (term_kind (records_of b) n)) r.fields ∙ domain_of_lem T r.there)
