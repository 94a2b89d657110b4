-- What the walk assures of the records that it lays out.
use Prim.Native.Nat.{ℕ, zero, suc, ◌+◌, ◌≤◌, ◌<◌}
use native.Mathlib.Omega.{arith}
use mathlib.Core.Path.{◌≡◌, refl, sym, ap, subst, ◌∙◌}
use mathlib.Core.Bool.{Bool, true, false, not}
use mathlib.Core.List.{List, [], ◌∷◌, ◌++◌}
use mathlib.Core.Option.{Option, none, some}
use lib.ListN.{length, get_or, length-append, get_or-append}
use lib.Dec.{eqb}
use Rattle.image.specs.declared.Refusal.{Refusal}
use Rattle.image.specs.Limits.{domain_limit, type_limit, term_limit}
use Rattle.laws.specs.Tests.{first_fault}
use Rattle.image.specs.Bytes.{length_at, number_at, field_at}
use Rattle.image.specs.Kinds.{in_domains, in_operations, in_truths, any_number, Field, a_type, a_domain, own, free, a_term, an_entry, TypeKind, TermKind, Kind, domain, type, term, domain_row, type_row_of, term_row, row_of, kind_of, find, again}
use Rattle.image.specs.Records.{Layout, kind_at, times, known_length, fields_at, numbers_at, as_child, given, children_at}
use Rattle.image.specs.Layout.{is_some, nothing, framed, known, long_enough, right_length, is_nil, in_order_of, has_capacity, within, all_within, in_range, same_numbers, same_type, is_new, tests, add, stopped, laid, walk, layout, records_of}
use Rattle.image.specs.Types.{type_kind_of, term_kind_of, domain_place, type_place, term_place, type_kind, term_kind}
use Rattle.image.specs.LaidOut.{Stands, Within, IsRecord}
use Rattle.laws.proofs.Booleans.{no_path, and_l, and_r, and_i, not_t, lt_of, le_of, eq_of, of_eq}
use Rattle.laws.proofs.Tests.{each, all_of_lem, passed}
use Rattle.laws.proofs.Lists.{each_snoc}
use Rattle.image.proofs.Words.{words_length, words_at}
use Rattle.image.proofs.EveryKind.{type_first}

-- Each number of a list is below n.
abbrev pub Below : ℕ → List ℕ → Type 0
Below n [] = Unit {0}
Below n (e ∷ es) = (e < n) × Below n es

pub below_at : (n : ℕ) (es : List ℕ) (i : ℕ) → Below n es → i < length es → get_or es i 0 < n
below_at n [] i b h = absurd (omega arith)
below_at n (e ∷ es) zero b h = b.0
below_at n (e ∷ es) (suc i) b h = below_at n es i b.1 (omega arith)

-- The record at o is type t, of kind k, behind the types ts, over so many domains.
pub record TypeOk (b : List ℕ) (domains : ℕ) (ts : List ℕ) (k : TypeKind) (t o : ℕ) : Type 0 where
  pub kind : kind_of (number_at b o) ≡ some (type k)
  pub is : IsRecord b (type_row_of k) o domains t 0
  pub lower : (i : ℕ) → get_or (fields_at b o (type_row_of k)) i free ≡ a_type → get_or (numbers_at b o (type_row_of k)) i 0 < t
  pub domained : (i : ℕ) → get_or (fields_at b o (type_row_of k)) i free ≡ a_domain → get_or (numbers_at b o (type_row_of k)) i 0 < domains
  pub apart : (u : ℕ) → u < t → same_type b (type_row_of k) o (get_or ts u 0) ≡ false

-- The record at o is term n, of kind k, over so many domains and types.
pub record TermOk (b : List ℕ) (domains types : ℕ) (k : TermKind) (n o : ℕ) : Type 0 where
  pub kind : kind_of (number_at b o) ≡ some (term k)
  pub is : IsRecord b (term_row k) o domains types n
  pub typed : field_at b o 0 < types
  pub domained : (i : ℕ) → get_or (fields_at b o (term_row k)) i free ≡ a_domain → get_or (numbers_at b o (term_row k)) i 0 < domains
  pub below : Below n (children_at b o (term_row k))

pub record LayoutOk (L : Layout) : Type 0 where
  pub few_domains : length L.domains ≤ domain_limit
  pub few_types : length L.types ≤ type_limit
  pub few_terms : length L.terms ≤ term_limit
  pub domains : (d : ℕ) → d < length L.domains → Stands L.image domain_row (domain_place L d)
  pub types : (t : ℕ) → t < length L.types → TypeOk L.image (length L.domains) L.types (type_kind L t) t (type_place L t)
  pub terms : (n : ℕ) → n < length L.terms → TermOk L.image (length L.domains) (length L.types) (term_kind L n) n (term_place L n)

-- A kind that is found has the number that was looked for.
find_number : (n : ℕ) (ks : List Kind) (k : Kind) → find n ks ≡ some k → (row_of k).number ≡ n
unfolding find
find_number n [] k h = no_path cc
find_number n (j ∷ js) k h = go (find_number n js k) (eqb (row_of j).number n) refl
  where
    go : (find n js ≡ some k → (row_of k).number ≡ n) → (t : Bool) → eqb (row_of j).number n ≡ t → (row_of k).number ≡ n
    go rest true e = let z : some j ≡ some k = rw (e, find) at h in let q : j ≡ k = cc in ap (λ x. (row_of x).number) (sym q) ∙ eq_of e
    go rest false e = rest (rw (e, find) at h)

pub kind_number : (n : ℕ) (k : Kind) → kind_of n ≡ some k → n ≡ (row_of k).number
kind_number n k h = sym (find_number n _ k h)

-- A record that passes 2, 3 and 4 stands.
pub kind_known : (b : List ℕ) (o : ℕ) → known b o ≡ true → kind_of (number_at b o) ≡ some (kind_at b o)
kind_known b o h = go (kind_of (number_at b o)) refl
  where
    go : (x : Option Kind) → kind_of (number_at b o) ≡ x → kind_of (number_at b o) ≡ some (kind_at b o)
    go none e = no_path (sym h ∙ ap is_some e)
    go (some k) e = rw e refl

enough : (gs : List Field) (m n : ℕ) → long_enough gs m n ≡ true → m ≤ n
enough [] m n h = le_of h
enough (g ∷ gs) m n h = let e : n ≡ m = eq_of h in omega arith

exactly : (gs : List Field) (m n : ℕ) → long_enough gs m n ≡ true → 0 < length gs → n ≡ m
exactly [] m n h l = absurd (omega arith)
exactly (g ∷ gs) m n h l = eq_of h

pub stands : (b : List ℕ) (o : ℕ) (k : Kind) → framed b o ≡ true → kind_of (number_at b o) ≡ some k → right_length (row_of k) (length_at b o) ≡ true → Stands b (row_of k) o
stands b o k f q r =
    let fs = each _ f in
    let rs = each _ r in
    let inside : o + length_at b o ≤ length b = le_of fs.1.1.0 in
    record { number = kind_number (number_at b o) k q; inside = inside; size = enough (row_of k).group (known_length (row_of k) (length_at b o)) (length_at b o) rs.1.1.0; exact = exactly (row_of k).group (known_length (row_of k) (length_at b o)) (length_at b o) rs.1.1.0; least = le_of rs.0; most = le_of rs.1.0 }

-- Fields in range.
in_field : (L : Layout) (fs : List Field) (vs : List ℕ) → length vs ≡ length fs → all_within L fs vs ≡ true → (i : ℕ) (f : Field) → get_or fs i free ≡ f → within L f (get_or vs i 0) ≡ true
unfolding all_within
in_field L [] vs n h i f e = rw (← e) refl
in_field L (g ∷ fs) [] n h i f e = absurd (omega arith)
in_field L (g ∷ fs) (v ∷ vs) n h zero f e = rw (← e) (and_l (within L g v) (all_within L fs vs) h)
in_field L (g ∷ fs) (v ∷ vs) n h (suc i) f e = in_field L fs vs (omega arith) (and_r (within L g v) (all_within L fs vs) h) i f e

in_range_lem : (L : Layout) (f : Field) (v : ℕ) → within L f v ≡ true → Within (length L.domains) (length L.types) (length L.terms) f v
in_range_lem L a_type v h = lt_of h
in_range_lem L (own in_domains) v h = lt_of h
in_range_lem L (own in_operations) v h = lt_of h
in_range_lem L (own in_truths) v h = le_of h
in_range_lem L (own any_number) v h = tt
in_range_lem L (a_term b) v h = lt_of h
in_range_lem L an_entry v h = le_of h

-- The record at o, of a kind that is not refused.
module _ (L : Layout) (o : ℕ) (k : Kind) (range : in_range L o (row_of k) ≡ true) where
  abbrev fs : List Field
  fs = fields_at L.image o (row_of k)

  abbrev vs : List ℕ
  vs = numbers_at L.image o (row_of k)

  field_within : (i : ℕ) → Within (length L.domains) (length L.types) (length L.terms) (get_or fs i free) (get_or vs i 0)
  field_within i = in_range_lem L (get_or fs i free) (get_or vs i 0) (in_field L fs vs (words_length L.image (o + 4) (length fs)) range i _ refl)

  field_as : (i : ℕ) (f : Field) → get_or fs i free ≡ f → Within (length L.domains) (length L.types) (length L.terms) f (get_or vs i 0)
  field_as i f e = subst (λ g. Within (length L.domains) (length L.types) (length L.terms) g (get_or vs i 0)) e (field_within i)

below_append : (n : ℕ) (xs ys : List ℕ) → Below n xs → Below n ys → Below n (xs ++ ys)
below_append n [] ys h k = k
below_append n (x ∷ xs) ys h k = (h.0, below_append n xs ys h.1 k)

child_below : (L : Layout) (f : Field) (v : ℕ) → within L f v ≡ true → Below (length L.terms) (as_child f v)
child_below L a_type v h = tt
child_below L (own r) v h = tt
child_below L (a_term b) v h = (lt_of h, tt)
child_below L an_entry zero h = tt
child_below L an_entry (suc e) h = let z : suc e ≤ length L.terms = le_of h in (omega arith, tt)

in_children : (L : Layout) (fs : List Field) (vs : List ℕ) → all_within L fs vs ≡ true → Below (length L.terms) (given as_child fs vs)
unfolding all_within
in_children L [] vs h = tt
in_children L (f ∷ fs) [] h = tt
in_children L (f ∷ fs) (v ∷ vs) h =
    below_append (length L.terms) (as_child f v) (given as_child fs vs) (child_below L f v (and_l (within L f v) (all_within L fs vs) h))
    (in_children L fs vs (and_r (within L f v) (all_within L fs vs) h))

-- A term's first field is its type.
first_there : (fs gs : List Field) → get_or fs 0 free ≡ a_type → (get_or (fs ++ gs) 0 free ≡ a_type) × (0 < length (fs ++ gs))
first_there [] gs h = let z : free ≡ a_type = h in no_path cc
first_there (f ∷ fs) gs h = (h, omega arith)

pub type_there : (k : TermKind) (b : List ℕ) (o : ℕ) → (get_or (fields_at b o (term_row k)) 0 free ≡ a_type) × (0 < length (fields_at b o (term_row k)))
type_there k b o = first_there (term_row k).first (again (times (term_row k) (length_at b o)) (term_row k).group ++ (term_row k).last) (type_first k)

nil : (xs : List ℕ) → is_nil xs ≡ true → length xs ≡ 0
nil [] h = refl
nil (x ∷ xs) h = no_path (sym h)

-- The same numbers.
pub same_numbers_lem : (vs : List ℕ) → same_numbers vs vs ≡ true
same_numbers_lem [] = refl
same_numbers_lem (v ∷ vs) = and_i (of_eq {m = v} refl) (same_numbers_lem vs)

pub numbers_same : (vs ws : List ℕ) → same_numbers vs ws ≡ true → vs ≡ ws
numbers_same [] [] h = refl
numbers_same [] (w ∷ ws) h = no_path (sym h)
numbers_same (v ∷ vs) [] h = no_path (sym h)
numbers_same (v ∷ vs) (w ∷ ws) h =
    let e : v ≡ w = eq_of (and_l (eqb v w) (same_numbers vs ws) h) in
    let i = numbers_same vs ws (and_r (eqb v w) (same_numbers vs ws) h) in
    cc

-- What 2 to 8 assure of a record of kind k.
pub record Passes (L : Layout) (o : ℕ) (k : Kind) : Type 0 where
  pub whole : framed L.image o ≡ true
  pub kind : kind_of (number_at L.image o) ≡ some k
  pub right : right_length (row_of k) (length_at L.image o) ≡ true
  pub order : in_order_of k L ≡ true
  pub capacity : has_capacity k L ≡ true
  pub range : in_range L o (row_of k) ≡ true
  pub new : is_new k o L ≡ true

pub tests_passed : (L : Layout) (o : ℕ) → first_fault (tests L o) ≡ none → Passes L o (kind_at L.image o)
unfolding tests
tests_passed L o h =
    let h2 = passed _ _ _ h in
    let h3 = passed _ _ _ h2.1 in
    let h4 = passed _ _ _ h3.1 in
    let h5 = passed _ _ _ h4.1 in
    let h6 = passed _ _ _ h5.1 in
    let h7 = passed _ _ _ h6.1 in
    let h8 = passed _ _ _ h7.1 in
    record { whole = h2.0; kind = kind_known L.image o h3.0; right = h4.0; order = h5.0; capacity = h6.0; range = h7.0; new = h8.0 }

-- A record that passes the tests keeps the layout good.
pub add_good : (L : Layout) (o : ℕ) (k : Kind) → kind_at L.image o ≡ k → Passes L o k → LayoutOk L → LayoutOk (add k o L)
add_good L o domain e p g =
    let order = each _ p.order in
    let no_types : length L.types ≡ 0 = nil L.types order.0 in
    let no-terms : length L.terms ≡ 0 = nil L.terms order.1.0 in
    let capacity : length L.domains < domain_limit = lt_of p.capacity in
    record {
      few_domains = omega (arith, length-append L.domains (o ∷ []));
      few_types = g.few_types;
      few_terms = g.few_terms;
      domains = each_snoc (λ d r. Stands L.image domain_row r) L.domains o 0 g.domains (stands L.image o domain p.whole p.kind p.right);
      types = λ t l. absurd (omega arith);
      terms = λ n l. absurd (omega arith);
    }
add_good L o (type k) e p g =
    let no-terms : length L.terms ≡ 0 = nil L.terms p.order in
    let capacity : length L.types < type_limit = lt_of p.capacity in
    let b : List ℕ = L.image in
    let ts : List ℕ = L.types ++ (o ∷ []) in
    let before : (u : ℕ) → u < length L.types → get_or ts u 0 ≡ get_or L.types u 0 = λ u l. get_or-append L.types (o ∷ []) 0 u l in
    let ok : TypeOk b (length L.domains) ts k (length L.types) o =
    record {
      kind = p.kind;
      is = record { stands = stands b o (type k) p.whole p.kind p.right; fields = λ i l. rw no-terms at (field_within L o (type k) p.range i) };
      lower = λ i q. field_as L o (type k) p.range i a_type q;
      domained = λ i q. field_as L o (type k) p.range i a_domain q;
      apart = λ u l. rw (before u l) (not_t (same_type b (type_row_of k) o (get_or L.types u 0)) (all_of_lem (λ q. not (same_type b (type_row_of k) o q)) L.types p.new u 0 l));
    } in
    record {
      few_domains = g.few_domains;
      few_types = omega (arith, length-append L.types (o ∷ []));
      few_terms = g.few_terms;
      domains = g.domains;
      types =
          each_snoc (λ t r. TypeOk b (length L.domains) ts (type_kind_of (kind_at b r)) t r) L.types o 0
          (λ t l. let old = g.types t l in record { kind = old.kind; is = old.is; lower = old.lower; domained = old.domained; apart = λ u m. rw (before u (omega arith)) (old.apart u m) })
          (subst (λ j. TypeOk b (length L.domains) ts j (length L.types) o) (sym (ap type_kind_of e)) ok);
      terms = λ n l. absurd (omega arith);
    }
add_good L o (term k) e p g =
    let capacity : length L.terms < term_limit = lt_of p.capacity in
    let b : List ℕ = L.image in
    let first = type_there k b o in
    let at_first : get_or (numbers_at b o (term_row k)) 0 0 ≡ field_at b o 0 = words_at b (o + 4) (length (fields_at b o (term_row k))) 0 first.1 in
    let ok : TermOk b (length L.domains) (length L.types) k (length L.terms) o =
    record {
      kind = p.kind;
      is = record { stands = stands b o (term k) p.whole p.kind p.right; fields = λ i l. field_within L o (term k) p.range i };
      typed = subst (λ v. v < length L.types) at_first (field_as L o (term k) p.range 0 a_type first.0);
      domained = λ i q. field_as L o (term k) p.range i a_domain q;
      below = in_children L (fields_at b o (term_row k)) (numbers_at b o (term_row k)) p.range;
    } in
    record {
      few_domains = g.few_domains;
      few_types = g.few_types;
      few_terms = omega (arith, length-append L.terms (o ∷ []));
      domains = g.domains;
      types = g.types;
      terms =
          each_snoc (λ n r. TermOk b (length L.domains) (length L.types) (term_kind_of (kind_at b r)) n r) L.terms o 0 g.terms
          (subst (λ j. TermOk b (length L.domains) (length L.types) j (length L.terms) o) (sym (ap term_kind_of e)) ok);
    }

pub nothing_good : (b : List ℕ) → LayoutOk (nothing b)
nothing_good b =
    record {
      few_domains = omega arith;
      few_types = omega arith;
      few_terms = omega arith;
      domains = λ d l. absurd (omega arith);
      types = λ t l. absurd (omega arith);
      terms = λ n l. absurd (omega arith);
    }

-- What each record that passes keeps of an offset and the records before it, the walk keeps to the image's end.
module _ (P : ℕ → Layout → Type 0) (keep : (o : ℕ) (L : Layout) → first_fault (tests L o) ≡ none → P o L → P (o + length_at L.image o) (add (kind_at L.image o) o L)) where
  pub walk_reaches : (f o : ℕ) (L M : Layout) → walk f o L ≡ laid M → P o L → P (length M.image) M
  unfolding walk
  walk_reaches zero o L M h g = end (eqb o (length L.image)) refl
    where
      end : (t : Bool) → eqb o (length L.image) ≡ t → P (length M.image) M
      end true e = let z : laid L ≡ laid M = rw (e, walk) at h in let q : L ≡ M = cc in subst (λ K. P (length K.image) K) q (subst (λ p. P p L) (eq_of e) g)
      end false e = let z : stopped Refusal.BrokenRecord o ≡ laid M = rw (e, walk) at h in no_path cc
  walk_reaches (suc f) o L M h g = end (λ p K z g'. walk_reaches f p K M z g') (eqb o (length L.image)) refl
    where
      Next : Type 0
      Next = (p : ℕ) (K : Layout) → walk f p K ≡ laid M → P p K → P (length M.image) M

      read : Next → eqb o (length L.image) ≡ false → (x : Option Refusal) → first_fault (tests L o) ≡ x → P (length M.image) M
      read next e (some r) q = let z : stopped r o ≡ laid M = rw (e, q, walk) at h in no_path cc
      read next e none q =
          let z : walk f (o + length_at L.image o) (add (kind_at L.image o) o L) ≡ laid M = rw (e, q, walk) at h in
          next (o + length_at L.image o) (add (kind_at L.image o) o L) z (keep o L q g)

      end : Next → (t : Bool) → eqb o (length L.image) ≡ t → P (length M.image) M
      end next true e = let z : laid L ≡ laid M = rw (e, walk) at h in let q : L ≡ M = cc in subst (λ K. P (length K.image) K) q (subst (λ p. P p L) (eq_of e) g)
      end next false e = read next e (first_fault (tests L o)) refl

-- The same of the records alone.
pub walk_keeps : (P : Layout → Type 0) → ((o : ℕ) (L : Layout) → first_fault (tests L o) ≡ none → P L → P (add (kind_at L.image o) o L)) → (f o : ℕ) (L M : Layout) → walk f o L ≡ laid M → P L → P M
walk_keeps P keep f o L M h g = walk_reaches (λ p K. P K) keep f o L M h g

pub layout_good : (b : List ℕ) (L : Layout) → layout b ≡ laid L → LayoutOk L
unfolding layout
layout_good b L h = walk_keeps LayoutOk (λ o K q g. add_good K o (kind_at K.image o) refl (tests_passed K o q) g) (length b) 0 (nothing b) L h (nothing_good b)

pub records_of_lem : (b : List ℕ) (L : Layout) → layout b ≡ laid L → records_of b ≡ L
unfolding records_of
records_of_lem b L h = rw (h, records_of) refl

-- The image of a layout is the image that was laid out.
pub same_image : (L : Layout) (o : ℕ) (k : Kind) → (add k o L).image ≡ L.image
same_image L o domain = refl
same_image L o (type k) = refl
same_image L o (term k) = refl

pub image_kept : (b : List ℕ) (L : Layout) → layout b ≡ laid L → L.image ≡ b
unfolding layout
image_kept b L h = walk_keeps (λ K. K.image ≡ b) (λ o K q e. same_image K o (kind_at K.image o) ∙ e) (length b) 0 (nothing b) L h refl
