-- The records that are written are laid out.
use Prim.Native.Nat.{ℕ, zero, suc, ◌+◌, ◌≤◌, ◌<◌}
use native.Mathlib.Omega.{arith}
use mathlib.Core.Path.{◌≡◌, refl, sym, ap, subst, ◌∙◌}
use mathlib.Core.Bool.{true}
use mathlib.Core.List.{List, [], ◌∷◌, ◌++◌, map, append_assoc, append-nil}
use lib.ListN.{length, get_or, take, drop, length-append, length-map, take-append-drop}
use lib.Seq.{length-take-le}
use Rattle.calculus.specs.Syntax.{Ty}
use Rattle.image.specs.Limits.{domain_limit, type_limit, term_limit}
use Rattle.image.specs.Kinds.{free, TermKind, domain, type, term, domain_row, type_row_of, term_row, row_of, fields_of}
use Rattle.image.specs.Records.{Layout, numbers_at}
use Rattle.image.specs.Types.{head_of, type_kind_of, term_kind_of, type_place, term_place, domain_place, type_kind, type_fields, term_kind}
use Rattle.image.specs.TermFields.{term_fields}
use Rattle.image.specs.LaidOut.{EndToEnd, Stands, Within, IsRecord, SameType, LaidOut}
use Rattle.image.specs.Program.{Program, Programs, node, blank, end, more}
use Rattle.laws.proofs.Lists.{map_at}
use Rattle.image.proofs.KindNumbers.{same_kind}
use Rattle.image.proofs.Laid.{Below}
use Rattle.image_written.specs.TypeParts.{Part, sub, at, parts_of}
use Rattle.image_written.specs.Table.{place, has, part_nos}
use Rattle.image_written.specs.Records.{Record, record_of, bytes, image}
use Rattle.image_written.specs.Written.{terms, terms_all, roots, domain_record, type_record, term_records, term_records_all}
use Rattle.image_written.proofs.TypeParts.{part_fields, groups_of, row_parts}
use Rattle.image_written.proofs.Places.{has_place, place_more}
use Rattle.image_written.proofs.Reading.{Reads, reads_kind, Sized, reads_sorts, reads_numbers, reads_stands, placed, placed_append, Match, match_length, match_at, match_placed, match_ends}
use Rattle.image_written.proofs.Writable.{PartsIn, TableFrom, Fielded, several, Formed, FormedAll}
use Rattle.image_written.proofs.Tables.{parts_length, fields_length, record_apart, table_at, table_bounded, table_parts, place_at}
use Rattle.image_written.proofs.Filled.{fields_count, fields_within}

pub image_append : (xs ys : List Record) → image (xs ++ ys) ≡ image xs ++ image ys
unfolding image
image_append [] ys = refl
image_append (r ∷ xs) ys = ap (λ b. bytes r ++ b) (image_append xs ys) ∙ sym (append_assoc (bytes r) (image xs) (image ys))

-- What is asked of a record, where there are so many domains, types and terms that it may name.
pub record Lawful (domains types terms : ℕ) (r : Record) : Type 0 where
  pub groups : ℕ
  pub sized : Sized (row_of r.kind) groups (length r.fields)
  pub within : (i : ℕ) → i < length r.fields → Within domains types terms (get_or (fields_of (row_of r.kind) groups) i free) (get_or r.fields i 0)

lawful_is : {b : List ℕ} {o : ℕ} {r : Record} (domains types terms : ℕ) → Reads b o r → Lawful domains types terms r → IsRecord b (row_of r.kind) o domains types terms
lawful_is {b} {o} {r} domains types terms R l =
    let s = reads_sorts R l.groups l.sized in
    let c = l.sized.count in
    record {
      stands = reads_stands R l.groups l.sized;
      fields = λ i h.
          let z = ap length s in
          subst (λ fs. Within domains types terms (get_or fs i free) (get_or (numbers_at b o (row_of r.kind)) i 0)) (sym s)
          (subst (λ vs. Within domains types terms (get_or (fields_of (row_of r.kind) l.groups) i free) (get_or vs i 0)) (sym (reads_numbers R l.groups l.sized)) (l.within i (omega arith)));
    }

-- The layout of records, section by section.
module _ (ds ts es : List Record) where
  abbrev whole : List ℕ
  whole = image (ds ++ (ts ++ es))

  abbrev pub laid_as_of : Layout
  laid_as_of = record { image = whole; domains = placed 0 ds; types = placed (0 + length (image ds)) ts; terms = placed (0 + length (image ds) + length (image ts)) es }

  pub as_ends : EndToEnd whole 0 (laid_as_of.domains ++ (laid_as_of.types ++ laid_as_of.terms))
  as_ends =
      let rs : List Record = ds ++ (ts ++ es) in
      let e : placed 0 rs ≡ laid_as_of.domains ++ (laid_as_of.types ++ laid_as_of.terms) = placed_append 0 ds (ts ++ es) ∙ ap (λ os. placed 0 ds ++ os) (placed_append (0 + length (image ds)) ts es) in
      subst (λ os. EndToEnd whole 0 os) e (match_ends rs whole 0 (match_placed rs [] [] whole 0 refl (sym (append-nil whole))) (omega arith))

-- Offsets and the records that are read there, section by section.
pub record Fits (L : Layout) (ds ts es : List Record) : Type 0 where
  pub domains : Match L.image L.domains ds
  pub types : Match L.image L.types ts
  pub terms : Match L.image L.terms es

pub as_fits : (ds ts es : List Record) → Fits (laid_as_of ds ts es) ds ts es
as_fits ds ts es =
    let b : List ℕ = image (ds ++ (ts ++ es)) in
    let x : b ≡ image ds ++ image (ts ++ es) = image_append ds (ts ++ es) in
    let y : b ≡ image ds ++ (image ts ++ image es) = x ∙ ap (λ c. image ds ++ c) (image_append ts es) in
    let z : b ≡ (image ds ++ image ts) ++ (image es ++ []) = y ∙ sym (append_assoc (image ds) (image ts) (image es)) ∙ ap (λ c. (image ds ++ image ts) ++ c) (sym (append-nil (image es))) in
    record {
      domains = match_placed ds [] (image (ts ++ es)) b 0 refl x;
      types = match_placed ts (image ds) (image es) b (0 + length (image ds)) (omega arith) y;
      terms = match_placed es (image ds ++ image ts) [] b (0 + length (image ds) + length (image ts)) (length-append (image ds) (image ts) ∙ omega arith) z;
    }

-- Domains.
domain_sized : Sized domain_row 0 1
domain_sized = record { count = refl; none = λ h. refl; least = omega arith; most = omega arith }

-- Types.
module _ (n : ℕ) (T : List Ty) (table : TableFrom n [] T) where
  parts_within : (i : ℕ) → i ≤ length T → (ps : List (Part Ty)) → PartsIn n (take i T) ps → (j : ℕ) → j < length ps → Within n i 0 (get_or (part_fields ps) j free) (get_or (part_nos T ps) j 0)
  parts_within i l [] h j k = absurd (omega arith)
  parts_within i l (sub a ∷ ps) h zero k =
      let x : place T a ≡ place (take i T) a = ap (λ X. place X a) (sym (take-append-drop i T)) ∙ place_more (take i T) (drop i T) a h.0 in
      let y = has_place (take i T) a h.0 in
      let z = length-take-le i T l in
      omega arith
  parts_within i l (at p ∷ ps) h zero k = h.0
  parts_within i l (sub a ∷ ps) h (suc j) k = parts_within i l ps h.1 j (omega arith)
  parts_within i l (at p ∷ ps) h (suc j) k = parts_within i l ps h.1 j (omega arith)

  abbrev type_at : ℕ → Ty
  type_at i = get_or T i Ty.unit

  type_sized : (i : ℕ) → i < length T → Sized (type_row_of (head_of (type_at i))) (groups_of (type_at i)) (length (part_nos T (parts_of (type_at i))))
  type_sized i l =
      let t : Ty = type_at i in
      let b = table_bounded n [] T table i l in
      record { count = parts_length T (parts_of t) ∙ sym (fields_length (parts_of t)) ∙ ap length (sym (row_parts t).0); none = (row_parts t).1; least = b.0; most = b.1 }

  type_lawful : (i : ℕ) → i < length T → Lawful n i 0 (type_record T (type_at i))
  type_lawful i l =
      let t : Ty = type_at i in
      record {
        groups = groups_of t;
        sized = type_sized i l;
        within = λ j h. subst (λ fs. Within n i 0 (get_or fs j free) (get_or (part_nos T (parts_of t)) j 0)) (sym (row_parts t).0) (parts_within i (omega arith) (parts_of t) (table_at n [] T table i l) j (let z = parts_length T (parts_of t) in omega arith));
      }

  -- Of a layout in which the types of the table are read.
  module _ (L : Layout) (M : Match L.image L.types (map (λ t. type_record T t) T)) where
    pub types_count : length L.types ≡ length T
    types_count = match_length L.image L.types (map (λ t. type_record T t) T) M ∙ length-map T (λ t. type_record T t)

    pub reads_type : (i : ℕ) → i < length T → Reads L.image (type_place L i) (type_record T (type_at i))
    reads_type i l =
        subst (λ r. Reads L.image (type_place L i) r) (map_at (λ t. type_record T t) T i Ty.unit (record_of domain []) l)
        (match_at L.image L.types (map (λ t. type_record T t) T) M i (record_of domain []) (let z : length (map (λ t. type_record T t) T) ≡ length T = length-map T (λ t. type_record T t) in omega arith))

    pub type_kind_lem : (i : ℕ) → i < length T → type_kind L i ≡ head_of (type_at i)
    type_kind_lem i l = ap type_kind_of (reads_kind (reads_type i l))

    pub type_fields_lem : (i : ℕ) → i < length T → type_fields L i ≡ part_nos T (parts_of (type_at i))
    type_fields_lem i l = ap (λ k. numbers_at L.image (type_place L i) (type_row_of k)) (type_kind_lem i l) ∙ reads_numbers (reads_type i l) (groups_of (type_at i)) (type_sized i l)

    types_record : (i : ℕ) → i < length L.types → IsRecord L.image (type_row_of (type_kind L i)) (type_place L i) n i 0
    types_record i l =
        let m : i < length T = let z = types_count in omega arith in
        subst (λ k. IsRecord L.image (type_row_of k) (type_place L i) n i 0) (sym (type_kind_lem i m)) (lawful_is n i 0 (reads_type i m) (type_lawful i m))

    -- No two types of the table have the same record.
    types_apart : (t u : ℕ) → t < length L.types → u < t → SameType L t u → ⊥
    types_apart t u l m s =
        let z = types_count in
        let lt : t < length T = omega arith in
        let lu : u < length T = omega arith in
        let k : head_of (type_at t) ≡ head_of (type_at u) = ap type_kind_of (same_kind (type (head_of (type_at t))) (type (head_of (type_at u))) (sym (reads_type t lt).number ∙ s.0 ∙ (reads_type u lu).number)) in
        let f : part_nos T (parts_of (type_at t)) ≡ part_nos T (parts_of (type_at u)) = sym (type_fields_lem t lt) ∙ s.1 ∙ type_fields_lem u lu in
        let e : type_at t ≡ type_at u = record_apart n T (type_at t) (type_at u) (table_parts n T table t lt) (table_parts n T table u lu) k f in
        let p : t ≡ u = sym (place_at n T table t lt) ∙ ap (λ x. place T x) e ∙ place_at n T table u lu in
        absurd (omega arith)

-- Terms.
pub roots_length : (n : ℕ) (es : Programs) → length (roots n es) ≡ several es
roots_length n end = refl
roots_length n (more e es) = ap suc (roots_length (n + terms e) es)

module _ (T : List Ty) where
  mutual
    unfolding terms term_records

    pub records_length : (m : ℕ) (e : Program) → length (term_records T m e) ≡ terms e
    records_length m (node k t vs es) = length-append (term_records_all T m es) _ ∙ (let h = records_length_all m es in omega arith)
    records_length m blank = refl

    pub records_length_all : (m : ℕ) (es : Programs) → length (term_records_all T m es) ≡ terms_all es
    records_length_all m end = refl
    records_length_all m (more e es) = length-append (term_records T m e) (term_records_all T (m + terms e) es) ∙ (let h = records_length m e in let k = records_length_all (m + terms e) es in omega arith)

module _ (n : ℕ) (T : List Ty) where
  pub formed_some : (e : Program) → Formed n T e → 0 < terms e
  unfolding Formed terms
  formed_some (node k t vs es) h = omega arith
  formed_some blank h = absurd h

  roots_below : (m q : ℕ) (es : Programs) → FormedAll n T es → m + terms_all es ≤ q → Below q (roots m es)
  unfolding Formed terms
  roots_below m q end h l = tt
  roots_below m q (more e es) h l = let p = formed_some e h.0 in (omega arith, roots_below (m + terms e) q es h.1 (omega arith))

  -- The term record with number m is lawful.
  abbrev TermLawful : ℕ → Record → Type 0
  TermLawful m r = (k : TermKind) × (r.kind ≡ term k) × Lawful n (length T) m r

  abbrev AllLawful : ℕ → List Record → Type 0
  AllLawful m [] = Unit {0}
  AllLawful m (r ∷ rs) = TermLawful m r × AllLawful (suc m) rs

  lawful_append : (m q : ℕ) (xs ys : List Record) → m + length xs ≡ q → AllLawful m xs → AllLawful q ys → AllLawful m (xs ++ ys)
  lawful_append m q [] ys e h k = let z : q ≡ m = omega arith in subst (λ p. AllLawful p ys) z k
  lawful_append m q (x ∷ xs) ys e h k = (h.0, lawful_append (suc m) q xs ys (omega arith) h.1 k)

  lawful_at : (m : ℕ) (rs : List Record) → AllLawful m rs → (i : ℕ) (d : Record) → i < length rs → TermLawful (m + i) (get_or rs i d)
  lawful_at m [] h i d l = absurd (omega arith)
  lawful_at m (r ∷ rs) h zero d l = let z : m ≡ m + 0 = omega arith in subst (λ q. TermLawful q r) z h.0
  lawful_at m (r ∷ rs) h (suc i) d l = let z : suc m + i ≡ m + suc i = omega arith in subst (λ q. TermLawful q (get_or rs i d)) z (lawful_at (suc m) rs h.1 i d (omega arith))

  -- A term's fields, its children's numbers among them.
  pub fielded : (k : TermKind) (vs : List ℕ) (m : ℕ) (es : Programs) → Fielded n k vs (several es) → Fielded n k vs (length (roots m es))
  fielded k vs m es F = subst (λ q. Fielded n k vs q) (sym (roots_length m es)) F

  term_lawful : (k : TermKind) (t : Ty) (vs : List ℕ) (m q : ℕ) (es : Programs) → has T t ≡ true → Fielded n k vs (several es) → FormedAll n T es → m + terms_all es ≤ q
      → Lawful n (length T) q (record_of (term k) (term_fields k (place T t) vs (roots m es)))
  term_lawful k t vs m q es h F f l =
      let G = fielded k vs m es F in
      let c = fields_count n k vs (roots m es) G (place T t) in
      let s = F.sized in
      record {
        groups = G.groups;
        sized = record { count = c; none = G.sized.none; least = G.sized.least; most = G.sized.most };
        within = λ i z. fields_within n k vs (roots m es) G (place T t) (length T) q (has_place T t h) (roots_below m q es f l) i (omega arith);
      }

  mutual
    unfolding Formed terms term_records

    all_lawful : (m : ℕ) (e : Program) → Formed n T e → AllLawful m (term_records T m e)
    all_lawful m (node k t vs es) h =
        lawful_append m (m + terms_all es) (term_records_all T m es) _ (let z = records_length_all T m es in omega arith) (all_lawfuls m es h.2) ((k, refl, term_lawful k t vs m (m + terms_all es) es h.0 h.1 h.2 (omega arith)), tt)
    all_lawful m blank h = absurd h

    all_lawfuls : (m : ℕ) (es : Programs) → FormedAll n T es → AllLawful m (term_records_all T m es)
    all_lawfuls m end h = tt
    all_lawfuls m (more e es) h =
        lawful_append m (m + terms e) (term_records T m e) (term_records_all T (m + terms e) es) (let z = records_length T m e in omega arith) (all_lawful m e h.0) (all_lawfuls (m + terms e) es h.1)

  module _ (e : Program) (formed : Formed n T e) (L : Layout) (M : Match L.image L.terms (term_records T 0 e)) where
    terms_record : (m : ℕ) → m < length L.terms → IsRecord L.image (term_row (term_kind L m)) (term_place L m) n (length T) m
    terms_record m l =
        let rs : List Record = term_records T 0 e in
        let d : Record = record_of domain [] in
        let k : m < length rs = let z = match_length L.image L.terms rs M in omega arith in
        let R : Reads L.image (term_place L m) (get_or rs m d) = match_at L.image L.terms rs M m d k in
        let z : 0 + m ≡ m = omega arith in
        let w = subst (λ q. TermLawful q (get_or rs m d)) z (lawful_at 0 rs (all_lawful 0 e formed) m d k) in
        let s : term_kind L m ≡ w.0 = ap term_kind_of (reads_kind R ∙ w.1) in
        subst (λ j. IsRecord L.image (term_row j) (term_place L m) n (length T) m) (sym s)
        (subst (λ j. IsRecord L.image (row_of j) (term_place L m) n (length T) m) w.1 (lawful_is n (length T) m R w.2))

-- All of them.
module _ (n : ℕ) (T : List Ty) (ms : List ℕ) (e : Program) (masked : length ms ≡ n) (few_domains : n ≤ domain_limit) (table : TableFrom n [] T) (few_types : length T ≤ type_limit) (formed : Formed n T e) (few_terms : terms e ≤ term_limit) where
  abbrev ds : List Record
  ds = map (λ m. domain_record m) ms

  abbrev ts : List Record
  ts = map (λ t. type_record T t) T

  abbrev es : List Record
  es = term_records T 0 e

  abbrev L : Layout
  L = laid_as_of ds ts es

  abbrev F : Fits L ds ts es
  F = as_fits ds ts es

  domain_stands : (d : ℕ) → d < length L.domains → Stands L.image domain_row (domain_place L d)
  domain_stands d l =
      let z = match_length L.image L.domains ds F.domains ∙ length-map ms (λ m. domain_record m) in
      let R = match_at L.image L.domains ds F.domains d (record_of domain []) (let y = match_length L.image L.domains ds F.domains in omega arith) in
      let R' : Reads L.image (domain_place L d) (domain_record (get_or ms d 0)) = subst (λ r. Reads L.image (domain_place L d) r) (map_at (λ m. domain_record m) ms d 0 (record_of domain []) (omega arith)) R in
      reads_stands R' 0 domain_sized

  pub laid_out : LaidOut L
  laid_out =
      let cd : length L.domains ≡ n = match_length L.image L.domains ds F.domains ∙ length-map ms (λ m. domain_record m) ∙ masked in
      let ct : length L.types ≡ length T = types_count n T table L F.types in
      let ce : length L.terms ≡ terms e = match_length L.image L.terms es F.terms ∙ records_length T 0 e in
      record {
        in_order = as_ends ds ts es;
        few_domains = omega arith;
        few_types = omega arith;
        few_terms = omega arith;
        domains = domain_stands;
        types = λ t l. subst (λ q. IsRecord L.image (type_row_of (type_kind L t)) (type_place L t) q t 0) (sym cd) (types_record n T table L F.types t l);
        terms = λ m l. subst (λ q. IsRecord L.image (term_row (term_kind L m)) (term_place L m) q (length L.types) m) (sym cd) (subst (λ q. IsRecord L.image (term_row (term_kind L m)) (term_place L m) n q m) (sym ct) (terms_record n T e formed L F.terms m l));
        apart = types_apart n T table L F.types;
      }
