-- What the program of an accepted image is like: its fields, its types' domains, its depth.
use Prim.Native.Nat.{ℕ, zero, suc, ◌+◌, ◌≤◌, ◌<◌}
use native.Mathlib.Omega.{arith}
use mathlib.Core.Path.{◌≡◌, refl, sym, ap, subst, ◌∙◌}
use mathlib.Core.Bool.{Bool, true, false}
use mathlib.Core.List.{List, [], ◌∷◌, ◌++◌}
use lib.ListN.{length, get_or}
use lib.Dec.{eqb}
use Rattle.calculus.specs.Syntax.{Ty}
use Rattle.calculus.specs.Combinators.{choose}
use Rattle.image.specs.Limits.{depth_limit}
use Rattle.image.specs.Bytes.{length_at}
use Rattle.image.specs.Kinds.{Range, in_domains, in_operations, in_truths, any_number, Field, a_type, a_domain, own, free, a_term, an_entry, TypeKind, type_row_of, term_row, again, fields_of}
use Rattle.image.specs.Records.{Layout, times, fields_at, numbers_at}
use Rattle.image.specs.LaidOut.{Within}
use Rattle.image.specs.Types.{methods_out, type_out, type_of, type_kind, type_fields, type_field, type_place, type_no, term_place, term_kind, stated_type, others, children, root_of}
use Rattle.image.specs.Program.{Program, subtrees, tree, program}
use Rattle.laws.proofs.Booleans.{no_path, of_eq}
use Rattle.image.proofs.Words.{words_length}
use Rattle.image.proofs.EveryKind.{every_of, at_type}
use Rattle.image.proofs.Laid.{LayoutOk, Below}
use Rattle.image.proofs.TypeNumbers.{method_fields, kind_head, type_out_lem}
use Rattle.verdict.specs.Shape.{count, used_once, depths}
use Rattle.verdict.proofs.Depth.{depth_root, depth_child}
use Rattle.image_written.specs.TypeParts.{Part, sub, at, method_parts, parts_of, parts_first, joined}
use Rattle.image_written.specs.Table.{types_in, types_in_all}
use Rattle.image_written.proofs.TypeParts.{map_parts, methods, groups_of, parts_first_law}
use Rattle.image_written.proofs.Writable.{Ranged, Fielded, Every, DomainsIn, Whole, Shaped, ShapedAll, Shallow, ShallowAll, several}

-- The parts of a type that is made of the numbers vs of its fields.
abbrev pub part_from : (ℕ → Ty) → Field → ℕ → Part Ty
part_from g a_type v = sub (g v)
part_from g (own r) v = at v
part_from g (a_term b) v = at v
part_from g an_entry v = at v

abbrev pub parts_from : (ℕ → Ty) → List Field → List ℕ → List (Part Ty)
parts_from g [] vs = []
parts_from g (f ∷ fs) [] = []
parts_from g (f ∷ fs) (v ∷ vs) = part_from g f v ∷ parts_from g fs vs

-- A few numbers, listed.
as0 : (vs : List ℕ) → length vs ≡ 0 → vs ≡ []
as0 [] l = refl
as0 (v ∷ vs) l = absurd (omega arith)

as1 : (vs : List ℕ) → length vs ≡ 1 → vs ≡ get_or vs 0 0 ∷ []
as1 [] l = absurd (omega arith)
as1 (v ∷ vs) l = ap (λ xs. v ∷ xs) (as0 vs (omega arith))

as2 : (vs : List ℕ) → length vs ≡ 2 → vs ≡ get_or vs 0 0 ∷ get_or vs 1 0 ∷ []
as2 [] l = absurd (omega arith)
as2 (v ∷ vs) l = ap (λ xs. v ∷ xs) (as1 vs (omega arith))

as3 : (vs : List ℕ) → length vs ≡ 3 → vs ≡ get_or vs 0 0 ∷ get_or vs 1 0 ∷ get_or vs 2 0 ∷ []
as3 [] l = absurd (omega arith)
as3 (v ∷ vs) l = ap (λ xs. v ∷ xs) (as2 vs (omega arith))

methods_out_lem : (c : ℕ) (vs : List ℕ) (g : ℕ → Ty) → length vs ≡ length (method_fields c) → (method_parts (methods_out vs g) ≡ parts_from g (method_fields c) vs) × (methods (methods_out vs g) ≡ c)
methods_out_lem zero [] g l = (refl, refl)
methods_out_lem zero (p ∷ vs) g l = absurd (omega arith)
methods_out_lem (suc c) [] g l = absurd (omega arith)
methods_out_lem (suc c) (p ∷ []) g l = absurd (omega arith)
methods_out_lem (suc c) (p ∷ a ∷ vs) g l = let i = methods_out_lem c vs g (omega arith) in (ap (λ ps. at p ∷ sub (g a) ∷ ps) i.0, ap suc i.1)

-- Of a record of n bytes.
abbrev pub sorts_of : TypeKind → ℕ → List Field
sorts_of k n = fields_of (type_row_of k) (times (type_row_of k) n)

parts_out : (k : TypeKind) (n : ℕ) (vs : List ℕ) (g : ℕ → Ty) → length vs ≡ length (sorts_of k n) → parts_of (type_out k vs g) ≡ parts_from g (sorts_of k n) vs
unfolding type_out
parts_out TypeKind.unit n vs g l = refl
parts_out TypeKind.truth n vs g l = refl
parts_out TypeKind.number n vs g l = refl
parts_out TypeKind.pair n vs g l = ap (λ ws. parts_from g (sorts_of TypeKind.pair n) ws) (sym (as2 vs l))
parts_out TypeKind.fun n vs g l = ap (λ ws. parts_from g (sorts_of TypeKind.fun n) ws) (sym (as3 vs l))
parts_out TypeKind.ref n vs g l = ap (λ ws. parts_from g (sorts_of TypeKind.ref n) ws) (sym (as2 vs l))
parts_out TypeKind.label n vs g l = ap (λ ws. parts_from g (sorts_of TypeKind.label n) ws) (sym (as2 vs l))
parts_out TypeKind.pcd n vs g l = ap (λ ws. parts_from g (sorts_of TypeKind.pcd n) ws) (sym (as2 vs l))
parts_out TypeKind.adv n vs g l = ap (λ ws. parts_from g (sorts_of TypeKind.adv n) ws) (sym (as1 vs l))
parts_out TypeKind.obj n vs g l = (methods_out_lem (times (type_row_of TypeKind.obj) n) vs g l).0
parts_out TypeKind.stack n vs g l = refl

groups_out : (k : TypeKind) (n : ℕ) (vs : List ℕ) (g : ℕ → Ty) → length vs ≡ length (sorts_of k n) → groups_of (type_out k vs g) ≡ times (type_row_of k) n
unfolding type_out
groups_out TypeKind.unit n vs g l = refl
groups_out TypeKind.truth n vs g l = refl
groups_out TypeKind.number n vs g l = refl
groups_out TypeKind.pair n vs g l = refl
groups_out TypeKind.fun n vs g l = refl
groups_out TypeKind.ref n vs g l = refl
groups_out TypeKind.label n vs g l = refl
groups_out TypeKind.pcd n vs g l = refl
groups_out TypeKind.adv n vs g l = refl
groups_out TypeKind.obj n vs g l = (methods_out_lem (times (type_row_of TypeKind.obj) n) vs g l).1
groups_out TypeKind.stack n vs g l = refl

-- A type's record has types and domains alone.
abbrev plain : List Field → Bool
plain [] = true
plain (a_type ∷ fs) = plain fs
plain (own in_domains ∷ fs) = plain fs
plain (own in_operations ∷ fs) = false
plain (own in_truths ∷ fs) = false
plain (own any_number ∷ fs) = false
plain (a_term b ∷ fs) = false
plain (an_entry ∷ fs) = false

plain_append : (fs gs : List Field) → plain fs ≡ true → plain gs ≡ true → plain (fs ++ gs) ≡ true
plain_append [] gs h k = k
plain_append (a_type ∷ fs) gs h k = plain_append fs gs h k
plain_append (own in_domains ∷ fs) gs h k = plain_append fs gs h k
plain_append (own in_operations ∷ fs) gs h k = no_path (sym h)
plain_append (own in_truths ∷ fs) gs h k = no_path (sym h)
plain_append (own any_number ∷ fs) gs h k = no_path (sym h)
plain_append (a_term b ∷ fs) gs h k = no_path (sym h)
plain_append (an_entry ∷ fs) gs h k = no_path (sym h)

plain_again : (c : ℕ) (fs : List Field) → plain fs ≡ true → plain (again c fs) ≡ true
plain_again zero fs h = refl
plain_again (suc c) fs h = plain_append fs (again c fs) h (plain_again c fs h)

row_plain : (k : TypeKind) (c : ℕ) → plain (fields_of (type_row_of k) c) ≡ true
unfolding every_of
row_plain k c =
    plain_append (type_row_of k).first (again c (type_row_of k).group ++ (type_row_of k).last) (at_type (λ j. plain (type_row_of j).first) refl k)
    (plain_append (again c (type_row_of k).group) (type_row_of k).last (plain_again c (type_row_of k).group (at_type (λ j. plain (type_row_of j).group) refl k)) (at_type (λ j. plain (type_row_of j).last) refl k))

pub every_join : (P : Ty → Type 0) (xs ys : List Ty) → Every P xs → Every P ys → Every P (xs ++ ys)
every_join P [] ys h k = k
every_join P (x ∷ xs) ys h k = (h.0, every_join P xs ys h.1 k)

parts_every : (P : Ty → Type 0) (g : ℕ → Ty) (fs : List Field) (vs : List ℕ) → ((j : ℕ) → get_or fs j free ≡ a_type → Every P (parts_first (g (get_or vs j 0))))
    → Every P (joined (map_parts (λ a. parts_first a) (parts_from g fs vs)))
parts_every P g [] vs t = tt
parts_every P g (f ∷ fs) [] t = tt
parts_every P g (a_type ∷ fs) (v ∷ vs) t = every_join P (parts_first (g v)) (joined (map_parts (λ a. parts_first a) (parts_from g fs vs))) (t 0 refl) (parts_every P g fs vs (λ j e. t (suc j) e))
parts_every P g (own r ∷ fs) (v ∷ vs) t = parts_every P g fs vs (λ j e. t (suc j) e)
parts_every P g (a_term b ∷ fs) (v ∷ vs) t = parts_every P g fs vs (λ j e. t (suc j) e)
parts_every P g (an_entry ∷ fs) (v ∷ vs) t = parts_every P g fs vs (λ j e. t (suc j) e)

parts_domains : (n : ℕ) (g : ℕ → Ty) (fs : List Field) (vs : List ℕ) → plain fs ≡ true → ((j : ℕ) → get_or fs j free ≡ a_domain → get_or vs j 0 < n) → DomainsIn n (parts_from g fs vs)
parts_domains n g [] vs p d = tt
parts_domains n g (f ∷ fs) [] p d = tt
parts_domains n g (a_type ∷ fs) (v ∷ vs) p d = parts_domains n g fs vs p (λ j e. d (suc j) e)
parts_domains n g (own in_domains ∷ fs) (v ∷ vs) p d = (d 0 refl, parts_domains n g fs vs p (λ j e. d (suc j) e))
parts_domains n g (own in_operations ∷ fs) (v ∷ vs) p d = no_path (sym p)
parts_domains n g (own in_truths ∷ fs) (v ∷ vs) p d = no_path (sym p)
parts_domains n g (own any_number ∷ fs) (v ∷ vs) p d = no_path (sym p)
parts_domains n g (a_term b ∷ fs) (v ∷ vs) p d = no_path (sym p)
parts_domains n g (an_entry ∷ fs) (v ∷ vs) p d = no_path (sym p)

-- The own fields of a record that is laid out are in their ranges.
own_ranged : (n types terms : ℕ) (r : Range) (w : ℕ) → Within n types terms (own r) w → Within n 0 0 (own r) w
own_ranged n types terms in_domains w h = h
own_ranged n types terms in_operations w h = h
own_ranged n types terms in_truths w h = h
own_ranged n types terms any_number w h = tt

ranged_of : (n types terms : ℕ) (fs : List Field) (ws : List ℕ) → ((i : ℕ) → i < length fs → Within n types terms (get_or fs i free) (get_or ws i 0)) → Ranged n fs ws
ranged_of n types terms [] ws h = tt
ranged_of n types terms (f ∷ fs) [] h = tt
ranged_of n types terms (a_type ∷ fs) (w ∷ ws) h = ranged_of n types terms fs ws (λ i l. h (suc i) (omega arith))
ranged_of n types terms (own r ∷ fs) (w ∷ ws) h = (own_ranged n types terms r w (h 0 (omega arith)), ranged_of n types terms fs ws (λ i l. h (suc i) (omega arith)))
ranged_of n types terms (a_term b ∷ fs) (w ∷ ws) h = ranged_of n types terms fs ws (λ i l. h (suc i) (omega arith))
ranged_of n types terms (an_entry ∷ fs) (w ∷ ws) h = ranged_of n types terms fs ws (λ i l. h (suc i) (omega arith))

pub several_trees : (g : ℕ → Program) (es : List ℕ) → several (subtrees g es) ≡ length es
several_trees g [] = refl
several_trees g (x ∷ es) = ap suc (several_trees g es)

module _ (L : Layout) (good : LayoutOk L) where
  -- The length of type t's record, and what its fields are.
  abbrev pub size_of : ℕ → ℕ
  size_of t = length_at L.image (type_place L t)

  abbrev pub sorts : ℕ → List Field
  sorts t = sorts_of (type_kind L t) (size_of t)

  pub fields_there : (t : ℕ) → length (type_fields L t) ≡ length (sorts t)
  fields_there t = words_length L.image _ _

  pub type_parts : (t : ℕ) → t < length L.types → parts_of (type_of L t) ≡ parts_from (λ a. type_of L a) (sorts t) (type_fields L t)
  type_parts t m = ap parts_of (type_out_lem L good t m) ∙ parts_out (type_kind L t) (size_of t) (type_fields L t) (λ a. type_of L a) (fields_there t)

  -- How many parts a type has.
  pub type_groups : (t : ℕ) → t < length L.types → groups_of (type_of L t) ≡ times (type_row_of (type_kind L t)) (size_of t)
  type_groups t m = ap groups_of (type_out_lem L good t m) ∙ groups_out (type_kind L t) (size_of t) (type_fields L t) (λ a. type_of L a) (fields_there t)

  pub type_whole : (t : ℕ) → t < length L.types → Whole (length L.domains) (type_of L t)
  type_whole t m =
      let s = (good.types t m).is.stands in
      let g = type_groups t m in
      let k = kind_head L good t m in
      let least = subst (λ j. (type_row_of j).least ≤ times (type_row_of (type_kind L t)) (size_of t)) k s.least in
      let most = subst (λ j. times (type_row_of (type_kind L t)) (size_of t) ≤ (type_row_of j).most) k s.most in (
        (omega arith, omega arith),
        subst (λ ps. DomainsIn (length L.domains) ps) (sym (type_parts t m))
            (parts_domains (length L.domains) (λ a. type_of L a) (sorts t) (type_fields L t) (row_plain (type_kind L t) (times (type_row_of (type_kind L t)) (size_of t))) (λ j q. (good.types t m).domained j q)),
      )

  -- What holds of each type of the layout holds of each in it.
  module _ (P : Ty → Type 0) (each-type : (t : ℕ) → t < length L.types → P (type_of L t)) where
    pub types_every : (f t : ℕ) → t < f → t < length L.types → Every P (parts_first (type_of L t))
    types_every zero t l m = absurd (omega arith)
    types_every (suc f) t l m =
        let g : ℕ → Ty = λ a. type_of L a in
        let r = parts_every P g (sorts t) (type_fields L t) (λ j q. let w = (good.types t m).lower j q in types_every f (type_field L t j) (omega arith) (omega arith)) in
        let j : Every P (joined (map_parts (λ a. parts_first a) (parts_of (type_of L t)))) = subst (λ ps. Every P (joined (map_parts (λ a. parts_first a) ps))) (sym (type_parts t m)) r in
        subst (λ ts. Every P ts) (sym (parts_first_law (type_of L t))) (every_join P (joined (map_parts (λ a. parts_first a) (parts_of (type_of L t)))) (type_of L t ∷ []) j (each-type t m, tt))

    trees_every : (f m : ℕ) → ((c : ℕ) → c < m → Every P (types_in (tree L f c))) → (es : List ℕ) → Below m es → Every P (types_in_all (subtrees (λ c. tree L f c) es))
    unfolding types_in
    trees_every f m h [] b = tt
    trees_every f m h (c ∷ es) b = every_join P (types_in (tree L f c)) (types_in_all (subtrees (λ c. tree L f c) es)) (h c b.0) (trees_every f m h es b.1)

    tree_every : (f m : ℕ) → m < length L.terms → Every P (types_in (tree L f m))
    unfolding tree types_in
    tree_every zero m t = tt
    tree_every (suc f) m t =
        let ok = good.terms m t in
        every_join P (types_in_all (subtrees (λ c. tree L f c) (children L m))) (parts_first (stated_type L m))
        (trees_every f m (λ c h. tree_every f c (omega arith)) (children L m) ok.below)
        (types_every (suc (type_no L m)) (type_no L m) (omega arith) ok.typed)

    pub program_every : 0 < length L.terms → Every P (types_in (program L))
    unfolding program
    program_every h = tree_every (length L.terms) (root_of L) (omega arith)

  -- A type of the layout is whole, and so are all in it.
  pub parts_whole : (t : ℕ) → t < length L.types → Every (Whole (length L.domains)) (parts_first (type_of L t))
  parts_whole t m = types_every (Whole (length L.domains)) type_whole (suc t) t (omega arith) m

  -- A term's record has its fields.
  term_fielded : (m : ℕ) → m < length L.terms → Fielded (length L.domains) (term_kind L m) (others L m) (length (children L m))
  term_fielded m l =
      let is = (good.terms m l).is in
      let w = term_row (term_kind L m) in
      let b : List ℕ = L.image in
      let o : ℕ = term_place L m in
      record {
        groups = times w (length_at b o);
        numbers = numbers_at b o w;
        sized = record { count = words_length b (o + 4) (length (fields_at b o w)); none = λ h. rw h refl; least = is.stands.least; most = is.stands.most };
        others = refl;
        children = refl;
        ranged = ranged_of (length L.domains) (length L.types) m (fields_at b o w) (numbers_at b o w) is.fields;
      }

  trees_shaped : (f m : ℕ) → ((c : ℕ) → c < m → Shaped (length L.domains) (tree L f c)) → (es : List ℕ) → Below m es → ShapedAll (length L.domains) (subtrees (λ c. tree L f c) es)
  unfolding Shaped
  trees_shaped f m h [] b = tt
  trees_shaped f m h (c ∷ es) b = (h c b.0, trees_shaped f m h es b.1)

  tree_shaped : (f m : ℕ) → m < f → m < length L.terms → Shaped (length L.domains) (tree L f m)
  unfolding tree Shaped
  tree_shaped zero m l t = absurd (omega arith)
  tree_shaped (suc f) m l t =
      let ok = good.terms m t in
      let n : length (children L m) ≡ several (subtrees (λ c. tree L f c) (children L m)) = sym (several_trees (λ c. tree L f c) (children L m)) in (
        types_every (Whole (length L.domains)) type_whole (suc (type_no L m)) (type_no L m) (omega arith) ok.typed,
        subst (λ q. Fielded (length L.domains) (term_kind L m) (others L m) q) n (term_fielded m t),
        trees_shaped f m (λ c h. tree_shaped f c (omega arith) (omega arith)) (children L m) ok.below,
      )

  pub program_shaped : 0 < length L.terms → Shaped (length L.domains) (program L)
  unfolding program
  program_shaped h = tree_shaped (length L.terms) (root_of L) (omega arith) (omega arith)

  module _ (used : (y : ℕ) → y < root_of L → used_once L y ≡ true) (low : (y : ℕ) → y < length L.terms → get_or (depths L) y 0 ≤ depth_limit) where
    trees_shallow : (f d m : ℕ) → ((c : ℕ) → c < m → suc depth_limit ≤ get_or (depths L) c 0 + d → Shallow (tree L f c) d) → (es : List ℕ) → Below m es
        → ((c : ℕ) → 0 < count c es → suc depth_limit ≤ get_or (depths L) c 0 + d) → ShallowAll (subtrees (λ c. tree L f c) es) d
    unfolding Shallow count
    trees_shallow f d m h [] b k = tt
    trees_shallow f d m h (c ∷ es) b k = (
      h c b.0 (k c (let z : eqb c c ≡ true = of_eq {m = c} refl in rw z (omega arith))),
      trees_shallow f d m h es b.1 (λ j p. k j (let z : 0 ≤ choose (eqb j c) 1 0 = omega arith in omega arith)),
    )

    tree_shallow : (f m d : ℕ) → m < length L.terms → suc depth_limit ≤ get_or (depths L) m 0 + d → Shallow (tree L f m) d
    unfolding tree Shallow
    tree_shallow zero m d t h = tt
    tree_shallow (suc f) m zero t h = let z = low m t in absurd (omega arith)
    tree_shallow (suc f) m (suc d) t h =
        trees_shallow f d m (λ c l k. tree_shallow f c d (omega arith) k) (children L m) (good.terms m t).below
        (λ c p. let z : get_or (depths L) c 0 ≡ suc (get_or (depths L) m 0) = depth_child L good used m c t p in omega arith)

    pub program_shallow : 0 < length L.terms → Shallow (program L) depth_limit
    unfolding program
    program_shallow h =
        let root : get_or (depths L) (root_of L) 0 ≡ 1 = depth_root L good used (omega arith) in
        tree_shallow (length L.terms) (root_of L) depth_limit (omega arith) (omega arith)
