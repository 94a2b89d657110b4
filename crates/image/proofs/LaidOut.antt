-- The walk lays out exactly the images that are laid out, and their records are the only ones.
use Prim.Native.Nat.{ℕ, zero, suc, ◌+◌, ◌≤◌, ◌<◌}
use native.Mathlib.Omega.{arith}
use mathlib.Core.Path.{◌≡◌, refl, sym, ap, subst, ◌∙◌}
use mathlib.Core.Bool.{Bool, true, false, not}
use mathlib.Core.List.{List, [], ◌∷◌, ◌++◌, append_assoc, append-nil}
use mathlib.Core.Logic.{◌↔◌}
use mathlib.Core.Option.{none, some}
use lib.ListN.{length, get_or, length-append, get_or-append}
use lib.Seq.{get_or-append_seam}
use lib.Dec.{eqb}
use Rattle.image.specs.Limits.{domain_limit, type_limit, term_limit}
use Rattle.laws.specs.Tests.{first_fault}
use Rattle.image.specs.Bytes.{length_at, number_at}
use Rattle.image.specs.Kinds.{in_domains, in_operations, in_truths, any_number, Field, a_type, own, free, a_term, an_entry, Kind, domain, type, term, domain_row, type_row_of, term_row, row_of, kind_of}
use Rattle.image.specs.Records.{Layout, or_else, kind_at, fields_at, numbers_at}
use Rattle.image.specs.Layout.{nothing, known, long_enough, right_length, is_nil, in_order_of, has_capacity, within, all_within, in_range, same_type, is_new, tests, add, laid, walk, layout}
use Rattle.image.specs.Types.{type_kind_of, type_place, type_number, type_kind, type_fields, term_kind}
use Rattle.image.specs.LaidOut.{EndToEnd, Stands, Within, IsRecord, SameType, LaidOut}
use Rattle.laws.proofs.Booleans.{no_path, and_i, of_lt, of_le, eq_of, of_eq, by_test}
use Rattle.laws.proofs.Tests.{each, of_each, of_all}
use Rattle.image.proofs.KindNumbers.{found}
use Rattle.image.proofs.Fuel.{walk_fuel}
use Rattle.image.proofs.Laid.{same_numbers_lem, numbers_same, tests_passed, walk_reaches, layout_good}

-- There: the records of a walk stand end to end.
abbrev listed : Layout → List ℕ → List ℕ
listed L rest = L.domains ++ (L.types ++ (L.terms ++ rest))

-- Whatever stands end to end from o on, stands so behind the records of L.
abbrev Joins : ℕ → Layout → Type 0
Joins o L = (rest : List ℕ) → EndToEnd L.image o rest → EndToEnd L.image 0 (listed L rest)

is_nil_lem : (xs : List ℕ) → is_nil xs ≡ true → xs ≡ []
is_nil_lem [] h = refl
is_nil_lem (x ∷ xs) h = no_path (sym h)

join_one : (o : ℕ) (L : Layout) (k : Kind) → in_order_of k L ≡ true → Joins o L → Joins (o + length_at L.image o) (add k o L)
join_one o L domain h j rest e =
    let n = each _ h in
    let t : L.types ≡ [] = is_nil_lem L.types n.0 in
    let s : L.terms ≡ [] = is_nil_lem L.terms n.1.0 in
    let q : L.domains ++ (o ∷ rest) ≡ (L.domains ++ (o ∷ [])) ++ rest = sym (append_assoc L.domains (o ∷ []) rest) in
    let z : EndToEnd L.image 0 (L.domains ++ (o ∷ rest)) = rw (t, s) at (j (o ∷ rest) (refl, e)) in
    rw (t, s) (subst (EndToEnd L.image 0) q z)
join_one o L (type k) h j rest e =
    let s : L.terms ≡ [] = is_nil_lem L.terms h in
    let q : L.types ++ (o ∷ rest) ≡ (L.types ++ (o ∷ [])) ++ rest = sym (append_assoc L.types (o ∷ []) rest) in
    let z : EndToEnd L.image 0 (L.domains ++ (L.types ++ (o ∷ rest))) = rw s at (j (o ∷ rest) (refl, e)) in
    rw s (subst (λ xs. EndToEnd L.image 0 (L.domains ++ xs)) q z)
join_one o L (term k) h j rest e =
    let q : L.terms ++ (o ∷ rest) ≡ (L.terms ++ (o ∷ [])) ++ rest = sym (append_assoc L.terms (o ∷ []) rest) in
    subst (λ xs. EndToEnd L.image 0 (L.domains ++ (L.types ++ xs))) q (j (o ∷ rest) (refl, e))

end_to_end : (b : List ℕ) (L : Layout) → layout b ≡ laid L → EndToEnd L.image 0 (L.domains ++ (L.types ++ L.terms))
unfolding layout
end_to_end b L h =
    let j = walk_reaches Joins (λ o K q g. join_one o K (kind_at K.image o) (tests_passed K o q).order g) (length b) 0 (nothing b) L h (λ rest e. e) in
    rw append-nil at (j [] refl)

-- Equal types, by their numbers: types of one number are of one kind.
module _ (L : Layout) (t u : ℕ) where
  one_kind : type_number L t ≡ type_number L u → numbers_at L.image (type_place L u) (type_row_of (type_kind L t)) ≡ type_fields L u
  one_kind e = ap (λ n. numbers_at L.image (type_place L u) (type_row_of (type_kind_of (or_else (kind_of n) domain)))) e

  same_type_lem : SameType L t u → same_type L.image (type_row_of (type_kind L t)) (type_place L t) (type_place L u) ≡ true
  same_type_lem s = of_each _ (of_eq s.0, (rw (one_kind s.0, ← s.1) (same_numbers_lem (type_fields L t)), tt))

  type_same : same_type L.image (type_row_of (type_kind L t)) (type_place L t) (type_place L u) ≡ true → SameType L t u
  type_same h =
      let s = each _ h in
      let e : type_number L t ≡ type_number L u = eq_of s.0 in
      (e, numbers_same (type_fields L t) (numbers_at L.image (type_place L u) (type_row_of (type_kind L t))) s.1.0 ∙ one_kind e)

walked_out : (b : List ℕ) (L : Layout) → layout b ≡ laid L → LaidOut L
walked_out b L h =
    let g = layout_good b L h in
    record {
      in_order = end_to_end b L h;
      few_domains = g.few_domains;
      few_types = g.few_types;
      few_terms = g.few_terms;
      domains = g.domains;
      types = λ t l. (g.types t l).is;
      terms = λ n l. (g.terms n l).is;
      apart = λ t u l m s. no_path (sym (same_type_lem L t u s) ∙ (g.types t l).apart u m);
    }

-- Back: a record that is one behind the records of K passes.
record Follows (K : Layout) (o : ℕ) (k : Kind) : Type 0 where
  is : IsRecord K.image (row_of k) o (length K.domains) (length K.types) (length K.terms)
  order : in_order_of k K ≡ true
  capacity : has_capacity k K ≡ true
  new : is_new k o K ≡ true

of_within : (K : Layout) (f : Field) (v : ℕ) → Within (length K.domains) (length K.types) (length K.terms) f v → within K f v ≡ true
of_within K a_type v h = of_lt h
of_within K (own in_domains) v h = of_lt h
of_within K (own in_operations) v h = of_lt h
of_within K (own in_truths) v h = of_le h
of_within K (own any_number) v h = refl
of_within K (a_term b) v h = of_lt h
of_within K an_entry v h = of_le h

of_fields : (K : Layout) (fs : List Field) (vs : List ℕ) → ((i : ℕ) → i < length fs → Within (length K.domains) (length K.types) (length K.terms) (get_or fs i free) (get_or vs i 0)) → all_within K fs vs ≡ true
unfolding all_within
of_fields K [] vs h = refl
of_fields K (f ∷ fs) [] h = refl
of_fields K (f ∷ fs) (v ∷ vs) h = and_i (of_within K f v (h 0 (omega arith))) (of_fields K fs vs (λ i l. h (suc i) (omega arith)))

pass : {A : Type 0} (a : A) (t : Bool) (ts : List (A × Bool)) → t ≡ true → first_fault ts ≡ none → first_fault ((a, t) ∷ ts) ≡ none
unfolding first_fault
pass a true ts h k = k
pass a false ts h k = no_path (sym h)

pass_all : {A : Type 0} → first_fault {A = A} [] ≡ none
unfolding first_fault
pass_all = refl

pub of_long : (gs : List Field) (m n : ℕ) → m ≤ n → (0 < length gs → n ≡ m) → long_enough gs m n ≡ true
of_long [] m n h e = of_le h
of_long (g ∷ gs) m n h e = of_eq (e (omega arith))

kind_there : (K : Layout) (o : ℕ) (k : Kind) → Follows K o k → kind_of (number_at K.image o) ≡ some k
kind_there K o k w = ap (λ n. kind_of n) w.is.stands.number ∙ found k

kind_at_lem : (K : Layout) (o : ℕ) (k : Kind) → Follows K o k → kind_at K.image o ≡ k
kind_at_lem K o k w = rw (kind_there K o k w) refl

follows_passes : (K : Layout) (o : ℕ) (k : Kind) → Follows K o k → first_fault (tests K o) ≡ none
unfolding tests
follows_passes K o k w =
    let b : List ℕ = K.image in
    let s = w.is.stands in
    let size = s.size in
    let inside = s.inside in
    let least = s.least in
    let most = s.most in
    let q : k ≡ kind_at b o = sym (kind_at_lem K o k w) in
    let w0 : o + 4 ≤ length b = omega arith in
    let w1 : 4 ≤ length_at b o = omega arith in
    let right : right_length (row_of k) (length_at b o) ≡ true = of_each _ (of_le least, (of_le most, (of_long (row_of k).group _ _ size s.exact, tt))) in
    let there : known b o ≡ true = rw (kind_there K o k w) refl in
    let range : in_range K o (row_of k) ≡ true = of_fields K (fields_at b o (row_of k)) (numbers_at b o (row_of k)) w.is.fields in
    pass _ _ _ (of_each _ (of_le w0, (of_le w1, (of_le inside, tt))))
    (pass _ _ _ there
    (pass _ _ _ (subst (λ j. right_length (row_of j) (length_at b o) ≡ true) q right)
    (pass _ _ _ (subst (λ j. in_order_of j K ≡ true) q w.order)
    (pass _ _ _ (subst (λ j. has_capacity j K ≡ true) q w.capacity)
    (pass _ _ _ (subst (λ j. in_range K o (row_of j) ≡ true) q range)
    (pass _ _ _ (subst (λ j. is_new j o K ≡ true) q w.new) pass_all))))))

follows_walks : (f o : ℕ) (K M : Layout) (k : Kind) → Follows K o k → walk f (o + length_at K.image o) (add k o K) ≡ laid M → walk (suc f) o K ≡ laid M
unfolding walk
follows_walks f o K M k w h = by_test (eqb o (length K.image))
    (λ e. let z : o ≡ length K.image = eq_of e in let i = w.is.stands.inside in let n = w.is.stands.size in absurd (omega arith))
    λ e. rw (e, follows_passes K o k w, walk) (subst (λ j. walk f (o + length_at K.image o) (add j o K) ≡ laid M) (sym (kind_at_lem K o k w)) h)

pub walk_end : (f o : ℕ) (K : Layout) → o ≡ length K.image → walk f o K ≡ laid K
unfolding walk
walk_end zero o K h = let e : eqb o (length K.image) ≡ true = of_eq h in rw (e, walk) refl
walk_end (suc f) o K h = let e : eqb o (length K.image) ≡ true = of_eq h in rw (e, walk) refl

-- The next of the offsets xs behind the offsets that were walked.
seam : (xs ys : List ℕ) (p : ℕ) (rest : List ℕ) → ys ++ (p ∷ rest) ≡ xs → (get_or xs (length ys) 0 ≡ p) × (length ys < length xs)
seam xs ys p rest e = (subst (λ zs. get_or zs (length ys) 0 ≡ p) e (get_or-append_seam ys p rest 0), subst (λ zs. length ys < length zs) e (omega (arith, length-append ys (p ∷ rest))))

onward : (xs ys : List ℕ) (p o : ℕ) (rest : List ℕ) → p ≡ o → ys ++ (p ∷ rest) ≡ xs → (ys ++ (o ∷ [])) ++ rest ≡ xs
onward xs ys p o rest q e = append_assoc ys (o ∷ []) rest ∙ ap (λ x. ys ++ (x ∷ rest)) (sym q) ∙ e

module _ (L : Layout) (l : LaidOut L) where
  abbrev upto : List ℕ → List ℕ → List ℕ → Layout
  upto xs ys zs = record { image = L.image; domains = xs; types = ys; terms = zs }

  walk_terms : (rest zs : List ℕ) (f o : ℕ) → zs ++ rest ≡ L.terms → EndToEnd L.image o rest → length rest ≤ f → walk f o (upto L.domains L.types zs) ≡ laid L
  walk_terms [] zs f o e j n = walk_end f o _ j ∙ ap (λ xs. laid (upto L.domains L.types xs)) (sym (append-nil zs) ∙ e)
  walk_terms (p ∷ rest) zs zero o e j n = absurd (omega arith)
  walk_terms (p ∷ rest) zs (suc f) o e j n =
      let s = seam L.terms zs p rest e in
      let few = l.few_terms in
      let m = s.1 in
      let capacity : length zs < term_limit = omega arith in
      follows_walks f o _ L (term (term_kind L (length zs)))
      (record {
        is = subst (λ q. IsRecord L.image (term_row (term_kind L (length zs))) q (length L.domains) (length L.types) (length zs)) (s.0 ∙ j.0) (l.terms (length zs) m);
        order = refl;
        capacity = of_lt capacity;
        new = refl;
      })
      (walk_terms rest (zs ++ (o ∷ [])) f _ (onward L.terms zs p o rest j.0 e) j.1 (omega arith))

  walk_types : (rest ys : List ℕ) (f o : ℕ) → ys ++ rest ≡ L.types → EndToEnd L.image o (rest ++ L.terms) → length rest + length L.terms ≤ f → walk f o (upto L.domains ys []) ≡ laid L
  walk_types [] ys f o e j n = ap (λ xs. walk f o (upto L.domains xs [])) (sym (append-nil ys) ∙ e) ∙ walk_terms L.terms [] f o refl j (omega arith)
  walk_types (p ∷ rest) ys zero o e j n = absurd (omega arith)
  walk_types (p ∷ rest) ys (suc f) o e j n =
      let s = seam L.types ys p rest e in
      let few = l.few_types in
      let m = s.1 in
      let capacity : length ys < type_limit = omega arith in
      follows_walks f o _ L (type (type_kind L (length ys)))
      (record {
        is = subst (λ q. IsRecord L.image (type_row_of (type_kind L (length ys))) q (length L.domains) (length ys) 0) (s.0 ∙ j.0) (l.types (length ys) m);
        order = refl;
        capacity = of_lt capacity;
        new = of_all _ ys (λ u k. other u k (same_type L.image (type_row_of (type_kind L (length ys))) o (get_or ys u 0)) refl);
      })
      (walk_types rest (ys ++ (o ∷ [])) f _ (onward L.types ys p o rest j.0 e) j.1 (omega arith))
    where
      other : (u : ℕ) → u < length ys → (t : Bool) → same_type L.image (type_row_of (type_kind L (length ys))) o (get_or ys u 0) ≡ t → not (same_type L.image (type_row_of (type_kind L (length ys))) o (get_or ys u 0)) ≡ true
      other u k false q = rw q refl
      other u k true q =
          let s = seam L.types ys p rest e in
          let a : o ≡ type_place L (length ys) = sym (s.0 ∙ j.0) in
          let c : get_or ys u 0 ≡ type_place L u = sym (get_or-append ys (p ∷ rest) 0 u k) ∙ ap (λ xs. get_or xs u 0) e in
          let same : SameType L (length ys) u = type_same L (length ys) u (subst (λ x. same_type L.image (type_row_of (type_kind L (length ys))) x (type_place L u) ≡ true) a (subst (λ x. same_type L.image (type_row_of (type_kind L (length ys))) o x ≡ true) c q)) in
          absurd (l.apart (length ys) u s.1 k same)

  walk_domains : (rest xs : List ℕ) (f o : ℕ) → xs ++ rest ≡ L.domains → EndToEnd L.image o (rest ++ (L.types ++ L.terms)) → length rest + (length L.types + length L.terms) ≤ f → walk f o (upto xs [] []) ≡ laid L
  walk_domains [] xs f o e j n = ap (λ ys. walk f o (upto ys [] [])) (sym (append-nil xs) ∙ e) ∙ walk_types L.types [] f o refl j (omega arith)
  walk_domains (p ∷ rest) xs zero o e j n = absurd (omega arith)
  walk_domains (p ∷ rest) xs (suc f) o e j n =
      let s = seam L.domains xs p rest e in
      let few = l.few_domains in
      let m = s.1 in
      let capacity : length xs < domain_limit = omega arith in
      let st : Stands L.image domain_row o = subst (λ q. Stands L.image domain_row q) (s.0 ∙ j.0) (l.domains (length xs) m) in
      follows_walks f o _ L domain
      (record {
        is = record { stands = st; fields = λ i k. mask i k };
        order = of_each _ (refl, (refl, tt));
        capacity = of_lt capacity;
        new = refl;
      })
      (walk_domains rest (xs ++ (o ∷ [])) f _ (onward L.domains xs p o rest j.0 e) j.1 (omega arith))
    where
      mask : (i : ℕ) → i < 1 → Within (length xs) 0 0 (get_or (free ∷ []) i free) (get_or (numbers_at L.image o domain_row) i 0)
      mask zero k = tt
      mask (suc i) k = absurd (omega arith)

  out_walked : layout L.image ≡ laid L
  unfolding layout
  out_walked =
      let n : ℕ = length L.domains + (length L.types + length L.terms) in
      walk_fuel (length L.image) (n + length L.image) 0 (nothing L.image) (omega arith) (omega arith)
      ∙ walk_domains L.domains [] (n + length L.image) 0 refl l.in_order (omega arith)

-- The walk lays out the records L of their image exactly if they are laid out.
pub laid_iff : (L : Layout) → layout L.image ≡ laid L ↔ LaidOut L
laid_iff L = (walked_out L.image L, out_walked L)
