-- One type more in the table.
use Prim.Native.Nat.{ℕ, suc, ◌+◌, ◌≤◌, ◌<◌}
use native.Mathlib.Omega.{arith}
use mathlib.Core.Path.{◌≡◌, refl, sym, ap, subst, ◌∙◌}
use mathlib.Core.Bool.{Bool, true, false, not}
use mathlib.Core.List.{List, [], ◌∷◌, ◌++◌, map}
use lib.ListN.{length, get_or, set, take, length-map, length-append, length-set}
use lib.Seq.{take-suc-set, length-take-le, get_or-set_same, get_or-set_other}
use lib.Dec.{eqb}
use Rattle.calculus.specs.Syntax.{Ty}
use Rattle.image.specs.Limits.{type_limit}
use Rattle.image.specs.Layout.{records_of}
use Rattle.image.specs.Kinds.{free}
use Rattle.image.specs.Types.{type_fields, type_field, type_of}
use Rattle.laws.proofs.Booleans.{no_path, eq_of, of_eq}
use Rattle.image.proofs.Laid.{LayoutOk, Below, layout_good}
use Rattle.image.proofs.TypeNumbers.{types_apart}
use Rattle.read_terms.specs.Lent.{TypeOffsets, IsType}
use Rattle.image_written.specs.TypeParts.{parts_of, parts_first, joined}
use Rattle.image_written.specs.Table.{place, has, enter, entered}
use Rattle.image_written.proofs.TypeParts.{map_parts}
use Rattle.image_written.proofs.Places.{has_place, has_more, place_more, place_last, has_last, has_snoc}
use Rattle.image_written.proofs.Writable.{Bounded, PartsIn, TableFrom, Every}
use Rattle.image_written.proofs.Entering.{entered_append, enter_one, enter_behind}
use Rattle.image_written.proofs.Taken.{fields_there, parts_whole}
use Rattle.image_written.proofs.Sizes.{From, table_few}
use Rattle.image_written.proofs.Steps.{entered_there}
use Rattle.read_records.specs.Codes.{class_number}
use Rattle.write_types.proofs.Located.{good, class_type, before_type, before_other, sorts_at, front_of}
use Rattle.write_types.specs.Entries.{no_place, place_in, entries_of, Entries, PartsThere, Placed}

map_snoc : {A B : Type 0} (f : A → B) (xs : List A) (x : A) → map f (xs ++ (x ∷ [])) ≡ map f xs ++ (f x ∷ [])
map_snoc f [] x = refl
map_snoc f (y ∷ xs) x = ap (λ ys. f y ∷ ys) (map_snoc f xs x)

below_snoc : (n : ℕ) (xs : List ℕ) (x : ℕ) → Below n xs → x < n → Below n (xs ++ (x ∷ []))
below_snoc n [] x b h = (h, tt)
below_snoc n (y ∷ xs) x b h = (b.0, below_snoc n xs x b.1 h)

module _ {b : List ℕ} {n : ℕ} {places order : List ℕ} (E : Entries b n places order) where
  abbrev of : ℕ → Ty
  of t = type_of (records_of b) t

  abbrev T : List Ty
  T = entries_of b n order

  abbrev D : ℕ
  D = length (records_of b).domains

  laid_good : LayoutOk (records_of b)
  laid_good = layout_good b (records_of b) E.laid_out

  pub long : length T ≡ n
  long = length-map (take n order) (λ t. of t) ∙ length-take-le n order E.few

  all_from : (xs : List ℕ) → Below (length (records_of b).types) xs → Every (From (records_of b) laid_good) (map (λ t. of t) xs)
  all_from [] h = tt
  all_from (x ∷ xs) h = ((x, h.0, refl), all_from xs h.1)

  pub few_entries : n ≤ length (records_of b).types
  few_entries = let f = table_few (records_of b) laid_good D T E.table (all_from (take n order) E.numbers) in let l = long in omega arith

  pub entries_placed : Placed b places T
  entries_placed = record { each = λ t l q. E.each t l ∙ rw q refl }

  module _ {t : ℕ} (h : IsType b t) where
    -- The place tells whether it is there.
    pub told_there : (s : Bool) → s ≡ not (eqb (get_or places t 0) no_place) → has T (of t) ≡ s
    told_there s e = go (has T (of t)) refl
      where
        go : (c : Bool) → has T (of t) ≡ c → has T (of t) ≡ s
        go true q =
            let y : eqb (get_or places t 0) no_place ≡ false = not_same (eqb (get_or places t 0) no_place) refl in
            q ∙ sym (e ∙ rw y refl)
          where
            not_same : (d : Bool) → eqb (get_or places t 0) no_place ≡ d → eqb (get_or places t 0) no_place ≡ false
            not_same false z = z
            not_same true z =
                let p = has_place T (of t) q in
                let f = few_entries in
                let l = long in
                let g = laid_good.few_types in
                let x : get_or places t 0 ≡ place T (of t) = E.each t h ∙ rw q refl in
                let y : get_or places t 0 ≡ no_place = eq_of z in
                absurd (omega arith)
        go false q =
            let x : get_or places t 0 ≡ no_place = E.each t h ∙ rw q refl in
            let y : eqb (get_or places t 0) no_place ≡ true = of_eq x in
            q ∙ sym (e ∙ rw y refl)

    pub there_entered : has T (of t) ≡ true → T ≡ entered T (parts_first (of t))
    there_entered q = sym (entered_there D T E.table (of t) q)

    -- A type that is not there is put behind the others.
    module _ (P : PartsThere b n order t) (q : has T (of t) ≡ false) where
      abbrev order' : List ℕ
      order' = set order n t

      grown : enter T (of t) ≡ T ++ (of t ∷ [])
      grown = rw q refl

      table_more : TableFrom D [] (T ++ (of t ∷ []))
      table_more = subst (λ X. TableFrom D [] X) grown (enter_one D T (of t) E.table P.bounded P.there).table

      room : n < length (records_of b).types
      room =
          let f = table_few (records_of b) laid_good D (T ++ (of t ∷ [])) table_more (subst (λ X. Every (From (records_of b) laid_good) X) (map_snoc (λ u. of u) (take n order) t) (all_from (take n order ++ (t ∷ [])) (below_snoc (length (records_of b).types) (take n order) t E.numbers h))) in
          let l = long in
          omega (arith, length-append T (of t ∷ []))

      pub few_types : n < type_limit
      few_types =
          let r = room in
          let g = laid_good.few_types in
          omega arith

      pub capacity : n < length order
      capacity =
          let r = room in
          let o = E.enough_order in
          omega arith

      taken : take (n + 1) order' ≡ take n order ++ (t ∷ [])
      taken = let z : n + 1 ≡ suc n = omega arith in ap (λ m. take m order') z ∙ take-suc-set order n t capacity

      one_more : entries_of b (n + 1) order' ≡ T ++ (of t ∷ [])
      one_more = ap (λ xs. map (λ u. of u) xs) taken ∙ map_snoc (λ u. of u) (take n order) t

      pub one_entered : entries_of b (n + 1) order' ≡ enter T (of t)
      one_entered = one_more ∙ sym grown

      each_more : (u : ℕ) → u < length (records_of b).types → get_or (set places t n) u 0 ≡ place_in (T ++ (of t ∷ [])) (of u)
      each_more u l = go (eqb u t) refl
        where
          go : (c : Bool) → eqb u t ≡ c → get_or (set places t n) u 0 ≡ place_in (T ++ (of t ∷ [])) (of u)
          go true e =
              let z : u ≡ t = eq_of e in
              let p = E.enough_places in
              let w : get_or (set places t n) t 0 ≡ n = get_or-set_same places t n 0 (omega arith) in
              let y : place_in (T ++ (of t ∷ [])) (of t) ≡ n = rw (has_last T (of t)) (place_last T (of t) [] q ∙ long) in
              subst (λ x. get_or (set places t n) x 0 ≡ place_in (T ++ (of t ∷ [])) (of x)) (sym z) (w ∙ sym y)
          go false e = get_or-set_other places t u n 0 (λ z. let y : u ≡ t = z in no_path (sym (of_eq y) ∙ e)) ∙ E.each u l ∙ two (has T (of u)) refl
            where
              two : (d : Bool) → has T (of u) ≡ d → place_in T (of u) ≡ place_in (T ++ (of t ∷ [])) (of u)
              two true w = rw (w, has_more T (of t ∷ []) (of u) w) (sym (place_more T (of t ∷ []) (of u) w))
              two false w = rw (w, absent (has (T ++ (of t ∷ [])) (of u)) refl) refl
                where
                  absent : (d : Bool) → has (T ++ (of t ∷ [])) (of u) ≡ d → has (T ++ (of t ∷ [])) (of u) ≡ false
                  absent false v = v
                  absent true v = let z : u ≡ t = types_apart (records_of b) laid_good u t l h (has_snoc T (of t) (of u) v w) in no_path (sym (of_eq z) ∙ e)

      pub entries_more : Entries b (n + 1) (set places t n) order'
      entries_more =
          let r = capacity in
          record {
            laid_out = E.laid_out;
            enough_places = rw (length-set places t n) E.enough_places;
            enough_order = rw (length-set order n t) E.enough_order;
            few = rw (length-set order n t) (omega arith);
            numbers = rw taken (below_snoc (length (records_of b).types) (take n order) t E.numbers h);
            table = rw one_more table_more;
            each = λ u l. rw one_more (each_more u l);
          }

-- A type behind its parts.
module _ {b : List ℕ} {n m : ℕ} {places places' order order' : List ℕ} (E : Entries b n places order) (F : Entries b m places' order') {t : ℕ} (h : IsType b t)
    (e : entries_of b m order' ≡ entered (entries_of b n order) (joined (map_parts (λ a. parts_first a) (parts_of (type_of (records_of b) t))))) where
  behind : let U : List Ty = entered (entries_of b n order) (joined (map_parts (λ a. parts_first a) (parts_of (type_of (records_of b) t)))) in (PartsIn (length (records_of b).domains) U (parts_of (type_of (records_of b) t)) × Bounded (type_of (records_of b) t) × (enter U (type_of (records_of b) t) ≡ entered (entries_of b n order) (parts_first (type_of (records_of b) t))))
  behind = enter_behind (length (records_of b).domains) (type_of (records_of b) t) (entries_of b n order) E.table (parts_whole (records_of b) (layout_good b (records_of b) E.laid_out) t h)

  pub parts_there : PartsThere b m order' t
  parts_there = record { there = rw e behind.0; bounded = behind.1 }

  pub all_entered : enter (entries_of b m order') (type_of (records_of b) t) ≡ entered (entries_of b n order) (parts_first (type_of (records_of b) t))
  all_entered = ap (λ X. enter X (type_of (records_of b) t)) e ∙ behind.2

-- One field more of a type of which the parts so far are entered.
module _ {b table : List ℕ} (O : TypeOffsets b table) {t : ℕ} (h : IsType b t) (i : ℕ) (l : i < length (sorts_at b t)) where
  pub part_entered : (T U : List Ty) → class_number (get_or (sorts_at b t) i free) ≡ 0 → U ≡ entered T (front_of b t i) → entered U (parts_first (type_of (records_of b) (type_field (records_of b) t i))) ≡ entered T (front_of b t (i + 1))
  part_entered T U e u =
      let z : suc i ≡ i + 1 = omega arith in
      let f : front_of b t (suc i) ≡ front_of b t i ++ parts_first (type_of (records_of b) (type_field (records_of b) t i)) = before_type (λ a. type_of (records_of b) a) (sorts_at b t) (type_fields (records_of b) t) i (fields_there (records_of b) (good O h) t) l (class_type _ e) in
      ap (λ X. entered X (parts_first (type_of (records_of b) (type_field (records_of b) t i)))) u ∙ sym (entered_append T (front_of b t i) _) ∙ ap (λ xs. entered T xs) (sym f) ∙ ap (λ j. entered T (front_of b t j)) z

  pub no_part : (class_number (get_or (sorts_at b t) i free) ≡ 0 → ⊥) → front_of b t i ≡ front_of b t (i + 1)
  no_part e =
      let z : suc i ≡ i + 1 = omega arith in
      sym (before_other (λ a. type_of (records_of b) a) (sorts_at b t) (type_fields (records_of b) t) i (fields_there (records_of b) (good O h) t) l e) ∙ ap (λ j. front_of b t j) z
