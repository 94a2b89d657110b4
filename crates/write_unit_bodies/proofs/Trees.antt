-- The program of the copy is the image's without its watches, and its domains are the image's.
use Prim.Native.Nat.{ℕ, zero, suc, ◌<◌}
use native.Mathlib.Omega.{arith}
use mathlib.Core.Path.{◌≡◌, refl, sym, ap, ◌∙◌}
use mathlib.Core.Bool.{Bool, true, false}
use mathlib.Core.List.{List, [], ◌∷◌, map}
use lib.ListN.{length, get_or}
use Rattle.calculus.specs.Syntax.{Dom}
use Rattle.calculus.specs.Combinators.{choose}
use Rattle.image.specs.Bytes.{words, field_at}
use Rattle.image.specs.Kinds.{Field, term_row, fields_of}
use Rattle.image.specs.Records.{Layout, times, fields_at, numbers_at, as_child, as_other, given, children_at, others_at}
use Rattle.image.specs.Layout.{laid, layout}
use Rattle.image.specs.Types.{term_place, type_of, term_kind, type_no, stated_type, others, children, root_of}
use Rattle.image.specs.Program.{end, subtrees, tree, program}
use Rattle.laws.proofs.Booleans.{no_path, by_test}
use Rattle.image.proofs.TypeNumbers.{type_same}
use Rattle.image.proofs.Laid.{below_at}
use Rattle.verdict.specs.Shape.{used_once}
use Rattle.verdict.specs.Domains.{masks}
use Rattle.image_written.specs.Stripped.{as_unit, stripped, strippeds}
use Rattle.write_unit_bodies.specs.UnitBodies.{low_advice_or_lower, body_at, UnitBodies}
use Rattle.write_unit_bodies.proofs.Watches.{gives, gives_low, low_gives, body_below, one_place}
use Rattle.write_unit_bodies.proofs.Copied.{good, copied, mask_same, type_kind_same, type_fields_same, cut, cut_some, cut_none, type_no_same, kind_stays, length_stays, numbers_stay, kind_unit}

map_same : (g h : ℕ → ℕ) (xs : List ℕ) → ((i : ℕ) → i < length xs → g (get_or xs i 0) ≡ h (get_or xs i 0)) → map g xs ≡ map h xs
map_same g h [] e = refl
map_same g h (x ∷ xs) e = let a = e 0 (omega arith) in let r = map_same g h xs (λ i l. e (suc i) (omega arith)) in cc

module _ (L : Layout) (walked : layout L.image ≡ laid L) (high : Dom → Bool) (c : List ℕ) (I : UnitBodies L high (length L.terms) L.image c) where
  abbrev M : Layout
  M = copied L walked high c I

  pub masks_same : masks M ≡ masks L
  masks_same = map_same (λ o. field_at c o 0) (λ o. field_at L.image o 0) L.domains (λ d h. mask_same L walked high c I d h)

  module _ (n : ℕ) (h : n < length L.terms) where
    stated_same : stated_type M n ≡ stated_type L n
    stated_same = ap (λ t. type_of M t) (type_no_same L walked high c I n h) ∙ type_same L M (good L walked high c I) (type_kind_same L walked high c I) (type_fields_same L walked high c I) (type_no L n) ((good L walked high c I).terms n h).typed

    given_stays : cut L walked high c I n ≡ false → (of : Field → ℕ → List ℕ)
        → given of (fields_at c (term_place L n) (term_row (term_kind M n))) (numbers_at c (term_place L n) (term_row (term_kind M n)))
        ≡ given of (fields_at L.image (term_place L n) (term_row (term_kind L n))) (numbers_at L.image (term_place L n) (term_row (term_kind L n)))
    given_stays q of =
        ap (λ k. given of (fields_at c (term_place L n) (term_row k)) (numbers_at c (term_place L n) (term_row k))) (kind_stays L walked high c I n h q)
        ∙ ap (λ m. given of (fields_of (term_row (term_kind L n)) (times (term_row (term_kind L n)) m)) (numbers_at c (term_place L n) (term_row (term_kind L n)))) (length_stays L walked high c I n h q)
        ∙ ap (λ vs. given of (fields_at L.image (term_place L n) (term_row (term_kind L n))) vs) (numbers_stay L walked high c I n h q)

    no_others : cut L walked high c I n ≡ true → others M n ≡ []
    unfolding words
    no_others q = ap (λ k. others_at c (term_place L n) (term_row k)) (kind_unit L walked high c I n h q)

    no_children : cut L walked high c I n ≡ true → children M n ≡ []
    unfolding words
    no_children q = ap (λ k. children_at c (term_place L n) (term_row k)) (kind_unit L walked high c I n h q)

  -- A body that gives way is a unit.
  gone_tree : (f n : ℕ) → n < f → n < length L.terms → cut L walked high c I n ≡ true → tree M f n ≡ as_unit (tree L f n)
  unfolding tree
  gone_tree zero n l h q = absurd (omega arith)
  gone_tree (suc f) n l h q =
      let k = kind_unit L walked high c I n h q in
      let t = stated_same n h in
      let v = no_others n h q in
      let e : subtrees (λ e. tree M f e) (children M n) ≡ end = ap (λ es. subtrees (λ e. tree M f e) es) (no_children n h q) in
      cc

  cut_body : (p : ℕ) → p < length L.terms → low_advice_or_lower L high p ≡ true → cut L walked high c I (body_at L p) ≡ true
  cut_body p h w = by_test (cut L walked high c I (body_at L p)) (λ q. q) λ q. absurd (cut_none L walked high c I (body_at L p) q p h w refl)

  each_stripped : (f : ℕ) (es : List ℕ) (low : ℕ → Bool) → ((j : ℕ) → j < length es → tree M f (get_or es j 0) ≡ choose (low j) (as_unit (tree L f (get_or es j 0))) (stripped high (tree L f (get_or es j 0))))
      → subtrees (λ e. tree M f e) es ≡ strippeds high (subtrees (λ e. tree L f e) es) low
  unfolding stripped
  each_stripped f [] low e = refl
  each_stripped f (x ∷ es) low e = let a = e 0 (omega arith) in let r = each_stripped f es (λ i. low (suc i)) (λ j l. e (suc j) (omega arith)) in cc

  module _ (once : (n : ℕ) → n < root_of L → used_once L n ≡ true) where
    -- A child that does not give way stays.
    child_stays : (n j : ℕ) → n < length L.terms → j < length (children L n) → gives L (good L walked high c I) high n j ≡ false → cut L walked high c I (get_or (children L n) j 0) ≡ false
    child_stays n j h l q = by_test (cut L walked high c I (get_or (children L n) j 0))
        (λ r.
        let w = cut_some L walked high c I (get_or (children L n) j 0) r in
        let p : ℕ = w.0 in
        let g = low_gives L (good L walked high c I) high p w.1.0 w.1.1 in
        let z = one_place L (good L walked high c I) once n p j g.0 h w.1.0 l g.1.0 (w.1.2 ∙ g.1.1) in
        let y : gives L (good L walked high c I) high n j ≡ true = ap (λ m. gives L (good L walked high c I) high m j) z.0 ∙ ap (λ i. gives L (good L walked high c I) high p i) z.1 ∙ g.1.2 in
        no_path (sym y ∙ q))
        λ r. r

    stays_tree : (f n : ℕ) → n < f → n < length L.terms → cut L walked high c I n ≡ false → tree M f n ≡ stripped high (tree L f n)
    unfolding tree stripped
    stays_tree zero n l h q = absurd (omega arith)
    stays_tree (suc f) n l h q =
        let k = kind_stays L walked high c I n h q in
        let t = stated_same n h in
        let v : others M n ≡ others L n = given_stays n h q as_other in
        let e : subtrees (λ e. tree M f e) (children M n) ≡ strippeds high (subtrees (λ e. tree L f e) (children L n)) (gives L (good L walked high c I) high n) =
        ap (λ es. subtrees (λ e. tree M f e) es) (given_stays n h q as_child)
        ∙ each_stripped f (children L n) (gives L (good L walked high c I) high n) (λ j i. child f n l h (λ m x y z. stays_tree f m x y z) j i (gives L (good L walked high c I) high n j) refl) in
        cc
      where
        child : (f n : ℕ) → n < suc f → n < length L.terms → ((m : ℕ) → m < f → m < length L.terms → cut L walked high c I m ≡ false → tree M f m ≡ stripped high (tree L f m))
            → (j : ℕ) → j < length (children L n) → (x : Bool) → gives L (good L walked high c I) high n j ≡ x
            → tree M f (get_or (children L n) j 0) ≡ choose (gives L (good L walked high c I) high n j) (as_unit (tree L f (get_or (children L n) j 0))) (stripped high (tree L f (get_or (children L n) j 0)))
        child f n l h ih j i true r =
            let b = below_at n (children L n) j ((good L walked high c I).terms n h).below i in
            let g = gives_low L (good L walked high c I) high n h j r in
            let s : cut L walked high c I (get_or (children L n) j 0) ≡ true = ap (λ m. cut L walked high c I m) (sym g.1) ∙ cut_body n h g.0 in
            gone_tree f (get_or (children L n) j 0) (omega arith) (omega arith) s
            ∙ ap (λ y. choose y (as_unit (tree L f (get_or (children L n) j 0))) (stripped high (tree L f (get_or (children L n) j 0)))) (sym r)
        child f n l h ih j i false r =
            let b = below_at n (children L n) j ((good L walked high c I).terms n h).below i in
            ih (get_or (children L n) j 0) (omega arith) (omega arith) (child_stays n j h i r)
            ∙ ap (λ y. choose y (as_unit (tree L f (get_or (children L n) j 0))) (stripped high (tree L f (get_or (children L n) j 0)))) (sym r)

    root_stays : 0 < length L.terms → cut L walked high c I (root_of L) ≡ false
    root_stays h = by_test (cut L walked high c I (root_of L))
        (λ r.
        let w = cut_some L walked high c I (root_of L) r in
        let b = body_below L (good L walked high c I) high w.0 w.1.0 w.1.1 in
        let l = w.1.0 in
        let e = w.1.2 in
        absurd (omega arith))
        λ r. r

    pub program_stripped : 0 < length L.terms → program M ≡ stripped high (program L)
    unfolding program
    program_stripped h = stays_tree (length L.terms) (root_of L) (omega arith) (omega arith) (root_stays h)
