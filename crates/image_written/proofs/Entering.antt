-- The table of a program's types is a table, and has them all.
use Prim.Native.Nat.{ℕ}
use mathlib.Core.Path.{◌≡◌, refl, sym, ap, subst, ◌∙◌}
use mathlib.Core.Bool.{true, false}
use mathlib.Core.List.{List, [], ◌∷◌, ◌++◌, append_assoc, append-nil}
use Rattle.laws.proofs.Booleans.{by_test}
use Rattle.calculus.specs.Syntax.{Ty}
use Rattle.image.specs.Program.{Program, Programs, node, blank, end, more}
use Rattle.image_written.specs.TypeParts.{Part, sub, at, parts_of, parts_first, joined}
use Rattle.image_written.specs.Table.{has, enter, entered, types_in, types_in_all, table_of}
use Rattle.image_written.proofs.TypeParts.{map_parts, AllSubs, by_parts, parts_first_law}
use Rattle.image_written.proofs.Places.{has_more, has_last}
use Rattle.image_written.proofs.Writable.{Bounded, PartsIn, TableFrom, Every, DomainsIn, Whole, Shaped, ShapedAll, Formed, FormedAll}

pub entered_append : (T xs ys : List Ty) → entered T (xs ++ ys) ≡ entered (entered T xs) ys
unfolding entered
entered_append T [] ys = refl
entered_append T (x ∷ xs) ys = entered_append (enter T x) xs ys

-- A table with some types more.
abbrev pub Grown : List Ty → List Ty → Type 0
Grown T U = (us : List Ty) × (U ≡ T ++ us)

grown_refl : (T : List Ty) → Grown T T
grown_refl T = ([], sym (append-nil T))

grown_trans : (T U W : List Ty) → Grown T U → Grown U W → Grown T W
grown_trans T U W g h = (g.0 ++ h.0, h.1 ∙ ap (λ X. X ++ h.0) g.1 ∙ append_assoc T g.0 h.0)

has_grown : (T U : List Ty) (t : Ty) → Grown T U → has T t ≡ true → has U t ≡ true
has_grown T U t g h = subst (λ X. has X t ≡ true) (sym g.1) (has_more T g.0 t h)

module _ (n : ℕ) where
  table_snoc : (done ts : List Ty) (t : Ty) → TableFrom n done ts → has (done ++ ts) t ≡ false → Bounded t → PartsIn n (done ++ ts) (parts_of t) → TableFrom n done (ts ++ (t ∷ []))
  table_snoc done [] t h a s p = (subst (λ X. has X t ≡ false) (append-nil done) a, s, subst (λ X. PartsIn n X (parts_of t)) (append-nil done) p, tt)
  table_snoc done (u ∷ ts) t h a s p =
      let e : done ++ (u ∷ ts) ≡ (done ++ (u ∷ [])) ++ ts = sym (append_assoc done (u ∷ []) ts) in
      (h.0, h.1, h.2, table_snoc (done ++ (u ∷ [])) ts t h.3 (subst (λ X. has X t ≡ false) e a) s (subst (λ X. PartsIn n X (parts_of t)) e p))

  pub every_split : (xs ys : List Ty) → Every (Whole n) (xs ++ ys) → Every (Whole n) xs × Every (Whole n) ys
  every_split [] ys h = (tt, h)
  every_split (x ∷ xs) ys h = let r = every_split xs ys h.1 in ((h.0, r.0), r.1)

  -- What is so of a table into which a type has been entered.
  pub record Entered (T U : List Ty) (t : Ty) : Type 0 where
    pub table : TableFrom n [] U
    pub grown : Grown T U
    pub there : has U t ≡ true

  pub enter_one : (T : List Ty) (t : Ty) → TableFrom n [] T → Bounded t → PartsIn n T (parts_of t) → Entered T (enter T t) t
  enter_one T t h s p = by_test (has T t)
      (λ q. rw q (record { table = h; grown = grown_refl T; there = q }))
      λ q. rw q (record { table = table_snoc [] T t h q s p; grown = (t ∷ [], refl); there = has_last T t })

  abbrev pub Enters : Ty → Type 0
  Enters t = (T : List Ty) → TableFrom n [] T → Every (Whole n) (parts_first t) → Entered T (entered T (parts_first t)) t

  pub record PartsEntered (T U : List Ty) (ps : List (Part Ty)) : Type 0 where
    pub table : TableFrom n [] U
    pub grown : Grown T U
    pub there : PartsIn n U ps

  pub enter_parts : (ps : List (Part Ty)) → AllSubs Enters ps → (T : List Ty) → TableFrom n [] T → Every (Whole n) (joined (map_parts (λ a. parts_first a) ps)) → DomainsIn n ps
      → PartsEntered T (entered T (joined (map_parts (λ a. parts_first a) ps))) ps
  unfolding entered
  enter_parts [] s T h d p = record { table = h; grown = grown_refl T; there = tt }
  enter_parts (sub a ∷ ps) s T h d p =
      let ds = every_split (parts_first a) (joined (map_parts (λ a. parts_first a) ps)) d in
      let U : List Ty = entered T (parts_first a) in
      let x = s.0 T h ds.0 in
      let W : List Ty = entered U (joined (map_parts (λ a. parts_first a) ps)) in
      let y = enter_parts ps s.1 U x.table ds.1 p in
      subst (λ X. PartsEntered T X (sub a ∷ ps)) (sym (entered_append T (parts_first a) (joined (map_parts (λ a. parts_first a) ps))))
      (record { table = y.table; grown = grown_trans T U W x.grown y.grown; there = (has_grown U W a y.grown x.there, y.there) })
  enter_parts (at q ∷ ps) s T h d p =
      let y = enter_parts ps s T h d p.1 in
      record { table = y.table; grown = y.grown; there = (p.0, y.there) }

  pub enter_type : (t : Ty) → Enters t
  unfolding entered
  enter_type = by_parts Enters step
    where
      step : (t : Ty) → AllSubs Enters (parts_of t) → Enters t
      step t s T h d =
          let J : List Ty = joined (map_parts (λ a. parts_first a) (parts_of t)) in
          let e : parts_first t ≡ J ++ (t ∷ []) = parts_first_law t in
          let ds = every_split J (t ∷ []) (subst (λ X. Every (Whole n) X) e d) in
          let U : List Ty = entered T J in
          let x : PartsEntered T U (parts_of t) = enter_parts (parts_of t) s T h ds.0 ds.1.0.1 in
          let y : Entered U (enter U t) t = enter_one U t x.table ds.1.0.0 x.there in
          let z : Entered T (enter U t) t = record { table = y.table; grown = grown_trans T U (enter U t) x.grown y.grown; there = y.there } in
          let q : entered T (J ++ (t ∷ [])) ≡ enter U t = entered_append T J (t ∷ []) in
          subst (λ X. Entered T (entered T X) t) (sym e) (subst (λ X. Entered T X t) (sym q) z)

  -- A type of which all parts are entered before it.
  pub enter_behind : (t : Ty) (T : List Ty) → TableFrom n [] T → Every (Whole n) (parts_first t) → let U : List Ty = entered T (joined (map_parts (λ a. parts_first a) (parts_of t))) in (PartsIn n U (parts_of t) × Bounded t × (enter U t ≡ entered T (parts_first t)))
  unfolding entered
  enter_behind t T h d =
      let J : List Ty = joined (map_parts (λ a. parts_first a) (parts_of t)) in
      let e : parts_first t ≡ J ++ (t ∷ []) = parts_first_law t in
      let ds = every_split J (t ∷ []) (subst (λ X. Every (Whole n) X) e d) in
      let x = enter_parts (parts_of t) (all_subs (parts_of t)) T h ds.0 ds.1.0.1 in
      (x.there, ds.1.0.0, sym (ap (λ X. entered T X) e ∙ entered_append T J (t ∷ [])))
    where
      all_subs : (ps : List (Part Ty)) → AllSubs Enters ps
      all_subs [] = tt
      all_subs (sub a ∷ ps) = (enter_type a, all_subs ps)
      all_subs (at p ∷ ps) = all_subs ps

  mutual
    unfolding Formed

    formed_grown : (T U : List Ty) (e : Program) → Grown T U → Formed n T e → Formed n U e
    formed_grown T U (node k t vs es) g h = (has_grown T U t g h.0, h.1, formed_grown_all T U es g h.2)
    formed_grown T U blank g h = absurd h

    formed_grown_all : (T U : List Ty) (es : Programs) → Grown T U → FormedAll n T es → FormedAll n U es
    formed_grown_all T U end g h = tt
    formed_grown_all T U (more e es) g h = (formed_grown T U e g h.0, formed_grown_all T U es g h.1)

  record TermEntered (T U : List Ty) (e : Program) : Type 0 where
    table : TableFrom n [] U
    grown : Grown T U
    formed : Formed n U e

  record TermsEntered (T U : List Ty) (es : Programs) : Type 0 where
    table : TableFrom n [] U
    grown : Grown T U
    formed : FormedAll n U es

  mutual
    unfolding Formed Shaped types_in entered

    enter_term : (e : Program) (T : List Ty) → Shaped n e → TableFrom n [] T → TermEntered T (entered T (types_in e)) e
    enter_term (node k t vs es) T s h =
        let U : List Ty = entered T (types_in_all es) in
        let x : TermsEntered T U es = enter_terms es T s.2 h in
        let W : List Ty = entered U (parts_first t) in
        let y : Entered U W t = enter_type t U x.table s.0 in
        subst (λ X. TermEntered T X (node k t vs es)) (sym (entered_append T (types_in_all es) (parts_first t)))
        (record { table = y.table; grown = grown_trans T U W x.grown y.grown; formed = (y.there, s.1, formed_grown_all U W es y.grown x.formed) })
    enter_term blank T s h = absurd s

    enter_terms : (es : Programs) (T : List Ty) → ShapedAll n es → TableFrom n [] T → TermsEntered T (entered T (types_in_all es)) es
    enter_terms end T s h = record { table = h; grown = grown_refl T; formed = tt }
    enter_terms (more e es) T s h =
        let U : List Ty = entered T (types_in e) in
        let x : TermEntered T U e = enter_term e T s.0 h in
        let W : List Ty = entered U (types_in_all es) in
        let y : TermsEntered U W es = enter_terms es U s.1 x.table in
        subst (λ X. TermsEntered T X (more e es)) (sym (entered_append T (types_in e) (types_in_all es)))
        (record { table = y.table; grown = grown_trans T U W x.grown y.grown; formed = (formed_grown U W e y.grown x.formed, y.formed) })

  -- The table of a program's types.
  pub table_of_lem : (e : Program) → Shaped n e → TableFrom n [] (table_of e)
  unfolding table_of
  table_of_lem e s = (enter_term e [] s tt).table

  pub formed_of : (e : Program) → Shaped n e → Formed n (table_of e) e
  unfolding table_of
  formed_of e s = (enter_term e [] s tt).formed
