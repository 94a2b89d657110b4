-- What is read of the records that are written: the types of the table, and the program.
use Prim.Native.Nat.{ℕ, zero, suc, ◌+◌, ◌-◌, ◌≤◌, ◌<◌}
use native.Mathlib.Omega.{arith}
use mathlib.Core.Path.{◌≡◌, refl, sym, ap, subst, ◌∙◌}
use mathlib.Core.Bool.{true}
use mathlib.Core.List.{List, [], ◌∷◌, ◌++◌, map, append_assoc, append-nil}
use lib.ListN.{length, get_or, take, drop, length-append, take-append-drop}
use lib.Seq.{get_or-append_seam, length-take-le}
use Rattle.calculus.specs.Syntax.{Ty}
use Rattle.image.specs.Bytes.{field_at}
use Rattle.image.specs.Kinds.{TermKind, domain, term, term_row, again, fields_of}
use Rattle.image.specs.Records.{Layout, fields_at, numbers_at, as_child, as_other, given}
use Rattle.image.specs.TermFields.{term_fields}
use Rattle.image.specs.Types.{head_of, term_kind_of, type_out, type_of, term_place, type_fields, term_kind, type_no, others, children, root_of, stated_type}
use Rattle.image.specs.Program.{Program, Programs, node, blank, end, more, subtrees, tree, program}
use Rattle.image.proofs.Laid.{LayoutOk}
use Rattle.image.proofs.TypeNumbers.{type_out_lem}
use Rattle.image.proofs.EveryKind.{has_type}
use Rattle.verdict.specs.Domains.{masks}
use Rattle.image_written.specs.TypeParts.{parts_of}
use Rattle.image_written.specs.Table.{place, has, part_nos}
use Rattle.image_written.specs.Records.{Record, record_of}
use Rattle.image_written.specs.Written.{terms, terms_all, roots, domain_record, type_record, term_records, term_records_all}
use Rattle.image_written.proofs.Reading.{Reads, reads_kind, reads_field, Sized, reads_sorts, reads_numbers, Match, match_at, match_length}
use Rattle.image_written.proofs.TypeParts.{made}
use Rattle.image_written.proofs.Places.{has_place, has_more, place_more, at_place}
use Rattle.image_written.proofs.Writable.{TableFrom, Fielded, Formed, FormedAll}
use Rattle.image_written.proofs.Tables.{told, table_at}
use Rattle.image_written.proofs.Filled.{fields_count, fields_others, fields_children, fields_type}
use Rattle.image_written.proofs.Laying.{Fits, types_count, type_kind_lem, type_fields_lem, records_length, records_length_all, fielded}

masks_back : (b os ms : List ℕ) → Match b os (map (λ m. domain_record m) ms) → map (λ o. field_at b o 0) os ≡ ms
masks_back b [] [] h = refl
masks_back b [] (m ∷ ms) h = absurd h
masks_back b (o ∷ os) [] h = absurd h
masks_back b (o ∷ os) (m ∷ ms) h = let x : field_at b o 0 ≡ m = reads_field h.0 0 (omega arith) in let y = masks_back b os ms h.1 in cc

module _ (n : ℕ) (T : List Ty) (ms : List ℕ) (e : Program) (L : Layout) (good : LayoutOk L) (table : TableFrom n [] T) (F : Fits L (map (λ m. domain_record m) ms) (map (λ t. type_record T t) T) (term_records T 0 e)) where
  pub same_masks : masks L ≡ ms
  same_masks = masks_back L.image L.domains ms F.domains

  pub terms_count : length L.terms ≡ terms e
  terms_count = match_length L.image L.terms (term_records T 0 e) F.terms ∙ records_length T 0 e

  -- The types of the layout are those of the table.
  types_below : (f i : ℕ) → i < f → i < length T → type_of L i ≡ get_or T i Ty.unit
  types_below zero i l m = absurd (omega arith)
  types_below (suc f) i l m =
      let t : Ty = get_or T i Ty.unit in
      let D : List Ty = take i T in
      let ld : length D ≡ i = length-take-le i T (omega arith) in
      let split : T ≡ D ++ drop i T = sym (take-append-drop i T) in
      type_out_lem L good i (omega (arith, types_count n T table L F.types))
      ∙ ap (λ j. type_out j (type_fields L i) (λ a. type_of L a)) (type_kind_lem n T table L F.types i m)
      ∙ ap (λ vs. type_out (head_of t) vs (λ a. type_of L a)) (type_fields_lem n T table L F.types i m)
      ∙ made t (part_nos T (parts_of t)) (λ a. type_of L a)
      (told n T D (λ a. type_of L a) (parts_of t)
      (λ a h.
      let p : place T a ≡ place D a = ap (λ X. place X a) split ∙ place_more D (drop i T) a h in
      let q : place D a < length D = has_place D a h in
      let there : has T a ≡ true = subst (λ X. has X a ≡ true) (sym split) (has_more D (drop i T) a h) in
      types_below f (place T a) (omega arith) (omega arith) ∙ at_place T a Ty.unit there)
      (table_at n [] T table i m))

  pub types_back : (t : Ty) → has T t ≡ true → type_of L (place T t) ≡ t
  types_back t h = let l = has_place T t h in types_below (suc (place T t)) (place T t) (omega arith) l ∙ at_place T t Ty.unit h

  -- The term at the seam.
  pub reads_term : (pre post : List Record) (r : Record) → term_records T 0 e ≡ pre ++ (r ∷ post) → (m : ℕ) → length pre ≡ m → Reads L.image (term_place L m) r
  reads_term pre post r q m l =
      let z : get_or (term_records T 0 e) m (record_of domain []) ≡ r = ap (λ rs. get_or rs m (record_of domain [])) q ∙ rw (← l) (get_or-append_seam pre r post (record_of domain [])) in
      let len : m < length (term_records T 0 e) = let x = ap length q ∙ length-append pre (r ∷ post) in omega arith in
      subst (λ s. Reads L.image (term_place L m) s) z (match_at L.image L.terms (term_records T 0 e) F.terms m (record_of domain []) len)

  -- What a term's record says.
  pub record Says (m : ℕ) (k : TermKind) (t : Ty) (vs ns : List ℕ) : Type 0 where
    pub kind : term_kind L m ≡ k
    pub type : stated_type L m ≡ t
    pub others : others L m ≡ vs
    pub children : children L m ≡ ns

  pub says : (m : ℕ) (k : TermKind) (t : Ty) (vs ns : List ℕ) → has T t ≡ true → Fielded n k vs (length ns)
      → Reads L.image (term_place L m) (record_of (term k) (term_fields k (place T t) vs ns)) → Says m k t vs ns
  says m k t vs ns h G R =
      let p : ℕ = place T t in
      let c = fields_count n k vs ns G p in
      let s : Sized (term_row k) G.groups (length (term_fields k p vs ns)) = record { count = c; none = G.sized.none; least = G.sized.least; most = G.sized.most } in
      let kd : term_kind L m ≡ k = ap term_kind_of (reads_kind R) in
      let fs : fields_at L.image (term_place L m) (term_row k) ≡ fields_of (term_row k) G.groups = reads_sorts R G.groups s in
      let vn : numbers_at L.image (term_place L m) (term_row k) ≡ term_fields k p vs ns = reads_numbers R G.groups s in
      let some : 0 < length (term_fields k p vs ns) = omega (arith, type_fits k G.groups) in
      let o : type_no L m ≡ p = reads_field R 0 some ∙ fields_type n k vs ns G p in
      record {
        kind = kd;
        type = ap (λ q. type_of L q) o ∙ types_back t h;
        others = ap (λ j. given as_other (fields_at L.image (term_place L m) (term_row j)) (numbers_at L.image (term_place L m) (term_row j))) kd ∙ ap (λ xs. given as_other xs (numbers_at L.image (term_place L m) (term_row k))) fs ∙ ap (λ xs. given as_other (fields_of (term_row k) G.groups) xs) vn ∙ fields_others n k vs ns G p;
        children = ap (λ j. given as_child (fields_at L.image (term_place L m) (term_row j)) (numbers_at L.image (term_place L m) (term_row j))) kd ∙ ap (λ xs. given as_child xs (numbers_at L.image (term_place L m) (term_row k))) fs ∙ ap (λ xs. given as_child (fields_of (term_row k) G.groups) xs) vn ∙ fields_children n k vs ns G p;
      }
    where
      type_fits : (k : TermKind) (c : ℕ) → 0 < length (fields_of (term_row k) c)
      type_fits k c = let z = has_type k in omega (arith, length-append (term_row k).first (again c (term_row k).group ++ (term_row k).last))

  mutual
    unfolding Formed terms term_records tree

    tree_back : (x : Program) (m f : ℕ) (pre post : List Record) → Formed n T x → term_records T 0 e ≡ pre ++ (term_records T m x ++ post) → length pre ≡ m → m + terms x ≤ f → tree L f (m + terms x - 1) ≡ x
    tree_back (node k t vs es) m zero pre post h q l few = absurd (omega arith)
    tree_back (node k t vs es) m (suc f) pre post h q l few =
        let A : List Record = term_records_all T m es in
        let r : Record = record_of (term k) (term_fields k (place T t) vs (roots m es)) in
        let la = records_length_all T m es in
        let q1 : term_records T 0 e ≡ pre ++ (A ++ (r ∷ post)) = q ∙ ap (λ rs. pre ++ rs) (append_assoc A (r ∷ []) post) in
        let q2 : term_records T 0 e ≡ (pre ++ A) ++ (r ∷ post) = q1 ∙ sym (append_assoc pre A (r ∷ post)) in
        let lp : length (pre ++ A) ≡ m + terms_all es = length-append pre A ∙ omega arith in
        let z : m + suc (terms_all es) - 1 ≡ m + terms_all es = omega arith in
        let s : Says (m + terms_all es) k t vs (roots m es) = says (m + terms_all es) k t vs (roots m es) h.0 (fielded n T k vs m es h.1) (reads_term (pre ++ A) post r q2 (m + terms_all es) lp) in
        let c : subtrees (λ j. tree L f j) (roots m es) ≡ es = trees_back es m f pre (r ∷ post) h.2 q1 l (omega arith) in
        let c' : subtrees (λ j. tree L f j) (children L (m + terms_all es)) ≡ es = ap (λ ns. subtrees (λ j. tree L f j) ns) s.children ∙ c in
        ap (λ j. tree L (suc f) j) z ∙ cc (s.kind, s.type, s.others, c')
    tree_back blank m f pre post h q l few = absurd h

    trees_back : (es : Programs) (m f : ℕ) (pre post : List Record) → FormedAll n T es → term_records T 0 e ≡ pre ++ (term_records_all T m es ++ post) → length pre ≡ m → m + terms_all es ≤ f
        → subtrees (λ j. tree L f j) (roots m es) ≡ es
    trees_back end m f pre post h q l few = refl
    trees_back (more x es) m f pre post h q l few =
        let A : List Record = term_records T m x in
        let B : List Record = term_records_all T (m + terms x) es in
        let lx = records_length T m x in
        let q1 : term_records T 0 e ≡ pre ++ (A ++ (B ++ post)) = q ∙ ap (λ rs. pre ++ rs) (append_assoc A B post) in
        let q2 : term_records T 0 e ≡ (pre ++ A) ++ (B ++ post) = q1 ∙ sym (append_assoc pre A (B ++ post)) in
        let one : tree L f (m + terms x - 1) ≡ x = tree_back x m f pre (B ++ post) h.0 q1 l (omega arith) in
        let rest : subtrees (λ j. tree L f j) (roots (m + terms x) es) ≡ es = trees_back es (m + terms x) f (pre ++ A) post h.1 q2 (length-append pre A ∙ omega arith) (omega arith) in
        cc (one, rest)

  pub program_back : Formed n T e → program L ≡ e
  unfolding program
  program_back h =
      let z : root_of L ≡ 0 + terms e - 1 = let c = terms_count in omega arith in
      ap (λ j. tree L (length L.terms) j) z ∙ tree_back e 0 (length L.terms) [] [] h (sym (append-nil (term_records T 0 e))) refl (let c = terms_count in omega arith)
