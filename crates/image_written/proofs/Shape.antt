-- The terms that are written are each used once but the last, and stand as deep as in the program.
use Prim.Native.Nat.{ℕ, zero, suc, ◌+◌, ◌-◌, ◌≤◌, ◌<◌}
use native.Mathlib.Omega.{arith}
use mathlib.Core.Path.{◌≡◌, refl, sym, ap, subst, ◌∙◌}
use mathlib.Core.Bool.{Bool, true, false}
use mathlib.Core.List.{List, [], ◌∷◌, ◌++◌, map, append_assoc, append-nil}
use lib.ListN.{length, get_or, length-append}
use lib.Dec.{eqb, ltb}
use Rattle.calculus.specs.Syntax.{Ty}
use Rattle.calculus.specs.Combinators.{choose}
use Rattle.image.specs.Limits.{depth_limit}
use Rattle.image.specs.Kinds.{term}
use Rattle.image.specs.Records.{Layout}
use Rattle.image.specs.TermFields.{term_fields}
use Rattle.image.specs.Types.{children, root_of}
use Rattle.image.specs.Program.{Program, Programs, node, blank, end, more}
use Rattle.laws.proofs.Booleans.{lt_of, of_lt, ge_of, eq_of, of_eq, by_test}
use Rattle.image.proofs.Laid.{LayoutOk}
use Rattle.verdict.specs.Shape.{count, uses, used_once, depths}
use Rattle.verdict.proofs.Depth.{depth_root, depth_child}
use Rattle.image_written.specs.Table.{place}
use Rattle.image_written.specs.Records.{Record, record_of}
use Rattle.image_written.specs.Written.{terms, terms_all, roots, domain_record, type_record, term_records, term_records_all}
use Rattle.image_written.proofs.Writable.{TableFrom, Formed, FormedAll, Shallow, ShallowAll}
use Rattle.image_written.proofs.Laying.{Fits, records_length, records_length_all, formed_some, fielded}
use Rattle.image_written.proofs.Back.{says, reads_term, terms_count}

-- 1 if y is below b, and else 0.
unfoldable below : ℕ → ℕ → ℕ
below y b = choose (ltb y b) 1 0

below_yes : (y b : ℕ) → y < b → below y b ≡ 1
unfolding below
below_yes y b l = let z : ltb y b ≡ true = of_lt l in rw z refl

below_no : (y b : ℕ) → b ≤ y → below y b ≡ 0
unfolding below
below_no y b l = by_test (ltb y b) (λ q. let z : y < b = lt_of q in absurd (omega arith)) λ q. rw q refl

below_next : (r y : ℕ) → choose (eqb y r) 1 0 + below y r ≡ below y (suc r)
below_next r y = go (ltb y r) refl (ltb r y) refl
  where
    apart : (y ≡ r → ⊥) → choose {A = ℕ} (eqb y r) 1 0 ≡ 0
    apart h = is (eqb y r) refl
      where
        is : (c : Bool) → eqb y r ≡ c → choose {A = ℕ} (eqb y r) 1 0 ≡ 0
        is true q = absurd (h (eq_of q))
        is false q = rw q refl

    go : (a : Bool) → ltb y r ≡ a → (b : Bool) → ltb r y ≡ b → choose (eqb y r) 1 0 + below y r ≡ below y (suc r)
    go true u b v = let z : y < r = lt_of u in let a = apart (λ e. omega arith) in let p = below_yes y r z in let q = below_yes y (suc r) (omega arith) in omega arith
    go false u true v = let z : r < y = lt_of v in let a = apart (λ e. omega arith) in let p = below_no y r (omega arith) in let q = below_no y (suc r) (omega arith) in omega arith
    go false u false v =
        let z : r ≤ y = ge_of u in
        let w : y ≤ r = ge_of v in
        let e : eqb y r ≡ true = of_eq {m = y} {n = r} (omega arith) in
        let c : choose {A = ℕ} (eqb y r) 1 0 ≡ 1 = rw e refl in
        let p = below_no y r z in
        let q = below_yes y (suc r) (omega arith) in
        omega arith

-- How often the terms of a program, from number m on, have y for a child.
unfoldable mutual
  used_in : ℕ → ℕ → Program → ℕ
  used_in y m (node k t vs es) = used_in_all y m es + count y (roots m es)
  used_in y m blank = 0

  used_in_all : ℕ → ℕ → Programs → ℕ
  used_in_all y m end = 0
  used_in_all y m (more e es) = used_in y m e + used_in_all y (m + terms e) es

module _ (n : ℕ) (T : List Ty) where
  mutual
    unfolding used_in terms Formed count

    used_term : (y m : ℕ) (x : Program) → Formed n T x → used_in y m x + below y m ≡ below y (m + terms x - 1)
    used_term y m (node k t vs es) h =
        let z : m + terms_all es ≡ m + suc (terms_all es) - 1 = omega arith in
        used_terms y m es h.2 ∙ ap (λ j. below y j) z
    used_term y m blank h = absurd h

    used_terms : (y m : ℕ) (es : Programs) → FormedAll n T es → used_in_all y m es + count y (roots m es) + below y m ≡ below y (m + terms_all es)
    used_terms y m end h = let z : m ≡ m + 0 = omega arith in let a = ap (λ j. below y j) z in omega arith
    used_terms y m (more x es) h =
        let p = formed_some n T x h.0 in
        let r : ℕ = m + terms x - 1 in
        let a : used_in y m x + below y m ≡ below y r = used_term y m x h.0 in
        let b = used_terms y (m + terms x) es h.1 in
        let c : choose (eqb y r) 1 0 + below y r ≡ below y (suc r) = below_next r y in
        let d : suc r ≡ m + terms x = omega arith in
        let d' : below y (suc r) ≡ below y (m + terms x) = ap (λ j. below y j) d in
        let f : m + terms x + terms_all es ≡ m + (terms x + terms_all es) = omega arith in
        let f' : below y (m + terms x + terms_all es) ≡ below y (m + (terms x + terms_all es)) = ap (λ j. below y j) f in
        sums (used_in y m x) (used_in_all y (m + terms x) es) (choose (eqb y r) 1 0) (count y (roots (m + terms x) es)) _ _ _ _ _ a b c d' f'
      where
        sums : (u v w c m' r s t q : ℕ) {k : ℕ} → u + m' ≡ r → v + c + t ≡ q → w + r ≡ s → s ≡ t → q ≡ k → u + v + (w + c) + m' ≡ k
        sums u v w c m' r s t q a b d e f = omega arith

  module _ (ms : List ℕ) (e : Program) (L : Layout) (good : LayoutOk L) (table : TableFrom n [] T)
      (F : Fits L (map (λ m. domain_record m) ms) (map (λ t. type_record T t) T) (term_records T 0 e)) where
    mutual
      unfolding Formed terms term_records uses used_in

      uses_term : (y : ℕ) (x : Program) (m : ℕ) (pre post : List Record) → Formed n T x → term_records T 0 e ≡ pre ++ (term_records T m x ++ post) → length pre ≡ m
          → uses L (m + terms x) y ≡ uses L m y + used_in y m x
      uses_term y (node k t vs es) m pre post h q l =
          let A : List Record = term_records_all T m es in
          let r : Record = record_of (term k) (term_fields k (place T t) vs (roots m es)) in
          let la = records_length_all T m es in
          let q1 : term_records T 0 e ≡ pre ++ (A ++ (r ∷ post)) = q ∙ ap (λ rs. pre ++ rs) (append_assoc A (r ∷ []) post) in
          let q2 : term_records T 0 e ≡ (pre ++ A) ++ (r ∷ post) = q1 ∙ sym (append_assoc pre A (r ∷ post)) in
          let lp : length (pre ++ A) ≡ m + terms_all es = length-append pre A ∙ omega arith in
          let s = says n T ms e L good table F (m + terms_all es) k t vs (roots m es) h.0 (fielded n T k vs m es h.1) (reads_term n T ms e L good table F (pre ++ A) post r q2 (m + terms_all es) lp) in
          let z : m + suc (terms_all es) ≡ suc (m + terms_all es) = omega arith in
          let i = uses_terms y es m pre (r ∷ post) h.2 q1 l in
          let c : count y (children L (m + terms_all es)) ≡ count y (roots m es) = ap (λ ns. count y ns) s.children in
          ap (λ j. uses L j y) z ∙ omega arith
      uses_term y blank m pre post h q l = absurd h

      uses_terms : (y : ℕ) (es : Programs) (m : ℕ) (pre post : List Record) → FormedAll n T es → term_records T 0 e ≡ pre ++ (term_records_all T m es ++ post) → length pre ≡ m
          → uses L (m + terms_all es) y ≡ uses L m y + used_in_all y m es
      uses_terms y end m pre post h q l = let z : m + 0 ≡ m = omega arith in ap (λ j. uses L j y) z ∙ omega arith
      uses_terms y (more x es) m pre post h q l =
          let A : List Record = term_records T m x in
          let B : List Record = term_records_all T (m + terms x) es in
          let lx = records_length T m x in
          let q1 : term_records T 0 e ≡ pre ++ (A ++ (B ++ post)) = q ∙ ap (λ rs. pre ++ rs) (append_assoc A B post) in
          let q2 : term_records T 0 e ≡ (pre ++ A) ++ (B ++ post) = q1 ∙ sym (append_assoc pre A (B ++ post)) in
          let a = uses_term y x m pre (B ++ post) h.0 q1 l in
          let b = uses_terms y es (m + terms x) (pre ++ A) post h.1 q2 (length-append pre A ∙ omega arith) in
          let z : m + (terms x + terms_all es) ≡ m + terms x + terms_all es = omega arith in
          ap (λ j. uses L j y) z ∙ omega arith

    pub once : Formed n T e → (y : ℕ) → y < root_of L → used_once L y ≡ true
    unfolding uses
    once h y l =
        let c = terms_count n T ms e L good table F in
        let a : uses L (0 + terms e) y ≡ 0 + used_in y 0 e = uses_term y e 0 [] [] h (sym (append-nil (term_records T 0 e))) refl in
        let b = used_term y 0 e h in
        let b0 = below_no y 0 (omega arith) in
        let b1 = below_yes y (0 + terms e - 1) (omega arith) in
        let z : length L.terms ≡ 0 + terms e = omega arith in
        let u : uses L (length L.terms) y ≡ 1 = ap (λ j. uses L j y) z ∙ omega arith in
        of_eq u

    module _ (used : (y : ℕ) → y < root_of L → used_once L y ≡ true) where
      mutual
        unfolding Formed terms term_records Shallow count

        deep_term : (x : Program) (m d : ℕ) (pre post : List Record) → Formed n T x → Shallow x d → term_records T 0 e ≡ pre ++ (term_records T m x ++ post) → length pre ≡ m
            → get_or (depths L) (m + terms x - 1) 0 + d ≤ suc depth_limit → (y : ℕ) → m ≤ y → y < m + terms x → get_or (depths L) y 0 ≤ depth_limit
        deep_term (node k t vs es) m zero pre post h s q l b y ly my = absurd s
        deep_term (node k t vs es) m (suc d) pre post h s q l b y ly my =
            let A : List Record = term_records_all T m es in
            let r : Record = record_of (term k) (term_fields k (place T t) vs (roots m es)) in
            let la = records_length_all T m es in
            let q1 : term_records T 0 e ≡ pre ++ (A ++ (r ∷ post)) = q ∙ ap (λ rs. pre ++ rs) (append_assoc A (r ∷ []) post) in
            let q2 : term_records T 0 e ≡ (pre ++ A) ++ (r ∷ post) = q1 ∙ sym (append_assoc pre A (r ∷ post)) in
            let lp : length (pre ++ A) ≡ m + terms_all es = length-append pre A ∙ omega arith in
            let total = ap length q2 ∙ length-append (pre ++ A) (r ∷ post) in
            let whole = records_length T 0 e in
            let c = terms_count n T ms e L good table F in
            let said = says n T ms e L good table F (m + terms_all es) k t vs (roots m es) h.0 (fielded n T k vs m es h.1) (reads_term n T ms e L good table F (pre ++ A) post r q2 (m + terms_all es) lp) in
            let z : m + suc (terms_all es) - 1 ≡ m + terms_all es = omega arith in
            let b' : get_or (depths L) (m + terms_all es) 0 + suc d ≤ suc depth_limit = subst (λ j. get_or (depths L) j 0 + suc d ≤ suc depth_limit) z b in
            let child : (j : ℕ) → 0 < count j (roots m es) → get_or (depths L) j 0 + d ≤ suc depth_limit = λ j p.
            let w : get_or (depths L) j 0 ≡ suc (get_or (depths L) (m + terms_all es) 0) = depth_child L good used (m + terms_all es) j (omega arith) (subst (λ ns. 0 < count j ns) (sym said.children) p) in
            omega arith in
            go (ltb y (m + terms_all es)) refl b' (λ w. deep_terms es m d pre (r ∷ post) h.2 s q1 l child y ly w)
          where
            go : (a : Bool) → ltb y (m + terms_all es) ≡ a → get_or (depths L) (m + terms_all es) 0 + suc d ≤ suc depth_limit → (y < m + terms_all es → get_or (depths L) y 0 ≤ depth_limit) → get_or (depths L) y 0 ≤ depth_limit
            go true u b' ih = ih (lt_of u)
            go false u b' ih = let w : m + terms_all es ≤ y = ge_of u in let z : m + terms_all es ≡ y = omega arith in subst (λ j. get_or (depths L) j 0 ≤ depth_limit) z (omega arith)
        deep_term blank m d pre post h s q l b y ly my = absurd h

        deep_terms : (es : Programs) (m d : ℕ) (pre post : List Record) → FormedAll n T es → ShallowAll es d → term_records T 0 e ≡ pre ++ (term_records_all T m es ++ post) → length pre ≡ m
            → ((j : ℕ) → 0 < count j (roots m es) → get_or (depths L) j 0 + d ≤ suc depth_limit) → (y : ℕ) → m ≤ y → y < m + terms_all es → get_or (depths L) y 0 ≤ depth_limit
        deep_terms end m d pre post h s q l b y ly my = absurd (omega arith)
        deep_terms (more x es) m d pre post h s q l b y ly my =
            let A : List Record = term_records T m x in
            let B : List Record = term_records_all T (m + terms x) es in
            let lx = records_length T m x in
            let q1 : term_records T 0 e ≡ pre ++ (A ++ (B ++ post)) = q ∙ ap (λ rs. pre ++ rs) (append_assoc A B post) in
            let q2 : term_records T 0 e ≡ (pre ++ A) ++ (B ++ post) = q1 ∙ sym (append_assoc pre A (B ++ post)) in
            let r : ℕ = m + terms x - 1 in
            let first : get_or (depths L) r 0 + d ≤ suc depth_limit = b r (let z : eqb r r ≡ true = of_eq {m = r} refl in rw z (omega arith)) in
            let lp : length (pre ++ A) ≡ m + terms x = length-append pre A ∙ omega arith in
            go (ltb y (m + terms x)) refl
            (λ w. deep_term x m d pre (B ++ post) h.0 s.0 q1 l first y ly w)
            (λ w. deep_terms es (m + terms x) d (pre ++ A) post h.1 s.1 q2 lp (λ j p. b j (let z : 0 ≤ choose (eqb j r) 1 0 = omega arith in omega arith)) y w (omega arith))
          where
            go : (a : Bool) → ltb y (m + terms x) ≡ a → (y < m + terms x → get_or (depths L) y 0 ≤ depth_limit) → (m + terms x ≤ y → get_or (depths L) y 0 ≤ depth_limit) → get_or (depths L) y 0 ≤ depth_limit
            go true u left right = left (lt_of u)
            go false u left right = right (ge_of u)

      pub shallow : Formed n T e → Shallow e depth_limit → (y : ℕ) → y < length L.terms → get_or (depths L) y 0 ≤ depth_limit
      shallow h s y l =
          let c = terms_count n T ms e L good table F in
          let p = formed_some n T e h in
          let z : root_of L ≡ 0 + terms e - 1 = omega arith in
          let root : get_or (depths L) (0 + terms e - 1) 0 ≡ 1 = subst (λ j. get_or (depths L) j 0 ≡ 1) z (depth_root L good used (omega arith)) in
          deep_term e 0 depth_limit [] [] h s (sym (append-nil (term_records T 0 e))) refl (omega arith) y (omega arith) (omega arith)
