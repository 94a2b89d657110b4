-- The children of a term, row by row: where they stand, and what they add to each row.
use Prim.Native.Nat.{ℕ, zero, suc, ◌+◌, ◌-◌, ◌≤◌, ◌<◌, max}
use native.Mathlib.Omega.{arith}
use native.Mathlib.Numerals.{add-one}
use mathlib.Core.Path.{◌≡◌, refl, sym, ap, subst, ◌∙◌}
use mathlib.Core.Bool.{Bool, true, false}
use mathlib.Core.List.{List}
use lib.ListN.{length, get_or}
use Rattle.calculus.specs.Combinators.{choose}
use Rattle.calculus.specs.Syntax.{Tm}
use Rattle.calculus_needs.specs.Numbers.{Numbers, none, ◌⊕◌, dearer}
use Rattle.calculus_needs.proofs.Sums.{none_right}
use Rattle.laws.proofs.Booleans.{no_path}
use Rattle.image.specs.Kinds.{TermKind}
use Rattle.image.specs.Records.{Layout}
use Rattle.image.specs.Types.{others, children, root_of}
use Rattle.image.proofs.Laid.{LayoutOk}
use Rattle.need_sums.specs.declared.shapes.Own.{Own}
use Rattle.need_sums.specs.declared.shapes.Role.{Role}
use Rattle.need_sums.specs.declared.positions.Mode.{Mode}
use Rattle.need_sums.specs.declared.positions.Position.{Position}
use Rattle.need_sums.specs.Sums.{cut}
use Rattle.need_sums.specs.Walks.{shape_of, asked, advice_mode, is_advice_body, running_child, child_position, is_branch}
use Rattle.need_sums.specs.Rows.{table_length, Changed, own_pieces, Summed}
use Rattle.need_terms.specs.GivenToChildren.{branch_variables}
use Rattle.need_walk.specs.Counted.{counted, term_at}
use Rattle.need_walk.proofs.Folds.{joined_at_of}
use Rattle.need_walk.proofs.Shapes.{branch_numbers, added_by, offered_by}
use Rattle.need_walk.proofs.Walked.{kind_at_lem, domain_at, role_of, own_at, sum_to, choice_to, sum_next, choice_next, through}
use Rattle.need_rows.specs.Pieces.{keeping_more, in_row, piece_at, of_advice}
use Rattle.need_rows.proofs.Pieces.{piece_cong, piece_plus, piece_dearer, piece_none, piece_branch, own_pieces_lem}
use Rattle.need_rows.proofs.TwoBranches.{first_plain, third_too, not_branch, same_branch, branch_position, plain_at, all_plain, three_children}

-- A child stands with as many values more around it as its parent does.
running_more : (i : ℕ) (s : Position) (role : Role) (p : ℕ) → running_child (keeping_more i s) role p ≡ keeping_more i (running_child s role p)
running_more i s Role.Skipped p = refl
running_more i s Role.Operand p = refl
running_more i s Role.Lowered p = refl
running_more i s Role.Kept p = let e : i + s.kept + 1 ≡ i + (s.kept + 1) = omega arith in ap (λ k. record { mode = s.mode; dom = s.dom; depth = s.depth + 1; kept = k }) e
running_more i s Role.Next p = refl
running_more i s Role.Branch p = refl
running_more i s Role.FirstBranch p = refl
running_more i s Role.AdviceBody p = refl
running_more i s Role.Installed p = refl

child_more : (i : ℕ) (s : Position) (role : Role) (p : ℕ) → child_position (keeping_more i s) role p ≡ keeping_more i (child_position s role p)
child_more i s role p = look s.mode
  where
    S : Mode → Position
    S m = record { mode = m; dom = s.dom; depth = s.depth; kept = s.kept }

    body : ℕ → Position
    body k = record { mode = Mode.Body; dom = record { 0 = p }; depth = s.depth + 2; kept = k }

    round : (b : Bool) → choose b (body (i + s.kept)) (asked (keeping_more i s) (advice_mode role)) ≡ keeping_more i (choose b (body s.kept) (asked s (advice_mode role)))
    round true = refl
    round false = refl

    look : (m : Mode) → child_position (keeping_more i (S m)) role p ≡ keeping_more i (child_position (S m) role p)
    look Mode.Skip = refl
    look Mode.Program = running_more i (S Mode.Program) role p
    look Mode.Body = running_more i (S Mode.Body) role p
    look Mode.AllAdvice = refl
    look Mode.InstalledAdvice = round (is_advice_body role)

-- What is asked of it concerns advice.
pub child_of_advice : (s : Position) (role : Role) (p : ℕ) → of_advice s.mode ≡ true → of_advice (child_position s role p).mode ≡ true
child_of_advice s role p h = look s.mode h
  where
    S : Mode → Position
    S m = record { mode = m; dom = s.dom; depth = s.depth; kept = s.kept }

    in_body : (role : Role) → of_advice (running_child (S Mode.Body) role p).mode ≡ true
    in_body Role.Skipped = refl
    in_body Role.Operand = refl
    in_body Role.Lowered = refl
    in_body Role.Kept = refl
    in_body Role.Next = refl
    in_body Role.Branch = refl
    in_body Role.FirstBranch = refl
    in_body Role.AdviceBody = refl
    in_body Role.Installed = refl

    in_rounds : (role : Role) → of_advice (advice_mode role) ≡ true
    in_rounds Role.Skipped = refl
    in_rounds Role.Operand = refl
    in_rounds Role.Lowered = refl
    in_rounds Role.Kept = refl
    in_rounds Role.Next = refl
    in_rounds Role.Branch = refl
    in_rounds Role.FirstBranch = refl
    in_rounds Role.AdviceBody = refl
    in_rounds Role.Installed = refl

    in_round : (b : Bool) → of_advice (choose b (record { mode = Mode.Body; dom = record { 0 = p }; depth = s.depth + 2; kept = s.kept }) (asked s (advice_mode role))).mode ≡ true
    in_round true = refl
    in_round false = in_rounds role

    look : (m : Mode) → of_advice m ≡ true → of_advice (child_position (S m) role p).mode ≡ true
    look Mode.Skip h = refl
    look Mode.Program h = no_path (sym h)
    look Mode.Body h = in_body role
    look Mode.AllAdvice h = in_rounds role
    look Mode.InstalledAdvice h = in_round (is_advice_body role)

pub skipped_row : (L : Layout) (s : Position) (n : ℕ) → s.mode ≡ Mode.Skip → (i : ℕ) → in_row L s n i ≡ none
skipped_row L s n h i = rw h refl

-- The first j children of term n: their sum with what the term takes itself, and the dearest branch, at a place of a table.
module _ (L : Layout) (n : ℕ) (s : Position) where
  unfoldable pub sum_at : ℕ → ℕ → ℕ
  sum_at j x = piece_at (λ i. sum_to L n (keeping_more i s) j) x

  unfoldable pub choice_at : ℕ → ℕ → ℕ
  choice_at j x = piece_at (λ i. choice_to L n (keeping_more i s) j) x

  module _ (j : ℕ) (h : j < length (children L n)) (role : Role) (p e : ℕ) (hr : role ≡ role_of L n j) (hp : p ≡ domain_at L n) (he : e ≡ get_or (children L n) j 0) where
    abbrev R : Tm
    R = term_at L (root_of L)

    abbrev child : ℕ → Numbers
    child i = counted R (child_position (keeping_more i s) (role_of L n j) (domain_at L n)) (term_at L (get_or (children L n) j 0))

    child_is : (i : ℕ) → child i ≡ in_row L (child_position s role p) e i
    child_is i =
        ap (λ y. counted R (child_position (keeping_more i s) y (domain_at L n)) (term_at L (get_or (children L n) j 0))) (sym hr)
        ∙ (ap (λ y. counted R (child_position (keeping_more i s) role y) (term_at L (get_or (children L n) j 0))) (sym hp)
        ∙ (ap (λ y. counted R (child_position (keeping_more i s) role p) (term_at L y)) (sym he) ∙ ap (λ y. counted R y (term_at L e)) (child_more i s role p)))

    -- A child that is no branch, and one that is.
    by_role : (b : Bool) → is_branch s role ≡ b → is_branch s (role_of L n j) ≡ b
    by_role b hb = ap (is_branch s) (sym hr) ∙ hb

    sum_step : (x : ℕ) → sum_at (j + 1) x ≡ sum_at j x + piece_at (λ i. added_by (is_branch s (role_of L n j)) (child i)) x
    unfolding sum_at
    sum_step x =
        piece_cong (λ i. sum_to L n (keeping_more i s) (j + 1)) (λ i. sum_to L n (keeping_more i s) j ⊕ added_by (is_branch s (role_of L n j)) (child i)) (λ i. sum_next L n (keeping_more i s) j h) x
        ∙ piece_plus (λ i. sum_to L n (keeping_more i s) j) (λ i. added_by (is_branch s (role_of L n j)) (child i)) x

    abbrev v : ℕ
    v = branch_variables (kind_at_lem L n) (others L n)

    abbrev offer : Bool → ℕ → Numbers
    offer b i = offered_by b (branch_numbers s.dom.0 (role_of L n j) v) (child i)

    choice_step : (x : ℕ) → choice_at (j + 1) x ≡ max (choice_at j x) (piece_at (offer (is_branch s (role_of L n j))) x)
    unfolding choice_at
    choice_step x =
        piece_cong (λ i. choice_to L n (keeping_more i s) (j + 1)) (λ i. dearer (choice_to L n (keeping_more i s) j) (offer (is_branch s (role_of L n j)) i)) (λ i. choice_next L n (keeping_more i s) j h) x
        ∙ piece_dearer (λ i. choice_to L n (keeping_more i s) j) (offer (is_branch s (role_of L n j))) x

    sum_plain : is_branch s role ≡ false → (x : ℕ) → sum_at (j + 1) x ≡ sum_at j x + piece_at (in_row L (child_position s role p) e) x
    sum_plain hb x =
        sum_step x
        ∙ ap (λ y. sum_at j x + y) (ap (λ b. piece_at (λ i. added_by b (child i)) x) (by_role false hb) ∙ piece_cong child (in_row L (child_position s role p) e) child_is x)

    sum_branch : is_branch s role ≡ true → (x : ℕ) → sum_at (j + 1) x ≡ sum_at j x
    sum_branch hb x =
        let z : piece_at (λ i. added_by (is_branch s (role_of L n j)) (child i)) x ≡ 0 = ap (λ b. piece_at (λ i. added_by b (child i)) x) (by_role true hb) ∙ piece_none x in
        let e' = sum_step x in
        omega arith

    choice_plain : is_branch s role ≡ false → (x : ℕ) → choice_at (j + 1) x ≡ choice_at j x
    choice_plain hb x =
        let z : piece_at (offer (is_branch s (role_of L n j))) x ≡ 0 = ap (λ b. piece_at (offer b) x) (by_role false hb) ∙ piece_none x in
        let e' = choice_step x in
        omega arith

    choice_branch : is_branch s role ≡ true → (x : ℕ) → choice_at (j + 1) x ≡ max (choice_at j x) (piece_at (in_row L (child_position s role p) e) x)
    choice_branch hb x =
        let z : piece_at (offer true) x ≡ piece_at (λ i. branch_numbers s.dom.0 (role_of L n j) v) x + piece_at child x = piece_plus (λ i. branch_numbers s.dom.0 (role_of L n j) v) child x in
        let y = piece_branch s.dom.0 (role_of L n j) v x in
        let w = piece_cong child (in_row L (child_position s role p) e) child_is x in
        let t : piece_at (offer (is_branch s (role_of L n j))) x ≡ piece_at (offer true) x = ap (λ b. piece_at (offer b) x) (by_role true hb) in
        let e' = choice_step x in
        omega arith

  -- Before the first child, and behind the last.
  sum_first : of_advice s.mode ≡ true → (x : ℕ) → sum_at 0 x ≡ own_pieces (shape_of (kind_at_lem L n)).own s x
  unfolding sum_at sum_to joined_at_of
  sum_first h x = piece_cong (λ i. own_at L n (keeping_more i s) ⊕ none) (λ i. own_at L n (keeping_more i s)) (λ i. none_right (own_at L n (keeping_more i s))) x ∙ own_pieces_lem s x (term_at L (root_of L)) (shape_of (kind_at_lem L n)).own (domain_at L n) h

  choice_first : (x : ℕ) → choice_at 0 x ≡ 0
  unfolding choice_at choice_to joined_at_of
  choice_first x = piece_none x

  all_rows : LayoutOk L → n < length L.terms → (kind_at_lem L n ≡ TermKind.match → 3 ≤ length (children L n)) → (j : ℕ) → length (children L n) ≤ j → (x : ℕ) → piece_at (in_row L s n) x ≡ sum_at j x + choice_at j x
  unfolding sum_at choice_at
  all_rows good l three j h x =
      piece_cong (in_row L s n) (λ i. sum_to L n (keeping_more i s) j ⊕ choice_to L n (keeping_more i s) j) (λ i. through L n good l three (keeping_more i s) j h) x
      ∙ piece_plus (λ i. sum_to L n (keeping_more i s) j) (λ i. choice_to L n (keeping_more i s) j) x

-- The dearest branch of all children.
module _ (L : Layout) (n : ℕ) (s : Position) (x : ℕ) where
  abbrev at : ℕ → ℕ
  at j = piece_at (in_row L s (get_or (children L n) j 0)) x

  plain_next : (j : ℕ) → j < length (children L n) → is_branch s (role_of L n j) ≡ false → choice_at L n s (j + 1) x ≡ choice_at L n s j x
  plain_next j h b = choice_plain L n s j h (role_of L n j) (domain_at L n) (get_or (children L n) j 0) refl refl refl b x

  branch_next : (j : ℕ) → j < length (children L n) → is_branch s (role_of L n j) ≡ true → choice_at L n s (j + 1) x ≡ max (choice_at L n s j x) (at j)
  branch_next j h b =
      choice_branch L n s j h (role_of L n j) (domain_at L n) (get_or (children L n) j 0) refl refl refl b x
      ∙ ap (λ q. max (choice_at L n s j x) (piece_at (in_row L q (get_or (children L n) j 0)) x)) (branch_position s (role_of L n j) (domain_at L n) b)

  unbranched : is_branch s (shape_of (kind_at_lem L n)).second ≡ false → (j : ℕ) → j ≤ length (children L n) → choice_at L n s j x ≡ 0
  unbranched h zero l = choice_first L n s x
  unbranched h (suc j) l = ap (λ i. choice_at L n s i x) (sym (add-one j)) ∙ (plain_next j (omega arith) (all_plain s (kind_at_lem L n) h j) ∙ unbranched h j (omega arith))

  module _ (h : is_branch s (shape_of (kind_at_lem L n)).second ≡ true) (three : 3 ≤ length (children L n)) where
    first_three : choice_at L n s 3 x ≡ max (at 1) (at 2)
    first_three =
        let a : choice_at L n s 1 x ≡ choice_at L n s 0 x = plain_next 0 (omega arith) (not_branch s (shape_of (kind_at_lem L n)).first (first_plain (kind_at_lem L n))) in
        let z = choice_first L n s x in
        let b : choice_at L n s 2 x ≡ max (choice_at L n s 1 x) (at 1) = branch_next 1 (omega arith) h in
        let c : choice_at L n s 3 x ≡ max (choice_at L n s 2 x) (at 2) = branch_next 2 (omega arith) (same_branch s (shape_of (kind_at_lem L n)).third (shape_of (kind_at_lem L n)).second (third_too (kind_at_lem L n)) ∙ h) in
        omega arith

    further : (i : ℕ) → i + 3 ≤ length (children L n) → choice_at L n s (i + 3) x ≡ max (at 1) (at 2)
    further zero l = first_three
    further (suc i) l =
        let e : suc i + 3 ≡ i + 3 + 1 = omega arith in
        ap (λ j. choice_at L n s j x) e ∙ (plain_next (i + 3) (omega arith) (plain_at s (kind_at_lem L n) (i + 3) (λ z. omega arith) (λ z. omega arith)) ∙ further i (omega arith))

    branched : (j : ℕ) → j ≡ length (children L n) → choice_at L n s j x ≡ max (at 1) (at 2)
    branched j e = let q : j ≡ j - 3 + 3 = omega arith in ap (λ i. choice_at L n s i x) q ∙ further (j - 3) (omega arith)

-- Sums that stop at the largest number.
pub record Sofar (own sum : ℕ → ℕ) (before now : List ℕ) : Type 0 where
  pub at : (x : ℕ) → x < table_length → cut (get_or now x 0 + own x) ≡ cut (get_or before x 0 + sum x)

sofar_start : (own sum : ℕ → ℕ) (xs : List ℕ) → ((x : ℕ) → sum x ≡ own x) → Sofar own sum xs xs
sofar_start own sum xs e = record { at = λ x l. let h = e x in omega arith }

sofar_more : (own sum sum' y : ℕ → ℕ) (xs ys zs : List ℕ) → ((x : ℕ) → sum' x ≡ sum x + y x) → Sofar own sum xs ys → Summed y ys zs → Sofar own sum' xs zs
sofar_more own sum sum' y xs ys zs e S A = record { at = λ x l. let h = e x in let a = S.at x l in let b = A x l in omega arith }

sofar_same : (own sum sum' : ℕ → ℕ) (xs ys : List ℕ) → ((x : ℕ) → sum' x ≡ sum x) → Sofar own sum xs ys → Sofar own sum' xs ys
sofar_same own sum sum' xs ys e S = record { at = λ x l. let h = e x in let a = S.at x l in omega arith }

plus_left : (a b c : ℕ) → cut a ≡ cut b → cut (a + c) ≡ cut (b + c)
plus_left a b c h = omega arith

max_left : (a b c : ℕ) → cut a ≡ cut b → cut (max a c) ≡ cut (max b c)
max_left a b c h = omega arith

max_right : (a b c : ℕ) → cut b ≡ cut c → cut (max a b) ≡ cut (max a c)
max_right a b c h = omega arith

plus_max : (r a b : ℕ) → max (r + a) (r + b) ≡ r + max a b
plus_max r a b = omega arith

-- The whole: what the children take one after the other, and then the dearer of the branches.
module _ (own sum choice all : ℕ → ℕ) (xs ys zs : List ℕ) (S : Sofar own sum xs ys) (A : Summed own ys zs) where
  through_all : (x : ℕ) → x < table_length → cut (get_or zs x 0) ≡ cut (get_or xs x 0 + sum x)
  through_all x l = A x l ∙ S.at x l

  whole : ((x : ℕ) → all x ≡ sum x) → Summed all xs zs
  whole e x l = through_all x l ∙ ap (λ y. cut (get_or xs x 0 + y)) (sym (e x))

  whole_chosen : ((x : ℕ) → all x ≡ sum x + choice x) → (ws : List ℕ) → Summed choice zs ws → Summed all xs ws
  whole_chosen e ws C x l =
      let z : get_or xs x 0 + sum x + choice x ≡ get_or xs x 0 + all x = let h = e x in omega arith in
      C x l ∙ (plus_left (get_or zs x 0) (get_or xs x 0 + sum x) (choice x) (through_all x l) ∙ ap cut z)

-- The dearer of two branches: one is added to the rows, the other to a copy of them, and the larger counts, row by row.
pub dearer_added : (first second : ℕ → ℕ) (rows more other after : List ℕ) → Summed first rows more → Summed second rows other → Changed (λ x y. max y (get_or other x 0)) 0 table_length more after → Summed (λ x. max (first x) (second x)) rows after
dearer_added first second rows more other after A B larger x l =
    let r = get_or rows x 0 in
    ap cut (larger.within x (omega arith) l)
    ∙ (max_left (get_or more x 0) (r + first x) (get_or other x 0) (A x l) ∙ (max_right (r + first x) (get_or other x 0) (r + second x) (B x l) ∙ ap cut (plus_max r (first x) (second x))))

-- After the first j children: the rows.
module _ (L : Layout) (n : ℕ) (s : Position) (own : Own) (before : List ℕ) where
  abbrev pub Through : ℕ → List ℕ → Type 0
  Through j rows = Sofar (own_pieces own s) (sum_at L n s j) before rows

  pub none_through : own ≡ (shape_of (kind_at_lem L n)).own → of_advice s.mode ≡ true → Through 0 before
  none_through e h = sofar_start (own_pieces own s) (sum_at L n s 0) before (λ x. sum_first L n s h x ∙ ap (λ y. own_pieces y s x) (sym e))

  module _ (j : ℕ) (h : j < length (children L n)) (role : Role) (hr : role ≡ role_of L n j) (rows : List ℕ) (T : Through j rows) where
    pub plain_turn : (p e : ℕ) → p ≡ domain_at L n → e ≡ get_or (children L n) j 0 → (q : Position) → q ≡ child_position s role p → is_branch s role ≡ false → (more : List ℕ) → Summed (piece_at (in_row L q e)) rows more → Through (j + 1) more
    plain_turn p e hp he q hq hb more A =
        sofar_more (own_pieces own s) (sum_at L n s j) (sum_at L n s (j + 1)) (piece_at (in_row L (child_position s role p) e)) before rows more (sum_plain L n s j h role p e hr hp he hb) T (subst (λ y. Summed (piece_at (in_row L y e)) rows more) hq A)

    pub branch_turn : is_branch s role ≡ true → Through (j + 1) rows
    branch_turn hb =
        sofar_same (own_pieces own s) (sum_at L n s j) (sum_at L n s (j + 1)) before rows (sum_branch L n s j h role (domain_at L n) (get_or (children L n) j 0) hr refl refl hb) T

  -- All children are through.
  module _ (good : LayoutOk L) (l : n < length L.terms) (three : kind_at_lem L n ≡ TermKind.match → 3 ≤ length (children L n)) (j : ℕ) (h : j ≡ length (children L n))
      (rows charged : List ℕ) (T : Through j rows) (A : Summed (own_pieces own s) rows charged) where
    all_of_lem : (x : ℕ) → piece_at (in_row L s n) x ≡ sum_at L n s j x + choice_at L n s j x
    all_of_lem = all_rows L n s good l three j (omega arith)

    pub without_branches : is_branch s (shape_of (kind_at_lem L n)).second ≡ false → Summed (piece_at (in_row L s n)) before charged
    without_branches b =
        whole (own_pieces own s) (sum_at L n s j) (choice_at L n s j) (piece_at (in_row L s n)) before rows charged T A
        (λ x. let z = unbranched L n s x b j (omega arith) in let e = all_of_lem x in omega arith)

    pub with_branches : is_branch s (shape_of (kind_at_lem L n)).second ≡ true → (a b : ℕ) → a ≡ get_or (children L n) 1 0 → b ≡ get_or (children L n) 2 0 → (after : List ℕ)
        → Summed (λ x. max (piece_at (in_row L s a) x) (piece_at (in_row L s b) x)) charged after → Summed (piece_at (in_row L s n)) before after
    with_branches hb a b ea eb after C =
        whole_chosen (own_pieces own s) (sum_at L n s j) (λ x. max (piece_at (in_row L s a) x) (piece_at (in_row L s b) x)) (piece_at (in_row L s n)) before rows charged T A
        (λ x. all_of_lem x ∙ ap (λ y. sum_at L n s j x + y) (branched L n s x hb (three_children L good n l s hb) j h ∙ (ap (λ y. max (piece_at (in_row L s y) x) (piece_at (in_row L s (get_or (children L n) 2 0)) x)) (sym ea) ∙ ap (λ y. max (piece_at (in_row L s a) x) (piece_at (in_row L s y) x)) (sym eb))))
        after C
