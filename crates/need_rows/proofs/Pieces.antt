-- The pieces of sums, of the dearer of two, and of what a term takes itself, at a place of a table.
use Prim.Native.Nat.{ℕ, ◌+◌, ◌-◌, ◌<◌, max}
use native.Mathlib.Omega.{arith}
use mathlib.Core.Path.{◌≡◌, refl, sym, ap, ◌∙◌}
use mathlib.Core.Bool.{Bool, true, false}
use mathlib.Core.List.{List}
use lib.ListN.{get_or, replicate, get_or-replicate}
use lib.Dec.{eqb, ltb}
use Rattle.calculus.specs.Combinators.{choose}
use Rattle.calculus.specs.Syntax.{Dom, Tm}
use Rattle.calculus.specs.State.{Counts, no_counts, some_bindings, one_cell, one_piece, some_pieces}
use Rattle.calculus_needs.specs.Here.{Here, deeper}
use Rattle.calculus_needs.specs.Numbers.{Numbers, none, ◌⊕◌, dearer}
use Rattle.calculus_needs.specs.Needs.{once, uses, binds}
use borrow.Author.Tests.{le-ltb}
use Rattle.laws.proofs.Booleans.{no_path, of_lt}
use Rattle.need_sums.specs.declared.shapes.Own.{Own}
use Rattle.need_sums.specs.declared.shapes.Role.{Role}
use Rattle.need_sums.specs.declared.positions.Mode.{Mode}
use Rattle.need_sums.specs.declared.positions.Position.{Position}
use Rattle.need_sums.specs.Sums.{cut}
use Rattle.need_sums.specs.Walks.{binds_variables, is_advised}
use Rattle.need_sums.specs.Rows.{row_count, table_length, quota_pieces, own_pieces, Summed}
use Rattle.need_walk.specs.Counted.{here_of}
use Rattle.need_walk.proofs.Shapes.{own_numbers, branch_numbers}
use Rattle.need_walk.proofs.Rounds.{round_numbers}
use Rattle.need_walk.proofs.Modes.{own_counted}
use Rattle.need_rows.specs.Pieces.{keeping_more, piece_at, of_advice}

pub piece_cong : (f g : ℕ → Numbers) → ((i : ℕ) → f i ≡ g i) → (x : ℕ) → piece_at f x ≡ piece_at g x
piece_cong f g h x = look (ltb x row_count)
  where
    look : (b : Bool) → choose b (f x).used.mainline.pieces (f (x - row_count)).used.others.pieces ≡ choose b (g x).used.mainline.pieces (g (x - row_count)).used.others.pieces
    look true = ap (λ m. m.used.mainline.pieces) (h x)
    look false = ap (λ m. m.used.others.pieces) (h (x - row_count))

pub piece_plus : (f g : ℕ → Numbers) (x : ℕ) → piece_at (λ i. f i ⊕ g i) x ≡ piece_at f x + piece_at g x
unfolding ◌⊕◌
piece_plus f g x = look (ltb x row_count)
  where
    look : (b : Bool)
        → choose b ((f x).used.mainline.pieces + (g x).used.mainline.pieces) ((f (x - row_count)).used.others.pieces + (g (x - row_count)).used.others.pieces)
        ≡ choose b (f x).used.mainline.pieces (f (x - row_count)).used.others.pieces + choose b (g x).used.mainline.pieces (g (x - row_count)).used.others.pieces
    look true = refl
    look false = refl

pub piece_dearer : (f g : ℕ → Numbers) (x : ℕ) → piece_at (λ i. dearer (f i) (g i)) x ≡ max (piece_at f x) (piece_at g x)
unfolding dearer
piece_dearer f g x = look (ltb x row_count)
  where
    look : (b : Bool)
        → choose b (max (f x).used.mainline.pieces (g x).used.mainline.pieces) (max (f (x - row_count)).used.others.pieces (g (x - row_count)).used.others.pieces)
        ≡ max (choose b (f x).used.mainline.pieces (f (x - row_count)).used.others.pieces) (choose b (g x).used.mainline.pieces (g (x - row_count)).used.others.pieces)
    look true = refl
    look false = refl

same_zero : (b : Bool) → ◌≡◌ {A = ℕ} (choose b 0 0) 0
same_zero true = refl
same_zero false = refl

-- Numbers without pieces.
pub piece_zero : (f : ℕ → Numbers) → ((i : ℕ) → (f i).used.mainline.pieces ≡ 0) → ((i : ℕ) → (f i).used.others.pieces ≡ 0) → (x : ℕ) → piece_at f x ≡ 0
piece_zero f a b x = look (ltb x row_count)
  where
    look : (t : Bool) → choose t (f x).used.mainline.pieces (f (x - row_count)).used.others.pieces ≡ 0
    look true = a x
    look false = b (x - row_count)

pub piece_none : (x : ℕ) → piece_at (λ i. none) x ≡ 0
piece_none x = piece_zero (λ i. none) (λ i. refl) (λ i. refl) x

-- What is charged to a domain.
mainline_of : (c : Dom) (u : Counts) → (uses c u).used.mainline.pieces ≡ choose (eqb c 0) u.pieces 0
mainline_of c u = look (eqb c 0)
  where
    look : (b : Bool) → (choose b u no_counts).pieces ≡ choose b u.pieces 0
    look true = refl
    look false = refl

others_of : (c : Dom) (u : Counts) → (uses c u).used.others.pieces ≡ choose (eqb c 0) 0 u.pieces
others_of c u = look (eqb c 0)
  where
    look : (b : Bool) → (choose b no_counts u).pieces ≡ choose b 0 u.pieces
    look true = refl
    look false = refl

charged_at : (P : ℕ → Here) (c : Dom) (u : ℕ → Counts) (x : ℕ)
    → piece_at (λ i. once (P i) ⊕ uses c (u i)) x ≡ choose (ltb x row_count) (choose (eqb c 0) (u x).pieces 0) (choose (eqb c 0) 0 (u (x - row_count)).pieces)
unfolding ◌⊕◌
charged_at P c u x = look (ltb x row_count)
  where
    look : (b : Bool) → choose b (0 + (uses c (u x)).used.mainline.pieces) (0 + (uses c (u (x - row_count))).used.others.pieces)
        ≡ choose b (choose (eqb c 0) (u x).pieces 0) (choose (eqb c 0) 0 (u (x - row_count)).pieces)
    look true = let h = mainline_of c (u x) in omega arith
    look false = let h = others_of c (u (x - row_count)) in omega arith

-- Variables that a match binds take no piece, nor does the round of an advice.
bound_mainline : (c : Dom) (v : ℕ) → (binds c v).used.mainline.pieces ≡ 0
bound_mainline c v = mainline_of c (some_bindings v) ∙ same_zero (eqb c 0)

bound_others : (c : Dom) (v : ℕ) → (binds c v).used.others.pieces ≡ 0
bound_others c v = others_of c (some_bindings v) ∙ same_zero (eqb c 0)

pub piece_branch : (c : Dom) (role : Role) (v x : ℕ) → piece_at (λ i. branch_numbers c role v) x ≡ 0
piece_branch c role v x = look (binds_variables role)
  where
    look : (b : Bool) → piece_at (λ i. choose b (binds c v) none) x ≡ 0
    look true = piece_zero (λ i. binds c v) (λ i. bound_mainline c v) (λ i. bound_others c v) x
    look false = piece_none x

piece_round : (a : Bool) (P : ℕ → Here) (p : Dom) (x : ℕ) → piece_at (λ i. round_numbers a (P i) p) x ≡ 0
unfolding ◌⊕◌
piece_round true P p x =
    piece_zero (λ i. binds p 1 ⊕ (once (deeper (P i)) ⊕ once (P i))) (λ i. let h = bound_mainline p 1 in omega arith) (λ i. let h = bound_others p 1 in omega arith) x
piece_round false P p x = piece_none x

-- What a term takes itself.
module _ (s : Position) (x : ℕ) where
  abbrev P : ℕ → Here
  P i = here_of (keeping_more i s)

  flat : (f : ℕ → Numbers) → ((i : ℕ) → (f i).used.mainline.pieces ≡ 0) → ((i : ℕ) → (f i).used.others.pieces ≡ 0)
      → piece_at f x ≡ choose (ltb x row_count) (choose (eqb s.dom.0 0) 0 0) (choose (eqb s.dom.0 0) 0 0)
  flat f a b = piece_zero f a b x ∙ sym (look (ltb x row_count) (eqb s.dom.0 0))
    where
      look : (t m : Bool) → ◌≡◌ {A = ℕ} (choose t (choose m 0 0) (choose m 0 0)) 0
      look true m = same_zero m
      look false m = same_zero m

  body_pieces : (o : Own) → piece_at (λ i. own_numbers o (P i) none) x ≡ quota_pieces (eqb s.dom.0 0) o s.kept x
  unfolding ◌⊕◌
  body_pieces Own.Nothing = flat (λ i. own_numbers Own.Nothing (P i) none) (λ i. refl) (λ i. refl)
  body_pieces Own.Step = flat (λ i. own_numbers Own.Step (P i) none) (λ i. refl) (λ i. refl)
  body_pieces Own.Label = flat (λ i. own_numbers Own.Label (P i) none) (λ i. refl) (λ i. refl)
  body_pieces Own.Print = flat (λ i. own_numbers Own.Print (P i) none) (λ i. refl) (λ i. refl)
  body_pieces Own.Advice = flat (λ i. own_numbers Own.Advice (P i) none) (λ i. refl) (λ i. refl)
  body_pieces Own.Cell = charged_at P s.dom.0 (λ i. one_cell) x
  body_pieces Own.Piece = charged_at P s.dom.0 (λ i. one_piece) x
  body_pieces Own.Advised = charged_at P s.dom.0 (λ i. one_piece) x
  body_pieces Own.Binding = charged_at P s.dom.0 (λ i. some_bindings 1) x
  body_pieces Own.TwoBindings = charged_at P s.dom.0 (λ i. some_bindings 2) x
  body_pieces Own.Stack = charged_at P s.dom.0 (λ i. some_pieces (i + s.kept)) x
  body_pieces Own.Mark = flat (λ i. own_numbers Own.Mark (P i) none) (λ i. refl) (λ i. refl)

  pub own_pieces_lem : (R : Tm) (o : Own) (p : Dom) → of_advice s.mode ≡ true → piece_at (λ i. own_counted R (keeping_more i s) o p) x ≡ own_pieces o s x
  own_pieces_lem R o p h = look s.mode h
    where
      S : Mode → Position
      S m = record { mode = m; dom = s.dom; depth = s.depth; kept = s.kept }

      look : (m : Mode) → of_advice m ≡ true → piece_at (λ i. own_counted R (keeping_more i (S m)) o p) x ≡ own_pieces o (S m) x
      look Mode.Skip h = piece_none x
      look Mode.Program h = no_path (sym h)
      look Mode.Body h = body_pieces o
      look Mode.AllAdvice h = piece_none x
      look Mode.InstalledAdvice h = piece_round (is_advised o) P p x

-- Where nothing is taken nothing changes.
pub nothing_added : (f : ℕ → Numbers) → ((i : ℕ) → f i ≡ none) → (xs : List ℕ) → Summed (piece_at f) xs xs
nothing_added f h xs x l = let z : piece_at f x ≡ 0 = piece_cong f (λ i. none) h x ∙ piece_none x in omega arith

-- What the rows of a table hold that was empty before.
module _ (f : ℕ → Numbers) (rows : List ℕ) (A : Summed (piece_at f) (replicate table_length 0) rows) (k : ℕ) (l : k < row_count) where
  held : (x : ℕ) → x < table_length → cut (get_or rows x 0) ≡ cut (piece_at f x)
  held x h = let z : ◌≡◌ {A = ℕ} (get_or (replicate table_length 0) x 0) 0 = get_or-replicate table_length x 0 0 h in let a = A x h in omega arith

  pub mainline_row : cut (get_or rows k 0) ≡ cut (f k).used.mainline.pieces
  mainline_row = held k (omega arith) ∙ ap (λ b. cut (choose b (f k).used.mainline.pieces (f (k - row_count)).used.others.pieces)) (of_lt l)

  pub others_row : cut (get_or rows (row_count + k) 0) ≡ cut (f k).used.others.pieces
  others_row =
      let b : ltb (row_count + k) row_count ≡ false = le-ltb (row_count + k) row_count (omega arith) in
      let e : row_count + k - row_count ≡ k = omega arith in
      held (row_count + k) (omega arith)
      ∙ (ap (λ b. cut (choose b (f (row_count + k)).used.mainline.pieces (f (row_count + k - row_count)).used.others.pieces)) b ∙ ap (λ y. cut (f y).used.others.pieces) e)
