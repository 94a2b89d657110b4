-- Branches (document 02, card 10: of two branches the dearer counts): which children of a term are branches, and where they stand.
use Prim.Native.Nat.{ℕ, zero, suc, ◌≤◌, ◌<◌}
use native.Mathlib.Omega.{arith}
use mathlib.Core.Path.{◌≡◌, refl, sym, subst, ◌∙◌}
use mathlib.Core.Bool.{Bool, true, false, not, ◌&&◌}
use lib.ListN.{length}
use lib.Dec.{leb}
use Rattle.calculus.specs.Combinators.{choose}
use Rattle.laws.proofs.Booleans.{no_path, and_l, and_r, not_t, le_of}
use Rattle.image.specs.Bytes.{length_at}
use Rattle.image.specs.Kinds.{TermKind, term_row}
use Rattle.image.specs.Records.{Layout, times, numbers_at}
use Rattle.image.specs.Types.{term_place, children}
use Rattle.image.proofs.Counts.{least_children, children_between}
use Rattle.image.proofs.EveryKind.{every_of, at_term}
use Rattle.image.proofs.Laid.{LayoutOk}
use Rattle.image.proofs.Words.{words_length}
use Rattle.need_sums.specs.declared.shapes.Role.{Role}
use Rattle.need_sums.specs.declared.positions.Mode.{Mode}
use Rattle.need_sums.specs.declared.positions.Position.{Position}
use Rattle.need_sums.specs.Walks.{shape_of, role_at, running_child, child_position, branches, branch_in, is_branch}
use Rattle.need_walk.proofs.Walked.{kind_at_lem}

-- Which children are branches: the second and the third, or none; and a term with branches has three children.
abbrev branch_shape : TermKind → Bool
branch_shape k =
    not (branches (shape_of k).first)
    && (not (branches (shape_of k).rest) && choose (branches (shape_of k).second) (branches (shape_of k).third && leb 3 (least_children (term_row k))) (not (branches (shape_of k).third)))

module _ (k : TermKind) where
  abbrev both : Bool
  both = choose (branches (shape_of k).second) (branches (shape_of k).third && leb 3 (least_children (term_row k))) (not (branches (shape_of k).third))

  shape_fact : branch_shape k ≡ true
  unfolding every_of
  shape_fact = at_term branch_shape refl k

  behind : (not (branches (shape_of k).rest) && both) ≡ true
  behind = and_r (not (branches (shape_of k).first)) (not (branches (shape_of k).rest) && both) shape_fact

  pair : both ≡ true
  pair = and_r (not (branches (shape_of k).rest)) both behind

  pub first_plain : branches (shape_of k).first ≡ false
  first_plain = not_t (branches (shape_of k).first) (and_l (not (branches (shape_of k).first)) (not (branches (shape_of k).rest) && both) shape_fact)

  rest_plain : branches (shape_of k).rest ≡ false
  rest_plain = not_t (branches (shape_of k).rest) (and_l (not (branches (shape_of k).rest)) both behind)

  pub third_too : branches (shape_of k).third ≡ branches (shape_of k).second
  third_too = look (branches (shape_of k).second) pair
    where
      look : (b : Bool) → choose b (branches (shape_of k).third && leb 3 (least_children (term_row k))) (not (branches (shape_of k).third)) ≡ true → branches (shape_of k).third ≡ b
      look true h = and_l (branches (shape_of k).third) (leb 3 (least_children (term_row k))) h
      look false h = not_t (branches (shape_of k).third) h

  least_three : branches (shape_of k).second ≡ true → 3 ≤ least_children (term_row k)
  least_three e =
      le_of (and_r (branches (shape_of k).third) (leb 3 (least_children (term_row k))) (subst (λ b. choose b (branches (shape_of k).third && leb 3 (least_children (term_row k))) (not (branches (shape_of k).third)) ≡ true) e pair))

-- The same where a term stands.
module _ (s : Position) where
  pub not_branch : (r : Role) → branches r ≡ false → is_branch s r ≡ false
  not_branch r h = look s.mode
    where
      look : (m : Mode) → branch_in m r ≡ false
      look Mode.Skip = refl
      look Mode.Program = h
      look Mode.Body = h
      look Mode.AllAdvice = refl
      look Mode.InstalledAdvice = refl

  pub same_branch : (r q : Role) → branches r ≡ branches q → is_branch s r ≡ is_branch s q
  same_branch r q h = look s.mode
    where
      look : (m : Mode) → branch_in m r ≡ branch_in m q
      look Mode.Skip = refl
      look Mode.Program = h
      look Mode.Body = h
      look Mode.AllAdvice = refl
      look Mode.InstalledAdvice = refl

  is_branch_lem : (r : Role) → is_branch s r ≡ true → branches r ≡ true
  is_branch_lem r h = look s.mode h
    where
      look : (m : Mode) → branch_in m r ≡ true → branches r ≡ true
      look Mode.Skip h = no_path (sym h)
      look Mode.Program h = h
      look Mode.Body h = h
      look Mode.AllAdvice h = no_path (sym h)
      look Mode.InstalledAdvice h = no_path (sym h)

  -- A branch goes on in its parent's place.
  pub branch_position : (r : Role) (p : ℕ) → is_branch s r ≡ true → child_position s r p ≡ s
  branch_position r p h = look s.mode h
    where
      S : Mode → Position
      S m = record { mode = m; dom = s.dom; depth = s.depth; kept = s.kept }

      running : (m : Mode) (r : Role) → branches r ≡ true → running_child (S m) r p ≡ S m
      running m Role.Skipped h = no_path (sym h)
      running m Role.Operand h = no_path (sym h)
      running m Role.Lowered h = no_path (sym h)
      running m Role.Kept h = no_path (sym h)
      running m Role.Next h = no_path (sym h)
      running m Role.Branch h = refl
      running m Role.FirstBranch h = refl
      running m Role.AdviceBody h = no_path (sym h)
      running m Role.Installed h = no_path (sym h)

      look : (m : Mode) → is_branch (S m) r ≡ true → child_position (S m) r p ≡ S m
      look Mode.Skip h = no_path (sym h)
      look Mode.Program h = running Mode.Program r h
      look Mode.Body h = running Mode.Body r h
      look Mode.AllAdvice h = no_path (sym h)
      look Mode.InstalledAdvice h = no_path (sym h)

  pub plain_at : (k : TermKind) (j : ℕ) → (j ≡ 1 → ⊥) → (j ≡ 2 → ⊥) → is_branch s (role_at (shape_of k) j) ≡ false
  plain_at k zero a b = not_branch (shape_of k).first (first_plain k)
  plain_at k (suc zero) a b = absurd (a refl)
  plain_at k (suc (suc zero)) a b = absurd (b refl)
  plain_at k (suc (suc (suc i))) a b = not_branch (shape_of k).rest (rest_plain k)

  pub all_plain : (k : TermKind) → is_branch s (shape_of k).second ≡ false → (j : ℕ) → is_branch s (role_at (shape_of k) j) ≡ false
  all_plain k h zero = not_branch (shape_of k).first (first_plain k)
  all_plain k h (suc zero) = h
  all_plain k h (suc (suc zero)) = same_branch (shape_of k).third (shape_of k).second (third_too k) ∙ h
  all_plain k h (suc (suc (suc i))) = not_branch (shape_of k).rest (rest_plain k)

pub three_children : (L : Layout) → LayoutOk L → (n : ℕ) → n < length L.terms → (s : Position) → is_branch s (shape_of (kind_at_lem L n)).second ≡ true → 3 ≤ length (children L n)
three_children L good n l s h =
    let t = good.terms n l in
    let r = term_row (kind_at_lem L n) in
    let m = least_three (kind_at_lem L n) (is_branch_lem s (shape_of (kind_at_lem L n)).second h) in
    let c : least_children r ≤ length (children L n) =
    (children_between r (times r (length_at L.image (term_place L n))) (numbers_at L.image (term_place L n) r) (words_length L.image _ _) t.is.stands.least t.is.stands.most).0 in
    omega arith
