-- Where the children of a term stand in the walk: not too deep, and with what is known of marks.
use Prim.Native.Nat.{ℕ, suc, ◌+◌, ◌≤◌, ◌<◌}
use native.Mathlib.Omega.{arith}
use mathlib.Core.Bool.{Bool, true, false}
use mathlib.Core.List.{List}
use Rattle.calculus.specs.Combinators.{choose}
use Rattle.image.specs.Records.{Layout}
use Rattle.verdict.specs.Acceptable.{IsChild, Depth}
use Rattle.image_needs.specs.declared.Needs.{Needs}
use Rattle.need_sums.specs.declared.shapes.Role.{Role}
use Rattle.need_sums.specs.declared.positions.Mode.{Mode}
use Rattle.need_sums.specs.declared.positions.Position.{Position}
use Rattle.need_sums.specs.Walks.{asked, advice_mode, is_advice_body, running_child, child_position}
use Rattle.need_sums.specs.Rows.{row_count}
use Rattle.need_walk.specs.Counted.{Placed, Known}

-- A child stands at most two terms deeper, with at most one more value kept.
abbrev Near : Position → Position → Type 0
Near s q = (q.depth ≤ s.depth + 2) × (q.kept ≤ s.kept + 1)

running_near : (s : Position) (role : Role) (p : ℕ) → Near s (running_child s role p)
running_near s Role.Skipped p = (omega arith, omega arith)
running_near s Role.Operand p = (omega arith, omega arith)
running_near s Role.Lowered p = (omega arith, omega arith)
running_near s Role.Kept p = (omega arith, omega arith)
running_near s Role.Next p = (omega arith, omega arith)
running_near s Role.Branch p = (omega arith, omega arith)
running_near s Role.FirstBranch p = (omega arith, omega arith)
running_near s Role.AdviceBody p = (omega arith, omega arith)
running_near s Role.Installed p = (omega arith, omega arith)

child_near : (s : Position) (role : Role) (p : ℕ) → Near s (child_position s role p)
child_near s role p = look s.mode (is_advice_body role)
  where
    S : Mode → Position
    S m = record { mode = m; dom = s.dom; depth = s.depth; kept = s.kept }

    round : (b : Bool) → Near s (choose b (record { mode = Mode.Body; dom = record { 0 = p }; depth = s.depth + 2; kept = s.kept }) (asked s (advice_mode role)))
    round true = (omega arith, omega arith)
    round false = (omega arith, omega arith)

    look : (m : Mode) (b : Bool) → Near s (child_position (S m) role p)
    look Mode.Skip b = (omega arith, omega arith)
    look Mode.Program b = running_near (S Mode.Program) role p
    look Mode.Body b = running_near (S Mode.Body) role p
    look Mode.AllAdvice b = (omega arith, omega arith)
    look Mode.InstalledAdvice b = round (is_advice_body role)

pub child_placed : (L : Layout) (s : Position) (n e p i : ℕ) (role : Role) → e < n → IsChild L n i e → Placed L s n → Placed L (child_position s role p) e
child_placed L s n e p i role l c P =
    let near = child_near s role p in
    let d = P.deep in
    let k = P.kept in
    let x = near.0 in
    let y = near.1 in
    record { deep = omega arith; shallow = P.shallow; own_depth = suc P.own_depth; at_depth = Depth.at_child P.at_depth c; kept = omega arith }

-- There is a row for the values that are kept.
pub kept_row : (L : Layout) (s : Position) (n : ℕ) → Placed L s n → s.kept < row_count
kept_row L s n P = let h = P.shallow n P.own_depth P.at_depth in let k = P.kept in omega arith

-- What is known of marks is known there.
pub child_known : (L : Layout) (s : Position) (role : Role) (p : ℕ) (w : Needs) (rows : List ℕ) → Known L s w rows → Known L (child_position s role p) w rows
child_known L s role p w rows x = look s.mode x
  where
    S : Mode → Position
    S m = record { mode = m; dom = s.dom; depth = s.depth; kept = s.kept }

    in_program : (role : Role) → Known L (S Mode.Program) w rows → Known L (running_child (S Mode.Program) role p) w rows
    in_program Role.Skipped x = tt
    in_program Role.Operand x = x
    in_program Role.Lowered x = x
    in_program Role.Kept x = x
    in_program Role.Next x = x
    in_program Role.Branch x = x
    in_program Role.FirstBranch x = x
    in_program Role.AdviceBody x = tt
    in_program Role.Installed x = x

    in_body : (role : Role) → Known L (running_child (S Mode.Body) role p) w rows
    in_body Role.Skipped = tt
    in_body Role.Operand = tt
    in_body Role.Lowered = tt
    in_body Role.Kept = tt
    in_body Role.Next = tt
    in_body Role.Branch = tt
    in_body Role.FirstBranch = tt
    in_body Role.AdviceBody = tt
    in_body Role.Installed = tt

    in_rounds : (role : Role) → Known L (asked s (advice_mode role)) w rows
    in_rounds Role.Skipped = tt
    in_rounds Role.Operand = tt
    in_rounds Role.Lowered = tt
    in_rounds Role.Kept = tt
    in_rounds Role.Next = tt
    in_rounds Role.Branch = tt
    in_rounds Role.FirstBranch = tt
    in_rounds Role.AdviceBody = tt
    in_rounds Role.Installed = tt

    in_round : (b : Bool) → Known L (choose b (record { mode = Mode.Body; dom = record { 0 = p }; depth = s.depth + 2; kept = s.kept }) (asked s (advice_mode role))) w rows
    in_round true = tt
    in_round false = in_rounds role

    look : (m : Mode) → Known L (S m) w rows → Known L (child_position (S m) role p) w rows
    look Mode.Skip x = tt
    look Mode.Program x = in_program role x
    look Mode.Body x = in_body role
    look Mode.AllAdvice x = in_rounds role
    look Mode.InstalledAdvice x = in_round (is_advice_body role)
