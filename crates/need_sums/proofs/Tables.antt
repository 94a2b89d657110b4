-- The kinds that take a step alone: what stands behind the last arm of a match.
use Prim.Native.Nat.{ℕ}
use mathlib.Core.Path.{◌≡◌, refl, sym}
use mathlib.Core.Bool.{Bool, true, false}
use mathlib.Core.List.{List, [], ◌∷◌}
use Rattle.laws.specs.Tests.{all}
use Rattle.laws.proofs.Booleans.{no_path}
use Rattle.laws.proofs.Tests.{each}
use Rattle.image.specs.Kinds.{TermKind, term_row}
use Rattle.image.proofs.EveryKind.{every_of}
use Rattle.read_terms.proofs.Elimination.{apart, left_over}
use Rattle.need_sums.specs.declared.shapes.Own.{Own}
use Rattle.need_sums.specs.declared.shapes.Role.{Role}
use Rattle.need_sums.specs.declared.shapes.Shape.{Shape}
use Rattle.need_sums.specs.Walks.{childless, shape_of}

-- The kinds with an arm of their own.
abbrev listed : List TermKind
listed =
    TermKind.byte ∷ TermKind.match ∷ TermKind.keep ∷ TermKind.stack ∷ TermKind.call ∷ TermKind.obj ∷ TermKind.lower ∷ TermKind.store
    ∷ TermKind.read ∷ TermKind.new_cell ∷ TermKind.install ∷ TermKind.adv ∷ TermKind.pcd ∷ TermKind.mark ∷ TermKind.new_label ∷ TermKind.arith ∷ TermKind.app ∷ TermKind.fun
    ∷ TermKind.split ∷ TermKind.pair ∷ TermKind.ite ∷ TermKind.print ∷ TermKind.seq ∷ TermKind.var ∷ TermKind.number ∷ TermKind.truth ∷ TermKind.unit ∷ []

-- Of what takes a step and nothing besides, and of a child that is skipped.
abbrev is_step : Own → Bool
is_step Own.Nothing = false
is_step Own.Step = true
is_step Own.Label = false
is_step Own.Print = false
is_step Own.Advice = false
is_step Own.Cell = false
is_step Own.Piece = false
is_step Own.Advised = false
is_step Own.Binding = false
is_step Own.TwoBindings = false
is_step Own.Stack = false
is_step Own.Mark = false

is_step_lem : (o : Own) → is_step o ≡ true → o ≡ Own.Step
is_step_lem Own.Nothing h = no_path (sym h)
is_step_lem Own.Step h = refl
is_step_lem Own.Label h = no_path (sym h)
is_step_lem Own.Print h = no_path (sym h)
is_step_lem Own.Advice h = no_path (sym h)
is_step_lem Own.Cell h = no_path (sym h)
is_step_lem Own.Piece h = no_path (sym h)
is_step_lem Own.Advised h = no_path (sym h)
is_step_lem Own.Binding h = no_path (sym h)
is_step_lem Own.TwoBindings h = no_path (sym h)
is_step_lem Own.Stack h = no_path (sym h)
is_step_lem Own.Mark h = no_path (sym h)

abbrev is_skipped : Role → Bool
is_skipped Role.Skipped = true
is_skipped Role.Operand = false
is_skipped Role.Lowered = false
is_skipped Role.Kept = false
is_skipped Role.Next = false
is_skipped Role.Branch = false
is_skipped Role.FirstBranch = false
is_skipped Role.AdviceBody = false
is_skipped Role.Installed = false

is_skipped_lem : (r : Role) → is_skipped r ≡ true → r ≡ Role.Skipped
is_skipped_lem Role.Skipped h = refl
is_skipped_lem Role.Operand h = no_path (sym h)
is_skipped_lem Role.Lowered h = no_path (sym h)
is_skipped_lem Role.Kept h = no_path (sym h)
is_skipped_lem Role.Next h = no_path (sym h)
is_skipped_lem Role.Branch h = no_path (sym h)
is_skipped_lem Role.FirstBranch h = no_path (sym h)
is_skipped_lem Role.AdviceBody h = no_path (sym h)
is_skipped_lem Role.Installed h = no_path (sym h)

abbrev is_plain : Shape → Bool
is_plain s = all (is_step s.own ∷ is_skipped s.first ∷ is_skipped s.second ∷ is_skipped s.third ∷ is_skipped s.rest ∷ [])

is_plain_lem : (s : Shape) → is_plain s ≡ true → s ≡ childless Own.Step
unfolding all
is_plain_lem s h =
    let hs = each (is_step s.own ∷ is_skipped s.first ∷ is_skipped s.second ∷ is_skipped s.third ∷ is_skipped s.rest ∷ []) h in
    rw (is_step_lem s.own hs.0, is_skipped_lem s.first hs.1.0, is_skipped_lem s.second hs.1.1.0, is_skipped_lem s.third hs.1.1.1.0, is_skipped_lem s.rest hs.1.1.1.1.0) refl

pub plain_shape : (m : ℕ) → apart m listed → (k : TermKind) → m ≡ (term_row k).number → shape_of k ≡ childless Own.Step
unfolding every_of all
plain_shape m r k e = is_plain_lem (shape_of k) (left_over (λ k. is_plain (shape_of k)) listed refl m r k e)
