-- Demand 3 of the reports of two runs (document 01, "Two runs compared").
use Prim.Native.Nat.{ℕ}
use mathlib.Core.Path.{◌≡◌, refl, sym, ap, ap₂, ◌∙◌}
use mathlib.Core.Bool.{Bool, true, false}
use mathlib.Core.List.{List, [], ◌∷◌, map}
use mathlib.Core.Option.{Option, none, some, some-injective}
use Rattle.calculus.specs.declared.Outcome.{Outcome}
use Rattle.calculus.specs.declared.Leaf.{Leaf}
use Rattle.calculus.specs.Combinators.{choose}
use Rattle.calculus.specs.Syntax.{Dom, Ty, Val, Tm}
use Rattle.calculus.specs.State.{Cell, Given, fresh}
use Rattle.calculus.specs.Report.{leaves, CellReport, outcome_of, result_of, cell_report, report}
use Rattle.calculus.specs.Run.{End, done, Ended, run}
use Rattle.calculus.specs.Typing.{Policy, StoreTyping}
use Rattle.calculus.specs.Blank.{blank}
use Rattle.calculus.specs.Accepted.{Transitive, Accepted}
use Rattle.calculus_safety.proofs.Runs.{Ends, Ends.ends_done, Ends.ends_stopped, program_safe}
use Rattle.calculus_noninterference.specs.Observe.{Highs, Shown, shown, high_of, Same, SameReported}
use Rattle.calculus_noninterference.proofs.Theorem.{demand3}

-- A cell's report, from what is shown of the cell.
abbrev pub leaves_of : Option Val → Option (List Leaf)
leaves_of none = none
leaves_of (some v) = some (leaves v)

abbrev pub reported : Shown → CellReport
reported a = record { dom = a.dom; held = leaves_of a.value }

reported_shown : (a : Cell Val) → reported (shown a) ≡ cell_report leaves a
reported_shown a = ap (λ h. record { dom = a.dom; held = h }) (pick a.plain)
  where
    pick : (b : Bool) → leaves_of (choose b (some a.held) none) ≡ choose b (some (leaves a.held)) none
    pick true = refl
    pick false = refl

pub reported_cells : (hi : Dom → Bool) (x : List (Cell Val)) → map reported (map shown (high_of hi (λ a. a.dom) x)) ≡ high_of hi (λ a. a.dom) (map (cell_report leaves) x)
unfolding high_of
reported_cells hi [] = refl
reported_cells hi (a ∷ x) = pick (high_of hi (λ a. a.dom) x) (hi a.dom) (reported_cells hi x)
  where
    pick : (u : List (Cell Val)) {r : List CellReport} (b : Bool) → map reported (map shown u) ≡ r → map reported (map shown (choose b (a ∷ u) u)) ≡ choose b (cell_report leaves a ∷ r) r
    pick u true h = ap₂ ◌∷◌ (reported_shown a) h
    pick u false h = h

-- A typed run whose report says done has a result.
pub reports_done : {D : Policy} {t : Ty} {Σ : StoreTyping} {o : End} → Ends D t Σ o → outcome_of o ≡ some Outcome.Done → (v : Val) × (o ≡ done v)
reports_done (ends_done {v} h) p = (v, refl)
reports_done (ends_stopped {o} n) p = absurd (n (some-injective o Outcome.Done p))

module _ (D : Policy) (hi : Dom → Bool) (trans : Transitive D) (H : Highs D hi) where
  pub demand3_reported : (e e' : Tm) → Accepted D e → Accepted D e' → blank hi e ≡ blank hi e'
      → (G G' : Given) → G.frame ≡ G'.frame → (n n' : ℕ)
      → SameReported hi (run n G 0 fresh e) (run n' G' 0 fresh e')
  demand3_reported e e' A A' alike G G' frame n n' = record { prints = S.prints; result = same_result; cells = same_cells }
    where
      E : Ended
      E = run n G 0 fresh e

      E' : Ended
      E' = run n' G' 0 fresh e'

      S : Same hi E E'
      S = demand3 D hi trans H e e' A A' alike G G' frame n n'

      ended_left : (report E).outcome ≡ some Outcome.Done → (v : Val) × (E.end ≡ done v)
      ended_left p = reports_done (program_safe D trans G A.typed n).end p

      ended_right : (report E').outcome ≡ some Outcome.Done → (v : Val) × (E'.end ≡ done v)
      ended_right p = reports_done (program_safe D trans G' A'.typed n').end p

      same_result : (report E).outcome ≡ some Outcome.Done → (report E').outcome ≡ some Outcome.Done → (report E).result ≡ (report E').result
      same_result p p' =
          let x = ended_left p in
          let y = ended_right p' in
          ap (result_of leaves) (x.1 ∙ ap done (S.result x.0 y.0 x.1 y.1) ∙ sym y.1)

      same_cells : (report E).outcome ≡ some Outcome.Done → (report E').outcome ≡ some Outcome.Done → high_of hi (λ a. a.dom) (report E).cells ≡ high_of hi (λ a. a.dom) (report E').cells
      same_cells p p' =
          let x = ended_left p in
          let y = ended_right p' in
          sym (reported_cells hi E.state.cells) ∙ ap (map reported) (S.cells x.0 y.0 x.1 y.1) ∙ reported_cells hi E'.state.cells
