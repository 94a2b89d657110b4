-- Demand 3 for runs of the calculus (document 01, "Two runs compared").
use Prim.Native.Nat.{ℕ}
use mathlib.Core.Path.{◌≡◌, refl}
use mathlib.Core.Bool.{Bool, false}
use Rattle.calculus.specs.Syntax.{Dom, Tm}
use Rattle.calculus.specs.State.{Given, fresh}
use Rattle.calculus.specs.Run.{run}
use Rattle.calculus.specs.Typing.{Policy}
use Rattle.calculus.specs.Blank.{blank}
use Rattle.calculus.specs.Accepted.{Transitive, Accepted}
use Rattle.calculus_noninterference.specs.Observe.{Highs, Same}
use Rattle.calculus_noninterference.proofs.Clash.{clash}
use Rattle.calculus_noninterference.proofs.Blanked.{blank_rel}
use Rattle.calculus_noninterference.proofs.Traces.{cut_prints, cut_branches, cut_counts, fewer_prints}
use Rattle.calculus_noninterference.proofs.Runs.{start, agree}

-- Two accepted programs that differ only in low bodies, over one frame, whatever the two budgets and the lengths of the two logs: what is seen from the high domains is the same.
-- Of the order of domains nothing is assumed but that it is transitive.
pub demand3 : (D : Policy) (hi : Dom → Bool) → Transitive D → Highs D hi
    → (e e' : Tm) → Accepted D e → Accepted D e' → blank hi e ≡ blank hi e'
    → (G G' : Given) → G.frame ≡ G'.frame → (n n' : ℕ)
    → Same hi (run n G 0 fresh e) (run n' G' 0 fresh e')
demand3 D hi trans H e e' A A' same G G' frame n n' =
    let a = agree H trans false A.type A'.type G G' frame (λ z. clash z refl) (start H trans false A.type A'.type G G' frame (λ z. clash z refl) e e' A.typed A'.typed (blank_rel hi refl A.typed same) (λ z. clash z refl)) n n' in
    record { prints = cut_prints hi _ _ a.events; branches = cut_branches hi _ _ a.events; counts = cut_counts hi H.mainline _ _ a.events; capacity = λ x. (let y = a.capacity x in record { not_done = y.0; no_more = fewer_prints hi _ _ y.1 }); result = λ v v' p p'. a.result v v' p p' A.plain; cells = a.cells; final = a.mainline }
