-- What demand 3 compares (document 01, "Two runs compared"): the high domains, the programs, and what of an ended run is seen from the high domains.
use Rattle.std.specs.Prelude.{◌≤◌, ◌≡◌, Bool, true, false, List, [], ◌∷◌, map, length, take}
use Rattle.std.proofs.Math.Option.{Option, none, some}
use Rattle.calculus.specs.declared.Outcome.{Outcome}
use Rattle.calculus.specs.Combinators.{choose}
use Rattle.calculus.specs.Syntax.{Dom, Val}
use Rattle.calculus.specs.State.{Cell, Counts, Print, log_of, Branch, branches_of, mainline_counts}
use Rattle.calculus.specs.Run.{End, done, stopped, stuck, Ended}
use Rattle.calculus.specs.Report.{report}
use Rattle.calculus.specs.Typing.{Policy}

-- "The high domains are any set of the images' domains that holds 0 and, with each member d, every domain q with d ≤ q."
pub record Highs (D : Policy) (hi : Dom → Bool) : Type 0 where
  pub mainline : hi 0 ≡ true
  pub up : (p q : Dom) → hi p ≡ true → D.leq p q ≡ true → hi q ≡ true

-- What a report shows of a cell: its domain, and its value if the cell is plain (document 01's word; `is_plain`).
pub record Shown : Type 0 where
  pub dom : Dom
  pub value : Option Val

abbrev pub shown : Cell Val → Shown
shown a = record { dom = a.dom; value = choose a.plain (some a.held) none }

-- hi says which domains are high. "High" is document 01's word ("Two runs compared"), and `Highs` says what is asked of such a set; a domain outside it is low.
module _ (hi : Dom → Bool) where
  -- Of things with a domain, those whose domain is high, in order.
  unfoldable pub high_of : {A : Type 0} → (A → Dom) → List A → List A
  high_of dom [] = []
  high_of dom (a ∷ x) = choose (hi (dom a)) (a ∷ high_of dom x) (high_of dom x)

  -- "The log records it wrote whose domain is high, in order, domain and number together."
  abbrev pub high_prints : Ended → List Print
  high_prints E = high_of (λ a. a.dom) (log_of E.state.trace)

  -- Card 6: "the branches taken by matches at high current domains, in order".
  abbrev pub high_branches : Ended → List Branch
  high_branches E = high_of (λ a. a.dom) (branches_of E.state.trace)

  -- What is shown of the cells whose domain is high, in order of creation.
  abbrev pub high_cells : Ended → List Shown
  high_cells E = map shown (high_of (λ a. a.dom) E.state.cells)

-- "Of two such lists the longer, cut to the length of the shorter, equals the shorter"; a cut to more than a list's length leaves it whole.
abbrev pub CutEqual : {A : Type 0} → List A → List A → Type 0
CutEqual x y = take (length y) x ≡ take (length x) y

-- Card 9: whether an outcome says that domain 0 lacks room (4, 5 and 8), and whether a run ended so.
abbrev pub lacks_mainline : Outcome → Bool
lacks_mainline Outcome.Bindings = true
lacks_mainline Outcome.Cells = true
lacks_mainline Outcome.Pieces = true
lacks_mainline Outcome.Done = false
lacks_mainline Outcome.Spent = false
lacks_mainline Outcome.Aborted = false
lacks_mainline Outcome.Frames = false
lacks_mainline Outcome.Labels = false
lacks_mainline Outcome.Advice = false
lacks_mainline Outcome.Log = false
lacks_mainline Outcome.OtherBindings = false
lacks_mainline Outcome.OtherCells = false
lacks_mainline Outcome.OtherPieces = false

abbrev pub ends_short : End → Bool
ends_short (done v) = false
ends_short (stopped o) = lacks_mainline o
ends_short stuck = false

-- Card 13: the second counts are no more than the first.
pub record NoMore (u v : Counts) : Type 0 where
  pub bindings : v.bindings ≤ u.bindings
  pub cells : v.cells ≤ u.cells
  pub pieces : v.pieces ≤ u.pieces

-- The second run is not done, and prints no more at the high domains than the first.
pub record NotPast (hi : Dom → Bool) (E E' : Ended) : Type 0 where
  pub not_done : (v : Val) → E'.end ≡ done v → ⊥
  pub no_more : length (high_prints hi E') ≤ length (high_prints hi E)

-- What two ended runs show at the high domains is equal, as far as both went.
pub record Same (hi : Dom → Bool) (E E' : Ended) : Type 0 where
  pub prints : CutEqual (high_prints hi E) (high_prints hi E')
  pub branches : CutEqual (high_branches hi E) (high_branches hi E')
  -- card 9: domain 0's counts just after each of its prints
  pub counts : CutEqual (mainline_counts E.state.trace) (mainline_counts E'.state.trace)
  -- card 9, what it is for: where the first run ends because domain 0 lacks room, the second does not get past that point, whatever its low bodies use
  pub capacity : ends_short E.end ≡ true → NotPast hi E E'
  -- "Where both runs are done"
  pub result : (v v' : Val) → E.end ≡ done v → E'.end ≡ done v' → v ≡ v'
  pub cells : (v v' : Val) → E.end ≡ done v → E'.end ≡ done v' → high_cells hi E ≡ high_cells hi E'
  -- card 9: and at the end
  pub final : (v v' : Val) → E.end ≡ done v → E'.end ≡ done v' → E.state.used.mainline ≡ E'.state.used.mainline

-- The same of what the two runs report: "a run is done if its report says outcome 0; its result is the leaves reported for it; its high cells are the reported cell records whose domain is high, in order of creation."
pub record SameReported (hi : Dom → Bool) (E E' : Ended) : Type 0 where
  pub prints : CutEqual (high_prints hi E) (high_prints hi E')
  pub result : (report E).outcome ≡ some Outcome.Done → (report E').outcome ≡ some Outcome.Done → (report E).result ≡ (report E').result
  pub cells : (report E).outcome ≡ some Outcome.Done → (report E').outcome ≡ some Outcome.Done → high_of hi (λ a. a.dom) (report E).cells ≡ high_of hi (λ a. a.dom) (report E').cells
