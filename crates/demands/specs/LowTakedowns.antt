-- Card 7 of document 02 about whole calls: "A takedown written into a low body is one more difference under which high printed numbers still agree as before."
use Rattle.std.specs.Prelude.{ℕ, suc, ◌≡◌, Bool, true, false, ◌||◌, List}
use Rattle.calculus.specs.Combinators.{choose}
use Rattle.calculus.specs.Syntax.{Dom, Ty}
use Rattle.image.specs.Kinds.{TermKind, is_kind}
use Rattle.image.specs.Layout.{records_of}
use Rattle.image.specs.Program.{Program, node, blank, Programs, end, more, low_body}
use Rattle.verdict.specs.Domains.{masks}
use Rattle.call_spec.specs.Runs.{program_of}
use Rattle.call_spec.specs.Calls.{called}
use Rattle.demands.specs.Calls.{Runs}
use Rattle.demands.specs.Compare.{HighSet, SameLeft}

abbrev pub is_takedown : TermKind → Bool
is_takedown k = is_kind TermKind.takedown k

-- Whether a program contains a takedown, at any depth.
unfoldable mutual
  pub takes_down : Program → Bool
  takes_down (node k t vs es) = is_takedown k || take_down es
  takes_down blank = false

  pub take_down : Programs → Bool
  take_down end = false
  take_down (more e es) = takes_down e || take_down es

module _ (high : Dom → Bool) where
  -- Whether a low body contains a takedown (card 13: a "body that runs at a low domain, functions and methods included"). low says of each child, from the left, whether it is a low body.
  unfoldable mutual
    pub low_takes_down : Program → Bool
    low_takes_down (node k t vs es) = low_take_down es (low_body high k t vs)
    low_takes_down blank = false

    pub low_take_down : Programs → (ℕ → Bool) → Bool
    low_take_down end low = false
    low_take_down (more e es) low = choose (low 0) (takes_down e) (low_takes_down e) || low_take_down es (λ i. low (suc i))

  -- Two programs that are the same but for low bodies, anywhere in them; of the children, low says from the left which are low bodies. A low body of the one may stand for any low body of the other.
  mutual
    pub data SameButLow : Program → Program → Type 0 where
      same : (e : Program) → SameButLow e e
      inside : {k : TermKind} {t : Ty} {vs : List ℕ} {es fs : Programs} → LowChildren (low_body high k t vs) es fs → SameButLow (node k t vs es) (node k t vs fs)

    pub data LowChildren : (ℕ → Bool) → Programs → Programs → Type 0 where
      no_child : {low : ℕ → Bool} → LowChildren low end end
      alike : {low : ℕ → Bool} {e f : Program} {es fs : Programs} → SameButLow e f → LowChildren (λ i. low (suc i)) es fs → LowChildren low (more e es) (more f fs)
      a_low_body : {low : ℕ → Bool} {e f : Program} {es fs : Programs} → low 0 ≡ true → LowChildren (λ i. low (suc i)) es fs → LowChildren low (more e es) (more f fs)

  -- "A takedown written into a low body", be it one or several, in any place of the body and beside any other difference of low bodies: takedowns of any domains.
  pub record WithTakedown (e f : Program) : Type 0 where
    pub programs : SameButLow e f
    pub takedown : low_takes_down f ≡ true

-- Two calls on images with the same domains, of which the second program is the first with a takedown written into a low body, leave what demand 3 asks.
abbrev pub Card7 : Type 0
Card7 =
    (high : Dom → Bool) (b b' : List ℕ) → masks (records_of b) ≡ masks (records_of b') → HighSet (records_of b) high → WithTakedown high (program_of b) (program_of b')
    → (frame : List ℕ) (budget budget' : ℕ) (log log' report report' work work' : List ℕ) → Runs b report work → Runs b' report' work'
    → SameLeft high (called b frame budget log report work) (called b' frame budget' log' report' work')
