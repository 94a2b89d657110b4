-- Card 6 of document 02, beside demand 3: "In two runs as in demand 3, the branches taken by matches at high current domains, in order, agree as far as the shorter list goes."
-- Branches stand neither in the log nor in the report, so the claim is about the runs that the two calls make: of each, its trace.
use Rattle.std.specs.Prelude.{ℕ, Bool, List}
use Rattle.calculus.specs.Syntax.{Dom}
use Rattle.calculus_noninterference.specs.Observe.{high_branches, CutEqual}
use Rattle.call_spec.specs.Runs.{run_of}
use Rattle.demands.specs.Calls.{Runs}
use Rattle.demands.specs.Compare.{Compared}

abbrev pub Card6 : Type 0
Card6 =
    (high : Dom → Bool) (b b' : List ℕ) → Compared high b b'
    → (frame : List ℕ) (budget budget' : ℕ) (log log' report report' work work' : List ℕ) → Runs b report work → Runs b' report' work'
    → CutEqual (high_branches high (run_of b frame budget log)) (high_branches high (run_of b' frame budget' log'))
