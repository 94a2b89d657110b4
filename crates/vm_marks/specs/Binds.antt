-- What a loop over installed advice writes into the lent work area, and how many there are of it: bindings (document 01, "A run": mark makes "one for each matching advice"), by halves (card 9), or the advice that stays (card 7).
use Rattle.std.specs.Prelude.{◌≡◌, ℕ, List}
use Rattle.vm_machine.specs.Reduce.{Bound}
use Rattle.vm_memory.specs.View.{memory_of, Holds}

-- The tables in a work area, with such a count.
abbrev pub bound_in : {N : Type 0} → List ℕ → N → Bound N
bound_in w n = record { memory = memory_of w; count = n }

-- The work area w became w': it has the tables of B; n is the count.
pub record Binds {N : Type 0} (B : Bound N) (w w' : List ℕ) (n : N) : Type 0 where
  pub memory : Holds B.memory w w'
  pub count : n ≡ B.count
