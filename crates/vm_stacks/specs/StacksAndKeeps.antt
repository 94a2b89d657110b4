-- Parts of the definitions of stacks and keeps (crate vm_machine, specs/Stacks.antt and specs/Turn.antt).
use Rattle.std.specs.Prelude.{ℕ, ◌+◌, ◌%◌, ◌≡◌, List}
use Rattle.calculus.specs.Limits.{label_limit}
use Rattle.vm_code.specs.Values.{body_of}
use Rattle.vm_code.specs.Words.{depth_of}
use Rattle.vm_machine.specs.declared.Regs.{Regs}
use Rattle.vm_machine.specs.Memory.{Memory, put_keep, put_kept}
use Rattle.vm_machine.specs.Stacks.{Stacked}
use Rattle.vm_memory.specs.View.{memory_of, Holds}

-- A stack in the making in a work area; and the work area w became w' with the tables of K, and v is its stack.
abbrev pub stacked_in : List ℕ → ℕ → Stacked
stacked_in w v = record { memory = memory_of w; value = v }

pub record Stacks (K : Stacked) (w w' : List ℕ) (v : ℕ) : Type 0 where
  pub memory : Holds K.memory w w'
  pub value : v ≡ K.value

-- The tables once the keep with word w has begun, with the value y under the label x.
abbrev pub keep_started : ℕ → ℕ → ℕ → Regs → Memory → Memory
keep_started w x y r M = put_kept r.kept y (body_of x % label_limit) (put_keep r.frames (depth_of w + 1) r.pc r.env M)
