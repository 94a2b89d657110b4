-- Parts of the definitions of matches (crate vm_machine, specs/Stacks.antt and specs/Turn.antt).
use Rattle.std.specs.Prelude.{ℕ, ◌+◌, ◌*◌, ◌%◌, ◌≡◌, Bool, not, ◌&&◌, List, take, drop, eqb, leb}
use Rattle.calculus.specs.Combinators.{choose}
use Rattle.image.specs.Bytes.{le16}
use Rattle.read_records.specs.Heads.{field_in}
use Rattle.vm_code.specs.Words.{offset_of, count_of, branch_place, other_place, term_count}
use Rattle.vm_code.specs.Classes.{is_atom}
use Rattle.vm_machine.specs.declared.Regs.{Regs}
use Rattle.vm_machine.specs.Registers.{set_pools, stepped}
use Rattle.vm_pools.specs.Pools.{whole, charge_bindings}
use Rattle.vm_machine.specs.Quotas.{quota_of}
use Rattle.vm_machine.specs.Memory.{Memory, piece_second, piece_of, is_kept, top_entry, entry_label, has_bit, held_stack}
use Rattle.vm_machine.specs.States.{State, with_regs, with_memory, if_fuel}
use Rattle.vm_machine.specs.Fetch.{Program, code_at, atom_value, called}
use Rattle.vm_machine.specs.Reduce.{if_bindings}
use Rattle.vm_machine.specs.Stacks.{Looked, Chained, entry_at, cut_term, binds_rest, unlooked, past_any, past_cut, looked_with, stack_to_come, variables, bind_inside, bind_entries}
use Rattle.vm_machine.specs.Turn.{begun_at}
use Rattle.vm_memory.specs.View.{memory_of, Holds}
use Rattle.vm_matches.specs.declared.Progress.{Progress}
use Rattle.vm_matches.specs.declared.Chain.{Chain}

-- The fields of a match with word w from its stack on, in the image b: the part that the word names; and its entry i among them.
abbrev pub match_fields : List ℕ → ℕ → List ℕ
match_fields b w = take (2 * (3 + count_of w + 1)) (drop (offset_of w) b)

abbrev pub entry_in : List ℕ → ℕ → ℕ
entry_in fs i = field_in fs (3 + i)

-- A match under way, as the machine has it.
abbrev pub looked_of : Progress → Looked
looked_of k = record { next = k.next; rest = k.rest; fits = k.fits }

-- Entry i is a pointcut that is no atom.
abbrev pub stops_at : Program → ℕ → ℕ → Bool
stops_at C w i = not (eqb (entry_at C w i) 0) && not (is_atom (code_at C (cut_term (entry_at C w i))))

-- The stack s has an entry, whose label the pointcut v names.
abbrev pub top_fits : Memory → ℕ → ℕ → Bool
top_fits M v s = is_kept s && has_bit (piece_second M (piece_of v)) (entry_label (top_entry M s))

-- Past the next entry.
abbrev pub past_entry : Program → Memory → ℕ → ℕ → Looked → Looked
past_entry C M env w k = let e : ℕ = entry_at C w k.next in choose (eqb e 0) (past_any M k) (past_cut M (atom_value C M env (code_at C (cut_term e))) k)

-- An operand has the value v: the match whose slot has the word f and the byte beside goes on with k.
pub record LookedAgain (M : Memory) (v f byte : ℕ) (k : Progress) : Type 0 where
  pub looked : looked_of k ≡ choose (leb stack_to_come byte) (unlooked v) (past_cut M v (looked_with M (held_stack f) byte))
  pub stack : k.stack ≡ choose (leb stack_to_come byte) v (held_stack f)

-- Bindings in the making in a work area; and the work area w became w' with the tables of B, as q says.
abbrev pub chain_in : List ℕ → Chain → Chained
chain_in w b = record { memory = memory_of w; count = b.count; env = b.env }

pub record Chains (B : Chained) (w w' : List ℕ) (q : Chain) : Type 0 where
  pub memory : Holds B.memory w w'
  pub count : q.count ≡ B.count
  pub env : q.env ≡ B.env

-- The binding of the entry e and that of the rest, where v is what is left of the stack.
abbrev pub entry_bound : ℕ → ℕ → Chained → Chained
entry_bound e v B = choose (eqb e 0) B (bind_inside (top_entry B.memory v) B)

abbrev pub rest_bound : Program → ℕ → ℕ → Chained → Chained
rest_bound C w v B = choose (binds_rest C w) (bind_inside v B) B

-- The two branches of a match with word w and the stack v.
abbrev pub first_branch : Program → ℕ → ℕ → State → State
first_branch C w v S =
    let r : Regs = S.regs in
    let c : ℕ = variables C w (count_of w) 0 in
    let B : Chained = bind_entries C w (count_of w) 0 v (record { memory = S.memory; count = whole r.pools.bindings; env = r.env }) in
    if_bindings w c S
    (called C w (begun_at C (le16 C.image (branch_place w) % term_count)) B.env (with_memory B.memory (set_pools (charge_bindings (quota_of w) c r.pools) (stepped r)) S))

abbrev pub other_branch : Program → ℕ → State → State
other_branch C w S =
    if_fuel S (called C w (begun_at C (le16 C.image (other_place w) % term_count)) S.regs.env (with_regs (stepped S.regs) S))
