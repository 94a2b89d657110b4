-- A keep begins and is left, by the tests that lead there.
use Prim.Native.Nat.{ℕ, ◌+◌, ◌-◌, ◌%◌, ◌≤◌, ◌<◌}
use native.Mathlib.Nat.{mod-eq_of_lt}
use mathlib.Core.Path.{◌≡◌, sym, ap, subst, ◌∙◌}
use mathlib.Core.List.{List}
use borrow.Author.Tests.{le-leb, lt-leb}
use Rattle.calculus.specs.declared.Outcome.{Outcome}
use Rattle.calculus.specs.Limits.{label_limit}
use Rattle.vm_code.specs.Values.{body_of}
use Rattle.vm_code.specs.Words.{field_c, depth_of, term_count}
use Rattle.vm_machine.specs.declared.Regs.{Regs}
use Rattle.vm_machine.specs.Registers.{fuel_bias, set_pc, set_env, set_frames, set_kept, halt}
use Rattle.vm_machine.specs.Memory.{put_keep, put_kept, slot_pc, slot_env}
use Rattle.vm_machine.specs.States.{State, with_regs, if_fuel}
use Rattle.vm_machine.specs.Fetch.{Program, code_at, atom_value}
use Rattle.vm_machine.specs.Reduce.{given}
use Rattle.vm_machine.specs.Stacks.{start_keep, leave_keep}
use Rattle.vm_memory.specs.View.{memory_of, Holds}
use Rattle.vm_memory.proofs.Chosen.{chosen_yes, chosen_no}
use Rattle.vm_registers.specs.Phases.{state_of, Phase}
use Rattle.vm_registers.proofs.Made.{as_phase, stored_made, regs_made}
use Rattle.vm_registers.proofs.Ended.{left_made, unpaid_left}
use Rattle.vm_stacks.specs.StacksAndKeeps.{keep_started}

-- The frame, then the value: d is the static depth, l the body of the label.
pub kept_stored : (a b c : List ℕ) (r : Regs) (w x y d l : ℕ) → d ≡ depth_of w → l ≡ body_of x → Holds (put_keep r.frames (d + 1) r.pc r.env (memory_of a)) a b → Holds (put_kept r.kept y (l % label_limit) (memory_of b)) b c
    → Holds (keep_started w x y r (memory_of a)) a c
kept_stored a b c r w x y d l e f g h =
    record {
      memory =
          h.memory
          ∙ ap (put_kept r.kept y (l % label_limit)) (g.memory ∙ ap (λ (i : ℕ). put_keep r.frames (i + 1) r.pc r.env (memory_of a)) e)
          ∙ ap (λ (i : ℕ). put_kept r.kept y (i % label_limit) (put_keep r.frames (depth_of w + 1) r.pc r.env (memory_of a))) f;
      rest = h.rest ∙ g.rest;
    }

-- The registers once the body has begun: d is the static depth.
pub body_begun : (r s : Regs) (w d t : ℕ) → s ≡ r → d ≡ depth_of w → set_pc t (set_kept (r.kept + 1) (set_frames (r.frames - (d + 1)) s)) ≡ set_pc t (set_kept (r.kept + 1) (set_frames (r.frames - (depth_of w + 1)) r))
body_begun r s w d t same depth = ap (λ (z : Regs). set_pc t (set_kept (r.kept + 1) (set_frames (r.frames - (d + 1)) z))) same ∙ ap (λ (z : ℕ). set_pc t (set_kept (r.kept + 1) (set_frames (r.frames - (z + 1)) r))) depth

-- A keep begins: g is the target of its body.
module _ (C : Program) (a b : List ℕ) (r q : Regs) (w x y g : ℕ) (target : g ≡ field_c w) where
  -- its body has an instruction
  pub keep_body : term_count ≤ g → q ≡ set_pc (g % term_count) (set_kept (r.kept + 1) (set_frames (r.frames - (depth_of w + 1)) r)) → Holds (keep_started w x y r (memory_of a)) a b → Phase (start_keep C w x y) a b r q
  keep_body h e held =
      stored_made (start_keep C w x y) (keep_started w x y r (memory_of a)) a b r q (set_pc (field_c w % term_count) (set_kept (r.kept + 1) (set_frames (r.frames - (depth_of w + 1)) r)))
      (λ log. sym (chosen_yes _ _ _ (le-leb term_count (field_c w) (subst (term_count ≤◌) target h))))
      (e ∙ ap (λ (i : ℕ). set_pc (i % term_count) (set_kept (r.kept + 1) (set_frames (r.frames - (depth_of w + 1)) r))) target) held

  -- its body is an atom
  pub keep_atom : g < term_count → Phase (λ S. if_fuel S (given w (atom_value C S.memory S.regs.env (code_at C g)) S)) a b r q → Phase (start_keep C w x y) a b r q
  keep_atom h p =
      let low : field_c w < term_count = subst (◌< term_count) target h in
      let at : g ≡ field_c w % term_count = target ∙ sym (mod-eq_of_lt low) in
      as_phase (λ S. if_fuel S (given w (atom_value C S.memory S.regs.env (code_at C g)) S)) (start_keep C w x y) a b r q
      (λ log. ap (λ (i : ℕ). if_fuel (state_of a log r) (given w (atom_value C (memory_of a) r.env (code_at C i)) (state_of a log r))) at ∙ sym (chosen_no _ _ _ (lt-leb term_count (field_c w) low))) p

-- A keep whose body is the atom v is finished with its step.
module _ (a b : List ℕ) (r q : Regs) (w : ℕ) (f : State → ℕ) where
  pub atom_given : fuel_bias < r.fuel → (v : ℕ) → ((log : List ℕ) → v ≡ f (state_of a log r)) → Phase (given w v) a b r q → Phase (λ S. if_fuel S (given w (f S) S)) a b r q
  atom_given l v e p =
      left_made (λ S. given w (f S) S) a b r q l (as_phase (given w v) (λ S. given w (f S) S) a b r q (λ log. ap (λ (i : ℕ). given w i (state_of a log r)) (e log)) p)

  pub atom_spent : r.fuel ≤ fuel_bias → q ≡ halt Outcome.Spent r → Phase (λ S. if_fuel S (given w (f S) S)) a a r q
  atom_spent l e = regs_made (λ S. if_fuel S (given w (f S) S)) a r q (halt Outcome.Spent r) (λ log. unpaid_left (state_of a log r) _ l) e

-- A keep is finished.
module _ (C : Program) (a b : List ℕ) (r q : Regs) (f : ℕ) where
  abbrev back : ℕ → Regs → Regs
  back w p = set_env (slot_env f) (set_frames (p.frames + (depth_of w + 1)) (set_kept (p.kept - 1) p))

  pub keep_left : (s : Regs) (t w d k env : ℕ) → fuel_bias < r.fuel → t ≡ slot_pc f → w ≡ code_at C t → s ≡ r → d ≡ depth_of w → k ≡ r.kept - 1 → env ≡ slot_env f
      → Phase (given w r.acc) a b (set_env env (set_frames (r.frames + (d + 1)) (set_kept k s))) q → Phase (leave_keep C f) a b r q
  keep_left s t w d k env l at word same depth less outer p =
      let W : ℕ = code_at C (slot_pc f) in
      let e : w ≡ W = word ∙ ap (code_at C) at in
      let m : set_env env (set_frames (r.frames + (d + 1)) (set_kept k s)) ≡ back w r =
      ap (λ (z : Regs). set_env env (set_frames (r.frames + (d + 1)) (set_kept k z))) same
      ∙ ap (λ (z : ℕ). set_env env (set_frames (r.frames + (z + 1)) (set_kept k r))) depth
      ∙ ap (λ (z : ℕ). set_env env (set_frames (r.frames + (depth_of w + 1)) (set_kept z r))) less
      ∙ ap (λ (z : ℕ). set_env z (set_frames (r.frames + (depth_of w + 1)) (set_kept (r.kept - 1) r))) outer in
      let P : Phase (given w r.acc) a b (back w r) q = subst (λ (z : Regs). Phase (given w r.acc) a b z q) m p in
      let N : Phase (given W r.acc) a b (back W r) q = subst (λ (z : ℕ). Phase (given z r.acc) a b (back z r) q) e P in
      left_made (λ S. given W S.regs.acc (with_regs (back W S.regs) S)) a b r q l (record { represents = λ log. N.represents log })

  pub keep_spent : r.fuel ≤ fuel_bias → q ≡ halt Outcome.Spent r → Phase (leave_keep C f) a a r q
  keep_spent l e = regs_made (leave_keep C f) a r q (halt Outcome.Spent r) (λ log. unpaid_left (state_of a log r) _ l) e
