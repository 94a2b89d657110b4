-- A match is made, and its operands begin and are worked out, by the tests that lead there.
use Prim.Native.Nat.{ℕ, ◌+◌, ◌-◌, ◌/◌, ◌%◌, ◌≤◌, ◌<◌}
use native.Mathlib.Omega.{arith}
use mathlib.Core.Path.{◌≡◌, refl, sym, ap, subst, ◌∙◌}
use mathlib.Core.Bool.{Bool, true, false, not}
use mathlib.Core.List.{List}
use lib.ListN.{get_or}
use lib.Dec.{leb}
use borrow.Author.Tests.{le-leb, lt-leb, lt-ltb, le-ltb, not-true, not-false}
use Rattle.calculus.specs.declared.Outcome.{Outcome}
use Rattle.calculus.specs.Limits.{binding_limit}
use Rattle.calculus.specs.Combinators.{choose}
use Rattle.calculus.specs.Report.{outcome_number}
use Rattle.image.specs.Bytes.{le16}
use Rattle.vm_code.specs.Values.{unit_value}
use Rattle.vm_code.specs.Words.{class_of, depth_of, count_of, offset_of, branch_place, other_place, is_instruction, term_count}
use Rattle.vm_code.specs.Classes.{first_instruction, is_atom}
use Rattle.vm_pools.specs.declared.Pools.{Pools}
use Rattle.vm_machine.specs.declared.Regs.{Regs}
use Rattle.vm_machine.specs.Registers.{fuel_bias, frame_slots, set_pc, set_env, set_frames, set_fuel, halt_with, halt, stepped}
use Rattle.vm_pools.specs.Pools.{whole, charge_bindings, has_capacity, bindings_out}
use Rattle.vm_machine.specs.Quotas.{quota_of}
use Rattle.vm_machine.specs.Memory.{binding_places, slot_pc, slot_env, put_match, held_stack, beside_at_of}
use Rattle.vm_machine.specs.States.{State, with_regs, judged}
use Rattle.vm_machine.specs.Fetch.{Program, code_at, atom_value, called}
use Rattle.vm_machine.specs.Stacks.{Looked, Chained, entry_at, cut_term, unlooked, past_cut, look_on, looked_byte, looked_with, stack_to_come, matches, variables, bind_entries}
use Rattle.vm_machine.specs.Turn.{entry_from, begun_at, begin_operand, reduce_match, entries_from, begin_match, resume_match}
use Rattle.vm_machine.specs.Fits.{PoolFits}
use Rattle.vm_memory.specs.View.{memory_of, Holds}
use Rattle.vm_memory.proofs.Chosen.{chosen_yes, chosen_no}
use Rattle.vm_registers.specs.Phases.{state_of, Phase}
use Rattle.vm_registers.proofs.Made.{as_phase, stored_made, regs_made, then_set, set_either}
use Rattle.vm_registers.proofs.Ended.{left_made, unpaid_left}
use Rattle.vm_registers.proofs.Quotas.{quota_made, quota_full, quota_spent}
use Rattle.vm_reductions.proofs.Reduced.{counted, stored_called, bindings_charged}
use Rattle.vm_labels.proofs.Labelling.{listed_around}
use Rattle.vm_matches.specs.declared.Progress.{Progress}
use Rattle.vm_matches.specs.declared.Chain.{Chain}
use Rattle.vm_matches.specs.Matching.{looked_of, LookedAgain, Chains, first_branch, other_branch}
use Rattle.vm_matches.specs.Operands.{Matchable, FramesOf}

-- The first branch of a match with word w and the stack v: m variables are bound, which the half h has room for or not (card 9).
module _ (C : Program) (a b c : List ℕ) (r q : Regs) (w v m : ℕ) (count : m ≡ variables C w (count_of w) 0) (h t : Bool) (is : h ≡ quota_of w) (test : t ≡ has_capacity binding_limit h m r.pools.bindings) where
  -- The bindings, from place n on.
  abbrev bounds : ℕ → Chained
  bounds n = bind_entries C w (count_of w) 0 v (record { memory = memory_of a; count = n; env = r.env })

  abbrev first : ℕ
  first = begun_at C (le16 C.image (branch_place w) % term_count)

  abbrev bindable : ℕ
  bindable = variables C w (count_of w) 0

  tested : t ≡ has_capacity binding_limit h bindable r.pools.bindings
  tested = test ∙ ap (λ (x : ℕ). has_capacity binding_limit h x r.pools.bindings) count

  pub branch_made : fuel_bias < r.fuel → (n g o : ℕ) (x : Chain) (s : Pools) → not t ≡ false → n ≡ whole r.pools.bindings → s ≡ charge_bindings h m r.pools → Chains (bounds n) a b x → o ≡ branch_place w → g ≡ begun_at C (le16 C.image o % term_count) → Phase (called C w g x.env) b c r q
      → Phase (first_branch C w v) a c r (counted s (r.fuel - 1) q)
  branch_made l n g o x s k d i B at e p =
      let D : Chains (bounds (whole r.pools.bindings)) a b x = subst (λ (z : ℕ). Chains (bounds z) a b x) d B in
      bindings_charged (first_branch C w v) a c r q w bindable (r.fuel - 1) h s is (i ∙ ap (λ (z : ℕ). charge_bindings h z r.pools) count)
      (quota_made binding_limit bindable (λ p. p.bindings) bindings_out w r h t is tested _ a _ c l (not-false t k)
      (stored_called C _ _ a b c r q w g first x.env _ _ _ (e ∙ ap (λ (z : ℕ). begun_at C (le16 C.image z % term_count)) at) D.env (λ log. refl) D.memory p))

  pub branch_full : (o : ℕ) → not t ≡ true → o ≡ outcome_number (bindings_out h) → q ≡ halt_with o r.fuel r → Phase (first_branch C w v) a a r q
  branch_full o k = quota_full binding_limit bindable (λ p. p.bindings) bindings_out w r h t is tested _ a q o (not-true t k)

  pub branch_spent : r.fuel ≤ fuel_bias → not t ≡ false → q ≡ halt Outcome.Spent r → Phase (first_branch C w v) a a r q
  branch_spent l k = quota_spent binding_limit bindable (λ p. p.bindings) bindings_out w r h t is tested _ a q l (not-false t k)

-- The other branch, and which one is taken.
module _ (C : Program) (a b : List ℕ) (r q : Regs) (w : ℕ) where
  abbrev other : ℕ
  other = begun_at C (le16 C.image (other_place w) % term_count)

  pub other_made : fuel_bias < r.fuel → (g o : ℕ) → o ≡ other_place w → g ≡ begun_at C (le16 C.image o % term_count) → Phase (called C w g r.env) a b r q → Phase (other_branch C w) a b r (set_fuel (r.fuel - 1) q)
  other_made l g o at e p =
      let P : Phase (called C w other r.env) a b r q = subst (λ (z : ℕ). Phase (called C w z r.env) a b r q) (e ∙ ap (λ (z : ℕ). begun_at C (le16 C.image z % term_count)) at) p in
      left_made (λ S. called C w other S.regs.env (with_regs (stepped S.regs) S)) a b r _ l
      (as_phase _ (λ S. called C w other S.regs.env (with_regs (stepped S.regs) S)) a b r _ (λ log. set_either (set_fuel (r.fuel - 1)) (is_instruction other) _ _) (then_set (called C w other r.env) (set_fuel (r.fuel - 1)) a b r q P))

  pub other_spent : r.fuel ≤ fuel_bias → q ≡ halt Outcome.Spent r → Phase (other_branch C w) a a r q
  other_spent l e = regs_made (other_branch C w) a r q (halt Outcome.Spent r) (λ log. unpaid_left (state_of a log r) _ l) e

  module _ (v : ℕ) (k : Looked) (t : Bool) (is : t ≡ matches C w k) where
    pub matched : t ≡ true → Phase (first_branch C w v) a b r q → Phase (reduce_match C w v k) a b r q
    unfolding reduce_match
    matched e p = as_phase (first_branch C w v) (reduce_match C w v k) a b r q (λ log. sym (chosen_yes _ _ _ (sym is ∙ e))) p

    pub not_matched : t ≡ false → Phase (other_branch C w) a b r q → Phase (reduce_match C w v k) a b r q
    unfolding reduce_match
    not_matched e p = as_phase (other_branch C w) (reduce_match C w v k) a b r q (λ log. sym (chosen_no _ _ _ (sym is ∙ e))) p

-- An operand begins under d unfinished terms: m is the room of its body.
module _ (C : Program) (a b : List ℕ) (r q : Regs) (x v byte d : ℕ) (depth : d ≡ depth_of (code_at C r.pc)) where
  pub operand_framed : r.frames ≤ d + 1 → q ≡ halt Outcome.Frames r → Phase (begin_operand C r.pc x v byte) a a r q
  operand_framed h e =
      regs_made (begin_operand C r.pc x v byte) a r q (halt Outcome.Frames r) (λ log. sym (chosen_yes _ _ _ (le-leb r.frames (depth_of (code_at C r.pc) + 1) (omega arith)))) e

  pub operand_begun : (s : Regs) (m e : ℕ) → s ≡ r → m ≡ r.frames - (d + 1) → d + 1 < r.frames → e ≡ entry_from term_count C x → Holds (put_match (m + 1) 1 r.pc r.env v byte (memory_of a)) a b
      → Phase (begin_operand C r.pc x v byte) a b r (set_pc e (set_frames m s))
  operand_begun s m e same frames h entry held =
      let D : ℕ = depth_of (code_at C r.pc) + 1 in
      let n : m ≡ r.frames - D = omega arith in
      stored_made (begin_operand C r.pc x v byte) (put_match r.frames D r.pc r.env v byte (memory_of a)) a b r (set_pc e (set_frames m s)) (set_pc (entry_from term_count C x) (set_frames (r.frames - D) r))
      (λ log. sym (chosen_no _ _ _ (lt-leb r.frames D (omega arith))))
      (ap (λ (p : Regs). set_pc e (set_frames m p)) same ∙ ap (λ (p : ℕ). set_pc e (set_frames p r)) n ∙ ap (λ (p : ℕ). set_pc p (set_frames (r.frames - D) r)) entry) (listed_around a b r.frames D m r.pc r.env (v / 268435456) byte n (omega arith) held)

-- The entries of match t with the stack v, from where it was left: those that can be looked at are, k.
module _ (C : Program) (a b : List ℕ) (r q : Regs) (t v w : ℕ) (word : w ≡ code_at C t) (from k : Looked) (looked : k ≡ look_on C (memory_of a) r.env w (count_of w - from.next) from) (n : ℕ) (count : n ≡ count_of w) where
  abbrev by : ℕ → Looked → State → State
  by u j S = choose (leb (count_of u) j.next) (judged u S (reduce_match C u v j S)) (begin_operand C t (cut_term (entry_at C u j.next)) v (looked_byte j) S)

  known : (log : List ℕ) → by w k (state_of a log r) ≡ entries_from C t v from (state_of a log r)
  known log = ap (λ (j : Looked). by w j (state_of a log r)) looked ∙ ap (λ (u : ℕ). by u (look_on C (memory_of a) r.env u (count_of u - from.next) from) (state_of a log r)) word

  pub entries_done : (u : ℕ) → u ≡ v → n ≤ k.next → Phase (λ S. judged w S (reduce_match C w u k S)) a b r q → Phase (entries_from C t v from) a b r q
  entries_done u e h p =
      as_phase (λ S. judged w S (reduce_match C w v k S)) (entries_from C t v from) a b r q (λ log. sym (chosen_yes _ _ _ (le-leb (count_of w) k.next (omega arith))) ∙ known log)
      (subst (λ (z : ℕ). Phase (λ S. judged w S (reduce_match C w z k S)) a b r q) e p)

  pub entries_on : (u e x byte : ℕ) → u ≡ v → k.next < n → e ≡ entry_at C w k.next → x ≡ cut_term e → byte ≡ looked_byte k → Phase (begin_operand C t x u byte) a b r q → Phase (entries_from C t v from) a b r q
  entries_on u e x byte d h i j l p =
      let P : Phase (begin_operand C t x v byte) a b r q = subst (λ (z : ℕ). Phase (begin_operand C t x z byte) a b r q) d p in
      let Q : Phase (begin_operand C t (cut_term (entry_at C w k.next)) v byte) a b r q = subst (λ (z : ℕ). Phase (begin_operand C t z v byte) a b r q) (j ∙ ap cut_term i) P in
      as_phase (begin_operand C t (cut_term (entry_at C w k.next)) v (looked_byte k)) (entries_from C t v from) a b r q (λ log. sym (chosen_no _ _ _ (lt-leb (count_of w) k.next (omega arith))) ∙ known log)
      (subst (λ (z : ℕ). Phase (begin_operand C t (cut_term (entry_at C w k.next)) v z) a b r q) l Q)

-- A match with word w begins: x is its stack's term, and c the class of that one's word.
module _ (C : Program) (a b : List ℕ) (r q : Regs) (w x c : ℕ) (word : w ≡ code_at C r.pc) (stack : x ≡ le16 C.image (offset_of w + 0) % term_count) (class : c ≡ class_of (code_at C x)) where
  abbrev term : ℕ
  term = le16 C.image (offset_of (code_at C r.pc)) % term_count

  is_term : x ≡ term
  is_term = let z : offset_of w + 0 ≡ offset_of w = omega arith in stack ∙ ap (λ (o : ℕ). le16 C.image o % term_count) (z ∙ ap offset_of word)

  pub match_atom : (v : ℕ) (k : Progress) → c < first_instruction → v ≡ atom_value C (memory_of a) r.env (code_at C x) → looked_of k ≡ unlooked v → k.stack ≡ v → Phase (entries_from C r.pc k.stack (looked_of k)) a b r q → Phase (begin_match C) a b r q
  unfolding begin_match
  match_atom v k h e d s p =
      let u : v ≡ atom_value C (memory_of a) r.env (code_at C term) = e ∙ ap (λ (z : ℕ). atom_value C (memory_of a) r.env (code_at C z)) is_term in
      let z : is_atom (code_at C term) ≡ true = ap (λ (y : ℕ). is_atom (code_at C y)) (sym is_term) ∙ lt-ltb (class_of (code_at C x)) first_instruction (subst (◌< first_instruction) class h) in
      let P : Phase (entries_from C r.pc v (unlooked v)) a b r q = subst (λ (y : ℕ). Phase (entries_from C r.pc y (unlooked v)) a b r q) s (subst (λ (y : Looked). Phase (entries_from C r.pc k.stack y) a b r q) d p) in
      as_phase (entries_from C r.pc v (unlooked v)) (begin_match C) a b r q (λ log. ap (λ (y : ℕ). entries_from C r.pc y (unlooked y) (state_of a log r)) u ∙ sym (chosen_yes _ _ _ z)) P

  pub match_operand : first_instruction ≤ c → Phase (begin_operand C r.pc x unit_value stack_to_come) a b r q → Phase (begin_match C) a b r q
  unfolding begin_match
  match_operand h p =
      let z : is_atom (code_at C term) ≡ false = ap (λ (y : ℕ). is_atom (code_at C y)) (sym is_term) ∙ le-ltb (class_of (code_at C x)) first_instruction (subst (first_instruction ≤◌) class h) in
      as_phase (begin_operand C r.pc x unit_value stack_to_come) (begin_match C) a b r q (λ log. ap (λ (y : ℕ). begin_operand C r.pc y unit_value stack_to_come (state_of a log r)) is_term ∙ sym (chosen_no _ _ _ z)) p

-- A match that is resumed: its registers.
pub still_matchable : (code work : List ℕ) (r s : Regs) (f t env d : ℕ) → Matchable code work r → r.frames < frame_slots → t ≡ slot_pc f → s ≡ r → d ≡ depth_of (get_or code t 0)
    → Matchable code work (set_pc t (set_env (env % binding_places) (set_frames (r.frames + (d + 1)) s))) × FramesOf code (set_pc t (set_env (env % binding_places) (set_frames (r.frames + (d + 1)) s)))
still_matchable code work r s f t env d M h at same depth =
    (record { coded = M.coded; long = M.long; pc = omega arith; env = omega arith; frames = omega arith; bindings = subst (λ (z : Regs). PoolFits binding_limit z.pools.bindings) (sym same) M.bindings }, omega arith)

by_both : (t : Bool) (F : ℕ → Looked → State) (x y : ℕ) (X Y : Looked) → F (choose t x y) (choose t X Y) ≡ choose t (F x X) (F y Y)
by_both true F x y X Y = refl
by_both false F x y X Y = refl

-- An operand of a match is worked out: f is the word of its slot, which has the byte beside.
pub match_resumed : (C : Program) (a b : List ℕ) (r q s : Regs) (f byte t d env : ℕ) (k : Progress) → byte ≡ beside_at_of (memory_of a) r.frames → LookedAgain (memory_of a) r.acc f byte k → t ≡ slot_pc f → s ≡ r → d ≡ depth_of (code_at C t) → env ≡ slot_env f
    → Phase (entries_from C t k.stack (looked_of k)) a b (set_pc t (set_env (env % binding_places) (set_frames (r.frames + (d + 1)) s))) q → Phase (resume_match C f) a b r q
unfolding resume_match
match_resumed C a b r q s f byte t d env k beside again at same depth outer p =
    let R : ℕ → Regs = λ z. set_pc z (set_env (slot_env f % binding_places) (set_frames (r.frames + (depth_of (code_at C z) + 1)) r)) in
    let e : set_pc t (set_env (env % binding_places) (set_frames (r.frames + (d + 1)) s)) ≡ R t =
    ap (λ (z : Regs). set_pc t (set_env (env % binding_places) (set_frames (r.frames + (d + 1)) z))) same
    ∙ ap (λ (z : ℕ). set_pc t (set_env (env % binding_places) (set_frames (r.frames + (z + 1)) r))) depth
    ∙ ap (λ (z : ℕ). set_pc t (set_env (z % binding_places) (set_frames (r.frames + (depth_of (code_at C t) + 1)) r))) outer in
    let F : ℕ → ℕ → Looked → List ℕ → State = λ z y L log. entries_from C z y L (state_of a log (R z)) in
    let X : ℕ → Looked = λ z. past_cut (memory_of a) r.acc (looked_with (memory_of a) (held_stack f) z) in
    let B : ℕ = beside_at_of (memory_of a) r.frames in
    let g : (log : List ℕ) → F t k.stack (looked_of k) log ≡ resume_match C f (state_of a log r) =
    λ log. ap (λ (z : ℕ). F z k.stack (looked_of k) log) at
    ∙ ap (λ (z : ℕ). F (slot_pc f) z (looked_of k) log) again.stack
    ∙ ap (λ (z : Looked). F (slot_pc f) (choose (leb stack_to_come byte) r.acc (held_stack f)) z log) again.looked
    ∙ ap (λ (z : ℕ). F (slot_pc f) (choose (leb stack_to_come z) r.acc (held_stack f)) (choose (leb stack_to_come z) (unlooked r.acc) (X z)) log) beside
    ∙ by_both (leb stack_to_come B) (λ (y : ℕ) (L : Looked). F (slot_pc f) y L log) r.acc (held_stack f) (unlooked r.acc) (X B) in
    let P : Phase (entries_from C t k.stack (looked_of k)) a b (R t) q = subst (λ (z : Regs). Phase (entries_from C t k.stack (looked_of k)) a b z q) e p in
    as_phase (λ S. entries_from C t k.stack (looked_of k) (with_regs (R t) S)) (resume_match C f) a b r q g (record { represents = λ log. P.represents log })
