-- A pointcut is begun or resumed, by the tests that lead there.
use Prim.Native.Nat.{ℕ, zero, suc, ◌+◌, ◌-◌, ◌/◌, ◌%◌, ◌≤◌, ◌<◌}
use native.Mathlib.Omega.{arith}
use mathlib.Core.Path.{◌≡◌, refl, sym, ap, ap₂, subst, ◌∙◌}
use mathlib.Core.Bool.{Bool, true, false, not, false≢true}
use mathlib.Core.List.{List}
use lib.ListN.{set}
use lib.Dec.{eqb, leb}
use borrow.Author.Tests.{le-leb, lt-leb, not-true, not-false}
use Rattle.calculus.specs.declared.Outcome.{Outcome}
use Rattle.calculus.specs.Combinators.{choose}
use Rattle.calculus.specs.Limits.{label_limit}
use Rattle.vm_code.specs.Values.{pointcut_tag}
use Rattle.vm_code.specs.Words.{class_of, depth_of, count_of, term_count, return_pc}
use Rattle.vm_code.specs.Classes.{pointcut_class}
use Rattle.vm_machine.specs.declared.Regs.{Regs}
use Rattle.vm_machine.specs.Registers.{frame_slots, set_pc, set_env, set_frames, halt, stuck}
use Rattle.vm_machine.specs.Memory.{Memory, slot_pc, digit_count, no_digits, label_set, put_word, pointcut_frame, slot_word, slot_in, put_listed, put_digits, binding_places, held_size}
use Rattle.vm_machine.specs.States.{State, with_regs, judged}
use Rattle.vm_machine.specs.Fetch.{Program, code_at}
use Rattle.vm_machine.specs.Reduce.{new_piece}
use Rattle.vm_machine.specs.Turn.{Taken, child_at, entry_from, take_labels, labels_from, begin_labels, resume_labels}
use Rattle.vm_memory.specs.View.{memory_of, Holds}
use Rattle.vm_memory.proofs.Chosen.{chosen_yes, chosen_no}
use Rattle.vm_registers.specs.Phases.{state_of, Represents, Phase}
use Rattle.vm_registers.proofs.Made.{as_phase, stored_made, regs_made}
use Rattle.vm_labels.specs.declared.Part.{Part}
use Rattle.vm_labels.specs.PointcutChildren.{FramesAfter, child_begun, part_of, resumes_other, labelled}

-- There are at most n of n digits.
pub few_digits : (n d : ℕ) → digit_count n d ≤ n
unfolding digit_count
few_digits zero d = omega arith
few_digits (suc n) d = try (leb d no_digits) (few_digits n (d / label_limit))
  where
    try : (b : Bool) → digit_count n (d / label_limit) ≤ n → choose b 0 (suc (digit_count n (d / label_limit))) ≤ suc n
    try true h = omega arith
    try false h = omega arith

-- The instruction with word w, d terms deep in its body, makes its step f, or lacks a frame.
module _ (f : State → State) (a b : List ℕ) (r q : Regs) (w d : ℕ) (k : d ≡ depth_of w) where
  pub judged_frames : r.frames ≤ d → q ≡ halt Outcome.Frames r → Phase (λ S. judged w S (f S)) a a r q
  judged_frames l e =
      regs_made (λ S. judged w S (f S)) a r q (halt Outcome.Frames r) (λ log. sym (chosen_yes _ _ _ (le-leb r.frames (depth_of w) (omega arith)))) e

  pub judged_made : d < r.frames → Phase f a b r q → Phase (λ S. judged w S (f S)) a b r q
  judged_made l p = as_phase f (λ S. judged w S (f S)) a b r q (λ log. sym (chosen_no _ _ _ (lt-leb r.frames (depth_of w) (omega arith)))) p

-- The pointcut with word w and n children is made; s is the set of its labels.
pub pointcut_as : (a b : List ℕ) (r q : Regs) (w n s digits : ℕ) → n ≡ count_of w → s ≡ label_set n digits 0 → Phase (new_piece w pointcut_tag 0 s) a b r q
    → Phase (new_piece w pointcut_tag 0 (label_set (count_of w) digits 0)) a b r q
pointcut_as a b r q w n s digits e d p = subst (λ (x : ℕ). Phase (new_piece w pointcut_tag 0 x) a b r q) (d ∙ ap (λ i. label_set i digits 0) e) p

-- The frame of a body with m places of room, made from inside or from around it.
pub listed_around : (a b : List ℕ) (frames d m pc env held byte : ℕ) → m ≡ frames - d → d < frames → Holds (put_listed (m + 1) 1 pc env held byte (memory_of a)) a b → Holds (put_listed frames d pc env held byte (memory_of a)) a b
listed_around a b frames d m pc env held byte e h H =
    let M : Memory = memory_of a in
    let put : ℕ → ℕ → Memory = λ i j. (let N : Memory = put_word i (slot_word pointcut_frame pc env held) M in record { words = N.words; beside = set N.beside j byte }) in
    let i : slot_in (m + 1) 1 ≡ slot_in frames d = omega arith in
    let j : m + 1 - 1 ≡ frames - d = omega arith in
    subst (λ (N : Memory). Holds N a b) (ap₂ put i j) H

-- A child is begun under d unfinished terms: m is the room of its body.
pub child_made : (C : Program) (a b : List ℕ) (r s : Regs) (w m d x e : ℕ) (k : Taken) → s ≡ r → d ≡ depth_of w → m ≡ r.frames - (d + 1) → d + 1 < r.frames → x ≡ child_at C w k.count → e ≡ entry_from term_count C x
    → Holds (put_digits (m + 1) 1 r.pc r.env k.digits (memory_of a)) a b → Phase (child_begun C r.pc w k) a b r (set_pc e (set_frames m s))
child_made C a b r s w m d x e k same depth frames h child entry held =
    let M : Memory = memory_of a in
    let n : m ≡ r.frames - (depth_of w + 1) = omega arith in
    let f : Regs → ℕ → ℕ → Regs = λ p y z. set_pc z (set_frames y p) in
    stored_made (child_begun C r.pc w k) (put_digits r.frames (depth_of w + 1) r.pc r.env k.digits M) a b r (set_pc e (set_frames m s))
    (set_pc (entry_from term_count C (child_at C w k.count)) (set_frames (r.frames - (depth_of w + 1)) r)) (λ log. refl)
    (ap (λ p. f p m e) same ∙ ap₂ (f r) n (entry ∙ ap (entry_from term_count C) child)) (listed_around a b r.frames (depth_of w + 1) m r.pc r.env (k.digits % held_size) (k.digits / held_size % 256) n (omega arith) held)

-- The children of pointcut t, from child i on: those that are atoms are taken, k.
module _ (C : Program) (a b : List ℕ) (r q : Regs) (t i d w : ℕ) (word : w ≡ code_at C t) (k : Taken) (taken : k ≡ take_labels C (memory_of a) r.env w (count_of w - i) i d) (n : ℕ) (count : n ≡ count_of w) where
  abbrev make : State → State
  make S = judged w S (new_piece w pointcut_tag 0 (label_set (count_of w) k.digits 0) S)

  abbrev by : ℕ → Taken → State → State
  by u x S =
      choose (leb (count_of u) x.count) (judged u S (new_piece u pointcut_tag 0 (label_set (count_of u) x.digits 0) S))
      (choose (leb S.regs.frames (depth_of u + 1)) (with_regs (halt Outcome.Frames S.regs) S) (child_begun C t u x S))

  known : (log : List ℕ) → by w k (state_of a log r) ≡ labels_from C t i d (state_of a log r)
  known log = ap (λ x. by w x (state_of a log r)) taken ∙ ap (λ u. by u (take_labels C (memory_of a) r.env u (count_of u - i) i d) (state_of a log r)) word

  all_by : n ≤ k.count → (log : List ℕ) → make (state_of a log r) ≡ labels_from C t i d (state_of a log r)
  all_by h log = sym (chosen_yes _ _ _ (le-leb (count_of w) k.count (omega arith))) ∙ known log

  pub all_done : n ≤ k.count → Phase make a b r q → Phase (labels_from C t i d) a b r q
  all_done h p = as_phase make (labels_from C t i d) a b r q (all_by h) p

  module _ (more : k.count < n) (m : ℕ) (depth : m ≡ depth_of w) where
    more_by : (log : List ℕ) → choose (leb r.frames (depth_of w + 1)) (with_regs (halt Outcome.Frames r) (state_of a log r)) (child_begun C t w k (state_of a log r)) ≡ labels_from C t i d (state_of a log r)
    more_by log = sym (chosen_no _ _ _ (lt-leb (count_of w) k.count (omega arith))) ∙ known log

    pub no_capacity : r.frames ≤ m + 1 → q ≡ halt Outcome.Frames r → Phase (labels_from C t i d) a a r q
    no_capacity h e = regs_made (labels_from C t i d) a r q (halt Outcome.Frames r) (λ log. (sym (chosen_yes _ _ _ (le-leb r.frames (depth_of w + 1) (omega arith))) ∙ more_by log)) e

    pub one_begun : m + 1 < r.frames → Phase (child_begun C t w k) a b r q → Phase (labels_from C t i d) a b r q
    one_begun h p = as_phase (child_begun C t w k) (labels_from C t i d) a b r q (λ log. (sym (chosen_no _ _ _ (lt-leb r.frames (depth_of w + 1) (omega arith))) ∙ more_by log)) p

module _ (C : Program) (M : Memory) (f : ℕ) (r : Regs) (p : Part) where
  pub part_pc : (resumed : Bool) → p ≡ part_of C M resumed f r → r.pc ≤ return_pc → p.pc ≤ return_pc
  part_pc true e h = rw e (omega arith)
  part_pc false e h = rw e h

  pub part_env : (resumed : Bool) → p ≡ part_of C M resumed f r → r.env < binding_places → p.env < binding_places
  part_env true e h = rw e (omega arith)
  part_env false e h = rw e h

  pub part_frames : (resumed : Bool) → p ≡ part_of C M resumed f r → r.frames ≤ frame_slots → (resumed ≡ true → r.frames < frame_slots) → p.frames ≤ frame_slots + depth_of (code_at C p.pc)
  part_frames true e h k = let l = k refl in rw e (omega arith)
  part_frames false e h k = rw e (omega arith)

-- What is resumed is a pointcut, or not.
module _ (C : Program) (a b : List ℕ) (r q : Regs) (f : ℕ) (p : Part) where
  -- The registers where its children go on.
  abbrev moved : Regs → Regs
  moved s = set_pc p.pc (set_env p.env (set_frames p.frames s))

  abbrev onward : State → State
  onward = labels_from C p.pc p.done.count p.done.digits

  resumed_class : (x : Bool) → p ≡ part_of C (memory_of a) true f r → resumes_other true (code_at C p.pc) ≡ x → not (eqb (class_of (code_at C (slot_pc f))) pointcut_class) ≡ x
  resumed_class x e n = ap (λ (y : Part). not (eqb (class_of (code_at C y.pc)) pointcut_class)) (sym e) ∙ n

  by_part : (y : Part) → p ≡ y → (log : List ℕ) → onward (state_of a log (moved r)) ≡ labels_from C y.pc y.done.count y.done.digits (state_of a log (set_pc y.pc (set_env y.env (set_frames y.frames r))))
  by_part y e log = ap (λ (x : Part). labels_from C x.pc x.done.count x.done.digits (state_of a log (set_pc x.pc (set_env x.env (set_frames x.frames r))))) e

  on_by : (resumed : Bool) → p ≡ part_of C (memory_of a) resumed f r → resumes_other resumed (code_at C p.pc) ≡ false → (log : List ℕ) → onward (state_of a log (moved r)) ≡ labelled C resumed f (state_of a log r)
  unfolding begin_labels resume_labels
  on_by true e n log =
      let t : eqb (class_of (code_at C (slot_pc f))) pointcut_class ≡ true = not-false _ (resumed_class false e n) in
      by_part (part_of C (memory_of a) true f r) e log ∙ sym (chosen_yes _ _ (with_regs (stuck r) (state_of a log r)) t)
  on_by false e n log = by_part (part_of C (memory_of a) false f r) e log

  module _ (resumed : Bool) (part : p ≡ part_of C (memory_of a) resumed f r) (s : Regs) (same : s ≡ r) (n : resumes_other resumed (code_at C p.pc) ≡ false) where
    pub labelled_on : Phase onward a b (moved s) q → Phase (labelled C resumed f) a b r q
    labelled_on h =
        let k : Phase onward a b (moved r) q = subst (λ (x : Regs). Phase onward a b (moved x) q) same h in
        record { represents = λ log. subst (λ (S : State). Represents S a b log q) (on_by resumed part n log) (k.represents log) }

    pub frames_on : FramesAfter (labelled C resumed f) a r → FramesAfter onward a (moved s)
    frames_on h =
        subst (λ (x : Regs). FramesAfter onward a (moved x)) (sym same) (h.0, subst (λ (S : State). S.regs.frames ≤ frame_slots) (sym (on_by resumed part n h.0)) h.1)

  pub resumes_other_stuck : (resumed : Bool) → p ≡ part_of C (memory_of a) resumed f r → resumes_other resumed (code_at C p.pc) ≡ true → q ≡ stuck r → Phase (labelled C resumed f) a a r q
  unfolding resume_labels
  resumes_other_stuck true e n h =
      let t : eqb (class_of (code_at C (slot_pc f))) pointcut_class ≡ false = not-true _ (resumed_class true e n) in
      regs_made (labelled C true f) a r q (stuck r) (λ log. rw t) h
  resumes_other_stuck false e n h = absurd (false≢true n)
