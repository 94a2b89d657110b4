-- What the slots hold: values that wait, and activation frames; and that this holds on where deeper slots are written.
use Prim.Native.Nat.{ℕ, suc, ◌+◌, ◌-◌, ◌*◌, ◌≤◌, ◌<◌}
use native.Mathlib.Omega.{arith}
use mathlib.Core.Path.{◌≡◌, refl, sym, ap, ◌∙◌}
use mathlib.Core.Bool.{Bool, true, false, true≢false}
use mathlib.Core.List.{List, [], ◌∷◌, map, reverse}
use mathlib.Core.Option.{none, some}
use lib.ListN.{length, get_or, drop}
use lib.Dec.{eqb}
use borrow.Author.Tests.{ne_eqb, eqb-false}
use Rattle.calculus.specs.Combinators.{choose}
use Rattle.calculus.specs.Syntax.{Tm, Tms, Pattern, pointcut}
use Rattle.closure_machine.specs.Closure.{CVal, Env}
use Rattle.closure_machine.specs.Machine.{pcd_n, match_n}
use Rattle.vm_theory.specs.Code.{one_b, first_b, second_b, Skel, waits}
use Rattle.vm_theory.specs.Conf.{Slots}
use Rattle.vm_theory.specs.Table.{many_n, pcd_m, match_m, terms_of}
use Rattle.vm_theory.proofs.Kept.{Kept, a_call, one_advice, a_rest, some_operands, a_keep, Waits, SameTo, waits_kept}
use Rattle.vm_machine.specs.Registers.{frame_slots}
use Rattle.vm_machine.specs.Memory.{Memory, word_at, slot_base, call_frame, advice_frame, pointcut_frame, keep_frame, slot_env, slot_pc, slot_kind, slot_held, held_stack, next_binding, end_binding, binding_places, held_size}
use Rattle.vm_machine.specs.Stacks.{stack_to_come}
use Rattle.vm_code.specs.Words.{count_size}
use Rattle.vm_machine_correct.proofs.Setup.{Setup}
use Rattle.vm_machine_correct.proofs.Relations.{Sizes, IsVal, IsEnv, env_at, val_at, IsTriggered, Grows, val_grows, env_grows, triggered_grows}
use Rattle.vm_machine_correct.proofs.Labels.{Labels, digits_of}
use Rattle.vm_machine_correct.proofs.Keeping.{UnderLabel}
use Rattle.vm_machine_correct.proofs.Looking.{Looked}

-- The word of the slot inside i unfinished terms, and the byte beside it. Outside of all there is no slot.
abbrev pub slot_of : Memory → ℕ → ℕ
slot_of M i = choose (eqb i 0) 0 (word_at M (slot_base + frame_slots - i))

pub slot_word_lem : (M : Memory) (i : ℕ) → 0 < i → slot_of M i ≡ word_at M (slot_base + frame_slots - i)
slot_word_lem M i h = rw (ne_eqb i 0 (λ e. omega arith))

pub slot_same : (M M' : Memory) (i : ℕ) → (0 < i → word_at M' (slot_base + frame_slots - i) ≡ word_at M (slot_base + frame_slots - i)) → slot_of M' i ≡ slot_of M i
slot_same M M' i h = try (eqb i 0) refl
  where
    try : (b : Bool) → eqb i 0 ≡ b → choose b 0 (word_at M' (slot_base + frame_slots - i)) ≡ choose b 0 (word_at M (slot_base + frame_slots - i))
    try true p = refl
    try false p = h (omega (arith, eqb-false i 0 p))

abbrev pub byte_of : Memory → ℕ → ℕ
byte_of M i = get_or M.beside (frame_slots - i) 0

module _ (Θ : Setup) where
  -- An activation frame's word says what kind of activation waits, at which instruction and in which environment.
  pub record FrameIs (M : Memory) (z : Sizes) (f c m : ℕ) (ρ : Env) : Type 0 where
    pub kind : slot_kind f ≡ c
    pub pc : slot_pc f ≡ m
    pub env : IsEnv Θ M z (slot_env f) ρ
    pub fits : slot_env f < binding_places

  -- Of a pointcut: its children; the labels of those that are done, latest first; and those that are left after the one that is worked out.
  pub record LabelsAre (f byte m : ℕ) (vs : List CVal) (es : Tms) : Type 0 where
    pub children : List ℕ
    pub node : Θ.table.node m ≡ many_n pcd_m children
    pub done : List ℕ
    pub labels : Labels done
    pub are : vs ≡ map CVal.label done
    pub fewer : length done < length children
    pub digits : slot_held f + held_size * byte ≡ digits_of done
    pub remaining : es ≡ terms_of Θ.table (drop (suc (length done)) children)

  -- Of a match (card 6): its operand that is worked out is its stack; or the stack is held, and it is a pointcut.
  pub data MatchIs (M : Memory) (z : Sizes) (f byte m : ℕ) (p : Pattern) (e g : Tm) (vs : List CVal) (es : Tms) : Type 0 where
    stack_to_come_lem : {b o x : ℕ} {cuts : List ℕ} → Θ.table.node m ≡ many_n (match_m p b o) (x ∷ cuts) → Θ.table.term b ≡ e → Θ.table.term o ≡ g → byte ≡ stack_to_come → vs ≡ [] → es ≡ terms_of Θ.table cuts → MatchIs M z f byte m p e g vs es
    entries_looked : {b o x n : ℕ} {cuts : List ℕ} {k₀ k : CVal} {us : List CVal} {q : Pattern} {t : Bool} → Θ.table.node m ≡ many_n (match_m p b o) (x ∷ cuts) → Θ.table.term b ≡ e → Θ.table.term o ≡ g → IsVal Θ M z (held_stack f) k₀
        → Looked p k₀ n us (pointcut q) k t → n < 8 → byte ≡ n + choose t count_size 0 → reverse vs ≡ k₀ ∷ us → es ≡ terms_of Θ.table (drop (suc (length us)) cuts) → MatchIs M z f byte m p e g vs es

  module _ (M : Memory) (z : Sizes) where
    abbrev pub Held : ℕ → CVal → Type 0
    Held i v = IsVal Θ M z (slot_of M i) v

    abbrev pub Back : ℕ → Kept → ℕ → Env → Type 0
    Back i a_call m ρ = FrameIs M z (slot_of M i) call_frame m ρ
    Back i (one_advice w x) m ρ = FrameIs M z (slot_of M i) advice_frame m ρ × IsTriggered Θ M z (next_binding (slot_of M i)) (end_binding (slot_of M i)) w x
    Back i (a_rest w x) m ρ = ⊥
    Back i (some_operands pcd_n vs es) m ρ = FrameIs M z (slot_of M i) pointcut_frame m ρ × LabelsAre (slot_of M i) (byte_of M i) m vs es
    Back i (some_operands (match_n p e g) vs es) m ρ = FrameIs M z (slot_of M i) pointcut_frame m ρ × MatchIs M z (slot_of M i) (byte_of M i) m p e g vs es
    Back i (a_keep u w) m ρ = FrameIs M z (slot_of M i) keep_frame m ρ × UnderLabel u

  module _ (M : Memory) (z : Sizes) (M' : Memory) (z' : Sizes) (g : Grows M z M' z') where
    frame_kept : {f f' kind m : ℕ} {ρ : Env} → f' ≡ f → FrameIs M z f kind m ρ → FrameIs M' z' f' kind m ρ
    frame_kept p h = record { kind = ap slot_kind p ∙ h.kind; pc = ap slot_pc p ∙ h.pc; env = env_at Θ M' z' (ap slot_env p) (env_grows Θ M z M' z' g h.env); fits = rw p h.fits }

    labels_kept : {f f' b b' m : ℕ} {vs : List CVal} {es : Tms} → f' ≡ f → b' ≡ b → LabelsAre f b m vs es → LabelsAre f' b' m vs es
    labels_kept p q h = rw (p, q) h

    match_kept : {f f' b b' m : ℕ} {p : Pattern} {x y : Tm} {vs : List CVal} {es : Tms} → f' ≡ f → b' ≡ b → MatchIs M z f b m p x y vs es → MatchIs M' z' f' b' m p x y vs es
    match_kept e g' (stack_to_come_lem n i j b v c) = stack_to_come_lem n i j (g' ∙ b) v c
    match_kept e g' (entries_looked n j k i l s b v c) = entries_looked n j k (val_at Θ M' z' (ap held_stack e) (val_grows Θ M z M' z' g i)) l s (g' ∙ b) v c

    triggered_kept : {f f' : ℕ} {w : CVal} {x : List _} → f' ≡ f → IsTriggered Θ M z (next_binding f) (end_binding f) w x → IsTriggered Θ M' z' (next_binding f') (end_binding f') w x
    triggered_kept p h = rw p (triggered_grows Θ M z M' z' g h)

    back_kept : (i : ℕ) → slot_of M' i ≡ slot_of M i → byte_of M' i ≡ byte_of M i → (κ : Kept) (m : ℕ) (ρ : Env) → Back M z i κ m ρ → Back M' z' i κ m ρ
    back_kept i p q a_call m ρ h = frame_kept p h
    back_kept i p q (one_advice w x) m ρ h = (frame_kept p h.0, triggered_kept p h.1)
    back_kept i p q (a_rest w x) m ρ h = h
    back_kept i p q (some_operands pcd_n vs es) m ρ h = (frame_kept p h.0, labels_kept p q h.1)
    back_kept i p q (some_operands (match_n t e f) vs es) m ρ h = (frame_kept p h.0, match_kept p q h.1)
    back_kept i p q (a_keep u w) m ρ h = (frame_kept p h.0, h.1)

    pub held_kept : (i : ℕ) → slot_of M' i ≡ slot_of M i → (v : CVal) → Held M z i v → Held M' z' i v
    held_kept i p v h = val_at Θ M' z' p (val_grows Θ M z M' z' g h)

    -- The slots up to n stay.
    pub same_to : (n : ℕ) (N N' : Slots) → ((i : ℕ) → i ≤ n → slot_of M' i ≡ slot_of M i) → ((i : ℕ) → i ≤ n → byte_of M' i ≡ byte_of M i) → ((i : ℕ) → i ≤ n → N' i ≡ N i)
        → SameTo Θ.linked n (Held M z) (Back M z) N (Held M' z') (Back M' z') N'
    same_to n N N' a b c =
        record { values = λ i h v x. held_kept i (a i h) v x; slots = c; returns = λ i h κ m ρ x. back_kept i (a i h) (b i h) κ m ρ x }

    -- What waits stays, where only the slot of the place itself is written and the value there was not one of them.
    pub waits_put : (σ : Skel) (d : ℕ) (N N' : Slots) → waits σ ≡ true → ((i : ℕ) → i < length σ + d → slot_of M' i ≡ slot_of M i) → ((i : ℕ) → i < length σ + d → N' i ≡ N i)
        → Waits Θ.linked (Held M z) N σ d → Waits Θ.linked (Held M' z') N' σ d
    waits_put [] d N N' p a c w = tt
    waits_put (one_b H ∷ σ) d N N' p a c w = absurd (true≢false (sym p))
    waits_put (first_b H y ∷ σ) d N N' p a c w =
        waits_kept Θ.linked (Held M z) (Back M z) N (Held M' z') (Back M' z') N' σ d (λ i h v x. held_kept i (a i (omega arith)) v x) (λ i h. c i (omega arith)) w
    waits_put (second_b H none ∷ σ) d N N' p a c w = absurd (true≢false (sym p))
    waits_put (second_b H (some y) ∷ σ) d N N' p a c w = absurd (true≢false (sym p))
