-- An operand of a list, a child of a pointcut or an operand of a match (card 6), that is no atom: it begins as a body of its own over the frame of the list, or lacks a frame.
use Prim.Native.Nat.{ℕ, suc, ◌+◌, ◌-◌, ◌*◌, ◌≤◌, ◌<◌}
use native.Mathlib.Omega.{arith}
use mathlib.Core.Path.{◌≡◌, refl, sym, ap, ◌∙◌}
use mathlib.Core.Bool.{Bool, false, true≢false}
use mathlib.Core.List.{List, [], ◌∷◌}
use mathlib.Core.Option.{none}
use lib.ListN.{length, get_or, length-set}
use lib.Seq.{get_or-set_same, get_or-set_other}
use lib.Dec.{leb}
use borrow.Author.Tests.{leb-true, leb-false, ne_eqb}
use Rattle.calculus.proofs.Choices.{by_choice}
use Rattle.calculus.specs.declared.Outcome.{Outcome}
use Rattle.calculus.specs.Combinators.{choose}
use Rattle.calculus.specs.Syntax.{Tm, Tms, as_value, val, var, lam, op0, op1, op2, seq, ite, split, pcd, adv, lower, obj, keep, match}
use Rattle.closure_machine.specs.Closure.{CVal, Env, CState, close, unload_tm}
use Rattle.closure_machine.specs.Machine.{eval, OpN, op_nf, Stack}
use Rattle.vm_theory.specs.Code.{is_atom}
use Rattle.vm_theory.specs.Conf.{Site, many_a, Chain, Slots, base, depth_at, dom_at, body, begin}
use Rattle.vm_theory.specs.Stands.{stack_at}
use Rattle.vm_theory.specs.Table.{many_n, ManyN, to, In, is_atom_at}
use Rattle.vm_theory.proofs.Reach.{Reach, ends_deep}
use Rattle.vm_theory.proofs.Leads.{begin_leads}
use Rattle.vm_theory.proofs.Bound.{entry_bound_lem}
use Rattle.vm_theory.proofs.Located.{Located, l_listed, entry_points, describes}
use Rattle.vm_theory.proofs.Kept.{some_operands, IsChain, waits_kept, chain_kept}
use Rattle.vm_theory.proofs.Arrive.{entry_has}
use Rattle.vm_code.specs.Words.{depth_of, term_count}
use Rattle.vm_code.specs.Words as code
use Rattle.vm_machine.specs.declared.Regs.{Regs}
use Rattle.vm_machine.specs.Registers.{fuel_bias, frame_slots, set_pc, set_frames, halt}
use Rattle.vm_machine.specs.Memory.{Memory, kept_base, word_at, slot_base, cell_base, slot_in, slot_word, slot_kind, slot_pc, slot_env, slot_held, pointcut_frame, put_listed, binding_places}
use Rattle.vm_machine.specs.States.{State, with_regs, with_memory}
use Rattle.vm_machine.specs.Fetch.{code_at}
use Rattle.vm_machine.specs.Run.{turns_per_step}
use Rattle.vm_machine_correct.proofs.Setup.{Setup}
use Rattle.vm_machine_correct.proofs.Relations.{Sizes, sizes, IsVal, env_at, Grows, env_grows}
use Rattle.vm_machine_correct.proofs.Tables.{word_same, word_other, grows_put, above_put}
use Rattle.vm_machine_correct.proofs.Store.{Store, store_charged}
use Rattle.vm_machine_correct.proofs.Keeping.{kept_grows, kept_fits}
use Rattle.vm_machine_correct.proofs.Slots.{slot_of, byte_of, slot_word_lem, slot_same, FrameIs, Held, Back, held_kept, same_to}
use Rattle.vm_machine_correct.proofs.Simulation.{entry_ready, InPlace, halted_stopped}
use Rattle.vm_machine_correct.proofs.Arrives.{instruction_of}
use Rattle.vm_machine_correct.proofs.Steps.{After, after_halted, after_now, fits_in}
use Rattle.vm_machine_correct.proofs.Advice.{stack_depth}
use Rattle.calculus.specs.Limits.{frame_limit}

-- What is no atom is no value.
pub no_value : (e : Tm) (ρ : Env) → is_atom e ≡ false → as_value (unload_tm 0 ρ e) ≡ none
unfolding close
no_value (val v) ρ a = absurd (true≢false a)
no_value (var i) ρ a = absurd (true≢false a)
no_value (lam t b) ρ a = absurd (true≢false a)
no_value (op0 o t) ρ a = refl
no_value (op1 o t i) ρ a = refl
no_value (op2 o t i g) ρ a = refl
no_value (seq i g) ρ a = refl
no_value (ite i g j) ρ a = refl
no_value (split i g) ρ a = refl
no_value (pcd es) ρ a = refl
no_value (adv d i g) ρ a = refl
no_value (lower d i) ρ a = refl
no_value (obj t bs) ρ a = absurd (true≢false a)
no_value (keep i g j) ρ a = refl
no_value (match p es g j) ρ a = refl

-- The parts of such a frame.
listed_frame : (pc env h : ℕ) → pc < term_count → env < binding_places → (slot_kind (slot_word pointcut_frame pc env h) ≡ pointcut_frame) × (slot_pc (slot_word pointcut_frame pc env h) ≡ pc) × (slot_env (slot_word pointcut_frame pc env h) ≡ env) × (slot_held (slot_word pointcut_frame pc env h) ≡ h)
listed_frame pc env h a b = (omega arith, omega arith, omega arith, omega arith)

module _ (Θ : Setup) (S : State) (k : ℕ) (s : CState) (m : ℕ) (P : Site) (A : Chain) (D : Slots) (p : InPlace Θ S k s m P A D) (pc : S.regs.pc ≡ m) (b : ℕ)
    (bounded : turns_per_step * S.regs.fuel + (S.regs.frames + 1) ≤ b) where
  abbrev M : Memory
  M = S.memory

  abbrev r : Regs
  r = S.regs

  abbrev z : Sizes
  z = sizes r

  abbrev w : ℕ
  w = code_at Θ.program m

  abbrev K : Stack
  K = stack_at P A D

  abbrev Progresses : State → Type 0
  Progresses S' = After Θ b S'

  st : Store Θ M S.log z s
  st = p.common.store

  small : m < term_count
  small = Θ.says.few m p.no_atom

  deep : depth_of w ≡ length P.skel
  deep = (Θ.says.around m p.no_atom).depth ∙ (describes Θ.linked p.located p.no_atom).depth

  -- The operand y of the list xs; the frame's held number and byte say what is worked out and what is left.
  module _ (O : ManyN) (xs : List ℕ) (node : Θ.table.node m ≡ many_n O xs) (o : OpN) (vs : List CVal) (es : Tms) (y : ℕ) (a : is_atom_at Θ.table y ≡ false) (listed : In y xs)
      (reach : Reach Θ.sound k s (eval (Θ.table.term y) P.env) (op_nf o vs es P.env ∷ K)) (held byte : ℕ)
      (back : (M' : Memory) → Grows M z M' z → (i : ℕ) → FrameIs Θ M' z (slot_of M' i) pointcut_frame m P.env → slot_held (slot_of M' i) ≡ held → byte_of M' i ≡ byte → Back Θ M' z i (some_operands o vs es) m P.env) where
    abbrev F' : Stack
    F' = op_nf o vs es P.env ∷ K

    -- no frame for it
    none_left : r.frames ≤ depth_of w + 1 → Progresses (with_regs (halt Outcome.Frames r) S)
    none_left h =
        after_halted
        (halted_stopped Outcome.Frames refl refl
        (ends_deep Θ.sound k s (eval (Θ.table.term y) P.env) F' reach Θ.budget (r.fuel - fuel_bias) (omega (arith, p.common.budget, p.common.running)) (no_value (Θ.table.term y) P.env a)
        (omega (arith, deep, p.frames, stack_depth P A D p.stood p.fine)))
        st p.common.used (omega (arith, p.common.budget, p.common.running))
        (fits_in M S.log (halt Outcome.Frames r) s st p.common.used (omega (arith, pc, small)) p.env_fits (omega (arith, p.frames, kept_fits Θ A p.kept))))

    abbrev framed' : Memory
    framed' = put_listed r.frames (depth_of w + 1) m r.env held byte M

    -- a frame for it
    module _ (h : depth_of w + 1 < r.frames) where
      abbrev word : ℕ
      word = slot_word pointcut_frame m r.env held

      abbrev A' : Chain
      A' = many_a o vs es P ∷ A

      within : suc (depth_at P A) ≤ frame_limit
      within = omega (arith, deep, p.frames)

      index : slot_in r.frames (depth_of w + 1) ≡ slot_base + frame_slots - suc (depth_at P A)
      index = omega (arith, deep, p.frames)

      place : r.frames - (depth_of w + 1) ≡ frame_slots - suc (depth_at P A)
      place = omega (arith, deep, p.frames)

      here : slot_of framed' (suc (depth_at P A)) ≡ word
      here = slot_word_lem framed' (suc (depth_at P A)) (omega arith) ∙ ap (λ (i : ℕ). word_at framed' i) (sym index) ∙ word_same M (slot_in r.frames (depth_of w + 1)) word (omega (arith, index, st.words))

      byte_here : byte_of framed' (suc (depth_at P A)) ≡ byte
      byte_here = ap (λ (i : ℕ). get_or framed'.beside i 0) (sym place) ∙ get_or-set_same M.beside (r.frames - (depth_of w + 1)) byte 0 (omega (arith, st.beside, p.frames))

      elsewhere : (i : ℕ) → i ≤ depth_at P A → slot_of framed' i ≡ slot_of M i
      elsewhere i l = slot_same M framed' i (λ n. word_other M (slot_in r.frames (depth_of w + 1)) word (slot_base + frame_slots - i) (λ e. omega (arith, index, within)))

      byte_elsewhere : (i : ℕ) → i ≤ depth_at P A → byte_of framed' i ≡ byte_of M i
      byte_elsewhere i l = get_or-set_other M.beside (r.frames - (depth_of w + 1)) (frame_slots - i) byte 0 (λ e. omega (arith, place, within))

      grows : Grows M z framed' z
      grows =
          let g = grows_put M z (slot_in r.frames (depth_of w + 1)) word (omega (arith, index, within, st.counts.bindings_fit)) (λ i l e. omega (arith, index)) in
          record { more_bindings = g.more_bindings; more_pieces = g.more_pieces; bindings = g.bindings; firsts = g.firsts; seconds = g.seconds }

      stored : Store Θ framed' S.log z s
      stored =
          let u = above_put M cell_base (slot_in r.frames (depth_of w + 1)) word (omega (arith, index)) in
          store_charged Θ M S.log z s st framed' z.nb z.np s.used grows (record { words = u.words; kept = u.kept })
          (rw (length-set M.beside (r.frames - (depth_of w + 1)) byte) st.beside) st.counts.bindings_fit st.counts.pieces_fit

      chain : IsChain Θ.linked (Held Θ framed' z) (Back Θ framed' z) D A'
      chain =
          let parts = listed_frame m r.env held small p.env_fits in (
            record {
              number = m;
              no_atom = p.no_atom;
              located = p.located;
              says =
                  back framed' grows (suc (depth_at P A))
                  (record { kind = ap slot_kind here ∙ parts.0; pc = ap slot_pc here ∙ parts.1; env = env_at Θ framed' z (ap slot_env here ∙ parts.2) (env_grows Θ M z framed' z grows p.env); fits = omega (arith, ap slot_env here ∙ parts.2, p.env_fits) })
                  (ap slot_held here ∙ parts.3) byte_here;
              waiting =
                  waits_kept Θ.linked (Held Θ M z) (Back Θ M z) D (Held Θ framed' z) (Back Θ framed' z) D P.skel (base A)
                  (λ i l v x. held_kept Θ M z framed' z grows i (elsewhere i l) v x) (λ i l. refl) p.waits;
            },
            chain_kept Θ.linked (Held Θ M z) (Back Θ M z) D (Held Θ framed' z) (Back Θ framed' z) D A
                (same_to Θ M z framed' z grows (base A) D D (λ i l. elsewhere i (omega arith)) (λ i l. byte_elsewhere i (omega arith)) (λ i l. refl)) p.chain,
          )

      begins : (t : ℕ) → t ≡ Θ.table.entry y → Progresses (with_memory framed' (set_pc t (set_frames (r.frames - (depth_of w + 1)) r)) S)
      begins t e =
          let operand : Located Θ.linked y [] (dom_at P) = l_listed p.located node listed in
          let points = entry_points Θ.linked y [] (dom_at P) a operand in
          let low : Θ.table.entry y < term_count = Θ.says.few (Θ.table.entry y) (instruction_of Θ points) in
          after_now {C = begin (Θ.table.term y) (body P.env (dom_at P)) A' D}
          (record {
            common = record { budget = p.common.budget; running = p.common.running; store = stored; used = p.common.used };
            good =
                record {
                  runs = (begin_leads Θ.sound s (Θ.table.term y) (body P.env (dom_at P)) A' D a).reached k reach;
                  dom = refl;
                  bound = entry_bound_lem Θ.sound k s P.env (Θ.table.term y) [] F' a tt reach;
                  fine = (p.stood, p.fine);
                };
            target = to (Θ.table.entry y);
            pc = e;
            points = points;
            env = env_grows Θ M z framed' z grows p.env;
            env_fits = p.env_fits;
            frames = omega (arith, place, within, p.frames);
            ready = entry_ready (IsVal Θ framed' z) r.acc CVal.unit _ _ (Θ.table.term y) [] a;
            waits = entry_has Θ.linked (Held Θ framed' z) D (base A') (Θ.table.term y) [] tt;
            chain = chain;
            kept = kept_grows Θ grows (λ i. word_other M (slot_in r.frames (depth_of w + 1)) word (kept_base + i) (λ e. omega (arith, index))) p.kept;
          })
          (omega (arith, ap (λ (i : Bool). choose i (frame_slots + 2) (r.frames - (depth_of w + 1) + 1)) (ne_eqb t code.return_pc (λ i. omega (arith, low)))))

    pub operand_begins : (t : ℕ) → t ≡ Θ.table.entry y
        → Progresses (choose (leb r.frames (depth_of w + 1)) (with_regs (halt Outcome.Frames r) S) (with_memory framed' (set_pc t (set_frames (r.frames - (depth_of w + 1)) r)) S))
    operand_begins t e = by_choice Progresses (leb r.frames (depth_of w + 1))
        (λ q. none_left (leb-true r.frames (depth_of w + 1) q))
        λ q. begins (leb-false r.frames (depth_of w + 1) q) t e
