-- A keep (card 6): its body begins, with a value kept; and its body's value comes back.
use Prim.Native.Nat.{ℕ, suc, ◌+◌, ◌-◌, ◌%◌, ◌≤◌, ◌<◌}
use native.Mathlib.Omega.{arith}
use mathlib.Core.Path.{◌≡◌, refl, sym, ap, ◌∙◌}
use mathlib.Core.Bool.{Bool, true, false}
use mathlib.Core.List.{[], ◌∷◌}
use lib.ListN.{length}
use lib.Dec.{leb}
use borrow.Author.Tests.{ne_eqb, leb-true, leb-false, le-leb, lt-leb}
use Rattle.calculus.specs.declared.Outcome.{Outcome}
use Rattle.calculus.specs.Combinators.{choose}
use Rattle.calculus.specs.Syntax.{Tm}
use Rattle.calculus.specs.Answer.{reduct}
use Rattle.calculus.specs.Place.{Place, framed}
use Rattle.calculus.specs.Limits.{label_limit, frame_limit}
use Rattle.closure_machine.specs.Closure.{CVal, CState, unload_val}
use Rattle.closure_machine.specs.Machine.{eval, ret, keep_r, keep_f, Stack, reduces, move}
use Rattle.vm_theory.specs.Code.{is_atom, atom_of}
use Rattle.vm_theory.specs.Conf.{Site, keep_a, Chain, Slots, base, kept_by, depth_at, dom_at, body, begin}
use Rattle.vm_theory.specs.Stands.{stack_at}
use Rattle.vm_theory.specs.Table.{to, is_atom_at}
use Rattle.vm_theory.proofs.Reach.{Reach, reach_moves, reach_go, reach_keep, redex_due, ends_spent, ends_deep}
use Rattle.vm_theory.proofs.Leads.{atom_leads, begin_leads}
use Rattle.vm_theory.proofs.Bound.{bound_tm, entry_bound_lem}
use Rattle.vm_theory.proofs.Places.{SiteInvariant, ChainInvariant, site_place}
use Rattle.vm_theory.proofs.Located.{Located, entry_points, describes}
use Rattle.vm_theory.proofs.Kept.{a_keep, Slot, IsChain, waits_kept, chain_kept}
use Rattle.vm_theory.proofs.Arrive.{entry_has}
use Rattle.vm_code.specs.Values.{tag_of, body_of}
use Rattle.vm_code.specs.Words.{field_c, depth_of, is_instruction, term_count}
use Rattle.vm_code.specs.Words as code
use Rattle.vm_theory.specs.Says.{SaysTarget}
use Rattle.vm_machine.specs.declared.Regs.{Regs}
use Rattle.vm_machine.specs.Registers.{fuel_bias, frame_slots, set_pc, set_env, set_frames, set_kept, stepped, halt}
use Rattle.vm_machine.specs.Memory.{Memory, word_at, above, slot_base, cell_base, kept_base, kept_at, entry_label, slot_in, slot_word, slot_env, slot_pc, slot_kind, keep_frame, put_keep, put_kept, binding_places}
use Rattle.vm_machine.specs.States.{State, with_regs, with_memory, judged, if_fuel, completed}
use Rattle.vm_machine.specs.Fetch.{code_at, atom_value}
use Rattle.vm_machine.specs.Reduce.{given}
use Rattle.vm_machine.specs.Stacks.{start_keep, leave_keep}
use Rattle.vm_machine_correct.proofs.Setup.{Setup}
use Rattle.vm_machine_correct.proofs.Relations.{Sizes, sizes, IsVal, val_like, val_at, val_grows, env_at, env_grows, Grows}
use Rattle.vm_machine_correct.proofs.Tables.{word_same, word_other, grows_put, grows_refl, grows_trans, above_put, slots_refl}
use Rattle.vm_machine_correct.proofs.Store.{Store, store_charged, store_kept}
use Rattle.vm_machine_correct.proofs.Views.{AsLabel, one_label, no_label, as_label}
use Rattle.vm_machine_correct.proofs.Keeping.{UnderLabel, AreKept, kept_below, kept_more, kept_fits}
use Rattle.vm_machine_correct.proofs.Slots.{slot_of, slot_word_lem, slot_same, FrameIs, Held, Back, held_kept, same_to}
use Rattle.vm_machine_correct.proofs.Simulation.{entry_ready, Common, InPlace, halted_stopped}
use Rattle.vm_machine_correct.proofs.Fetch.{atom_is}
use Rattle.vm_machine_correct.proofs.Arrives.{completed_now, instruction_of}
use Rattle.vm_machine_correct.proofs.Steps.{measure, After, after_halted, after_now, fits_in, step_falls, judged_now}
use Rattle.vm_machine_correct.proofs.Gives.{gives}
use Rattle.vm_machine_correct.proofs.Advice.{stack_depth}
use Rattle.vm_machine_correct.proofs.Listed.{no_value}

-- The parts of a keep's frame, and of the word of a kept value.
keep_frame_lem : (pc env : ℕ) → pc < term_count → env < binding_places → (slot_kind (slot_word keep_frame pc env 0) ≡ keep_frame) × (slot_pc (slot_word keep_frame pc env 0) ≡ pc) × (slot_env (slot_word keep_frame pc env 0) ≡ env)
keep_frame_lem pc env a b = (omega arith, omega arith, omega arith)

kept_word : (v l : ℕ) → l < label_limit → (entry_label (above v l) ≡ l) × (tag_of (above v l) ≡ tag_of v) × (body_of (above v l) ≡ body_of v)
kept_word v l h = (omega arith, omega arith, omega arith)

module _ (Θ : Setup) where
  module _ (S : State) (k : ℕ) (s : CState) (m : ℕ) (P : Site) (A : Chain) (D : Slots) (p : InPlace Θ S k s m P A D) (pc : S.regs.pc ≡ m) where
    abbrev M : Memory
    M = S.memory

    abbrev r : Regs
    r = S.regs

    abbrev z : Sizes
    z = sizes r

    abbrev w : ℕ
    w = code_at Θ.program m

    abbrev K : Stack
    K = stack_at P A D

    abbrev Progresses : State → Type 0
    Progresses S' = After Θ (measure S) S'

    st : Store Θ M S.log z s
    st = p.common.store

    small : m < term_count
    small = Θ.says.few m p.no_atom

    deep : depth_of w ≡ length P.skel
    deep = (Θ.says.around m p.no_atom).depth ∙ (describes Θ.linked p.located p.no_atom).depth

    -- The label's word x, the value's x', and the body f.
    module _ (x : ℕ) (v : CVal) (is : IsVal Θ M z x v) (x' : ℕ) (v' : CVal) (is' : IsVal Θ M z x' v') (f : ℕ) (target : SaysTarget Θ.table (field_c w) f)
        (located : Located Θ.linked f [] (dom_at P)) (reach : Reach Θ.sound k s (ret v') (keep_r v (Θ.table.term f) P.env ∷ K)) where
      abbrev e : Tm
      e = Θ.table.term f

      abbrev F : Stack
      F = keep_f v v' ∷ K

      at_body : Reach Θ.sound k s (eval e P.env) F
      at_body = reach_moves Θ.sound k s (ret v') (keep_r v e P.env ∷ K) reach (eval e P.env) F refl

      under : (l : UnderLabel v) × (body_of x % label_limit ≡ l.label)
      unfolding unload_val
      under = view (as_label Θ M z is) reach
        where
          view : {u : CVal} → AsLabel Θ M z x u → Reach Θ.sound k s (ret v') (keep_r u e P.env ∷ K) → (l : UnderLabel u) × (body_of x % label_limit ≡ l.label)
          view (one_label {l = l} t q) reach' = (record { label = l; is = refl }, q)
          view (no_label {v = u} n) reach' = absurd (reach_keep Θ.sound k s u v' e P.env K reach' n)

      -- No frame for the body.
      none_left : is_atom e ≡ false → r.frames ≤ depth_of w → Progresses (with_regs (halt Outcome.Frames r) S)
      none_left a h =
          after_halted
          (halted_stopped Outcome.Frames refl refl
          (ends_deep Θ.sound k s (eval e P.env) F at_body Θ.budget (r.fuel - fuel_bias) (omega (arith, p.common.budget, p.common.running)) (no_value e P.env a)
          (omega (arith, deep, p.frames, stack_depth P A D p.stood p.fine)))
          st p.common.used (omega (arith, p.common.budget, p.common.running))
          (fits_in M S.log (halt Outcome.Frames r) s st p.common.used (omega (arith, pc, small)) p.env_fits (omega (arith, p.frames, kept_fits Θ A p.kept))))

      -- The body begins, over the keep's activation frame.
      module _ (h : depth_of w < r.frames) where
        abbrev word : ℕ
        word = slot_word keep_frame r.pc r.env 0

        abbrev entry_word : ℕ
        entry_word = above x' (body_of x % label_limit)

        abbrev framed₁ : Memory
        framed₁ = put_keep r.frames (depth_of w + 1) r.pc r.env M

        abbrev kept₁ : Memory
        kept₁ = put_kept r.kept x' (body_of x % label_limit) framed₁

        abbrev A' : Chain
        A' = keep_a v v' P ∷ A

        within : suc (depth_at P A) ≤ frame_slots
        within = omega (arith, deep, p.frames)

        few : r.kept ≤ frame_limit
        few = omega (arith, kept_fits Θ A p.kept, p.frames)

        index : slot_in r.frames (depth_of w + 1) ≡ slot_base + frame_slots - suc (depth_at P A)
        index = omega (arith, deep, p.frames)

        here : slot_of kept₁ (suc (depth_at P A)) ≡ word
        here =
            slot_word_lem kept₁ (suc (depth_at P A)) (omega arith) ∙ word_other framed₁ (kept_base + r.kept) entry_word (slot_base + frame_slots - suc (depth_at P A)) (λ q. omega arith)
            ∙ ap (λ (i : ℕ). word_at framed₁ i) (sym index) ∙ word_same M (slot_in r.frames (depth_of w + 1)) word (omega (arith, index, st.words))

        elsewhere : (i : ℕ) → i ≤ depth_at P A → slot_of kept₁ i ≡ slot_of M i
        elsewhere i l =
            slot_same M kept₁ i
            (λ n. word_other framed₁ (kept_base + r.kept) entry_word (slot_base + frame_slots - i) (λ q. omega arith) ∙ word_other M (slot_in r.frames (depth_of w + 1)) word (slot_base + frame_slots - i) (λ q. omega (arith, index, within)))

        grows₁ : Grows M z framed₁ z
        grows₁ = grows_put M z (slot_in r.frames (depth_of w + 1)) word (omega (arith, index, within, st.counts.bindings_fit)) (λ i l q. omega (arith, index))

        grows : Grows M z kept₁ z
        grows = grows_trans grows₁ (grows_put framed₁ z (kept_base + r.kept) entry_word (omega (arith, st.counts.bindings_fit)) (λ i l q. omega (arith, st.counts.pieces_fit)))

        store₁ : Store Θ framed₁ S.log z s
        store₁ =
            store_charged Θ M S.log z s st framed₁ z.nb z.np s.used grows₁ (above_put M cell_base (slot_in r.frames (depth_of w + 1)) word (omega (arith, index))) st.beside
            st.counts.bindings_fit st.counts.pieces_fit

        entry_here : kept_at kept₁ r.kept ≡ entry_word
        entry_here = word_same framed₁ (kept_base + r.kept) entry_word (omega (arith, few, store₁.words))

        kept_now : AreKept Θ kept₁ z (r.kept + 1) (kept_by A')
        kept_now =
            let parts = kept_word x' (body_of x % label_limit) (omega arith) in
            kept_more Θ under.0 (ap entry_label entry_here ∙ parts.0 ∙ under.1)
            (val_at Θ kept₁ z entry_here (val_like Θ kept₁ z parts.1 parts.2 (val_grows Θ M z kept₁ z grows is')))
            (kept_below Θ grows
            (λ i l. word_other framed₁ (kept_base + r.kept) entry_word (kept_base + i) (λ q. omega arith) ∙ word_other M (slot_in r.frames (depth_of w + 1)) word (kept_base + i) (λ q. omega (arith, index))) p.kept)

        chain : IsChain Θ.linked (Held Θ kept₁ z) (Back Θ kept₁ z) D A'
        chain =
            let parts = keep_frame_lem r.pc r.env (omega (arith, pc, small)) p.env_fits in (
              record {
                number = m;
                no_atom = p.no_atom;
                located = p.located;
                says = (
                  record { kind = ap slot_kind here ∙ parts.0; pc = ap slot_pc here ∙ parts.1 ∙ pc; env = env_at Θ kept₁ z (ap slot_env here ∙ parts.2) (env_grows Θ M z kept₁ z grows p.env); fits = omega (arith, ap slot_env here ∙ parts.2, p.env_fits) },
                  under.0,
                );
                waiting =
                    waits_kept Θ.linked (Held Θ M z) (Back Θ M z) D (Held Θ kept₁ z) (Back Θ kept₁ z) D P.skel (base A)
                    (λ i l u y. held_kept Θ M z kept₁ z grows i (elsewhere i l) u y) (λ i l. refl) p.waits;
              },
              chain_kept Θ.linked (Held Θ M z) (Back Θ M z) D (Held Θ kept₁ z) (Back Θ kept₁ z) D A
                  (same_to Θ M z kept₁ z grows (base A) D D (λ i l. elsewhere i (omega arith)) (λ i l. refl) (λ i l. refl)) p.chain,
            )

        begins : (t : ℕ) → t ≡ Θ.table.entry f → is_atom e ≡ false → Progresses (with_memory kept₁ (set_pc t (set_kept (r.kept + 1) (set_frames (r.frames - (depth_of w + 1)) r))) S)
        begins t q a =
            let points = entry_points Θ.linked f [] (dom_at P) a located in
            let low : Θ.table.entry f < term_count = Θ.says.few (Θ.table.entry f) (instruction_of Θ points) in
            after_now {C = begin e (body P.env (dom_at P)) A' D}
            (record {
              common = record { budget = p.common.budget; running = p.common.running; store = store_kept Θ framed₁ S.log z s store₁ r.kept entry_word; used = p.common.used };
              good =
                  record {
                    runs = (begin_leads Θ.sound s e (body P.env (dom_at P)) A' D a).reached k at_body;
                    dom = refl;
                    bound = entry_bound_lem Θ.sound k s P.env e [] F a tt at_body;
                    fine = (p.stood, p.fine);
                  };
              target = to (Θ.table.entry f);
              pc = q;
              points = points;
              env = env_grows Θ M z kept₁ z grows p.env;
              env_fits = p.env_fits;
              frames = omega (arith, within, deep, p.frames);
              ready = entry_ready (IsVal Θ kept₁ z) r.acc CVal.unit _ _ e [] a;
              waits = entry_has Θ.linked (Held Θ kept₁ z) D (base A') e [] tt;
              chain = chain;
              kept = kept_now;
            })
            (omega (
              arith,
              ap (λ (i : Bool). choose i (frame_slots + 2) (r.frames - (depth_of w + 1) + 1)) (ne_eqb t code.return_pc (λ i. omega (arith, low))),
              ap (λ (i : Bool). choose i (frame_slots + 2) (r.frames + 1)) (ne_eqb r.pc code.return_pc (λ i. omega (arith, pc, small))),
            ))

      target_when : (b : Bool) → is_atom_at Θ.table f ≡ b → field_c w ≡ choose b f (term_count + Θ.table.entry f)
      target_when b a = rw (← a) target.0

      pub keep_now : Progresses (judged w S (start_keep Θ.program w x x' S))
      keep_now = try (is_atom e) refl
        where
          -- an atom is its value: the keep is finished
          atom_now : is_atom e ≡ true → Progresses (judged w S (if_fuel S (given w (atom_value Θ.program M r.env (code_at Θ.program f)) S)))
          atom_now a =
              let u : CVal = atom_of e P.env in
              judged_now (measure S) (if_fuel S (given w (atom_value Θ.program M r.env (code_at Θ.program f)) S))
              (record {
                place = p;
                pc = pc;
                reach = (atom_leads Θ.sound s e P.env F a).reached k at_body;
                is = ap (λ (X : Place). reduces (framed X (reduct s (ret u))) K) (site_place P A D p.stood.0 p.fine);
              })
              (λ R. gives R M S.log (stepped r) s
              (record { regs = record { env = refl; frames = refl; fuel = refl; pc = refl; kept = refl }; store = st; used = p.common.used; grows = grows_refl M z; slots = slots_refl M; keeps = λ i. refl }) (atom_value Θ.program M r.env (code_at Θ.program f)) u refl
              (atom_is Θ M z r.env P.env p.env p.env_fits f target.1 a located (bound_tm Θ.sound k s e P.env F at_body)))

          frames_now : is_atom e ≡ false → (t : ℕ) → t ≡ Θ.table.entry f → (b : Bool) → leb r.frames (depth_of w) ≡ b
              → Progresses (choose b (with_regs (halt Outcome.Frames r) S) (with_memory (put_kept r.kept x' (body_of x % label_limit) (put_keep r.frames (depth_of w + 1) r.pc r.env M)) (set_pc t (set_kept (r.kept + 1) (set_frames (r.frames - (depth_of w + 1)) r))) S))
          frames_now a t q true b = none_left a (leb-true r.frames (depth_of w) b)
          frames_now a t q false b = begins (leb-false r.frames (depth_of w) b) t q a

          try : (b : Bool) → is_atom e ≡ b → Progresses (judged w S (start_keep Θ.program w x x' S))
          try true a =
              let i : is_instruction (field_c w) ≡ false = lt-leb term_count (field_c w) (omega (arith, target_when true a, target.1)) in
              let j : field_c w % term_count ≡ f = omega (arith, target_when true a, target.1) in
              rw (i, j) (atom_now a)
          try false a =
              let low : Θ.table.entry f < term_count = Θ.says.few (Θ.table.entry f) (instruction_of Θ (entry_points Θ.linked f [] (dom_at P) a located)) in
              let i : is_instruction (field_c w) ≡ true = le-leb term_count (field_c w) (omega (arith, target_when false a)) in
              let j : field_c w % term_count ≡ Θ.table.entry f = omega (arith, target_when false a) in
              rw i (frames_now a (field_c w % term_count) j (leb r.frames (depth_of w)) refl)

  -- The body's value is the keep's, after a step at its place.
  module _ (S : State) (k : ℕ) (s : CState) (v : CVal) (P : Site) (A : Chain) (D : Slots) (u y : CVal) (f : ℕ) where
    pub leave_now : (i : ℕ) (slot : Slot Θ.linked (Held Θ S.memory (sizes S.regs)) (Back Θ S.memory (sizes S.regs)) D i (base A) (a_keep u y) P)
        → IsChain Θ.linked (Held Θ S.memory (sizes S.regs)) (Back Θ S.memory (sizes S.regs)) D A → SiteInvariant P A → ChainInvariant A
        → AreKept Θ S.memory (sizes S.regs) (S.regs.kept - 1) (kept_by A) → Common Θ S k s → IsVal Θ S.memory (sizes S.regs) S.regs.acc v
        → S.regs.env < binding_places → S.regs.pc ≡ code.return_pc → S.regs.frames + suc (depth_at P A) ≡ frame_slots → S.regs.kept + S.regs.frames ≤ frame_slots
        → FrameIs Θ S.memory (sizes S.regs) f keep_frame slot.number P.env → Reach Θ.sound k s (ret v) (keep_f u y ∷ stack_at P A D) → After Θ (measure S) (leave_keep Θ.program f S)
    leave_now i slot chain stood fine kept common is fits pc frames few F reach = rw F.pc (try (leb r.fuel fuel_bias) refl)
      where
        r : Regs
        r = S.regs

        m : ℕ
        m = slot.number

        w : ℕ
        w = code_at Θ.program slot.number

        K : Stack
        K = stack_at P A D

        deep : depth_of w ≡ length P.skel
        deep = (Θ.says.around m slot.no_atom).depth ∙ (describes Θ.linked slot.located slot.no_atom).depth

        moved : move (ret v) (keep_f u y ∷ K) Θ.given s ≡ reduces (reduct s (ret v)) K
        moved = redex_due K (reduct s (ret v)) (omega (arith, stack_depth P A D stood fine, frames))

        S' : State
        S' = with_regs (stepped (set_env (slot_env f) (set_frames (r.frames + (depth_of w + 1)) (set_kept (r.kept - 1) r)))) S

        there : fuel_bias < r.fuel → InPlace Θ S' (suc k) s m P A D
        there more =
            record {
              common = record { budget = omega (arith, common.budget); running = omega arith; store = common.store; used = common.used };
              no_atom = slot.no_atom;
              located = slot.located;
              stood = stood;
              fine = fine;
              env = F.env;
              env_fits = omega arith;
              frames = omega (arith, frames, deep);
              waits = slot.waiting;
              chain = chain;
              kept = kept;
            }

        try : (b : Bool) → leb r.fuel fuel_bias ≡ b → After Θ (measure S)
            (choose b (with_regs (halt Outcome.Spent r) S) (given w r.acc (with_regs (set_env (slot_env f) (set_frames (r.frames + (depth_of w + 1)) (set_kept (r.kept - 1) r))) S)))
        try true b =
            let l : r.fuel ≤ fuel_bias = leb-true r.fuel fuel_bias b in
            after_halted
            (halted_stopped Outcome.Spent refl refl
            (ends_spent Θ.sound k s (ret v) (keep_f u y ∷ K) reach Θ.budget 0 (omega (arith, common.budget, common.running)) refl (reduct s (ret v)) K moved refl) common.store common.used (omega (arith, common.budget, common.running))
            (fits_in S.memory S.log (halt Outcome.Spent r) s common.store common.used (omega (arith, pc)) fits few))
        try false b =
            let more : fuel_bias < r.fuel = leb-false r.fuel fuel_bias b in
            let on = completed_now Θ S' (suc k) s m P A D (there more) (omega (arith, frames)) r.acc v is (reach_go Θ.sound k s (ret v) (keep_f u y ∷ K) reach s (ret v) K moved) in
            after_now on (step_falls S (completed w r.acc S') (omega arith) (omega (arith, frames)) (omega (arith, on.frames)))
