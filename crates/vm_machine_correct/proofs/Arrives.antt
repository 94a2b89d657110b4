-- An instruction ends: its value is complete, its place goes on with another term, or a body is called. The machine stands where threaded code goes on.
use Prim.Native.Nat.{ℕ, suc, ◌+◌, ◌-◌, ◌%◌, ◌≤◌, ◌<◌}
use native.Mathlib.Omega.{arith}
use mathlib.Core.Path.{◌≡◌, refl, sym, ap, subst, ◌∙◌}
use mathlib.Core.Bool.{Bool, true, false, true≢false}
use mathlib.Core.List.{[], ◌∷◌}
use mathlib.Core.Option.{none, some}
use lib.ListN.{length}
use lib.Dec.{eqb}
use borrow.Author.Tests.{eqb-true, eqb-false, eq-eqb, ne_eqb, le-leb, lt-leb}
use Rattle.calculus.specs.Combinators.{choose}
use Rattle.calculus.specs.Syntax.{Dom, Tm}
use Rattle.closure_machine.specs.Closure.{CVal, Env, CState}
use Rattle.closure_machine.specs.Machine.{eval, ret}
use Rattle.vm_theory.specs.Code.{one_b, first_b, second_b, Skel, is_atom, atom_of, Pc, entry, next, waits, two, acc, in_place_term}
use Rattle.vm_theory.specs.Conf.{Site, call_a, Chain, Slots, Conf, put, base, kept_by, depth_at, dom_at, body, complete, begin, goto, waiting, enter}
use Rattle.vm_theory.specs.Stands.{stack_at}
use Rattle.vm_theory.specs.Table.{to, is_atom_at}
use Rattle.vm_theory.proofs.Reach.{Reach}
use Rattle.vm_theory.proofs.Leads.{atom_leads}
use Rattle.vm_theory.proofs.Bound.{BoundTm, bound_tm}
use Rattle.vm_theory.proofs.Invariant.{Invariant, complete_good, goto_good, enter_good}
use Rattle.vm_theory.proofs.Slots.{put_same, put_other}
use Rattle.vm_theory.proofs.Debt.{paid_none}
use Rattle.vm_theory.proofs.Located.{Located, Points, p_to, entry_points, Describes, describes}
use Rattle.vm_theory.proofs.Kept.{Waits, IsChain, a_call, chain_kept, call_kept}
use Rattle.vm_theory.proofs.Arrive.{entry_has, paid_has}
use Rattle.vm_code.specs.Values.{tag_of, body_of}
use Rattle.vm_code.specs.Words.{depth_of, next_of, waiting_ending, is_instruction, term_count}
use Rattle.vm_theory.specs.Says.{ending_with, SaysAround, target_at, SaysTarget}
use Rattle.vm_machine.specs.declared.Regs.{Regs}
use Rattle.vm_machine.specs.Registers.{frame_slots, set_pc, set_acc, set_env, set_frames}
use Rattle.vm_machine.specs.Memory.{Memory, word_at, above, slot_base, cell_base, kept_base, kept_at, slot_in, slot_word, slot_env, slot_pc, slot_kind, slot_held, call_frame, put_waiting, put_return, binding_places}
use Rattle.vm_machine.specs.States.{State, with_memory, completed}
use Rattle.vm_machine.specs.Fetch.{code_at, atom_value, gone_to, called}
use Rattle.vm_machine_correct.proofs.Setup.{Setup}
use Rattle.vm_machine_correct.proofs.Relations.{Sizes, sizes, IsBody, IsVal, val_like, val_at, IsEnv, env_at, Grows, val_grows, env_grows}
use Rattle.vm_machine_correct.proofs.Tables.{word_same, word_other, grows_put, grows_refl, above_put}
use Rattle.vm_machine_correct.proofs.Store.{Store, store_charged}
use Rattle.vm_machine_correct.proofs.Keeping.{AreKept, kept_grows}
use Rattle.vm_machine_correct.proofs.Slots.{slot_of, slot_word_lem, slot_same, Held, Back, held_kept, same_to, waits_put}
use Rattle.vm_machine_correct.proofs.Simulation.{ReadyFor, entry_ready, InPlace, Simulates}
use Rattle.vm_machine_correct.proofs.Fetch.{atom_is}

waiting_tests : (b : Bool) → eqb (ending_with b) waiting_ending ≡ b
waiting_tests true = refl
waiting_tests false = refl

-- What waits is inside its body.
waits_inside : (σ : Skel) → waits σ ≡ true → 0 < length σ
waits_inside [] p = absurd (true≢false (sym p))
waits_inside (b ∷ σ) p = omega arith

above_parts : (v : ℕ) → (tag_of (above v 0) ≡ tag_of v) × (body_of (above v 0) ≡ body_of v)
above_parts v = (omega arith, omega arith)

-- The parts of a call's frame: it keeps the value that waits there.
frame_parts : (held pc env : ℕ) → pc < term_count → env < binding_places → (slot_kind (slot_word call_frame pc env held) ≡ call_frame) × (slot_pc (slot_word call_frame pc env held) ≡ pc) × (slot_env (slot_word call_frame pc env held) ≡ env)
frame_parts held pc env h g = (omega arith, omega arith, omega arith)

frame_word : (held pc env f : ℕ) → held ≡ slot_held f → pc < term_count → env < binding_places → (tag_of (slot_word call_frame pc env held) ≡ tag_of f) × (body_of (slot_word call_frame pc env held) ≡ body_of f)
frame_word held pc env f p h g = (omega arith, omega arith)

module _ (Θ : Setup) where
  -- The instruction after a value: the value is at hand, and its other operand waits.
  next_ready : (M : Memory) (z : Sizes) (D : Slots) (σ : Skel) (d w : ℕ) (v : CVal) → Waits Θ.linked (Held Θ M z) D σ d → IsVal Θ M z w v
      → ReadyFor (IsVal Θ M z) w v (slot_of M (suc (length (next σ).1 + d))) (D (suc (length (next σ).1 + d))) (next σ).0
  next_ready M z D [] d w v h i = i
  next_ready M z D (one_b H ∷ σ) d w v h i = i
  next_ready M z D (first_b H y ∷ σ) d w v h i = try (is_atom y) refl
    where
      to : Bool → Pc
      to b = choose b (two H acc (in_place_term y), σ) (entry y (second_b H none ∷ σ))

      try : (b : Bool) → is_atom y ≡ b → ReadyFor (IsVal Θ M z) w v (slot_of M (suc (length (to b).1 + d))) (D (suc (length (to b).1 + d))) (to b).0
      try true p = (i, tt)
      try false p = entry_ready (IsVal Θ M z) w v _ _ y (second_b H none ∷ σ) p
  next_ready M z D (second_b H none ∷ σ) d w v h i = (h.0, i)
  next_ready M z D (second_b H (some x) ∷ σ) d w v h i = (tt, i)

  -- A target that is an instruction has its number.
  pub instruction_of : {c : Dom} {t : ℕ} {E : Pc} → Points Θ.linked c (to t) E → is_atom_at Θ.table t ≡ false
  instruction_of (p_to m i n q l) = n

  module _ (S : State) (k : ℕ) (s : CState) (m : ℕ) (P : Site) (A : Chain) (D : Slots) (p : InPlace Θ S k s m P A D) (shallow : depth_at P A ≤ frame_slots) where
    abbrev M : Memory
    M = S.memory

    abbrev r : Regs
    r = S.regs

    abbrev z : Sizes
    z = sizes r

    abbrev w : ℕ
    w = code_at Θ.program m

    abbrev st : Store Θ M S.log z s
    st = p.common.store

    around : SaysAround w (Θ.table.around m)
    around = Θ.says.around m p.no_atom

    told : Describes Θ.linked m P.skel P.dom
    told = describes Θ.linked p.located p.no_atom

    pub depth_is : depth_of w ≡ length P.skel
    depth_is = around.depth ∙ told.depth

    -- The slot of the place.
    index : slot_in r.frames (depth_of w) ≡ slot_base + frame_slots - depth_at P A
    index = omega (arith, depth_is, p.frames)

    -- The value waits.
    abbrev written : ℕ → Memory
    written x = put_waiting r.frames (depth_of w) x M

    module _ (x : ℕ) (v : CVal) (is : IsVal Θ M z x v) (wait : waits P.skel ≡ true) where
      inside : 0 < length P.skel
      inside = waits_inside P.skel wait

      here : slot_of (written x) (depth_at P A) ≡ above x 0
      here = slot_word_lem (written x) (depth_at P A) (omega (arith, inside)) ∙ ap (λ (i : ℕ). word_at (written x) i) (sym index) ∙ word_same M (slot_in r.frames (depth_of w)) (above x 0) (omega (arith, index, st.words))

      elsewhere : (i : ℕ) → i < depth_at P A → slot_of (written x) i ≡ slot_of M i
      elsewhere i h = slot_same M (written x) i (λ n. word_other M (slot_in r.frames (depth_of w)) (above x 0) (slot_base + frame_slots - i) (λ e. omega (arith, index)))

      grows : Grows M z (written x) z
      grows = grows_put M z (slot_in r.frames (depth_of w)) (above x 0) (omega (arith, index, st.counts.bindings_fit)) (λ i h e. omega (arith, index, inside))

      kept : Store Θ (written x) S.log z s
      kept =
          store_charged Θ M S.log z s st (written x) z.nb z.np s.used grows (above_put M cell_base (slot_in r.frames (depth_of w)) (above x 0) (omega (arith, index))) st.beside
          st.counts.bindings_fit st.counts.pieces_fit

      holds : Held Θ (written x) z (depth_at P A) v
      holds = let a = above_parts x in val_at Θ (written x) z here (val_like Θ (written x) z a.0 a.1 (val_grows Θ M z (written x) z grows is))

    -- The configuration after the place's value, with the slots D'.
    abbrev after : CVal → Slots → Conf
    after v D' = record { instr = (next P.skel).0; acc = v; site = record { skel = (next P.skel).1; env = P.env; dom = P.dom }; chain = A; slots = D' }

    arrived : (M' : Memory) (D' : Slots) (x : ℕ) (v : CVal) → Grows M z M' z → ((i : ℕ) → kept_at M' i ≡ kept_at M i) → Store Θ M' S.log z s → IsChain Θ.linked (Held Θ M' z) (Back Θ M' z) D' A
        → Waits Θ.linked (Held Θ M' z) D' P.skel (base A) → (waits P.skel ≡ true → Held Θ M' z (depth_at P A) (D' (depth_at P A))) → IsVal Θ M' z x v
        → Invariant Θ.sound k s (after v D') → Simulates Θ (with_memory M' (set_pc (next_of w) (set_acc x r)) S) k s (after v D')
    arrived M' D' x v g j st' c h held i good =
        record {
          common = record { budget = p.common.budget; running = p.common.running; store = st'; used = p.common.used };
          good = good;
          target = (Θ.table.around m).next;
          pc = around.next;
          points = subst (λ (E : Pc). Points Θ.linked P.dom (Θ.table.around m).next E) (paid_none P.skel).1 told.next;
          env = env_grows Θ M z M' z g p.env;
          env_fits = p.env_fits;
          frames = p.frames;
          ready = next_ready M' z D' P.skel (base A) x v h i;
          waits = subst (λ (E : Pc). Waits Θ.linked (Held Θ M' z) D' E.1 (base A)) (paid_none P.skel).1 (paid_has Θ.linked (Held Θ M' z) D' (base A) P.skel held h);
          chain = c;
          kept = kept_grows Θ g j p.kept;
        }

    -- The value is complete.
    pub completed_now : (x : ℕ) (v : CVal) → IsVal Θ M z x v → Reach Θ.sound k s (ret v) (stack_at P A D) → Simulates Θ (completed w x S) k s (complete v P A D)
    completed_now x v is reach = rw (ap (λ (e : ℕ). eqb e waiting_ending) (around.ending ∙ ap ending_with told.waits) ∙ waiting_tests (waits P.skel)) (try (waits P.skel) refl (complete_good Θ.sound k s P A D p.stood p.fine v reach))
      where
        try : (b : Bool) → waits P.skel ≡ b → Invariant Θ.sound k s (after v (choose b (put (depth_at P A) v D) D))
            → Simulates Θ (with_memory (choose b (written x) M) (set_pc (next_of w) (set_acc x r)) S) k s (after v (choose b (put (depth_at P A) v D) D))
        try true b good =
            let g = grows x v is b in
            let D' : Slots = put (depth_at P A) v D in
            arrived (written x) D' x v g (λ i. word_other M (slot_in r.frames (depth_of w)) (above x 0) (kept_base + i) (λ e. omega (arith, index))) (kept x v is b)
            (chain_kept Θ.linked (Held Θ M z) (Back Θ M z) D (Held Θ (written x) z) (Back Θ (written x) z) D' A
            (same_to Θ M z (written x) z g (base A) D D' (λ i h. elsewhere x v is b i (omega (arith, inside x v is b))) (λ i h. refl) (λ i h. put_other (depth_at P A) i v D (omega (arith, inside x v is b)))) p.chain)
            (waits_put Θ M z (written x) z g P.skel (base A) D D' b (λ i h. elsewhere x v is b i h) (λ i h. put_other (depth_at P A) i v D h) p.waits)
            (λ q. rw (put_same (depth_at P A) v D) (holds x v is b)) (val_grows Θ M z (written x) z g is) good
        try false b good = arrived M D x v (grows_refl M z) (λ i. refl) st p.chain p.waits (λ q. absurd (true≢false (sym q ∙ b))) is good

    -- A term is begun at the place, by its entry, after a change of the tables and of the chain.
    entry_small : (f : ℕ) (σ : Skel) (c : Dom) → is_atom_at Θ.table f ≡ false → Located Θ.linked f σ c → Θ.table.entry f < term_count
    entry_small f σ c n l = Θ.says.few (Θ.table.entry f) (instruction_of (entry_points Θ.linked f σ c n l))

    instruction_target : (g e : ℕ) → g ≡ term_count + e → e < term_count → (is_instruction g ≡ true) × (g % term_count ≡ e)
    instruction_target g e q h = (le-leb term_count g (omega arith), omega arith)

    atom_target : (g f : ℕ) → g ≡ f → f < term_count → (is_instruction g ≡ false) × (g % term_count ≡ f)
    atom_target g f q h = (lt-leb term_count g (omega arith), omega arith)

    target_when : (g f : ℕ) (b : Bool) → is_atom_at Θ.table f ≡ b → g ≡ target_at Θ.table f → g ≡ choose b f (term_count + Θ.table.entry f)
    target_when g f b a q = rw (← a) q

    -- The place goes on with the term f.
    pub gone_now : (g f : ℕ) → SaysTarget Θ.table g f → Located Θ.linked f P.skel P.dom → Reach Θ.sound k s (eval (Θ.table.term f) P.env) (stack_at P A D)
        → Simulates Θ (gone_to Θ.program w g S) k s (goto (Θ.table.term f) P A D)
    gone_now g f t l reach = try (is_atom_at Θ.table f) refl (goto_good Θ.sound k s P A D p.stood p.fine (Θ.table.term f) reach)
      where
        e : Tm
        e = Θ.table.term f

        try : (b : Bool) → is_atom_at Θ.table f ≡ b → Invariant Θ.sound k s (choose b (complete (atom_of e P.env) P A D) (begin e P A D))
            → Simulates Θ (gone_to Θ.program w g S) k s (choose b (complete (atom_of e P.env) P A D) (begin e P A D))
        try true a good =
            let q = atom_target g f (target_when g f true a t.0) t.1 in
            rw (q.0, q.1)
            (completed_now (atom_value Θ.program M r.env (code_at Θ.program f)) (atom_of e P.env) (atom_is Θ M z r.env P.env p.env p.env_fits f t.1 a l (bound_tm Θ.sound k s e P.env (stack_at P A D) reach))
            ((atom_leads Θ.sound s e P.env (stack_at P A D) a).reached k reach))
        try false a good =
            let q = instruction_target g (Θ.table.entry f) (target_when g f false a t.0) (entry_small f P.skel P.dom a l) in
            rw (q.0, q.1)
            (record {
              common = record { budget = p.common.budget; running = p.common.running; store = st; used = p.common.used };
              good = good;
              target = to (Θ.table.entry f);
              pc = refl;
              points = entry_points Θ.linked f P.skel P.dom a l;
              env = p.env;
              env_fits = p.env_fits;
              frames = p.frames;
              ready = entry_ready (IsVal Θ M z) r.acc CVal.unit _ _ e P.skel a;
              waits = entry_has Θ.linked (Held Θ M z) D (base A) e P.skel p.waits;
              chain = p.chain;
              kept = p.kept;
            })

    -- An activation frame in the slot of the place.
    abbrev framed : Memory
    framed = put_return r.frames (depth_of w) r.pc r.env M

    module _ (at : r.pc ≡ m) (within : 0 < length P.skel) where
      abbrev word : ℕ
      word = slot_word call_frame r.pc r.env (slot_held (word_at M (slot_in r.frames (depth_of w))))

      frame_here : slot_of framed (depth_at P A) ≡ word
      frame_here = slot_word_lem framed (depth_at P A) (omega (arith, within)) ∙ ap (λ (i : ℕ). word_at framed i) (sym index) ∙ word_same M (slot_in r.frames (depth_of w)) word (omega (arith, index, st.words))

      frame_elsewhere : (i : ℕ) → i < depth_at P A → slot_of framed i ≡ slot_of M i
      frame_elsewhere i h = slot_same M framed i (λ n. word_other M (slot_in r.frames (depth_of w)) word (slot_base + frame_slots - i) (λ e. omega (arith, index)))

      frame_grows : Grows M z framed z
      frame_grows = grows_put M z (slot_in r.frames (depth_of w)) word (omega (arith, index, st.counts.bindings_fit)) (λ i h e. omega (arith, index, within))

      frame_store : Store Θ framed S.log z s
      frame_store =
          store_charged Θ M S.log z s st framed z.nb z.np s.used frame_grows (above_put M cell_base (slot_in r.frames (depth_of w)) word (omega (arith, index))) st.beside
          st.counts.bindings_fit st.counts.pieces_fit

      frame_kept : AreKept Θ framed z r.kept (kept_by A)
      frame_kept = kept_grows Θ frame_grows (λ i. word_other M (slot_in r.frames (depth_of w)) word (kept_base + i) (λ e. omega (arith, index))) p.kept

      small : m < term_count
      small = Θ.says.few m p.no_atom

      -- The value that waits there stays.
      frame_held : (i : ℕ) → i ≤ depth_at P A → (v : CVal) → Held Θ M z i v → Held Θ framed z i v
      frame_held i h v is = try (eqb i (depth_at P A)) refl
        where
          try : (b : Bool) → eqb i (depth_at P A) ≡ b → Held Θ framed z i v
          try true e =
              let q : i ≡ depth_at P A = eqb-true i (depth_at P A) e in
              let old : word_at M (slot_in r.frames (depth_of w)) ≡ slot_of M (depth_at P A) = ap (λ (j : ℕ). word_at M j) index ∙ sym (slot_word_lem M (depth_at P A) (omega (arith, within))) in
              let new : slot_of framed i ≡ word = ap (λ (j : ℕ). slot_of framed j) q ∙ frame_here in
              let parts = frame_word (slot_held (word_at M (slot_in r.frames (depth_of w)))) r.pc r.env (word_at M (slot_in r.frames (depth_of w))) refl (omega (arith, small)) p.env_fits in
              val_at Θ framed z new
              (val_like Θ framed z parts.0 parts.1 (val_at Θ framed z (old ∙ ap (λ (j : ℕ). slot_of M j) (sym q)) (val_grows Θ M z framed z frame_grows is)))
          try false e = held_kept Θ M z framed z frame_grows i (frame_elsewhere i (omega (arith, eqb-false i (depth_at P A) e))) v is

      frame_back : Back Θ framed z (depth_at P A) a_call m P.env
      frame_back =
          let parts = frame_parts (slot_held (word_at M (slot_in r.frames (depth_of w)))) r.pc r.env (omega (arith, small)) p.env_fits in
          record {
            kind = ap slot_kind frame_here ∙ parts.0;
            pc = ap slot_pc frame_here ∙ parts.1 ∙ at;
            env = env_at Θ framed z (ap slot_env frame_here ∙ parts.2) (env_grows Θ M z framed z frame_grows p.env);
            fits = omega (arith, ap slot_env frame_here ∙ parts.2, p.env_fits);
          }

      frame_chain : IsChain Θ.linked (Held Θ framed z) (Back Θ framed z) D (call_a P ∷ A)
      frame_chain =
          call_kept Θ.linked (Held Θ M z) (Back Θ M z) D (Held Θ framed z) (Back Θ framed z) D P A m p.no_atom p.located within frame_held (λ i h. refl)
          (λ i h κ j ρ x. (same_to Θ M z framed z frame_grows i D D (λ i' h'. frame_elsewhere i' (omega arith)) (λ i' h'. refl) (λ i' h'. refl)).returns i (omega arith) κ j ρ x) frame_back p.waits p.chain

    -- A body begins.
    begun : (M' : Memory) (frames' t env' : ℕ) (e : Tm) (d : Dom) (ρ : Env) (A' : Chain) → Store Θ M' S.log z s → IsEnv Θ M' z env' ρ → env' < binding_places → frames' + base A' ≡ frame_slots
        → IsChain Θ.linked (Held Θ M' z) (Back Θ M' z) D A' → AreKept Θ M' z r.kept (kept_by A') → is_atom e ≡ false → Points Θ.linked d (to t) (entry e []) → Invariant Θ.sound k s (begin e (body ρ d) A' D)
        → Simulates Θ (with_memory M' (set_pc t (set_env env' (set_frames frames' r))) S) k s (begin e (body ρ d) A' D)
    begun M' frames' t env' e d ρ A' st' i fits frames c h a points good =
        record {
          common = record { budget = p.common.budget; running = p.common.running; store = st'; used = p.common.used };
          good = good;
          target = to t;
          pc = refl;
          points = points;
          env = i;
          env_fits = fits;
          frames = frames;
          ready = entry_ready (IsVal Θ M' z) r.acc CVal.unit _ _ e [] a;
          waits = entry_has Θ.linked (Held Θ M' z) D (base A') e [] tt;
          chain = c;
          kept = h;
        }

    -- The body at a target is called, in an environment.
    pub called_now : (g env' : ℕ) (e : Tm) (d : Dom) (ρ : Env) → IsBody Θ g e d → IsEnv Θ M z env' ρ → env' < binding_places → d ≡ dom_at P → r.pc ≡ m
        → Reach Θ.sound k s (eval e ρ) (stack_at P A D) → Simulates Θ (called Θ.program w g env' S) k s (enter e ρ d P A D)
    called_now g env' e d ρ b i fits same at reach = try (is_atom e) refl (enter_good Θ.sound k s P A D p.stood p.fine e ρ d same reach)
      where
        f : ℕ
        f = b.number

        atom_when : (a : Bool) → is_atom e ≡ a → is_atom_at Θ.table f ≡ a
        atom_when a q = ap is_atom b.term ∙ q

        points : is_atom e ≡ false → Points Θ.linked d (to (Θ.table.entry f)) (entry e [])
        points a = subst (λ (t : Tm). Points Θ.linked d (to (Θ.table.entry f)) (entry t [])) b.term (entry_points Θ.linked f [] d (atom_when false a) b.located)

        value : is_atom e ≡ true → IsVal Θ M z (atom_value Θ.program M env' (code_at Θ.program f)) (atom_of e ρ)
        value a =
            subst (λ (t : Tm). IsVal Θ M z (atom_value Θ.program M env' (code_at Θ.program f)) (atom_of t ρ)) b.term
            (atom_is Θ M z env' ρ i fits f b.begins.1 (atom_when true a) b.located (subst (λ (t : Tm). BoundTm t ρ) (sym b.term) (bound_tm Θ.sound k s e ρ (stack_at P A D) reach)))

        -- with or without a frame
        inside : (σ : Skel) → P.skel ≡ σ → is_atom e ≡ false → Invariant Θ.sound k s (begin e (body ρ d) (waiting σ P A) D)
            → Simulates Θ (with_memory (choose (eqb (depth_of w) 0) M framed) (set_pc (Θ.table.entry f) (set_env env' (set_frames (r.frames - depth_of w) r))) S) k s (begin e (body ρ d) (waiting σ P A) D)
        inside [] q a good =
            let z : depth_of w ≡ 0 = depth_is ∙ ap length q in
            rw (eq-eqb (depth_of w) 0 z) (begun M (r.frames - depth_of w) (Θ.table.entry f) env' e d ρ A st i fits (omega (arith, p.frames)) p.chain p.kept a (points a) good)
        inside (x ∷ σ) q a good =
            let n : 0 < length P.skel = rw q (omega arith) in
            rw (ne_eqb (depth_of w) 0 (λ y. omega (arith, depth_is)))
            (begun framed (r.frames - depth_of w) (Θ.table.entry f) env' e d ρ (call_a P ∷ A) (frame_store at n) (env_grows Θ M z framed z (frame_grows at n) i) fits (omega (arith, depth_is, p.frames)) (frame_chain at n) (frame_kept at n) a (points a) good)

        try : (a : Bool) → is_atom e ≡ a → Invariant Θ.sound k s (choose a (complete (atom_of e ρ) P A D) (begin e (body ρ d) (waiting P.skel P A) D))
            → Simulates Θ (called Θ.program w g env' S) k s (choose a (complete (atom_of e ρ) P A D) (begin e (body ρ d) (waiting P.skel P A) D))
        try true a good =
            let q = atom_target g f (target_when g f true (atom_when true a) b.begins.0) b.begins.1 in
            rw (q.0, q.1) (completed_now (atom_value Θ.program M env' (code_at Θ.program f)) (atom_of e ρ) (value a) ((atom_leads Θ.sound s e ρ (stack_at P A D) a).reached k reach))
        try false a good =
            let q = instruction_target g (Θ.table.entry f) (target_when g f false (atom_when false a) b.begins.0) (entry_small f [] d (atom_when false a) b.located) in
            rw (q.0, q.1) (inside P.skel refl a good)
