-- The reduction of a mark (document 003, section 2.3, figure 5): all its bindings are made at its own step, and the first advice begins.
use Prim.Native.Nat.{ℕ, suc, ◌+◌, ◌-◌, ◌≤◌, ◌<◌}
use native.Mathlib.Omega.{arith}
use mathlib.Core.Path.{◌≡◌, refl, sym, ap, subst, ◌∙◌}
use mathlib.Core.Bool.{Bool, true, false, not}
use mathlib.Core.List.{List, [], ◌∷◌}
use mathlib.Core.Option.{Option, none, some}
use lib.ListN.{length, get_elem?}
use lib.Dec.{eqb, leb}
use borrow.Author.Tests.{leb-true, leb-false, eq-eqb, ne_eqb, le-leb, lt-leb}
use Rattle.calculus.specs.declared.Outcome.{Outcome}
use Rattle.calculus.specs.Limits.{frame_limit, binding_limit, label_limit}
use Rattle.calculus.specs.Combinators.{choose}
use Rattle.calculus.specs.Syntax.{Dom, Ty, Tm, mark}
use Rattle.calculus.specs.State.{Advice, with_uses, add_uses, advice_bindings}
use Rattle.calculus.specs.Compose.{triggered_by}
use Rattle.calculus.specs.Place.{Place}
use Rattle.calculus.specs.Answer.{reduct, at_capacity, by_capacity, with}
use Rattle.closure_machine.specs.Closure.{CVal, Env, Body, CState, unload_val}
use Rattle.closure_machine.specs.Machine.{Control, ret, triggered, triggered_f, Stack, CAnswer, reduces, reduce2_c, move}
use Rattle.vm_theory.specs.Conf.{Site, advice_a, Chain, Slots, base, kept_by, depth_at, trigger}
use Rattle.vm_theory.specs.Stands.{stack_at}
use Rattle.vm_theory.proofs.Reach.{Reach, reach_go, reach_moves, ends_full}
use Rattle.vm_theory.proofs.Located.{describes}
use Rattle.vm_theory.proofs.Kept.{IsChain, waits_kept, chain_kept}
use Rattle.vm_code.specs.Words.{depth_of, term_count}
use Rattle.vm_pools.specs.declared.Pool.{Pool}
use Rattle.vm_machine.specs.declared.Regs.{Regs}
use Rattle.vm_machine.specs.Registers.{fuel_bias, frame_slots, set_pc, set_acc, set_env, set_frames, set_pools, stepped, halt}
use Rattle.vm_pools.specs.Pools.{whole, set_bindings, within_quotas, mark_out}
use Rattle.vm_machine.specs.Memory.{Memory, kept_base, kept_at, word_at, slot_base, cell_base, slot_in, slot_word, slot_kind, slot_pc, slot_env, advice_frame, bindings_left, next_binding, end_binding, put_advice, binding_at, bound_target, has_bit, binding_places}
use Rattle.vm_machine.specs.States.{State, with_regs, with_memory, if_fuel, if_capacity, completed}
use Rattle.vm_machine.specs.Fetch.{code_at}
use Rattle.vm_machine.specs.Reduce.{given, Bound, bind_matching, body_at, start_advice, reduce_mark}
use Rattle.vm_machine.specs.Fits.{PoolFits}
use Rattle.base_bytes.specs.Memory.{beside_count}
use Rattle.vm_machine_correct.proofs.Setup.{Setup}
use Rattle.vm_machine_correct.proofs.Pools.{leb_iff, Used, advice_used, spend_advice}
use Rattle.vm_machine_correct.proofs.Relations.{Sizes, sizes, IsVal, is_unit, IsEnv, env_at, IsTriggered, one_left, Grows, env_grows, triggered_at, triggered_grows}
use Rattle.vm_machine_correct.proofs.Tables.{word_same, word_other, grows_put, grows_sizes, grows_trans, Above, above_put, SameSlots}
use Rattle.vm_machine_correct.proofs.Store.{Store, store_charged}
use Rattle.vm_machine_correct.proofs.Keeping.{AreKept, kept_grows, kept_fits}
use Rattle.vm_machine_correct.proofs.Slots.{slot_of, slot_word_lem, slot_same, Held, Back, held_kept, same_to}
use Rattle.vm_machine_correct.proofs.Simulation.{InPlace, Simulates, halted_stopped}
use Rattle.vm_machine_correct.proofs.Views.{AsLabel, one_label, no_label, as_label}
use Rattle.vm_machine_correct.proofs.Arrives.{completed_now}
use Rattle.vm_machine_correct.proofs.Steps.{measure, After, after_halted, fits_in, Stepping, no_capacity, if_left_with, no_way}
use Rattle.vm_machine_correct.proofs.Gives.{Left, still, falls}
use Rattle.vm_machine_correct.proofs.Advice.{stack_depth, advised}
use Rattle.vm_machine_correct.proofs.Matching.{newest_first, Written, written_refl, Made, made_all, none_named}

-- The parts of an advice's frame.
pub advice_frame_lem : (pc env next end : ℕ) → pc < term_count → env < binding_places → next < 65536 → end < 65536
    → (slot_kind (slot_word advice_frame pc env (bindings_left next end)) ≡ advice_frame) × (slot_pc (slot_word advice_frame pc env (bindings_left next end)) ≡ pc) × (slot_env (slot_word advice_frame pc env (bindings_left next end)) ≡ env)
    × (next_binding (slot_word advice_frame pc env (bindings_left next end)) ≡ next) × (end_binding (slot_word advice_frame pc env (bindings_left next end)) ≡ end)
advice_frame_lem pc env next end h g i j = (omega arith, omega arith, omega arith, omega arith, omega arith)

module _ (Θ : Setup) where
  -- The activation frame of a mark m at a place, in the slot two unfinished terms inside; next and end are the bindings that are left.
  module _ (S : State) (k : ℕ) (s : CState) (m : ℕ) (P : Site) (A : Chain) (D : Slots) (p : InPlace Θ S k s m P A D) (next end : ℕ) (within : depth_at P A + 2 ≤ frame_slots) (pc env : ℕ)
      (at : pc ≡ m) (fits : env < binding_places) (ie : IsEnv Θ S.memory (sizes S.regs) env P.env) (d frames' : ℕ) (index : slot_in frames' d ≡ slot_base + frame_slots - (depth_at P A + 2)) where
    abbrev M : Memory
    M = S.memory

    abbrev z : Sizes
    z = sizes S.regs

    abbrev word : ℕ
    word = slot_word advice_frame pc env (bindings_left next end)

    abbrev framed : Memory
    framed = put_advice frames' d pc env next end M

    st : Store Θ M S.log z s
    st = p.common.store

    here : slot_of framed (depth_at P A + 2) ≡ word
    here = slot_word_lem framed (depth_at P A + 2) (omega arith) ∙ ap (λ (i : ℕ). word_at framed i) (sym index) ∙ word_same M (slot_in frames' d) word (omega (arith, index, st.words))

    elsewhere : (i : ℕ) → i < depth_at P A + 2 → slot_of framed i ≡ slot_of M i
    elsewhere i h = slot_same M framed i (λ n. word_other M (slot_in frames' d) word (slot_base + frame_slots - i) (λ e. omega (arith, index)))

    pub frame_grows : Grows M z framed z
    frame_grows = grows_put M z (slot_in frames' d) word (omega (arith, index, st.counts.bindings_fit)) (λ i h e. omega (arith, index))

    pub frame_store : Store Θ framed S.log z s
    frame_store =
        store_charged Θ M S.log z s st framed z.nb z.np s.used frame_grows (above_put M cell_base (slot_in frames' d) word (omega (arith, index))) st.beside
        st.counts.bindings_fit st.counts.pieces_fit

    pub frame_kept : AreKept Θ framed z S.regs.kept (kept_by A)
    frame_kept = kept_grows Θ frame_grows (λ i. word_other M (slot_in frames' d) word (kept_base + i) (λ e. omega (arith, index))) p.kept

    pub frame_chain : (q : Dom) (w : CVal) (x : List (Advice Body)) → next < 65536 → end < 65536 → IsTriggered Θ M z next end w x
        → IsChain Θ.linked (Held Θ framed z) (Back Θ framed z) D (advice_a q w x P ∷ A)
    frame_chain q w x small small' left =
        let low = Θ.says.few m p.no_atom in
        let parts = advice_frame_lem pc env next end (omega (arith, at)) fits small small' in
        let same : suc (suc (depth_at P A)) ≡ depth_at P A + 2 = omega arith in
        let h : slot_of framed (suc (suc (depth_at P A))) ≡ word = ap (λ (i : ℕ). slot_of framed i) same ∙ here in (
          record {
            number = m;
            no_atom = p.no_atom;
            located = p.located;
            says = (
              record { kind = ap slot_kind h ∙ parts.0; pc = ap slot_pc h ∙ parts.1 ∙ at; env = env_at Θ framed z (ap slot_env h ∙ parts.2) (env_grows Θ M z framed z frame_grows ie); fits = omega (arith, ap slot_env h ∙ parts.2) },
              triggered_at Θ framed z (ap next_binding h ∙ parts.3) (ap end_binding h ∙ parts.4) (triggered_grows Θ M z framed z frame_grows left),
            );
            waiting =
                waits_kept Θ.linked (Held Θ M z) (Back Θ M z) D (Held Θ framed z) (Back Θ framed z) D P.skel (base A)
                (λ i g v y. held_kept Θ M z framed z frame_grows i (elsewhere i (omega arith)) v y) (λ i g. refl) p.waits;
          },
          chain_kept Θ.linked (Held Θ M z) (Back Θ M z) D (Held Θ framed z) (Back Θ framed z) D A
              (same_to Θ M z framed z frame_grows (base A) D D (λ i g. elsewhere i (omega arith)) (λ i g. refl) (λ i g. refl)) p.chain,
        )

  module _ (S : State) (k : ℕ) (s : CState) (m : ℕ) (P : Site) (A : Chain) (D : Slots) (c : Control) (F : Stack) where
    abbrev At : CAnswer → Type 0
    At a = Stepping Θ S k s m P A D c F a

    abbrev Progresses : State → Type 0
    Progresses S' = After Θ (measure S) S'

    abbrev r : Regs
    r = S.regs

    abbrev n : ℕ
    n = whole r.pools.bindings

    abbrev w : ℕ
    w = code_at Θ.program m

    abbrev K : Stack
    K = stack_at P A D

    abbrev Changed : Memory → Regs → CState → Type 0
    Changed M' q s' = Left Θ S k s m P A D c F M' S.log q s'

    -- Nothing is triggered.
    quiet : (v : CVal) (M' : Memory) (q : Regs) (s' : CState) → At (reduct s' (triggered v [])) → Changed M' q s' → fuel_bias < r.fuel → Progresses (completed w 0 (record { memory = M'; log = S.log; regs = q }))
    quiet v M' q s' R l more =
        falls R M' S.log q s' l more refl
        (completed_now Θ (record { memory = M'; log = S.log; regs = q }) (suc k) s' m P A D (still R M' S.log q s' l more) (omega (arith, R.shallow)) 0 CVal.unit (is_unit refl)
        (reach_moves Θ.sound (suc k) s' (triggered v []) K (reach_go Θ.sound k s c F R.reach s' (triggered v []) K R.is) (ret CVal.unit) K refl))

    -- The first advice begins.
    start_now : (v : CVal) (d : Dom) (ls : List ℕ) (e : Tm) (ρ : Env) (x : List (Advice Body)) (M' : Memory) (q : Regs) (s' : CState) (end : ℕ) → end ≤ binding_places
        → At (reduct s' (triggered v (record { dom = d; labels = ls; body = record { term = e; env = ρ } } ∷ x))) → Changed M' q s' → fuel_bias < r.fuel
        → IsTriggered Θ M' (sizes q) n end v (record { dom = d; labels = ls; body = record { term = e; env = ρ } } ∷ x) → Progresses (start_advice w n end (record { memory = M'; log = S.log; regs = q }))
    start_now v d ls e ρ x M' q s' end few R l more (one_left lt ie b rest) = try (leb q.frames (depth_of w + 1)) refl
      where
        S' : State
        S' = record { memory = M'; log = S.log; regs = q }

        p : InPlace Θ S' (suc k) s' m P A D
        p = still R M' S.log q s' l more

        deep : depth_of w ≡ length P.skel
        deep = (Θ.says.around m p.no_atom).depth ∙ (describes Θ.linked p.located p.no_atom).depth

        first : Advice Body
        first = record { dom = d; labels = ls; body = record { term = e; env = ρ } }

        reach : Reach Θ.sound (suc k) s' (triggered v (first ∷ x)) K
        reach = reach_go Θ.sound k s c F R.reach s' (triggered v (first ∷ x)) K R.is

        small : m < term_count
        small = Θ.says.few m p.no_atom

        -- no frame for it
        none_left : q.frames ≤ depth_of w + 1 → Progresses (with_regs (halt Outcome.Frames q) S')
        none_left h =
            after_halted
            (halted_stopped Outcome.Frames refl refl
            (ends_full Θ.sound (suc k) s' (triggered v (first ∷ x)) K reach Θ.budget (q.fuel - fuel_bias) (omega (arith, p.common.budget, p.common.running)) Outcome.Frames [] is)
            p.common.store p.common.used (omega (arith, p.common.budget, p.common.running))
            (fits_in M' S.log (halt Outcome.Frames q) s' p.common.store p.common.used (omega (arith, l.regs.pc, R.pc, small)) p.env_fits (omega (arith, p.frames, kept_fits Θ A p.kept))))
          where
            long : frame_limit < length (triggered_f v x ∷ K)
            long = omega (arith, deep, p.frames, stack_depth P A D p.stood p.fine)

            is : move (triggered v (first ∷ x)) K Θ.given s' ≡ reduces (at_capacity Outcome.Frames) []
            is = rw (lt-leb (length (triggered_f v x ∷ K)) frame_limit long)

        begins : depth_of w + 1 < q.frames
            → Progresses (with_memory (put_advice q.frames (depth_of w + 2) q.pc q.env (n + 1) end M') (set_pc (body_at M' n) (set_acc 0 (set_env n (set_frames (q.frames - (depth_of w + 2)) q)))) S')
        begins h =
            let within : depth_at P A + 2 ≤ frame_slots = omega (arith, deep, p.frames) in
            let index : slot_in q.frames (depth_of w + 2) ≡ slot_base + frame_slots - (depth_at P A + 2) = omega (arith, deep, p.frames) in
            let next : suc n ≡ n + 1 = omega arith in
            let M'' : Memory = put_advice q.frames (depth_of w + 2) q.pc q.env (n + 1) end M' in
            let S'' : State = with_memory M'' (set_pc (body_at M' n) (set_acc 0 (set_env n (set_frames (q.frames - (depth_of w + 2)) q)))) S' in
            let g = frame_grows S' (suc k) s' m P A D p (n + 1) end within q.pc q.env (l.regs.pc ∙ R.pc) p.env_fits p.env (depth_of w + 2) q.frames index in
            let now : Simulates Θ S'' (suc k) s' (trigger v (first ∷ x) P A D) =
            advised Θ S'' (suc k) s' P A D v d ls e ρ x (bound_target (binding_at M' n))
            (record {
              budget = p.common.budget;
              running = p.common.running;
              store = frame_store S' (suc k) s' m P A D p (n + 1) end within q.pc q.env (l.regs.pc ∙ R.pc) p.env_fits p.env (depth_of w + 2) q.frames index;
              used = p.common.used;
            })
            p.stood p.fine b refl refl (env_grows Θ M' (sizes q) M'' (sizes q) g ie) (omega arith) (omega (arith, deep, p.frames))
            (frame_chain S' (suc k) s' m P A D p (n + 1) end within q.pc q.env (l.regs.pc ∙ R.pc) p.env_fits p.env (depth_of w + 2) q.frames index d v x (omega arith) (omega arith)
            (triggered_at Θ M' (sizes q) (sym next) refl rest))
            (frame_kept S' (suc k) s' m P A D p (n + 1) end within q.pc q.env (l.regs.pc ∙ R.pc) p.env_fits p.env (depth_of w + 2) q.frames index) reach in
            falls R M' S.log q s' l more {S'' = S''} refl now

        try : (t : Bool) → leb q.frames (depth_of w + 1) ≡ t
            → Progresses (choose t (with_regs (halt Outcome.Frames q) S') (with_memory (put_advice q.frames (depth_of w + 2) q.pc q.env (n + 1) end M') (set_pc (body_at M' n) (set_acc 0 (set_env n (set_frames (q.frames - (depth_of w + 2)) q)))) S'))
        try true t = none_left (leb-true q.frames (depth_of w + 1) t)
        try false t = begins (leb-false q.frames (depth_of w + 1) t)

    -- The room for all bindings is tested, and then whether there is advice.
    pub mark_now : (X : Place) (y : Ty) {x x' : ℕ} {v v' : CVal} → IsVal Θ S.memory (sizes r) x v → IsVal Θ S.memory (sizes r) x' v' → At (reduce2_c Θ.given X s mark y v v') → Progresses (reduce_mark w x x' S)
    unfolding with unload_val reduce_mark by_capacity
    mark_now X y {x} {x'} {v' = v'} i i' R = try (as_label Θ S.memory (sizes r) i) R
      where
        st : Store Θ S.memory S.log (sizes r) s
        st = R.place.common.store

        pool : Used r.pools s.used
        pool = R.place.common.used

        used : List (Advice Body) → CState
        used a = with_uses (add_uses s.used (advice_bindings a)) s

        -- the tables before the loop
        start : Bound Pool
        start = record { memory = S.memory; count = r.pools.bindings }

        all : ℕ → Bound Pool
        all l = bind_matching r.installed l x' start

        slots : {M' : Memory} → Written S.memory (sizes r) M' → SameSlots S.memory M'
        slots k = record { word = λ j h g. k.above.kept j h; byte = k.beside }

        cells : {M' : Memory} → Written S.memory (sizes r) M' → Above cell_base S.memory M'
        cells k = record { words = k.above.words; kept = λ j h. k.above.kept j (omega arith) }

        keeps : {M' : Memory} → Written S.memory (sizes r) M' → (i : ℕ) → kept_at M' i ≡ kept_at S.memory i
        keeps k i = k.above.kept (kept_base + i) (omega arith)

        bytes : {M' : Memory} → Written S.memory (sizes r) M' → beside_count ≤ length M'.beside
        bytes k = rw k.beside st.beside

        -- no advice: the tables M' have no more bindings
        none_now : (M' : Memory) → Written S.memory (sizes r) M' → At (reduct (used []) (triggered v' [])) → fuel_bias < r.fuel → Progresses (given w 0 (with_memory M' r S))
        none_now M' k Q more =
            quiet v' M' (stepped r) (used []) Q
            (record {
              regs = record { env = refl; frames = refl; fuel = refl; pc = refl; kept = refl };
              store =
                  store_charged Θ S.memory S.log (sizes r) s st M' n (sizes r).np (used []).used k.grows (cells k) (bytes k) st.counts.bindings_fit st.counts.pieces_fit;
              used = advice_used pool [] r.pools.bindings (omega arith) (omega arith) pool.bindings.fits;
              grows = k.grows;
              slots = slots k;
              keeps = keeps k;
            })
            more

        some_now : (d : Dom) (ls : List ℕ) (e : Tm) (ρ : Env) (a : List (Advice Body)) (b : Bound Pool) → Made Θ S.memory (sizes r) v' (record { dom = d; labels = ls; body = record { term = e; env = ρ } } ∷ a) start b → PoolFits binding_limit b.count
            → At (reduct (used (record { dom = d; labels = ls; body = record { term = e; env = ρ } } ∷ a)) (triggered v' (record { dom = d; labels = ls; body = record { term = e; env = ρ } } ∷ a))) → fuel_bias < r.fuel
            → Progresses (start_advice w n (whole b.count) (with_memory b.memory (set_pools (set_bindings b.count r.pools) (stepped r)) S))
        some_now d ls e ρ a b k fits Q more =
            let f : Advice Body = record { dom = d; labels = ls; body = record { term = e; env = ρ } } in
            let few : whole b.count ≤ binding_places = omega (arith, fits.mainline, fits.others) in
            let q : Regs = set_pools (set_bindings b.count r.pools) (stepped r) in
            let g : Grows S.memory (sizes r) b.memory (sizes q) =
            grows_trans k.written.grows (grows_sizes b.memory (sizes r) (sizes q) (omega (arith, k.count)) (omega arith)) in
            start_now v' d ls e ρ a b.memory q (used (f ∷ a)) (whole b.count) few Q
            (record {
              regs = record { env = refl; frames = refl; fuel = refl; pc = refl; kept = refl };
              store = store_charged Θ S.memory S.log (sizes r) s st b.memory (whole b.count) (sizes r).np (used (f ∷ a)).used g (cells k.written) (bytes k.written) few st.counts.pieces_fit;
              used = advice_used pool (f ∷ a) b.count k.mainline k.others fits;
              grows = g;
              slots = slots k.written;
              keeps = keeps k.written;
            })
            more (k.triggered few)

        -- the tables, with bindings written that are not in use
        kept : {M' : Memory} → Written S.memory (sizes r) M' → Store Θ M' S.log (sizes r) s
        kept {M'} wr = store_charged Θ S.memory S.log (sizes r) s st M' n (sizes r).np s.used wr.grows (cells wr) (bytes wr) st.counts.bindings_fit st.counts.pieces_fit

        -- the step is made, if one is left
        left_now : {M' : Memory} (s' : CState) (c' : Control) (S' : State) → Written S.memory (sizes r) M' → At (reduct s' c') → (fuel_bias < r.fuel → Progresses S') → Progresses (if_fuel (with_memory M' r S) S')
        left_now {M'} s' c' S' wr Q h = if_left_with (measure S) M' (kept wr) S' Q refl h

        -- domain 0's half, and the others'
        tests : (a : List (Advice Body)) (b : Bound Pool) → Made Θ S.memory (sizes r) v' a start b
            → (leb b.count.mainline binding_limit ≡ leb (advice_bindings a).mainline.bindings (binding_limit - s.used.mainline.bindings)) × (leb b.count.others binding_limit ≡ leb (advice_bindings a).others.bindings (binding_limit - s.used.others.bindings))
        tests a b k = (
          leb_iff b.count.mainline binding_limit (advice_bindings a).mainline.bindings (binding_limit - s.used.mainline.bindings) (λ h. omega (arith, k.mainline, pool.bindings.mainline))
              (λ h. omega (arith, k.mainline, pool.bindings.mainline, pool.bindings.fits.mainline)),
          leb_iff b.count.others binding_limit (advice_bindings a).others.bindings (binding_limit - s.used.others.bindings) (λ h. omega (arith, k.others, pool.bindings.others))
              (λ h. omega (arith, k.others, pool.bindings.others, pool.bindings.fits.others)),
        )

        rest_now : (a : List (Advice Body)) (b : Bound Pool) → Made Θ S.memory (sizes r) v' a start b → (t u : Bool) → leb (advice_bindings a).mainline.bindings (binding_limit - s.used.mainline.bindings) ≡ t
            → leb (advice_bindings a).others.bindings (binding_limit - s.used.others.bindings) ≡ u → At (by_capacity t Outcome.Bindings (by_capacity u Outcome.OtherBindings (reduct (used a) (triggered v' a))))
            → Progresses
            (if_capacity (within_quotas b.count) (mark_out b.count) (with_memory b.memory r S)
            (choose (eqb (whole b.count) n) (given w 0 (with_memory b.memory r S)) (start_advice w n (whole b.count) (with_memory b.memory (set_pools (set_bindings b.count r.pools) (stepped r)) S))))
        rest_now a b wr false u e f Q = rw ((tests a b wr).0 ∙ e) (no_capacity (measure S) b.memory (kept wr.written) Outcome.Bindings Q refl)
        rest_now a b wr true false e f Q =
            rw ((tests a b wr).0 ∙ e, (tests a b wr).1 ∙ f) (no_capacity (measure S) b.memory (kept wr.written) Outcome.OtherBindings Q refl)
        rest_now [] b wr true true e f Q =
            rw ((tests [] b wr).0 ∙ e, (tests [] b wr).1 ∙ f, eq-eqb (whole b.count) n (omega (arith, wr.count))) (left_now (used []) (triggered v' []) _ wr.written Q (none_now b.memory wr.written Q))
        rest_now (h ∷ a) b wr true true e f Q =
            let fits : PoolFits binding_limit b.count =
            record { mainline = leb-true b.count.mainline binding_limit ((tests (h ∷ a) b wr).0 ∙ e); others = leb-true b.count.others binding_limit ((tests (h ∷ a) b wr).1 ∙ f) } in
            rw ((tests (h ∷ a) b wr).0 ∙ e, (tests (h ∷ a) b wr).1 ∙ f, ne_eqb (whole b.count) n (λ j. omega (arith, wr.count)))
            (left_now (used (h ∷ a)) (triggered v' (h ∷ a)) _ wr.written Q (some_now h.dom h.labels h.body.term h.body.env a b wr fits Q))

        -- what the calculus comes to, with the advice a
        Marked : List (Advice Body) → Type 0
        Marked a =
            At
            (by_capacity (leb (advice_bindings a).mainline.bindings (binding_limit - s.used.mainline.bindings)) Outcome.Bindings
            (by_capacity (leb (advice_bindings a).others.bindings (binding_limit - s.used.others.bindings)) Outcome.OtherBindings (reduct (used a) (triggered v' a))))

        -- a label that no installed advice names
        named : (l : ℕ) → l < label_limit → (t : Bool) → has_bit r.named l ≡ t → Marked (triggered_by l s.advices) → Progresses
            (choose (not t) (if_fuel S (given w 0 S))
            (if_capacity (within_quotas (all l).count) (mark_out (all l).count) (with_memory (all l).memory r S)
            (choose (eqb (whole (all l).count) n) (given w 0 (with_memory (all l).memory r S)) (start_advice w n (whole (all l).count) (with_memory (all l).memory (set_pools (set_bindings (all l).count r.pools) (stepped r)) S)))))
        named l h true t Q =
            rest_now (triggered_by l s.advices) (all l)
            (made_all Θ S.memory (sizes r) st.counts.pieces_fit st.words l h x' v' i' (newest_first Θ S.memory (sizes r) st.counts.advices st.are_advices) start (omega arith) (written_refl S.memory (sizes r)))
            _ _ refl refl Q
        named l h false t Q =
            let none : triggered_by l s.advices ≡ [] = none_named Θ S.memory (sizes r) l h t (newest_first Θ S.memory (sizes r) st.counts.advices st.are_advices) in
            let W : Written S.memory (sizes r) S.memory = written_refl S.memory (sizes r) in
            left_now (used []) (triggered v' []) _ W (at_frames (subst Marked none Q)) (none_now S.memory W (at_frames (subst Marked none Q)))
          where
            at_frames : Marked [] → At (reduct (used []) (triggered v' []))
            at_frames Q = rw (le-leb 0 (binding_limit - s.used.mainline.bindings) (omega arith), le-leb 0 (binding_limit - s.used.others.bindings) (omega arith)) at Q

        -- the label is there
        there : (o : Option Dom) (a : CAnswer) → At (with o (λ p. a)) → At a
        there none a Q = no_way Q refl
        there (some p) a Q = Q

        try : {u : CVal} → AsLabel Θ S.memory (sizes r) x u → At (reduce2_c Θ.given X s mark y u v') → Progresses (reduce_mark w x x' S)
        try (one_label {l = l} p q) Q =
            rw q (named l (omega arith) (has_bit r.named l) refl (rw (spend_advice s (λ s'. reduct s' (triggered v' (triggered_by l s.advices))) (triggered_by l s.advices)) at (there (get_elem? s.labels l) _ Q)))
        try (no_label p) Q = no_way Q (rw p)
