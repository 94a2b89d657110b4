-- A match (card 6): its operands, and the branch that is taken.
use Prim.Native.Nat.{ℕ, ◌+◌, ◌-◌, ◌*◌, ◌/◌, ◌%◌, ◌≤◌, ◌<◌}
use native.Mathlib.Omega.{arith}
use mathlib.Core.Path.{◌≡◌, refl, sym, ap, subst, ◌∙◌}
use mathlib.Core.Bool.{Bool, true, false, not, ◌&&◌, ◌||◌}
use mathlib.Core.List.{List, [], ◌∷◌, ◌++◌, reverse}
use mathlib.Core.Option.{Option, none, some}
use lib.ListN.{length, drop}
use lib.Dec.{leb}
use borrow.Author.Tests.{ne_eqb, le-leb, lt-leb}
use Rattle.calculus.specs.Combinators.{choose, cases}
use Rattle.calculus.specs.Syntax.{Tms, Pattern, match, end, more}
use Rattle.calculus.specs.State.{Entry, some_bindings, add_uses, at_dom, with_uses, add_event, branched}
use Rattle.calculus.specs.View.{labels_of}
use Rattle.calculus.specs.Answer.{reduct}
use Rattle.calculus.specs.Place.{Place, framed}
use Rattle.calculus.specs.Reduce.{branch, match_on}
use Rattle.image.specs.Bytes.{le16}
use Rattle.closure_machine.specs.Closure.{CVal, CState, close, link_all, top_of_c, unload_val}
use Rattle.closure_machine.specs.Machine.{Control, eval, ret, OpN, match_n, op_nf, Stack, CAnswer, reduces, place_at, reduce_nc}
use Rattle.closure_machine.specs.Measure.{work}
use Rattle.vm_theory.specs.Code.{atom_of}
use Rattle.vm_theory.specs.Conf.{Site, Chain, Slots, dom_at, place_of}
use Rattle.vm_theory.specs.Stands.{stack_at}
use Rattle.vm_theory.specs.Table.{many_n, match_m, In, here as here-first, there, terms_of, is_atom_at}
use Rattle.vm_theory.proofs.Reach.{Reach}
use Rattle.vm_theory.proofs.Leads.{leads_same, atom_leads}
use Rattle.vm_theory.proofs.Bound.{bound_tm}
use Rattle.vm_theory.proofs.Places.{site_place}
use Rattle.vm_theory.proofs.Located.{Located, l_listed, l_match, l_other}
use Rattle.vm_code.specs.Values.{tag_of, body_of, unit_value}
use Rattle.vm_code.specs.Words.{count_of, offset_of, branch_place, other_place, entry_place, close_place, term_count}
use Rattle.vm_code.specs.Words as code
use Rattle.vm_code.specs.Classes as classes
use Rattle.vm_theory.specs.Says.{SaysPattern, says_end, says_rest}
use Rattle.vm_machine.specs.declared.Regs.{Regs}
use Rattle.vm_machine.specs.Registers.{frame_slots, set_pools, stepped}
use Rattle.vm_pools.specs.Pools.{whole, charge_bindings}
use Rattle.vm_machine.specs.Quotas.{quota_of}
use Rattle.vm_machine.specs.Memory.{Memory, kept_base, is_kept, slot_held, held_stack}
use Rattle.vm_machine.specs.States.{State, judged}
use Rattle.vm_machine.specs.Fetch.{code_at, atom_value}
use Rattle.vm_machine.specs.Stacks.{binds_rest, matches, variables, Chained, bind_entries, look_on, entry_at, cut_term, looked_byte, unlooked, stack_to_come}
use Rattle.vm_machine.specs.Stacks as machine
use Rattle.vm_machine.specs.Turn.{entry_from, begun_at, begin_operand, reduce_match, entries_from, begin_match}
use Rattle.vm_machine.specs.Run.{turns_per_step}
use Rattle.vm_machine_correct.proofs.Setup.{Setup}
use Rattle.vm_machine_correct.proofs.Pools.{whole_charged}
use Rattle.vm_machine_correct.proofs.Relations.{Sizes, sizes, IsBody, IsVal, IsEnv, val_like, val_grows, Grows}
use Rattle.vm_machine_correct.proofs.Tables.{grows_refl, slots_refl}
use Rattle.vm_machine_correct.proofs.Store.{Store, resized, store_charged, store_told}
use Rattle.vm_machine_correct.proofs.Slots.{slot_of, byte_of, MatchIs, stack_to_come_lem, entries_looked}
use Rattle.vm_machine_correct.proofs.Simulation.{InPlace}
use Rattle.vm_machine_correct.proofs.Fetch.{atom_is}
use Rattle.vm_machine_correct.proofs.Steps.{level, measure, After, Stepping, judged_now, if_bindings_lem}
use Rattle.vm_machine_correct.proofs.Gives.{calls}
use Rattle.vm_machine_correct.proofs.Entries.{word_atom, entry_from_lem, begun_at_lem}
use Rattle.vm_machine_correct.proofs.Listed.{operand_begins}
use Rattle.vm_machine_correct.proofs.Pointcuts.{after_mono}
use Rattle.vm_machine_correct.proofs.Looking.{top_has, Looked, nothing_yet, found, is_found, looked_matches}
use Rattle.vm_machine_correct.proofs.Linking.{Chains, counted, bound_all}
use Rattle.vm_machine_correct.proofs.Looks.{kept_top, Stops, all_looked, stopped_at, looked_on, looked_says}

no_later : (us : List CVal) → us ++ [] ≡ us
no_later [] = refl
no_later (u ∷ us) = ap (λ (x : List CVal). u ∷ x) (no_later us)

held_word : (v f : ℕ) → slot_held f ≡ v / 268435456 → (tag_of (held_stack f) ≡ tag_of v) × (body_of (held_stack f) ≡ body_of v)
held_word v f q = (omega arith, omega arith)

module _ (Θ : Setup) where
  module _ (S : State) (k : ℕ) (s : CState) (m : ℕ) (P : Site) (A : Chain) (D : Slots) (p : InPlace Θ S k s m P A D) (pc : S.regs.pc ≡ m) (pat : Pattern) (f g x₀ : ℕ) (cuts : List ℕ)
      (node : Θ.table.node m ≡ many_n (match_m pat f g) (x₀ ∷ cuts)) (few : count_of (code_at Θ.program m) ≤ 8)
      (first : le16 Θ.program.image (branch_place (code_at Θ.program m)) % term_count ≡ f) (other : le16 Θ.program.image (other_place (code_at Θ.program m)) % term_count ≡ g)
      (pattern : SaysPattern Θ.program.image (entry_place (code_at Θ.program m) 0) (count_of (code_at Θ.program m)) pat cuts) (b : ℕ)
      (bounded : turns_per_step * S.regs.fuel + (S.regs.frames + 1) ≤ b) where
    abbrev M : Memory
    M = S.memory

    abbrev r : Regs
    r = S.regs

    abbrev z : Sizes
    z = sizes r

    abbrev w : ℕ
    w = code_at Θ.program m

    abbrev K : Stack
    K = stack_at P A D

    abbrev o : OpN
    o = match_n pat (Θ.table.term f) (Θ.table.term g)

    abbrev Progresses : State → Type 0
    Progresses S' = After Θ b S'

    st : Store Θ M S.log z s
    st = p.common.store

    small : m < term_count
    small = Θ.says.few m p.no_atom

    -- An operand y that is no atom begins; v is the word of the stack.
    module _ (vs : List CVal) (es : Tms) (y v byte : ℕ) (a : is_atom_at Θ.table y ≡ false) (listed : In y (x₀ ∷ cuts))
        (reach : Reach Θ.sound k s (eval (Θ.table.term y) P.env) (op_nf o vs es P.env ∷ K))
        (are : (M' : Memory) → Grows M z M' z → (h byte' : ℕ) → slot_held h ≡ v / 268435456 → byte' ≡ byte → MatchIs Θ M' z h byte' m pat (Θ.table.term f) (Θ.table.term g) vs es) where
      pub operand_now : Progresses (begin_operand Θ.program m y v byte S)
      operand_now =
          operand_begins Θ S k s m P A D p pc b bounded (match_m pat f g) (x₀ ∷ cuts) node o vs es y a listed reach (v / 268435456) byte
          (λ M' grown i is held same. (is, are M' grown (slot_of M' i) (byte_of M' i) held same)) (entry_from term_count Θ.program y) (entry_from_lem Θ y (Θ.says.few y a) a)

    -- The stack's word v stands for k₀.
    module _ (v : ℕ) (k₀ : CVal) (iv : IsVal Θ M z v k₀) where
      -- Whether the close fits too.
      close_is : {q : Pattern} → SaysPattern Θ.program.image (close_place w) 0 q [] → (x : ℕ) (kk : CVal) → IsVal Θ M z x kk → (binds_rest Θ.program w || not (is_kept x)) ≡ is_found (found q [] kk)
      unfolding cases
      close_is (says_end e) x kk i = rw (e, kept_top Θ M z i) (by (top_of_c kk))
        where
          by : (t : Option (Entry CVal × CVal)) → not (top_has t) ≡ is_found (cases t (λ y. none) (λ n. some []))
          by none = refl
          by (some y) = refl
      close_is (says_rest {v = y} e) x kk i = rw (ne_eqb (le16 Θ.program.image (close_place w)) 0 (λ q. omega (arith, e)))

      branches : (us : List CVal) (q : Pattern) (kk : CVal) (j : machine.Looked) → Looked pat k₀ (count_of w) us q kk j.fits → SaysPattern Θ.program.image (close_place w) 0 q [] → IsVal Θ M z j.rest kk
          → matches Θ.program w j ≡ is_found (found pat us k₀)
      branches us q kk j l e i = ap (λ (x : Bool). j.fits && x) (close_is e j.rest kk i) ∙ sym (looked_matches l []) ∙ ap (λ (x : List CVal). is_found (found pat x k₀)) (no_later us)

      module _ (c : Control) (F : Stack) (us : List CVal) (j : machine.Looked) (same : matches Θ.program w j ≡ is_found (found pat us k₀)) where
        abbrev At : CAnswer → Type 0
        At a = Stepping Θ S k s m P A D c F a

        abbrev saying : Bool → CState → CState
        saying t s' = add_event (record { dom = (place_of P A).dom; said = branched t }) s'

        body_of_lem : (t : ℕ) → t < term_count → Located Θ.linked t [] (dom_at P) → IsBody Θ (begun_at Θ.program t) (Θ.table.term t) (dom_at P)
        body_of_lem t h l = record { number = t; begins = (begun_at_lem Θ t h, h); term = refl; located = l }

        taken : (found' : Option (List CVal)) → found pat us k₀ ≡ found'
            → At (branch (place_of P A) s (λ ws. eval (Θ.table.term f) (link_all ws P.env)) (eval (Θ.table.term g) P.env) found') → After Θ (measure S) (reduce_match Θ.program w v j S)
        unfolding reduce_match
        taken none e R =
            rw (same ∙ ap is_found e, other)
            (calls R M S.log (stepped r) (saying false s)
            (record { regs = record { env = refl; frames = refl; fuel = refl; pc = refl; kept = refl }; store = store_told Θ M S.log z s (place_of P A).dom false st; used = p.common.used; grows = grows_refl M z; slots = slots_refl M; keeps = λ i. refl })
            (begun_at Θ.program g) r.env (Θ.table.term g) (dom_at P) P.env (body_of_lem g (omega (arith, other)) (l_other p.located node)) p.env p.env_fits refl refl)
        taken (some ws) e R =
            let count : variables Θ.program w (count_of w) 0 ≡ length ws = counted Θ Θ.program w pattern 0 refl (omega arith) k₀ us ws e in
            rw (same ∙ ap is_found e, first, count)
            (if_bindings_lem (measure S) (length ws) (λ s₁. reduct (saying true s₁) (eval (Θ.table.term f) (link_all ws P.env))) _ R
            (λ fit used Q.
            let q : Regs = set_pools (charge_bindings (quota_of w) (length ws) r.pools) (stepped r) in
            let s' : CState = with_uses (add_uses s.used (at_dom (dom_at P) (some_bindings (length ws)))) s in
            let X : Chained = bind_entries Θ.program w (count_of w) 0 v (record { memory = M; count = whole r.pools.bindings; env = r.env }) in
            let t : Chains Θ M z (length ws) (link_all ws P.env) X = bound_all Θ Θ.program w pattern 0 refl (omega arith) M z v r.env k₀ us ws P.env st.words st.counts.pieces_fit iv p.env p.env_fits e fit in
            let more : whole q.pools.bindings ≡ whole r.pools.bindings + length ws = whole_charged (quota_of w) (length ws) r.pools.bindings in
            let z' : sizes q ≡ resized Θ (whole r.pools.bindings + length ws) z.np z = ap (λ (n : ℕ). resized Θ n z.np z) more in
            let grown : Grows M z X.memory (sizes q) = subst (λ (y : Sizes). Grows M z X.memory y) (sym z') t.grows in
            calls Q X.memory S.log q (saying true s')
            (record {
              regs = record { env = refl; frames = refl; fuel = refl; pc = refl; kept = refl };
              store =
                  store_told Θ X.memory S.log (sizes q) s' (place_of P A).dom true
                  (store_charged Θ M S.log z s st X.memory (whole q.pools.bindings) z.np s'.used grown
                  (record { words = t.above.words; kept = λ i l. t.above.kept i (omega arith) }) (rw t.beside st.beside) (omega (arith, more)) st.counts.pieces_fit);
              used = used;
              grows = grown;
              slots = record { word = λ i l u. t.above.kept i l; byte = t.beside };
              keeps = λ i. t.above.kept (kept_base + i) (omega arith);
            })
            (begun_at Θ.program f) X.env (Θ.table.term f) (dom_at P) (link_all ws P.env) (body_of_lem f (omega (arith, first)) (l_match p.located node))
            (subst (λ (y : Sizes). IsEnv Θ X.memory y X.env (link_all ws P.env)) (sym z') t.env) t.fits refl refl))

      -- All operands are worked out.
      made_now : (us : List CVal) (q : Pattern) (kk u : CVal) (vs : List CVal) (j : machine.Looked) → Looked pat k₀ (count_of w) us q kk j.fits → SaysPattern Θ.program.image (close_place w) 0 q [] → reverse (u ∷ vs) ≡ k₀ ∷ us
          → IsVal Θ M z j.rest kk → Reach Θ.sound k s (ret u) (op_nf o vs end P.env ∷ K) → Progresses (judged w S (reduce_match Θ.program w v j S))
      made_now us q kk u vs j l e t i reach =
          let at : place_at K ≡ place_of P A = site_place P A D p.stood.0 p.fine in
          let low : level r ≤ r.frames + 1 = omega (arith, ap (λ (x : Bool). choose x (frame_slots + 2) (r.frames + 1)) (ne_eqb r.pc code.return_pc (λ y. omega (arith, small, pc)))) in
          let F : Stack = op_nf o vs end P.env ∷ K in
          after_mono Θ {b = measure S} (omega arith)
          (judged_now (measure S) (reduce_match Θ.program w v j S)
          (record { place = p; pc = pc; reach = reach; is = ap (λ (X : Place). reduces (framed X (reduce_nc Θ.given X s o P.env (u ∷ vs))) K) at })
          (λ R. taken (ret u) F us j (branches us q kk j l e i) (found pat us k₀) refl
          (subst
          (λ (x : List CVal). Stepping Θ S k s m P A D (ret u) F (match_on top_of_c (λ y. labels_of (unload_val y)) (place_of P A) s pat (λ ws. eval (Θ.table.term f) (link_all ws P.env)) (eval (Θ.table.term g) P.env) x))
          t R)))

      -- From the entries that were looked at on.
      pub entries_now : (n : ℕ) (us : List CVal) (q : Pattern) (kk u : CVal) (vs : List CVal) (t : Bool) (rest : ℕ) (ys : List ℕ) → Looked pat k₀ n us q kk t → SaysPattern Θ.program.image (entry_place w n) (count_of w - n) q ys → n ≤ count_of w
          → drop (length us) cuts ≡ ys → reverse (u ∷ vs) ≡ k₀ ∷ us → IsVal Θ M z rest kk → Reach Θ.sound k s (ret u) (op_nf o vs (terms_of Θ.table ys) P.env ∷ K)
          → Progresses (entries_from Θ.program m v (record { next = n; rest = rest; fits = t }) S)
      entries_now n us q kk u vs t rest ys l e low d back i reach =
          by (look_on Θ.program M r.env w (count_of w - n) (record { next = n; rest = rest; fits = t }))
          (looked_on Θ M z r.env P.env p.env p.env_fits k s K m pat f g x₀ cuts node p.located w k₀ e n refl (omega arith) us kk t u vs rest d l back i reach)
        where
          by : (j : machine.Looked) → Stops Θ M z r.env P.env p.env p.env_fits k s K m pat f g x₀ cuts node p.located w k₀ j
              → Progresses (choose (leb (count_of w) j.next) (judged w S (reduce_match Θ.program w v j S)) (begin_operand Θ.program m (cut_term (entry_at Θ.program w j.next)) v (looked_byte j) S))
          by j (all_looked us' q' kk' u' vs' l' e' t' i' n' r') = rw (le-leb (count_of w) j.next (omega (arith, n'))) (made_now us' q' kk' u' vs' j l' e' t' i' r')
          by j (stopped_at us' q' kk' u' vs' y ys' l' t' n' c' a' in' d' r') =
              rw (lt-leb (count_of w) j.next n', c')
              (operand_now (u' ∷ vs') (terms_of Θ.table ys') y v (looked_byte j) a' (there in') r'
              (λ M' grown h byte' held same. entries_looked node refl refl (let q = held_word v h held in val_like Θ M' z q.0 q.1 (val_grows Θ M z M' z grown iv)) l' (omega (arith, few)) same t' (ap (terms_of Θ.table) (sym d'))))

    -- The match begins: with its stack, or with its entries.
    pub begin_now : le16 Θ.program.image (offset_of w) % term_count ≡ x₀ → Reach Θ.sound k s (eval (match pat (more (Θ.table.term x₀) (terms_of Θ.table cuts)) (Θ.table.term f) (Θ.table.term g)) P.env) K → Progresses (begin_match Θ.program S)
    unfolding begin_match close work
    begin_now at reach =
        subst (λ (t : ℕ). Progresses (with_operand t (le16 Θ.program.image (offset_of (code_at Θ.program t)) % term_count))) (sym pc)
        (subst (λ (x : ℕ). Progresses (with_operand m x)) (sym at) (subst (λ (a : Bool). Progresses (choose a (entries_from Θ.program m v (unlooked v) S) (begin_operand Θ.program m x₀ unit_value stack_to_come S))) (sym (word_atom Θ x₀ low)) (try (is_atom_at Θ.table x₀) refl)))
      where
        with_operand : ℕ → ℕ → State
        with_operand t x =
            choose (classes.is_atom (code_at Θ.program x)) (entries_from Θ.program t (atom_value Θ.program M r.env (code_at Θ.program x)) (unlooked (atom_value Θ.program M r.env (code_at Θ.program x))) S) (begin_operand Θ.program t x unit_value stack_to_come S)

        low : x₀ < term_count
        low = omega (arith, at)

        next : Reach Θ.sound k s (eval (Θ.table.term x₀) P.env) (op_nf o [] (terms_of Θ.table cuts) P.env ∷ K)
        next =
            (leads_same Θ.sound s {c = eval (match pat (more (Θ.table.term x₀) (terms_of Θ.table cuts)) (Θ.table.term f) (Θ.table.term g)) P.env} {c' = eval (Θ.table.term x₀) P.env} {K = K} {K' = op_nf o [] (terms_of Θ.table cuts) P.env ∷ K} refl (omega arith)
            ).reached k reach

        v : ℕ
        v = atom_value Θ.program M r.env (code_at Θ.program x₀)

        try : (a : Bool) → is_atom_at Θ.table x₀ ≡ a → Progresses (choose a (entries_from Θ.program m v (unlooked v) S) (begin_operand Θ.program m x₀ unit_value stack_to_come S))
        try true a =
            let u : CVal = atom_of (Θ.table.term x₀) P.env in
            let iv : IsVal Θ M z v u = atom_is Θ M z r.env P.env p.env p.env_fits x₀ low a (l_listed p.located node here-first) (bound_tm Θ.sound k s (Θ.table.term x₀) P.env _ next) in
            let none : Looked pat u 0 [] pat u true = nothing_yet in
            let l = looked_says Θ.program w pattern none in
            entries_now v u iv 0 [] pat u u [] true v cuts nothing_yet l.1 (omega arith) refl refl iv ((atom_leads Θ.sound s (Θ.table.term x₀) P.env _ a).reached k next)
        try false a = operand_now [] (terms_of Θ.table cuts) x₀ unit_value stack_to_come a here-first next (λ M' grown h byte' held same. stack_to_come_lem node refl refl same refl refl)
