-- The reductions that make bindings: application, calls of methods and split.
use Prim.Native.Nat.{ℕ, zero, suc, ◌+◌, ◌*◌, ◌%◌, ◌≤◌, ◌<◌}
use native.Mathlib.Omega.{arith}
use native.Mathlib.Nat.{mod-eq_of_lt}
use mathlib.Core.Path.{◌≡◌, refl, sym, ap, subst, ◌∙◌}
use mathlib.Core.List.{List, [], ◌∷◌}
use mathlib.Core.Option.{Option, none, some, none-ne-some, some-injective}
use lib.ListN.{length, get_or, get_elem?, length-set}
use borrow.Author.Tests.{lt-ltb}
use Rattle.calculus.specs.Plain.{dom_of, methods_of, method_dom}
use Rattle.calculus.specs.Syntax.{Dom, Ty, Tm, Tms, call, app}
use Rattle.calculus.specs.State.{with_uses, add_uses, at_dom, some_bindings}
use Rattle.calculus.specs.Answer.{reduct, with}
use Rattle.calculus.specs.Reduce.{bind, method_body}
use Rattle.image.specs.Bytes.{le16}
use Rattle.closure_machine.specs.Closure.{CVal, Env, link, CState}
use Rattle.closure_machine.specs.Machine.{Control, eval, Stack, CAnswer, reduce1_c, reduce2_c, reduce_split_c}
use Rattle.vm_theory.specs.Conf.{Site, Chain, Slots, dom_at, place_of}
use Rattle.vm_theory.specs.Table.{obj_n, Node, Table, terms_of}
use Rattle.vm_theory.proofs.Located.{l_method}
use Rattle.vm_code.specs.Values.{body_of, tag_of}
use Rattle.vm_code.specs.Words.{field_b, method_target, list_offset, term_count, target_count}
use Rattle.vm_theory.specs.Says.{Says, says_object, SaysBodies, bodies_here, bodies_listed, SaysTarget}
use Rattle.vm_machine.specs.declared.Regs.{Regs}
use Rattle.vm_machine.specs.Registers.{set_pools, stepped}
use Rattle.vm_pools.specs.Pools.{whole, charge_bindings}
use Rattle.vm_machine.specs.Quotas.{quota_of}
use Rattle.vm_machine.specs.Memory.{Memory, kept_base, binding, bound_target, bound_link, no_binding, binding_at, put_binding, closure_env, piece_first, piece_second, piece_of, cell_base, binding_places, piece_places}
use Rattle.vm_machine.specs.States.{State, if_fuel}
use Rattle.vm_machine.specs.Fetch.{code_at, called}
use Rattle.vm_machine.specs.Reduce.{if_bindings, reduce_apply, reduce_split}
use Rattle.vm_machine.specs.Turn.{begun_at, call_body, reduce_call}
use Rattle.base_bytes.specs.Memory.{word_count}
use Rattle.vm_machine_correct.proofs.Setup.{Setup}
use Rattle.vm_machine_correct.proofs.Pools.{Used, whole_charged}
use Rattle.vm_machine_correct.proofs.Relations.{Sizes, sizes, IsBody, IsObject, IsVal, IsEnv, is_link, env_outside, val_like, val_at, env_at, Grows, val_grows, env_grows}
use Rattle.vm_machine_correct.proofs.Tables.{word_other, word_same, grows_put, grows_sizes, grows_trans, Above, above_put, above_trans, SameSlots, slots_put, slots_trans}
use Rattle.vm_machine_correct.proofs.Store.{Store, resized, store_charged}
use Rattle.vm_machine_correct.proofs.Views.{AsFunction, a_function, no_function, as_function, AsObject, an_object, no_object, as_object, AsPair, a_pair, no_pair, as_pair}
use Rattle.vm_machine_correct.proofs.Steps.{measure, After, Stepping, no_way, if_bindings_lem}
use Rattle.vm_machine_correct.proofs.Entries.{begun_at_lem}
use Rattle.vm_machine_correct.proofs.Gives.{calls}

-- The parts of a binding.
pub binding_word : (v t l : ℕ) → t < target_count → l < 65536 → (tag_of (binding v t l) ≡ tag_of v) × (body_of (binding v t l) ≡ body_of v) × (bound_target (binding v t l) ≡ t) × (bound_link (binding v t l) ≡ l)
binding_word v t l h g = (omega arith, omega arith, omega arith, omega arith)

-- The bodies of an object, by their numbers (card 3).
listed_body : (T : Table) (bs : List ℕ) (j : ℕ) (e : Tm) → method_body (terms_of T bs) j ≡ some e → (b : ℕ) × (get_elem? bs j ≡ some b) × (get_or bs j 0 ≡ b) × (T.term b ≡ e) × (j < length bs)
listed_body T [] j e p = absurd (none-ne-some e p)
listed_body T (b ∷ bs) zero e p = (b, refl, refl, some-injective (T.term b) e p, omega arith)
listed_body T (b ∷ bs) (suc j) e p = let i = listed_body T bs j e p in (i.0, i.1, i.2, i.3, omega (arith, i.4))

bodies_said : (T : Table) (image : List ℕ) (w : ℕ) {y : Ty} {bs : List ℕ} → Says T image w (obj_n y bs) → SaysBodies T image w bs
bodies_said T image w (says_object c h) = h

-- One more binding.
module _ (Θ : Setup) (M : Memory) (z : Sizes) (long : word_count ≤ length M.words) (frames : z.nb < binding_places) (fit : z.np ≤ piece_places) (w : ℕ) where
  abbrev pub binds : Memory
  binds = put_binding z.nb w M

  abbrev pub longer : Sizes
  longer = resized Θ (z.nb + 1) z.np z

  pub grows_bound : Grows M z binds longer
  grows_bound = grows_trans (grows_put M z (0 + z.nb) w (omega arith) (λ i h e. omega arith)) (grows_sizes binds z longer (omega arith) (omega arith))

  pub at_bound : binding_at binds z.nb ≡ w
  at_bound = word_same M (0 + z.nb) w (omega arith)

  pub env_bound_to : (v t l : ℕ) → binding v t l ≡ w → t < target_count → l < 65536 → {u : CVal} {ρ : Env} → IsVal Θ M z v u → IsEnv Θ M z l ρ → IsEnv Θ binds longer z.nb (link u ρ)
  env_bound_to v t l e h g iv ie =
      let parts = binding_word v t l h g in
      let at : bound_link (binding_at binds z.nb) ≡ l = ap bound_link (at_bound ∙ sym e) ∙ parts.3 in
      is_link {l = z.nb} (omega arith)
      (val_at Θ binds longer (at_bound ∙ sym e) (val_like Θ binds longer parts.0 parts.1 (val_grows Θ M z binds longer grows_bound iv)))
      (env_at Θ binds longer at (env_grows Θ M z binds longer grows_bound ie)) (λ q. env_outside Θ M z (omega arith) ie (subst (λ (i : ℕ). no_binding ≤ i) at q))

  pub above_bound : Above cell_base M binds
  above_bound = above_put M cell_base (0 + z.nb) w (omega arith)

  pub slots_bound : SameSlots M binds
  slots_bound = slots_put M (0 + z.nb) w (λ a b. omega arith)

module _ (Θ : Setup) (S : State) (k : ℕ) (s : CState) (m : ℕ) (P : Site) (A : Chain) (D : Slots) (c : Control) (F : Stack) where
  abbrev At : CAnswer → Type 0
  At a = Stepping Θ S k s m P A D c F a

  abbrev Progresses : State → Type 0
  Progresses S' = After Θ (measure S) S'

  -- The step is made, if one is left of the budget.
  abbrev Made : State → Type 0
  Made S' = Progresses (if_fuel S S')

  abbrev M : Memory
  M = S.memory

  abbrev r : Regs
  r = S.regs

  abbrev z : Sizes
  z = sizes r

  abbrev n : ℕ
  n = whole r.pools.bindings

  abbrev w : ℕ
  w = code_at Θ.program m

  abbrev Is : ℕ → CVal → Type 0
  Is x v = IsVal Θ M z x v

  -- The state with n bindings more, and the registers after it.
  abbrev bound : ℕ → CState
  bound j = with_uses (add_uses s.used (at_dom (dom_at P) (some_bindings j))) s

  abbrev after : ℕ → Regs
  after j = set_pools (charge_bindings (quota_of w) j r.pools) (stepped r)

  larger : (j : ℕ) → sizes (after j) ≡ resized Θ (n + j) z.np z
  larger j = ap (λ (i : ℕ). resized Θ i z.np z) (whole_charged (quota_of w) j r.pools.bindings)

  -- The value u is bound in an environment, and the body e is called.
  bound_now : (g l : ℕ) {x : ℕ} {u : CVal} (e : Tm) (d : Dom) (ρ : Env) → l < 65536 → IsBody Θ g e d → d ≡ dom_at P → IsEnv Θ M z l ρ → Is x u → At (bind (dom_at P) 1 s (eval e (link u ρ)))
      → Progresses (if_bindings w 1 S (called Θ.program w g n (record { memory = put_binding n (binding x 0 l) M; log = S.log; regs = after 1 })))
  bound_now g l {x} {u} e d ρ low b same ie i Q =
      if_bindings_lem (measure S) 1 (λ s₁. reduct s₁ (eval e (link u ρ))) _ Q
      (λ frames used Q'.
      let fit : n < binding_places = omega arith in
      let f = subst (λ (y : Sizes). Grows M z (put_binding n word M) y) (sym (larger 1)) (grows_bound Θ M z st.words fit st.counts.pieces_fit word) in
      calls Q' (put_binding n word M) S.log (after 1) (bound 1)
      (record {
        regs = record { env = refl; frames = refl; fuel = refl; pc = refl; kept = refl };
        store =
            store_charged Θ M S.log z s st (put_binding n word M) (sizes (after 1)).nb z.np (bound 1).used f (above_bound Θ M z st.words fit st.counts.pieces_fit word) st.beside
            (omega (arith, ap (λ (y : Sizes). y.nb) (larger 1))) st.counts.pieces_fit;
        used = used;
        grows = f;
        slots = slots_bound Θ M z st.words fit st.counts.pieces_fit word;
        keeps = λ i. word_other M (0 + n) word (kept_base + i) (λ e. omega arith);
      })
      g n e d (link u ρ) b
      (subst (λ (y : Sizes). IsEnv Θ (put_binding n word M) y n (link u ρ)) (sym (larger 1)) (env_bound_to Θ M z st.words fit st.counts.pieces_fit word x 0 l refl (omega arith) low i ie)) fit same refl)
    where
      st : Store Θ M S.log z s
      st = Q.place.common.store

      word : ℕ
      word = binding x 0 l

  -- An application; the function's type names the current domain.
  pub apply_now : (y : Ty) {x x' : ℕ} {v v' : CVal} → ((t : Ty) (e : Tm) (ρ : Env) → v ≡ CVal.fun t e ρ → dom_of t ≡ dom_at P) → Is x v → Is x' v' → At (reduce2_c Θ.given (place_of P A) s app y v v')
      → Progresses (reduce_apply Θ.program w x x' S)
  unfolding with
  apply_now y {x} {x'} {v} {v'} doms i i' R = try (as_function Θ M z i) doms R
    where
      try : {u : CVal} → AsFunction Θ M z x u → ((t : Ty) (e : Tm) (ρ : Env) → u ≡ CVal.fun t e ρ → dom_of t ≡ dom_at P) → At (reduce2_c Θ.given (place_of P A) s app y u v') → Progresses (reduce_apply Θ.program w x x' S)
      try (a_function {y = t} {e = e} {ρ = ρ} b ie) d Q = bound_now (body_of x % target_count) (closure_env x) e (dom_of t) ρ (omega arith) b (d t e ρ refl) ie i' Q
      try (no_function p) d Q = no_way Q (rw p)

  -- Method j of the object x is its body b, which gives e.
  module _ (j : ℕ) {x : ℕ} {t : Ty} {es : Tms} {ρ : Env} (q : field_b w ≡ j % target_count) (o : IsObject Θ (body_of x % term_count) t es) (ie : IsEnv Θ M z (closure_env x) ρ)
      (d : method_dom (methods_of t) j ≡ dom_at P) (is : Is x (CVal.object t es ρ)) (e : Tm) (b : ℕ) (at : get_elem? o.bodies j ≡ some b) (get : get_or o.bodies j 0 ≡ b)
      (term : Θ.table.term b ≡ e) (there : j < length o.bodies) (Q : At (bind (dom_at P) 1 s (eval e (link (CVal.object t es ρ) ρ)))) where
    abbrev u : ℕ
    u = code_at Θ.program (body_of x % term_count)

    called_at : (g : ℕ) → SaysTarget Θ.table g b → Progresses (call_body Θ.program w x g S)
    called_at g h =
        bound_now g (closure_env x) e (method_dom (methods_of t) j) ρ (omega arith) (record { number = b; begins = h; term = term; located = l_method j o.located o.node at }) d ie is Q

    named : length o.bodies ≤ 8 → field_b w ≡ j
    named h = q ∙ mod-eq_of_lt {m = target_count} (omega arith)

    method_now : SaysBodies Θ.table Θ.program.image u o.bodies → Progresses (reduce_call Θ.program w x S)
    unfolding reduce_call
    method_now (bodies_here f few h) = rw (f, named (omega arith)) (called_at (method_target u j) (subst (λ (c : ℕ). SaysTarget Θ.table (method_target u j) c) get (h j there)))
    method_now (bodies_listed f few inside lists) =
        let child : le16 Θ.program.image (list_offset u + 2 * j) % term_count ≡ b = lists j there ∙ get in
        let low : b < term_count = omega arith in
        rw (f, named few, lt-ltb (list_offset u + 2 * j + 1) (length Θ.program.image) (omega arith)) (called_at (begun_at Θ.program (le16 Θ.program.image (list_offset u + 2 * j) % term_count)) (ap (begun_at Θ.program) child ∙ begun_at_lem Θ b low, low))

  -- A call of a method; the object's type names the current domain for it.
  pub call_now : (y : Ty) (j : ℕ) {x : ℕ} {v : CVal} → field_b w ≡ j % target_count → ((t : Ty) (es : Tms) (ρ : Env) → v ≡ CVal.object t es ρ → method_dom (methods_of t) j ≡ dom_at P) → Is x v
      → At (reduce1_c Θ.given (place_of P A) s (call j) y v) → Progresses (reduce_call Θ.program w x S)
  unfolding with
  call_now y j {x} {v} q doms i R = try (as_object Θ M z i) doms i R
    where
      found : {t : Ty} {es : Tms} {ρ : Env} → IsObject Θ (body_of x % term_count) t es → IsEnv Θ M z (closure_env x) ρ → method_dom (methods_of t) j ≡ dom_at P → Is x (CVal.object t es ρ)
          → (e : Option Tm) → method_body es j ≡ e → At (with e (λ f. bind (dom_at P) 1 s (eval f (link (CVal.object t es ρ) ρ)))) → Progresses (reduce_call Θ.program w x S)
      found o ie d is none p Q = no_way Q refl
      found o ie d is (some e) p Q =
          let b = listed_body Θ.table o.bodies j e (ap (λ (es : Tms). method_body es j) o.terms ∙ p) in
          let n : Says Θ.table Θ.program.image (code_at Θ.program (body_of x % term_count)) (Θ.table.node (body_of x % term_count)) = Θ.says.node (body_of x % term_count) o.small in
          method_now j q o ie d is e b.0 b.1 b.2 b.3 b.4 Q (bodies_said Θ.table Θ.program.image (code_at Θ.program (body_of x % term_count)) (subst (λ (node : Node). Says Θ.table Θ.program.image (code_at Θ.program (body_of x % term_count)) node) o.node n))

      try : {u : CVal} → AsObject Θ M z x u → ((t : Ty) (es : Tms) (ρ : Env) → u ≡ CVal.object t es ρ → method_dom (methods_of t) j ≡ dom_at P) → Is x u → At (reduce1_c Θ.given (place_of P A) s (call j) y u) → Progresses (reduce_call Θ.program w x S)
      try (an_object {y = t} {es = es} {ρ = ρ} b ie) d is Q = found b ie (d t es ρ refl) is (method_body es j) refl Q
      try (no_object p) d is Q = no_way Q (rw p)

  -- The first part is bound outside the second.
  pub split_now : {x : ℕ} {v : CVal} (e : Tm) → IsBody Θ (field_b w) e (dom_at P) → Is x v → At (reduce_split_c (place_of P A) s e P.env v) → Progresses (reduce_split Θ.program w x S)
  unfolding with
  split_now {x} e b i R = try (as_pair Θ M z i) R
    where
      st : Store Θ M S.log z s
      st = R.place.common.store

      one : ℕ
      one = piece_first M (piece_of x)

      two : ℕ
      two = piece_second M (piece_of x)

      word : ℕ
      word = binding one 0 r.env

      word' : ℕ
      word' = binding two 0 n

      M' : Memory
      M' = put_binding n word M

      z' : Sizes
      z' = resized Θ (n + 1) z.np z

      M'' : Memory
      M'' = put_binding (n + 1) word' M'

      made : {u t : CVal} → Is one u → Is two t → n + 2 ≤ binding_places → Used (after 2).pools (bound 2).used → At (reduct (bound 2) (eval e (link t (link u P.env))))
          → Made (called Θ.program w (field_b w) (n + 1) (record { memory = M''; log = S.log; regs = after 2 }))
      made {u} {t} iu it h used Q =
          let fit : n < binding_places = omega arith in
          let fit' : n + 1 < binding_places = omega arith in
          let words' : word_count ≤ length M'.words = rw (length-set M.words (0 + n) word) st.words in
          let g : Grows M z M' z' = grows_bound Θ M z st.words fit st.counts.pieces_fit word in
          let sum : n + 1 + 1 ≡ n + 2 = omega arith in
          let z'' : sizes (after 2) ≡ resized Θ (n + 1 + 1) z.np z' = larger 2 ∙ ap (λ (i : ℕ). resized Θ i z.np z) (sym sum) in
          let g' : Grows M' z' M'' (resized Θ (n + 1 + 1) z.np z') = grows_bound Θ M' z' words' fit' st.counts.pieces_fit word' in
          let g'' : Grows M z M'' (sizes (after 2)) = subst (λ (y : Sizes). Grows M z M'' y) (sym z'') (grows_trans g g') in
          let ie : IsEnv Θ M' z' n (link u P.env) =
          env_bound_to Θ M z st.words fit st.counts.pieces_fit word one 0 r.env refl (omega arith) (omega (arith, Q.place.env_fits)) iu Q.place.env in
          let ie' : IsEnv Θ M'' (resized Θ (n + 1 + 1) z.np z') (n + 1) (link t (link u P.env)) =
          env_bound_to Θ M' z' words' fit' st.counts.pieces_fit word' two 0 n refl (omega arith) (omega arith) (val_grows Θ M z M' z' g it) ie in
          calls Q M'' S.log (after 2) (bound 2)
          (record {
            regs = record { env = refl; frames = refl; fuel = refl; pc = refl; kept = refl };
            store =
                store_charged Θ M S.log z s st M'' (sizes (after 2)).nb z.np (bound 2).used g''
                (above_trans (above_bound Θ M z st.words fit st.counts.pieces_fit word) (above_bound Θ M' z' words' fit' st.counts.pieces_fit word')) st.beside
                (omega (arith, ap (λ (y : Sizes). y.nb) (larger 2))) st.counts.pieces_fit;
            used = used;
            grows = g'';
            slots = slots_trans (slots_bound Θ M z st.words fit st.counts.pieces_fit word) (slots_bound Θ M' z' words' fit' st.counts.pieces_fit word');
            keeps = λ i. word_other M' (0 + (n + 1)) word' (kept_base + i) (λ e. omega arith) ∙ word_other M (0 + n) word (kept_base + i) (λ e. omega arith);
          })
          (field_b w) (n + 1) e (dom_at P) (link t (link u P.env)) b (subst (λ (y : Sizes). IsEnv Θ M'' y (n + 1) (link t (link u P.env))) (sym z'') ie') fit' refl refl

      try : {u : CVal} → AsPair Θ M z x u → At (reduce_split_c (place_of P A) s e P.env u) → Progresses (reduce_split Θ.program w x S)
      try (a_pair {u = u} {s = t} p q iu it) Q =
          if_bindings_lem (measure S) 2 (λ s₁. reduct s₁ (eval e (link t (link u P.env)))) _ Q (made iu it)
      try (no_pair p) Q = no_way Q (rw p)
