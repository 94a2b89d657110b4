-- The reductions that make a piece: pairs, pointcuts and advice.
use Prim.Native.Nat.{ℕ, ◌+◌, ◌*◌, ◌≤◌, ◌<◌}
use native.Mathlib.Omega.{arith}
use mathlib.Core.Path.{◌≡◌, refl, ap, ◌∙◌}
use mathlib.Core.List.{List, [], ◌∷◌, map}
use mathlib.Core.Option.{some}
use lib.ListN.{length, length-set}
use Rattle.calculus.specs.Combinators.{cases}
use Rattle.calculus.specs.Syntax.{Dom, Ty, Tm, Op2}
use Rattle.calculus.specs.State.{with_uses, add_uses, at_dom, one_piece}
use Rattle.calculus.specs.Answer.{reduct, with}
use Rattle.calculus.specs.Reduce.{piece, collect}
use Rattle.image.specs.Limits.{domain_limit}
use Rattle.closure_machine.specs.Closure.{CVal, Env, CState, unload_val}
use Rattle.closure_machine.specs.Machine.{Control, ret, pcd_n, Stack, CAnswer, reduce2_c, reduce_nc, reduce_adv_c}
use Rattle.vm_theory.specs.Conf.{Site, Chain, Slots, dom_at, place_of}
use Rattle.vm_code.specs.Values.{value}
use Rattle.vm_code.specs.Words.{field_b, field_c, target_count}
use Rattle.vm_machine.specs.declared.Regs.{Regs}
use Rattle.vm_machine.specs.Registers.{set_pools, stepped}
use Rattle.vm_pools.specs.Pools.{whole, charge_pieces}
use Rattle.vm_machine.specs.Quotas.{quota_of}
use Rattle.vm_machine.specs.Memory.{Memory, kept_base, put_word, piece_first, piece_second, put_piece, piece_of, label_set, advice_word, advice_target, advice_env, advice_dom, cell_base, binding_places, piece_places, piece_base}
use Rattle.vm_machine.specs.States.{State, if_fuel, completed}
use Rattle.vm_machine.specs.Fetch.{code_at}
use Rattle.vm_machine.specs.Reduce.{new_piece, reduce_advice}
use Rattle.vm_machine_correct.proofs.Setup.{Setup}
use Rattle.vm_machine_correct.proofs.Pools.{Used, whole_charged}
use Rattle.vm_machine_correct.proofs.Relations.{Sizes, sizes, labels_at, IsBody, body_at, IsVal, is_pair, is_labels, is_advice_lem, at_piece, val_at, env_at, Grows, val_grows, env_grows}
use Rattle.vm_machine_correct.proofs.Tables.{word_same, word_other, grows_put, grows_sizes, grows_trans, above_put, above_trans, slots_put, slots_trans}
use Rattle.vm_machine_correct.proofs.Store.{Store, store_charged}
use Rattle.vm_machine_correct.proofs.Labels.{Labels, digits_of, onto, set_of_labels}
use Rattle.vm_machine_correct.proofs.Views.{AsPointcut, a_pointcut, no_pointcut, as_pointcut}
use Rattle.vm_machine_correct.proofs.Steps.{measure, After, Stepping, no_way, if_pieces_lem}
use Rattle.vm_machine_correct.proofs.Gives.{gives}
use Rattle.vm_machine_correct.proofs.Values.{tag_value}

piece_word : (t p : ℕ) → t < 16 → p < piece_places → piece_of (value t p) ≡ p
piece_word t p h g = omega arith

pub collected : (ds ls : List ℕ) → collect (map unload_val (map CVal.label ds)) ls ≡ some (onto ds ls)
unfolding cases unload_val
collected [] ls = refl
collected (d ∷ ds) ls = collected ds (d ∷ ls)

advice_word_lem : (t e d : ℕ) → t < target_count → e < binding_places → d < domain_limit → (advice_target (advice_word t e d) ≡ t) × (advice_env (advice_word t e d) ≡ e) × (advice_dom (advice_word t e d) ≡ d)
advice_word_lem t e d h g f = (omega arith, omega arith, omega arith)

module _ (Θ : Setup) (S : State) (k : ℕ) (s : CState) (m : ℕ) (P : Site) (A : Chain) (D : Slots) (c : Control) (F : Stack) where
  abbrev At : CAnswer → Type 0
  At a = Stepping Θ S k s m P A D c F a

  abbrev Progresses : State → Type 0
  Progresses S' = After Θ (measure S) S'

  -- The step is made, if one is left of the budget.
  abbrev Made : State → Type 0
  Made S' = Progresses (if_fuel S S')

  abbrev M : Memory
  M = S.memory

  abbrev r : Regs
  r = S.regs

  abbrev z : Sizes
  z = sizes r

  abbrev np : ℕ
  np = whole r.pools.pieces

  abbrev w : ℕ
  w = code_at Θ.program m

  abbrev Is : ℕ → CVal → Type 0
  Is x v = IsVal Θ M z x v

  -- The tables and sizes with a piece more.
  abbrev tables : ℕ → ℕ → Memory
  tables x y = put_piece np x y M

  abbrev larger : Sizes
  larger = sizes (set_pools (charge_pieces (quota_of w) 1 r.pools) r)

  one_larger : larger.np ≡ np + 1
  one_larger = whole_charged (quota_of w) 1 r.pools.pieces

  new_piece_lem : (t x y : ℕ) (v : CVal) → At (piece (dom_at P) s (ret v))
      → (np < piece_places → Grows M z (tables x y) larger → piece_first (tables x y) np ≡ x → piece_second (tables x y) np ≡ y → IsVal Θ (tables x y) larger (value t np) v) → Progresses (new_piece w t x y S)
  new_piece_lem t x y v R made =
      if_pieces_lem (measure S) 1 (λ s₁. reduct s₁ (ret v)) _ R is
    where
      st : Store Θ M S.log z s
      st = R.place.common.store

      i : ℕ
      i = piece_base + 2 * np

      quota : Memory
      quota = put_word i x M

      g : Grows M z (tables x y) larger
      g =
          grows_trans (grows_put M z i x (omega (arith, st.counts.bindings_fit)) (λ j h e. omega arith))
          (grows_trans (grows_put quota z (i + 1) y (omega (arith, st.counts.bindings_fit)) (λ j h e. omega arith)) (grows_sizes (tables x y) z larger (omega arith) (omega (arith, one_larger))))

      after : Regs
      after = stepped (set_pools (charge_pieces (quota_of w) 1 r.pools) r)

      s' : CState
      s' = with_uses (add_uses s.used (at_dom (dom_at P) one_piece)) s

      is : np + 1 ≤ piece_places → Used after.pools s'.used → At (reduct s' (ret v)) → Made (completed w (value t np) (record { memory = tables x y; log = S.log; regs = after }))
      is h u Q =
          let frames : np < piece_places = omega arith in
          let first : piece_first (tables x y) np ≡ x = word_other quota (i + 1) y i (λ e. omega arith) ∙ word_same M i x (omega (arith, st.words)) in
          let second : piece_second (tables x y) np ≡ y = word_same quota (i + 1) y (rw (length-set M.words i x) (omega (arith, st.words))) in
          gives Q (tables x y) S.log after s'
          (record {
            regs = record { env = refl; frames = refl; fuel = refl; pc = refl; kept = refl };
            store =
                store_charged Θ M S.log z s st (tables x y) z.nb larger.np s'.used g
                (above_trans (above_put M cell_base i x (omega arith)) (above_put quota cell_base (i + 1) y (omega arith))) st.beside st.counts.bindings_fit (omega (arith, one_larger));
            used = u;
            grows = g;
            slots = slots_trans (slots_put M i x (λ a b. omega arith)) (slots_put quota (i + 1) y (λ a b. omega arith));
            keeps = λ j. word_other quota (i + 1) y (kept_base + j) (λ e. omega arith) ∙ word_other M i x (kept_base + j) (λ e. omega arith);
          })
          (value t np) v refl (made frames g first second)

  pub pair_now : (y : Ty) {x x' : ℕ} {v v' : CVal} → Is x v → Is x' v' → At (reduce2_c Θ.given (place_of P A) s Op2.pair y v v') → Progresses (new_piece w 4 x x' S)
  pair_now y {x} {x'} {v} {v'} i i' R =
      new_piece_lem 4 x x' (CVal.pair v v') R
      (λ frames g first second.
      let word : piece_of (value 4 np) ≡ np = piece_word 4 np (omega arith) frames in
      let M' : Memory = tables x x' in
      is_pair (tag_value 4 np (omega arith)) (omega (arith, one_larger)) (val_at Θ M' larger (ap (λ (j : ℕ). piece_first M' j) word ∙ first) (val_grows Θ M z M' larger g i))
      (val_at Θ M' larger (ap (λ (j : ℕ). piece_second M' j) word ∙ second) (val_grows Θ M z M' larger g i')))

  pub pointcut_now : (ρ : Env) (ds : List ℕ) (n : ℕ) → Labels ds → length ds ≡ n → At (reduce_nc Θ.given (place_of P A) s pcd_n ρ (map CVal.label ds)) → Progresses (new_piece w 7 0 (label_set n (digits_of ds) 0) S)
  unfolding with
  pointcut_now ρ ds n ls few R =
      new_piece_lem 7 0 (label_set n (digits_of ds) 0) (CVal.pointcut (onto ds [])) (rw (collected ds []) at R)
      (λ frames g first second.
      let word : piece_of (value 7 np) ≡ np = piece_word 7 np (omega arith) frames in
      let M' : Memory = tables 0 (label_set n (digits_of ds) 0) in
      is_labels (tag_value 7 np (omega arith)) (omega (arith, one_larger)) (labels_at (ap (λ (j : ℕ). piece_second M' j) word ∙ second) (record { has = λ l h. set_of_labels ls n few l })))

  pub advice_now : {x : ℕ} {v : CVal} (d : Dom) (e : Tm) → IsBody Θ (field_b w) e d → field_c w ≡ d → d < domain_limit → Is x v → At (reduce_adv_c (place_of P A) s d e P.env v) → Progresses (reduce_advice w x S)
  unfolding with unload_val
  advice_now {x} d e b q low i R = try (as_pointcut Θ M z i) R
    where
      one : ℕ
      one = advice_word (field_b w) r.env (field_c w)

      two : ℕ
      two = piece_second M (piece_of x)

      try : {u : CVal} → AsPointcut Θ M z x u → At (reduce_adv_c (place_of P A) s d e P.env u) → Progresses (reduce_advice w x S)
      try (a_pointcut {ls = ls} a h il) Q =
          new_piece_lem 8 one two (CVal.advice d ls e P.env) Q
          (λ frames g first second.
          let word : piece_of (value 8 np) ≡ np = piece_word 8 np (omega arith) frames in
          let M' : Memory = tables one two in
          let f : piece_first M' (piece_of (value 8 np)) ≡ one = ap (λ (j : ℕ). piece_first M' j) word ∙ first in
          let parts = advice_word_lem (field_b w) r.env (field_c w) (omega arith) Q.place.env_fits (omega arith) in
          is_advice_lem (tag_value 8 np (omega arith))
          (at_piece {p = piece_of (value 8 np)} (omega (arith, one_larger)) (body_at Θ (ap advice_target f ∙ parts.0) b) (ap advice_dom f ∙ parts.2 ∙ q)
          (env_at Θ M' larger (ap advice_env f ∙ parts.1) (env_grows Θ M z M' larger g Q.place.env)) (labels_at (ap (λ (j : ℕ). piece_second M' j) word ∙ second) il)))
      try (no_pointcut p) Q = no_way Q (rw p)
