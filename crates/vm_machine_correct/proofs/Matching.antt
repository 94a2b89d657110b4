-- The bindings that a mark makes: one for each advice that its label triggers, the newest first (card 8).
use Prim.Native.Nat.{ℕ, suc, ◌+◌, ◌%◌, ◌≤◌, ◌<◌}
use native.Mathlib.Omega.{arith}
use mathlib.Core.Path.{◌≡◌, refl, ap, subst, ◌∙◌}
use mathlib.Core.Bool.{Bool, true, false}
use mathlib.Core.List.{List, [], ◌∷◌, reverse, reverse_aux}
use lib.ListN.{length}
use lib.Dec.{ltb}
use borrow.Author.Tests.{lt-ltb, ltb-true}
use Rattle.calculus.specs.Combinators.{choose}
use Rattle.calculus.specs.Syntax.{Dom, Tm}
use Rattle.calculus.specs.State.{Advice, add_uses, some_bindings, advice_bindings}
use Rattle.calculus.specs.Compose.{member, matching}
use Rattle.calculus.specs.Limits.{label_limit}
use Rattle.closure_machine.specs.Closure.{CVal, Env, link, Body}
use Rattle.vm_pools.specs.declared.Pool.{Pool}
use Rattle.vm_pools.specs.Pools.{is_mainline, whole, charge}
use Rattle.vm_machine.specs.Memory.{Memory, binding_places, no_binding, slot_base, installed_base, binding, bound_target, bound_link, binding_at, put_binding, piece_first, piece_second, advice_target, advice_env, advice_dom, has_bit, installed_at, piece_places}
use Rattle.vm_machine.specs.Reduce.{Bound, bind_one, bind_matching}
use Rattle.base_bytes.specs.Memory.{word_count}
use Rattle.vm_machine_correct.proofs.Setup.{Setup}
use Rattle.vm_machine_correct.proofs.Pools.{at_quota, one_charged, whole_charged}
use Rattle.vm_machine_correct.proofs.Relations.{Sizes, body_at, IsVal, IsEnv, is_link, env_outside, IsAdvice, at_piece, IsTriggered, no_more, one_left, val_at, env_at, val_like, Grows, val_grows, env_grows}
use Rattle.vm_machine_correct.proofs.Tables.{word_same, word_other, grows_put, grows_sizes, grows_refl, grows_trans, Above, above_put, above_refl, above_trans}
use Rattle.vm_machine_correct.proofs.Store.{AreAdvices, none_installed, one_installed, resized}
use Rattle.vm_machine_correct.proofs.ReduceBindings.{binding_word}

-- Bindings past those of z were written, and nothing else.
pub record Written (M : Memory) (z : Sizes) (M' : Memory) : Type 0 where
  pub grows : Grows M z M' z
  pub above : Above slot_base M M'
  pub beside : M'.beside ≡ M.beside

pub written_refl : (M : Memory) (z : Sizes) → Written M z M
written_refl M z = record { grows = grows_refl M z; above = above_refl slot_base M; beside = refl }

-- Another one.
written_more : (M : Memory) (z : Sizes) (M' : Memory) (j w : ℕ) → z.np ≤ piece_places → z.nb ≤ j → j < binding_places → Written M z M' → Written M z (put_binding j w M')
written_more M z M' j w f h g k =
    record {
      grows = grows_trans k.grows (grows_put M' z (0 + j) w (omega arith) (λ i lt e. omega arith));
      above = above_trans k.above (above_put M' slot_base (0 + j) w (omega arith));
      beside = k.beside;
    }

module _ (Θ : Setup) where
  module _ (M : Memory) (z : Sizes) where
    -- The installed advice before place n, the newest first.
    pub data AreBefore : ℕ → List (Advice Body) → Type 0 where
      none_before : AreBefore 0 []
      one_before : {n : ℕ} {a : Advice Body} {x : List (Advice Body)} → IsAdvice Θ M z (installed_at M n) a.dom a.labels a.body.term a.body.env
          → ((l : ℕ) → l < label_limit → has_bit z.named l ≡ false → member l a.labels ≡ false) → AreBefore n x → AreBefore (suc n) (a ∷ x)

    before_onto : {i : ℕ} {x y : List (Advice Body)} → AreAdvices Θ M z i x → AreBefore i y → AreBefore (i + length x) (reverse_aux x y)
    before_onto {i} none_installed b = let e : i + 0 ≡ i = omega arith in rw e b
    before_onto {i} (one_installed {x = x} h u r) b = let e : i + suc (length x) ≡ suc i + length x = omega arith in rw e (before_onto r (one_before h u b))

    pub newest_first : {n : ℕ} {x : List (Advice Body)} → n ≡ length x → AreAdvices Θ M z 0 x → AreBefore n (reverse x)
    newest_first {n} {x} q k = let e : n ≡ 0 + length x = omega arith in rw e (before_onto k none_before)

  -- What the loop leaves: how many bindings there are, what was written, and that the bindings made before the loop stay.
  pub record Made (M : Memory) (z : Sizes) (w : CVal) (x : List (Advice Body)) (B B' : Bound Pool) : Type 0 where
    pub mainline : B'.count.mainline ≡ B.count.mainline + (advice_bindings x).mainline.bindings
    pub others : B'.count.others ≡ B.count.others + (advice_bindings x).others.bindings
    pub count : whole B'.count ≡ whole B.count + length x
    pub written : Written M z B'.memory
    pub earlier : (j : ℕ) → j < whole B.count → j < binding_places → binding_at B'.memory j ≡ binding_at B.memory j
    pub triggered : whole B'.count ≤ binding_places → IsTriggered Θ B'.memory (resized Θ (whole B'.count) z.np z) (whole B.count) (whole B'.count) w x

  module _ (M : Memory) (z : Sizes) (np : z.np ≤ piece_places) (long : word_count ≤ length M.words) (l : ℕ) (label : l < label_limit) (v : ℕ) (w : CVal) (iv : IsVal Θ M z v w) where
    -- One advice, that the label triggers, and then the others.
    made_one : (p : ℕ) (d : Dom) (ls : List ℕ) (f : Tm) (ρ : Env) (x : List (Advice Body)) (B B' : Bound Pool) → IsAdvice Θ M z p d ls f ρ → z.nb ≤ whole B.count → Written M z B.memory → (W : Memory)
        → W ≡ choose (ltb (whole B.count) binding_places) (put_binding (whole B.count) (binding v (advice_target (piece_first B.memory p)) (advice_env (piece_first B.memory p))) B.memory) B.memory
        → Made M z w x (record { memory = W; count = charge (is_mainline (advice_dom (piece_first B.memory p))) 1 B.count }) B' → Made M z w (record { dom = d; labels = ls; body = record { term = f; env = ρ } } ∷ x) B B'
    made_one p d ls f ρ x B B' (at_piece lt b q e hs) low k W is m =
        record {
          mainline = m.mainline ∙ (one_charged h B.count (advice_bindings x)).0 ∙ ap (λ (t : Bool). B.count.mainline + (add_uses (at_quota t (some_bindings 1)) (advice_bindings x)).mainline.bindings) here;
          others = m.others ∙ (one_charged h B.count (advice_bindings x)).1 ∙ ap (λ (t : Bool). B.count.others + (add_uses (at_quota t (some_bindings 1)) (advice_bindings x)).others.bindings) here;
          count = omega (arith, m.count, more);
          written = m.written;
          earlier = λ j g l. m.earlier j (omega (arith, more)) l ∙ other j g (ltb n binding_places) refl;
          triggered = first;
        }
      where
        a : ℕ
        a = piece_first B.memory p

        n : ℕ
        n = whole B.count

        -- the half of the advice's domain
        h : Bool
        h = is_mainline (advice_dom a)

        here : h ≡ is_mainline d
        here = ap (λ (y : ℕ). is_mainline (advice_dom y)) (k.grows.firsts p lt) ∙ ap is_mainline q

        more : whole (charge h 1 B.count) ≡ n + 1
        more = whole_charged h 1 B.count

        word : ℕ
        word = binding v (advice_target a) (advice_env a)

        other : (j : ℕ) → j < n → (t : Bool) → ltb n binding_places ≡ t → binding_at W j ≡ binding_at B.memory j
        other j g true q = rw (is, q) (word_other B.memory (0 + n) word (0 + j) (λ e. omega arith))
        other j g false q = rw (is, q)

        first : whole B'.count ≤ binding_places → IsTriggered Θ B'.memory (resized Θ (whole B'.count) z.np z) n (whole B'.count) w (record { dom = d; labels = ls; body = record { term = f; env = ρ } } ∷ x)
        first l =
            let M' : Memory = B'.memory in
            let z' : Sizes = resized Θ (whole B'.count) z.np z in
            let frames : n < binding_places = omega (arith, m.count, more) in
            let made : W ≡ put_binding n word B.memory = is ∙ ap (λ (t : Bool). choose t (put_binding n word B.memory) B.memory) (lt-ltb n binding_places frames) in
            let there : binding_at W n ≡ word = ap (λ (m : Memory). binding_at m n) made ∙ word_same B.memory (0 + n) word (omega (arith, k.above.words)) in
            let kept : binding_at M' n ≡ word = m.earlier n (omega (arith, more)) frames ∙ there in
            let same : a ≡ piece_first M p = k.grows.firsts p lt in
            let parts = binding_word v (advice_target a) (advice_env a) (omega arith) (omega arith) in
            let g : Grows M z M' z' = grows_trans m.written.grows (grows_sizes M' z z' (omega (arith, m.count, more)) (omega arith)) in
            let at : bound_link (binding_at M' n) ≡ advice_env (piece_first M p) = ap bound_link kept ∙ parts.3 ∙ ap advice_env same in
            let e' : IsEnv Θ M' z' n (link w ρ) =
            is_link {l = n} (omega (arith, m.count, more)) (val_at Θ M' z' kept (val_like Θ M' z' parts.0 parts.1 (val_grows Θ M z M' z' g iv)))
            (env_at Θ M' z' at (env_grows Θ M z M' z' g e)) (λ o. env_outside Θ M z (omega arith) e (subst (λ (i : ℕ). no_binding ≤ i) at o)) in
            let next : suc n ≡ whole (charge h 1 B.count) = omega (arith, more) in
            let rest : IsTriggered Θ M' z' (suc n) (whole B'.count) w x = rw next (m.triggered l) in
            one_left {b = n} {e = whole B'.count} (omega (arith, m.count, more)) e' (body_at Θ (ap bound_target kept ∙ parts.2 ∙ ap advice_target same) b) rest

    has_advice : (p : ℕ) (d : Dom) (ls : List ℕ) (f : Tm) (ρ : Env) (M' : Memory) → IsAdvice Θ M z p d ls f ρ → Written M z M' → has_bit (piece_second M' p) l ≡ member l ls
    has_advice p d ls f ρ M' (at_piece lt b q e hs) k = ap (λ (w : ℕ). has_bit w l) (k.grows.seconds p lt) ∙ hs.has l label

    pub made_all : {n : ℕ} {x : List (Advice Body)} → AreBefore M z n x → (B : Bound Pool) → z.nb ≤ whole B.count → Written M z B.memory → Made M z w (matching l x) B (bind_matching n l v B)
    unfolding bind_matching
    made_all none_before B low k = record { mainline = omega arith; others = omega arith; count = omega arith; written = k; earlier = λ j h g. refl; triggered = λ h. no_more refl }
    made_all (one_before {n = n} {a = a} {x = x} ia u more) B low k = try (member l a.labels) (has_advice p a.dom a.labels a.body.term a.body.env B.memory ia' k) (made_all more)
      where
        p : ℕ
        p = installed_at B.memory n

        ia' : IsAdvice Θ M z p a.dom a.labels a.body.term a.body.env
        ia' = rw (ap (λ (w : ℕ). w % piece_places) (k.above.kept (installed_base + n) (omega arith))) ia

        word : ℕ
        word = binding v (advice_target (piece_first B.memory p)) (advice_env (piece_first B.memory p))

        W : Memory
        W = choose (ltb (whole B.count) binding_places) (put_binding (whole B.count) word B.memory) B.memory

        -- the pool with the advice's binding
        N : Pool
        N = charge (is_mainline (advice_dom (piece_first B.memory p))) 1 B.count

        writes : (t : Bool) → ltb (whole B.count) binding_places ≡ t → Written M z (choose t (put_binding (whole B.count) word B.memory) B.memory)
        writes true q = written_more M z B.memory (whole B.count) word np low (ltb-true (whole B.count) binding_places q) k
        writes false q = k

        try : (t : Bool) → has_bit (piece_second B.memory p) l ≡ t → ((B : Bound Pool) → z.nb ≤ whole B.count → Written M z B.memory → Made M z w (matching l x) B (bind_matching n l v B))
            → Made M z w (choose t (a ∷ matching l x) (matching l x)) B (bind_matching n l v (bind_one l v n B))
        try true q ih =
            rw q
            (made_one p a.dom a.labels a.body.term a.body.env (matching l x) B (bind_matching n l v (record { memory = W; count = N })) ia' low k W refl
            (ih (record { memory = W; count = N }) (omega (arith, whole_charged (is_mainline (advice_dom (piece_first B.memory p))) 1 B.count)) (writes (ltb (whole B.count) binding_places) refl)))
        try false q ih = rw q (ih B low k)

  -- A label that is not named triggers nothing.
  pub none_named : (M : Memory) (z : Sizes) (l : ℕ) → l < label_limit → has_bit z.named l ≡ false → {n : ℕ} {x : List (Advice Body)} → AreBefore M z n x → matching l x ≡ []
  none_named M z l h q none_before = refl
  none_named M z l h q (one_before {a = a} ia u more) = rw (u l h q) (none_named M z l h q more)
