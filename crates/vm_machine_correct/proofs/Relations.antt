-- Which closure values and environments the words of the tables stand for; and that this holds on where the tables grow.
use Prim.Native.Nat.{ℕ, zero, suc, ◌/◌, ◌%◌, ◌≤◌, ◌<◌}
use native.Mathlib.Omega.{arith}
use mathlib.Core.Path.{◌≡◌, refl, sym, ap, subst, ◌∙◌}
use mathlib.Core.Bool.{Bool, true, false}
use mathlib.Core.List.{List, [], ◌∷◌}
use mathlib.Core.Option.{some, none-ne-some}
use lib.Dec.{leb}
use borrow.Author.Tests.{leb-true}
use Rattle.calculus.specs.Combinators.{choose}
use Rattle.calculus.specs.Plain.{dom_of}
use Rattle.calculus.specs.Syntax.{Dom, Ty, Tm, Tms}
use Rattle.calculus.specs.State.{Advice}
use Rattle.calculus.specs.Compose.{member}
use Rattle.calculus.specs.Limits.{label_limit}
use Rattle.closure_machine.specs.Closure.{CVal, Env, empty, link, Body, lookup}
use Rattle.vm_theory.specs.Code.{Skel}
use Rattle.vm_theory.specs.Table.{obj_n, terms_of}
use Rattle.vm_theory.proofs.Located.{Located}
use Rattle.vm_code.specs.Values.{tag_of, body_of}
use Rattle.vm_code.specs.Words.{term_count, target_count}
use Rattle.vm_theory.specs.Says.{SaysTarget}
use Rattle.vm_machine.specs.declared.Regs.{Regs}
use Rattle.vm_pools.specs.Pools.{whole}
use Rattle.vm_machine.specs.Memory.{Memory, entry_label, binding_at, bound_target, bound_link, no_binding, piece_first, piece_second, advice_target, advice_env, advice_dom, closure_env, has_bit, piece_places, cell_places}
use Rattle.vm_machine.specs.Memory as words
use Rattle.vm_machine_correct.proofs.Setup.{Setup}

-- How much of each table is in use, and the labels that installed advice names.
pub record Sizes : Type 0 where
  pub nb : ℕ
  pub np : ℕ
  pub nc : ℕ
  pub nl : ℕ
  pub ni : ℕ
  pub named : ℕ
  pub at : ℕ

abbrev pub sizes : Regs → Sizes
sizes r = record { nb = whole r.pools.bindings; np = whole r.pools.pieces; nc = whole r.pools.cells; nl = r.labels; ni = r.installed; named = r.named; at = r.logged }

-- A set of labels has those of a list.
pub record HasLabels (w : ℕ) (ls : List ℕ) : Type 0 where
  pub has : (l : ℕ) → l < label_limit → has_bit w l ≡ member l ls

pub labels_at : {a b : ℕ} {ls : List ℕ} → a ≡ b → HasLabels b ls → HasLabels a ls
labels_at p h = rw p h

module _ (Θ : Setup) where
  -- The term e is a body, at the domain p, and begins at the target g.
  pub record IsBody (g : ℕ) (e : Tm) (p : Dom) : Type 0 where
    pub number : ℕ
    pub begins : SaysTarget Θ.table g number
    pub term : Θ.table.term number ≡ e
    pub located : Located Θ.linked number [] p

  pub body_at : {g h : ℕ} {e : Tm} {p : Dom} → g ≡ h → IsBody h e p → IsBody g e p
  body_at q b = rw q b

  -- Term t is an object of type y, with the bodies es (card 3).
  pub record IsObject (t : ℕ) (y : Ty) (es : Tms) : Type 0 where
    pub small : t < term_count
    pub bodies : List ℕ
    pub node : Θ.table.node t ≡ obj_n y bodies
    pub terms : terms_of Θ.table bodies ≡ es
    pub skel : Skel
    pub dom : Dom
    pub located : Located Θ.linked t skel dom

  pub object_at : {t u : ℕ} {y : Ty} {es : Tms} → t ≡ u → IsObject u y es → IsObject t y es
  object_at q b = rw q b

  module _ (M : Memory) (z : Sizes) where
    mutual
      -- The value that a word stands for.
      pub data IsVal : ℕ → CVal → Type 0 where
        is_unit : {w : ℕ} → tag_of w ≡ 0 → IsVal w CVal.unit
        is_truth : {w : ℕ} {b : Bool} → tag_of w ≡ 1 → body_of w ≡ choose b 1 0 → IsVal w (CVal.truth b)
        is_num : {w n : ℕ} → tag_of w ≡ 2 → body_of w ≡ n → IsVal w (CVal.number n)
        is_fun : {w : ℕ} {y : Ty} {e : Tm} {ρ : Env} → tag_of w ≡ 3 → IsBody (body_of w % target_count) e (dom_of y) → IsEnv (closure_env w) ρ → IsVal w (CVal.fun y e ρ)
        is_pair : {w : ℕ} {v u : CVal} → tag_of w ≡ 4 → body_of w % piece_places < z.np → IsVal (piece_first M (body_of w % piece_places)) v → IsVal (piece_second M (body_of w % piece_places)) u → IsVal w (CVal.pair v u)
        is_cell : {w r : ℕ} → tag_of w ≡ 5 → body_of w % cell_places ≡ r → IsVal w (CVal.cell r)
        is_label : {w l : ℕ} → tag_of w ≡ 6 → body_of w % label_limit ≡ l → IsVal w (CVal.label l)
        is_labels : {w : ℕ} {ls : List ℕ} → tag_of w ≡ 7 → body_of w % piece_places < z.np → HasLabels (piece_second M (body_of w % piece_places)) ls → IsVal w (CVal.pointcut ls)
        is_advice_lem : {w : ℕ} {d : Dom} {e : Tm} {ls : List ℕ} {ρ : Env} → tag_of w ≡ 8 → IsAdvice (body_of w % piece_places) d ls e ρ → IsVal w (CVal.advice d ls e ρ)
        is_object_lem : {w : ℕ} {y : Ty} {es : Tms} {ρ : Env} → tag_of w ≡ 9 → IsObject (body_of w % term_count) y es → IsEnv (closure_env w) ρ → IsVal w (CVal.object y es ρ)
        -- a stack (card 6): of nothing, or an entry over the rest
        is_bottom : {w : ℕ} → tag_of w ≡ 10 → IsVal w CVal.bottom
        is_kept_lem : {w l : ℕ} {v k : CVal} → tag_of w ≡ 11 → body_of w % piece_places < z.np → entry_label (piece_first M (body_of w % piece_places)) ≡ l → IsVal (piece_first M (body_of w % piece_places)) v → IsVal (piece_second M (body_of w % piece_places)) k
            → IsVal w (CVal.kept l v k)

      -- The environment whose innermost binding is l.
      pub data IsEnv : ℕ → Env → Type 0 where
        is_empty : {l : ℕ} → IsEnv l empty
        is_link : {l : ℕ} {v : CVal} {ρ : Env} → l < z.nb → IsVal (binding_at M l) v → IsEnv (bound_link (binding_at M l)) ρ → (no_binding ≤ bound_link (binding_at M l) → ρ ≡ empty) → IsEnv l (link v ρ)

      -- An advice at a piece.
      pub data IsAdvice : ℕ → Dom → List ℕ → Tm → Env → Type 0 where
        at_piece : {p : ℕ} {d : Dom} {e : Tm} {ls : List ℕ} {ρ : Env} → p < z.np → IsBody (advice_target (piece_first M p)) e d → advice_dom (piece_first M p) ≡ d
            → IsEnv (advice_env (piece_first M p)) ρ → HasLabels (piece_second M p) ls → IsAdvice p d ls e ρ

    -- The advice that is left of a mark: the bindings from b up to e, one for each, with the mark's value.
    pub data IsTriggered : ℕ → ℕ → CVal → List (Advice Body) → Type 0 where
      no_more : {b e : ℕ} {w : CVal} → b ≡ e → IsTriggered b e w []
      one_left : {b e : ℕ} {d : Dom} {f : Tm} {w : CVal} {ls : List ℕ} {ρ : Env} {x : List (Advice Body)} → b < e → IsEnv b (link w ρ) → IsBody (bound_target (binding_at M b)) f d
          → IsTriggered (suc b) e w x → IsTriggered b e w (record { dom = d; labels = ls; body = record { term = f; env = ρ } } ∷ x)

    -- An environment that is not empty begins at a binding in use.
    pub env_used : {l : ℕ} {v : CVal} {ρ : Env} → IsEnv l (link v ρ) → l < z.nb
    env_used (is_link h v e o) = h

    pub env_outside : {l : ℕ} {ρ : Env} → z.nb ≤ no_binding → IsEnv l ρ → no_binding ≤ l → ρ ≡ empty
    env_outside h is_empty p = refl
    env_outside h (is_link g v e o) p = absurd (omega arith)

    -- Another word with the same tag and body.
    pub val_like : {a b : ℕ} {v : CVal} → tag_of a ≡ tag_of b → body_of a ≡ body_of b → IsVal b v → IsVal a v
    val_like p q (is_unit t) = is_unit (p ∙ t)
    val_like p q (is_truth t h) = is_truth (p ∙ t) (q ∙ h)
    val_like p q (is_num t h) = is_num (p ∙ t) (q ∙ h)
    val_like p q (is_fun {ρ = ρ} t h e) = is_fun (p ∙ t) (body_at (ap (λ (x : ℕ). x % target_count) q) h) (subst (λ (x : ℕ). IsEnv (x / 65536 % 65536) ρ) (sym q) e)
    val_like p q (is_pair {v = v} {u = u} t h g k) =
        is_pair (p ∙ t) (rw q h) (subst (λ (x : ℕ). IsVal (piece_first M (x % piece_places)) v) (sym q) g) (subst (λ (x : ℕ). IsVal (piece_second M (x % piece_places)) u) (sym q) k)
    val_like p q (is_cell t h) = is_cell (p ∙ t) (ap (λ (x : ℕ). x % cell_places) q ∙ h)
    val_like p q (is_label t h) = is_label (p ∙ t) (ap (λ (x : ℕ). x % label_limit) q ∙ h)
    val_like p q (is_labels {ls = ls} t h g) = is_labels (p ∙ t) (rw q h) (subst (λ (x : ℕ). HasLabels (piece_second M (x % piece_places)) ls) (sym q) g)
    val_like p q (is_advice_lem {d = d} {e = e} {ls = ls} {ρ = ρ} t a) = is_advice_lem (p ∙ t) (subst (λ (x : ℕ). IsAdvice (x % piece_places) d ls e ρ) (sym q) a)
    val_like p q (is_object_lem {ρ = ρ} t h e) = is_object_lem (p ∙ t) (object_at (ap (λ (x : ℕ). x % term_count) q) h) (subst (λ (x : ℕ). IsEnv (x / 65536 % 65536) ρ) (sym q) e)
    val_like p q (is_bottom t) = is_bottom (p ∙ t)
    val_like p q (is_kept_lem {v = v} {k = k} t h l g r) =
        is_kept_lem (p ∙ t) (rw q h) (ap (λ (x : ℕ). entry_label (piece_first M (x % piece_places))) q ∙ l) (subst (λ (x : ℕ). IsVal (piece_first M (x % piece_places)) v) (sym q) g) (subst (λ (x : ℕ). IsVal (piece_second M (x % piece_places)) k) (sym q) r)

    -- The same word, written otherwise.
    pub val_at : {a b : ℕ} {v : CVal} → a ≡ b → IsVal b v → IsVal a v
    val_at p h = rw p h

    pub env_at : {a b : ℕ} {ρ : Env} → a ≡ b → IsEnv b ρ → IsEnv a ρ
    env_at p h = rw p h

    pub triggered_at : {a b c d : ℕ} {w : CVal} {x : List (Advice Body)} → a ≡ b → c ≡ d → IsTriggered b d w x → IsTriggered a c w x
    triggered_at p q h = rw (p, q) h

    -- A variable.
    pub lookup_is : (k : ℕ) {l : ℕ} {ρ : Env} {v : CVal} → IsEnv l ρ → lookup ρ k ≡ some v → IsVal (words.lookup M l k) v
    unfolding words.lookup
    lookup_is zero is_empty q = absurd (none-ne-some _ q)
    lookup_is zero {l} {v = v} (is_link {v = u} h g e o) q =
        let same : u ≡ v = cc in
        rw (← same) g
    lookup_is (suc k) is_empty q = absurd (none-ne-some _ q)
    lookup_is (suc k) {l} {v = v} (is_link {ρ = ρ} h g e o) q = try (leb no_binding (bound_link (binding_at M l))) refl (lookup_is k e q)
      where
        outside : ρ ≡ empty → ⊥
        outside p = absurd (none-ne-some _ (sym (ap (λ (x : Env). lookup x k) p) ∙ q))

        try : (b : Bool) → leb no_binding (bound_link (binding_at M l)) ≡ b → IsVal (words.lookup M (bound_link (binding_at M l)) k) v
            → IsVal (choose b 0 (words.lookup M (bound_link (binding_at M l)) k)) v
        try true p ih = absurd (outside (o (leb-true _ _ p)))
        try false p ih = ih

-- The tables M' have all that M has of bindings and pieces.
pub record Grows (M : Memory) (z : Sizes) (M' : Memory) (z' : Sizes) : Type 0 where
  pub more_bindings : z.nb ≤ z'.nb
  pub more_pieces : z.np ≤ z'.np
  pub bindings : (l : ℕ) → l < z.nb → binding_at M' l ≡ binding_at M l
  pub firsts : (p : ℕ) → p < z.np → piece_first M' p ≡ piece_first M p
  pub seconds : (p : ℕ) → p < z.np → piece_second M' p ≡ piece_second M p

module _ (Θ : Setup) (M : Memory) (z : Sizes) (M' : Memory) (z' : Sizes) (g : Grows M z M' z') where
  mutual
    pub val_grows : {w : ℕ} {v : CVal} → IsVal Θ M z w v → IsVal Θ M' z' w v
    val_grows (is_unit p) = is_unit p
    val_grows (is_truth p q) = is_truth p q
    val_grows (is_num p q) = is_num p q
    val_grows (is_fun p q e) = is_fun p q (env_grows e)
    val_grows (is_pair {w = w} p q a b) =
        is_pair p (omega (arith, g.more_pieces)) (val_at Θ M' z' (g.firsts (body_of w % piece_places) q) (val_grows a)) (val_at Θ M' z' (g.seconds (body_of w % piece_places) q) (val_grows b))
    val_grows (is_cell p q) = is_cell p q
    val_grows (is_label p q) = is_label p q
    val_grows (is_labels {w = w} p q a) = is_labels p (omega (arith, g.more_pieces)) (labels_at (g.seconds (body_of w % piece_places) q) a)
    val_grows (is_advice_lem p a) = is_advice_lem p (advice_grows a)
    val_grows (is_object_lem p q e) = is_object_lem p q (env_grows e)
    val_grows (is_bottom p) = is_bottom p
    val_grows (is_kept_lem {w = w} p q l a b) =
        is_kept_lem p (omega (arith, g.more_pieces)) (ap entry_label (g.firsts (body_of w % piece_places) q) ∙ l) (val_at Θ M' z' (g.firsts (body_of w % piece_places) q) (val_grows a)) (val_at Θ M' z' (g.seconds (body_of w % piece_places) q) (val_grows b))

    pub env_grows : {l : ℕ} {ρ : Env} → IsEnv Θ M z l ρ → IsEnv Θ M' z' l ρ
    env_grows is_empty = is_empty
    env_grows (is_link {l = l} a v e o) =
        is_link {l = l} (omega (arith, g.more_bindings)) (val_at Θ M' z' (g.bindings l a) (val_grows v)) (env_at Θ M' z' (ap bound_link (g.bindings l a)) (env_grows e))
        (λ p. o (subst (λ (x : ℕ). no_binding ≤ x) (ap bound_link (g.bindings l a)) p))

    pub advice_grows : {p : ℕ} {d : Dom} {ls : List ℕ} {e : Tm} {ρ : Env} → IsAdvice Θ M z p d ls e ρ → IsAdvice Θ M' z' p d ls e ρ
    advice_grows {p} (at_piece h b c e l) =
        at_piece {p = p} (omega (arith, g.more_pieces)) (body_at Θ (ap advice_target (g.firsts p h)) b) (ap advice_dom (g.firsts p h) ∙ c) (env_at Θ M' z' (ap advice_env (g.firsts p h)) (env_grows e)) (labels_at (g.seconds p h) l)

  pub triggered_grows : {b e : ℕ} {w : CVal} {x : List (Advice Body)} → IsTriggered Θ M z b e w x → IsTriggered Θ M' z' b e w x
  triggered_grows (no_more p) = no_more p
  triggered_grows (one_left {b = b} h e q x) =
      one_left h (env_grows e) (body_at Θ (ap bound_target (g.bindings b (env_used Θ M z e))) q) (triggered_grows x)
