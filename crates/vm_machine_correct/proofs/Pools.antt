-- The pools of the registers (card 9): what domain 0's half and the other domains' have in use is what the calculus counts.
use Prim.Native.Nat.{ℕ, ◌+◌, ◌-◌, ◌≤◌}
use native.Mathlib.Omega.{arith}
use mathlib.Core.Path.{◌≡◌, refl, sym, ap, subst, ◌∙◌}
use mathlib.Core.Bool.{Bool, true, false, true≢false}
use mathlib.Core.List.{List, [], ◌∷◌}
use lib.Dec.{leb}
use borrow.Author.Tests.{leb-true, le-leb}
use Rattle.calculus.specs.declared.Outcome.{Outcome}
use Rattle.calculus.specs.Limits.{binding_limit, cell_limit, piece_limit}
use Rattle.calculus.specs.Combinators.{choose}
use Rattle.calculus.specs.State.{Advice, Counts, Uses, no_counts, add_uses, some_bindings, one_cell, some_pieces, advice_bindings, with_uses}
use Rattle.calculus.specs.Answer.{by_capacity, spend}
use Rattle.closure_machine.specs.Closure.{Body, CState}
use Rattle.closure_machine.specs.Machine.{CAnswer}
use Rattle.vm_pools.specs.declared.Pool.{Pool}
use Rattle.vm_pools.specs.declared.Pools.{Pools}
use Rattle.vm_pools.specs.Pools.{is_mainline, whole, charge, set_bindings, charge_bindings, charge_cells, charge_pieces, has_capacity, bindings_out, cells_out, pieces_out}
use Rattle.vm_machine.specs.Fits.{PoolFits}

-- Two tests that agree.
pub leb_iff : (a b c d : ℕ) → (a ≤ b → c ≤ d) → (c ≤ d → a ≤ b) → leb a b ≡ leb c d
leb_iff a b c d f g = try (leb a b) refl (leb c d) refl
  where
    try : (x : Bool) → leb a b ≡ x → (y : Bool) → leb c d ≡ y → x ≡ y
    try true p true q = refl
    try true p false q = absurd (true≢false (sym (le-leb c d (f (leb-true a b p))) ∙ q))
    try false p true q = absurd (true≢false (sym (le-leb a b (g (leb-true c d q))) ∙ p))
    try false p false q = refl

-- One pool: a is counted of domain 0, b of the others.
pub record IsPool (limit : ℕ) (p : Pool) (a b : ℕ) : Type 0 where
  pub mainline : p.mainline ≡ a
  pub others : p.others ≡ b
  pub fits : PoolFits limit p

pub record Used (p : Pools) (u : Uses) : Type 0 where
  pub bindings : IsPool binding_limit p.bindings u.mainline.bindings u.others.bindings
  pub cells : IsPool cell_limit p.cells u.mainline.cells u.others.cells
  pub pieces : IsPool piece_limit p.pieces u.mainline.pieces u.others.pieces

pub whole_charged : (h : Bool) (n : ℕ) (p : Pool) → whole (charge h n p) ≡ whole p + n
whole_charged true n p = omega arith
whole_charged false n p = omega arith

module _ {limit : ℕ} {p : Pool} {a b : ℕ} (k : IsPool limit p a b) where
  -- Room for n more in one half.
  pub frames_is : (h : Bool) (n : ℕ) → has_capacity limit h n p ≡ leb n (limit - choose h a b)
  frames_is true n =
      leb_iff (p.mainline + n) limit n (limit - a) (λ h. omega (arith, k.mainline)) (λ h. omega (arith, k.mainline, k.fits.mainline))
  frames_is false n = leb_iff (p.others + n) limit n (limit - b) (λ h. omega (arith, k.others)) (λ h. omega (arith, k.others, k.fits.others))

  pub more_fits : (h : Bool) (n : ℕ) → n ≤ limit - choose h a b → whole p + n ≤ limit + limit
  more_fits true n l = omega (arith, k.mainline, k.fits.mainline, k.fits.others)
  more_fits false n l = omega (arith, k.others, k.fits.mainline, k.fits.others)

  same_pool : IsPool limit p (a + 0) (b + 0)
  same_pool = record { mainline = omega (arith, k.mainline); others = omega (arith, k.others); fits = k.fits }

  -- They are taken.
  more_pool : (h : Bool) (n : ℕ) → n ≤ limit - choose h a b → IsPool limit (charge h n p) (a + choose h n 0) (b + choose h 0 n)
  more_pool true n l =
      record {
        mainline = omega (arith, k.mainline);
        others = omega (arith, k.others);
        fits = record { mainline = omega (arith, k.mainline, k.fits.mainline); others = k.fits.others };
      }
  more_pool false n l =
      record {
        mainline = omega (arith, k.mainline);
        others = omega (arith, k.others);
        fits = record { mainline = k.fits.mainline; others = omega (arith, k.others, k.fits.others) };
      }

-- Counts charged to one half, as the calculus does by a domain.
abbrev pub at_quota : Bool → Counts → Uses
at_quota h n = record { mainline = choose h n no_counts; others = choose h no_counts n }

module _ {p : Pools} {u : Uses} (k : Used p u) where
  pub more_bindings : (h : Bool) (n : ℕ) → n ≤ binding_limit - choose h u.mainline.bindings u.others.bindings → Used (charge_bindings h n p) (add_uses u (at_quota h (some_bindings n)))
  more_bindings true n l = record { bindings = more_pool k.bindings true n l; cells = same_pool k.cells; pieces = same_pool k.pieces }
  more_bindings false n l = record { bindings = more_pool k.bindings false n l; cells = same_pool k.cells; pieces = same_pool k.pieces }

  pub more_cells : (h : Bool) → 1 ≤ cell_limit - choose h u.mainline.cells u.others.cells → Used (charge_cells h 1 p) (add_uses u (at_quota h one_cell))
  more_cells true l = record { bindings = same_pool k.bindings; cells = more_pool k.cells true 1 l; pieces = same_pool k.pieces }
  more_cells false l = record { bindings = same_pool k.bindings; cells = more_pool k.cells false 1 l; pieces = same_pool k.pieces }

  pub more_pieces : (h : Bool) (n : ℕ) → n ≤ piece_limit - choose h u.mainline.pieces u.others.pieces → Used (charge_pieces h n p) (add_uses u (at_quota h (some_pieces n)))
  more_pieces true n l = record { bindings = same_pool k.bindings; cells = same_pool k.cells; pieces = more_pool k.pieces true n l }
  more_pieces false n l = record { bindings = same_pool k.bindings; cells = same_pool k.cells; pieces = more_pool k.pieces false n l }

-- A step that uses only one of the rooms, of one half.
module _ (s : CState) (k : CState → CAnswer) where
  no_bindings : (u : Counts) → leb 0 (binding_limit - u.bindings) ≡ true
  no_bindings u = le-leb 0 (binding_limit - u.bindings) (omega arith)

  no_cells : (u : Counts) → leb 0 (cell_limit - u.cells) ≡ true
  no_cells u = le-leb 0 (cell_limit - u.cells) (omega arith)

  no_pieces : (u : Counts) → leb 0 (piece_limit - u.pieces) ≡ true
  no_pieces u = le-leb 0 (piece_limit - u.pieces) (omega arith)

  abbrev m : Counts
  m = s.used.mainline

  abbrev o : Counts
  o = s.used.others

  pub spend_bindings : (h : Bool) (n : ℕ)
      → spend (at_quota h (some_bindings n)) s k ≡ by_capacity (leb n (binding_limit - choose h m.bindings o.bindings)) (bindings_out h) (k (with_uses (add_uses s.used (at_quota h (some_bindings n))) s))
  unfolding spend by_capacity
  spend_bindings true n = rw (no_cells m, no_pieces m, no_bindings o, no_cells o, no_pieces o)
  spend_bindings false n = rw (no_bindings m, no_cells m, no_pieces m, no_cells o, no_pieces o)

  pub spend_cell : (h : Bool)
      → spend (at_quota h one_cell) s k ≡ by_capacity (leb 1 (cell_limit - choose h m.cells o.cells)) (cells_out h) (k (with_uses (add_uses s.used (at_quota h one_cell)) s))
  unfolding spend by_capacity
  spend_cell true = rw (no_bindings m, no_pieces m, no_bindings o, no_cells o, no_pieces o)
  spend_cell false = rw (no_bindings m, no_cells m, no_pieces m, no_bindings o, no_pieces o)

  pub spend_pieces : (h : Bool) (n : ℕ)
      → spend (at_quota h (some_pieces n)) s k ≡ by_capacity (leb n (piece_limit - choose h m.pieces o.pieces)) (pieces_out h) (k (with_uses (add_uses s.used (at_quota h (some_pieces n))) s))
  unfolding spend by_capacity
  spend_pieces true n = rw (no_bindings m, no_cells m, no_bindings o, no_cells o, no_pieces o)
  spend_pieces false n = rw (no_bindings m, no_cells m, no_pieces m, no_bindings o, no_cells o)

-- The bindings of advice, each charged to the advice's domain, are of no other room.
abbrev bindings_alone : Uses → Uses
bindings_alone u = record { mainline = some_bindings u.mainline.bindings; others = some_bindings u.others.bindings }

advice_alone : (x : List (Advice Body)) → advice_bindings x ≡ bindings_alone (advice_bindings x)
advice_alone [] = refl
advice_alone (a ∷ x) = try (is_mainline a.dom) (advice_alone x)
  where
    try : (h : Bool) → advice_bindings x ≡ bindings_alone (advice_bindings x) → add_uses (at_quota h (some_bindings 1)) (advice_bindings x) ≡ bindings_alone (add_uses (at_quota h (some_bindings 1)) (advice_bindings x))
    try true e = ap (λ (u : Uses). add_uses (at_quota true (some_bindings 1)) u) e
    try false e = ap (λ (u : Uses). add_uses (at_quota false (some_bindings 1)) u) e

-- One of them, and then others.
pub one_charged : (h : Bool) (p : Pool) (u : Uses)
    → ((charge h 1 p).mainline + u.mainline.bindings ≡ p.mainline + (add_uses (at_quota h (some_bindings 1)) u).mainline.bindings) × ((charge h 1 p).others + u.others.bindings ≡ p.others + (add_uses (at_quota h (some_bindings 1)) u).others.bindings)
one_charged true p u = (omega arith, omega arith)
one_charged false p u = (omega arith, omega arith)

pub advice_used : {p : Pools} {u : Uses} → Used p u → (x : List (Advice Body)) (q : Pool) → q.mainline ≡ p.bindings.mainline + (advice_bindings x).mainline.bindings
    → q.others ≡ p.bindings.others + (advice_bindings x).others.bindings → PoolFits binding_limit q → Used (set_bindings q p) (add_uses u (advice_bindings x))
advice_used {p} {u} k x q e f fits =
    subst (λ (v : Uses). Used (set_bindings q p) (add_uses u v)) (sym (advice_alone x))
    (record {
      bindings = record { mainline = omega (arith, e, k.bindings.mainline); others = omega (arith, f, k.bindings.others); fits = fits };
      cells = same_pool k.cells;
      pieces = same_pool k.pieces;
    })

-- The room of a mark: domain 0's half first.
module _ (s : CState) (k : CState → CAnswer) where
  abbrev marked : Uses → CAnswer
  marked u =
      by_capacity (leb u.mainline.bindings (binding_limit - s.used.mainline.bindings)) Outcome.Bindings
      (by_capacity (leb u.others.bindings (binding_limit - s.used.others.bindings)) Outcome.OtherBindings (k (with_uses (add_uses s.used u) s)))

  spend_alone : (u : Uses) → spend (bindings_alone u) s k ≡ marked (bindings_alone u)
  unfolding spend by_capacity
  spend_alone u = rw (no_cells s k s.used.mainline, no_pieces s k s.used.mainline, no_cells s k s.used.others, no_pieces s k s.used.others)

  pub spend_advice : (x : List (Advice Body)) → spend (advice_bindings x) s k ≡ marked (advice_bindings x)
  spend_advice x = subst (λ (u : Uses). spend u s k ≡ marked u) (sym (advice_alone x)) (spend_alone (advice_bindings x))
