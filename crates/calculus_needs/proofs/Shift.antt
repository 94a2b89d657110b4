-- The numbers at a place d terms deeper: the same, with d frames more where there is any step. So a function may work them out once, at depth 0.
use Prim.Native.Nat.{ℕ, zero, suc, ◌+◌, max}
use native.Mathlib.Omega.{arith}
use mathlib.Core.Path.{◌≡◌, refl, sym, ap, ◌∙◌}
use Rattle.calculus.specs.State.{some_pieces}
use Rattle.calculus.specs.Syntax.{Dom, Val, Tm, Tms, Op1, Op2, val, var, lam, op0, op1, op2, seq, ite, split, pcd, adv, lower, obj, keep, match, end, more, print, install, read, byte, new_cell, call, app, mark, store, plus, minus, less, equal}
use Rattle.calculus_needs.specs.Here.{Here, at, deeper, keeping}
use Rattle.calculus_needs.specs.Numbers.{Numbers, none, ◌⊕◌, dearer}
use Rattle.calculus_needs.specs.Needs.{once, uses, variables, binds, a_cell, a_piece_of, a_label, an_advice, a_print, own1, own2, need, needs, round, round_of, round_of_value, installs, rounds, all_rounds, Extra, no_extra, a_new_label, kept_pieces, extra0, with_extra}
use Rattle.calculus_needs.proofs.Sums.{same}

-- d more, if there is a step.
abbrev pub raised : ℕ → ℕ → ℕ → ℕ
raised zero d f = 0
raised (suc n) d f = f + d

unfoldable pub shift : ℕ → Numbers → Numbers
shift d m = record { steps = m.steps; used = m.used; labels = m.labels; advices = m.advices; prints = m.prints; frames = raised m.steps d m.frames }

abbrev pub raise : ℕ → Here → Here
raise d P = record { dom = P.dom; depth = P.depth + d; kept = P.kept }

-- Where there is no step there is no frame.
abbrev Sound : Numbers → Type 0
Sound m = m.steps ≡ 0 → m.frames ≡ 0

sound_plus : (m n : Numbers) → Sound m → Sound n → Sound (m ⊕ n)
unfolding ◌⊕◌
sound_plus m n a b z = let x = a (omega arith) in let y = b (omega arith) in omega arith

sound_dearer : (m n : Numbers) → Sound m → Sound n → Sound (dearer m n)
unfolding dearer
sound_dearer m n a b z = let x = a (omega arith) in let y = b (omega arith) in omega arith

raised_plus : (d a b f g : ℕ) → (a ≡ 0 → f ≡ 0) → (b ≡ 0 → g ≡ 0) → raised (a + b) d (max f g) ≡ max (raised a d f) (raised b d g)
raised_plus d zero zero f g x y = refl
raised_plus d zero (suc b) f g x y = let z = x refl in let e : zero + suc b ≡ suc b = omega arith in rw e (omega arith)
raised_plus d (suc a) zero f g x y = let z = y refl in let e : suc a + zero ≡ suc a = omega arith in rw e (omega arith)
raised_plus d (suc a) (suc b) f g x y = let e : suc a + suc b ≡ suc (a + suc b) = omega arith in rw e (omega arith)

raised_max : (d a b f g : ℕ) → (a ≡ 0 → f ≡ 0) → (b ≡ 0 → g ≡ 0) → raised (max a b) d (max f g) ≡ max (raised a d f) (raised b d g)
raised_max d zero zero f g x y = refl
raised_max d zero (suc b) f g x y = let z = x refl in let e : max zero (suc b) ≡ suc b = omega arith in rw e (omega arith)
raised_max d (suc a) zero f g x y = let z = y refl in let e : max (suc a) zero ≡ suc a = omega arith in rw e (omega arith)
raised_max d (suc a) (suc b) f g x y = let e : max (suc a) (suc b) ≡ suc (max a b) = omega arith in rw e (omega arith)

module _ (d : ℕ) where
  shift_plus : (m n : Numbers) → Sound m → Sound n → shift d (m ⊕ n) ≡ shift d m ⊕ shift d n
  unfolding ◌⊕◌ shift
  shift_plus m n a b = same refl refl refl refl refl refl refl refl refl refl (raised_plus d m.steps n.steps m.frames n.frames a b)

  shift_dearer : (m n : Numbers) → Sound m → Sound n → shift d (dearer m n) ≡ dearer (shift d m) (shift d n)
  unfolding dearer shift
  shift_dearer m n a b = same refl refl refl refl refl refl refl refl refl refl (raised_max d m.steps n.steps m.frames n.frames a b)

  -- Sound, and shifted as said.
  pub record Shifts (m m' : Numbers) : Type 0 where
    pub sound : Sound m
    pub moved : m' ≡ shift d m

  both : {m m' n n' : Numbers} → Shifts m m' → Shifts n n' → Shifts (m ⊕ n) (m' ⊕ n')
  both {m} {n} x y = record { sound = sound_plus m n x.sound y.sound; moved = rw (x.moved, y.moved) (sym (shift_plus m n x.sound y.sound)) }

  either : {m m' n n' : Numbers} → Shifts m m' → Shifts n n' → Shifts (dearer m n) (dearer m' n')
  either {m} {n} x y = record { sound = sound_dearer m n x.sound y.sound; moved = rw (x.moved, y.moved) (sym (shift_dearer m n x.sound y.sound)) }

  nothing : Shifts none none
  unfolding shift
  nothing = record { sound = λ z. refl; moved = refl }

  one : (P : Here) → Shifts (once P) (once (raise d P))
  unfolding shift
  one P = record { sound = λ z. absurd (omega arith); moved = refl }

  one_with : (P : Here) (x : Numbers) → x.frames ≡ 0 → Shifts (once P ⊕ x) (once (raise d P) ⊕ x)
  unfolding ◌⊕◌ shift
  one_with P x z = record { sound = λ e. absurd (omega arith); moved = same refl refl refl refl refl refl refl refl refl refl (up x.steps) }
    where
      up : (n : ℕ) → max (P.depth + d) x.frames ≡ raised (1 + n) d (max P.depth x.frames)
      up n = let e : 1 + n ≡ suc n = omega arith in rw e (omega arith)

  extra_shifts : (P : Here) (x : Extra) → Shifts (with_extra P x) (with_extra (raise d P) x)
  extra_shifts P no_extra = one P
  extra_shifts P a_new_label = one_with P a_label refl
  extra_shifts P kept_pieces = one_with P (uses P.dom (some_pieces P.kept)) refl

  own1_shifts : (P : Here) (o : Op1) → Shifts (own1 P o) (own1 (raise d P) o)
  own1_shifts P print = one_with P a_print refl
  own1_shifts P install = one_with P an_advice refl
  own1_shifts P read = one P
  own1_shifts P byte = one P
  own1_shifts P new_cell = one_with P (a_cell P.dom) refl
  own1_shifts P (call m) = one_with P (binds P.dom 1) refl

  bound : (p : Dom) (n : ℕ) → Shifts (binds p n) (binds p n)
  unfolding shift
  bound p n = record { sound = λ z. refl; moved = refl }

  module _ (W : Here → Numbers) (hW : (P : Here) → Shifts (W P) (W (raise d P))) where
    own2_shifts : (P : Here) (o : Op2) → Shifts (own2 W P o) (own2 W (raise d P) o)
    own2_shifts P Op2.pair = one_with P (a_piece_of P.dom) refl
    own2_shifts P app = one_with P (binds P.dom 1) refl
    own2_shifts P mark = both (one P) (hW P)
    own2_shifts P store = one P
    own2_shifts P plus = one P
    own2_shifts P minus = one P
    own2_shifts P less = one P
    own2_shifts P equal = one P

    deep : (P : Here) → deeper (raise d P) ≡ raise d (deeper P)
    deep P = let e : suc (P.depth + d) ≡ suc P.depth + d = omega arith in rw e refl

    mutual
      unfolding need needs

      pub need_shifts : (e : Tm) (P : Here) → Shifts (need W P e) (need W (raise d P) e)
      need_shifts (val v) P = nothing
      need_shifts (var k) P = nothing
      need_shifts (lam t b) P = nothing
      need_shifts (op0 o t) P = extra_shifts P (extra0 o)
      need_shifts (op1 o t e) P = both (rw (deep P) (need_shifts e (deeper P))) (own1_shifts P o)
      need_shifts (op2 o t e f) P = both (rw (deep P) (need_shifts e (deeper P))) (both (rw (deep P) (need_shifts f (deeper P))) (own2_shifts P o))
      need_shifts (seq e f) P = both (rw (deep P) (need_shifts e (deeper P))) (both (one P) (need_shifts f P))
      need_shifts (ite e f g) P = both (rw (deep P) (need_shifts e (deeper P))) (both (one P) (either (need_shifts f P) (need_shifts g P)))
      need_shifts (split e f) P = both (rw (deep P) (need_shifts e (deeper P))) (both (one_with P (binds P.dom 2) refl) (need_shifts f P))
      need_shifts (pcd es) P = both (rw (deep P) (needs_shift es (deeper P))) (one_with P (a_piece_of P.dom) refl)
      need_shifts (adv p e b) P = both (rw (deep P) (need_shifts e (deeper P))) (one_with P (a_piece_of P.dom) refl)
      need_shifts (lower p e) P = both (rw (ap (at p) (deep P)) (need_shifts e (at p (deeper P)))) (one P)
      need_shifts (obj t bs) P = nothing
      need_shifts (keep e f g) P = both (rw (deep P) (need_shifts e (deeper P))) (both (rw (deep P) (need_shifts f (deeper P))) (both (rw (ap keeping (deep P)) (need_shifts g (keeping (deeper P)))) (one P)))
      need_shifts (match p es f g) P = both (rw (deep P) (needs_shift es (deeper P))) (both (one P) (either (both (bound P.dom (variables p)) (need_shifts f P)) (need_shifts g P)))

      needs_shift : (es : Tms) (P : Here) → Shifts (needs W P es) (needs W (raise d P) es)
      needs_shift end P = nothing
      needs_shift (more e es) P = both (need_shifts e P) (needs_shift es P)

  -- What a mark finds does not depend on the mark's domain, either.
  round_shifts : (P : Here) (c p : Dom) (b : Tm) → Shifts (round P p b) (round (at c (raise d P)) p b)
  round_shifts P c p b =
      let deep-place : at p (deeper (deeper (at c (raise d P)))) ≡ raise d (at p (deeper (deeper P))) = let e : suc (suc (P.depth + d)) ≡ suc (suc P.depth) + d = omega arith in rw e refl in
      both (bound p 1) (both (rw deep-place (need_shifts (λ Q. none) (λ Q. nothing) b (at p (deeper (deeper P))))) (both (after_one P c) (one P)))
    where
      after_one : (P : Here) (c : Dom) → Shifts (once (deeper P)) (once (deeper (at c (raise d P))))
      after_one P c = let e : suc (P.depth + d) ≡ suc P.depth + d = omega arith in rw e (one (deeper P))

  value_shifts : (P : Here) (c : Dom) (v : Val) → Shifts (round_of_value P v) (round_of_value (at c (raise d P)) v)
  value_shifts P c Val.unit = nothing
  value_shifts P c (Val.truth b) = nothing
  value_shifts P c (Val.number n) = nothing
  value_shifts P c (Val.pair v w) = nothing
  value_shifts P c (Val.fun t e) = nothing
  value_shifts P c (Val.label l) = nothing
  value_shifts P c (Val.cell r) = nothing
  value_shifts P c (Val.pointcut ls) = nothing
  value_shifts P c (Val.advice p ls b) = round_shifts P c p b
  value_shifts P c (Val.object t bs) = nothing
  value_shifts P c Val.bottom = nothing
  value_shifts P c (Val.kept l v k) = nothing

  over_shifts : (P : Here) (c : Dom) (e : Tm) → Shifts (round_of P e) (round_of (at c (raise d P)) e)
  over_shifts P c (val v) = value_shifts P c v
  over_shifts P c (var k) = nothing
  over_shifts P c (lam t b) = nothing
  over_shifts P c (op0 o t) = nothing
  over_shifts P c (op1 o t e) = nothing
  over_shifts P c (op2 o t e f) = nothing
  over_shifts P c (seq e f) = nothing
  over_shifts P c (ite e f g) = nothing
  over_shifts P c (split e f) = nothing
  over_shifts P c (pcd es) = nothing
  over_shifts P c (adv p e b) = round_shifts P c p b
  over_shifts P c (lower p e) = nothing
  over_shifts P c (obj t bs) = nothing
  over_shifts P c (keep e f g) = nothing
  over_shifts P c (match p es f g) = nothing

  installs_shifts : (o : Op1) (P : Here) (c : Dom) (e : Tm) → Shifts (installs o P e) (installs o (at c (raise d P)) e)
  installs_shifts print P c e = nothing
  installs_shifts install P c e = over_shifts P c e
  installs_shifts read P c e = nothing
  installs_shifts byte P c e = nothing
  installs_shifts new_cell P c e = nothing
  installs_shifts (call m) P c e = nothing

  mutual
    unfolding rounds all_rounds

    pub rounds_shift : (e : Tm) (P : Here) (c : Dom) → Shifts (rounds P e) (rounds (at c (raise d P)) e)
    rounds_shift (val v) P c = nothing
    rounds_shift (var k) P c = nothing
    rounds_shift (lam t b) P c = nothing
    rounds_shift (op0 o t) P c = nothing
    rounds_shift (op1 o t e) P c = both (rounds_shift e P c) (installs_shifts o P c e)
    rounds_shift (op2 o t e f) P c = both (rounds_shift e P c) (rounds_shift f P c)
    rounds_shift (seq e f) P c = both (rounds_shift e P c) (rounds_shift f P c)
    rounds_shift (ite e f g) P c = both (rounds_shift e P c) (both (rounds_shift f P c) (rounds_shift g P c))
    rounds_shift (split e f) P c = both (rounds_shift e P c) (rounds_shift f P c)
    rounds_shift (pcd es) P c = all_rounds_shift es P c
    rounds_shift (adv p e b) P c = rounds_shift e P c
    rounds_shift (lower p e) P c = rounds_shift e P c
    rounds_shift (obj t bs) P c = nothing
    rounds_shift (keep e f g) P c = both (rounds_shift e P c) (both (rounds_shift f P c) (rounds_shift g P c))
    rounds_shift (match p es f g) P c = both (all_rounds_shift es P c) (both (rounds_shift f P c) (rounds_shift g P c))

    all_rounds_shift : (es : Tms) (P : Here) (c : Dom) → Shifts (all_rounds P es) (all_rounds (at c (raise d P)) es)
    all_rounds_shift end P c = nothing
    all_rounds_shift (more e es) P c = both (rounds_shift e P c) (all_rounds_shift es P c)

-- A mark that nothing encloses, with k values kept around it.
abbrev pub level : ℕ → Here
level k = record { dom = 0; depth = 0; kept = k }

-- So one computation serves every mark around which as many values are kept.
pub rounds_once : (e : Tm) (P : Here) → rounds P e ≡ shift P.depth (rounds (level P.kept) e)
rounds_once e P =
    let z : 0 + P.depth ≡ P.depth = omega arith in
    let q : at P.dom (raise P.depth (level P.kept)) ≡ P = rw z refl in
    sym (ap (λ R. rounds R e) q) ∙ (rounds_shift P.depth e (level P.kept) P.dom).moved
