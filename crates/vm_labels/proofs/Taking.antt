-- The children of a pointcut, one after another.
use Prim.Native.Nat.{ℕ, suc, ◌+◌, ◌-◌, ◌*◌, ◌%◌, ◌≤◌, ◌<◌}
use native.Mathlib.Omega.{arith}
use native.Mathlib.Numerals.{add-one}
use mathlib.Core.Path.{◌≡◌, sym, ap, ap₂, ◌∙◌}
use mathlib.Core.List.{List}
use borrow.Author.Tests.{lt-ltb, le-ltb}
use Rattle.calculus.specs.Limits.{label_limit}
use Rattle.image.proofs.Words.{le16_part}
use Rattle.read_records.specs.Heads.{field_in}
use Rattle.vm_code.specs.Values.{body_of}
use Rattle.vm_code.specs.Words.{class_of, offset_of, count_of, term_count}
use Rattle.vm_code.specs.Classes.{first_instruction}
use Rattle.vm_machine.specs.Memory.{Memory, with_digit}
use Rattle.vm_machine.specs.Fetch.{Program, code_at, atom_value}
use Rattle.vm_machine.specs.Turn.{Taken, child_at, take_labels}
use Rattle.vm_labels.specs.PointcutChildren.{child_fields}

-- Child i in the fields fs that hold the children of a pointcut with word w; x is the term that field i names.
pub child_in_lem : (C : Program) (w i x : ℕ) (fs : List ℕ) → fs ≡ child_fields C.image w → i < count_of w → x ≡ field_in fs i % term_count → x ≡ child_at C w i
child_in_lem C w i x fs e h k = k ∙ ap (◌% term_count) (ap (λ ys. field_in ys i) e ∙ le16_part C.image (offset_of w) (2 * count_of w) (2 * i) (omega arith))

module _ (C : Program) (M : Memory) (env w n : ℕ) where
  -- The pointcut has m children; k is what is taken.
  pub from_count : (m i d : ℕ) {k : Taken} → n ≡ m → take_labels C M env w (n - i) i d ≡ k → k ≡ take_labels C M env w (m - i) i d
  from_count m i d e p = sym p ∙ ap (λ j. take_labels C M env w (j - i) i d) e

  -- No child is left.
  pub none_left : (i d : ℕ) → n ≤ i → take_labels C M env w (n - i) i d ≡ record { count = i; digits = d }
  unfolding take_labels
  none_left i d h = let e : n - i ≡ 0 = omega arith in rw e

  -- Child i has word u, of class k.
  module _ (i d x u k : ℕ) (h : i < n) (child : x ≡ child_at C w i) (word : u ≡ code_at C x) (class : k ≡ class_of u) where
    is_word : u ≡ code_at C (child_at C w i)
    is_word = word ∙ ap (code_at C) child

    pub no_atom : first_instruction ≤ k → take_labels C M env w (n - i) i d ≡ record { count = i; digits = d }
    unfolding take_labels
    no_atom l =
        let e : n - i ≡ suc (n - (i + 1)) = omega arith in
        let t = le-ltb (class_of (code_at C (child_at C w i))) first_instruction (rw (← is_word) (omega (arith, class))) in
        rw (e, t)

    pub one_taken : (v b d' : ℕ) → k < first_instruction → v ≡ atom_value C M env u → b ≡ body_of v → d' ≡ with_digit d (b % label_limit)
        → take_labels C M env w (n - i) i d ≡ take_labels C M env w (n - (i + 1)) (i + 1) d'
    unfolding take_labels
    one_taken v b d' l p q s =
        let e : n - i ≡ suc (n - (i + 1)) = omega arith in
        let t = lt-ltb (class_of (code_at C (child_at C w i))) first_instruction (rw (← is_word) (omega (arith, class))) in
        let g : d' ≡ with_digit d (body_of (atom_value C M env (code_at C (child_at C w i))) % label_limit) = s ∙ ap (λ y. with_digit d (y % label_limit)) (q ∙ ap body_of (p ∙ ap (atom_value C M env) is_word)) in
        rw (e, t) (ap₂ (take_labels C M env w (n - (i + 1))) (sym (add-one i)) (sym g))
