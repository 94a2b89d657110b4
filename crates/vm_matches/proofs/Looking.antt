-- A match looks at its entries, one after another.
use Prim.Native.Nat.{ℕ, suc, ◌+◌, ◌-◌, ◌≤◌, ◌<◌}
use native.Mathlib.Omega.{arith}
use mathlib.Core.Path.{◌≡◌, refl, sym, ap, ◌∙◌}
use mathlib.Core.Bool.{Bool, true, false, not, ◌&&◌, false≢true}
use lib.Dec.{eqb}
use borrow.Author.Tests.{eq-eqb, ne_eqb, le-leb, lt-leb}
use Rattle.std.specs.Int.{from_bool}
use Rattle.calculus.specs.Combinators.{choose}
use Rattle.vm_code.specs.Words.{count_of, count_size}
use Rattle.vm_code.specs.Classes.{is_atom}
use Rattle.vm_machine.specs.Memory.{Memory, rest_of, held_stack}
use Rattle.vm_machine.specs.Fetch.{Program, code_at, atom_value}
use Rattle.vm_machine.specs.Stacks.{Looked, entry_at, cut_term, binds_rest, unlooked, past_any, past_cut, look_on, rest_after, looked_byte, looked_with, stack_to_come, variables}
use Rattle.vm_memory.proofs.Chosen.{chosen_yes, chosen_no}
use Rattle.vm_matches.specs.declared.Progress.{Progress}
use Rattle.vm_matches.specs.Matching.{looked_of, stops_at, past_entry, LookedAgain}

by_stop : (z a : Bool) (X Y k : Looked) → (not z && not a) ≡ true → choose z X (choose a Y k) ≡ k
by_stop true a X Y k e = absurd (false≢true e)
by_stop false true X Y k e = absurd (false≢true e)
by_stop false false X Y k e = refl

by_past : (z a : Bool) (F : Looked → Looked) (X Y k : Looked) → (not z && not a) ≡ false → choose z (F X) (choose a (F Y) k) ≡ F (choose z X Y)
by_past true a F X Y k e = refl
by_past false true F X Y k e = refl
by_past false false F X Y k e = absurd (false≢true (sym e))

module _ (C : Program) (M : Memory) (env w : ℕ) where
  module _ (k : Looked) (e : ℕ) (at : e ≡ entry_at C w k.next) (L : Looked) where
    pub entry_any : e ≡ 0 → L ≡ past_any M k → L ≡ past_entry C M env w k
    entry_any z h = h ∙ sym (chosen_yes _ _ _ (eq-eqb (entry_at C w k.next) 0 (sym at ∙ z)))

    pub entry_cut : (t v : ℕ) → (e ≡ 0 → ⊥) → t ≡ cut_term e → v ≡ atom_value C M env (code_at C t) → L ≡ past_cut M v k → L ≡ past_entry C M env w k
    entry_cut t v n d f h =
        h ∙ ap (λ (x : ℕ). past_cut M x k) (f ∙ ap (λ (x : ℕ). atom_value C M env (code_at C x)) (d ∙ ap cut_term at)) ∙ sym (chosen_no _ _ _ (ne_eqb (entry_at C w k.next) 0 (λ z. n (at ∙ z))))

  -- Of n entries: none is left, the next one stops, or it is passed.
  pub look_none : (n : ℕ) (k : Looked) → n ≤ k.next → look_on C M env w (n - k.next) k ≡ k
  unfolding look_on
  look_none n k h = let e : n - k.next ≡ 0 = omega arith in rw e

  pub look_stop : (n : ℕ) (k : Looked) → k.next < n → stops_at C w k.next ≡ true → look_on C M env w (n - k.next) k ≡ k
  unfolding look_on
  look_stop n k h s =
      let e : n - k.next ≡ suc (n - (k.next + 1)) = omega arith in
      ap (λ (x : ℕ). look_on C M env w x k) e ∙ by_stop (eqb (entry_at C w k.next) 0) (is_atom (code_at C (cut_term (entry_at C w k.next)))) _ _ k s

  pub look_past : (n : ℕ) (k L : Looked) → k.next < n → stops_at C w k.next ≡ false → L ≡ past_entry C M env w k → L.next ≡ k.next + 1 → look_on C M env w (n - k.next) k ≡ look_on C M env w (n - L.next) L
  unfolding look_on
  look_past n k L h s p m =
      let e : n - k.next ≡ suc (n - (k.next + 1)) = omega arith in
      ap (λ (x : ℕ). look_on C M env w x k) e
      ∙ by_past (eqb (entry_at C w k.next) 0) (is_atom (code_at C (cut_term (entry_at C w k.next)))) (look_on C M env w (n - (k.next + 1))) _ _ k s
      ∙ ap (look_on C M env w (n - (k.next + 1))) (sym p) ∙ ap (λ (x : ℕ). look_on C M env w (n - x) L) (sym m)

  -- n is how many entries there are.
  pub look_all : (n i : ℕ) (k : Looked) {L : Looked} → n ≡ count_of w → look_on C M env w (n - i) k ≡ L → L ≡ look_on C M env w (count_of w - i) k
  look_all n i k e p = sym p ∙ ap (λ (j : ℕ). look_on C M env w (j - i) k) e

-- What is behind n entries of a stack, of which i are passed.
module _ (M : Memory) (n i v : ℕ) where
  pub behind_start : rest_after M n v ≡ rest_after M (n - 0) v
  behind_start = let k : n ≡ n - 0 = omega arith in ap (λ (x : ℕ). rest_after M x v) k

  pub behind_more : (u : ℕ) → i < n → u ≡ rest_of M v → rest_after M (n - i) v ≡ rest_after M (n - (i + 1)) u
  unfolding rest_after
  behind_more u h e = let k : n - i ≡ suc (n - (i + 1)) = omega arith in ap (λ (x : ℕ). rest_after M x v) k ∙ ap (rest_after M (n - (i + 1))) (sym e)

  pub behind_all : n ≤ i → rest_after M (n - i) v ≡ v
  unfolding rest_after
  behind_all h = let k : n - i ≡ 0 = omega arith in ap (λ (x : ℕ). rest_after M x v) k

-- The byte beside, and back.
pub byte_fits : (n : ℕ) (rest : ℕ) (b : Bool) → b ≡ true → n + count_size ≡ looked_byte (record { next = n; rest = rest; fits = b })
byte_fits n rest b e = rw e

pub byte_fits_not : (n : ℕ) (rest : ℕ) (b : Bool) → b ≡ false → n ≡ looked_byte (record { next = n; rest = rest; fits = b })
byte_fits_not n rest b e = rw e (omega arith)

-- An operand of a match is worked out.
module _ (M : Memory) (v f byte : ℕ) (k : Progress) where
  pub stack_came : stack_to_come ≤ byte → looked_of k ≡ unlooked v → k.stack ≡ v → LookedAgain M v f byte k
  stack_came h d e =
      record { looked = d ∙ sym (chosen_yes _ _ _ (le-leb stack_to_come byte h)); stack = e ∙ sym (chosen_yes _ _ _ (le-leb stack_to_come byte h)) }

  pub cut_came : (s : ℕ) (j : Progress) → byte < stack_to_come → s ≡ held_stack f → looked_of j ≡ looked_with M s byte → j.stack ≡ s → looked_of k ≡ past_cut M v (looked_of j) → k.stack ≡ j.stack → LookedAgain M v f byte k
  cut_came s j h a b c d e =
      record {
        looked = d ∙ ap (past_cut M v) (b ∙ ap (λ (x : ℕ). looked_with M x byte) a) ∙ sym (chosen_no _ _ _ (lt-leb stack_to_come byte h));
        stack = e ∙ c ∙ a ∙ sym (chosen_no _ _ _ (lt-leb stack_to_come byte h));
      }

-- A test as a number.
pub one_at_most : (b : Bool) (x : ℕ) → x ≡ from_bool b → x ≤ 1
one_at_most true x e = omega (arith, e)
one_at_most false x e = omega (arith, e)

as_chosen : (b : Bool) → from_bool b ≡ choose b 1 0
as_chosen true = refl
as_chosen false = refl

unless_chosen : (b : Bool) → from_bool (not b) ≡ choose b 0 1
unless_chosen true = refl
unless_chosen false = refl

-- How many variables n entries bind, of which those below i bind c.
module _ (C : Program) (w n i : ℕ) where
  pub count_more : (e x : ℕ) → i < n → e ≡ entry_at C w i → x ≡ from_bool (not (eqb e 0)) → (c : ℕ) → c + variables C w (n - i) i ≡ c + x + variables C w (n - (i + 1)) (i + 1)
  unfolding variables
  count_more e x h d f c =
      let k : n - i ≡ suc (n - (i + 1)) = omega arith in
      let j : suc i ≡ i + 1 = omega arith in
      let z : x ≡ choose (eqb (entry_at C w i) 0) 0 1 = f ∙ unless_chosen (eqb e 0) ∙ ap (λ (y : ℕ). choose (eqb y 0) 0 1) d in
      ap (λ (y : ℕ). c + variables C w y i) k ∙ ap (λ (y : ℕ). c + (y + variables C w (n - (i + 1)) (suc i))) (sym z) ∙ ap (λ (y : ℕ). c + (x + variables C w (n - (i + 1)) y)) j ∙ (omega arith)

  pub count_all : (b : Bool) (x : ℕ) → n ≤ i → b ≡ binds_rest C w → x ≡ from_bool b → (c : ℕ) → c + variables C w (n - i) i ≡ c + x
  unfolding variables
  count_all b x h d f c = let k : n - i ≡ 0 = omega arith in ap (λ (y : ℕ). c + variables C w y i) k ∙ ap (λ (y : ℕ). c + y) (sym (f ∙ as_chosen b ∙ ap (λ (y : Bool). choose y 1 0) d))
