-- A word that is written into a table, and the words that stay.
use Prim.Native.Nat.{ℕ, ◌+◌, ◌*◌, ◌≤◌, ◌<◌}
use native.Mathlib.Omega.{arith}
use mathlib.Core.Path.{◌≡◌, refl, ◌∙◌}
use lib.ListN.{length, length-set}
use lib.Seq.{get_or-set_same, get_or-set_other}
use Rattle.vm_machine.specs.Memory.{Memory, binding_base, slot_base, piece_base, word_at, put_word}
use Rattle.vm_machine_correct.proofs.Relations.{Sizes, Grows}

pub word_same : (M : Memory) (j v : ℕ) → j < length M.words → word_at (put_word j v M) j ≡ v
word_same M j v h = get_or-set_same M.words j v 0 h

pub word_other : (M : Memory) (j v i : ℕ) → (i ≡ j → ⊥) → word_at (put_word j v M) i ≡ word_at M i
word_other M j v i h = get_or-set_other M.words j i v 0 h

-- What is neither a binding nor a piece in use may be written.
pub grows_put : (M : Memory) (z : Sizes) (j v : ℕ) → z.nb ≤ j → ((i : ℕ) → i < 2 * z.np → piece_base + i ≡ j → ⊥) → Grows M z (put_word j v M) z
grows_put M z j v h g =
    record {
      more_bindings = omega arith;
      more_pieces = omega arith;
      bindings = λ l p. word_other M j v (binding_base + l) (λ e. omega arith);
      firsts = λ p q. word_other M j v (piece_base + 2 * p) (λ e. g (2 * p) (omega arith) e);
      seconds = λ p q. word_other M j v (piece_base + 2 * p + 1) (λ e. g (2 * p + 1) (omega arith) (omega arith));
    }

-- More may come into use.
pub grows_sizes : (M : Memory) (z z' : Sizes) → z.nb ≤ z'.nb → z.np ≤ z'.np → Grows M z M z'
grows_sizes M z z' a b =
    record { more_bindings = a; more_pieces = b; bindings = λ l p. refl; firsts = λ p q. refl; seconds = λ p q. refl }

pub grows_refl : (M : Memory) (z : Sizes) → Grows M z M z
grows_refl M z = grows_sizes M z z (omega arith) (omega arith)

pub grows_trans : {M M' M'' : Memory} {z z' z'' : Sizes} → Grows M z M' z' → Grows M' z' M'' z'' → Grows M z M'' z''
grows_trans g h =
    record {
      more_bindings = omega (arith, g.more_bindings, h.more_bindings);
      more_pieces = omega (arith, g.more_pieces, h.more_pieces);
      bindings = λ l p. h.bindings l (omega (arith, g.more_bindings)) ∙ g.bindings l p;
      firsts = λ p q. h.firsts p (omega (arith, g.more_pieces)) ∙ g.firsts p q;
      seconds = λ p q. h.seconds p (omega (arith, g.more_pieces)) ∙ g.seconds p q;
    }

-- The words from j on, and their number, stay; so do the bytes.
pub record Above (j : ℕ) (M M' : Memory) : Type 0 where
  pub words : length M'.words ≡ length M.words
  pub kept : (i : ℕ) → j ≤ i → word_at M' i ≡ word_at M i

pub above_put : (M : Memory) (j i v : ℕ) → i < j → Above j M (put_word i v M)
above_put M j i v h = record { words = length-set M.words i v; kept = λ q l. word_other M i v q (λ e. omega arith) }

pub above_refl : (j : ℕ) (M : Memory) → Above j M M
above_refl j M = record { words = refl; kept = λ i h. refl }

pub above_trans : {j : ℕ} {M M' M'' : Memory} → Above j M M' → Above j M' M'' → Above j M M''
above_trans a b = record { words = b.words ∙ a.words; kept = λ i h. b.kept i h ∙ a.kept i h }

-- The slots stay, and the bytes beside them.
pub record SameSlots (M M' : Memory) : Type 0 where
  pub word : (i : ℕ) → slot_base ≤ i → i < piece_base → word_at M' i ≡ word_at M i
  pub byte : M'.beside ≡ M.beside

pub slots_put : (M : Memory) (j v : ℕ) → (slot_base ≤ j → j < piece_base → ⊥) → SameSlots M (put_word j v M)
slots_put M j v h = record { word = λ i a b. word_other M j v i (λ e. h (omega arith) (omega arith)); byte = refl }

pub slots_refl : (M : Memory) → SameSlots M M
slots_refl M = record { word = λ i a b. refl; byte = refl }

pub slots_trans : {M M' M'' : Memory} → SameSlots M M' → SameSlots M' M'' → SameSlots M M''
slots_trans a b = record { word = λ i h g. b.word i h g ∙ a.word i h g; byte = b.byte ∙ a.byte }
