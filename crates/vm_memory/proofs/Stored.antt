-- What a store leaves of the tables, and what a load answers.
use Prim.Native.Nat.{ℕ, ◌+◌, ◌-◌, ◌*◌, ◌/◌, ◌%◌, ◌≤◌, ◌<◌}
use mathlib.Core.Path.{◌≡◌, refl, sym, ap, subst, ◌∙◌}
use mathlib.Core.List.{List}
use lib.ListN.{length, get_or, set, drop}
use Rattle.base_bytes.specs.Bytes.{bytes_of, over}
use Rattle.base_bytes.specs.Memory.{word_count, beside_count, beside_base, memory_length}
use Rattle.base_bytes.specs.Memory as area
use Rattle.base_bytes.proofs.Memory.{words_at, store_words, store_past, store_beside, beside_past, beside_at}
use Rattle.vm_machine.specs.Memory.{Memory, word_at, put_word, slot_held, slot_at, slot_in, slot_word, pointcut_frame, call_frame, put_return, put_digits, digits_at, put_match, beside_at_of, cell_at, cell_note, put_cell, held_size}
use Rattle.vm_memory.specs.View.{memory_of, Holds}

-- A word is loaded.
pub load_word : (w : List ℕ) (i : ℕ) → i < word_count → area.word_at w i ≡ word_at (memory_of w) i
load_word w i h = sym (words_at word_count w i h)

-- The tables from their two parts.
abbrev made : List ℕ × List ℕ → Memory
made p = record { words = p.0; beside = p.1 }

-- A word is stored.
pub store_word : (w w' : List ℕ) (i v : ℕ) → memory_length ≤ length w → i < word_count → v < 18446744073709551616 → w' ≡ over (8 * i) (bytes_of 8 v) w → Holds (put_word i v (memory_of w)) w w'
store_word w w' i v l h f e =
    record {
      memory = ap memory_of e ∙ ap made (store_words w l i v h f);
      rest = ap (drop memory_length) e ∙ store_past w l i v h;
    }

-- The same store, its place and word worked out another way.
pub put_as : (w w' : List ℕ) (i j x y : ℕ) → i ≡ j → x ≡ y → Holds (put_word i x (memory_of w)) w w' → Holds (put_word j y (memory_of w)) w w'
put_as w w' i j x y d e a =
    record { memory = a.memory ∙ ap (λ k. put_word k x (memory_of w)) d ∙ ap (λ k. put_word j k (memory_of w)) e; rest = a.rest }

-- A store after another.
pub and_word : (M : Memory) (w w' w'' : List ℕ) (i v : ℕ) → Holds M w w' → Holds (put_word i v (memory_of w')) w' w'' → Holds (put_word i v M) w w''
and_word M w w' w'' i v a b = record { memory = b.memory ∙ ap (put_word i v) a.memory; rest = b.rest ∙ a.rest }

-- The byte beside a slot is stored after a word.
pub and_beside : (M : Memory) (w w' w'' : List ℕ) (i v : ℕ) → memory_length ≤ length w' → i < beside_count → Holds M w w' → w'' ≡ set w' (beside_base + i) v → Holds (record { words = M.words; beside = set M.beside i v }) w w''
and_beside M w w' w'' i v l h a e =
    record {
      memory = ap memory_of e ∙ ap made (store_beside w' l i v h) ∙ ap (λ (N : Memory). record { words = N.words; beside = set N.beside i v }) a.memory;
      rest = ap (drop memory_length) e ∙ beside_past w' l i v h ∙ a.rest;
    }

-- A call's frame: x is what was held in its slot, whose word is f.
pub return_stored : (w w' : List ℕ) (frames d pc env f x y : ℕ) → f ≡ slot_at (memory_of w) frames d → x ≡ slot_held f → y ≡ slot_word call_frame pc env x → Holds (put_word (slot_in frames d) y (memory_of w)) w w'
    → Holds (put_return frames d pc env (memory_of w)) w w'
return_stored w w' frames d pc env f x y e g h = put_as w w' _ _ y _ refl (h ∙ ap (slot_word call_frame pc env) (g ∙ ap slot_held e))

-- A pointcut's frame: its word y, and the byte beside it.
pub digits_stored : (w w' w'' : List ℕ) (frames d pc env digits y : ℕ) → memory_length ≤ length w' → frames - d < beside_count → y ≡ slot_word pointcut_frame pc env (digits % held_size) → Holds (put_word (slot_in frames d) y (memory_of w)) w w'
    → w'' ≡ set w' (beside_base + (frames - d)) (digits / held_size % 256) → Holds (put_digits frames d pc env digits (memory_of w)) w w''
digits_stored w w' w'' frames d pc env digits y l h e a s = and_beside _ w w' w'' (frames - d) (digits / held_size % 256) l h (put_as w w' _ _ y _ refl e a) s

-- Its digits: x is what its word f holds, y they with the byte beside.
pub digits_loaded : (w : List ℕ) (frames f x y : ℕ) → memory_length ≤ length w → frames < beside_count → x ≡ slot_held f → y ≡ x + held_size * get_or w (beside_base + frames) 0 → y ≡ digits_at (memory_of w) frames f
digits_loaded w frames f x y l h e d = d ∙ ap (λ k. k + held_size * get_or w (beside_base + frames) 0) e ∙ ap (λ b. slot_held f + held_size * b) (sym (beside_at w l frames h))

-- A match's frame: its word f, and the byte beside it.
pub match_stored : (w w' w'' : List ℕ) (frames d f byte : ℕ) → memory_length ≤ length w' → frames - d < beside_count → Holds (put_word (slot_in frames d) f (memory_of w)) w w' → w'' ≡ set w' (beside_base + (frames - d)) byte
    → (pc env v : ℕ) → f ≡ slot_word pointcut_frame pc env (v / 268435456) → Holds (put_match frames d pc env v byte (memory_of w)) w w''
match_stored w w' w'' frames d f byte l h a s pc env v e = and_beside _ w w' w'' (frames - d) byte l h (put_as w w' _ _ f _ refl e a) s

-- The byte beside a slot: x is it.
pub byte_loaded : (w : List ℕ) (frames x : ℕ) → memory_length ≤ length w → frames < beside_count → x ≡ get_or w (beside_base + frames) 0 → x ≡ beside_at_of (memory_of w) frames
byte_loaded w frames x l h e = e ∙ sym (beside_at w l frames h)

-- A cell's value is another: x is its word, n its note.
pub cell_stored : (w w' : List ℕ) (r v x n : ℕ) → x ≡ cell_at (memory_of w) r → n ≡ cell_note x → Holds (put_cell r v n (memory_of w)) w w' → Holds (put_cell r v (cell_note (cell_at (memory_of w) r)) (memory_of w)) w w'
cell_stored w w' r v x n e d a = subst (λ k. Holds (put_cell r v k (memory_of w)) w w') (d ∙ ap cell_note e) a
