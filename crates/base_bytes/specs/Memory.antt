-- The lent work area as the machine's memory: words of 8 bytes from offset 0 on, then single bytes, up to its published length (document 01, "Turned back at the gate", refusal 17).
use Rattle.std.specs.Prelude.{ℕ, zero, suc, ◌+◌, ◌*◌, List, [], ◌∷◌, take, drop}
use Rattle.calculus.specs.Limits.{frame_limit, binding_limit, cell_limit, advice_limit, piece_limit}
use Rattle.base_bytes.specs.Bytes.{number_of, number_at}

-- The first n words.
unfoldable pub words : ℕ → List ℕ → List ℕ
words zero b = []
words (suc n) b = number_of (take 8 b) ∷ words n (drop 8 b)

-- Word i.
abbrev pub word_at : List ℕ → ℕ → ℕ
word_at b i = number_at 8 (8 * i) b

-- How many single bytes and how many words there are, where the single bytes begin, and where the memory ends.
-- A single byte stands beside each slot: of the 512 unfinished terms that may enclose the next one to reduce, and of that one.
abbrev pub beside_count : ℕ
beside_count = frame_limit + 1

-- 4,418 words: both halves of bindings, pieces of two words, and cells (card 9), slots, installed advice, and as many values that are kept as there are slots (card 6). Where each table begins is crate vm_machine, specs/Memory.antt.
abbrev pub word_count : ℕ
word_count = 2 * binding_limit + beside_count + 4 * piece_limit + 2 * cell_limit + advice_limit + beside_count

abbrev pub beside_base : ℕ
beside_base = 8 * word_count

abbrev pub memory_length : ℕ
memory_length = beside_base + beside_count

-- The words and the single bytes of the work area.
abbrev pub words_of : List ℕ → List ℕ
words_of b = words word_count b

abbrev pub beside_of : List ℕ → List ℕ
beside_of b = take beside_count (drop beside_base b)

abbrev pub memory_of : List ℕ → List ℕ × List ℕ
memory_of b = (words_of b, beside_of b)
