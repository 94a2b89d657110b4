-- Every limit of a run (document 01, "A run", halved by card 9; the leaves are "The image", limits), each in one place.
use Rattle.std.specs.Prelude.{ℕ}

-- Unfinished terms around the next redex.
abbrev pub frame_limit : ℕ
frame_limit = 512

-- Card 9: bindings, cells and pieces of one half, domain 0's or the other domains'.
abbrev pub binding_limit : ℕ
binding_limit = 1024

abbrev pub cell_limit : ℕ
cell_limit = 128

abbrev pub label_limit : ℕ
label_limit = 64

-- Installed advice.
abbrev pub advice_limit : ℕ
advice_limit = 64

-- "Piece" is document 01's word: the room that a pair, a pointcut or an advice takes.
abbrev pub piece_limit : ℕ
piece_limit = 256

-- The bytes of one log record.
abbrev pub log_record_length : ℕ
log_record_length = 10

-- The leaves of a plain type (document 01's word; Plain.antt, `is_plain`).
abbrev pub leaf_limit : ℕ
leaf_limit = 8

-- Numbers: 32 bits, the sign bit, and -1.
abbrev pub word_size : ℕ
word_size = 4294967296

abbrev pub sign_bit : ℕ
sign_bit = 2147483648

abbrev pub minus_one : ℕ
minus_one = 4294967295
