-- Every limit of an image and of what is lent with it (document 01, "The image", limits, and "Turned back at the gate"), each in one place. The limits of a run are the calculus's.
use Rattle.std.specs.Prelude.{ℕ, ◌+◌, ◌*◌}
use Rattle.calculus.specs.Limits.{leaf_limit, cell_limit}
use Rattle.base_bytes.specs.Memory.{memory_length}

-- The bytes of an image.
abbrev pub image_limit : ℕ
image_limit = 16384

abbrev pub domain_limit : ℕ
domain_limit = 16

abbrev pub type_limit : ℕ
type_limit = 128

abbrev pub term_limit : ℕ
term_limit = 1024

-- The root has depth 1.
abbrev pub depth_limit : ℕ
depth_limit = 64

-- The labels of a pointcut.
abbrev pub pointcut_limit : ℕ
pointcut_limit = 8

-- The methods of an object (card 3).
abbrev pub method_limit : ℕ
method_limit = 8

-- The entries of a match (card 6).
abbrev pub entry_limit : ℕ
entry_limit = 8

-- The operations of arithmetic: plus, minus, less, equal.
abbrev pub operation_count : ℕ
operation_count = 4

-- The published length of the work area, 35,857 bytes: where the machine's memory ends, of 4,418 words of 8 bytes and 513 single bytes. (Document 01, "Turned back at the gate": "one constant of at most 65,536 bytes".)
abbrev pub work_length : ℕ
work_length = memory_length

-- The length that every report fits in, document 01's 17,994 bytes: a head of 10, the result's leaves, of 8 at most each, and the cells of both halves (card 9), each with a head of 6 and its leaves.
abbrev pub report_length : ℕ
report_length = 10 + 8 * leaf_limit + 2 * cell_limit * (6 + 8 * leaf_limit)
