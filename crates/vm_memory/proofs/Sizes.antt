-- The tables stand end to end in the work area, each with the room of document 01, "A run", both halves of each that card 9 halves, and fill its published length.
use Prim.Native.Nat.{◌+◌, ◌*◌}
use mathlib.Core.Path.{◌≡◌, refl}
use Rattle.calculus.specs.Limits.{frame_limit, binding_limit, cell_limit, advice_limit, piece_limit}
use Rattle.image.specs.Limits.{work_length}
use Rattle.base_bytes.specs.Memory.{word_count, beside_count, memory_length}
use Rattle.vm_machine.specs.Memory.{binding_base, slot_base, piece_base, cell_base, installed_base, kept_base, binding_places}

pub both_quotas : binding_places ≡ 2 * binding_limit
both_quotas = refl

-- One slot beyond the limit of frames; two words for a piece.
pub slots_begin : slot_base ≡ binding_base + binding_places
slots_begin = refl

pub pieces_begin : piece_base ≡ slot_base + (frame_limit + 1)
pieces_begin = refl

pub cells_begin : cell_base ≡ piece_base + 2 * (2 * piece_limit)
cells_begin = refl

pub installed_begin : installed_base ≡ cell_base + 2 * cell_limit
installed_begin = refl

pub kept_begin : kept_base ≡ installed_base + advice_limit
kept_begin = refl

-- One place for each keep and one beyond, as for slots (card 6).
pub words_end : word_count ≡ kept_base + (frame_limit + 1)
words_end = refl

-- A byte beside each slot.
pub bytes_beside : beside_count ≡ frame_limit + 1
bytes_beside = refl

pub memory_whole : memory_length ≡ work_length
memory_whole = refl
