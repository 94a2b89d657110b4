-- Records on bytes (document 01, "The image": "A record is a length (whole record, in bytes), a kind, then fields"), and the record of the log (document 01, "A run").
use Rattle.std.specs.Prelude.{ℕ, ◌+◌, List, ◌++◌, length}
use Rattle.base_bytes.specs.Bytes.{bytes_of}

-- "All are unsigned 16-bit little-endian, save a number's 4 bytes".
abbrev pub bytes16 : ℕ → List ℕ
bytes16 n = bytes_of 2 n

abbrev pub bytes32 : ℕ → List ℕ
bytes32 n = bytes_of 4 n

pub record Record : Type 0 where
  pub kind : ℕ
  -- the bytes of its fields
  pub fields : List ℕ

abbrev pub record_bytes : Record → List ℕ
record_bytes r = bytes16 (4 + length r.fields) ++ bytes16 r.kind ++ r.fields

-- "Log record: length 10, kind 64, the current domain, number."
abbrev pub log_kind : ℕ
log_kind = 64

abbrev pub print_record : ℕ → ℕ → Record
print_record d n = record { kind = log_kind; fields = bytes16 d ++ bytes32 n }

abbrev pub log_record : ℕ → ℕ → List ℕ
log_record d n = record_bytes (print_record d n)
