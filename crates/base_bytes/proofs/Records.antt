-- Records byte by byte.
use mathlib.Core.Path.{◌≡◌, refl}
use mathlib.Core.List.{[], ◌∷◌}
use Rattle.base_bytes.specs.Bytes.{bytes_of}
use Rattle.base_bytes.specs.Records.{bytes16, record_bytes, log_record}

-- The truth 1 of a report (document 01, "A run": kind 66, 2 bytes).
pub one_truth : record_bytes (record { kind = 66; fields = bytes16 1 }) ≡ 6 ∷ 0 ∷ 66 ∷ 0 ∷ 1 ∷ 0 ∷ []
unfolding bytes_of
one_truth = refl

-- The number -2, printed at domain 3.
pub one_print : log_record 3 4294967294 ≡ 10 ∷ 0 ∷ 64 ∷ 0 ∷ 3 ∷ 0 ∷ 254 ∷ 255 ∷ 255 ∷ 255 ∷ []
unfolding bytes_of
one_print = refl
