-- What a call that generates an image answers, and what the output then holds, from any seed, depth and output (document 02, card 12).
use Rattle.std.specs.Prelude.{ℕ, ◌&&◌, List, length, leb, Result, Ok, Err}
use Rattle.calculus.specs.Combinators.{choose}
use Rattle.base_bytes.specs.Bytes.{over}
use Rattle.image_written.specs.Generated.{load_depth_limit, load_length, generated}
use Rattle.write_load.specs.declared.LoadError.{LoadError}

-- What a call answers, and what the output then holds.
pub record Call : Type 0 where
  pub answer : Result ℕ LoadError
  pub output : List ℕ

-- "21 depth 0 or over 9; 22 output under 16,384 bytes; in this order, place 0, nothing written." Output past the image stays.
unfoldable pub loaded : ℕ → ℕ → List ℕ → Call
loaded seed depth out =
    choose (leb 1 depth && leb depth load_depth_limit)
    (choose (leb load_length (length out)) (record { answer = Ok (length (generated depth seed)); output = over 0 (generated depth seed) out }) (record { answer = Err LoadError.ShortOutput; output = out }))
    (record { answer = Err LoadError.WrongDepth; output = out })

-- The card's numbers of its refusals, whose place is 0; 0 for an image that is written.
abbrev pub wrong_depth : ℕ
wrong_depth = 21

abbrev pub short_load : ℕ
short_load = 22

abbrev pub error_number : LoadError → ℕ
error_number LoadError.WrongDepth = wrong_depth
error_number LoadError.ShortOutput = short_load

abbrev pub load_number : Result ℕ LoadError → ℕ
load_number (Ok n) = 0
load_number (Err e) = error_number e

-- How many bytes were written.
abbrev pub load_bytes : Result ℕ LoadError → ℕ
load_bytes (Ok n) = n
load_bytes (Err e) = 0
