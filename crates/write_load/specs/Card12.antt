-- Card 12 of document 02: "Each generated image is accepted, and equal seeds and depths give equal bytes."
use Rattle.std.specs.Prelude.{ℕ, ◌-◌, ◌≤◌, ◌≡◌, List, [], ◌∷◌, length, take, drop, Ok}
use Rattle.image.specs.Limits.{work_length, report_length}
use Rattle.image.specs.Layout.{records_of}
use Rattle.image.specs.Program.{program}
use Rattle.verdict.specs.Domains.{masks}
use Rattle.verdict.specs.Verdicts.{verdict}
use Rattle.image_written.specs.Generated.{grow, load_length, generated}
use Rattle.write_load.specs.Loads.{loaded}

-- What a call leaves in an output: the image of the seed and the depth, whatever the output held; "output past the image stays".
pub record SameBytes (depth seed : ℕ) (out : List ℕ) : Type 0 where
  pub answer : (loaded seed depth out).answer ≡ Ok (length (generated depth seed))
  pub image : take (length (generated depth seed)) (loaded seed depth out).output ≡ generated depth seed
  pub past : drop (length (generated depth seed)) (loaded seed depth out).output ≡ drop (length (generated depth seed)) out

pub record Card12 (depth seed : ℕ) : Type 0 where
  -- accepted by every call whose work area and report are long enough
  pub accepted : (work report : ℕ) → work_length ≤ work → report_length ≤ report → verdict (generated depth seed) work report ≡ Ok tt
  -- "domain 0 alone"; the program is the tree that was drawn
  pub domains : masks (records_of (generated depth seed)) ≡ 1 ∷ []
  pub tree : program (records_of (generated depth seed)) ≡ (grow (depth - 1) seed).tree
  pub short : length (generated depth seed) ≤ 6146
  -- "equal seeds and depths give equal bytes"
  pub equal : (out : List ℕ) → load_length ≤ length out → SameBytes depth seed out
