-- Two images and two calls compared: the statement of demand 3 (document 01, "Two runs compared").
use Rattle.std.specs.Prelude.{ℕ, ◌<◌, ◌≡◌, Bool, true, List, length}
use Rattle.calculus.specs.Syntax.{Dom}
use Rattle.image.specs.Records.{Layout}
use Rattle.image.specs.Layout.{records_of}
use Rattle.image.specs.Program.{blanked}
use Rattle.verdict.specs.Domains.{masks, leq}
use Rattle.demands.specs.SameBytes.{SameBytes}
use Rattle.call_spec.specs.Runs.{program_of}
use Rattle.call_spec.specs.Calls.{Left, called}
use Rattle.demands.specs.Calls.{Runs, log_written, report_written}

-- "The high domains are any set of the images' domains that holds 0 and, with each member d, every domain q with d ≤ q."
pub record HighSet (L : Layout) (high : Dom → Bool) : Type 0 where
  pub mainline : high 0 ≡ true
  pub up : (d q : Dom) → d < length L.domains → q < length L.domains → high d ≡ true → leq L d q ≡ true → high q ≡ true

-- Two images with the same domains, whose programs differ only in low bodies.
pub record Compared (high : Dom → Bool) (b b' : List ℕ) : Type 0 where
  -- "as many domain records, with the same masks in order"
  pub domains : masks (records_of b) ≡ masks (records_of b')
  pub highs : HighSet (records_of b) high
  -- "they become equal once every low body, with all inside it, gives way to one and the same blank"
  pub programs : blanked high (program_of b) ≡ blanked high (program_of b')

-- What two calls leave has the high printed numbers, the result and the high cells in common, as far as document 01 asks: of the bytes that each wrote.
abbrev pub SameLeft : (Dom → Bool) → Left → Left → Type 0
SameLeft high X Y = SameBytes high (log_written X) (log_written Y) (report_written X) (report_written Y)

-- high ⊢ b ∼ b': two images that may be compared. high ⊢ X ≈ Y: what two calls leave agrees at the high domains.
infix 4 ◌⊢◌∼◌ ◌⊢◌≈◌
abbrev pub ◌⊢◌∼◌ : (Dom → Bool) → List ℕ → List ℕ → Type 0
high ⊢ b ∼ b' = Compared high b b'

abbrev pub ◌⊢◌≈◌ : (Dom → Bool) → Left → Left → Type 0
high ⊢ X ≈ Y = SameLeft high X Y

-- "Demand 3 is one claim about the bytes that two whole runs leave": for any high domains, any two such images, any frame, any budgets and any lent memory for which both calls run.
abbrev pub Demand3 : Type 0
Demand3 =
    (high : Dom → Bool) (b b' : List ℕ) → high ⊢ b ∼ b'
    → (frame : List ℕ) (budget budget' : ℕ) (log log' report report' work work' : List ℕ) → Runs b report work → Runs b' report' work'
    → high ⊢ called b frame budget log report work ≈ called b' frame budget' log' report' work'
