-- The typing pass in parts: the root, and the room of a scope (document 01, "Typing"; "Turned back at the gate", refusals 13 to 16, "parent before children, left first").
use Rattle.std.specs.Prelude.{ℕ, ◌+◌, ◌*◌, ◌≤◌, ◌≡◌, List, length, get_or, ltb}
use Rattle.calculus.specs.Plain.{is_plain}
use Rattle.image.specs.declared.Refusal.{Refusal}
use Rattle.image.specs.Records.{Layout}
use Rattle.image.specs.Layout.{records_of}
use Rattle.image.specs.Types.{term_place, root_of, root_type}
use Rattle.verdict.specs.Answers.{require, Verdict}
use Rattle.verdict.specs.Shape.{depths, Shaped}
use Rattle.verdict.specs.Check.{check, root_setting}
use Rattle.check_rules.specs.Scopes.{bind_limit, scope_length}

-- The scope has room for all that term n and the terms below it bind. The image has passed refusals 11 and 12 (document 01, "Turned back at the gate"): each term but the root is a child once, and none is deeper than 64, where the root has depth 1. A level binds nine variables at most, so at depth d at most 9 * (d - 1) places are used, and 9 * 64 are enough.
pub record Capacity (b scope : List ℕ) (len n : ℕ) : Type 0 where
  pub places : length scope ≡ scope_length
  pub shaped : Shaped (records_of b)
  pub few : len + bind_limit ≤ bind_limit * get_or (depths (records_of b)) n 0

-- The two parts of the typing pass: 13 to 15 from the root on, and 16.
unfoldable pub root_checked : Layout → Verdict
root_checked L = check L (length L.terms) (root_setting L) (root_of L)

unfoldable pub root_plain : Layout → Verdict
root_plain L = require (is_plain (root_type L)) Refusal.RootNotPlain (term_place L (root_of L))

-- 16 at an offset, from the number of leaves.
unfoldable pub plain_at : ℕ → ℕ → Verdict
plain_at leaves place = require (ltb 0 leaves) Refusal.RootNotPlain place
