-- A program without its watches (document 02, card 13): "with every low lower body and low advice body replaced by unit".
use Rattle.std.specs.Prelude.{ℕ, suc, Bool, true, false, not, ◌&&◌, ◌||◌, List, [], leb}
use Rattle.laws.specs.Tests.{any_below}
use Rattle.calculus.specs.Syntax.{Dom, Ty}
use Rattle.calculus.specs.Combinators.{choose}
use Rattle.image.specs.Limits.{domain_limit}
use Rattle.image.specs.Kinds.{Body, here, function_body, advice_body, split_body, lower_body, object_body, match_body, TermKind, body_of}
use Rattle.image.specs.Layout.{records_of}
use Rattle.image.specs.Program.{Program, Programs, node, blank, end, more, low_body, program}
use Rattle.verdict.specs.Domains.{masks}
use Rattle.verdict.specs.WellTyped.{stated}
use Rattle.image_written.specs.Written.{written}

-- Unit in the place of a term of type unit.
abbrev pub as_unit : Program → Program
as_unit e = node TermKind.unit (stated e) [] end

-- The bodies that give way where they are low: of advice and of lower, not of functions and methods.
abbrev pub watches : Body → Bool
watches here = false
watches function_body = false
watches advice_body = true
watches split_body = false
watches lower_body = true
watches object_body = false
watches match_body = false

module _ (high : Dom → Bool) where
  -- "23 the given set lacks domain 0, names an absent domain, or lacks a domain above a member", by the order of the domains and how many there are.
  abbrev pub wrong_high : (Dom → Dom → Bool) → ℕ → Bool
  wrong_high below count = not (high 0) || any_below domain_limit (λ d. high d && (leb count d || any_below domain_limit (λ q. below d q && not (high q))))

  -- Whether child i gives way.
  abbrev pub gives_way : TermKind → Ty → List ℕ → ℕ → Bool
  gives_way k t vs i = choose (watches (body_of k i)) (low_body high k t vs i) false

  unfoldable mutual
    pub stripped : Program → Program
    stripped (node k t vs es) = node k t vs (strippeds es (gives_way k t vs))
    stripped blank = blank

    pub strippeds : Programs → (ℕ → Bool) → Programs
    strippeds end low = end
    strippeds (more e es) low = more (choose (low 0) (as_unit e) (stripped e)) (strippeds es (λ i. low (suc i)))

  -- The fixed form of an accepted image without its watches.
  unfoldable pub without_watches : List ℕ → List ℕ
  without_watches b = written (masks (records_of b)) (stripped (program (records_of b)))
