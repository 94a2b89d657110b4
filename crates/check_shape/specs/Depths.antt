-- What the pass of refusal 12 over the terms keeps (document 01, "Turned back at the gate"): the depth of each term, up to one past the limit, and 0 until it is set.
use Rattle.std.specs.Prelude.{ℕ, zero, suc, List, get_or, leb}
use Rattle.image.specs.declared.Refusal.{Refusal}
use Rattle.image.specs.Limits.{depth_limit}
use Rattle.image.specs.Records.{Layout}
use Rattle.image.specs.Types.{children}
use Rattle.verdict.specs.Answers.{require_from, Verdict}
use Rattle.verdict.specs.Shape.{set_all}
use Rattle.check_uses.specs.Marks.{more}

-- The depth of the children of term n, whose own depth is among ds, up to one past the limit.
abbrev pub depth_below : List ℕ → ℕ → ℕ
depth_below ds n = more (suc depth_limit) (get_or ds n 0)

-- From term n - 1 down, each term gives its children one more than its own depth, up to one past the limit.
unfoldable pub capped_from : Layout → ℕ → List ℕ → List ℕ
capped_from L zero ds = ds
capped_from L (suc n) ds = capped_from L n (set_all (children L n) (depth_below ds n) ds)

-- Refusal 12 at the first of the terms at the offsets ts, n of them from i on, that is too deep.
abbrev pub deep_from : List ℕ → List ℕ → ℕ → ℕ → Verdict
deep_from ts ds n i = require_from n i Refusal.TooDeep (λ k. get_or ts k 0) (λ k. leb (get_or ds k 0) depth_limit)
