-- The context of variables, in the first places of a scope (document 01, "The image": "variable k (0 the innermost)"; "Typing": "outer variables stay visible").
use Rattle.std.specs.Prelude.{ℕ, zero, suc, ◌+◌, ◌*◌, List, [], ◌∷◌, get_or}
use Rattle.calculus.specs.Syntax.{Dom}
use Rattle.image.specs.Limits.{depth_limit, entry_limit}
use Rattle.verdict.specs.Settings.{Setting}

-- The most variables that a child binds: the first branch of a match (card 6) binds a value for each entry, and the rest.
abbrev pub bind_limit : ℕ
bind_limit = entry_limit + 1

-- The places of a scope: no term is deeper than the limit, and each level binds so many at most.
abbrev pub scope_length : ℕ
scope_length = bind_limit * depth_limit

-- The types of the variables, innermost first: they stand in the first places of a scope, the innermost last.
unfoldable pub context_in : List ℕ → ℕ → List ℕ
context_in scope zero = []
context_in scope (suc n) = get_or scope n 0 ∷ context_in scope n

abbrev pub setting_in : List ℕ → ℕ → Dom → Setting ℕ
setting_in scope n c = record { context = context_in scope n; dom = c }
