-- The order of the domains as rows of truths, and which domain is at fault in it (document 01, "Turned back at the gate": "Domain d is at fault in 10 if .."): what the crate verdict defines of a layout, here of the rows that stand for it.
use Rattle.std.specs.Prelude.{ℕ, ◌≡◌, Bool, false, not, ◌&&◌, ◌||◌, List, [], ◌∷◌, length, get_or, eqb, leb}
use Rattle.image.specs.declared.Refusal.{Refusal}
use Rattle.image.specs.Limits.{domain_limit}
use Rattle.laws.specs.Tests.{any_below}
use Rattle.image.specs.Records.{Layout}
use Rattle.verdict.specs.Answers.{require_from, Verdict}
use Rattle.verdict.specs.Domains.{leq}

-- Row d has e.
abbrev pub names : List (List Bool) → ℕ → ℕ → Bool
names o d e = get_or (get_or o d []) e false

-- Of two domains with the rows a and b: "names e where e names f and d does not".
abbrev pub gap_in : List Bool → List Bool → Bool
gap_in a b = any_below domain_limit (λ f. get_or b f false && not (get_or a f false))

-- What either of two rows names.
unfoldable pub either_row : List Bool → List Bool → List Bool
either_row [] b = b
either_row (p ∷ a) [] = p ∷ a
either_row (p ∷ a) (q ∷ b) = (p || q) ∷ either_row a b

-- Of n domains, e, with the row b, puts d, with the row a, at fault; d is at fault.
abbrev pub fault_in : List Bool → List Bool → ℕ → ℕ → ℕ → Bool
fault_in a b n d e = get_or a e false && (leb n e || ((not (eqb e d) && get_or b d false) || gap_in a b))

abbrev pub faulty : List (List Bool) → ℕ → ℕ → Bool
faulty o n d = not (names o d d) || any_below domain_limit (λ e. fault_in (get_or o d []) (get_or o e []) n d e)

-- Refusal 10 at the first of the domains at the offsets ds, n of them from d on, that is at fault.
abbrev pub order_from : List ℕ → List (List Bool) → ℕ → ℕ → Verdict
order_from ds o n d = require_from n d Refusal.DomainOrder (λ k. get_or ds k 0) (λ k. not (faulty o (length ds) k))

-- The rows stand for the order of a layout; an absent domain names none.
pub record Rows (L : Layout) (o : List (List Bool)) : Type 0 where
  pub same : (d q : ℕ) → names o d q ≡ leq L d q
