-- Which domains are at fault in their order, refusal 10 (document 01, "Turned back at the gate").
use Rattle.std.specs.Prelude.{Bool, not, ◌&&◌, ◌||◌, length, eqb, leb}
use Rattle.calculus.specs.Syntax.{Dom}
use Rattle.image.specs.Limits.{domain_limit}
use Rattle.laws.specs.Tests.{any_below}
use Rattle.image.specs.Records.{Layout}
use Rattle.verdict.specs.Domains.{leq}

module _ (L : Layout) where
  -- "Domain d is at fault in 10 if its mask names an absent domain, lacks d, names e ≠ d that names d, or names e where e names f and d does not."
  abbrev pub fault_at : Dom → Dom → Bool
  fault_at d e = leq L d e && (leb (length L.domains) e || ((not (eqb e d) && leq L e d) || any_below domain_limit (λ f. leq L e f && not (leq L d f))))

  unfoldable pub at_fault : Dom → Bool
  at_fault d = not (leq L d d) || any_below domain_limit (λ e. fault_at d e)
