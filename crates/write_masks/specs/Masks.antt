-- A mask of high domains, and when it is no set of high domains (document 02, card 13).
use Rattle.std.specs.Prelude.{ℕ, ◌/◌, ◌%◌, ◌^◌, Bool, false, eqb, ltb}
use Rattle.calculus.specs.Syntax.{Dom}
use Rattle.calculus.specs.Combinators.{choose}
use Rattle.image.specs.Limits.{domain_limit}
use Rattle.image_written.specs.Stripped.{wrong_high}

-- "A mask (bit q for domain q) of high domains".
abbrev pub in_mask : ℕ → Dom → Bool
in_mask m q = choose (ltb q domain_limit) (eqb (m / 2 ^ q % 2) 1) false

-- Refusal 23, which `wrong_high` decides, of a mask: by the order of the domains and how many there are.
abbrev pub wrong_by : (Dom → Dom → Bool) → ℕ → ℕ → Bool
wrong_by below count mask = wrong_high (in_mask mask) below count
