-- The masks of the domains (document 01, "The image": "a mask, bit q set if this domain ≤ domain q").
use Rattle.std.specs.Prelude.{ℕ, ◌/◌, ◌%◌, ◌^◌, Bool, false, List, get_or, eqb, ltb}
use Rattle.image.specs.Limits.{domain_limit}
use Rattle.calculus.specs.Combinators.{choose}

-- Bit q of domain d's mask.
unfoldable pub bit_of : List ℕ → ℕ → ℕ → Bool
bit_of ms d q = choose (ltb d domain_limit) (choose (ltb q domain_limit) (eqb (get_or ms d 0 / 2 ^ q % 2) 1) false) false
