-- The order of the domains, as their masks say it (document 01, "The image": "bit q set if this domain ≤ domain q").
use Rattle.std.specs.Prelude.{ℕ, zero, suc, ◌/◌, ◌%◌, Bool, false, List, [], ◌∷◌, map, get_or, eqb}
use Rattle.calculus.specs.Syntax.{Dom}
use Rattle.calculus.specs.Typing.{Policy}
use Rattle.image.specs.Limits.{domain_limit}
use Rattle.image.specs.Bytes.{field_at}
use Rattle.image.specs.Records.{Layout}

-- The lowest n bits of a mask, lowest first.
unfoldable pub bits : ℕ → ℕ → List Bool
bits zero m = []
bits (suc n) m = eqb (m % 2) 1 ∷ bits n (m / 2)

module _ (L : Layout) where
  -- The masks, in order.
  abbrev pub masks : List ℕ
  masks = map (λ o. field_at L.image o 0) L.domains

  -- A row of bits for each domain.
  unfoldable pub order : List (List Bool)
  order = map (λ m. bits domain_limit m) masks

  -- d ≤ q: domain d's mask names q.
  unfoldable pub leq : Dom → Dom → Bool
  leq d q = get_or (get_or order d []) q false

  abbrev pub policy : Policy
  policy = record { leq = leq }
