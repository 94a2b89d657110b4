-- What a call that writes an image refuses besides the check's refusals, worked (document 02, cards 11 and 13).
use mathlib.Core.Path.{◌≡◌, refl}
use mathlib.Core.Bool.{Bool, true, false, ◌||◌}
use mathlib.Core.List.{[], ◌∷◌}
use lib.Dec.{eqb, leb}
use Rattle.laws.specs.Tests.{any_below}
use Rattle.calculus.specs.Syntax.{Dom}
use Rattle.image_written.specs.Written.{too_short}
use Rattle.image_written.specs.Stripped.{wrong_high}

-- 20 and 24: an output as long as the image is long enough, one that is a byte shorter is not.
pub as_long : too_short (0 ∷ 0 ∷ []) (7 ∷ 7 ∷ []) ≡ false
as_long = refl

pub a_byte_shorter : too_short (0 ∷ []) (7 ∷ 7 ∷ []) ≡ true
a_byte_shorter = refl

-- 23: three domains, 2 below 1, which is below 0.
abbrev chain : Dom → Dom → Bool
chain d q = leb q d

-- Domain 0 alone, and with the domain below it, is a set of high domains.
pub high_sets : (wrong_high (λ d. eqb d 0) chain 3 ≡ false) × (wrong_high (λ d. eqb d 0 || eqb d 1) chain 3 ≡ false)
unfolding any_below
high_sets = (refl, refl)

-- A set without domain 0; one with domain 3, which is absent; one with domain 2, and without domain 1 above it.
pub other_sets : (wrong_high (λ d. false) chain 3 ≡ true) × (wrong_high (λ d. leb d 3) chain 3 ≡ true) × (wrong_high (λ d. eqb d 0 || eqb d 2) chain 3 ≡ true)
unfolding any_below
other_sets = (refl, refl, refl)
