-- An image that meets what the theorem on trimmed images asks, every record of which is longer than its known fields, and its trimmed form.
use mathlib.Core.Path.{◌≡◌, refl}
use native.Mathlib.Omega.{arith}
use Rattle.laws.specs.Tests.{all}
use Rattle.image.specs.Kinds.{find}
use Rattle.verdict.proofs.Images.{little, rec, longer, longer_image, trimmed_image, image, one_domain, number, literal}
use Rattle.image_trimmed.specs.Trimmed.{ends, next, ReadableImage, trimmed_from, trimmed, trimmed_place}

pub longer_readable : ReadableImage longer_image
unfolding longer_image little longer image all find
longer_readable =
    record {
      short = omega arith;
      records =
          next 0 (record { whole = refl; known = refl; long = refl })
          (next 7 (record { whole = refl; known = refl; long = refl })
          (next 13 (record { whole = refl; known = refl; long = refl })
          (next 26 (record { whole = refl; known = refl; long = refl }) (ends 38 refl))));
    }

pub longer_trimmed : trimmed longer_image ≡ trimmed_image
unfolding trimmed trimmed_from longer_image trimmed_image little rec longer image one_domain number literal all find
longer_trimmed = refl

-- The places of its records, and of its end.
pub longer_places : (trimmed_place longer_image 7 ≡ 6) × (trimmed_place longer_image 13 ≡ 10) × (trimmed_place longer_image 26 ≡ 20) × (trimmed_place longer_image 38 ≡ 28)
unfolding trimmed_place trimmed trimmed_from longer_image little longer image all find
longer_places = (refl, refl, refl, refl)
