-- Refusal 12 (document 01, "Turned back at the gate"): an image whose deepest term is at depth 64 is accepted, and one that is deeper by 1 is refused at its lowest term, by computation of the definitions.
use Rattle.std.specs.Prelude.{Ok}
use mathlib.Core.Path.{◌≡◌, refl}
use Rattle.image.specs.declared.Refusal.{Refusal}
use Rattle.laws.specs.Tests.{all, all_of, any_below, first_fault}
use Rattle.image.specs.Bytes.{words}
use Rattle.image.specs.Kinds.{find}
use Rattle.image.specs.Layout.{all_within, tests, walk, layout, records_of}
use Rattle.image.specs.Types.{type_out, type_from, type_of}
use Rattle.verdict.specs.Answers.{require_from, in_turn, refused_at}
use Rattle.verdict.specs.Domains.{bits, order, leq}
use Rattle.verdict.specs.Order.{at_fault}
use Rattle.verdict.specs.Shape.{count, uses, depths_from, depths, shape}
use Rattle.verdict.specs.Check.{check_all, check, typing}
use Rattle.verdict.specs.Verdicts.{verdict}
use Rattle.image.specs.Limits.{work_length, report_length}
use Rattle.verdict.proofs.Images.{little, rec, image, one_domain, number, literal, chain, deep}

pub at_the_limit : verdict (deep 63) work_length report_length ≡ Ok tt
unfolding verdict in_turn require_from walk layout records_of tests find words all_within all all_of any_below first_fault shape at_fault leq order bits count uses depths depths_from typing check check_all type_of type_from type_out
    little rec image one_domain number literal chain deep
at_the_limit = refl

pub too_deep : verdict (deep 64) work_length report_length ≡ refused_at Refusal.TooDeep 10
unfolding verdict in_turn require_from walk layout records_of tests find words all_within all all_of any_below first_fault shape at_fault leq order bits count uses depths depths_from typing check check_all type_of type_from type_out
    little rec image one_domain number literal chain deep
too_deep = refl
