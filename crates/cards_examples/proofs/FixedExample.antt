-- Card 11 of two calls: images of different bytes and of one program, of which the second has a type that no term has. The calls that write their fixed forms answer and leave the same.
use Prim.Native.Nat.{ℕ}
use native.Mathlib.Omega.{arith}
use mathlib.Core.Path.{◌≡◌, refl, ap}
use mathlib.Core.List.{List, [], ◌∷◌}
use lib.ListN.{length}
use Rattle.image.specs.Limits.{work_length, report_length}
use Rattle.laws.specs.Tests.{all, all_of, any_below, first_fault}
use Rattle.image.specs.Bytes.{words}
use Rattle.image.specs.Kinds.{find}
use Rattle.image.specs.Layout.{all_within, tests, walk, layout, records_of}
use Rattle.image.specs.Types.{type_out, type_from, type_of}
use Rattle.image.specs.Program.{tree, program}
use Rattle.verdict.specs.Answers.{require_from, in_turn}
use Rattle.verdict.specs.Domains.{bits, order, leq}
use Rattle.verdict.specs.Order.{at_fault}
use Rattle.verdict.specs.Shape.{count, uses, depths_from, depths, shape}
use Rattle.verdict.specs.Check.{check_all, check, typing}
use Rattle.verdict.specs.Verdicts.{verdict}
use Rattle.verdict.proofs.Images.{little, rec, image, one_domain, unit, number, literal, p2_image}
use Rattle.write_fixed.specs.Calls.{fixed_call}
use Rattle.listing.specs.Conformance.{zeros}
use Rattle.demands.specs.Calls.{Runs}
use Rattle.demands.specs.Fixed.{SameProgram}
use Rattle.demands.proofs.Fixed.{card11}

-- The number 5, of type 1; type 0 is unit.
unfoldable pub unused_type : List ℕ
unused_type = image (one_domain ∷ unit ∷ number ∷ rec 34 (1 ∷ 5 ∷ 0 ∷ []) ∷ [])

pub other_bytes : p2_image ≡ unused_type → ⊥
unfolding little rec image one_domain unit number p2_image unused_type
other_bytes e = let z : ◌≡◌ {A = ℕ} 20 24 = ap length e in absurd (omega arith)

both_run : Runs p2_image (zeros report_length) (zeros work_length) × Runs unused_type (zeros report_length) (zeros work_length)
unfolding verdict in_turn require_from walk layout records_of tests find words all_within all all_of any_below first_fault shape at_fault leq order bits count uses depths depths_from typing check check_all type_of type_from type_out
    little rec image one_domain unit number literal p2_image unused_type
both_run = (refl, refl)

same_program : SameProgram p2_image unused_type
unfolding program tree records_of layout walk tests find words all_within all all_of first_fault type_of type_from type_out
    little rec image one_domain unit number literal p2_image unused_type
same_program = record { domains = refl; tree = refl }

pub one_form : fixed_call p2_image (zeros 30) ≡ fixed_call unused_type (zeros 30)
unfolding little rec image one_domain unit number p2_image unused_type
one_form = ((card11 p2_image (zeros report_length) (zeros work_length) both_run.0).equal unused_type both_run.1 (zeros 30) (omega arith) (omega arith)).1 same_program
