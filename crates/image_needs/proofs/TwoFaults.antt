-- Refusal 19 of an image with two faults, by computation: an apply whose argument is an apply. "The place is the offset of the lowest": of the inner one, term 3, whose record begins at byte 40, though a walk from the root meets the outer one, term 6, first.
use Prim.Native.Nat.{ℕ}
use mathlib.Core.Path.{◌≡◌, refl}
use mathlib.Core.List.{List, [], ◌∷◌}
use Rattle.std.proofs.Common.{Err}
use Rattle.laws.specs.Tests.{all, all_of, any_below, first_fault}
use Rattle.image.specs.Bytes.{words}
use Rattle.image.specs.Kinds.{find}
use Rattle.image.specs.Layout.{all_within, tests, walk, layout, records_of}
use Rattle.image.specs.Types.{type_out, type_from, type_of}
use Rattle.verdict.specs.Answers.{require_from, in_turn}
use Rattle.verdict.specs.Domains.{bits, order, leq}
use Rattle.verdict.specs.Order.{at_fault}
use Rattle.verdict.specs.Shape.{count, uses, depths_from, depths, shape}
use Rattle.verdict.specs.Check.{check_all, check, typing}
use Rattle.verdict.specs.Verdicts.{verdict}
use Rattle.verdict.proofs.Images.{little, rec, image, one_domain, unit}
use Rattle.image_needs.specs.declared.Unforeseen.{Unforeseen}
use Rattle.image_needs.specs.Faults.{least, lowest, lowest_fault}
use Rattle.image_needs.specs.Forecasts.{forecast}

unfoldable pub applied_twice : List ℕ
applied_twice =
    image
    (one_domain ∷ unit ∷ rec 20 (0 ∷ 0 ∷ 0 ∷ []) ∷ rec 32 (0 ∷ []) ∷ rec 41 (1 ∷ 0 ∷ []) ∷ rec 32 (0 ∷ []) ∷ rec 42 (0 ∷ 1 ∷ 2 ∷ []) ∷ rec 32 (0 ∷ []) ∷ rec 41 (1 ∷ 4 ∷ []) ∷ rec 42 (0 ∷ 5 ∷ 3 ∷ []) ∷ [])

pub lowest_of_two : forecast applied_twice ≡ Err (Unforeseen.OutsideClass 40)
unfolding applied_twice forecast lowest_fault lowest least
    verdict in_turn require_from walk layout records_of tests find words all_within all all_of any_below first_fault shape at_fault leq order bits count uses depths depths_from typing check check_all type_of type_from type_out
    little rec image one_domain unit
lowest_of_two = refl
