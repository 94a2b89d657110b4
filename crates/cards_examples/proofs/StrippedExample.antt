-- Card 13: two calls of an image and of the same stripped; and two calls that show why takedowns in low bodies are excepted.
use Prim.Native.Nat.{ℕ, ◌+◌}
use native.Mathlib.Omega.{arith}
use mathlib.Core.Path.{◌≡◌, refl}
use mathlib.Core.Bool.{true, false}
use mathlib.Core.List.{List, [], ◌∷◌, ◌++◌}
use lib.ListN.{replicate}
use Rattle.calculus.specs.declared.Outcome.{Outcome}
use Rattle.calculus.specs.Combinators.{cases}
use Rattle.calculus.specs.State.{picked}
use Rattle.calculus.specs.Subst.{subst}
use Rattle.calculus.specs.Answer.{carry, by_capacity, with, spend}
use Rattle.calculus.specs.Step.{step}
use Rattle.calculus.specs.Run.{after, run}
use Rattle.calculus.specs.Report.{leaves}
use Rattle.calculus_stripped.specs.Strip.{strip}
use Rattle.image.specs.Limits.{work_length, report_length}
use Rattle.laws.specs.Tests.{all, all_of, any_below, first_fault}
use Rattle.image.specs.Bytes.{words}
use Rattle.image.specs.Kinds.{find}
use Rattle.image.specs.Layout.{all_within, tests, walk, layout, records_of}
use Rattle.image.specs.Types.{type_out, type_from, type_of}
use Rattle.image.specs.Program.{tree, program, assemble, to_tm}
use Rattle.verdict.specs.Answers.{require_from, in_turn}
use Rattle.verdict.specs.Domains.{bits, order, leq}
use Rattle.verdict.specs.Order.{at_fault}
use Rattle.verdict.specs.Shape.{count, uses, depths_from, depths, shape}
use Rattle.verdict.specs.Check.{check_all, check, typing}
use Rattle.verdict.specs.Verdicts.{verdict}
use Rattle.verdict.proofs.Images.{little, rec, image, one_domain, two_domains, unit, number, literal}
use Rattle.base_bytes.specs.Bytes.{bytes_of, number_of, number_at, over, cleared}
use Rattle.report.specs.declared.Ending.{Ending}
use Rattle.report.specs.Records.{records_bytes}
use Rattle.call_spec.specs.Runs.{program_of}
use Rattle.call_spec.specs.Calls.{Left, called}
use Rattle.demands.specs.Calls.{Runs, report_written}
use Rattle.demands.specs.SameBytes.{SaysDone}
use Rattle.demands.specs.Compare.{HighSet}
use Rattle.demands.specs.LowTakedowns.{takes_down, low_takes_down}
use Rattle.demands.specs.Stripped.{StrippedOf, SharesLeft}
use Rattle.demands_examples.proofs.Mainline.{mainline_only, mainline_high}
use Rattle.demands.proofs.Stripped.{card13}

abbrev zeros : ℕ → List ℕ
zeros n = replicate n 0

abbrev call_of : List ℕ → ℕ → Left
call_of b budget = called b [] budget (zeros 20) (zeros report_length) (zeros work_length)

-- A lower to domain 1, whose body ends with term k, and then a print of 5.
unfoldable pub low_then_five : ℕ → List (List ℕ) → List ℕ
low_then_five k lowRecords = image ((two_domains ∷ number ∷ unit ∷ []) ++ lowRecords ++ (rec 52 (1 ∷ 1 ∷ k ∷ []) ∷ literal 5 ∷ rec 37 (1 ∷ (k + 2) ∷ []) ∷ rec 36 (1 ∷ (k + 1) ∷ (k + 3) ∷ []) ∷ []))

-- The body prints 8; stripped, it is unit.
unfoldable pub eight_image : List ℕ
eight_image = low_then_five 1 (literal 8 ∷ rec 37 (1 ∷ 0 ∷ []) ∷ [])

unfoldable pub five_image : List ℕ
five_image = low_then_five 0 (rec 32 (1 ∷ []) ∷ [])

high_mainline : HighSet (records_of eight_image) mainline_only
unfolding leq order bits records_of layout walk tests find words all_within all all_of first_fault
    little rec image one_domain two_domains unit number literal low_then_five eight_image
high_mainline = mainline_high (records_of eight_image) refl refl

eight_stripped : StrippedOf mainline_only eight_image five_image
unfolding strip program tree to_tm assemble records_of layout walk tests find words all_within all all_of first_fault type_of type_from type_out
    little rec image one_domain two_domains unit number literal low_then_five eight_image five_image
eight_stripped = refl

eight_no_low_takedown : low_takes_down mainline_only (program_of eight_image) ≡ false
unfolding low_takes_down takes_down program tree records_of layout walk tests find words all_within all all_of first_fault type_of type_from type_out
    little rec image one_domain two_domains unit number literal low_then_five eight_image
eight_no_low_takedown = refl

both_run : Runs eight_image (zeros report_length) (zeros work_length) × Runs five_image (zeros report_length) (zeros work_length)
unfolding verdict in_turn require_from walk layout records_of tests find words all_within all all_of any_below first_fault shape at_fault leq order bits count uses depths depths_from typing check check_all type_of type_from type_out
    little rec image one_domain two_domains unit number literal low_then_five eight_image five_image
both_run = (refl, refl)

eight_done : SaysDone (report_written (call_of eight_image 10))
unfolding called verdict in_turn require_from walk layout records_of tests find words all_within all all_of any_below first_fault shape at_fault leq order bits count uses depths depths_from typing check check_all type_of type_from type_out
    little rec image one_domain two_domains unit number literal low_then_five eight_image
    program tree to_tm assemble run after cases step subst carry by_capacity with spend picked leaves
    over cleared bytes_of number_of number_at records_bytes
eight_done = refl

pub eight_shares : SharesLeft mainline_only (call_of eight_image 10) (call_of five_image 10)
eight_shares =
    card13 mainline_only eight_image five_image high_mainline eight_stripped eight_no_low_takedown [] 10 (zeros 20) (zeros 20) (zeros report_length) (zeros report_length) (zeros work_length) (zeros work_length) (omega arith) refl
    both_run.0 both_run.1 eight_done

-- 64 watches of domain 1, a low body, and one watch more. f installs a watch; six times a function is made of the last that calls it twice. Terms are numbered from n on.
abbrev watching : ℕ → List (List ℕ)
watching n = rec 46 (2 ∷ []) ∷ rec 32 (1 ∷ []) ∷ rec 47 (3 ∷ n ∷ (n + 1) ∷ []) ∷ rec 48 (1 ∷ (n + 2) ∷ []) ∷ []

abbrev twice : ℕ → List (List ℕ)
twice n = rec 35 (4 ∷ 1 ∷ []) ∷ rec 32 (1 ∷ []) ∷ rec 42 (1 ∷ n ∷ (n + 1) ∷ []) ∷ rec 35 (4 ∷ 1 ∷ []) ∷ rec 32 (1 ∷ []) ∷ rec 42 (1 ∷ (n + 3) ∷ (n + 4) ∷ []) ∷ rec 36 (1 ∷ (n + 2) ∷ (n + 5) ∷ []) ∷ rec 41 (4 ∷ (n + 6) ∷ []) ∷ []

-- Term n, in which the function that is term f is bound.
abbrev bound : ℕ → ℕ → List (List ℕ)
bound n f = rec 41 (5 ∷ n ∷ []) ∷ rec 42 (1 ∷ (n + 1) ∷ f ∷ []) ∷ []

unfoldable pub hung : List ℕ → List ℕ
hung lowRecord =
    image
    ((two_domains ∷ number ∷ unit ∷ rec 23 (0 ∷ 1 ∷ []) ∷ rec 24 (1 ∷ []) ∷ rec 20 (1 ∷ 0 ∷ 1 ∷ []) ∷ rec 20 (4 ∷ 0 ∷ 1 ∷ []) ∷ [])
    ++ watching 0 ++ (rec 41 (4 ∷ 3 ∷ []) ∷ [])
    ++ twice 5 ++ twice 13 ++ twice 21 ++ twice 29 ++ twice 37 ++ twice 45
    ++ (rec 35 (4 ∷ 0 ∷ []) ∷ rec 32 (1 ∷ []) ∷ rec 42 (1 ∷ 53 ∷ 54 ∷ []) ∷ lowRecord ∷ rec 52 (1 ∷ 1 ∷ 56 ∷ []) ∷ [])
    ++ watching 58 ++ (rec 36 (1 ∷ 57 ∷ 61 ∷ []) ∷ rec 36 (1 ∷ 55 ∷ 62 ∷ []) ∷ [])
    ++ bound 63 52 ++ bound 65 44 ++ bound 67 36 ++ bound 69 28 ++ bound 71 20 ++ bound 73 12 ++ bound 75 4)

-- The low body takes the watches down, or is unit.
unfoldable pub hung_image : List ℕ
hung_image = hung (rec 59 (1 ∷ 1 ∷ []))

unfoldable pub unhung_image : List ℕ
unhung_image = hung (rec 32 (1 ∷ []))

hung_stripped : StrippedOf mainline_only hung_image unhung_image
unfolding strip program tree to_tm assemble records_of layout walk tests find words all_within all all_of first_fault type_of type_from type_out
    little rec image one_domain two_domains unit number literal hung hung_image unhung_image
hung_stripped = refl

hung_takes_down : low_takes_down mainline_only (program_of hung_image) ≡ true
unfolding low_takes_down takes_down program tree records_of layout walk tests find words all_within all all_of first_fault type_of type_from type_out
    little rec image one_domain two_domains unit number literal hung hung_image
hung_takes_down = refl

-- The full call is done; the stripped one takes none down, and lacks room for the 65th watch: outcome 7.
pub hung_endings : ((call_of hung_image 1000).answer.ending ≡ Ending.Ended Outcome.Done) × ((call_of unhung_image 1000).answer.ending ≡ Ending.Ended Outcome.Advice)
unfolding called verdict in_turn require_from walk layout records_of tests find words all_within all all_of any_below first_fault shape at_fault leq order bits count uses depths depths_from typing check check_all type_of type_from type_out
    little rec image one_domain two_domains unit number literal hung hung_image unhung_image
    program tree to_tm assemble run after cases step subst carry by_capacity with spend picked leaves
    over cleared bytes_of records_bytes
hung_endings = (refl, refl)
