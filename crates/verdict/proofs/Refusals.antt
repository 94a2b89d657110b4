-- An image for each refusal but the twelfth, and images just within the limits of domains and labels (document 01, "Turned back at the gate" and "Bench sheet"), by computation of the definitions. P1 to P8 are in the table of whole calls, and refusal 12 is in crates/demands_examples, since images so deep take long to compute.
use Rattle.std.specs.Prelude.{Ok}
use Prim.Native.Nat.{ℕ, ◌<◌}
use mathlib.Core.Path.{◌≡◌, refl}
use mathlib.Core.Bool.{false}
use mathlib.Core.List.{List, [], ◌∷◌, ◌++◌, map}
use lib.ListN.{length}
use lib.Dec.{leb}
use borrow.Author.Tests.{lt-leb}
use Rattle.image.specs.declared.Refusal.{Refusal}
use Rattle.image.specs.Limits.{image_limit, work_length, report_length}
use Rattle.laws.specs.Tests.{all, all_of, any_below, first_fault}
use Rattle.image.specs.Bytes.{words}
use Rattle.image.specs.Kinds.{find}
use Rattle.image.specs.Layout.{all_within, tests, walk, layout, records_of}
use Rattle.image.specs.Types.{type_out, type_from, type_of}
use Rattle.verdict.specs.Answers.{require_from, in_turn, Verdict, refused_at}
use Rattle.verdict.specs.Domains.{bits, order, leq}
use Rattle.verdict.specs.Order.{at_fault}
use Rattle.verdict.specs.Shape.{count, uses, depths_from, depths, shape}
use Rattle.verdict.specs.Check.{check_all, check, typing}
use Rattle.verdict.specs.Verdicts.{verdict}
use Rattle.verdict.proofs.Images.{little, rec, longer, longer_image, image, one_domain, two_domains, domains, unit, number, literal, p2_image, new_labels, up_to, labelled}

-- An image, and what the validator says of it where the lent memory is long enough.
pub record Case : Type 0 where
  pub bytes : List ℕ
  pub says : Verdict

abbrev case : List ℕ → Verdict → Case
case b v = record { bytes = b; says = v }

unfoldable pub verdicts : List Case
verdicts =
    -- 16 domains, 8 labels
    case (image (domains 16 1 ∷ number ∷ literal 5 ∷ [])) (Ok tt)
    ∷ case (labelled 8) (Ok tt)
    -- a split of the pair of 5 and 6, whose body adds both parts
    ∷ case (image (one_domain ∷ number ∷ rec 19 (0 ∷ 0 ∷ []) ∷ literal 5 ∷ literal 6 ∷ rec 39 (1 ∷ 0 ∷ 1 ∷ []) ∷ rec 35 (0 ∷ 1 ∷ []) ∷ rec 35 (0 ∷ 0 ∷ []) ∷ rec 43 (0 ∷ 0 ∷ 3 ∷ 4 ∷ []) ∷ rec 40 (0 ∷ 2 ∷ 5 ∷ []) ∷ [])) (Ok tt)
    -- card 1: a domain, a type and terms with and without children, longer by one byte and by more
    ∷ case longer_image (Ok tt)
    -- 2: 3 bytes left; a length under 4; past the end, also of an unknown kind
    ∷ case (4 ∷ 0 ∷ 1 ∷ []) (refused_at Refusal.BrokenRecord 0)
    ∷ case (one_domain ++ (3 ∷ 0 ∷ 1 ∷ 0 ∷ [])) (refused_at Refusal.BrokenRecord 6)
    ∷ case (5 ∷ 0 ∷ 2 ∷ 0 ∷ []) (refused_at Refusal.BrokenRecord 0)
    -- 3
    ∷ case (rec 2 []) (refused_at Refusal.UnknownKind 0)
    -- 4: a domain without a mask, also behind a type; a number of 2 bytes; a pointcut of 9, and one that is longer by one byte
    ∷ case (rec 1 []) (refused_at Refusal.WrongLength 0)
    ∷ case (image (number ∷ rec 1 [] ∷ [])) (refused_at Refusal.WrongLength 4)
    ∷ case (image (one_domain ∷ number ∷ rec 34 (0 ∷ 5 ∷ []) ∷ [])) (refused_at Refusal.WrongLength 10)
    ∷ case (labelled 9) (refused_at Refusal.WrongLength 90)
    ∷ case (image (one_domain ∷ number ∷ rec 23 (0 ∷ 0 ∷ []) ∷ longer (0 ∷ []) 46 (1 ∷ []) ∷ [])) (refused_at Refusal.WrongLength 18)
    -- 5: a domain behind a type
    ∷ case (image (one_domain ∷ number ∷ one_domain ∷ [])) (refused_at Refusal.SectionOrder 10)
    -- 6: 17 domains
    ∷ case (domains 17 1) (refused_at Refusal.TooManyRecords 96)
    -- 7: a pair of itself; a term before the types; domain 1 of 1; arithmetic 4; truth 2; a term that is its own child
    ∷ case (image (one_domain ∷ rec 19 (0 ∷ 0 ∷ []) ∷ [])) (refused_at Refusal.FieldRange 6)
    ∷ case (image (one_domain ∷ literal 5 ∷ [])) (refused_at Refusal.FieldRange 6)
    ∷ case (image (one_domain ∷ rec 24 (1 ∷ []) ∷ [])) (refused_at Refusal.FieldRange 6)
    ∷ case (image (one_domain ∷ number ∷ literal 5 ∷ literal 5 ∷ rec 43 (0 ∷ 4 ∷ 0 ∷ 1 ∷ []) ∷ [])) (refused_at Refusal.FieldRange 30)
    ∷ case (image (one_domain ∷ number ∷ rec 33 (0 ∷ 2 ∷ []) ∷ [])) (refused_at Refusal.FieldRange 10)
    ∷ case (image (one_domain ∷ number ∷ rec 60 (0 ∷ 0 ∷ []) ∷ [])) (refused_at Refusal.FieldRange 10)
    -- 8: a reference twice, and a label with the same fields; a longer one is the same type
    ∷ case (image (one_domain ∷ number ∷ rec 21 (0 ∷ 0 ∷ []) ∷ rec 22 (0 ∷ 0 ∷ []) ∷ rec 21 (0 ∷ 0 ∷ []) ∷ [])) (refused_at Refusal.RepeatedType 26)
    ∷ case (image (one_domain ∷ number ∷ rec 21 (0 ∷ 0 ∷ []) ∷ longer (1 ∷ 0 ∷ []) 21 (0 ∷ 0 ∷ []) ∷ [])) (refused_at Refusal.RepeatedType 18)
    -- 9: no terms; no domains
    ∷ case (image (one_domain ∷ number ∷ [])) (refused_at Refusal.EmptySection 10)
    ∷ case (image (number ∷ literal 5 ∷ [])) (refused_at Refusal.EmptySection 14)
    -- 10: an absent domain is named; 1 does not name itself; 0 and 1 name each other; 2 names 1, which names 0, which 2 does not; 0 names 1, which names an absent domain
    ∷ case (image (rec 1 (3 ∷ []) ∷ number ∷ literal 5 ∷ [])) (refused_at Refusal.DomainOrder 0)
    ∷ case (image (rec 1 (1 ∷ []) ∷ rec 1 (1 ∷ []) ∷ number ∷ literal 5 ∷ [])) (refused_at Refusal.DomainOrder 6)
    ∷ case (image (rec 1 (3 ∷ []) ∷ rec 1 (3 ∷ []) ∷ number ∷ literal 5 ∷ [])) (refused_at Refusal.DomainOrder 0)
    ∷ case (image (two_domains ∷ rec 1 (6 ∷ []) ∷ number ∷ literal 5 ∷ [])) (refused_at Refusal.DomainOrder 12)
    ∷ case (image (rec 1 (3 ∷ []) ∷ rec 1 (514 ∷ []) ∷ number ∷ literal 5 ∷ [])) (refused_at Refusal.DomainOrder 0)
    -- 11: not used; used twice
    ∷ case (image (one_domain ∷ number ∷ literal 5 ∷ literal 5 ∷ [])) (refused_at Refusal.UseCount 10)
    ∷ case (image (one_domain ∷ number ∷ literal 5 ∷ rec 43 (0 ∷ 0 ∷ 0 ∷ 0 ∷ []) ∷ [])) (refused_at Refusal.UseCount 10)
    -- 13
    ∷ case (image (one_domain ∷ number ∷ rec 35 (0 ∷ 0 ∷ []) ∷ [])) (refused_at Refusal.UnboundVariable 10)
    -- 14: a number of type unit; of two such, the left one; a wrong child is its parent's fault
    ∷ case (image (one_domain ∷ unit ∷ literal 5 ∷ [])) (refused_at Refusal.TypeRule 10)
    ∷ case (image (one_domain ∷ unit ∷ literal 5 ∷ literal 5 ∷ rec 36 (0 ∷ 0 ∷ 1 ∷ []) ∷ [])) (refused_at Refusal.TypeRule 10)
    ∷ case (image (one_domain ∷ number ∷ unit ∷ rec 32 (1 ∷ []) ∷ rec 37 (1 ∷ 0 ∷ []) ∷ [])) (refused_at Refusal.TypeRule 20)
    -- 15: a lowered body, checked at its own domain, that stores to a higher cell
    ∷ case
    (image (two_domains ∷ number ∷ unit ∷ rec 21 (0 ∷ 0 ∷ []) ∷ literal 5 ∷ rec 49 (2 ∷ 0 ∷ []) ∷ literal 6 ∷ rec 51 (1 ∷ 1 ∷ 2 ∷ []) ∷ rec 52 (1 ∷ 1 ∷ 3 ∷ []) ∷ []))
    (refused_at Refusal.DomainRule 56)
    -- 16: the root is a label
    ∷ case (image (one_domain ∷ number ∷ rec 22 (0 ∷ 0 ∷ []) ∷ rec 44 (1 ∷ []) ∷ [])) (refused_at Refusal.RootNotPlain 18)
    ∷ []

pub each_verdict : map (λ c. verdict c.bytes work_length report_length) verdicts ≡ map (λ c. c.says) verdicts
unfolding verdicts verdict in_turn require_from walk layout records_of tests find words all_within all all_of any_below first_fault shape at_fault leq order bits count uses depths depths_from typing check check_all type_of type_from type_out
    little rec longer image one_domain two_domains domains unit number literal longer_image new_labels up_to labelled
each_verdict = refl

-- 1: an image that is too long.
pub too_long : (b : List ℕ) (work report : ℕ) → image_limit < length b → verdict b work report ≡ refused_at Refusal.ImageTooLong 0
unfolding verdict in_turn
too_long b work report h = let e : leb (length b) image_limit ≡ false = lt-leb _ _ h in rw (e, in_turn) refl

-- 17 and 18: a work area and a report that are too short, by the published numbers.
pub short_lengths : (verdict p2_image 35856 17993 ≡ refused_at Refusal.ShortWorkArea 0) × (verdict p2_image 35857 17993 ≡ refused_at Refusal.ShortReport 0)
unfolding p2_image verdict in_turn require_from walk layout records_of tests find words all_within all all_of any_below first_fault shape at_fault leq order bits count uses depths depths_from typing check check_all type_of type_from type_out
short_lengths = (refl, refl)
