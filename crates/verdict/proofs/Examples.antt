-- Two examples: the types that terms state are part of what is checked, beyond what their term in the calculus keeps of them; and images that differ in a low body.
use Prim.Native.Nat.{ℕ}
use mathlib.Core.Path.{◌≡◌, refl}
use mathlib.Core.Bool.{Bool}
use mathlib.Core.List.{List, [], ◌∷◌}
use lib.Dec.{eqb}
use Rattle.calculus.specs.Syntax.{Dom, Tm}
use Rattle.calculus.specs.Blank.{blank}
use Rattle.calculus.specs.Typing.{no_store, ◌⨾◌⊢◌⦂◌ as TmTy, v_unit, is_val, is_seq}
use Rattle.image.specs.declared.Refusal.{Refusal}
use Rattle.image.specs.Limits.{work_length, report_length}
use Rattle.laws.specs.Tests.{all, all_of, any_below, first_fault}
use Rattle.image.specs.Bytes.{words}
use Rattle.image.specs.Kinds.{find}
use Rattle.image.specs.Layout.{all_within, tests, walk, layout, records_of}
use Rattle.image.specs.Types.{type_out, type_from, type_of, root_type}
use Rattle.image.specs.Program.{tree, program, assemble, to_tm, blanked}
use Rattle.image.proofs.Blanked.{same_but_low}
use Rattle.verdict.specs.Answers.{require_from, in_turn, refused_at}
use Rattle.verdict.specs.Domains.{bits, order, leq, policy}
use Rattle.verdict.specs.Order.{at_fault}
use Rattle.verdict.specs.Shape.{count, uses, depths_from, depths, shape}
use Rattle.verdict.specs.Check.{check_all, check, typing}
use Rattle.verdict.specs.Verdicts.{verdict}
use Rattle.verdict.proofs.Images.{little, rec, image, one_domain, two_domains, unit, number, literal}

-- The program of an image, as a term.
unfoldable pub term_of : List ℕ → Tm
term_of b = to_tm (program (records_of b))

-- A sequence that states the type number, but is one of units, as the first of a sequence.
unfoldable pub misstated : List ℕ
misstated = image (one_domain ∷ number ∷ unit ∷ rec 32 (1 ∷ []) ∷ rec 32 (1 ∷ []) ∷ rec 36 (0 ∷ 0 ∷ 1 ∷ []) ∷ rec 32 (1 ∷ []) ∷ rec 36 (1 ∷ 2 ∷ 3 ∷ []) ∷ [])

-- It is refused, though its term, which has no room for the type that it states, is well typed: acceptance asks for more than a well-typed term.
pub stated_types_count : verdict misstated work_length report_length ≡ refused_at Refusal.TypeRule 42
unfolding misstated verdict in_turn require_from walk layout records_of tests find words all_within all all_of any_below first_fault shape at_fault leq order bits count uses depths depths_from typing check check_all type_of type_from type_out
    little rec image one_domain unit number
stated_types_count = refl

pub misstated_typed : TmTy (policy (records_of misstated)) no_store [] 0 (term_of misstated) (root_type (records_of misstated))
unfolding misstated term_of to_tm assemble program tree records_of layout walk tests find words all_within all all_of first_fault type_of type_from type_out little rec image one_domain number unit
misstated_typed = is_seq (is_seq (is_val v_unit) (is_val v_unit)) (is_val v_unit)

-- A body at domain 1, below 0, that prints n.
unfoldable pub lowered : ℕ → List ℕ
lowered n = image (two_domains ∷ number ∷ unit ∷ literal n ∷ rec 37 (1 ∷ 0 ∷ []) ∷ rec 52 (1 ∷ 1 ∷ 1 ∷ []) ∷ [])

abbrev mainline_only : Dom → Bool
mainline_only d = eqb d 0

-- Seen from domain 0, they differ only in a low body.
pub same_lowered : blanked mainline_only (program (records_of (lowered 1))) ≡ blanked mainline_only (program (records_of (lowered 2)))
unfolding lowered blanked program tree records_of layout walk tests find words all_within all all_of first_fault type_of type_from type_out little rec image two_domains number unit literal
same_lowered = refl

pub same_lowered_terms : blank mainline_only (term_of (lowered 1)) ≡ blank mainline_only (term_of (lowered 2))
unfolding term_of
same_lowered_terms = same_but_low mainline_only (program (records_of (lowered 1))) (program (records_of (lowered 2))) same_lowered
