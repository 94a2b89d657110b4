-- Document 01's table of refusals has the numbers 1 to 18, in its order; and a record of an unknown kind is 3.
use Prim.Native.Nat.{ℕ}
use mathlib.Core.Path.{◌≡◌, refl}
use mathlib.Core.List.{List, [], ◌∷◌, map}
use mathlib.Core.Option.{Option, none, some}
use Rattle.laws.specs.Tests.{all, first_fault}
use Rattle.image.specs.declared.Refusal.{Refusal}
use Rattle.image.specs.Refusals.{refusal_number}
use Rattle.image.specs.Bytes.{words}
use Rattle.image.specs.Kinds.{find}
use Rattle.image.specs.Layout.{nothing, all_within, tests}

-- The causes, line by line.
abbrev table : List Refusal
table =
    Refusal.ImageTooLong
    ∷ Refusal.BrokenRecord
    ∷ Refusal.UnknownKind
    ∷ Refusal.WrongLength
    ∷ Refusal.SectionOrder
    ∷ Refusal.TooManyRecords
    ∷ Refusal.FieldRange
    ∷ Refusal.RepeatedType
    ∷ Refusal.EmptySection
    ∷ Refusal.DomainOrder
    ∷ Refusal.UseCount
    ∷ Refusal.TooDeep
    ∷ Refusal.UnboundVariable
    ∷ Refusal.TypeRule
    ∷ Refusal.DomainRule
    ∷ Refusal.RootNotPlain
    ∷ Refusal.ShortWorkArea
    ∷ Refusal.ShortReport
    ∷ []

table_numbers : map refusal_number table ≡ 1 ∷ 2 ∷ 3 ∷ 4 ∷ 5 ∷ 6 ∷ 7 ∷ 8 ∷ 9 ∷ 10 ∷ 11 ∷ 12 ∷ 13 ∷ 14 ∷ 15 ∷ 16 ∷ 17 ∷ 18 ∷ []
table_numbers = refl

-- The fault of the one record of an image, if it has one: kind 1 is a domain, with the mask 1; there is no kind 2.
abbrev fault_of : List ℕ → Option Refusal
fault_of b = first_fault (tests (nothing b) 0)

known_kind : fault_of (6 ∷ 0 ∷ 1 ∷ 0 ∷ 1 ∷ 0 ∷ []) ≡ none
unfolding tests find words all first_fault all_within
known_kind = refl

unknown_kind : fault_of (6 ∷ 0 ∷ 2 ∷ 0 ∷ 1 ∷ 0 ∷ []) ≡ some Refusal.UnknownKind
unfolding tests find words all first_fault all_within
unknown_kind = refl
