-- The layout of an image: the walk over its records, front to back, with the refusals 2 to 8 (document 01, "Turned back at the gate").
use Rattle.std.specs.Prelude.{ℕ, zero, suc, ◌+◌, Bool, true, false, not, ◌&&◌, List, [], ◌∷◌, ◌++◌, length, eqb, ltb, leb}
use Rattle.std.proofs.Math.Option.{Option, none, some}
use Rattle.image.specs.declared.Refusal.{Refusal}
use Rattle.image.specs.Limits.{domain_limit, type_limit, term_limit, operation_count}
use Rattle.laws.specs.Tests.{all, all_of, first_fault}
use Rattle.image.specs.Bytes.{length_at, number_at}
use Rattle.image.specs.Kinds.{in_domains, in_operations, in_truths, any_number, Field, a_type, own, a_term, an_entry, Kind, domain, type, term, Row, type_row_of, row_of, kind_of}
use Rattle.image.specs.Records.{Layout, kind_at, times, known_length, fields_at, numbers_at}

-- Before the walk: no records yet.
abbrev pub nothing : List ℕ → Layout
nothing b = record { image = b; domains = []; types = []; terms = [] }

abbrev pub is_some : {A : Type 0} → Option A → Bool
is_some none = false
is_some (some a) = true

-- 2: a whole record stands at o. Refused are "1 to 3 bytes left, length under 4 or past the end".
abbrev pub framed : List ℕ → ℕ → Bool
framed b o = all (leb (o + 4) (length b) ∷ leb 4 (length_at b o) ∷ leb (o + length_at b o) (length b) ∷ [])

-- 3: the kind is known.
abbrev pub known : List ℕ → ℕ → Bool
known b o = is_some (kind_of (number_at b o))

-- 4: the length n is that of the known fields, m, or more (document 02, card 1: "read by its known fields, and the rest skipped"); a kind with a group has the length m itself, "since their length carries the count".
abbrev pub long_enough : List Field → ℕ → ℕ → Bool
long_enough [] m n = leb m n
long_enough (g ∷ gs) m n = eqb n m

-- Besides, the group stands as often as it may.
abbrev pub right_length : Row → ℕ → Bool
right_length r n = all (leb r.least (times r n) ∷ leb (times r n) r.most ∷ long_enough r.group (known_length r n) n ∷ [])

-- 5: no record stands behind one of a later section.
abbrev pub is_nil : List ℕ → Bool
is_nil [] = true
is_nil (x ∷ xs) = false

abbrev pub in_order_of : Kind → Layout → Bool
in_order_of domain L = all (is_nil L.types ∷ is_nil L.terms ∷ [])
in_order_of (type k) L = is_nil L.terms
in_order_of (term k) L = true

-- 6: there is room for one more in its section.
abbrev pub has_capacity : Kind → Layout → Bool
has_capacity domain L = ltb (length L.domains) domain_limit
has_capacity (type k) L = ltb (length L.types) type_limit
has_capacity (term k) L = ltb (length L.terms) term_limit

-- 7: each field is in its range, where L has the records so far: so a type's parts are lower types, and a term's children lower terms.
abbrev pub within : Layout → Field → ℕ → Bool
within L a_type v = ltb v (length L.types)
within L (own in_domains) v = ltb v (length L.domains)
within L (own in_operations) v = ltb v operation_count
within L (own in_truths) v = leb v 1
within L (own any_number) v = true
within L (a_term b) v = ltb v (length L.terms)
within L an_entry v = leb v (length L.terms)

unfoldable pub all_within : Layout → List Field → List ℕ → Bool
all_within L [] vs = true
all_within L (f ∷ fs) [] = true
all_within L (f ∷ fs) (v ∷ vs) = within L f v && all_within L fs vs

abbrev pub in_range : Layout → ℕ → Row → Bool
in_range L o r = all_within L (fields_at L.image o r) (numbers_at L.image o r)

-- 8: the type at o, of a kind with the row r, is equal to none before it; equal types have the same kind and the same known fields (card 1).
abbrev pub same_numbers : List ℕ → List ℕ → Bool
same_numbers [] [] = true
same_numbers [] (w ∷ ws) = false
same_numbers (v ∷ vs) [] = false
same_numbers (v ∷ vs) (w ∷ ws) = eqb v w && same_numbers vs ws

abbrev pub same_type : List ℕ → Row → ℕ → ℕ → Bool
same_type b r o p = all (eqb (number_at b o) (number_at b p) ∷ same_numbers (numbers_at b o r) (numbers_at b p r) ∷ [])

abbrev pub is_new : Kind → ℕ → Layout → Bool
is_new domain o L = true
is_new (type k) o L = all_of (λ p. not (same_type L.image (type_row_of k) o p)) L.types
is_new (term k) o L = true

-- 2 to 8, in their order: what holds of the record at o, behind the records of L, if it is not refused.
unfoldable pub tests : Layout → ℕ → List (Refusal × Bool)
tests L o =
    let b : List ℕ = L.image in
    let k : Kind = kind_at b o in
    (Refusal.BrokenRecord, framed b o)
    ∷ (Refusal.UnknownKind, known b o)
    ∷ (Refusal.WrongLength, right_length (row_of k) (length_at b o))
    ∷ (Refusal.SectionOrder, in_order_of k L)
    ∷ (Refusal.TooManyRecords, has_capacity k L)
    ∷ (Refusal.FieldRange, in_range L o (row_of k))
    ∷ (Refusal.RepeatedType, is_new k o L)
    ∷ []

-- The layout with one record more, at o, of kind k.
abbrev pub add : Kind → ℕ → Layout → Layout
add domain o L = record { image = L.image; domains = L.domains ++ (o ∷ []); types = L.types; terms = L.terms }
add (type k) o L = record { image = L.image; domains = L.domains; types = L.types ++ (o ∷ []); terms = L.terms }
add (term k) o L = record { image = L.image; domains = L.domains; types = L.types; terms = L.terms ++ (o ∷ []) }

pub data Scan : Type 0 where
  -- refused, at an offset
  stopped : Refusal → ℕ → Scan
  laid : Layout → Scan

-- From offset o on, where L has the records before it. f is the fuel: each record takes at least 4 bytes, so the image's length is enough.
unfoldable pub walk : ℕ → ℕ → Layout → Scan
walk zero o L = elim (eqb o (length L.image)) [ true ↦ laid L | false ↦ stopped Refusal.BrokenRecord o ]
walk (suc f) o L =
    elim (eqb o (length L.image)) [
      | true ↦ laid L
      | false ↦
          elim (first_fault (tests L o)) [
            | some r ↦ stopped r o
            | none ↦ walk f (o + length_at L.image o) (add (kind_at L.image o) o L)
          ]
    ]

unfoldable pub layout : List ℕ → Scan
layout b = walk (length b) 0 (nothing b)

-- The records of an image that the walk does not refuse.
unfoldable pub records_of : List ℕ → Layout
records_of b = elim (layout b) [ laid L ↦ L | stopped r o ↦ nothing b ]
