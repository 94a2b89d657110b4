-- An image that is laid out (document 01, "The image"), said of all its records at once. It does not hold of exactly the images that 2 to 8 refuse.
use Rattle.std.specs.Prelude.{ℕ, ◌+◌, ◌≤◌, ◌<◌, ◌≡◌, List, [], ◌∷◌, ◌++◌, length, get_or}
use Rattle.image.specs.Limits.{domain_limit, type_limit, term_limit, operation_count}
use Rattle.image.specs.Bytes.{length_at, number_at}
use Rattle.image.specs.Kinds.{in_domains, in_operations, in_truths, any_number, Field, a_type, own, free, a_term, an_entry, Row, domain_row, type_row_of, term_row}
use Rattle.image.specs.Records.{Layout, times, known_length, fields_at, numbers_at}
use Rattle.image.specs.Types.{domain_place, type_place, term_place, type_number, type_kind, type_fields, term_kind}

-- "Records stand end to end": the first at o, each next one where the one before it ends, and behind the last no byte is left.
abbrev pub EndToEnd : List ℕ → ℕ → List ℕ → Type 0
EndToEnd b o [] = o ≡ length b
EndToEnd b o (p ∷ ps) = (p ≡ o) × EndToEnd b (o + length_at b o) ps

-- The record at o is whole (2), has the row r's number (3), and is as long as its known fields, or longer, and its group stands as often as it may (4); where there is a group, it is just as long (document 02, card 1).
pub record Stands (b : List ℕ) (r : Row) (o : ℕ) : Type 0 where
  pub number : number_at b o ≡ r.number
  pub inside : o + length_at b o ≤ length b
  pub size : known_length r (length_at b o) ≤ length_at b o
  pub exact : 0 < length r.group → length_at b o ≡ known_length r (length_at b o)
  pub least : r.least ≤ times r (length_at b o)
  pub most : times r (length_at b o) ≤ r.most

-- The range of a field where there are so many domains, and so many types and terms that it may name.
abbrev pub Within : ℕ → ℕ → ℕ → Field → ℕ → Type 0
Within domains types terms a_type v = v < types
Within domains types terms (own in_domains) v = v < domains
Within domains types terms (own in_operations) v = v < operation_count
Within domains types terms (own in_truths) v = v ≤ 1
Within domains types terms (own any_number) v = Unit {0}
Within domains types terms (a_term b) v = v < terms
Within domains types terms an_entry v = v ≤ terms

-- Such a record, with its fields, children among them, in their ranges (7).
pub record IsRecord (b : List ℕ) (r : Row) (o domains types terms : ℕ) : Type 0 where
  pub stands : Stands b r o
  pub fields : (i : ℕ) → i < length (fields_at b o r) → Within domains types terms (get_or (fields_at b o r) i free) (get_or (numbers_at b o r) i 0)

module _ (L : Layout) where
  -- Types t and u are equal: of one kind, with the same fields.
  abbrev pub SameType : ℕ → ℕ → Type 0
  SameType t u = (type_number L t ≡ type_number L u) × (type_fields L t ≡ type_fields L u)

  pub record LaidOut : Type 0 where
    -- "Three sections in order: domains, types, terms" (2, 5).
    pub in_order : EndToEnd L.image 0 (L.domains ++ (L.types ++ L.terms))
    -- "Limits" (6).
    pub few_domains : length L.domains ≤ domain_limit
    pub few_types : length L.types ≤ type_limit
    pub few_terms : length L.terms ≤ term_limit
    -- Each record, of a kind of its section (2, 3, 4, 7): a type's parts are lower types, a term's children lower terms.
    pub domains : (d : ℕ) → d < length L.domains → Stands L.image domain_row (domain_place L d)
    pub types : (t : ℕ) → t < length L.types → IsRecord L.image (type_row_of (type_kind L t)) (type_place L t) (length L.domains) t 0
    pub terms : (n : ℕ) → n < length L.terms → IsRecord L.image (term_row (term_kind L n)) (term_place L n) (length L.domains) (length L.types) n
    -- No type is equal to an earlier one (8).
    pub apart : (t u : ℕ) → t < length L.types → u < t → SameType t u → ⊥
