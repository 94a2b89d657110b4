-- The fields of a term as the part of the image that they occupy (document 01, "The image"): what a decoder reads there. A part may hold more than its kind needs: fields are counted from its front, as the kind's row has them, and only a pointcut's labels, an object's bodies and a match's entries are as many as the part holds.
use Rattle.std.specs.Prelude.{ℕ, ◌+◌, ◌*◌, ◌≤◌, ◌<◌, ◌≡◌, List, length, get_or}
use Rattle.image.specs.Bytes.{words}
use Rattle.image.specs.Limits.{entry_limit}
use Rattle.image.specs.Kinds as Kinds
use Rattle.image.specs.Kinds.{Field, TermKind, term_row, lead_of}
use Rattle.image.specs.Records.{times, as_child, as_other, given}
use Rattle.image.specs.TermFields.{giving}
use Rattle.image.specs.Layout.{records_of}
use Rattle.image.specs.Types.{term_place}
use Rattle.verdict.specs.Check.{type_nos}
use Rattle.read_records.specs.Heads.{fields_at, field_in, entries_from}
use Rattle.read_terms.specs.Lent.{IsTerm, IsType}

-- The fields of term n.
abbrev pub fields_of : List ℕ → ℕ → List ℕ
fields_of b n = fields_at b (term_place (records_of b) n)

-- Of a term of kind k whose fields are fs: what each field is, and its number.
abbrev pub classes_in : List ℕ → TermKind → List Field
classes_in fs k = Kinds.fields_of (term_row k) (times (term_row k) (4 + length fs))

abbrev pub numbers_in : List ℕ → TermKind → List ℕ
numbers_in fs k = words fs 0 (length (classes_in fs k))

-- Its fields that are neither type nor child, its children, how many of these stand side by side, and the types that they state.
abbrev pub others_in : List ℕ → TermKind → List ℕ
others_in fs k = given as_other (classes_in fs k) (numbers_in fs k)

abbrev pub children_in : List ℕ → TermKind → List ℕ
children_in fs k = given as_child (classes_in fs k) (numbers_in fs k)

abbrev pub count_in : List ℕ → TermKind → ℕ
count_in fs k = giving as_child 0 (classes_in fs k)

abbrev pub types_in : List ℕ → List ℕ → TermKind → List ℕ
types_in b fs k = type_nos (records_of b) (children_in fs k)

-- A part that begins with a type; one in which a term stands at field k; the part of a pointcut, with a term behind its type and any label before it; that of an object, with a term behind its type and any body before it (card 3).
pub record Typed (b fs : List ℕ) : Type 0 where
  pub long : 1 < length fs
  pub type : IsType b (field_in fs 0)

pub record AtField (b fs : List ℕ) (k : ℕ) : Type 0 where
  pub long : 2 * k + 1 < length fs
  pub term : IsTerm b (field_in fs k)

pub record Labels (b fs : List ℕ) : Type 0 where
  pub long : 1 < length fs
  pub each : (i : ℕ) → i < count_in fs TermKind.pcd → AtField b fs (1 + i)

pub record Bodies (b fs : List ℕ) : Type 0 where
  pub long : 1 < length fs
  pub each : (i : ℕ) → i < count_in fs TermKind.obj → AtField b fs (1 + i)

-- A part of a term of kind k that has a child j; the first children stand side by side.
pub record HasChild (fs : List ℕ) (k : TermKind) (j : ℕ) : Type 0 where
  pub there : j < length (children_in fs k)
  pub long : 2 * (lead_of k + count_in fs k) ≤ length fs
  pub side : j < count_in fs k → field_in fs (lead_of k + j) ≡ get_or (children_in fs k) j 0

-- Card 6: how many entries the part of a match holds, behind its type, its stack and its branches, and what they give; such a part, in which each entry is 0 or a term's number plus 1, and the close stands behind them.
abbrev pub first_entry : ℕ
first_entry = 4

abbrev pub entry_count : List ℕ → ℕ
entry_count fs = times (term_row TermKind.match) (4 + length fs)

abbrev pub entry_terms : List ℕ → List ℕ
entry_terms fs = entries_from fs (2 * first_entry) (entry_count fs)

pub record Entries (b fs : List ℕ) : Type 0 where
  pub long : 2 * (first_entry + entry_count fs) + 1 < length fs
  pub few : entry_count fs ≤ entry_limit
  pub each : (i : ℕ) → i < entry_count fs → field_in fs (first_entry + i) ≤ length (records_of b).terms
