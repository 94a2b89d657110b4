-- The fixed form of an image (document 02, card 11): a function of its domains' masks and of its program alone.
use Rattle.std.specs.Prelude.{ℕ, suc, ◌+◌, ◌-◌, Bool, List, [], ◌∷◌, ◌++◌, map, length, ltb}
use Rattle.calculus.specs.Syntax.{Ty}
use Rattle.image.specs.Kinds.{domain, type, term}
use Rattle.image.specs.Types.{head_of}
use Rattle.image.specs.TermFields.{term_fields}
use Rattle.image.specs.Layout.{records_of}
use Rattle.image.specs.Program.{Program, Programs, node, blank, end, more, program}
use Rattle.verdict.specs.Domains.{masks}
use Rattle.image_written.specs.TypeParts.{parts_of}
use Rattle.image_written.specs.Table.{place, part_nos, table_of}
use Rattle.image_written.specs.Records.{Record, record_of, image}

-- How many terms a program has.
unfoldable mutual
  pub terms : Program → ℕ
  terms (node k t vs es) = suc (terms_all es)
  terms blank = 0

  pub terms_all : Programs → ℕ
  terms_all end = 0
  terms_all (more e es) = terms e + terms_all es

-- The numbers of programs that are written one behind the other, from number n on: each that of its last term.
abbrev pub roots : ℕ → Programs → List ℕ
roots n end = []
roots n (more e es) = (n + terms e - 1) ∷ roots (n + terms e) es

-- "Domains kept."
abbrev pub domain_record : ℕ → Record
domain_record m = record_of domain (m ∷ [])

module _ (T : List Ty) where
  abbrev pub type_record : Ty → Record
  type_record t = record_of (type (head_of t)) (part_nos T (parts_of t))

  -- "Terms by a walk from the root that writes each term after its children, left to right": from number n on.
  unfoldable mutual
    pub term_records : ℕ → Program → List Record
    term_records n (node k t vs es) = term_records_all n es ++ (record_of (term k) (term_fields k (place T t) vs (roots n es)) ∷ [])
    term_records n blank = []

    pub term_records_all : ℕ → Programs → List Record
    term_records_all n end = []
    term_records_all n (more e es) = term_records n e ++ term_records_all (n + terms e) es

  -- All records, over a given table of types.
  unfoldable pub records_over : List ℕ → Program → List Record
  records_over masks e = map (λ m. domain_record m) masks ++ (map (λ t. type_record t) T ++ term_records 0 e)

  unfoldable pub written_over : List ℕ → Program → List ℕ
  written_over masks e = image (records_over masks e)

-- Over the program's own table.
unfoldable pub written : List ℕ → Program → List ℕ
written masks e = written_over (table_of e) masks e

-- The fixed form of an accepted image.
unfoldable pub fixed : List ℕ → List ℕ
fixed b = written (masks (records_of b)) (program (records_of b))

-- "The output is shorter than the image": 20 for a fixed form (card 11), 24 for an image without its watches (card 13).
abbrev pub too_short : List ℕ → List ℕ → Bool
too_short out b = ltb (length out) (length b)
