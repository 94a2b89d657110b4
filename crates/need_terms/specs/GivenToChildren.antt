-- What a term of an image gives to its children (document 02, card 10): a domain to a body, variables to the first branch of a match.
use Rattle.std.specs.Prelude.{ℕ, ◌+◌, ◌-◌, ◌*◌, ◌≤◌, ◌<◌, ◌≡◌, Bool, List, length, get_or, ltb}
use Rattle.calculus.specs.Combinators.{choose}
use Rattle.calculus.specs.Syntax.{Dom, Ty}
use Rattle.calculus.specs.Plain.{dom_of}
use Rattle.calculus_needs.specs.Needs.{variables}
use Rattle.image.specs.Bytes.{number_at}
use Rattle.image.specs.Layout.{records_of}
use Rattle.image.specs.Types.{term_place}
use Rattle.image.specs.Kinds.{TermKind, term_row, is_kind}
use Rattle.image.specs.Program.{pattern_of}
use Rattle.image.specs.Limits.{term_limit}
use Rattle.read_records.specs.Heads.{field_in}
use Rattle.read_terms.specs.Lent.{IsTerm}
use Rattle.read_terms.specs.Fields.{fields_of, children_in, HasChild, first_entry, entry_count}
use Rattle.read_terms.specs.Descriptors.{descriptor_domain}

-- The domain that a term of a kind gives to a body: an advice its type's, a lower its own field.
abbrev pub part_domain : TermKind → Ty → List ℕ → Dom
part_domain k t vs = choose (is_kind TermKind.adv k) (dom_of t) (choose (is_kind TermKind.lower k) (get_or vs 0 0) 0)

-- How many variables the first branch of a match binds.
abbrev pub branch_variables : TermKind → List ℕ → ℕ
branch_variables k vs = choose (is_kind TermKind.match k) (variables (pattern_of vs)) 0

-- One more, where it is so.
abbrev pub with_one : ℕ → Bool → ℕ
with_one n b = choose b (n + 1) n

-- The same of a term of kind k whose fields are fs: the domain, with a table of descriptors; of a match, its children behind the first three, and the close.
abbrev pub domain_in : List ℕ → List ℕ → TermKind → ℕ
domain_in fs descriptors k =
    choose (is_kind TermKind.adv k) (descriptor_domain (get_or descriptors (field_in fs 0) 0)) (choose (is_kind TermKind.lower k) (field_in fs 1) 0)

abbrev pub match_variables : List ℕ → ℕ
match_variables fs =
    with_one (length (children_in fs TermKind.match) - 3) (ltb 0 (field_in fs (first_entry + entry_count fs)))

abbrev pub variables_in : List ℕ → TermKind → ℕ
variables_in fs k = choose (is_kind TermKind.match k) (match_variables fs) 0

-- Term n of an image has this number in its head, and these fields.
pub record HasFields (b : List ℕ) (n kind : ℕ) (fs : List ℕ) : Type 0 where
  pub there : IsTerm b n
  pub number : kind ≡ number_at b (term_place (records_of b) n)
  pub fields : fs ≡ fields_of b n

-- No term has so many children.
abbrev pub child_bound : ℕ
child_bound = 4 * term_limit

-- The part of a match: the close stands behind its entries, and it has three children at least and few.
pub record MatchPart (fs : List ℕ) : Type 0 where
  pub long : 2 * (first_entry + entry_count fs) + 1 < length fs
  pub three : 3 ≤ length (children_in fs TermKind.match)
  pub few : length (children_in fs TermKind.match) ≤ child_bound

-- The fields of a term whose head has the number of a kind: they begin with a type, hold the kind's own fields, and have its children.
pub record Part (kind : ℕ) (fs : List ℕ) : Type 0 where
  pub kind_of_term : TermKind
  pub number : kind ≡ (term_row kind_of_term).number
  pub long : 1 < length fs
  pub child : (j : ℕ) → j < length (children_in fs kind_of_term) → HasChild fs kind_of_term j
  pub second : kind_of_term ≡ TermKind.lower → 3 < length fs
  pub branched : kind_of_term ≡ TermKind.match → MatchPart fs
