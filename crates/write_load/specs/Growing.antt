-- How a generated image is written, record by record (document 02, card 12).
use Rattle.std.specs.Prelude.{ℕ, ◌+◌, ◌-◌, ◌*◌, ◌≤◌, ◌≡◌, Bool, true, false, List, [], ◌∷◌, ◌++◌, length, eqb, ltb}
use Rattle.calculus.specs.Combinators.{choose}
use Rattle.image.specs.Limits.{term_limit}
use Rattle.base_bytes.specs.Bytes.{over}
use Rattle.image_written.specs.Records.{little, image}
use Rattle.image_written.specs.Written.{terms, term_records}
use Rattle.image_written.specs.Generated.{grow, load_types}
use Rattle.image_written.proofs.Load.{most}
use Rattle.write_sections.specs.Sections.{domain_bytes, type_bytes}
use Rattle.write_load.specs.declared.Growth.{Growth}

-- The bytes of the domain and of the types, unit and number, that every image has.
unfoldable pub head_bytes : List ℕ
head_bytes = domain_bytes (1 ∷ []) ++ type_bytes load_types

-- The fields of a print, of a sequence and of a sum or difference, of which the last child is the last of n terms.
abbrev pub print_fields : ℕ → List ℕ
print_fields n = 0 ∷ (n - 1) ∷ []

abbrev pub sequence_fields : ℕ → ℕ → List ℕ
sequence_fields first n = 1 ∷ first ∷ (n - 1) ∷ []

abbrev pub sum_fields : ℕ → ℕ → ℕ → List ℕ
sum_fields op first n = 1 ∷ op ∷ first ∷ (n - 1) ∷ []

-- A number follows for c = 0, and for c = 3 below depth 3; d is the depth less 1.
abbrev pub number_follows : ℕ → ℕ → Bool
number_follows c d = choose (eqb c 0) true (choose (eqb c 3) (ltb d 2) false)

-- There is room for the largest tree of depth d + 1.
pub record Capacity (out : List ℕ) (done : Growth) (d : ℕ) : Type 0 where
  pub depth : d ≤ 8
  pub bytes : done.done.at + 12 * most d ≤ length out
  pub terms : done.done.terms + most d ≤ term_limit

-- One record more, of a kind and with these fields.
pub record Put (out : List ℕ) (done : Growth) (out' : List ℕ) (r : Growth) (kind : ℕ) (fields : List ℕ) : Type 0 where
  pub bytes : out' ≡ over done.done.at (little ((4 + 2 * length fields) ∷ kind ∷ fields)) out
  pub at : r.done.at ≡ done.done.at + (4 + 2 * length fields)
  pub terms : r.done.terms ≡ done.done.terms + 1
  pub state : r.state ≡ done.state

-- A tree of depth d + 1 more, drawn from the state.
pub record Grew (d : ℕ) (out : List ℕ) (done : Growth) (out' : List ℕ) (r : Growth) : Type 0 where
  pub bytes : out' ≡ over done.done.at (image (term_records load_types done.done.terms (grow d done.state).tree)) out
  pub at : r.done.at ≡ done.done.at + length (image (term_records load_types done.done.terms (grow d done.state).tree))
  pub terms : r.done.terms ≡ done.done.terms + terms (grow d done.state).tree
  pub state : r.state ≡ (grow d done.state).state
