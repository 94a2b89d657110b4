-- What can be written, over a table of types: what an image must be accepted for, said of a program.
use Prim.Native.Nat.{ℕ, zero, suc, ◌≤◌, ◌<◌}
use mathlib.Core.Path.{◌≡◌}
use mathlib.Core.Bool.{true, false}
use mathlib.Core.List.{List, [], ◌∷◌, ◌++◌}
use lib.ListN.{length}
use Rattle.calculus.specs.Syntax.{Dom, Ty}
use Rattle.calculus.specs.Plain.{is_plain}
use Rattle.image.specs.Limits.{image_limit, domain_limit, type_limit, term_limit, depth_limit}
use Rattle.image.specs.Kinds.{Field, a_type, own, a_term, an_entry, TermKind, type_row_of, term_row, fields_of}
use Rattle.image.specs.Records.{Layout, as_child, as_other, given}
use Rattle.image.specs.Types.{head_of}
use Rattle.image.specs.LaidOut.{Within}
use Rattle.image.specs.Program.{Program, Programs, node, blank, end, more}
use Rattle.verdict.specs.Domains.{masks, policy}
use Rattle.verdict.specs.Order.{at_fault}
use Rattle.verdict.specs.WellTyped.{mainline, WellTyped, stated}
use Rattle.image_written.specs.TypeParts.{Part, sub, at, parts_of, parts_first}
use Rattle.image_written.specs.Table.{has, table_of}
use Rattle.image_written.specs.Written.{terms, written_over, written}
use Rattle.image_written.proofs.TypeParts.{groups_of}
use Rattle.image_written.proofs.Reading.{Sized}

-- A type's record has as many methods as it may.
abbrev pub Bounded : Ty → Type 0
Bounded t = ((type_row_of (head_of t)).least ≤ groups_of t) × (groups_of t ≤ (type_row_of (head_of t)).most)

-- Over so many domains: a type's domains are there, and its parts are in the table.
module _ (domains : ℕ) where
  abbrev pub PartsIn : List Ty → List (Part Ty) → Type 0
  PartsIn T [] = Unit {0}
  PartsIn T (sub a ∷ ps) = (has T a ≡ true) × PartsIn T ps
  PartsIn T (at p ∷ ps) = (p < domains) × PartsIn T ps

  -- The types behind the table `done`: each new, and behind its parts.
  abbrev pub TableFrom : List Ty → List Ty → Type 0
  TableFrom done [] = Unit {0}
  TableFrom done (t ∷ ts) = (has done t ≡ false) × Bounded t × PartsIn done (parts_of t) × TableFrom (done ++ (t ∷ [])) ts

  -- The fields fs of numbers ws that name neither a type nor a term are in their ranges.
  abbrev pub Ranged : List Field → List ℕ → Type 0
  Ranged [] ws = Unit {0}
  Ranged (f ∷ fs) [] = Unit {0}
  Ranged (a_type ∷ fs) (w ∷ ws) = Ranged fs ws
  Ranged (own r ∷ fs) (w ∷ ws) = Within domains 0 0 (own r) w × Ranged fs ws
  Ranged (a_term b ∷ fs) (w ∷ ws) = Ranged fs ws
  Ranged (an_entry ∷ fs) (w ∷ ws) = Ranged fs ws

  -- Some record of kind k has the others vs and n children.
  pub record Fielded (k : TermKind) (vs : List ℕ) (n : ℕ) : Type 0 where
    pub groups : ℕ
    pub numbers : List ℕ
    pub sized : Sized (term_row k) groups (length numbers)
    pub others : given as_other (fields_of (term_row k) groups) numbers ≡ vs
    pub children : length (given as_child (fields_of (term_row k) groups) numbers) ≡ n
    pub ranged : Ranged (fields_of (term_row k) groups) numbers

abbrev pub several : Programs → ℕ
several end = 0
several (more e es) = suc (several es)

-- Each term has its kind's fields and as many children as its kind may have, and a type of the table.
module _ (domains : ℕ) (T : List Ty) where
  unfoldable mutual
    pub Formed : Program → Type 0
    Formed (node k t vs es) = (has T t ≡ true) × Fielded domains k vs (several es) × FormedAll es
    Formed blank = ⊥

    pub FormedAll : Programs → Type 0
    FormedAll end = Unit {0}
    FormedAll (more e es) = Formed e × FormedAll es

-- What holds of each of the types.
abbrev pub Every : (Ty → Type 0) → List Ty → Type 0
Every P [] = Unit {0}
Every P (t ∷ ts) = P t × Every P ts

-- The same without a table: the domains of its types are there.
module _ (domains : ℕ) where
  abbrev pub DomainsIn : List (Part Ty) → Type 0
  DomainsIn [] = Unit {0}
  DomainsIn (sub a ∷ ps) = DomainsIn ps
  DomainsIn (at p ∷ ps) = (p < domains) × DomainsIn ps

  abbrev pub Whole : Ty → Type 0
  Whole t = Bounded t × DomainsIn (parts_of t)

  unfoldable mutual
    pub Shaped : Program → Type 0
    Shaped (node k t vs es) = Every Whole (parts_first t) × Fielded domains k vs (several es) × ShapedAll es
    Shaped blank = ⊥

    pub ShapedAll : Programs → Type 0
    ShapedAll end = Unit {0}
    ShapedAll (more e es) = Shaped e × ShapedAll es

-- A depth of d at most.
unfoldable mutual
  pub Shallow : Program → ℕ → Type 0
  Shallow (node k t vs es) zero = ⊥
  Shallow (node k t vs es) (suc d) = ShallowAll es d
  Shallow blank d = Unit {0}

  pub ShallowAll : Programs → ℕ → Type 0
  ShallowAll end d = Unit {0}
  ShallowAll (more e es) d = Shallow e d × ShallowAll es d

-- With the domains of the layout K.
pub record Writable (K : Layout) (T : List Ty) (e : Program) : Type 0 where
  pub has_domains : 0 < length K.domains
  pub few_domains : length K.domains ≤ domain_limit
  pub ordered : (d : Dom) → d < length K.domains → at_fault K d ≡ false
  pub table : TableFrom (length K.domains) [] T
  pub few_types : length T ≤ type_limit
  pub formed : Formed (length K.domains) T e
  pub few_terms : terms e ≤ term_limit
  pub shallow : Shallow e depth_limit
  pub well_typed : WellTyped (policy K) mainline e
  pub plain : is_plain (stated e) ≡ true
  pub short : length (written_over T (masks K) e) ≤ image_limit

-- The same for the fixed form, which makes its own table.
pub record Fixable (K : Layout) (e : Program) : Type 0 where
  pub has_domains : 0 < length K.domains
  pub few_domains : length K.domains ≤ domain_limit
  pub ordered : (d : Dom) → d < length K.domains → at_fault K d ≡ false
  pub shaped : Shaped (length K.domains) e
  pub few_types : length (table_of e) ≤ type_limit
  pub few_terms : terms e ≤ term_limit
  pub shallow : Shallow e depth_limit
  pub well_typed : WellTyped (policy K) mainline e
  pub plain : is_plain (stated e) ≡ true
  pub short : length (written (masks K) e) ≤ image_limit
