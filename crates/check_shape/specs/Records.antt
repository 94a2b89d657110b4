-- What the tables hold of an image that is laid out (document 01, "The image"), as the passes need it: where its domains and its terms stand, and the fields of each.
use Rattle.std.specs.Prelude.{ℕ, ◌≤◌, ◌<◌, ◌≡◌, List, length, get_or}
use Rattle.image.specs.Limits.{domain_limit, term_limit}
use Rattle.image.specs.Bytes.{number_at, length_at}
use Rattle.image.specs.Records.{Layout}
use Rattle.image.specs.Layout.{laid, layout, records_of}
use Rattle.image.specs.Types.{children}
use Rattle.read_records.specs.Codes.{code_count, code_at}
use Rattle.read_records.specs.Heads.{IsWhole, fields_at, Fitting, children_of}
use Rattle.check_uses.specs.Marks.{Lower, all_marks}

-- The record at o is a whole one, and has a mask.
pub record DomainAt (b : List ℕ) (o : ℕ) : Type 0 where
  pub whole : IsWhole b o
  pub mask : 6 ≤ length_at b o

-- The offsets ds are those of the domains of a layout of the image b.
pub record DomainsOf (L : Layout) (b ds : List ℕ) : Type 0 where
  pub image : L.image ≡ b
  pub offsets : L.domains ≡ ds
  pub few : length ds ≤ domain_limit
  pub stands : (d : ℕ) → d < length ds → DomainAt b (get_or ds d 0)

-- Of the layout of the image itself.
abbrev pub Domains : List ℕ → List ℕ → Type 0
Domains b ds = DomainsOf (records_of b) b ds

-- The record at o is a whole one of a known kind, with the kind's fields and children; these.
pub record TermAt (b : List ℕ) (o : ℕ) : Type 0 where
  pub known : number_at b o < code_count
  pub whole : IsWhole b o
  pub fitting : Fitting (code_at (number_at b o)) (fields_at b o)

-- The children of the term at o.
abbrev pub children_of_term : List ℕ → ℕ → List ℕ
children_of_term b o = children_of (code_at (number_at b o)) (fields_at b o)

-- The offsets ts are those of the terms of a layout of the image b; a term's children are lower terms.
pub record TermsOf (L : Layout) (b ts : List ℕ) : Type 0 where
  pub offsets : L.terms ≡ ts
  pub few : length ts ≤ term_limit
  pub stands : (n : ℕ) → n < length ts → TermAt b (get_or ts n 0)
  pub lower : (n : ℕ) → n < length ts → Lower n (children_of_term b (get_or ts n 0))
  pub same : (n : ℕ) → n < length ts → children L n ≡ children_of_term b (get_or ts n 0)

abbrev pub Terms : List ℕ → List ℕ → Type 0
Terms b ts = TermsOf (records_of b) b ts

-- The image b is laid out, and ms are the marks of its terms.
pub record Marked (b ms : List ℕ) : Type 0 where
  pub laid_out : layout b ≡ laid (records_of b)
  pub marks : ms ≡ all_marks b
