-- The tables of records as the definition's layout (document 01, "The image"), and what each function does to them, record by record (document 01, "Turned back at the gate", refusals 2 to 8).
use Rattle.std.specs.Prelude.{ℕ, ◌+◌, ◌≤◌, ◌<◌, ◌≡◌, List, [], ◌∷◌, length, get_or, take, set, Result, Ok, Err}
use Rattle.std.proofs.Math.Option.{Option, none, some}
use Rattle.image.specs.declared.Refusal.{Refusal}
use Rattle.image.specs.declared.Refused.{Refused}
use Rattle.image.specs.Limits.{image_limit, domain_limit, type_limit, term_limit}
use Rattle.laws.specs.Tests.{first_fault}
use Rattle.image.specs.Bytes.{length_at}
use Rattle.image.specs.Records.{Layout, kind_at}
use Rattle.image.specs.Layout.{nothing, tests, add, stopped, laid, layout}
use Rattle.image.specs.Layout as Image
use Rattle.image.specs.Types.{type_place}
use Rattle.calculus.specs.Combinators.{choose}
use Rattle.read_records.specs.declared.numbers.Counts.{Counts}
use Rattle.read_records.specs.Counts.{Few, with_term}
use Rattle.read_records.specs.Heads.{a_record, head_at, field_bytes, children_of}
use Rattle.read_records.specs.Codes.{kind_codes}
use Rattle.read_records.specs.Descriptors.{Describes}
use Rattle.check_uses.specs.Marks.{entered, marks_of}
use Rattle.check_repeats.specs.NewTypes.{new_type}
use Rattle.check_repeats.specs.Keys.{key_of, with_key, Filters}
use Rattle.check_ranges.specs.Numbers.{told_of, number_tests}

-- The layout of an image b of which the tables of domains, types and terms hold so many records.
abbrev pub layout_of : List ℕ → Counts → List ℕ → List ℕ → List ℕ → Layout
layout_of b n ds ts es = record { image = b; domains = take n.domains ds; types = take n.types ts; terms = take n.terms es }

-- The table of descriptors holds the descriptor of each type.
pub record Described (L : Layout) (ks : List ℕ) : Type 0 where
  pub at : (t : ℕ) → t < length L.types → Describes L.image (type_place L t) (get_or ks t 0)

-- The tables are long enough for every image.
pub record Long (ds ts ks es : List ℕ) : Type 0 where
  pub doms : domain_limit ≤ length ds
  pub types : type_limit ≤ length ts
  pub descriptors : type_limit ≤ length ks
  pub terms : term_limit ≤ length es

pub record Tables (b : List ℕ) (n : Counts) (ds ts ks es : List ℕ) : Type 0 where
  pub few : Few n
  pub long : Long ds ts ks es
  pub described : Described (layout_of b n ds ts es) ks

-- Type t, with the fields fs, is put into the tables, with the offset o, the descriptor x and its key, unless it is there already.
pub record PutType (r : Result (Unit {0}) Refusal) (b fs : List ℕ) (o x t : ℕ) (ts ks rs ts' ks' rs' : List ℕ) : Type 0 where
  pub answer : told_of r ≡ first_fault ((Refusal.RepeatedType, new_type b fs t ts ks x) ∷ [])
  pub types : ts' ≡ choose (new_type b fs t ts ks x) (set ts t o) ts
  pub descriptors : ks' ≡ choose (new_type b fs t ts ks x) (set ks t x) ks
  pub filter : rs' ≡ choose (new_type b fs t ts ks x) (with_key rs t (key_of x fs)) rs

-- What becomes of a record at o: refused, or one more in the layout, which is L then.
abbrev pub entering : Option Refusal → ℕ → Layout → Image.Scan
entering (some r) o L = stopped r o
entering none o L = laid L

-- The answer to a record at o, with the tables that it leaves, as the definition's; and how many records they hold, n of them before.
abbrev pub entry_of : Result Counts Refusal → List ℕ → ℕ → List ℕ → List ℕ → List ℕ → Image.Scan
entry_of (Err r) b o ds ts es = stopped r o
entry_of (Ok n) b o ds ts es = laid (layout_of b n ds ts es)

abbrev pub counts_behind : Result Counts Refusal → Counts → Counts
counts_behind (Err r) n = n
counts_behind (Ok m) n = m

-- The scan comes to the offset o with the records of a layout: none of them is refused.
pub data Reached (b : List ℕ) : ℕ → Layout → Type 0 where
  start : Reached b 0 (nothing b)
  next : {o : ℕ} {L : Layout} → Reached b o L → o < length b → first_fault (tests L o) ≡ none → Reached b (o + length_at b o) (add (kind_at b o) o L)

-- The marks of the terms that the tables hold.
abbrev pub Marks : List ℕ → Counts → List ℕ → List ℕ → List ℕ → List ℕ → Type 0
Marks b n ds ts es ms = ms ≡ marks_of (layout_of b n ds ts es) n.terms

-- A record of q bytes and of kind k at o, in an image b: its fields are fs.
pub record Entering (b fs kinds : List ℕ) (o q k : ℕ) (n : Counts) (ds ts ks rs es ms : List ℕ) : Type 0 where
  pub head : head_at b o ≡ a_record q k
  pub fields : fs ≡ field_bytes b o q
  pub short : length b ≤ image_limit
  pub codes : kinds ≡ kind_codes
  pub tables : Tables b n ds ts ks es
  pub filter : Filters b n.types ts ks rs
  pub reached : Reached b o (layout_of b n ds ts es)
  pub marks : Marks b n ds ts es ms

pub record Entered (r : Result Counts Refusal) (b : List ℕ) (o : ℕ) (n : Counts) (ds ts es ds' ts' ks' rs' es' ms' : List ℕ) : Type 0 where
  pub answer : entry_of r b o ds' ts' es' ≡ entering (first_fault (tests (layout_of b n ds ts es) o)) o (add (kind_at b o) o (layout_of b n ds ts es))
  pub kept : (q : Refusal) → r ≡ Err q → layout_of b n ds' ts' es' ≡ layout_of b n ds ts es
  pub tables : Tables b (counts_behind r n) ds' ts' ks' es'
  pub filter : Filters b (counts_behind r n).types ts' ks' rs'
  pub marks : Marks b (counts_behind r n) ds' ts' es' ms'

-- What enter is lent, and what it does.
pub record Enterable (b fs kinds : List ℕ) (o k : ℕ) (n : Counts) (ds ts ks rs es ms : List ℕ) : Type 0 where
  pub len : ℕ
  pub is : Entering b fs kinds o len k n ds ts ks rs es ms

pub record Enters (r : Result Counts Refusal) (b fs kinds : List ℕ) (o k : ℕ) (n : Counts) (ds ts ks rs es ms ds' ts' ks' rs' es' ms' : List ℕ) : Type 0 where
  pub entered : (q : ℕ) → Entering b fs kinds o q k n ds ts ks rs es ms → Entered r b o n ds ts es ds' ts' ks' rs' es' ms'

-- The answer to a term that 4 to 7 refuse or not, and what stands behind it: the old or the new.
abbrev pub entry_for : Option Refusal → Counts → Result Counts Refusal
entry_for (some r) n = Err r
entry_for none n = Ok n

abbrev pub behind : Result Counts Refusal → List ℕ → List ℕ → List ℕ
behind (Err r) old new = old
behind (Ok n) old new = new

-- What enter_term does with a term at o, whose fields are fs and whose kind has the code x.
pub record EntersTerm (r : Result Counts Refusal) (fs : List ℕ) (x o : ℕ) (n : Counts) (es ms es' ms' : List ℕ) : Type 0 where
  pub answer : r ≡ entry_for (first_fault (number_tests fs x n)) (with_term n)
  pub terms : es' ≡ behind r es (set es n.terms o)
  pub marks : ms' ≡ behind r ms (entered (children_of x fs) n.terms ms)

-- What scan_records is lent.
pub record Lent (b kinds ds ts ks es : List ℕ) : Type 0 where
  pub short : length b ≤ image_limit
  pub codes : kinds ≡ kind_codes
  pub long : Long ds ts ks es

-- The answer and the tables at exit, as the definition's; and how far the scan came.
abbrev pub scan_of : Result Counts Refused → List ℕ → List ℕ → List ℕ → List ℕ → Image.Scan
scan_of (Err e) b ds ts es = stopped e.why e.place
scan_of (Ok n) b ds ts es = laid (layout_of b n ds ts es)

abbrev pub end_of : Image.Scan → List ℕ → ℕ
end_of (stopped r o) b = o
end_of (laid L) b = length b

-- The tables hold the n records that stand before the offset o.
pub record Holds (b : List ℕ) (o : ℕ) (n : Counts) (ds ts ks es : List ℕ) : Type 0 where
  pub reached : Reached b o (layout_of b n ds ts es)
  pub tables : Tables b n ds ts ks es

-- All records, where none is refused; else those before the refused one.
pub record Scanned (r : Result Counts Refused) (b ds ts ks es ms : List ℕ) : Type 0 where
  pub answer : scan_of r b ds ts es ≡ layout b
  pub counts : Counts
  pub counted : (n : Counts) → r ≡ Ok n → counts ≡ n
  pub holds : Holds b (end_of (layout b) b) counts ds ts ks es
  pub marks : Marks b counts ds ts es ms

-- The same of a scan with a filter, which then has the keys of the types.
pub record ScannedWith (r : Result Counts Refused) (b ds ts ks rs es ms : List ℕ) : Type 0 where
  pub scanned : Scanned r b ds ts ks es ms
  pub filter : Filters b scanned.counts.types ts ks rs
