-- The first records of a list, written one behind the other.
use Prim.Native.Nat.{ℕ, suc, ◌+◌, ◌*◌, ◌≤◌, ◌<◌}
use native.Mathlib.Omega.{arith}
use mathlib.Core.Path.{◌≡◌, sym, ap, subst, ◌∙◌}
use mathlib.Core.List.{List, [], ◌∷◌, ◌++◌, map, append-nil}
use lib.ListN.{length, get_or, take, drop, length-append, length-map, take-append-drop}
use lib.Seq.{take-suc, get_or-take, length-take-le}
use Rattle.calculus.specs.Syntax.{Ty}
use Rattle.image.specs.Kinds.{domain}
use Rattle.image.specs.Layout.{records_of}
use Rattle.image.specs.Types.{type_of}
use Rattle.image.proofs.Laid.{below_at}
use Rattle.laws.proofs.Lists.{map_at}
use Rattle.base_bytes.specs.Bytes.{over}
use Rattle.base_bytes.proofs.Over.{over_nothing, onward}
use Rattle.image_written.specs.TypeParts.{parts_of}
use Rattle.image_written.specs.Records.{Record, record_of, size, bytes, image}
use Rattle.image_written.specs.Written.{domain_record, type_record}
use Rattle.image_written.proofs.Reading.{bytes_length}
use Rattle.image_written.proofs.Laying.{image_append}
use Rattle.image_written.proofs.Tables.{parts_length, table_parts}
use Rattle.image_written.proofs.Writable.{PartsIn}
use Rattle.write_types.specs.Entries.{Entries, entries_of}
use Rattle.write_types.proofs.Entering.{long}
use Rattle.write_sections.specs.Sections.{type_size}

module _ (rs : List Record) where
  -- The bytes of the first i.
  abbrev pub firsts : ℕ → List ℕ
  firsts i = image (take i rs)

  abbrev at : ℕ → Record
  at i = get_or rs i (record_of domain [])

  firsts_more : (i : ℕ) → i < length rs → firsts (i + 1) ≡ firsts i ++ bytes (at i)
  unfolding image
  firsts_more i l =
      let z : i + 1 ≡ suc i = omega arith in
      ap (λ j. image (take j rs)) z ∙ ap (λ xs. image xs) (take-suc rs i (record_of domain []) l) ∙ image_append (take i rs) (at i ∷ []) ∙ ap (λ bs. firsts i ++ bs) (append-nil (bytes (at i)))

  firsts_length : (i : ℕ) → i < length rs → length (firsts (i + 1)) ≡ length (firsts i) + size (at i)
  firsts_length i l = ap length (firsts_more i l) ∙ length-append (firsts i) (bytes (at i)) ∙ ap (λ n. length (firsts i) + n) (bytes_length (at i))

  pub firsts_fit : (i : ℕ) → length (firsts i) ≤ length (image rs)
  firsts_fit i =
      let a : length (image rs) ≡ length (firsts i) + length (image (drop i rs)) = ap (λ xs. length (image xs)) (sym (take-append-drop i rs)) ∙ ap length (image_append (take i rs) (drop i rs)) ∙ length-append (firsts i) (image (drop i rs)) in
      omega arith

  pub firsts_none : (start : ℕ) (out : List ℕ) → (start ≡ start + length (firsts 0)) × (out ≡ over start (firsts 0) out)
  unfolding image
  firsts_none start out = (omega arith, sym (over_nothing out start))

  -- One record more, r, at the offset at'.
  module _ (start i at' : ℕ) (l : i < length rs) (r : Record) (same : at i ≡ r) (come : at' ≡ start + length (firsts i)) where
    pub record_fits : {n : ℕ} → start + length (image rs) ≤ n → at' + size r ≤ n
    record_fits h =
        let a = firsts_length i l in
        let b = firsts_fit (i + 1) in
        let c : size (at i) ≡ size r = ap (λ q. size q) same in
        omega arith

    pub come_more : (next : ℕ) → next ≡ at' + size r → next ≡ start + length (firsts (i + 1))
    come_more next e =
        let a = firsts_length i l in
        let c : size (at i) ≡ size r = ap (λ q. size q) same in
        omega arith

    pub over_more : (out₀ : List ℕ) {out out' : List ℕ} → start + length (image rs) ≤ length out₀ → out ≡ over start (firsts i) out₀ → out' ≡ over at' (bytes r) out → out' ≡ over start (firsts (i + 1)) out₀
    over_more out₀ h e f =
        let k = record_fits h in
        let n = bytes_length r in
        onward (firsts i) (bytes r) out₀ start at' e f come (omega arith) ∙ ap (λ q. over start (firsts i ++ bytes q) out₀) (sym same) ∙ ap (λ bs. over start bs out₀) (sym (firsts_more i l))

-- The records of the domains.
pub domain_at : (ms : List ℕ) (i : ℕ) → i < length ms → (i < length (map (λ m. domain_record m) ms)) × (get_or (map (λ m. domain_record m) ms) i (record_of domain []) ≡ domain_record (get_or ms i 0))
domain_at ms i l = let k = length-map ms (λ m. domain_record m) in (omega arith, map_at (λ m. domain_record m) ms i 0 (record_of domain []) l)

-- And of the types of a table.
module _ {b : List ℕ} {n : ℕ} {places order : List ℕ} (E : Entries b n places order) where
  abbrev T : List Ty
  T = entries_of b n order

  pub types_count : length (map (λ t. type_record T t) T) ≡ n
  types_count = length-map T (λ t. type_record T t) ∙ long E

  module _ (i : ℕ) (l : i < n) where
    pub number_is : get_or order i 0 < length (records_of b).types
    number_is =
        let k = length-take-le n order E.few in
        let z = get_or-take n order i 0 l in
        let w = below_at (length (records_of b).types) (take n order) i E.numbers (omega arith) in
        omega arith

    type_there : get_or T i Ty.unit ≡ type_of (records_of b) (get_or order i 0)
    type_there =
        let k = length-take-le n order E.few in
        map_at (λ t. type_of (records_of b) t) (take n order) i 0 Ty.unit (omega arith) ∙ ap (λ t. type_of (records_of b) t) (get_or-take n order i 0 l)

    pub type_at : (i < length (map (λ t. type_record T t) T)) × (get_or (map (λ t. type_record T t) T) i (record_of domain []) ≡ type_record T (type_of (records_of b) (get_or order i 0)))
    type_at =
        let k = types_count in
        let m = long E in
        (omega arith, map_at (λ t. type_record T t) T i Ty.unit (record_of domain []) (omega arith) ∙ ap (λ t. type_record T t) type_there)

    pub type_size_lem : size (type_record T (type_of (records_of b) (get_or order i 0))) ≡ type_size b (get_or order i 0)
    type_size_lem = ap (λ q. 4 + 2 * q) (parts_length T (parts_of (type_of (records_of b) (get_or order i 0))))

    pub parts_in : PartsIn (length (records_of b).domains) T (parts_of (type_of (records_of b) (get_or order i 0)))
    parts_in =
        let m = long E in
        subst (λ t. PartsIn (length (records_of b).domains) T (parts_of t)) type_there (table_parts (length (records_of b).domains) T E.table i (omega arith))
