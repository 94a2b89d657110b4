-- The sections of the fixed form of an image that is laid out, written one behind the other.
use Prim.Native.Nat.{ℕ, ◌+◌, ◌≤◌, ◌<◌}
use native.Mathlib.Omega.{arith}
use mathlib.Core.Path.{◌≡◌, sym, ap, subst, ◌∙◌}
use mathlib.Core.List.{List, [], ◌++◌, map, append_assoc}
use lib.ListN.{length, get_or, take, replicate, length-append, length-map, length-replicate, get_or-replicate}
use lib.Seq.{get_or-take, length-take-le, ext_get_or}
use Rattle.calculus.specs.Syntax.{Ty}
use Rattle.image.specs.Bytes.{field_at}
use Rattle.image.specs.Limits.{type_limit, term_limit, domain_limit}
use Rattle.image.specs.Records.{Layout}
use Rattle.image.specs.Layout.{laid, layout, records_of}
use Rattle.image.specs.Types.{root_of}
use Rattle.image.specs.Program.{program}
use Rattle.image.proofs.Laid.{LayoutOk, layout_good}
use Rattle.verdict.specs.Domains.{masks}
use Rattle.base_bytes.specs.Bytes.{over}
use Rattle.base_bytes.proofs.Over.{onward}
use Rattle.read_terms.specs.Lent.{Domains, Masks}
use Rattle.image_written.specs.Table.{place, entered, types_in, table_of}
use Rattle.image_written.specs.Records.{Record, image}
use Rattle.image_written.specs.Written.{terms, domain_record, type_record, term_records, records_over, written_over, written, fixed}
use Rattle.image_written.proofs.Laying.{image_append}
use Rattle.image_written.proofs.Writable.{Formed}
use Rattle.image_written.proofs.Entering.{formed_of}
use Rattle.image_written.proofs.Taken.{program_shaped}
use Rattle.image_written.proofs.Sums.{weight}
use Rattle.image_written.proofs.Sizes.{term_size, terms_size}
use Rattle.image_written.proofs.Fronts.{tree_at, program_at}
use Rattle.write_types.specs.Entries.{no_place, Entries, entries_of, Placed}
use Rattle.write_sections.specs.Sections.{domain_bytes, type_bytes}
use Rattle.write_records.specs.declared.Done.{Done}
use Rattle.write_program.specs.Writing.{Capacity, Wrote}

-- A table of masks holds those of the image's domains.
pub masks_taken : (b doms table : List ℕ) (count : ℕ) → Domains b doms → count ≡ length (records_of b).domains → Masks b table → (take count table ≡ masks (records_of b)) × (count ≤ length table)
masks_taken b doms table count Q e M =
    let l = (layout_good b (records_of b) Q.laid_out).few_domains in
    let s = M.sixteen in
    let n : length (take count table) ≡ count = length-take-le count table (omega arith) in
    let m : length (masks (records_of b)) ≡ length (records_of b).domains = length-map (records_of b).domains (λ o. field_at (records_of b).image o 0) in
    (ext_get_or 0 (take count table) (masks (records_of b)) (n ∙ e ∙ sym m) (λ i k. get_or-take count table i 0 (omega arith) ∙ M.each i), omega arith)

module _ (b : List ℕ) (walked : layout b ≡ laid (records_of b)) (some_terms : 0 < length (records_of b).terms) where
  abbrev L : Layout
  L = records_of b

  good : LayoutOk L
  good = layout_good b L walked

  abbrev D : ℕ
  D = length L.domains

  -- The types of the program, in their order.
  abbrev T : List Ty
  T = table_of (program L)

  pub few : (length L.domains ≤ domain_limit) × (length L.terms ≤ term_limit)
  few = (good.few_domains, good.few_terms)

  from_root : program L ≡ tree_at L (root_of L)
  from_root = program_at L good some_terms

  -- Before the walk, no type has a place.
  pub no_entries : (places order : List ℕ) → places ≡ replicate type_limit no_place → length order ≡ type_limit → Entries b 0 places order
  unfolding place
  no_entries places order e o =
      let f = good.few_types in
      let p : length places ≡ type_limit = ap length e ∙ length-replicate type_limit no_place in
      record {
        laid_out = walked;
        enough_places = omega arith;
        enough_order = omega arith;
        few = omega arith;
        numbers = tt;
        table = tt;
        each = λ t l. ap (λ xs. get_or xs t 0) e ∙ get_or-replicate type_limit t no_place 0 (omega arith);
      }

  -- The walk from the root enters them.
  pub all_entries : (n : ℕ) (order : List ℕ) → entries_of b n order ≡ entered [] (types_in (tree_at L (root_of L))) → entries_of b n order ≡ T
  unfolding table_of
  all_entries n order e = e ∙ ap (λ x. entered [] (types_in x)) (sym from_root)

  abbrev Ds : List ℕ
  Ds = domain_bytes (masks L)

  abbrev Ts : List ℕ
  Ts = type_bytes T

  abbrev Es : List ℕ
  Es = image (term_records T 0 (program L))

  sections : fixed b ≡ Ds ++ (Ts ++ Es)
  unfolding fixed written written_over records_over
  sections =
      let ds : List Record = map (λ m. domain_record m) (masks L) in
      let ts : List Record = map (λ t. type_record T t) T in
      image_append ds (ts ++ term_records T 0 (program L)) ∙ ap (λ bs. Ds ++ bs) (image_append ts (term_records T 0 (program L)))

  long : length (fixed b) ≡ length Ds + (length Ts + length Es)
  long = ap length sections ∙ length-append Ds (Ts ++ Es) ∙ ap (λ n. length Ds + n) (length-append Ts Es)

  formed : Formed D T (tree_at L (root_of L))
  formed = subst (λ e. Formed D T e) from_root (formed_of D (program L) (program_shaped L good some_terms))

  weighs : length Es ≡ weight term_size (tree_at L (root_of L))
  weighs = terms_size D T T 0 (program L) (formed_of D (program L) (program_shaped L good some_terms)) ∙ ap (λ e. weight term_size e) from_root

  -- The output has room for each section behind the one before.
  module _ (n : ℕ) (capacity : length (fixed b) ≤ n) where
    fits : length Ds + (length Ts + length Es) ≤ n
    fits =
        let l = long in
        omega arith

    pub domains_fit : length Ds ≤ n
    domains_fit = let f = fits in omega arith

    pub types_fit : length Ds + length Ts ≤ n
    types_fit = let f = fits in omega arith

    pub terms_fit : terms (program L) ≤ term_limit → (d : Done) → d.at ≡ length Ds + length Ts → d.terms ≡ 0 → Capacity b (root_of L) d n
    terms_fit few_terms d e z =
        let f = fits in
        let w = weighs in
        let t : terms (program L) ≡ terms (tree_at L (root_of L)) = ap terms from_root in
        record { bytes = omega arith; terms = omega arith }

  -- What stands in the output then, and how long it is.
  pub whole : {places : List ℕ} (out : List ℕ) {out₁ out₂ out₃ : List ℕ} (d : Done) → length (fixed b) ≤ length out → Placed b places T → d.at ≡ length Ds + length Ts → d.terms ≡ 0
      → out₁ ≡ over 0 Ds out → out₂ ≡ over (length Ds) Ts out₁ → Wrote b places (root_of L) d out₂ out₃ → (d.at + weight term_size (tree_at L (root_of L)) ≡ length (fixed b)) × (out₃ ≡ over 0 (fixed b) out)
  whole out {out₁} {out₂} {out₃} d capacity P e z f g W =
      let r = fits (length out) capacity in
      let l = long in
      let w = weighs in
      let x = length-append Ds Ts in
      let s : out₃ ≡ over (length Ds + length Ts) Es out₂ =
      W.over_table T P formed ∙ ap (λ q. over q (image (term_records T d.terms (tree_at L (root_of L)))) out₂) e
      ∙ ap (λ q. over (length Ds + length Ts) (image (term_records T q (tree_at L (root_of L)))) out₂) z
      ∙ ap (λ q. over (length Ds + length Ts) (image (term_records T 0 q)) out₂) (sym from_root) in
      let two : out₂ ≡ over 0 (Ds ++ Ts) out = onward Ds Ts out 0 (length Ds) f g (omega arith) (omega arith) in
      (omega arith, onward (Ds ++ Ts) Es out 0 (length Ds + length Ts) two s (omega arith) (omega arith) ∙ ap (λ bs. over 0 bs out) (append_assoc Ds Ts Es ∙ sym sections))
