-- A scan that laid the image out filled the tables.
use Prim.Native.Nat.{ℕ, ◌≤◌, ◌<◌}
use mathlib.Core.Path.{◌≡◌, sym, ap, subst, ◌∙◌}
use mathlib.Core.List.{List}
use native.Mathlib.Omega.{arith}
use lib.ListN.{length, get_or, take}
use lib.Seq.{length-take-le}
use Rattle.image.specs.Limits.{image_limit}
use Rattle.image.specs.Layout.{laid, layout, records_of}
use Rattle.image.specs.Types.{type_place}
use Rattle.image.proofs.Laid.{records_of_lem}
use Rattle.read_records.specs.declared.numbers.Counts.{Counts}
use Rattle.read_records.specs.Descriptors.{Describes}
use Rattle.check_uses.specs.Marks.{marks_of, all_marks}
use Rattle.check_layout.specs.Tables.{layout_of, Tables, Marks}
use Rattle.read_terms.specs.Lent.{TypeOffsets}
use Rattle.validator_core.specs.Examined.{Filled}

module _ (b : List ℕ) (n : Counts) (ds ts ks es : List ℕ) (short : length b ≤ image_limit) (answer : laid (layout_of b n ds ts es) ≡ layout b) (T : Tables b n ds ts ks es) where
  held : records_of b ≡ layout_of b n ds ts es
  held = records_of_lem b (layout_of b n ds ts es) (sym answer)

  domain_count : length (take n.domains ds) ≡ n.domains
  domain_count = let z = T.few.domains in let y = T.long.doms in length-take-le n.domains ds (omega arith)

  type_count_lem : length (take n.types ts) ≡ n.types
  type_count_lem = let z = T.few.types in let y = T.long.types in length-take-le n.types ts (omega arith)

  term_count_lem : length (take n.terms es) ≡ n.terms
  term_count_lem = let z = T.few.terms in let y = T.long.terms in length-take-le n.terms es (omega arith)

  domains_held : (records_of b).domains ≡ take n.domains ds
  domains_held = ap (λ L. L.domains) held

  types_held : (records_of b).types ≡ take n.types ts
  types_held = ap (λ L. L.types) held

  terms_held : (records_of b).terms ≡ take n.terms es
  terms_held = ap (λ L. L.terms) held

  counted : length (records_of b).types ≡ n.types
  counted = ap length types_held ∙ type_count_lem

  descriptor_held : (t : ℕ) → t < length (records_of b).types → Describes b (type_place (records_of b) t) (get_or ks t 0)
  descriptor_held t h = subst (λ L. Describes b (type_place L t) (get_or ks t 0)) (sym held) (T.described.at t (let e = counted in let f = type_count_lem in omega arith))

  pub filled : Filled b n ds ts ks es
  filled = record {
    tables = record {
      laid_out = sym answer ∙ ap laid (sym held);
      short = short;
      domains = ap (λ x. take (length x) ds) domains_held ∙ ap (λ m. take m ds) domain_count ∙ sym domains_held;
      terms = ap (λ x. take (length x) es) terms_held ∙ ap (λ m. take m es) term_count_lem ∙ sym terms_held;
      enough = (let e = counted in let f = T.few.types in let g = T.long.descriptors in omega arith);
      descriptors = descriptor_held;
    };
    types = sym types_held;
    counts = record {
      domains = sym (ap length domains_held ∙ domain_count);
      types = sym counted;
      terms = sym (ap length terms_held ∙ term_count_lem);
    };
  }

  -- The marks are those of all terms.
  pub marked : (ms : List ℕ) → Marks b n ds ts es ms → ms ≡ all_marks b
  marked ms m = m ∙ (ap (λ L. marks_of L n.terms) (sym held) ∙ ap (λ c. marks_of (records_of b) c) filled.counts.terms)

-- The offsets of the types, as the rules ask for them.
pub offsets_held : {b : List ℕ} {n : Counts} {ds ts ks es : List ℕ} → Filled b n ds ts ks es → TypeOffsets b ts
offsets_held {ts = ts} F = record { laid_out = F.tables.laid_out; offsets = ap (λ m. take m ts) (sym F.counts.types) ∙ F.types }
