-- The copy of an accepted image can be written, and what is written is the image without its watches.
use Rattle.std.specs.Prelude.{Ok}
use Prim.Native.Nat.{ℕ, ◌≤◌}
use native.Mathlib.Omega.{arith}
use mathlib.Core.Path.{◌≡◌, sym, ap, subst, ◌∙◌}
use mathlib.Core.Bool.{Bool}
use mathlib.Core.List.{List}
use lib.ListN.{length, take}
use Rattle.calculus.specs.Syntax.{Dom}
use Rattle.image.specs.Limits.{work_length, report_length}
use Rattle.image.specs.Records.{Layout}
use Rattle.image.specs.Layout.{laid, layout, records_of}
use Rattle.image.specs.Program.{program}
use Rattle.image.proofs.Laid.{layout_good, image_kept, records_of_lem}
use Rattle.verdict.specs.Domains.{masks}
use Rattle.verdict.specs.Verdicts.{verdict}
use Rattle.verdict.proofs.Passed.{Passed, passed_iff}
use Rattle.read_records.specs.declared.numbers.Counts.{Counts}
use Rattle.read_records.specs.Tables.{Counted}
use Rattle.read_terms.specs.Lent.{Domains, Terms, TypeOffsets}
use Rattle.image_written.specs.Written.{terms, written, fixed}
use Rattle.image_written.specs.Stripped.{stripped, without_watches}
use Rattle.image_written.proofs.Sizes.{few_terms}
use Rattle.image_written.proofs.Stripping.{stripped_holds, stripped_short}
use Rattle.write_image.specs.Fits.{Fits}
use Rattle.write_unit_bodies.specs.UnitBodies.{UnitBodies}
use Rattle.write_unit_bodies.proofs.Copied.{copied, copied_laid}
use Rattle.write_unit_bodies.proofs.Trees.{masks_same, program_stripped}

module _ (b : List ℕ) (ok : verdict b work_length report_length ≡ Ok tt) (high : Dom → Bool) (c : List ℕ) (I : UnitBodies (records_of b) high (length (records_of b).terms) b c) where
  abbrev L : Layout
  L = records_of b

  a : Passed b work_length report_length
  a = (passed_iff b work_length report_length).0 ok

  same : L.image ≡ b
  same = image_kept b L a.laid_out

  walked : layout L.image ≡ laid L
  walked = ap layout same ∙ a.laid_out

  J : UnitBodies L high (length L.terms) L.image c
  J = subst (λ x. UnitBodies L high (length L.terms) x c) (sym same) I

  abbrev M : Layout
  M = copied L walked high c J

  records : records_of c ≡ M
  records = records_of_lem c M (copied_laid L walked high c J)

  pub copy_walked : layout c ≡ laid (records_of c)
  copy_walked = copied_laid L walked high c J ∙ ap laid (sym records)

  tree : program (records_of c) ≡ stripped high (program L)
  tree = ap program records ∙ program_stripped L walked high c J a.shaped.used a.shaped.has_terms

  pub copy_written : fixed c ≡ without_watches high b
  unfolding fixed without_watches
  copy_written = ap (λ ms. written ms (program (records_of c))) (ap masks records ∙ masks_same L walked high c J) ∙ ap (λ e. written (masks L) e) tree

  pub copy_fits : (n : ℕ) → length b ≤ n → Fits c n
  copy_fits n h =
      let s = stripped_short high b work_length report_length ok in
      let w : length (fixed c) ≡ length (without_watches high b) = ap length copy_written in
      let H = stripped_holds high b work_length report_length ok in
      let d = (passed_iff (without_watches high b) work_length report_length).0 H.accepted in
      let g = layout_good (without_watches high b) (records_of (without_watches high b)) d.laid_out in
      let f = few_terms (records_of (without_watches high b)) g d.shaped.used d.shaped.has_terms in
      let e : terms (program (records_of (without_watches high b))) ≡ terms (program (records_of c)) = ap terms (H.tree ∙ sym tree) in
      let l = g.few_terms in
      let t : length (records_of c).terms ≡ length L.terms = ap (λ K. length K.terms) records in
      let p = a.shaped.has_terms in
      record { has_terms = omega arith; few_terms = omega arith; capacity = omega arith }

  -- The tables are the copy's too.
  pub copy_domains : (ds : List ℕ) → take (length L.domains) ds ≡ L.domains → Domains c ds
  copy_domains ds e = record { laid_out = copy_walked; offsets = subst (λ K. take (length K.domains) ds ≡ K.domains) (sym records) e }

  pub copy_terms : (ts : List ℕ) → take (length L.terms) ts ≡ L.terms → Terms c ts
  copy_terms ts e = record { laid_out = copy_walked; offsets = subst (λ K. take (length K.terms) ts ≡ K.terms) (sym records) e }

  pub copy_types : (ts : List ℕ) → TypeOffsets b ts → TypeOffsets c ts
  copy_types ts T = record { laid_out = copy_walked; offsets = subst (λ K. take (length K.types) ts ≡ K.types) (sym records) T.offsets }

  pub copy_counted : (n : Counts) → Counted b n → Counted c n
  copy_counted n C = record {
    domains = C.domains ∙ ap (λ K. length K.domains) (sym records);
    types = C.types ∙ ap (λ K. length K.types) (sym records);
    terms = C.terms ∙ ap (λ K. length K.terms) (sym records);
  }
