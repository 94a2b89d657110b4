-- The fixed form: accepted, with the domains and the program of what it is written from, once and for all, and no longer.
use Rattle.std.specs.Prelude.{Ok}
use Prim.Native.Nat.{ℕ, ◌≤◌}
use native.Mathlib.Omega.{arith}
use mathlib.Core.Path.{◌≡◌, refl, sym, ap, subst, ◌∙◌}
use mathlib.Core.Bool.{true}
use mathlib.Core.List.{List}
use mathlib.Core.Logic.{◌↔◌}
use lib.ListN.{length}
use Rattle.calculus.specs.Syntax.{Ty}
use Rattle.image.specs.Limits.{depth_limit, work_length, report_length}
use Rattle.image.specs.Records.{Layout}
use Rattle.image.specs.Layout.{records_of}
use Rattle.image.specs.Types.{root_type}
use Rattle.image.specs.Program.{Program, program}
use Rattle.image.proofs.Laid.{LayoutOk, layout_good, image_kept}
use Rattle.calculus.specs.Plain.{is_plain}
use Rattle.verdict.specs.Domains.{masks, policy}
use Rattle.verdict.specs.WellTyped.{mainline, WellTyped, stated}
use Rattle.verdict.specs.Verdicts.{verdict}
use Rattle.verdict.proofs.Passed.{Passed, passed_iff}
use Rattle.verdict.proofs.Accept.{root_stated}
use Rattle.image_written.specs.Table.{types_in, table_of}
use Rattle.image_written.specs.Written.{terms, written_over, written, fixed}
use Rattle.image_written.proofs.Writable.{Every, Shaped, Shallow, Fixable}
use Rattle.image_written.proofs.Accepted.{Holds, written_holds}
use Rattle.image_written.proofs.Entering.{table_of_lem, formed_of}
use Rattle.image_written.proofs.Taken.{program_shaped, program_shallow}
use Rattle.image_written.proofs.Sums.{weight}
use Rattle.image_written.proofs.Sizes.{From, program_from, term_size, few_terms, few_types, no_longer, layout_total}

-- What is fit for the fixed form is accepted in it, and has the domains and the program that were to be written.
pub fixed_form : (K : Layout) (e : Program) (work report : ℕ) → Fixable K e → work_length ≤ work → report_length ≤ report → Holds (written (masks K) e) K e work report
unfolding written
fixed_form K e work report F w r =
    written_holds K (table_of e) e work report
    (record {
      has_domains = F.has_domains;
      few_domains = F.few_domains;
      ordered = F.ordered;
      table = table_of_lem (length K.domains) e F.shaped;
      few_types = F.few_types;
      formed = formed_of (length K.domains) e F.shaped;
      few_terms = F.few_terms;
      shallow = F.shallow;
      well_typed = F.well_typed;
      plain = F.plain;
      short = F.short;
    })
    w r

module _ (b : List ℕ) (work report : ℕ) (ok : verdict b work report ≡ Ok tt) where
  a : Passed b work report
  a = (passed_iff b work report).0 ok

  good : LayoutOk (records_of b)
  good = layout_good b (records_of b) a.laid_out

  pub accepted_shaped : Shaped (length (records_of b).domains) (program (records_of b))
  accepted_shaped = program_shaped (records_of b) good a.shaped.has_terms

  -- What is as good as the image's program, and no heavier, is fit for the fixed form with the image's domains, and no longer than the image.
  pub record Lighter (e : Program) : Type 1 where
    pub from : (P : Ty → Type 0) → Every P (types_in (program (records_of b))) → Every P (types_in e)
    pub shaped : Shaped (length (records_of b).domains) e
    pub few_terms : terms e ≤ terms (program (records_of b))
    pub lighter : weight term_size e ≤ weight term_size (program (records_of b))
    pub shallow : Shallow (program (records_of b)) depth_limit → Shallow e depth_limit
    pub well_typed : WellTyped (policy (records_of b)) mainline e
    pub same_type_lem : stated e ≡ stated (program (records_of b))

  pub lighter_short : (e : Program) → Lighter e → length (written (masks (records_of b)) e) ≤ length b
  unfolding written
  lighter_short e l =
      let i : (records_of b).image ≡ b = image_kept b (records_of b) a.laid_out in
      subst (λ c. length (written_over (table_of e) (masks (records_of b)) e) ≤ length c) i
      (no_longer (records_of b) good a.shaped.used a.shaped.has_terms (layout_total b (records_of b) a.laid_out) (length (records_of b).domains) e
      (l.from (From (records_of b) good) (program_from (records_of b) good a.shaped.has_terms)) l.shaped l.lighter)

  pub lighter_fixable : (e : Program) → Lighter e → Fixable (records_of b) e
  lighter_fixable e l =
      let s = a.short in
      let w = lighter_short e l in
      let n : ℕ = length (records_of b).domains in
      let fe = few_terms (records_of b) good a.shaped.used a.shaped.has_terms in
      let ft = few_types (records_of b) good a.shaped.used a.shaped.has_terms (layout_total b (records_of b) a.laid_out) n e
      (l.from (From (records_of b) good) (program_from (records_of b) good a.shaped.has_terms)) l.shaped l.lighter in
      let le = l.few_terms in
      let ge = good.few_terms in
      let gt = good.few_types in
      let root : stated e ≡ root_type (records_of b) = l.same_type_lem ∙ root_stated (records_of b) a.shaped.has_terms in
      record {
        has_domains = a.shaped.has_domains;
        few_domains = good.few_domains;
        ordered = a.shaped.ordered;
        shaped = l.shaped;
        few_types = omega arith;
        few_terms = omega arith;
        shallow = l.shallow (program_shallow (records_of b) good a.shaped.used a.shaped.shallow a.shaped.has_terms);
        well_typed = l.well_typed;
        plain = subst (λ t. is_plain t ≡ true) (sym root) a.plain;
        short = omega arith;
      }

  pub lighter_holds : (e : Program) → Lighter e → Holds (written (masks (records_of b)) e) (records_of b) e work report
  lighter_holds e l = fixed_form (records_of b) e work report (lighter_fixable e l) a.work_enough a.report_enough

  itself : Lighter (program (records_of b))
  itself = record { from = λ P h. h; shaped = accepted_shaped; few_terms = omega arith; lighter = omega arith; shallow = λ h. h; well_typed = a.well_typed; same_type_lem = refl }

  -- The fixed form of an accepted image is accepted, and has its domains and its program.
  pub fixed_holds : Holds (fixed b) (records_of b) (program (records_of b)) work report
  unfolding fixed
  fixed_holds = lighter_holds (program (records_of b)) itself

  -- Writing twice changes nothing.
  pub fixed_twice : fixed (fixed b) ≡ fixed b
  unfolding fixed
  fixed_twice = ap (λ ms. written ms (program (records_of (fixed b)))) fixed_holds.domains ∙ ap (λ e. written (masks (records_of b)) e) fixed_holds.tree

  -- The fixed form is no longer than the image.
  pub fixed_short : length (fixed b) ≤ length b
  unfolding fixed
  fixed_short = lighter_short (program (records_of b)) itself

-- Two accepted images have the same fixed form exactly if they have the same domains and the same program.
pub fixed_same : (b c : List ℕ) (work report : ℕ) → verdict b work report ≡ Ok tt → verdict c work report ≡ Ok tt
    → fixed b ≡ fixed c ↔ ((masks (records_of b) ≡ masks (records_of c)) × (program (records_of b) ≡ program (records_of c)))
unfolding fixed
fixed_same b c work report hb hc = (there, back)
  where
    fb : Holds (fixed b) (records_of b) (program (records_of b)) work report
    fb = fixed_holds b work report hb

    fc : Holds (fixed c) (records_of c) (program (records_of c)) work report
    fc = fixed_holds c work report hc

    there : fixed b ≡ fixed c → (masks (records_of b) ≡ masks (records_of c)) × (program (records_of b) ≡ program (records_of c))
    there e = (sym fb.domains ∙ ap (λ x. masks (records_of x)) e ∙ fc.domains, sym fb.tree ∙ ap (λ x. program (records_of x)) e ∙ fc.tree)

    back : (masks (records_of b) ≡ masks (records_of c)) × (program (records_of b) ≡ program (records_of c)) → fixed b ≡ fixed c
    back h = fixed_of (records_of b) (records_of c) h.0 h.1
      where
        fixed_of : (K M : Layout) → masks K ≡ masks M → program K ≡ program M → written (masks K) (program K) ≡ written (masks M) (program M)
        fixed_of K M x y = ap (λ ms. written ms (program K)) x ∙ ap (λ e. written (masks M) e) y
