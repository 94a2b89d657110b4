-- What can be written is accepted when it is written, with its domains and its program.
use Rattle.std.specs.Prelude.{Ok}
use Prim.Native.Nat.{ℕ, ◌≤◌, ◌<◌}
use native.Mathlib.Omega.{arith}
use mathlib.Core.Path.{◌≡◌, refl, sym, ap, subst, ◌∙◌}
use mathlib.Core.Bool.{Bool, true, false, not, ◌&&◌, ◌||◌}
use mathlib.Core.List.{List, [], ◌++◌, map}
use lib.ListN.{length, get_or, length-map}
use lib.Dec.{eqb, leb}
use Rattle.calculus.specs.Syntax.{Dom, Ty}
use Rattle.calculus.specs.Plain.{is_plain}
use Rattle.image.specs.Limits.{domain_limit, work_length, report_length}
use Rattle.image.specs.Bytes.{field_at}
use Rattle.image.specs.Records.{Layout}
use Rattle.image.specs.Layout.{laid, layout, records_of}
use Rattle.image.specs.Types.{root_type}
use Rattle.laws.specs.Tests.{any_below}
use Rattle.image.specs.Program.{Program, node, blank, program}
use Rattle.image.proofs.Laid.{LayoutOk, layout_good, records_of_lem}
use Rattle.image.proofs.LaidOut.{laid_iff}
use Rattle.verdict.specs.Domains.{bits, masks, order, leq, policy}
use Rattle.verdict.specs.Order.{at_fault}
use Rattle.verdict.specs.Shape.{Shaped}
use Rattle.verdict.specs.Verdicts.{verdict}
use Rattle.verdict.specs.WellTyped.{mainline, WellTyped, stated}
use Rattle.verdict.proofs.Passed.{Passed, passed_iff}
use Rattle.verdict.proofs.Accept.{root_stated}
use Rattle.image_written.specs.Records.{Record, image}
use Rattle.image_written.specs.Written.{domain_record, type_record, term_records, records_over, written_over}
use Rattle.image_written.proofs.Writable.{Formed, Writable}
use Rattle.image_written.proofs.Laying.{Fits, laid_as_of, as_fits, laid_out, types_count, formed_some}
use Rattle.image_written.proofs.Places.{has_place}
use Rattle.image_written.proofs.Back.{same_masks, terms_count, program_back}
use Rattle.image_written.proofs.Shape.{once, shallow}

-- Layouts with the same masks have the same order of domains, and the same at fault.
same_policy : (L K : Layout) → masks L ≡ masks K → policy L ≡ policy K
unfolding leq order
same_policy L K h = ap (λ ms. record { leq = λ d q. get_or (get_or (map (λ m. bits domain_limit m) ms) d []) q false }) h

abbrev leq_of : List ℕ → Dom → Dom → Bool
leq_of ms d q = get_or (get_or (map (λ m. bits domain_limit m) ms) d []) q false

abbrev fault_of : ℕ → List ℕ → Dom → Bool
fault_of n ms d = not (leq_of ms d d) || any_below domain_limit (λ e. leq_of ms d e && (leb n e || ((not (eqb e d) && leq_of ms e d) || any_below domain_limit (λ f. leq_of ms e f && not (leq_of ms d f)))))

fault_of_lem : (L : Layout) (d : Dom) → at_fault L d ≡ fault_of (length L.domains) (masks L) d
unfolding at_fault leq order
fault_of_lem L d = refl

same_count : (L K : Layout) → masks L ≡ masks K → length L.domains ≡ length K.domains
same_count L K h = sym (length-map L.domains (λ o. field_at L.image o 0)) ∙ ap length h ∙ length-map K.domains (λ o. field_at K.image o 0)

same_fault : (L K : Layout) → masks L ≡ masks K → (d : Dom) → at_fault L d ≡ at_fault K d
same_fault L K h d = fault_of_lem L d ∙ ap (λ n. fault_of n (masks L) d) (same_count L K h) ∙ ap (λ ms. fault_of (length K.domains) ms d) h ∙ sym (fault_of_lem K d)

some_type : (n : ℕ) (T : List Ty) (e : Program) → Formed n T e → 0 < length T
unfolding Formed
some_type n T (node k t vs es) h = let z = has_place T t h.0 in omega arith
some_type n T blank h = absurd h

-- What can be written, over a table of types, is accepted as it is written, and has the domains and the program that were to be written.
pub record Holds (b : List ℕ) (K : Layout) (e : Program) (work report : ℕ) : Type 0 where
  pub accepted : verdict b work report ≡ Ok tt
  pub domains : masks (records_of b) ≡ masks K
  pub tree : program (records_of b) ≡ e

pub written_holds : (K : Layout) (T : List Ty) (e : Program) (work report : ℕ) → Writable K T e → work_length ≤ work → report_length ≤ report → Holds (written_over T (masks K) e) K e work report
unfolding written_over records_over
written_holds K T e work report W w r =
    let n : ℕ = length K.domains in
    let ms : List ℕ = masks K in
    let ds : List Record = map (λ m. domain_record m) ms in
    let ts : List Record = map (λ t. type_record T t) T in
    let es : List Record = term_records T 0 e in
    let b : List ℕ = image (ds ++ (ts ++ es)) in
    let lm : length ms ≡ n = length-map K.domains (λ o. field_at K.image o 0) in
    let L : Layout = laid_as_of ds ts es in
    let F : Fits L ds ts es = as_fits ds ts es in
    let laid_as : layout b ≡ laid L = (laid_iff L).1 (laid_out n T ms e lm W.few_domains W.table W.few_types W.formed W.few_terms) in
    let recs : records_of b ≡ L = records_of_lem b L laid_as in
    let good : LayoutOk L = layout_good b L laid_as in
    let m : masks L ≡ ms = same_masks n T ms e L good W.table F in
    let dc : length L.domains ≡ n = same_count L K m in
    let tc = types_count n T W.table L F.types in
    let ec = terms_count n T ms e L good W.table F in
    let hd = W.has_domains in
    let ht = some_type n T e W.formed in
    let he = formed_some n T e W.formed in
    let p : program L ≡ e = program_back n T ms e L good W.table F W.formed in
    let used = once n T ms e L good W.table F W.formed in
    let shaped : Shaped L =
    record {
      has_domains = omega arith;
      has_types = omega arith;
      has_terms = omega arith;
      ordered = λ d l. same_fault L K m d ∙ W.ordered d (omega arith);
      used = used;
      shallow = shallow n T ms e L good W.table F used W.formed W.shallow;
    } in
    let typed : WellTyped (policy L) mainline (program L) = subst (λ x. WellTyped (policy L) mainline x) (sym p) (subst (λ D. WellTyped D mainline e) (sym (same_policy L K m)) W.well_typed) in
    let root : stated e ≡ root_type L = ap stated (sym p) ∙ root_stated L (omega arith) in
    let plain : is_plain (root_type L) ≡ true = subst (λ t. is_plain t ≡ true) root W.plain in
    let ok : Passed b work report =
    record {
      short = W.short;
      laid_out = laid_as ∙ ap laid (sym recs);
      shaped = subst Shaped (sym recs) shaped;
      well_typed = subst (λ X. WellTyped (policy X) mainline (program X)) (sym recs) typed;
      plain = subst (λ X. is_plain (root_type X) ≡ true) (sym recs) plain;
      work_enough = w;
      report_enough = r;
    } in
    record { accepted = (passed_iff b work report).1 ok; domains = ap (λ X. masks X) recs ∙ m; tree = ap (λ X. program X) recs ∙ p }
