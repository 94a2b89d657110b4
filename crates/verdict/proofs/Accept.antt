-- What acceptance means, both ways: an image is accepted exactly if it is laid out, its domains are partially ordered, its terms are a tree that is not too deep, its program is well typed by the calculus's rules with a plain root, and the lent memory is long enough.
use Rattle.std.specs.Prelude.{Ok}
use Prim.Native.Nat.{ℕ, zero, suc, ◌<◌}
use native.Mathlib.Omega.{arith}
use mathlib.Core.Path.{◌≡◌, refl, sym, ap, subst, ◌∙◌}
use mathlib.Core.Logic.{◌↔◌}
use mathlib.Core.Bool.{true}
use mathlib.Core.List.{List, []}
use lib.ListN.{length}
use Rattle.calculus.specs.Plain.{is_plain}
use Rattle.calculus.specs.Typing.{no_store, ◌⨾◌⊢◌⦂◌ as TmTy}
use Rattle.image.specs.Records.{Layout}
use Rattle.image.specs.Layout.{laid, layout, records_of}
use Rattle.image.specs.Types.{stated_type, root_of, root_type}
use Rattle.image.specs.LaidOut.{LaidOut}
use Rattle.image.specs.Program.{tree, program, to_tm}
use Rattle.image.proofs.Laid.{LayoutOk, layout_good, records_of_lem, image_kept}
use Rattle.image.proofs.LaidOut.{laid_iff}
use Rattle.verdict.specs.Domains.{policy}
use Rattle.verdict.specs.Shape.{used_once, Shaped}
use Rattle.verdict.specs.Verdicts.{verdict}
use Rattle.verdict.specs.WellTyped.{stated, mainline, WellTyped}
use Rattle.verdict.specs.Ascribed.{ascribed}
use Rattle.verdict.specs.Acceptable.{PartialOrder, Acceptable}
use Rattle.verdict.proofs.Order.{order_iff}
use Rattle.verdict.proofs.Uses.{once_iff}
use Rattle.verdict.proofs.Depths.{shallow_iff}
use Rattle.verdict.proofs.Passed.{Passed, passed_iff}
use Rattle.verdict.proofs.Term.{well_term}
use Rattle.verdict.proofs.Ascribed.{program_ascribed}

tree_stated : (L : Layout) (f n : ℕ) → 0 < f → stated (tree L f n) ≡ stated_type L n
unfolding tree
tree_stated L zero n h = absurd (omega arith)
tree_stated L (suc f) n h = refl

-- The type that a program states is its root's.
pub root_stated : (L : Layout) → 0 < length L.terms → stated (program L) ≡ root_type L
unfolding program
root_stated L h = tree_stated L (length L.terms) (root_of L) h

-- Of an image that is laid out and has terms, the program is well typed, term by term, exactly if there is the one derivation that acceptance asks for.
pub typed_ascribed : (L : Layout) → LaidOut L → 0 < length L.terms → WellTyped (policy L) mainline (program L) ↔ TmTy (policy L) no_store [] 0 (ascribed (program L)) (root_type L)
typed_ascribed L h n = subst (λ t. WellTyped (policy L) mainline (program L) ↔ TmTy (policy L) no_store [] 0 (ascribed (program L)) t) (root_stated L n) (program_ascribed (policy L) L h)

-- What passes is acceptable, by the records that the walk has found.
passed_acceptable : (b : List ℕ) (work report : ℕ) → Passed b work report → Acceptable b work report
passed_acceptable b work report p =
    let L : Layout = records_of b in
    let s = p.shaped in
    let good = layout_good b L p.laid_out in
    let e : L.image ≡ b = image_kept b L p.laid_out in
    let l : LaidOut L = (laid_iff L).0 (ap (λ c. layout c) e ∙ p.laid_out) in
    record {
      short = p.short;
      records = L;
      image = e;
      laid_out = l;
      has_domains = s.has_domains;
      has_types = s.has_types;
      has_terms = s.has_terms;
      ordered = (order_iff L).0 s.ordered;
      used = λ n l. (once_iff L n).0 (s.used n l);
      shallow = (shallow_iff L good s.has_terms s.used).0 s.shallow;
      well_typed = (typed_ascribed L l s.has_terms).0 p.well_typed;
      plain = p.plain;
      work_enough = p.work_enough;
      report_enough = p.report_enough;
    }

-- The walk finds the records of what is acceptable.
acceptable_laid : {b : List ℕ} {work report : ℕ} (a : Acceptable b work report) → layout b ≡ laid a.records
acceptable_laid a = ap (λ c. layout c) (sym a.image) ∙ (laid_iff a.records).1 a.laid_out

-- An image has no other records.
pub acceptable_records : {b : List ℕ} {work report : ℕ} (a : Acceptable b work report) → a.records ≡ records_of b
acceptable_records {b} a = sym (records_of_lem b a.records (acceptable_laid a))

acceptable_passed : (b : List ℕ) (work report : ℕ) → Acceptable b work report → Passed b work report
acceptable_passed b work report a =
    let L : Layout = a.records in
    let good = layout_good b L (acceptable_laid a) in
    let once : (n : ℕ) → n < root_of L → used_once L n ≡ true = λ n l. (once_iff L n).1 (a.used n l) in
    let s : Shaped L =
    record {
      has_domains = a.has_domains;
      has_types = a.has_types;
      has_terms = a.has_terms;
      ordered = (order_iff L).1 a.ordered;
      used = once;
      shallow = (shallow_iff L good a.has_terms once).1 a.shallow;
    } in
    let e : L ≡ records_of b = acceptable_records a in
    record {
      short = a.short;
      laid_out = acceptable_laid a ∙ ap laid e;
      shaped = subst Shaped e s;
      well_typed = subst (λ K. WellTyped (policy K) mainline (program K)) e ((typed_ascribed L a.laid_out a.has_terms).1 a.well_typed);
      plain = subst (λ K. is_plain (root_type K) ≡ true) e a.plain;
      work_enough = a.work_enough;
      report_enough = a.report_enough;
    }

-- The validator accepts exactly what is acceptable.
pub accepted_iff : (b : List ℕ) (work report : ℕ) → verdict b work report ≡ Ok tt ↔ Acceptable b work report
accepted_iff b work report =
    (λ h. passed_acceptable b work report ((passed_iff b work report).0 h), λ a. (passed_iff b work report).1 (acceptable_passed b work report a))

pub accepted_good : (b : List ℕ) (work report : ℕ) → verdict b work report ≡ Ok tt → LayoutOk (records_of b)
accepted_good b work report h = layout_good b (records_of b) ((passed_iff b work report).0 h).laid_out

-- An accepted image's program is a well_typed term of the calculus, at domain 0, in the empty context, and its type is plain.
pub accepted_typed : (b : List ℕ) (work report : ℕ) → verdict b work report ≡ Ok tt → TmTy (policy (records_of b)) no_store [] 0 (to_tm (program (records_of b))) (root_type (records_of b))
accepted_typed b work report h =
    let a = (passed_iff b work report).0 h in
    let L : Layout = records_of b in
    subst (λ t. TmTy (policy L) no_store [] 0 (to_tm (program L)) t) (root_stated L a.shaped.has_terms) (well_term (policy L) mainline (program L) a.well_typed)

pub accepted_plain : (b : List ℕ) (work report : ℕ) → verdict b work report ≡ Ok tt → is_plain (root_type (records_of b)) ≡ true
accepted_plain b work report h = ((passed_iff b work report).0 h).plain

-- The order of an accepted image's domains is a partial order.
pub accepted_order : (b : List ℕ) (work report : ℕ) → verdict b work report ≡ Ok tt → PartialOrder (records_of b)
accepted_order b work report h = (order_iff (records_of b)).0 ((passed_iff b work report).0 h).shaped.ordered
