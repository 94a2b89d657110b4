-- What the verdict's checks have found of an image that they all pass, and the other way round.
use Rattle.std.specs.Prelude.{Ok}
use Prim.Native.Nat.{ℕ, ◌≤◌, ◌<◌}
use native.Mathlib.Omega.{arith}
use mathlib.Core.Path.{◌≡◌, refl, sym, ap, ◌∙◌}
use mathlib.Core.Logic.{◌↔◌}
use mathlib.Core.Bool.{true, not}
use mathlib.Core.List.{List, [], ◌∷◌}
use lib.ListN.{length}
use Rattle.calculus.specs.Plain.{is_plain}
use Rattle.image.specs.Limits.{image_limit, work_length, report_length}
use Rattle.image.specs.Records.{Layout}
use Rattle.image.specs.Layout.{is_nil, Scan, stopped, laid, layout, records_of}
use Rattle.image.specs.Types.{root_of, root_type}
use Rattle.image.specs.Program.{program}
use Rattle.laws.proofs.Booleans.{no_path, not_t, le_of, of_le}
use Rattle.laws.proofs.Tests.{each, of_each}
use Rattle.image.proofs.Laid.{LayoutOk, layout_good, records_of_lem}
use Rattle.verdict.specs.Answers.{refused_at}
use Rattle.verdict.specs.Domains.{policy}
use Rattle.verdict.specs.Order.{at_fault}
use Rattle.verdict.specs.Shape.{shape, Shaped}
use Rattle.verdict.specs.Check.{root_setting, typing}
use Rattle.verdict.specs.Verdicts.{laid_out_of, verdict}
use Rattle.verdict.specs.WellTyped.{mainline, WellTyped}
use Rattle.verdict.proofs.Answered.{not_refused, in_turn_lem, turn_in, turned, required, of_required, required_each, each_required}
use Rattle.verdict.proofs.Sound.{ChildSound, check_sound}
use Rattle.verdict.proofs.Complete.{ChildComplete, check_complete}

not_nil : (xs : List ℕ) → not (is_nil xs) ≡ true → 0 < length xs
not_nil [] h = no_path (sym h)
not_nil (x ∷ xs) h = omega arith

some_there : (xs : List ℕ) → 0 < length xs → not (is_nil xs) ≡ true
some_there [] h = absurd (omega arith)
some_there (x ∷ xs) h = refl

pub shape_accepts : (L : Layout) (size : ℕ) → shape L size ≡ Ok tt ↔ Shaped L
unfolding shape
shape_accepts L size = (there, back)
  where
    there : shape L size ≡ Ok tt → Shaped L
    there h =
        let t9 = in_turn_lem _ _ h in
        let t10 = in_turn_lem _ _ t9.1 in
        let t11 = in_turn_lem _ _ t10.1 in
        let t12 = in_turn_lem _ _ t11.1 in
        let s = each _ (required _ _ _ t9.0) in
        record {
          has_domains = not_nil L.domains s.0;
          has_types = not_nil L.types s.1.0;
          has_terms = not_nil L.terms s.1.1.0;
          ordered = λ d l. not_t (at_fault L d) (required_each _ _ _ _ _ t10.0 d (omega arith) (omega arith));
          used = λ n l. required_each _ _ _ _ _ t11.0 n (omega arith) (omega arith);
          shallow = λ n l. le_of (required_each _ _ _ _ _ t12.0 n (omega arith) (omega arith));
        }

    back : Shaped L → shape L size ≡ Ok tt
    back s =
        turn_in _ _ (of_required _ _ (of_each _ (some_there L.domains s.has_domains, (some_there L.types s.has_types, (some_there L.terms s.has_terms, tt)))))
        (turn_in _ _ (each_required _ _ _ _ _ (λ d l m. let q = s.ordered d (omega arith) in rw q refl))
        (turn_in _ _ (each_required _ _ _ _ _ (λ n l m. s.used n (omega arith)))
        (turn_in _ _ (each_required _ _ _ _ _ (λ n l m. of_le (s.shallow n (omega arith)))) turned)))

root_there : (L : Layout) → 0 < length L.terms → root_of L < length L.terms
root_there L h = omega arith

pub typing_accepts : (L : Layout) → LayoutOk L → 0 < length L.terms → typing L ≡ Ok tt ↔ (WellTyped (policy L) mainline (program L) × (is_plain (root_type L) ≡ true))
unfolding typing program ChildSound ChildComplete
typing_accepts L good l = (there, back)
  where
    there : typing L ≡ Ok tt → WellTyped (policy L) mainline (program L) × (is_plain (root_type L) ≡ true)
    there h =
        let t13 = in_turn_lem _ _ h in
        let t16 = in_turn_lem _ _ t13.1 in
        (check_sound L good (length L.terms) (root_setting L) (root_of L) (root_there L l) t13.0, required _ _ _ t16.0)

    back : WellTyped (policy L) mainline (program L) × (is_plain (root_type L) ≡ true) → typing L ≡ Ok tt
    back w = turn_in _ _ (check_complete L good (length L.terms) (root_setting L) (root_of L) (root_there L l) tt w.0) (turn_in _ _ (of_required _ _ w.1) turned)

laid_there : (b : List ℕ) → laid_out_of (layout b) ≡ Ok tt → layout b ≡ laid (records_of b)
unfolding records_of
laid_there b h = go (layout b) refl
  where
    go : (x : Scan) → layout b ≡ x → layout b ≡ laid (records_of b)
    go (stopped r o) e = let z : refused_at r o ≡ Ok tt = rw e at h in not_refused z
    go (laid L) e = e ∙ ap laid (sym (records_of_lem b L e))

pub record Passed (b : List ℕ) (work report : ℕ) : Type 0 where
  pub short : length b ≤ image_limit
  pub laid_out : layout b ≡ laid (records_of b)
  pub shaped : Shaped (records_of b)
  pub well_typed : WellTyped (policy (records_of b)) mainline (program (records_of b))
  pub plain : is_plain (root_type (records_of b)) ≡ true
  pub work_enough : work_length ≤ work
  pub report_enough : report_length ≤ report

-- The validator accepts exactly what passes its checks.
pub passed_iff : (b : List ℕ) (work report : ℕ) → verdict b work report ≡ Ok tt ↔ Passed b work report
unfolding verdict
passed_iff b work report = (there, back)
  where
    L : Layout
    L = records_of b

    there : verdict b work report ≡ Ok tt → Passed b work report
    there h =
        let t1 = in_turn_lem _ _ h in
        let t2 = in_turn_lem _ _ t1.1 in
        let t9 = in_turn_lem _ _ t2.1 in
        let t13 = in_turn_lem _ _ t9.1 in
        let t17 = in_turn_lem _ _ t13.1 in
        let t18 = in_turn_lem _ _ t17.1 in
        let l = laid_there b t2.0 in
        let s = (shape_accepts (records_of b) (length b)).0 t9.0 in
        let t = (typing_accepts (records_of b) (layout_good b (records_of b) l) s.has_terms).0 t13.0 in
        record {
          short = le_of (required _ _ _ t1.0);
          laid_out = l;
          shaped = s;
          well_typed = t.0;
          plain = t.1;
          work_enough = le_of (required _ _ _ t17.0);
          report_enough = le_of (required _ _ _ t18.0);
        }

    back : Passed b work report → verdict b work report ≡ Ok tt
    back a =
        let l = a.laid_out in
        turn_in _ _ (of_required _ _ (of_le a.short))
        (turn_in _ _ (ap laid_out_of l)
        (turn_in _ _ ((shape_accepts (records_of b) (length b)).1 a.shaped)
        (turn_in _ _ ((typing_accepts (records_of b) (layout_good b (records_of b) l) a.shaped.has_terms).1 (a.well_typed, a.plain))
        (turn_in _ _ (of_required _ _ (of_le a.work_enough)) (turn_in _ _ (of_required _ _ (of_le a.report_enough)) turned)))))
