-- What is said of an image, from what the check, the lowest fault and the walk say.
use Prim.Native.Nat.{ℕ, suc, ◌+◌, ◌-◌, ◌≤◌, ◌<◌}
use native.Mathlib.Omega.{arith}
use mathlib.Core.Path.{◌≡◌, refl, sym, ap, subst, ◌∙◌}
use mathlib.Core.Bool.{true}
use mathlib.Core.List.{List}
use lib.ListN.{length, get_or, replicate}
use Rattle.std.proofs.Common.{Ok, Err}
use lib.Dec.{ltb}
use borrow.Author.Tests.{lt-ltb, le-ltb}
use Rattle.calculus.specs.Combinators.{choose}
use Rattle.calculus_needs.specs.Numbers.{Numbers}
use Rattle.calculus_needs.specs.Needs.{need_of, rounds}
use Rattle.calculus_needs.specs.Claims.{Under}
use Rattle.calculus_needs.proofs.Small.{most}
use Rattle.calculus_needs.proofs.Shift.{level}
use Rattle.calculus_needs.proofs.Kept.{pieceless, rounds_alike}
use Rattle.image.specs.declared.Refusal.{Refusal}
use Rattle.image.specs.declared.Refused.{Refused}
use Rattle.image.specs.Limits.{image_limit, work_length, report_length, term_limit}
use Rattle.image.specs.Records.{Layout}
use Rattle.image.specs.Layout.{records_of}
use Rattle.image.specs.Types.{term_place, root_of}
use Rattle.image.specs.Program.{tree, program, to_tm}
use Rattle.verdict.specs.Acceptable.{Depth}
use Rattle.verdict.specs.Verdicts.{verdict}
use Rattle.verdict.proofs.Accept.{accepted_iff, acceptable_records}
use Rattle.read_records.specs.declared.numbers.Counts.{Counts}
use Rattle.read_terms.specs.Lent.{Lent}
use Rattle.validator_core.specs.Examined.{Checked, examined, verdict_of, Filled}
use Rattle.validator_core.proofs.Stages.{too_long, examined_refuses, all_enough}
use Rattle.image_needs.specs.declared.Needs.{Needs}
use Rattle.image_needs.specs.declared.Unforeseen.{Unforeseen}
use Rattle.image_needs.specs.Faults.{lowest, lowest_fault}
use Rattle.image_needs.specs.Forecasts.{Forecast, needs_of, classed, unless, forecast}
use Rattle.image_needs.proofs.Fits.{deepest, highest, accepted_small}
use Rattle.need_terms.specs.First.{lowest_at}
use Rattle.need_sums.specs.declared.positions.Position.{Position}
use Rattle.need_sums.specs.Sums.{cut, cut_needs}
use Rattle.need_sums.specs.Rows.{row_count, table_length, at_mark, Summed}
use Rattle.need_walk.specs.Counted.{counted, term_at, Shallow, Placed, mark_position}
use Rattle.need_rows.specs.Pieces.{in_row, piece_at}
use Rattle.need_rows.proofs.Pieces.{mainline_row, others_row}
use Rattle.needs.specs.Known.{program_position, cut_program, cut_classed}

-- The root's term is the program.
pub root_term_lem : (L : Layout) → 0 < length L.terms → term_at L (root_of L) ≡ to_tm (program L)
unfolding program
root_term_lem L h = let e : suc (length L.terms - 1) ≡ length L.terms = omega arith in ap (λ f. to_tm (tree L f (root_of L))) e

-- Numbers that differ in pieces alone, cut.
alike_cut : (m n : Numbers) (w : Needs) (rows : List ℕ) (k : ℕ) → w ≡ cut_needs m → pieceless m ≡ pieceless n → cut (get_or rows k 0) ≡ cut n.used.mainline.pieces
    → cut (get_or rows (row_count + k) 0) ≡ cut n.used.others.pieces → at_mark w rows k ≡ cut_needs n
unfolding at_mark cut_needs pieceless
alike_cut m n w rows k ew e p q =
    let steps : cut m.steps ≡ cut n.steps = ap (λ x. cut x.steps) e in
    let bindings : cut m.used.mainline.bindings ≡ cut n.used.mainline.bindings = ap (λ x. cut x.used.mainline.bindings) e in
    let bindings' : cut m.used.others.bindings ≡ cut n.used.others.bindings = ap (λ x. cut x.used.others.bindings) e in
    let cells : cut m.used.mainline.cells ≡ cut n.used.mainline.cells = ap (λ x. cut x.used.mainline.cells) e in
    let cells' : cut m.used.others.cells ≡ cut n.used.others.cells = ap (λ x. cut x.used.others.cells) e in
    let labels : cut m.labels ≡ cut n.labels = ap (λ x. cut x.labels) e in
    let advices : cut m.advices ≡ cut n.advices = ap (λ x. cut x.advices) e in
    let frames : cut m.frames ≡ cut n.frames = ap (λ x. cut x.frames) e in
    let prints : cut m.prints ≡ cut n.prints = ap (λ x. cut x.prints) e in
    rw ew cc

-- The root has depth 1, and no value is kept around it.
root_depth : (L : Layout) (r : ℕ) → r ≡ root_of L → Depth L r 1
root_depth L r e = subst (λ m. Depth L m 1) (sym e) Depth.at_root

pub level_placed : (L : Layout) (s : Position) (r : ℕ) → s ≡ mark_position 0 → r ≡ root_of L → r < term_limit → Shallow L → Placed L s r
level_placed L s r e er h sh = rw e (record { deep = omega arith; shallow = sh; own_depth = 1; at_depth = root_depth L r er; kept = omega arith })

pub program_placed : (L : Layout) (s : Position) (r : ℕ) → s ≡ program_position → r ≡ root_of L → r < term_limit → Shallow L → Placed L s r
program_placed L s r e er h sh = rw e (record { deep = omega arith; shallow = sh; own_depth = 1; at_depth = root_depth L r er; kept = omega arith })

-- All advice at a mark: its pieces by the rows, the rest as it is where no value is kept.
module _ (L : Layout) (s q : Position) (r : ℕ) (w : Needs) (rows : List ℕ) (es : s ≡ mark_position 0) (eq : q ≡ mark_position 0) (er : r ≡ root_of L) (ew : w ≡ cut_needs (counted (term_at L (root_of L)) s (term_at L r)))
    (A : Summed (piece_at (in_row L q r)) (replicate table_length 0) rows) where
  row_is : (k : ℕ) → in_row L q r k ≡ rounds (level k) (term_at L (root_of L))
  row_is k = let z : k + 0 ≡ k = omega arith in ap (λ x. in_row L x r k) eq ∙ (ap (λ y. rounds (level y) (term_at L r)) z ∙ ap (λ x. rounds (level k) (term_at L x)) er)

  each_is : w ≡ cut_needs (rounds (level 0) (term_at L (root_of L)))
  each_is = ew ∙ (ap (λ x. cut_needs (counted (term_at L (root_of L)) x (term_at L r))) es ∙ ap (λ x. cut_needs (rounds (level 0) (term_at L x))) er)

  pub marks_known : (k : ℕ) → k < row_count → at_mark w rows k ≡ cut_needs (rounds (level k) (term_at L (root_of L)))
  marks_known k l =
      alike_cut (rounds (level 0) (term_at L (root_of L))) (rounds (level k) (term_at L (root_of L))) w rows k each_is (rounds_alike (term_at L (root_of L)) (level 0) k).alike
      (mainline_row (in_row L q r) rows A k l ∙ ap (λ x. cut x.used.mainline.pieces) (row_is k))
      (others_row (in_row L q r) rows A k l ∙ ap (λ x. cut x.used.others.pieces) (row_is k))

pub program_known : (L : Layout) → 0 < length L.terms → (s : Position) (r : ℕ) (w : Needs) → s ≡ program_position → r ≡ root_of L → w ≡ cut_needs (counted (term_at L (root_of L)) s (term_at L r)) → w ≡ cut_program L
program_known L some s r w es er h =
    h ∙ (ap (λ x. cut_needs (counted (term_at L (root_of L)) x (term_at L r))) es ∙ (ap (λ x. cut_needs (counted (term_at L (root_of L)) program_position (term_at L x))) er ∙ ap (λ e. cut_needs (need_of e)) (root_term_lem L some)))

-- 19, or the numbers.
module _ (L : Layout) (some : 0 < length L.terms) (count f : ℕ) (ec : count ≡ length L.terms) (ef : f ≡ lowest_at L true (count - 1)) where
  fault_is : f ≡ lowest_fault L
  unfolding lowest_at lowest_fault
  fault_is =
      let a : suc (count - 1) ≡ length L.terms = omega arith in
      let b : count - 1 ≡ length L.terms - 1 = omega arith in
      ef ∙ (ap (λ x. lowest L x true (count - 1)) a ∙ ap (λ x. lowest L (length L.terms) true x) b)

  pub outside_told : f < count → (place : ℕ) → place ≡ term_place L f → Err (Unforeseen.OutsideClass place) ≡ cut_classed L
  outside_told h place ep =
      let e = fault_is in
      let l : lowest_fault L < length L.terms = omega arith in
      rw (lt-ltb (lowest_fault L) (length L.terms) l) (ap (λ o. Err (Unforeseen.OutsideClass o)) (ep ∙ ap (λ x. term_place L x) e))

  pub known_told : count ≤ f → (x : Needs) → x ≡ cut_program L → Ok x ≡ cut_classed L
  known_told h x ex =
      let e = fault_is in
      let l : length L.terms ≤ lowest_fault L = omega arith in
      rw (le-ltb (lowest_fault L) (length L.terms) l) (ap Ok ex)

-- Numbers of an accepted image are below the largest of 32 bits.
not_cut : {N : Numbers} → Under N (most deepest highest) → cut_needs N ≡ needs_of N
unfolding cut_needs
not_cut {N} u =
    let steps : cut N.steps ≡ N.steps = omega (arith, u.steps) in
    let bindings : cut N.used.mainline.bindings ≡ N.used.mainline.bindings = omega (arith, u.bindings) in
    let bindings' : cut N.used.others.bindings ≡ N.used.others.bindings = omega (arith, u.other_bindings) in
    let pieces : cut N.used.mainline.pieces ≡ N.used.mainline.pieces = omega (arith, u.pieces) in
    let pieces' : cut N.used.others.pieces ≡ N.used.others.pieces = omega (arith, u.other_pieces) in
    let cells : cut N.used.mainline.cells ≡ N.used.mainline.cells = omega (arith, u.cells) in
    let cells' : cut N.used.others.cells ≡ N.used.others.cells = omega (arith, u.other_cells) in
    let labels : cut N.labels ≡ N.labels = omega (arith, u.labels) in
    let advices : cut N.advices ≡ N.advices = omega (arith, u.advices) in
    let frames : cut N.frames ≡ N.frames = omega (arith, u.frames) in
    let prints : cut N.prints ≡ N.prints = omega (arith, u.prints) in
    cc

-- The check's answer.
module _ (b : List ℕ) (short : length b ≤ image_limit) (x : Checked) (answer : verdict_of x ≡ examined b) where
  pub refused_told : (u : Refused) → x ≡ Err u → Err (Unforeseen.Refused u) ≡ forecast b
  unfolding forecast
  refused_told u e = ap (λ v. unless v (classed (records_of b))) (examined_refuses b work_length report_length short (Err u) (sym (ap verdict_of e) ∙ answer) refl)

  accepted : (n : Counts) → x ≡ Ok n → (Ok tt) ≡ verdict b work_length report_length
  accepted n e = all_enough b work_length report_length short (Ok tt) (sym (ap verdict_of e) ∙ answer) refl (omega arith) (omega arith)

  pub accepted_told : (n : Counts) → x ≡ Ok n → (f : Forecast) → f ≡ cut_classed (records_of b) → f ≡ forecast b
  unfolding forecast
  accepted_told n e f h =
      let k : cut_needs (need_of (to_tm (program (records_of b)))) ≡ needs_of (need_of (to_tm (program (records_of b)))) = not_cut (accepted_small b work_length report_length (sym (accepted n e))) in
      h ∙ (ap (λ x. choose (ltb (lowest_fault (records_of b)) (length (records_of b).terms)) (Err (Unforeseen.OutsideClass (term_place (records_of b) (lowest_fault (records_of b))))) (Ok x)) k ∙ ap (λ v. unless v (classed (records_of b))) (accepted n e))

  pub shallow_terms : (n : Counts) → x ≡ Ok n → Shallow (records_of b)
  shallow_terms n e =
      let a = (accepted_iff b work_length report_length).0 (sym (accepted n e)) in
      subst (λ L. Shallow L) (acceptable_records a) a.shallow

  pub some_terms : (n : Counts) → x ≡ Ok n → 0 < length (records_of b).terms
  some_terms n e =
      let a = (accepted_iff b work_length report_length).0 (sym (accepted n e)) in
      subst (λ L. 0 < length L.terms) (acceptable_records a) a.has_terms

pub too_long_told : (b : List ℕ) → image_limit < length b → Err (Unforeseen.Refused (record { why = Refusal.ImageTooLong; place = 0 })) ≡ forecast b
unfolding forecast
too_long_told b h = ap (λ v. unless v (classed (records_of b))) (too_long b work_length report_length h)

-- The tables of an accepted image.
pub lent_from : {b dt tt' kt et : List ℕ} {n : Counts} → Filled b n dt tt' kt et → Lent b et kt
lent_from F =
    let T = F.tables in
    record {
      terms = record { laid_out = T.laid_out; offsets = T.terms };
      types = record { laid_out = T.laid_out; enough = T.enough; descriptors = T.descriptors };
    }
