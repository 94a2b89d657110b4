-- Demand 3 about the bytes of log and report, from demand 3 about what two runs report (document 01, "Two runs compared").
use Prim.Native.Nat.{ℕ, zero, suc, ◌%◌}
use native.Mathlib.Omega.{arith}
use mathlib.Core.Path.{◌≡◌, refl, sym, ap, ◌∙◌}
use mathlib.Core.Bool.{Bool, true, false}
use mathlib.Core.List.{List, [], ◌∷◌, map}
use mathlib.Core.Option.{Option, none, some}
use lib.ListN.{length, get_or, take, length-map}
use Rattle.calculus.proofs.EveryOutcome.{outcomes, outcome_at}
use Rattle.calculus.specs.declared.Outcome.{Outcome}
use Rattle.calculus.specs.Combinators.{choose}
use Rattle.calculus.specs.Limits.{word_size}
use Rattle.calculus.specs.Syntax.{Dom}
use Rattle.calculus.specs.State.{log_of}
use Rattle.calculus.specs.Run.{Ended}
use Rattle.calculus.specs.Report.{report}
use Rattle.calculus_noninterference.specs.Observe.{high_of, high_prints, CutEqual, SameReported}
use Rattle.report.specs.Read.{read_report}
use Rattle.demands.specs.SameBytes.{high_prints_in, high_cells_in, SaysDone, SameBytes}
use Rattle.demands.proofs.Written.{outcome_fits}
use Rattle.report.specs.OfRun.{reported_number, written_log, written_report}
use Rattle.report.specs.Fits.{short_size, CellsFew, by_field}
use Rattle.report.proofs.Narrow.{narrow_print, narrow_leaf, narrow_cell, log_read, report_read}

-- The high ones of a list whose domains are read back.
high_map : (hi : Dom → Bool) {A : Type 0} (dom : A → Dom) (f : A → A) → ((a : A) → dom (f a) ≡ dom a % short_size) → (x : List A) → high_of hi dom (map f x) ≡ map f (high_of (by_field hi) dom x)
unfolding high_of
high_map hi dom f h [] = refl
high_map hi dom f h (a ∷ x) = rw (h a) (pick (by_field hi (dom a)) (high_map hi dom f h x))
  where
    pick : (b : Bool) → high_of hi dom (map f x) ≡ map f (high_of (by_field hi) dom x) → choose b (f a ∷ high_of hi dom (map f x)) (high_of hi dom (map f x)) ≡ map f (choose b (a ∷ high_of (by_field hi) dom x) (high_of (by_field hi) dom x))
    pick true e = ap (f a ∷◌) e
    pick false e = e

take_map : {A B : Type 0} (f : A → B) (n : ℕ) (x : List A) → take n (map f x) ≡ map f (take n x)
take_map f zero x = refl
take_map f (suc n) [] = refl
take_map f (suc n) (a ∷ x) = ap (f a ∷◌) (take_map f n x)

cut_map : {A B : Type 0} (f : A → B) (x y : List A) → CutEqual x y → CutEqual (map f x) (map f y)
cut_map f x y e =
    ap (λ n. take n (map f x)) (length-map y f) ∙ take_map f (length y) x ∙ ap (map f) e ∙ sym (take_map f (length x) y) ∙ ap (λ n. take n (map f y)) (sym (length-map x f))

-- Outcome 0 is done.
pub done_number : (o : Option Outcome) → reported_number o % short_size ≡ 0 → o ≡ some Outcome.Done
done_number none e = absurd (omega arith)
done_number (some o) e = ap some (sym (outcome_at o) ∙ ap (λ n. get_or outcomes n Outcome.Done) (sym (outcome_fits o) ∙ e))

-- What is read back from the bytes that a run wrote.
module _ (hi : Dom → Bool) (E : Ended) where
  pub prints_read : high_prints_in hi (written_log E) ≡ map narrow_print (high_prints (by_field hi) E)
  prints_read = ap (high_of hi (λ a. a.dom)) (log_read (log_of E.state.trace)) ∙ high_map hi (λ a. a.dom) narrow_print (λ a. refl) (log_of E.state.trace)

  module _ (few : CellsFew E) where
    pub written : read_report (written_report E) ≡ record { outcome = reported_number (report E).outcome % short_size; steps = (report E).steps % word_size; result = map narrow_leaf (report E).result; cells = map narrow_cell (report E).cells }
    written = report_read (reported_number (report E).outcome) (report E).steps (report E).result (report E).cells few

    pub says_done : SaysDone (written_report E) → (report E).outcome ≡ some Outcome.Done
    says_done p = done_number (report E).outcome (sym (ap (λ r. r.outcome) written) ∙ p)

    pub cells_read : high_cells_in hi (written_report E) ≡ map narrow_cell (high_of (by_field hi) (λ a. a.dom) (report E).cells)
    cells_read = ap (λ r. high_of hi (λ a. a.dom) r.cells) written ∙ high_map hi (λ a. a.dom) narrow_cell (λ a. refl) (report E).cells

pub same_bytes : (hi : Dom → Bool) (E E' : Ended) → CellsFew E → CellsFew E' → SameReported (by_field hi) E E' → SameBytes hi (written_log E) (written_log E') (written_report E) (written_report E')
same_bytes hi E E' F F' S =
    record {
      prints = rw (prints_read hi E, prints_read hi E') (cut_map narrow_print (high_prints (by_field hi) E) (high_prints (by_field hi) E') S.prints);
      result = λ p q. ap (λ r. r.result) (written hi E F) ∙ ap (map narrow_leaf) (S.result (says_done hi E F p) (says_done hi E' F' q)) ∙ sym (ap (λ r. r.result) (written hi E' F'));
      cells = λ p q. cells_read hi E F ∙ ap (map narrow_cell) (S.cells (says_done hi E F p) (says_done hi E' F' q)) ∙ sym (cells_read hi E' F');
    }
