-- Card 13 about whole calls.
use Rattle.std.specs.Prelude.{Ok, Err}
use Prim.Native.Nat.{ℕ, ◌%◌, ◌<◌}
use native.Mathlib.Omega.{arith}
use native.Mathlib.Nat.{mod-eq_of_lt}
use mathlib.Core.Path.{◌≡◌, refl, sym, ap, ap₂, subst, ◌∙◌}
use mathlib.Core.Bool.{Bool, true, false}
use mathlib.Core.List.{List, map}
use mathlib.Core.Option.{Option, none, some}
use lib.ListN.{length}
use Rattle.calculus.specs.declared.Outcome.{Outcome}
use Rattle.calculus.specs.Limits.{word_size}
use Rattle.calculus.specs.Syntax.{Dom, Val, Tm}
use Rattle.calculus.specs.State.{Given, fresh}
use Rattle.calculus.specs.Run.{done, Ended, run}
use Rattle.calculus.specs.Report.{outcome_of, report as reported}
use Rattle.calculus.specs.Typing.{Policy}
use Rattle.calculus_safety.proofs.Runs.{program_safe}
use Rattle.calculus_noninterference.specs.Observe.{Highs}
use Rattle.calculus_noninterference.specs.NoLowTakedown.{NoLowTakedown}
use Rattle.calculus_noninterference.proofs.Reported.{reports_done}
use Rattle.calculus_stripped.specs.Strip.{strip}
use Rattle.calculus_stripped.specs.Shared.{SharesDone}
use Rattle.calculus_stripped.proofs.Budget.{done_stays}
use Rattle.calculus_stripped.proofs.Typed.{strip_typed}
use Rattle.calculus_stripped.proofs.Agree.{strip_same, no_low_takedown_same}
use Rattle.calculus_stripped.proofs.Theorem.{stripped_run}
use Rattle.calculus_stripped.proofs.Reported.{shares_result, shares_cells}
use Rattle.image.specs.Layout.{records_of}
use Rattle.image.specs.Program.{program, to_tm}
use Rattle.verdict.specs.Answers.{Verdict}
use Rattle.verdict.specs.Verdicts.{verdict}
use Rattle.verdict.specs.Domains.{policy}
use Rattle.verdict.proofs.Accept.{accepted_good, accepted_order}
use Rattle.image_written.specs.Written.{written as writtenFrom, fixed}
use Rattle.image_written.specs.Stripped.{without_watches}
use Rattle.image_written.proofs.Stripping.{stripped_holds, stripped_short}
use Rattle.report.specs.declared.Ending.{Ending}
use Rattle.report.specs.OfRun.{ending_of, reported_number, written_log, written_report}
use Rattle.report.specs.Fits.{short_size, CellsFew, by_field}
use Rattle.report.specs.Read.{read_report}
use Rattle.report.proofs.Narrow.{narrow_print, narrow_leaf, narrow_cell}
use Rattle.call_spec.specs.Runs.{Accepts, program_of, given_by, run_of}
use Rattle.call_spec.specs.Calls.{left_by, after_verdict, called}
use Rattle.call_spec.proofs.Accepted.{transitive, typed}
use Rattle.demands.specs.Calls.{Runs}
use Rattle.demands.specs.Compare.{HighSet}
use Rattle.demands.specs.SameBytes.{SaysDone}
use Rattle.demands.specs.LowTakedowns.{low_takes_down}
use Rattle.demands.specs.Stripped.{StrippedOf, SharesBytes, Card13, WrittenStripped, DoneStays}
use Rattle.demands.proofs.AcceptedBytes.{program_cells_few}
use Rattle.demands.proofs.ByField.{small_field}
use Rattle.demands.proofs.SameBytes.{prints_read, written, says_done, cells_read}
use Rattle.demands.proofs.Compare.{highs_by_field}
use Rattle.demands.proofs.Steps.{steps_within}
use Rattle.demands.proofs.Written.{take_front}
use Rattle.demands.proofs.Demands.{accepts, demand2_run}
use Rattle.demands.proofs.NoLowTakedownPrograms.{no_low_takedown_program}
use Rattle.demands.proofs.StrippedTrees.{stripped_term}

-- A call that is done, of an accepted image: its run has a result.
done_run : (b : List ℕ) → Accepts b → (frame : List ℕ) (budget : ℕ) (log : List ℕ) → (reported (run_of b frame budget log)).outcome ≡ some Outcome.Done → (v : Val) × ((run_of b frame budget log).end ≡ done v)
done_run b A frame budget log p = reports_done (program_safe (policy (records_of b)) (transitive b A) (given_by frame log) (typed b A).typed budget).end p

-- Two runs, of which the second shares what the first, which is done, has at the domains that are high by their 2 bytes; and the bytes that they wrote.
abbrev SharesWritten : (Dom → Bool) → Ended → Ended → Type 0
SharesWritten high E E' = SharesBytes high (written_log E) (written_log E') (written_report E) (written_report E')

shares_written : (high : Dom → Bool) (E E' : Ended) (v : Val) → CellsFew E → CellsFew E' → E.end ≡ done v → E.steps < word_size → SharesDone (by_field high) v E E' → SharesWritten high E E'
shares_written high E E' v F F' p l S =
    let r = written high E F in
    let r' = written high E' F' in
    let few = S.steps in
    let s : (read_report (written_report E)).steps ≡ E.steps = ap (λ x. x.steps) r ∙ mod-eq_of_lt l in
    let s' : (read_report (written_report E')).steps ≡ E'.steps = ap (λ x. x.steps) r' ∙ mod-eq_of_lt (omega arith) in
    record {
      was_done = ap (λ x. x.outcome) r' ∙ ap (λ o. reported_number (outcome_of o) % short_size) S.result;
      result = ap (λ x. x.result) r ∙ ap (map narrow_leaf) (shares_result S p) ∙ sym (ap (λ x. x.result) r');
      cells = cells_read high E F ∙ ap (map narrow_cell) (shares_cells S) ∙ sym (cells_read high E' F');
      prints = prints_read high E ∙ ap (map narrow_print) S.prints ∙ sym (prints_read high E');
      steps = omega (arith, s, s', few);
    }

module _ (high : Dom → Bool) (b : List ℕ) (A : Accepts b) (highs : HighSet (records_of b) high) (no_low_takedown : low_takes_down high (program_of b) ≡ false) where
  abbrev D : Policy
  D = policy (records_of b)

  abbrev e : Tm
  e = to_tm (program_of b)

  -- The order relates no domain that 2 bytes could change.
  same_field : (p q : Dom) → D.leq p q ≡ true → (high p ≡ by_field high p) × (high q ≡ by_field high q)
  same_field p q l =
      let t = (accepted_order b A.work A.report A.verdict_is).there p q l in
      let few = (accepted_good b A.work A.report A.verdict_is).few_domains in
      let x = t.0 in
      let y = t.1 in
      (sym (small_field high p (omega arith)), sym (small_field high q (omega arith)))

  stripped_same : strip high e ≡ strip (by_field high) e
  stripped_same = strip_same high (by_field high) same_field (typed b A).typed

  stripped_written : (frame : List ℕ) (budget : ℕ) (log : List ℕ) → budget < word_size → SaysDone (written_report (run_of b frame budget log)) → SharesWritten high (run_of b frame budget log) (run budget (given_by frame log) 0 fresh (strip high e))
  stripped_written frame budget log l p =
      let E : Ended = run_of b frame budget log in
      let G : Given = given_by frame log in
      let F = program_cells_few D (transitive b A) G budget (typed b A).typed in
      let F' = program_cells_few D (transitive b A) G budget (strip_typed (by_field high) (typed b A).typed) in
      let x = done_run b A frame budget log (says_done high E F p) in
      let H : Highs D (by_field high) = highs_by_field high b b A A (record { domains = refl; highs = highs; programs = refl }) in
      let C : NoLowTakedown (by_field high) 0 e = no_low_takedown_same high (by_field high) same_field (typed b A).typed (no_low_takedown_program high (program_of b) 0 highs.mainline no_low_takedown) in
      let few : E.steps < word_size = omega (arith, steps_within budget G 0 fresh e) in
      subst (λ f. SharesWritten high E (run budget G 0 fresh f)) (sym stripped_same)
      (shares_written high E (run budget G 0 fresh (strip (by_field high) e)) x.0 F F' x.1 few (stripped_run D (by_field high) (transitive b A) H e (typed b A) C G budget x.0 x.1))

-- The card's claim.
pub card13 : Card13
card13 high b b' highs same no_low_takedown frame budget log log' report report' work work' l n h h' =
    let E : Ended = run_of b frame budget log in
    let E' : Ended = run_of b' frame budget log' in
    let right : run budget (given_by frame log) 0 fresh (strip high (to_tm (program_of b))) ≡ E' = ap₂ (λ k f. run budget (record { frame = frame; log_length = k }) 0 fresh f) n (sym same) in
    let shares : SaysDone (written_report E) → SharesWritten high E E' = λ p. subst (SharesWritten high E) right (stripped_written high b (accepts b report work h) highs no_low_takedown frame budget log l p) in
    rw (demand2_run b frame budget log report work h, demand2_run b' frame budget log' report' work' h', take_front (written_log E) log, take_front (written_log E') log', take_front (written_report E) report, take_front (written_report E') report') shares

-- Its masks and its program are those from which it was written.
in_form : (high : Dom → Bool) (b : List ℕ) (work report : ℕ) → verdict b work report ≡ Ok tt → fixed (without_watches high b) ≡ without_watches high b
unfolding fixed without_watches
in_form high b work report ok = let h = stripped_holds high b work report ok in ap₂ writtenFrom h.domains h.tree

-- And of the image that is written.
pub card13_written : (high : Dom → Bool) (b report work : List ℕ) → Runs b report work → WrittenStripped high b report work
card13_written high b report work ok =
    let h = stripped_holds high b (length work) (length report) ok in
    let same : StrippedOf high b (without_watches high b) = ap to_tm h.tree ∙ stripped_term high (program (records_of b)) in
    record {
      accepted = h.accepted;
      short = stripped_short high b (length work) (length report) ok;
      stripped = same;
      domains = h.domains;
      tree = h.tree;
      fixed_form = in_form high b (length work) (length report) ok;
    }

-- A done call stays the same at any larger budget.
ended_done : (o : Option Outcome) → ending_of o ≡ Ending.Ended Outcome.Done → o ≡ some Outcome.Done
ended_done none q = absurd (no_outcome q)
  where
    no_outcome : Ending.NoOutcome ≡ Ending.Ended Outcome.Done → ⊥
    no_outcome z = let y : ◌≡◌ {A = ℕ} 0 1 = cc in absurd (omega arith)
ended_done (some o) q = cc

pub card13_done_stays : DoneStays
unfolding called
card13_done_stays b frame budget budget' log report work l h = look (verdict b (length work) (length report)) refl h
  where
    E : Ended
    E = run_of b frame budget log

    look : (w : Verdict) → verdict b (length work) (length report) ≡ w → (after_verdict w E log report work).answer.ending ≡ Ending.Ended Outcome.Done → after_verdict w (run_of b frame budget' log) log report work ≡ after_verdict w E log report work
    look (Ok tt) q p =
        let x = done_run b (accepts b report work q) frame budget log (ended_done _ p) in
        ap (λ F. left_by F log report work) (done_stays budget budget' l (given_by frame log) 0 fresh (to_tm (program_of b)) x.0 x.1)
    look (Err refusal) q p = refl
