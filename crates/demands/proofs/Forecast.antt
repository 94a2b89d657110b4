-- Card 10 of whole calls: what an image's forecast says holds of each call on it that runs.
use Prim.Native.Nat.{ℕ, ◌+◌, ◌≤◌}
use native.Mathlib.Omega.{arith}
use mathlib.Core.Path.{◌≡◌, sym, ap, subst, ◌∙◌}
use mathlib.Core.Logic.{◌⊎◌, inl, inr}
use mathlib.Core.Bool.{true}
use mathlib.Core.List.{List}
use mathlib.Core.Option.{some, some-injective}
use Rattle.std.proofs.Common.{Ok, Err}
use lib.ListN.{length, length-map}
use lib.Dec.{T}
use Rattle.calculus.specs.declared.Outcome.{Outcome}
use Rattle.calculus.specs.Syntax.{Tm}
use Rattle.calculus.specs.State.{Given, log_of}
use Rattle.calculus.specs.Run.{End, Ended}
use Rattle.calculus.specs.Report.{outcome_number, outcome_of, leaves, cell_report, report as reported}
use Rattle.calculus.specs.Typing.{Policy}
use Rattle.calculus_safety.proofs.Within.{program_within}
use Rattle.calculus_needs.specs.Numbers.{Numbers}
use Rattle.calculus_needs.specs.Class.{in_class}
use Rattle.calculus_needs.specs.Needs.{need_of}
use Rattle.calculus_needs.specs.Claims.{Under, DoneOrAborted, was_done, is_aborted}
use Rattle.calculus_needs.proofs.Theorem.{never_exceeded, met_exactly, done_or_aborted}
use Rattle.image.specs.Layout.{records_of}
use Rattle.image.specs.Program.{to_tm}
use Rattle.image_needs.specs.Forecasts.{needs_of}
use Rattle.image_needs.specs.declared.Unforeseen.{Unforeseen}
use Rattle.image_needs.proofs.Known.{Known, Outside, known, outside, known_back, outside_back, refused_first}
use Rattle.verdict.specs.Domains.{policy}
use Rattle.report.specs.Read.{read_log, read_report}
use Rattle.report.proofs.Narrow.{narrow_print, narrow_cell, log_read, report_read}
use Rattle.call_spec.specs.Runs.{Accepts, program_of, given_by, run_of}
use Rattle.call_spec.specs.Calls.{Left, called}
use Rattle.call_spec.proofs.Accepted.{transitive, typed}
use Rattle.demands.specs.Calls.{Runs, RunOutput, log_written, report_written}
use Rattle.demands.specs.SameBytes.{SaysDone}
use Rattle.demands.specs.Forecast.{used_of, Told, OneWay, Holds, Card10, Card10Refused}
use Rattle.demands.proofs.AcceptedBytes.{program_cells_few}
use Rattle.demands.proofs.Demands.{accepts, demand1}
use Rattle.demands.proofs.MainlineCapacity.{ended}

-- The number of the outcome of a run that is done or aborted.
settled_number : {x : End} → DoneOrAborted x → (o : Outcome) → outcome_of x ≡ some o → (outcome_number o ≡ outcome_number Outcome.Done) ⊎ (outcome_number o ≡ outcome_number Outcome.Aborted)
settled_number was_done o e = inl (ap outcome_number (sym (some-injective Outcome.Done o e)))
settled_number is_aborted o e = inr (ap outcome_number (sym (some-injective Outcome.Aborted o e)))

module _ (b frame : List ℕ) (budget : ℕ) (log report work : List ℕ) (class : T (in_class true (to_tm (program_of b)))) (h : Runs b report work) where
  abbrev X : Left
  X = called b frame budget log report work

  abbrev E : Ended
  E = run_of b frame budget log

  abbrev G : Given
  G = given_by frame log

  abbrev D : Policy
  D = policy (records_of b)

  abbrev e : Tm
  e = to_tm (program_of b)

  A : Accepts b
  A = accepts b report work h

  out : RunOutput E budget log report work X
  out = demand1 b frame budget log report work h

  -- What the bytes tell is what the run used.
  cells_told : length (read_report (report_written X)).cells ≡ (used_of b frame budget log).used.mainline.cells + (used_of b frame budget log).used.others.cells
  cells_told =
      ap (λ r. length (read_report r).cells) out.report_is
      ∙ ap (λ r. length r.cells) (report_read (outcome_number out.outcome) E.steps (reported E).result (reported E).cells (program_cells_few D (transitive b A) G budget (typed b A).typed))
      ∙ length-map (reported E).cells narrow_cell
      ∙ length-map E.state.cells (cell_report leaves)
      ∙ sym (program_within G budget e).counted

  prints_told : length (read_log (log_written X)) ≡ length (log_of E.state.trace)
  prints_told = ap (λ l. length (read_log l)) out.log_is ∙ ap length (log_read (log_of E.state.trace)) ∙ length-map (log_of E.state.trace) narrow_print

  under : Under (used_of b frame budget log) (need_of e)
  under = never_exceeded D (transitive b A) G (typed b A).typed class budget

  told : Told ◌≤◌ (needs_of (need_of e)) budget X
  told =
      record {
        steps = λ l. rw (out.steps_read l) under.steps;
        cells = rw cells_told (let c = under.cells in let d = under.other_cells in omega arith);
        prints = rw prints_told under.prints;
      }

  straight_run : OneWay b → SaysDone (report_written X) → used_of b frame budget log ≡ need_of e
  straight_run w p =
      let x = ended b frame budget log report work h p in
      met_exactly D (transitive b A) G (typed b A).typed class budget w x.0 x.1

  told_exactly : used_of b frame budget log ≡ need_of e → Told ◌≡◌ (needs_of (need_of e)) budget X
  told_exactly m =
      record {
        steps = λ l. out.steps_read l ∙ ap (λ (u : Numbers). u.steps) m;
        cells = cells_told ∙ ap (λ (u : Numbers). u.used.mainline.cells + u.used.others.cells) m;
        prints = prints_told ∙ ap (λ (u : Numbers). u.prints) m;
      }

  pub holds : Holds b (needs_of (need_of e)) frame budget log X
  holds =
      record {
        under = λ k l. never_exceeded D (transitive b A) G (typed b A).typed class k;
        told = told;
        meets = straight_run;
        told_meets = λ w p. told_exactly (straight_run w p);
        settles = λ n. rw out.outcome_read (settled_number (done_or_aborted D (transitive b A) G (typed b A).typed class budget n) out.outcome out.outcome_is);
      }

pub card10 : Card10
card10 b n f frame budget log report work h =
    let K : Known b n = known b n f in
    subst (λ m. Holds b m frame budget log (called b frame budget log report work)) K.numbers (holds b frame budget log report work K.class h)

pub card10_refused : (b : List ℕ) → Card10Refused b
card10_refused b =
    record {
      refused = refused_first b;
      outside = λ place. (
        λ h. let o : Outside b place = outside b place h in (o.accepted, o.class, sym o.place_is),
        λ h. outside_back b h.0 h.1 ∙ ap (λ o. Err (Unforeseen.OutsideClass o)) (sym h.2),
      );
      inside = λ n. (
        λ h. let k : Known b n = known b n h in (k.accepted, k.class, sym k.numbers),
        λ h. known_back b h.0 h.1 ∙ ap Ok (sym h.2),
      );
    }
