-- Domain 0's counts, and its room, in two calls (card 9).
use Prim.Native.Nat.{ℕ}
use native.Mathlib.Omega.{arith}
use mathlib.Core.Path.{◌≡◌, refl, sym, ap, ◌∙◌}
use mathlib.Core.Bool.{Bool, true, true≢false}
use mathlib.Core.List.{List}
use mathlib.Core.Option.{some, some-injective, none-ne-some}
use lib.ListN.{length, length-map}
use Rattle.calculus.proofs.EveryOutcome.{at_outcome}
use Rattle.calculus.specs.declared.Outcome.{Outcome}
use Rattle.calculus.specs.Syntax.{Dom, Val}
use Rattle.calculus.specs.Run.{End, done, stopped, stuck, Ended}
use Rattle.calculus.specs.Report.{outcome_number, outcome_of}
use Rattle.calculus_safety.proofs.Runs.{program_safe}
use Rattle.calculus_noninterference.specs.Observe.{high_prints, lacks_mainline, ends_short, Same}
use Rattle.calculus_noninterference.proofs.Reported.{reports_done}
use Rattle.image.specs.Layout.{records_of}
use Rattle.verdict.specs.Domains.{policy}
use Rattle.verdict.specs.Acceptable.{PartialOrder}
use Rattle.verdict.proofs.Passed.{passed_iff}
use Rattle.verdict.proofs.Accept.{accepted_order}
use Rattle.report.specs.Fits.{by_field}
use Rattle.report.proofs.Narrow.{narrow_print}
use Rattle.call_spec.specs.Runs.{Accepts, given_by, run_of}
use Rattle.call_spec.specs.Calls.{Left, called}
use Rattle.call_spec.proofs.Accepted.{transitive, typed}
use Rattle.demands.specs.Calls.{Runs, RunOutput, log_written, report_written}
use Rattle.demands.specs.SameBytes.{high_prints_in, SaysDone}
use Rattle.demands.specs.Compare.{Compared}
use Rattle.demands.specs.MainlineCapacity.{from_mainline, DifferBelow, Card9, lacks_number, SaysShort, Card9Capacity}
use Rattle.demands.proofs.SameBytes.{done_number, prints_read}
use Rattle.demands.proofs.Compare.{demand3_images, demand3_by_field}
use Rattle.demands.proofs.Written.{outcome_fits}
use Rattle.demands.proofs.Demands.{accepts, demand1}

-- The numbers 4, 5 and 8 are those of the outcomes that say so.
lacks_number_lem : (o : Outcome) → lacks_number (outcome_number o) ≡ lacks_mainline o
lacks_number_lem = at_outcome (λ o. lacks_number (outcome_number o)) lacks_mainline refl

short_end : (e : End) (o : Outcome) → outcome_of e ≡ some o → lacks_mainline o ≡ true → ends_short e ≡ true
short_end (done v) o p l = absurd (true≢false (sym l ∙ ap lacks_mainline (sym (some-injective Outcome.Done o p))))
short_end (stopped x) o p l = ap lacks_mainline (some-injective x o p) ∙ l
short_end stuck o p l = absurd (none-ne-some o p)

-- What the bytes of a call say of its run.
module _ (b frame : List ℕ) (budget : ℕ) (log report work : List ℕ) (h : Runs b report work) where
  abbrev X : Left
  X = called b frame budget log report work

  abbrev E : Ended
  E = run_of b frame budget log

  out : RunOutput E budget log report work X
  out = demand1 b frame budget log report work h

  pub ended : SaysDone (report_written X) → (v : Val) × (E.end ≡ done v)
  ended p =
      let A : Accepts b = accepts b report work h in
      let d = done_number (some out.outcome) (outcome_fits out.outcome ∙ sym out.outcome_read ∙ p) in
      reports_done (program_safe (policy (records_of b)) (transitive b A) (given_by frame log) (typed b A).typed budget).end (out.outcome_is ∙ d)

  short : SaysShort (report_written X) → ends_short E.end ≡ true
  short p = short_end E.end out.outcome out.outcome_is (sym (lacks_number_lem out.outcome) ∙ ap lacks_number (sym out.outcome_read) ∙ p)

  printed : (high : Dom → Bool) → length (high_prints_in high (log_written X)) ≡ length (high_prints (by_field high) E)
  printed high = ap (λ l. length (high_prints_in high l)) out.log_is ∙ ap length (prints_read high E) ∙ length-map (high_prints (by_field high) E) narrow_print

-- Domain 0 and those above it are high domains.
compared : (b b' : List ℕ) → Accepts b → DifferBelow b b' → Compared (from_mainline (records_of b)) b b'
compared b b' A D =
    let order : PartialOrder (records_of b) = accepted_order b A.work A.report A.verdict_is in
    record {
      domains = D.domains;
      highs = record { mainline = order.reflexive 0 ((passed_iff b A.work A.report).0 A.verdict_is).shaped.has_domains; up = λ d q l m x y. order.transitive 0 d q x y };
      programs = D.programs;
    }

pub card9 : Card9
card9 b b' D frame budget budget' log log' report report' work work' h h' =
    record {
      prints = S.counts;
      end = λ p q.
          let x = ended b frame budget log report work h p in
          let y = ended b' frame budget' log' report' work' h' q in
          S.final x.0 y.0 x.1 y.1;
    }
  where
    A : Accepts b
    A = accepts b report work h

    S : Same (from_mainline (records_of b)) (run_of b frame budget log) (run_of b' frame budget' log')
    S = demand3_images (from_mainline (records_of b)) b b' A (accepts b' report' work' h') (compared b b' A D) frame budget budget' log log'

pub card9_capacity : Card9Capacity
card9_capacity b b' D frame budget budget' log log' report report' work work' h h' p =
    let high : Dom → Bool = from_mainline (records_of b) in
    let A : Accepts b = accepts b report work h in
    let n = (demand3_by_field high b b' A (accepts b' report' work' h') (compared b b' A D) frame budget budget' log log').capacity (short b frame budget log report work h p) in
    record {
      not_done = λ q. (let y = ended b' frame budget' log' report' work' h' q in n.not_done y.0 y.1);
      no_more = omega (arith, n.no_more, printed b frame budget log report work h high, printed b' frame budget' log' report' work' h' high);
    }
