-- What a run has used: the counterparts of the numbers of card 10 (document 02).
use Rattle.std.specs.Prelude.{ℕ, zero, suc, max, length}
use Rattle.calculus.specs.Combinators.{cases}
use Rattle.calculus.specs.Syntax.{Tm, Tms, as_value, val, var, lam, op0, op1, op2, seq, ite, split, pcd, adv, lower, obj, keep, match, end, more}
use Rattle.calculus.specs.State.{State, Given, log_of, fresh}
use Rattle.calculus.specs.Place.{top}
use Rattle.calculus.specs.Step.{step}
use Rattle.calculus.specs.Run.{after, run}
use Rattle.calculus_needs.specs.Numbers.{Numbers}

unfoldable mutual
  -- How many unfinished terms enclose the next redex of a term that is itself inside d unfinished terms.
  pub reach : ℕ → Tm → ℕ
  reach d (val v) = d
  reach d (var k) = d
  reach d (lam t b) = d
  reach d (op0 o t) = d
  reach d (op1 o t e) = cases (as_value e) (λ v. d) (λ n. reach (suc d) e)
  reach d (op2 o t e f) = cases (as_value e) (λ v. cases (as_value f) (λ w. d) (λ n. reach (suc d) f)) (λ n. reach (suc d) e)
  reach d (seq e f) = cases (as_value e) (λ v. d) (λ n. reach (suc d) e)
  reach d (ite e f g) = cases (as_value e) (λ v. d) (λ n. reach (suc d) e)
  reach d (split e f) = cases (as_value e) (λ v. d) (λ n. reach (suc d) e)
  reach d (pcd es) = reach_first d es
  reach d (adv p e b) = cases (as_value e) (λ v. d) (λ n. reach (suc d) e)
  reach d (lower p e) = cases (as_value e) (λ v. d) (λ n. reach (suc d) e)
  reach d (obj t bs) = d
  reach d (keep e f g) = cases (as_value e) (λ v. cases (as_value f) (λ w. cases (as_value g) (λ u. d) (λ n. reach (suc d) g)) (λ n. reach (suc d) f)) (λ n. reach (suc d) e)
  reach d (match p es f g) = reach_first d es

  pub reach_first : ℕ → Tms → ℕ
  reach_first d end = d
  reach_first d (more e es) = cases (as_value e) (λ v. reach_first d es) (λ n. reach (suc d) e)

-- The most unfinished terms around a redex that a run of at most n steps comes to, reduced or not.
unfoldable pub peak : ℕ → Given → State → Tm → ℕ
peak zero G s e = cases (as_value e) (λ v. 0) (λ u. reach 0 e)
peak (suc n) G s e =
    cases (as_value e)
    (λ v. 0)
    (λ u. after (step e G top s)
    (λ s' e'. max (reach 0 e) (peak n G s' e'))
    (λ capacity. reach 0 e)
    (λ aborted. reach 0 e)
    (λ no-rule. 0))

-- What has been used after k steps, with at most f unfinished terms around a redex.
abbrev pub used_up : ℕ → ℕ → State → Numbers
used_up k f s = record {
  steps = k;
  used = s.used;
  labels = length s.labels;
  advices = length s.advices;
  prints = length (log_of s.trace);
  frames = f;
}

-- What a run of a program used. A takedown gives the room of advice back before the end, so the claims are also made of every smaller budget: of every moment of the run.
abbrev pub used_by : ℕ → Given → Tm → Numbers
used_by n G e = used_up (run n G 0 fresh e).steps (peak n G fresh e) (run n G 0 fresh e).state
