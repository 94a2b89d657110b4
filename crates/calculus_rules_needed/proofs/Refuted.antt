-- What the statements mean: each speaks of two accepted programs, and by demand 3 the term that lacks a premise has no type there.
use mathlib.Core.Path.{refl}
use Rattle.calculus.specs.Syntax.{Dom, op0, abort}
use Rattle.calculus.specs.Typing.{Policy, no_store, ◌⨾◌⊢◌⦂◌ as TmTy, t_abort, is_op0}
use Rattle.calculus.proofs.Refused.{watched}
use Rattle.calculus.specs.Accepted.{Transitive, Accepted}
use Rattle.calculus_noninterference.specs.Observe.{Highs}
use Rattle.calculus_noninterference.proofs.Theorem.{demand3}
use Rattle.calculus_rules_needed.specs.Need.{DomainRule, Ordered, is_high, budget, given, Needed}

-- There is such an order.
pub ordered : Ordered watched
ordered = record { high = refl; low = refl; below = refl }

module _ {rule : DomainRule} {c : Dom} (N : Needed rule c) (D : Policy) (o : Ordered D) where
  -- The open place can be filled, with abort if with nothing else.
  pub filled : Accepted D (N.left (op0 abort N.type)) × Accepted D (N.right (op0 abort N.type))
  filled = N.fits D o (op0 abort N.type) (is_op0 t_abort)

  -- No order that demand 3 speaks of gives the term its type.
  pub refuted : Transitive D → Highs D is_high → TmTy D no_store N.context c N.term N.type → ⊥
  refuted trans H h =
      let A = N.fits D o N.term h in
      N.differ (demand3 D is_high trans H (N.left N.term) (N.right N.term) A.0 A.1 N.alike given given refl budget budget)
