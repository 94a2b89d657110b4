-- Programs that are well typed term by term: what the typing pass finds of a program. It checks each child where `context_of` and `domain_of` say (Settings.antt). Acceptance does not ask this: it asks for one derivation by document 003's rules (Acceptable.antt), and the law `typed_ascribed` says that the two are the same. So a child that was checked under other variables or at another domain than the rules have it would break that law.
use Rattle.std.specs.Prelude.{ℕ, suc, List, [], ◌∷◌}
use Rattle.calculus.specs.Syntax.{Dom, Ty, Tm, Tms, op0, abort}
use Rattle.calculus.specs.Typing.{Policy, no_store, ◌⨾◌⊢◌⦂◌ as TmTy}
use Rattle.image.specs.Kinds.{TermKind, body_of}
use Rattle.image.specs.Program.{Program, Programs, node, blank, end, more, assemble}
use Rattle.verdict.specs.Settings.{Setting, context_of, domain_of}

-- The parts of a type: the a of a pair, function, reference, label or pointcut, and the b of a pair.
abbrev pub first_of : Ty → Ty
first_of Ty.unit = Ty.unit
first_of Ty.truth = Ty.unit
first_of Ty.number = Ty.unit
first_of (Ty.pair a b) = a
first_of (Ty.fun a p b) = a
first_of (Ty.ref a p) = a
first_of (Ty.label a p) = a
first_of (Ty.pointcut a p) = a
first_of (Ty.advice p) = Ty.unit
first_of (Ty.object ms) = Ty.unit
first_of Ty.stack = Ty.unit

abbrev pub second_of : Ty → Ty
second_of Ty.unit = Ty.unit
second_of Ty.truth = Ty.unit
second_of Ty.number = Ty.unit
second_of (Ty.pair a b) = b
second_of (Ty.fun a p b) = Ty.unit
second_of (Ty.ref a p) = Ty.unit
second_of (Ty.label a p) = Ty.unit
second_of (Ty.pointcut a p) = Ty.unit
second_of (Ty.advice p) = Ty.unit
second_of (Ty.object ms) = Ty.unit
second_of Ty.stack = Ty.unit

-- The types that programs state.
abbrev pub stated : Program → Ty
stated (node k t vs es) = t
stated blank = Ty.unit

abbrev pub stateds : Programs → List Ty
stateds end = []
stateds (more e es) = stated e ∷ stateds es

-- A term of each of the types ts, and of no other: an abort has just the type that it states.
abbrev pub aborts : List Ty → Tms
aborts [] = Tms.end
aborts (t ∷ ts) = Tms.more (op0 abort t) (aborts ts)

-- Where child i of a term stands, types in full.
abbrev pub child_setting : Setting Ty → TermKind → Ty → List ℕ → List Ty → ℕ → Setting Ty
child_setting p k t vs ts i =
    record { context = context_of first_of second_of (body_of k i) t vs ts p.context; dom = domain_of (body_of k i) t vs p.dom i }

-- Where a program stands: no variables, and the mainline's domain 0.
abbrev pub mainline : Setting Ty
mainline = record { context = []; dom = 0 }

module _ (D : Policy) where
  -- Figure 3's judgement before a run: Γ ⨾ c ⊢ e ⦂ t.
  infix 4 ◌⨾◌⊢◌⦂◌
  abbrev ◌⨾◌⊢◌⦂◌ : List Ty → Dom → Tm → Ty → Type 0
  Γ ⨾ c ⊢ e ⦂ t = TmTy D no_store Γ c e t

  -- A program is well typed where it stands if, by the calculus's rules, its root term would have the type that it states over any children of the types that they state, and each child is well typed where it stands.
  unfoldable mutual
    pub WellTyped : Setting Ty → Program → Type 0
    WellTyped p (node k t vs es) = (p.context ⨾ p.dom ⊢ assemble k t vs (aborts (stateds es)) ⦂ t) × EachWellTyped (child_setting p k t vs (stateds es)) 0 es
    WellTyped p blank = ⊥

    -- at says where each child stands; the first of these is child i.
    pub EachWellTyped : (ℕ → Setting Ty) → ℕ → Programs → Type 0
    EachWellTyped at i end = Unit {0}
    EachWellTyped at i (more e es) = WellTyped (at i) e × EachWellTyped at (suc i) es
