-- Card 3 of document 02 about whole calls: "Method bodies at low domains count among the bodies in which two compared programs may differ."
use Rattle.std.specs.Prelude.{ℕ, suc, ◌≡◌, Bool, true, false, not, List}
use Rattle.calculus.specs.Syntax.{Dom, Ty}
use Rattle.calculus.specs.Plain.{methods_of, method_dom}
use Rattle.image.specs.Kinds.{TermKind}
use Rattle.image.specs.Layout.{records_of}
use Rattle.image.specs.Program.{Program, node, Programs, end, more}
use Rattle.verdict.specs.Domains.{masks}
use Rattle.call_spec.specs.Runs.{program_of}
use Rattle.call_spec.specs.Calls.{called}
use Rattle.demands.specs.Calls.{Runs}
use Rattle.demands.specs.Compare.{HighSet, SameLeft}

module _ (high : Dom → Bool) where
  -- Whether method i of an object of type t runs at a low domain.
  abbrev pub low_method : Ty → ℕ → Bool
  low_method t i = not (high (method_dom (methods_of t) i))

  -- Two programs that are the same but for bodies of low methods, anywhere in them; of the children, low says from the left which may differ.
  mutual
    pub data SameButMethods : Program → Program → Type 0 where
      same : (e : Program) → SameButMethods e e
      inside : {k : TermKind} {t : Ty} {vs : List ℕ} {es fs : Programs} → SameChildren (λ i. false) es fs → SameButMethods (node k t vs es) (node k t vs fs)
      object : {t : Ty} {vs : List ℕ} {es fs : Programs} → SameChildren (low_method t) es fs → SameButMethods (node TermKind.obj t vs es) (node TermKind.obj t vs fs)

    pub data SameChildren : (ℕ → Bool) → Programs → Programs → Type 0 where
      no_child : {low : ℕ → Bool} → SameChildren low end end
      alike : {low : ℕ → Bool} {e f : Program} {es fs : Programs} → SameButMethods e f → SameChildren (λ i. low (suc i)) es fs → SameChildren low (more e es) (more f fs)
      a_low_body : {low : ℕ → Bool} {e f : Program} {es fs : Programs} → low 0 ≡ true → SameChildren (λ i. low (suc i)) es fs → SameChildren low (more e es) (more f fs)

-- Two calls on images with the same domains, whose programs are the same but for bodies of low methods, leave what demand 3 asks.
abbrev pub Card3 : Type 0
Card3 =
    (high : Dom → Bool) (b b' : List ℕ) → masks (records_of b) ≡ masks (records_of b') → HighSet (records_of b) high → SameButMethods high (program_of b) (program_of b')
    → (frame : List ℕ) (budget budget' : ℕ) (log log' report report' work work' : List ℕ) → Runs b report work → Runs b' report' work'
    → SameLeft high (called b frame budget log report work) (called b' frame budget' log' report' work')
