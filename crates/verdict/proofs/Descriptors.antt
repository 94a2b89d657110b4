-- Rules of the same descriptors and the same order are the same: what a program that reads types off its tables needs of the one definition of the rules.
use Prim.Native.Nat.{ℕ}
use mathlib.Core.Path.{◌≡◌, ap, fun_ext, ◌∙◌}
use mathlib.Core.Bool.{Bool}
use mathlib.Core.List.{List}
use Rattle.calculus.specs.Syntax.{Dom}
use Rattle.image.specs.Kinds.{TermKind}
use Rattle.verdict.specs.Rules.{Descriptor, rule}

abbrev made : ℕ → ℕ → (ℕ → ℕ) → ℕ → Descriptor
made n k f c = record { number = n; kind = k; part = f; methods = c }

pub same_descriptor : (a b : Descriptor) → a.number ≡ b.number → a.kind ≡ b.kind → ((i : ℕ) → a.part i ≡ b.part i) → a.methods ≡ b.methods → a ≡ b
same_descriptor a b n k p c =
    ap (λ m. made m a.kind a.part a.methods) n
    ∙ (ap (λ m. made b.number m a.part a.methods) k ∙ (ap (λ f. made b.number b.kind f a.methods) (fun_ext p) ∙ ap (λ m. made b.number b.kind b.part m) c))

pub same_rule : (leq geq : Dom → Dom → Bool) → ((d e : Dom) → leq d e ≡ geq d e) → (Γ : List ℕ) (c : Dom) (t u : Descriptor) → t ≡ u → (vs : List ℕ) (ts us : List Descriptor) → ts ≡ us → (k : TermKind)
    → rule leq Γ c t vs ts k ≡ rule geq Γ c u vs us k
same_rule leq geq o Γ c t u e vs ts us es k =
    let q : leq ≡ geq = fun_ext (λ d. fun_ext (λ e. o d e)) in
    ap (λ le. rule le Γ c t vs ts k) q ∙ (ap (λ x. rule geq Γ c x vs ts k) e ∙ ap (λ xs. rule geq Γ c u vs xs k) es)
