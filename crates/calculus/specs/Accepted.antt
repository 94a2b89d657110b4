-- What type safety and demand 3 are about: the programs that are accepted, and what is asked of the order of domains.
use Rattle.std.specs.Prelude.{◌≡◌, true, []}
use Rattle.calculus.specs.Syntax.{Dom, Ty, Tm}
use Rattle.calculus.specs.Plain.{is_plain}
use Rattle.calculus.specs.Typing.{Policy, no_store, ◌⨾◌⊢◌⦂◌ as TmTy}

-- What type safety assumes of the order of domains, a partial order in document 003: transitivity, and nothing else.
abbrev pub Transitive : Policy → Type 0
Transitive D = (p q r : Dom) → D.leq p q ≡ true → D.leq q r ≡ true → D.leq p r ≡ true

-- An accepted program: without free variables, well typed at the mainline's domain before anything stands in the store, of a plain type.
pub record Accepted (D : Policy) (e : Tm) : Type 0 where
  pub type : Ty
  pub typed : TmTy D no_store [] 0 e type
  pub plain : is_plain type ≡ true
