-- The rule of each kind of term (document 003, figures 2 and 3; document 01, "Typing"): what 13, 14 and 15 ask of it. Types stand in it as descriptors, so that the verdict, which reads them off the image, and a program, which reads them off its tables, share the one definition.
use Rattle.std.specs.Prelude.{ℕ, zero, suc, ◌+◌, ◌*◌, Bool, true, ◌&&◌, List, [], ◌∷◌, map, length, get_or, drop, eqb, ltb}
use Rattle.calculus.specs.Syntax.{Dom}
use Rattle.image.specs.declared.Refusal.{Refusal}
use Rattle.laws.specs.Tests.{all}
use Rattle.image.specs.Kinds.{TypeKind, TermKind, type_row_of}

-- A type's number, by which types are compared; its kind's number; its field i, 0 where it has none; how many methods it has (card 3).
pub record Descriptor : Type 0 where
  pub number : ℕ
  pub kind : ℕ
  pub part : ℕ → ℕ
  pub methods : ℕ

-- What 13, 14 and 15 ask of a term.
pub record Rule : Type 0 where
  pub bound : Bool
  pub typed : Bool
  pub allowed : Bool

-- Types that must fit; and besides a domain that must.
abbrev pub fits : List Bool → Rule
fits bs = record { bound = true; typed = all bs; allowed = true }

abbrev pub fits_at : List Bool → Bool → Rule
fits_at bs d = record { bound = true; typed = all bs; allowed = d }

abbrev pub rule_faults : Rule → List (Refusal × Bool)
rule_faults r = (Refusal.UnboundVariable, r.bound) ∷ (Refusal.TypeRule, r.typed) ∷ (Refusal.DomainRule, r.allowed) ∷ []

-- Type a is of kind k; types a and b are the same; b is field i of type a.
abbrev pub is : TypeKind → Descriptor → Bool
is k a = eqb a.kind (type_row_of k).number

abbrev pub same : Descriptor → Descriptor → Bool
same a b = eqb a.number b.number

abbrev pub holds : ℕ → Descriptor → Descriptor → Bool
holds i a b = eqb (a.part i) b.number

-- Card 3: the domain of method m of type a; the method gives type b. "A count of bodies unlike the type's .. is 14", and so is a body that is not of its method's type: the bodies from method m on.
abbrev pub method_domain : ℕ → Descriptor → Dom
method_domain m a = a.part (2 * m)

abbrev pub gives : ℕ → Descriptor → Descriptor → Bool
gives m a b = holds (2 * m + 1) a b

abbrev pub bodies_fit : Descriptor → ℕ → List Descriptor → Bool
bodies_fit a m [] = true
bodies_fit a m (b ∷ bs) = gives m a b && bodies_fit a (suc m) bs

-- "Less and equal give truth, plus and minus a number."
abbrev pub op_gives : ℕ → TypeKind
op_gives zero = TypeKind.number
op_gives (suc zero) = TypeKind.number
op_gives (suc (suc n)) = TypeKind.truth

-- Where leq is the order of the domains, in the context Γ of type numbers, innermost first, at the current domain c: t is the term's own type, vs are its fields that are neither type nor child, ts its children's types.
module _ (leq : Dom → Dom → Bool) (Γ : List ℕ) (c : Dom) (t : Descriptor) (vs : List ℕ) (ts : List Descriptor) where
  abbrev child : ℕ → Descriptor
  child i = get_or ts i t

  abbrev each : (Descriptor → Bool) → Bool
  each ok = all (map ok ts)

  abbrev pub rule : TermKind → Rule
  rule TermKind.unit = fits (is TypeKind.unit t ∷ [])
  rule TermKind.truth = fits (is TypeKind.truth t ∷ [])
  rule TermKind.number = fits (is TypeKind.number t ∷ [])
  rule TermKind.var = record { bound = ltb (get_or vs 0 0) (length Γ); typed = eqb (get_or Γ (get_or vs 0 0) 0) t.number; allowed = true }
  rule TermKind.seq = fits (is TypeKind.unit (child 0) ∷ same (child 1) t ∷ [])
  rule TermKind.print = fits (is TypeKind.unit t ∷ is TypeKind.number (child 0) ∷ [])
  rule TermKind.ite = fits (is TypeKind.truth (child 0) ∷ same (child 1) t ∷ same (child 2) t ∷ [])
  rule TermKind.pair = fits (is TypeKind.pair t ∷ holds 0 t (child 0) ∷ holds 1 t (child 1) ∷ [])
  rule TermKind.split = fits (is TypeKind.pair (child 0) ∷ same (child 1) t ∷ [])
  rule TermKind.fun = fits (is TypeKind.fun t ∷ holds 2 t (child 0) ∷ [])
  rule TermKind.app = fits_at (is TypeKind.fun (child 0) ∷ holds 0 (child 0) (child 1) ∷ holds 2 (child 0) t ∷ []) (eqb ((child 0).part 1) c)
  rule TermKind.arith = fits (is (op_gives (get_or vs 0 0)) t ∷ is TypeKind.number (child 0) ∷ is TypeKind.number (child 1) ∷ [])
  rule TermKind.new_label = fits_at (is TypeKind.label t ∷ []) (leq (t.part 1) c)
  rule TermKind.mark = fits_at (is TypeKind.unit t ∷ is TypeKind.label (child 0) ∷ holds 0 (child 0) (child 1) ∷ []) (eqb ((child 0).part 1) c)
  rule TermKind.pcd = fits_at (is TypeKind.pcd t ∷ each (λ a. is TypeKind.label a) ∷ each (λ a. eqb (a.part 0) (t.part 0)) ∷ []) (each (λ a. leq (t.part 1) (a.part 1)))
  rule TermKind.adv = fits_at (is TypeKind.adv t ∷ is TypeKind.pcd (child 0) ∷ is TypeKind.unit (child 1) ∷ []) (leq (t.part 0) ((child 0).part 1))
  rule TermKind.install = fits_at (is TypeKind.unit t ∷ is TypeKind.adv (child 0) ∷ []) (leq ((child 0).part 0) c)
  rule TermKind.new_cell = fits_at (is TypeKind.ref t ∷ holds 0 t (child 0) ∷ []) (leq (t.part 1) c)
  rule TermKind.read = fits_at (is TypeKind.ref (child 0) ∷ holds 0 (child 0) t ∷ []) (leq c ((child 0).part 1))
  rule TermKind.store = fits_at (is TypeKind.unit t ∷ is TypeKind.ref (child 0) ∷ holds 0 (child 0) (child 1) ∷ []) (leq ((child 0).part 1) c)
  rule TermKind.lower = fits_at (is TypeKind.unit t ∷ is TypeKind.unit (child 0) ∷ []) (leq (get_or vs 0 0) c)
  rule TermKind.abort = fits []
  rule TermKind.byte = fits (is TypeKind.number t ∷ is TypeKind.number (child 0) ∷ [])
  -- Card 3: "A body is checked at its method's domain, and a call needs that domain to be the current one"; "a method number past the type's last .. is 14".
  rule TermKind.obj = fits (is TypeKind.obj t ∷ eqb (length ts) t.methods ∷ bodies_fit t 0 ts ∷ [])
  rule TermKind.call = fits_at (is TypeKind.obj (child 0) ∷ ltb (get_or vs 0 0) (child 0).methods ∷ gives (get_or vs 0 0) (child 0) t ∷ []) (eqb (method_domain (get_or vs 0 0) (child 0)) c)
  -- Card 6: "Keep needs the label's domain equal to the current one"; each entry of a match names a pointcut, and no domain is asked of it.
  rule TermKind.stack = fits (is TypeKind.stack t ∷ [])
  rule TermKind.keep = fits_at (is TypeKind.label (child 0) ∷ holds 0 (child 0) (child 1) ∷ same (child 2) t ∷ []) (eqb ((child 0).part 1) c)
  rule TermKind.match = fits (is TypeKind.stack (child 0) ∷ same (child 1) t ∷ same (child 2) t ∷ all (map (λ a. is TypeKind.pcd a) (drop 3 ts)) ∷ [])
  -- Card 7: the domain "must be ≤ the current one".
  rule TermKind.takedown = fits_at (is TypeKind.unit t ∷ []) (leq (get_or vs 0 0) c)
