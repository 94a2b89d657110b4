-- The records of a layout by their numbers, and the types written out in full (document 01, "The image" and "Two runs compared").
use Rattle.std.specs.Prelude.{ℕ, zero, suc, ◌-◌, Bool, List, [], ◌∷◌, length, get_or, eqb}
use Rattle.calculus.specs.Syntax.{Dom, Ty, Sigs, no_method, method}
use Rattle.image.specs.Bytes.{length_at, number_at, field_at}
use Rattle.image.specs.Kinds.{TypeKind, TermKind, Kind, domain, type, term, type_row_of, term_row}
use Rattle.image.specs.Records.{Layout, kind_at, times, numbers_at, children_at, others_at}

abbrev pub type_kind_of : Kind → TypeKind
type_kind_of domain = TypeKind.unit
type_kind_of (type k) = k
type_kind_of (term k) = TypeKind.unit

abbrev pub term_kind_of : Kind → TermKind
term_kind_of domain = TermKind.abort
term_kind_of (type k) = TermKind.abort
term_kind_of (term k) = k

module _ (L : Layout) where
  -- The offsets of domain d, type t and term n.
  abbrev pub domain_place : Dom → ℕ
  domain_place d = get_or L.domains d 0

  abbrev pub type_place : ℕ → ℕ
  type_place t = get_or L.types t 0

  abbrev pub term_place : ℕ → ℕ
  term_place n = get_or L.terms n 0

  -- Type t: its kind's number, its kind, its fields, its field i.
  abbrev pub type_number : ℕ → ℕ
  type_number t = number_at L.image (type_place t)

  abbrev pub type_kind : ℕ → TypeKind
  type_kind t = type_kind_of (kind_at L.image (type_place t))

  abbrev pub type_fields : ℕ → List ℕ
  type_fields t = numbers_at L.image (type_place t) (type_row_of (type_kind t))

  abbrev pub type_field : ℕ → ℕ → ℕ
  type_field t i = get_or (type_fields t) i 0

  -- How many methods it has, if it is that of an object (card 3).
  abbrev pub method_count : ℕ → ℕ
  method_count t = times (type_row_of (type_kind t)) (length_at L.image (type_place t))

  -- Type t is of kind k.
  abbrev pub is_type : TypeKind → ℕ → Bool
  is_type k t = eqb (type_number t) (type_row_of k).number

  -- Term n: its kind, its type number, its fields that are neither type nor child, its children.
  abbrev pub term_kind : ℕ → TermKind
  term_kind n = term_kind_of (kind_at L.image (term_place n))

  abbrev pub type_no : ℕ → ℕ
  type_no n = field_at L.image (term_place n) 0

  abbrev pub others : ℕ → List ℕ
  others n = others_at L.image (term_place n) (term_row (term_kind n))

  abbrev pub children : ℕ → List ℕ
  children n = children_at L.image (term_place n) (term_row (term_kind n))

  -- The number of the root, the last term.
  abbrev pub root_of : ℕ
  root_of = length L.terms - 1

-- The kind that a type is of.
abbrev pub head_of : Ty → TypeKind
head_of Ty.unit = TypeKind.unit
head_of Ty.truth = TypeKind.truth
head_of Ty.number = TypeKind.number
head_of (Ty.pair a b) = TypeKind.pair
head_of (Ty.fun a p b) = TypeKind.fun
head_of (Ty.ref a p) = TypeKind.ref
head_of (Ty.label a p) = TypeKind.label
head_of (Ty.pointcut a p) = TypeKind.pcd
head_of (Ty.advice p) = TypeKind.adv
head_of (Ty.object ms) = TypeKind.obj
head_of Ty.stack = TypeKind.stack

-- Card 3: methods, each a domain and a type.
abbrev pub methods_out : List ℕ → (ℕ → Ty) → Sigs
methods_out [] g = no_method
methods_out (p ∷ []) g = no_method
methods_out (p ∷ a ∷ vs) g = method p (g a) (methods_out vs g)

-- A type of a kind, with the fields vs, its parts written out by g.
unfoldable pub type_out : TypeKind → List ℕ → (ℕ → Ty) → Ty
type_out TypeKind.unit vs g = Ty.unit
type_out TypeKind.truth vs g = Ty.truth
type_out TypeKind.number vs g = Ty.number
type_out TypeKind.pair vs g = Ty.pair (g (get_or vs 0 0)) (g (get_or vs 1 0))
type_out TypeKind.fun vs g = Ty.fun (g (get_or vs 0 0)) (get_or vs 1 0) (g (get_or vs 2 0))
type_out TypeKind.ref vs g = Ty.ref (g (get_or vs 0 0)) (get_or vs 1 0)
type_out TypeKind.label vs g = Ty.label (g (get_or vs 0 0)) (get_or vs 1 0)
type_out TypeKind.pcd vs g = Ty.pointcut (g (get_or vs 0 0)) (get_or vs 1 0)
type_out TypeKind.adv vs g = Ty.advice (get_or vs 0 0)
type_out TypeKind.obj vs g = Ty.object (methods_out vs g)
type_out TypeKind.stack vs g = Ty.stack

-- A type's parts have lower numbers, so a fuel of t + 1 is enough.
unfoldable pub type_from : Layout → ℕ → ℕ → Ty
type_from L zero t = Ty.unit
type_from L (suc f) t = type_out (type_kind L t) (type_fields L t) (λ a. type_from L f a)

-- Type number t written out in full.
unfoldable pub type_of : Layout → ℕ → Ty
type_of L t = type_from L (suc t) t

-- The type that term n states, and the root's.
abbrev pub stated_type : Layout → ℕ → Ty
stated_type L n = type_of L (type_no L n)

abbrev pub root_type : Layout → Ty
root_type L = stated_type L (root_of L)
