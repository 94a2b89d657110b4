-- What is read off a type's descriptor (the crate read_records, specs/Descriptors.antt) and the table of leaf counts: its kind; the p of document 01's types 20 to 24 ("The image"); whether a cell is plain ("A run": "a plain cell is kind 68, its domain").
use Rattle.std.specs.Prelude.{ℕ, ◌<◌, ◌≡◌, Bool, not, ◌&&◌, List, length, get_or, eqb, ltb}
use Rattle.calculus.specs.Combinators.{choose}
use Rattle.image.specs.Kinds.{TypeKind, type_row_of}
use Rattle.image.specs.Limits.{domain_limit}
use Rattle.read_records.specs.Descriptors.{descriptor_kind, descriptor_field0, descriptor_field1}

-- The descriptor x is of a type of kind k.
abbrev pub descriptor_is : ℕ → TypeKind → Bool
descriptor_is x k = eqb (descriptor_kind x) (type_row_of k).number

-- The domain that the type names: the first field of an advice type, the second of a function, reference, label or pointcut type; 0 for any other.
abbrev pub descriptor_domain : ℕ → ℕ
descriptor_domain x =
    choose (eqb (descriptor_kind x) (type_row_of TypeKind.adv).number) (descriptor_field0 x)
    (choose (ltb (type_row_of TypeKind.adv).number (descriptor_kind x)) 0 (choose (ltb (type_row_of TypeKind.pair).number (descriptor_kind x)) (descriptor_field1 x) 0))

-- It is a reference type, and what it refers to is plain.
abbrev pub descriptor_plain : List ℕ → ℕ → Bool
descriptor_plain leaf-table x = eqb (descriptor_kind x) (type_row_of TypeKind.ref).number && not (eqb (get_or leaf-table (descriptor_field0 x) 0) 0)

-- What is asked of a descriptor: its domain is one of 16, and the table of leaf counts has what a reference type refers to.
abbrev pub DescriptorFits : List ℕ → ℕ → Type 0
DescriptorFits leaf-table x = (descriptor_domain x < domain_limit) × (descriptor_kind x ≡ (type_row_of TypeKind.ref).number → descriptor_field0 x < length leaf-table)
