-- The domain that a descriptor names, by the kind of its type, and whether what it refers to is plain.
use Prim.Native.Nat.{ℕ, ◌≤◌, ◌<◌}
use native.Mathlib.Omega.{arith}
use mathlib.Core.Path.{◌≡◌, refl}
use mathlib.Core.Bool.{false, not}
use mathlib.Core.List.{List}
use lib.ListN.{get_or}
use lib.Dec.{eqb}
use borrow.Author.Tests.{lt-ltb, le-ltb, ne_eqb}
use Rattle.read_records.specs.Descriptors.{descriptor_kind, descriptor_field0, descriptor_field1}
use Rattle.read_terms.specs.Descriptors.{descriptor_domain, descriptor_plain}

module _ (x : ℕ) where
  pub advice_domain : descriptor_kind x ≡ 24 → descriptor_field0 x ≡ descriptor_domain x
  advice_domain e = rw e refl

  pub object_domain : 24 < descriptor_kind x → 0 ≡ descriptor_domain x
  object_domain l = rw (ne_eqb (descriptor_kind x) 24 (λ e. omega arith), lt-ltb _ _ l) refl

  pub second_domain : (descriptor_kind x ≡ 24 → ⊥) → descriptor_kind x ≤ 24 → 19 < descriptor_kind x → descriptor_field1 x ≡ descriptor_domain x
  second_domain e h l = rw (ne_eqb (descriptor_kind x) 24 e, le-ltb _ _ h, lt-ltb _ _ l) refl

  pub no_domain : descriptor_kind x ≤ 19 → 0 ≡ descriptor_domain x
  no_domain l =
      let h : descriptor_kind x ≤ 24 = omega arith in
      rw (ne_eqb (descriptor_kind x) 24 (λ e. omega arith), le-ltb _ _ h, le-ltb _ _ l) refl

  pub is_plain_lem : (ls : List ℕ) → descriptor_kind x ≡ 21 → not (eqb (get_or ls (descriptor_field0 x) 0) 0) ≡ descriptor_plain ls x
  is_plain_lem ls e = rw e refl

  pub not_plain : (ls : List ℕ) → (descriptor_kind x ≡ 21 → ⊥) → false ≡ descriptor_plain ls x
  not_plain ls e = rw (ne_eqb (descriptor_kind x) 21 e) refl
