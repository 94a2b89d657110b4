-- The number that the table has for a type says all that the rules ask of it, but for an object's.
use Prim.Native.Nat.{ℕ, zero, suc, ◌+◌, ◌<◌}
use native.Mathlib.Omega.{arith}
use mathlib.Core.Path.{◌≡◌, refl, sym, ap, subst, ◌∙◌}
use mathlib.Core.List.{List, ◌∷◌}
use lib.ListN.{length, get_or, drop}
use lib.Seq.{get_or-drop}
use Rattle.image.specs.Kinds.{domain, type, row_of}
use Rattle.image.specs.Records.{Layout, or_else, kind_at, numbers_at}
use Rattle.image.specs.Layout.{records_of}
use Rattle.image.specs.Types.{type_place, type_kind, type_fields, type_field, method_count}
use Rattle.image.proofs.Laid.{LayoutOk, layout_good, image_kept}
use Rattle.verdict.specs.Rules.{Descriptor}
use Rattle.verdict.specs.Check.{describe}
use Rattle.verdict.proofs.Descriptors.{same_descriptor}
use Rattle.read_records.specs.Descriptors.{descriptor_kind, descriptor_field0, descriptor_field1, descriptor_field2, field_or0, Describes}
use Rattle.read_terms.specs.Lent.{Types, IsType}

-- What the descriptor x says of type t, the definition telling what a descriptor has no room for: the fields behind the third, and how many methods there are.
abbrev pub unpacked : Layout → ℕ → ℕ → Descriptor
unpacked L t x =
    record {
      number = t;
      kind = descriptor_kind x;
      part = λ i. get_or (descriptor_field0 x ∷ descriptor_field1 x ∷ descriptor_field2 x ∷ drop 3 (type_fields L t)) i 0;
      methods = method_count L t;
    }

module _ (L : Layout) (good : LayoutOk L) (t : ℕ) (h : t < length L.types) where
  kind_at_lem : kind_at L.image (type_place L t) ≡ type (type_kind L t)
  kind_at_lem = ap (λ q. or_else q domain) (good.types t h).kind

  read : (i : ℕ) → type_field L t i ≡ field_or0 L.image (type_place L t) i
  read i = ap (λ K. get_or (numbers_at L.image (type_place L t) (row_of K)) i 0) (sym kind_at_lem)

  part_is : (x : ℕ) → Describes L.image (type_place L t) x → (i : ℕ) → type_field L t i ≡ (unpacked L t x).part i
  part_is x descriptor zero = read 0 ∙ sym descriptor.field0
  part_is x descriptor (suc zero) = read 1 ∙ sym descriptor.field1
  part_is x descriptor (suc (suc zero)) = read 2 ∙ sym descriptor.field2
  part_is x descriptor (suc (suc (suc i))) = let e : 3 + i ≡ suc (suc (suc i)) = omega arith in sym (get_or-drop 3 (type_fields L t) i 0 ∙ ap (λ j. get_or (type_fields L t) j 0) e)

pub describes : {b descriptors : List ℕ} → Types b descriptors → {t : ℕ} → IsType b t → describe (records_of b) t ≡ unpacked (records_of b) t (get_or descriptors t 0)
describes {b} {descriptors} T {t} h =
    let L : Layout = records_of b in
    let e : L.image ≡ b = image_kept b L T.laid_out in
    let descriptor : Describes L.image (type_place L t) (get_or descriptors t 0) = subst (λ i. Describes i (type_place L t) (get_or descriptors t 0)) (sym e) (T.descriptors t h) in
    same_descriptor (describe L t) (unpacked L t (get_or descriptors t 0)) refl (sym descriptor.kind) (part_is L (layout_good b L T.laid_out) t h (get_or descriptors t 0) descriptor) refl
