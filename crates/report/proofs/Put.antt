-- Records written field by field: what the functions that write them need.
use Prim.Native.Nat.{ℕ, ◌+◌, ◌≤◌, ◌<◌}
use native.Mathlib.Omega.{arith}
use mathlib.Core.Path.{◌≡◌, refl, ap, ◌∙◌}
use mathlib.Core.List.{List, ◌++◌, append_assoc}
use lib.ListN.{length, get_or, length-append}
use Rattle.base_bytes.specs.Bytes.{bytes_of, over}
use Rattle.base_bytes.proofs.Over.{length_over, onward, over_before}
use Rattle.report.specs.declared.Slot.{Slot}
use Rattle.base_bytes.specs.Records.{bytes16, record_bytes}
use Rattle.report.specs.Written.{leaf_bytes, leaves_bytes, leaves_in}
use Rattle.report.proofs.Lengths.{leaves_more, leaf_short}

abbrev pub header_bytes : ℕ → ℕ → List ℕ
header_bytes size kind = bytes16 size ++ bytes16 kind

module _ (kind : ℕ) (xs : List ℕ) (o : ℕ) where
  -- The length and the kind, then the fields.
  pub record_written : (fields : List ℕ) (size : ℕ) {ys zs : List ℕ} → size ≡ 4 + length fields → ys ≡ over o (header_bytes size kind) xs → zs ≡ over (o + 4) fields ys → o + size ≤ length xs
      → zs ≡ over o (record_bytes (record { kind = kind; fields = fields })) xs
  unfolding bytes_of
  record_written fields size {ys} {zs} e a b h =
      let w : zs ≡ over o (header_bytes size kind ++ fields) xs = onward (header_bytes size kind) fields xs o (o + 4) a b refl (omega arith) in
      rw e at w

  -- Of two fields.
  pub fields_written : (f g : List ℕ) (size j : ℕ) {ys zs ws : List ℕ} → size ≡ 4 + length f + length g → j ≡ o + 4 + length f
      → ys ≡ over o (header_bytes size kind) xs → zs ≡ over (o + 4) f ys → ws ≡ over j g zs → o + size ≤ length xs
      → ws ≡ over o (record_bytes (record { kind = kind; fields = f ++ g })) xs
  unfolding bytes_of
  fields_written f g size j {ys} e i a b d h =
      let n = length-append f g in
      let m : length ys ≡ length xs = ap length a ∙ length_over (header_bytes size kind) xs o (omega arith) in
      record_written (f ++ g) size (omega arith) a (onward f g ys (o + 4) j b d i (omega arith)) h

  -- The last field first, then the length, the kind and the field before it.
  pub header_last : (f g : List ℕ) (size j : ℕ) {ys zs ws : List ℕ} → size ≡ 4 + length f + length g → j ≡ o + 4 + length f
      → ys ≡ over j g xs → zs ≡ over o (header_bytes size kind) ys → ws ≡ over (o + 4) f zs → o + size ≤ length xs
      → ws ≡ over o (record_bytes (record { kind = kind; fields = f ++ g })) xs
  unfolding bytes_of
  header_last f g size j {ys} {zs} {ws} e i a b d h =
      let n = length-append f g in
      let m : length ys ≡ length xs = ap length a ∙ length_over g xs j (omega arith) in
      let k = length-append (header_bytes size kind) f in
      let w : ws ≡ over o (header_bytes size kind ++ f) ys = onward (header_bytes size kind) f ys o (o + 4) b d refl (omega arith) in
      let v : ws ≡ over o (header_bytes size kind ++ f ++ g) xs = w ∙ ap (over o (header_bytes size kind ++ f)) a ∙ over_before (header_bytes size kind ++ f) g xs o j (omega arith) (omega arith) in
      let u : size ≡ 4 + length (f ++ g) = omega arith in
      rw (append_assoc (header_bytes size kind) f g, u) at v

-- One more leaf right after those written.
pub leaves_step : (slots : List Slot) (xs : List ℕ) (o i j : ℕ) (d : Slot) {r : ℕ} {ys zs : List ℕ} → i < length slots
    → j ≡ o + length (leaves_bytes (leaves_in i slots)) → ys ≡ over o (leaves_bytes (leaves_in i slots)) xs
    → r ≡ j + length (leaf_bytes (get_or slots i d).leaf) → zs ≡ over j (leaf_bytes (get_or slots i d).leaf) ys → j + 8 ≤ length xs
    → (r ≡ o + length (leaves_bytes (leaves_in (i + 1) slots))) × (zs ≡ over o (leaves_bytes (leaves_in (i + 1) slots)) xs) × (r ≤ j + 8)
leaves_step slots xs o i j d h e a k b l =
    let s = leaf_short (get_or slots i d).leaf in
    let n = length-append (leaves_bytes (leaves_in i slots)) (leaf_bytes (get_or slots i d).leaf) in
    rw (leaves_more slots i d h) (omega arith, onward (leaves_bytes (leaves_in i slots)) (leaf_bytes (get_or slots i d).leaf) xs o j a b e (omega arith), omega arith)
