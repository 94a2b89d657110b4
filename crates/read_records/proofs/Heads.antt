-- The record reader's answers, case by case.
use Prim.Native.Nat.{ℕ, ◌+◌, ◌-◌, ◌≤◌, ◌<◌}
use native.Mathlib.Omega.{arith}
use Rattle.std.specs.Prelude.{Option, None, Result, Ok, Err}
use mathlib.Core.Path.{◌≡◌, refl, sym, ap}
use mathlib.Core.Bool.{Bool, true, false}
use mathlib.Core.List.{List}
use lib.ListN.{length}
use lib.Dec.{leb}
use borrow.Author.Tests.{le-leb, lt-leb}
use Rattle.image.specs.declared.Refusal.{Refusal}
use Rattle.image.specs.Bytes.{length_at, number_at}
use Rattle.laws.specs.Tests.{all}
use Rattle.image.specs.Layout.{framed}
use Rattle.laws.proofs.Booleans.{no_path, le_of}
use Rattle.laws.proofs.Tests.{each}
use Rattle.read_records.specs.declared.reader.Head.{Head}
use Rattle.read_records.specs.Heads.{a_record, head_at}

module _ (b : List ℕ) (o : ℕ) where
  pub at_end_lem : length b ≤ o → Ok None ≡ head_at b o
  at_end_lem h = simp (le-leb _ _ h)

  -- refusal 2: 1 to 3 bytes left, length under 4, or past the end
  pub cut_off : o < length b → length b - o < 4 → Err Refusal.BrokenRecord ≡ head_at b o
  unfolding all
  cut_off h k = let z : length b < o + 4 = omega arith in simp (lt-leb _ _ h, lt-leb _ _ z)

  pub too_short : 4 ≤ length b - o → length_at b o < 4 → Err Refusal.BrokenRecord ≡ head_at b o
  unfolding all
  too_short h k =
      let z : o < length b = omega arith in
      let y : o + 4 ≤ length b = omega arith in
      simp (lt-leb _ _ z, le-leb _ _ y, lt-leb _ _ k)

  pub too_long : 4 ≤ length b - o → 4 ≤ length_at b o → length b - o < length_at b o → Err Refusal.BrokenRecord ≡ head_at b o
  unfolding all
  too_long h k l =
      let z : o < length b = omega arith in
      let y : o + 4 ≤ length b = omega arith in
      let x : length b < o + length_at b o = omega arith in
      simp (lt-leb _ _ z, le-leb _ _ y, le-leb _ _ k, lt-leb _ _ x)

  pub whole : 4 ≤ length b - o → 4 ≤ length_at b o → length_at b o ≤ length b - o → a_record (length_at b o) (number_at b o) ≡ head_at b o
  unfolding all
  whole h k l =
      let z : o < length b = omega arith in
      let y : o + 4 ≤ length b = omega arith in
      let x : o + length_at b o ≤ length b = omega arith in
      simp (lt-leb _ _ z, le-leb _ _ y, le-leb _ _ k, le-leb _ _ x)

-- What a whole record's answer tells.
pub record Whole (b : List ℕ) (o n k : ℕ) : Type 0 where
  pub framed : framed b o ≡ true
  pub len : n ≡ length_at b o
  pub kind : k ≡ number_at b o
  pub long : 4 ≤ n
  pub inside : o + n ≤ length b

pub whole_of : (b : List ℕ) (o n k : ℕ) → head_at b o ≡ a_record n k → Whole b o n k
whole_of b o n k h = go (leb (length b) o) refl (framed b o) refl
  where
    go : (t : Bool) → leb (length b) o ≡ t → (u : Bool) → framed b o ≡ u → Whole b o n k
    go true e u f = let z : ◌≡◌ {A = Result (Option Head) Refusal} (Ok None) (a_record n k) = rw e at h in no_path cc
    go false e true f =
        let z : a_record (length_at b o) (number_at b o) ≡ a_record n k = rw (e, f) at h in
        let same : ◌≡◌ {A = Head} (record { len = length_at b o; kind = number_at b o }) (record { len = n; kind = k }) = cc in
        let l : n ≡ length_at b o = sym (ap (λ (h : Head). h.len) same) in
        let m : k ≡ number_at b o = sym (ap (λ (h : Head). h.kind) same) in
        let fs = each _ f in
        let x : 4 ≤ length_at b o = le_of fs.1.0 in
        let y : o + length_at b o ≤ length b = le_of fs.1.1.0 in
        record { framed = f; len = l; kind = m; long = omega arith; inside = omega arith }
    go false e false f = let z : Err Refusal.BrokenRecord ≡ a_record n k = rw (e, f) at h in no_path cc

-- What the other answers tell.
pub broken_of : (b : List ℕ) (o : ℕ) (r : Refusal) → head_at b o ≡ Err r → (framed b o ≡ false) × (r ≡ Refusal.BrokenRecord)
broken_of b o r h = go (leb (length b) o) refl (framed b o) refl
  where
    go : (t : Bool) → leb (length b) o ≡ t → (u : Bool) → framed b o ≡ u → (framed b o ≡ false) × (r ≡ Refusal.BrokenRecord)
    go true e u f = let z : ◌≡◌ {A = Result (Option Head) Refusal} (Ok None) (Err r) = rw e at h in no_path cc
    go false e true f = let z : a_record (length_at b o) (number_at b o) ≡ Err r = rw (e, f) at h in no_path cc
    go false e false f = let z : Err Refusal.BrokenRecord ≡ Err r = rw (e, f) at h in (f, cc)

pub end_of : (b : List ℕ) (o : ℕ) → head_at b o ≡ Ok None → length b ≤ o
end_of b o h = go (leb (length b) o) refl (framed b o) refl
  where
    go : (t : Bool) → leb (length b) o ≡ t → (u : Bool) → framed b o ≡ u → length b ≤ o
    go true e u f = le_of e
    go false e true f = let z : a_record (length_at b o) (number_at b o) ≡ Ok None = rw (e, f) at h in no_path cc
    go false e false f = let z : Err Refusal.BrokenRecord ≡ Ok None = rw (e, f) at h in no_path cc
