-- Reading back records that stand end to end.
use Prim.Native.Nat.{ℕ, zero, suc, ◌+◌, ◌-◌, ◌/◌, ◌%◌, ◌≤◌, ◌<◌}
use native.Mathlib.Omega.{arith}
use mathlib.Core.Path.{◌≡◌, refl, sym, ap, ap₂, ◌∙◌}
use mathlib.Core.Bool.{false}
use mathlib.Core.List.{List, [], ◌∷◌, ◌++◌}
use lib.ListN.{length, take, drop, length-append}
use lib.Seq.{take-append_seam, drop-append_seam}
use borrow.Author.Tests.{le-leb}
use Rattle.calculus.specs.Combinators.{choose}
use Rattle.laws.proofs.Lists.{All, All.all_nil, All.all_cons}
use Rattle.base_bytes.specs.Bytes.{bytes_of, number_of, number_at}
use Rattle.base_bytes.specs.Records.{Record, record_bytes}
use Rattle.report.specs.Records.{records_bytes, length_of, is_whole, first_record, records_after, records_in}

-- After so many bytes.
after_drop : (k : ℕ) (b : List ℕ) → records_after k b ≡ records_in (drop k b)
unfolding records_after
after_drop zero b = refl
after_drop (suc k) [] = refl
after_drop (suc k) (a ∷ b) = after_drop k b

-- Bytes that begin with no whole record hold none.
pub read_none : (b : List ℕ) → is_whole b ≡ false → records_in b ≡ []
unfolding records_after
read_none [] e = refl
read_none (a ∷ b) e = ap (λ w. choose w (first_record (a ∷ b) ∷ records_after (length_of (a ∷ b) - 1) b) []) e

-- A whole record and the bytes after it.
read_first : (a : ℕ) (b : List ℕ) (n : ℕ) → length_of (a ∷ b) ≡ suc n → 4 ≤ suc n → suc n ≤ length (a ∷ b)
    → records_in (a ∷ b) ≡ record { kind = number_at 2 2 (a ∷ b); fields = take (suc n - 4) (drop 4 (a ∷ b)) } ∷ records_in (drop n b)
unfolding records_after
read_first a b n e h l =
    let m : suc n - 1 ≡ n = omega arith in
    let r : Record = record { kind = number_at 2 2 (a ∷ b); fields = take (suc n - 4) (drop 4 (a ∷ b)) } in
    rw (e, le-leb 4 (suc n) h, le-leb (suc n) (length (a ∷ b)) l, m) (ap (r ∷◌) (after_drop n b))

pub read_whole : (b : List ℕ) → 4 ≤ length_of b → length_of b ≤ length b → records_in b ≡ first_record b ∷ records_in (drop (length_of b) b)
read_whole [] h l = absurd (omega arith)
read_whole (a ∷ b) h l =
    let n : length_of (a ∷ b) ≡ suc (length_of (a ∷ b) - 1) = omega arith in
    read_first a b (length_of (a ∷ b) - 1) n (omega arith) (omega arith)
    ∙ ap₂ ◌∷◌ (ap (λ m. record { kind = number_at 2 2 (a ∷ b); fields = take (m - 4) (drop 4 (a ∷ b)) }) (sym n)) (ap (λ m. records_in (drop m (a ∷ b))) (sym n))

-- A record whose kind and length fit their fields.
pub record Short (r : Record) : Type 0 where
  pub kind : r.kind < 65536
  pub length : 4 + length r.fields < 65536

pub read_record : (r : Record) → Short r → (b : List ℕ) → records_in (record_bytes r ++ b) ≡ r ∷ records_in b
unfolding bytes_of number_at number_of
read_record r s b =
    let m : ℕ = length r.fields in
    let n : ℕ = 4 + m in
    let rest : List ℕ = n / 256 % 256 ∷ r.kind % 256 ∷ r.kind / 256 % 256 ∷ (r.fields ++ b) in
    let l = length-append r.fields b in
    let w = read_first (n % 256) rest (suc (suc (suc m))) (omega arith) (omega arith) (omega arith) in
    let k : number_at 2 2 (n % 256 ∷ rest) ≡ r.kind = omega arith in
    let i : suc (suc (suc (suc m))) - 4 ≡ m = omega arith in
    let f : take (suc (suc (suc (suc m))) - 4) (r.fields ++ b) ≡ r.fields = ap (λ j. take j (r.fields ++ b)) i ∙ take-append_seam r.fields b in
    w ∙ ap₂ ◌∷◌ (λ t. record { kind = k t; fields = f t }) (ap records_in (drop-append_seam r.fields b))

pub read_records : {rs : List Record} → All Short rs → records_in (records_bytes rs) ≡ rs
unfolding records_bytes records_after
read_records all_nil = refl
read_records (all_cons {x = r} {xs = rs} s h) = read_record r s (records_bytes rs) ∙ ap (r ∷◌) (read_records h)
