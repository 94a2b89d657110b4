-- Numbers of 16 bits, one behind the other.
use Prim.Native.Nat.{ℕ, ◌+◌, ◌*◌, ◌/◌, ◌%◌, ◌≤◌, ◌<◌}
use native.Mathlib.Omega.{arith}
use native.Mathlib.Numerals.{add-one}
use mathlib.Core.Path.{◌≡◌, refl, sym, ap, ◌∙◌}
use mathlib.Core.List.{List, [], ◌∷◌, ◌++◌}
use lib.ListN.{length, get_or, take}
use lib.Seq.{take-suc, length-take-le}
use Rattle.base_bytes.specs.Bytes.{bytes_of, over}
use Rattle.base_bytes.specs.Records.{bytes16}
use Rattle.base_bytes.proofs.Over.{onward}
use Rattle.image_written.specs.Records.{little}
use Rattle.image_written.proofs.Reading.{little_length}

pub one_number : (v : ℕ) → v < 65536 → bytes16 v ≡ little (v ∷ [])
unfolding bytes_of little
one_number v h = let z : v / 256 % 256 ≡ v / 256 = omega arith in ap (λ w. v % 256 ∷ w ∷ []) z

pub two_numbers : (v w : ℕ) → v < 65536 → w < 65536 → bytes16 v ++ bytes16 w ≡ little (v ∷ w ∷ [])
unfolding bytes_of little
two_numbers v w h k = let z : v / 256 % 256 ≡ v / 256 = omega arith in let y : w / 256 % 256 ≡ w / 256 = omega arith in cc

pub little_snoc : (ns : List ℕ) (v : ℕ) → little (ns ++ (v ∷ [])) ≡ little ns ++ little (v ∷ [])
unfolding little
little_snoc [] v = refl
little_snoc (n ∷ ns) v = ap (λ xs. n % 256 ∷ n / 256 ∷ xs) (little_snoc ns v)

-- One number more.
pub number_step : (ns out₀ out out' : List ℕ) (at i : ℕ) → i < length ns → at + 2 * (i + 1) ≤ length out₀ → get_or ns i 0 < 65536
    → out ≡ over at (little (take i ns)) out₀ → out' ≡ over (at + 2 * i) (bytes16 (get_or ns i 0)) out → out' ≡ over at (little (take (i + 1) ns)) out₀
unfolding bytes_of
number_step ns out₀ out out' at i l capacity small e f =
    let n : length (little (take i ns)) ≡ 2 * i = little_length (take i ns) ∙ omega (arith, length-take-le i ns (omega arith)) in
    let one : take (i + 1) ns ≡ take i ns ++ (get_or ns i 0 ∷ []) = rw (add-one i) (take-suc ns i 0 l) in
    let w : little (take i ns) ++ bytes16 (get_or ns i 0) ≡ little (take (i + 1) ns) = ap (λ xs. little (take i ns) ++ xs) (one_number (get_or ns i 0) small) ∙ sym (little_snoc (take i ns) (get_or ns i 0)) ∙ ap (λ xs. little xs) (sym one) in
    onward (little (take i ns)) (bytes16 (get_or ns i 0)) out₀ at (at + 2 * i) e f (omega arith) (omega arith) ∙ ap (λ bs. over at bs out₀) w

-- The numbers behind the head of a record.
pub record_whole : (s k : ℕ) (ns out₀ out out' : List ℕ) (at : ℕ) → at + (4 + 2 * length ns) ≤ length out₀ → out ≡ over at (little (s ∷ k ∷ [])) out₀ → out' ≡ over (at + 4) (little ns) out → out' ≡ over at (little (s ∷ k ∷ ns)) out₀
unfolding little
record_whole s k ns out₀ out out' at capacity e f = onward (little (s ∷ k ∷ [])) (little ns) out₀ at (at + 4) e f refl (omega (arith, little_length ns))
