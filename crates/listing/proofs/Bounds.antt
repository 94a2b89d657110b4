-- How long the text of a call can be: every record of n bytes of log makes at most 6 n bytes of text, every record of n bytes of report at most 9 n.
use Prim.Native.Nat.{ℕ, zero, suc, ◌+◌, ◌-◌, ◌*◌, ◌/◌, ◌%◌, ◌≤◌, ◌<◌}
use native.Mathlib.Omega.{arith}
use native.Mathlib.Nat.{mul-add}
use mathlib.Core.Path.{◌≡◌, refl, ap, ◌∙◌}
use mathlib.Core.Bool.{Bool, true, false}
use mathlib.Core.List.{List, [], ◌∷◌, ◌++◌}
use mathlib.Core.Option.{Option, none, some}
use lib.ListN.{length, get_or, take, drop, length-append, length-take, length-drop}
use lib.Seq.{get_or-drop}
use lib.Dec.{leb, ltb, eqb}
use borrow.Author.Tests.{ltb-true, ltb-false, leb-true}
use Rattle.calculus.proofs.EveryOutcome.{at_outcome}
use Rattle.calculus.specs.declared.Outcome.{Outcome}
use Rattle.calculus.specs.declared.Leaf.{Leaf}
use Rattle.calculus.specs.Combinators.{choose}
use Rattle.calculus.specs.Limits.{word_size, sign_bit}
use Rattle.calculus.specs.State.{picked}
use Rattle.calculus.specs.Report.{outcome_number}
use Rattle.image.specs.declared.Refusal.{Refusal}
use Rattle.image.specs.Refusals.{refusal_number}
use Rattle.base_bytes.specs.Bytes.{number_of, number_at}
use Rattle.base_bytes.specs.Records.{Record}
use Rattle.report.specs.declared.Ending.{Ending}
use Rattle.report.specs.Records.{length_of, is_whole, first_record, records_in}
use Rattle.report.specs.Read.{print_in, leaf_in, cell_in_of, read_report}
use Rattle.report.proofs.ReadRecords.{read_none, read_whole}
use Rattle.listing_lines.specs.Text.{ascii, decimal, signed_decimal, texts}
use Rattle.listing_lines.specs.Lines.{print_line, leaf_text, outcome_word, outcome_line, value_line, result_line, ending_lines, cell_line, refusal_line}
use Rattle.listing.specs.Listing.{run_listing, listing_bound, refusal_bound}
use Rattle.listing_lines.specs.Offsets.{text_if, print_text_in, leaf_text_in, cell_text_in}
use Rattle.listing_lines.proofs.Decimal.{one_digit, more_digits}
use Rattle.listing_lines.proofs.Walk.{text_in, text_record, whole_long, whole_within}

-- Numbers below 10 have one digit, and numbers below ten times as much have one more.
tenfold : (m k : ℕ) → ((n : ℕ) → n < m → length (decimal n) ≤ suc k) → (n : ℕ) → n < 10 * m → length (decimal n) ≤ suc (suc k)
tenfold m k h n l = look (ltb n 10) refl
  where
    look : (b : Bool) → ltb n 10 ≡ b → length (decimal n) ≤ suc (suc k)
    look true e = let d = ap length (one_digit n (48 + n % 10) (ltb-true n 10 e) refl) in omega arith
    look false e =
        let d : length (decimal n) ≡ length (decimal (n / 10)) + 1 = ap length (more_digits n (48 + n % 10) (ltb-false n 10 e) refl) ∙ length-append (decimal (n / 10)) ((48 + n % 10) ∷ []) in
        let s = h (n / 10) (omega arith) in
        omega arith

tens : ℕ → ℕ
tens zero = 10
tens (suc k) = 10 * tens k

digits_few : (k n : ℕ) → n < tens k → length (decimal n) ≤ suc k
unfolding tens
digits_few zero n h = let d = ap length (one_digit n (48 + n % 10) h refl) in omega arith
digits_few (suc k) n h = tenfold (tens k) k (digits_few k) n h

short_decimal : (n : ℕ) → n < 65536 → length (decimal n) ≤ 5
unfolding tens
short_decimal n h = digits_few 4 n (omega arith)

word_decimal : (n : ℕ) → n ≤ word_size → length (decimal n) ≤ 10
unfolding tens
word_decimal n h = digits_few 9 n (omega arith)

place_decimal : (n : ℕ) → n < 18446744073709551616 → length (decimal n) ≤ 20
unfolding tens
place_decimal n h = digits_few 19 n (omega arith)

signed_few : (n : ℕ) → n < word_size → length (signed_decimal n) ≤ 11
signed_few n h = look (ltb n sign_bit)
  where
    look : (b : Bool) → length (choose b (decimal n) (ascii "-" ++ decimal (word_size - n))) ≤ 11
    look true = let d = word_decimal n (omega arith) in omega arith
    look false = let d = word_decimal (word_size - n) (omega arith) in omega arith

-- Bytes, and the numbers in them.
abbrev pub Bytes : List ℕ → Type 0
Bytes b = (i : ℕ) → get_or b i 0 < 256

bytes_drop : (n : ℕ) (b : List ℕ) → Bytes b → Bytes (drop n b)
bytes_drop n b h i = let e = get_or-drop n b i 0 in let k = h (n + i) in omega arith

bytes_take : (n : ℕ) (b : List ℕ) → Bytes b → Bytes (take n b)
bytes_take zero b h i = omega arith
bytes_take (suc n) [] h i = h i
bytes_take (suc n) (x ∷ b) h zero = h 0
bytes_take (suc n) (x ∷ b) h (suc i) = bytes_take n b (λ j. h (suc j)) i

short_small : (b : List ℕ) → Bytes b → number_of (take 2 b) < 65536
unfolding number_of
short_small [] h = omega arith
short_small (x ∷ []) h = let a = h 0 in omega arith
short_small (x ∷ y ∷ b) h = let a = h 0 in let c = h 1 in omega arith

word_small : (b : List ℕ) → Bytes b → number_of (take 4 b) < word_size
unfolding number_of
word_small [] h = omega arith
word_small (x ∷ []) h = let a = h 0 in omega arith
word_small (x ∷ y ∷ []) h = let a = h 0 in let c = h 1 in omega arith
word_small (x ∷ y ∷ z ∷ []) h = let a = h 0 in let c = h 1 in let d = h 2 in omega arith
word_small (x ∷ y ∷ z ∷ w ∷ b) h = let a = h 0 in let c = h 1 in let d = h 2 in let e = h 3 in omega arith

-- The text of records, from that of each.
module _ {A : Type 0} (f : A → List ℕ) (g : Record → Option A) (c : ℕ) (each : (r : Record) → Bytes r.fields → length (text_if f (g r)) ≤ c * (4 + length r.fields)) where
  text_here : (b : List ℕ) → Bytes b → ((n : ℕ) → 4 ≤ n → n ≤ length b → length (text_in f g (drop n b)) ≤ c * length (drop n b)) → (w : Bool) → is_whole b ≡ w → length (text_in f g b) ≤ c * length b
  unfolding picked texts
  text_here b h next false e = let z : length (text_in f g b) ≡ 0 = ap (λ rs. length (texts f (picked g rs))) (read_none b e) in omega arith
  text_here b h next true e =
      let n : ℕ = length_of b in
      let r : Record = first_record b in
      let l4 : 4 ≤ n = whole_long (leb 4 n) (leb n (length b)) n refl e in
      let ln : n ≤ length b = whole_within (leb 4 n) (leb n (length b)) n (length b) refl e in
      let t : length (text_in f g b) ≡ length (text_if f (g r)) + length (text_in f g (drop n b)) =
      ap length (ap (λ rs. texts f (picked g rs)) (read_whole b l4 ln) ∙ text_record f g r (records_in (drop n b))) ∙ length-append (text_if f (g r)) (text_in f g (drop n b)) in
      let d4 = length-drop 4 b in
      let dn = length-drop n b in
      let k = length-take (n - 4) (drop 4 b) in
      let m : 4 + length r.fields ≡ n = omega arith in
      let s : c * length b ≡ c * (4 + length r.fields) + c * length (drop n b) = ap (c *◌) (let q : length b ≡ 4 + length r.fields + length (drop n b) = omega arith in q) ∙ mul-add c (4 + length r.fields) (length (drop n b)) in
      let one = each r (bytes_take (n - 4) (drop 4 b) (bytes_drop 4 b h)) in
      let rest = next n l4 ln in
      omega arith

  text_within : (m : ℕ) (b : List ℕ) → length b ≤ m → Bytes b → length (text_in f g b) ≤ c * length b
  text_within zero b l h = text_here b h (λ n k q. absurd (omega arith)) (is_whole b) refl
  text_within (suc m) b l h = text_here b h (λ n k q. (let d = length-drop n b in text_within m (drop n b) (omega arith) (bytes_drop n b h))) (is_whole b) refl

  pub text_short : (b : List ℕ) → Bytes b → length (text_in f g b) ≤ c * length b
  text_short b h = text_within (length b) b (omega arith) h

-- One record: a print, a leaf, a cell.
print_short : (r : Record) → Bytes r.fields → length (print_text_in r) ≤ 6 * (4 + length r.fields)
unfolding number_at
print_short r h = look (eqb r.kind 64)
  where
    d : ℕ
    d = number_at 2 0 r.fields

    n : ℕ
    n = number_at 4 2 r.fields

    look : (b : Bool) → length (text_if print_line (choose b (some (record { dom = d; shown = n })) none)) ≤ 6 * (4 + length r.fields)
    look true =
        let a = short_decimal d (short_small r.fields h) in
        let e = signed_few n (word_small (drop 2 r.fields) (bytes_drop 2 r.fields h)) in
        let t = length-append (ascii "log " ++ decimal d ++ ascii " " ++ signed_decimal n) (ascii "\n") in
        let u = length-append (ascii "log " ++ decimal d ++ ascii " ") (signed_decimal n) in
        let v = length-append (ascii "log " ++ decimal d) (ascii " ") in
        omega arith
    look false = omega arith

leaf_short : (r : Record) → Bytes r.fields → length (leaf_text_in r) ≤ 3 * (4 + length r.fields)
unfolding number_at
leaf_short r h = look (eqb r.kind 65) (eqb r.kind 66) (eqb r.kind 67)
  where
    t : Bool
    t = eqb (number_at 2 0 r.fields) 1

    n : ℕ
    n = number_at 4 0 r.fields

    truth : (b : Bool) → length (leaf_text (Leaf.Truth b)) ≤ 12
    truth true = omega arith
    truth false = omega arith

    look : (a b c : Bool) → length (text_if leaf_text (choose a (some Leaf.Unit) (choose b (some (Leaf.Truth t)) (choose c (some (Leaf.Number n)) none)))) ≤ 3 * (4 + length r.fields)
    look true b c = omega arith
    look false true c = let k = truth t in omega arith
    look false false true = let k = signed_few n (word_small r.fields h) in omega arith
    look false false false = omega arith

pub leaves_short : (b : List ℕ) → Bytes b → length (text_in leaf_text leaf_in b) ≤ 3 * length b
leaves_short = text_short leaf_text leaf_in 3 leaf_short

cell_short : (r : Record) → Bytes r.fields → length (cell_text_in r) ≤ 6 * (4 + length r.fields)
unfolding number_at
cell_short r h = look (eqb r.kind 68) (eqb r.kind 69)
  where
    d : ℕ
    d = number_at 2 0 r.fields

    inside : List Leaf
    inside = picked leaf_in (records_in (drop 2 r.fields))

    look : (a b : Bool) → length (text_if cell_line (choose a (some (record { dom = d; held = some inside })) (choose b (some (record { dom = d; held = none })) none))) ≤ 6 * (4 + length r.fields)
    look true b =
        let a = short_decimal d (short_small r.fields h) in
        let e = leaves_short (drop 2 r.fields) (bytes_drop 2 r.fields h) in
        let k = length-drop 2 r.fields in
        let t = length-append (ascii "cell " ++ decimal d ++ texts leaf_text inside) (ascii "\n") in
        let u = length-append (ascii "cell " ++ decimal d) (texts leaf_text inside) in
        omega arith
    look false true =
        let a = short_decimal d (short_small r.fields h) in
        let t = length-append (ascii "cell " ++ decimal d ++ ascii " other") (ascii "\n") in
        let u = length-append (ascii "cell " ++ decimal d) (ascii " other") in
        omega arith
    look false false = omega arith

-- How a run ended.
word_short : (o : Outcome) → length (ascii (outcome_word o)) ≤ 14
word_short o = leb-true _ _ (at_outcome (λ o. leb (length (ascii (outcome_word o))) 14) (λ o. true) refl o)

outcome_short : (o : Outcome) (steps : ℕ) → steps < word_size → length (outcome_line o steps) ≤ 26
outcome_short o steps h =
    let w = word_short o in
    let d = word_decimal steps (omega arith) in
    let t = length-append (ascii (outcome_word o) ++ ascii " " ++ decimal steps) (ascii "\n") in
    let u = length-append (ascii (outcome_word o) ++ ascii " ") (decimal steps) in
    let v = length-append (ascii (outcome_word o)) (ascii " ") in
    omega arith

result_short : (o : Outcome) (b : List ℕ) → Bytes b → length (result_line o (read_report b).result) ≤ 3 * length b + 6
result_short o b h = look (eqb (outcome_number o) 0)
  where
    look : (d : Bool) → length (choose d (value_line (read_report b).result) []) ≤ 3 * length b + 6
    look true =
        let e = leaves_short b h in
        let t = length-append (ascii "value" ++ text_in leaf_text leaf_in b) (ascii "\n") in
        omega arith
    look false = omega arith

ending_short : (x : Ending) (steps : ℕ) (b : List ℕ) → steps < word_size → Bytes b → length (ending_lines x steps (read_report b).result) ≤ 3 * length b + 32
ending_short Ending.NoOutcome steps b h k = omega arith
ending_short (Ending.Ended o) steps b h k =
    let a = outcome_short o steps h in
    let e = result_short o b k in
    let t = length-append (outcome_line o steps) (result_line o (read_report b).result) in
    omega arith

-- A run, and a refusal.
pub run_short : (x : Ending) (steps : ℕ) (log report : List ℕ) → steps < word_size → Bytes log → Bytes report → length (run_listing x steps log report) ≤ listing_bound (length log) (length report)
run_short x steps log report h k l =
    let a = text_short print_line print_in 6 print_short log k in
    let e = ending_short x steps report h l in
    let c = text_short cell_line cell_in_of 6 cell_short report l in
    let t = length-append (text_in print_line print_in log ++ ending_lines x steps (read_report report).result) (text_in cell_line cell_in_of report) in
    let u = length-append (text_in print_line print_in log) (ending_lines x steps (read_report report).result) in
    omega arith

pub refusal_short : (r : Refusal) (place : ℕ) → refusal_number r < 65536 → place < 18446744073709551616 → length (refusal_line r place) ≤ refusal_bound
refusal_short r place l h =
    let a = short_decimal (refusal_number r) l in
    let e = place_decimal place h in
    let t = length-append (ascii "refused " ++ decimal (refusal_number r) ++ ascii " " ++ decimal place) (ascii "\n") in
    let u = length-append (ascii "refused " ++ decimal (refusal_number r) ++ ascii " ") (decimal place) in
    let v = length-append (ascii "refused " ++ decimal (refusal_number r)) (ascii " ") in
    omega arith
