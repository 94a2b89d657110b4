-- How long records are, and records end to end.
use Prim.Native.Nat.{ℕ, ◌+◌, ◌*◌, ◌≤◌, ◌<◌, min}
use native.Mathlib.Omega.{arith}
use native.Mathlib.Numerals.{add-one}
use mathlib.Core.Path.{◌≡◌, refl, sym, ap, ◌∙◌}
use mathlib.Core.List.{List, [], ◌∷◌, ◌++◌, map, append-nil, append_assoc, map-append}
use mathlib.Core.Option.{Option, none, some}
use lib.ListN.{length, get_or, take, length-append, length-map, length-take}
use lib.Seq.{take-suc}
use Rattle.calculus.specs.declared.Leaf.{Leaf}
use Rattle.calculus.specs.Limits.{leaf_limit, cell_limit}
use Rattle.calculus.specs.Syntax.{Dom}
use Rattle.calculus.specs.State.{Print}
use Rattle.calculus.specs.Report.{CellReport}
use Rattle.base_bytes.specs.Bytes.{bytes_of}
use Rattle.laws.proofs.Lists.{All, All.all_nil, All.all_cons}
use Rattle.image.specs.Limits.{report_length}
use Rattle.report.specs.declared.Slot.{Slot}
use Rattle.base_bytes.specs.Records.{Record, record_bytes}
use Rattle.report.specs.Records.{records_bytes}
use Rattle.report.specs.Written.{log_bytes, leaf_record, leaf_bytes, leaves_bytes, leaves_in, held_record, cell_bytes, cells_bytes, head_bytes, report_bytes}
use Rattle.report.specs.Fits.{FewLeaves}

-- Records end to end.
pub records_append : (x y : List Record) → records_bytes (x ++ y) ≡ records_bytes x ++ records_bytes y
unfolding records_bytes
records_append [] y = refl
records_append (r ∷ x) y = ap (record_bytes r ++◌) (records_append x y) ∙ sym (append_assoc (record_bytes r) (records_bytes x) (records_bytes y))

pub records_last : {A : Type 0} (f : A → Record) (x : List A) (a : A) → records_bytes (map f (x ++ (a ∷ []))) ≡ records_bytes (map f x) ++ record_bytes (f a)
unfolding records_bytes
records_last f x a = ap records_bytes (map-append f x (a ∷ [])) ∙ records_append (map f x) (f a ∷ []) ∙ ap (records_bytes (map f x) ++◌) (append-nil (record_bytes (f a)))

-- One more of the leaves in slots.
pub leaves_more : (slots : List Slot) (i : ℕ) (d : Slot) → i < length slots → leaves_bytes (leaves_in (i + 1) slots) ≡ leaves_bytes (leaves_in i slots) ++ leaf_bytes (get_or slots i d).leaf
leaves_more slots i d h =
    let e : take (i + 1) slots ≡ take i slots ++ (get_or slots i d ∷ []) = ap (λ n. take n slots) (add-one i) ∙ take-suc slots i d h in
    ap (λ s. leaves_bytes (map (λ u. u.leaf) s)) e ∙ ap leaves_bytes (map-append (λ u. u.leaf) (take i slots) (get_or slots i d ∷ [])) ∙ records_last leaf_record (leaves_in i slots) (get_or slots i d).leaf

pub leaf_short : (l : Leaf) → length (leaf_bytes l) ≤ 8
unfolding bytes_of
leaf_short Leaf.Unit = omega arith
leaf_short (Leaf.Truth b) = omega arith
leaf_short (Leaf.Number n) = omega arith

pub leaves_short : (ls : List Leaf) → length (leaves_bytes ls) ≤ 8 * length ls
unfolding records_bytes
leaves_short [] = omega arith
leaves_short (l ∷ ls) =
    let n = length-append (leaf_bytes l) (leaves_bytes ls) in
    let a : length (leaf_bytes l) ≤ 8 = leaf_short l in
    let i : length (leaves_bytes ls) ≤ 8 * length ls = leaves_short ls in
    omega arith

pub slots_short : (n : ℕ) (slots : List Slot) → length (leaves_bytes (leaves_in n slots)) ≤ 8 * n
slots_short n slots =
    let a = leaves_short (leaves_in n slots) in
    let e : length (leaves_in n slots) ≡ min n (length slots) = length-map (take n slots) (λ u. u.leaf) ∙ length-take n slots in
    omega arith

-- "Log record: length 10."
pub length_log : (x : List Print) → length (log_bytes x) ≡ 10 * length x
unfolding bytes_of records_bytes
length_log [] = refl
length_log (p ∷ x) = let i : length (log_bytes x) ≡ 10 * length x = length_log x in omega arith

pub held_short : (d : Dom) (h : Option (List Leaf)) → FewLeaves h → length (record_bytes (held_record d h)) ≤ 70
unfolding bytes_of
held_short d none f = omega arith
held_short d (some ls) f = let n = leaves_short ls in omega arith

cells_short : {cs : List CellReport} → All (λ c. FewLeaves c.held) cs → length (cells_bytes cs) ≤ 70 * length cs
unfolding records_bytes
cells_short all_nil = omega arith
cells_short (all_cons {x = c} {xs = cs} f h) =
    let n = length-append (cell_bytes c) (cells_bytes cs) in
    let a = held_short c.dom c.held f in
    let i : length (cells_bytes cs) ≤ 70 * length cs = cells_short h in
    omega arith

pub length_parts : (o k : ℕ) (ls : List Leaf) (cs : List CellReport) → length (report_bytes o k ls cs) ≡ 10 + length (leaves_bytes ls) + length (cells_bytes cs)
unfolding bytes_of
length_parts o k ls cs =
    let n = length-append (head_bytes o k ++ leaves_bytes ls) (cells_bytes cs) in
    let m = length-append (head_bytes o k) (leaves_bytes ls) in
    omega arith

-- No report is longer than 17,994 bytes: cells are of both halves (card 9).
abbrev pub most_cells : ℕ
most_cells = cell_limit + cell_limit

pub report_short : (o k : ℕ) (ls : List Leaf) {cs : List CellReport} → length ls ≤ leaf_limit → length cs ≤ most_cells → All (λ c. FewLeaves c.held) cs → length (report_bytes o k ls cs) ≤ report_length
report_short o k ls {cs} l m f =
    let n = length_parts o k ls cs in
    let a = leaves_short ls in
    let b = cells_short f in
    omega arith
