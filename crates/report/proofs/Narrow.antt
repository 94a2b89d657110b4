-- What reading back gives of any log and report: domains and numbers as far as their fields reach.
use Prim.Native.Nat.{ℕ, ◌%◌}
use native.Mathlib.Omega.{arith}
use mathlib.Core.Path.{◌≡◌, refl, sym, ap, ap₂, ◌∙◌}
use mathlib.Core.Bool.{true, false}
use mathlib.Core.List.{List, [], ◌∷◌, ◌++◌, map, append-nil, append_assoc}
use mathlib.Core.Option.{Option, none, some}
use Rattle.calculus.specs.declared.Leaf.{Leaf}
use Rattle.calculus.specs.Limits.{word_size}
use Rattle.calculus.specs.Syntax.{Dom}
use Rattle.calculus.specs.State.{Print, cons_option, picked}
use Rattle.calculus.specs.Report.{CellReport}
use Rattle.laws.proofs.Lists.{All, All.all_nil, All.all_cons}
use Rattle.base_bytes.specs.Bytes.{bytes_of, number_of, number_at}
use Rattle.base_bytes.proofs.Bytes.{number_bytes}
use Rattle.base_bytes.specs.Records.{Record}
use Rattle.report.specs.Records.{records_bytes, records_in}
use Rattle.report.specs.Written.{record_of, log_bytes, leaf_record, leaves_bytes, held_record, cell_record, cells_bytes, head_record, head_bytes, report_bytes}
use Rattle.report.specs.Read.{print_in, leaf_in, cell_in_of, read_log, read_report}
use Rattle.report.specs.Fits.{short_size, FewLeaves}
use Rattle.report.proofs.Lengths.{records_append, leaves_short}
use Rattle.report.proofs.ReadRecords.{Short, read_records}

-- What is picked out of a list of records.
module _ {A B : Type 0} (f : A → Option B) where
  pub picked_append : (x y : List A) → picked f (x ++ y) ≡ picked f x ++ picked f y
  unfolding picked
  picked_append [] y = refl
  picked_append (a ∷ x) y = pick (f a) (picked f x) (picked_append x y)
    where
      pick : (o : Option B) {u : List B} (v : List B) → u ≡ v ++ picked f y → cons_option o u ≡ cons_option o v ++ picked f y
      pick none v e = e
      pick (some b) v e = ap (b ∷◌) e

  module _ {C : Type 0} (g : C → A) where
    picked_some : (h : C → B) → ((c : C) → f (g c) ≡ some (h c)) → (x : List C) → picked f (map g x) ≡ map h x
    unfolding picked
    picked_some h e [] = refl
    picked_some h e (c ∷ x) = rw (e c) (ap (h c ∷◌) (picked_some h e x))

    picked_none : ((c : C) → f (g c) ≡ none) → (x : List C) → picked f (map g x) ≡ []
    unfolding picked
    picked_none e [] = refl
    picked_none e (c ∷ x) = rw (e c) (picked_none e x)

all_of_lem : {A B : Type 0} {P : B → Type 0} (f : A → B) → ((a : A) → P (f a)) → (x : List A) → All P (map f x)
all_of_lem f h [] = all_nil
all_of_lem f h (a ∷ x) = all_cons (h a) (all_of_lem f h x)

all_append : {A : Type 0} {P : A → Type 0} {x y : List A} → All P x → All P y → All P (x ++ y)
all_append all_nil k = k
all_append (all_cons p h) k = all_cons p (all_append h k)

-- As far as the fields reach.
abbrev pub narrow_print : Print → Print
narrow_print p = record { dom = p.dom % short_size; shown = p.shown % word_size }

abbrev pub narrow_leaf : Leaf → Leaf
narrow_leaf Leaf.Unit = Leaf.Unit
narrow_leaf (Leaf.Truth b) = Leaf.Truth b
narrow_leaf (Leaf.Number n) = Leaf.Number (n % word_size)

abbrev pub narrow_held : Option (List Leaf) → Option (List Leaf)
narrow_held none = none
narrow_held (some ls) = some (map narrow_leaf ls)

abbrev pub narrow_cell : CellReport → CellReport
narrow_cell c = record { dom = c.dom % short_size; held = narrow_held c.held }

-- The log.
print_short : (p : Print) → Short (record_of p)
unfolding bytes_of
print_short p = record { kind = omega arith; length = omega arith }

print_in_lem : (p : Print) → print_in (record_of p) ≡ some (narrow_print p)
unfolding bytes_of number_at
print_in_lem p =
    let d : number_at 2 0 (record_of p).fields ≡ p.dom % short_size = number_bytes 2 p.dom in
    let n : number_at 4 2 (record_of p).fields ≡ p.shown % word_size = number_bytes 4 p.shown in
    ap some (λ t. record { dom = d t; shown = n t })

pub log_read : (x : List Print) → read_log (log_bytes x) ≡ map narrow_print x
log_read x = ap (picked print_in) (read_records (all_of_lem record_of print_short x)) ∙ picked_some print_in record_of narrow_print print_in_lem x

-- Leaves.
leaf_record_short : (l : Leaf) → Short (leaf_record l)
unfolding bytes_of
leaf_record_short Leaf.Unit = record { kind = omega arith; length = omega arith }
leaf_record_short (Leaf.Truth b) = record { kind = omega arith; length = omega arith }
leaf_record_short (Leaf.Number n) = record { kind = omega arith; length = omega arith }

leaf_in_lem : (l : Leaf) → leaf_in (leaf_record l) ≡ some (narrow_leaf l)
unfolding bytes_of number_at number_of
leaf_in_lem Leaf.Unit = refl
leaf_in_lem (Leaf.Truth true) = refl
leaf_in_lem (Leaf.Truth false) = refl
leaf_in_lem (Leaf.Number n) = ap (λ k. some (Leaf.Number k)) (number_bytes 4 n)

leaves_read : (ls : List Leaf) → picked leaf_in (records_in (leaves_bytes ls)) ≡ map narrow_leaf ls
leaves_read ls = ap (picked leaf_in) (read_records (all_of_lem leaf_record leaf_record_short ls)) ∙ picked_some leaf_in leaf_record narrow_leaf leaf_in_lem ls

leaf_no_cell : (l : Leaf) → cell_in_of (leaf_record l) ≡ none
leaf_no_cell Leaf.Unit = refl
leaf_no_cell (Leaf.Truth b) = refl
leaf_no_cell (Leaf.Number n) = refl

-- Cells.
cell_short : (d : Dom) (h : Option (List Leaf)) → FewLeaves h → Short (held_record d h)
unfolding bytes_of
cell_short d none f = record { kind = omega arith; length = omega arith }
cell_short d (some ls) f = let n = leaves_short ls in record { kind = omega arith; length = omega arith }

cells_short : {cs : List CellReport} → All (λ c. FewLeaves c.held) cs → All Short (map cell_record cs)
cells_short all_nil = all_nil
cells_short (all_cons {x = c} f h) = all_cons (cell_short c.dom c.held f) (cells_short h)

cell_no_leaf : (d : Dom) (h : Option (List Leaf)) → leaf_in (held_record d h) ≡ none
cell_no_leaf d none = refl
cell_no_leaf d (some ls) = refl

cell_in : (d : Dom) (h : Option (List Leaf)) → cell_in_of (held_record d h) ≡ some (narrow_cell (record { dom = d; held = h }))
unfolding bytes_of number_at
cell_in d none = ap (λ n. some (record { dom = n; held = none })) (number_bytes 2 d)
cell_in d (some ls) = ap₂ (λ n x. some (record { dom = n; held = some x })) (number_bytes 2 d) (leaves_read ls)

-- The report.
report_records : (o k : ℕ) (ls : List Leaf) (cs : List CellReport) → All (λ c. FewLeaves c.held) cs → records_in (report_bytes o k ls cs) ≡ head_record o k ∷ (map leaf_record ls ++ map cell_record cs)
unfolding bytes_of records_bytes
report_records o k ls cs f =
    let e : report_bytes o k ls cs ≡ records_bytes (head_record o k ∷ (map leaf_record ls ++ map cell_record cs)) =
    append_assoc (head_bytes o k) (leaves_bytes ls) (cells_bytes cs) ∙ ap (head_bytes o k ++◌) (sym (records_append (map leaf_record ls) (map cell_record cs))) in
    let h : Short (head_record o k) = record { kind = omega arith; length = omega arith } in
    ap records_in e ∙ read_records (all_cons h (all_append (all_of_lem leaf_record leaf_record_short ls) (cells_short f)))

pub report_read : (o k : ℕ) (ls : List Leaf) (cs : List CellReport) → All (λ c. FewLeaves c.held) cs
    → read_report (report_bytes o k ls cs) ≡ record { outcome = o % short_size; steps = k % word_size; result = map narrow_leaf ls; cells = map narrow_cell cs }
unfolding bytes_of number_at picked
report_read o k ls cs f =
    let e = report_records o k ls cs f in
    let x : List Record = map leaf_record ls in
    let y : List Record = map cell_record cs in
    let r : picked leaf_in (records_in (report_bytes o k ls cs)) ≡ map narrow_leaf ls =
    ap (picked leaf_in) e ∙ picked_append leaf_in x y ∙ ap₂ ◌++◌ (picked_some leaf_in leaf_record narrow_leaf leaf_in_lem ls) (picked_none leaf_in cell_record (λ c. cell_no_leaf c.dom c.held) cs) ∙ append-nil (map narrow_leaf ls) in
    let c : picked cell_in_of (records_in (report_bytes o k ls cs)) ≡ map narrow_cell cs =
    ap (picked cell_in_of) e ∙ picked_append cell_in_of x y ∙ ap₂ ◌++◌ (picked_none cell_in_of leaf_record leaf_no_cell ls) (picked_some cell_in_of cell_record narrow_cell (λ c. cell_in c.dom c.held) cs) in
    let p : number_at 2 4 (report_bytes o k ls cs) ≡ o % short_size = number_bytes 2 o in
    let s : number_at 4 6 (report_bytes o k ls cs) ≡ k % word_size = number_bytes 4 k in
    λ t. record { outcome = p t; steps = s t; result = r t; cells = c t }
