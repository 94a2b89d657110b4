-- The text of one record, by its kind; and of how a run ended.
use Prim.Native.Nat.{ℕ, ◌+◌, ◌*◌}
use native.Mathlib.Omega.{arith}
use mathlib.Core.Path.{◌≡◌, refl, sym, ap, ◌∙◌}
use mathlib.Core.List.{List, [], ◌∷◌, ◌++◌}
use mathlib.Core.Option.{none, some}
use mathlib.Core.Bool.{Bool}
use denote.Enum.Bare.{sameb}
use Rattle.calculus.specs.contracts.Outcome.{the_type}
use Rattle.calculus.proofs.EveryOutcome.{at_outcome}
use lib.ListN.{take, drop}
use lib.Seq.{drop-drop}
use lib.Dec.{eqb}
use borrow.Author.Tests.{ne_eqb}
use Rattle.calculus.specs.declared.Outcome.{Outcome}
use Rattle.calculus.specs.declared.Leaf.{Leaf}
use Rattle.calculus.specs.Combinators.{choose}
use Rattle.calculus.specs.State.{picked}
use Rattle.calculus.specs.Report.{outcome_number}
use Rattle.base_bytes.specs.Bytes.{number_of, number_at}
use Rattle.report.specs.declared.Ending.{Ending}
use Rattle.report.specs.Records.{records_in}
use Rattle.report.specs.Read.{leaf_in}
use Rattle.listing_lines.specs.Text.{ascii}
use Rattle.listing_lines.specs.Lines.{print_line, leaf_text, outcome_line, value_line, result_line, ending_lines, cell_line}
use Rattle.listing_lines.specs.Offsets.{print_text_in, leaf_text_in, cell_text_in}

-- A 32-bit number is two of 16 bits, also where bytes are missing.
halves : (b : List ℕ) → number_of (take 2 b) + 65536 * number_of (take 2 (drop 2 b)) ≡ number_of (take 4 b)
unfolding number_of
halves [] = refl
halves (x ∷ []) = omega arith
halves (x ∷ y ∷ []) = omega arith
halves (x ∷ y ∷ z ∷ []) = omega arith
halves (x ∷ y ∷ z ∷ w ∷ b) = omega arith

long_read : (b : List ℕ) (o n lo hi : ℕ) → n ≡ lo + 65536 * hi → lo ≡ number_at 2 o b → hi ≡ number_at 2 (o + 2) b → n ≡ number_at 4 o b
unfolding number_at
long_read b o n lo hi e f g =
    let h : hi ≡ number_of (take 2 (drop 2 (drop o b))) = g ∙ ap (λ x. number_of (take 2 x)) (sym (drop-drop 2 o b)) in
    let s = halves (drop o b) in
    omega arith

module _ (k : ℕ) (fields : List ℕ) where
  pub unit_said : k ≡ 65 → ascii " unit" ≡ leaf_text_in (record { kind = k; fields = fields })
  unit_said e = rw e refl

  pub truth_said : (w : ℕ) → k ≡ 66 → w ≡ number_at 2 0 fields → leaf_text (Leaf.Truth (eqb w 1)) ≡ leaf_text_in (record { kind = k; fields = fields })
  truth_said w e f = rw (e, f) refl

  pub number_said : (n lo hi : ℕ) → k ≡ 67 → n ≡ lo + 65536 * hi → lo ≡ number_at 2 0 fields → hi ≡ number_at 2 2 fields → leaf_text (Leaf.Number n) ≡ leaf_text_in (record { kind = k; fields = fields })
  number_said n lo hi e f g h = ap (λ x. leaf_text (Leaf.Number x)) (long_read fields 0 n lo hi f g h) ∙ rw e refl

  pub no_leaf : ¬ (k ≡ 65) → ¬ (k ≡ 66) → ¬ (k ≡ 67) → [] ≡ leaf_text_in (record { kind = k; fields = fields })
  no_leaf a b c = simp (ne_eqb k 65 a, ne_eqb k 66 b, ne_eqb k 67 c)

  pub print_said : (d n lo hi : ℕ) → k ≡ 64 → d ≡ number_at 2 0 fields → n ≡ lo + 65536 * hi → lo ≡ number_at 2 2 fields → hi ≡ number_at 2 4 fields
      → print_line (record { dom = d; shown = n }) ≡ print_text_in (record { kind = k; fields = fields })
  print_said d n lo hi e f g h i = (let m = long_read fields 2 n lo hi g h i in λ j. print_line (record { dom = f j; shown = m j })) ∙ rw e refl

  pub no_print : ¬ (k ≡ 64) → [] ≡ print_text_in (record { kind = k; fields = fields })
  no_print a = simp (ne_eqb k 64 a)

  pub plain_said : (d : ℕ) (inside : List ℕ) → k ≡ 68 → d ≡ number_at 2 0 fields → inside ≡ drop 2 fields
      → cell_line (record { dom = d; held = some (picked leaf_in (records_in inside)) }) ≡ cell_text_in (record { kind = k; fields = fields })
  plain_said d inside e f g = rw (e, f, g) refl

  pub other_said : (d : ℕ) → k ≡ 69 → d ≡ number_at 2 0 fields → cell_line (record { dom = d; held = none }) ≡ cell_text_in (record { kind = k; fields = fields })
  other_said d e f = rw (e, f) refl

  pub no_cell : ¬ (k ≡ 68) → ¬ (k ≡ 69) → [] ≡ cell_text_in (record { kind = k; fields = fields })
  no_cell a b = simp (ne_eqb k 68 a, ne_eqb k 69 b)

-- The lines of how a run ended.
done_tested : (o : Outcome) → sameb the_type o Outcome.Done ≡ eqb (outcome_number o) 0
done_tested = at_outcome (λ o. sameb the_type o Outcome.Done) (λ o. eqb (outcome_number o) 0) refl

pub result_said : (o : Outcome) (ls : List Leaf) (b : Bool) → b ≡ sameb the_type o Outcome.Done → choose b (value_line ls) [] ≡ result_line o ls
result_said o ls b e = ap (λ d. choose d (value_line ls) []) (e ∙ done_tested o)

module _ {x : Ending} (steps : ℕ) (ls : List Leaf) where
  pub no_ending : x ≡ Ending.NoOutcome → [] ≡ ending_lines x steps ls
  no_ending e = ap (λ y. ending_lines y steps ls) (sym e)

  pub ending_said : {o : Outcome} → x ≡ Ending.Ended o → outcome_line o steps ++ result_line o ls ≡ ending_lines x steps ls
  ending_said e = ap (λ y. ending_lines y steps ls) (sym e)
