-- The numbers of an accepted image's program fit in 32 bits (document 02, card 10): an image has at most 1,024 terms.
use Rattle.std.specs.Prelude.{Ok}
use Prim.Native.Nat.{ℕ, zero, suc, ◌+◌, ◌*◌, ◌≤◌, ◌<◌}
use native.Mathlib.Omega.{arith}
use native.Mathlib.Nat.{zero-mul, suc-mul, mul-le-mul}
use mathlib.Core.Path.{◌≡◌, refl}
use mathlib.Core.Bool.{true}
use mathlib.Core.List.{List, [], ◌∷◌, ◌++◌}
use lib.ListN.{length, length-append}
use lib.Dec.{leb}
use Rattle.calculus.specs.Syntax.{Ty, Tms, Pattern}
use Rattle.calculus_needs.specs.Needs.{variables, need_of}
use Rattle.calculus_needs.specs.Claims.{Under}
use Rattle.calculus_needs.proofs.Small.{amount, amounts, amount_of, nothing, size, most, small}
use Rattle.calculus_needs.proofs.Sums.{under_trans}
use Rattle.laws.proofs.Booleans.{le_of}
use Rattle.image.specs.Kinds.{Field, a_type, own, a_term, an_entry, TermKind, Form, operator, form_of, term_row, again, fields_of}
use Rattle.image.specs.Records.{Layout, fields_at, numbers_at, as_other, given}
use Rattle.image.specs.Limits.{term_limit}
use Rattle.image.specs.Layout.{records_of}
use Rattle.image.specs.Types.{term_place, term_kind, others, root_of}
use Rattle.image.specs.Program.{Program, Programs, node, blank, end, more, program, nth, behind, close_of, entry_of, pattern_of, assemble_as, assemble, to_tm, to_tms}
use Rattle.image.proofs.Laid.{LayoutOk}
use Rattle.image.proofs.EveryKind.{every_of, at_term}
use Rattle.verdict.specs.Shape.{used_once}
use Rattle.verdict.specs.Verdicts.{verdict}
use Rattle.verdict.proofs.Passed.{passed_iff}
use Rattle.verdict.proofs.Accept.{accepted_good}
use Rattle.image_written.proofs.Sums.{sum_below, weight, weight_all, weight_all_lem}

-- A tree weighs no less than its term of the calculus; a pattern weighs no more than v says of its fields.
module _ (K : ℕ) (pat : Pattern → ℕ) (v : List ℕ → ℕ) (h : (vs : List ℕ) → pat (pattern_of vs) ≤ v vs) where
  parts : (es : Tms) → amount K pat (nth es 0) + (amount K pat (nth es 1) + (amount K pat (nth es 2) + amounts K pat (behind 3 es))) ≤ amounts K pat es
  unfolding amount amounts amount_of
  parts Tms.end = omega arith
  parts (Tms.more a Tms.end) = omega arith
  parts (Tms.more a (Tms.more b Tms.end)) = omega arith
  parts (Tms.more a (Tms.more b (Tms.more c es))) = omega arith

  assembled : {k : TermKind} (φ : Form k) (t : Ty) (vs : List ℕ) (es : Tms) → amount K pat (assemble_as φ t vs es) ≤ K + v vs + amounts K pat es
  unfolding amount amounts amount_of
  assembled (operator o n r) t vs es = let a = parts es in omega arith
  assembled Form.unit t vs es = let a = parts es in omega arith
  assembled Form.truth t vs es = let a = parts es in omega arith
  assembled Form.number t vs es = let a = parts es in omega arith
  assembled Form.var t vs es = let a = parts es in omega arith
  assembled Form.seq t vs es = let a = parts es in omega arith
  assembled Form.print t vs es = let a = parts es in omega arith
  assembled Form.ite t vs es = let a = parts es in omega arith
  assembled Form.pair t vs es = let a = parts es in omega arith
  assembled Form.split t vs es = let a = parts es in omega arith
  assembled Form.fun t vs es = let a = parts es in omega arith
  assembled Form.app t vs es = let a = parts es in omega arith
  assembled Form.arith t vs es = let a = parts es in omega arith
  assembled Form.mark t vs es = let a = parts es in omega arith
  assembled Form.pcd t vs es = let a = parts es in omega arith
  assembled Form.adv t vs es = let a = parts es in omega arith
  assembled Form.install t vs es = let a = parts es in omega arith
  assembled Form.new_cell t vs es = let a = parts es in omega arith
  assembled Form.read t vs es = let a = parts es in omega arith
  assembled Form.store t vs es = let a = parts es in omega arith
  assembled Form.lower t vs es = let a = parts es in omega arith
  assembled Form.byte t vs es = let a = parts es in omega arith
  assembled Form.obj t vs es = let a = parts es in omega arith
  assembled Form.call t vs es = let a = parts es in omega arith
  assembled Form.keep t vs es = let a = parts es in omega arith
  assembled Form.match t vs es = let a = parts es in let b = h vs in omega arith
  assembled Form.takedown t vs es = let a = parts es in omega arith

  mutual
    unfolding to_tm to_tms assemble weight weight_all amount amounts amount_of

    tree_amount : (e : Program) → amount K pat (to_tm e) ≤ weight (λ k vs n. K + v vs) e
    tree_amount (node k t vs es) = let a = assembled (form_of k) t vs (to_tms es) in let b = trees_amount es in omega arith
    tree_amount blank = omega arith

    trees_amount : (es : Programs) → amounts K pat (to_tms es) ≤ weight_all (λ k vs n. K + v vs) es
    trees_amount end = omega arith
    trees_amount (more e es) = let a = tree_amount e in let b = trees_amount es in omega arith

-- A match binds no more variables than it has other fields.
close_few : (n : ℕ) → variables (close_of n) ≤ 1
close_few zero = omega arith
close_few (suc n) = omega arith

entry_few : (n : ℕ) (p : Pattern) → variables (entry_of n p) ≤ suc (variables p)
entry_few zero p = omega arith
entry_few (suc n) p = omega arith

variables_few : (vs : List ℕ) → variables (pattern_of vs) ≤ length vs
variables_few [] = omega arith
variables_few (x ∷ []) = close_few x
variables_few (x ∷ y ∷ vs) = let a = entry_few x (pattern_of (y ∷ vs)) in let b = variables_few (y ∷ vs) in omega arith

-- No term has more than 13 fields.
abbrev field_limit : ℕ
field_limit = 13

-- The terms of a program and of an advice's body, and the 2 frames of a mark, are around a place at most.
abbrev pub deepest : ℕ
deepest = 2 * term_limit + 2

-- What a term takes at most but for marks and variables; what all advice takes at a mark; what a program takes.
abbrev each : ℕ
each = 3 + deepest

abbrev all_advice : ℕ
all_advice = term_limit * (each + field_limit)

abbrev pub highest : ℕ
highest = term_limit * (each + all_advice + field_limit)

again_few : (c d : ℕ) (fs : List Field) → c ≤ d → length (again c fs) ≤ length (again d fs)
again_few zero d fs h = omega arith
again_few (suc c) zero fs h = absurd (omega arith)
again_few (suc c) (suc d) fs h = let i = again_few c d fs (omega arith) in let a = length-append fs (again c fs) in let b = length-append fs (again d fs) in omega arith

fields_few : (k : TermKind) (c : ℕ) → c ≤ (term_row k).most → length (fields_of (term_row k) c) ≤ field_limit
unfolding every_of
fields_few k c h =
    let m : length (fields_of (term_row k) (term_row k).most) ≤ field_limit = le_of (at_term (λ j. leb (length (fields_of (term_row j) (term_row j).most)) field_limit) refl k) in
    let i = again_few c (term_row k).most (term_row k).group h in
    let a = length-append (term_row k).first (again c (term_row k).group ++ (term_row k).last) in
    let b = length-append (again c (term_row k).group) (term_row k).last in
    let d = length-append (term_row k).first (again (term_row k).most (term_row k).group ++ (term_row k).last) in
    let e = length-append (again (term_row k).most (term_row k).group) (term_row k).last in
    omega arith

field_gives : (f : Field) (x : ℕ) → length (as_other f x) ≤ 1
field_gives a_type x = omega arith
field_gives (own r) x = omega arith
field_gives (a_term b) x = omega arith
field_gives an_entry zero = omega arith
field_gives an_entry (suc x) = omega arith

given_few : (fs : List Field) (xs : List ℕ) → length (given as_other fs xs) ≤ length fs
given_few [] xs = omega arith
given_few (f ∷ fs) [] = omega arith
given_few (f ∷ fs) (x ∷ xs) = let a = field_gives f x in let b = given_few fs xs in let c = length-append (as_other f x) (given as_other fs xs) in omega arith

sum_few : (n m : ℕ) (w : ℕ → ℕ) → ((c : ℕ) → c < n → w c ≤ m) → sum_below n w ≤ n * m
unfolding sum_below
sum_few zero m w h = let z = zero-mul m in omega arith
sum_few (suc n) m w h = let a = sum_few n m w (λ c l. h c (omega arith)) in let b = h n (omega arith) in let z = suc-mul n m in omega arith

module _ (L : Layout) (good : LayoutOk L) (once : (y : ℕ) → y < root_of L → used_once L y ≡ true) (some : 0 < length L.terms) where
  others_few : (m : ℕ) → m < length L.terms → length (others L m) ≤ field_limit
  others_few m l =
      let f : length (fields_at L.image (term_place L m) (term_row (term_kind L m))) ≤ field_limit = fields_few (term_kind L m) _ (good.terms m l).is.stands.most in
      let g : length (others L m) ≤ length (fields_at L.image (term_place L m) (term_row (term_kind L m))) = given_few (fields_at L.image (term_place L m) (term_row (term_kind L m))) (numbers_at L.image (term_place L m) (term_row (term_kind L m))) in
      omega (arith, f, g)

  program_weight : (v : List ℕ → ℕ) (x : ℕ) → ((m : ℕ) → m < length L.terms → v (others L m) ≤ x) → weight (λ k vs n. v vs) (program L) ≤ term_limit * x
  program_weight v x h =
      let a = weight_all_lem (λ k vs n. v vs) L good once some in
      let b = sum_few (length L.terms) x (λ m. v (others L m)) h in
      let few = good.few_terms in
      let c : length L.terms * x ≤ term_limit * x = mul-le-mul {n₁ = length L.terms} {m₁ = x} {n₂ = term_limit} {m₂ = x} few (omega arith) in
      omega arith

  pub few_terms : size (to_tm (program L)) ≤ term_limit
  few_terms =
      let a = tree_amount 1 nothing (λ vs. 0) (λ vs. omega arith) (program L) in
      let b = program_weight (λ vs. 1 + 0) 1 (λ m l. omega arith) in
      omega arith

  amount_few : (K : ℕ) → amount K variables (to_tm (program L)) ≤ term_limit * (K + field_limit)
  amount_few K =
      let a = tree_amount K variables length variables_few (program L) in
      let b = program_weight (λ vs. K + length vs) (K + field_limit) (λ m l. let z = others_few m l in omega arith) in
      omega arith

  pub program_small : Under (need_of (to_tm (program L))) (most deepest highest)
  program_small =
      let f = few_terms in
      let a = amount_few each in
      let b = amount_few (each + amount each variables (to_tm (program L))) in
      let n : amount (each + amount each variables (to_tm (program L))) variables (to_tm (program L)) ≤ highest = omega arith in
      under_trans (small deepest (to_tm (program L)) (omega arith))
      record { steps = n; bindings = n; other_bindings = n; cells = n; other_cells = n; pieces = n; other_pieces = n; labels = n; advices = n; prints = n; frames = omega arith }

-- Of an accepted image.
pub accepted_small : (b : List ℕ) (work report : ℕ) → verdict b work report ≡ Ok tt → Under (need_of (to_tm (program (records_of b)))) (most deepest highest)
accepted_small b work report h =
    let s = ((passed_iff b work report).0 h).shaped in
    program_small (records_of b) (accepted_good b work report h) s.used s.has_terms
