-- Equal parts of lent memory, and calls one after another.
use Rattle.std.specs.Prelude.{Ok}
use Prim.Native.Nat.{ℕ, zero, suc, ◌+◌, ◌-◌, ◌*◌, ◌/◌, ◌≤◌, ◌<◌}
use native.Mathlib.Omega.{arith}
use native.Mathlib.Numerals.{add-one}
use native.Mathlib.Nat.{suc-mul, mul-le-mul_right, mul-div-le}
use mathlib.Core.Path.{◌≡◌, refl, sym, ap, ◌∙◌}
use mathlib.Core.List.{List, ◌++◌, append_assoc, append-nil}
use lib.ListN.{length, take, drop, set, replicate, length-drop, length-append, length-replicate, take-append-drop}
use lib.Seq.{drop-drop, drop-length, drop-append_seam, length-take-le}
use borrow.Author.Fill.{fill_more}
use Rattle.image.specs.declared.Refusal.{Refusal}
use Rattle.image.specs.Limits.{work_length}
use Rattle.verdict.specs.Answers.{Verdict, refused_at}
use Rattle.verdict.specs.Verdicts.{verdict}
use Rattle.base_bytes.specs.Bytes.{over, cleared}
use Rattle.base_bytes.proofs.Over.{length_over}
use Rattle.call_spec.specs.declared.Answer.{Answer}
use Rattle.call_spec.specs.Runs.{run_of}
use Rattle.call_spec.specs.Calls.{Left, left_by, refused_answer}
use Rattle.answers_as_numbers.specs.Numbers.{call_number}
use Rattle.answers_as_numbers.specs.Recordings.{part_length, part, with_part, Recording, call_over, recorded, first_calls}
use Rattle.call_spec.proofs.Called.{refused_leaves, accepted_leaves}

-- A list that is filled to its end.
pub filled : (xs : List ℕ) (i v : ℕ) → i ≡ length xs → replicate i v ++ drop i xs ≡ replicate (length xs) v
filled xs i v e = ap (λ k. replicate k v ++ drop k xs) e ∙ ap (replicate (length xs) v ++◌) (drop-length xs) ∙ append-nil (replicate (length xs) v)

-- A list whose front is cleared is as long as it was, and clearing it again changes nothing.
module _ (n : ℕ) (xs : List ℕ) where
  zeros : length (replicate {A = ℕ} n 0) ≡ n
  zeros = length-replicate n 0

  length_cleared : n ≤ length xs → length (cleared n xs) ≡ length xs
  unfolding cleared
  length_cleared h = omega (arith, length-append (replicate n 0) (drop n xs), zeros, length-drop n xs)

  cleared_twice : cleared n (cleared n xs) ≡ cleared n xs
  unfolding cleared
  cleared_twice = ap (replicate n 0 ++◌) (ap (λ k. drop k (replicate n 0 ++ drop n xs)) (sym zeros) ∙ drop-append_seam (replicate n 0) (drop n xs))

-- Part i of n lies inside the whole, and is as long as each.
module _ (n i : ℕ) (below : i < n) (xs : List ℕ) where
  pub part_inside : i * part_length n xs + part_length n xs ≤ length xs
  part_inside =
      let q = part_length n xs in
      let a : suc i * q ≤ n * q = mul-le-mul_right {m = suc i} {n = n} q (omega arith) in
      let b : suc i * q ≡ i * q + q = suc-mul i q in
      let d : n * q ≤ length xs = mul-div-le (length xs) n in
      omega arith

  pub length_part : length (part n i xs) ≡ part_length n xs
  length_part = let h = part_inside in let m = length-drop (i * part_length n xs) xs in length-take-le (part_length n xs) _ (omega arith)

  pub length_with_part : (ys : List ℕ) → length ys ≡ part_length n xs → length (with_part n i ys xs) ≡ length xs
  length_with_part ys e = let h = part_inside in length_over ys xs (i * part_length n xs) (omega arith)

  -- Bytes that are lent and come back as they were are the whole as it was.
  pub same_part_lem : with_part n i (part n i xs) xs ≡ xs
  unfolding over
  same_part_lem =
      let o = i * part_length n xs in
      append_assoc (take o xs) (part n i xs) (drop (o + length (part n i xs)) xs)
      ∙ ap (λ k. take o xs ++ (part n i xs ++ drop (o + k) xs)) length_part
      ∙ ap (λ z. take o xs ++ (part n i xs ++ z)) (sym (drop-drop (part_length n xs) o xs))
      ∙ ap (λ z. take o xs ++ z) (take-append-drop (part_length n xs) (drop o xs))
      ∙ take-append-drop o xs

  -- A part as code lends it and has it back: where it begins and ends is worked out from the whole's length, which stays.
  module _ (xs₀ : List ℕ) (same : length xs ≡ length xs₀) where
    parts_same : part_length n xs₀ ≡ part_length n xs
    parts_same = ap (◌/ n) (sym same)

    width : i * part_length n xs₀ + part_length n xs₀ - i * part_length n xs₀ ≡ part_length n xs₀
    width = omega arith

    pub part_lent : take (i * part_length n xs₀ + part_length n xs₀ - i * part_length n xs₀) (drop (i * part_length n xs₀) xs) ≡ part n i xs
    part_lent = ap (λ k. take k (drop (i * part_length n xs₀) xs)) width ∙ ap (λ q. take q (drop (i * q) xs)) parts_same

    pub part_back : (ys : List ℕ) → length ys ≡ part_length n xs
        → take (i * part_length n xs₀) xs ++ (ys ++ drop (i * part_length n xs₀ + part_length n xs₀ - i * part_length n xs₀) (drop (i * part_length n xs₀) xs)) ≡ with_part n i ys xs
    unfolding over
    part_back ys e =
        let o = i * part_length n xs in
        ap (λ k. take (i * part_length n xs₀) xs ++ (ys ++ drop k (drop (i * part_length n xs₀) xs))) width
        ∙ ap (λ q. take (i * q) xs ++ (ys ++ drop q (drop (i * q) xs))) parts_same
        ∙ ap (λ z. take o xs ++ (ys ++ z)) (drop-drop (part_length n xs) o xs)
        ∙ ap (λ k. take o xs ++ (ys ++ drop (o + k) xs)) (sym e)
        ∙ sym (append_assoc (take o xs) ys (drop (o + length ys) xs))

-- No call, and one call more.
module _ (b frames : List ℕ) (budget n : ℕ) where
  pub first_none : (R : Recording) → R ≡ first_calls b frames budget n 0 R
  unfolding first_calls
  first_none R = refl

module _ (b frames : List ℕ) (budget n i : ℕ) where
  pub call_recorded : (R C : Recording) (L : Left) → C ≡ first_calls b frames budget n i R → L ≡ call_over b frames budget n i C → recorded b frames budget n i L C ≡ first_calls b frames budget n (suc i) R
  unfolding first_calls
  call_recorded R C L e d = ap (λ X. recorded b frames budget n i X C) d ∙ ap (λ X. recorded b frames budget n i (call_over b frames budget n i X) X) e

-- A call whose verdict is "accepted" leaves what the run leaves, whatever its own part of the reports is.
module _ (b frames : List ℕ) (budget n i : ℕ) (below : i < n) (R : Recording) where
  verdict_of_lem : (v : Verdict) → verdict b (length R.work) (part_length n R.reports) ≡ v → verdict b (length R.work) (length (part n i R.reports)) ≡ v
  verdict_of_lem v e = ap (verdict b (length R.work)) (length_part n i below R.reports) ∙ e

  pub accepted_call : (L : Left) → verdict b (length R.work) (part_length n R.reports) ≡ Ok tt
      → L ≡ left_by (run_of b (part n i frames) budget (part n i R.logs)) (part n i R.logs) (part n i R.reports) R.work → L ≡ call_over b frames budget n i R
  accepted_call L e d = d ∙ sym (accepted_leaves b (part n i frames) budget (part n i R.logs) (part n i R.reports) R.work (verdict_of_lem (Ok tt) e))

  refused_call : (r : Refusal) (place : ℕ) → verdict b (length R.work) (part_length n R.reports) ≡ refused_at r place
      → call_over b frames budget n i R ≡ record { answer = refused_answer r place; log = part n i R.logs; report = part n i R.reports; work = R.work }
  refused_call r place e = refused_leaves b (part n i frames) budget (part n i R.logs) (part n i R.reports) R.work r place (verdict_of_lem (refused_at r place) e)

-- Of the work area that an accepted call is lent, only the length and the bytes past the published length matter.
abbrev pub with_clear_work : Recording → Recording
with_clear_work R = record { answers = R.answers; logs = R.logs; reports = R.reports; work = cleared work_length R.work }

module _ (b frames : List ℕ) (budget n i : ℕ) (below : i < n) (R : Recording) (enough : work_length ≤ length R.work) (accepted : verdict b (length R.work) (part_length n R.reports) ≡ Ok tt) where
  abbrev ran_over : Left
  ran_over = left_by (run_of b (part n i frames) budget (part n i R.logs)) (part n i R.logs) (part n i R.reports) R.work

  clear_call : ran_over ≡ call_over b frames budget n i (with_clear_work R)
  clear_call =
      let still = ap (λ k. verdict b k (part_length n R.reports)) (length_cleared work_length R.work enough) ∙ accepted in
      let L = ran_over in
      accepted_call b frames budget n i below (with_clear_work R) ran_over still
      (ap (λ w. record { answer = L.answer; log = L.log; report = L.report; work = w }) (sym (cleared_twice work_length R.work)))

  front_unseen : call_over b frames budget n i (with_clear_work R) ≡ call_over b frames budget n i R
  front_unseen = sym clear_call ∙ accepted_call b frames budget n i below R ran_over accepted refl

  -- The run's result, recorded: f, l and p are what it was lent. The work area is not cleared yet, before the run and after.
  pub run_recorded : (R₀ : Recording) (f l p l' p' w' logs reports : List ℕ) (a : Answer) (k : ℕ) → with_clear_work R ≡ first_calls b frames budget n i R₀
      → f ≡ part n i frames → l ≡ part n i R.logs → p ≡ part n i R.reports → record { answer = a; log = l'; report = p'; work = cleared work_length w' } ≡ left_by (run_of b f budget l) l p R.work
      → logs ≡ with_part n i l' R.logs → reports ≡ with_part n i p' R.reports → k ≡ call_number a
      → with_clear_work (record { answers = set R.answers i k; logs = logs; reports = reports; work = w' }) ≡ first_calls b frames budget n (i + 1) R₀
  run_recorded R₀ f l p l' p' w' logs reports a k e ef el ep d s t u =
      (λ j. record { answers = set R.answers i (u j); logs = s j; reports = t j; work = cleared work_length w' })
      ∙ call_recorded b frames budget n i R₀ (with_clear_work R) _ e (d ∙ (λ j. left_by (run_of b (ef j) budget (el j)) (el j) (ep j) R.work) ∙ clear_call)
      ∙ ap (λ m. first_calls b frames budget n m R₀) (sym (add-one i))

-- Calls that are accepted, from the first on: what the front of the work area holds before it makes no difference.
module _ (b frames : List ℕ) (budget n : ℕ) (some : 0 < n) (R : Recording) (enough : work_length ≤ length R.work) (accepted : verdict b (length R.work) (part_length n R.reports) ≡ Ok tt) where
  pub calls_unseen : (k : ℕ) → 0 < k → first_calls b frames budget n k (with_clear_work R) ≡ first_calls b frames budget n k R
  unfolding first_calls
  calls_unseen zero h = absurd (omega arith)
  calls_unseen (suc zero) h = ap (λ L. recorded b frames budget n 0 L R) (front_unseen b frames budget n 0 some R enough accepted)
  calls_unseen (suc (suc k)) h = ap (λ X. recorded b frames budget n (suc k) (call_over b frames budget n (suc k) X) X) (calls_unseen (suc k) (omega arith))

-- Where one call is refused, all are, and nothing but the answers is written.
module _ (b frames : List ℕ) (budget n : ℕ) (R : Recording) (enough : n ≤ length R.answers) (r : Refusal) (place : ℕ)
    (refused : verdict b (length R.work) (part_length n R.reports) ≡ refused_at r place) where
  abbrev told : ℕ
  told = call_number (refused_answer r place)

  abbrev pub answered : ℕ → Recording
  answered k = record { answers = replicate k told ++ drop k R.answers; logs = R.logs; reports = R.reports; work = R.work }

  pub refused_calls : (k : ℕ) → k ≤ n → answered k ≡ first_calls b frames budget n k R
  unfolding first_calls
  refused_calls zero h = refl
  refused_calls (suc k) h =
      let a : replicate (suc k) told ++ drop (suc k) R.answers ≡ set (replicate k told ++ drop k R.answers) k told = ap (λ m. replicate m told ++ drop m R.answers) (sym (add-one k)) ∙ sym (fill_more k told R.answers (omega arith)) in
      let l = sym (same_part_lem n k (omega arith) R.logs) in
      let p = sym (same_part_lem n k (omega arith) R.reports) in
      (λ j. record { answers = a j; logs = l j; reports = p j; work = R.work })
      ∙ call_recorded b frames budget n k R (answered k) _ (refused_calls k (omega arith)) (sym (refused_call b frames budget n k (omega arith) (answered k) r place refused))

  pub all_refused : (xs : List ℕ) → n ≡ length R.answers → xs ≡ replicate (length R.answers) told → record { answers = xs; logs = R.logs; reports = R.reports; work = R.work } ≡ first_calls b frames budget n n R
  all_refused xs e d =
      let z : xs ≡ replicate n told ++ drop n R.answers = d ∙ sym (filled R.answers n told e) in
      (λ j. record { answers = z j; logs = R.logs; reports = R.reports; work = R.work }) ∙ refused_calls n (omega arith)
