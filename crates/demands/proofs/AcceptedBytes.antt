-- What accepted programs write: a plain value has at most 8 leaves, so a report fits in 17,994 bytes; the log fits in its length; and demand 3 about the bytes.
use Prim.Native.Nat.{ℕ, ◌+◌, ◌≤◌}
use native.Mathlib.Omega.{arith}
use mathlib.Core.Path.{◌≡◌, refl, ap₂}
use mathlib.Core.Bool.{Bool, true, false}
use mathlib.Core.List.{List, [], map}
use mathlib.Core.Option.{Option, none, some}
use lib.ListN.{length, length-append, length-map}
use borrow.Author.Tests.{leb-true}
use Rattle.calculus.specs.Limits.{leaf_limit, cell_limit}
use Rattle.calculus.specs.Combinators.{choose}
use Rattle.calculus.specs.Syntax.{Dom, Ty, Val, Tm}
use Rattle.calculus.specs.Plain.{both_leaves, leaf_count, few_leaves, is_plain}
use Rattle.calculus.specs.State.{Cell, Given, fresh, log_of}
use Rattle.calculus.specs.Run.{End, Ended, run}
use Rattle.calculus.specs.Report.{leaves, result_of, cell_report, report}
use Rattle.calculus.specs.Blank.{blank}
use Rattle.calculus.specs.Typing.{Policy, StoreTyping, ⊢◌⦂◌ as ValTy, no_store, ◌⨾◌⊢◌⦂◌ as TmTy}
use Rattle.laws.proofs.Lists.{All, All.all_nil, All.all_cons, All2, All2.all2_nil, All2.all2_cons}
use Rattle.calculus_safety.proofs.StoreFits.{CellFits, CellFits.cell_fits}
use Rattle.calculus.specs.Accepted.{Transitive, Accepted}
use Rattle.image.specs.Limits.{report_length}
use Rattle.calculus_safety.proofs.Runs.{Ends, Ends.ends_done, Ends.ends_stopped, program_safe}
use Rattle.calculus_safety.proofs.Within.{program_within}
use Rattle.calculus_noninterference.specs.Observe.{Highs}
use Rattle.calculus_noninterference.proofs.Clash.{clash}
use Rattle.calculus_noninterference.proofs.Reported.{demand3_reported}
use Rattle.demands.specs.SameBytes.{SameBytes}
use Rattle.report.specs.OfRun.{written_log, written_report}
use Rattle.report.specs.Fits.{FewLeaves, CellsFew, by_field}
use Rattle.report.proofs.Lengths.{length_log, report_short}
use Rattle.demands.proofs.SameBytes.{same_bytes}

-- The number of leaves of a value is its type's, where the type has one.
abbrev Agrees : ℕ → Option ℕ → Type 0
Agrees n none = Unit {0}
Agrees n (some m) = n ≡ m

both_agree : (o p : Option ℕ) (m n : ℕ) → Agrees m o → Agrees n p → Agrees (m + n) (both_leaves o p)
both_agree none p m n a b = tt
both_agree (some x) none m n a b = tt
both_agree (some x) (some y) m n a b = ap₂ ◌+◌ a b

few_agree : (o : Option ℕ) (n : ℕ) → few_leaves o ≡ true → Agrees n o → n ≤ leaf_limit
few_agree none n e a = clash e refl
few_agree (some m) n e a = let h = leb-true m leaf_limit e in omega arith

module _ {D : Policy} {Σ : StoreTyping} where
  leaves_agree : {v : Val} {a : Ty} → ValTy D Σ v a → Agrees (length (leaves v)) (leaf_count a)
  unfolding leaves
  leaves_agree ValTy.v_unit = refl
  leaves_agree ValTy.v_truth = refl
  leaves_agree ValTy.v_number = refl
  leaves_agree (ValTy.v_pair {v} {w} {a} {b} x y) = rw (length-append (leaves v) (leaves w)) (both_agree (leaf_count a) (leaf_count b) (length (leaves v)) (length (leaves w)) (leaves_agree x) (leaves_agree y))
  leaves_agree (ValTy.v_fun x) = tt
  leaves_agree (ValTy.v_label x) = tt
  leaves_agree (ValTy.v_cell x) = tt
  leaves_agree (ValTy.v_pointcut x) = tt
  leaves_agree (ValTy.v_advice x y z) = tt
  leaves_agree (ValTy.v_object x) = tt
  leaves_agree ValTy.v_bottom = tt
  leaves_agree (ValTy.v_kept x y z) = tt

  plain_few : {v : Val} {a : Ty} → is_plain a ≡ true → ValTy D Σ v a → length (leaves v) ≤ leaf_limit
  plain_few {v} {a} p h = few_agree (leaf_count a) (length (leaves v)) p (leaves_agree h)

  cell_few : {v : Val} {a : Ty} (b : Bool) → is_plain a ≡ b → ValTy D Σ v a → FewLeaves (choose b (some (leaves v)) none)
  cell_few true p h = plain_few p h
  cell_few false p h = tt

  cells_few : {ts : List Ty} {cs : List (Cell Val)} → All2 (CellFits D Σ) ts cs → All (λ c. FewLeaves c.held) (map (cell_report leaves) cs)
  cells_few all2_nil = all_nil
  cells_few (all2_cons (cell_fits {a} h) k) = all_cons (cell_few (is_plain a) refl h) (cells_few k)

  result_few : {t : Ty} {o : End} → is_plain t ≡ true → Ends D t Σ o → length (result_of leaves o) ≤ leaf_limit
  result_few p (ends_done h) = plain_few p h
  result_few p (ends_stopped n) = omega arith

module _ (D : Policy) (trans : Transitive D) (G : Given) (n : ℕ) where
  pub program_cells_few : {e : Tm} {t : Ty} → TmTy D no_store [] 0 e t → CellsFew (run n G 0 fresh e)
  program_cells_few h = cells_few (program_safe D trans G h n).state.cells

  pub program_result_few : {e : Tm} → Accepted D e → length (report (run n G 0 fresh e)).result ≤ leaf_limit
  program_result_few A = result_few A.plain (program_safe D trans G A.typed n).end

  -- The report of an accepted program fits in 17,994 bytes, and its log in the log that it was given.
  pub program_report_short : {e : Tm} → Accepted D e → length (written_report (run n G 0 fresh e)) ≤ report_length
  program_report_short {e} A =
      let E : Ended = run n G 0 fresh e in
      let w = program_within G n e in
      let m = length-map E.state.cells (cell_report leaves) in
      let c : length (report E).cells ≤ cell_limit + cell_limit = omega (arith, w.counted, w.mainline.cells, w.others.cells) in
      report_short _ _ (report E).result (program_result_few A) c (program_cells_few A.typed)

pub program_log_short : (G : Given) (n : ℕ) (e : Tm) → length (written_log (run n G 0 fresh e)) ≤ G.log_length
program_log_short G n e =
    let w = program_within G n e in
    let m = length_log (log_of (run n G 0 fresh e).state.trace) in
    omega (arith, w.log)

-- Demand 3 for the bytes that runs of the calculus write.
pub demand3_bytes : (D : Policy) (hi : Dom → Bool) → Transitive D → Highs D (by_field hi)
    → (e e' : Tm) → Accepted D e → Accepted D e' → blank (by_field hi) e ≡ blank (by_field hi) e'
    → (G G' : Given) → G.frame ≡ G'.frame → (n n' : ℕ)
    → SameBytes hi (written_log (run n G 0 fresh e)) (written_log (run n' G' 0 fresh e')) (written_report (run n G 0 fresh e)) (written_report (run n' G' 0 fresh e'))
demand3_bytes D hi trans H e e' A A' alike G G' frame n n' =
    same_bytes hi (run n G 0 fresh e) (run n' G' 0 fresh e') (program_cells_few D trans G n A.typed) (program_cells_few D trans G' n' A'.typed)
    (demand3_reported D (by_field hi) trans H e e' A A' alike G G' frame n n')
