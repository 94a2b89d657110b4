-- What the run of an accepted image leaves, from what the machine and the report leave.
use Prim.Native.Nat.{ℕ, ◌≤◌, ◌<◌}
use native.Mathlib.Omega.{arith}
use mathlib.Core.Path.{◌≡◌, ap, ap₂, ◌∙◌}
use mathlib.Core.List.{List, ◌++◌}
use lib.ListN.{length, replicate}
use Rattle.image.specs.Limits.{work_length, type_limit}
use Rattle.image.specs.Layout.{records_of}
use Rattle.verdict.proofs.Passed.{passed_iff}
use Rattle.read_records.specs.Tables.{Tables}
use Rattle.read_terms.specs.Lent.{Types}
use Rattle.read_terms.proofs.Located.{good_of}
use Rattle.base_bytes.specs.Bytes.{AreBytes, over, cleared}
use Rattle.base_bytes.specs.Memory.{word_count, beside_count}
use Rattle.base_bytes.proofs.Memory.{length_words, length_beside}
use Rattle.vm_code.specs.Words.{return_pc}
use Rattle.vm_code.specs.Code.{code_of, root_target}
use Rattle.vm_machine.specs.declared.Regs.{Regs}
use Rattle.vm_pools.specs.Pools.{whole}
use Rattle.vm_machine.specs.Memory.{Memory, cell_places}
use Rattle.vm_machine.specs.States.{State}
use Rattle.vm_machine.specs.Run.{start_state, turns_for, vm_run}
use Rattle.vm_machine.specs.Fits.{Safe}
use Rattle.vm_memory.specs.View.{memory_of}
use Rattle.vm_registers.specs.Phases.{Represents}
use Rattle.call_spec.specs.declared.Answer.{Answer}
use Rattle.call_spec.specs.Runs.{Accepts, run_of}
use Rattle.call_spec.specs.Calls.{left_by}
use Rattle.vm_results.specs.Ended.{report_in, answer_in}
use Rattle.engine_correct.specs.Machine.{LeavesRun}
use Rattle.engine_correct.proofs.Machine.{image_fits, image_safe}
use Rattle.engine_correct.proofs.Tables.{image_leaves}

-- The descriptors are those of the image's types, which are at most 128.
pub types_in_lem : (b ds ts ks : List ℕ) → Tables b ds ts ks → Types b ks
types_in_lem b ds ts ks T = record { laid_out = T.laid_out; enough = T.enough; descriptors = T.descriptors }

pub few_types : (b ds ts ks : List ℕ) (n : ℕ) → Tables b ds ts ks → n ≡ length (records_of b).types → n ≤ type_limit
few_types b ds ts ks n T e = let f = (good_of b T.laid_out).few_types in omega arith

-- An accepted image has a term.
pub some_term : (b : List ℕ) (count : ℕ) → Accepts b → count ≡ length (records_of b).terms → 0 < count
some_term b count A e = let h = ((passed_iff b A.work A.report).0 A.verdict_is).shaped.has_terms in omega arith

-- The code of an accepted image is run from its root's target; M is what the tables hold at the start.
module _ (b frame : List ℕ) (A : Accepts b) (bytes : AreBytes b) (budget : ℕ) (log code work : List ℕ) (target : ℕ) (same : code ≡ code_of (records_of b)) (root : target ≡ root_target (records_of b))
    (enough : work_length ≤ length work) where
  abbrev M : Memory
  M = memory_of work

  abbrev S : State
  S = vm_run (record { code = code; image = b }) frame target budget M log

  -- The tables are long enough.
  words : word_count ≤ length M.words
  words = omega (arith, length_words word_count work)

  beside : beside_count ≤ length M.beside
  beside = omega (arith, length_beside work enough)

  -- The code has the word that goes back to a caller; and the run is safe.
  pub code_long : return_pc < length code
  code_long = rw same (image_fits b A bytes).long

  pub run_safe : Safe (record { code = code; image = b }) frame (turns_for budget) (start_state (record { code = code; image = b }) target budget M log)
  run_safe = rw (same, root) (image_safe b A bytes frame budget log M words beside)

  pub leaves_run : LeavesRun S budget log (run_of b frame budget log)
  leaves_run = rw (same, root) (image_leaves b A bytes frame budget log M words beside)

  -- What the report asks of the registers.
  pub report_asks : (q : Regs) → q ≡ S.regs → (whole q.pools.cells ≤ cell_places) × (q.rest ≤ budget)
  report_asks q e = rw e (leaves_run.cells, leaves_run.rest)

  -- The front of the work area holds anything; past it nothing changed.
  pub run_left : (work' log' report report' : List ℕ) (q : Regs) (a : Answer) → Represents S work work' log' q → a ≡ answer_in (memory_of work') q budget → report' ≡ over 0 (report_in (memory_of work') q budget) report
      → record { answer = a; log = log'; report = report'; work = cleared work_length work' } ≡ left_by (run_of b frame budget log) log report work
  unfolding cleared
  run_left work' log' report report' q a m p r =
      let t : a ≡ answer_in S.memory S.regs budget = p ∙ ap₂ (λ N s. answer_in N s budget) m.memory.memory m.regs in
      let u : report' ≡ over 0 (report_in S.memory S.regs budget) report = r ∙ ap₂ (λ N s. over 0 (report_in N s budget) report) m.memory.memory m.regs in
      let answered = t ∙ leaves_run.answer in
      let logged = m.logged ∙ leaves_run.log in
      let reported = u ∙ ap (λ x. over 0 x report) leaves_run.report in
      let kept : cleared work_length work' ≡ cleared work_length work = ap (λ x. replicate work_length 0 ++ x) m.memory.rest in
      λ i. record { answer = answered i; log = logged i; report = reported i; work = kept i }
