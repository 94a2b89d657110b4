-- A pointcut is worked out: its next child that is no atom begins as a body of its own, or the pointcut is made.
use Prim.Native.Nat.{ℕ, suc, ◌+◌, ◌-◌, ◌*◌, ◌/◌, ◌%◌, ◌≤◌, ◌<◌}
use native.Mathlib.Omega.{arith}
use mathlib.Core.Path.{◌≡◌, refl, sym, ap, ◌∙◌}
use mathlib.Core.Bool.{Bool}
use mathlib.Core.List.{List, ◌∷◌, map}
use lib.ListN.{length, get_or, drop, length-drop}
use lib.Dec.{leb}
use borrow.Author.Tests.{le-leb, lt-leb, ne_eqb}
use Rattle.calculus.specs.declared.Outcome.{Outcome}
use Rattle.calculus.specs.Combinators.{choose}
use Rattle.calculus.specs.Place.{Place, framed}
use Rattle.closure_machine.specs.Closure.{CVal, CState}
use Rattle.closure_machine.specs.Machine.{Control, pcd_n, Stack, place_at, reduces, redex, reduce_nc, move}
use Rattle.vm_theory.specs.Conf.{Site, Chain, Slots, place_of}
use Rattle.vm_theory.specs.Stands.{stack_at}
use Rattle.vm_theory.specs.Table.{many_n, pcd_m, In, terms_of}
use Rattle.vm_theory.proofs.Reach.{Reach}
use Rattle.vm_theory.proofs.Places.{site_place}
use Rattle.vm_theory.proofs.Kept.{some_operands}
use Rattle.vm_code.specs.Words.{count_of, depth_of, term_count}
use Rattle.vm_code.specs.Words as code
use Rattle.vm_machine.specs.declared.Regs.{Regs}
use Rattle.vm_machine.specs.Registers.{frame_slots, set_pc, set_frames, halt}
use Rattle.vm_machine.specs.Memory.{Memory, slot_held, pointcut_frame, put_digits, label_set, held_size}
use Rattle.vm_machine.specs.States.{State, with_regs, with_memory, judged}
use Rattle.vm_machine.specs.Fetch.{code_at}
use Rattle.vm_machine.specs.Reduce.{new_piece}
use Rattle.vm_machine.specs.Turn.{child_at, entry_from, Taken, take_labels, labels_from}
use Rattle.vm_machine.specs.Run.{turns_per_step}
use Rattle.vm_machine_correct.proofs.Setup.{Setup}
use Rattle.vm_machine_correct.proofs.Relations.{Sizes, sizes}
use Rattle.vm_machine_correct.proofs.Labels.{digits_of, Labels, digits_fit}
use Rattle.vm_machine_correct.proofs.Slots.{slot_of, byte_of, FrameIs, Back}
use Rattle.vm_machine_correct.proofs.Simulation.{InPlace}
use Rattle.vm_machine_correct.proofs.Steps.{level, measure, After, after_halted, after_now, judged_now}
use Rattle.vm_machine_correct.proofs.ReducePieces.{pointcut_now}
use Rattle.vm_machine_correct.proofs.Entries.{entry_from_lem}
use Rattle.vm_machine_correct.proofs.Listed.{operand_begins}
use Rattle.vm_machine_correct.proofs.Labelling.{drop_at, Pending, Stops, all_taken, stopped_at, taken}

-- The digits in a pointcut's frame and in the byte beside it.
digits_split : (d h : ℕ) → d < 8796093022208 → h ≡ d % held_size → h + held_size * (d / held_size % 256) ≡ d
digits_split d h lt p = omega arith

module _ (Θ : Setup) where
  pub after_mono : {b b' : ℕ} {S : State} → b ≤ b' → After Θ b S → After Θ b' S
  after_mono h (after_halted x) = after_halted x
  after_mono h (after_now n l) = after_now n (omega arith)

  module _ (S : State) (k : ℕ) (s : CState) (m : ℕ) (P : Site) (A : Chain) (D : Slots) (p : InPlace Θ S k s m P A D) (pc : S.regs.pc ≡ m) (xs : List ℕ) (node : Θ.table.node m ≡ many_n pcd_m xs)
      (count : count_of (code_at Θ.program m) ≡ length xs) (few : length xs ≤ 8) (children : (i : ℕ) → i < length xs → child_at Θ.program (code_at Θ.program m) i ≡ get_or xs i 0) (b : ℕ)
      (bound : turns_per_step * S.regs.fuel + (S.regs.frames + 1) ≤ b) where
    abbrev M : Memory
    M = S.memory

    abbrev r : Regs
    r = S.regs

    abbrev z : Sizes
    z = sizes r

    abbrev w : ℕ
    w = code_at Θ.program m

    abbrev K : Stack
    K = stack_at P A D

    abbrev Progresses : State → Type 0
    Progresses S' = After Θ b S'

    small : m < term_count
    small = Θ.says.few m p.no_atom

    abbrev Stopped : Taken → Type 0
    Stopped t = Stops Θ M z r.env P.env p.env p.env_fits k s K m xs node few p.located w children t

    -- All children are done: the pointcut is made.
    made_now : (ds : List ℕ) (c : Control) (F : Stack) → Labels ds → length ds ≡ length xs → Reach Θ.sound k s c F → move c F Θ.given s ≡ redex K (reduce_nc Θ.given (place_at K) s pcd_n P.env (map CVal.label ds))
        → Progresses (judged w S (new_piece w 7 0 (label_set (count_of w) (digits_of ds) 0) S))
    made_now ds c F ls n reach is =
        let at : place_at K ≡ place_of P A = site_place P A D p.stood.0 p.fine in
        let low : level r ≤ r.frames + 1 = omega (arith, ap (λ (t : Bool). choose t (frame_slots + 2) (r.frames + 1)) (ne_eqb r.pc code.return_pc (λ e. omega (arith, small)))) in
        after_mono {b = measure S} (omega arith)
        (judged_now (measure S) (new_piece w 7 0 (label_set (count_of w) (digits_of ds) 0) S)
        (record { place = p; pc = pc; reach = reach; is = is ∙ ap (λ (X : Place). reduces (framed X (reduce_nc Θ.given X s pcd_n P.env (map CVal.label ds))) K) at })
        (λ R. pointcut_now Θ S k s m P A D c F P.env ds (count_of w) ls (n ∙ sym count) R))

    -- What the frame of a child that is no atom says: the children that are done, and those that are left.
    labels_back : (ds : List ℕ) (y : ℕ) (ys : List ℕ) → Labels ds → drop (length ds) xs ≡ y ∷ ys → (M' : Memory) (i : ℕ) → FrameIs Θ M' z (slot_of M' i) pointcut_frame m P.env
        → slot_held (slot_of M' i) ≡ digits_of ds % 68719476736 → byte_of M' i ≡ digits_of ds / 68719476736 % 256 → Back Θ M' z i (some_operands pcd_n (map CVal.label ds) (terms_of Θ.table ys)) m P.env
    labels_back ds y ys ls d M' i is held byte =
        let at = drop_at xs (length ds) y ys d in
        let low : digits_of ds < 8796093022208 = digits_fit 7 ls (omega (arith, at.2)) in (
          is,
          record {
            children = xs;
            node = node;
            done = ds;
            labels = ls;
            are = refl;
            fewer = at.2;
            digits = rw byte (digits_split (digits_of ds) (slot_held (slot_of M' i)) low held);
            remaining = ap (terms_of Θ.table) (sym at.1);
          },
        )

    -- From the children that are done on.
    pub labels_now : (ds : List ℕ) (c : Control) (F : Stack) → Labels ds → length ds ≤ length xs
        → Pending Θ M z r.env P.env p.env p.env_fits k s K m xs node few p.located w children ds (terms_of Θ.table (drop (length ds) xs)) c F → Reach Θ.sound k s c F
        → Progresses (labels_from Θ.program m (length ds) (digits_of ds) S)
    labels_now ds c F ls n pending reach = rw (number) (by (take_labels Θ.program M r.env w (length (drop (length ds) xs)) (length ds) (digits_of ds)) stops)
      where
        number : count_of w - length ds ≡ length (drop (length ds) xs)
        number = omega (arith, count, length-drop (length ds) xs)

        stops : Stopped (take_labels Θ.program M r.env w (length (drop (length ds) xs)) (length ds) (digits_of ds))
        stops = taken Θ M z r.env P.env p.env p.env_fits k s K m xs node few p.located w children (drop (length ds) xs) ds c F refl ls n pending reach

        by : (t : Taken) → Stopped t → Progresses
            (choose (leb (count_of w) t.count) (judged w S (new_piece w 7 0 (label_set (count_of w) t.digits 0) S))
            (choose (leb r.frames (depth_of w + 1)) (with_regs (halt Outcome.Frames r) S)
            (with_memory (put_digits r.frames (depth_of w + 1) m r.env t.digits M) (set_pc (entry_from term_count Θ.program (child_at Θ.program w t.count)) (set_frames (r.frames - (depth_of w + 1)) r)) S)))
        by t (all_taken ds' c' F' ls' n' tc td r' is) = rw (td, le-leb (count_of w) t.count (omega (arith, tc, count))) (made_now ds' c' F' ls' n' r' is)
        by t (stopped_at ds' y ys ls' d tc td a r') =
            rw (td, lt-leb (count_of w) t.count (omega (arith, tc, count, i.2)))
            (operand_begins Θ S k s m P A D p pc b bound pcd_m xs node pcd_n (map CVal.label ds') (terms_of Θ.table ys) y a i.3 r' (digits_of ds' % 68719476736) (digits_of ds' / 68719476736 % 256)
            (λ M' grown n is held byte. labels_back ds' y ys ls' d M' n is held byte) (entry_from term_count Θ.program (child_at Θ.program w t.count)) entered)
          where
            i : (get_or xs (length ds') 0 ≡ y) × (drop (suc (length ds')) xs ≡ ys) × (length ds' < length xs) × In y xs
            i = drop_at xs (length ds') y ys d

            entered : entry_from term_count Θ.program (child_at Θ.program w t.count) ≡ Θ.table.entry y
            entered = ap (λ (j : ℕ). entry_from term_count Θ.program (child_at Θ.program w j)) tc ∙ ap (entry_from term_count Θ.program) (children (length ds') i.2 ∙ i.0) ∙ entry_from_lem Θ y (Θ.says.few y a) a
