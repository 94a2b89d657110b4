-- Every turn makes what the run makes, and lowers its measure.
use Prim.Native.Nat.{ℕ, ◌+◌, ◌%◌, ◌≤◌, ◌<◌}
use native.Mathlib.Omega.{arith}
use mathlib.Core.Path.{◌≡◌, refl, sym, ap, subst, ◌∙◌}
use mathlib.Core.Bool.{Bool, true, false, true≢false}
use mathlib.Core.List.{List, [], ◌∷◌}
use lib.ListN.{length, get_or}
use borrow.Author.Tests.{ne_eqb}
use Rattle.calculus.specs.Combinators.{choose}
use Rattle.calculus.specs.Syntax.{Dom, Pattern, pcd}
use Rattle.image.specs.Bytes.{le16}
use Rattle.closure_machine.specs.Closure.{CVal, Env, CState}
use Rattle.closure_machine.specs.Machine.{eval}
use Rattle.vm_theory.specs.Code.{Instr, Pc, is_atom}
use Rattle.vm_theory.specs.Conf.{Site, Chain, Slots, Conf}
use Rattle.vm_theory.specs.Stands.{stack_at}
use Rattle.vm_theory.specs.Table.{Node, many_n, pcd_m, match_m, Target, term_of, terms_of, instr_of, is_atom_at}
use Rattle.vm_theory.proofs.Located.{Located, Points, p_caller, p_to, node_term}
use Rattle.vm_code.specs.Words.{class_of, count_of, offset_of, branch_place, other_place, entry_place, term_count}
use Rattle.vm_code.specs.Words as code
use Rattle.vm_code.specs.Classes.{pointcut, match, class_with, pointcut_class, match_class}
use Rattle.vm_theory.specs.Says.{target_number, Says, says_unit, says_truth, says_number, says_variable, says_function, says_object, says_one, says_two, says_pointcut, says_match, SaysPattern, says_nullary}
use Rattle.vm_machine.specs.declared.Regs.{Regs}
use Rattle.vm_machine.specs.Registers.{frame_slots}
use Rattle.vm_machine.specs.Memory.{no_digits}
use Rattle.vm_machine.specs.States.{State}
use Rattle.vm_machine.specs.Fetch.{code_at}
use Rattle.vm_machine.specs.Turn.{child_at, labels_from, begin_labels, performed, turn}
use Rattle.vm_machine_correct.proofs.Setup.{Setup}
use Rattle.vm_machine_correct.proofs.Labels.{digits_of, no_labels}
use Rattle.vm_machine_correct.proofs.Simulation.{Simulates}
use Rattle.vm_machine_correct.proofs.Steps.{level, measure, After}
use Rattle.vm_machine_correct.proofs.Instructions.{turn_by, in_place_of, one_turn, two_turn, nullary_turn}
use Rattle.vm_machine_correct.proofs.Labelling.{none_done}
use Rattle.vm_machine_correct.proofs.Pointcuts.{labels_now}
use Rattle.vm_machine_correct.proofs.Matches.{begin_now}
use Rattle.vm_machine_correct.proofs.Returns.{return_now}

module _ (Θ : Setup) (S : State) (k : ℕ) (s : CState) where
  abbrev Progresses : State → Type 0
  Progresses S' = After Θ (measure S) S'

  abbrev r : Regs
  r = S.regs

  -- At instruction m of a body.
  module _ (m : ℕ) (hv : CVal) (P : Site) (A : Chain) (D : Slots) (no_atom : is_atom_at Θ.table m ≡ false) (located : Located Θ.linked m P.skel P.dom) (pc : r.pc ≡ m) where
    abbrev w : ℕ
    w = code_at Θ.program m

    abbrev At : Instr → Type 0
    At i = Simulates Θ S k s (record { instr = i; acc = hv; site = P; chain = A; slots = D })

    atom_not : (n : Node) → Θ.table.node m ≡ n → is_atom (term_of Θ.table n) ≡ true → Progresses (turn Θ.program Θ.given.frame S)
    atom_not n q a = absurd (true≢false (sym a ∙ sym (ap is_atom (node_term Θ.linked q)) ∙ no_atom))

    -- A pointcut is begun.
    pointcut_turn : (xs : List ℕ) → Θ.table.node m ≡ many_n pcd_m xs → class_of w ≡ pointcut_class → count_of w ≡ length xs → length xs ≤ 8 → ((i : ℕ) → i < length xs → child_at Θ.program w i ≡ get_or xs i 0)
        → At (instr_of Θ.table (many_n pcd_m xs)) → Progresses (turn Θ.program Θ.given.frame S)
    unfolding performed class_with digits_of begin_labels
    pointcut_turn xs n q count few children now =
        let small : m < term_count = Θ.says.few m no_atom in
        let low : level r ≡ r.frames + 1 = ap (λ (b : Bool). choose b (frame_slots + 2) (r.frames + 1)) (ne_eqb r.pc code.return_pc (λ e. omega (arith, pc))) in
        rw (turn_by Θ S k s m hv P A D no_atom located pc pointcut (ap class_with q) ∙ ap (λ (i : ℕ). labels_from Θ.program i 0 no_digits S) pc)
        (labels_now Θ S k s m P A D (in_place_of Θ S k s m hv P A D no_atom located pc _ now) pc xs n count few children (measure S) (omega (arith, low))
        [] (eval (pcd (terms_of Θ.table xs)) P.env) (stack_at P A D) no_labels (omega arith) none_done now.good.runs)

    -- A match is begun (card 6).
    match_turn : (t : Pattern) (x f g : ℕ) (xs : List ℕ) → Θ.table.node m ≡ many_n (match_m t f g) (x ∷ xs) → class_of w ≡ match_class → count_of w ≤ 8 → le16 Θ.program.image (offset_of w) % term_count ≡ x
        → le16 Θ.program.image (branch_place w) % term_count ≡ f → le16 Θ.program.image (other_place w) % term_count ≡ g → SaysPattern Θ.program.image (entry_place w 0) (count_of w) t xs → At (instr_of Θ.table (many_n (match_m t f g) (x ∷ xs)))
        → Progresses (turn Θ.program Θ.given.frame S)
    unfolding performed class_with
    match_turn t x f g xs n q few a c d h now =
        let small : m < term_count = Θ.says.few m no_atom in
        let low : level r ≡ r.frames + 1 = ap (λ (b : Bool). choose b (frame_slots + 2) (r.frames + 1)) (ne_eqb r.pc code.return_pc (λ e. omega (arith, pc))) in
        rw (turn_by Θ S k s m hv P A D no_atom located pc match (ap class_with q))
        (begin_now Θ S k s m P A D (in_place_of Θ S k s m hv P A D no_atom located pc _ now) pc t f g x xs n few c d h (measure S) (omega (arith, low)) a now.good.runs)

    node_now : (n : Node) → Θ.table.node m ≡ n → Says Θ.table Θ.program.image w n → At (instr_of Θ.table n) → Progresses (turn Θ.program Θ.given.frame S)
    node_now n q (says_unit c t) now = atom_not n q refl
    node_now n q (says_truth c t b) now = atom_not n q refl
    node_now n q (says_number c t b) now = atom_not n q refl
    node_now n q (says_variable c h) now = atom_not n q refl
    node_now n q (says_function c g) now = atom_not n q refl
    node_now n q (says_object c h) now = atom_not n q refl
    node_now n q (says_nullary {o = o} {y = y} c g h) now =
        nullary_turn Θ S k s m hv P A D no_atom located pc (in_place_of Θ S k s m hv P A D no_atom located pc _ now) o y now.good.runs c g
    node_now n q (says_one {H = H} {x = x} c f h) now = one_turn Θ S k s m hv P A D no_atom located pc H x q c f h now
    node_now n q (says_two {H = H} {x = x} {z = z} c f g h) now = two_turn Θ S k s m hv P A D no_atom located pc H x z q c f g h now
    node_now n q (says_pointcut {xs = xs} c count few i children) now = pointcut_turn xs q c count few children now
    node_now n q (says_match {p = t} {x = x} {f = f} {g = g} {xs = xs} c few i a d e h) now = match_turn t x f g xs q c few a d e h now

  -- Where the machine stands.
  points_now : {g : Target} {E : Pc} (hv : CVal) (ρ : Env) (c : Dom) (A : Chain) (D : Slots) → Points Θ.linked c g E → r.pc ≡ target_number g
      → Simulates Θ S k s (record { instr = E.0; acc = hv; site = record { skel = E.1; env = ρ; dom = c }; chain = A; slots = D }) → Progresses (turn Θ.program Θ.given.frame S)
  points_now hv ρ c A D p_caller pc now = return_now Θ S k s hv ρ c A D pc now
  points_now hv ρ c A D (p_to m i {σ} n q l) pc now =
      let P : Site = record { skel = σ; env = ρ; dom = c } in
      node_now m hv P A D n l pc (Θ.table.node m) refl (Θ.says.node m (Θ.says.few m n))
      (subst (λ (j : Instr). Simulates Θ S k s (record { instr = j; acc = hv; site = P; chain = A; slots = D })) q now)

  pub turn_now : {E : Conf} → Simulates Θ S k s E → Progresses (turn Θ.program Θ.given.frame S)
  turn_now {E} now = points_now E.acc E.site.env E.site.dom E.chain E.slots now.points now.pc now
