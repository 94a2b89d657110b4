-- An advice of a mark begins: its body runs over the mark's activation frame, two unfinished terms inside the mark's place.
use Prim.Native.Nat.{ℕ, ◌+◌, ◌%◌, ◌≤◌, ◌<◌}
use native.Mathlib.Omega.{arith}
use mathlib.Core.Path.{◌≡◌, refl, sym, ap, subst, ◌∙◌}
use mathlib.Core.Bool.{Bool, true, false}
use mathlib.Core.List.{List, [], ◌∷◌}
use mathlib.Core.Option.{Option, none, some}
use lib.ListN.{length}
use borrow.Author.Tests.{le-leb, lt-leb}
use Rattle.calculus.specs.Limits.{frame_limit}
use Rattle.calculus.specs.Combinators.{choose}
use Rattle.calculus.specs.Syntax.{Dom, Tm}
use Rattle.calculus.specs.State.{Advice}
use Rattle.calculus.specs.Place.{Place}
use Rattle.calculus.specs.View.{unit_of}
use Rattle.calculus.specs.Answer.{with}
use Rattle.closure_machine.specs.Closure.{CVal, Env, link, Body, CState, unload_val}
use Rattle.closure_machine.specs.Machine.{ret, triggered, triggered_f, Stack, CAnswer, reduces, reduce_seq_c, move}
use Rattle.vm_theory.specs.Code.{is_atom, atom_of, entry}
use Rattle.vm_theory.specs.Conf.{Site, advice_a, Chain, Slots, base, kept_by, depth_at, body, complete, begin, trigger}
use Rattle.vm_theory.specs.Stands.{stack_of, stack_at}
use Rattle.vm_theory.specs.Table.{caller, to, is_atom_at}
use Rattle.vm_theory.proofs.Reach.{Reach, not_wrong, redex_due}
use Rattle.closure_machine.proofs.Plug.{place_depth}
use Rattle.vm_theory.proofs.Places.{SiteInvariant, ChainInvariant, site_place}
use Rattle.vm_theory.proofs.Invariant.{Invariant, trigger_good}
use Rattle.vm_theory.proofs.Located.{Points, p_caller, entry_points}
use Rattle.vm_theory.proofs.Kept.{IsChain}
use Rattle.vm_theory.proofs.Arrive.{entry_has}
use Rattle.vm_theory.proofs.Debt as debts
use Rattle.vm_code.specs.Words.{is_instruction, term_count}
use Rattle.vm_code.specs.Words as code
use Rattle.vm_machine.specs.declared.Regs.{Regs}
use Rattle.vm_machine.specs.Registers.{frame_slots}
use Rattle.vm_machine.specs.States.{State}
use Rattle.vm_machine.specs.Memory.{binding_places}
use Rattle.vm_machine_correct.proofs.Setup.{Setup}
use Rattle.vm_machine_correct.proofs.Relations.{sizes, IsBody, IsVal, is_unit, IsEnv}
use Rattle.vm_machine_correct.proofs.Keeping.{AreKept}
use Rattle.vm_machine_correct.proofs.Slots.{Held, Back}
use Rattle.vm_machine_correct.proofs.Simulation.{entry_ready, Common, Simulates}
use Rattle.vm_machine_correct.proofs.Arrives.{instruction_of}

-- As many frames as there are unfinished terms.
pub stack_depth : (P : Site) (A : Chain) (D : Slots) → SiteInvariant P A → ChainInvariant A → length (stack_at P A D) ≡ depth_at P A
stack_depth P A D stood fine = sym (place_depth (stack_at P A D)) ∙ ap (λ (X : Place). X.depth) (site_place P A D stood.0 fine)

module _ (Θ : Setup) where
  -- The value of an advice's body is unit: else no rule would apply.
  pub body_unit : (k : ℕ) (s : CState) (P : Site) (A : Chain) (D : Slots) (w : CVal) (d : Dom) (x : List (Advice Body)) (v : CVal) → Reach Θ.sound k s (ret v) (stack_of (advice_a d w x P ∷ A) D)
      → length (triggered_f w x ∷ stack_at P A D) ≤ frame_limit → v ≡ CVal.unit
  unfolding with
  body_unit k s P A D w d x v reach few = try (unit_of (unload_val v)) refl
    where
      try : (o : Option (Unit {0})) → unit_of (unload_val v) ≡ o → v ≡ CVal.unit
      try none q =
          let K : Stack = triggered_f w x ∷ stack_at P A D in
          let F : Stack = stack_of (advice_a d w x P ∷ A) D in
          let is : move (ret v) F Θ.given s ≡ reduces (reduce_seq_c s (ret CVal.unit) v) K = redex_due K (reduce_seq_c s (ret CVal.unit) v) few in
          absurd (not_wrong Θ.sound k s (ret v) F reach K (is ∙ ap (λ (a : CAnswer). reduces a K) (rw q)))
      try (some u) q = debts.is_unit v u q

  module _ (S : State) (k : ℕ) (s : CState) (P : Site) (A : Chain) (D : Slots) (w : CVal) (d : Dom) (ls : List ℕ) (e : Tm) (ρ : Env) (x : List (Advice Body)) where
    abbrev r : Regs
    r = S.regs

    abbrev advice : Advice Body
    advice = record { dom = d; labels = ls; body = record { term = e; env = ρ } }

    abbrev A' : Chain
    A' = advice_a d w x P ∷ A

    pub advised : (g : ℕ) → Common Θ S k s → SiteInvariant P A → ChainInvariant A → IsBody Θ g e d → r.pc ≡ choose (is_instruction g) (g % term_count) code.return_pc → r.acc ≡ 0
        → IsEnv Θ S.memory (sizes r) r.env (link w ρ) → r.env < binding_places → r.frames + base A' ≡ frame_slots
        → IsChain Θ.linked (Held Θ S.memory (sizes r)) (Back Θ S.memory (sizes r)) D A' → AreKept Θ S.memory (sizes r) r.kept (kept_by A) → Reach Θ.sound k s (triggered w (advice ∷ x)) (stack_at P A D)
        → Simulates Θ S k s (trigger w (advice ∷ x) P A D)
    advised g common stood fine b pc acc env fits frames chain kept reach = try (is_atom e) refl (trigger_good Θ.sound k s P A D stood fine w (advice ∷ x) reach)
      where
        f : ℕ
        f = b.number

        atom_when : (a : Bool) → is_atom e ≡ a → is_atom_at Θ.table f ≡ a
        atom_when a q = ap is_atom b.term ∙ q

        target : (a : Bool) → is_atom e ≡ a → g ≡ choose a f (term_count + Θ.table.entry f)
        target a q = rw (← atom_when a q) b.begins.0

        points : is_atom e ≡ false → Points Θ.linked d (to (Θ.table.entry f)) (entry e [])
        points a = subst (λ (t : Tm). Points Θ.linked d (to (Θ.table.entry f)) (entry t [])) b.term (entry_points Θ.linked f [] d (atom_when false a) b.located)

        try : (a : Bool) → is_atom e ≡ a → Invariant Θ.sound k s (choose a (complete (atom_of e (link w ρ)) (body (link w ρ) d) A' D) (begin e (body (link w ρ) d) A' D))
            → Simulates Θ S k s (choose a (complete (atom_of e (link w ρ)) (body (link w ρ) d) A' D) (begin e (body (link w ρ) d) A' D))
        try true a good =
            let t : is_instruction g ≡ false = lt-leb term_count g (omega (arith, target true a, b.begins.1)) in
            record {
              common = common;
              good = good;
              target = caller;
              pc = pc ∙ ap (λ (i : Bool). choose i (g % term_count) code.return_pc) t;
              points = p_caller;
              env = env;
              env_fits = fits;
              frames = frames;
              ready = rw (acc, body_unit k s P A D w d x (atom_of e (link w ρ)) good.runs (omega (arith, stack_depth P A D stood fine))) (is_unit refl);
              waits = tt;
              chain = chain;
              kept = kept;
            }
        try false a good =
            let few : Θ.table.entry f < term_count = Θ.says.few (Θ.table.entry f) (instruction_of Θ (points a)) in
            let t : is_instruction g ≡ true = le-leb term_count g (omega (arith, target false a)) in
            let i : g % term_count ≡ Θ.table.entry f = omega (arith, target false a) in
            record {
              common = common;
              good = good;
              target = to (Θ.table.entry f);
              pc = pc ∙ ap (λ (i : Bool). choose i (g % term_count) code.return_pc) t ∙ i;
              points = points a;
              env = env;
              env_fits = fits;
              frames = frames;
              ready = entry_ready (IsVal Θ S.memory (sizes r)) r.acc CVal.unit _ _ e [] a;
              waits = entry_has Θ.linked (Held Θ S.memory (sizes r)) D (base A') e [] tt;
              chain = chain;
              kept = kept;
            }
