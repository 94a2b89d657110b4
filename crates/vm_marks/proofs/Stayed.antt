-- Card 7: what a takedown leaves of the installed advice, one after another.
use Prim.Native.Nat.{ℕ, suc, ◌+◌, ◌-◌, ◌≤◌, ◌<◌}
use native.Mathlib.Omega.{arith}
use mathlib.Core.Path.{◌≡◌, refl, sym, ap, subst, ◌∙◌}
use mathlib.Core.List.{List}
use lib.ListN.{drop}
use borrow.Author.Tests.{eq-eqb, ne_eqb, lt-leb}
use Rattle.base_bytes.specs.Memory.{memory_length}
use Rattle.vm_code.specs.Values.{unit_value}
use Rattle.vm_code.specs.Words.{field_b}
use Rattle.vm_machine.specs.declared.Regs.{Regs}
use Rattle.vm_machine.specs.Registers.{fuel_bias, set_installed}
use Rattle.vm_machine.specs.Memory.{installed_at, put_installed, piece_first, advice_dom}
use Rattle.vm_machine.specs.States.{State}
use Rattle.vm_machine.specs.Reduce.{Bound, stay_one, stay_others, given, reduce_takedown}
use Rattle.vm_memory.specs.View.{memory_of, Holds}
use Rattle.vm_memory.proofs.Chosen.{chosen_yes, chosen_no}
use Rattle.vm_registers.specs.Phases.{Represents, Phase}
use Rattle.vm_registers.proofs.Made.{stored_then}
use Rattle.vm_marks.specs.Binds.{bound_in, Binds}
use Rattle.vm_marks.proofs.Matched.{binds_by, bound_is}

-- Installed advice i, of piece p; x is its word and y its domain.
module _ (w : List ℕ) (d i n p x y : ℕ) (e : p ≡ installed_at (memory_of w) i) (f : x ≡ piece_first (memory_of w) p) (g : y ≡ advice_dom x) where
  domain_is : y ≡ advice_dom (piece_first (memory_of w) (installed_at (memory_of w) i))
  domain_is = g ∙ ap advice_dom (f ∙ ap (piece_first (memory_of w)) e)

  pub one_goes : y ≡ d → Binds (stay_one d i (bound_in w n)) w w n
  one_goes h =
      binds_by (bound_in w n) (stay_one d i (bound_in w n)) w w n (sym (chosen_yes _ _ _ (eq-eqb _ _ (sym domain_is ∙ h)))) (record { memory = record { memory = refl; rest = refl }; count = refl })

  pub one_stays : (w' : List ℕ) → (y ≡ d → ⊥) → Holds (put_installed n p (memory_of w)) w w' → Binds (stay_one d i (bound_in w n)) w w' (n + 1)
  one_stays w' h m =
      binds_by (record { memory = put_installed n (installed_at (memory_of w) i) (memory_of w); count = n + 1 }) (stay_one d i (bound_in w n)) w w' (n + 1) (sym (chosen_no _ _ _ (ne_eqb _ _ (λ z. h (domain_is ∙ z)))))
      (record { memory = subst (λ (j : ℕ). Holds (put_installed n j (memory_of w)) w w') e m; count = refl })

-- None is looked at yet.
pub stay_start : (n d : ℕ) (B : Bound ℕ) → stay_others n 0 d B ≡ stay_others (n - 0) 0 d B
stay_start n d B = let k : n ≡ n - 0 = omega arith in ap (λ (x : ℕ). stay_others x 0 d B) k

-- One more.
pub stay_on : (n i d : ℕ) (w w' : List ℕ) (m m' : ℕ) → i < n → Binds (stay_one d i (bound_in w m)) w w' m' → stay_others (n - i) i d (bound_in w m) ≡ stay_others (n - (i + 1)) (i + 1) d (bound_in w' m')
unfolding stay_others
stay_on n i d w w' m m' h b =
    let k : n - i ≡ suc (n - (i + 1)) = omega arith in
    let j : suc i ≡ i + 1 = omega arith in
    ap (λ (x : ℕ). stay_others x i d (bound_in w m)) k ∙ ap (λ (x : ℕ). stay_others (n - (i + 1)) x d (stay_one d i (bound_in w m))) j ∙ ap (stay_others (n - (i + 1)) (i + 1) d) (bound_is (stay_one d i (bound_in w m)) w w' m' b)

-- All are looked at.
pub stay_done : (B : Bound ℕ) (n i d : ℕ) (w w' : List ℕ) (m : ℕ) → n ≤ i → B ≡ stay_others (n - i) i d (bound_in w' m) → drop memory_length w' ≡ drop memory_length w → Binds B w w' m
unfolding stay_others
stay_done B n i d w w' m h e r =
    let k : n - i ≡ 0 = omega arith in
    let z : B ≡ bound_in w' m = e ∙ ap (λ (x : ℕ). stay_others x i d (bound_in w' m)) k in
    binds_by (bound_in w' m) B w w' m (sym z) (record { memory = record { memory = refl; rest = r }; count = refl })

-- The takedown of the domain d: n advices stay, and the instruction gives unit from the registers s with that count.
pub takedown_made : (a b c : List ℕ) (r s q : Regs) (w d n : ℕ) → fuel_bias < r.fuel → d ≡ field_b w → Binds (stay_others r.installed 0 d (bound_in a 0)) a b n → s ≡ r → Phase (given w unit_value) b c (set_installed n s.named s) q
    → Phase (reduce_takedown w) a c r q
unfolding reduce_takedown
takedown_made a b c r s q w d n left e k z p =
    let B : Bound ℕ = stay_others r.installed 0 (field_b w) (bound_in a 0) in
    let held : Binds B a b n = subst (λ (j : ℕ). Binds (stay_others r.installed 0 j (bound_in a 0)) a b n) e k in
    let p₁ : Phase (given w unit_value) b c (set_installed n r.named r) q = subst (λ (v : Regs). Phase (given w unit_value) b c (set_installed n v.named v) q) z p in
    let p₂ : Phase (given w unit_value) b c (set_installed B.count r.named r) q = subst (λ (j : ℕ). Phase (given w unit_value) b c (set_installed j r.named r) q) held.count p₁ in
    record {
      represents =
          λ log. subst (λ (T : State). Represents T a c log q) (sym (chosen_no _ _ _ (lt-leb r.fuel fuel_bias left)))
          ((stored_then (given w unit_value) B.memory a b c (set_installed B.count r.named r) q held.memory p₂).represents log);
    }
