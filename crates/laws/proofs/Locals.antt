-- For a walk of MIR by hand, over many locals: parts of MIR that the generated modules have under no name, and a context that has each local beside its `fdies`. It says nothing of the crate.
--     after_all_lem n b the body b without its first n statements
--     arm_of n b       arm n of the switch b
--     no, has          a local that is empty, and one that holds a value, each beside its `fdies`
--     slot k i         where local i stands in a context of k entries, then the locals from 0 on
--     frees_all        all locals are freed at once, beside one entry
-- Assumes `Logic`.
use Prim.Native.Nat.{ℕ, zero, suc, ◌+◌, ◌*◌}
use mathlib.Core.List.{List, [], ◌∷◌}
use seplogic.Ra.Ura.{Ura}
use base.Fraction.{full_share}
use mir.Syntax.{Ty, Body, Arms, skip, seq, assign, block, loop, cond, switch, exit, return, call, arm, default, no_default}
use mir.Val.{Val}
use base.Fml.{fat, froom, fdies}
use prog.Wp.{Env}
use types.Logic.{Logic}
use types.Kit.{Item, Goal, Sq, frees, ‵, ◌$◌, !, move}
use types.Run.{free1, free0}

-- What follows a number of statements, and an arm of a switch.
abbrev after : Body → Body
after skip = skip
after (seq a b) = b
after (assign p rv) = skip
after (block b) = skip
after (loop b) = skip
after (cond c a b) = skip
after (switch c arms) = skip
after (exit n) = skip
after return = skip
after (call f xs d) = skip
after mir.Syntax.unreachable = skip
after (mir.Syntax.call_v _ _ _ _) = skip
after (mir.Syntax.lend_static _ _ _) = skip

abbrev pub after_all_lem : ℕ → Body → Body
after_all_lem zero b = b
after_all_lem (suc n) b = after_all_lem n (after b)

abbrev nth_arm : ℕ → Arms → Body
nth_arm zero (arm ks b arms) = b
nth_arm zero (default b) = b
nth_arm zero no_default = skip
nth_arm (suc n) (arm ks b arms) = nth_arm n arms
nth_arm (suc n) (default b) = b
nth_arm (suc n) no_default = skip

abbrev pub arm_of : ℕ → Body → Body
arm_of n skip = skip
arm_of n (seq a b) = skip
arm_of n (assign p rv) = skip
arm_of n (block b) = skip
arm_of n (loop b) = skip
arm_of n (cond c a b) = skip
arm_of n (switch c arms) = nth_arm n arms
arm_of n (exit k) = skip
arm_of n return = skip
arm_of n (call f xs d) = skip
arm_of n mir.Syntax.unreachable = skip
arm_of n (mir.Syntax.call_v _ _ _ _) = skip
arm_of n (mir.Syntax.lend_static _ _ _) = skip

abbrev pub slot : ℕ → ℕ → ℕ
slot k i = k + 2 * i

abbrev pub no : {M : Type 1} {𝓤 : Ura M} → Ty → ℕ → List (Item 𝓤) → List (Item 𝓤)
no τ l Γ = ‵ (froom τ l 0) ∷ ‵ (fdies τ l) ∷ Γ

abbrev pub has : {M : Type 1} {𝓤 : Ura M} → Ty → ℕ → Val → List (Item 𝓤) → List (Item 𝓤)
has τ l v Γ = ‵ (fat full_share τ l 0 v) ∷ ‵ (fdies τ l) ∷ Γ

module _ {M : Type 1} {𝓤 : Ura M} (𝓛 : Logic 𝓤) where
  open 𝓛 use {H}

  abbrev pub rooms : Env 𝓤 H → List (Item 𝓤)
  rooms [] = []
  rooms (e ∷ E) = no e.0 e.1 (rooms E)

  pub frees_all : (i : Item 𝓤) (E : Env 𝓤 H) (g : Goal 𝓤 H) → Sq 𝓛 (i ∷ []) g → Sq 𝓛 (i ∷ rooms E) (frees E g)
  frees_all i [] g k = free0 ! $ k
  frees_all i (e ∷ E) g k = move ! (1 ∷ 2 ∷ []) $ free1 ! $ frees_all i E g k
