-- One more piece, charged to one half (card 9).
use Prim.Native.Nat.{ℕ, ◌<◌}
use mathlib.Core.Path.{◌≡◌, refl, sym, ap, subst, ◌∙◌}
use mathlib.Core.Bool.{Bool, true}
use mathlib.Core.List.{List}
use Rattle.calculus.specs.Limits.{piece_limit}
use Rattle.vm_code.specs.Values.{value}
use Rattle.vm_pools.specs.declared.Pools.{Pools}
use Rattle.vm_machine.specs.declared.Regs.{Regs}
use Rattle.vm_machine.specs.Registers.{fuel_bias, set_pools}
use Rattle.vm_pools.specs.Pools.{whole, charge_pieces, has_capacity, pieces_out}
use Rattle.vm_machine.specs.Quotas.{quota_of}
use Rattle.vm_machine.specs.Memory.{put_piece}
use Rattle.vm_machine.specs.Reduce.{given, new_piece}
use Rattle.vm_memory.specs.View.{memory_of, Holds}
use Rattle.vm_registers.specs.Phases.{Phase}
use Rattle.vm_registers.proofs.Made.{stored_set}
use Rattle.vm_registers.proofs.Ended.{given_as}
use Rattle.vm_registers.proofs.Quotas.{quota_made}

-- The half h, which the instruction charges, has room or not.
module _ (a b c : List ℕ) (r q : Regs) (w tag x y : ℕ) (h t : Bool) (is : h ≡ quota_of w) (test : t ≡ has_capacity piece_limit h 1 r.pools.pieces) where
  pub piece_made : fuel_bias < r.fuel → (n v : ℕ) (s : Pools) → t ≡ true → n ≡ whole r.pools.pieces → v ≡ value tag n → s ≡ charge_pieces h 1 r.pools → Holds (put_piece n x y (memory_of a)) a b → Phase (given w v) b c r q → Phase (new_piece w tag x y) a c r (set_pools s q)
  piece_made l n v s k e d f m p =
      let N : ℕ = whole r.pools.pieces in
      let z : s ≡ charge_pieces (quota_of w) 1 r.pools = f ∙ ap (λ (g : Bool). charge_pieces g 1 r.pools) is in
      subst (λ (z : Pools). Phase (new_piece w tag x y) a c r (set_pools z q)) (sym z)
      (quota_made piece_limit 1 (λ p. p.pieces) pieces_out w r h t is test _ a _ c l k
      (stored_set (given w (value tag N)) _ (set_pools (charge_pieces (quota_of w) 1 r.pools)) (put_piece N x y (memory_of a)) a b c r q (λ log. refl) (subst (λ (i : ℕ). Holds (put_piece i x y (memory_of a)) a b) e m) (given_as b c r q w v _ (d ∙ ap (value tag) e) p)))
