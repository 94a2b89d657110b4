-- There is room for each part of a tree where there is room for the largest tree of its depth.
use Prim.Native.Nat.{ℕ, zero, suc, ◌+◌, ◌-◌, ◌*◌, ◌≤◌, ◌<◌}
use native.Mathlib.Omega.{arith}
use mathlib.Core.Path.{◌≡◌, refl, ap, ◌∙◌}
use mathlib.Core.List.{List}
use lib.ListN.{length}
use Rattle.image.specs.Limits.{term_limit}
use Rattle.image_written.proofs.Load.{most, most_some}
use Rattle.write_load.specs.declared.Growth.{Growth}
use Rattle.write_load.specs.Growing.{print_fields, Put, Capacity, Grew}
use Rattle.write_load.proofs.Growing.{grew_capacity}

-- Room for the parts of a tree.
most_less : (d : ℕ) → 0 < d → most d ≡ 1 + (most (d - 1) + most (d - 1))
unfolding most
most_less zero h = absurd (omega arith)
most_less (suc d) h = let z : suc d - 1 ≡ d = omega arith in rw z refl

inner_most : (d : ℕ) → 1 < d → (most d ≡ 1 + (most (d - 1) + most (d - 1))) × (most (d - 1) ≡ 1 + (most (d - 2) + most (d - 2)))
inner_most d h = let z : d - 1 - 1 ≡ d - 2 = omega arith in (most_less d (omega arith), most_less (d - 1) (omega arith) ∙ ap (λ k. 1 + (most k + most k)) z)

pub capacity_number : {out : List ℕ} {done : Growth} {d : ℕ} → Capacity out done d → (done.done.at + 12 ≤ length out) × (done.done.terms < term_limit)
capacity_number {out} {done} {d} R = let m = most_some d in let b = R.bytes in let t = R.terms in (omega arith, omega arith)

module _ {out : List ℕ} {done here : Growth} {d : ℕ} (R : Capacity out done d) (same_at : here.done.at ≡ done.done.at) (same-terms : here.done.terms ≡ done.done.terms) where
  pub capacity_first : 0 < d → Capacity out here (d - 1)
  capacity_first h = let m = most_less d h in let l = R.depth in let b = R.bytes in let t = R.terms in record { depth = omega arith; bytes = omega arith; terms = omega arith }

  pub capacity_inner : 1 < d → Capacity out here (d - 2)
  capacity_inner h =
      let i = inner_most d h in
      let m = i.0 in
      let n = i.1 in
      let l = R.depth in
      let b = R.bytes in
      let t = R.terms in
      record { depth = omega arith; bytes = omega arith; terms = omega arith }

  -- A sum: the second tree, and the record behind both.
  module _ (h : 0 < d) {out₁ : List ℕ} {left : Growth} (X : Grew (d - 1) out here out₁ left) where
    first_capacity : (left.done.at ≤ here.done.at + 12 * most (d - 1)) × (left.done.terms ≤ here.done.terms + most (d - 1)) × (here.done.terms < left.done.terms) × (length out₁ ≡ length out)
    first_capacity = grew_capacity X (capacity_first h).bytes

    pub capacity_second : Capacity out₁ left (d - 1)
    capacity_second =
        let m = most_less d h in
        let l = R.depth in
        let b = R.bytes in
        let t = R.terms in
        let g = first_capacity in
        let g0 = g.0 in
        let g1 = g.1 in
        let g3 = g.3 in
        record { depth = omega arith; bytes = omega arith; terms = omega arith }

    pub some_first : (0 < left.done.terms) × (left.done.terms ≤ term_limit)
    some_first =
        let g = first_capacity.2 in
        let t = capacity_second.terms in
        (omega arith, omega arith)

    pub capacity_sum : {out₂ : List ℕ} {right : Growth} → Grew (d - 1) out₁ left out₂ right → (right.done.at + 12 ≤ length out₂) × (right.done.terms < term_limit) × (0 < right.done.terms)
    capacity_sum {out₂} {right} Y =
        let m = most_less d h in
        let b = R.bytes in
        let t = R.terms in
        let g = first_capacity in
        let g0 = g.0 in
        let g1 = g.1 in
        let g3 = g.3 in
        let k = grew_capacity Y capacity_second.bytes in
        let k0 = k.0 in
        let k1 = k.1 in
        let k2 = k.2 in
        let k3 = k.3 in
        (omega arith, omega arith, omega arith)

  -- A print and what follows it.
  module _ (h : 1 < d) {out₁ : List ℕ} {inner : Growth} (X : Grew (d - 2) out here out₁ inner) where
    inner_capacity : (inner.done.at ≤ here.done.at + 12 * most (d - 2)) × (inner.done.terms ≤ here.done.terms + most (d - 2)) × (here.done.terms < inner.done.terms) × (length out₁ ≡ length out)
    inner_capacity = grew_capacity X (capacity_inner h).bytes

    pub capacity_print : (inner.done.at + 12 ≤ length out₁) × (inner.done.terms < term_limit) × (0 < inner.done.terms)
    capacity_print =
        let i = inner_most d h in
        let m = i.0 in
        let n = i.1 in
        let b = R.bytes in
        let t = R.terms in
        let g = inner_capacity in
        let g0 = g.0 in
        let g1 = g.1 in
        let g2 = g.2 in
        let g3 = g.3 in
        (omega arith, omega arith, omega arith)

    module _ {out₂ : List ℕ} {first : Growth} (Q : Put out₁ inner out₂ first 37 (print_fields inner.done.terms)) (kept : length out₂ ≡ length out₁) where
      pub capacity_behind : Capacity out₂ first (d - 1)
      capacity_behind =
          let i = inner_most d h in
          let m = i.0 in
          let n = i.1 in
          let l = R.depth in
          let b = R.bytes in
          let t = R.terms in
          let g = inner_capacity in
          let g0 = g.0 in
          let g1 = g.1 in
          let g3 = g.3 in
          let qa = Q.at in
          let qt = Q.terms in
          record { depth = omega arith; bytes = omega arith; terms = omega arith }

      pub some_print : (0 < first.done.terms) × (first.done.terms ≤ term_limit)
      some_print =
          let q = Q.terms in
          let t = capacity_behind.terms in
          (omega arith, omega arith)

      pub capacity_sequence : {out₃ : List ℕ} {second : Growth} → Grew (d - 1) out₂ first out₃ second → (second.done.at + 12 ≤ length out₃) × (second.done.terms < term_limit) × (0 < second.done.terms)
      capacity_sequence {out₃} {second} Y =
          let i = inner_most d h in
          let m = i.0 in
          let n = i.1 in
          let b = R.bytes in
          let t = R.terms in
          let g = inner_capacity in
          let g0 = g.0 in
          let g1 = g.1 in
          let g3 = g.3 in
          let qa = Q.at in
          let qt = Q.terms in
          let k = grew_capacity Y capacity_behind.bytes in
          let k0 = k.0 in
          let k1 = k.1 in
          let k2 = k.2 in
          let k3 = k.3 in
          (omega arith, omega arith, omega arith)

pub capacity_both : {out : List ℕ} {done : Growth} {d : ℕ} → Capacity out done d → 0 < d → done.done.at + (12 * most (d - 1) + 12 * most (d - 1) + 12) ≤ length out
capacity_both {out} {done} {d} R h = let m = most_less d h in let b = R.bytes in omega arith

pub capacity_trace : {out : List ℕ} {done : Growth} {d : ℕ} → Capacity out done d → 1 < d → done.done.at + (12 * most (d - 2) + 12 + 12 * most (d - 1) + 12) ≤ length out
capacity_trace {out} {done} {d} R h =
    let i = inner_most d h in
    let m = i.0 in
    let n = i.1 in
    let b = R.bytes in
    omega arith
