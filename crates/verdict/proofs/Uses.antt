-- A term is used exactly once exactly if its uses count 1.
use Prim.Native.Nat.{ℕ, zero, suc, ◌+◌, ◌≤◌, ◌<◌}
use native.Mathlib.Omega.{arith}
use mathlib.Core.Path.{◌≡◌, refl, sym, ap, subst}
use mathlib.Core.Logic.{◌↔◌}
use mathlib.Core.Bool.{Bool, true, false}
use mathlib.Core.List.{List, [], ◌∷◌}
use lib.ListN.{length, get_or}
use lib.Dec.{eqb, ltb}
use Rattle.calculus.specs.Combinators.{choose}
use Rattle.image.specs.Records.{Layout}
use Rattle.image.specs.Types.{children}
use Rattle.laws.proofs.Booleans.{lt_of, ge_of, eq_of, of_eq}
use Rattle.verdict.specs.Shape.{count, uses, used_once}
use Rattle.verdict.specs.Acceptable.{IsChild, UsedOnce}
use Rattle.verdict.proofs.Depth.{uses_one, uses_two}

-- e stands at place i of a list.
abbrev Hit : List ℕ → ℕ → ℕ → Type 0
Hit es e i = (i < length es) × (get_or es i 0 ≡ e)

count_cons : (e x : ℕ) (es : List ℕ) (t : Bool) → eqb e x ≡ t → count e (x ∷ es) ≡ choose t 1 0 + count e es
unfolding count
count_cons e x es t q = ap (λ u. choose u 1 0 + count e es) q

pub hit_count : (es : List ℕ) (e i : ℕ) → Hit es e i → 0 < count e es
hit_count [] e i h = let z = h.0 in absurd (omega arith)
hit_count (x ∷ es) e zero h = let c = count_cons e x es true (of_eq (sym h.1)) in omega arith
hit_count (x ∷ es) e (suc i) h = go (eqb e x) refl (hit_count es e i (let z = h.0 in omega arith, h.1))
  where
    go : (t : Bool) → eqb e x ≡ t → 0 < count e es → 0 < count e (x ∷ es)
    go true q ih = let c = count_cons e x es true q in omega arith
    go false q ih = let c = count_cons e x es false q in omega arith

none_count : (es : List ℕ) (e : ℕ) → ((i : ℕ) → Hit es e i → ⊥) → count e es ≡ 0
unfolding count
none_count [] e h = refl
none_count (x ∷ es) e h = go (eqb e x) refl (none_count es e (λ i z. h (suc i) (let y = z.0 in omega arith, z.1)))
  where
    go : (t : Bool) → eqb e x ≡ t → count e es ≡ 0 → count e (x ∷ es) ≡ 0
    go true q ih = absurd (h 0 (omega arith, sym (eq_of q)))
    go false q ih = let c = count_cons e x es false q in omega arith

count_some : (es : List ℕ) (e : ℕ) → 0 < count e es → (i : ℕ) × Hit es e i
unfolding count
count_some [] e h = absurd (omega arith)
count_some (x ∷ es) e h = go (eqb e x) refl (λ k. count_some es e k)
  where
    go : (t : Bool) → eqb e x ≡ t → (0 < count e es → (i : ℕ) × Hit es e i) → (i : ℕ) × Hit (x ∷ es) e i
    go true q ih = (0, (omega arith, sym (eq_of q)))
    go false q ih = let c = count_cons e x es false q in let r = ih (omega arith) in (suc r.0, (let y = r.1.0 in omega arith, r.1.1))

count_once : (es : List ℕ) (e : ℕ) → count e es ≡ 1 → (i j : ℕ) → Hit es e i → Hit es e j → i ≡ j
count_once [] e h i j p q = let z = p.0 in absurd (omega arith)
count_once (x ∷ es) e h zero zero p q = refl
count_once (x ∷ es) e h zero (suc j) p q =
    let c = count_cons e x es true (of_eq (sym p.1)) in
    let k = hit_count es e j (let z = q.0 in omega arith, q.1) in
    absurd (omega arith)
count_once (x ∷ es) e h (suc i) zero p q =
    let c = count_cons e x es true (of_eq (sym q.1)) in
    let k = hit_count es e i (let z = p.0 in omega arith, p.1) in
    absurd (omega arith)
count_once (x ∷ es) e h (suc i) (suc j) p q = go (eqb e x) refl (λ k. count_once es e k i j (let z = p.0 in omega arith, p.1) (let z = q.0 in omega arith, q.1))
  where
    go : (t : Bool) → eqb e x ≡ t → (count e es ≡ 1 → i ≡ j) → suc i ≡ suc j
    go true r ih = let c = count_cons e x es true r in let k = hit_count es e i (let z = p.0 in omega arith, p.1) in absurd (omega arith)
    go false r ih = let c = count_cons e x es false r in ap suc (ih (omega arith))

once_count : (es : List ℕ) (e i : ℕ) → Hit es e i → ((j : ℕ) → Hit es e j → j ≡ i) → count e es ≡ 1
once_count [] e i p h = let z = p.0 in absurd (omega arith)
once_count (x ∷ es) e zero p h =
    let c = count_cons e x es true (of_eq (sym p.1)) in
    let n = none_count es e (λ j q. let z : suc j ≡ 0 = h (suc j) (let y = q.0 in omega arith, q.1) in absurd (omega arith)) in
    omega arith
once_count (x ∷ es) e (suc i) p h =
    go (eqb e x) refl (once_count es e i (let z = p.0 in omega arith, p.1) (λ j q. let z : suc j ≡ suc i = h (suc j) (let y = q.0 in omega arith, q.1) in omega arith))
  where
    go : (t : Bool) → eqb e x ≡ t → count e es ≡ 1 → count e (x ∷ es) ≡ 1
    go true r ih = let z : 0 ≡ suc i = h 0 (omega arith, sym (eq_of r)) in absurd (omega arith)
    go false r ih = let c = count_cons e x es false r in omega arith

module _ (L : Layout) where
  none_uses : (e m : ℕ) → ((n : ℕ) → n < m → count e (children L n) ≡ 0) → uses L m e ≡ 0
  unfolding uses
  none_uses e zero h = refl
  none_uses e (suc m) h = let a = none_uses e m (λ n l. h n (omega arith)) in let c = h m (omega arith) in omega arith

  uses_some : (e m : ℕ) → 0 < uses L m e → (n : ℕ) × (n < m) × (0 < count e (children L n))
  unfolding uses
  uses_some e zero h = absurd (omega arith)
  uses_some e (suc m) h = go (ltb 0 (count e (children L m))) refl (λ k. uses_some e m k)
    where
      go : (t : Bool) → ltb 0 (count e (children L m)) ≡ t → (0 < uses L m e → (n : ℕ) × (n < m) × (0 < count e (children L n))) → (n : ℕ) × (n < suc m) × (0 < count e (children L n))
      go true q ih = (m, omega arith, lt_of q)
      go false q ih = let z : count e (children L m) ≤ 0 = ge_of q in let r = ih (omega arith) in (r.0, let y = r.1 in omega arith, r.2)

  once_uses : (e m n : ℕ) → n < m → count e (children L n) ≡ 1 → ((k : ℕ) → k < m → (k ≡ n → ⊥) → count e (children L k) ≡ 0) → uses L m e ≡ 1
  unfolding uses
  once_uses e zero n l c h = absurd (omega arith)
  once_uses e (suc m) n l c h = go (ltb n m) refl (λ z. once_uses e m n z c (λ k y w. h k (omega arith) w))
    where
      go : (t : Bool) → ltb n m ≡ t → (n < m → uses L m e ≡ 1) → uses L m e + count e (children L m) ≡ 1
      go true q ih = let z : n < m = lt_of q in let a = ih z in let o = h m (omega arith) (λ w. absurd (omega arith)) in omega arith
      go false q ih =
          let z : m ≤ n = ge_of q in
          let nm : n ≡ m = omega arith in
          let a = none_uses e m (λ k y. h k (omega arith) (λ w. absurd (omega arith))) in
          let o : count e (children L m) ≡ 1 = subst (λ k. count e (children L k) ≡ 1) nm c in
          omega arith

  pub child_counts : {n i e : ℕ} → IsChild L n i e → 0 < count e (children L n)
  child_counts {n} {i} {e} c = hit_count (children L n) e i (c.place, c.is)

  counted_once : (e : ℕ) → uses L (length L.terms) e ≡ 1 → UsedOnce L e
  counted_once e h =
      let s = uses_some e (length L.terms) (omega arith) in
      let n : ℕ = s.0 in
      let l = s.1 in
      let m : 0 < count e (children L n) = s.2 in
      let most = uses_one L e (length L.terms) n l in
      let one : count e (children L n) ≡ 1 = omega arith in
      let i = count_some (children L n) e m in
      record { user = n; place = i.0; uses = record { there = l; place = i.1.0; is = i.1.1 }; only = λ k j c. (same n l m k c (ltb k n) refl (ltb n k) refl, let q = same n l m k c (ltb k n) refl (ltb n k) refl in let c' = subst (λ x. IsChild L x j e) q c in count_once (children L n) e one j i.0 (c'.place, c'.is) i.1) }
    where
      same : (n : ℕ) → n < length L.terms → 0 < count e (children L n) → (k : ℕ) {j : ℕ} → IsChild L k j e → (t : Bool) → ltb k n ≡ t → (u : Bool) → ltb n k ≡ u → k ≡ n
      same n l m k c true q u r = let z : k < n = lt_of q in let two = uses_two L e (length L.terms) k n z l in let a = child_counts c in absurd (omega arith)
      same n l m k c false q true r = let z : n < k = lt_of r in let two = uses_two L e (length L.terms) n k z c.there in let a = child_counts c in absurd (omega arith)
      same n l m k c false q false r = let z : n ≤ k = ge_of q in let y : k ≤ n = ge_of r in omega arith

  once_counted : (e : ℕ) → UsedOnce L e → uses L (length L.terms) e ≡ 1
  once_counted e u =
      once_uses e (length L.terms) u.user u.uses.there
      (once_count (children L u.user) e u.place (u.uses.place, u.uses.is) (λ j h. (u.only u.user j (record { there = u.uses.there; place = h.0; is = h.1 })).1))
      (λ k l w. none_count (children L k) e (λ j h. absurd (w (u.only k j (record { there = l; place = h.0; is = h.1 })).0)))

  pub once_iff : (e : ℕ) → used_once L e ≡ true ↔ UsedOnce L e
  once_iff e = (λ h. counted_once e (eq_of h), λ u. of_eq (once_counted e u))
