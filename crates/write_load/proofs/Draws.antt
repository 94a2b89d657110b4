-- What follows a draw: a number, a sum or difference, a print and what comes behind it.
use Prim.Native.Nat.{ℕ, zero, suc, ◌-◌, ◌%◌, ◌≤◌, ◌<◌}
use native.Mathlib.Omega.{arith}
use mathlib.Core.Path.{◌≡◌, refl, sym, ap, ◌∙◌}
use mathlib.Core.Bool.{Bool, true, false}
use lib.Dec.{ltb}
use Rattle.laws.proofs.Booleans.{no_path, lt_of, ge_of}
use Rattle.image_written.specs.Generated.{next, drawn, sum, traced, form_of, both, by_form, grow}
use Rattle.write_load.specs.Growing.{number_follows}

-- What is drawn.
abbrev choice : ℕ → ℕ
choice s = drawn (next s) % 4

pub number_follows_lem : (d s : ℕ) → 0 < d → number_follows (choice s) d ≡ true → grow d s ≡ grow 0 (next s)
unfolding grow by_form form_of
number_follows_lem zero s h e = absurd (omega arith)
number_follows_lem (suc zero) s h e = go (choice s) refl
  where
    go : (c : ℕ) → choice s ≡ c → grow 1 s ≡ grow 0 (next s)
    go zero q = rw q refl
    go (suc zero) q = no_path (sym (ap (λ c. number_follows c 1) (sym q) ∙ e))
    go (suc (suc zero)) q = no_path (sym (ap (λ c. number_follows c 1) (sym q) ∙ e))
    go (suc (suc (suc c))) q = rw q refl
number_follows_lem (suc (suc d)) s h e = go (choice s) refl
  where
    go : (c : ℕ) → choice s ≡ c → grow (suc (suc d)) s ≡ grow 0 (next s)
    go zero q = rw q refl
    go (suc zero) q = no_path (sym (ap (λ c. number_follows c (suc (suc d))) (sym q) ∙ e))
    go (suc (suc zero)) q = no_path (sym (ap (λ c. number_follows c (suc (suc d))) (sym q) ∙ e))
    go (suc (suc (suc c))) q =
        let x : choice s ≡ 3 = omega arith in
        no_path (sym (ap (λ c. number_follows c (suc (suc d))) (sym x) ∙ e) ∙ far (ltb (suc (suc d)) 2) refl)
      where
        far : (t : Bool) → ltb (suc (suc d)) 2 ≡ t → ltb (suc (suc d)) 2 ≡ false
        far false w = w
        far true w = let v : suc (suc d) < 2 = lt_of w in absurd (omega arith)

pub sum_follows : (d s op : ℕ) → 0 < d → choice s ≡ suc op → op ≤ 1 → grow d s ≡ both (sum op) (grow (d - 1) (next s)) (grow (d - 1))
unfolding grow by_form form_of
sum_follows zero s op h e l = absurd (omega arith)
sum_follows (suc zero) s zero h e l = rw e refl
sum_follows (suc zero) s (suc zero) h e l = rw e refl
sum_follows (suc zero) s (suc (suc op)) h e l = absurd (omega arith)
sum_follows (suc (suc d)) s zero h e l = let z : suc (suc d) - 1 ≡ suc d = omega arith in rw (e, z) refl
sum_follows (suc (suc d)) s (suc zero) h e l = let z : suc (suc d) - 1 ≡ suc d = omega arith in rw (e, z) refl
sum_follows (suc (suc d)) s (suc (suc op)) h e l = absurd (omega arith)

pub trace_follows : (d s : ℕ) → 1 < d → choice s ≡ 3 → grow d s ≡ both traced (grow (d - 2) (next s)) (grow (d - 1))
unfolding grow by_form form_of
trace_follows zero s h e = absurd (omega arith)
trace_follows (suc zero) s h e = absurd (omega arith)
trace_follows (suc (suc d)) s h e =
    let z : suc (suc d) - 1 ≡ suc d = omega arith in
    let y : suc (suc d) - 2 ≡ d = omega arith in
    rw (e, z, y) refl

-- What a draw that is no number tells.
pub no_number : (c d : ℕ) → number_follows c d ≡ false → 0 < c
no_number zero d h = no_path h
no_number (suc c) d h = omega arith

pub deep : (c d : ℕ) → c ≡ 3 → number_follows c d ≡ false → 1 < d
deep c d e h = go (ltb d 2) refl
  where
    q : ltb d 2 ≡ false
    q = ap (λ x. number_follows x d) (sym e) ∙ h

    go : (t : Bool) → ltb d 2 ≡ t → 1 < d
    go true w = no_path (sym w ∙ q)
    go false w = let z : 2 ≤ d = ge_of w in omega arith
