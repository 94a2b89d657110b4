-- 4, told from the least length: a record has it or is longer, by any bytes without a group (card 1), else by the fields of the group, each time that it stands more often.
use Prim.Native.Nat.{ℕ, zero, suc, ◌+◌, ◌-◌, ◌*◌, ◌/◌, ◌%◌, ◌≤◌, ◌<◌}
use native.Mathlib.Omega.{arith}
use mathlib.Core.Path.{◌≡◌, refl, sym, ◌∙◌}
use mathlib.Core.Bool.{Bool, true, false, ◌&&◌}
use mathlib.Core.List.{[], ◌∷◌}
use lib.Dec.{eqb, leb, eqb-suc-zero}
use Rattle.calculus.specs.Combinators.{choose}
use Rattle.laws.specs.Tests.{all}
use Rattle.image.specs.Records.{goes_into}
use Rattle.laws.proofs.Booleans.{and_l, and_r, and_i, same_truth, le_of, of_le, eq_of, of_eq}
use Rattle.laws.proofs.Tests.{each, of_each}
use Rattle.read_records.specs.Codes.{size_of, group_of, last_of, least_of, first_of, group_limit, Sized}
use Rattle.check_ranges.specs.Numbers.{length_fits, groups_fill}

-- A record of n bytes that has f first and l last fields, and a group of g fields, at least a times.
module _ (f l a n : ℕ) where
  abbrev times : ℕ → ℕ
  times g = goes_into g ((n - 4) / 2 - (f + l))

  abbrev fits : ℕ → Bool
  fits g = let m : ℕ = 4 + 2 * (f + (times g * g + l)) in all (leb a (times g) ∷ leb (times g) (choose (eqb g 0) 0 group_limit) ∷ choose (eqb g 0) (leb m n) (eqb n m) ∷ [])

  abbrev least : ℕ → ℕ
  least g = 4 + 2 * (f + (a * g + l))

  -- Without a group, the least length or any longer one.
  no_group : (g : ℕ) → g ≡ 0 → a ≤ choose (eqb g 0) 0 group_limit → least g ≤ n → fits g ≡ true
  no_group zero z b e = of_each _ (of_le {m = a} {n = 0} b, (of_le {m = 0} {n = 0} (omega arith), (of_le {m = 4 + 2 * (f + (0 * 0 + l))} {n = n} (omega arith), tt)))
  no_group (suc g) z b e = absurd (omega arith)

  has_least : (g : ℕ) → g ≤ 2 → a ≤ choose (eqb g 0) 0 group_limit → n ≡ least g → fits g ≡ true
  has_least zero h b e = no_group 0 refl b (omega arith)
  has_least (suc zero) h b e = of_each _ (of_le {m = a} {n = times 1} (omega arith), (of_le {m = times 1} {n = 8} (omega arith), (of_eq {m = n} (omega arith), tt)))
  has_least (suc (suc zero)) h b e = of_each _ (of_le {m = a} {n = times 2} (omega arith), (of_le {m = times 2} {n = 8} (omega arith), (of_eq {m = n} (omega arith), tt)))
  has_least (suc (suc (suc g))) h b e = absurd (omega arith)

  -- What a length that fits tells, where there is a group.
  told : (g : ℕ) → fits (suc g) ≡ true → (a ≤ times (suc g)) × (times (suc g) ≤ group_limit) × (n ≡ 4 + 2 * (f + (times (suc g) * suc g + l)))
  told g h = let t = each _ (rw (eqb-suc-zero g) at h) in (le_of t.0, le_of t.1.0, eq_of t.1.1.0)

  too_short : (g : ℕ) → g ≤ 2 → n < least g → fits g ≡ true → ⊥
  too_short zero h b t =
      let z = each _ t in
      let y : a ≤ 0 = le_of z.0 in
      let w : 4 + 2 * (f + (0 * 0 + l)) ≤ n = le_of z.1.1.0 in
      omega arith
  too_short (suc zero) h b t = let z = told 0 t in let y = z.0 in let w = z.2 in omega arith
  too_short (suc (suc zero)) h b t = let z = told 1 t in let y = z.0 in let w = z.2 in omega arith
  too_short (suc (suc (suc g))) h b t = absurd (omega arith)

  -- The bytes behind the least length.
  abbrev fill : ℕ → Bool
  fill g = eqb ((n - least g) % (2 * g)) 0 && leb ((n - least g) / (2 * g)) (group_limit - a)

  fill_fits : (g : ℕ) → 0 < g → g ≤ 2 → a < 2 → least g < n → fill g ≡ true → fits g ≡ true
  fill_fits zero p h b s t = absurd (omega arith)
  fill_fits (suc zero) p h b s t =
      let x : (n - least 1) % 2 ≡ 0 = eq_of (and_l _ _ t) in
      let y : (n - least 1) / 2 ≤ 8 - a = le_of (and_r (eqb ((n - least 1) % 2) 0) _ t) in
      of_each _ (of_le {m = a} {n = times 1} (omega arith), (of_le {m = times 1} {n = 8} (omega arith), (of_eq {m = n} (omega arith), tt)))
  fill_fits (suc (suc zero)) p h b s t =
      let x : (n - least 2) % 4 ≡ 0 = eq_of (and_l _ _ t) in
      let y : (n - least 2) / 4 ≤ 8 - a = le_of (and_r (eqb ((n - least 2) % 4) 0) _ t) in
      of_each _ (of_le {m = a} {n = times 2} (omega arith), (of_le {m = times 2} {n = 8} (omega arith), (of_eq {m = n} (omega arith), tt)))
  fill_fits (suc (suc (suc g))) p h b s t = absurd (omega arith)

  fits_fill : (g : ℕ) → 0 < g → g ≤ 2 → a < 2 → least g < n → fits g ≡ true → fill g ≡ true
  fits_fill zero p h b s t = absurd (omega arith)
  fits_fill (suc zero) p h b s t =
      let z = told 0 t in
      let x = z.0 in
      let y = z.1 in
      let w = z.2 in
      and_i (of_eq {m = (n - least 1) % 2} {n = 0} (omega arith)) (of_le {m = (n - least 1) / 2} {n = 8 - a} (omega arith))
  fits_fill (suc (suc zero)) p h b s t =
      let z = told 1 t in
      let x = z.0 in
      let y = z.1 in
      let w = z.2 in
      and_i (of_eq {m = (n - least 2) % 4} {n = 0} (omega arith)) (of_le {m = (n - least 2) / 4} {n = 8 - a} (omega arith))
  fits_fill (suc (suc (suc g))) p h b s t = absurd (omega arith)

not_fits : (t : Bool) → (t ≡ true → ⊥) → t ≡ false
not_fits true h = absurd (h refl)
not_fits false h = refl

-- The same of a record of n bytes whose kind has the code x.
module _ (x n : ℕ) (S : Sized x) where
  pub least_fits : n ≡ size_of x → true ≡ length_fits x n
  least_fits e = sym (has_least (first_of x) (last_of x) (least_of x) n (group_of x) S.group S.between (e ∙ S.length))

  pub short_fails : n < size_of x → false ≡ length_fits x n
  short_fails h = sym (not_fits _ (too_short (first_of x) (last_of x) (least_of x) n (group_of x) S.group (rw (← S.length) h)))

  pub longer_fits : size_of x ≤ n → group_of x ≡ 0 → true ≡ length_fits x n
  longer_fits h e = sym (no_group (first_of x) (last_of x) (least_of x) n (group_of x) e S.between (rw (← S.length) (omega arith)))

  pub group_fits : size_of x < n → 0 < group_of x → groups_fill x (n - size_of x) ≡ length_fits x n
  group_fits h p =
      same_truth _ _ (λ t. fill_fits (first_of x) (last_of x) (least_of x) n (group_of x) p S.group (omega arith) (rw (← S.length) h) (rw S.length at t))
      (λ t. rw S.length (fits_fill (first_of x) (last_of x) (least_of x) n (group_of x) p S.group (omega arith) (rw (← S.length) h) t))
