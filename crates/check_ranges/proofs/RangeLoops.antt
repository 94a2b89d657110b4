-- Laws of the tests on a record's fields: what a loop over them has tested so far.
use Prim.Native.Nat.{ℕ, suc, ◌+◌, ◌-◌, ◌*◌, ◌/◌, ◌%◌, ◌≤◌, ◌<◌}
use native.Mathlib.Omega.{arith}
use Rattle.std.proofs.Math.Nat.{mul-le-mul_left}
use native.Mathlib.Numerals.{add-one}
use mathlib.Core.Path.{◌≡◌, sym, ap, ◌∙◌}
use mathlib.Core.Bool.{Bool, true, false, ◌&&◌, and-true}
use mathlib.Core.List.{List, [], ◌∷◌}
use lib.Dec.{ltb}
use Rattle.laws.specs.Tests.{all}
use Rattle.read_records.specs.declared.numbers.Counts.{Counts}
use Rattle.read_records.specs.Heads.{field_in}
use Rattle.check_ranges.specs.Ranges.{in_class, ranges_from, groups_from, classes_past}

module _ (fs : List ℕ) (m : Counts) where
  pub range_next : (n i cs : ℕ) → i < n → in_class m (cs % 8) (field_in fs i) ≡ true → ranges_from (n - i) cs fs m i ≡ ranges_from (n - (i + 1)) (cs / 8) fs m (i + 1)
  unfolding ranges_from
  range_next n i cs l h = let e : n - i ≡ suc (n - (i + 1)) = omega arith in rw (e, h, add-one i)

  pub range_stop : (n i cs : ℕ) → i < n → in_class m (cs % 8) (field_in fs i) ≡ false → ranges_from (n - i) cs fs m i ≡ false
  unfolding ranges_from
  range_stop n i cs l h = let e : n - i ≡ suc (n - (i + 1)) = omega arith in rw (e, h)

  -- A group that stands c times, from field i on, behind the k first times.
  module _ (q cs : ℕ) where
    pub group_next : (c k i : ℕ) → k < c → ranges_from q cs fs m (i + k * q) ≡ true → groups_from (c - k) q cs fs m (i + k * q) ≡ groups_from (c - (k + 1)) q cs fs m (i + (k + 1) * q)
    unfolding groups_from
    group_next c k i l h =
        let e : c - k ≡ suc (c - (k + 1)) = omega arith in
        let f : i + k * q + q ≡ i + (k + 1) * q = omega arith in
        ap (λ n. groups_from n q cs fs m (i + k * q)) e ∙ ap (λ t. t && groups_from (c - (k + 1)) q cs fs m (i + k * q + q)) h ∙ ap (groups_from (c - (k + 1)) q cs fs m) f

    pub group_stop : (c k i : ℕ) → k < c → ranges_from q cs fs m i ≡ false → groups_from (c - k) q cs fs m i ≡ false
    unfolding groups_from
    group_stop c k i l h =
        let e : c - k ≡ suc (c - (k + 1)) = omega arith in
        ap (λ n. groups_from n q cs fs m i) e ∙ ap (λ t. t && groups_from (c - (k + 1)) q cs fs m (i + q)) h

  -- A group of one child: the children from field i on, the last standing before field n.
  pub child_next : (n i : ℕ) → i < n → ltb (field_in fs i) m.terms ≡ true → groups_from (n - i) 1 5 fs m i ≡ groups_from (n - (i + 1)) 1 5 fs m (i + 1)
  unfolding groups_from ranges_from
  child_next n i l h = let e : n - i ≡ suc (n - (i + 1)) = omega arith in rw (e, h)

  pub child_stop : (n i : ℕ) → i < n → ltb (field_in fs i) m.terms ≡ false → groups_from (n - i) 1 5 fs m i ≡ false
  unfolding groups_from ranges_from
  child_stop n i l h = let e : n - i ≡ suc (n - (i + 1)) = omega arith in rw (e, h)

pub past_next : (n i cs : ℕ) → i < n → classes_past (n - i) cs ≡ classes_past (n - (i + 1)) (cs / 8)
unfolding classes_past
past_next n i cs l = let e : n - i ≡ suc (n - (i + 1)) = omega arith in rw e

-- Each of the c times stands before the end.
pub times_inside : (c k q : ℕ) → k < c → k * q + q ≤ c * q
times_inside c k q l = omega (arith, mul-le-mul_left q l)

-- Of three tests in turn: where the first or the second fails, and where only the third is left.
module _ (a b c : Bool) where
  pub first_fails : a ≡ false → false ≡ all (a ∷ b ∷ c ∷ [])
  unfolding all
  first_fails h = rw h

  pub second_fails : a ≡ true → b ≡ false → false ≡ all (a ∷ b ∷ c ∷ [])
  unfolding all
  second_fails h i = rw (h, i)

  pub third_left : a ≡ true → b ≡ true → c ≡ all (a ∷ b ∷ c ∷ [])
  unfolding all
  third_left h i = rw (h, i) (sym (and-true c))
