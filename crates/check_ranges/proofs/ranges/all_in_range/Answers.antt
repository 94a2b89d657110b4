-- `check_ranges::ranges::all_in_range` meets its contract: the three parts in turn.
use Prim.Native.Nat.{ℕ, ◌+◌, ◌*◌}
use mathlib.Core.Path.{◌≡◌, ◌∙◌}
use mathlib.Core.Bool.{Bool}
use mathlib.Core.List.{List}
use native.Mathlib.Omega.{arith}
use Rattle.read_records.specs.declared.numbers.Counts.{Counts}
use Rattle.check_ranges.specs.Ranges.{ranges_from, groups_from, classes_past}
use Rattle.check_ranges.proofs.RangeLoops.{first_fails, second_fails, third_left}
use Rattle.check_ranges.proofs.Numbers.{yes_of, no_of}
use borrow.Author.Rules.{rules}
use Rattle.check_ranges.proofs.ranges.all_in_range.Goals as goal

-- The tests of the groups and of the last fields, with what their numbers are.
module _ (fs : List ℕ) (n : Counts) {r : Bool} {t t' g g' cs f f' k k' : ℕ} where
  groups_same : r ≡ groups_from t g cs fs n f → t ≡ t' → g ≡ g' → cs ≡ classes_past f k → f ≡ f' → k ≡ k' → r ≡ groups_from t' g' (classes_past f' k') fs n f'
  groups_same h a b c d e = h ∙ (λ i. groups_from (a i) (b i) (c i) fs n (d i)) ∙ λ i. groups_from t' g' (classes_past (d i) (e i)) fs n f'

  last_same : {l l' : ℕ} → r ≡ ranges_from l cs fs n (f + t * g) → l ≡ l' → t ≡ t' → g ≡ g' → cs ≡ classes_past (f + g) k → f ≡ f' → k ≡ k' → r ≡ ranges_from l' (classes_past (f' + g') k') fs n (f' + t' * g')
  last_same {l' = l'} h a b c d e k = h ∙ (λ i. ranges_from (a i) (d i) fs n (e i + b i * c i)) ∙ λ i. ranges_from l' (classes_past (e i + c i) (k i)) fs n (f' + t' * g')

pub fields_in_range-requires : goal.fields_in_range-requires
fields_in_range-requires c =
    let h = c.requires.1 in
    omega (arith, c.first_count-first.ensures)

pub returns-then-not-fields_in_range : goal.returns-then-not-fields_in_range
returns-then-not-fields_in_range c =
    let first = rw (c.first_count-first.ensures, c.field_classes-classes.ensures) at c.fields_in_range.ensures in
    first_fails _ _ _ (no_of _ _ first c.if-not-fields_in_range.true)

pub group_times-times-requires : goal.group_times-times-requires
group_times-times-requires c = c.requires.0

pub groups_in_range-requires : goal.groups_in_range-requires
groups_in_range-requires c =
    let p = c.requires.1 in
    rw (c.group_times-times.ensures, c.group_count-group.ensures, c.first_count-first.ensures) (c.requires.0.group, omega arith)

pub returns-then-not-groups_in_range : goal.returns-then-not-groups_in_range
returns-then-not-groups_in_range c =
    let first = rw (c.first_count-first.ensures, c.field_classes-classes.ensures) at c.fields_in_range.ensures in
    let group = groups_same c.args.fields.now c.args.counts c.groups_in_range.ensures c.group_times-times.ensures c.group_count-group.ensures c.classes_past.ensures c.first_count-first.ensures c.field_classes-classes.ensures in
    second_fails _ _ _ (yes_of _ _ first c.if-not-fields_in_range.false) (no_of _ _ group c.if-not-groups_in_range.true)

pub overflow_mul-times : goal.overflow_mul-times
overflow_mul-times c =
    let h = c.requires.1 in
    rw (c.group_times-times.ensures, c.group_count-group.ensures) (search rules)

pub overflow_add-first : goal.overflow_add-first
overflow_add-first c =
    let h = c.requires.1 in
    rw (c.group_times-times.ensures, c.group_count-group.ensures, c.first_count-first.ensures) (search rules)

pub overflow_add-first-2 : goal.overflow_add-first-2
overflow_add-first-2 c =
    let h = c.requires.1 in
    rw (c.group_count-group.ensures, c.first_count-first.ensures) (search rules)

pub few_in_range-requires : goal.few_in_range-requires
few_in_range-requires c =
    let h = c.requires.1 in
    rw (c.group_times-times.ensures, c.group_count-group.ensures, c.first_count-first.ensures, c.last_count.ensures) (omega arith, omega arith)

pub returns : goal.returns
returns c =
    let first = rw (c.first_count-first.ensures, c.field_classes-classes.ensures) at c.fields_in_range.ensures in
    let group = groups_same c.args.fields.now c.args.counts c.groups_in_range.ensures c.group_times-times.ensures c.group_count-group.ensures c.classes_past.ensures c.first_count-first.ensures c.field_classes-classes.ensures in
    let last = last_same c.args.fields.now c.args.counts c.few_in_range.ensures c.last_count.ensures c.group_times-times.ensures c.group_count-group.ensures c.classes_past-2.ensures c.first_count-first.ensures c.field_classes-classes.ensures in
    last ∙ third_left _ _ _ (yes_of _ _ first c.if-not-fields_in_range.false) (yes_of _ _ group c.if-not-groups_in_range.false)
