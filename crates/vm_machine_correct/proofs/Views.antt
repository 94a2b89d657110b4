-- The kind of value that a word is, by its tag, and what a reduction that asks for a kind finds.
use Prim.Native.Nat.{ℕ, ◌%◌, ◌<◌}
use mathlib.Core.Path.{◌≡◌, refl}
use mathlib.Core.Bool.{Bool, false}
use mathlib.Core.List.{List}
use mathlib.Core.Option.{none}
use Rattle.calculus.specs.Combinators.{choose}
use Rattle.calculus.specs.Plain.{dom_of}
use Rattle.calculus.specs.Syntax.{Dom, Ty, Tm, Tms}
use Rattle.calculus.specs.View.{unit_of, truth_of, number_of, label_of, cell_of, labels_of}
use Rattle.calculus.specs.Limits.{label_limit}
use Rattle.closure_machine.specs.Closure.{CVal, Env, pair_of_c, body_of_c, advice_of_c, bodies_of_c, top_of_c, unload_val}
use Rattle.vm_code.specs.Values.{tag_of, body_of}
use Rattle.vm_code.specs.Words.{term_count, target_count}
use Rattle.vm_machine.specs.Memory.{Memory, piece_first, piece_second, entry_label, is_kept, closure_env, piece_places, cell_places}
use Rattle.vm_machine_correct.proofs.Setup.{Setup}
use Rattle.vm_machine_correct.proofs.Relations.{Sizes, HasLabels, IsBody, IsObject, IsVal, is_unit, is_truth, is_num, is_fun, is_pair, is_cell, is_label, is_labels, is_advice_lem, is_object_lem, is_bottom, is_kept_lem, IsEnv, IsAdvice}

module _ (Θ : Setup) (M : Memory) (z : Sizes) where
  pub data AsUnit (w : ℕ) : CVal → Type 0 where
    a_unit : tag_of w ≡ 0 → AsUnit w CVal.unit
    no_unit : {v : CVal} → unit_of (unload_val v) ≡ none → AsUnit w v

  pub as_unit_lem : {w : ℕ} {v : CVal} → IsVal Θ M z w v → AsUnit w v
  unfolding unload_val
  as_unit_lem (is_unit p) = a_unit p
  as_unit_lem (is_truth p q) = no_unit refl
  as_unit_lem (is_num p q) = no_unit refl
  as_unit_lem (is_fun p q e) = no_unit refl
  as_unit_lem (is_pair p q a c) = no_unit refl
  as_unit_lem (is_cell p q) = no_unit refl
  as_unit_lem (is_label p q) = no_unit refl
  as_unit_lem (is_labels p q a) = no_unit refl
  as_unit_lem (is_advice_lem p a) = no_unit refl
  as_unit_lem (is_object_lem p a e) = no_unit refl
  as_unit_lem (is_bottom p) = no_unit refl
  as_unit_lem (is_kept_lem p q l a b) = no_unit refl

  pub data AsTruth (w : ℕ) : CVal → Type 0 where
    a_truth : {b : Bool} → tag_of w ≡ 1 → body_of w ≡ choose b 1 0 → AsTruth w (CVal.truth b)
    no_truth : {v : CVal} → truth_of (unload_val v) ≡ none → AsTruth w v

  pub as_truth : {w : ℕ} {v : CVal} → IsVal Θ M z w v → AsTruth w v
  unfolding unload_val
  as_truth (is_unit p) = no_truth refl
  as_truth (is_truth p q) = a_truth p q
  as_truth (is_num p q) = no_truth refl
  as_truth (is_fun p q e) = no_truth refl
  as_truth (is_pair p q a c) = no_truth refl
  as_truth (is_cell p q) = no_truth refl
  as_truth (is_label p q) = no_truth refl
  as_truth (is_labels p q a) = no_truth refl
  as_truth (is_advice_lem p a) = no_truth refl
  as_truth (is_object_lem p a e) = no_truth refl
  as_truth (is_bottom p) = no_truth refl
  as_truth (is_kept_lem p q l a b) = no_truth refl

  pub data AsNumber (w : ℕ) : CVal → Type 0 where
    a_number : {n : ℕ} → tag_of w ≡ 2 → body_of w ≡ n → AsNumber w (CVal.number n)
    no_number : {v : CVal} → number_of (unload_val v) ≡ none → AsNumber w v

  pub as_number_lem : {w : ℕ} {v : CVal} → IsVal Θ M z w v → AsNumber w v
  unfolding unload_val
  as_number_lem (is_unit p) = no_number refl
  as_number_lem (is_truth p q) = no_number refl
  as_number_lem (is_num p q) = a_number p q
  as_number_lem (is_fun p q e) = no_number refl
  as_number_lem (is_pair p q a c) = no_number refl
  as_number_lem (is_cell p q) = no_number refl
  as_number_lem (is_label p q) = no_number refl
  as_number_lem (is_labels p q a) = no_number refl
  as_number_lem (is_advice_lem p a) = no_number refl
  as_number_lem (is_object_lem p a e) = no_number refl
  as_number_lem (is_bottom p) = no_number refl
  as_number_lem (is_kept_lem p q l a b) = no_number refl

  pub data AsPair (w : ℕ) : CVal → Type 0 where
    a_pair : {u s : CVal} → tag_of w ≡ 4 → body_of w % piece_places < z.np → IsVal Θ M z (piece_first M (body_of w % piece_places)) u → IsVal Θ M z (piece_second M (body_of w % piece_places)) s → AsPair w (CVal.pair u s)
    no_pair : {v : CVal} → pair_of_c v ≡ none → AsPair w v

  pub as_pair : {w : ℕ} {v : CVal} → IsVal Θ M z w v → AsPair w v
  unfolding unload_val
  as_pair (is_unit p) = no_pair refl
  as_pair (is_truth p q) = no_pair refl
  as_pair (is_num p q) = no_pair refl
  as_pair (is_fun p q e) = no_pair refl
  as_pair (is_pair p q a c) = a_pair p q a c
  as_pair (is_cell p q) = no_pair refl
  as_pair (is_label p q) = no_pair refl
  as_pair (is_labels p q a) = no_pair refl
  as_pair (is_advice_lem p a) = no_pair refl
  as_pair (is_object_lem p a e) = no_pair refl
  as_pair (is_bottom p) = no_pair refl
  as_pair (is_kept_lem p q l a b) = no_pair refl

  pub data AsFunction (w : ℕ) : CVal → Type 0 where
    a_function : {y : Ty} {e : Tm} {ρ : Env} → IsBody Θ (body_of w % target_count) e (dom_of y) → IsEnv Θ M z (closure_env w) ρ → AsFunction w (CVal.fun y e ρ)
    no_function : {v : CVal} → body_of_c v ≡ none → AsFunction w v

  pub as_function : {w : ℕ} {v : CVal} → IsVal Θ M z w v → AsFunction w v
  unfolding unload_val
  as_function (is_unit p) = no_function refl
  as_function (is_truth p q) = no_function refl
  as_function (is_num p q) = no_function refl
  as_function (is_fun p q e) = a_function q e
  as_function (is_pair p q a c) = no_function refl
  as_function (is_cell p q) = no_function refl
  as_function (is_label p q) = no_function refl
  as_function (is_labels p q a) = no_function refl
  as_function (is_advice_lem p a) = no_function refl
  as_function (is_object_lem p a e) = no_function refl
  as_function (is_bottom p) = no_function refl
  as_function (is_kept_lem p q l a b) = no_function refl

  pub data AsLabel (w : ℕ) : CVal → Type 0 where
    one_label : {l : ℕ} → tag_of w ≡ 6 → body_of w % label_limit ≡ l → AsLabel w (CVal.label l)
    no_label : {v : CVal} → label_of (unload_val v) ≡ none → AsLabel w v

  pub as_label : {w : ℕ} {v : CVal} → IsVal Θ M z w v → AsLabel w v
  unfolding unload_val
  as_label (is_unit p) = no_label refl
  as_label (is_truth p q) = no_label refl
  as_label (is_num p q) = no_label refl
  as_label (is_fun p q e) = no_label refl
  as_label (is_pair p q a c) = no_label refl
  as_label (is_cell p q) = no_label refl
  as_label (is_label p q) = one_label p q
  as_label (is_labels p q a) = no_label refl
  as_label (is_advice_lem p a) = no_label refl
  as_label (is_object_lem p a e) = no_label refl
  as_label (is_bottom p) = no_label refl
  as_label (is_kept_lem p q l a b) = no_label refl

  pub data AsCell (w : ℕ) : CVal → Type 0 where
    a_cell_lem : {r : ℕ} → tag_of w ≡ 5 → body_of w % cell_places ≡ r → AsCell w (CVal.cell r)
    no_cell : {v : CVal} → cell_of (unload_val v) ≡ none → AsCell w v

  pub as_cell : {w : ℕ} {v : CVal} → IsVal Θ M z w v → AsCell w v
  unfolding unload_val
  as_cell (is_unit p) = no_cell refl
  as_cell (is_truth p q) = no_cell refl
  as_cell (is_num p q) = no_cell refl
  as_cell (is_fun p q e) = no_cell refl
  as_cell (is_pair p q a c) = no_cell refl
  as_cell (is_cell p q) = a_cell_lem p q
  as_cell (is_label p q) = no_cell refl
  as_cell (is_labels p q a) = no_cell refl
  as_cell (is_advice_lem p a) = no_cell refl
  as_cell (is_object_lem p a e) = no_cell refl
  as_cell (is_bottom p) = no_cell refl
  as_cell (is_kept_lem p q l a b) = no_cell refl

  pub data AsPointcut (w : ℕ) : CVal → Type 0 where
    a_pointcut : {ls : List ℕ} → tag_of w ≡ 7 → body_of w % piece_places < z.np → HasLabels (piece_second M (body_of w % piece_places)) ls → AsPointcut w (CVal.pointcut ls)
    no_pointcut : {v : CVal} → labels_of (unload_val v) ≡ none → AsPointcut w v

  pub as_pointcut : {w : ℕ} {v : CVal} → IsVal Θ M z w v → AsPointcut w v
  unfolding unload_val
  as_pointcut (is_unit p) = no_pointcut refl
  as_pointcut (is_truth p q) = no_pointcut refl
  as_pointcut (is_num p q) = no_pointcut refl
  as_pointcut (is_fun p q e) = no_pointcut refl
  as_pointcut (is_pair p q a c) = no_pointcut refl
  as_pointcut (is_cell p q) = no_pointcut refl
  as_pointcut (is_label p q) = no_pointcut refl
  as_pointcut (is_labels p q a) = a_pointcut p q a
  as_pointcut (is_advice_lem p a) = no_pointcut refl
  as_pointcut (is_object_lem p a e) = no_pointcut refl
  as_pointcut (is_bottom p) = no_pointcut refl
  as_pointcut (is_kept_lem p q l a b) = no_pointcut refl

  pub data AsAdvice (w : ℕ) : CVal → Type 0 where
    a_advice : {d : Dom} {e : Tm} {ls : List ℕ} {ρ : Env} → IsAdvice Θ M z (body_of w % piece_places) d ls e ρ → AsAdvice w (CVal.advice d ls e ρ)
    no_advice : {v : CVal} → advice_of_c v ≡ none → AsAdvice w v

  pub as_advice : {w : ℕ} {v : CVal} → IsVal Θ M z w v → AsAdvice w v
  unfolding unload_val
  as_advice (is_unit p) = no_advice refl
  as_advice (is_truth p q) = no_advice refl
  as_advice (is_num p q) = no_advice refl
  as_advice (is_fun p q e) = no_advice refl
  as_advice (is_pair p q a c) = no_advice refl
  as_advice (is_cell p q) = no_advice refl
  as_advice (is_label p q) = no_advice refl
  as_advice (is_labels p q a) = no_advice refl
  as_advice (is_advice_lem p a) = a_advice a
  as_advice (is_object_lem p a e) = no_advice refl
  as_advice (is_bottom p) = no_advice refl
  as_advice (is_kept_lem p q l a b) = no_advice refl

  pub data AsObject (w : ℕ) : CVal → Type 0 where
    an_object : {y : Ty} {es : Tms} {ρ : Env} → IsObject Θ (body_of w % term_count) y es → IsEnv Θ M z (closure_env w) ρ → AsObject w (CVal.object y es ρ)
    no_object : {v : CVal} → bodies_of_c v ≡ none → AsObject w v

  pub as_object : {w : ℕ} {v : CVal} → IsVal Θ M z w v → AsObject w v
  unfolding unload_val
  as_object (is_unit p) = no_object refl
  as_object (is_truth p q) = no_object refl
  as_object (is_num p q) = no_object refl
  as_object (is_fun p q e) = no_object refl
  as_object (is_pair p q a c) = no_object refl
  as_object (is_cell p q) = no_object refl
  as_object (is_label p q) = no_object refl
  as_object (is_labels p q a) = no_object refl
  as_object (is_advice_lem p a) = no_object refl
  as_object (is_object_lem p q e) = an_object q e
  as_object (is_bottom p) = no_object refl
  as_object (is_kept_lem p q l a b) = no_object refl

  -- A stack with an entry, which every other word is not (card 6).
  pub data AsKept (w : ℕ) : CVal → Type 0 where
    a_kept : {l : ℕ} {u s : CVal} → tag_of w ≡ 11 → body_of w % piece_places < z.np → entry_label (piece_first M (body_of w % piece_places)) ≡ l → IsVal Θ M z (piece_first M (body_of w % piece_places)) u
        → IsVal Θ M z (piece_second M (body_of w % piece_places)) s → AsKept w (CVal.kept l u s)
    no_kept : {v : CVal} → is_kept w ≡ false → top_of_c v ≡ none → AsKept w v

  pub as_kept : {w : ℕ} {v : CVal} → IsVal Θ M z w v → AsKept w v
  as_kept (is_unit p) = no_kept (rw p) refl
  as_kept (is_truth p q) = no_kept (rw p) refl
  as_kept (is_num p q) = no_kept (rw p) refl
  as_kept (is_fun p q e) = no_kept (rw p) refl
  as_kept (is_pair p q a c) = no_kept (rw p) refl
  as_kept (is_cell p q) = no_kept (rw p) refl
  as_kept (is_label p q) = no_kept (rw p) refl
  as_kept (is_labels p q a) = no_kept (rw p) refl
  as_kept (is_advice_lem p a) = no_kept (rw p) refl
  as_kept (is_object_lem p a e) = no_kept (rw p) refl
  as_kept (is_bottom p) = no_kept (rw p) refl
  as_kept (is_kept_lem p q l a b) = a_kept p q l a b
