-- An accepted image without its watches is accepted, with the same domains, and no longer.
use Rattle.std.specs.Prelude.{Ok}
use Prim.Native.Nat.{ℕ, zero, suc, ◌≤◌, ◌<◌}
use native.Mathlib.Omega.{arith}
use mathlib.Core.Path.{◌≡◌, refl, sym, ap, subst, ◌∙◌}
use mathlib.Core.Bool.{Bool, true, false}
use mathlib.Core.List.{List, [], ◌∷◌, ◌++◌}
use lib.ListN.{length, get_or}
use Rattle.calculus.proofs.Choices.{either}
use Rattle.calculus.specs.Syntax.{Dom, Ty, Tm, op0, abort, adv, lower}
use Rattle.calculus.specs.Combinators.{choose}
use Rattle.calculus.specs.Typing.{Policy, no_store, ◌⨾◌⊢◌⦂◌ as TmTy, is_val, is_adv, is_lower, v_unit}
use Rattle.image.specs.Limits.{depth_limit}
use Rattle.image.specs.Kinds.{Body, here, function_body, advice_body, split_body, lower_body, object_body, match_body, TermKind, body_of}
use Rattle.image.specs.Layout.{records_of}
use Rattle.image.specs.Program.{Program, Programs, node, blank, end, more, assemble, low_body, program}
use Rattle.laws.proofs.Booleans.{no_path}
use Rattle.image.proofs.Bodies.{Owner, body_owner}
use Rattle.verdict.specs.Domains.{policy}
use Rattle.verdict.specs.Settings.{Setting}
use Rattle.verdict.specs.Verdicts.{verdict}
use Rattle.verdict.specs.WellTyped.{mainline, WellTyped, EachWellTyped, stated, stateds, aborts, child_setting}
use Rattle.verdict.proofs.Passed.{passed_iff}
use Rattle.verdict.proofs.Term.{abort_type}
use Rattle.image_written.specs.TypeParts.{parts_first}
use Rattle.image_written.specs.Table.{types_in, types_in_all}
use Rattle.image_written.specs.Stripped.{as_unit, watches, gives_way, stripped, strippeds, without_watches}
use Rattle.image_written.proofs.Writable.{Fielded, Every, Shaped, ShapedAll, Shallow, ShallowAll, several}
use Rattle.image_written.proofs.Taken.{every_join}
use Rattle.image_written.proofs.Sums.{Weighing, weight, weight_all, weight_terms}
use Rattle.image_written.proofs.Sizes.{term_size, least_size}
use Rattle.image_written.proofs.Accepted.{Holds}
use Rattle.image_written.proofs.Fixed.{accepted_shaped, Lighter, lighter_short, lighter_holds}

every_left : (P : Ty → Type 0) (xs ys : List Ty) → Every P (xs ++ ys) → Every P xs
every_left P [] ys h = tt
every_left P (x ∷ xs) ys h = (h.0, every_left P xs ys h.1)

every_right : (P : Ty → Type 0) (xs ys : List Ty) → Every P (xs ++ ys) → Every P ys
every_right P [] ys h = h
every_right P (x ∷ xs) ys h = every_right P xs ys h.1

-- What is so of both holds of the one that is taken.
module _ (high : Dom → Bool) where
  mutual
    unfolding stripped

    same_stated : (e : Program) → stated (stripped high e) ≡ stated e
    same_stated (node k t vs es) = refl
    same_stated blank = refl

    same_stateds : (es : Programs) (low : ℕ → Bool) → stateds (strippeds high es low) ≡ stateds es
    same_stateds end low = refl
    same_stateds (more e es) low =
        let a : stated (choose (low 0) (as_unit e) (stripped high e)) ≡ stated e = either (λ x. stated x ≡ stated e) (low 0) refl (same_stated e) in
        let b = same_stateds es (λ i. low (suc i)) in
        cc (a, b)

  same_several : (es : Programs) (low : ℕ → Bool) → several (strippeds high es low) ≡ several es
  unfolding stripped
  same_several end low = refl
  same_several (more e es) low = ap suc (same_several es (λ i. low (suc i)))

  -- The record of unit.
  unit_fielded : (n : ℕ) → Fielded n TermKind.unit [] 0
  unit_fielded n = record { groups = 0; numbers = 0 ∷ []; sized = record { count = refl; none = λ h. refl; least = omega arith; most = omega arith }; others = refl; children = refl; ranged = tt }

  as_unit_shaped : (n : ℕ) (e : Program) → Shaped n e → Shaped n (as_unit e)
  unfolding Shaped
  as_unit_shaped n (node k t vs es) h = (h.0, unit_fielded n, tt)
  as_unit_shaped n blank h = absurd h

  mutual
    unfolding stripped Shaped

    strip_shaped : (n : ℕ) (e : Program) → Shaped n e → Shaped n (stripped high e)
    strip_shaped n (node k t vs es) h =
        (h.0, subst (λ q. Fielded n k vs q) (sym (same_several es (gives_way high k t vs))) h.1, strip_shaped_all n es (gives_way high k t vs) h.2)
    strip_shaped n blank h = absurd h

    strip_shaped_all : (n : ℕ) (es : Programs) (low : ℕ → Bool) → ShapedAll n es → ShapedAll n (strippeds high es low)
    strip_shaped_all n end low h = tt
    strip_shaped_all n (more e es) low h =
        (either (λ x. Shaped n x) (low 0) (as_unit_shaped n e h.0) (strip_shaped n e h.0), strip_shaped_all n es (λ i. low (suc i)) h.1)

  as_unit_every : (n : ℕ) (P : Ty → Type 0) (e : Program) → Shaped n e → Every P (types_in e) → Every P (types_in (as_unit e))
  unfolding types_in Shaped
  as_unit_every n P (node k t vs es) s h = every_right P (types_in_all es) (parts_first t) h
  as_unit_every n P blank s h = absurd s

  mutual
    unfolding stripped types_in Shaped

    strip_every : (n : ℕ) (P : Ty → Type 0) (e : Program) → Shaped n e → Every P (types_in e) → Every P (types_in (stripped high e))
    strip_every n P (node k t vs es) s h =
        every_join P (types_in_all (strippeds high es (gives_way high k t vs))) (parts_first t) (strip_every_all n P es (gives_way high k t vs) s.2 (every_left P (types_in_all es) (parts_first t) h)) (every_right P (types_in_all es) (parts_first t) h)
    strip_every n P blank s h = absurd s

    strip_every_all : (n : ℕ) (P : Ty → Type 0) (es : Programs) (low : ℕ → Bool) → ShapedAll n es → Every P (types_in_all es) → Every P (types_in_all (strippeds high es low))
    strip_every_all n P end low s h = tt
    strip_every_all n P (more e es) low s h =
        let a = every_left P (types_in e) (types_in_all es) h in
        every_join P (types_in (choose (low 0) (as_unit e) (stripped high e))) (types_in_all (strippeds high es (λ i. low (suc i))))
        (either (λ x. Every P (types_in x)) (low 0) (as_unit_every n P e s.0 a) (strip_every n P e s.0 a))
        (strip_every_all n P es (λ i. low (suc i)) s.1 (every_right P (types_in e) (types_in_all es) h))

  as_unit_shallow : (n : ℕ) (e : Program) (d : ℕ) → Shaped n e → Shallow e d → Shallow (as_unit e) d
  unfolding Shallow Shaped
  as_unit_shallow n (node k t vs es) zero s h = h
  as_unit_shallow n (node k t vs es) (suc d) s h = tt
  as_unit_shallow n blank d s h = absurd s

  mutual
    unfolding stripped Shallow Shaped

    strip_shallow : (n : ℕ) (e : Program) (d : ℕ) → Shaped n e → Shallow e d → Shallow (stripped high e) d
    strip_shallow n (node k t vs es) zero s h = h
    strip_shallow n (node k t vs es) (suc d) s h = strip_shallow_all n es (gives_way high k t vs) d s.2 h
    strip_shallow n blank d s h = absurd s

    strip_shallow_all : (n : ℕ) (es : Programs) (low : ℕ → Bool) (d : ℕ) → ShapedAll n es → ShallowAll es d → ShallowAll (strippeds high es low) d
    strip_shallow_all n end low d s h = tt
    strip_shallow_all n (more e es) low d s h =
        (either (λ x. Shallow x d) (low 0) (as_unit_shallow n e d s.0 h.0) (strip_shallow n e d s.0 h.0), strip_shallow_all n es (λ i. low (suc i)) d s.1 h.1)

  -- No more terms, and no more bytes.
  module _ (v : Weighing) (least : (k : TermKind) (vs : List ℕ) (q : ℕ) → v TermKind.unit [] 0 ≤ v k vs q) where
    as_unit_lighter : (n : ℕ) (e : Program) → Shaped n e → weight v (as_unit e) ≤ weight v e
    unfolding weight Shaped
    as_unit_lighter n (node k t vs es) s = let a = least k vs (several es) in omega arith
    as_unit_lighter n blank s = absurd s

    mutual
      unfolding stripped weight Shaped

      strip_lighter : (n : ℕ) (e : Program) → Shaped n e → weight v (stripped high e) ≤ weight v e
      strip_lighter n (node k t vs es) s =
          let a = strip_lighter_all n es (gives_way high k t vs) s.2 in
          let b : v k vs (several (strippeds high es (gives_way high k t vs))) ≡ v k vs (several es) = ap (λ q. v k vs q) (same_several es (gives_way high k t vs)) in
          omega arith
      strip_lighter n blank s = absurd s

      strip_lighter_all : (n : ℕ) (es : Programs) (low : ℕ → Bool) → ShapedAll n es → weight_all v (strippeds high es low) ≤ weight_all v es
      strip_lighter_all n end low s = omega arith
      strip_lighter_all n (more e es) low s =
          let a : weight v (choose (low 0) (as_unit e) (stripped high e)) ≤ weight v e = either (λ x. weight v x ≤ weight v e) (low 0) (as_unit_lighter n e s.0) (strip_lighter n e s.0) in
          let b = strip_lighter_all n es (λ i. low (suc i)) s.1 in
          omega arith

-- The bodies of advice and of lower have type unit.
module _ (D : Policy) where
  adv_unit : {Γ : List Ty} {c p : Dom} {e : Tm} {s t : Ty} → TmTy D no_store Γ c (adv p e (op0 abort s)) t → s ≡ Ty.unit
  adv_unit (is_adv d h b) = abort_type D b

  lower_unit : {Γ : List Ty} {c p : Dom} {s t : Ty} → TmTy D no_store Γ c (lower p (op0 abort s)) t → s ≡ Ty.unit
  lower_unit (is_lower h b) = abort_type D b

-- A child that stands as the body of an advice or of a lower is one's: of these kinds alone, and at its place.
pub data Watch : TermKind → ℕ → Type 0 where
  of_advice_lem : Watch TermKind.adv 1
  of_lower : Watch TermKind.lower 0

adv_watch : (j : ℕ) → watches (body_of TermKind.adv j) ≡ true → Watch TermKind.adv j
adv_watch zero h = no_path (sym h)
adv_watch (suc zero) h = of_advice_lem
adv_watch (suc (suc j)) h = no_path (sym h)

lower_watch : (j : ℕ) → watches (body_of TermKind.lower j) ≡ true → Watch TermKind.lower j
lower_watch zero h = of_lower
lower_watch (suc j) h = no_path (sym h)

pub watch : (k : TermKind) (j : ℕ) → watches (body_of k j) ≡ true → Watch k j
watch k j h = go (body_of k j) refl (body_owner k j)
  where
    go : (b : Body) → body_of k j ≡ b → Owner k b → Watch k j
    go here q o = no_path (sym (ap watches (sym q) ∙ h))
    go function_body q o = no_path (sym (ap watches (sym q) ∙ h))
    go advice_body q o = subst (λ x. Watch x j) (sym o) (adv_watch j (subst (λ x. watches (body_of x j) ≡ true) o h))
    go split_body q o = no_path (sym (ap watches (sym q) ∙ h))
    go lower_body q o = subst (λ x. Watch x j) (sym o) (lower_watch j (subst (λ x. watches (body_of x j) ≡ true) o h))
    go object_body q o = no_path (sym (ap watches (sym q) ∙ h))
    go match_body q o = no_path (sym (ap watches (sym q) ∙ h))

pub chosen : (a b : Bool) → choose a b false ≡ true → a ≡ true
chosen true b h = refl
chosen false b h = no_path (sym h)

module _ (D : Policy) (Γ : List Ty) (c : Dom) where
  body_unit : {k : TermKind} {j : ℕ} → Watch k j → (t : Ty) (vs : List ℕ) (ts : List Ty) → TmTy D no_store Γ c (assemble k t vs (aborts ts)) t → j < length ts → get_or ts j Ty.unit ≡ Ty.unit
  unfolding assemble
  body_unit of_advice_lem t vs [] d l = absurd (omega arith)
  body_unit of_advice_lem t vs (s ∷ []) d l = absurd (omega arith)
  body_unit of_advice_lem t vs (s ∷ u ∷ ts) d l = adv_unit D d
  body_unit of_lower t vs [] d l = absurd (omega arith)
  body_unit of_lower t vs (s ∷ ts) d l = lower_unit D d

module _ (high : Dom → Bool) (D : Policy) where
  as_unit_typed : (p : Setting Ty) (e : Program) → stated e ≡ Ty.unit → WellTyped D p (as_unit e)
  unfolding WellTyped assemble
  as_unit_typed p e h = (rw h (is_val v_unit), tt)

  mutual
    unfolding stripped WellTyped Shaped

    strip_typed : (n : ℕ) (p : Setting Ty) (e : Program) → Shaped n e → WellTyped D p e → WellTyped D p (stripped high e)
    strip_typed n p (node k t vs es) s w =
        let low : ℕ → Bool = gives_way high k t vs in
        let e : stateds es ≡ stateds (strippeds high es low) = sym (same_stateds high es low) in (
          subst (λ ts. TmTy D no_store p.context p.dom (assemble k t vs (aborts ts)) t) e w.0,
          subst (λ ts. EachWellTyped D (child_setting p k t vs ts) 0 (strippeds high es low)) e
              (strip_typed_all n (child_setting p k t vs (stateds es)) 0 es low s.2 w.1 (λ j l h. body_unit D p.context p.dom (watch k j (chosen (watches (body_of k j)) (low_body high k t vs j) h)) t vs (stateds es) w.0 l)),
        )
    strip_typed n p blank s w = absurd w

    strip_typed_all : (n : ℕ) (at : ℕ → Setting Ty) (i : ℕ) (es : Programs) (low : ℕ → Bool) → ShapedAll n es → EachWellTyped D at i es
        → ((j : ℕ) → j < length (stateds es) → low j ≡ true → get_or (stateds es) j Ty.unit ≡ Ty.unit) → EachWellTyped D at i (strippeds high es low)
    strip_typed_all n at i end low s w h = tt
    strip_typed_all n at i (more e es) low s w h =
        (go (low 0) refl (strip_typed n (at i) e s.0 w.0), strip_typed_all n at (suc i) es (λ j. low (suc j)) s.1 w.1 (λ j l q. h (suc j) (omega arith) q))
      where
        go : (b : Bool) → low 0 ≡ b → WellTyped D (at i) (stripped high e) → WellTyped D (at i) (choose (low 0) (as_unit e) (stripped high e))
        go true q r = rw q (as_unit_typed (at i) e (h 0 (omega arith) q))
        go false q r = rw q r

module _ (high : Dom → Bool) (b : List ℕ) (work report : ℕ) (ok : verdict b work report ≡ Ok tt) where
  stripped_lighter : Lighter b work report ok (stripped high (program (records_of b)))
  stripped_lighter =
      let n : ℕ = length (records_of b).domains in
      let e : Program = program (records_of b) in
      let s : Shaped n e = accepted_shaped b work report ok in
      record {
        from = λ P h. strip_every high n P e s h;
        shaped = strip_shaped high n e s;
        few_terms = omega (arith, strip_lighter high (λ k vs q. 1) (λ k vs q. omega arith) n e s, weight_terms e, weight_terms (stripped high e));
        lighter = strip_lighter high term_size (λ k vs q. least_size k vs q) n e s;
        shallow = strip_shallow high n e depth_limit s;
        well_typed = strip_typed high (policy (records_of b)) n mainline e s ((passed_iff b work report).0 ok).well_typed;
        same_type_lem = same_stated high e;
      }

  -- The image without its watches is accepted, and has the image's domains and its program without its watches.
  pub stripped_holds : Holds (without_watches high b) (records_of b) (stripped high (program (records_of b))) work report
  unfolding without_watches
  stripped_holds = lighter_holds b work report ok (stripped high (program (records_of b))) stripped_lighter

  pub stripped_short : length (without_watches high b) ≤ length b
  unfolding without_watches
  stripped_short = lighter_short b work report ok (stripped high (program (records_of b))) stripped_lighter
