-- The other way round: a term that keeps its rule in the calculus, over children of the types that they state, passes its tests.
use Prim.Native.Nat.{ℕ, zero, suc, ◌+◌, ◌*◌, ◌≤◌, ◌<◌}
use native.Mathlib.Omega.{arith}
use mathlib.Core.Path.{◌≡◌, refl, sym, ap, subst, ◌∙◌}
use mathlib.Core.Bool.{true}
use mathlib.Core.List.{List, [], ◌∷◌, map}
use mathlib.Core.Option.{some}
use lib.ListN.{length, get_or, get_elem?, length-map}
use lib.Dec.{eqb}
use Rattle.calculus.specs.Syntax.{Dom, Ty, Sigs, Pattern, at_end, at_rest, anything, pointcut}
use Rattle.calculus.specs.Typing.{no_store, PatternTy, Has, ◌⊢ᵐ◌⦂◌ as BodiesTy, LabelTys, a_type, ◌⨾◌⊢◌⦂◌ as TmTy}
use Rattle.laws.specs.Tests.{all}
use Rattle.image.specs.Kinds.{TypeKind, TermKind, term_row}
use Rattle.image.specs.Records.{Layout}
use Rattle.image.specs.Types.{head_of, type_fields, type_field, method_count, is_type, methods_out, type_out, type_of}
use Rattle.image.specs.Program.{pattern_of, assemble}
use Rattle.laws.proofs.Booleans.{no_path, and_i, of_lt, of_eq}
use Rattle.laws.proofs.Tests.{of_each}
use Rattle.image.proofs.Laid.{Below, LayoutOk, below_at}
use Rattle.image.proofs.Counts.{least_children, most_children}
use Rattle.image.proofs.TypeNumbers.{out_as, is_head, types_apart}
use Rattle.verdict.specs.Domains.{leq, policy}
use Rattle.verdict.specs.Rules.{is, op_gives, Rule}
use Rattle.verdict.specs.Check.{describe, described, rule_by}
use Rattle.verdict.specs.WellTyped.{aborts}
use Rattle.verdict.proofs.Patterns.{pattern_count, any_part, cut_parts}
use Rattle.verdict.proofs.Methods.{method_parts_lem, bodies_types, bodies_fit_lem, method_fields_lem, method_type}
use Rattle.verdict.proofs.Local.{one_of, two_of, three_of, three_more, outs}
use Rattle.verdict.proofs.Contexts.{part_there}
use Rattle.verdict.proofs.Inversion.{op_ty, of_unit, of_truth, of_number, of_var, of_seq, of_print, of_ite, of_pair, of_split, of_fun, of_app, of_arith, of_new_label, of_mark, of_pcd, of_adv, of_install, of_new_cell, of_read, of_store, of_lower, of_byte, of_obj, of_call, of_stack, of_keep, of_match, of_takedown}

-- What 13, 14 and 15 ask is there.
pub record Passes (r : Rule) : Type 0 where
  pub bound : r.bound ≡ true
  pub typed : r.typed ≡ true
  pub allowed : r.allowed ≡ true

module _ (L : Layout) (good : LayoutOk L) where
  found : (Γ : List ℕ) (k : ℕ) (t : Ty) → get_elem? (outs L Γ) k ≡ some t → (k < length Γ) × (type_of L (get_or Γ k 0) ≡ t)
  found [] k t h = no_path cc
  found (a ∷ Γ) zero t h = (omega arith, cc)
  found (a ∷ Γ) (suc k) t h = let r = found Γ k t h in (let z = r.0 in omega arith, r.1)

  -- The same types have the same number.
  same : {a b : ℕ} → a < length L.types → b < length L.types → type_of L a ≡ type_of L b → eqb a b ≡ true
  same {a} {b} l m h = of_eq (types_apart L good a b l m h)

  -- A type in full tells its record's kind and parts.
  in_kind : {u : Ty} (t : ℕ) → t < length L.types → type_of L t ≡ u → is_type L (head_of u) t ≡ true
  in_kind {u} t n h = is_head L good (head_of u) t n (ap head_of h)

  in_op : (x t : ℕ) → t < length L.types → type_of L t ≡ op_ty x → is_type L (op_gives x) t ≡ true
  in_op zero t n h = in_kind t n h
  in_op (suc zero) t n h = in_kind t n h
  in_op (suc (suc x)) t n h = in_kind t n h

  in_pair : {a b : Ty} (t : ℕ) → t < length L.types → type_of L t ≡ Ty.pair a b → (type_of L (type_field L t 0) ≡ a) × (type_of L (type_field L t 1) ≡ b)
  unfolding type_out
  in_pair t n h = let e = out_as L good TypeKind.pair t n (in_kind t n h) in (cc, cc)

  in_fun : {a b : Ty} {p : Dom} (t : ℕ) → t < length L.types → type_of L t ≡ Ty.fun a p b → (type_of L (type_field L t 0) ≡ a) × (type_field L t 1 ≡ p) × (type_of L (type_field L t 2) ≡ b)
  unfolding type_out
  in_fun t n h = let e = out_as L good TypeKind.fun t n (in_kind t n h) in (cc, cc, cc)

  in_ref : {a : Ty} {p : Dom} (t : ℕ) → t < length L.types → type_of L t ≡ Ty.ref a p → (type_of L (type_field L t 0) ≡ a) × (type_field L t 1 ≡ p)
  unfolding type_out
  in_ref t n h = let e = out_as L good TypeKind.ref t n (in_kind t n h) in (cc, cc)

  in_label : {a : Ty} {p : Dom} (t : ℕ) → t < length L.types → type_of L t ≡ Ty.label a p → (type_of L (type_field L t 0) ≡ a) × (type_field L t 1 ≡ p)
  unfolding type_out
  in_label t n h = let e = out_as L good TypeKind.label t n (in_kind t n h) in (cc, cc)

  in_pcd : {a : Ty} {p : Dom} (t : ℕ) → t < length L.types → type_of L t ≡ Ty.pointcut a p → (type_of L (type_field L t 0) ≡ a) × (type_field L t 1 ≡ p)
  unfolding type_out
  in_pcd t n h = let e = out_as L good TypeKind.pcd t n (in_kind t n h) in (cc, cc)

  in_adv : {p : Dom} (t : ℕ) → t < length L.types → type_of L t ≡ Ty.advice p → (type_field L t 0 ≡ p)
  unfolding type_out
  in_adv t n h = let e = out_as L good TypeKind.adv t n (in_kind t n h) in cc

  in_obj : {ms : Sigs} (t : ℕ) → t < length L.types → type_of L t ≡ Ty.object ms → methods_out (type_fields L t) (λ a. type_of L a) ≡ ms
  unfolding type_out
  in_obj t n h = let e = out_as L good TypeKind.obj t n (in_kind t n h) in cc

  -- Card 6: the pointcuts of a typed pattern.
  cuts_complete : (p : Pattern) (xs : List ℕ) (us : List Ty) → Below (length L.types) xs → PatternTy p (outs L xs) us → all (map (λ a. is TypeKind.pcd a) (described L xs)) ≡ true
  unfolding all
  cuts_complete p [] us ks o = refl
  cuts_complete at_end (x ∷ xs) us ks o = let z = pattern_count o in absurd (omega arith)
  cuts_complete at_rest (x ∷ xs) us ks o = let z = pattern_count o in absurd (omega arith)
  cuts_complete (anything p) (x ∷ xs) us ks o = cuts_complete p (x ∷ xs) us ks (any_part o)
  cuts_complete (pointcut p) (x ∷ xs) us ks o =
      let e = cut_parts o in
      and_i (in_kind x ks.0 e.3) (cuts_complete p xs e.2 ks.1 e.4)

  label_parts : {x t : Ty} {p : Dom} {ts : List Ty} → LabelTys (policy L) x p (t ∷ ts) → (q : Dom) × (t ≡ Ty.label x q) × (leq L p q ≡ true) × LabelTys (policy L) x p ts
  label_parts (a_type {q = q} h ls) = (q, refl, h, ls)

  labels_complete : (a p : ℕ) (ts : List ℕ) → a < length L.types → Below (length L.types) ts → (x : Ty) → type_of L a ≡ x → LabelTys (policy L) x p (outs L ts)
      → (all (map (λ b. is TypeKind.label b) (described L ts)) ≡ true) × (all (map (λ b. eqb (b.part 0) a) (described L ts)) ≡ true) × (all (map (λ b. leq L p (b.part 1)) (described L ts)) ≡ true)
  unfolding all
  labels_complete a p [] n ks x h ls = (refl, refl, refl)
  labels_complete a p (b ∷ ts) n ks x h ls =
      let e = label_parts ls in
      let k = in_kind b ks.0 e.1 in
      let f = in_label b ks.0 e.1 in
      let q = f.1 in
      let up : leq L p (type_field L b 1) ≡ true = rw q e.2 in
      let r = labels_complete a p ts n ks.1 x h e.3 in
      (and_i k r.0, and_i (same (part_there L good TypeKind.label 0 b ks.0 k refl) n (f.0 ∙ sym h)) r.1, and_i up r.2)

  abbrev LocalComplete : TermKind → List ℕ → Dom → ℕ → List ℕ → List ℕ → Type 0
  LocalComplete k Γ c t vs ts =
      t < length L.types → Below (length L.types) ts → Below (length L.types) Γ
      → TmTy (policy L) no_store (outs L Γ) c (assemble k (type_of L t) vs (aborts (outs L ts))) (type_of L t) → Passes (rule_by L Γ c t vs ts k)

  pub local_complete : (k : TermKind) (Γ : List ℕ) (c : Dom) (t : ℕ) (vs ts : List ℕ) → least_children (term_row k) ≤ length ts → length ts ≤ most_children (term_row k) → LocalComplete k Γ c t vs ts
  unfolding assemble
  local_complete TermKind.unit Γ c t vs ts l m =
      λ o ks g d.
      let e = of_unit (policy L) (outs L Γ) c d in
      record { bound = refl; typed = of_each _ (in_kind t o e, tt); allowed = refl }
  local_complete TermKind.truth Γ c t vs ts l m =
      λ o ks g d.
      let e = of_truth (policy L) (outs L Γ) c d in
      record { bound = refl; typed = of_each _ (in_kind t o e, tt); allowed = refl }
  local_complete TermKind.number Γ c t vs ts l m =
      λ o ks g d.
      let e = of_number (policy L) (outs L Γ) c d in
      record { bound = refl; typed = of_each _ (in_kind t o e, tt); allowed = refl }
  local_complete TermKind.var Γ c t vs ts l m =
      λ o ks g d.
      let e = of_var (policy L) (outs L Γ) c d in
      let f = found Γ (get_or vs 0 0) (type_of L t) e in
      record { bound = of_lt f.0; typed = same (below_at (length L.types) Γ (get_or vs 0 0) g f.0) o f.1; allowed = refl }
  local_complete TermKind.seq Γ c t vs ts l m =
      two_of (LocalComplete TermKind.seq Γ c t vs)
      (λ a b o ks g d.
      let e = of_seq (policy L) (outs L Γ) c d in
      record { bound = refl; typed = of_each _ (in_kind a ks.0 e.0, (same ks.1.0 o e.1, tt)); allowed = refl }) ts l m
  local_complete TermKind.print Γ c t vs ts l m =
      one_of (LocalComplete TermKind.print Γ c t vs)
      (λ a o ks g d.
      let e = of_print (policy L) (outs L Γ) c d in
      record { bound = refl; typed = of_each _ (in_kind t o e.0, (in_kind a ks.0 e.1, tt)); allowed = refl }) ts l m
  local_complete TermKind.ite Γ c t vs ts l m =
      three_of (LocalComplete TermKind.ite Γ c t vs)
      (λ a b h o ks g d.
      let e = of_ite (policy L) (outs L Γ) c d in
      record { bound = refl; typed = of_each _ (in_kind a ks.0 e.0, (same ks.1.0 o e.1, (same ks.1.1.0 o e.2, tt))); allowed = refl }) ts l m
  local_complete TermKind.pair Γ c t vs ts l m =
      two_of (LocalComplete TermKind.pair Γ c t vs)
      (λ a b o ks g d.
      let e = of_pair (policy L) (outs L Γ) c d in
      let h = in_kind t o e in
      let f = in_pair t o e in
      record { bound = refl; typed = of_each _ (h, (same (part_there L good TypeKind.pair 0 t o h refl) ks.0 f.0, (same (part_there L good TypeKind.pair 1 t o h refl) ks.1.0 f.1, tt))); allowed = refl }) ts l m
  local_complete TermKind.split Γ c t vs ts l m =
      two_of (LocalComplete TermKind.split Γ c t vs)
      (λ a b o ks g d.
      let e = of_split (policy L) (outs L Γ) c d in
      record { bound = refl; typed = of_each _ (in_kind a ks.0 e.2, (same ks.1.0 o e.3, tt)); allowed = refl }) ts l m
  local_complete TermKind.fun Γ c t vs ts l m =
      one_of (LocalComplete TermKind.fun Γ c t vs)
      (λ a o ks g d.
      let e = of_fun (policy L) (outs L Γ) c d in
      let h = in_kind t o e.2 in
      let f = in_fun t o e.2 in
      record { bound = refl; typed = of_each _ (h, (same (part_there L good TypeKind.fun 2 t o h refl) ks.0 f.2, tt)); allowed = refl }) ts l m
  local_complete TermKind.app Γ c t vs ts l m =
      two_of (LocalComplete TermKind.app Γ c t vs)
      (λ a b o ks g d.
      let e = of_app (policy L) (outs L Γ) c d in
      let h = in_kind a ks.0 e in
      let f = in_fun a ks.0 e in
      record { bound = refl; typed = of_each _ (h, (same (part_there L good TypeKind.fun 0 a ks.0 h refl) ks.1.0 f.0, (same (part_there L good TypeKind.fun 2 a ks.0 h refl) o f.2, tt))); allowed = of_eq f.1 }) ts l m
  local_complete TermKind.arith Γ c t vs ts l m =
      two_of (LocalComplete TermKind.arith Γ c t vs)
      (λ a b o ks g d.
      let e = of_arith (policy L) (outs L Γ) c (get_or vs 0 0) d in
      record { bound = refl; typed = of_each _ (in_op (get_or vs 0 0) t o e.0, (in_kind a ks.0 e.1, (in_kind b ks.1.0 e.2, tt))); allowed = refl }) ts l m
  local_complete TermKind.new_label Γ c t vs ts l m =
      λ o ks g d.
      let e = of_new_label (policy L) (outs L Γ) c d in
      let f = (in_label t o e.2).1 in
      record { bound = refl; typed = of_each _ (in_kind t o e.2, tt); allowed = rw f e.3 }
  local_complete TermKind.mark Γ c t vs ts l m =
      two_of (LocalComplete TermKind.mark Γ c t vs)
      (λ a b o ks g d.
      let e = of_mark (policy L) (outs L Γ) c d in
      let h = in_kind a ks.0 e.1 in
      let f = in_label a ks.0 e.1 in
      record { bound = refl; typed = of_each _ (in_kind t o e.0, (h, (same (part_there L good TypeKind.label 0 a ks.0 h refl) ks.1.0 f.0, tt))); allowed = of_eq f.1 }) ts l m
  local_complete TermKind.pcd Γ c t vs ts l m =
      λ o ks g d.
      let e = of_pcd (policy L) (outs L Γ) c (outs L ts) d in
      let h = in_kind t o e.2 in
      let f = in_pcd t o e.2 in
      let p = f.1 in
      let r = labels_complete (type_field L t 0) e.1 ts (part_there L good TypeKind.pcd 0 t o h refl) ks e.0 f.0 e.3 in
      record { bound = refl; typed = of_each _ (h, (r.0, (r.1, tt))); allowed = rw p r.2 }
  local_complete TermKind.adv Γ c t vs ts l m =
      two_of (LocalComplete TermKind.adv Γ c t vs)
      (λ a b o ks g d.
      let e = of_adv (policy L) (outs L Γ) c d in
      let f = in_adv t o e.2 in
      let h = (in_pcd a ks.0 e.3).1 in
      record { bound = refl; typed = of_each _ (in_kind t o e.2, (in_kind a ks.0 e.3, (in_kind b ks.1.0 e.4, tt))); allowed = rw (f, h) e.5 }) ts l m
  local_complete TermKind.install Γ c t vs ts l m =
      one_of (LocalComplete TermKind.install Γ c t vs)
      (λ a o ks g d.
      let e = of_install (policy L) (outs L Γ) c d in
      let f = in_adv a ks.0 e.2 in
      record { bound = refl; typed = of_each _ (in_kind t o e.1, (in_kind a ks.0 e.2, tt)); allowed = rw f e.3 }) ts l m
  local_complete TermKind.new_cell Γ c t vs ts l m =
      one_of (LocalComplete TermKind.new_cell Γ c t vs)
      (λ a o ks g d.
      let e = of_new_cell (policy L) (outs L Γ) c d in
      let h = in_kind t o e.1 in
      let f = in_ref t o e.1 in
      let p = f.1 in
      record { bound = refl; typed = of_each _ (h, (same (part_there L good TypeKind.ref 0 t o h refl) ks.0 f.0, tt)); allowed = rw p e.2 }) ts l m
  local_complete TermKind.read Γ c t vs ts l m =
      one_of (LocalComplete TermKind.read Γ c t vs)
      (λ a o ks g d.
      let e = of_read (policy L) (outs L Γ) c d in
      let h = in_kind a ks.0 e.1 in
      let f = in_ref a ks.0 e.1 in
      let p = f.1 in
      record { bound = refl; typed = of_each _ (h, (same (part_there L good TypeKind.ref 0 a ks.0 h refl) o f.0, tt)); allowed = rw p e.2 }) ts l m
  local_complete TermKind.store Γ c t vs ts l m =
      two_of (LocalComplete TermKind.store Γ c t vs)
      (λ a b o ks g d.
      let e = of_store (policy L) (outs L Γ) c d in
      let h = in_kind a ks.0 e.2 in
      let f = in_ref a ks.0 e.2 in
      let p = f.1 in
      record { bound = refl; typed = of_each _ (in_kind t o e.1, (h, (same (part_there L good TypeKind.ref 0 a ks.0 h refl) ks.1.0 f.0, tt))); allowed = rw p e.3 }) ts l m
  local_complete TermKind.lower Γ c t vs ts l m =
      one_of (LocalComplete TermKind.lower Γ c t vs)
      (λ a o ks g d.
      let e = of_lower (policy L) (outs L Γ) c d in
      record { bound = refl; typed = of_each _ (in_kind t o e.0, (in_kind a ks.0 e.1, tt)); allowed = e.2 }) ts l m
  local_complete TermKind.abort Γ c t vs ts l m =
      λ o ks g d.
      record { bound = refl; typed = of_each [] tt; allowed = refl }
  local_complete TermKind.byte Γ c t vs ts l m =
      one_of (LocalComplete TermKind.byte Γ c t vs)
      (λ a o ks g d.
      let e = of_byte (policy L) (outs L Γ) c d in
      record { bound = refl; typed = of_each _ (in_kind t o e.0, (in_kind a ks.0 e.1, tt)); allowed = refl }) ts l m
  local_complete TermKind.obj Γ c t vs ts l m =
      λ o ks g d.
      let e = of_obj (policy L) (outs L Γ) c d in
      let h = in_kind t o e.1 in
      let b = bodies_types (λ a. type_of L a) (policy L) (method_count L t) (type_fields L t) ts (method_fields_lem L good t o h) (subst (λ ms. BodiesTy (policy L) no_store (Ty.object e.0 ∷ outs L Γ) (aborts (outs L ts)) ms) (sym (in_obj t o e.1)) e.2) in
      let n = b.0 in
      let f : (i : ℕ) → i < length ts → type_field L t (2 * (0 + i) + 1) ≡ get_or ts i 0 =
      λ i q. let z : 0 + i ≡ i = omega arith in rw z (types_apart L good _ _ (method_type L good t o h i (omega arith)) (below_at (length L.types) ts i ks q) (b.1 i (omega arith))) in
      record { bound = refl; typed = of_each _ (h, (of_eq (length-map ts (λ a. describe L a) ∙ n), (bodies_fit_lem L (describe L t) 0 ts f, tt))); allowed = refl }
  local_complete TermKind.call Γ c t vs ts l m =
      one_of (LocalComplete TermKind.call Γ c t vs)
      (λ a o ks g d.
      let e = of_call (policy L) (outs L Γ) c d in
      let h = in_kind a ks.0 e.1 in
      let f = method_parts_lem (λ b. type_of L b) (method_count L a) (type_fields L a) (method_fields_lem L good a ks.0 h) (get_or vs 0 0) (subst (λ ms. Has c (type_of L t) ms (get_or vs 0 0)) (sym (in_obj a ks.0 e.1)) e.2) in
      record { bound = refl; typed = of_each _ (h, (of_lt f.0, (same (method_type L good a ks.0 h (get_or vs 0 0) f.0) o f.2, tt))); allowed = of_eq f.1 }) ts l m
  local_complete TermKind.stack Γ c t vs ts l m =
      λ o ks g d.
      let e = of_stack (policy L) (outs L Γ) c d in
      record { bound = refl; typed = of_each _ (in_kind t o e, tt); allowed = refl }
  local_complete TermKind.keep Γ c t vs ts l m =
      three_of (LocalComplete TermKind.keep Γ c t vs)
      (λ a b h o ks g d.
      let e = of_keep (policy L) (outs L Γ) c d in
      let k = in_kind a ks.0 e.0 in
      let f = in_label a ks.0 e.0 in
      record { bound = refl; typed = of_each _ (k, (same (part_there L good TypeKind.label 0 a ks.0 k refl) ks.1.0 f.0, (same ks.1.1.0 o e.1, tt))); allowed = of_eq f.1 }) ts l m
  local_complete TermKind.match Γ c t vs ts l m =
      three_more (LocalComplete TermKind.match Γ c t vs)
      (λ a b h xs o ks g d.
      let e = of_match (policy L) (outs L Γ) c (pattern_of vs) (outs L xs) d in
      let q = cuts_complete (pattern_of vs) xs e.0 ks.1.1.1 e.4 in
      record { bound = refl; typed = of_each _ (in_kind a ks.0 e.1, (same ks.1.0 o e.2, (same ks.1.1.0 o e.3, (q, tt)))); allowed = refl }) ts l
  local_complete TermKind.takedown Γ c t vs ts l m =
      λ o ks g d.
      let e = of_takedown (policy L) (outs L Γ) c d in
      record { bound = refl; typed = of_each _ (in_kind t o e.0, tt); allowed = e.1 }
