-- What the tests of one term mean: its rule in the calculus, over children of the types that they state.
use Prim.Native.Nat.{ℕ, zero, suc, ◌+◌, ◌*◌, ◌≤◌, ◌<◌}
use native.Mathlib.Omega.{arith}
use mathlib.Core.Path.{◌≡◌, refl, sym, ◌∙◌}
use mathlib.Core.Bool.{true}
use mathlib.Core.List.{List, [], ◌∷◌, map}
use mathlib.Core.Option.{some}
use lib.ListN.{length, get_or, get_elem?, length-map}
use lib.Dec.{eqb}
use Rattle.calculus.specs.Syntax.{Dom, Ty, op0, abort}
use Rattle.calculus.specs.Typing.{no_store, t_new_label, t_abort, t_takedown, t_stack, t_print, t_install, t_read, t_byte, t_new_cell, t_call, t_pair, t_app, t_mark, t_store, t_plus, t_minus, t_less, t_equal, LabelTys, no_types, a_type, ◌⨾◌⊢◌⦂◌ as TmTy, ◌⨾◌⊢*◌⦂◌ as TmsTy, ◌⊢◌⦂◌⇒◌⇒◌ as Rule2, v_unit, v_truth, v_number, is_val, is_var, is_lam, is_op0, is_op1, is_op2, is_seq, is_ite, is_split, is_pcd, is_adv, is_lower, is_obj, is_keep, is_matching, is_end, is_more}
use Rattle.laws.specs.Tests.{all}
use Rattle.image.specs.Kinds.{TypeKind, TermKind, term_row}
use Rattle.image.specs.Records.{Layout}
use Rattle.image.specs.Types.{type_fields, type_field, method_count, is_type, type_out, type_of}
use Rattle.image.specs.Program.{op_of, pattern_of, assemble}
use Rattle.laws.proofs.Booleans.{and_l, and_r, lt_of, eq_of}
use Rattle.laws.proofs.Tests.{each}
use Rattle.image.proofs.Fitting.{Fitting, match_pointcuts}
use Rattle.image.proofs.Laid.{Below, LayoutOk}
use Rattle.image.proofs.Counts.{least_children, most_children}
use Rattle.image.proofs.TypeNumbers.{out_as}
use Rattle.verdict.specs.Domains.{leq, policy}
use Rattle.verdict.specs.Rules.{is, op_gives}
use Rattle.verdict.specs.Check.{describe, described, rule_by}
use Rattle.verdict.specs.WellTyped.{aborts}
use Rattle.verdict.proofs.Patterns.{pattern_typed}
use Rattle.verdict.proofs.Methods.{has_method, bodies_typed, body_fits, method_fields_lem}

-- A list of so many elements.
pub one_of : (P : List ℕ → Type 0) → ((a : ℕ) → P (a ∷ [])) → (ts : List ℕ) → 1 ≤ length ts → length ts ≤ 1 → P ts
one_of P h [] l m = absurd (omega arith)
one_of P h (a ∷ []) l m = h a
one_of P h (a ∷ b ∷ ts) l m = absurd (omega arith)

pub two_of : (P : List ℕ → Type 0) → ((a b : ℕ) → P (a ∷ b ∷ [])) → (ts : List ℕ) → 2 ≤ length ts → length ts ≤ 2 → P ts
two_of P h [] l m = absurd (omega arith)
two_of P h (a ∷ []) l m = absurd (omega arith)
two_of P h (a ∷ b ∷ []) l m = h a b
two_of P h (a ∷ b ∷ c ∷ ts) l m = absurd (omega arith)

pub three_of : (P : List ℕ → Type 0) → ((a b c : ℕ) → P (a ∷ b ∷ c ∷ [])) → (ts : List ℕ) → 3 ≤ length ts → length ts ≤ 3 → P ts
three_of P h [] l m = absurd (omega arith)
three_of P h (a ∷ []) l m = absurd (omega arith)
three_of P h (a ∷ b ∷ []) l m = absurd (omega arith)
three_of P h (a ∷ b ∷ c ∷ []) l m = h a b c
three_of P h (a ∷ b ∷ c ∷ d ∷ ts) l m = absurd (omega arith)

pub three_more : (P : List ℕ → Type 0) → ((a b c : ℕ) (xs : List ℕ) → P (a ∷ b ∷ c ∷ xs)) → (ts : List ℕ) → 3 ≤ length ts → P ts
three_more P h [] l = absurd (omega arith)
three_more P h (a ∷ []) l = absurd (omega arith)
three_more P h (a ∷ b ∷ []) l = absurd (omega arith)
three_more P h (a ∷ b ∷ c ∷ xs) l = h a b c xs

module _ (L : Layout) where
  -- Types written out.
  abbrev pub outs : List ℕ → List Ty
  outs ts = map (λ a. type_of L a) ts

module _ (L : Layout) (good : LayoutOk L) where
  look : (Γ : List ℕ) (k : ℕ) → k < length Γ → get_elem? (outs L Γ) k ≡ some (type_of L (get_or Γ k 0))
  look [] k h = absurd (omega arith)
  look (a ∷ Γ) zero h = refl
  look (a ∷ Γ) (suc k) h = look Γ k (omega arith)

  op_rule : (c : Dom) (x t : ℕ) → t < length L.types → is_type L (op_gives x) t ≡ true → Rule2 (policy L) c (op_of x) Ty.number Ty.number (type_of L t)
  unfolding type_out
  op_rule c zero t n h = rw (out_as L good TypeKind.number t n h) t_plus
  op_rule c (suc zero) t n h = rw (out_as L good TypeKind.number t n h) t_minus
  op_rule c (suc (suc zero)) t n h = rw (out_as L good TypeKind.truth t n h) t_less
  op_rule c (suc (suc (suc x))) t n h = rw (out_as L good TypeKind.truth t n h) t_equal

  labels_sound : (a : ℕ) (p : Dom) (ts : List ℕ) → Below (length L.types) ts → all (map (λ b. is TypeKind.label b) (described L ts)) ≡ true → all (map (λ b. eqb (b.part 0) a) (described L ts)) ≡ true
      → all (map (λ b. leq L p (b.part 1)) (described L ts)) ≡ true → LabelTys (policy L) (type_of L a) p (outs L ts)
  unfolding type_out all
  labels_sound a p [] ks h i j = no_types
  labels_sound a p (b ∷ ts) ks h i j =
      let e = out_as L good TypeKind.label b ks.0 (and_l (is_type L TypeKind.label b) (all (map (λ b. is TypeKind.label b) (described L ts))) h) in
      let q : type_field L b 0 ≡ a = eq_of (and_l (eqb (type_field L b 0) a) (all (map (λ b. eqb (b.part 0) a) (described L ts))) i) in
      let d = and_l (leq L p (type_field L b 1)) (all (map (λ b. leq L p (b.part 1)) (described L ts))) j in
      let rest = labels_sound a p ts ks.1 (and_r (is_type L TypeKind.label b) (all (map (λ b. is TypeKind.label b) (described L ts))) h) (and_r (eqb (type_field L b 0) a) (all (map (λ b. eqb (b.part 0) a) (described L ts))) i) (and_r (leq L p (type_field L b 1)) (all (map (λ b. leq L p (b.part 1)) (described L ts))) j) in
      rw (e, q) (a_type d rest)

  aborted : {Γ : List Ty} {c : Dom} {t : Ty} → TmTy (policy L) no_store Γ c (op0 abort t) t
  aborted = is_op0 t_abort

  aborteds : {Γ : List Ty} {c : Dom} (ts : List Ty) → TmsTy (policy L) no_store Γ c (aborts ts) ts
  aborteds [] = is_end
  aborteds (t ∷ ts) = is_more aborted (aborteds ts)

  abbrev pub LocalSound : TermKind → List ℕ → Dom → ℕ → List ℕ → List ℕ → Type 0
  LocalSound k Γ c t vs ts =
      t < length L.types → Below (length L.types) ts
      → (rule_by L Γ c t vs ts k).bound ≡ true → (rule_by L Γ c t vs ts k).typed ≡ true → (rule_by L Γ c t vs ts k).allowed ≡ true
      → TmTy (policy L) no_store (outs L Γ) c (assemble k (type_of L t) vs (aborts (outs L ts))) (type_of L t)

  pub local_sound : (k : TermKind) (Γ : List ℕ) (c : Dom) (t : ℕ) (vs ts : List ℕ) → least_children (term_row k) ≤ length ts → length ts ≤ most_children (term_row k) → Fitting k vs (length ts) → LocalSound k Γ c t vs ts
  unfolding type_out assemble
  local_sound TermKind.unit Γ c t vs ts l m w =
      λ o ks h13 h14 h15.
      rw (out_as L good TypeKind.unit t o (each _ h14).0) (is_val v_unit)
  local_sound TermKind.truth Γ c t vs ts l m w =
      λ o ks h13 h14 h15.
      rw (out_as L good TypeKind.truth t o (each _ h14).0) (is_val v_truth)
  local_sound TermKind.number Γ c t vs ts l m w =
      λ o ks h13 h14 h15.
      rw (out_as L good TypeKind.number t o (each _ h14).0) (is_val v_number)
  local_sound TermKind.var Γ c t vs ts l m w =
      λ o ks h13 h14 h15.
      let q : get_or Γ (get_or vs 0 0) 0 ≡ t = eq_of h14 in
      let e = look Γ (get_or vs 0 0) (lt_of h13) in
      is_var (rw q at e)
  local_sound TermKind.seq Γ c t vs ts l m w =
      two_of (LocalSound TermKind.seq Γ c t vs)
      (λ a b o ks h13 h14 h15.
      let hs = each _ h14 in
      let e = out_as L good TypeKind.unit a ks.0 hs.0 in
      let q : b ≡ t = eq_of hs.1.0 in
      rw (e, q) (is_seq aborted aborted)) ts l m
  local_sound TermKind.print Γ c t vs ts l m w =
      one_of (LocalSound TermKind.print Γ c t vs)
      (λ a o ks h13 h14 h15.
      let hs = each _ h14 in
      let e = out_as L good TypeKind.unit t o hs.0 in
      let f = out_as L good TypeKind.number a ks.0 hs.1.0 in
      rw (e, f) (is_op1 t_print aborted)) ts l m
  local_sound TermKind.ite Γ c t vs ts l m w =
      three_of (LocalSound TermKind.ite Γ c t vs)
      (λ a b d o ks h13 h14 h15.
      let hs = each _ h14 in
      let e = out_as L good TypeKind.truth a ks.0 hs.0 in
      let q : b ≡ t = eq_of hs.1.0 in
      let r : d ≡ t = eq_of hs.1.1.0 in
      rw (e, q, r) (is_ite aborted aborted aborted)) ts l m
  local_sound TermKind.pair Γ c t vs ts l m w =
      two_of (LocalSound TermKind.pair Γ c t vs)
      (λ a b o ks h13 h14 h15.
      let hs = each _ h14 in
      let e = out_as L good TypeKind.pair t o hs.0 in
      let q : type_field L t 0 ≡ a = eq_of hs.1.0 in
      let r : type_field L t 1 ≡ b = eq_of hs.1.1.0 in
      rw (e, q, r) (is_op2 t_pair aborted aborted)) ts l m
  local_sound TermKind.split Γ c t vs ts l m w =
      two_of (LocalSound TermKind.split Γ c t vs)
      (λ a b o ks h13 h14 h15.
      let hs = each _ h14 in
      let e = out_as L good TypeKind.pair a ks.0 hs.0 in
      let q : b ≡ t = eq_of hs.1.0 in
      rw (e, q) (is_split aborted aborted)) ts l m
  local_sound TermKind.fun Γ c t vs ts l m w =
      one_of (LocalSound TermKind.fun Γ c t vs)
      (λ a o ks h13 h14 h15.
      let hs = each _ h14 in
      let e = out_as L good TypeKind.fun t o hs.0 in
      let q : type_field L t 2 ≡ a = eq_of hs.1.0 in
      rw (e, q) (is_lam aborted)) ts l m
  local_sound TermKind.app Γ c t vs ts l m w =
      two_of (LocalSound TermKind.app Γ c t vs)
      (λ a b o ks h13 h14 h15.
      let hs = each _ h14 in
      let e = out_as L good TypeKind.fun a ks.0 hs.0 in
      let q : type_field L a 0 ≡ b = eq_of hs.1.0 in
      let r : type_field L a 2 ≡ t = eq_of hs.1.1.0 in
      let p : type_field L a 1 ≡ c = eq_of h15 in
      rw (e, q, r, p) (is_op2 t_app aborted aborted)) ts l m
  local_sound TermKind.arith Γ c t vs ts l m w =
      two_of (LocalSound TermKind.arith Γ c t vs)
      (λ a b o ks h13 h14 h15.
      let hs = each _ h14 in
      let e = out_as L good TypeKind.number a ks.0 hs.1.0 in
      let f = out_as L good TypeKind.number b ks.1.0 hs.1.1.0 in
      rw (e, f) (is_op2 (op_rule c (get_or vs 0 0) t o hs.0) aborted aborted)) ts l m
  local_sound TermKind.new_label Γ c t vs ts l m w =
      λ o ks h13 h14 h15.
      let e = out_as L good TypeKind.label t o (each _ h14).0 in
      rw e (is_op0 (t_new_label h15))
  local_sound TermKind.mark Γ c t vs ts l m w =
      two_of (LocalSound TermKind.mark Γ c t vs)
      (λ a b o ks h13 h14 h15.
      let hs = each _ h14 in
      let e = out_as L good TypeKind.unit t o hs.0 in
      let f = out_as L good TypeKind.label a ks.0 hs.1.0 in
      let q : type_field L a 0 ≡ b = eq_of hs.1.1.0 in
      let p : type_field L a 1 ≡ c = eq_of h15 in
      rw (e, f, q, p) (is_op2 t_mark aborted aborted)) ts l m
  local_sound TermKind.pcd Γ c t vs ts l m w =
      λ o ks h13 h14 h15.
      let hs = each _ h14 in
      let e = out_as L good TypeKind.pcd t o hs.0 in
      rw e (is_pcd (aborteds (outs L ts)) (labels_sound (type_field L t 0) (type_field L t 1) ts ks hs.1.0 hs.1.1.0 h15))
  local_sound TermKind.adv Γ c t vs ts l m w =
      two_of (LocalSound TermKind.adv Γ c t vs)
      (λ a b o ks h13 h14 h15.
      let hs = each _ h14 in
      let e = out_as L good TypeKind.adv t o hs.0 in
      let f = out_as L good TypeKind.pcd a ks.0 hs.1.0 in
      let g = out_as L good TypeKind.unit b ks.1.0 hs.1.1.0 in
      rw (e, f, g) (is_adv aborted h15 aborted)) ts l m
  local_sound TermKind.install Γ c t vs ts l m w =
      one_of (LocalSound TermKind.install Γ c t vs)
      (λ a o ks h13 h14 h15.
      let hs = each _ h14 in
      let e = out_as L good TypeKind.unit t o hs.0 in
      let f = out_as L good TypeKind.adv a ks.0 hs.1.0 in
      rw (e, f) (is_op1 (t_install h15) aborted)) ts l m
  local_sound TermKind.new_cell Γ c t vs ts l m w =
      one_of (LocalSound TermKind.new_cell Γ c t vs)
      (λ a o ks h13 h14 h15.
      let hs = each _ h14 in
      let e = out_as L good TypeKind.ref t o hs.0 in
      let q : type_field L t 0 ≡ a = eq_of hs.1.0 in
      rw (e, q) (is_op1 (t_new_cell h15) aborted)) ts l m
  local_sound TermKind.read Γ c t vs ts l m w =
      one_of (LocalSound TermKind.read Γ c t vs)
      (λ a o ks h13 h14 h15.
      let hs = each _ h14 in
      let e = out_as L good TypeKind.ref a ks.0 hs.0 in
      let q : type_field L a 0 ≡ t = eq_of hs.1.0 in
      rw (e, q) (is_op1 (t_read h15) aborted)) ts l m
  local_sound TermKind.store Γ c t vs ts l m w =
      two_of (LocalSound TermKind.store Γ c t vs)
      (λ a b o ks h13 h14 h15.
      let hs = each _ h14 in
      let e = out_as L good TypeKind.unit t o hs.0 in
      let f = out_as L good TypeKind.ref a ks.0 hs.1.0 in
      let q : type_field L a 0 ≡ b = eq_of hs.1.1.0 in
      rw (e, f, q) (is_op2 (t_store h15) aborted aborted)) ts l m
  local_sound TermKind.lower Γ c t vs ts l m w =
      one_of (LocalSound TermKind.lower Γ c t vs)
      (λ a o ks h13 h14 h15.
      let hs = each _ h14 in
      let e = out_as L good TypeKind.unit t o hs.0 in
      let f = out_as L good TypeKind.unit a ks.0 hs.1.0 in
      rw (e, f) (is_lower h15 aborted)) ts l m
  local_sound TermKind.abort Γ c t vs ts l m w =
      λ o ks h13 h14 h15.
      aborted
  local_sound TermKind.byte Γ c t vs ts l m w =
      one_of (LocalSound TermKind.byte Γ c t vs)
      (λ a o ks h13 h14 h15.
      let hs = each _ h14 in
      let e = out_as L good TypeKind.number t o hs.0 in
      let f = out_as L good TypeKind.number a ks.0 hs.1.0 in
      rw (e, f) (is_op1 t_byte aborted)) ts l m
  local_sound TermKind.obj Γ c t vs ts l m w =
      λ o ks h13 h14 h15.
      let hs = each _ h14 in
      let e = out_as L good TypeKind.obj t o hs.0 in
      let n : length ts ≡ method_count L t = sym (length-map ts (λ a. describe L a)) ∙ eq_of hs.1.0 in
      let f : (i : ℕ) → i < method_count L t → get_or (type_fields L t) (2 * i + 1) 0 ≡ get_or ts i 0 =
      λ i q. let z : 0 + i ≡ i = omega arith in rw z at (body_fits L (describe L t) 0 ts hs.1.1.0 i (omega arith)) in
      rw e (is_obj (bodies_typed (λ a. type_of L a) (policy L) (method_count L t) (type_fields L t) ts (method_fields_lem L good t o hs.0) n f))
  local_sound TermKind.call Γ c t vs ts l m w =
      one_of (LocalSound TermKind.call Γ c t vs)
      (λ a o ks h13 h14 h15.
      let hs = each _ h14 in
      let e = out_as L good TypeKind.obj a ks.0 hs.0 in
      let d = has_method (λ b. type_of L b) (method_count L a) (type_fields L a) (method_fields_lem L good a ks.0 hs.0) (get_or vs 0 0) (lt_of hs.1.0) in
      let q : type_field L a (2 * get_or vs 0 0 + 1) ≡ t = eq_of hs.1.1.0 in
      let p : type_field L a (2 * get_or vs 0 0) ≡ c = eq_of h15 in
      rw e (is_op1 (t_call (rw (q, p) at d)) aborted)) ts l m
  local_sound TermKind.stack Γ c t vs ts l m w =
      λ o ks h13 h14 h15.
      rw (out_as L good TypeKind.stack t o (each _ h14).0) (is_op0 t_stack)
  local_sound TermKind.keep Γ c t vs ts l m w =
      three_of (LocalSound TermKind.keep Γ c t vs)
      (λ a b d o ks h13 h14 h15.
      let hs = each _ h14 in
      let e = out_as L good TypeKind.label a ks.0 hs.0 in
      let q : type_field L a 0 ≡ b = eq_of hs.1.0 in
      let r : d ≡ t = eq_of hs.1.1.0 in
      let p : type_field L a 1 ≡ c = eq_of h15 in
      rw (e, q, r, p) (is_keep aborted aborted aborted)) ts l m
  local_sound TermKind.match Γ c t vs ts l m w =
      three_more (λ ts. Fitting TermKind.match vs (length ts) → LocalSound TermKind.match Γ c t vs ts)
      (λ a b d xs w o ks h13 h14 h15.
      let hs = each _ h14 in
      let e = out_as L good TypeKind.stack a ks.0 hs.0 in
      let q : b ≡ t = eq_of hs.1.0 in
      let r : d ≡ t = eq_of hs.1.1.0 in
      let n = match_pointcuts vs (length (a ∷ b ∷ d ∷ xs)) w in
      let p = pattern_typed L good (pattern_of vs) xs ks.1.1.1 hs.1.1.1.0 (omega arith) in
      rw (e, q, r) (is_matching (is_more aborted (aborteds (outs L xs))) p aborted aborted)) ts l w
  local_sound TermKind.takedown Γ c t vs ts l m w =
      λ o ks h13 h14 h15.
      rw (out_as L good TypeKind.unit t o (each _ h14).0) (is_op0 (t_takedown h15))
