-- Where the children of a term stand: type numbers and types in full say the same, and all numbers stay in range.
use Prim.Native.Nat.{ℕ, ◌≤◌, ◌<◌}
use native.Mathlib.Omega.{arith}
use mathlib.Core.Path.{◌≡◌, refl, sym, ap, subst, ◌∙◌}
use mathlib.Core.Bool.{Bool, true, false}
use mathlib.Core.List.{List, [], ◌∷◌, ◌++◌, map, reverse_aux}
use lib.ListN.{length, get_or}
use Rattle.calculus.specs.Syntax.{Dom, Ty}
use Rattle.image.specs.Kinds.{a_type, free, Body, here, function_body, advice_body, split_body, lower_body, object_body, match_body, TypeKind, TermKind, type_row_of, term_row, body_of}
use Rattle.image.specs.Records.{Layout, fields_at}
use Rattle.image.specs.Program.{pattern_of}
use Rattle.image.specs.Types.{type_place, type_field, is_type, type_out, type_of}
use Rattle.laws.specs.Tests.{all}
use Rattle.laws.proofs.Booleans.{and_l, and_r}
use Rattle.laws.proofs.Tests.{each}
use Rattle.image.proofs.Laid.{Below, LayoutOk}
use Rattle.image.proofs.Bodies.{Owner, body_owner}
use Rattle.image.proofs.Counts.{least_children, most_children}
use Rattle.image.proofs.TypeNumbers.{type_kind_lem, out_as}
use Rattle.verdict.specs.Settings.{binds_rest, context_of}
use Rattle.verdict.specs.Rules.{is}
use Rattle.verdict.specs.Check.{described, rule_by}
use Rattle.verdict.specs.WellTyped.{first_of, second_of}
use Rattle.verdict.proofs.Local.{two_of, three_more, outs}

module _ (L : Layout) (good : LayoutOk L) where
  -- A type's parts are types.
  pub part_there : (k : TypeKind) (i t : ℕ) → t < length L.types → is_type L k t ≡ true → get_or (fields_at L.image (type_place L t) (type_row_of k)) i free ≡ a_type → type_field L t i < length L.types
  part_there k i t n h e =
      let z = (good.types t n).lower i (subst (λ j. get_or (fields_at L.image (type_place L t) (type_row_of j)) i free ≡ a_type) (sym (type_kind_lem L good k t n h)) e) in
      omega arith

  -- The context of a child in type numbers, and in types in full.
  abbrev pub context_no : Body → ℕ → List ℕ → List ℕ → List ℕ → List ℕ
  context_no b t vs ts Γ = context_of (λ a. type_field L a 0) (λ a. type_field L a 1) b t vs ts Γ

  abbrev pub context_ty : Body → ℕ → List ℕ → List ℕ → List ℕ → List Ty
  context_ty b t vs ts Γ = context_of first_of second_of b (type_of L t) vs (outs L ts) (outs L Γ)

  pub record SameContext (b : Body) (Γ : List ℕ) (t : ℕ) (vs ts : List ℕ) : Type 0 where
    pub same : outs L (context_no b t vs ts Γ) ≡ context_ty b t vs ts Γ
    pub inside : Below (length L.types) Γ → Below (length L.types) (context_no b t vs ts Γ)

  -- What is known of a term that passes.
  abbrev SameContexts : Body → TermKind → List ℕ → Dom → ℕ → List ℕ → List ℕ → Type 0
  SameContexts b k Γ c t vs ts = t < length L.types → Below (length L.types) ts → (rule_by L Γ c t vs ts k).typed ≡ true → SameContext b Γ t vs ts

  function_context : (Γ : List ℕ) (c : Dom) (t : ℕ) (vs ts : List ℕ) → SameContexts function_body TermKind.fun Γ c t vs ts
  unfolding type_out
  function_context Γ c t vs ts n ks r =
      let h = (each _ r).0 in
      let e = out_as L good TypeKind.fun t n h in
      record { same = rw e refl; inside = λ g. (part_there TypeKind.fun 0 t n h refl, g) }

  advice_context : (Γ : List ℕ) (c : Dom) (t : ℕ) (vs : List ℕ) (a b : ℕ) → SameContexts advice_body TermKind.adv Γ c t vs (a ∷ b ∷ [])
  unfolding type_out
  advice_context Γ c t vs a b n ks r =
      let h = (each _ r).1.0 in
      let e = out_as L good TypeKind.pcd a ks.0 h in
      record { same = rw e refl; inside = λ g. (part_there TypeKind.pcd 0 a ks.0 h refl, g) }

  split_context : (Γ : List ℕ) (c : Dom) (t : ℕ) (vs : List ℕ) (a b : ℕ) → SameContexts split_body TermKind.split Γ c t vs (a ∷ b ∷ [])
  unfolding type_out
  split_context Γ c t vs a b n ks r =
      let h = (each _ r).0 in
      let e = out_as L good TypeKind.pair a ks.0 h in
      record { same = rw e refl; inside = λ g. (part_there TypeKind.pair 1 a ks.0 h refl, (part_there TypeKind.pair 0 a ks.0 h refl, g)) }

  outs_reverse : (xs Γ : List ℕ) → outs L (reverse_aux xs Γ) ≡ reverse_aux (outs L xs) (outs L Γ)
  outs_reverse [] Γ = refl
  outs_reverse (x ∷ xs) Γ = outs_reverse xs (x ∷ Γ)

  below_reverse : (m : ℕ) (xs Γ : List ℕ) → Below m xs → Below m Γ → Below m (reverse_aux xs Γ)
  below_reverse m [] Γ h g = g
  below_reverse m (x ∷ xs) Γ h g = below_reverse m xs (x ∷ Γ) h.1 (h.0, g)

  -- Card 6: what a match binds of its pointcuts, and behind them one type more.
  cuts_out : (xs rest : List ℕ) → Below (length L.types) xs → all (map (λ a. is TypeKind.pcd a) (described L xs)) ≡ true
      → (outs L (map (λ a. type_field L a 0) xs ++ rest) ≡ map first_of (outs L xs) ++ outs L rest) × (Below (length L.types) rest → Below (length L.types) (map (λ a. type_field L a 0) xs ++ rest))
  unfolding type_out all
  cuts_out [] rest ks h = (refl, λ g. g)
  cuts_out (x ∷ xs) rest ks h =
      let p = and_l (is_type L TypeKind.pcd x) (all (map (λ a. is TypeKind.pcd a) (described L xs))) h in
      let e = out_as L good TypeKind.pcd x ks.0 p in
      let r = cuts_out xs rest ks.1 (and_r (is_type L TypeKind.pcd x) (all (map (λ a. is TypeKind.pcd a) (described L xs))) h) in
      (rw e (ap (λ ts. type_of L (type_field L x 0) ∷ ts) r.0), λ g. (part_there TypeKind.pcd 0 x ks.0 p refl, r.1 g))

  match_context : (Γ : List ℕ) (c : Dom) (t : ℕ) (vs : List ℕ) (a b d : ℕ) (xs : List ℕ) → SameContexts match_body TermKind.match Γ c t vs (a ∷ b ∷ d ∷ xs)
  match_context Γ c t vs a b d xs n ks r = pick (binds_rest (pattern_of vs)) refl
    where
      cuts : all (map (λ a. is TypeKind.pcd a) (described L xs)) ≡ true
      cuts = (each _ r).1.1.1.0

      with_rest : (rest : List ℕ) → Below (length L.types) rest → (outs L (reverse_aux (map (λ a. type_field L a 0) xs ++ rest) Γ) ≡ reverse_aux (map first_of (outs L xs) ++ outs L rest) (outs L Γ)) × (Below (length L.types) Γ → Below (length L.types) (reverse_aux (map (λ a. type_field L a 0) xs ++ rest) Γ))
      with_rest rest l =
          let e = cuts_out xs rest ks.1.1.1 cuts in
          (outs_reverse (map (λ a. type_field L a 0) xs ++ rest) Γ ∙ ap (λ x. reverse_aux x (outs L Γ)) e.0, λ g. below_reverse (length L.types) (map (λ a. type_field L a 0) xs ++ rest) Γ (e.1 l) g)

      pick : (x : Bool) → binds_rest (pattern_of vs) ≡ x → SameContext match_body Γ t vs (a ∷ b ∷ d ∷ xs)
      pick true q = let e = with_rest (a ∷ []) (ks.0, tt) in record { same = rw q e.0; inside = λ g. rw q (e.1 g) }
      pick false q = let e = with_rest [] tt in record { same = rw q e.0; inside = λ g. rw q (e.1 g) }

  body_context : (b : Body) (k : TermKind) (Γ : List ℕ) (c : Dom) (t : ℕ) (vs ts : List ℕ) → Owner k b → least_children (term_row k) ≤ length ts → length ts ≤ most_children (term_row k) → SameContexts b k Γ c t vs ts
  body_context here k Γ c t vs ts w l m = λ n ks h. record { same = refl; inside = λ g. g }
  body_context function_body k Γ c t vs ts w l m = subst (λ j. SameContexts function_body j Γ c t vs ts) (sym w) (function_context Γ c t vs ts)
  body_context advice_body k Γ c t vs ts w l m =
      subst (λ j. SameContexts advice_body j Γ c t vs ts) (sym w) (two_of (SameContexts advice_body TermKind.adv Γ c t vs) (advice_context Γ c t vs) ts (rw w at l) (rw w at m))
  body_context split_body k Γ c t vs ts w l m =
      subst (λ j. SameContexts split_body j Γ c t vs ts) (sym w) (two_of (SameContexts split_body TermKind.split Γ c t vs) (split_context Γ c t vs) ts (rw w at l) (rw w at m))
  body_context lower_body k Γ c t vs ts w l m = λ n ks h. record { same = refl; inside = λ g. g }
  body_context object_body k Γ c t vs ts w l m = λ n ks h. record { same = refl; inside = λ g. (n, g) }
  body_context match_body k Γ c t vs ts w l m =
      subst (λ j. SameContexts match_body j Γ c t vs ts) (sym w) (three_more (SameContexts match_body TermKind.match Γ c t vs) (match_context Γ c t vs) ts (rw w at l))

  pub contexts : (k : TermKind) (Γ : List ℕ) (c : Dom) (t : ℕ) (vs ts : List ℕ) → least_children (term_row k) ≤ length ts → length ts ≤ most_children (term_row k) → t < length L.types → Below (length L.types) ts
      → (rule_by L Γ c t vs ts k).typed ≡ true → (i : ℕ) → SameContext (body_of k i) Γ t vs ts
  contexts k Γ c t vs ts l m n ks h i = body_context (body_of k i) k Γ c t vs ts (body_owner k i) l m n ks h
