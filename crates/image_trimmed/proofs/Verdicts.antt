-- Layouts that are alike get the same answers to 9 to 16, but for places.
use Rattle.std.specs.Prelude.{Ok, Err}
use Prim.Native.Nat.{ℕ, zero, suc, ◌+◌, ◌-◌, ◌≤◌, ◌<◌}
use native.Mathlib.Omega.{arith}
use mathlib.Core.Path.{◌≡◌, refl, sym, ap, ◌∙◌}
use mathlib.Core.Bool.{Bool, true, false, not, ◌&&◌, ◌||◌}
use mathlib.Core.List.{List, [], ◌∷◌, ◌++◌, map, reverse_aux}
use mathlib.Core.Option.{Option, none, some}
use lib.ListN.{length, get_or, drop, set, replicate}
use lib.Dec.{eqb, leb}
use Rattle.calculus.specs.Combinators.{choose}
use Rattle.calculus.specs.Syntax.{Dom}
use Rattle.calculus.specs.Plain.{is_plain}
use Rattle.image.specs.declared.Refusal.{Refusal}
use Rattle.image.specs.Limits.{domain_limit, depth_limit}
use Rattle.laws.specs.Tests.{any_below, first_fault}
use Rattle.image.specs.Bytes.{field_at}
use Rattle.image.specs.Kinds.{Body, here, function_body, advice_body, split_body, lower_body, object_body, match_body, domain, domain_row, row_of, find, kind_of, body_of}
use Rattle.image.specs.Records.{Layout, or_else, kind_at, numbers_at}
use Rattle.image.specs.Types.{domain_place, term_place, type_number, type_fields, type_field, method_count, type_of, term_kind, type_no, others, children, root_of, root_type}
use Rattle.image.specs.Program.{pattern_of}
use Rattle.image.proofs.Offsets.{number_at_lem}
use Rattle.image.proofs.Laid.{Below, LayoutOk}
use Rattle.verdict.specs.Answers.{require, require_from, in_turn, Verdict, refused_at}
use Rattle.verdict.specs.Domains.{bits, order, leq}
use Rattle.verdict.specs.Order.{at_fault}
use Rattle.verdict.specs.Shape.{set_all, none_empty, uses, used_once, depths_from, depths, shape}
use Rattle.verdict.specs.Settings.{Setting, binds_rest, context_of}
use Rattle.verdict.specs.Rules.{rule_faults, rule}
use Rattle.verdict.specs.Check.{describe, described, type_nos, rule_by, rule_at, setting_at, check_all, check, root_setting, typing}
use Rattle.verdict.proofs.Sound.{term_facts, TermFacts}
use Rattle.image.specs.LaidOut.{Stands}
use Rattle.image_trimmed.specs.Places.{map_place}
use Rattle.image_trimmed.proofs.Paired.{same_numbers_lem, Paired, no_pair, pair_on, pair_count, pair_nil, pair_at, SameLayout}
use Rattle.image_trimmed.proofs.Programs.{number_same, fields_same, methods_same, types_same, place_same, term_kind_same, others_same, children_same, type_no_same, stated_same, terms_count}

module _ (place : ℕ → ℕ) where
  -- Checks in turn, the places of the second moved.
  pub turn : (v w : Unit {0} → Verdict) (vs ws : List (Unit {0} → Verdict)) → w tt ≡ map_place place (v tt) → (v tt ≡ Ok tt → in_turn ws ≡ map_place place (in_turn vs))
      → in_turn (w ∷ ws) ≡ map_place place (in_turn (v ∷ vs))
  unfolding in_turn
  turn v w vs ws e h = go (v tt) refl
    where
      go : (x : Verdict) → v tt ≡ x → in_turn (w ∷ ws) ≡ map_place place (in_turn (v ∷ vs))
      go (Ok tt) q = let z : w tt ≡ Ok tt = e ∙ ap (map_place place) q in rw (z, q, in_turn) (h q)
      go (Err refusal) q = let z : w tt ≡ refused_at refusal.why (place refusal.place) = e ∙ ap (map_place place) q in rw (z, q, in_turn) refl

  pub no_more : in_turn [] ≡ map_place place (in_turn [])
  unfolding in_turn
  no_more = refl

  pub require_moved : (t : Bool) (r : Refusal) (o p : ℕ) → p ≡ place o → require t r p ≡ map_place place (require t r o)
  require_moved true r o p e = refl
  require_moved false r o p e = ap (refused_at r) e

  from_moved : (n i : ℕ) (r : Refusal) (f g : ℕ → ℕ) (s t : ℕ → Bool) → ((j : ℕ) → i ≤ j → j < i + n → (t j ≡ s j) × (g j ≡ place (f j)))
      → require_from n i r g t ≡ map_place place (require_from n i r f s)
  unfolding require_from
  from_moved zero i r f g s t h = refl
  from_moved (suc n) i r f g s t h = go (from_moved n (suc i) r f g s t (λ j l m. h j (omega arith) (omega arith))) (s i) refl
    where
      both : (t i ≡ s i) × (g i ≡ place (f i))
      both = h i (omega arith) (omega arith)

      go : require_from n (suc i) r g t ≡ map_place place (require_from n (suc i) r f s) → (x : Bool) → s i ≡ x → require_from (suc n) i r g t ≡ map_place place (require_from (suc n) i r f s)
      go rest true q = let z : t i ≡ true = both.0 ∙ q in rw (z, q, require_from) rest
      go rest false q = let z : t i ≡ false = both.0 ∙ q in rw (z, q, require_from) (ap (refused_at r) both.1)

-- 10, of an order and so many domains.
abbrev faulty : List (List Bool) → ℕ → Dom → Bool
faulty os n d =
    not (get_or (get_or os d []) d false)
    || any_below domain_limit (λ e. get_or (get_or os d []) e false && (leb n e || ((not (eqb e d) && get_or (get_or os e []) d false) || any_below domain_limit (λ f. get_or (get_or os e []) f false && not (get_or (get_or os d []) f false)))))

fault_is : (K : Layout) (d : Dom) → at_fault K d ≡ faulty (order K) (length K.domains) d
unfolding at_fault leq
fault_is K d = refl

module _ {b c : List ℕ} {place : ℕ → ℕ} {L M : Layout} (A : SameLayout b c place L M) (G : LayoutOk L) where
  domains_count : length M.domains ≡ length L.domains
  domains_count = sym (pair_count b c place A.domains)

  -- The order of the domains.
  masks_of : {xs ys : List ℕ} → Paired b c place xs ys → ((d : ℕ) → d < length xs → Stands L.image domain_row (get_or xs d 0))
      → map (λ o. field_at M.image o 0) ys ≡ map (λ o. field_at L.image o 0) xs
  unfolding find
  masks_of no_pair h = refl
  masks_of (pair_on o xs ys s q) h =
      let k : kind_at b o ≡ domain = ap (λ d. kind_at d o) (sym A.image) ∙ ap (λ n. or_else (kind_of n) domain) (h 0 (omega arith)).number in
      let first : (d : List ℕ) (p : ℕ) → get_or (numbers_at d p domain_row) 0 0 ≡ field_at d p 0 = λ d p. number_at_lem d p domain_row 0 (omega arith) in
      let x : field_at M.image (place o) 0 ≡ field_at L.image o 0 =
      ap (λ d. field_at d (place o) 0) A.image'
      ∙ (sym (first c (place o)) ∙ (ap (λ vs. get_or vs 0 0) (same_numbers_lem s (ap row_of k)) ∙ (first b o ∙ ap (λ d. field_at d o 0) (sym A.image)))) in
      let y = masks_of q (λ d m. h (suc d) (omega arith)) in
      cc

  order_same : order M ≡ order L
  unfolding order
  order_same = ap (λ ms. map (λ m. bits domain_limit m) ms) (masks_of A.domains G.domains)

  leq_same : leq M ≡ leq L
  unfolding leq
  leq_same = ap (λ os d q. get_or (get_or os d []) q false) order_same

  fault_same : (d : Dom) → at_fault M d ≡ at_fault L d
  fault_same d = fault_is M d ∙ (ap (λ o. faulty o (length M.domains) d) order_same ∙ (ap (λ n. faulty (order L) n d) domains_count ∙ sym (fault_is L d)))

  -- 9 to 12.
  none_empty_same : none_empty M ≡ none_empty L
  none_empty_same = let x = pair_nil b c place A.domains in let y = pair_nil b c place A.types in let z = pair_nil b c place A.terms in cc

  uses_same : (m n : ℕ) → m ≤ length L.terms → uses M m n ≡ uses L m n
  unfolding uses
  uses_same zero n h = refl
  uses_same (suc m) n h = let x = uses_same m n (omega arith) in let y = children_same A G m (omega arith) in cc

  once_same : (n : ℕ) → used_once M n ≡ used_once L n
  once_same n = ap (λ u. eqb u 1) (ap (λ m. uses M m n) (terms_count A G) ∙ uses_same (length L.terms) n (omega arith))

  depths_from_same : (n : ℕ) (ds : List ℕ) → n ≤ length L.terms → depths_from M n ds ≡ depths_from L n ds
  unfolding depths_from
  depths_from_same zero ds h = refl
  depths_from_same (suc n) ds h =
      depths_from_same n (set_all (children M n) (suc (get_or ds n 0)) ds) (omega arith) ∙ ap (λ es. depths_from L n (set_all es (suc (get_or ds n 0)) ds)) (children_same A G n (omega arith))

  depths_same : depths M ≡ depths L
  unfolding depths
  depths_same =
      ap (λ m. depths_from M m (set (replicate m 0) (m - 1) 1)) (terms_count A G) ∙ depths_from_same (length L.terms) (set (replicate (length L.terms) 0) (root_of L) 1) (omega arith)

  pub shape_same : (size size' : ℕ) → size' ≡ place size → shape M size' ≡ map_place place (shape L size)
  unfolding shape
  shape_same size size' e =
      turn place _ _ _ _ (ap (λ t. require t Refusal.EmptySection size') none_empty_same ∙ require_moved place (none_empty L) Refusal.EmptySection size size' e) (λ h9.
      turn place _ _ _ _
      (ap (λ n. require_from n 0 Refusal.DomainOrder (λ d. domain_place M d) (λ d. not (at_fault M d))) domains_count
      ∙ from_moved place (length L.domains) 0 Refusal.DomainOrder _ _ _ _ (λ d l m. (ap not (fault_same d), (pair_at b c place A.domains d (omega arith)).at))) (λ h10.
      turn place _ _ _ _
      (ap (λ n. require_from (n - 1) 0 Refusal.UseCount (λ n. term_place M n) (λ n. used_once M n)) (terms_count A G)
      ∙ from_moved place (root_of L) 0 Refusal.UseCount _ _ _ _ (λ n l m. (once_same n, place_same A G n (omega arith)))) (λ h11.
      turn place _ _ _ _
      (ap (λ n. require_from n 0 Refusal.TooDeep (λ n. term_place M n) (λ n. leb (get_or (depths M) n 0) depth_limit)) (terms_count A G)
      ∙ from_moved place (length L.terms) 0 Refusal.TooDeep _ _ _ _ (λ n l m. (ap (λ ds. leb (get_or ds n 0) depth_limit) depths_same, place_same A G n (omega arith)))) (λ h12.
      no_more place))))

  -- 13 to 16: types as the rules see them.
  describe_same : (a : ℕ) → a < length L.types → describe M a ≡ describe L a
  describe_same a h =
      ap (λ q. record { number = a; kind = q; part = λ i. get_or (type_fields M a) i 0; methods = method_count M a }) (number_same A G a h)
      ∙ (ap (λ vs. record { number = a; kind = type_number L a; part = λ i. get_or vs i 0; methods = method_count M a }) (fields_same A G a h)
      ∙ ap (λ c. record { number = a; kind = type_number L a; part = λ i. get_or (type_fields L a) i 0; methods = c }) (methods_same A G a h))

  described_same : (ts : List ℕ) → Below (length L.types) ts → described M ts ≡ described L ts
  described_same [] h = refl
  described_same (t ∷ ts) h = let x = describe_same t h.0 in let y = described_same ts h.1 in cc

  type_nos_same : (es : List ℕ) → Below (length L.terms) es → type_nos M es ≡ type_nos L es
  type_nos_same [] d = refl
  type_nos_same (e ∷ es) d = let x = type_no_same A G e d.0 in let y = type_nos_same es d.1 in cc

  part_same : (i a : ℕ) → a < length L.types → type_field M a i ≡ type_field L a i
  part_same i a h = ap (λ vs. get_or vs i 0) (fields_same A G a h)

  -- The variables of a child.
  first_below : (ts : List ℕ) (t : ℕ) → t < length L.types → Below (length L.types) ts → get_or ts 0 t < length L.types
  first_below [] t h d = h
  first_below (u ∷ us) t h d = d.0

  -- Card 6: those of the pointcuts behind the first three.
  firsts_same : (ts : List ℕ) → Below (length L.types) ts → map (λ a. type_field M a 0) ts ≡ map (λ a. type_field L a 0) ts
  firsts_same [] d = refl
  firsts_same (t ∷ ts) d = let x = part_same 0 t d.0 in let y = firsts_same ts d.1 in cc

  below_drop : (n : ℕ) (ts : List ℕ) → Below (length L.types) ts → Below (length L.types) (drop n ts)
  below_drop zero ts d = d
  below_drop (suc n) [] d = tt
  below_drop (suc n) (t ∷ ts) d = below_drop n ts d.1

  context_same : (x : Body) (t : ℕ) (vs ts Γ : List ℕ) → t < length L.types → Below (length L.types) ts
      → context_of (λ a. type_field M a 0) (λ a. type_field M a 1) x t vs ts Γ ≡ context_of (λ a. type_field L a 0) (λ a. type_field L a 1) x t vs ts Γ
  context_same here t vs ts Γ h d = refl
  context_same function_body t vs ts Γ h d = ap (λ a. a ∷ Γ) (part_same 0 t h)
  context_same advice_body t vs ts Γ h d = ap (λ a. a ∷ Γ) (part_same 0 (get_or ts 0 t) (first_below ts t h d))
  context_same split_body t vs ts Γ h d =
      let l = first_below ts t h d in
      ap (λ a. a ∷ type_field M (get_or ts 0 t) 0 ∷ Γ) (part_same 1 (get_or ts 0 t) l) ∙ ap (λ a. type_field L (get_or ts 0 t) 1 ∷ a ∷ Γ) (part_same 0 (get_or ts 0 t) l)
  context_same lower_body t vs ts Γ h d = refl
  context_same object_body t vs ts Γ h d = refl
  context_same match_body t vs ts Γ h d =
      ap (λ xs. reverse_aux (xs ++ choose (binds_rest (pattern_of vs)) (get_or ts 0 t ∷ []) []) Γ) (firsts_same (drop 3 ts) (below_drop 3 ts d))

  module _ (p : Setting ℕ) (n : ℕ) (h : n < length L.terms) where
    facts : TermFacts L G n
    facts = term_facts L G n h

    child_types : type_nos M (children M n) ≡ type_nos L (children L n)
    child_types = ap (λ es. type_nos M es) (children_same A G n h) ∙ type_nos_same (children L n) facts.below

    rule_same : rule_at M p n ≡ rule_at L p n
    rule_same =
        let x = type_no_same A G n h in
        let y = others_same A G n h in
        let z = child_types in
        let k = term_kind_same A G n h in
        let q = leq_same in
        let u = describe_same (type_no L n) facts.own in
        let v = described_same (type_nos L (children L n)) facts.types in
        let w : rule_at M p n ≡ rule_by M p.context p.dom (type_no L n) (others L n) (type_nos L (children L n)) (term_kind L n) = cc in
        w
        ∙ (ap (λ f. rule f p.context p.dom (describe M (type_no L n)) (others L n) (described M (type_nos L (children L n))) (term_kind L n)) q
        ∙ (ap (λ d. rule (leq L) p.context p.dom d (others L n) (described M (type_nos L (children L n))) (term_kind L n)) u
        ∙ ap (λ ds. rule (leq L) p.context p.dom (describe L (type_no L n)) (others L n) ds (term_kind L n)) v))

    setting_same : (i : ℕ) → setting_at M p n i ≡ setting_at L p n i
    setting_same i =
        let x = type_no_same A G n h in
        let y = others_same A G n h in
        let z = child_types in
        let k = term_kind_same A G n h in
        let t = types_same A G (type_no L n) facts.own in
        let u : (setting_at M p n i).context ≡ context_of (λ a. type_field M a 0) (λ a. type_field M a 1) (body_of (term_kind L n) i) (type_no L n) (others L n) (type_nos L (children L n)) p.context = cc in
        let v = context_same (body_of (term_kind L n) i) (type_no L n) (others L n) (type_nos L (children L n)) p.context facts.own facts.types in
        let w : (setting_at M p n i).dom ≡ (setting_at L p n i).dom = cc in
        ap (λ Γ. record { context = Γ; dom = (setting_at M p n i).dom }) (u ∙ v) ∙ ap (λ d. record { context = (setting_at L p n i).context; dom = d }) w

  all_moved : (u v : ℕ → ℕ → Verdict) (m : ℕ) → ((i e : ℕ) → e < m → v i e ≡ map_place place (u i e)) → (i : ℕ) (es : List ℕ) → Below m es → check_all M v i es ≡ map_place place (check_all L u i es)
  unfolding check_all
  all_moved u v m h i [] d = refl
  all_moved u v m h i (e ∷ es) d = go (all_moved u v m h (suc i) es d.1) (u i e) refl
    where
      go : check_all M v (suc i) es ≡ map_place place (check_all L u (suc i) es) → (x : Verdict) → u i e ≡ x → check_all M v i (e ∷ es) ≡ map_place place (check_all L u i (e ∷ es))
      go r (Ok tt) q = let z : v i e ≡ Ok tt = h i e d.0 ∙ ap (map_place place) q in rw (z, q, check_all) r
      go r (Err refusal) q = let z : v i e ≡ refused_at refusal.why (place refusal.place) = h i e d.0 ∙ ap (map_place place) q in rw (z, q, check_all) refl

  check_same : (f : ℕ) (p : Setting ℕ) (n : ℕ) → n < length L.terms → check M f p n ≡ map_place place (check L f p n)
  unfolding check
  check_same zero p n h = ap (refused_at Refusal.FieldRange) (place_same A G n h)
  check_same (suc f) p n h = go (λ q e l. check_same f q e l) (first_fault (rule_faults (rule_at L p n))) refl
    where
      go : ((q : Setting ℕ) (e : ℕ) → e < length L.terms → check M f q e ≡ map_place place (check L f q e)) → (x : Option Refusal) → first_fault (rule_faults (rule_at L p n)) ≡ x
          → check M (suc f) p n ≡ map_place place (check L (suc f) p n)
      go ih (some r) e = let z = ap (λ q. first_fault (rule_faults q)) (rule_same p n h) ∙ e in rw (e, z, check) (ap (refused_at r) (place_same A G n h))
      go ih none e =
          let z = ap (λ q. first_fault (rule_faults q)) (rule_same p n h) ∙ e in
          let x : check_all M (λ i e. check M f (setting_at M p n i) e) 0 (children M n) ≡ map_place place (check_all L (λ i e. check L f (setting_at L p n i) e) 0 (children L n)) =
          ap (λ es. check_all M (λ i e. check M f (setting_at M p n i) e) 0 es) (children_same A G n h)
          ∙ all_moved (λ i e. check L f (setting_at L p n i) e) (λ i e. check M f (setting_at M p n i) e) n
          (λ i e l. ap (λ q. check M f q e) (setting_same p n h i) ∙ ih (setting_at L p n i) e (omega arith)) 0 (children L n) (G.terms n h).below in
          rw (e, z, check) x

  pub typing_same : 0 < length L.terms → typing M ≡ map_place place (typing L)
  unfolding typing
  typing_same h =
      let r : root_of M ≡ root_of L = ap (λ m. m - 1) (terms_count A G) in
      let t : root_type M ≡ root_type L = ap (λ n. type_of M (type_no M n)) r ∙ stated_same A G (root_of L) (omega arith) in
      turn place _ _ _ _ (ap (λ m. check M m (root_setting M) (m - 1)) (terms_count A G) ∙ check_same (length L.terms) (root_setting L) (root_of L) (omega arith)) (λ _.
      turn place _ _ _ _
      (ap (λ x. require (is_plain x) Refusal.RootNotPlain (term_place M (root_of M))) t
      ∙ require_moved place (is_plain (root_type L)) Refusal.RootNotPlain (term_place L (root_of L)) (term_place M (root_of M)) (ap (λ n. term_place M n) r ∙ place_same A G (root_of L) (omega arith))) (λ _.
      no_more place))
