-- The pass over the terms, child by child, with no fuel.
use Rattle.std.specs.Prelude.{Ok, Err, is_err}
use Prim.Native.Nat.{ℕ, suc, ◌+◌, ◌≤◌, ◌<◌}
use native.Mathlib.Omega.{arith}
use native.Mathlib.Numerals.{add-one}
use mathlib.Core.Path.{◌≡◌, refl, sym, ap, ◌∙◌}
use mathlib.Core.Bool.{Bool, true, false}
use mathlib.Core.List.{List, [], ◌∷◌, ◌++◌}
use mathlib.Core.Option.{Option, none, some}
use lib.ListN.{length, get_or, take, drop, take-append-drop}
use lib.Seq.{take_all, take-suc, take-take, length-take-le}
use Rattle.image.specs.declared.Refusal.{Refusal}
use Rattle.laws.specs.Tests.{first_fault}
use Rattle.image.specs.Bytes.{number_at}
use Rattle.image.specs.Kinds.{TermKind}
use Rattle.image.specs.Records.{Layout}
use Rattle.image.specs.Layout.{records_of}
use Rattle.image.specs.Types.{term_place, term_kind, children}
use Rattle.laws.proofs.Booleans.{no_path}
use Rattle.verdict.specs.Answers.{Verdict, refused_at}
use Rattle.verdict.specs.Settings.{Setting}
use Rattle.verdict.specs.Rules.{Rule, rule_faults}
use Rattle.verdict.specs.Check.{rule_at, check_all, checked}
use Rattle.verdict.proofs.Answered.{accepted_is}
use Rattle.verdict.proofs.Fuel.{checked_refused, checked_children}
use Rattle.read_terms.specs.Lent.{Terms, IsTerm}
use Rattle.check_rules.specs.Scopes.{setting_in}
use Rattle.check_rules.specs.Judged.{judged, rule_verdict}
use Rattle.read_terms.specs.Fields.{fields_of, children_in}
use Rattle.check_rules.specs.Rules.{setting_from}
use Rattle.read_terms.proofs.Elimination.{leaf_childless}
use Rattle.check_rules.proofs.Small.{unbound, mistyped}
use Rattle.read_terms.proofs.Located.{good_of, number_is, children_in_lem}
use Rattle.check_rules.proofs.Verdict.{setting_in_lem}
use Rattle.check_rules.proofs.Scopes.{context_kept}

-- The verdict on the first j children of a term of kind k, with the fields fs, which stands at p, and on the terms below them: "parent before children, left first".
unfoldable pub front : List ℕ → List ℕ → TermKind → Setting ℕ → ℕ → Verdict
front b fs k p j = check_all (records_of b) (λ i e. checked (records_of b) (setting_from b fs k p i) e) 0 (take j (children_in fs k))

-- Children in a row: a refusal among the first of them stands; where they pass, one more has the word.
module _ (L : Layout) (f : ℕ → ℕ → Verdict) where
  all_stops : (i : ℕ) (xs ys : List ℕ) → is_err (check_all L f i xs) ≡ true → check_all L f i (xs ++ ys) ≡ check_all L f i xs
  unfolding check_all
  all_stops i [] ys h = no_path (sym h)
  all_stops i (x ∷ xs) ys h = go (f i x) refl (λ g. all_stops (suc i) xs ys g)
    where
      go : (v : Verdict) → f i x ≡ v
          → (is_err (check_all L f (suc i) xs) ≡ true → check_all L f (suc i) (xs ++ ys) ≡ check_all L f (suc i) xs)
          → check_all L f i (x ∷ (xs ++ ys)) ≡ check_all L f i (x ∷ xs)
      go (Ok tt) q more = let g = rw (q, check_all) at h in rw (q, check_all) (more g)
      go (Err refusal) q more = rw (q, check_all) refl

  all_next : (i : ℕ) (xs : List ℕ) (e : ℕ) → check_all L f i xs ≡ Ok tt → check_all L f i (xs ++ (e ∷ [])) ≡ f (i + length xs) e
  unfolding check_all
  all_next i [] e h = let z : i ≡ i + 0 = omega arith in go (f i e) refl ∙ ap (λ j. f j e) z
    where
      go : (v : Verdict) → f i e ≡ v → check_all L f i (e ∷ []) ≡ f i e
      go (Ok tt) q = rw (q, check_all) refl
      go (Err refusal) q = rw (q, check_all) refl
  all_next i (x ∷ xs) e h = go (f i x) refl (λ g. all_next (suc i) xs e g)
    where
      go : (v : Verdict) → f i x ≡ v
          → (check_all L f (suc i) xs ≡ Ok tt → check_all L f (suc i) (xs ++ (e ∷ [])) ≡ f (suc i + length xs) e)
          → check_all L f i (x ∷ (xs ++ (e ∷ []))) ≡ f (i + suc (length xs)) e
      go (Ok tt) q more =
          let g = rw (q, check_all) at h in
          let s : suc i + length xs ≡ i + suc (length xs) = omega arith in
          rw (q, check_all) (more g ∙ ap (λ j. f j e) s)
      go (Err refusal) q more = let g = rw (q, check_all) at h in no_path cc

-- Two ways to check a child that agree.
all_alike : (L : Layout) (f g : ℕ → ℕ → Verdict) → ((i e : ℕ) → f i e ≡ g i e) → (i : ℕ) (es : List ℕ) → check_all L f i es ≡ check_all L g i es
unfolding check_all
all_alike L f g h i [] = refl
all_alike L f g h i (e ∷ es) = go (g i e) refl (all_alike L f g h (suc i) es)
  where
    go : (v : Verdict) → g i e ≡ v → check_all L f (suc i) es ≡ check_all L g (suc i) es → check_all L f i (e ∷ es) ≡ check_all L g i (e ∷ es)
    go (Ok tt) q more = let z : f i e ≡ Ok tt = h i e ∙ q in rw (z, q, check_all) more
    go (Err refusal) q more = let z : f i e ≡ Err refusal = h i e ∙ q in rw (z, q, check_all) refl

module _ (b fs : List ℕ) (k : TermKind) (p : Setting ℕ) where
  abbrev at : ℕ → ℕ → Verdict
  at i e = checked (records_of b) (setting_from b fs k p i) e

  pub front_start : (Ok tt) ≡ front b fs k p 0
  unfolding front check_all
  front_start = refl

  pub front_next : (i : ℕ) → i < length (children_in fs k) → front b fs k p i ≡ Ok tt → front b fs k p (i + 1) ≡ checked (records_of b) (setting_from b fs k p i) (get_or (children_in fs k) i 0)
  unfolding front
  front_next i h e =
      let es : List ℕ = children_in fs k in
      let one : take (i + 1) es ≡ take i es ++ (get_or es i 0 ∷ []) = rw (add-one i) (take-suc es i 0 (omega arith)) in
      let l : 0 + length (take i es) ≡ i = omega (arith, length-take-le i es (omega arith)) in
      ap (check_all (records_of b) at 0) one ∙ all_next (records_of b) at 0 (take i es) (get_or es i 0) e ∙ ap (λ j. at j (get_or es i 0)) l

  pub front_stops : (v : Verdict) (i j : ℕ) → i ≤ j → v ≡ front b fs k p i → is_err v ≡ true → v ≡ front b fs k p j
  unfolding front
  front_stops v i j h e r =
      let L : Layout = records_of b in
      let xs = take j (children_in fs k) in
      let e' : v ≡ check_all L at 0 (take i xs) = e ∙ ap (check_all L at 0) (sym (take-take i j (children_in fs k) h)) in
      e' ∙ sym (all_stops L at 0 (take i xs) (drop i xs) (ap is_err (sym e') ∙ r)) ∙ ap (check_all L at 0) (take-append-drop i xs)

-- A term that does not pass its rule is refused; one that passes it is checked when its children are.
module _ {b terms : List ℕ} (T : Terms b terms) {n : ℕ} (h : IsTerm b n) (p : Setting ℕ) where
  pub refused_here : (v : Verdict) → v ≡ rule_verdict (records_of b) p n → is_err v ≡ true → v ≡ checked (records_of b) p n
  unfolding rule_verdict judged
  refused_here v w f = go (first_fault (rule_faults (rule_at (records_of b) p n))) refl
    where
      r : is_err (rule_verdict (records_of b) p n) ≡ true
      r = ap is_err (sym w) ∙ f

      go : (x : Option Refusal) → first_fault (rule_faults (rule_at (records_of b) p n)) ≡ x → v ≡ checked (records_of b) p n
      go none q = let z : false ≡ true = rw (q, judged, rule_verdict) at r in no_path (sym z)
      go (some u) q = w ∙ rw (q, judged, rule_verdict) (sym (checked_refused (records_of b) (good_of b T.laid_out) p n u q))

  pub front_whole : rule_verdict (records_of b) p n ≡ Ok tt → {k : TermKind} → term_kind (records_of b) n ≡ k → (j : ℕ) → length (children_in (fields_of b n) k) ≤ j → front b (fields_of b n) k p j ≡ checked (records_of b) p n
  unfolding rule_verdict judged front
  front_whole a {k} e j l = go (first_fault (rule_faults (rule_at (records_of b) p n))) refl
    where
      L : Layout
      L = records_of b

      go : (x : Option Refusal) → first_fault (rule_faults (rule_at L p n)) ≡ x → front b (fields_of b n) k p j ≡ checked L p n
      go none q =
          ap (check_all L (λ i e. checked L (setting_from b (fields_of b n) k p i) e) 0) (take_all j (children_in (fields_of b n) k) l ∙ children_in_lem T h e)
          ∙ all_alike L _ _ (λ i m. ap (λ s. checked L s m) (setting_in_lem T h e p i)) 0 (children L n)
          ∙ sym (checked_children L (good_of b T.laid_out) p n h q)
      go (some r) q = let z : refused_at r (term_place L n) ≡ Ok tt = rw (q, judged, rule_verdict) at a in no_path cc

  -- A constant or a variable, which has no children, is checked once its rule is.
  pub leaf_checked : number_at b (term_place (records_of b) n) ≤ 35 → rule_verdict (records_of b) p n ≡ checked (records_of b) p n
  leaf_checked l = go (is_err (rule_verdict (records_of b) p n)) refl
    where
      k : TermKind
      k = term_kind (records_of b) n

      none : length (children_in (fields_of b n) k) ≡ 0
      none = let e = number_is T h in leaf_childless (fields_of b n) k (omega arith)

      go : (x : Bool) → is_err (rule_verdict (records_of b) p n) ≡ x → rule_verdict (records_of b) p n ≡ checked (records_of b) p n
      go true e = refused_here (rule_verdict (records_of b) p n) refl e
      go false e = let a = accepted_is (rule_verdict (records_of b) p n) e in a ∙ front_start b (fields_of b n) k p ∙ front_whole a refl 0 (omega (arith, none))

-- In a scope s that keeps the first places of the scope s₀ a term stands as in s₀.
pub same_setting : (s₀ s : List ℕ) (len c : ℕ) → take len s ≡ take len s₀ → setting_in s len c ≡ setting_in s₀ len c
same_setting s₀ s len c keep = ap (λ Γ. record { context = Γ; dom = c }) (context_kept s s₀ len keep)

-- A rule that passes has the types that it asks for.
pub types_fit : (place : ℕ) (r : Rule) → judged place r ≡ Ok tt → r.typed ≡ true
types_fit place r h = go r.bound r.typed refl refl
  where
    go : (x y : Bool) → r.bound ≡ x → r.typed ≡ y → r.typed ≡ true
    go x true e f = f
    go true false e f = let z = mistyped place r.bound r.typed r.allowed e f ∙ h in no_path cc
    go false false e f = let z = unbound place r.bound r.typed r.allowed e ∙ h in no_path cc
