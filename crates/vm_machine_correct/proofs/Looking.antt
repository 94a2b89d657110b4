-- A match under way (card 6): how far its pattern was held against its stack, entry by entry, and whether all fits so far.
use Prim.Native.Nat.{ℕ, suc}
use mathlib.Core.Bool.{Bool, true, false, ◌&&◌}
use mathlib.Core.Path.{◌≡◌, refl, sym, ap, ◌∙◌}
use mathlib.Core.List.{List, [], ◌∷◌, ◌++◌, reverse, reverse_aux, append_assoc}
use mathlib.Core.Option.{Option, none, some}
use Rattle.calculus.specs.Syntax.{Pattern, anything, pointcut}
use Rattle.calculus.specs.View.{labels_of}
use Rattle.calculus.specs.State.{Entry}
use Rattle.calculus.specs.Combinators.{choose, cases}
use Rattle.calculus.specs.Reduce.{hits, cons_found, matched}
use Rattle.closure_machine.specs.Closure.{CVal, top_of_c, unload_val}

-- Whether a stack has an entry that a pointcut names, and what is behind its top entry; a stack without one stays.
abbrev pub top_has : Option (Entry CVal × CVal) → Bool
top_has none = false
top_has (some x) = true

abbrev pub has_top : CVal → Bool
has_top k = top_has (top_of_c k)

abbrev pub top_hits : Option (Entry CVal × CVal) → CVal → Bool
top_hits none u = false
top_hits (some x) u = hits x.0.label (labels_of (unload_val u))

abbrev pub hits_top : CVal → CVal → Bool
hits_top k u = top_hits (top_of_c k) u

abbrev pub behind : Option (Entry CVal × CVal) → CVal → CVal
behind none k = k
behind (some x) k = x.1

abbrev pub rest_c : CVal → CVal
rest_c k = behind (top_of_c k) k

-- After n entries of the pattern p, held against the stack k₀: the pointcuts among them are us; the pattern q and the stack k are left; b says whether all fits.
pub data Looked (p : Pattern) (k₀ : CVal) : ℕ → List CVal → Pattern → CVal → Bool → Type 0 where
  nothing_yet : Looked p k₀ 0 [] p k₀ true
  past_anything : {n : ℕ} {us : List CVal} {q : Pattern} {k : CVal} {b : Bool} → Looked p k₀ n us (anything q) k b → Looked p k₀ (suc n) us q (rest_c k) (b && has_top k)
  past_pointcut : {n : ℕ} {us : List CVal} {q : Pattern} {k : CVal} {b : Bool} (u : CVal) → Looked p k₀ n us (pointcut q) k b → Looked p k₀ (suc n) (us ++ (u ∷ [])) q (rest_c k) (b && (has_top k && hits_top k u))

-- The values that a pattern binds, and whether there are any.
abbrev pub found : Pattern → List CVal → CVal → Option (List CVal)
found p us k = matched top_of_c (λ v. labels_of (unload_val v)) p us k

abbrev pub is_found : Option (List CVal) → Bool
is_found none = false
is_found (some vs) = true

found_cons : (v : CVal) (o : Option (List CVal)) → is_found (cons_found v o) ≡ is_found o
found_cons v none = refl
found_cons v (some vs) = refl

found_if : (h : Bool) (v : CVal) (o : Option (List CVal)) → is_found (choose h (cons_found v o) none) ≡ (h && is_found o)
found_if true v o = found_cons v o
found_if false v o = refl

never : (b x : Bool) → (b && false) ≡ ((b && false) && x)
never true x = refl
never false x = refl

also : (b x : Bool) → (b && x) ≡ ((b && true) && x)
also true x = refl
also false x = refl

both : (b h x : Bool) → (b && (h && x)) ≡ ((b && (true && h)) && x)
both true h x = refl
both false h x = refl

neither : (b h x : Bool) → (b && false) ≡ ((b && (false && h)) && x)
neither true h x = refl
neither false h x = refl

-- What was looked at says whether the whole matches, once the rest is known.
pub looked_matches : {p : Pattern} {k₀ : CVal} {n : ℕ} {us : List CVal} {q : Pattern} {k : CVal} {b : Bool} → Looked p k₀ n us q k b → (later : List CVal) → is_found (found p (us ++ later) k₀) ≡ (b && is_found (found q later k))
unfolding cases
looked_matches nothing_yet later = refl
looked_matches (past_anything {q = q} {k = k} {b = b} l) later = looked_matches l later ∙ step (top_of_c k)
  where
    step : (o : Option (Entry CVal × CVal)) → (b && is_found (cases o (λ x. found q later x.1) (λ n. none))) ≡ ((b && top_has o) && is_found (found q later (behind o k)))
    step none = never b (is_found (found q later k))
    step (some x) = also b (is_found (found q later x.1))
looked_matches {p = p} {k₀ = k₀} (past_pointcut {us = us} {q = q} {k = k} {b = b} u l) later =
    ap (λ (x : List CVal). is_found (found p x k₀)) (append_assoc us (u ∷ []) later) ∙ looked_matches l (u ∷ later) ∙ step (top_of_c k)
  where
    step : (o : Option (Entry CVal × CVal))
        → (b && is_found (cases o (λ x. choose (hits x.0.label (labels_of (unload_val u))) (cons_found x.0.held (found q later x.1)) none) (λ n. none)))
        ≡ ((b && (top_has o && top_hits o u)) && is_found (found q later (behind o k)))
    step none = neither b false (is_found (found q later k))
    step (some x) = ap (λ (y : Bool). b && y) (found_if (hits x.0.label (labels_of (unload_val u))) x.0.held (found q later x.1)) ∙ both b (hits x.0.label (labels_of (unload_val u))) (is_found (found q later x.1))

-- One operand more.
reverse_onto : (l r : List CVal) → reverse_aux l r ≡ reverse_aux l [] ++ r
reverse_onto [] r = refl
reverse_onto (x ∷ l) r = reverse_onto l (x ∷ r) ∙ sym (append_assoc (reverse_aux l []) (x ∷ []) r) ∙ ap (λ (y : List CVal). y ++ r) (sym (reverse_onto l (x ∷ [])))

pub one_operand_more : (u k₀ : CVal) (vs us : List CVal) → reverse vs ≡ k₀ ∷ us → reverse (u ∷ vs) ≡ k₀ ∷ (us ++ (u ∷ []))
one_operand_more u k₀ vs us p = reverse_onto vs (u ∷ []) ∙ ap (λ (y : List CVal). y ++ (u ∷ [])) p
