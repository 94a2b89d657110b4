-- Laws of the row that gathers what the domains that a domain names name.
use Prim.Native.Nat.{ℕ, zero, suc, ◌+◌, ◌≤◌, ◌<◌}
use native.Mathlib.Numerals.{add-one}
use mathlib.Core.Path.{◌≡◌, refl, sym, ap, ◌∙◌}
use mathlib.Core.Bool.{Bool, true, false, not, ◌||◌, or-false, and-false, and-not_self, and-or_distrib_right}
use mathlib.Core.List.{List, [], ◌∷◌, ◌++◌, append_assoc}
use lib.ListN.{length, get_or, take, drop, set, replicate}
use lib.Seq.{take-suc-set, drop-cons}
use borrow.Author.Tests.{le-leb, lt-leb, ne_eqb, eq-eqb}
use Rattle.image.specs.Limits.{domain_limit}
use Rattle.laws.specs.Tests.{any_below}
use Rattle.check_shape.specs.Faults.{names, gap_in, either_row, fault_in}
use Rattle.laws.proofs.Booleans.{no_path, by_test}
use Rattle.laws.proofs.Tests.{none_below, below_none}
use Rattle.laws.proofs.Tests.{any_none, any_more, any_same}
use Rattle.check_shape.proofs.Orders.{row_blank}

or_or_or_comm : (a b c d : Bool) → (a || b) || (c || d) ≡ (a || c) || (b || d)
or_or_or_comm true b c d = refl
or_or_or_comm false true true d = refl
or_or_or_comm false true false d = refl
or_or_or_comm false false c d = refl

-- Some number below n: of either kind, of no kind, and of one that is known.
any_or : (n : ℕ) (p q : ℕ → Bool) → any_below n (λ i. p i || q i) ≡ (any_below n p || any_below n q)
unfolding any_below
any_or zero p q = refl
any_or (suc n) p q = rw (any_or n p q) (or_or_or_comm (any_below n p) (any_below n q) (p n) (q n))

any_here : (n i : ℕ) (p : ℕ → Bool) → i < n → p i ≡ true → any_below n p ≡ true
any_here n i p l h = by_test (any_below n p) (λ e. e) λ e. no_path (sym h ∙ none_below n p e i l)

-- One truth more of what either row names.
pub either_more : (row a b : List Bool) (f : ℕ) → f < length row → f < length a → f < length b → take (f + 1) (set row f (get_or a f false || get_or b f false)) ++ either_row (drop (f + 1) a) (drop (f + 1) b) ≡ take f row ++ either_row (drop f a) (drop f b)
unfolding either_row
either_more row a b f h k l = rw (add-one, take-suc-set row f (get_or a f false || get_or b f false) h, append_assoc, drop-cons a f false k, drop-cons b f false l)

either_at : (a b : List Bool) (f : ℕ) → get_or (either_row a b) f false ≡ (get_or a f false || get_or b f false)
unfolding either_row
either_at [] b f = refl
either_at (p ∷ a) [] f = sym (or-false (get_or (p ∷ a) f false))
either_at (p ∷ a) (q ∷ b) zero = refl
either_at (p ∷ a) (q ∷ b) (suc f) = either_at a b f

-- A gap to either row is a gap to the one or to the other; a row has none to itself, nor to one that names nothing.
gap_either : (a b c : List Bool) → gap_in a (either_row b c) ≡ (gap_in a b || gap_in a c)
gap_either a b c =
    any_same domain_limit _ _ (λ f. rw (either_at b c f) (and-or_distrib_right (get_or b f false) (get_or c f false) (not (get_or a f false))))
    ∙ any_or domain_limit _ _

gap_own : (a : List Bool) → gap_in a a ≡ false
gap_own a = below_none domain_limit _ (λ f. and-not_self (get_or a f false))

gap_blank : (a : List Bool) (n : ℕ) → gap_in a (replicate n false) ≡ false
gap_blank a n = below_none domain_limit _ (λ f. rw (row_blank n f))

-- Of the e first domains, some puts domain d, of n, at fault if and only if the row that gathers what those that d names name, d itself left out, has d or a gap.
module _ (o : List (List Bool)) (n d : ℕ) where
  abbrev fault : ℕ → Bool
  fault e = fault_in (get_or o d []) (get_or o e []) n d e

  abbrev pub FoundTo : ℕ → List Bool → Type 0
  FoundTo e named = (get_or named d false || gap_in (get_or o d []) named) ≡ any_below e fault

  pub found_none : (m : ℕ) → FoundTo 0 (replicate m false)
  found_none m = rw (row_blank m d, gap_blank (get_or o d []) m) (any_none fault)

  pub found_absent : (e : ℕ) → e < domain_limit → names o d e ≡ true → n ≤ e → any_below domain_limit fault ≡ true
  found_absent e l h k = any_here domain_limit e fault l (simp (h, le-leb n e k))

  module _ (e : ℕ) (named : List Bool) (F : FoundTo e named) where
    found_same : fault e ≡ false → FoundTo (e + 1) named
    found_same h = sym (or-false _) ∙ ap (λ t. (get_or named d false || gap_in (get_or o d []) named) || t) (sym h) ∙ any_more e fault _ F

    pub found_unnamed : names o d e ≡ false → FoundTo (e + 1) named
    found_unnamed h = found_same (simp h)

    pub found_own : e < n → e ≡ d → FoundTo (e + 1) named
    found_own l h = found_same (rw h (simp (lt-leb n d (rw h at l), eq-eqb d d refl, gap_own (get_or o d []), and-false)))

    pub found_other : names o d e ≡ true → e < n → (e ≡ d → ⊥) → FoundTo (e + 1) (either_row named (get_or o e []))
    found_other h l k =
        let own = get_or o d [] in
        let b = get_or o e [] in
        let this : (get_or b d false || gap_in own b) ≡ fault e = simp (h, lt-leb n e l, ne_eqb e d k) in
        rw (either_at named b d, gap_either own named b) (or_or_or_comm (get_or named d false) (get_or b d false) (gap_in own named) (gap_in own b))
        ∙ ap (λ t. (get_or named d false || gap_in own named) || t) this
        ∙ any_more e fault _ F
