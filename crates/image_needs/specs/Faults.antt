-- Refusal 19 (document 02, card 10): "the lowest apply, call, install over something else, or mark or install in an advice body".
use Rattle.std.specs.Prelude.{ℕ, zero, suc, min, Bool, true, false, ◌&&◌, ◌||◌, List, [], ◌∷◌, length, get_or}
use Rattle.calculus.specs.Combinators.{choose}
use Rattle.image.specs.Kinds.{Body, here, function_body, advice_body, split_body, lower_body, object_body, match_body, TermKind, is_kind, body_of}
use Rattle.image.specs.Records.{Layout}
use Rattle.image.specs.Types.{term_kind, children, root_of}

abbrev pub is_advice : TermKind → Bool
is_advice k = is_kind TermKind.adv k

-- Whether a term of kind k may stand over a first child of kind j; m is true outside the bodies of advice. An apply and a call may not; a mark may outside these bodies, and so may an install over an advice; any other term may.
abbrev pub permits : Bool → TermKind → TermKind → Bool
permits m k j =
    choose (is_kind TermKind.app k || is_kind TermKind.call k) false
    (choose (is_kind TermKind.mark k) m
    (choose (is_kind TermKind.install k) (m && is_advice j) true))

-- Whether a child stands outside the bodies of advice, given whether its parent does.
abbrev pub outside : Bool → Body → Bool
outside m here = m
outside m function_body = m
outside m advice_body = false
outside m split_body = m
outside m lower_body = m
outside m object_body = m
outside m match_body = m

-- The least number that f gives for the terms of a list, the first of which is child i; d if the list is empty.
unfoldable pub least : (ℕ → ℕ → ℕ) → ℕ → ℕ → List ℕ → ℕ
least f d i [] = d
least f d i (e ∷ es) = min (f i e) (least f d (suc i) es)

module _ (L : Layout) where
  abbrev pub permitted : Bool → ℕ → Bool
  permitted m n = permits m (term_kind L n) (term_kind L (get_or (children L n) 0 0))

  -- The lowest number of a term that may not stand where it does, among term n and the terms below it; the number of all terms if there is none. A term's children have lower numbers, so a fuel of n + 1 is enough.
  unfoldable pub lowest : ℕ → Bool → ℕ → ℕ
  lowest zero m n = length L.terms
  lowest (suc f) m n = min (choose (permitted m n) (length L.terms) n) (least (λ i e. lowest f (outside m (body_of (term_kind L n) i)) e) (length L.terms) 0 (children L n))

  -- Of the whole program.
  unfoldable pub lowest_fault : ℕ
  lowest_fault = lowest (length L.terms) true (root_of L)
