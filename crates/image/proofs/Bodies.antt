-- Which kinds have which bodies.
use Prim.Native.Nat.{ℕ, zero, suc}
use mathlib.Core.Path.{◌≡◌, refl}
use mathlib.Core.Bool.{Bool, true, ◌&&◌}
use mathlib.Core.List.{List, [], ◌∷◌}
use lib.ListN.{get_or}
use Rattle.image.specs.Kinds.{Body, here, function_body, advice_body, split_body, lower_body, object_body, match_body, TermKind, term_row, is_kind, bodies, body_of}
use Rattle.laws.proofs.Booleans.{and_l, and_r, eq_of}
use Rattle.image.proofs.KindNumbers.{same_term_kind}
use Rattle.image.proofs.EveryKind.{every_of, at_term}

-- A body of a function is a function's, and so on.
abbrev owned : TermKind → Body → Bool
owned k here = true
owned k function_body = is_kind TermKind.fun k
owned k advice_body = is_kind TermKind.adv k
owned k split_body = is_kind TermKind.split k
owned k lower_body = is_kind TermKind.lower k
owned k object_body = is_kind TermKind.obj k
owned k match_body = is_kind TermKind.match k

abbrev all_owned : TermKind → List Body → Bool
all_owned k [] = true
all_owned k (b ∷ bs) = owned k b && all_owned k bs

owned_at : (k : TermKind) (bs : List Body) (d : Body) (i : ℕ) → all_owned k bs ≡ true → owned k d ≡ true → owned k (get_or bs i d) ≡ true
owned_at k [] d i h g = g
owned_at k (b ∷ bs) d zero h g = and_l (owned k b) (all_owned k bs) h
owned_at k (b ∷ bs) d (suc i) h g = owned_at k bs d i (and_r (owned k b) (all_owned k bs) h) g

-- The one kind that has a body.
abbrev pub Owner : TermKind → Body → Type 0
Owner k here = Unit {0}
Owner k function_body = k ≡ TermKind.fun
Owner k advice_body = k ≡ TermKind.adv
Owner k split_body = k ≡ TermKind.split
Owner k lower_body = k ≡ TermKind.lower
Owner k object_body = k ≡ TermKind.obj
Owner k match_body = k ≡ TermKind.match

owner : (k : TermKind) (b : Body) → owned k b ≡ true → Owner k b
owner k here h = tt
owner k function_body h = same_term_kind k TermKind.fun (eq_of h)
owner k advice_body h = same_term_kind k TermKind.adv (eq_of h)
owner k split_body h = same_term_kind k TermKind.split (eq_of h)
owner k lower_body h = same_term_kind k TermKind.lower (eq_of h)
owner k object_body h = same_term_kind k TermKind.obj (eq_of h)
owner k match_body h = same_term_kind k TermKind.match (eq_of h)

pub body_owner : (k : TermKind) (i : ℕ) → Owner k (body_of k i)
unfolding every_of
body_owner k i =
    owner k (body_of k i)
    (owned_at k (bodies (term_row k).first) (get_or (bodies (term_row k).group) 0 here) i (at_term (λ k. all_owned k (bodies (term_row k).first)) refl k)
    (owned_at k (bodies (term_row k).group) here 0 (at_term (λ k. all_owned k (bodies (term_row k).group)) refl k) refl))
