-- A `&κ mut [T]` that is lent again for a lifetime that is made for a call, and comes back at the list that the callee left. It says nothing of the crate.
--     LentAgain    what the holder keeps while the slice is lent again for ν under the name δ: the lender's part at ν, and its own borrow at κ, open, with both halves of its ghost variable
--     lends        the `&κ mut [T]` and κ's token give, for some ν and δ, ν's token, the `&ν mut [T]` and `LentAgain`
--     comes_back   ν's token, `LentAgain` and what the callee's contract says of its last list give the `&κ mut [T]` at that list, and κ's token
-- The machine value has the count n that the slice has had from the start: a slice's count never changes.
-- Assumes `Logic`.
use mathlib.Core.Path.{◌≡◌, sym, ap, subst, ◌∙◌, refl}
use Prim.Native.Nat.{ℕ}
use mathlib.Core.List.{List, [], ◌∷◌}
use lib.ListN.{length}
use seplogic.Ra.Ura.{Ura}
use base.Fraction.{full_share}
use mir.Syntax.{Lifetime}
use mir.Val.{Val}
use base.Logic.{ent, sep, ex}
use base.Fml.{Lft, GName, Share, Fml, fsep, flft, fobs, fauth, flent, fobor}
use types.Logic.{Logic, sem}
use types.Kit.{‵, ◌⊛◌, some, later, ◌$◌, ◌∵◌, !, qed, move, use1, use3, drop, split, pick, rewrite, fsplit, fjoin, frame, await, updating, now as at_once, show, done}
use types.SemTy.{cells, Arr}
use types.Tokens.{lft_new, lft_end}
use denote.RattleType.{RattleType}
use denote.Shadow.{pure_l, pure_i}
use denote.Memory.{mem}
use denote.Ref.{MutBor}
use denote.Slice.{slice_val, MutSlice, heres, Room, finally, mut_slice_at, coded_holeys}
use denote.Lend.{Held, lends_slice, slice_back}
use denote.Index.{row, whole_out, whole_in, opens_slice, closes_slice}

-- The lifetime of a call, and the name of the slice that is lent for it.
abbrev pub Loan : Type 0
Loan = ℕ × GName

module _ (R : RattleType) (κ : Lft) (q : Share) (γ : GName) (b o : ℕ) where
  abbrev pub at_list : GName → List R.Denot → MutBor (List R.Denot)
  at_list δ ys = record { ref_ptr = (b, o); ghost_name = δ; now = ys }

  abbrev pub LentAgain : Loan → List R.Denot → Fml
  LentAgain (ν, δ) ys = fsep (flent (ν ∷ []) (Held R (length ys) b o δ)) (fsep (fobor κ q (Held R (length ys) b o γ)) (fsep (fobs γ ((coded_holeys R).code (heres R ys))) (fauth γ ((coded_holeys R).code (heres R ys)))))

  module _ {M : Type 1} {𝓤 : Ura M} (𝓛 : Logic 𝓤) (ℓ ℓ' : Lifetime) (n : ℕ) (room : Room R n) (ys : List R.Denot) (e : length ys ≡ n) where
    open 𝓛 use {H, A}

    abbrev vals : ℕ → List Val
    vals m = slice_val (b, o) m ∷ []

    pub lends : ent 𝓤 (sep 𝓤 (sem 𝓛 ((MutSlice ℓ κ R).own_val (at_list γ ys) (vals n))) (A.lft κ q))
        (H.⇛ (ex 𝓤 (λ (p : Loan). sep 𝓤 (A.lft (p.0 ∷ []) full_share) (sep 𝓤 (sem 𝓛 ((MutSlice ℓ' (p.0 ∷ []) R).own_val (at_list p.1 ys) (vals n))) (sem 𝓛 (LentAgain p ys))))))
    lends =
        qed 𝓛 (‵ ((MutSlice ℓ κ R).own_val (at_list γ ys) (vals n)) ∷ ‵ (flft κ q) ∷ []) ∵ updating ! $ fsplit ! $ pure_l ! (mut_slice_at R (at_list γ ys) (vals n)) (λ p. fsplit ! $ opens_slice ! tt R ys b o $
        use1 𝓛 (‵ (cells (mem R) ys b o)) (whole_in 𝓛 R ys b o) $ lft_new ! tt (λ ν. move ! (1 ∷ []) $
        use1 𝓛 (later (some (λ (δ : GName). ‵ ((MutSlice ℓ' (ν ∷ []) R).own_val (at_list δ ys) (vals (length ys))) ⊛ ‵ (flent (ν ∷ []) (Held R (length ys) b o δ))))) (lends_slice 𝓛 R ℓ' (ν ∷ []) ys b o p.1) $ await ! tt $ pick ! (λ δ. split ! $
        -- [the new slice; the lender's part; the token; the open borrow at κ; obs γ; auth γ]
        rewrite ! 0 (λ (m : ℕ). ‵ ((MutSlice ℓ' (ν ∷ []) R).own_val (at_list δ ys) (vals m))) e refl $
        at_once ! $ show ! (λ (p : Loan). sep 𝓤 (A.lft (p.0 ∷ []) full_share) (sep 𝓤 (sem 𝓛 ((MutSlice ℓ' (p.0 ∷ []) R).own_val (at_list p.1 ys) (vals n))) (sem 𝓛 (LentAgain p ys)))) (ν, δ) $
        move ! (2 ∷ 0 ∷ []) $ frame ! $ frame ! $ move ! (2 ∷ 3 ∷ []) $ fjoin ! $ move ! (2 ∷ 0 ∷ []) $ fjoin ! $ move ! (1 ∷ 0 ∷ []) $ fjoin ! $ done !)))

    pub comes_back : (p : Loan) (zs : List R.Denot) → length zs ≡ length ys
        → ent 𝓤 (sep 𝓤 (A.lft (p.0 ∷ []) full_share) (sep 𝓤 (sem 𝓛 (LentAgain p ys)) (sem 𝓛 (finally R p.1 zs)))) (H.⇛ (sep 𝓤 (sem 𝓛 ((MutSlice ℓ κ R).own_val (at_list γ zs) (vals n))) (A.lft κ q)))
    comes_back p zs l =
        qed 𝓛 (‵ (flft (p.0 ∷ []) full_share) ∷ ‵ (LentAgain p ys) ∷ ‵ (finally R p.1 zs) ∷ []) ∵ updating ! $ lft_end ! tt $
        move ! (1 ∷ []) $ fsplit ! $ move ! (2 ∷ 0 ∷ 3 ∷ []) $
        use3 𝓛 (later (‵ ((Arr (mem R) (length ys)).own_at zs b o))) (slice_back 𝓛 R (p.0 ∷ []) p.1 zs (length ys) b o) $ await ! tt $ fsplit ! $ drop ! $ use1 𝓛 (‵ (row R full_share zs b o)) (whole_out 𝓛 R zs b o) $
        move ! (1 ∷ []) $ fsplit ! $ move ! (1 ∷ []) $ fsplit ! $ move ! (3 ∷ 2 ∷ 0 ∷ 1 ∷ []) $ closes_slice ! tt R ys zs l b o $ at_once ! $
        fjoin ! $ pure_i ! (mut_slice_at R (at_list γ zs) (vals n)) (tt, (tt, tt)) (ap (λ (m : ℕ). slice_val (b, o) m ∷ []) (sym (l ∙ e)), subst (Room R) (sym (l ∙ e)) room) $ fjoin ! $ done !
