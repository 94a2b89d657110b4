-- A state that fits a store typing (document 003, section 2.3, figure 6).
use Prim.Native.Nat.{ℕ}
use mathlib.Core.Path.{◌≡◌, refl, ap, ◌∙◌}
use mathlib.Core.Bool.{Bool, true, false}
use mathlib.Core.List.{List, [], ◌∷◌}
use mathlib.Core.Option.{some}
use lib.ListN.{get_elem?}
use Rattle.calculus.specs.Combinators.{choose, filtered}
use Rattle.calculus.specs.Syntax.{Dom, Ty, Val, Tm}
use Rattle.calculus.specs.State.{Cell, Advice, Entry, State, fresh}
use Rattle.calculus.specs.Plain.{is_plain}
use Rattle.calculus.specs.Typing.{StoreTyping, Policy, LabelsOf, ⊢◌⦂◌ as ValTy, ◌⨾◌⊢◌⦂◌ as TmTy, no_store}
use Rattle.laws.proofs.Lists.{All, All2, all_map, all2_map, all2_get, All.all_nil, All.all_cons, All2.all2_nil}
use Rattle.calculus_safety.proofs.Extend.{Extends, grow_labels, grow_val, grow_tm}

-- What holds of each element holds of each that passes a test.
pub all_filtered : {A : Type 0} {P : A → Type 0} (p : A → Bool) {x : List A} → All P x → All P (filtered p x)
all_filtered p all_nil = all_nil
all_filtered {A} {P} p (all_cons {x = a} h hs) = look (p a) (all_filtered p hs)
  where
    look : {y : List A} (b : Bool) → All P y → All P (choose b (a ∷ y) y)
    look true k = all_cons h k
    look false k = k

-- A label's domain is its type's.
pub data LabelFits : Ty → Dom → Type 0 where
  label_fits : {a : Ty} {p : Dom} → LabelFits (Ty.label a p) p

module _ (D : Policy) where
  -- A cell's domain and plain flag are its type's, and what it holds has the type under the ref.
  pub data CellFits (Σ : StoreTyping) : Ty → Cell Val → Type 0 where
    cell_fits : {a : Ty} {p : Dom} {v : Val} → ValTy D Σ v a → CellFits Σ (Ty.ref a p) (record { dom = p; plain = is_plain a; held = v })

  -- Installed advice is typed as figure 2 types the value.
  pub data AdviceFits (Σ : StoreTyping) : Advice Tm → Type 0 where
    advice_fits : {p q : Dom} {a : Ty} {ls : List ℕ} {e : Tm} → LabelsOf D Σ a q ls → D.leq p q ≡ true → TmTy D Σ (a ∷ []) p e Ty.unit → AdviceFits Σ (record { dom = p; labels = ls; body = e })

  -- Kept values, each of its label's type (card 6).
  pub data EntryFits (Σ : StoreTyping) : Entry Val → Type 0 where
    entry_fits : {l : ℕ} {v : Val} {a : Ty} {q : Dom} → get_elem? Σ.labels l ≡ some (Ty.label a q) → ValTy D Σ v a → EntryFits Σ (record { label = l; held = v })

  abbrev pub KeptFits : StoreTyping → List (Entry Val) → Type 0
  KeptFits Σ = All (EntryFits Σ)

  pub record Fits (Σ : StoreTyping) (cs : List (Cell Val)) (ls : List Dom) (as' : List (Advice Tm)) : Type 0 where
    pub cells : All2 (CellFits Σ) Σ.cells cs
    pub labels : All2 LabelFits Σ.labels ls
    pub advices : All (AdviceFits Σ) as'

  -- The counts and the trace play no part.
  abbrev pub StateFits : StoreTyping → State → Type 0
  StateFits Σ s = Fits Σ s.cells s.labels s.advices

  module _ {Σ : StoreTyping} (s : State) (f : StateFits Σ s) where
    -- A cell or a label that has a type is in the store.
    pub cell_there : {a : Ty} {p : Dom} (r : ℕ) → get_elem? Σ.cells r ≡ some (Ty.ref a p) → (k : Cell Val) × (get_elem? s.cells r ≡ some k) × CellFits Σ (Ty.ref a p) k
    cell_there r g = all2_get f.cells r g

    pub label_there : {a : Ty} {p : Dom} (l : ℕ) → get_elem? Σ.labels l ≡ some (Ty.label a p) → get_elem? s.labels l ≡ some p
    label_there l g = let k = all2_get f.labels l g in k.1 ∙ ap some (same k.2)
      where
        same : {a : Ty} {p q : Dom} → LabelFits (Ty.label a p) q → q ≡ p
        same label_fits = refl

  pub fits_fresh : StateFits no_store fresh
  fits_fresh = record { cells = all2_nil; labels = all2_nil; advices = all_nil }

  module _ {Σ Σ' : StoreTyping} (x : Extends Σ Σ') where
    grow_cell : (t : Ty) (k : Cell Val) → CellFits Σ t k → CellFits Σ' t k
    grow_cell t k (cell_fits h) = cell_fits (grow_val D x h)

    grow_advice : (a : Advice Tm) → AdviceFits Σ a → AdviceFits Σ' a
    grow_advice a (advice_fits l o b) = advice_fits (grow_labels D x l) o (grow_tm D x b)

    pub grow_cells : {ts : List Ty} {cs : List (Cell Val)} → All2 (CellFits Σ) ts cs → All2 (CellFits Σ') ts cs
    grow_cells h = all2_map grow_cell h

    pub grow_advices : {as' : List (Advice Tm)} → All (AdviceFits Σ) as' → All (AdviceFits Σ') as'
    grow_advices h = all_map grow_advice h
