-- What noninterference uses of a state that fits a store typing: the domain of a cell, and the type of what a plain cell holds.
use Prim.Native.Nat.{ℕ}
use mathlib.Core.Path.{◌≡◌, refl}
use mathlib.Core.Bool.{true}
use mathlib.Core.List.{List}
use mathlib.Core.Option.{some}
use lib.ListN.{get_elem?}
use Rattle.calculus.specs.Syntax.{Dom, Ty, Val}
use Rattle.calculus.specs.State.{Cell, State}
use Rattle.calculus.specs.Plain.{is_plain}
use Rattle.calculus.specs.Typing.{Policy, StoreTyping, ⊢◌⦂◌ as ValTy}
use Rattle.laws.proofs.Lists.{All, All.all_nil, All.all_cons, All2, All2.all2_nil, All2.all2_cons}
use Rattle.calculus_safety.proofs.StoreFits.{CellFits, CellFits.cell_fits, StateFits, cell_there}

module _ (D : Policy) where
  fits_dom : {Σ : StoreTyping} {a : Ty} {p : Dom} {k : Cell Val} → CellFits D Σ (Ty.ref a p) k → k.dom ≡ p
  fits_dom (cell_fits h) = refl

  -- A cell that has a type is there, and its domain is the type's.
  pub cell_dom : (Σ : StoreTyping) (s : State) (r : ℕ) (a : Ty) (p : Dom) → StateFits D Σ s → get_elem? Σ.cells r ≡ some (Ty.ref a p) → (k : Cell Val) × (get_elem? s.cells r ≡ some k) × (k.dom ≡ p)
  cell_dom Σ s r a p f x = let k = cell_there D s f r x in (k.0, k.1, fits_dom k.2)

  -- A plain cell holds a value of a plain type.
  abbrev pub PlainCell : StoreTyping → Cell Val → Type 0
  PlainCell Σ k = k.plain ≡ true → (a : Ty) × (is_plain a ≡ true) × ValTy D Σ k.held a

  fits_plain : {Σ : StoreTyping} {t : Ty} {k : Cell Val} → CellFits D Σ t k → PlainCell Σ k
  fits_plain (cell_fits {a} h) p = (a, p, h)

  pub plain_cells : {Σ : StoreTyping} {ts : List Ty} {x : List (Cell Val)} → All2 (CellFits D Σ) ts x → All (PlainCell Σ) x
  plain_cells all2_nil = all_nil
  plain_cells (all2_cons h k) = all_cons (fits_plain h) (plain_cells k)
