-- Closed typed terms, and lists of them. A keep's label is one.
use Prim.Native.Nat.{ℕ}
use mathlib.Core.Path.{◌≡◌, refl}
use mathlib.Core.List.{List, []}
use mathlib.Core.Option.{some}
use Rattle.calculus.specs.Syntax.{Dom, Ty, Val, Tm, Tms, as_value, keep, more}
use Rattle.calculus.specs.View.{label_of}
use Rattle.calculus.specs.Typing.{Policy, StoreTyping, ⊢◌⦂◌ as ValTy, ◌⨾◌⊢◌⦂◌ as TmTy, ◌⨾◌⊢*◌⦂◌ as TmsTy}
use Rattle.calculus_safety.proofs.Inversion.{premises}
use Rattle.calculus_safety.proofs.Values.{val_ty}

module _ (D : Policy) (Σ : StoreTyping) where
  abbrev pub Typed : Tm → Type 0
  Typed e = (c : Dom) × (t : Ty) × TmTy D Σ [] c e t

  abbrev pub AllTyped : Tms → Type 0
  AllTyped es = (c : Dom) × (ts : List Ty) × TmsTy D Σ [] c es ts

  pub typed_more : {c : Dom} {ts : List Ty} {e : Tm} {es : Tms} → TmsTy D Σ [] c (more e es) ts → Typed e × AllTyped es
  typed_more (TmsTy.is_more h k) = ((_, _, h), (_, _, k))

  is_label : {v : Val} {a : Ty} {p : Dom} → ValTy D Σ v (Ty.label a p) → (l : ℕ) × (label_of v ≡ some l)
  is_label (ValTy.v_label {l} h) = (l, refl)

  pub keep_label : {c : Dom} {t : Ty} {e f g : Tm} {v : Val} → TmTy D Σ [] c (keep e f g) t → as_value e ≡ some v → (l : ℕ) × (label_of v ≡ some l)
  keep_label h eq = is_label (val_ty (premises h).1 eq)
