-- "Bodies of functions and methods, which never run there, are not counted" (card 10): a mark with a function or an object, of any body, needs its label and its two steps, and no advice of that body.
use mathlib.Core.Path.{◌≡◌, refl}
use Rattle.calculus.specs.Syntax.{Ty, Tm, Tms, lam, op0, op2, obj, new_label, mark}
use Rattle.calculus.specs.State.{no_uses}
use Rattle.calculus_needs.specs.Numbers.{Numbers, ◌⊕◌}
use Rattle.calculus_needs.specs.Needs.{need, rounds, need_of}

abbrev mark_needs : Numbers
mark_needs = record { steps = 2; used = no_uses; labels = 1; advices = 0; prints = 0; frames = 1 }

bodies_uncounted : (t u l : Ty) (b : Tm) (bs : Tms) → (need_of (op2 mark u (op0 new_label l) (lam t b)) ≡ mark_needs) × (need_of (op2 mark u (op0 new_label l) (obj t bs)) ≡ mark_needs)
unfolding need rounds ◌⊕◌
bodies_uncounted t u l b bs = (refl, refl)
