-- The laws of the sums.
use native.Mathlib.Omega.{arith}
use mathlib.Core.Path.{◌≡◌, ap, ◌∙◌}
use Rattle.calculus.specs.State.{Uses, no_uses, add_uses}
use Rattle.calculus_needs.specs.Numbers.{Numbers, none, ◌⊕◌, dearer}
use Rattle.calculus_needs.specs.Claims.{Under}

pub same : {m n : Numbers} → m.steps ≡ n.steps → m.used.mainline.bindings ≡ n.used.mainline.bindings → m.used.mainline.cells ≡ n.used.mainline.cells → m.used.mainline.pieces ≡ n.used.mainline.pieces
    → m.used.others.bindings ≡ n.used.others.bindings → m.used.others.cells ≡ n.used.others.cells → m.used.others.pieces ≡ n.used.others.pieces → m.labels ≡ n.labels → m.advices ≡ n.advices
    → m.prints ≡ n.prints → m.frames ≡ n.frames → m ≡ n
same {m} {n} a b c d b' c' d' e f g h =
    let these : (k : Numbers) → Numbers = λ k. record { steps = k.steps; used = record { mainline = record { bindings = k.used.mainline.bindings; cells = k.used.mainline.cells; pieces = k.used.mainline.pieces }; others = record { bindings = k.used.others.bindings; cells = k.used.others.cells; pieces = k.used.others.pieces } }; labels = k.labels; advices = k.advices; prints = k.prints; frames = k.frames } in
    let all : these m ≡ these n = cc in
    all

-- Counts.
pub same_counts_lem : {v w : Uses} → v.mainline.bindings ≡ w.mainline.bindings → v.mainline.cells ≡ w.mainline.cells → v.mainline.pieces ≡ w.mainline.pieces → v.others.bindings ≡ w.others.bindings → v.others.cells ≡ w.others.cells → v.others.pieces ≡ w.others.pieces → v ≡ w
same_counts_lem {v} {w} a b c a' b' c' =
    let these : Uses → Uses = λ x. record { mainline = record { bindings = x.mainline.bindings; cells = x.mainline.cells; pieces = x.mainline.pieces }; others = record { bindings = x.others.bindings; cells = x.others.cells; pieces = x.others.pieces } } in
    let all : these v ≡ these w = cc in
    all

pub counts_right : (u : Uses) → add_uses u no_uses ≡ u
counts_right u = same_counts_lem (omega arith) (omega arith) (omega arith) (omega arith) (omega arith) (omega arith)

pub counts_left : (u : Uses) → add_uses no_uses u ≡ u
counts_left u = same_counts_lem (omega arith) (omega arith) (omega arith) (omega arith) (omega arith) (omega arith)

pub none_left : (m : Numbers) → none ⊕ m ≡ m
unfolding ◌⊕◌
none_left m = same (omega arith) (omega arith) (omega arith) (omega arith) (omega arith) (omega arith) (omega arith) (omega arith) (omega arith) (omega arith) (omega arith)

pub none_right : (m : Numbers) → m ⊕ none ≡ m
unfolding ◌⊕◌
none_right m = same (omega arith) (omega arith) (omega arith) (omega arith) (omega arith) (omega arith) (omega arith) (omega arith) (omega arith) (omega arith) (omega arith)

pub plus_assoc : (l m n : Numbers) → (l ⊕ m) ⊕ n ≡ l ⊕ (m ⊕ n)
unfolding ◌⊕◌
plus_assoc l m n = same (omega arith) (omega arith) (omega arith) (omega arith) (omega arith) (omega arith) (omega arith) (omega arith) (omega arith) (omega arith) (omega arith)

pub plus_comm : (m n : Numbers) → m ⊕ n ≡ n ⊕ m
unfolding ◌⊕◌
plus_comm m n = same (omega arith) (omega arith) (omega arith) (omega arith) (omega arith) (omega arith) (omega arith) (omega arith) (omega arith) (omega arith) (omega arith)

-- Sums, and dearer ones, of the same parts.
pub plus_same : {k l m n : Numbers} → k ≡ l → m ≡ n → k ⊕ m ≡ l ⊕ n
plus_same {l = l} {m = m} h i = ap (λ x. x ⊕ m) h ∙ ap (λ x. l ⊕ x) i

pub dearer_same : {k l m n : Numbers} → k ≡ l → m ≡ n → dearer k m ≡ dearer l n
dearer_same {l = l} {m = m} h i = ap (λ x. dearer x m) h ∙ ap (λ x. dearer l x) i

pub plus_none : {k l : Numbers} → k ≡ none → l ≡ none → k ⊕ l ≡ none
plus_none h i = plus_same h i ∙ none_left none

-- Each number at most the other's.
pub under_refl : (m : Numbers) → Under m m
under_refl m = record { steps = omega arith; bindings = omega arith; other_bindings = omega arith; cells = omega arith; other_cells = omega arith; pieces = omega arith; other_pieces = omega arith; labels = omega arith; advices = omega arith; prints = omega arith; frames = omega arith }

pub under_same : {m n : Numbers} → m ≡ n → Under m n
under_same {m} e = rw (← e) (under_refl m)

pub under_trans : {l m n : Numbers} → Under l m → Under m n → Under l n
under_trans x y = record {
  steps = omega (arith, x.steps, y.steps);
  bindings = omega (arith, x.bindings, y.bindings);
  other_bindings = omega (arith, x.other_bindings, y.other_bindings);
  cells = omega (arith, x.cells, y.cells);
  other_cells = omega (arith, x.other_cells, y.other_cells);
  pieces = omega (arith, x.pieces, y.pieces);
  other_pieces = omega (arith, x.other_pieces, y.other_pieces);
  labels = omega (arith, x.labels, y.labels);
  advices = omega (arith, x.advices, y.advices);
  prints = omega (arith, x.prints, y.prints);
  frames = omega (arith, x.frames, y.frames);
}

pub under_plus : {l m n o : Numbers} → Under l m → Under n o → Under (l ⊕ n) (m ⊕ o)
unfolding ◌⊕◌
under_plus x y = record {
  steps = omega (arith, x.steps, y.steps);
  bindings = omega (arith, x.bindings, y.bindings);
  other_bindings = omega (arith, x.other_bindings, y.other_bindings);
  cells = omega (arith, x.cells, y.cells);
  other_cells = omega (arith, x.other_cells, y.other_cells);
  pieces = omega (arith, x.pieces, y.pieces);
  other_pieces = omega (arith, x.other_pieces, y.other_pieces);
  labels = omega (arith, x.labels, y.labels);
  advices = omega (arith, x.advices, y.advices);
  prints = omega (arith, x.prints, y.prints);
  frames = omega (arith, x.frames, y.frames);
}

pub under_left : (m n : Numbers) → Under m (m ⊕ n)
unfolding ◌⊕◌
under_left m n = record { steps = omega arith; bindings = omega arith; other_bindings = omega arith; cells = omega arith; other_cells = omega arith; pieces = omega arith; other_pieces = omega arith; labels = omega arith; advices = omega arith; prints = omega arith; frames = omega arith }

pub under_right : (m n : Numbers) → Under n (m ⊕ n)
unfolding ◌⊕◌
under_right m n = record { steps = omega arith; bindings = omega arith; other_bindings = omega arith; cells = omega arith; other_cells = omega arith; pieces = omega arith; other_pieces = omega arith; labels = omega arith; advices = omega arith; prints = omega arith; frames = omega arith }

pub dearer_left : (m n : Numbers) → Under m (dearer m n)
unfolding dearer
dearer_left m n = record { steps = omega arith; bindings = omega arith; other_bindings = omega arith; cells = omega arith; other_cells = omega arith; pieces = omega arith; other_pieces = omega arith; labels = omega arith; advices = omega arith; prints = omega arith; frames = omega arith }

pub dearer_right : (m n : Numbers) → Under n (dearer m n)
unfolding dearer
dearer_right m n = record { steps = omega arith; bindings = omega arith; other_bindings = omega arith; cells = omega arith; other_cells = omega arith; pieces = omega arith; other_pieces = omega arith; labels = omega arith; advices = omega arith; prints = omega arith; frames = omega arith }

pub none_under : (m : Numbers) → Under none m
none_under m = rw (none_left m) at (under_left none m)
