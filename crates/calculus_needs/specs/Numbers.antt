-- The eleven numbers of card 10 (document 02): steps; bindings, pieces and cells for each half (card 9); labels, advice, frames and log records.
use Rattle.std.specs.Prelude.{ℕ, ◌+◌, max}
use Rattle.calculus.specs.State.{Counts, Uses, no_uses, add_uses}

pub record Numbers : Type 0 where
  pub steps : ℕ
  -- bindings, cells and pieces, of each half
  pub used : Uses
  pub labels : ℕ
  -- installed advice
  pub advices : ℕ
  -- log records
  pub prints : ℕ
  -- the most unfinished terms around a redex
  pub frames : ℕ

abbrev pub none : Numbers
none = record { steps = 0; used = no_uses; labels = 0; advices = 0; prints = 0; frames = 0 }

infixr 20 ◌⊕◌
-- What two parts need that run one after the other: the sum of each number, but the larger number of frames, since frames are given back.
unfoldable pub ◌⊕◌ : Numbers → Numbers → Numbers
m ⊕ n = record {
  steps = m.steps + n.steps;
  used = add_uses m.used n.used;
  labels = m.labels + n.labels;
  advices = m.advices + n.advices;
  prints = m.prints + n.prints;
  frames = max m.frames n.frames;
}

abbrev pub dearer_counts : Counts → Counts → Counts
dearer_counts m n = record { bindings = max m.bindings n.bindings; cells = max m.cells n.cells; pieces = max m.pieces n.pieces }

abbrev pub dearer_uses : Uses → Uses → Uses
dearer_uses m n = record { mainline = dearer_counts m.mainline n.mainline; others = dearer_counts m.others n.others }

-- "The dearer branch of every choice, taken for each number on its own."
unfoldable pub dearer : Numbers → Numbers → Numbers
dearer m n = record {
  steps = max m.steps n.steps;
  used = dearer_uses m.used n.used;
  labels = max m.labels n.labels;
  advices = max m.advices n.advices;
  prints = max m.prints n.prints;
  frames = max m.frames n.frames;
}
