-- The eleven numbers of card 10 (document 02) in 32 bits: a sum stops at the largest.
use Rattle.std.specs.Prelude.{ℕ, ◌+◌, ◌≡◌, min, max, eqb}
use Rattle.calculus.specs.Combinators.{choose}
use Rattle.calculus_needs.specs.Numbers.{Numbers}
use Rattle.image_needs.specs.declared.Needs.{Needs}

abbrev pub largest : ℕ
largest = 4294967295

abbrev pub cut : ℕ → ℕ
cut n = min n largest

-- The numbers, each cut at the largest.
unfoldable pub cut_needs : Numbers → Needs
cut_needs N = record {
  steps = cut N.steps;
  bindings = cut N.used.mainline.bindings;
  other_bindings = cut N.used.others.bindings;
  pieces = cut N.used.mainline.pieces;
  other_pieces = cut N.used.others.pieces;
  cells = cut N.used.mainline.cells;
  other_cells = cut N.used.others.cells;
  labels = cut N.labels;
  advice = cut N.advices;
  frames = cut N.frames;
  log = cut N.prints;
}

abbrev pub no_needs : Needs
no_needs = record {
  steps = 0;
  bindings = 0;
  other_bindings = 0;
  pieces = 0;
  other_pieces = 0;
  cells = 0;
  other_cells = 0;
  labels = 0;
  advice = 0;
  frames = 0;
  log = 0;
}

-- Of two, each number but frames by a rule that says when a number is made of two; of frames the larger.
pub record JoinedBy (join : ℕ → ℕ → ℕ → Type 0) (a b n : Needs) : Type 0 where
  pub steps : join a.steps b.steps n.steps
  pub bindings : join a.bindings b.bindings n.bindings
  pub other_bindings : join a.other_bindings b.other_bindings n.other_bindings
  pub pieces : join a.pieces b.pieces n.pieces
  pub other_pieces : join a.other_pieces b.other_pieces n.other_pieces
  pub cells : join a.cells b.cells n.cells
  pub other_cells : join a.other_cells b.other_cells n.other_cells
  pub labels : join a.labels b.labels n.labels
  pub advice : join a.advice b.advice n.advice
  pub frames : n.frames ≡ max a.frames b.frames
  pub log : join a.log b.log n.log

unfoldable pub add_needs : Needs → Needs → Needs
add_needs a b = record {
  steps = cut (a.steps + b.steps);
  bindings = cut (a.bindings + b.bindings);
  other_bindings = cut (a.other_bindings + b.other_bindings);
  pieces = cut (a.pieces + b.pieces);
  other_pieces = cut (a.other_pieces + b.other_pieces);
  cells = cut (a.cells + b.cells);
  other_cells = cut (a.other_cells + b.other_cells);
  labels = cut (a.labels + b.labels);
  advice = cut (a.advice + b.advice);
  frames = max a.frames b.frames;
  log = cut (a.log + b.log);
}

unfoldable pub dearer_needs : Needs → Needs → Needs
dearer_needs a b = record {
  steps = max a.steps b.steps;
  bindings = max a.bindings b.bindings;
  other_bindings = max a.other_bindings b.other_bindings;
  pieces = max a.pieces b.pieces;
  other_pieces = max a.other_pieces b.other_pieces;
  cells = max a.cells b.cells;
  other_cells = max a.other_cells b.other_cells;
  labels = max a.labels b.labels;
  advice = max a.advice b.advice;
  frames = max a.frames b.frames;
  log = max a.log b.log;
}

-- The frames d terms deeper, of something that makes so many steps.
abbrev pub raised_to : ℕ → ℕ → ℕ → ℕ
raised_to s d f = choose (eqb s 0) 0 (cut (f + d))

unfoldable pub raise_needs : ℕ → Needs → Needs
raise_needs d a = record {
  steps = a.steps;
  bindings = a.bindings;
  other_bindings = a.other_bindings;
  pieces = a.pieces;
  other_pieces = a.other_pieces;
  cells = a.cells;
  other_cells = a.other_cells;
  labels = a.labels;
  advice = a.advice;
  frames = raised_to a.steps d a.frames;
  log = a.log;
}
