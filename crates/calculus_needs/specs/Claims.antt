-- What card 10 (document 02) claims of a run: no number exceeded; all within the limits; done or aborted.
use Rattle.std.specs.Prelude.{ℕ, ◌*◌, ◌≤◌}
use Rattle.calculus.specs.declared.Outcome.{Outcome}
use Rattle.calculus.specs.Limits.{frame_limit, binding_limit, cell_limit, piece_limit, label_limit, advice_limit, log_record_length}
use Rattle.calculus.specs.Syntax.{Val}
use Rattle.calculus.specs.State.{Given}
use Rattle.calculus.specs.Run.{End, done, stopped}
use Rattle.calculus_needs.specs.Numbers.{Numbers}

-- Each number is at most the other's.
pub record Under (m n : Numbers) : Type 0 where
  pub steps : m.steps ≤ n.steps
  pub bindings : m.used.mainline.bindings ≤ n.used.mainline.bindings
  pub other_bindings : m.used.others.bindings ≤ n.used.others.bindings
  pub cells : m.used.mainline.cells ≤ n.used.mainline.cells
  pub other_cells : m.used.others.cells ≤ n.used.others.cells
  pub pieces : m.used.mainline.pieces ≤ n.used.mainline.pieces
  pub other_pieces : m.used.others.pieces ≤ n.used.others.pieces
  pub labels : m.labels ≤ n.labels
  pub advices : m.advices ≤ n.advices
  pub prints : m.prints ≤ n.prints
  pub frames : m.frames ≤ n.frames

-- "Where all are within the limits, the budget and the log": n is the budget.
pub record Enough (n : ℕ) (G : Given) (N : Numbers) : Type 0 where
  pub steps : N.steps ≤ n
  pub bindings : N.used.mainline.bindings ≤ binding_limit
  pub other_bindings : N.used.others.bindings ≤ binding_limit
  pub cells : N.used.mainline.cells ≤ cell_limit
  pub other_cells : N.used.others.cells ≤ cell_limit
  pub pieces : N.used.mainline.pieces ≤ piece_limit
  pub other_pieces : N.used.others.pieces ≤ piece_limit
  pub labels : N.labels ≤ label_limit
  pub advices : N.advices ≤ advice_limit
  pub prints : log_record_length * N.prints ≤ G.log_length
  pub frames : N.frames ≤ frame_limit

-- "The outcome is done or aborted."
pub data DoneOrAborted : End → Type 0 where
  was_done : {v : Val} → DoneOrAborted (done v)
  is_aborted : DoneOrAborted (stopped Outcome.Aborted)
