-- A walk over the terms of an image that works out the numbers of card 10 (document 02), as its functions say it: a table of the kinds, where a child stands, and what a term takes itself.
use Rattle.std.specs.Prelude.{ℕ, zero, suc, ◌+◌, ◌*◌, Bool, true, false, eqb}
use Rattle.calculus.specs.Combinators.{choose}
use Rattle.calculus_needs.specs.Needs.{Extra, no_extra, a_new_label, kept_pieces, extra0}
use Rattle.image.specs.Kinds.{TermKind, Form, operator, form_of}
use Rattle.image.specs.Limits.{term_limit}
use Rattle.image_needs.specs.declared.Needs.{Needs}
use Rattle.need_sums.specs.declared.shapes.Own.{Own}
use Rattle.need_sums.specs.declared.shapes.Role.{Role}
use Rattle.need_sums.specs.declared.shapes.Shape.{Shape}
use Rattle.need_sums.specs.declared.positions.Mode.{Mode}
use Rattle.need_sums.specs.declared.positions.Position.{Position}
use Rattle.need_sums.specs.Sums.{no_needs, add_needs, raise_needs}

-- Depths and kept values that a walk comes to are below this: no term is deeper than there are terms.
abbrev pub place_limit : ℕ
place_limit = 4 * term_limit

-- The table of kinds.
abbrev pub childless : Own → Shape
childless o = record { own = o; first = Role.Skipped; second = Role.Skipped; third = Role.Skipped; rest = Role.Skipped }

abbrev pub one : Own → Role → Shape
one o r = record { own = o; first = r; second = Role.Skipped; third = Role.Skipped; rest = Role.Skipped }

abbrev pub two : Own → Role → Shape
two o r = record { own = o; first = Role.Operand; second = r; third = Role.Skipped; rest = Role.Skipped }

abbrev pub three : Role → Role → Role → Shape
three r q p = record { own = Own.Step; first = Role.Operand; second = r; third = q; rest = p }

-- What an operator without operands takes.
abbrev pub own_of : Extra → Own
own_of no_extra = Own.Step
own_of a_new_label = Own.Label
own_of kept_pieces = Own.Stack

abbrev pub shape_as : {k : TermKind} → Form k → Shape
shape_as (operator o n r) = childless (own_of (extra0 o))
shape_as Form.unit = childless Own.Nothing
shape_as Form.truth = childless Own.Nothing
shape_as Form.number = childless Own.Nothing
shape_as Form.var = childless Own.Nothing
shape_as Form.seq = two Own.Step Role.Next
shape_as Form.print = one Own.Print Role.Operand
shape_as Form.ite = three Role.Branch Role.Branch Role.Skipped
shape_as Form.pair = two Own.Piece Role.Operand
shape_as Form.split = two Own.TwoBindings Role.Next
shape_as Form.fun = childless Own.Nothing
shape_as Form.app = two Own.Binding Role.Operand
shape_as Form.arith = two Own.Step Role.Operand
shape_as Form.mark = two Own.Mark Role.Operand
shape_as Form.pcd = record { own = Own.Piece; first = Role.Operand; second = Role.Operand; third = Role.Operand; rest = Role.Operand }
shape_as Form.adv = two Own.Advised Role.AdviceBody
shape_as Form.install = one Own.Advice Role.Installed
shape_as Form.new_cell = one Own.Cell Role.Operand
shape_as Form.read = one Own.Step Role.Operand
shape_as Form.store = two Own.Step Role.Operand
shape_as Form.lower = one Own.Step Role.Lowered
shape_as Form.byte = one Own.Step Role.Operand
shape_as Form.obj = childless Own.Nothing
shape_as Form.call = one Own.Binding Role.Operand
shape_as Form.keep = three Role.Operand Role.Kept Role.Skipped
shape_as Form.match = three Role.FirstBranch Role.Branch Role.Operand
shape_as Form.takedown = childless Own.Step

abbrev pub shape_of : TermKind → Shape
shape_of k = shape_as (form_of k)

-- The role of child j.
abbrev pub role_at : Shape → ℕ → Role
role_at s zero = s.first
role_at s (suc zero) = s.second
role_at s (suc (suc zero)) = s.third
role_at s (suc (suc (suc j))) = s.rest

-- Where a child stands.
abbrev pub asked : Position → Mode → Position
asked s m = record { mode = m; dom = s.dom; depth = s.depth; kept = s.kept }

abbrev pub skipped : Position → Position
skipped s = asked s Mode.Skip

abbrev pub inside : Position → ℕ → Position
inside s p = record { mode = s.mode; dom = record { 0 = p }; depth = s.depth + 1; kept = s.kept }

abbrev pub running_child : Position → Role → ℕ → Position
running_child s Role.Skipped p = skipped s
running_child s Role.Operand p = inside s s.dom.0
running_child s Role.Lowered p = inside s p
running_child s Role.Kept p = record { mode = s.mode; dom = s.dom; depth = s.depth + 1; kept = s.kept + 1 }
running_child s Role.Next p = s
running_child s Role.Branch p = s
running_child s Role.FirstBranch p = s
running_child s Role.AdviceBody p = skipped s
running_child s Role.Installed p = inside s s.dom.0

abbrev pub advice_mode : Role → Mode
advice_mode Role.Skipped = Mode.Skip
advice_mode Role.Operand = Mode.AllAdvice
advice_mode Role.Lowered = Mode.AllAdvice
advice_mode Role.Kept = Mode.AllAdvice
advice_mode Role.Next = Mode.AllAdvice
advice_mode Role.Branch = Mode.AllAdvice
advice_mode Role.FirstBranch = Mode.AllAdvice
advice_mode Role.AdviceBody = Mode.Skip
advice_mode Role.Installed = Mode.InstalledAdvice

abbrev pub is_advice_body : Role → Bool
is_advice_body Role.Skipped = false
is_advice_body Role.Operand = false
is_advice_body Role.Lowered = false
is_advice_body Role.Kept = false
is_advice_body Role.Next = false
is_advice_body Role.Branch = false
is_advice_body Role.FirstBranch = false
is_advice_body Role.AdviceBody = true
is_advice_body Role.Installed = false

abbrev pub installed_child : Position → Role → ℕ → Position
installed_child s r p = choose (is_advice_body r) (record { mode = Mode.Body; dom = record { 0 = p }; depth = s.depth + 2; kept = s.kept }) (asked s (advice_mode r))

abbrev pub child_in : Mode → Position → Role → ℕ → Position
child_in Mode.Skip s r p = s
child_in Mode.Program s r p = running_child s r p
child_in Mode.Body s r p = running_child s r p
child_in Mode.AllAdvice s r p = asked s (advice_mode r)
child_in Mode.InstalledAdvice s r p = installed_child s r p

abbrev pub child_position : Position → Role → ℕ → Position
child_position s r p = child_in s.mode s r p

-- What a term takes itself.
abbrev pub step_needs : ℕ → Needs
step_needs d = record {
  steps = 1;
  bindings = 0;
  other_bindings = 0;
  pieces = 0;
  other_pieces = 0;
  cells = 0;
  other_cells = 0;
  labels = 0;
  advice = 0;
  frames = d;
  log = 0;
}

abbrev pub charged_needs : Needs → ℕ → ℕ → ℕ → ℕ → Needs
charged_needs n c b e p =
    choose (eqb c 0)
    (record {
      steps = n.steps;
      bindings = b;
      other_bindings = n.other_bindings;
      pieces = p;
      other_pieces = n.other_pieces;
      cells = e;
      other_cells = n.other_cells;
      labels = n.labels;
      advice = n.advice;
      frames = n.frames;
      log = n.log;
    })
    (record {
      steps = n.steps;
      bindings = n.bindings;
      other_bindings = b;
      pieces = n.pieces;
      other_pieces = p;
      cells = n.cells;
      other_cells = e;
      labels = n.labels;
      advice = n.advice;
      frames = n.frames;
      log = n.log;
    })

abbrev pub reduction_needs : Own → Position → Needs → Needs
reduction_needs Own.Nothing s w = no_needs
reduction_needs Own.Step s w = step_needs s.depth
reduction_needs Own.Label s w = record {
  steps = 1;
  bindings = 0;
  other_bindings = 0;
  pieces = 0;
  other_pieces = 0;
  cells = 0;
  other_cells = 0;
  labels = 1;
  advice = 0;
  frames = s.depth;
  log = 0;
}
reduction_needs Own.Print s w = record {
  steps = 1;
  bindings = 0;
  other_bindings = 0;
  pieces = 0;
  other_pieces = 0;
  cells = 0;
  other_cells = 0;
  labels = 0;
  advice = 0;
  frames = s.depth;
  log = 1;
}
reduction_needs Own.Advice s w = record {
  steps = 1;
  bindings = 0;
  other_bindings = 0;
  pieces = 0;
  other_pieces = 0;
  cells = 0;
  other_cells = 0;
  labels = 0;
  advice = 1;
  frames = s.depth;
  log = 0;
}
reduction_needs Own.Cell s w = charged_needs (step_needs s.depth) s.dom.0 0 1 0
reduction_needs Own.Piece s w = charged_needs (step_needs s.depth) s.dom.0 0 0 1
reduction_needs Own.Advised s w = charged_needs (step_needs s.depth) s.dom.0 0 0 1
reduction_needs Own.Binding s w = charged_needs (step_needs s.depth) s.dom.0 1 0 0
reduction_needs Own.TwoBindings s w = charged_needs (step_needs s.depth) s.dom.0 2 0 0
reduction_needs Own.Stack s w = charged_needs (step_needs s.depth) s.dom.0 0 0 s.kept
reduction_needs Own.Mark s w = add_needs (step_needs s.depth) w

abbrev pub advice_start : ℕ → ℕ → Needs
advice_start d p =
    charged_needs
    (record { steps = 2; bindings = 0; other_bindings = 0; pieces = 0; other_pieces = 0; cells = 0; other_cells = 0; labels = 0; advice = 0; frames = d + 1; log = 0 })
    p 1 0 0

abbrev pub is_advised : Own → Bool
is_advised Own.Nothing = false
is_advised Own.Step = false
is_advised Own.Label = false
is_advised Own.Print = false
is_advised Own.Advice = false
is_advised Own.Cell = false
is_advised Own.Piece = false
is_advised Own.Advised = true
is_advised Own.Binding = false
is_advised Own.TwoBindings = false
is_advised Own.Stack = false
is_advised Own.Mark = false

abbrev pub advice_needs : Own → Position → ℕ → Needs
advice_needs o s p = choose (is_advised o) (advice_start s.depth p) no_needs

abbrev pub own_in : Mode → Own → Position → ℕ → Needs → Needs
own_in Mode.Skip o s p w = no_needs
own_in Mode.Program o s p w = reduction_needs o s (raise_needs s.depth w)
own_in Mode.Body o s p w = reduction_needs o s no_needs
own_in Mode.AllAdvice o s p w = no_needs
own_in Mode.InstalledAdvice o s p w = advice_needs o s p

abbrev pub own_needs : Own → Position → ℕ → Needs → Needs
own_needs o s p w = own_in s.mode o s p w

-- Branches: of two of them the dearer counts, where the term runs.
abbrev pub branches : Role → Bool
branches Role.Skipped = false
branches Role.Operand = false
branches Role.Lowered = false
branches Role.Kept = false
branches Role.Next = false
branches Role.Branch = true
branches Role.FirstBranch = true
branches Role.AdviceBody = false
branches Role.Installed = false

abbrev pub branch_in : Mode → Role → Bool
branch_in Mode.Skip r = false
branch_in Mode.Program r = branches r
branch_in Mode.Body r = branches r
branch_in Mode.AllAdvice r = false
branch_in Mode.InstalledAdvice r = false

abbrev pub is_branch : Position → Role → Bool
is_branch s r = branch_in s.mode r

abbrev pub added_needs : Position → Role → Needs → Needs
added_needs s r x = choose (is_branch s r) no_needs x

abbrev pub binds_variables : Role → Bool
binds_variables Role.Skipped = false
binds_variables Role.Operand = false
binds_variables Role.Lowered = false
binds_variables Role.Kept = false
binds_variables Role.Next = false
binds_variables Role.Branch = false
binds_variables Role.FirstBranch = true
binds_variables Role.AdviceBody = false
binds_variables Role.Installed = false

abbrev pub branch_needs : Position → Role → ℕ → Needs
branch_needs s r v = choose (binds_variables r) (charged_needs no_needs s.dom.0 v 0 0) no_needs

abbrev pub chosen_needs : Position → Role → ℕ → Needs → Needs
chosen_needs s r v x = choose (is_branch s r) (add_needs (branch_needs s r v) x) no_needs
