-- The program of an image as one term of the calculus that keeps every stated type (document 01, "The image": "Terms have their type t first"). The calculus's own term of a variable, a sequence, an if, a split, a pointcut or a match names no type, so each subterm stands under an ascription of the type that its record states.
-- Under which variables and at which domain a child stands is not said here: the rules of document 003, figures 2 and 3, say it.
use Rattle.std.specs.Prelude.{true}
use Rattle.calculus.specs.Syntax.{Ty, Val, Tm, Tms, val, op0, ite, abort}
use Rattle.image.specs.Program.{Program, Programs, node, blank, end, more, assemble}

-- The ascription of type t to e: "if true then e else abort", the abort of type t. By figure 3 both branches of an if have its type, and an abort has just the type that it states: so this has a type exactly if e has the type t, and then this one. It binds no variable, and is typed and never run.
abbrev pub ascribe : Ty → Tm → Tm
ascribe t e = ite (val (Val.truth true)) e (op0 abort t)

-- A program and all its subterms. The blank of "Two runs compared" stands in no image; it becomes a term without a type, a unit under the ascription of truth.
unfoldable mutual
  pub ascribed : Program → Tm
  ascribed (node k t vs es) = ascribe t (assemble k t vs (ascribeds es))
  ascribed blank = ascribe Ty.truth (val Val.unit)

  pub ascribeds : Programs → Tms
  ascribeds end = Tms.end
  ascribeds (more e es) = Tms.more (ascribed e) (ascribeds es)
