-- Types, values and terms of the calculus (document 003, sections 2.1 and 2.4, figure 1, without strings, with the numbers, arithmetic, frame byte and abort of document 01).
use Rattle.std.specs.Prelude.{ℕ, Bool, List}
use Rattle.std.proofs.Math.Option.{Option, none, some}

-- A protection domain is its number in the image.
abbrev pub Dom : Type 0
Dom = ℕ

-- Figure 1, τ.
mutual
  pub data Ty : Type 0 where
    unit truth number : Ty
    pair : Ty → Ty → Ty
    -- from a, running at p, to b
    fun : Ty → Dom → Ty → Ty
    ref label pointcut : Ty → Dom → Ty
    advice : Dom → Ty
    -- card 3: an object with these methods
    object : Sigs → Ty
    -- card 6: a stack of kept values
    stack : Ty

  -- The methods of an object, numbered from 0: of each the domain that it runs at, and the type of what it gives.
  pub data Sigs : Type 0 where
    no_method : Sigs
    method : Dom → Ty → Sigs → Sigs

-- The pattern of a match (card 6; document 003, section 2.4): entries, and a close.
pub data Pattern : Type 0 where
  -- the close: the stack ends here; or the rest is bound
  at_end at_rest : Pattern
  -- an entry before the others: anything, which is not bound; or a value under a label of a pointcut, which is bound
  anything pointcut : Pattern → Pattern

-- An operator of no, one or two operands that are worked out first, left to right.
pub data Op0 : Type 0 where
  new_label abort : Op0
  -- card 7: every installed advice of the domain is taken down
  takedown : Dom → Op0
  -- card 6: the values that are kept around here
  the_stack : Op0

pub data Op1 : Type 0 where
  print install read byte new_cell : Op1
  -- card 3: a call of the method of this number
  call : ℕ → Op1

pub data Op2 : Type 0 where
  pair app mark store plus minus less equal : Op2

mutual
  -- Figure 1, v.
  pub data Val : Type 0 where
    unit : Val
    truth : Bool → Val
    number : ℕ → Val
    pair : Val → Val → Val
    -- a function: its type, and its body, which binds one variable
    fun : Ty → Tm → Val
    label cell : ℕ → Val
    -- a pointcut: the labels that it names
    pointcut : List ℕ → Val
    -- advice: its domain, its pointcut's labels, its body, which binds one variable
    advice : Dom → List ℕ → Tm → Val
    -- card 3: an object: its type, and a body for each method, which binds the object itself
    object : Ty → Tms → Val
    -- card 6: the empty stack; a value kept under a label, on top of a stack
    bottom : Val
    kept : ℕ → Val → Val → Val

  -- Figure 1, e. Variables are numbered from the innermost.
  pub data Tm : Type 0 where
    -- a closed value, which substitution leaves alone
    val : Val → Tm
    var : ℕ → Tm
    -- a function, with its type: a value that may name outer variables
    lam : Ty → Tm → Tm
    op0 : Op0 → Ty → Tm
    op1 : Op1 → Ty → Tm → Tm
    op2 : Op2 → Ty → Tm → Tm → Tm
    seq : Tm → Tm → Tm
    ite : Tm → Tm → Tm → Tm
    -- the second binds two variables: the second part is variable 0, the first variable 1
    split : Tm → Tm → Tm
    pcd : Tms → Tm
    -- at a domain: the pointcut, and the body, which binds one variable
    adv : Dom → Tm → Tm → Tm
    -- p<e>
    lower : Dom → Tm → Tm
    -- card 3: an object, with its type: a value that may name outer variables
    obj : Ty → Tms → Tm
    -- card 6: a label, a value, and the body that runs with the value kept under the label
    keep : Tm → Tm → Tm → Tm
    -- card 6: a pattern, the stack and then the pattern's pointcuts, the branch that binds what the pattern binds, and the other branch
    match : Pattern → Tms → Tm → Tm → Tm

  -- A list of operands, or of bodies.
  pub data Tms : Type 0 where
    end : Tms
    more : Tm → Tms → Tms

-- The value that a term is, if it is one.
abbrev pub as_value : Tm → Option Val
as_value (val v) = some v
as_value (var k) = none
as_value (lam t b) = some (Val.fun t b)
as_value (op0 o t) = none
as_value (op1 o t e) = none
as_value (op2 o t e f) = none
as_value (seq e f) = none
as_value (ite e f g) = none
as_value (split e f) = none
as_value (pcd es) = none
as_value (adv p e b) = none
as_value (lower p e) = none
as_value (obj t bs) = some (Val.object t bs)
as_value (keep e f g) = none
as_value (match p es f g) = none
