-- The table of kinds: the section, the number and the fields of each, children among them (document 01, "The image").
use Rattle.std.specs.Prelude.{ℕ, zero, suc, Bool, true, false, List, [], ◌∷◌, ◌++◌, ◌≡◌, refl, length, get_or, eqb}
use Rattle.std.proofs.Math.Option.{Option, none, some}
use Rattle.calculus.specs.Syntax.{Dom, Op0}
use Rattle.image.specs.Limits.{pointcut_limit, method_limit, entry_limit}

-- What the number of a field may be that names neither a type nor a term: a domain; an operation, 0 to 3; 0 or 1; any number.
pub data Range : Type 0 where
  in_domains in_operations in_truths any_number : Range

-- Where a child of a term stands: where the term itself does; or, as the body of a function, of an advice, of a split, of a lower, of a method (card 3), as the first branch of a match (card 6), under more variables or at a domain of its own.
pub data Body : Type 0 where
  here function_body advice_body split_body lower_body object_body match_body : Body

pub data Field : Type 0 where
  -- a type number (of a type: a lower one); a number of its own
  a_type : Field
  own : Range → Field
  -- a lower term number, and where that term stands; 0, or a lower term number plus 1
  a_term : Body → Field
  an_entry : Field

abbrev pub a_domain : Field
a_domain = own in_domains

abbrev pub an_op : Field
an_op = own in_operations

abbrev pub a_truth : Field
a_truth = own in_truths

abbrev pub free : Field
free = own any_number

-- A child that stands where its parent does.
abbrev pub a_child : Field
a_child = a_term here

-- The kinds of each section.
pub data TypeKind : Type 0 where
  unit truth number pair fun ref label pcd adv obj stack : TypeKind

pub data TermKind : Type 0 where
  unit truth number var seq print ite pair split fun app arith new_label mark pcd adv install new_cell read store lower abort byte obj call stack keep match takedown : TermKind

pub data Kind : Type 0 where
  domain : Kind
  type : TypeKind → Kind
  term : TermKind → Kind

-- A kind's number; its first fields; the group of fields that stands behind these again and again, at least and at most so often; its last fields.
pub record Row : Type 0 where
  pub number : ℕ
  pub first : List Field
  pub group : List Field
  pub least : ℕ
  pub most : ℕ
  pub last : List Field

-- A kind without a group.
abbrev row : ℕ → List Field → Row
row n fs = record { number = n; first = fs; group = []; least = 0; most = 0; last = [] }

abbrev pub domain_row : Row
domain_row = row 1 (free ∷ [])

abbrev pub type_row_of : TypeKind → Row
type_row_of TypeKind.unit = row 16 []
type_row_of TypeKind.truth = row 17 []
type_row_of TypeKind.number = row 18 []
type_row_of TypeKind.pair = row 19 (a_type ∷ a_type ∷ [])
type_row_of TypeKind.fun = row 20 (a_type ∷ a_domain ∷ a_type ∷ [])
type_row_of TypeKind.ref = row 21 (a_type ∷ a_domain ∷ [])
type_row_of TypeKind.label = row 22 (a_type ∷ a_domain ∷ [])
type_row_of TypeKind.pcd = row 23 (a_type ∷ a_domain ∷ [])
type_row_of TypeKind.adv = row 24 (a_domain ∷ [])
-- card 3
type_row_of TypeKind.obj = record { number = 25; first = []; group = a_domain ∷ a_type ∷ []; least = 1; most = method_limit; last = [] }
-- card 6
type_row_of TypeKind.stack = row 26 []

abbrev pub term_row : TermKind → Row
term_row TermKind.unit = row 32 (a_type ∷ [])
term_row TermKind.truth = row 33 (a_type ∷ a_truth ∷ [])
term_row TermKind.number = row 34 (a_type ∷ free ∷ free ∷ [])
term_row TermKind.var = row 35 (a_type ∷ free ∷ [])
term_row TermKind.seq = row 36 (a_type ∷ a_child ∷ a_child ∷ [])
term_row TermKind.print = row 37 (a_type ∷ a_child ∷ [])
term_row TermKind.ite = row 38 (a_type ∷ a_child ∷ a_child ∷ a_child ∷ [])
term_row TermKind.pair = row 39 (a_type ∷ a_child ∷ a_child ∷ [])
term_row TermKind.split = row 40 (a_type ∷ a_child ∷ a_term split_body ∷ [])
term_row TermKind.fun = row 41 (a_type ∷ a_term function_body ∷ [])
term_row TermKind.app = row 42 (a_type ∷ a_child ∷ a_child ∷ [])
term_row TermKind.arith = row 43 (a_type ∷ an_op ∷ a_child ∷ a_child ∷ [])
term_row TermKind.new_label = row 44 (a_type ∷ [])
term_row TermKind.mark = row 45 (a_type ∷ a_child ∷ a_child ∷ [])
term_row TermKind.pcd = record { number = 46; first = a_type ∷ []; group = a_child ∷ []; least = 0; most = pointcut_limit; last = [] }
term_row TermKind.adv = row 47 (a_type ∷ a_child ∷ a_term advice_body ∷ [])
term_row TermKind.install = row 48 (a_type ∷ a_child ∷ [])
term_row TermKind.new_cell = row 49 (a_type ∷ a_child ∷ [])
term_row TermKind.read = row 50 (a_type ∷ a_child ∷ [])
term_row TermKind.store = row 51 (a_type ∷ a_child ∷ a_child ∷ [])
term_row TermKind.lower = row 52 (a_type ∷ a_domain ∷ a_term lower_body ∷ [])
term_row TermKind.abort = row 53 (a_type ∷ [])
term_row TermKind.byte = row 60 (a_type ∷ a_child ∷ [])
-- card 3
term_row TermKind.obj = record { number = 54; first = a_type ∷ []; group = a_term object_body ∷ []; least = 1; most = method_limit; last = [] }
term_row TermKind.call = record { number = 55; first = a_type ∷ a_child ∷ []; group = []; least = 0; most = 0; last = free ∷ [] }
-- card 6: a label, a value, a body; the stack, two branches, entries, and the close
term_row TermKind.stack = row 56 (a_type ∷ [])
term_row TermKind.keep = row 57 (a_type ∷ a_child ∷ a_child ∷ a_child ∷ [])
term_row TermKind.match = record { number = 58; first = a_type ∷ a_child ∷ a_term match_body ∷ a_child ∷ []; group = an_entry ∷ []; least = 0; most = entry_limit; last = a_truth ∷ [] }
-- card 7
term_row TermKind.takedown = row 59 (a_type ∷ a_domain ∷ [])

-- The domain that an operator without operands names; 0 where it names none.
abbrev pub named : Op0 → Dom
named Op0.new_label = 0
named Op0.abort = 0
named (Op0.takedown p) = p
named Op0.the_stack = 0

-- The row of a kind whose record has no field but its type.
abbrev pub bare_row : ℕ → Row
bare_row n = row n (a_type ∷ [])

-- What a term of a kind is in the calculus: an operator without operands, whose record has no field but its type; or what its kind alone is. Definitions and laws by kind go by this, so that one more such operator is a line of each table here.
pub data Form : TermKind → Type 0 where
  operator : {k : TermKind} (o : Op0) → named o ≡ 0 → term_row k ≡ bare_row (term_row k).number → Form k
  unit : Form TermKind.unit
  truth : Form TermKind.truth
  number : Form TermKind.number
  var : Form TermKind.var
  seq : Form TermKind.seq
  print : Form TermKind.print
  ite : Form TermKind.ite
  pair : Form TermKind.pair
  split : Form TermKind.split
  fun : Form TermKind.fun
  app : Form TermKind.app
  arith : Form TermKind.arith
  mark : Form TermKind.mark
  pcd : Form TermKind.pcd
  adv : Form TermKind.adv
  install : Form TermKind.install
  new_cell : Form TermKind.new_cell
  read : Form TermKind.read
  store : Form TermKind.store
  lower : Form TermKind.lower
  byte : Form TermKind.byte
  obj : Form TermKind.obj
  call : Form TermKind.call
  keep : Form TermKind.keep
  match : Form TermKind.match
  takedown : Form TermKind.takedown

abbrev pub form_of : (k : TermKind) → Form k
form_of TermKind.unit = Form.unit
form_of TermKind.truth = Form.truth
form_of TermKind.number = Form.number
form_of TermKind.var = Form.var
form_of TermKind.seq = Form.seq
form_of TermKind.print = Form.print
form_of TermKind.ite = Form.ite
form_of TermKind.pair = Form.pair
form_of TermKind.split = Form.split
form_of TermKind.fun = Form.fun
form_of TermKind.app = Form.app
form_of TermKind.arith = Form.arith
form_of TermKind.new_label = operator Op0.new_label refl refl
form_of TermKind.mark = Form.mark
form_of TermKind.pcd = Form.pcd
form_of TermKind.adv = Form.adv
form_of TermKind.install = Form.install
form_of TermKind.new_cell = Form.new_cell
form_of TermKind.read = Form.read
form_of TermKind.store = Form.store
form_of TermKind.lower = Form.lower
form_of TermKind.abort = operator Op0.abort refl refl
form_of TermKind.byte = Form.byte
form_of TermKind.obj = Form.obj
form_of TermKind.call = Form.call
form_of TermKind.stack = operator Op0.the_stack refl refl
form_of TermKind.keep = Form.keep
form_of TermKind.match = Form.match
form_of TermKind.takedown = Form.takedown

abbrev pub row_of : Kind → Row
row_of domain = domain_row
row_of (type k) = type_row_of k
row_of (term k) = term_row k

abbrev pub kinds : List Kind
kinds =
    domain
    ∷ type TypeKind.unit ∷ type TypeKind.truth ∷ type TypeKind.number ∷ type TypeKind.pair ∷ type TypeKind.fun
    ∷ type TypeKind.ref ∷ type TypeKind.label ∷ type TypeKind.pcd ∷ type TypeKind.adv ∷ type TypeKind.obj ∷ type TypeKind.stack
    ∷ term TermKind.unit ∷ term TermKind.truth ∷ term TermKind.number ∷ term TermKind.var ∷ term TermKind.seq ∷ term TermKind.print
    ∷ term TermKind.ite ∷ term TermKind.pair ∷ term TermKind.split ∷ term TermKind.fun ∷ term TermKind.app ∷ term TermKind.arith
    ∷ term TermKind.new_label ∷ term TermKind.mark ∷ term TermKind.pcd ∷ term TermKind.adv ∷ term TermKind.install ∷ term TermKind.new_cell
    ∷ term TermKind.read ∷ term TermKind.store ∷ term TermKind.lower ∷ term TermKind.abort ∷ term TermKind.byte
    ∷ term TermKind.obj ∷ term TermKind.call ∷ term TermKind.stack ∷ term TermKind.keep ∷ term TermKind.match ∷ term TermKind.takedown
    ∷ []

-- Whether the kind k of a term is j.
abbrev pub is_kind : TermKind → TermKind → Bool
is_kind j k = eqb (term_row k).number (term_row j).number

unfoldable pub find : ℕ → List Kind → Option Kind
find n [] = none
find n (k ∷ ks) = elim (eqb (row_of k).number n) [ true ↦ some k | false ↦ find n ks ]

-- The kind of a number, if it is one.
abbrev pub kind_of : ℕ → Option Kind
kind_of n = find n kinds

-- The fields of a record of the row r in which the group stands n times.
abbrev pub again : ℕ → List Field → List Field
again zero fs = []
again (suc n) fs = fs ++ again n fs

abbrev pub fields_of : Row → ℕ → List Field
fields_of r n = r.first ++ (again n r.group ++ r.last)

-- Where the children among some fields stand, and where child i of a term of kind k does: behind the first fields' children come those of the group, which are all alike.
abbrev pub bodies : List Field → List Body
bodies [] = []
bodies (a_type ∷ fs) = bodies fs
bodies (own r ∷ fs) = bodies fs
bodies (a_term b ∷ fs) = b ∷ bodies fs
bodies (an_entry ∷ fs) = here ∷ bodies fs

abbrev pub body_of : TermKind → ℕ → Body
body_of k i = get_or (bodies (term_row k).first) i (get_or (bodies (term_row k).group) 0 here)

-- How many fields stand before the first child of a term.
abbrev pub lead : List Field → ℕ
lead [] = 0
lead (a_type ∷ fs) = suc (lead fs)
lead (own r ∷ fs) = suc (lead fs)
lead (a_term b ∷ fs) = 0
lead (an_entry ∷ fs) = 0

abbrev pub lead_of : TermKind → ℕ
lead_of k = lead (term_row k).first

-- And how many behind the last.
abbrev pub trail_of : TermKind → ℕ
trail_of k = length (term_row k).last
