-- Generated images (document 02, card 12): a load that is the same wherever it is made.
use Rattle.std.specs.Prelude.{ℕ, zero, suc, ◌+◌, ◌-◌, ◌*◌, ◌/◌, ◌%◌, List, [], ◌∷◌}
use Rattle.calculus.specs.Syntax.{Ty}
use Rattle.image.specs.Kinds.{TermKind}
use Rattle.image.specs.Program.{Program, node, end, more}
use Rattle.image_written.specs.Written.{written_over}

-- "A draw replaces it by 1664525 × s + 1013904223 modulo 2^32 and gives the new s divided by 2^24, rounded down."
abbrev pub draw_multiplier : ℕ
draw_multiplier = 1664525

abbrev pub draw_increment : ℕ
draw_increment = 1013904223

abbrev pub draw_divisor : ℕ
draw_divisor = 16777216

-- The state after a draw, and what a state gives.
abbrev pub next : ℕ → ℕ
next s = (draw_multiplier * s + draw_increment) % 4294967296

abbrev pub drawn : ℕ → ℕ
drawn s = s / draw_divisor

-- "21 depth 0 or over 9; 22 output under 16,384 bytes."
abbrev pub load_depth_limit : ℕ
load_depth_limit = 9

abbrev pub load_length : ℕ
load_length = 16384

abbrev pub literal : ℕ → Program
literal n = node TermKind.number Ty.number (n ∷ 0 ∷ []) end

-- Plus and minus are the operations 0 and 1.
abbrev pub sum : ℕ → Program → Program → Program
sum op x y = node TermKind.arith Ty.number (op ∷ []) (more x (more y end))

abbrev pub traced : Program → Program → Program
traced x y = node TermKind.seq Ty.number [] (more (node TermKind.print Ty.unit [] (more x end)) (more y end))

-- What c modulo 4 stands for: "0 a number (next draw); 1 plus and 2 minus of two trees of d - 1; 3 a sequence of print of a tree of d - 2, then a tree of d - 1".
pub data Form : Type 0 where
  a_literal : Form
  a_sum : ℕ → Form
  a_trace : Form

unfoldable pub form_of : ℕ → Form
form_of zero = a_literal
form_of (suc zero) = a_sum 0
form_of (suc (suc zero)) = a_sum 1
form_of (suc (suc (suc n))) = a_trace

-- A tree and the state after it.
pub record Grown : Type 0 where
  pub tree : Program
  pub state : ℕ

-- A number is the next draw.
abbrev pub numbered : ℕ → Grown
numbered s = record { tree = literal (drawn (next s)); state = next s }

-- "Left is drawn first": one tree behind another, put together.
abbrev pub both : (Program → Program → Program) → Grown → (ℕ → Grown) → Grown
both f x y = record { tree = f x.tree (y x.state).tree; state = (y x.state).state }

-- What follows by the form. The branches are functions, so that the one that is not taken is not computed.
unfoldable pub by_form : Form → (Unit {0} → Grown) → (ℕ → Grown) → (Unit {0} → Grown) → Grown
by_form a_literal l f t = l tt
by_form (a_sum op) l f t = f op
by_form a_trace l f t = t tt

-- A tree of depth d + 1, from a state on. "Below depth 3, c = 3 counts as 0; at depth 1 no c is drawn and the number follows."
unfoldable pub grow : ℕ → ℕ → Grown
grow zero s = numbered s
grow (suc zero) s = by_form (form_of (drawn (next s) % 4)) (λ u. numbered (next s)) (λ op. both (sum op) (grow zero (next s)) (grow zero)) (λ u. numbered (next s))
grow (suc (suc d)) s =
    by_form (form_of (drawn (next s) % 4)) (λ u. numbered (next s)) (λ op. both (sum op) (grow (suc d) (next s)) (grow (suc d)))
    (λ u. both traced (grow d (next s)) (grow (suc d)))

-- "Domain 0 alone; types 0 unit, 1 number, both always written": the image of a depth and a seed.
abbrev pub load_types : List Ty
load_types = Ty.unit ∷ Ty.number ∷ []

unfoldable pub generated : ℕ → ℕ → List ℕ
generated depth seed = written_over load_types (1 ∷ []) (grow (depth - 1) seed).tree
