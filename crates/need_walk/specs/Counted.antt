-- What the walk answers of a term (document 02, card 10): the numbers of the calculus's definition, by what is asked.
use Rattle.std.specs.Prelude.{ℕ, suc, ◌+◌, ◌*◌, ◌≤◌, ◌<◌, ◌≡◌, List}
use Rattle.calculus.specs.Syntax.{Tm}
use Rattle.calculus_needs.specs.Here.{Here}
use Rattle.calculus_needs.proofs.Shift.{level}
use Rattle.calculus_needs.specs.Numbers.{Numbers, none, ◌⊕◌}
use Rattle.calculus_needs.specs.Needs.{need, round_of, rounds}
use Rattle.image.specs.Limits.{depth_limit}
use Rattle.image.specs.Records.{Layout}
use Rattle.image.specs.Program.{tree, to_tm}
use Rattle.image.specs.Types.{root_of}
use Rattle.verdict.specs.Acceptable.{Depth}
use Rattle.image_needs.specs.declared.Needs.{Needs}
use Rattle.need_sums.specs.declared.positions.Mode.{Mode}
use Rattle.need_sums.specs.declared.positions.Position.{Position}
use Rattle.need_sums.specs.Sums.{cut_needs}
use Rattle.need_sums.specs.Walks.{place_limit}
use Rattle.need_sums.specs.Rows.{row_count, at_mark}

abbrev pub here_of : Position → Here
here_of s = record { dom = s.dom.0; depth = s.depth; kept = s.kept }

-- What is asked of the term e of a program r.
abbrev counted_in : Mode → Tm → Here → Tm → Numbers
counted_in Mode.Skip r P e = none
counted_in Mode.Program r P e = need (λ Q. rounds Q r) P e
counted_in Mode.Body r P e = need (λ Q. none) P e
counted_in Mode.AllAdvice r P e = rounds P e
counted_in Mode.InstalledAdvice r P e = rounds P e ⊕ round_of P e

abbrev pub counted : Tm → Position → Tm → Numbers
counted r s e = counted_in s.mode r (here_of s) e

-- Term n of an image.
abbrev pub term_at : Layout → ℕ → Tm
term_at L n = to_tm (tree L (suc n) n)

-- No term is too deep (document 01, refusal 12).
abbrev pub Shallow : Layout → Type 0
Shallow L = (n d : ℕ) → Depth L n d → d ≤ depth_limit

-- Where a walk may stand at term n: no place below it is too deep, and fewer values are kept there than the term is deep.
pub record Placed (L : Layout) (s : Position) (n : ℕ) : Type 0 where
  pub deep : s.depth + 2 * n ≤ place_limit
  pub shallow : Shallow L
  pub own_depth : ℕ
  pub at_depth : Depth L n own_depth
  pub kept : s.kept < own_depth

-- What is known of all advice at a mark, where the program itself is walked.
abbrev KnownIn : Mode → Layout → Needs → List ℕ → Type 0
KnownIn Mode.Skip L w rows = Unit
KnownIn Mode.Program L w rows = (k : ℕ) → k < row_count → at_mark w rows k ≡ cut_needs (rounds (level k) (term_at L (root_of L)))
KnownIn Mode.Body L w rows = Unit
KnownIn Mode.AllAdvice L w rows = Unit
KnownIn Mode.InstalledAdvice L w rows = Unit

abbrev pub Known : Layout → Position → Needs → List ℕ → Type 0
Known L s w rows = KnownIn s.mode L w rows

-- All advice, at a mark that nothing encloses, with k values kept around it.
abbrev pub mark_position : ℕ → Position
mark_position k = record { mode = Mode.AllAdvice; dom = record { 0 = 0 }; depth = 0; kept = k }
