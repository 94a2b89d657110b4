-- 4 to 7 of a term (document 01, "Turned back at the gate"), and its marks, which the crate check_uses defines.
use Rattle.std.specs.Prelude.{ℕ, ◌+◌, ◌≡◌, true, List, length, Result, Ok, Err}
use Rattle.std.proofs.Math.Option.{none}
use Rattle.laws.specs.Tests.{first_fault}
use Rattle.read_records.specs.declared.numbers.Counts.{Counts}
use Rattle.read_records.specs.Codes.{section_of, Sized}
use Rattle.read_records.specs.Heads.{children_of, Fitting}
use Rattle.check_uses.specs.Marks.{Lower, entered}
use Rattle.image.specs.declared.Refusal.{Refusal}
use Rattle.check_ranges.specs.Numbers.{length_fits, range_fits, number_tests}

-- Fields of a record with the code x, behind so many records: if they pass 7, the children among them are lower terms.
abbrev pub ChildrenLower : List ℕ → ℕ → Counts → Type 0
ChildrenLower fs x n = range_fits fs x n ≡ true → Lower n.terms (children_of x fs)

-- The same of a term, which passes 5 in any case: if the length is right, the fields hold its children.
pub record TermFields (fs : List ℕ) (x : ℕ) (n : Counts) : Type 0 where
  pub sized : Sized x
  pub term : section_of x ≡ 3
  pub fitting : length_fits x (length fs + 4) ≡ true → Fitting x fs
  pub lower : none ≡ first_fault (number_tests fs x n) → Lower n.terms (children_of x fs)

-- The marks behind a term that is refused, and behind one that is not, which is n and has the children es.
abbrev pub marks_behind : Result (Unit {0}) Refusal → List ℕ → ℕ → List ℕ → List ℕ
marks_behind (Err r) es n ms = ms
marks_behind (Ok u) es n ms = entered es n ms
