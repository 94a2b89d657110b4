-- The marks of a layout with one term more, and what becomes of a term.
use Rattle.std.specs.Prelude.{Result, Ok}
use Prim.Native.Nat.{ℕ, suc, ◌+◌, ◌<◌}
use native.Mathlib.Omega.{arith}
use mathlib.Core.Path.{◌≡◌, sym, ap, subst, ◌∙◌}
use mathlib.Core.List.{List, [], ◌∷◌}
use mathlib.Core.Option.{none}
use Rattle.image.specs.declared.Refusal.{Refusal}
use lib.ListN.{length, get_or, set, length-append, get_or-append}
use lib.Seq.{get_or-append-add}
use Rattle.image.specs.Limits.{term_limit}
use Rattle.laws.specs.Tests.{first_fault}
use Rattle.laws.proofs.Tests.{passed}
use Rattle.image.specs.Kinds.{TermKind, term, term_row}
use Rattle.image.specs.Records.{Layout, kind_at, children_at}
use Rattle.image.specs.Layout.{add}
use Rattle.image.specs.Types.{term_kind_of, children}
use Rattle.image.proofs.Laid.{Below, LayoutOk}
use Rattle.read_records.specs.declared.numbers.Counts.{Counts}
use Rattle.read_records.specs.Counts.{with_term}
use Rattle.read_records.specs.Codes.{section_of}
use Rattle.read_records.specs.Heads.{children_of}
use Rattle.check_uses.specs.Marks.{Lower, entered, marks_of}
use Rattle.check_uses.proofs.ChildByChild.{below_lower, marks_same}
use Rattle.check_ranges.specs.Numbers.{number_tests, told_of}
use Rattle.check_ranges.specs.Terms.{marks_behind}
use Rattle.check_ranges.proofs.Taken.{term_capacity}
use Rattle.check_layout.specs.Tables.{entry_for, EntersTerm}

module _ (L : Layout) (o : ℕ) (k : TermKind) (e : kind_at L.image o ≡ term k) where
  abbrev M : Layout
  M = add (term k) o L

  abbrev m : ℕ
  m = length L.terms

  -- The children of the record at p.
  abbrev at_place : ℕ → List ℕ
  at_place p = children_at L.image p (term_row (term_kind_of (kind_at L.image p)))

  -- The earlier terms have their children, the last one those of the record at o.
  earlier : (j : ℕ) → j < m → children M j ≡ children L j
  earlier j l = ap at_place (get_or-append L.terms (o ∷ []) 0 j l)

  last : children M m ≡ children_at L.image o (term_row k)
  last =
      let z : m + 0 ≡ m = omega arith in
      let p : get_or M.terms m 0 ≡ o = rw z at (get_or-append-add L.terms (o ∷ []) 0 0) in
      ap at_place p ∙ ap (λ j. children_at L.image o (term_row (term_kind_of j))) e

  pub last_lower : LayoutOk M → Lower m (children_at L.image o (term_row k))
  last_lower g =
      let n = length-append L.terms (o ∷ []) in
      below_lower m _ (subst (λ es. Below m es) last (g.terms m (omega arith)).below)

  pub last_marked : marks_of M (suc m) ≡ entered (children_at L.image o (term_row k)) m (marks_of L m)
  unfolding marks_of
  last_marked = ap (λ es. entered es m (marks_of M m)) last ∙ ap (λ ms. entered (children_at L.image o (term_row k)) m ms) (marks_same M L m earlier)

-- A term that 4 to 7 refuse, and one that they do not, by the answer to them.
module _ (fs : List ℕ) (x : ℕ) (n : Counts) (r : Result (Unit {0}) Refusal) (a : told_of r ≡ first_fault (number_tests fs x n)) where
  abbrev behind_it : List ℕ → List ℕ
  behind_it ms = marks_behind r (children_of x fs) n.terms ms

  module _ (e : r ≡ Ok tt) where
    passes : none ≡ first_fault (number_tests fs x n)
    passes = ap told_of (sym e) ∙ a

    pub passed_capacity : section_of x ≡ 3 → n.terms < term_limit
    passed_capacity s = term_capacity x n s (passed _ _ _ (passed _ _ _ (passed _ _ _ (sym passes)).1).1).0

    pub term_passed : {m : Counts} → m ≡ with_term n → {o : ℕ} {es es' : List ℕ} → es' ≡ set es n.terms o → {ms ms' : List ℕ} → ms' ≡ behind_it ms → EntersTerm (Ok m) fs x o n es ms es' ms'
    term_passed c d {ms} b =
        record {
          answer = ap Ok c ∙ ap (λ y. entry_for y (with_term n)) passes;
          terms = d;
          marks = b ∙ ap (λ y. marks_behind y (children_of x fs) n.terms ms) e;
        }
