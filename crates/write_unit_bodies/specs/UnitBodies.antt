-- The bodies of an image's low advice and low lowers (document 02, card 13), term by term; and a copy of the image in which each of them is a unit.
use Rattle.std.specs.Prelude.{ℕ, ◌+◌, ◌<◌, ◌≡◌, Bool, true, false, not, List, length, get_or, eqb}
use Rattle.calculus.specs.Syntax.{Dom}
use Rattle.calculus.specs.Combinators.{choose}
use Rattle.calculus.specs.Plain.{dom_of}
use Rattle.image.specs.Bytes.{number_at, field_at}
use Rattle.image.specs.Kinds.{TermKind, term_row}
use Rattle.image.specs.Records.{Layout}
use Rattle.image.specs.Types.{term_place, stated_type, others}

module _ (L : Layout) where
  -- Term n is of kind k, by its number.
  abbrev pub is_kind : TermKind → ℕ → Bool
  is_kind k n = eqb (number_at L.image (term_place L n)) (term_row k).number

  -- The body of an advice or of a lower: the third field of both.
  abbrev pub body_at : ℕ → ℕ
  body_at n = field_at L.image (term_place L n) 2

  -- The low byte of the number of that body's kind.
  abbrev pub kind_byte : ℕ → ℕ
  kind_byte n = term_place L (body_at n) + 2

module _ (L : Layout) (high : Dom → Bool) where
  -- Whether term n is an advice with a low domain or a lower with a low field: its body gives way.
  abbrev pub low_advice_or_lower : ℕ → Bool
  low_advice_or_lower n = choose (is_kind L TermKind.adv n) (not (high (dom_of (stated_type L n)))) (choose (is_kind L TermKind.lower n) (not (high (get_or (others L n) 0 0))) false)

  -- c is b with a unit in the place of each body that gives way, of the first m terms: its record keeps its length and its type, and a record may be longer than its kind needs (card 1), so the kind's number is all that changes.
  pub record UnitBodies (m : ℕ) (b c : List ℕ) : Type 0 where
    pub same : length c ≡ length b
    pub kept : (j : ℕ) → ((n : ℕ) → n < m → low_advice_or_lower n ≡ true → j ≡ kind_byte L n → ⊥) → get_or c j 0 ≡ get_or b j 0
    pub units : (n : ℕ) → n < m → low_advice_or_lower n ≡ true → get_or c (kind_byte L n) 0 ≡ (term_row TermKind.unit).number
