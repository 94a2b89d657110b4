-- 4, 5, 6 and 8 of a record of kind k, as tests on numbers.
use Prim.Native.Nat.{ℕ, ◌<◌}
use mathlib.Core.Path.{◌≡◌, refl, sym, ap, ◌∙◌}
use mathlib.Core.Bool.{Bool}
use mathlib.Core.List.{List, [], ◌∷◌}
use lib.ListN.{length, get_or}
use lib.Dec.{eqb, leb, eqb-suc-zero}
use Rattle.calculus.specs.Combinators.{choose}
use Rattle.image.specs.Kinds.{Field, Kind, domain, type, term, row_of}
use Rattle.laws.specs.Tests.{all_of, all_below}
use Rattle.image.specs.Records.{Layout, times, known_length}
use Rattle.image.specs.Layout.{long_enough, right_length, is_nil, in_order_of, has_capacity}
use Rattle.laws.proofs.Booleans.{same_truth}
use Rattle.laws.proofs.Tests.{all_of_lem, of_all, all_below_lem, below_all}
use Rattle.image.proofs.Counts.{fields_length}
use Rattle.read_records.specs.declared.numbers.Counts.{Counts}
use Rattle.read_records.specs.Codes.{section_number, section_of}
use Rattle.read_records.proofs.Codes.{Packs}
use Rattle.check_ranges.specs.Numbers.{length_fits, order_fits, capacity_fits}

-- 4
long_enough_lem : (gs : List Field) (m n : ℕ) → long_enough gs m n ≡ choose (eqb (length gs) 0) (leb m n) (eqb n m)
long_enough_lem [] m n = refl
long_enough_lem (g ∷ gs) m n = rw (eqb-suc-zero (length gs))

pub right_length_lem : (k : Kind) (x n : ℕ) → Packs k x → right_length (row_of k) n ≡ length_fits x n
right_length_lem k x n P = rw (P.most, P.first, P.least, P.group, P.last, long_enough_lem (row_of k).group (known_length (row_of k) n) n, fields_length (row_of k) (times (row_of k) n))

nil_length : (xs : List ℕ) → is_nil xs ≡ eqb (length xs) 0
nil_length [] = refl
nil_length (x ∷ xs) = sym (eqb-suc-zero (length xs))

-- A test of each element is a test at each place.
pub all_places : (ok : ℕ → Bool) (ns : List ℕ) (at : ℕ → Bool) → ((i : ℕ) → i < length ns → ok (get_or ns i 0) ≡ at i) → all_of ok ns ≡ all_below (length ns) at
all_places ok ns at e =
    same_truth _ _ (λ h. below_all (length ns) at (λ i l. sym (e i l) ∙ all_of_lem ok ns h i 0 l)) (λ h. of_all ok ns (λ i l. e i l ∙ all_below_lem (length ns) at h i l))

module _ (L : Layout) (n : Counts) (types : length L.types ≡ n.types) (domains : length L.domains ≡ n.domains) (terms : length L.terms ≡ n.terms) where
  -- 5
  in_order : (k : Kind) → in_order_of k L ≡ order_fits (section_number k) n
  in_order domain = rw (nil_length L.types, nil_length L.terms, types, terms)
  in_order (type k) = rw (nil_length L.terms, terms)
  in_order (term k) = refl

  -- 6
  has_capacity_lem : (k : Kind) → has_capacity k L ≡ capacity_fits (section_number k) n
  has_capacity_lem domain = rw domains
  has_capacity_lem (type k) = rw types
  has_capacity_lem (term k) = rw terms

  pub order_law : (k : Kind) (x : ℕ) → Packs k x → in_order_of k L ≡ order_fits (section_of x) n
  order_law k x P = in_order k ∙ ap (λ s. order_fits s n) (sym P.section)

  pub capacity_law : (k : Kind) (x : ℕ) → Packs k x → has_capacity k L ≡ capacity_fits (section_of x) n
  capacity_law k x P = has_capacity_lem k ∙ ap (λ s. capacity_fits s n) (sym P.section)
