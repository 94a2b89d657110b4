-- 7 (document 01, "Turned back at the gate") on the bytes that a record's fields occupy: each is in the range of its class.
use Rattle.std.specs.Prelude.{ℕ, zero, suc, ◌+◌, ◌/◌, ◌%◌, Bool, true, ◌&&◌, List, eqb, ltb, leb}
use Rattle.image.specs.Limits.{operation_count}
use Rattle.calculus.specs.Combinators.{choose}
use Rattle.read_records.specs.declared.numbers.Counts.{Counts}
use Rattle.read_records.specs.Heads.{field_in}

-- A field of the class c (class_number of the crate read_records), behind so many records: the number of a type or of a domain that is there, an operation, one of the 2 truths, any number, the number of a term that is there, or an entry.
abbrev pub in_class : Counts → ℕ → ℕ → Bool
in_class n c v =
    choose (eqb c 0) (ltb v n.types)
    (choose (eqb c 1) (ltb v n.domains)
    (choose (eqb c 2) (ltb v operation_count)
    (choose (eqb c 3) (ltb v 2)
    (choose (eqb c 4) true
    (choose (eqb c 5) (ltb v n.terms) (leb v n.terms))))))

-- 7, of q fields from field i on, which have the lowest of the classes cs.
unfoldable pub ranges_from : ℕ → ℕ → List ℕ → Counts → ℕ → Bool
ranges_from zero cs fs n i = true
ranges_from (suc q) cs fs n i = in_class n (cs % 8) (field_in fs i) && ranges_from q (cs / 8) fs n (suc i)

-- 7, of a group of q fields that stands c times from field i on.
unfoldable pub groups_from : ℕ → ℕ → ℕ → List ℕ → Counts → ℕ → Bool
groups_from zero q cs fs n i = true
groups_from (suc c) q cs fs n i = ranges_from q cs fs n i && groups_from c q cs fs n (i + q)

-- The classes cs without the n lowest.
unfoldable pub classes_past : ℕ → ℕ → ℕ
classes_past zero cs = cs
classes_past (suc n) cs = classes_past n (cs / 8)
