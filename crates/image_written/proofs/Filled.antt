-- The fields of a term that is written: as many as its kind has, in their ranges, and read back.
use Prim.Native.Nat.{ℕ, zero, suc, ◌<◌}
use native.Mathlib.Omega.{arith}
use mathlib.Core.Path.{◌≡◌, sym, ap, subst, ◌∙◌}
use mathlib.Core.List.{List, [], ◌∷◌}
use lib.ListN.{length, get_or}
use Rattle.image.specs.Kinds.{Range, in_domains, in_operations, in_truths, any_number, Field, a_type, own, free, a_term, an_entry, TermKind, term_row, fields_of}
use Rattle.image.specs.Records.{as_child, as_other, given}
use Rattle.image.specs.TermFields.{filled, term_fields}
use Rattle.image.specs.LaidOut.{Within}
use Rattle.image.proofs.Laid.{Below}
use Rattle.image.proofs.TermFields.{Back, filled_read, filled_times, filled_first}
use Rattle.image_written.proofs.Writable.{Ranged, Fielded}

own_within : (n types terms : ℕ) (r : Range) (w : ℕ) → Within n 0 0 (own r) w → Within n types terms (own r) w
own_within n types terms in_domains w h = h
own_within n types terms in_operations w h = h
own_within n types terms in_truths w h = h
own_within n types terms any_number w h = tt

-- Filled with the type t and other children, its fields are in their ranges.
filled_within : (n types terms t : ℕ) (fs : List Field) (ws es : List ℕ) → length ws ≡ length fs → Ranged n fs ws → t < types → Below terms es → length es ≡ length (given as_child fs ws)
    → (i : ℕ) → i < length fs → Within n types terms (get_or fs i free) (get_or (filled fs t (given as_other fs ws) es) i 0)
unfolding filled
filled_within n types terms t [] ws es l r h b c i k = absurd (omega arith)
filled_within n types terms t (f ∷ fs) [] es l r h b c i k = absurd (omega arith)
filled_within n types terms t (a_type ∷ fs) (w ∷ ws) es l r h b c zero k = h
filled_within n types terms t (a_type ∷ fs) (w ∷ ws) es l r h b c (suc i) k = filled_within n types terms t fs ws es (omega arith) r h b c i (omega arith)
filled_within n types terms t (own x ∷ fs) (w ∷ ws) es l r h b c zero k = own_within n types terms x w r.0
filled_within n types terms t (own x ∷ fs) (w ∷ ws) es l r h b c (suc i) k = filled_within n types terms t fs ws es (omega arith) r.1 h b c i (omega arith)
filled_within n types terms t (a_term x ∷ fs) (w ∷ ws) [] l r h b c i k = absurd (omega arith)
filled_within n types terms t (a_term x ∷ fs) (w ∷ ws) (e ∷ es) l r h b c zero k = b.0
filled_within n types terms t (a_term x ∷ fs) (w ∷ ws) (e ∷ es) l r h b c (suc i) k = filled_within n types terms t fs ws es (omega arith) r h b.1 (omega arith) i (omega arith)
filled_within n types terms t (an_entry ∷ fs) (zero ∷ ws) es l r h b c zero k = omega arith
filled_within n types terms t (an_entry ∷ fs) (zero ∷ ws) es l r h b c (suc i) k = filled_within n types terms t fs ws es (omega arith) r h b c i (omega arith)
filled_within n types terms t (an_entry ∷ fs) (suc w ∷ ws) [] l r h b c i k = absurd (omega arith)
filled_within n types terms t (an_entry ∷ fs) (suc w ∷ ws) (e ∷ es) l r h b c zero k = let z = b.0 in omega arith
filled_within n types terms t (an_entry ∷ fs) (suc w ∷ ws) (e ∷ es) l r h b c (suc i) k = filled_within n types terms t fs ws es (omega arith) r h b.1 (omega arith) i (omega arith)

-- The fields of a term of kind k with the others vs and the children ns.
module _ (n : ℕ) (k : TermKind) (vs ns : List ℕ) (F : Fielded n k vs (length ns)) (t : ℕ) where
  abbrev pub sorts : List Field
  sorts = fields_of (term_row k) F.groups

  as_filled : term_fields k t vs ns ≡ filled sorts t vs ns
  as_filled = subst (λ xs. term_fields k t xs ns ≡ filled sorts t xs ns) F.others (filled_times k F.groups F.numbers F.sized.count F.sized.none t ns (sym F.children))

  back : Back sorts t vs ns
  back = subst (λ xs. Back sorts t xs ns) F.others (filled_read k F.groups F.numbers F.sized.count F.sized.none t ns (sym F.children))

  pub fields_count : length (term_fields k t vs ns) ≡ length sorts
  fields_count = ap length as_filled ∙ back.size

  pub fields_others : given as_other sorts (term_fields k t vs ns) ≡ vs
  fields_others = ap (λ ws. given as_other sorts ws) as_filled ∙ back.others

  pub fields_children : given as_child sorts (term_fields k t vs ns) ≡ ns
  fields_children = ap (λ ws. given as_child sorts ws) as_filled ∙ back.children

  pub fields_type : get_or (term_fields k t vs ns) 0 0 ≡ t
  fields_type = ap (λ ws. get_or ws 0 0) as_filled ∙ subst (λ xs. get_or (filled sorts t xs ns) 0 0 ≡ t) F.others (filled_first k F.groups F.numbers F.sized.count F.sized.none t ns)

  pub fields_within : (types terms : ℕ) → t < types → Below terms ns → (i : ℕ) → i < length sorts → Within n types terms (get_or sorts i free) (get_or (term_fields k t vs ns) i 0)
  fields_within types terms h b i l =
      subst (λ ws. Within n types terms (get_or sorts i free) (get_or ws i 0)) (sym as_filled)
      (subst (λ xs. Within n types terms (get_or sorts i free) (get_or (filled sorts t xs ns) i 0)) F.others
      (filled_within n types terms t sorts F.numbers ns F.sized.count F.ranged h b (sym F.children) i l))
