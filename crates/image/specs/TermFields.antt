-- The fields of a term's record from its type, its other fields and its children: reading a record (Records) the other way round.
use Rattle.std.specs.Prelude.{ℕ, zero, suc, ◌+◌, ◌-◌, List, [], ◌∷◌, ◌++◌, length}
use Rattle.image.specs.Kinds.{Field, a_type, own, a_term, an_entry, TermKind, Row, term_row, fields_of}
use Rattle.image.specs.Records.{as_child, as_other}

-- The first of some numbers, 0 if there is none, and the rest.
abbrev pub next : List ℕ → ℕ
next [] = 0
next (v ∷ vs) = v

abbrev pub rest : List ℕ → List ℕ
rest [] = []
rest (v ∷ vs) = vs

-- The numbers of the fields fs: t for a type, and in their order the others vs and the children es. An entry takes a child where its other is not 0.
unfoldable pub filled : List Field → ℕ → List ℕ → List ℕ → List ℕ
filled [] t vs es = []
filled (a_type ∷ fs) t vs es = t ∷ filled fs t vs es
filled (own r ∷ fs) t vs es = next vs ∷ filled fs t (rest vs) es
filled (a_term b ∷ fs) t vs es = next es ∷ filled fs t vs (rest es)
filled (an_entry ∷ fs) t vs es = elim (next vs) [ zero ↦ 0 ∷ filled fs t (rest vs) es | suc n ↦ suc (next es) ∷ filled fs t (rest vs) (rest es) ]

-- How many numbers fields give that are all of number n.
abbrev pub giving : (Field → ℕ → List ℕ) → ℕ → List Field → ℕ
giving of n [] = 0
giving of n (f ∷ fs) = length (of f n) + giving of n fs

-- How often a term's group, which is one field or none, stands where v others and e children are left for it.
abbrev pub standing : List Field → ℕ → ℕ → ℕ
standing [] v e = 0
standing (f ∷ fs) v e = elim (as_other f 0) [ [] ↦ e | o ∷ os ↦ v ]

abbrev pub times_for : Row → List ℕ → List ℕ → ℕ
times_for r vs es = standing r.group (length vs - giving as_other 0 (r.first ++ r.last)) (length es - giving as_child 0 (r.first ++ r.last))

-- The fields of a term of kind k, of type number t, with the others vs and the children es.
unfoldable pub term_fields : TermKind → ℕ → List ℕ → List ℕ → List ℕ
term_fields k t vs es = filled (fields_of (term_row k) (times_for (term_row k) vs es)) t vs es
