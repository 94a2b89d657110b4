-- The tables with one record more.
use Prim.Native.Nat.{ℕ, ◌+◌, ◌<◌}
use native.Mathlib.Omega.{arith}
use native.Mathlib.Numerals.{add-one}
use mathlib.Core.Path.{◌≡◌, sym, ap, subst, ◌∙◌}
use mathlib.Core.List.{List, [], ◌∷◌, ◌++◌}
use lib.ListN.{length, get_or, take, set, length-set}
use lib.Seq.{length-take-le, get_or-set_same, get_or-set_other, take-suc-set}
use Rattle.image.specs.Limits.{domain_limit, type_limit, term_limit}
use Rattle.image.specs.Kinds.{TypeKind, TermKind, domain, type, term}
use Rattle.image.specs.Records.{Layout}
use Rattle.image.specs.Layout.{add}
use Rattle.laws.proofs.Lists.{each_snoc}
use Rattle.read_records.specs.declared.numbers.Counts.{Counts}
use Rattle.read_records.specs.Counts.{with_domain, with_type, with_term}
use Rattle.read_records.specs.Descriptors.{Describes}
use Rattle.check_layout.specs.Tables.{layout_of, Described, Tables}

-- A table with one offset more.
grown : (ts : List ℕ) (n o : ℕ) → n < length ts → take (n + 1) (set ts n o) ≡ take n ts ++ (o ∷ [])
grown ts n o h = ap (λ m. take m (set ts n o)) (add-one n) ∙ take-suc-set ts n o h

module _ {b : List ℕ} {n : Counts} {ds ts ks es : List ℕ} (T : Tables b n ds ts ks es) where
  abbrev L : Layout
  L = layout_of b n ds ts es

  pub type_count_lem : length L.types ≡ n.types
  type_count_lem = let h = T.few.types in let k = T.long.types in length-take-le n.types ts (omega arith)

  pub domain_count : length L.domains ≡ n.domains
  domain_count = let h = T.few.domains in let k = T.long.doms in length-take-le n.domains ds (omega arith)

  pub term_count_lem : length L.terms ≡ n.terms
  term_count_lem = let h = T.few.terms in let k = T.long.terms in length-take-le n.terms es (omega arith)

  module _ (o : ℕ) where
    pub domain_more : n.domains < domain_limit → layout_of b (with_domain n) (set ds n.domains o) ts es ≡ add domain o L
    domain_more h = let k = T.long.doms in rw (grown ds n.domains o (omega arith))

    pub term_more : (k : TermKind) → n.terms < term_limit → layout_of b (with_term n) ds ts (set es n.terms o) ≡ add (term k) o L
    term_more k h = let l = T.long.terms in rw (grown es n.terms o (omega arith))

    pub type_more : (k : TypeKind) → n.types < type_limit → layout_of b (with_type n) ds (set ts n.types o) es ≡ add (type k) o L
    type_more k h = let l = T.long.types in rw (grown ts n.types o (omega arith))

    pub domain_kept : n.domains < domain_limit → Tables b (with_domain n) (set ds n.domains o) ts ks es
    domain_kept h =
        record {
          few = record { domains = omega arith; types = T.few.types; terms = T.few.terms };
          long = record { doms = rw (length-set ds n.domains o) T.long.doms; types = T.long.types; descriptors = T.long.descriptors; terms = T.long.terms };
          described = subst (λ M. Described M ks) (sym (domain_more h)) (record { at = T.described.at });
        }

    pub term_kept : (k : TermKind) → n.terms < term_limit → Tables b (with_term n) ds ts ks (set es n.terms o)
    term_kept k h =
        record {
          few = record { domains = T.few.domains; types = T.few.types; terms = omega arith };
          long = record { doms = T.long.doms; types = T.long.types; descriptors = T.long.descriptors; terms = rw (length-set es n.terms o) T.long.terms };
          described = subst (λ M. Described M ks) (sym (term_more k h)) (record { at = T.described.at });
        }

    -- The descriptors with one more.
    described_more : (k : TypeKind) (x : ℕ) → n.types < type_limit → Describes b o x → Described (add (type k) o L) (set ks n.types x)
    described_more k x h X = record { at = each_snoc (λ t r. Describes b r (get_or (set ks n.types x) t 0)) L.types o 0 old new }
      where
        old : (t : ℕ) → t < length L.types → Describes b (get_or L.types t 0) (get_or (set ks n.types x) t 0)
        old t l = rw (get_or-set_other ks n.types t x 0 (λ e. let m = type_count_lem in absurd (omega arith))) (T.described.at t l)

        new : Describes b o (get_or (set ks n.types x) (length L.types) 0)
        new = let l = T.long.descriptors in rw (type_count_lem, get_or-set_same ks n.types x 0 (omega arith)) X

    pub type_kept : (k : TypeKind) (x : ℕ) → n.types < type_limit → Describes b o x → Tables b (with_type n) ds (set ts n.types o) (set ks n.types x) es
    type_kept k x h X =
        record {
          few = record { domains = T.few.domains; types = omega arith; terms = T.few.terms };
          long =
              record {
                doms = T.long.doms;
                types = rw (length-set ts n.types o) T.long.types;
                descriptors = rw (length-set ks n.types x) T.long.descriptors;
                terms = T.long.terms;
              };
          described = subst (λ M. Described M (set ks n.types x)) (sym (type_more k h)) (described_more k x h X);
        }
