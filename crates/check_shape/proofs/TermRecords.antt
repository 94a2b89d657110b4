-- Laws of the records of domains and terms: what a layout says of them.
use Prim.Native.Nat.{ℕ, ◌<◌}
use native.Mathlib.Omega.{arith}
use mathlib.Core.Path.{◌≡◌, refl, subst, sym}
use mathlib.Core.List.{List}
use lib.ListN.{length, take}
use Rattle.image.specs.Records.{Layout}
use Rattle.image.specs.Layout.{records_of}
use Rattle.image.specs.Types.{term_place, term_kind, children}
use Rattle.image.proofs.Laid.{LayoutOk, layout_good, image_kept}
use Rattle.read_records.specs.Tables.{Tables}
use Rattle.read_records.proofs.Codes.{known_code, kind_small}
use Rattle.read_records.proofs.Parts.{whole, children_fit, children_are}
use Rattle.check_uses.proofs.ChildByChild.{below_lower}
use Rattle.check_shape.specs.Records.{TermAt, children_of_term, DomainsOf, Domains, TermsOf, Terms}

-- What a good layout says of its domains and terms.
module _ (L : Layout) (G : LayoutOk L) where
  good_domains : DomainsOf L L.image L.domains
  good_domains =
      record {
        image = refl;
        offsets = refl;
        few = G.few_domains;
        stands = λ d l. let s = G.domains d l in record { whole = (omega (arith, s.size), s.inside); mask = omega (arith, s.size) };
      }

  -- A term's record, and its children.
  module _ (n : ℕ) (l : n < length L.terms) where
    good_children : children L n ≡ children_of_term L.image (term_place L n)
    good_children = let g = G.terms n l in sym (children_are L.image (term_place L n) (term_kind L n) _ (known_code _ _ g.kind) g.is.stands)

    good_term : TermAt L.image (term_place L n)
    good_term =
        let g = G.terms n l in
        let P = known_code _ _ g.kind in
        record {
          known = kind_small _ _ g.kind;
          whole = whole L.image (term_place L n) (term_kind L n) _ P g.is.stands;
          fitting = children_fit L.image (term_place L n) (term_kind L n) _ P g.is.stands;
        }

  good_terms : TermsOf L L.image L.terms
  good_terms =
      record {
        offsets = refl;
        few = G.few_terms;
        stands = good_term;
        lower = λ n l. rw (← good_children n l) (below_lower n _ (G.terms n l).below);
        same = good_children;
      }

-- The tables hold them.
module _ (b ds ns ks : List ℕ) (T : Tables b ds ns ks) where
  good : LayoutOk (records_of b)
  good = layout_good b (records_of b) T.laid_out

  is_image : (records_of b).image ≡ b
  is_image = image_kept b (records_of b) T.laid_out

  pub domains_of : Domains b (take (length (records_of b).domains) ds)
  domains_of = rw T.domains (subst (λ x. DomainsOf (records_of b) x (records_of b).domains) is_image (good_domains (records_of b) good))

  pub terms_of_lem : Terms b (take (length (records_of b).terms) ns)
  terms_of_lem = rw T.terms (subst (λ x. TermsOf (records_of b) x (records_of b).terms) is_image (good_terms (records_of b) good))
