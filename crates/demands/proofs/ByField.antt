-- The domains that an accepted image names are below 16, so that high by the 2 bytes that a domain is written to is high.
use Prim.Native.Nat.{ℕ, zero, suc, ◌%◌, ◌<◌}
use native.Mathlib.Omega.{arith}
use native.Mathlib.Nat.{mod-eq_of_lt}
use mathlib.Core.Path.{◌≡◌, refl, sym, ap, ap₂, subst, fun_ext, ◌∙◌}
use mathlib.Core.Bool.{Bool, true, false, not}
use mathlib.Core.List.{List, [], ◌∷◌}
use lib.ListN.{length, get_or}
use Rattle.calculus.specs.Syntax.{Dom, Ty}
use Rattle.calculus.specs.Plain.{dom_of, methods_of, method_dom}
use Rattle.image.specs.Limits.{domain_limit}
use Rattle.image.specs.Bytes.{words}
use Rattle.image.specs.Kinds.{a_domain, free, Body, here, function_body, advice_body, split_body, lower_body, object_body, match_body, TermKind, term_row, body_of}
use Rattle.image.specs.Records.{Layout, fields_at, numbers_at, others_at}
use Rattle.image.specs.Types.{term_place, term_kind, stated_type, others, children, root_of}
use Rattle.image.specs.Program.{Program, node, blank, more, subtrees, tree, program, own_domain, is_low, low_body, blanked, blankeds}
use Rattle.image.proofs.Laid.{Below, LayoutOk}
use Rattle.image.proofs.Bodies.{Owner, body_owner}
use Rattle.image.proofs.TypeDomains.{type_domain, method_domain_lem}
use Rattle.report.specs.Fits.{short_size, by_field}

pub small_field : (high : Dom → Bool) (d : Dom) → d < domain_limit → by_field high d ≡ high d
small_field high d l = let e : d % short_size ≡ d = mod-eq_of_lt (omega arith) in ap high e

-- Two sets that have the same domains below 16 tell the same low bodies of the term at o, of kind k and type t.
module _ (hi hi' : Dom → Bool) (same : (d : Dom) → d < domain_limit → hi d ≡ hi' d) where
  abbrev Domained : List ℕ → ℕ → TermKind → Type 0
  Domained b o k = (i : ℕ) → get_or (fields_at b o (term_row k)) i free ≡ a_domain → get_or (numbers_at b o (term_row k)) i 0 < domain_limit

  low_same : (b : List ℕ) (o : ℕ) (t : Ty) → dom_of t < domain_limit → ((j : ℕ) → method_dom (methods_of t) j < domain_limit) → (k : TermKind) → Domained b o k → (i : ℕ) → low_body hi k t (others_at b o (term_row k)) i ≡ low_body hi' k t (others_at b o (term_row k)) i
  unfolding words
  low_same b o t l m k h i = go (body_of k i) (body_owner k i)
    where
      -- the field p of a lower
      own : k ≡ TermKind.lower → get_or (others_at b o (term_row k)) 0 0 < domain_limit
      own e = subst (λ j. Domained b o j → get_or (others_at b o (term_row j)) 0 0 < domain_limit) (sym e) (λ f. f 1 refl) h

      go : (body : Body) → Owner k body → is_low hi (own_domain body t (others_at b o (term_row k)) i) ≡ is_low hi' (own_domain body t (others_at b o (term_row k)) i)
      go here w = refl
      go function_body w = ap not (same (dom_of t) l)
      go advice_body w = ap not (same (dom_of t) l)
      go split_body w = refl
      go lower_body w = ap not (same _ (own w))
      go object_body w = ap not (same _ (m i))
      go match_body w = refl

  -- Subtrees that are blanked to the same are so beside each other, whichever of them are low bodies.
  subtrees_same : (g : ℕ → Program) (m : ℕ) → ((e : ℕ) → e < m → blanked hi (g e) ≡ blanked hi' (g e)) → (es : List ℕ) → Below m es
      → (low : ℕ → Bool) → blankeds hi (subtrees g es) low ≡ blankeds hi' (subtrees g es) low
  unfolding blanked
  subtrees_same g m h [] l low = refl
  subtrees_same g m h (e ∷ es) l low = ap₂ more (pick (low 0) (h e l.0)) (subtrees_same g m h es l.1 (λ i. low (suc i)))
    where
      pick : (s : Bool) → blanked hi (g e) ≡ blanked hi' (g e) → ◌≡◌ {A = Program} (elim s [ true ↦ blank | false ↦ blanked hi (g e) ]) (elim s [ true ↦ blank | false ↦ blanked hi' (g e) ])
      pick true q = refl
      pick false q = q

  module _ (L : Layout) (good : LayoutOk L) where
    tree_same : (f n : ℕ) → n < length L.terms → blanked hi (tree L f n) ≡ blanked hi' (tree L f n)
    unfolding tree blanked
    tree_same zero n l = refl
    tree_same (suc f) n l =
        let ok = good.terms n l in
        let few = good.few_domains in
        let low = low_same L.image (term_place L n) (stated_type L n) (type_domain L good _ ok.typed) (method_domain_lem L good _ ok.typed) (term_kind L n) (λ i e. let z = ok.domained i e in omega arith) in
        ap (node (term_kind L n) (stated_type L n) (others L n))
        (subtrees_same (λ e. tree L f e) n (λ e m. tree_same f e (omega arith)) (children L n) ok.below (low_body hi (term_kind L n) (stated_type L n) (others L n))
        ∙ ap (blankeds hi' (subtrees (λ e. tree L f e) (children L n))) (fun_ext low))

    pub program_same : 0 < length L.terms → blanked hi (program L) ≡ blanked hi' (program L)
    unfolding program
    program_same h = tree_same (length L.terms) (root_of L) (omega arith)
