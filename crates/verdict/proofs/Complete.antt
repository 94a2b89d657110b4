-- A well-typed term passes the typing pass.
use Rattle.std.specs.Prelude.{Ok}
use Prim.Native.Nat.{ℕ, zero, suc, ◌<◌}
use mathlib.Core.Path.{◌≡◌, refl, sym, subst}
use mathlib.Core.List.{List, [], ◌∷◌}
use mathlib.Core.Option.{none}
use lib.ListN.{length}
use Rattle.calculus.specs.Syntax.{Ty}
use Rattle.calculus.specs.Typing.{no_store, ◌⨾◌⊢◌⦂◌ as TmTy}
use Rattle.laws.specs.Tests.{first_fault}
use Rattle.image.specs.Records.{Layout}
use Rattle.image.specs.Types.{term_kind, type_no, stated_type, others, children}
use Rattle.image.specs.Program.{subtrees, tree, assemble}
use Rattle.image.proofs.Laid.{Below, LayoutOk}
use Rattle.verdict.specs.Domains.{policy}
use Rattle.verdict.specs.Settings.{Setting}
use Rattle.verdict.specs.Rules.{Rule, rule_faults}
use Rattle.verdict.specs.Check.{type_nos, rule_at, setting_at, check_all, check}
use Rattle.verdict.specs.WellTyped.{stateds, aborts, child_setting, WellTyped, EachWellTyped}
use Rattle.verdict.proofs.Local.{outs}
use Rattle.verdict.proofs.Contexts.{contexts}
use Rattle.verdict.proofs.LocalComplete.{Passes, local_complete}
use Rattle.verdict.proofs.Sound.{setting_out, term_facts, trees_stated, child_setting_lem}

no_fault : (r : Rule) → Passes r → first_fault (rule_faults r) ≡ none
unfolding first_fault
no_fault r p = let a = p.bound in let b = p.typed in let c = p.allowed in rw (a, b, c, first_fault) refl

module _ (L : Layout) (good : LayoutOk L) where
  unfoldable pub ChildComplete : ℕ → Type 0
  ChildComplete f = (q : Setting ℕ) (e : ℕ) → e < length L.terms → Below (length L.types) q.context → WellTyped (policy L) (setting_out L q) (tree L f e) → check L f q e ≡ Ok tt

  children_complete : (f : ℕ) → ChildComplete f → (at : ℕ → Setting ℕ) → ((i : ℕ) → Below (length L.types) (at i).context) → (i : ℕ) (es : List ℕ) → Below (length L.terms) es
      → EachWellTyped (policy L) (λ j. setting_out L (at j)) i (subtrees (λ e. tree L f e) es) → check_all L (λ j e. check L f (at j) e) i es ≡ Ok tt
  unfolding check_all ChildComplete WellTyped
  children_complete f ih at g i [] b w = refl
  children_complete f ih at g i (e ∷ es) b w =
      let h : check L f (at i) e ≡ Ok tt = ih (at i) e b.0 (g i) w.0 in
      rw (h, check_all) (children_complete f ih at g (suc i) es b.1 w.1)

  -- Children that are well typed state the types of their records.
  children_stated : (f : ℕ) (at : ℕ → Setting Ty) (i : ℕ) (es : List ℕ) → EachWellTyped (policy L) at i (subtrees (λ e. tree L f e) es) → stateds (subtrees (λ e. tree L f e) es) ≡ outs L (type_nos L es)
  unfolding WellTyped tree
  children_stated zero at i [] w = refl
  children_stated zero at i (e ∷ es) w = absurd w.0
  children_stated (suc f) at i es w = trees_stated L good f es

  -- A term that is well typed passes.
  pub check_complete : (f : ℕ) → ChildComplete f
  unfolding check tree ChildComplete WellTyped
  check_complete zero p n l g w = absurd w
  check_complete (suc f) p n l g w =
      let t = term_facts L good n l in
      let s = children_stated f _ 0 (children L n) w.1 in
      let d = subst (λ ts. TmTy (policy L) no_store (outs L p.context) p.dom (assemble (term_kind L n) (stated_type L n) (others L n) (aborts ts)) (stated_type L n)) s w.0 in
      let r = local_complete L good (term_kind L n) p.context p.dom (type_no L n) (others L n) (type_nos L (children L n)) t.least t.most t.own t.types g d in
      let inside : (i : ℕ) → Below (length L.types) (setting_at L p n i).context = λ i. (contexts L good (term_kind L n) p.context p.dom (type_no L n) (others L n) (type_nos L (children L n)) t.least t.most t.own t.types r.typed i).inside g in
      let w₁ = subst (λ ts. EachWellTyped (policy L) (child_setting (setting_out L p) (term_kind L n) (stated_type L n) (others L n) ts) 0 (subtrees (λ e. tree L f e) (children L n))) s w.1 in
      let w₂ = subst (λ at. EachWellTyped (policy L) at 0 (subtrees (λ e. tree L f e) (children L n))) (sym (child_setting_lem L good p n l r.typed)) w₁ in
      let c = children_complete f (check_complete f) (λ i. setting_at L p n i) inside 0 (children L n) t.below w₂ in
      let q : first_fault (rule_faults (rule_at L p n)) ≡ none = no_fault (rule_at L p n) r in
      rw (q, check) c
