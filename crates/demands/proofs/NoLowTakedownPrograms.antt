-- Card 13: a program of whose low bodies none contains a takedown is calm.
use Prim.Native.Nat.{ℕ, zero, suc}
use mathlib.Core.Path.{◌≡◌, refl, subst}
use mathlib.Core.Bool.{Bool, true, false}
use mathlib.Core.List.{List}
use mathlib.Core.Option.{Option, none, some}
use borrow.Author.Tests.{not-false}
use Rattle.calculus.specs.Combinators.{choose}
use Rattle.calculus.specs.Syntax.{Dom, Ty, Sigs, no_method, method, Tm, Tms}
use Rattle.calculus.specs.Plain.{methods_of, method_dom}
use Rattle.laws.proofs.Booleans.{or_false_l, or_false_r}
use Rattle.image.specs.Kinds.{TermKind, body_of}
use Rattle.image.specs.Program.{Program, node, blank, Programs, end, more, nth, behind, assemble, to_tm, to_tms, own_domain, is_low}
use Rattle.calculus_noninterference.specs.NoLowTakedown.{NoLowTakedown, NoLowTakedowns, NoLowTakedownBodies, NoLowTakedownVal}
use Rattle.calculus_noninterference.proofs.Clash.{clash}
use Rattle.demands.specs.LowTakedowns.{is_takedown, takes_down, take_down, low_takes_down, low_take_down}

-- The domain at which a child runs: its own, else that of the term.
abbrev child_dom : Dom → Option Dom → Dom
child_dom c none = c
child_dom c (some p) = p

module _ (high : Dom → Bool) where
  -- Of the subterms of a term that runs at c, of which own says the domains of their own.
  record NoLowTakedownParts (c : Dom) (own : ℕ → Option Dom) (es : Tms) : Type 0 where
    one : (i : ℕ) → NoLowTakedown high (child_dom c (own i)) (nth es i)
    every : ((i : ℕ) → own i ≡ none) → NoLowTakedowns high c es
    bodies : (ms : Sigs) → ((i : ℕ) → own i ≡ some (method_dom ms i)) → NoLowTakedownBodies high ms es

  match_own : (t : Ty) (vs : List ℕ) (i : ℕ) → own_domain (body_of TermKind.match i) t vs i ≡ none
  match_own t vs zero = refl
  match_own t vs (suc zero) = refl
  match_own t vs (suc (suc zero)) = refl
  match_own t vs (suc (suc (suc i))) = refl

  no_low_takedown_behind : (c : Dom) (n : ℕ) (es : Tms) → NoLowTakedowns high c es → NoLowTakedowns high c (behind n es)
  unfolding NoLowTakedowns
  no_low_takedown_behind c zero es x = x
  no_low_takedown_behind c (suc n) Tms.end x = tt
  no_low_takedown_behind c (suc n) (Tms.more e es) x = no_low_takedown_behind c n es x.1

  no_low_takedown_assembled : (k : TermKind) (t : Ty) (vs : List ℕ) (c : Dom) (es : Tms) → (is_takedown k ≡ true → high c ≡ true) → NoLowTakedownParts c (λ i. own_domain (body_of k i) t vs i) es → NoLowTakedown high c (assemble k t vs es)
  unfolding assemble NoLowTakedown NoLowTakedowns NoLowTakedownVal
  no_low_takedown_assembled TermKind.unit t vs c es h x = tt
  no_low_takedown_assembled TermKind.truth t vs c es h x = tt
  no_low_takedown_assembled TermKind.number t vs c es h x = tt
  no_low_takedown_assembled TermKind.var t vs c es h x = tt
  no_low_takedown_assembled TermKind.seq t vs c es h x = (x.one 0, x.one 1)
  no_low_takedown_assembled TermKind.print t vs c es h x = x.one 0
  no_low_takedown_assembled TermKind.ite t vs c es h x = (x.one 0, x.one 1, x.one 2)
  no_low_takedown_assembled TermKind.pair t vs c es h x = (x.one 0, x.one 1)
  no_low_takedown_assembled TermKind.split t vs c es h x = (x.one 0, x.one 1)
  no_low_takedown_assembled TermKind.fun t vs c es h x = x.one 0
  no_low_takedown_assembled TermKind.app t vs c es h x = (x.one 0, x.one 1)
  no_low_takedown_assembled TermKind.arith t vs c es h x = (x.one 0, x.one 1)
  no_low_takedown_assembled TermKind.new_label t vs c es h x = tt
  no_low_takedown_assembled TermKind.mark t vs c es h x = (x.one 0, x.one 1)
  no_low_takedown_assembled TermKind.pcd t vs c es h x = x.every (λ i. refl)
  no_low_takedown_assembled TermKind.adv t vs c es h x = (x.one 0, x.one 1)
  no_low_takedown_assembled TermKind.install t vs c es h x = x.one 0
  no_low_takedown_assembled TermKind.new_cell t vs c es h x = x.one 0
  no_low_takedown_assembled TermKind.read t vs c es h x = x.one 0
  no_low_takedown_assembled TermKind.store t vs c es h x = (x.one 0, x.one 1)
  no_low_takedown_assembled TermKind.lower t vs c es h x = x.one 0
  no_low_takedown_assembled TermKind.abort t vs c es h x = tt
  no_low_takedown_assembled TermKind.byte t vs c es h x = x.one 0
  no_low_takedown_assembled TermKind.obj t vs c es h x = x.bodies (methods_of t) (λ i. refl)
  no_low_takedown_assembled TermKind.call t vs c es h x = x.one 0
  no_low_takedown_assembled TermKind.stack t vs c es h x = tt
  no_low_takedown_assembled TermKind.keep t vs c es h x = (x.one 0, x.one 1, x.one 2)
  no_low_takedown_assembled TermKind.match t vs c es h x = ((x.one 0, no_low_takedown_behind c 3 es (x.every (match_own t vs))), x.one 1, x.one 2)
  no_low_takedown_assembled TermKind.takedown t vs c es h x = h refl

  -- One more subterm, which stands first; and none.
  no_low_takedown_first : (c : Dom) (own : ℕ → Option Dom) (e : Tm) (es : Tms) → NoLowTakedown high (child_dom c (own 0)) e → NoLowTakedownParts c (λ i. own (suc i)) es → NoLowTakedownParts c own (Tms.more e es)
  unfolding NoLowTakedowns NoLowTakedownBodies
  no_low_takedown_first c own e es h r = record { one = one; every = every; bodies = bodies }
    where
      one : (i : ℕ) → NoLowTakedown high (child_dom c (own i)) (nth (Tms.more e es) i)
      one zero = h
      one (suc i) = r.one i

      every : ((i : ℕ) → own i ≡ none) → NoLowTakedowns high c (Tms.more e es)
      every n = (subst (λ o. NoLowTakedown high (child_dom c o) e) (n 0) h, r.every (λ i. n (suc i)))

      bodies : (ms : Sigs) → ((i : ℕ) → own i ≡ some (method_dom ms i)) → NoLowTakedownBodies high ms (Tms.more e es)
      bodies no_method n = (subst (λ o. NoLowTakedown high (child_dom c o) e) (n 0) h, r.bodies no_method (λ i. n (suc i)))
      bodies (method p a ms) n = (subst (λ o. NoLowTakedown high (child_dom c o) e) (n 0) h, r.bodies ms (λ i. n (suc i)))

  no_low_takedown_nothing : (c : Dom) (own : ℕ → Option Dom) → NoLowTakedownParts c own Tms.end
  unfolding NoLowTakedown NoLowTakedowns NoLowTakedownBodies NoLowTakedownVal
  no_low_takedown_nothing c own = record { one = λ i. tt; every = λ n. tt; bodies = λ ms n. tt }

  -- Without any takedown, at any domain.
  mutual
    unfolding to_tm to_tms takes_down take_down NoLowTakedown NoLowTakedownVal

    no_low_takedown_without : (e : Program) (c : Dom) → takes_down e ≡ false → NoLowTakedown high c (to_tm e)
    no_low_takedown_without (node k t vs es) c h = no_low_takedown_assembled k t vs c (to_tms es) (λ z. clash z (or_false_l (is_takedown k) (take_down es) h)) (parts_without es c (λ i. own_domain (body_of k i) t vs i) (or_false_r (is_takedown k) (take_down es) h))
    no_low_takedown_without blank c h = tt

    parts_without : (es : Programs) (c : Dom) (own : ℕ → Option Dom) → take_down es ≡ false → NoLowTakedownParts c own (to_tms es)
    parts_without end c own h = no_low_takedown_nothing c own
    parts_without (more e es) c own h = no_low_takedown_first c own (to_tm e) (to_tms es) (no_low_takedown_without e (child_dom c (own 0)) (or_false_l (takes_down e) (take_down es) h)) (parts_without es c (λ i. own (suc i)) (or_false_r (takes_down e) (take_down es) h))

  -- A child that is no low body of a term at a high domain runs at a high domain.
  child_high : (c : Dom) (o : Option Dom) → high c ≡ true → is_low high o ≡ false → high (child_dom c o) ≡ true
  child_high c none h l = h
  child_high c (some p) h l = not-false (high p) l

  -- A child that is a low body is calm as it contains none, any other as its low bodies do.
  no_low_takedown_child : (e : Tm) (any low : Bool) (c : Dom) (o : Option Dom) (b : Bool) → is_low high o ≡ b → high c ≡ true → choose b any low ≡ false
      → (any ≡ false → NoLowTakedown high (child_dom c o) e) → (high (child_dom c o) ≡ true → low ≡ false → NoLowTakedown high (child_dom c o) e) → NoLowTakedown high (child_dom c o) e
  no_low_takedown_child e any low c o true q h l f g = f l
  no_low_takedown_child e any low c o false q h l f g = g (child_high c o h q) l

  -- Where none of the low bodies contains one, at a high domain.
  mutual
    unfolding to_tm to_tms low_takes_down low_take_down NoLowTakedown NoLowTakedownVal

    pub no_low_takedown_program : (e : Program) (c : Dom) → high c ≡ true → low_takes_down high e ≡ false → NoLowTakedown high c (to_tm e)
    no_low_takedown_program (node k t vs es) c h l = no_low_takedown_assembled k t vs c (to_tms es) (λ z. h) (no_low_takedown_parts es c (λ i. own_domain (body_of k i) t vs i) h l)
    no_low_takedown_program blank c h l = tt

    no_low_takedown_parts : (es : Programs) (c : Dom) (own : ℕ → Option Dom) → high c ≡ true → low_take_down high es (λ i. is_low high (own i)) ≡ false → NoLowTakedownParts c own (to_tms es)
    no_low_takedown_parts end c own h l = no_low_takedown_nothing c own
    no_low_takedown_parts (more e es) c own h l =
        let first : choose (is_low high (own 0)) (takes_down e) (low_takes_down high e) ≡ false = or_false_l _ (low_take_down high es (λ i. is_low high (own (suc i)))) l in
        no_low_takedown_first c own (to_tm e) (to_tms es) (no_low_takedown_child (to_tm e) (takes_down e) (low_takes_down high e) c (own 0) (is_low high (own 0)) refl h first (λ q. no_low_takedown_without e (child_dom c (own 0)) q) (λ p q. no_low_takedown_program e (child_dom c (own 0)) p q)) (no_low_takedown_parts es c (λ i. own (suc i)) h (or_false_r (choose (is_low high (own 0)) (takes_down e) (low_takes_down high e)) _ l))
