-- What a step takes, of what its term needs.
use Prim.Native.Nat.{ℕ, suc, ◌+◌, ◌-◌, ◌*◌, ◌<◌, max}
use native.Mathlib.Omega.{arith}
use mathlib.Core.Path.{◌≡◌, refl, ap, ◌∙◌}
use mathlib.Core.Bool.{Bool, true, false, not}
use mathlib.Core.List.{List, [], ◌∷◌}
use mathlib.Core.Option.{Option, none, some}
use lib.ListN.{length}
use lib.Dec.{T, nleb→lt}
use Rattle.calculus.specs.declared.Outcome.{Outcome}
use Rattle.calculus.specs.Limits.{frame_limit, binding_limit, cell_limit, piece_limit, label_limit, advice_limit, log_record_length}
use Rattle.calculus.specs.Combinators.{cases}
use Rattle.calculus.specs.Syntax.{Val, Tm, val}
use Rattle.calculus.specs.State.{Advice, State, Given, Uses, add_uses, with_uses, log_of}
use Rattle.calculus.specs.Answer.{Answer, reduct, at_capacity, halt, wrong, carry, within, by_capacity, with, spend}
use Rattle.calculus.specs.Place.{Place, framed}
use Rattle.calculus_needs.specs.Here.{Here, here}
use Rattle.laws.proofs.Lists.{All}
use Rattle.calculus_needs.specs.Numbers.{Numbers, ◌⊕◌}
use Rattle.calculus_needs.specs.Class.{straight}
use Rattle.calculus_needs.specs.Needs.{once, need, round, rounds}
use Rattle.calculus_needs.specs.Used.{used_up}
use Rattle.calculus_needs.specs.Claims.{Under}
use Rattle.calculus_needs.proofs.Sums.{under_refl, under_same, under_trans, under_plus, under_left, none_right, plus_assoc}
use Rattle.calculus_needs.proofs.Admitted.{Admitted}

abbrev nothing : Numbers
nothing = Rattle.calculus_needs.specs.Numbers.none

-- The installed advice at a mark at Q.
abbrev pub standing : Here → List (Advice Tm) → Numbers
standing Q [] = nothing
standing Q (a ∷ as') = round Q a.dom a.body ⊕ standing Q as'

abbrev pub AdmittedAdvice : Advice Tm → Type 0
AdmittedAdvice a = Admitted false a.body

-- At most, and exactly so where b.
pub record Meets (b : Bool) (m n : Numbers) : Type 0 where
  pub under : Under m n
  pub exact : T b → m ≡ n

-- From s to s', at most g was used, in one step, and exactly so where b.
abbrev pub Gained : Bool → State → Numbers → State → Type 0
Gained b s g s' = (k f : ℕ) → Meets b (used_up (suc k) (max f g.frames) s') (used_up k f s ⊕ g)

pub meets_as : {b b' : Bool} {m n : Numbers} → (T b' → T b) → Meets b m n → Meets b' m n
meets_as f h = record { under = h.under; exact = λ t. h.exact (f t) }

-- g has one step, of a redex under d terms.
abbrev pub One : ℕ → Numbers → Type 0
One d g = (g.steps ≡ 1) × (g.frames ≡ d)

-- A step that would take g lacks room.
abbrev pub Lacks : Given → State → Numbers → Outcome → Type 0
Lacks G s g Outcome.Done = ⊥
Lacks G s g Outcome.Spent = ⊥
Lacks G s g Outcome.Aborted = ⊥
Lacks G s g Outcome.Frames = frame_limit < g.frames
Lacks G s g Outcome.Bindings = binding_limit < s.used.mainline.bindings + g.used.mainline.bindings
Lacks G s g Outcome.OtherBindings = binding_limit < s.used.others.bindings + g.used.others.bindings
Lacks G s g Outcome.Cells = cell_limit < s.used.mainline.cells + g.used.mainline.cells
Lacks G s g Outcome.OtherCells = cell_limit < s.used.others.cells + g.used.others.cells
Lacks G s g Outcome.Labels = label_limit < length s.labels + g.labels
Lacks G s g Outcome.Advice = advice_limit < length s.advices + g.advices
Lacks G s g Outcome.Pieces = piece_limit < s.used.mainline.pieces + g.used.mainline.pieces
Lacks G s g Outcome.OtherPieces = piece_limit < s.used.others.pieces + g.used.others.pieces
Lacks G s g Outcome.Log = G.log_length < log_record_length * (length (log_of s.trace) + g.prints)

module _ (G : Given) (W : Here → Numbers) (s : State) where
  -- The answer to a step at P, whose redex stands under d terms, of a term that needs m, installs w and is straight where b; X holds of the term that it makes.
  pub data Takes (P : Here) (X : Tm → Type 0) (m : Numbers) (w : Here → Numbers) (b : Bool) (d : ℕ) : Answer State Tm → Type 0 where
    takes_go : {s' : State} {e' : Tm} (g : Numbers) → Gained b s g s' → One d g → Meets b (g ⊕ need W P e') m → (T b → T (straight e')) → Admitted true e' → X e'
        → All AdmittedAdvice s'.advices → ((Q : Here) → Under (standing Q s'.advices ⊕ rounds Q e') (standing Q s.advices ⊕ w Q)) → Takes P X m w b d (reduct s' e')
    takes_full : {o : Outcome} (g : Numbers) → One d g → Under g m → Lacks G s g o → Takes P X m w b d (at_capacity o)
    takes_halt : (g : Numbers) → One d g → Under g m → Takes P X m w b d halt
    takes_wrong : Takes P X m w b d wrong

  -- The context k, of which rest, wr and br are the rest.
  pub record Context (P P₁ : Here) (X X' : Tm → Type 0) (rest : Numbers) (wr : Here → Numbers) (b : Bool) (k : Tm → Tm) (e : Tm) : Type 0 where
    pub needs : need W P (k e) ≡ need W P₁ e ⊕ rest
    pub rounds' : (Q : Here) → rounds Q (k e) ≡ rounds Q e ⊕ wr Q
    pub straight' : T b → T (straight e) → T (straight (k e))
    pub admitted' : Admitted true e → Admitted true (k e)
    pub holds : X' (k e)

  pub takes_within : {P P₁ : Here} {X X' : Tm → Type 0} {m : Numbers} {w : Here → Numbers} {b b' : Bool} {d : ℕ} {r : Answer State Tm}
      (rest : Numbers) (wr : Here → Numbers) (k : Tm → Tm) → (T b' → T b)
      → ((e : Tm) → X e → Context P P₁ X X' rest wr b' k e)
      → Takes P₁ X m w b d r → Takes P X' (m ⊕ rest) (λ Q. w Q ⊕ wr Q) b' d (within k r)
  unfolding carry
  takes_within {P} {P₁} {m} {w} {b'} rest wr k bs c (takes_go {s'} {e'} g gained fr meets st admitted x advices watch) =
      let C = c e' x in
      let less : Under (g ⊕ need W P (k e')) (m ⊕ rest) = rw (C.needs, ← plus_assoc g (need W P₁ e') rest) (under_plus meets.under (under_refl rest)) in
      let alike : T b' → g ⊕ need W P (k e') ≡ m ⊕ rest = λ t. rw (C.needs, ← plus_assoc g (need W P₁ e') rest, meets.exact (bs t)) refl in
      takes_go g (λ n f. meets_as bs (gained n f)) fr (record { under = less; exact = alike }) (λ t. C.straight' t (st (bs t))) (C.admitted' admitted) C.holds advices
      (λ Q. rw (C.rounds' Q, ← plus_assoc (standing Q s'.advices) (rounds Q e') (wr Q), ← plus_assoc (standing Q s.advices) (w Q) (wr Q)) (under_plus (watch Q) (under_refl (wr Q))))
  takes_within {m} rest wr k bs c (takes_full g fr u l) = takes_full g fr (under_trans u (under_left m rest)) l
  takes_within {m} rest wr k bs c (takes_halt g fr u) = takes_halt g fr (under_trans u (under_left m rest))
  takes_within rest wr k bs c takes_wrong = takes_wrong

  -- The same numbers, in other words.
  pub takes_as : {P : Here} {X : Tm → Type 0} {m m' : Numbers} {w w' : Here → Numbers} {b b' : Bool} {d : ℕ} {r : Answer State Tm}
      → m ≡ m' → ((Q : Here) → w Q ≡ w' Q) → (T b' → T b) → Takes P X m w b d r → Takes P X m' w' b' d r
  takes_as {P} {m} {m'} {w} {w'} {b} {b'} em ew eb (takes_go {e'} g gained fr meets st admitted x advices watch) =
      takes_go g (λ n f. meets_as eb (gained n f)) fr (record { under = rw em at meets.under; exact = λ t. meets.exact (eb t) ∙ em }) (λ t. st (eb t)) admitted x advices (λ Q. rw (← ew Q) (watch Q))
  takes_as em ew eb (takes_full g fr u l) = takes_full g fr (rw em at u) l
  takes_as em ew eb (takes_halt g fr u) = takes_halt g fr (rw em at u)
  takes_as em ew eb takes_wrong = takes_wrong

  module _ {P : Here} {X : Tm → Type 0} {m : Numbers} {w : Here → Numbers} {b : Bool} where
    -- A step to a value, which leaves the advice.
    pub takes_value : {s' : State} {u : Val} {d : ℕ} (g : Numbers) → g ≡ m → One d g → Gained b s g s' → s.advices ≡ s'.advices → All AdmittedAdvice s.advices → X (val u)
        → Takes P X m w b d (reduct s' (val u))
    unfolding need rounds straight Admitted
    takes_value {s'} {u} g em fr gained same' advices x =
        takes_go {e' = val u} g gained fr (record { under = rw (none_right g) (under_same em); exact = λ t. rw (none_right g) em }) (λ t. tt) tt x (rw same' at advices)
        (λ Q. rw (none_right (standing Q s'.advices), ← same') (under_left (standing Q s.advices) (w Q)))

    pub takes_cases : {A : Type 0} (o : Option A) {d d' : ℕ} (k : A → Answer State Tm) (r : Unit {0} → Answer State Tm)
        → ((x : A) → o ≡ some x → Takes P X m w b d (k x)) → (o ≡ none → Takes P X m w b d' (r tt)) → Takes P X m w b (cases o (λ x. d) (λ n. d')) (cases o k r)
    unfolding cases
    takes_cases none k r f g = g refl
    takes_cases (some x) k r f g = f x refl

    pub takes_with : {A : Type 0} (o : Option A) {d : ℕ} (k : A → Answer State Tm) → ((x : A) → o ≡ some x → Takes P X m w b d (k x)) → Takes P X m w b d (with o k)
    unfolding with
    takes_with none k f = takes_wrong
    takes_with (some x) k f = f x refl

    pub takes_capacity : (c : Bool) (o : Outcome) {d : ℕ} {r : Answer State Tm} (g : Numbers) → One d g → Under g m → (T (not c) → Lacks G s g o) → Takes P X m w b d r → Takes P X m w b d (by_capacity c o r)
    unfolding by_capacity
    takes_capacity true o g fr u f h = h
    takes_capacity false o g fr u f h = takes_full g fr u (f tt)

    pub takes_spend : (n : Uses) (k : State → Answer State Tm) {d : ℕ} (g : Numbers) → One d g → Under g m → n ≡ g.used
        → Takes P X m w b d (k (with_uses (add_uses s.used n) s)) → Takes P X m w b d (spend n s k)
    unfolding spend
    takes_spend n k g fr u same' h =
        let eb : n.mainline.bindings ≡ g.used.mainline.bindings = ap (λ x. x.mainline.bindings) same' in
        let eb' : n.others.bindings ≡ g.used.others.bindings = ap (λ x. x.others.bindings) same' in
        let ec : n.mainline.cells ≡ g.used.mainline.cells = ap (λ x. x.mainline.cells) same' in
        let ec' : n.others.cells ≡ g.used.others.cells = ap (λ x. x.others.cells) same' in
        let ep : n.mainline.pieces ≡ g.used.mainline.pieces = ap (λ x. x.mainline.pieces) same' in
        let ep' : n.others.pieces ≡ g.used.others.pieces = ap (λ x. x.others.pieces) same' in
        takes_capacity _ Outcome.Bindings g fr u (λ t. let l = nleb→lt n.mainline.bindings (binding_limit - s.used.mainline.bindings) t in omega arith)
        (takes_capacity _ Outcome.Cells g fr u (λ t. let l = nleb→lt n.mainline.cells (cell_limit - s.used.mainline.cells) t in omega arith)
        (takes_capacity _ Outcome.Pieces g fr u (λ t. let l = nleb→lt n.mainline.pieces (piece_limit - s.used.mainline.pieces) t in omega arith)
        (takes_capacity _ Outcome.OtherBindings g fr u (λ t. let l = nleb→lt n.others.bindings (binding_limit - s.used.others.bindings) t in omega arith)
        (takes_capacity _ Outcome.OtherCells g fr u (λ t. let l = nleb→lt n.others.cells (cell_limit - s.used.others.cells) t in omega arith)
        (takes_capacity _ Outcome.OtherPieces g fr u (λ t. let l = nleb→lt n.others.pieces (piece_limit - s.used.others.pieces) t in omega arith) h)))))

  pub takes_framed : {X : Tm → Type 0} {m : Numbers} {w : Here → Numbers} {b : Bool} (P : Place) {r : Answer State Tm} → Under (once (here P)) m → Takes (here P) X m w b P.depth r → Takes (here P) X m w b P.depth (framed P r)
  takes_framed P u h = takes_capacity _ Outcome.Frames (once (here P)) (refl, refl) u (λ t. nleb→lt P.depth frame_limit t) h
