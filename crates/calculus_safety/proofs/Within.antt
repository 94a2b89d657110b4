-- The counts of a state agree with what it has, and stay within their limits (document 01, "A run"); no typing is assumed.
use Prim.Native.Nat.{ℕ, suc, ◌+◌, ◌*◌, ◌-◌, ◌≤◌, ◌<◌}
use native.Mathlib.Omega.{arith}
use mathlib.Core.Path.{◌≡◌, refl, ap}
use mathlib.Core.Bool.{Bool, true, false}
use mathlib.Core.List.{List, [], ◌∷◌, ◌++◌, reverse}
use mathlib.Core.Option.{Option, none, some}
use lib.ListN.{length, set, length-append, length-set}
use lib.Dec.{eqb, leb→le, ltb→lt}
use Rattle.calculus.specs.Combinators.{choose}
use Rattle.calculus.specs.Limits.{binding_limit, cell_limit, piece_limit, label_limit, advice_limit, log_record_length}
use Rattle.calculus.specs.Syntax.{Dom, Ty, Val, Tm, Pattern, Op0, Op1, Op2, new_label, abort, takedown, the_stack, print, install, read, byte, new_cell, call, app, mark, store, plus, minus, less, equal}
use Rattle.calculus.specs.State.{Cell, Advice, Event, branched, State, Given, Counts, Uses, cons_option, picked, print_of, log_of, no_counts, some_bindings, one_cell, one_piece, some_pieces, add_counts, add_uses, at_dom, advice_bindings, with_uses, with_cells, add_label, add_advice, other_than, drop_advice, add_event, fresh}
use Rattle.calculus.specs.View.{top_of, labels_of}
use Rattle.calculus.specs.Answer.{reduct, with, spend}
use Rattle.calculus.specs.Place.{Place}
use Rattle.calculus.specs.Compose.{triggered_by}
use Rattle.calculus.specs.Reduce.{reduce0, reduce1, reduce2, branch, match_on, reduce_match, subst_all, matched}
use Rattle.calculus.specs.Run.{run}
use Rattle.calculus.proofs.Filtered.{filtered_length}
use Rattle.calculus_safety.proofs.Invariant.{Makes, Makes.makes_go, Makes.makes_halt, Makes.makes_wrong, makes_capacity, makes_with, makes_spend, Covers, Reduces, run_keeps}

-- What is used of a half (card 9).
pub record QuotaFits (u : Counts) : Type 0 where
  pub bindings : u.bindings ≤ binding_limit
  pub cells : u.cells ≤ cell_limit
  pub pieces : u.pieces ≤ piece_limit

-- What holds of every state that a run comes to.
pub record Within (G : Given) (s : State) : Type 0 where
  pub counted : s.used.mainline.cells + s.used.others.cells ≡ length s.cells
  pub mainline : QuotaFits s.used.mainline
  pub others : QuotaFits s.used.others
  pub labels : length s.labels ≤ label_limit
  pub advices : length s.advices ≤ advice_limit
  pub log : log_record_length * length (log_of s.trace) ≤ G.log_length

-- An event makes at most one log record.
module _ {A : Type 0} where
  cons_once : (o : Option A) (x : List A) → length (cons_option o x) ≤ suc (length x)
  cons_once none x = omega arith
  cons_once (some a) x = omega arith

  cons_keeps : (o : Option A) (x y : List A) → length x ≤ suc (length y) → length (cons_option o x) ≤ suc (length (cons_option o y))
  cons_keeps none x y h = h
  cons_keeps (some a) x y h = omega arith

log_told : (x : List Event) (a : Event) → length (log_of (x ++ (a ∷ []))) ≤ suc (length (log_of x))
unfolding picked
log_told [] a = cons_once (print_of a) []
log_told (b ∷ x) a = cons_keeps (print_of b) (log_of (x ++ (a ∷ []))) (log_of x) (log_told x a)

-- The branch of a match makes none (card 6).
log_turned : (x : List Event) (c : Dom) (b : Bool) → log_of (x ++ (record { dom = c; said = branched b } ∷ [])) ≡ log_of x
unfolding picked
log_turned [] c b = refl
log_turned (a ∷ x) c b = ap (cons_option (print_of a)) (log_turned x c b)

none_used_lem : QuotaFits no_counts
none_used_lem = record { bindings = omega arith; cells = omega arith; pieces = omega arith }

quota_fits : {n u : Counts} → Covers n u → QuotaFits u → QuotaFits (add_counts u n)
quota_fits {n} {u} r h =
    let b = leb→le n.bindings (binding_limit - u.bindings) r.bindings in
    let c = leb→le n.cells (cell_limit - u.cells) r.cells in
    let p = leb→le n.pieces (piece_limit - u.pieces) r.pieces in
    let b' = h.bindings in
    let c' = h.cells in
    let p' = h.pieces in
    record { bindings = omega arith; cells = omega arith; pieces = omega arith }

-- The cells that a step uses, of one half or the other.
unfoldable cells_of : Uses → ℕ
cells_of n = n.mainline.cells + n.others.cells

at_cells : (c : Dom) (n : Counts) → cells_of (at_dom c n) ≡ n.cells
unfolding cells_of
at_cells c n = pick (eqb c 0)
  where
    pick : (b : Bool) → (choose b n no_counts).cells + (choose b no_counts n).cells ≡ n.cells
    pick true = omega arith
    pick false = omega arith

advice_cells : (x : List (Advice Tm)) → cells_of (advice_bindings x) ≡ 0
unfolding cells_of
advice_cells [] = refl
advice_cells (a ∷ x) =
    let one = at_cells a.dom (some_bindings 1) in
    let rest = advice_cells x in
    omega arith

module _ (G : Given) where
  pub within_fresh : Within G fresh
  unfolding picked
  within_fresh = record { counted = refl; mainline = none_used_lem; others = none_used_lem; labels = omega arith; advices = omega arith; log = omega arith }

  within_turned : (s : State) → Within G s → (c : Dom) (b : Bool) → Within G (add_event (record { dom = c; said = branched b }) s)
  within_turned s W c b =
      let same = ap length (log_turned s.trace c b) in
      let was = W.log in
      record { counted = W.counted; mainline = W.mainline; others = W.others; labels = W.labels; advices = W.advices; log = omega arith }

  module _ (s : State) (W : Within G s) where
    -- The counts grow by n, where there is room, and the cells by as many as n says.
    within_charged : (n : Uses) (cs : List (Cell Val)) → length cs ≡ length s.cells + cells_of n → Covers n.mainline s.used.mainline → Covers n.others s.used.others
        → Within G (with_cells cs (with_uses (add_uses s.used n) s))
    unfolding cells_of
    within_charged n cs e r r' =
        let was = W.counted in
        record { counted = omega arith; mainline = quota_fits r W.mainline; others = quota_fits r' W.others; labels = W.labels; advices = W.advices; log = W.log }

    -- A step that uses no cell.
    within_spent : (n : Uses) (e : Tm) → cells_of n ≡ 0 → Makes (Within G) (spend n s (λ s'. reduct s' e))
    within_spent n e z = makes_spend (Within G) n s _ (λ r r'. makes_go (within_charged n s.cells (omega arith) r r'))

    within_label : (p : Dom) → length s.labels < label_limit → Within G (add_label p s)
    within_label p h =
        let one = length-append s.labels (p ∷ []) in
        record { counted = W.counted; mainline = W.mainline; others = W.others; labels = omega arith; advices = W.advices; log = W.log }

    within_advice : (a : Advice Tm) → length s.advices < advice_limit → Within G (add_advice a s)
    within_advice a h =
        let one = length-append s.advices (a ∷ []) in
        record { counted = W.counted; mainline = W.mainline; others = W.others; labels = W.labels; advices = omega arith; log = W.log }

    within_cleared : (p : Dom) → Within G (drop_advice p s)
    within_cleared p =
        let fewer = filtered_length (other_than p) s.advices in
        let was = W.advices in
        record { counted = W.counted; mainline = W.mainline; others = W.others; labels = W.labels; advices = omega arith; log = W.log }

    within_told : (a : Event) → log_record_length ≤ G.log_length - log_record_length * length (log_of s.trace) → Within G (add_event a s)
    within_told a h =
        let one = log_told s.trace a in
        record { counted = W.counted; mainline = W.mainline; others = W.others; labels = W.labels; advices = W.advices; log = omega arith }

    within_stored : (r : ℕ) (k : Cell Val) → Within G (with_cells (set s.cells r k) s)
    within_stored r k =
        let same = length-set s.cells r k in
        record { counted = cc; mainline = W.mainline; others = W.others; labels = W.labels; advices = W.advices; log = W.log }

    -- Arithmetic leaves the state.
    within_arith : (a b : Option ℕ) (k : ℕ → ℕ → Tm) → Makes (Within G) (with a (λ m. with b (λ n. reduct s (k m n))))
    within_arith a b k = makes_with (Within G) a _ (λ m. makes_with (Within G) b _ (λ n. makes_go W))

    within0 : (P : Place) (o : Op0) (t : Ty) → Makes (Within G) (reduce0 G P s o t)
    within0 P new_label t = makes_capacity (Within G) _ _ (λ b. makes_go (within_label _ (ltb→lt (length s.labels) label_limit b)))
    within0 P abort t = makes_halt
    within0 P (takedown p) t = makes_go (within_cleared p)
    within0 P the_stack t = within_spent (at_dom P.dom (some_pieces _)) _ (at_cells P.dom (some_pieces _))

    within1 : (P : Place) (o : Op1) (t : Ty) (v : Val) → Makes (Within G) (reduce1 G P s o t v)
    within1 P print t v =
        makes_with (Within G) _ _
        (λ n. makes_capacity (Within G) _ _ (λ b. makes_go (within_told _ (leb→le log_record_length (G.log_length - log_record_length * length (log_of s.trace)) b))))
    within1 P install t v = makes_with (Within G) _ _ (λ a. makes_capacity (Within G) _ _ (λ b. makes_go (within_advice a (ltb→lt (length s.advices) advice_limit b))))
    within1 P read t v = makes_with (Within G) _ _ (λ r. makes_with (Within G) _ _ (λ c. makes_go W))
    within1 P byte t v = makes_with (Within G) _ _ (λ n. makes_go W)
    within1 P new_cell t v = makes_spend (Within G) (at_dom P.dom one_cell) s _ (λ r r'. makes_go (within_charged (at_dom P.dom one_cell) (s.cells ++ (_ ∷ [])) (rw (at_cells P.dom one_cell) (length-append s.cells _)) r r'))
    within1 P (call m) t v = makes_with (Within G) _ _ (λ bs. makes_with (Within G) _ _ (λ e. within_spent (at_dom P.dom (some_bindings 1)) _ (at_cells P.dom (some_bindings 1))))

    within2 : (P : Place) (o : Op2) (t : Ty) (v w : Val) → Makes (Within G) (reduce2 G P s o t v w)
    within2 P Op2.pair t v w = within_spent (at_dom P.dom one_piece) _ (at_cells P.dom one_piece)
    within2 P app t v w = makes_with (Within G) _ _ (λ e. within_spent (at_dom P.dom (some_bindings 1)) _ (at_cells P.dom (some_bindings 1)))
    within2 P mark t v w = makes_with (Within G) _ _ (λ l. makes_with (Within G) _ _ (λ p. within_spent (advice_bindings (triggered_by l s.advices)) _ (advice_cells (triggered_by l s.advices))))
    within2 P store t v w = makes_with (Within G) _ _ (λ r. makes_with (Within G) _ _ (λ c. makes_go (within_stored r _)))
    within2 P plus t v w = within_arith _ _ _
    within2 P minus t v w = within_arith _ _ _
    within2 P less t v w = within_arith _ _ _
    within2 P equal t v w = within_arith _ _ _

    -- A match (card 6).
    within_branch : (P : Place) (f : List Val → Tm) (g : Tm) (o : Option (List Val)) → Makes (Within G) (branch P s f g o)
    within_branch P f g none = makes_go (within_turned s W P.dom false)
    within_branch P f g (some vs) = makes_spend (Within G) (at_dom P.dom (some_bindings (length vs))) s _ (λ r r'. makes_go (within_turned _ (within_charged (at_dom P.dom (some_bindings (length vs))) s.cells (let z = at_cells P.dom (some_bindings (length vs)) in omega arith) r r') P.dom true))

    within_match : (P : Place) (p : Pattern) (f g : Tm) (vs : List Val) → Makes (Within G) (reduce_match P s p f g vs)
    within_match P p f g vs = pick (reverse vs)
      where
        pick : (ws : List Val) → Makes (Within G) (match_on top_of labels_of P s p (λ us. subst_all us f) g ws)
        pick [] = makes_wrong
        pick (k ∷ us) = within_branch P (λ ws. subst_all ws f) g (matched top_of labels_of p us k)

    within_reduces : Reduces G (Within G) s
    within_reduces = record { stays = W; binds = λ c n e. within_spent (at_dom c (some_bindings n)) e (at_cells c (some_bindings n)); pieces = λ c e. within_spent (at_dom c one_piece) e (at_cells c one_piece); matches = within_match; reduces0 = within0; reduces1 = within1; reduces2 = within2 }

  -- Every run keeps it.
  pub within_run : (n k : ℕ) (s : State) (e : Tm) → Within G s → Within G (run n G k s e).state
  within_run = run_keeps G (Within G) within_reduces

  pub program_within : (n : ℕ) (e : Tm) → Within G (run n G 0 fresh e).state
  program_within n e = within_run n 0 fresh e within_fresh
