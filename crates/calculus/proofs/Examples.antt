-- Runs of small terms, by computation of the definitions; each shows a point of document 01, "A run", or of a card.
use Prim.Native.Nat.{ℕ, zero, suc, ◌-◌}
use mathlib.Core.Path.{◌≡◌, refl}
use mathlib.Core.Bool.{true, false}
use mathlib.Core.List.{List, [], ◌∷◌, map}
use lib.ListN.{replicate}
use Rattle.calculus.specs.declared.Outcome.{Outcome}
use Rattle.calculus.specs.declared.Leaf.{Leaf}
use Rattle.calculus.specs.Combinators.{cases}
use Rattle.calculus.specs.Limits.{minus_one}
use Rattle.calculus.specs.Plain.{is_plain}
use Rattle.calculus.specs.Syntax.{Ty, no_method, method, Val, Tm, Pattern, at_end, at_rest, anything, pointcut, val, var, op0, op1, op2, seq, ite, obj, keep, match, end, more, new_label, abort, takedown, the_stack, print, install, byte, new_cell, call, mark, plus, minus}
use Rattle.calculus.specs.State.{Advice, State, Given, Counts, Uses, Print, picked, log_of, branches_of, some_bindings, one_cell, one_piece, no_uses, at_dom, fresh, with_uses, add_label, add_advice, without}
use Rattle.calculus.specs.Subst.{subst}
use Rattle.calculus.specs.Answer.{Answer, reduct, at_capacity, carry, by_capacity, with, spend}
use Rattle.calculus.specs.Step.{step}
use Rattle.calculus.specs.Run.{End, done, stopped, after, run}
use Rattle.calculus.specs.Report.{outcome_number, leaves}

abbrev G : Given
G = record { frame = []; log_length = 100 }

-- What is looked at.
record Facts : Type 0 where
  end : End
  steps : ℕ
  log : List Print

abbrev facts : State → Tm → Facts
facts s e = let E = run 100 G 0 s e in record { end = E.end; steps = E.steps; log = log_of E.state.trace }

abbrev number : ℕ → Tm
number n = val (Val.number n)

abbrev say : Tm → Tm
say e = op1 print Ty.unit e

-- "Evaluation is left to right": (print 1; 5) minus (print 2; 3)
left_first : facts fresh (op2 minus Ty.number (seq (say (number 1)) (number 5)) (seq (say (number 2)) (number 3)))
    ≡ record { end = done (Val.number 2); steps = 5; log = record { dom = 0; shown = 1 } ∷ record { dom = 0; shown = 2 } ∷ [] }
unfolding run after cases step carry by_capacity with picked
left_first = refl

-- An if goes on with its first branch where its truth holds, and else with its second.
chosen_branch : ((facts fresh (ite (val (Val.truth true)) (number 1) (number 2))).end ≡ done (Val.number 1)) × ((facts fresh (ite (val (Val.truth false)) (number 1) (number 2))).end ≡ done (Val.number 2))
unfolding run after cases step by_capacity with
chosen_branch = (refl, refl)

-- A result's "leaves, left to right": of the pair of the pair of 1 and true, and unit.
leaves_in_order : leaves (Val.pair (Val.pair (Val.number 1) (Val.truth true)) Val.unit) ≡ Leaf.Number 1 ∷ Leaf.Truth true ∷ Leaf.Unit ∷ []
unfolding leaves
leaves_in_order = refl

-- Label 0, and two advice on it: print x at domain 1, installed first, and print 7 at domain 0.
abbrev on : ℕ → Tm → Advice Tm
on p b = record { dom = p; labels = 0 ∷ []; body = b }

abbrev advised : State
advised = add_advice (on 0 (say (number 7))) (add_advice (on 1 (say (var 0))) (add_label 0 fresh))

-- Card 8: "newest first", each matching advice's body lowered to its domain, in sequence, ending in unit: the mark, then three steps for each.
newest_first : facts advised (op2 mark Ty.unit (val (Val.label 0)) (number 3))
    ≡ record { end = done Val.unit; steps = 7; log = record { dom = 0; shown = 7 } ∷ record { dom = 1; shown = 3 } ∷ [] }
unfolding run after cases step subst carry by_capacity with spend picked
newest_first = refl

-- Abort "is one step besides".
abort_counted : facts fresh (op0 abort Ty.unit) ≡ record { end = stopped Outcome.Aborted; steps = 1; log = [] }
unfolding run after cases step by_capacity picked
abort_counted = refl

-- "A frame byte at index n is that byte .. or -1 where n is negative or not below the frame's length": of the bytes 8 and 9, at 1, at 2 and at -1.
abbrev byte_at : ℕ → End
byte_at n = (run 1 (record { frame = 8 ∷ 9 ∷ []; log_length = 0 }) 0 fresh (op1 byte Ty.number (number n))).end

frame_bytes : (byte_at 1 ≡ done (Val.number 9)) × (byte_at 2 ≡ done (Val.number minus_one)) × (byte_at minus_one ≡ done (Val.number minus_one))
unfolding run after cases step carry by_capacity with
frame_bytes = (refl, refl, refl)

-- "A plain type .. with at most 8 leaves": pairs of 8 numbers, and of 9.
abbrev twice : Ty → Ty
twice t = Ty.pair t t

abbrev eight_numbers : Ty
eight_numbers = twice (twice (twice Ty.number))

eight_leaves : (is_plain eight_numbers ≡ true) × (is_plain (Ty.pair eight_numbers Ty.number) ≡ false)
eight_leaves = (refl, refl)

-- "Outcomes: 0 done, 1 spent, 2 aborted, 3 frames, 4 bindings, 5 cells, 6 labels, 7 installed advice, 8 pieces, 9 log", and card 9: "10 bindings, 11 cells, 12 pieces, for the other domains' half".
outcomes_numbered :
    map outcome_number
    (Outcome.Done ∷ Outcome.Spent ∷ Outcome.Aborted ∷ Outcome.Frames ∷ Outcome.Bindings ∷ Outcome.Cells ∷ Outcome.Labels ∷ Outcome.Advice ∷ Outcome.Pieces ∷ Outcome.Log
    ∷ Outcome.OtherBindings ∷ Outcome.OtherCells ∷ Outcome.OtherPieces ∷ [])
    ≡ 0 ∷ 1 ∷ 2 ∷ 3 ∷ 4 ∷ 5 ∷ 6 ∷ 7 ∷ 8 ∷ 9 ∷ 10 ∷ 11 ∷ 12 ∷ []
outcomes_numbered = refl

-- n frame bytes, one inside another.
unfoldable pub nest : ℕ → Tm
nest zero = number 0
nest (suc n) = op1 byte Ty.number (nest n)

-- "No frames (3) if more than 512 unfinished terms enclose the next one to reduce": of 513 terms 512 enclose the innermost.
frames_512 : (run 1 G 0 fresh (nest 513)).end ≡ stopped Outcome.Spent
unfolding run after cases step carry by_capacity with nest
frames_512 = refl

frames_513 : (run 1 G 0 fresh (nest 514)).end ≡ stopped Outcome.Frames
unfolding run after cases step carry by_capacity with nest
frames_513 = refl

-- Card 3: an object of two methods; the second adds 1 to what the first, called on the object itself, gives.
unfoldable pub called : Tm
called =
    let numbers : Ty = Ty.object (method 0 Ty.number (method 0 Ty.number no_method)) in
    op1 (call 1) Ty.number (obj numbers (more (number 4) (more (op2 plus Ty.number (op1 (call 0) Ty.number (var 0)) (number 1)) end)))

-- "A call is one step and one binding; an object takes no step and no piece": two calls and the sum.
calls : facts fresh called ≡ record { end = done (Val.number 5); steps = 3; log = [] }
unfolding called run after cases step subst carry by_capacity with spend picked
calls = refl

calls_bind : (run 100 G 0 fresh called).state.used ≡ at_dom 0 (some_bindings 2)
unfolding called run after cases step subst carry by_capacity with spend picked
calls_bind = refl

-- Card 5: "Budget 0 is such a case where the first step lacks room"; an abort needs none, and is spent.
no_capacity_first : (run 0 (record { frame = []; log_length = 9 }) 0 fresh (say (number 3))).end ≡ stopped Outcome.Log
unfolding run cases step by_capacity with picked
no_capacity_first = refl

no_frames_first : (run 0 G 0 fresh (nest 514)).end ≡ stopped Outcome.Frames
unfolding run cases step carry by_capacity with nest
no_frames_first = refl

abort_spent : (run 0 G 0 fresh (op0 abort Ty.unit)).end ≡ stopped Outcome.Spent
unfolding run cases step by_capacity
abort_spent = refl

-- Card 6: the stack matched with a pattern whose one pointcut, if it has one, names label 0: print x in the first branch, print 8 in the other.
abbrev looked : Pattern → Tm → Tm
looked p x = match p (more (op0 the_stack Ty.stack) (more (val (Val.pointcut (0 ∷ []))) end)) (say x) (say (number 8))

abbrev looking : State
looking = add_advice (on 1 (looked (pointcut at_rest) (var 1))) (add_label 0 fresh)

abbrev marked : Tm
marked = op2 mark Ty.unit (val (Val.label 0)) (number 4)

-- Advice sees what is kept around its mark: the mark, the stack, the match and the print, two to leave the advice, and the keep's end.
kept_seen : facts looking (keep (val (Val.label 0)) (number 3) marked) ≡ record { end = done Val.unit; steps = 7; log = record { dom = 1; shown = 3 } ∷ [] }
unfolding run after cases step subst carry by_capacity with spend picked
kept_seen = refl

-- "One piece an entry", "one binding a variable": the value, the rest, and the advice's own. Card 9: all three are charged to domain 1, where the watch runs, and not to domain 0, which marks.
kept_used : (run 100 G 0 looking (keep (val (Val.label 0)) (number 3) marked)).state.used ≡ at_dom 1 (record { bindings = 3; cells = 0; pieces = 1 })
unfolding run after cases step subst carry by_capacity with spend picked
kept_used = refl

nothing_kept : facts looking marked ≡ record { end = done Val.unit; steps = 6; log = record { dom = 1; shown = 8 } ∷ [] }
unfolding run after cases step subst carry by_capacity with spend picked
nothing_kept = refl

-- A branch is told with the current domain.
branch_told : branches_of (run 100 G 0 looking (seq marked (keep (val (Val.label 0)) (number 3) marked))).state.trace ≡ record { dom = 1; first = false } ∷ record { dom = 1; first = true } ∷ []
unfolding run after cases step subst carry by_capacity with spend picked
branch_told = refl

-- "The innermost kept value is the top"; an entry 0 binds nothing, and the empty stack ends a pattern without rest.
abbrev kept_twice : Tm → Tm
kept_twice e = keep (val (Val.label 0)) (number 3) (keep (val (Val.label 0)) (number 4) e)

innermost_first : facts (add_label 0 fresh) (kept_twice (looked (pointcut (anything at_end)) (var 0))) ≡ record { end = done Val.unit; steps = 5; log = record { dom = 0; shown = 4 } ∷ [] }
unfolding run after cases step subst carry by_capacity with spend picked
innermost_first = refl

past_the_end : facts (add_label 0 fresh) (kept_twice (looked (pointcut at_end) (var 0))) ≡ record { end = done Val.unit; steps = 5; log = record { dom = 0; shown = 8 } ∷ [] }
unfolding run after cases step subst carry by_capacity with spend picked
past_the_end = refl

-- A keep whose value is being worked out is not seen.
value_not_kept : facts (add_label 0 fresh) (keep (val (Val.label 0)) (seq (looked (pointcut at_rest) (var 1)) (number 3)) (val Val.unit)) ≡ record { end = done Val.unit; steps = 5; log = record { dom = 0; shown = 8 } ∷ [] }
unfolding run after cases step subst carry by_capacity with spend picked
value_not_kept = refl

-- Card 7: at one mark the second of three watches of domain 1 takes the watches of domain 1 down; the first, picked already, still runs; the next mark finds the watch of domain 0 alone. The label, and so each pointcut, is of domain 0.
abbrev clearing : State
clearing = add_advice (on 0 (say (number 7))) (add_advice (on 1 (say (var 0))) (add_advice (on 1 (op0 (takedown 1) Ty.unit)) (add_advice (on 1 (say (number 5))) (add_label 0 fresh))))

taken_down : facts clearing (seq marked marked)
    ≡ record { end = done Val.unit; steps = 18; log = record { dom = 0; shown = 7 } ∷ record { dom = 1; shown = 4 } ∷ record { dom = 1; shown = 5 } ∷ record { dom = 0; shown = 7 } ∷ [] }
unfolding run after cases step subst carry by_capacity with spend picked
taken_down = refl

-- "Others keep their order": domain 1's is taken down, and the two of domain 0 stay as they stood.
order_kept : map (λ a. a.body) (without 1 (on 0 (number 1) ∷ on 1 (number 2) ∷ on 0 (number 3) ∷ [])) ≡ number 1 ∷ number 3 ∷ []
order_kept = refl

-- "Freed advice room is used again": 100 times an advice is installed and taken down, in four steps each.
unfoldable pub again : ℕ → Tm
again zero = val Val.unit
again (suc n) = seq (op1 install Ty.unit (val (Val.advice 1 [] (val Val.unit)))) (seq (op0 (takedown 1) Ty.unit) (again n))

capacity_again : (run 400 G 0 fresh (again 100)).end ≡ done Val.unit
unfolding again run after cases step by_capacity with carry
capacity_again = refl

-- "Room runs out exactly when a step would pass the limit": with 63 labels there is room for the last one, with 64 there is none; the same of installed advice.
abbrev with_labels : ℕ → State
with_labels n = record { cells = []; labels = replicate n 0; advices = []; used = no_uses; trace = [] }

abbrev with_advice : ℕ → State
with_advice n = record { cells = []; labels = []; advices = replicate n (on 0 (val Val.unit)); used = no_uses; trace = [] }

abbrev made_over : State → Tm → End
made_over s e = (run 1 G 0 s e).end

last_label : (made_over (with_labels 63) (op0 new_label (Ty.label Ty.number 0)) ≡ done (Val.label 63)) × (made_over (with_labels 64) (op0 new_label (Ty.label Ty.number 0)) ≡ stopped Outcome.Labels)
unfolding run after cases step by_capacity
last_label = (refl, refl)

last_advice : (made_over (with_advice 63) (op1 install Ty.unit (val (Val.advice 0 [] (val Val.unit)))) ≡ done Val.unit) × (made_over (with_advice 64) (op1 install Ty.unit (val (Val.advice 0 [] (val Val.unit)))) ≡ stopped Outcome.Advice)
unfolding run after cases step by_capacity with
last_advice = (refl, refl)

-- Card 9: a cell is charged to the current domain, not to its own.
cell_charged : (run 100 G 0 fresh (op1 new_cell (Ty.ref Ty.number 1) (number 3))).state.used ≡ at_dom 0 one_cell
unfolding run after cases step carry by_capacity spend
cell_charged = refl

-- What a step that uses n comes to where m is used: 1,024 bindings, 128 cells and 256 pieces are the half of domain 0, and as many the other half; a step that lacks both "reports domain 0's".
abbrev taking : Uses → Uses → Answer State Tm
taking m n = spend n (with_uses m fresh) (λ s. reduct s (val Val.unit))

abbrev quotas : Counts → Uses
quotas n = record { mainline = n; others = n }

abbrev all_but : ℕ → Counts
all_but n = record { bindings = 1024 - n; cells = 128 - n; pieces = 256 - n }

last_capacity : taking (quotas (all_but 1)) (quotas (record { bindings = 1; cells = 1; pieces = 1 })) ≡ reduct (with_uses (quotas (all_but 0)) fresh) (val Val.unit)
unfolding spend by_capacity
last_capacity = refl

mainline_full : (taking (quotas (all_but 0)) (at_dom 0 (some_bindings 1)) ≡ at_capacity Outcome.Bindings)
    × (taking (quotas (all_but 0)) (at_dom 0 one_cell) ≡ at_capacity Outcome.Cells) × (taking (quotas (all_but 0)) (at_dom 0 one_piece) ≡ at_capacity Outcome.Pieces)
unfolding spend by_capacity
mainline_full = (refl, refl, refl)

others_full : (taking (quotas (all_but 0)) (at_dom 1 (some_bindings 1)) ≡ at_capacity Outcome.OtherBindings)
    × (taking (quotas (all_but 0)) (at_dom 1 one_cell) ≡ at_capacity Outcome.OtherCells) × (taking (quotas (all_but 0)) (at_dom 1 one_piece) ≡ at_capacity Outcome.OtherPieces)
unfolding spend by_capacity
others_full = (refl, refl, refl)

both_full : taking (quotas (all_but 0)) (quotas (some_bindings 1)) ≡ at_capacity Outcome.Bindings
unfolding spend by_capacity
both_full = refl
