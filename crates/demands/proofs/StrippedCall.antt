-- The call that writes an image without its watches (card 13).
use Rattle.std.specs.Prelude.{Ok, Err}
use Prim.Native.Nat.{ℕ, ◌≤◌, ◌<◌}
use native.Mathlib.Omega.{arith}
use mathlib.Core.Path.{◌≡◌, refl, sym, ap, subst, ◌∙◌}
use mathlib.Core.Bool.{Bool, true, false, not, ◌&&◌, ◌||◌}
use mathlib.Core.List.{List}
use lib.ListN.{length, take, drop}
use lib.Dec.{ltb, leb}
use borrow.Author.Tests.{not-false}
use Rattle.laws.specs.Tests.{any_below}
use Rattle.laws.proofs.Booleans.{and_false, or_false_l, or_false_r}
use Rattle.laws.proofs.Tests.{none_below}
use Rattle.calculus.specs.Combinators.{choose}
use Rattle.calculus.specs.Syntax.{Dom}
use Rattle.image.specs.Limits.{domain_limit, work_length, report_length}
use Rattle.image.specs.Records.{Layout}
use Rattle.image.specs.Layout.{records_of}
use Rattle.image.proofs.Laid.{LayoutOk}
use Rattle.verdict.specs.Answers.{Verdict}
use Rattle.verdict.specs.Domains.{leq}
use Rattle.verdict.specs.Verdicts.{verdict}
use Rattle.verdict.proofs.Accept.{accepted_good}
use Rattle.base_bytes.specs.Bytes.{over}
use Rattle.image_written.specs.Stripped.{without_watches}
use Rattle.write_masks.specs.Masks.{in_mask}
use Rattle.write_stripped.specs.declared.StripError.{StripError}
use Rattle.write_stripped.specs.Calls.{wrong_set, Left, after_check, stripped_call}
use Rattle.call_spec.specs.Calls.{called}
use Rattle.demands.specs.Calls.{Runs}
use Rattle.demands.specs.Compare.{HighSet}
use Rattle.demands.specs.Stripped.{SharesLeft, WritesStripped, Card13Call}
use Rattle.demands.proofs.Written.{take_front, drop_front}
use Rattle.demands.proofs.Stripped.{card13, card13_written}

-- A mask that is not refused with 23 is a set of high domains.
high_set : (L : Layout) → length L.domains ≤ domain_limit → (mask : ℕ) → wrong_set L mask ≡ false → HighSet L (in_mask mask)
high_set L few mask h = record { mainline = not-false (in_mask mask 0) (or_false_l _ _ h); up = up }
  where
    up : (d q : Dom) → d < length L.domains → q < length L.domains → in_mask mask d ≡ true → leq L d q ≡ true → in_mask mask q ≡ true
    up d q l m i e =
        let all = or_false_r (not (in_mask mask 0)) (any_below domain_limit (λ k. in_mask mask k && (leb (length L.domains) k || any_below domain_limit (λ p. leq L k p && not (in_mask mask p))))) h in
        let here = and_false (in_mask mask d) (leb (length L.domains) d || any_below domain_limit (λ p. leq L d p && not (in_mask mask p))) (none_below domain_limit _ all d (omega arith)) i in
        let above = or_false_r (leb (length L.domains) d) (any_below domain_limit (λ p. leq L d p && not (in_mask mask p))) here in
        not-false (in_mask mask q) (and_false (leq L d q) (not (in_mask mask q)) (none_below domain_limit _ above q (omega arith)) e)

pub card13_call : Card13Call
unfolding stripped_call
card13_call b mask n out h = look (verdict b work_length report_length) refl h
  where
    W : List ℕ
    W = without_watches (in_mask mask) b

    Asked : Left → Type 0
    Asked X = X.answer ≡ Ok n → WritesStripped b mask n out X.out

    go : LayoutOk (records_of b) → (x : Bool) → wrong_set (records_of b) mask ≡ x → (y : Bool) → Asked
        (choose x (record { answer = Err StripError.WrongSet; out = out })
        (choose y (record { answer = Err StripError.ShortOutput; out = out }) (record { answer = Ok (length W); out = over 0 W out })))
    go g true p y e = let z : ◌≡◌ {A = ℕ} 0 1 = cc in absurd (omega arith)
    go g false p true e = let z : ◌≡◌ {A = ℕ} 0 1 = cc in absurd (omega arith)
    go g false p false e =
        let k : length W ≡ n = cc in
        let bytes : take n (over 0 W out) ≡ W = ap (λ i. take i (over 0 W out)) (sym k) ∙ take_front W out in
        let highs : HighSet (records_of b) (in_mask mask) = high_set (records_of b) g.few_domains mask p in
        record {
          highs = highs;
          bytes = bytes;
          past = ap (λ i. drop i (over 0 W out)) (sym k) ∙ drop_front W out ∙ ap (λ i. drop i out) k;
          accepted = λ report work h. subst (λ c. Runs c report work) (sym bytes) (card13_written (in_mask mask) b report work h).accepted;
          shares = λ no_low_takedown frame budget log log' report report' work work' l m h h' d.
              let w = card13_written (in_mask mask) b report' work' h' in
              subst (λ c. SharesLeft (in_mask mask) (called b frame budget log report work) (called c frame budget log' report' work')) (sym bytes)
              (card13 (in_mask mask) b W highs w.stripped no_low_takedown frame budget log log' report report' work work' l m h w.accepted d);
        }

    look : (w : Verdict) → verdict b work_length report_length ≡ w → Asked (after_check w b mask out)
    look (Ok tt) q e = go (accepted_good b _ _ q) (wrong_set (records_of b) mask) refl (ltb (length out) (length b)) e
    look (Err refusal) q e = let z : ◌≡◌ {A = ℕ} 0 1 = cc in absurd (omega arith)
