-- A call with its answer as one number, from what the call answers and leaves.
use Prim.Native.Nat.{ℕ}
use mathlib.Core.Path.{◌≡◌, ap, ◌∙◌}
use Rattle.call_spec.specs.Calls.{Left}
use Rattle.answers_as_numbers.specs.Numbers.{call_number}
use Rattle.bukzarn.specs.Numbers.{Numbered}

pub numbered : (L R : Left) (n : ℕ) → L ≡ R → n ≡ call_number L.answer → Numbered R n L.log L.report L.work
numbered L R n e d =
    record {
      number = d ∙ ap (λ X. call_number X.answer) e;
      log = ap (λ X. X.log) e;
      report = ap (λ X. X.report) e;
      work = ap (λ X. X.work) e;
    }
