-- What code and run ask of an accepted image.
use Rattle.std.specs.Prelude.{Ok}
use mathlib.Core.Path.{◌≡◌}
use mathlib.Core.List.{List}
use Prim.Native.Nat.{ℕ}
use Rattle.read_records.specs.declared.numbers.Counts.{Counts}
use Rattle.validator_core.specs.declared.call.Lent.{Lent}
use Rattle.validator_core.specs.Examined.{Checked}
use Rattle.validator_core.specs.Calls.{Read, Answered}
use Rattle.validator_core.proofs.Calls.{accepted_so}
use Rattle.call_spec.specs.Runs.{Accepts}

module _ (b ts ks es : List ℕ) (lent : Lent) (c : Checked) (A : Answered b lent c ts ks es) (n : Counts) (e : c ≡ Ok n) where
  pub image_accepted : Accepts b
  image_accepted = record { work = lent.work; report = lent.report; verdict_is = accepted_so b ts ks es lent c A n e }

  pub code_asks : Accepts b × Read b n ts ks es
  code_asks = (image_accepted, A.filled n e)
