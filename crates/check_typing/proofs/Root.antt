-- The typing pass from the root: 13 to 15, then 16.
use Rattle.std.specs.Prelude.{Ok, Err, is_err}
use Prim.Native.Nat.{ℕ, suc, ◌-◌, ◌<◌}
use native.Mathlib.Omega.{arith}
use mathlib.Core.Path.{◌≡◌, sym, ap}
use mathlib.Core.Bool.{true, false}
use mathlib.Core.List.{List}
use lib.ListN.{length}
use Rattle.image.specs.declared.Refusal.{Refusal}
use Rattle.image.specs.Records.{Layout}
use Rattle.image.specs.Types.{term_place, type_no, type_of, root_of}
use Rattle.laws.proofs.Booleans.{no_path}
use Rattle.verdict.specs.Answers.{require, in_turn, Verdict}
use Rattle.verdict.specs.Check.{check, checked, root_setting, typing}
use Rattle.verdict.proofs.Answered.{last_turn}
use Rattle.check_rules.specs.Scopes.{context_in, setting_in}
use Rattle.check_typing.specs.Turns.{root_checked, root_plain, plain_at}
use Rattle.read_records.specs.Leaves.{plain_leaves}
use Rattle.read_leaves.proofs.PlainTypes.{plain_is}

module _ (L : Layout) where
  pub root_checked_lem : 0 < length L.terms → (scope : List ℕ) → checked L (setting_in scope 0 0) (root_of L) ≡ root_checked L
  unfolding checked root_checked context_in
  root_checked_lem h scope = let e : suc (length L.terms - 1) ≡ length L.terms = omega arith in ap (λ f. check L f (root_setting L) (root_of L)) e

  pub root_plain_lem : plain_at (plain_leaves (type_of L (type_no L (root_of L)))) (term_place L (root_of L)) ≡ root_plain L
  unfolding plain_at root_plain
  root_plain_lem = ap (λ t. require t Refusal.RootNotPlain (term_place L (root_of L))) (sym (plain_is (type_of L (type_no L (root_of L)))))

  -- The two in turn.
  pub typing_refused : (v : Verdict) → v ≡ root_checked L → is_err v ≡ true → v ≡ typing L
  unfolding typing in_turn root_checked
  typing_refused (Ok tt) e h = no_path (sym h)
  typing_refused (Err refusal) e h = rw (← e, in_turn)

  pub typing_plain : (v : Verdict) → v ≡ root_checked L → is_err v ≡ false → root_plain L ≡ typing L
  unfolding typing in_turn root_checked root_plain
  typing_plain (Ok tt) e h = rw (← e, in_turn) (sym (last_turn (λ u. root_plain L)))
  typing_plain (Err refusal) e h = no_path h
