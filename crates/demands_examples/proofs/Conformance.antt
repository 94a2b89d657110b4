-- Document 01's bench sheet, P1 to P8, as one table about whole calls, by computation of the definitions.
use Rattle.std.specs.Prelude.{Ok, Err}
use Prim.Native.Nat.{ℕ, ◌/◌, ◌%◌}
use Prim.Native.String.{String}
use mathlib.Core.Path.{◌≡◌, refl}
use mathlib.Core.Bool.{true, false}
use mathlib.Core.List.{List, [], ◌∷◌, ◌++◌, map}
use mathlib.Core.Option.{Option, none, some}
use lib.ListN.{length}
use Rattle.calculus.specs.declared.Outcome.{Outcome}
use Rattle.calculus.specs.declared.Leaf.{Leaf}
use Rattle.calculus.specs.Combinators.{cases}
use Rattle.calculus.specs.State.{Counts, Uses, picked, no_counts}
use Rattle.calculus.specs.Subst.{subst}
use Rattle.calculus.specs.Answer.{carry, by_capacity, with, spend}
use Rattle.calculus.specs.Step.{step}
use Rattle.calculus.specs.Run.{Ended, after, run}
use Rattle.calculus.specs.Report.{leaves}
use Rattle.image.specs.declared.Refusal.{Refusal}
use Rattle.laws.specs.Tests.{all, all_of, any_below, first_fault}
use Rattle.image.specs.Bytes.{words}
use Rattle.image.specs.Kinds.{find}
use Rattle.image.specs.Layout.{all_within, tests, walk, layout, records_of}
use Rattle.image.specs.Types.{type_out, type_from, type_of}
use Rattle.image.specs.Program.{tree, program, assemble, to_tm}
use Rattle.verdict.specs.Answers.{refusal_of, require_from, in_turn, Verdict}
use Rattle.verdict.specs.Domains.{bits, order, leq}
use Rattle.verdict.specs.Order.{at_fault}
use Rattle.verdict.specs.Shape.{count, uses, depths_from, depths, shape}
use Rattle.verdict.specs.Check.{check_all, check, typing}
use Rattle.verdict.specs.Verdicts.{verdict}
use Rattle.verdict.proofs.Images.{little, rec, image, one_domain, two_domains, unit, number, literal, p2_image, p6_image, p8_image}
use Rattle.base_bytes.specs.Bytes.{bytes_of, number_of, number_at, over, cleared}
use Rattle.report.specs.declared.Ending.{Ending}
use Rattle.report.specs.Records.{records_bytes, records_after}
use Rattle.call_spec.specs.declared.Answer.{Answer}
use Rattle.call_spec.specs.Runs.{run_of}
use Rattle.call_spec.specs.Calls.{slots_of, refused_answer, Left, called}
use Rattle.listing_lines.specs.Text.{ascii, digits, texts}
use Rattle.listing.specs.Listing.{listing}
use Rattle.listing.specs.Conformance.{up_to, conformance_frame, conformance_budget, conformance_log_length, zeros, conformance_call, listing_of}
use Rattle.demands.specs.Calls.{log_written, report_written}

-- What the sheet says of a call: its refusal's number and place, if it is refused; what it answers, the bytes of log and report that it wrote, what its run used, if it made one, and its listing in full.
pub record Says : Type 0 where
  pub refused : Option (ℕ × ℕ)
  pub answer : Answer
  pub log : List ℕ
  pub report : List ℕ
  pub used : Option Uses
  pub listing : List ℕ

-- A case of the sheet: an image, a budget, and what the sheet says of the call.
pub record Case : Type 0 where
  pub image : List ℕ
  pub budget : ℕ
  pub says : Says

abbrev used_by : Verdict → Ended → Option Uses
used_by (Ok tt) E = some E.state.used
used_by (Err refusal) E = none

abbrev says_of : Left → Ended → Says
says_of X E = record { refused = refusal_of X.answer.verdict; answer = X.answer; log = log_written X; report = report_written X; used = used_by X.answer.verdict E; listing = listing_of X }

unfoldable pub said : Case → Says
said c = says_of (conformance_call c.image c.budget) (run_of c.image conformance_frame c.budget (zeros conformance_log_length))

-- A call that is refused; and one that runs, and uses only domain 0's halves.
abbrev refuses : List ℕ → Refusal → ℕ → ℕ → String → Case
refuses b r n place text = record { image = b; budget = conformance_budget; says = record { refused = some (n, place); answer = refused_answer r place; log = []; report = []; used = none; listing = ascii text } }

abbrev ends : List ℕ → ℕ → Outcome → ℕ → List Leaf → List ℕ → List ℕ → Counts → String → Case
ends b budget o steps ls log report used text =
    record {
      image = b;
      budget = budget;
      says =
          record {
            refused = none;
            answer = record { verdict = Ok tt; ending = Ending.Ended o; steps = steps; log = length log; report = length report; count = length ls; leaves = slots_of ls };
            log = log;
            report = report;
            used = some (record { mainline = used; others = no_counts });
            listing = ascii text;
          };
    }

-- An operation on two numbers, of type t: 0 number, 1 truth.
unfoldable pub arithmetic : ℕ → ℕ → ℕ → ℕ → List ℕ
arithmetic t op m n = image (one_domain ∷ number ∷ rec 17 [] ∷ rec 34 (0 ∷ m % 65536 ∷ m / 65536 ∷ []) ∷ rec 34 (0 ∷ n % 65536 ∷ n / 65536 ∷ []) ∷ rec 43 (t ∷ op ∷ 0 ∷ 1 ∷ []) ∷ [])

-- The bytes of a report's head and of a log record at domain 0, of small numbers.
abbrev head : ℕ → ℕ → List ℕ
head o steps = 10 ∷ 0 ∷ 70 ∷ 0 ∷ o ∷ 0 ∷ steps ∷ 0 ∷ 0 ∷ 0 ∷ []

abbrev logged : ℕ → List ℕ
logged n = 10 ∷ 0 ∷ 64 ∷ 0 ∷ 0 ∷ 0 ∷ n ∷ 0 ∷ 0 ∷ 0 ∷ []

unfoldable pub conformance : List Case
conformance =
    -- P1: "empty image: 9, place 0"
    refuses [] Refusal.EmptySection 9 0 "refused 9 0\n"
    -- P2: "done at budget 0. Listing in full: `done 0`, `value 5`"
    ∷ ends p2_image 0 Outcome.Done 0 (Leaf.Number 5 ∷ []) [] (head 0 0 ++ (8 ∷ 0 ∷ 67 ∷ 0 ∷ 5 ∷ 0 ∷ 0 ∷ 0 ∷ [])) no_counts "done 0\nvalue 5\n"
    -- P3, card 2: 2147483647 plus 1 is the upper end of the range, 2147483647
    ∷ ends (arithmetic 0 0 2147483647 1) conformance_budget Outcome.Done 1 (Leaf.Number 2147483647 ∷ []) [] (head 0 1 ++ (8 ∷ 0 ∷ 67 ∷ 0 ∷ 255 ∷ 255 ∷ 255 ∷ 127 ∷ [])) no_counts "done 1\nvalue 2147483647\n"
    -- P4, card 2: -2147483648 minus 1 is the lower end, -2147483648
    ∷ ends (arithmetic 0 1 2147483648 1) conformance_budget Outcome.Done 1 (Leaf.Number 2147483648 ∷ []) [] (head 0 1 ++ (8 ∷ 0 ∷ 67 ∷ 0 ∷ 0 ∷ 0 ∷ 0 ∷ 128 ∷ [])) no_counts "done 1\nvalue -2147483648\n"
    -- P5: "-1 less 0: true; 0 less 0: false"
    ∷ ends (arithmetic 1 2 4294967295 0) conformance_budget Outcome.Done 1 (Leaf.Truth true ∷ []) [] (head 0 1 ++ (6 ∷ 0 ∷ 66 ∷ 0 ∷ 1 ∷ 0 ∷ [])) no_counts "done 1\nvalue true\n"
    ∷ ends (arithmetic 1 2 0 0) conformance_budget Outcome.Done 1 (Leaf.Truth false ∷ []) [] (head 0 1 ++ (6 ∷ 0 ∷ 66 ∷ 0 ∷ 0 ∷ 0 ∷ [])) no_counts "done 1\nvalue false\n"
    -- P6: "logs 3, 7; done in 17 steps; 3 bindings, 4 pieces", and with card 8 "logs 7, 3 with the same 17 steps"
    ∷ ends p6_image conformance_budget Outcome.Done 17 (Leaf.Unit ∷ []) (logged 7 ++ logged 3) (head 0 17 ++ (4 ∷ 0 ∷ 65 ∷ 0 ∷ [])) (record { bindings = 3; cells = 0; pieces = 4 }) "log 0 7\nlog 0 3\ndone 17\nvalue unit\n"
    -- P7: "the same at budget 16: spent, 16 steps"
    ∷ ends p6_image 16 Outcome.Spent 16 [] (logged 7 ++ logged 3) (head 1 16) (record { bindings = 3; cells = 0; pieces = 4 }) "log 0 7\nlog 0 3\nspent 16\n"
    -- P8: "domain 1 ≤ 0: reading at 0 a cell of domain 1 is 15; storing to it is accepted"; the cell, of domain 1, then holds 6
    ∷ refuses (p8_image (rec 50 (0 ∷ 1 ∷ []) ∷ [])) Refusal.DomainRule 15 46 "refused 15 46\n"
    ∷ ends (p8_image (literal 6 ∷ rec 51 (2 ∷ 1 ∷ 2 ∷ []) ∷ [])) conformance_budget Outcome.Done 2 (Leaf.Unit ∷ []) []
    (head 0 2 ++ (4 ∷ 0 ∷ 65 ∷ 0 ∷ 14 ∷ 0 ∷ 68 ∷ 0 ∷ 1 ∷ 0 ∷ 8 ∷ 0 ∷ 67 ∷ 0 ∷ 6 ∷ 0 ∷ 0 ∷ 0 ∷ [])) (record { bindings = 0; cells = 1; pieces = 0 }) "done 2\nvalue unit\ncell 1 6\n"
    ∷ []

pub conformance_holds : map said conformance ≡ map (λ c. c.says) conformance
unfolding conformance said conformance_call up_to called
    verdict in_turn require_from walk layout records_of tests find words all_within all all_of any_below first_fault shape at_fault leq order bits count uses depths depths_from typing check check_all type_of type_from type_out
    little rec image one_domain two_domains unit number literal p2_image p6_image p8_image arithmetic
    program tree to_tm assemble run after cases step subst carry by_capacity with spend picked leaves
    over cleared bytes_of records_bytes
    listing texts digits records_after number_at number_of
conformance_holds = refl
