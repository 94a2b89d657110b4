-- The calls of one image over the frames of a recording, one after another: not in documents 01 and 02, but what a station does with them.
use Rattle.std.specs.Prelude.{ℕ, zero, suc, ◌*◌, ◌/◌, List, length, take, drop, set}
use Rattle.base_bytes.specs.Bytes.{over}
use Rattle.call_spec.specs.Calls.{Left, called}
use Rattle.answers_as_numbers.specs.Numbers.{call_number}

-- Bytes in n equal parts: the length of a part, part i, and the bytes with other ones in part i's place. What is left over behind the last part belongs to none.
abbrev pub part_length : ℕ → List ℕ → ℕ
part_length n xs = length xs / n

abbrev pub part : ℕ → ℕ → List ℕ → List ℕ
part n i xs = take (part_length n xs) (drop (i * part_length n xs) xs)

abbrev pub with_part : ℕ → ℕ → List ℕ → List ℕ → List ℕ
with_part n i ys xs = over (i * part_length n xs) ys xs

-- The calls' answers, each as one number; their logs and their reports, in equal parts; and the work area that they share.
pub record Recording : Type 0 where
  pub answers : List ℕ
  pub logs : List ℕ
  pub reports : List ℕ
  pub work : List ℕ

-- n calls of image b.
module _ (b frames : List ℕ) (budget n : ℕ) where
  -- Call i: over frame i, with log i, report i and the work area.
  abbrev pub call_over : ℕ → Recording → Left
  call_over i R = called b (part n i frames) budget (part n i R.logs) (part n i R.reports) R.work

  abbrev pub recorded : ℕ → Left → Recording → Recording
  recorded i L R =
      record {
        answers = set R.answers i (call_number L.answer);
        logs = with_part n i L.log R.logs;
        reports = with_part n i L.report R.reports;
        work = L.work;
      }

  -- The first k of them.
  unfoldable pub first_calls : ℕ → Recording → Recording
  first_calls zero R = R
  first_calls (suc k) R = recorded k (call_over k (first_calls k R)) (first_calls k R)

-- As many calls as there are answers.
abbrev pub called_over : List ℕ → List ℕ → ℕ → Recording → Recording
called_over b frames budget R = first_calls b frames budget (length R.answers) (length R.answers) R
