-- By the outcome.
use mathlib.Core.Path.{sym, ap}
use Rattle.listing_lines.specs.Text.{ascii}
use Rattle.listing_lines.specs.Lines.{outcome_word}
use Rattle.listing_lines.proofs.Puts.{as_text}
use Rattle.listing_lines.proofs.endings.put_word.Goals as goal

pub returns-in-Done : goal.returns-in-Done
returns-in-Done c = as_text (ap (λ x. ascii (outcome_word x)) (sym c.in-Done.is)) c.put.ensures

pub returns-in-Spent : goal.returns-in-Spent
returns-in-Spent c = as_text (ap (λ x. ascii (outcome_word x)) (sym c.in-Spent.is)) c.put-in-Spent.ensures

pub returns-in-Aborted : goal.returns-in-Aborted
returns-in-Aborted c = as_text (ap (λ x. ascii (outcome_word x)) (sym c.in-Aborted.is)) c.put-in-Aborted.ensures

pub returns-in-Frames : goal.returns-in-Frames
returns-in-Frames c = as_text (ap (λ x. ascii (outcome_word x)) (sym c.in-Frames.is)) c.put-in-Frames.ensures

pub returns-in-Bindings : goal.returns-in-Bindings
returns-in-Bindings c = as_text (ap (λ x. ascii (outcome_word x)) (sym c.in-Bindings.is)) c.put-in-Bindings.ensures

pub returns-in-Cells : goal.returns-in-Cells
returns-in-Cells c = as_text (ap (λ x. ascii (outcome_word x)) (sym c.in-Cells.is)) c.put-in-Cells.ensures

pub returns-in-Labels : goal.returns-in-Labels
returns-in-Labels c = as_text (ap (λ x. ascii (outcome_word x)) (sym c.in-Labels.is)) c.put-in-Labels.ensures

pub returns-in-Advice : goal.returns-in-Advice
returns-in-Advice c = as_text (ap (λ x. ascii (outcome_word x)) (sym c.in-Advice.is)) c.put-in-Advice.ensures

pub returns-in-Pieces : goal.returns-in-Pieces
returns-in-Pieces c = as_text (ap (λ x. ascii (outcome_word x)) (sym c.in-Pieces.is)) c.put-in-Pieces.ensures

pub returns-in-Log : goal.returns-in-Log
returns-in-Log c = as_text (ap (λ x. ascii (outcome_word x)) (sym c.in-Log.is)) c.put-in-Log.ensures

pub returns-in-OtherBindings : goal.returns-in-OtherBindings
returns-in-OtherBindings c = as_text (ap (λ x. ascii (outcome_word x)) (sym c.in-OtherBindings.is)) c.put-in-OtherBindings.ensures

pub returns-in-OtherCells : goal.returns-in-OtherCells
returns-in-OtherCells c = as_text (ap (λ x. ascii (outcome_word x)) (sym c.in-OtherCells.is)) c.put-in-OtherCells.ensures

pub returns-in-OtherPieces : goal.returns-in-OtherPieces
returns-in-OtherPieces c = as_text (ap (λ x. ascii (outcome_word x)) (sym c.in-OtherPieces.is)) c.put-in-OtherPieces.ensures
