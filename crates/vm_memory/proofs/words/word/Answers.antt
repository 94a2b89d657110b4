use mathlib.Core.Path.{◌∙◌}
use Rattle.vm_memory.proofs.Stored.{load_word}
use Rattle.vm_memory.proofs.words.word.Goals as goal

pub returns : goal.returns
returns c = c.load.ensures ∙ load_word _ _ c.requires.1
