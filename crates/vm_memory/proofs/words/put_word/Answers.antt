use Rattle.vm_memory.proofs.Stored.{store_word}
use borrow.Author.Rules.{rules}
use Rattle.vm_memory.proofs.words.put_word.Goals as goal

pub returns : goal.returns
returns c = store_word _ _ _ _ c.requires.0 c.requires.1 (search rules) c.store.ensures
