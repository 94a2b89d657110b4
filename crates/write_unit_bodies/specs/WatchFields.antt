-- Low advice and low lowers (document 02, card 13), as the fields of a term tell them.
use Rattle.std.specs.Prelude.{ℕ, Bool, false, not, List, get_or, eqb}
use Rattle.calculus.specs.Syntax.{Dom}
use Rattle.calculus.specs.Combinators.{choose}
use Rattle.image.specs.Kinds.{TermKind, term_row}
use Rattle.read_records.specs.Heads.{field_in}
use Rattle.read_terms.specs.Descriptors.{descriptor_domain}

-- Whether a term of the kind with the number q, whose fields are fs, is an advice with a low domain or a lower with a low field, where ks are the descriptors of the types.
abbrev pub low_watch_in : (Dom → Bool) → ℕ → List ℕ → List ℕ → Bool
low_watch_in high q fs ks =
    choose (eqb q (term_row TermKind.adv).number) (not (high (descriptor_domain (get_or ks (field_in fs 0) 0))))
    (choose (eqb q (term_row TermKind.lower).number) (not (high (field_in fs 1))) false)
