-- The rule of a term on what a decoder reads of its fields (document 01, "Typing").
use Rattle.std.specs.Prelude.{ℕ, List}
use Rattle.image.specs.Kinds.{TermKind, body_of}
use Rattle.image.specs.Layout.{records_of}
use Rattle.image.specs.Types.{type_field, type_of}
use Rattle.verdict.specs.Settings.{Setting, context_of, domain_of}
use Rattle.verdict.specs.Rules.{Rule}
use Rattle.verdict.specs.Check.{rule_by}
use Rattle.read_records.specs.Heads.{field_in}
use Rattle.read_terms.specs.Fields.{others_in, types_in}

-- Of a term of kind k whose fields are fs: its rule at p, and where its child i stands.
abbrev pub rule_in : List ℕ → List ℕ → TermKind → Setting ℕ → Rule
rule_in b fs k p = rule_by (records_of b) p.context p.dom (field_in fs 0) (others_in fs k) (types_in b fs k) k

abbrev pub setting_from : List ℕ → List ℕ → TermKind → Setting ℕ → ℕ → Setting ℕ
setting_from b fs k p i =
    record {
      context = context_of (λ a. type_field (records_of b) a 0) (λ a. type_field (records_of b) a 1) (body_of k i) (field_in fs 0) (others_in fs k) (types_in b fs k) p.context;
      dom = domain_of (body_of k i) (type_of (records_of b) (field_in fs 0)) (others_in fs k) p.dom i;
    }
