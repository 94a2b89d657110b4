-- What a term's rule (document 01, "Typing"; the crate verdict, Rules) comes to, and the tests that a rule is made of, on the descriptors of types and the masks of domains.
use Rattle.std.specs.Prelude.{ℕ, Bool, List, [], ◌∷◌, get_or, eqb, ltb, Ok}
use Rattle.std.proofs.Math.Option.{none, some}
use Rattle.laws.specs.Tests.{all, first_fault}
use Rattle.image.specs.Kinds.{TypeKind}
use Rattle.image.specs.Records.{Layout}
use Rattle.image.specs.Types.{term_place, type_no, method_count}
use Rattle.verdict.specs.Answers.{Verdict, refused_at}
use Rattle.verdict.specs.Settings.{Setting}
use Rattle.verdict.specs.Rules.{Rule, rule_faults, is, gives}
use Rattle.verdict.specs.Check.{describe, rule_at}
use Rattle.read_records.specs.Descriptors.{descriptor_field0, descriptor_field1}
use Rattle.read_terms.specs.Descriptors.{descriptor_is}
use Rattle.read_terms.specs.Masks.{bit_of}

-- What a rule comes to, for a term whose record stands at a place.
unfoldable pub judged : ℕ → Rule → Verdict
judged place r = elim (first_fault (rule_faults r)) [ some f ↦ refused_at f place | none ↦ Ok tt ]

-- 13, 14 and 15 at term n alone.
unfoldable pub rule_verdict : Layout → Setting ℕ → ℕ → Verdict
rule_verdict L p n = judged (term_place L n) (rule_at L p n)

-- Of a pointcut's label, whose type is t, where `descriptors` has the descriptors of the types by number: t is the type of labels of a; d is at or below the domain of t.
abbrev pub label_of : List ℕ → ℕ → ℕ → Bool
label_of descriptors a t = all (descriptor_is (get_or descriptors t 0) TypeKind.label ∷ eqb (descriptor_field0 (get_or descriptors t 0)) a ∷ [])

abbrev pub label_above : List ℕ → List ℕ → ℕ → ℕ → Bool
label_above ms descriptors d t = bit_of ms d (descriptor_field1 (get_or descriptors t 0))

-- Type a is an object's, and its method m gives type t (card 3).
abbrev pub call_fits : Layout → ℕ → ℕ → ℕ → Bool
call_fits L a m t = all (is TypeKind.obj (describe L a) ∷ ltb m (method_count L a) ∷ gives m (describe L a) (describe L t) ∷ [])

-- Term e, of those of a layout, is of a pointcut's type (card 6).
abbrev pub cut_of : Layout → List ℕ → ℕ → Bool
cut_of L descriptors e = descriptor_is (get_or descriptors (type_no L e) 0) TypeKind.pcd
