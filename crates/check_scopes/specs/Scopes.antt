-- Where the children of a term stand (document 01, "Typing"): under which variables, in the places of a scope, and at which domain.
use Rattle.std.specs.Prelude.{ℕ, ◌+◌, ◌≤◌, ◌<◌, ◌≡◌, Bool, true, false, ◌||◌, take, length}
use mathlib.Core.List.{List, [], ◌∷◌, map, reverse_aux}
use Rattle.image.specs.Kinds.{Body, here, function_body, advice_body, split_body, lower_body, object_body, match_body, TermKind, term_row, lead_of, bodies}
use Rattle.image.specs.Records.{Layout}
use Rattle.image.specs.Types.{type_field}
use Rattle.verdict.specs.Check.{type_nos}
use Rattle.check_rules.specs.Scopes.{context_in, setting_in, bind_limit, scope_length}
use Rattle.read_terms.specs.Fields.{count_in, Typed, AtField, Entries}
use Rattle.check_rules.specs.Rules.{rule_in, setting_from}

-- A child that stands elsewhere than its term, under other variables or at another domain (document 01, "Typing"); and the kinds that have such a child.
abbrev pub elsewhere : Body → Bool
elsewhere here = false
elsewhere function_body = true
elsewhere advice_body = true
elsewhere split_body = true
elsewhere lower_body = true
elsewhere object_body = true
elsewhere match_body = true

abbrev pub any_elsewhere : List Body → Bool
any_elsewhere [] = false
any_elsewhere (b ∷ bs) = elsewhere b || any_elsewhere bs

abbrev pub moves_child : TermKind → Bool
moves_child k = any_elsewhere (bodies (term_row k).first) || any_elsewhere (bodies (term_row k).group)

-- A term of kind k, with the fields fs, has the types that its rule asks for, in the scope, at the domain c; and there is room for so many variables more.
pub record Passed (b fs : List ℕ) (k : TermKind) (scope : List ℕ) (len c : ℕ) : Type 0 where
  pub typed : Typed b fs
  pub children : (i : ℕ) → i < count_in fs k → AtField b fs (lead_of k + i)
  pub entries : k ≡ TermKind.match → Entries b fs
  pub fits : (rule_in b fs k (setting_in scope len c)).typed ≡ true
  pub places : length scope ≡ scope_length
  pub capacity : len + bind_limit ≤ scope_length

-- Its child i stands in the first m places of the scope after, at the domain d; the first places that were used are kept.
pub record ChildAt (b fs : List ℕ) (k : TermKind) (i : ℕ) (before after : List ℕ) (len c m d : ℕ) : Type 0 where
  pub stands : setting_in after m d ≡ setting_from b fs k (setting_in before len c) i
  pub kept : take len after ≡ take len before
  pub same : length after ≡ length before
  pub grown : len ≤ m
  pub little : m ≤ len + bind_limit

-- Card 6: the types of the values of the pointcuts es; and types that are bound one after another, in the places of a scope behind the first len, so that m places are used.
abbrev pub value_types : Layout → List ℕ → List ℕ
value_types L es = map (λ a. type_field L a 0) (type_nos L es)

pub record Binds (before after : List ℕ) (len m : ℕ) (ts : List ℕ) : Type 0 where
  pub stands : context_in after m ≡ reverse_aux ts (context_in before len)
  pub kept : take len after ≡ take len before
  pub same : length after ≡ length before
  pub used : m ≡ len + length ts
