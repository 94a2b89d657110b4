-- How many records each section of an image has (document 01, "The image": "Each is numbered from 0 on its own"; "Limits: .. 16 domains, 128 types, 1,024 terms").
use Rattle.std.specs.Prelude.{◌+◌, ◌≤◌, refl}
use Rattle.std.proofs.Math.Nat.{le_trans}
use Rattle.std.proofs.lemmas.Bool.{leb-true}
use Rattle.image.specs.Limits.{domain_limit, type_limit, term_limit}
use Rattle.read_records.specs.declared.numbers.Counts.{Counts}

abbrev pub no_records : Counts
no_records = record { domains = 0; types = 0; terms = 0 }

-- One domain, type or term more.
abbrev pub with_domain : Counts → Counts
with_domain n = record { domains = n.domains + 1; types = n.types; terms = n.terms }

abbrev pub with_type : Counts → Counts
with_type n = record { domains = n.domains; types = n.types + 1; terms = n.terms }

abbrev pub with_term : Counts → Counts
with_term n = record { domains = n.domains; types = n.types; terms = n.terms + 1 }

-- No section has more than its limit.
pub record Few (n : Counts) : Type 0 where
  pub domains : n.domains ≤ domain_limit
  pub types : n.types ≤ type_limit
  pub terms : n.terms ≤ term_limit

-- Then no section has more than the terms may be: so the number of its next record has 16 bits.
pub few_domains : (n : Counts) → Few n → n.domains ≤ term_limit
few_domains n few = le_trans few.domains (leb-true domain_limit term_limit refl)

pub few_types : (n : Counts) → Few n → n.types ≤ term_limit
few_types n few = le_trans few.types (leb-true type_limit term_limit refl)

pub few_terms : (n : Counts) → Few n → n.terms ≤ term_limit
few_terms n few = few.terms
