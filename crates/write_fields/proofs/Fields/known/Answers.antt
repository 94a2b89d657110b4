-- `write_fields::Fields::known` meets its contract.
use borrow.Author.Rules.{rules}
use Rattle.write_fields.proofs.Told.{code_sized, small_kind, count_is, few_fields}
use Rattle.write_fields.proofs.Fields.known.Goals as goal

pub known_code-code-requires : goal.known_code-code-requires
known_code-code-requires c = (c.requires.0, small_kind c.args.kind c.args.fields.now c.requires.1)

pub group_times-requires : goal.group_times-requires
group_times-requires c = rw c.known_code-code.ensures (code_sized c.args.kind c.args.fields.now c.requires.1)

pub first_count-requires : goal.first_count-requires
first_count-requires c = rw c.known_code-code.ensures (code_sized c.args.kind c.args.fields.now c.requires.1)

pub overflow_add-result : goal.overflow_add-result
overflow_add-result c =
    let e = count_is c.args.kind c.args.fields.now c.requires.1 in
    let f = few_fields c.args.kind c.args.fields.now c.requires.1 in
    rw (c.group_times.ensures, c.group_count.ensures, c.last_count.ensures, c.known_code-code.ensures) (search rules)

pub returns : goal.returns
returns c = (
  c.known_code-code.ensures,
  rw (c.first_count.ensures, c.group_times.ensures, c.group_count.ensures, c.last_count.ensures, c.known_code-code.ensures) (count_is c.args.kind c.args.fields.now c.requires.1),
)
