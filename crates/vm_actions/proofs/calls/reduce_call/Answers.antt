use mathlib.Core.Path.{ap, ◌∙◌}
use Rattle.vm_machine.specs.Fetch.{Program}
use Rattle.vm_machine.specs.Turn.{method_at}
use Rattle.vm_actions.proofs.Called.{method_made}
use Rattle.vm_actions.proofs.calls.reduce_call.Goals as goal

pub returns : goal.returns
returns c =
    let a = c.args in
    let C : Program = record { code = a.code.now; image = a.image.now } in
    method_made C a.w a.x _ _ _ c.object_term-t.ensures c.field_b.ensures
    (c.method_at-g.ensures ∙ ap (λ u. method_at C u c.field_b.result) c.word_of-u.ensures) _ _ a.r _ (c.call_body.ensures a.image.now)
