-- The rows stand for the order of the layout.
use mathlib.Core.Path.{◌∙◌}
use Rattle.image.specs.Layout.{records_of}
use Rattle.check_shape.proofs.Orders.{order_same}
use Rattle.check_shape.proofs.order.check_order.Goals as goal

pub returns : goal.returns
returns c =
    let o = c.order_of-o in
    let a = c.args in
    c.first_unordered.ensures ∙ order_same (records_of a.image.now) a.image.now a.doms.now c.requires o.result o.ensures
