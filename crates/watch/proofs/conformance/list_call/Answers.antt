-- The call, then its listing.
use Rattle.watch.proofs.Listed.{conformance_listed}
use Rattle.watch.proofs.conformance.list_call.Goals as goal

pub returns : goal.returns
returns c =
    conformance_listed c.args.image.now _ c.args.budget c.frame_bytes-frame.ensures _ _ _ _ c.run-a.ensures c.run-a.auto.log c.run-a.auto.report c.requires c.put_listing.ensures
