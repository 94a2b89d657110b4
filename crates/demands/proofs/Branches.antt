-- The branches of two calls compared (card 6).
use Rattle.demands.specs.Branches.{Card6}
use Rattle.demands.proofs.Compare.{demand3_images}
use Rattle.demands.proofs.Demands.{accepts}

pub card6 : Card6
card6 high b b' C frame budget budget' log log' report report' work work' h h' =
    (demand3_images high b b' (accepts b report work h) (accepts b' report' work' h') C frame budget budget' log log').branches
