use Rattle.vm_reductions.proofs.Reduced.{install_made}
use Rattle.vm_reductions.proofs.stores.reduce_install.Goals as goal

pub returns-then-n-lt-ADVICE_LIMIT : goal.returns-then-n-lt-ADVICE_LIMIT
returns-then-n-lt-ADVICE_LIMIT c =
    let a = c.args in
    install_made a.work.now _ _ a.r _ a.w a.x c.requires.1 _ _ c.if-n-lt-ADVICE_LIMIT.true c.piece_of-p.ensures c.piece_second-s.ensures c.put_installed.ensures c.given-q.ensures
