-- The head was cut off, or bytes followed it.
use Rattle.cds_serve.proofs.Fetches.{body-sent, head-cut}
use Rattle.cds_serve.proofs.fetching.send_both.Goals as goal

pub returns-in-Ok-clause-sent : goal.returns-in-Ok-clause-sent
returns-in-Ok-clause-sent g c = λ bytes told.
    body-sent c.args.head.now bytes c.args.count _ _ _ _ _ _ c.send_over.result told c.in-Ok.ensures.content c.send_all.ensures.never_falls
    c.send_over.ensures.whole c.send_over.ensures.part c.send_over.ensures.short c.send_over.ensures.all c.send_over.ensures.read_fault
    c.send_over.ensures.write_fault

pub returns-in-Err-clause-sent : goal.returns-in-Err-clause-sent
returns-in-Err-clause-sent g c = λ bytes told. head-cut _ c.args.head.now _ _ _ c.in-Err.ensures.part c.in-Err.ensures.rose
