-- What was prepared is sent, or memory ran out before.
use Rattle.cds_serve.proofs.Fetches.{fetched-at, opens-as, starved-before}
use Rattle.cds_serve.proofs.fetching.send_slice.Goals as goal

pub returns-in-Ok-clause-fetched : goal.returns-in-Ok-clause-fetched
returns-in-Ok-clause-fetched g c = λ m gets is.
    fetched-at m c.args.slice.media.now c.args.slice.plan c.args.slice.has_body gets is _ _ _ _ _
    (opens-as _ _ _ _ _ _ _ _ _ _ _ _ _ c.in-Ok.ensures.path c.in-Ok.ensures.at c.in-Ok.ensures.count c.in-Ok.ensures.head
    c.send_opened-fate.ensures.opened)

pub returns-in-Err-clause-fetched : goal.returns-in-Err-clause-fetched
returns-in-Err-clause-fetched g c = λ m gets is. starved-before m _ _ _ _ _ c.starved.ensures.fate c.starved.ensures.written
