use Rattle.std.proofs.Common.{Ok, Err, refl}
use Rattle.cds_notify.proofs.Reading.{fed-decides}
use Rattle.cds_notify.proofs.body.state_event.Goals as goal

pub returns-in-Err : goal.returns-in-Err
returns-in-Err c = fed-decides c.args.text.now c.in_ok-reader.reader c.feed.new.self (Err c.in-Err.refusal) (Err c.in-Err.refusal) c.in_ok-reader.ensures c.in-Err.ensures.fed refl

pub returns : goal.returns
returns c = fed-decides c.args.text.now c.in_ok-reader.reader c.feed.new.self (Ok tt) c.finish.result c.in_ok-reader.ensures c.in-Ok.ensures.fed c.finish.ensures.finished
