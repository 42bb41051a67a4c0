-- What is written is read back.
use Rattle.cds_lastchange.proofs.WrittenRead.{written-read}
use Rattle.cds_lastchange.proofs.write.write_state_event.Goals as goal

pub returns-clause-read_back : goal.returns-clause-read_back
returns-clause-read_back c = λ short. written-read c.args.events.now c.in_ok-put_events.ensures.numbered short
