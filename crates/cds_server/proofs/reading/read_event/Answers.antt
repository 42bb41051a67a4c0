use Rattle.cds_server.proofs.Asks.{asks-method, delivers, event-asks, refused-asks}
use Rattle.std.proofs.Common.{◌∙◌, ap, sym, Ok}
use Rattle.cds_server.proofs.reading.read_event.Goals as goal

pub read_gena-requires : goal.read_gena-requires
read_gena-requires c = record { method = asks-method c.args.message.now c.requires.asks }

pub requested-requires : goal.requested-requires
requested-requires c = delivers c.in-Ok.gena c.in-Ok.ensures.delivered

pub returns-in-Ok : goal.returns-in-Ok
returns-in-Ok c = event-asks c.args.message.now c.requires.asks _ (c.in-Ok.ensures.answers ∙ ap Ok (sym c.requested.ensures))

pub returns-in_ok-text-in-Err : goal.returns-in_ok-text-in-Err
returns-in_ok-text-in-Err c =
    refused-asks c.args.message.now c.requires.asks c.in-Err.refusal _ c.in-Err.ensures.answers c.in_ok-text-in-Err.ensures.cause c.in_ok-text-in-Err.ensures.text
