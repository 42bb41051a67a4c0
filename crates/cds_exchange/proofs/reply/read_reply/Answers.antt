use Rattle.cds_exchange.proofs.Showing.{read-if, read-none}
use Rattle.cds_exchange.proofs.reply.read_reply.Goals as goal

pub returns-in-Some : goal.returns-in-Some
returns-in-Some c =
    read-if c.args.ask.now c.args.bytes.now c.in_ok-action.action c.in_ok-answer.field-0 c.in-Some.answer c.shown_by.result c.in_ok-action.ensures c.in_ok-answer.ensures c.in-Some.is
    c.shown_by.ensures

pub returns : goal.returns
returns c = read-none c.args.ask.now c.args.bytes.now c.in_ok-action.action c.in_ok-answer.field-0 c.in_ok-action.ensures c.in_ok-answer.ensures c.in-None.is
