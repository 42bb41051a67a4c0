use Rattle.std.proofs.Common.{arith}
use Rattle.cds_http.proofs.HeadForms.{reply_kept}
use Rattle.cds_http.proofs.head.read_reply_head.Goals as goal

pub returns-in-Ok-Complete : goal.returns-in-Ok-Complete
returns-in-Ok-Complete c ends =
    reply_kept c.args.text.now c.parse_response.new.headers c.in-Ok-Complete.spans c.reply_head.result (omega (arith, c.parse_response.auto.headers)) c.reply_head.ensures ends
