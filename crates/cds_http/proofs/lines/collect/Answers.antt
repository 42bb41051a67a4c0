use Rattle.std.proofs.Common.{sym}
use Rattle.cds_http.proofs.Collecting.{ends, keeps}
use Rattle.cds_http.proofs.lines.collect.Goals as goal

pub returns-in-Ended-clause-collects : goal.returns-in-Ended-clause-collects
returns-in-Ended-clause-collects c start came =
    ends start c.args.limit c.args.refusal c.args.front c.args.piece.now c.in-Ended.at c.end_front.result (sym c.in-Ended.ensures.scanned) c.end_front.ensures came

pub returns-in-Open-clause-collects : goal.returns-in-Open-clause-collects
returns-in-Open-clause-collects c start came =
    keeps start c.in-Open.place c.args.limit c.args.refusal c.args.front c.args.piece.now c.keep_front.result (sym c.in-Open.ensures.scanned) c.keep_front.ensures came
