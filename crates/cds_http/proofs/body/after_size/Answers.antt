use Rattle.std.proofs.Common.{arith, ◌<◌, ◌+◌, length}
use Rattle.cds_http.specs.Framing.{body_limit}
use Rattle.cds_http.proofs.Chunking.{turns_last, turns_data, turns_long}
use Rattle.cds_http.proofs.body.after_size.Goals as goal
use Rattle.cds_http.proofs.body.after_size.Goals.{then-size-via-then-size, then-size-via-else-size+then-len-size}

pub returns-then-size-eq0 : goal.returns-then-size-eq0
returns-then-size-eq0 c line is ends short =
    turns_last c.args.bytes line c.args.size c.new_front.result c.if-size-eq0.true c.new_front.ensures.text c.new_front.ensures.place is ends short

pub returns-then-size : goal.returns-then-size
returns-then-size c line is ends short =
    let long : body_limit < length c.args.bytes + c.args.size =
    elim c.then-size.branch [ then-size-via-then-size w ↦ omega arith | then-size-via-else-size+then-len-size w ↦ omega arith ] in
    turns_long c.args.bytes line c.args.size (omega arith) long is ends short

pub returns : goal.returns
returns c line is ends short = turns_data c.args.bytes line c.args.size (omega arith) (omega arith) is ends short
