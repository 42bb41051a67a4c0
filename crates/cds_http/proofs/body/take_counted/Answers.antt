use Rattle.std.proofs.Common.{arith}
use Rattle.cds_http.proofs.Memory.{where_ok}
use Rattle.cds_http.proofs.Counting.{goes_counted_more}
use Rattle.cds_http.proofs.body.take_counted.Goals as goal

pub returns-clause-goes : goal.returns-clause-goes
returns-clause-goes c =
    goes_counted_more c.args.bytes c.extend-2.new.self c.args.piece.now c.args.left _ (omega arith) (omega arith)
    (where_ok c.extend-2.result _ c.if-is_err-2.ensures.value c.extend-2.ensures.ok)
