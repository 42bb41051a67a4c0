use Rattle.std.proofs.Common.{arith, ◌-◌, ◌++◌, ap, ◌∙◌, List, ℕ}
use Rattle.cds_http.proofs.Memory.{where_ok}
use Rattle.cds_http.proofs.Counting.{goes_data}
use Rattle.cds_http.proofs.body.take_data.Goals as goal

pub returns-clause-goes : goal.returns-clause-goes
returns-clause-goes c =
    goes_data c.args.bytes c.extend.new.self c.args.piece.now c.args.left (c.args.left - c.min-used.result) c.min-used.result (omega arith) (omega arith)
    (where_ok c.extend.result _ c.if-is_err.ensures.value c.extend.ensures.ok ∙ ap (λ (t : List ℕ). c.args.bytes ++ t) c.split_at.ensures.front)
