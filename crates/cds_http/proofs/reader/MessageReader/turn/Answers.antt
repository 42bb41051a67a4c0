use Rattle.std.proofs.Common.{refl}
use Rattle.cds_http.proofs.StageForms.{reader_takes, reader_refuses}
use Rattle.cds_http.proofs.reader.MessageReader.turn.Goals as goal

pub returns-in-Ok : goal.returns-in-Ok
returns-in-Ok c side came stands =
    let takes = rw c.replace-stage.ensures.value at c.take.ensures.takes in
    let failed = rw c.replace-stage.ensures.value at c.take.ensures.failed in
    let ends = rw c.replace-stage.ensures.value at c.take.ensures.ends in
    reader_takes side came c.args.self.now (record { side = c.args.self.now.side; stage = c.put_stage.new.stage }) c.args.piece.now c.take.result c.in-Ok.taken refl c.put_stage.ensures c.in-Ok.is stands takes failed ends

pub returns-in-Err : goal.returns-in-Err
returns-in-Err c side came stands =
    let takes = rw c.replace-stage.ensures.value at c.take.ensures.takes in
    let failed = rw c.replace-stage.ensures.value at c.take.ensures.failed in
    let ends = rw c.replace-stage.ensures.value at c.take.ensures.ends in
    reader_refuses side came c.args.self.now (record { side = c.args.self.now.side; stage = c.replace-stage.new.dest }) c.args.piece.now c.take.result c.in-Err.refusal c.replace-stage.ensures.after c.in-Err.is stands takes failed ends
