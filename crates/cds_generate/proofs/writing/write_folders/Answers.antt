use Rattle.std.proofs.Common.{arith}
use Rattle.std.proofs.lemmas.Result.{err_from_is_err_and}
use Rattle.cds_generate.specs.Generated.{folder_line}
use Rattle.cds_generate.proofs.Pieces.{loop_none, loop_more, loop_stops, loop_all}
use Rattle.cds_generate.proofs.writing.write_folders.Goals as goal

pub loop-folder-init : goal.loop-folder-init
loop-folder-init g c = loop_none (g.K.Sink.told c.args.sink.now) (folder_line)

pub loop-folder-preserved : goal.loop-folder-preserved
loop-folder-preserved g c =
    loop_more c.loop-folder.folder (folder_line) (g.K.Sink.told c.args.sink.now) (g.K.Sink.told c.loop-folder.sink) (g.K.Sink.told c.write_folder.new.sink) c.loop-folder.invariant c.in_ok-write_folder.ensures

pub returns-in_err-write_folder : goal.returns-in_err-write_folder
returns-in_err-write_folder g c =
    let error = err_from_is_err_and c.from_residual.result c.from_residual.ensures.1 in
    rw (error.1, error.2)
    (loop_stops c.in_err-write_folder.field-0.0 c.loop-folder.folder c.args.count (folder_line) (g.K.Sink.told c.args.sink.now) (g.K.Sink.told c.loop-folder.sink) (g.K.Sink.told c.write_folder.new.sink)
    (omega arith) c.loop-folder.invariant c.in_err-write_folder.ensures)

pub returns : goal.returns
returns g c = loop_all c.loop-folder.folder c.args.count (folder_line) (g.K.Sink.told c.args.sink.now) (g.K.Sink.told c.loop-folder.sink) (omega arith) (omega arith) c.loop-folder.invariant
