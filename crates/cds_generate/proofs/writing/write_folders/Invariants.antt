-- So far the folders up to here were written.
use Rattle.std.proofs.Common.{Ok}
use Rattle.cds_generate.specs.Generated.{folder_line, texts_below}
use Rattle.cds_generate.specs.Writing.{Took}
use Rattle.cds_generate.proofs.writing.write_folders.Given as goal

abbrev pub invariant-loop-folder : goal.invariant-loop-folder
invariant-loop-folder g l = Took (Ok tt) (g.K.Sink.told l.initial.sink) (texts_below l.folder (folder_line)) (g.K.Sink.told l.sink)
