use Rattle.cds_scan.specs.Walking.{IsFolderLeft}
use Rattle.cds_scan.proofs.Steps.{err_exit, folder_left}
use Rattle.cds_scan.proofs.walk.take_folder.Goals as goal

pub returns-in_err-keep-clause-err : goal.returns-in_err-keep-clause-err
returns-in_err-keep-clause-err c =
    err_exit (IsFolderLeft c.args.path.now c.args.found.now) c.from_residual-in_err-keep.result c.in_err-keep.field-0.0 c.from_residual-in_err-keep.ensures.1
    (folder_left c.args.path.now c.in_ok-place.place c.args.found.now c.in_err-keep.field-0.0 c.in_ok-place.ensures c.in_err-keep.ensures.err)
