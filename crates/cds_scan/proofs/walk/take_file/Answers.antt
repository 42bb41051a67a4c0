use Rattle.std.proofs.Common.{rules, ◌≡◌, true, sym, ap, ◌∙◌}
use Rattle.cds_outside.specs.declared.folder.Entry.TheVariants.{File}
use Rattle.cds_object.specs.Path.{name_of, path_read}
use Rattle.cds_scan.specs.Outcomes.{ends_in_flac}
use Rattle.cds_scan.specs.Walking.{IsEntryFault}
use Rattle.cds_scan.proofs.Steps.{err_exit, track_left}
use Rattle.cds_scan.proofs.walk.take_file.Goals as goal

pub returns-in_err-take_reading-clause-err : goal.returns-in_err-take_reading-clause-err
returns-in_err-take_reading-clause-err g c =
    let flac : ends_in_flac (name_of c.in_ok-place.place) ≡ true = ap ends_in_flac (sym c.name.ensures) ∙ sym c.if-not-ends_in_flac.ensures in
    err_exit (IsEntryFault (g.F.Folder.told c.args.folder.now).contents (File c.args.path c.args.size) c.args.found.now)
    c.from_residual-in_err-take_reading.result c.in_err-take_reading.field-0.0 c.from_residual-in_err-take_reading.ensures.1
    (track_left (g.F.Folder.told c.args.folder.now).contents c.args.path c.in_ok-place.place c.args.size c.in_ok-reading.reading c.args.found.now c.in_err-take_reading.field-0.0
    (ap path_read (sym c.as_str.ensures) ∙ c.in_ok-place.ensures) flac (search rules) c.in_err-take_reading.ensures.err)
