use Rattle.std.proofs.Common.{ap, ◌∙◌}
use Rattle.cds_outside.specs.Entries.{FolderTold}
use Rattle.cds_outside.specs.Outside.{raised}
use Rattle.cds_scan.proofs.Readings.{reading_told}
use Rattle.cds_scan.proofs.file.read_file.Goals as goal

pub returns-in-Ok-clause-reading : goal.returns-in-Ok-clause-reading
returns-in-Ok-clause-reading g c =
    reading_told (g.F.Folder.told c.args.folder.now).contents c.args.path.now (g.F.File.Source.told c.in-Ok.file).left _ c.in-Ok.ensures.bytes
    c.read_flac-info.result c.reading_of.result c.read_flac-info.ensures.told c.reading_of.ensures

pub returns-in-Ok-clause-back : goal.returns-in-Ok-clause-back
returns-in-Ok-clause-back g c =
    let opened = c.in-Ok.ensures.opened in
    let returned = c.done.ensures.returned in (
      1,
      ap (λ (t : FolderTold). t.opened) returned ∙ ap (λ (t : FolderTold). t.opened) opened,
      ap (λ (t : FolderTold). t.returned) returned ∙ ap (λ (t : FolderTold). raised t.returned 1) opened,
    )
