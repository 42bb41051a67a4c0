use Rattle.std.proofs.Common.{◌≡◌, refl, sym, ap, subst, ◌∙◌}
use Rattle.cds_outside.specs.declared.folder.Entry.{Entry}
use Rattle.cds_outside.specs.declared.folder.Entry.TheVariants.{Folder}
use Rattle.cds_scan.specs.Outcomes.{IsOutcome, Kept, folder_record}
use Rattle.cds_scan.specs.Walking.{IsEntryFault, TakesFolder}
use Rattle.cds_scan.proofs.Steps.{err_exit}
use Rattle.cds_scan.proofs.walk.take_entry.Goals as goal

pub returns-in_err-take_folder-in-Folder-clause-err : goal.returns-in_err-take_folder-in-Folder-clause-err
returns-in_err-take_folder-in-Folder-clause-err g c =
    let contents = (g.F.Folder.told c.args.folder.now).contents in
    let e = c.in_err-take_folder-in-Folder.field-0.0 in
    let same : Folder c.as_str.result.now ≡ c.args.entry = ap Folder c.as_str.ensures ∙ sym c.in-Folder.is in
    let P : Entry → Type 0 = λ x. IsEntryFault contents x c.args.found.now e in
    err_exit (IsEntryFault contents c.args.entry c.args.found.now) c.from_residual.result e c.from_residual.ensures.1
    (subst P same (c.in_err-take_folder-in-Folder.ensures.err contents))

pub returns-in_ok-take_folder-in-Folder-clause-ok : goal.returns-in_ok-take_folder-in-Folder-clause-ok
returns-in_ok-take_folder-in-Folder-clause-ok g c =
    let contents = (g.F.Folder.told c.args.folder.now).contents in
    let same : Folder c.as_str.result.now ≡ c.args.entry = ap Folder c.as_str.ensures ∙ sym c.in-Folder.is in
    let takes : TakesFolder c.as_str.result.now c.args.found.now c.take_folder.new.found = c.in_ok-take_folder-in-Folder.ensures.ok in
    let P : Entry → Type 0 = λ x. IsOutcome contents x (Kept (folder_record takes.0)) in
    record {
      outcome = Kept (folder_record takes.0);
      is = subst P same (takes.0, takes.1, refl);
      adds = takes.2;
      rose = tt;
    }
