-- The walk from the folder's beginning, and what it found as lists.
use Rattle.std.proofs.Common.{ℕ, Option, List, sym, subst, ◌∙◌, ap}
use Rattle.cds_outside.specs.declared.folder.Entry.{Entry}
use Rattle.cds_outside.specs.Entries.{FolderTold, Contents}
use Rattle.cds_catalog.specs.Laws.{IsLibrary}
use Rattle.cds_catalog.specs.Library.{FolderMap}
use Rattle.cds_scan.specs.Found.{Refusals}
use Rattle.cds_scan.specs.Scanning.{Covers, GoesOn, IsRefusedBy, faults_in}
use Rattle.cds_scan.specs.Walking.{Walked}
use Rattle.cds_scan.proofs.Reaching.{count_paired}
use Rattle.cds_scan.proofs.Steps.{err_exit}
use Rattle.cds_scan.proofs.Stops.{scan_of}
use Rattle.cds_scan.proofs.StandingMore.{all_stand, is_library}
use Rattle.cds_scan.proofs.walk.scan.Goals as goal

pub returns-in_err-found-clause-refused : goal.returns-in_err-found-clause-refused
returns-in_err-found-clause-refused g c =
    let after = g.F.Folder.told c.walk.new.folder in
    let e = c.in_err-found.field-0.0 in
    err_exit (IsRefusedBy (g.F.Folder.told c.args.folder.now) after) c.from_residual.result e c.from_residual.ensures.1
    (subst (λ told. IsRefusedBy told after e) c.restart.ensures c.in_err-found.ensures.refused)

pub returns-in_err-found-clause-goes : goal.returns-in_err-found-clause-goes
returns-in_err-found-clause-goes g c = subst (λ told. GoesOn told (g.F.Folder.told c.walk.new.folder)) c.restart.ensures c.in_err-found.ensures.goes

pub returns-in_err-scan-clause-goes : goal.returns-in_err-scan-clause-goes
returns-in_err-scan-clause-goes g c = subst (λ told. GoesOn told (g.F.Folder.told c.walk.new.folder)) c.restart.ensures c.in_ok-found.ensures.goes

pub returns-clause-goes : goal.returns-clause-goes
returns-clause-goes g c = subst (λ told. GoesOn told (g.F.Folder.told c.walk.new.folder)) c.restart.ensures c.in_ok-found.ensures.goes

pub returns-clause-found : goal.returns-clause-found
returns-clause-found g c =
    let first = g.F.Folder.told c.args.folder.now in
    let now = (g.F.Folder.told c.walk.new.folder).file_faults in
    let W : FolderTold → Type 0 = λ told. Walked told.tree told.contents c.in_ok-found.found told.file_faults now in
    let walked : Walked first.tree first.contents c.in_ok-found.found first.file_faults now = subst W c.restart.ensures c.in_ok-found.ensures.walked in
    scan_of first.tree first.contents c.in_ok-found.found first.file_faults now c.in_ok-scan.scan walked c.in_ok-scan.ensures.records c.in_ok-scan.ensures.refused

pub returns-clause-read_faults : goal.returns-clause-read_faults
returns-clause-read_faults g c =
    let now = (g.F.Folder.told c.walk.new.folder).file_faults in
    let B : ℕ → Type 0 = λ n. Covers (faults_in c.in_ok-found.found.refused) n now in
    let begun = subst B (ap (λ (t : FolderTold). t.file_faults) c.restart.ensures) c.in_ok-found.ensures.walked.reached.faults in
    let M : Refusals → Type 0 = λ m. Covers (faults_in m) (g.F.Folder.told c.args.folder.now).file_faults now in
    let listed = subst M (sym c.in_ok-scan.ensures.refused) begun in
    let K : ℕ → Type 0 = λ n. Covers n (g.F.Folder.told c.args.folder.now).file_faults now in
    subst K (sym (count_paired c.in_ok-scan.scan.refused)) listed

pub returns-clause-stands : goal.returns-clause-stands
returns-clause-stands g c =
    let walked = c.in_ok-found.ensures.walked in
    let listed = c.in_ok-scan.ensures.records ∙ walked.reached.records in
    let Library : FolderMap → Type 0 = λ m. IsLibrary m in
    all_stand c.in_ok-scan.scan.records (subst Library (sym listed) (is_library (g.F.Folder.told c.restart.new.self).contents walked.seen walked.reached.outcomes walked.whole walked.reached.each))
