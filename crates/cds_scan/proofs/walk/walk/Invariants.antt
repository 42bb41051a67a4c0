-- What was found is that of the entries given, of which there are as many as were counted.
use Rattle.std.proofs.Common.{◌≡◌, ◌+◌, ◌-◌, ◌≤◌, length}
use Rattle.cds_scan.specs.Scanning.{CameBack}
use Rattle.cds_scan.specs.Walking.{Reached}
use Rattle.cds_scan.proofs.walk.walk.Given as goal

abbrev pub invariant-entries : goal.invariant-entries
invariant-entries g l = record {
  counted : length (g.F.Folder.told l.folder).given ≡ l.count;
  few : l.count ≤ 1048576;
  reached : Reached (g.F.Folder.told l.initial.folder).contents (g.F.Folder.told l.folder).given l.found (g.F.Folder.told l.initial.folder).file_faults (g.F.Folder.told l.folder).file_faults;
  never_falls : (g.F.Folder.told l.initial.folder).file_faults ≤ (g.F.Folder.told l.folder).file_faults;
  ends : (g.F.Folder.told l.folder).entries ≤ (g.F.Folder.told l.initial.folder).entries + l.count;
  back : CameBack (g.F.Folder.told l.initial.folder).opened (g.F.Folder.told l.folder).opened (g.F.Folder.told l.initial.folder).returned (g.F.Folder.told l.folder).returned;
  tree_stays : (g.F.Folder.told l.folder).tree ≡ (g.F.Folder.told l.initial.folder).tree;
  contents_stay : (g.F.Folder.told l.folder).contents ≡ (g.F.Folder.told l.initial.folder).contents;
  entry_faults_stay : (g.F.Folder.told l.folder).entry_faults ≡ (g.F.Folder.told l.initial.folder).entry_faults;
}

abbrev pub decreases-entries : goal.decreases-entries
decreases-entries g l = 1048576 - l.count
