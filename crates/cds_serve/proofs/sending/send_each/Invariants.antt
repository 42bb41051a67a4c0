-- So far the notes to the addresses before the one that the loop is at were given.
use Rattle.std.proofs.Common.{◌≤◌, map, take}
use Rattle.cds_serve.specs.Sent.{GivesEach, note_request}
use Rattle.cds_serve.proofs.sending.send_each.Given as goal

abbrev pub invariant-notes : goal.invariant-notes
invariant-notes g l = record {
  given : GivesEach (map (note_request l.body) (take l.address-index l.to)) (g.L.Link.told l.initial.link).requests (g.L.Link.told l.link).requests;
  never_falls : (g.L.Link.told l.initial.link).faults ≤ (g.L.Link.told l.link).faults;
}
