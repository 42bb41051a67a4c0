use Rattle.std.proofs.Common.{◌≡◌, take}
use Rattle.cds_object.proofs.path.Path.parent.Given as goal

abbrev pub invariant-loop-name : goal.invariant-loop-name
invariant-loop-name l = l.names ≡ take l.name-index l.folders
