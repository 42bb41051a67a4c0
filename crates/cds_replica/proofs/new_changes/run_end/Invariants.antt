use Rattle.std.proofs.Common.{◌≡◌, ◌+◌}
use Rattle.cds_replica.specs.Inboxed.{of_name}
use Rattle.cds_replica.proofs.NewOnes.{AllFound}
use Rattle.cds_replica.proofs.new_changes.run_end.Given as goal

-- the places so far were found, one a round
abbrev pub invariant-loop-held : goal.invariant-loop-held
invariant-loop-held l = record {
  found : AllFound (of_name l.sid.0 l.notes) l.from l.place;
  far : l.place ≡ l.from + l._held;
}
