use Rattle.std.proofs.Common.{◌&&◌, nat_eq, nat_lt, rules}
use Rattle.std.proofs.lemmas.Fn.{filter_same}
use Rattle.cds_commands.specs.Notes.{Note}
use Rattle.cds_replica.proofs.inbox.keep_behind.Goals as goal

pub returns : goal.returns
returns c =
    filter_same _ (λ (note : Note). nat_eq note.name c.args.sid.0 && nat_lt c.args.next note.place) _ (λ x b f r. search rules) _ _ c.retain.ensures.filtered
