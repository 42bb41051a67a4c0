use Rattle.cds_commands.proofs.After.{after}
use Rattle.cds_commands.proofs.laws.next_places_have_next_seqs.Goals as goal

pub returns : goal.returns
returns c = after
