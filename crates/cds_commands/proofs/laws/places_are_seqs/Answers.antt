use Rattle.cds_commands.proofs.Near.{seqs}
use Rattle.cds_commands.proofs.laws.places_are_seqs.Goals as goal

pub returns : goal.returns
returns c = seqs
