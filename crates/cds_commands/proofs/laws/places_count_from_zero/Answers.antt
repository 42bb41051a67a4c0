use Rattle.cds_commands.proofs.Seqs.{seqs-count}
use Rattle.cds_commands.proofs.laws.places_count_from_zero.Goals as goal

pub returns : goal.returns
returns c = seqs-count
