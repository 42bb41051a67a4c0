use Rattle.cds_markup.proofs.Readings.{new_stands}
use Rattle.cds_markup.proofs.part_reader.PartReader.new.Goals as goal

pub returns : goal.returns
returns c = rw c.new.ensures new_stands
