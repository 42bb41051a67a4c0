use Rattle.cds_markup.proofs.Readings.{fed_so}
use Rattle.cds_markup.proofs.reader.Reader.feed.Goals as goal

pub returns-clause-fed : goal.returns-clause-fed
returns-clause-fed c = fed_so c.args.self.now c.self.inside.parts c.self.inside.builder c.self.view_is c.feed.new.self c.feed.new.to c.args.piece.now c.feed.result c.feed.ensures.takes
