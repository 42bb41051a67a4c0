use Rattle.cds_markup.proofs.Terms.{TakesAll as Takes, telling_of}
use Rattle.cds_markup.proofs.Readings.{shown_so}
use Rattle.cds_markup.proofs.part_reader.Spot.show.Goals as goal

pub returns : goal.returns
returns g c =
    shown_so (Takes g.S.PartSink.took g.S.PartSink.enough) g.S.PartSink.enough (telling_of c.args.self.now) c.cuts_text-open.result c.first-first.result c.show.new.self c.show.result c.put.result c.args.to.now c.put.new.to
    c.cuts_text-open.ensures c.first-first.ensures c.show.ensures.part c.show.ensures.marks c.put.ensures
