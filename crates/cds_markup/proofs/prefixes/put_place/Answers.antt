use Rattle.cds_markup.proofs.PrefixPlaces.{puts_place}
use Rattle.cds_markup.proofs.prefixes.put_place.Goals as goal

pub returns : goal.returns
returns c = puts_place c.args.index.now c.insert.new.self c.in_ok-prefix.prefix c.args.prefix.now c.args.place c.in_ok-prefix.ensures c.in_ok-insert.ensures.updates.0
