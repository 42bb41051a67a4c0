use Rattle.std.proofs.Common.{Option, sym, subst}
use Rattle.cds_generate.specs.declared.library.Track.{Track}
use Rattle.cds_generate.specs.Generated.{present_lines}
use Rattle.cds_generate.specs.Writing.{Took}
use Rattle.cds_generate.proofs.writing.write_track.Goals as goal

pub returns-in-Some : goal.returns-in-Some
returns-in-Some g c =
    subst (λ (t : Option Track). Took c.write_present.result (g.K.Sink.told c.args.sink.now) (present_lines c.args.folders c.args.number t) (g.K.Sink.told c.write_present.new.sink))
    (sym c.in-Some.is) c.write_present.ensures
