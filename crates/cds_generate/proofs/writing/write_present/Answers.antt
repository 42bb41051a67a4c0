use Rattle.std.proofs.Common.{Bool, cond, [], ◌++◌, sym, subst}
use Rattle.cds_generate.specs.Generated.{track_line, tag_line}
use Rattle.cds_generate.specs.Writing.{Took}
use Rattle.cds_generate.proofs.writing.write_present.Goals as goal

pub returns-then-track : goal.returns-then-track
returns-then-track g c =
    subst (λ (b : Bool). Took c.write_text.result (g.K.Sink.told c.args.sink.now)
    (cond b (track_line c.args.folders c.args.number c.args.track.version ++ tag_line c.args.number) []) (g.K.Sink.told c.write_text.new.sink))
    (sym c.if-track.true)
    (c.write_text.ensures (track_line c.args.folders c.args.number c.args.track.version ++ tag_line c.args.number) c.track_text.ensures)
