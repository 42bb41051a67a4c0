use Rattle.std.proofs.Common.{◌∷◌, refl, arith}
use Rattle.cds_markup.specs.Reads.{reading_of}
use Rattle.cds_markup.proofs.Quiet.{tag_run}
use Rattle.cds_markup.proofs.part_reader.Spot.pass_less.Goals as goal

pub returns : goal.returns
returns c =
    let s = c.args.self.now in
    rw c.begin_less.ensures
    (tag_run (reading_of s.cursor.machine) s.marks s.cursor.at 60 (60 ∷ c.args.rest.now) c.args.rest.now refl refl c.requires.takes c.requires.none (omega (arith, c.requires.room)))
