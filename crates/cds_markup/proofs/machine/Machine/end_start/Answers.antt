-- The tag says what its token says.
use Rattle.std.proofs.Common.{ap}
use Rattle.cds_markup.specs.Bytes.{reading}
use Rattle.cds_markup.specs.Reads.{reading_of}
use Rattle.cds_markup.specs.Root.{Started, Slash}
use Rattle.cds_markup.proofs.TagEnds.{tag_ends, started, slashed}
use Rattle.cds_markup.proofs.machine.Machine.end_start.Goals as goal

pub returns-in_ok-start : goal.returns-in_ok-start
returns-in_ok-start c =
    let m = c.args.self.now in
    let mode = c.end_start-tag.new.self in
    let tag = c.end_start-tag.result in
    tag_ends (reading_of m) (reading m.begun.items mode m.opens.items) (reading_of c.start.new.self) c.args.c mode tag (Started tag) c.in_ok-start.field-0 (c.end_start-tag.ensures m.opens.items)
    (started c.args.c tag c.if-c-eq62.true) (ap (λ x. reading x mode m.opens.items) c.requires.none) c.in_ok-start.ensures

pub returns-in_ok-empty : goal.returns-in_ok-empty
returns-in_ok-empty c =
    let m = c.args.self.now in
    let mode = c.end_start-tag.new.self in
    let tag = c.end_start-tag.result in
    tag_ends (reading_of m) (reading m.begun.items mode m.opens.items) (reading_of c.empty.new.self) c.args.c mode tag (Slash tag) c.in_ok-empty.field-0 (c.end_start-tag.ensures m.opens.items)
    (slashed c.args.c tag c.if-c-eq62.false) (ap (λ x. reading x mode m.opens.items) c.requires.none) c.in_ok-empty.ensures
