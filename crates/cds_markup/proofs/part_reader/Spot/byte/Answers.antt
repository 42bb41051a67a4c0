-- What a byte completes is given, or what is open where it is refused.
use Rattle.cds_markup.proofs.Terms.{progress, TakesAll as Takes, telling_of}
use Rattle.cds_markup.proofs.ToldBytes.{byte_event, byte_none, byte_refused, last_ends}
use Rattle.cds_markup.proofs.part_reader.Spot.byte.Goals as goal

pub returns-in_ok-part-in-Ok-Some : goal.returns-in_ok-part-in-Ok-Some
returns-in_ok-part-in-Ok-Some g c =
    byte_event (Takes g.S.PartSink.took g.S.PartSink.enough) g.S.PartSink.enough (progress c.args.self.now.cursor) (progress c.next.new.self) c.args.self.now.marks c.complete.new.self c.args.b c.first-first.result c.in-Ok-Some.event c.in_ok-part-in-Ok-Some.part c.args.to.now c.put.new.to c.put.result
    (rw c.in-Ok-Some.field-0-is at c.in-Ok-Some.ensures) c.first-first.ensures c.in_ok-part-in-Ok-Some.ensures c.put.ensures

pub returns-in-Ok-None : goal.returns-in-Ok-None
returns-in-Ok-None g c =
    byte_none (Takes g.S.PartSink.took g.S.PartSink.enough) g.S.PartSink.enough (progress c.args.self.now.cursor) (progress c.next.new.self) c.args.self.now.marks c.pass.new.self c.args.b c.begins-begins.result c.pass.result c.args.to.now c.put-in-Ok-None.new.to c.put-in-Ok-None.result
    (rw c.in-Ok-None.field-0-is at c.in-Ok-None.ensures) (rw c.is_between-between.ensures at c.begins-begins.ensures) c.pass.ensures.part c.pass.ensures.marks c.put-in-Ok-None.ensures

pub returns-in_default : goal.returns-in_default
returns-in_default g c =
    let p = progress c.args.self.now.cursor in
    byte_refused (Takes g.S.PartSink.took g.S.PartSink.enough) g.S.PartSink.enough p (progress c.next.new.self) c.args.self.now.marks c.args.b c.in-Err.refusal c.last.result c.args.to.now c.refuse.new.to (telling_of (record { cursor = c.next.new.self; marks = c.last.new.self }))
    c.refuse.result c.in_default.not-Mem c.in-Err.ensures (last_ends p c.args.self.now.marks c.cuts_text-open.result c.first-first.result c.last.result c.first-first.ensures c.cuts_text-open.ensures c.last.ensures) c.refuse.ensures
