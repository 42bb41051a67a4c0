use Rattle.cds_replica.proofs.Replies.{reply-unchanged, reply-read, reply-unreadable, reply-stands, reply-answers, reply-reads, reply-given, reply-attempts, reply-few}
use Rattle.cds_replica.proofs.ShownIn.{reply-goes}
use Rattle.cds_replica.proofs.replica.Replica.answer.Goals as goal

pub returns-in-Ok-clause-unchanged : goal.returns-in-Ok-clause-unchanged
returns-in-Ok-clause-unchanged c = reply-unchanged c.args.self.now c.take_read.new.self c.in-Ok.read c.take_read.result c.take_read.ensures

pub returns-in-Ok-clause-reads : goal.returns-in-Ok-clause-reads
returns-in-Ok-clause-reads c = reply-read _ c.args.reply.now c.in-Ok.read c.take_read.result c.in-Ok.ensures

pub returns-in-Ok-clause-unreadable : goal.returns-in-Ok-clause-unreadable
returns-in-Ok-clause-unreadable c =
    reply-unreadable c.readings_are_one.ensures c.args.self.now c.take_read.new.self c.args.reply.now c.in-Ok.read c.take_read.result c.in-Ok.ensures c.take_read.ensures

pub returns-in-Ok-clause-stands : goal.returns-in-Ok-clause-stands
returns-in-Ok-clause-stands c =
    reply-stands c.readings_are_one.ensures c.args.self.now c.take_read.new.self c.args.reply.now c.in-Ok.read c.take_read.result c.in-Ok.ensures c.take_read.ensures

pub returns-in-Ok-clause-answer : goal.returns-in-Ok-clause-answer
returns-in-Ok-clause-answer c =
    reply-answers c.readings_are_one.ensures c.args.self.now c.take_read.new.self c.args.reply.now c.in-Ok.read c.take_read.result c.in-Ok.ensures c.take_read.ensures

pub returns-in-Ok-clause-read : goal.returns-in-Ok-clause-read
returns-in-Ok-clause-read c =
    reply-reads c.readings_are_one.ensures c.args.self.now c.take_read.new.self c.args.reply.now c.in-Ok.read c.take_read.result c.in-Ok.ensures c.take_read.ensures

pub returns-in-Ok-clause-given : goal.returns-in-Ok-clause-given
returns-in-Ok-clause-given c =
    reply-given c.readings_are_one.ensures c.args.self.now c.take_read.new.self c.args.reply.now c.in-Ok.read c.take_read.result c.requires c.in-Ok.ensures c.take_read.ensures

pub returns-in-Ok-clause-attempt : goal.returns-in-Ok-clause-attempt
returns-in-Ok-clause-attempt c =
    reply-attempts c.readings_are_one.ensures c.args.self.now c.take_read.new.self c.args.reply.now c.in-Ok.read c.take_read.result c.in-Ok.ensures c.take_read.ensures

pub returns-in-Ok-clause-few : goal.returns-in-Ok-clause-few
returns-in-Ok-clause-few c = reply-few c.args.self.now c.take_read.new.self c.in-Ok.read c.take_read.result c.facts.ensures c.take_read.ensures

pub returns-in-Ok-clause-goes : goal.returns-in-Ok-clause-goes
returns-in-Ok-clause-goes c =
    reply-goes c.args.self.now c.take_read.new.self c.args.reply.now c.in-Ok.read c.take_read.result c.in-Ok.ensures c.take_read.ensures
