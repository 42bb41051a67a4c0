-- The bytes of a reply are taken, or refused.
use Rattle.std.proofs.Common.{refl, string_bytes}
use Rattle.cds_replay.proofs.Heard.{reply-taken, reply-refused}
use Rattle.cds_replay.proofs.session.take_reply.Goals as goal

pub returns-in_ok-put_read-in-Ok : goal.returns-in_ok-put_read-in-Ok
returns-in_ok-put_read-in-Ok c = λ wrap turns stood.
    reply-taken c.args.replica.now c.answer.new.self wrap turns c.args.reply.now (string_bytes c.args.out.now) (string_bytes c.put_read.new.out) c.requires stood c.in-Ok.read
    c.in-Ok.ensures.reads c.in-Ok.ensures.stands c.in-Ok.ensures.answer c.in-Ok.ensures.read c.in_ok-put_read-in-Ok.ensures

pub returns-in-Err-Unreadable : goal.returns-in-Err-Unreadable
returns-in-Err-Unreadable c = λ wrap turns stood.
    reply-refused c.args.replica.now c.answer.new.self wrap turns c.args.reply.now (string_bytes c.args.out.now) (string_bytes c.args.out.now) c.requires stood
    c.in-Err-Unreadable.field-0 (λ memory. let other = c.in-Err-Unreadable.field-0-is in cc (memory, other)) c.in-Err-Unreadable.ensures.reads
    c.in-Err-Unreadable.ensures.answer refl

pub returns-in-Err-Jump : goal.returns-in-Err-Jump
returns-in-Err-Jump c = λ wrap turns stood.
    reply-refused c.args.replica.now c.answer.new.self wrap turns c.args.reply.now (string_bytes c.args.out.now) (string_bytes c.args.out.now) c.requires stood
    c.in-Err-Jump.field-0 (λ memory. let other = c.in-Err-Jump.field-0-is in cc (memory, other)) c.in-Err-Jump.ensures.reads c.in-Err-Jump.ensures.answer refl

pub returns-in-Err-Torn : goal.returns-in-Err-Torn
returns-in-Err-Torn c = λ wrap turns stood.
    reply-refused c.args.replica.now c.answer.new.self wrap turns c.args.reply.now (string_bytes c.args.out.now) (string_bytes c.args.out.now) c.requires stood
    c.in-Err-Torn.field-0 (λ memory. let other = c.in-Err-Torn.field-0-is in cc (memory, other)) c.in-Err-Torn.ensures.reads c.in-Err-Torn.ensures.answer refl
