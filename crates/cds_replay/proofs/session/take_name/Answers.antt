-- A name is accepted, or refused.
use Rattle.std.proofs.Common.{refl, string_bytes}
use Rattle.cds_follow.specs.Named.{named}
use Rattle.cds_replay.specs.Session.{script_names}
use Rattle.cds_replay.proofs.Heard.{name-taken, name-refused}
use Rattle.cds_replay.proofs.session.take_name.Goals as goal

pub returns-in_ok-put-in-Ok : goal.returns-in_ok-put-in-Ok
returns-in_ok-put-in-Ok c = λ wrap turns name stood is.
    name-taken c.args.replica.now c.subscribed.new.self wrap turns name c.args.sid.0 (string_bytes c.args.out.now) (string_bytes c.put.new.out) stood is
    c.in-Ok.ensures.stands (c.in-Ok.ensures.answer wrap (named script_names turns) stood) c.in_ok-put-in-Ok.ensures.ok

pub returns-in-Err-Jump : goal.returns-in-Err-Jump
returns-in-Err-Jump c = λ wrap turns name stood is.
    name-refused c.args.replica.now c.subscribed.new.self wrap turns name c.args.sid.0 (string_bytes c.args.out.now) (string_bytes c.args.out.now) stood is
    c.in-Err-Jump.field-0 (λ memory. let other = c.in-Err-Jump.field-0-is in cc (memory, other)) (c.in-Err-Jump.ensures.answer wrap (named script_names turns) stood) refl

pub returns-in-Err-Torn : goal.returns-in-Err-Torn
returns-in-Err-Torn c = λ wrap turns name stood is.
    name-refused c.args.replica.now c.subscribed.new.self wrap turns name c.args.sid.0 (string_bytes c.args.out.now) (string_bytes c.args.out.now) stood is
    c.in-Err-Torn.field-0 (λ memory. let other = c.in-Err-Torn.field-0-is in cc (memory, other)) (c.in-Err-Torn.ensures.answer wrap (named script_names turns) stood) refl

pub returns-in-Err-Unknown : goal.returns-in-Err-Unknown
returns-in-Err-Unknown c = λ wrap turns name stood is.
    name-refused c.args.replica.now c.subscribed.new.self wrap turns name c.args.sid.0 (string_bytes c.args.out.now) (string_bytes c.args.out.now) stood is
    c.in-Err-Unknown.field-0 (λ memory. let other = c.in-Err-Unknown.field-0-is in cc (memory, other)) (c.in-Err-Unknown.ensures.answer wrap (named script_names turns) stood) refl

pub returns-in-Err-Full : goal.returns-in-Err-Full
returns-in-Err-Full c = λ wrap turns name stood is.
    name-refused c.args.replica.now c.subscribed.new.self wrap turns name c.args.sid.0 (string_bytes c.args.out.now) (string_bytes c.args.out.now) stood is
    c.in-Err-Full.field-0 (λ memory. let other = c.in-Err-Full.field-0-is in cc (memory, other)) (c.in-Err-Full.ensures.answer wrap (named script_names turns) stood) refl
