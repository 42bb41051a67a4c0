-- A note is taken, turned away, or refused.
use Rattle.std.proofs.Common.{◌≡◌, ◌++◌, true, false, refl, sym, subst, ◌∙◌, string_bytes}
use Rattle.cds_follow.specs.Named.{named}
use Rattle.cds_replay.specs.Lines.{was_noticed, can_be_told, delivered_line}
use Rattle.cds_replay.specs.Session.{script_names}
use Rattle.cds_replay.proofs.Heard.{note-taken, note-refused}
use Rattle.cds_replay.proofs.session.take_note.Goals as goal

pub returns-then-not-can_be_told : goal.returns-then-not-can_be_told
returns-then-not-can_be_told c = λ wrap turns told stood is.
    let cannot : can_be_told c.notify-answer.result ≡ false = sym c.can_be_told.ensures ∙ c.if-not-can_be_told.true in
    note-refused c.args.replica.now c.notify-answer.new.self wrap turns c.args.number c.args.note told (string_bytes c.args.out.now) (string_bytes c.args.out.now)
    c.notify-answer.result stood is cannot (c.notify-answer.ensures.answer wrap (named script_names turns) stood) refl

pub returns : goal.returns
returns c = λ wrap turns told stood is.
    let noted : was_noticed c.notify-answer.result ≡ true = sym c.was_noticed.ensures ∙ c.if-not-was_noticed.false in
    let can : can_be_told c.notify-answer.result ≡ true = sym c.can_be_told.ensures ∙ c.if-not-can_be_told.false in
    note-taken c.args.replica.now c.notify-answer.new.self wrap turns c.args.number c.args.note told (string_bytes c.args.out.now) (string_bytes c.put_delivered.new.out)
    c.notify-answer.result stood is noted can c.notify-answer.ensures.stands (c.notify-answer.ensures.answer wrap (named script_names turns) stood)
    (subst (λ n. string_bytes c.put_delivered.new.out ≡ string_bytes c.args.out.now ++ delivered_line n c.notify-answer.result) c.from.ensures c.in_ok-put_delivered.ensures)
