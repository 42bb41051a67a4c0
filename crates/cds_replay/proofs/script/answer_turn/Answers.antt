-- A turn that may stand is taken, and its line with it, or it is refused.
use Rattle.std.proofs.Common.{◌≡◌, true, false, Err, sym, subst, ◌∙◌, string_bytes}
use Rattle.cds_replay.specs.Session.{TurnTaken}
use Rattle.cds_replay.specs.Wired.{may_stand_by}
use Rattle.cds_script.specs.declared.turn.Meaning.TheVariants.{Means}
use Rattle.cds_replay.proofs.Answering.{outside-read, turn-taken, turn-refused, turn-outside, played-more, never-refused}
use Rattle.cds_replay.proofs.script.answer_turn.Goals as goal

pub answer-requires-clause-standing : goal.answer-requires-clause-standing
answer-requires-clause-standing g c = (c.requires.played.steps, c.requires.played.after)

pub returns-then-not-may_stand-clause-meaning : goal.returns-then-not-may_stand-clause-meaning
returns-then-not-may_stand-clause-meaning g c = λ steps after.
    let may : may_stand_by steps c.args.turn ≡ false = sym (c.may_stand.ensures steps after) ∙ c.if-not-may_stand.true in
    outside-read (g.W.Wire.carried c.args.wire.now) steps (Means c.args.turn) c.args.number (string_bytes c.args.out.now) (string_bytes c.write_outside.new.out) c.args.session.now
    c.write_outside.result c.write_outside.ensures.stop c.write_outside.ensures.written
    (turn-outside (g.W.Wire.carried c.args.wire.now) steps c.args.turn c.args.number (string_bytes c.args.out.now) (string_bytes c.write_outside.new.out) may)

pub returns-in-Ok-clause-meaning : goal.returns-in-Ok-clause-meaning
returns-in-Ok-clause-meaning g c = λ steps after.
    let may : may_stand_by steps c.args.turn ≡ true = sym (c.may_stand.ensures steps after) ∙ c.if-not-may_stand.false in
    turn-taken (g.W.Wire.carried c.args.wire.now) steps c.args.turn c.args.number (string_bytes c.args.out.now) (string_bytes c.answer.new.out) c.answer.new.self may
    (c.in-Ok.ensures.taken steps after)

pub returns-in-Ok-clause-played : goal.returns-in-Ok-clause-played
returns-in-Ok-clause-played g c =
    played-more (g.W.Wire.carried c.args.wire.now) c.args.turn (string_bytes c.args.out.now) (string_bytes c.answer.new.out) c.args.session.now c.answer.new.self c.requires.played
    (c.in-Ok.ensures.taken c.requires.played.steps c.requires.played.after)

pub returns-in-Err-Refused-clause-meaning : goal.returns-in-Err-Refused-clause-meaning
returns-in-Err-Refused-clause-meaning g c = λ steps after.
    let may : may_stand_by steps c.args.turn ≡ true = sym (c.may_stand.ensures steps after) ∙ c.if-not-may_stand.false in
    turn-refused (g.W.Wire.carried c.args.wire.now) steps c.args.turn c.args.number (string_bytes c.args.out.now) (string_bytes c.answer.new.out) may c.answer.new.self
    (subst (λ e. TurnTaken (g.W.Wire.carried c.args.wire.now) steps c.args.turn (string_bytes c.args.out.now) (string_bytes c.answer.new.out) c.answer.new.self (Err e))
    c.in-Err-Refused.field-0-is (c.in-Err-Refused.ensures.taken steps after))

pub returns-in-Err-Refused-clause-straight : goal.returns-in-Err-Refused-clause-straight
returns-in-Err-Refused-clause-straight g c = λ same.
    let steps = c.requires.played.steps in
    let may : may_stand_by steps c.args.turn ≡ true = sym (c.may_stand.ensures steps c.requires.played.after) ∙ c.if-not-may_stand.false in
    never-refused c.straight_wires_are_taken.ensures (g.W.Wire.carried c.args.wire.now) c.args.turn (string_bytes c.args.out.now) (string_bytes c.answer.new.out) c.args.session.now c.answer.new.self
    c.requires.played same may
    (subst (λ e. TurnTaken (g.W.Wire.carried c.args.wire.now) steps c.args.turn (string_bytes c.args.out.now) (string_bytes c.answer.new.out) c.answer.new.self (Err e))
    c.in-Err-Refused.field-0-is (c.in-Err-Refused.ensures.taken steps c.requires.played.after))
