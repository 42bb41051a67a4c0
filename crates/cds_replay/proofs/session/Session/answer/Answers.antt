-- Each turn is that of one function.
use Rattle.std.proofs.Common.{◌≡◌, ◌∷◌, true, refl, sym, subst, string_bytes}
use Rattle.std.proofs.lemmas.Result.{on_ok_weaker}
use Rattle.cds_script.specs.declared.turn.ScriptTurn.TheVariants.{Folder, Track, Tag, Scan, Load, Ask, First, Wrap, At, Subscribe, Accept, Renew, Unsubscribe, Deliver, ReadFault}
use Rattle.cds_script.specs.Script.{IsInRange}
use Rattle.cds_replay.specs.Wired.{may_stand_by}
use Rattle.cds_replay.specs.Session.{IsAfter, TurnTaken, quiet}
use Rattle.cds_replay.proofs.Answering.{quiet-answer, quiet-turn, silent-turn, turn-grows}
use Rattle.cds_replay.proofs.Turns.{folder-after, track-after, tag-after}
use Rattle.cds_replay.proofs.session.Session.answer.Goals as goal

pub returns-in-Folder-clause-taken : goal.returns-in-Folder-clause-taken
returns-in-Folder-clause-taken g c = λ steps after.
    subst (λ t. TurnTaken (g.W.Wire.carried c.args.wire.now) steps t (string_bytes c.args.out.now) (string_bytes c.args.out.now) c.add_folder.new.self c.of_memory.result) (sym c.in-Folder.is)
    (silent-turn (g.W.Wire.carried c.args.wire.now) steps (Folder c.in-Folder.path) (string_bytes c.args.out.now) c.add_folder.new.self c.add_folder.result c.of_memory.result
    c.of_memory.ensures refl refl refl (on_ok_weaker c.add_folder.result (λ same. subst (λ p. IsAfter p (quiet (Folder c.in-Folder.path) ∷ steps)) (sym same) (folder-after c.args.self.now c.in-Folder.path steps after)) c.add_folder.ensures))

pub returns-in-Track-clause-taken : goal.returns-in-Track-clause-taken
returns-in-Track-clause-taken g c = λ steps after.
    subst (λ t. TurnTaken (g.W.Wire.carried c.args.wire.now) steps t (string_bytes c.args.out.now) (string_bytes c.args.out.now) c.add_track.new.self c.of_memory-in-Track.result) (sym c.in-Track.is)
    (silent-turn (g.W.Wire.carried c.args.wire.now) steps (Track c.in-Track.path c.in-Track.info c.in-Track.size) (string_bytes c.args.out.now) c.add_track.new.self c.add_track.result c.of_memory-in-Track.result
    c.of_memory-in-Track.ensures refl refl refl (on_ok_weaker c.add_track.result (λ same. subst (λ p. IsAfter p (quiet (Track c.in-Track.path c.in-Track.info c.in-Track.size) ∷ steps)) (sym same)
    (track-after c.args.self.now c.in-Track.path c.in-Track.info c.in-Track.size steps after (subst IsInRange c.in-Track.is c.requires.fits))) c.add_track.ensures))

pub returns-in-Tag-clause-taken : goal.returns-in-Tag-clause-taken
returns-in-Tag-clause-taken g c = λ steps after.
    subst (λ t. TurnTaken (g.W.Wire.carried c.args.wire.now) steps t (string_bytes c.args.out.now) (string_bytes c.args.out.now) c.add_tag.new.self c.of_memory-in-Tag.result) (sym c.in-Tag.is)
    (silent-turn (g.W.Wire.carried c.args.wire.now) steps (Tag c.in-Tag.comment) (string_bytes c.args.out.now) c.add_tag.new.self c.add_tag.result c.of_memory-in-Tag.result
    c.of_memory-in-Tag.ensures refl refl refl (on_ok_weaker c.add_tag.result (λ same. subst (λ p. IsAfter p (quiet (Tag c.in-Tag.comment) ∷ steps)) (sym same)
    (tag-after c.args.self.now c.in-Tag.comment steps after (subst (λ t. may_stand_by steps t ≡ true) c.in-Tag.is (c.requires.stands steps after)))) c.add_tag.ensures))

pub returns-in-Scan-clause-taken : goal.returns-in-Scan-clause-taken
returns-in-Scan-clause-taken g c = λ steps after.
    subst (λ t. TurnTaken (g.W.Wire.carried c.args.wire.now) steps t (string_bytes c.args.out.now) (string_bytes c.scan.new.out) c.scan.new.self c.of_memory-in-Scan.result) (sym c.in-Scan.is)
    (quiet-turn (g.W.Wire.carried c.args.wire.now) steps Scan (string_bytes c.args.out.now) (string_bytes c.scan.new.out) c.scan.new.self c.scan.result c.of_memory-in-Scan.result
    c.of_memory-in-Scan.ensures refl refl (c.scan.ensures.after steps after) (c.scan.ensures.written steps after))

pub returns-in-Load-clause-taken : goal.returns-in-Load-clause-taken
returns-in-Load-clause-taken g c = λ steps after.
    subst (λ t. TurnTaken (g.W.Wire.carried c.args.wire.now) steps t (string_bytes c.args.out.now) (string_bytes c.args.out.now) c.load.new.self c.of_memory-in-Load.result) (sym c.in-Load.is)
    (silent-turn (g.W.Wire.carried c.args.wire.now) steps Load (string_bytes c.args.out.now) c.load.new.self c.load.result c.of_memory-in-Load.result
    c.of_memory-in-Load.ensures refl refl refl (c.load.ensures.after steps after))

pub returns-in-Read-clause-taken : goal.returns-in-Read-clause-taken
returns-in-Read-clause-taken g c = λ steps after.
    subst (λ t. TurnTaken (g.W.Wire.carried c.args.wire.now) steps t (string_bytes c.args.out.now) (string_bytes c.read.new.out) c.read.new.self c.read.result) (sym c.in-Read.is)
    (c.read.ensures.taken steps after)

pub returns-in-Ask-clause-taken : goal.returns-in-Ask-clause-taken
returns-in-Ask-clause-taken g c = λ steps after.
    subst (λ t. TurnTaken (g.W.Wire.carried c.args.wire.now) steps t (string_bytes c.args.out.now) (string_bytes c.ask.new.out) c.ask.new.self c.of_memory-in-Ask.result) (sym c.in-Ask.is)
    (quiet-turn (g.W.Wire.carried c.args.wire.now) steps Ask (string_bytes c.args.out.now) (string_bytes c.ask.new.out) c.ask.new.self c.ask.result c.of_memory-in-Ask.result
    c.of_memory-in-Ask.ensures refl refl (c.ask.ensures.after steps after) (c.ask.ensures.written steps after))

pub returns-in-First-clause-taken : goal.returns-in-First-clause-taken
returns-in-First-clause-taken g c = λ steps after.
    subst (λ t. TurnTaken (g.W.Wire.carried c.args.wire.now) steps t (string_bytes c.args.out.now) (string_bytes c.args.out.now) c.begin_at.new.self c.of_memory-in-First.result) (sym c.in-First.is)
    (silent-turn (g.W.Wire.carried c.args.wire.now) steps (First c.in-First.number) (string_bytes c.args.out.now) c.begin_at.new.self c.begin_at.result c.of_memory-in-First.result
    c.of_memory-in-First.ensures refl refl refl (c.begin_at.ensures.after steps after))

pub returns-in-Wrap-clause-taken : goal.returns-in-Wrap-clause-taken
returns-in-Wrap-clause-taken g c = λ steps after.
    subst (λ t. TurnTaken (g.W.Wire.carried c.args.wire.now) steps t (string_bytes c.args.out.now) (string_bytes c.args.out.now) c.begin_with.new.self c.of_memory-in-Wrap.result) (sym c.in-Wrap.is)
    (silent-turn (g.W.Wire.carried c.args.wire.now) steps (Wrap c.in-Wrap.number) (string_bytes c.args.out.now) c.begin_with.new.self c.begin_with.result c.of_memory-in-Wrap.result
    c.of_memory-in-Wrap.ensures refl refl refl (c.begin_with.ensures.after steps after))

pub returns-in-At-clause-taken : goal.returns-in-At-clause-taken
returns-in-At-clause-taken g c = λ steps after.
    subst (λ t. TurnTaken (g.W.Wire.carried c.args.wire.now) steps t (string_bytes c.args.out.now) (string_bytes c.tick.new.out) c.tick.new.self c.of_memory-in-At.result) (sym c.in-At.is)
    (quiet-turn (g.W.Wire.carried c.args.wire.now) steps (At c.in-At.moment) (string_bytes c.args.out.now) (string_bytes c.tick.new.out) c.tick.new.self c.tick.result c.of_memory-in-At.result
    c.of_memory-in-At.ensures refl refl (c.tick.ensures.after steps after) (c.tick.ensures.written steps after))

pub returns-in-Subscribe-clause-taken : goal.returns-in-Subscribe-clause-taken
returns-in-Subscribe-clause-taken g c = λ steps after.
    subst (λ t. TurnTaken (g.W.Wire.carried c.args.wire.now) steps t (string_bytes c.args.out.now) (string_bytes c.subscribe.new.out) c.subscribe.new.self c.of_memory-in-Subscribe.result) (sym c.in-Subscribe.is)
    (quiet-turn (g.W.Wire.carried c.args.wire.now) steps Subscribe (string_bytes c.args.out.now) (string_bytes c.subscribe.new.out) c.subscribe.new.self c.subscribe.result c.of_memory-in-Subscribe.result
    c.of_memory-in-Subscribe.ensures refl refl (c.subscribe.ensures.after steps after) (c.subscribe.ensures.written steps after))

pub returns-in-Accept-clause-taken : goal.returns-in-Accept-clause-taken
returns-in-Accept-clause-taken g c = λ steps after.
    subst (λ t. TurnTaken (g.W.Wire.carried c.args.wire.now) steps t (string_bytes c.args.out.now) (string_bytes c.accept.new.out) c.accept.new.self c.accept.result) (sym c.in-Accept.is)
    (quiet-answer (g.W.Wire.carried c.args.wire.now) steps Accept (string_bytes c.args.out.now) (string_bytes c.accept.new.out) c.accept.new.self c.accept.result refl (c.accept.ensures.taken steps after))

pub returns-in-Renew-clause-taken : goal.returns-in-Renew-clause-taken
returns-in-Renew-clause-taken g c = λ steps after.
    subst (λ t. TurnTaken (g.W.Wire.carried c.args.wire.now) steps t (string_bytes c.args.out.now) (string_bytes c.renew.new.out) c.renew.new.self c.of_memory-in-Renew.result) (sym c.in-Renew.is)
    (quiet-turn (g.W.Wire.carried c.args.wire.now) steps Renew (string_bytes c.args.out.now) (string_bytes c.renew.new.out) c.renew.new.self c.renew.result c.of_memory-in-Renew.result
    c.of_memory-in-Renew.ensures refl refl (c.renew.ensures.after steps after) (c.renew.ensures.written steps after))

pub returns-in-Unsubscribe-clause-taken : goal.returns-in-Unsubscribe-clause-taken
returns-in-Unsubscribe-clause-taken g c = λ steps after.
    subst (λ t. TurnTaken (g.W.Wire.carried c.args.wire.now) steps t (string_bytes c.args.out.now) (string_bytes c.unsubscribe.new.out) c.unsubscribe.new.self c.of_memory-in-Unsubscribe.result) (sym c.in-Unsubscribe.is)
    (quiet-turn (g.W.Wire.carried c.args.wire.now) steps Unsubscribe (string_bytes c.args.out.now) (string_bytes c.unsubscribe.new.out) c.unsubscribe.new.self c.unsubscribe.result c.of_memory-in-Unsubscribe.result
    c.of_memory-in-Unsubscribe.ensures refl refl (c.unsubscribe.ensures.after steps after) (c.unsubscribe.ensures.written steps after))

pub returns-in-Deliver-clause-taken : goal.returns-in-Deliver-clause-taken
returns-in-Deliver-clause-taken g c = λ steps after.
    subst (λ t. TurnTaken (g.W.Wire.carried c.args.wire.now) steps t (string_bytes c.args.out.now) (string_bytes c.deliver.new.out) c.deliver.new.self c.deliver.result) (sym c.in-Deliver.is)
    (quiet-answer (g.W.Wire.carried c.args.wire.now) steps (Deliver c.in-Deliver.note) (string_bytes c.args.out.now) (string_bytes c.deliver.new.out) c.deliver.new.self c.deliver.result refl
    (c.deliver.ensures.taken steps after (subst (λ t. may_stand_by steps t ≡ true) c.in-Deliver.is (c.requires.stands steps after))))

pub returns-in-ReadFault-clause-taken : goal.returns-in-ReadFault-clause-taken
returns-in-ReadFault-clause-taken g c = λ steps after.
    subst (λ t. TurnTaken (g.W.Wire.carried c.args.wire.now) steps t (string_bytes c.args.out.now) (string_bytes c.lose_read.new.out) c.lose_read.new.self c.of_memory-in-ReadFault.result) (sym c.in-ReadFault.is)
    (quiet-turn (g.W.Wire.carried c.args.wire.now) steps ReadFault (string_bytes c.args.out.now) (string_bytes c.lose_read.new.out) c.lose_read.new.self c.lose_read.result c.of_memory-in-ReadFault.result
    c.of_memory-in-ReadFault.ensures refl refl (c.lose_read.ensures.after steps after) c.lose_read.ensures.written)

pub returns-in-Folder-clause-grows : goal.returns-in-Folder-clause-grows
returns-in-Folder-clause-grows g c =
    turn-grows (g.W.Wire.carried c.args.wire.now) c.requires.standing.0 c.args.turn (string_bytes c.args.out.now) (string_bytes c.args.out.now) c.args.self.now c.add_folder.new.self c.of_memory.result c.requires.standing.1
    (returns-in-Folder-clause-taken g c c.requires.standing.0 c.requires.standing.1)

pub returns-in-Track-clause-grows : goal.returns-in-Track-clause-grows
returns-in-Track-clause-grows g c =
    turn-grows (g.W.Wire.carried c.args.wire.now) c.requires.standing.0 c.args.turn (string_bytes c.args.out.now) (string_bytes c.args.out.now) c.args.self.now c.add_track.new.self c.of_memory-in-Track.result c.requires.standing.1
    (returns-in-Track-clause-taken g c c.requires.standing.0 c.requires.standing.1)

pub returns-in-Tag-clause-grows : goal.returns-in-Tag-clause-grows
returns-in-Tag-clause-grows g c =
    turn-grows (g.W.Wire.carried c.args.wire.now) c.requires.standing.0 c.args.turn (string_bytes c.args.out.now) (string_bytes c.args.out.now) c.args.self.now c.add_tag.new.self c.of_memory-in-Tag.result c.requires.standing.1
    (returns-in-Tag-clause-taken g c c.requires.standing.0 c.requires.standing.1)

pub returns-in-Scan-clause-grows : goal.returns-in-Scan-clause-grows
returns-in-Scan-clause-grows g c =
    turn-grows (g.W.Wire.carried c.args.wire.now) c.requires.standing.0 c.args.turn (string_bytes c.args.out.now) (string_bytes c.scan.new.out) c.args.self.now c.scan.new.self c.of_memory-in-Scan.result c.requires.standing.1
    (returns-in-Scan-clause-taken g c c.requires.standing.0 c.requires.standing.1)

pub returns-in-Load-clause-grows : goal.returns-in-Load-clause-grows
returns-in-Load-clause-grows g c =
    turn-grows (g.W.Wire.carried c.args.wire.now) c.requires.standing.0 c.args.turn (string_bytes c.args.out.now) (string_bytes c.args.out.now) c.args.self.now c.load.new.self c.of_memory-in-Load.result c.requires.standing.1
    (returns-in-Load-clause-taken g c c.requires.standing.0 c.requires.standing.1)

pub returns-in-Read-clause-grows : goal.returns-in-Read-clause-grows
returns-in-Read-clause-grows g c =
    turn-grows (g.W.Wire.carried c.args.wire.now) c.requires.standing.0 c.args.turn (string_bytes c.args.out.now) (string_bytes c.read.new.out) c.args.self.now c.read.new.self c.read.result c.requires.standing.1
    (returns-in-Read-clause-taken g c c.requires.standing.0 c.requires.standing.1)

pub returns-in-Ask-clause-grows : goal.returns-in-Ask-clause-grows
returns-in-Ask-clause-grows g c =
    turn-grows (g.W.Wire.carried c.args.wire.now) c.requires.standing.0 c.args.turn (string_bytes c.args.out.now) (string_bytes c.ask.new.out) c.args.self.now c.ask.new.self c.of_memory-in-Ask.result c.requires.standing.1
    (returns-in-Ask-clause-taken g c c.requires.standing.0 c.requires.standing.1)

pub returns-in-First-clause-grows : goal.returns-in-First-clause-grows
returns-in-First-clause-grows g c =
    turn-grows (g.W.Wire.carried c.args.wire.now) c.requires.standing.0 c.args.turn (string_bytes c.args.out.now) (string_bytes c.args.out.now) c.args.self.now c.begin_at.new.self c.of_memory-in-First.result c.requires.standing.1
    (returns-in-First-clause-taken g c c.requires.standing.0 c.requires.standing.1)

pub returns-in-Wrap-clause-grows : goal.returns-in-Wrap-clause-grows
returns-in-Wrap-clause-grows g c =
    turn-grows (g.W.Wire.carried c.args.wire.now) c.requires.standing.0 c.args.turn (string_bytes c.args.out.now) (string_bytes c.args.out.now) c.args.self.now c.begin_with.new.self c.of_memory-in-Wrap.result c.requires.standing.1
    (returns-in-Wrap-clause-taken g c c.requires.standing.0 c.requires.standing.1)

pub returns-in-At-clause-grows : goal.returns-in-At-clause-grows
returns-in-At-clause-grows g c =
    turn-grows (g.W.Wire.carried c.args.wire.now) c.requires.standing.0 c.args.turn (string_bytes c.args.out.now) (string_bytes c.tick.new.out) c.args.self.now c.tick.new.self c.of_memory-in-At.result c.requires.standing.1
    (returns-in-At-clause-taken g c c.requires.standing.0 c.requires.standing.1)

pub returns-in-Subscribe-clause-grows : goal.returns-in-Subscribe-clause-grows
returns-in-Subscribe-clause-grows g c =
    turn-grows (g.W.Wire.carried c.args.wire.now) c.requires.standing.0 c.args.turn (string_bytes c.args.out.now) (string_bytes c.subscribe.new.out) c.args.self.now c.subscribe.new.self c.of_memory-in-Subscribe.result c.requires.standing.1
    (returns-in-Subscribe-clause-taken g c c.requires.standing.0 c.requires.standing.1)

pub returns-in-Accept-clause-grows : goal.returns-in-Accept-clause-grows
returns-in-Accept-clause-grows g c =
    turn-grows (g.W.Wire.carried c.args.wire.now) c.requires.standing.0 c.args.turn (string_bytes c.args.out.now) (string_bytes c.accept.new.out) c.args.self.now c.accept.new.self c.accept.result c.requires.standing.1
    (returns-in-Accept-clause-taken g c c.requires.standing.0 c.requires.standing.1)

pub returns-in-Renew-clause-grows : goal.returns-in-Renew-clause-grows
returns-in-Renew-clause-grows g c =
    turn-grows (g.W.Wire.carried c.args.wire.now) c.requires.standing.0 c.args.turn (string_bytes c.args.out.now) (string_bytes c.renew.new.out) c.args.self.now c.renew.new.self c.of_memory-in-Renew.result c.requires.standing.1
    (returns-in-Renew-clause-taken g c c.requires.standing.0 c.requires.standing.1)

pub returns-in-Unsubscribe-clause-grows : goal.returns-in-Unsubscribe-clause-grows
returns-in-Unsubscribe-clause-grows g c =
    turn-grows (g.W.Wire.carried c.args.wire.now) c.requires.standing.0 c.args.turn (string_bytes c.args.out.now) (string_bytes c.unsubscribe.new.out) c.args.self.now c.unsubscribe.new.self c.of_memory-in-Unsubscribe.result c.requires.standing.1
    (returns-in-Unsubscribe-clause-taken g c c.requires.standing.0 c.requires.standing.1)

pub returns-in-Deliver-clause-grows : goal.returns-in-Deliver-clause-grows
returns-in-Deliver-clause-grows g c =
    turn-grows (g.W.Wire.carried c.args.wire.now) c.requires.standing.0 c.args.turn (string_bytes c.args.out.now) (string_bytes c.deliver.new.out) c.args.self.now c.deliver.new.self c.deliver.result c.requires.standing.1
    (returns-in-Deliver-clause-taken g c c.requires.standing.0 c.requires.standing.1)

pub returns-in-ReadFault-clause-grows : goal.returns-in-ReadFault-clause-grows
returns-in-ReadFault-clause-grows g c =
    turn-grows (g.W.Wire.carried c.args.wire.now) c.requires.standing.0 c.args.turn (string_bytes c.args.out.now) (string_bytes c.lose_read.new.out) c.args.self.now c.lose_read.new.self c.of_memory-in-ReadFault.result c.requires.standing.1
    (returns-in-ReadFault-clause-taken g c c.requires.standing.0 c.requires.standing.1)
