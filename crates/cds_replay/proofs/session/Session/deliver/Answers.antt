-- The note of a number reaches the replica, where there is one.
use Rattle.std.proofs.Common.{sym, subst, string_bytes}
use Rattle.cds_commands.specs.Notes.{notes_of}
use Rattle.cds_commands.specs.Wire.{on_wire}
use Rattle.cds_follow.specs.Named.{named_note}
use Rattle.cds_script.specs.Report.{first_of, sent_note}
use Rattle.cds_replay.specs.Sending.{sent_of, is_request_of}
use Rattle.cds_replay.specs.Session.{Playing, IsAfter, script_names}
use Rattle.cds_replay.specs.Wired.{turns_in, played_by}
use Rattle.cds_replay.proofs.SentNotes.{number-at}
use Rattle.cds_replay.proofs.Taking.{none-sent, some-sent, deliver-turn, no-note-turn}
use Rattle.cds_replay.proofs.session.Session.deliver.Goals as goal

pub note_of-requires : goal.note_of-requires
note_of-requires c =
    let steps = c.requires.0 in
    let was : Playing = record { server = c.self.inside.server; replica = c.self.inside.replica; sent = c.self.inside.sent; found = c.self.inside.found; clock = c.self.inside.clock; reply = c.self.inside.reply; last = c.self.inside.last; wrap = c.self.inside.wrap } in
    let old : IsAfter was steps = subst (λ p. IsAfter p steps) (sym c.self.view_is) c.requires.1 in
    let notes = notes_of (first_of (turns_in steps)) (played_by steps).commands in
    let some = some-sent (played_by steps).wrap (sent_of c.args.number was.sent) (sent_note c.args.number notes) c.in-Some.request (number-at (played_by steps).wrap was.sent (first_of (turns_in steps)) (played_by steps).commands old.sent c.args.number)
    (subst (is_request_of (sent_of c.args.number was.sent)) c.in-Some.is c.in_ok-request.ensures) in
    (on_wire (played_by steps).wrap (named_note script_names some.note), some.carried)

pub returns-in-None : goal.returns-in-None
returns-in-None c = record {
  taken = λ steps after may.
      let was : Playing = record { server = c.self.inside.server; replica = c.self.inside.replica; sent = c.self.inside.sent; found = c.self.inside.found; clock = c.self.inside.clock; reply = c.self.inside.reply; last = c.self.inside.last; wrap = c.self.inside.wrap } in
      let old : IsAfter was steps = subst (λ p. IsAfter p steps) (sym c.self.view_is) after in
      let notes = notes_of (first_of (turns_in steps)) (played_by steps).commands in
      let none = none-sent (played_by steps).wrap (sent_of c.args.number was.sent) (sent_note c.args.number notes) (number-at (played_by steps).wrap was.sent (first_of (turns_in steps)) (played_by steps).commands old.sent c.args.number)
      (subst (is_request_of (sent_of c.args.number was.sent)) c.in-None.is c.in_ok-request.ensures) in
      no-note-turn was c.args.number steps (string_bytes c.args.out.now) old may none;
}

pub returns-in_ok-note-in-Some : goal.returns-in_ok-note-in-Some
returns-in_ok-note-in-Some c = record {
  taken = λ steps after may.
      let was : Playing = record { server = c.self.inside.server; replica = c.self.inside.replica; sent = c.self.inside.sent; found = c.self.inside.found; clock = c.self.inside.clock; reply = c.self.inside.reply; last = c.self.inside.last; wrap = c.self.inside.wrap } in
      let old : IsAfter was steps = subst (λ p. IsAfter p steps) (sym c.self.view_is) after in
      let notes = notes_of (first_of (turns_in steps)) (played_by steps).commands in
      let some = some-sent (played_by steps).wrap (sent_of c.args.number was.sent) (sent_note c.args.number notes) c.in-Some.request (number-at (played_by steps).wrap was.sent (first_of (turns_in steps)) (played_by steps).commands old.sent c.args.number)
      (subst (is_request_of (sent_of c.args.number was.sent)) c.in-Some.is c.in_ok-request.ensures) in
      deliver-turn was c.take_note.new.replica c.args.number some.note steps (string_bytes c.args.out.now) (string_bytes c.take_note.new.out) c.take_note.result old may some.is
      (c.take_note.ensures (played_by steps).wrap (played_by steps).replica some.note old.replica (c.in_ok-note-in-Some.ensures (on_wire (played_by steps).wrap (named_note script_names some.note)) some.carried));
}
