-- The one note that the message is.
use Rattle.std.proofs.Common.{sym, subst}
use Rattle.cds_http.specs.declared.message.Side.TheVariants.{Request}
use Rattle.cds_replay.specs.Events.{CarriesNote, IsMessage, IsNoteRequest}
use Rattle.cds_replay.proofs.EventReads.{note-refused, read-is-note}
use Rattle.cds_replay.proofs.events.note_of.Goals as goal

pub message_of-requires : goal.message_of-requires
message_of-requires c = subst (IsMessage Request) (sym c.as_slice.ensures) (c.requires.1.message, c.requires.1.whole)

pub of_memory-requires : goal.of_memory-requires
of_memory-requires c =
    note-refused c.as_slice.result.now c.in_ok-message.message c.in-Err.refusal (subst CarriesNote (sym c.as_slice.ensures) c.requires) c.in_ok-message.ensures
    c.in-Err.ensures

pub returns-in-Ok : goal.returns-in-Ok
returns-in-Ok c = λ note is.
    read-is-note c.as_slice.result.now note c.in_ok-message.message c.in-Ok.note (subst (λ bytes. IsNoteRequest bytes note) (sym c.as_slice.ensures) is)
    c.in_ok-message.ensures c.in-Ok.ensures
