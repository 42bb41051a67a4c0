-- What a tick sends, by the commands that a server accepted before it (UPnP Device Architecture 2.0 on event messages; UPnP
-- ContentDirectory:4 on the moderation of events).
use Rattle.std.specs.Prelude.{ℕ, List, [], map, Option, option_map, unwrap_or}
use Rattle.std.specs.List.{AllByRecursion}
use Rattle.cds_changes.specs.Events.{events_between}
use Rattle.cds_commands.specs.Commands.{Command, Start, Ticks, scans_of}
use Rattle.cds_commands.specs.Names.{name_of}
use Rattle.cds_commands.specs.Releases.{Release, release_at, released_containers, releases_of}
use Rattle.cds_commands.specs.Subscriptions.{callback_of}
use Rattle.cds_commands.specs.Notes.{Note, notes_of, sent_by}
use Rattle.cds_commands.specs.Places.{seq_at}
use Rattle.cds_gena.specs.Subscribed.{IsDelivered}
use Rattle.cds_gena.specs.declared.address.Address.{Address}
use Rattle.cds_moderator.specs.Moderating.{span_of}
use Rattle.cds_notify.specs.Propertyset.{propertyset_text}
use Rattle.cds_server.specs.declared.notes.Notes.{Notes}

-- the address of a note: the callback of its subscription, its name and its SEQ
abbrev pub address_to : Start → List Command → Note → Address
address_to start commands note = record {
  sid = record { 0 = name_of start note.name };
  callback = unwrap_or (callback_of note.name commands) [];
  seq = seq_at start.wrap note.place;
}

-- the body of the notes of a release: the number of its last change, the containers that changed, and the changes
abbrev pub body_of : Start → List Command → Release → List ℕ
body_of start commands release =
    propertyset_text release.to (released_containers (scans_of start.first commands) release)
    (events_between (scans_of start.first commands) release.from release.to)

-- the notes of a release: its span, their body, and the address of each note that the tick sends, in order
abbrev pub notes_at : Start → List Command → ℕ → Release → Notes
notes_at start commands now release = record {
  span = span_of release;
  body = body_of start commands release;
  to = map (address_to start commands) (sent_by start.first commands (notes_of start.first commands) (Ticks now));
}

-- none exactly if no release comes
abbrev pub due : Start → List Command → ℕ → Option Notes
due start commands now =
    option_map (notes_at start commands now) (release_at now (scans_of start.first commands) (releases_of start.first commands))

-- each note can be delivered to its address
abbrev pub AllGoOut : Notes → Type 0
AllGoOut notes = AllByRecursion IsDelivered notes.to
