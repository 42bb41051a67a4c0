-- What a server keeps, and which commands it stands for.
use Rattle.std.specs.Prelude.{◌≡◌, ◌+◌, ◌≤◌, ◌<◌, ◌^◌, ℕ, Bool, List, ◌∷◌, Some, Result, Ok, Err, ⊤}
use Rattle.cds_object.specs.declared.record.Record.{Record}
use Rattle.cds_catalog.specs.Library.{map_of}
use Rattle.cds_catalog.specs.History.{end_of, with_scan}
use Rattle.cds_catalog.specs.Scans.{Accepted, scan_answer}
use Rattle.cds_store.specs.Applied.{IsRefusal}
use Rattle.cds_store.specs.Rows.{rows_of}
use Rattle.cds_store.specs.Stands.{Stored, StandsFor as StoreStandsFor}
use Rattle.cds_store.specs.declared.error.ApplyError.{ApplyError}
use Rattle.cds_store.specs.declared.error.ApplyError.TheVariants.{BadRecords, Full, Spent, Mem}
use Rattle.cds_store.specs.declared.span.Span.{Span}
use Rattle.cds_commands.specs.Commands.{Command, Start, Scans, AreAccepted, is_stopped, scans_of}
use Rattle.cds_commands.specs.Releases.{released_to, releases_of}
use Rattle.cds_gena.specs.Subscribed.{Booked, StandsFor as BookStandsFor}
use Rattle.cds_moderator.specs.Moderating.{Moderated, moderated_by, scan_size}
use Rattle.cds_control.specs.Published.{Published}
use Rattle.cds_server.specs.Published.{token_of}

-- What a server keeps: the catalog with the changes that are not released yet; the subscriptions, with the name of number 0; what
-- waits for its release; and whether the server was told to stop.
pub record Serving : Type 0 where
  pub store : Stored
  pub book : Booked
  pub moderated : Moderated
  pub stopped : Bool

-- A server stands for the commands that it accepted since its start; the newest stands first. Its store stands for the history of
-- the scans. The store has forgotten the changes up to the end of the last release, and no others. The names, the subscriptions,
-- what waits for its release, and whether the server was told to stop are as the commands say.
pub record StandsFor (serving : Serving) (start : Start) (commands : List Command) : Type 0 where
  pub store : StoreStandsFor serving.store (scans_of start.first commands)
  pub kept : serving.store.forgotten ≡ released_to start.first (releases_of start.first commands)
  pub book : BookStandsFor serving.book start commands
  pub moderated : serving.moderated ≡ moderated_by start.first commands
  pub stopped : serving.stopped ≡ is_stopped commands

-- What every server keeps: it stands for some commands, the scans in them were accepted, and all its names have 128 bits.
pub record IsServing (serving : Serving) : Type 0 where
  pub start : Start
  pub commands : List Command
  pub stands : StandsFor serving start commands
  pub accepted : AreAccepted start.first commands
  pub room : serving.book.names + 2 ^ 32 ≤ 2 ^ 128

-- what is kept, as it is published
abbrev pub published_of : Serving → Published
published_of serving = record {
  token = token_of serving.book.names;
  number = serving.store.standing.number;
  rows = rows_of serving.store.standing.rows;
}

-- What comes of a scan. Either the server stands for it too, and the span is that of its changes. Or it is refused exactly as the
-- store refuses it, and the server stays as it was.
abbrev pub Scanned : Start → List Command → List Record → Result Span ApplyError → Serving → Serving → Type 0
Scanned start commands records (Ok span) before now =
    (scan_answer (scans_of start.first commands) records ≡ Accepted)
    × StandsFor now start (Scans (map_of records) ∷ commands)
    × (span ≡ record { from = end_of (scans_of start.first commands); to = end_of (with_scan (scans_of start.first commands) (map_of records)) })
Scanned start commands records (Err refusal) before now = IsRefusal (scans_of start.first commands) records refusal × (now ≡ before)

-- a refusal of records that can all stand, as those of a folder's scan can
abbrev pub IsOfWhole : ApplyError → Type 0
IsOfWhole (BadRecords line) = ⊥
IsOfWhole (Full objects) = ⊤
IsOfWhole (Spent needed) = ⊤
IsOfWhole Mem = ⊤

-- A span with changes can be told to a moderator: it has no more than one scan, and begins at the end of the last one.
abbrev pub CanFollow : Span → Moderated → Type 0
CanFollow span m = span.from < span.to → (span.to ≤ span.from + scan_size) × ((end : ℕ) → m.end ≡ Some end → span.from ≡ end)
