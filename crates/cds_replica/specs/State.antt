-- What a replica keeps: what it knows besides its notes, and its inbox. It keeps no list of turns, of happenings or of notes that
-- it took (this project's profile).
use Rattle.std.specs.Prelude.{◌≡◌, ℕ, max, List}
use Rattle.cds_object.specs.declared.event.Event.{Event}
use Rattle.cds_load.specs.Stages.{Held, Idle, Loads, HasCopy}
use Rattle.cds_follow.specs.Inbox.{ReplicaTurn}
use Rattle.cds_follow.specs.Copy.{Happening}
use Rattle.cds_follow.specs.Follow.{Known, known_by}
use Rattle.cds_replica.specs.CopyState.{KeptCopy, copy_of}
use Rattle.cds_replica.specs.Inboxed.{KeptInbox, inbox_of}

-- what is held while no copy stands; or the number that a load read which ended, and its copy, which goes on with the changes of
-- notes
pub data KeptPhase : Type 0 where
  NoCopy : Held → KeptPhase
  Copies : ℕ → KeptCopy → KeptPhase

abbrev pub phase_of : Held → List Happening → KeptPhase
phase_of Idle happenings = NoCopy Idle
phase_of (Loads stage) happenings = NoCopy (Loads stage)
phase_of (HasCopy number rows) happenings = Copies number (copy_of rows happenings)

-- what is kept besides the notes: the load or the copy; the number that the last ended load read; the greatest number of a note
-- that was taken; and, while no copy stands, the changes of the notes that were taken since the load began
pub record KeptKnown : Type 0 where
  pub phase : KeptPhase
  pub base : ℕ
  pub last_note : ℕ
  pub changes : List Event

abbrev pub kept_known : Known → KeptKnown
kept_known known = record {
  phase = phase_of known.held known.happenings;
  base = known.base;
  last_note = known.last_note;
  changes = known.kept;
}

abbrev pub kept_position : KeptKnown → ℕ
kept_position kept = max kept.base kept.last_note

pub record ReplicaState : Type 0 where
  pub known : KeptKnown
  pub inbox : KeptInbox

-- what is kept after a replica's turns, if SEQ 1 comes after some SEQ
abbrev pub kept_of : ℕ → List ReplicaTurn → ReplicaState
kept_of wrap turns = record { known = kept_known (known_by turns); inbox = inbox_of wrap turns }

-- a kept value stands for turns, with the SEQ after which comes SEQ 1
abbrev pub StandsFor : ReplicaState → ℕ → List ReplicaTurn → Type 0
StandsFor kept wrap turns = kept ≡ kept_of wrap turns
