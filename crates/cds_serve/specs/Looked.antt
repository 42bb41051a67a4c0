-- One look of the notifier: a tick and the notes of its release (UPnP Device Architecture 2.0 on event messages; UPnP
-- ContentDirectory:4 on the moderation of events).
use Rattle.std.specs.Prelude.{◌≡◌, ◌⊎◌, ◌+◌, ℕ, Bool, List, ◌∷◌, Option, Result, Ok, Err, [], ◌++◌}
use Rattle.cds_base.specs.declared.mem.Mem.{Mem}
use Rattle.cds_outside.specs.declared.link.LinkRequest.{LinkRequest}
use Rattle.cds_outside.specs.Links.{LinkTold}
use Rattle.cds_commands.specs.Commands.{Command, Start, Ticks, is_stopped}
use Rattle.cds_turn.specs.Line.{Extends}
use Rattle.cds_server.specs.Due.{due}
use Rattle.cds_serve.specs.Sent.{GivesEach, GivesFront, release_requests}
use Rattle.cds_outside.specs.Told.{ClockTold}
use Rattle.cds_turn.specs.Turn.{SeatTold}
use Rattle.cds_serve.specs.Told.{IsAlone, IsMoment}

-- the requests of the notes that a tick at a moment sends
abbrev pub due_requests : Start → List Command → ℕ → List LinkRequest
due_requests start found now = release_requests (due start found now)

-- What comes of a tick in one turn that finds this list. The tick is appended, and each of its notes is given to the link once
-- and in order. The answer is whether the server was stopped. If memory runs out, nothing is appended and no note is given. Or
-- the tick is appended and only a prefix of its notes is given, never all.
abbrev pub Ticked : Start → List Command → ℕ → Result Bool Mem → List Command → Option (List LinkRequest) → Option (List LinkRequest) → Type 0
Ticked start found now (Ok stopped) added before after =
    (stopped ≡ is_stopped found) × (added ≡ Ticks now ∷ []) × GivesEach (due_requests start found now) before after
Ticked start found now (Err memory) added before after =
    ((added ≡ []) × (after ≡ before)) ⊎ ((added ≡ Ticks now ∷ []) × GivesFront (due_requests start found now) before after)

-- a seat, a clock and a link, before or after a call
pub record Beside : Type 0 where
  pub seat : SeatTold Command
  pub clock : ClockTold
  pub link : LinkTold

-- One look, from the moment `before` to the moment `now`. The list found begins with all that the seat had seen, and equals it if
-- no other seat is out.
pub record Looks (start : Start) (result : Result Bool Mem) (before now : ℕ) (old new : Beside) : Type 0 where
  pub found : List Command
  pub begun : Extends found old.seat.seen
  pub alone : IsAlone old.seat found
  pub added : List Command
  pub ticked : Ticked start found now result added old.link.requests new.link.requests
  pub seen : new.seat.seen ≡ added ++ found
  pub own : new.seat.own ≡ added ++ old.seat.own
  pub passes : new.seat.passes ≡ old.seat.passes
  pub turns : new.seat.turns ≡ old.seat.turns + 1
  pub moment : IsMoment old.clock new.clock before now
