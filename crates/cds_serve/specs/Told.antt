-- What a seat, a clock and a connection tell before and after a call.
use Rattle.std.specs.Prelude.{◌≡◌, ◌⊎◌, ℕ, List, ◌++◌, Some}
use Rattle.cds_outside.specs.Outside.{HoldsPart, Rose, SinkTold, Told}
use Rattle.cds_outside.specs.Told.{ClockTold, and_moment}
use Rattle.cds_commands.specs.Commands.{Command}
use Rattle.cds_turn.specs.Turn.{SeatTold}

-- If the seat is the only one, the list that a turn finds is what the seat has seen.
abbrev pub IsAlone : SeatTold Command → List Command → Type 0
IsAlone seat found = seat.passes ≡ seat.seats → found ≡ seat.seen

-- The clock gave one moment, and it is this one. Or the clock gave none and counted a fault, and the moment is the last one
-- again.
abbrev pub IsMoment : ClockTold → ClockTold → ℕ → ℕ → Type 0
IsMoment old new before moment =
    (new ≡ record old { last = moment; gave = and_moment moment old.gave; faults = new.faults })
    ⊎ (Rose old.faults new.faults × (moment ≡ before) × (new ≡ record old { faults = new.faults }))

-- A prefix of a text was appended to what a sink held. If the sink's count of faults did not rise, it is the whole text.
abbrev pub Writes : List ℕ → SinkTold → SinkTold → Type 0
Writes text old new = Told old.holds (λ held. HoldsPart held text new.holds × ((new.holds ≡ Some (held ++ text)) ⊎ Rose old.faults new.faults))
