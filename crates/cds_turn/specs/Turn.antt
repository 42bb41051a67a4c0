-- What contracts see of a turn and of its seats.
use Rattle.std.specs.Prelude.{◌≡◌, ◌++◌, ◌+◌, ℕ, List, Some}
use Rattle.cds_turn.specs.declared.stands.StandsFor.{Ghosts}
use Rattle.cds_turn.specs.declared.turn.Turn.{Turn}
use Rattle.cds_turn.specs.declared.seat.Seat.{Seat}
use Rattle.cds_turn.specs.Line.{EndsHome, EndsOpen}

-- what a seat tells: the commands that it has seen, newest first; those that it appended itself, newest first; how many seats may
-- be made of it, itself included; how many turns were taken with it; and how many seats there may be of its turn in all
pub record SeatTold (C : Type 0) : Type 0 where
  pub seen : List C
  pub own : List C
  pub passes : ℕ
  pub turns : ℕ
  pub seats : ℕ

-- what a seat tells after a turn that found a list and appended commands to it
abbrev pub after_turn : {C : Type 0} → SeatTold C → List C → List C → SeatTold C
after_turn seat found added = record { seen = added ++ found; own = added ++ seat.own; passes = seat.passes; turns = seat.turns + 1; seats = seat.seats }

-- how many seats there may be of the turn
abbrev pub seats_of : {V C T : Type 0} → Turn V C T → ℕ
seats_of turn = turn.table.shared.key.seats

module _ {V C T : Type 0} {of : Ghosts V C T} where
  -- the start of the value that the turn was opened with, for the meaning that the seat's type names
  abbrev pub start_of : Turn V C T → Seat V C T of → T
  start_of turn seat = of.start turn.table.shared.key.value.value

  -- the commands that the seat has seen, newest first
  abbrev pub seen_by : Seat V C T of → List C
  seen_by seat = seat.place.me.0.seen

  -- the commands that the seat appended itself, newest first. After two seats were joined, those of the other follow its own
  abbrev pub own_by : Seat V C T of → List C
  own_by seat = seat.place.me.0.own

  -- how many seats may be made of this one, itself included
  abbrev pub passes_of : Seat V C T of → ℕ
  passes_of seat = seat.place.me.0.passes

  -- how many turns were taken with it
  abbrev pub turns_of : Seat V C T of → ℕ
  turns_of seat = seat.place.me.0.turns

  abbrev pub seat_told : Turn V C T → Seat V C T of → SeatTold C
  seat_told turn seat = record { seen = seen_by seat; own = own_by seat; passes = passes_of seat; turns = turns_of seat; seats = seats_of turn }

  -- the seat is one of this turn's
  abbrev pub IsSeatOf : Turn V C T → Seat V C T of → Type 0
  IsSeatOf turn seat = (seat.place.table_id ≡ turn.table.shared.table_id) × (seat.place.me.0.start ≡ Some (start_of turn seat))

  -- The turn can have ended so, with this seat as it is: in some state that its rule allows, all tickets that were drawn are
  -- served and this value is in its slot
  abbrev pub IsOver : Turn V C T → Seat V C T of → V → Type 0
  IsOver turn seat value = EndsHome of.stands (start_of turn seat) (seats_of turn) seat.place.id seat.place.me.0 value

  -- or so: in some state that its rule allows, fewer tickets are served than drawn, and these are the two counts modulo 2 ^ 64.
  -- No more are out than the other seats have passes
  abbrev pub IsOpen : Turn V C T → Seat V C T of → ℕ → ℕ → Type 0
  IsOpen turn seat ticket serving = EndsOpen of.stands (start_of turn seat) (seats_of turn) seat.place.id seat.place.me.0 ticket serving
