-- What a replica knows does not depend on the names themselves, only on which notes have one name. So a law for subscriptions
-- that are named by the numbers of their grants holds for every way to name them apart.
use Rattle.std.specs.Prelude.{◌≡◌, ℕ, List, [], ◌∷◌, Contains}
use Rattle.std.specs.List.{AllByRecursion}
use Rattle.std.specs.Option.{option_map}
use Rattle.cds_commands.specs.Notes.{Note}
use Rattle.cds_follow.specs.Inbox.{ReplicaTurn, Begins, Shows, Requests, Accepts, Refuses, Delivers, taken_by, arrival}
use Rattle.cds_follow.specs.Follow.{with_notes, known_by, says, and_turn}
use Rattle.cds_commands.specs.Wire.{on_wire}
use Rattle.cds_follow.specs.Wire.{placed, arrival_on_wire}

-- a way to name the subscriptions of some numbers, in which no two of these have one name
abbrev pub TellApart : (ℕ → ℕ) → List ℕ → Type 0
TellApart names numbers = (m n : ℕ) → Contains numbers m → Contains numbers n → names m ≡ names n → m ≡ n

-- the subscription of a turn, if it has one, is among some numbers
abbrev pub IsNamedIn : List ℕ → ReplicaTurn → Type 0
IsNamedIn numbers (Accepts name) = Contains numbers name
IsNamedIn numbers (Delivers note) = Contains numbers note.name
IsNamedIn numbers turn = Unit {0}

-- a note, a turn and turns under the names
abbrev pub named_note : (ℕ → ℕ) → Note → Note
named_note names note = record { name = names note.name; place = note.place; number = note.number; events = note.events }

abbrev pub named_turn : (ℕ → ℕ) → ReplicaTurn → ReplicaTurn
named_turn names Begins = Begins
named_turn names (Shows shown) = Shows shown
named_turn names Requests = Requests
named_turn names (Accepts name) = Accepts (names name)
named_turn names Refuses = Refuses
named_turn names (Delivers note) = Delivers (named_note names note)

abbrev pub named : (ℕ → ℕ) → List ReplicaTurn → List ReplicaTurn
named names [] = []
named names (turn ∷ older) = named_turn names turn ∷ named names older

-- under any names that tell the subscriptions apart a replica knows the same, says the same, gives a note the same place and the
-- same answer, and refuses the same turns
pub record KnowsTheSame (names : ℕ → ℕ) (numbers : List ℕ) (turns : List ReplicaTurn) : Type 0 where
  pub knows : known_by (named names turns) ≡ known_by turns
  pub says_so : says (named names turns) ≡ says turns
  pub hears : (note : Note) → Contains numbers note.name → arrival (named_note names note) (named names turns) ≡ arrival note turns
  pub comes : (wrap : ℕ) (note : Note) → Contains numbers note.name →
      placed wrap (on_wire wrap (named_note names note)) (named names turns) ≡ option_map (named_note names) (placed wrap (on_wire wrap note) turns)
  pub hears_on_wire : (wrap : ℕ) (note : Note) → Contains numbers note.name →
      arrival_on_wire wrap (on_wire wrap (named_note names note)) (named names turns) ≡ arrival_on_wire wrap (on_wire wrap note) turns
  pub takes : (turn : ReplicaTurn) → IsNamedIn numbers turn →
      with_notes (taken_by (named_turn names turn) (named names turns)) (known_by (named names turns)) ≡ with_notes (taken_by turn turns) (known_by turns)
  pub goes_on : (turn : ReplicaTurn) → IsNamedIn numbers turn → and_turn (named_turn names turn) (named names turns) ≡ named names (and_turn turn turns)

abbrev pub names_do_not_matter : Type 0
names_do_not_matter = (names : ℕ → ℕ) (numbers : List ℕ) (turns : List ReplicaTurn) → TellApart names numbers →
    AllByRecursion (IsNamedIn numbers) turns → KnowsTheSame names numbers turns
