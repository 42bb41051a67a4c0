-- What a server accepted if moments never fall, how many subscriptions live then, and which names lead to numbers.
use Rattle.std.specs.Prelude.{◌≡◌, ◌↔◌, ◌≤◌, ◌<◌, ◌^◌, ◌&&◌, ℕ, Bool, true, nat_lt, List, [], ◌∷◌, length, Some, ⊤}
use Rattle.cds_commands.specs.Commands.{Command, Start, Scans, Grants, Renews, Ends, Ticks, Stops}
use Rattle.cds_commands.specs.Names.{name_of}
use Rattle.cds_commands.specs.Subscriptions.{granted, is_alive, subscription_limit}
use Rattle.cds_commands.specs.Notes.{alive_names, has_room}
use Rattle.cds_gena.specs.SidText.{sid_in, sid_text}
use Rattle.cds_gena.specs.Subscribed.{Booked, StandsFor, alive, last_number, living_named}

-- no moment is past the given one or past the moment of a later command; each subscription was granted when there was
-- room, and renewed when it lived
abbrev pub Served : ℕ → List Command → Type 0
Served now [] = ⊤
Served now (Scans library ∷ older) = Served now older
Served now (Grants moment callback seconds ∷ older) =
    (moment ≤ now) × (has_room moment older ≡ true) × Served moment older
Served now (Renews moment number seconds ∷ older) = (moment ≤ now) × (is_alive number moment older ≡ true) × Served moment older
Served now (Ends moment number ∷ older) = (moment ≤ now) × Served moment older
Served now (Ticks moment ∷ older) = (moment ≤ now) × Served moment older
Served now (Stops ∷ older) = Served now older

-- then at most 64 live
abbrev pub few_live : Type 0
few_live =
    (now : ℕ) (commands : List Command) → Served now commands
    → length (alive_names now commands) ≤ subscription_limit

-- a name leads to a number exactly if it is the name of this number and the subscription of this number lives
abbrev pub names_are_of_numbers : Type 0
names_are_of_numbers =
    (book : Booked) (start : Start) (commands : List Command) (now name number : ℕ) → StandsFor book start commands → granted commands ≤ last_number
    → (living_named now name book ≡ Some number) ↔ ((name ≡ name_of start number) × (is_alive number now commands ≡ true))

-- the text of a name is read as that name
abbrev pub names_are_read_back : Type 0
names_are_read_back = (name : ℕ) → name < 2 ^ 128 → sid_in (sid_text name) ≡ Some name
