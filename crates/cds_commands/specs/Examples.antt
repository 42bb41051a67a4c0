-- Releases, subscriptions and notes of a few lists of commands, evaluated from the definitions.
use Rattle.std.specs.Prelude.{◌≡◌, ◌-◌, ◌^◌, ℕ, zero, suc, List, [], ◌∷◌, map, None, Some, codes, true, false}
use Rattle.cds_catalog.specs.Library.{FolderMap}
use Rattle.cds_catalog.specs.Examples.{a_track}
use Rattle.cds_object.specs.declared.event.Class.TheVariants.{Track}
use Rattle.cds_object.specs.declared.event.Event.TheVariants.{ObjAdd}
use Rattle.cds_commands.specs.Commands.{Command, Scans, Grants, Renews, Ends, Ticks, Stops, is_stopped, scans_of}
use Rattle.cds_commands.specs.Releases.{releases_of, released_containers}
use Rattle.cds_commands.specs.Subscriptions.{runs_until, callback_of}
use Rattle.cds_commands.specs.Notes.{Note, alive_names, has_room, notes_of}

-- libraries of one and of two tracks
abbrev pub one : FolderMap
one = (codes "a" ∷ [], a_track 10) ∷ []

abbrev pub another : FolderMap
another = (codes "a" ∷ [], a_track 11) ∷ []

abbrev pub two : FolderMap
two = (codes "a" ∷ [], a_track 10) ∷ (codes "b" ∷ [], a_track 10) ∷ []

-- the first note of the first subscription, and the note of a release
abbrev pub first : Note
first = record { name = 1; place = 0; number = 0; events = [] }

abbrev pub added : Note
added = record { name = 1; place = 1; number = 1; events = ObjAdd 1 1 false 0 Track ∷ [] }

abbrev pub added_other : Note
added_other = record { name = 1; place = 2; number = 2; events = ObjAdd 2 2 false 0 Track ∷ [] }

-- releases are 200 milliseconds apart, and one release tells both scans before it
abbrev pub three : FolderMap
three = (codes "a" ∷ [], a_track 10) ∷ (codes "b" ∷ [], a_track 10) ∷ (codes "c" ∷ [], a_track 10) ∷ []

abbrev pub until_1199 : List Command
until_1199 = Ticks 1199 ∷ Scans three ∷ Ticks 1100 ∷ Scans two ∷ Ticks 1000 ∷ Scans one ∷ Grants 0 [] 1800 ∷ []

abbrev pub added_two : Note
added_two = record { name = 1; place = 2; number = 3; events = ObjAdd 2 2 false 0 Track ∷ ObjAdd 3 3 false 0 Track ∷ [] }

abbrev pub releases_are_apart : Type 0
releases_are_apart =
    (notes_of 0 until_1199 ≡ first ∷ added ∷ [])
    × (notes_of 0 (Ticks 1200 ∷ until_1199) ≡ first ∷ added ∷ added_two ∷ [])
    × (releases_of 0 (Ticks 1200 ∷ until_1199) ≡ record { moment = 1200; from = 1; to = 3 } ∷ record { moment = 1000; from = 0; to = 1 } ∷ [])

-- what each of these releases tells of containers: that the root changed
abbrev pub releases_tell_containers : Type 0
releases_tell_containers =
    map (released_containers (scans_of 0 (Ticks 1200 ∷ until_1199))) (releases_of 0 (Ticks 1200 ∷ until_1199)) ≡ ((0, 3) ∷ []) ∷ ((0, 1) ∷ []) ∷ []

-- a subscription lives for the seconds that it is granted: a tick before their end still sends it a note, and one at their end
-- does not
abbrev pub subscriptions_run_out : Type 0
subscriptions_run_out =
    (alive_names 1799999 (Grants 0 [] 1800 ∷ []) ≡ 1 ∷ []) × (alive_names 1800000 (Grants 0 [] 1800 ∷ []) ≡ [])
    × (notes_of 0 (Ticks 1799999 ∷ Scans one ∷ Grants 0 [] 1800 ∷ []) ≡ first ∷ added ∷ [])
    × (notes_of 0 (Ticks 1800000 ∷ Scans one ∷ Grants 0 [] 1800 ∷ []) ≡ first ∷ [])
    × (notes_of 0 (Ticks 200 ∷ Ends 0 1 ∷ Scans one ∷ Grants 0 [] 1800 ∷ []) ≡ first ∷ [])

-- a renewal begins its time anew, if it has not run out by then. One that has run out is unknown to every tick, whatever comes
-- after. Seconds and moments have no greatest value
abbrev pub subscriptions_are_renewed : Type 0
subscriptions_are_renewed =
    (runs_until 1 (Renews 1799999 1 1800 ∷ Grants 0 [] 1800 ∷ []) ≡ Some 3599999)
    × (runs_until 1 (Ticks 1800000 ∷ Renews 1799999 1 1800 ∷ Grants 0 [] 1800 ∷ []) ≡ Some 3599999)
    × (runs_until 1 (Renews 1800000 1 1800 ∷ Ticks 1800000 ∷ Grants 0 [] 1800 ∷ []) ≡ None)
    × (runs_until 1 (Renews 5 2 60 ∷ Grants 0 [] 1800 ∷ Grants 0 [] 2400 ∷ []) ≡ Some 2400000)
    × (runs_until 1 (Renews (2 ^ 64 - 1) 1 4294967295 ∷ Grants (2 ^ 64 - 1) [] 1800 ∷ []) ≡ Some 18446748368676846615)

-- moments may fall: what has not run out at a later moment of a tick runs on at an earlier one, and a release waits for its pause
abbrev pub moments_may_fall : Type 0
moments_may_fall =
    (alive_names 100 (Ticks 1799999 ∷ Grants 1000 (codes "http://10.0.0.9/") 1800 ∷ []) ≡ 1 ∷ [])
    × (callback_of 1 (Grants 2000 (codes "http://10.0.0.8/") 1800 ∷ Grants 1000 (codes "http://10.0.0.9/") 1800 ∷ []) ≡ Some (codes "http://10.0.0.9/"))
    × (releases_of 0 (Ticks 100 ∷ Scans two ∷ Ticks 1000 ∷ Scans one ∷ []) ≡ record { moment = 1000; from = 0; to = 1 } ∷ [])
    × (is_stopped (Ticks 100 ∷ Stops ∷ Scans one ∷ []) ≡ true) × (is_stopped (Ticks 100 ∷ Scans one ∷ []) ≡ false)

-- one more subscription has room if fewer than 64 live: one that has ended or run out leaves its room
abbrev pub grants : ℕ → List Command
grants zero = []
grants (suc n) = Grants 0 [] 1800 ∷ grants n

abbrev pub room_for_64_subscriptions : Type 0
room_for_64_subscriptions =
    (has_room 0 (grants 63) ≡ true) × (has_room 0 (grants 64) ≡ false)
    × (has_room 0 (Ends 0 7 ∷ grants 64) ≡ true)
    × (has_room 1800000 (grants 64) ≡ true)
