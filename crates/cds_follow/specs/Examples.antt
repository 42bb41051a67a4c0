-- Replicas and servers evaluated from the definitions. The replicas are of an honest server, except for notes that no honest
-- server sends if a row says so.
use Rattle.std.specs.Prelude.{◌≡◌, ℕ, Bool, List, [], ◌∷◌, map, None, Some, codes, true, false}
use Rattle.cds_catalog.specs.Examples.{Outline, outline}
use Rattle.cds_object.specs.declared.event.Class.TheVariants.{Track}
use Rattle.cds_load.specs.declared.exchange.Ask.TheVariants.{Token, Metadata}
use Rattle.cds_object.specs.declared.event.Event.TheVariants.{ObjAdd, ObjMod, ObjDel}
use Rattle.cds_commands.specs.Commands.{Start, Command, Scans, Grants, Ends, Ticks, AreAccepted}
use Rattle.cds_commands.specs.Names.{name_of}
use Rattle.cds_commands.specs.Notes.{Note, notes_of}
use Rattle.cds_commands.specs.Examples.{one, another, two, first, added, added_other}
use Rattle.cds_follow.specs.Inbox.{ReplicaTurn, Requests, Accepts, Delivers, IsUnknown, IsEarly, IsHeld, IsNext, received, held_notes, taken_by}
use Rattle.cds_load.specs.Outcome.{Jumps, Tears}
use Rattle.cds_follow.specs.Copy.{Happening, Changes, Reads}
use Rattle.cds_follow.specs.CourseLaws.{stands_by, course_of}
use Rattle.cds_follow.specs.Follow.{position, with_notes, known_by, next_ask, copied, says, and_turn, is_refused}
use Rattle.cds_follow.specs.Given.{Entry, Starts, Asks, Calls, Granted, Gets, given_by, IsGiven, grants_of}
use Rattle.cds_follow.specs.Named.{TellApart}
use Rattle.cds_commands.specs.Wire.{on_wire}
use Rattle.cds_follow.specs.Wire.{placed, says_on_wire, arrival_on_wire, is_recent}
use Rattle.cds_follow.specs.declared.says.Says.{Says}
use Rattle.cds_follow.specs.declared.says.Says.TheVariants.{Gap, BehindLoad, BehindRead, BehindVersion, Stands}

-- the reset token of the servers here
abbrev pub a_token : List ℕ
a_token = codes "a"

abbrev pub deleted : Note
deleted = record { name = 1; place = 2; number = 2; events = ObjDel 1 2 false ∷ [] }

abbrev pub modified : Note
modified = record { name = 1; place = 2; number = 2; events = ObjMod 1 2 false ∷ [] }

-- a whole load of the empty library, then a subscription and its first note; the newest entry is the first
abbrev pub prepared : List Entry
prepared =
    Gets 1 first ∷ Granted 1 1 ∷ Calls 0 ∷ Asks 0 ∷ Asks 0 ∷ Asks 0 ∷ Asks 0 ∷ Asks 0 ∷ Asks 0 ∷ Starts 0 ∷ []

-- what a replica says, with its rows in outline
abbrev pub Known : List ReplicaTurn → Says → List Outline → Type 0
Known turns answer rows = (says turns ≡ answer) × (map outline (copied (known_by turns)) ≡ rows)

abbrev pub tracks_come : List Command
tracks_come = Ticks 400 ∷ Scans two ∷ Ticks 200 ∷ Scans one ∷ Grants 0 [] 1800 ∷ []

-- a note that comes before the one that it follows: the gap is named, then the object that is still to be read
abbrev pub notes_out_of_order : Type 0
notes_out_of_order =
    (notes_of 0 tracks_come ≡ first ∷ added ∷ added_other ∷ [])
    × (says (given_by a_token 0 tracks_come (Gets 5 added_other ∷ prepared)) ≡ Gap 1)
    × (says (given_by a_token 0 tracks_come (Gets 5 added ∷ Gets 5 added_other ∷ prepared)) ≡ BehindRead 1)
    × Known (given_by a_token 0 tracks_come (Asks 5 ∷ Asks 5 ∷ Gets 5 added ∷ Gets 5 added_other ∷ prepared)) (Stands 2)
    ((0, None, 0, 2 ∷ 2 ∷ 0 ∷ []) ∷ (1, Some 0, 1, []) ∷ (2, Some 0, 2, []) ∷ [])

abbrev pub track_goes : List Command
track_goes = Ticks 400 ∷ Scans [] ∷ Ticks 200 ∷ Scans one ∷ Grants 0 [] 1800 ∷ []

-- a repeated note is counted once
abbrev pub repeated_notes : Type 0
repeated_notes =
    (notes_of 0 track_goes ≡ first ∷ added ∷ deleted ∷ [])
    × Known (given_by a_token 0 track_goes (Gets 5 deleted ∷ Gets 5 deleted ∷ Gets 5 deleted ∷ Asks 3 ∷ Gets 3 added ∷ prepared)) (Stands 2)
    ((0, None, 0, 2 ∷ 0 ∷ 1 ∷ []) ∷ [])

-- an object that is gone when it is read stays unread until its deletion is told
abbrev pub read_of_what_is_gone : Type 0
read_of_what_is_gone =
    (says (given_by a_token 0 track_goes (Asks 4 ∷ Gets 4 added ∷ prepared)) ≡ BehindRead 1)
    × Known (given_by a_token 0 track_goes (Gets 5 deleted ∷ Asks 4 ∷ Gets 4 added ∷ prepared)) (Stands 2) ((0, None, 0, 2 ∷ 0 ∷ 1 ∷ []) ∷ [])

abbrev pub track_changes : List Command
track_changes = Ticks 400 ∷ Scans another ∷ Ticks 200 ∷ Scans one ∷ Grants 0 [] 1800 ∷ []

-- an object that is read in a later version than the notes tell holds the copy back until they tell it
abbrev pub read_ahead_of_notes : Type 0
read_ahead_of_notes =
    (notes_of 0 track_changes ≡ first ∷ added ∷ modified ∷ [])
    × (says (given_by a_token 0 track_changes (Asks 4 ∷ Gets 4 added ∷ prepared)) ≡ BehindVersion 2)
    × Known (given_by a_token 0 track_changes (Gets 5 modified ∷ Asks 4 ∷ Gets 4 added ∷ prepared)) (Stands 2)
    ((0, None, 0, 2 ∷ 1 ∷ 0 ∷ []) ∷ (1, Some 0, 2, []) ∷ [])

-- a read stands above the addition whose note came before its reply, and below the modification whose note came after it. By the
-- replies alone the copy stands, and the load that was begun last ended at 0
abbrev pub is_read : Happening → Bool
is_read (Changes event) = false
is_read (Reads id version) = true

abbrev pub read_between_notes : List ReplicaTurn
read_between_notes = given_by a_token 0 track_changes (Gets 5 modified ∷ Asks 4 ∷ Gets 4 added ∷ prepared)

abbrev pub reads_stand_between_notes : Type 0
reads_stand_between_notes =
    (map is_read (known_by read_between_notes).happenings ≡ false ∷ true ∷ false ∷ [])
    × (stands_by (course_of read_between_notes).attempt ≡ true) × ((course_of read_between_notes).base ≡ 0)
    × ((course_of read_between_notes).last_note ≡ 2)

-- notes that no honest server sends, taken at once, are judged as one. Only the first change above the position has to be the
-- next one, and this is judged before what cannot be
abbrev pub leaps : Note
leaps = record { name = 1; place = 2; number = 5; events = ObjAdd 2 5 false 0 Track ∷ [] }

abbrev pub strays : Note
strays = record { name = 1; place = 1; number = 1; events = ObjMod 7 1 false ∷ [] }

abbrev pub jumps : Note
jumps = record { name = 1; place = 1; number = 5; events = ObjMod 7 5 false ∷ [] }

abbrev pub leapt : List ReplicaTurn
leapt = and_turn (Delivers leaps) (given_by a_token 0 tracks_come prepared)

abbrev pub notes_taken_at_once : Type 0
notes_taken_at_once =
    (says leapt ≡ Gap 1) × (position (known_by (and_turn (Delivers added) leapt)) ≡ 5)
    × (with_notes (taken_by (Delivers strays) leapt) (known_by leapt) ≡ Tears 7)
    × (with_notes (taken_by (Delivers jumps) leapt) (known_by leapt) ≡ Jumps 1 5)
    × (says (and_turn (Delivers added) (and_turn (Delivers leaps) (given_by a_token 0 tracks_come prepared))) ≡ BehindRead 1)
    × (is_refused (Delivers strays) (and_turn (Delivers leaps) (given_by a_token 0 tracks_come prepared)) ≡ true)
    × (says (and_turn (Delivers strays) (and_turn (Delivers leaps) (given_by a_token 0 tracks_come prepared))) ≡ Gap 1)
    × (is_refused (Delivers (record { name = 1; place = 1; number = 5; events = ObjAdd 2 5 false 0 Track ∷ [] })) (given_by a_token 0 tracks_come prepared) ≡ true)

-- early notes of several names: those of the accepted one are received, and the second request drops those of the first
abbrev pub of_other : Note
of_other = record { name = 2; place = 0; number = 0; events = [] }

abbrev pub early_notes_are_dropped : Type 0
early_notes_are_dropped =
    (held_notes (Delivers of_other ∷ Delivers added ∷ Delivers of_other ∷ Delivers first ∷ Requests ∷ []) ≡ added ∷ of_other ∷ first ∷ [])
    × (received (Accepts 2 ∷ Delivers of_other ∷ Delivers added ∷ Delivers first ∷ Requests ∷ []) ≡ of_other ∷ [])
    × (received (Accepts 1 ∷ Delivers of_other ∷ Delivers added ∷ Delivers first ∷ Requests ∷ []) ≡ added ∷ first ∷ [])
    × (held_notes (Requests ∷ Delivers added ∷ Delivers first ∷ Requests ∷ []) ≡ [])
    × (says (Accepts 1 ∷ Delivers added ∷ Requests ∷ []) ≡ Gap 0)
    × (says (Delivers first ∷ Accepts 1 ∷ Delivers added ∷ Requests ∷ []) ≡ BehindLoad)

-- a name that is accepted again begins anew
abbrev pub names_begin_anew : Type 0
names_begin_anew =
    (received (Delivers first ∷ Accepts 1 ∷ Requests ∷ []) ≡ first ∷ [])
    × (received (Accepts 1 ∷ Requests ∷ Delivers first ∷ Accepts 1 ∷ Requests ∷ []) ≡ [])

-- a first note above the position drops the copy and begins a load. While a load runs it begins this anew. A first note that is
-- not above the position leaves the load
abbrev pub subscribed_anew : List Command
subscribed_anew = Grants 200 [] 1800 ∷ Ends 0 1 ∷ Ticks 200 ∷ Scans one ∷ Grants 0 [] 1800 ∷ []

abbrev pub first_anew : Note
first_anew = record { name = 2; place = 0; number = 1; events = [] }

abbrev pub accepted_anew : List Entry
accepted_anew = Granted 5 2 ∷ Calls 4 ∷ prepared

abbrev pub granted_late : List Command
granted_late = Grants 0 [] 1800 ∷ Scans one ∷ []

abbrev pub loading : List Entry
loading = Granted 2 1 ∷ Calls 1 ∷ Asks 0 ∷ Asks 0 ∷ Starts 0 ∷ []

abbrev pub first_late : Note
first_late = record { name = 1; place = 0; number = 1; events = [] }

abbrev pub first_notes_drop : Type 0
first_notes_drop =
    (notes_of 0 subscribed_anew ≡ first ∷ added ∷ first_anew ∷ [])
    × Known (given_by a_token 0 subscribed_anew accepted_anew) (Stands 0) ((0, None, 0, 0 ∷ 0 ∷ 0 ∷ []) ∷ [])
    × Known (given_by a_token 0 subscribed_anew (Gets 5 first_anew ∷ accepted_anew)) BehindLoad []
    × Known (given_by a_token 0 subscribed_anew (Asks 5 ∷ Asks 5 ∷ Asks 5 ∷ Asks 5 ∷ Asks 5 ∷ Asks 5 ∷ Gets 5 first_anew ∷ accepted_anew)) (Stands 1)
    ((0, None, 0, 1 ∷ 1 ∷ 0 ∷ []) ∷ (1, Some 0, 1, []) ∷ [])
    × (notes_of 0 granted_late ≡ first_late ∷ [])
    × (next_ask (known_by (given_by a_token 0 granted_late loading)) ≡ Some (Metadata 0))
    × (next_ask (known_by (given_by a_token 0 granted_late (Gets 2 first_late ∷ loading))) ≡ Some Token)
    × (next_ask (known_by (and_turn (Delivers first) (given_by a_token 0 granted_late loading))) ≡ Some (Metadata 0))

-- a note that comes before its subscription is accepted is taken with it. Changes that the load has counted already are not
-- counted again
abbrev pub came_and_went : List Command
came_and_went = Ticks 200 ∷ Grants 0 [] 1800 ∷ Scans [] ∷ Scans one ∷ []

abbrev pub first_early : Note
first_early = record { name = 1; place = 0; number = 2; events = [] }

abbrev pub overlaps : Note
overlaps = record { name = 1; place = 1; number = 2; events = ObjAdd 1 1 false 0 Track ∷ ObjDel 1 2 false ∷ [] }

abbrev pub changes_are_not_counted_again : Type 0
changes_are_not_counted_again =
    (notes_of 0 came_and_went ≡ first_early ∷ overlaps ∷ [])
    × Known (given_by a_token 0 came_and_went (Gets 4 overlaps ∷ Granted 3 1 ∷ Gets 3 first_early ∷ Calls 2 ∷ Asks 2 ∷ Asks 2 ∷ Asks 2 ∷ Asks 2 ∷ Asks 2 ∷ Asks 2 ∷ Starts 2 ∷ []))
    (Stands 2) ((0, None, 0, 2 ∷ 0 ∷ 1 ∷ []) ∷ [])

-- the premises of the laws on honest servers hold of the notes out of order, with the names of a server whose boot words are 0
abbrev pub a_start : Start
a_start = record { high = 0; low = 0; first = 0; wrap = 4294967295 }

abbrev pub premises_hold : Type 0
premises_hold =
    AreAccepted 0 tracks_come × IsGiven a_token 0 tracks_come (Asks 5 ∷ Asks 5 ∷ Gets 5 added ∷ Gets 5 added_other ∷ prepared)
    × TellApart (name_of a_start) (grants_of tracks_come)

-- notes on the wire, if SEQs wrap after 256, of a replica that took the first one. A note within reach is given its place. One
-- past it is unknown. One of a whole wrap later is taken for another, and so it is not recent
abbrev pub note_of_place : ℕ → Note
note_of_place place = record { name = 1; place = place; number = place; events = [] }

abbrev pub heard_first : List ReplicaTurn
heard_first = Delivers first ∷ Accepts 1 ∷ Requests ∷ []

abbrev pub notes_on_the_wire : Type 0
notes_on_the_wire =
    (arrival_on_wire 256 (on_wire 256 (note_of_place 1)) heard_first ≡ IsNext)
    × (arrival_on_wire 256 (on_wire 256 (note_of_place 65)) heard_first ≡ IsHeld 1)
    × (arrival_on_wire 256 (on_wire 256 (note_of_place 66)) heard_first ≡ IsUnknown)
    × (placed 256 (on_wire 256 (note_of_place 65)) heard_first ≡ Some (note_of_place 65))
    × (placed 256 (on_wire 256 (note_of_place 66)) heard_first ≡ None)
    × (placed 256 (on_wire 256 (note_of_place 257)) heard_first ≡ Some (record { name = 1; place = 1; number = 257; events = [] }))
    × (is_recent 256 (note_of_place 192) heard_first ≡ true) × (is_recent 256 (note_of_place 193) heard_first ≡ false)
    × (says_on_wire 256 (Delivers (note_of_place 65) ∷ heard_first) ≡ Gap 1)
    × (arrival_on_wire 256 (on_wire 256 of_other) heard_first ≡ IsUnknown)
    × (arrival_on_wire 256 (on_wire 256 of_other) (Requests ∷ heard_first) ≡ IsEarly)
