-- Scripts with notes whose reports are evaluated from the definitions, from bytes to status and text.
use Rattle.std.specs.Prelude.{◌≡◌, ◌+◌, ℕ, zero, suc, false, List, [], ◌∷◌, ◌++◌, map, Some, codes}
use Rattle.std.specs.Fmt.{decimal}
use Rattle.cds_object.specs.declared.event.Class.TheVariants.{Track as IsTrack}
use Rattle.cds_object.specs.declared.event.Event.TheVariants.{ObjAdd}
use Rattle.cds_commands.specs.Commands.{Command, scans_of}
use Rattle.cds_commands.specs.Notes.{Note, notes_of}
use Rattle.cds_commands.specs.Releases.{releases_of, released_containers}
use Rattle.cds_follow.specs.Inbox.{ReplicaTurn, Delivers, IsRepeat, IsTooMany, IsHeld, IsNext, arrival}
use Rattle.cds_follow.specs.Follow.{says, and_turn}
use Rattle.cds_follow.specs.Given.{given_by}
use Rattle.cds_follow.specs.Examples.{prepared as loaded}
use Rattle.cds_follow.specs.declared.says.Says.TheVariants.{Gap}
use Rattle.cds_script.specs.Report.{sent_note, played, script_token}
use Rattle.cds_script.specs.Played.{script_turns}
use Rattle.cds_script.specs.Examples.{Leaves, times, root_line, small_item}
use Rattle.cds_script.specs.Script.{grant_at}

-- a track of ten bytes, a second one and a third
abbrev pub one_track : List ℕ
one_track = codes "track a.flac 10 0 2 16 0\n"

abbrev pub two_tracks : List ℕ
two_tracks = one_track ++ codes "track b.flac 10 0 2 16 0\n"

abbrev pub three_tracks : List ℕ
three_tracks = two_tracks ++ codes "track c.flac 10 0 2 16 0\n"

-- a whole load of an empty library, with a subscription whose first note is taken
abbrev pub prepared : List ℕ
prepared = codes "load\n" ++ times 6 (codes "read\n") ++ codes "subscribe\naccept\ndeliver 1\n"

abbrev pub prepared_report : List ℕ
prepared_report = times 6 (codes "read ok\n") ++ codes "note 1 seq 0 at 0\naccept 200\ndeliver 1 took\n"

-- the item of a track with two channels: of ten bytes, or of this many
abbrev pub item_of : List ℕ → List ℕ → List ℕ → List ℕ → List ℕ
item_of id title update size = small_item id title update size (codes "16") (codes "2")

abbrev pub ten_bytes : List ℕ → List ℕ → List ℕ → List ℕ
ten_bytes id title update = item_of id title update (codes "10")

-- a note that comes before the one that it follows: the gap is named, then the object that is still to be read
abbrev pub notes_out_of_order : Type 0
notes_out_of_order = Leaves
    (prepared ++ one_track ++ codes "scan\nat 200\n" ++ two_tracks ++ codes "scan\nat 400\ndeliver 3\nask\ndeliver 2\nask\nread\nread\nask\n") 0
    (prepared_report ++ codes "scan 1\nnote 2 seq 1 at 1\nscan 2\nnote 3 seq 2 at 2\ndeliver 3 held 1\ngap 1\ndeliver 2 took\nbehind read 1\nread ok\nread ok\nstands 2\n"
    ++ root_line (codes "2") (codes "2") (codes "0")
    ++ ten_bytes (codes "1") (codes "a") (codes "1") ++ ten_bytes (codes "2") (codes "b") (codes "2"))

-- a repeated note is counted once
abbrev pub repeated_notes : Type 0
repeated_notes = Leaves
    (prepared ++ one_track ++ codes "scan\nat 200\ndeliver 2\nread\nscan\nat 400\ndeliver 3\ndeliver 3\ndeliver 3\nask\n") 0
    (prepared_report ++ codes "scan 1\nnote 2 seq 1 at 1\ndeliver 2 took\nread ok\nscan 2\nnote 3 seq 2 at 2\ndeliver 3 took\ndeliver 3 repeat\ndeliver 3 repeat\nstands 2\n"
    ++ root_line (codes "0") (codes "2") (codes "1"))

-- an object that is gone when it is read stays unread until its deletion is told
abbrev pub read_of_what_is_gone : Type 0
read_of_what_is_gone = Leaves
    (prepared ++ one_track ++ codes "scan\nat 200\nscan\ndeliver 2\nread\nask\nat 400\ndeliver 3\nask\n") 0
    (prepared_report ++ codes "scan 1\nnote 2 seq 1 at 1\nscan 2\ndeliver 2 took\nread 701\nbehind read 1\nnote 3 seq 2 at 2\ndeliver 3 took\nstands 2\n"
    ++ root_line (codes "0") (codes "2") (codes "1"))

-- an object that is read in a later version than the notes tell holds the copy back until they tell it
abbrev pub read_ahead_of_notes : Type 0
read_ahead_of_notes = Leaves
    (prepared ++ one_track ++ codes "scan\nat 200\ntrack a.flac 11 0 2 16 0\nscan\ndeliver 2\nread\nask\nat 400\ndeliver 3\nask\n") 0
    (prepared_report ++ codes "scan 1\nnote 2 seq 1 at 1\nscan 2\ndeliver 2 took\nread ok\nbehind version 2\nnote 3 seq 2 at 2\ndeliver 3 took\nstands 2\n"
    ++ root_line (codes "1") (codes "2") (codes "0")
    ++ item_of (codes "1") (codes "a") (codes "2") (codes "11"))

-- three scans between ticks: releases are 200 milliseconds apart, and one release tells both scans before it
abbrev pub three_scans : List ℕ
three_scans =
    codes "subscribe\naccept\n" ++ one_track ++ codes "scan\nat 1000\n" ++ two_tracks ++ codes "scan\nat 1100\n"
    ++ three_tracks ++ codes "scan\nat 1199\nat 1200\n"

abbrev pub releases_are_apart : Type 0
releases_are_apart = Leaves three_scans 0
    (codes "note 1 seq 0 at 0\naccept 200\nscan 1\nnote 2 seq 1 at 1\nscan 2\nscan 3\nnote 3 seq 2 at 3\n")

-- what that release tells: two additions, and that the root changed
abbrev pub accepted_commands : List Command
accepted_commands = (played (script_turns three_scans)).commands

abbrev pub releases_tell : Type 0
releases_tell =
    (sent_note 3 (notes_of 0 accepted_commands)
    ≡ Some (record { name = 1; place = 2; number = 3; events = ObjAdd 2 2 false 0 IsTrack ∷ ObjAdd 3 3 false 0 IsTrack ∷ [] }))
    × (map (released_containers (scans_of 0 accepted_commands)) (releases_of 0 accepted_commands) ≡ ((0, 3) ∷ []) ∷ ((0, 1) ∷ []) ∷ [])

-- a first note above the position drops the copy and begins a load
abbrev pub first_note_above : Type 0
first_note_above = Leaves
    (prepared ++ one_track ++ codes "scan\nat 200\nunsubscribe\nsubscribe\naccept\nask\ndeliver 3\nask\n" ++ times 6 (codes "read\n") ++ codes "ask\n") 0
    (prepared_report ++ codes "scan 1\nnote 2 seq 1 at 1\nunsubscribe 200\nnote 3 seq 0 at 1\naccept 200\nstands 0\n"
    ++ root_line (codes "0") (codes "0") (codes "0") ++ codes "deliver 3 took\nbehind load\n" ++ times 6 (codes "read ok\n") ++ codes "stands 1\n"
    ++ root_line (codes "1") (codes "1") (codes "0") ++ ten_bytes (codes "1") (codes "a") (codes "1"))

-- a note that comes before its subscription is accepted; a deletion that the load has counted is not counted again
abbrev pub early_note : Type 0
early_note = Leaves
    (one_track ++ codes "scan\nscan\nload\n" ++ times 6 (codes "read\n") ++ codes "subscribe\ndeliver 1\naccept\nat 200\ndeliver 2\nask\n") 0
    (codes "scan 1\nscan 2\n" ++ times 6 (codes "read ok\n") ++ codes "note 1 seq 0 at 2\ndeliver 1 early\naccept 200\nnote 2 seq 1 at 2\ndeliver 2 took\nstands 2\n"
    ++ root_line (codes "0") (codes "2") (codes "1"))

-- the first note comes again
abbrev pub repeat_of_the_first : Type 0
repeat_of_the_first = Leaves (prepared ++ codes "deliver 1\n") 0 (prepared_report ++ codes "deliver 1 repeat\n")

-- a reply that is lost leaves the ask; it is told also if nothing is to be asked
abbrev pub lost_reply : Type 0
lost_reply = Leaves (codes "readfault\nread\nload\nreadfault\n" ++ times 6 (codes "read\n") ++ codes "ask\n") 0
    (codes "readfault\nread none\nreadfault\n" ++ times 6 (codes "read ok\n") ++ codes "stands 0\n" ++ root_line (codes "0") (codes "0") (codes "0"))

-- a reply that was held back is used up; before any request there is none
abbrev pub replies_are_used_up : Type 0
replies_are_used_up = Leaves (codes "accept\nsubscribe\naccept\naccept\n") 0 (codes "accept none\nnote 1 seq 0 at 0\naccept 200\naccept none\n")

-- the first notes of this many subscriptions, from a number on
abbrev pub first_notes : ℕ → ℕ → List ℕ
first_notes zero number = []
first_notes (suc n) number = codes "note " ++ decimal number ++ codes " seq 0 at 0\n" ++ first_notes n (number + 1)

-- at most 64 subscriptions live: a request beyond them is refused, nothing is sent, and its reply is used up too
abbrev pub subscriptions_are_limited : Type 0
subscriptions_are_limited = Leaves (times 65 (codes "subscribe\n") ++ codes "accept\naccept\n") 0 (first_notes 64 1 ++ codes "accept 503\naccept none\n")

-- the subscription that was accepted last is given up once
abbrev pub given_up_once : Type 0
given_up_once = Leaves (codes "unsubscribe\nsubscribe\nunsubscribe\naccept\nunsubscribe\nunsubscribe\n") 0
    (codes "unsubscribe none\nnote 1 seq 0 at 0\nunsubscribe none\naccept 200\nunsubscribe 200\nunsubscribe 412\n")

-- a subscription at the moment 0, and its renewal at another
abbrev pub renewal_at : List ℕ → List ℕ
renewal_at moment = codes "subscribe\naccept\nat " ++ moment ++ codes "\nrenew\n"

-- it is renewed while it lives, which is 1,799,999 milliseconds after its grant and not 1,800,000. Before a reply is accepted
-- there is none to be renewed. After a renewal it lives as long again, and gets notes
abbrev pub subscriptions_are_renewed : Type 0
subscriptions_are_renewed =
    Leaves (renewal_at (codes "1799999")) 0 (codes "note 1 seq 0 at 0\naccept 200\nrenew 200\n")
    × Leaves (renewal_at (codes "1800000")) 0 (codes "note 1 seq 0 at 0\naccept 200\nrenew 412\n")
    × Leaves (codes "renew\nsubscribe\nrenew\n") 0 (codes "renew none\nnote 1 seq 0 at 0\nrenew none\n")
    × Leaves (renewal_at (codes "1799999") ++ one_track ++ codes "scan\nat 3599998\nrenew\nat 5399998\nrenew\n") 0
    (codes "note 1 seq 0 at 0\naccept 200\nrenew 200\nscan 1\nnote 2 seq 1 at 1\nrenew 200\nrenew 412\n")

-- early notes of two requests: the second request drops those of the first. The first would have given a name; a note of this
-- name is unknown once the second is accepted
abbrev pub early_notes_are_dropped : Type 0
early_notes_are_dropped = Leaves
    (codes "subscribe\ndeliver 1\ndeliver 1\nsubscribe\ndeliver 1\ndeliver 2\ndeliver 1\naccept\nask\n" ++ one_track ++ codes "scan\nat 0\ndeliver 4\ndeliver 3\nask\n") 0
    (codes "note 1 seq 0 at 0\ndeliver 1 early\ndeliver 1 repeat\nnote 2 seq 0 at 0\ndeliver 1 early\ndeliver 2 early\ndeliver 1 repeat\naccept 200\nbehind load\nscan 1\nnote 3 seq 1 at 1\nnote 4 seq 1 at 1\ndeliver 4 took\ndeliver 3 unknown\nbehind load\n")

-- a missing note is named before a load that has not ended
abbrev pub gap_before_load : Type 0
gap_before_load = Leaves (codes "subscribe\naccept\n" ++ one_track ++ codes "scan\nat 0\ndeliver 2\nask\ndeliver 1\nask\n") 0
    (codes "note 1 seq 0 at 0\naccept 200\nscan 1\nnote 2 seq 1 at 1\ndeliver 2 held 0\ngap 0\ndeliver 1 took\nbehind load\n")

-- a first note above the position while a load runs: the load begins anew
abbrev pub first_note_while_loading : Type 0
first_note_while_loading = Leaves
    (codes "load\nread\nread\n" ++ one_track ++ codes "scan\nsubscribe\naccept\ndeliver 1\n" ++ times 5 (codes "read\n") ++ codes "ask\nread\nask\nread\n") 0
    (codes "read ok\nread ok\nscan 1\nnote 1 seq 0 at 1\naccept 200\ndeliver 1 took\n" ++ times 5 (codes "read ok\n") ++ codes "behind load\nread ok\nstands 1\n"
    ++ root_line (codes "1") (codes "1") (codes "0") ++ ten_bytes (codes "1") (codes "a") (codes "1") ++ codes "read none\n")

-- the note of a SEQ, each of which tells one more track; and a replica with a copy of an empty library that took the first note.
-- Then it got this many notes from SEQ 2 on
abbrev pub note_at : ℕ → Note
note_at seq = record { name = 1; place = seq; number = seq; events = ObjAdd seq seq false 0 IsTrack ∷ [] }

abbrev pub came : ℕ → List ReplicaTurn
came zero = given_by script_token 0 (grant_at 0 ∷ []) loaded
came (suc n) = and_turn (Delivers (note_at (n + 2))) (came n)

-- if 64 notes are held a further one is refused and counts as lost. A repeat is a repeat, and the next one is taken with those
-- that follow it. Then the one that was lost is missing
abbrev pub sixty_four_are_held : Type 0
sixty_four_are_held =
    (arrival (note_at 65) (came 63) ≡ IsHeld 1)
    × (arrival (note_at 66) (came 64) ≡ IsTooMany 64)
    × (and_turn (Delivers (note_at 66)) (came 64) ≡ came 64)
    × (arrival (note_at 65) (came 64) ≡ IsRepeat)
    × (arrival (note_at 1) (came 64) ≡ IsNext)
    × (arrival (note_at 67) (and_turn (Delivers (note_at 1)) (came 64)) ≡ IsHeld 66)
    × (says (and_turn (Delivers (note_at 67)) (and_turn (Delivers (note_at 1)) (came 64))) ≡ Gap 66)
