-- What a replica keeps of its notes: not the notes that it took, but how far they go; and the notes that it holds, at their
-- places (this project's profile, over UPnP Device Architecture 2.0 on event keys).
use Rattle.std.specs.Prelude.{◌≡◌, ◌<◌, ◌≤◌, ◌+◌, ◌&&◌, ◌||◌, ℕ, Bool, true, false, cond, not, nat_eq, nat_lt, nat_le, List, [], ◌∷◌, filter, length, Option, Some}
use Rattle.std.specs.List.{list_any, AllByRecursion}
use Rattle.std.specs.Option.{option_eq, option_map}
use Rattle.cds_commands.specs.Notes.{Note, notes_from_to}
use Rattle.cds_commands.specs.Places.{seq_at, place_of}
use Rattle.cds_commands.specs.Wire.{WireNote, note_at}
use Rattle.cds_gena.specs.Subscribed.{least_wrap}
use Rattle.cds_follow.specs.Inbox.{ReplicaTurn, is_out, accepted, early_notes, has_place, least_outside, next_place, missing_of, is_same_note, different, waiting_notes, held_limit, Arrival, IsUnknown, IsRepeat, IsTooMany, IsEarly, IsHeld, IsNext}

-- the SEQ after which comes SEQ 1; the name that was accepted last; whether a subscribe request is out; the place after those that
-- were taken; the notes that were received and not taken; and the early ones: each held note once, the newest first
pub record KeptInbox : Type 0 where
  pub wrap : ℕ
  pub accepted : Option ℕ
  pub out : Bool
  pub next : ℕ
  pub waiting : List Note
  pub early : List Note

-- what is kept after a replica's turns
abbrev pub inbox_of : ℕ → List ReplicaTurn → KeptInbox
inbox_of wrap turns = record {
  wrap = wrap;
  accepted = accepted turns;
  out = is_out turns;
  next = next_place turns;
  waiting = waiting_notes turns;
  early = different (early_notes turns);
}

-- whether a name is the accepted one
abbrev pub accepts : ℕ → KeptInbox → Bool
accepts name kept = option_eq nat_eq kept.accepted (Some name)

-- the place next to which those of a name are; and a note that came, at the place with its SEQ that is near, if there is one
abbrev pub near_in : ℕ → KeptInbox → ℕ
near_in name kept = cond (accepts name kept) kept.next 0

abbrev pub placed_in : WireNote → KeptInbox → Option Note
placed_in note kept = option_map (note_at note) (place_of kept.wrap (near_in note.name kept) note.seq)

-- the SEQ of the place that is missing
abbrev pub missing_seq : KeptInbox → Option ℕ
missing_seq kept = option_map (seq_at kept.wrap) (missing_of kept.waiting kept.next)

-- whether a note is a repeat, and whether it is the next one; and how many are held
abbrev pub repeats : Note → KeptInbox → Bool
repeats note kept =
    cond (accepts note.name kept) (nat_lt note.place kept.next || has_place kept.waiting note.place)
    (kept.out && list_any (is_same_note note) kept.early)

abbrev pub follows : Note → KeptInbox → Bool
follows note kept = accepts note.name kept && nat_eq note.place kept.next

abbrev pub held_count : KeptInbox → ℕ
held_count kept = length kept.waiting + length kept.early

-- what becomes of a delivered note, by what is kept
abbrev pub arrival_in : Note → KeptInbox → Arrival
arrival_in note kept =
    cond (not (accepts note.name kept) && not kept.out) IsUnknown
    (cond (repeats note kept) IsRepeat
    (cond (not (follows note kept) && nat_le held_limit (held_count kept)) (IsTooMany (held_count kept))
    (cond (not (accepts note.name kept)) IsEarly
    (cond (nat_lt kept.next note.place) (IsHeld kept.next) IsNext))))

-- the place after those that notes have from one on without a hole; and the notes that are after such a run
abbrev pub run_end : ℕ → List Note → ℕ
run_end from notes = least_outside (length notes) from notes

abbrev pub behind : ℕ → List Note → List Note
behind next notes = filter (λ (note : Note). nat_lt next note.place) notes

-- the notes of a name
abbrev pub of_name : ℕ → List Note → List Note
of_name name notes = filter (λ (note : Note). nat_eq note.name name) notes

-- what is kept when a subscribe request goes out, and when it was refused
abbrev pub with_request : KeptInbox → KeptInbox
with_request kept = record kept { out = true; early = [] }

abbrev pub with_refusal : KeptInbox → KeptInbox
with_refusal kept = record kept { out = false; early = [] }

-- what is kept when a name was accepted, and the early notes that are taken then
abbrev pub with_name : ℕ → KeptInbox → KeptInbox
with_name name kept = record {
  wrap = kept.wrap;
  accepted = Some name;
  out = false;
  next = run_end 0 (of_name name kept.early);
  waiting = behind (run_end 0 (of_name name kept.early)) (of_name name kept.early);
  early = [];
}

abbrev pub taken_early : ℕ → KeptInbox → List Note
taken_early name kept = notes_from_to 0 (run_end 0 (of_name name kept.early)) (of_name name kept.early)

-- what is kept when a note is held, early or for a place before it
abbrev pub with_early : Note → KeptInbox → KeptInbox
with_early note kept = record kept { early = note ∷ kept.early }

abbrev pub with_waiting : Note → KeptInbox → KeptInbox
with_waiting note kept = record kept { waiting = note ∷ kept.waiting }

-- the place after the next note and those that follow it, these, and what is kept when they were taken
abbrev pub run_after : KeptInbox → ℕ
run_after kept = run_end (kept.next + 1) kept.waiting

abbrev pub followers : KeptInbox → List Note
followers kept = notes_from_to (kept.next + 1) (run_after kept) kept.waiting

abbrev pub with_next : KeptInbox → KeptInbox
with_next kept = record kept { next = run_after kept; waiting = behind (run_after kept) kept.waiting }

-- what is kept after a note of some arrival, and the notes that are taken then
abbrev pub with_note : Arrival → Note → KeptInbox → KeptInbox
with_note IsUnknown note kept = kept
with_note IsRepeat note kept = kept
with_note (IsTooMany held) note kept = kept
with_note IsEarly note kept = with_early note kept
with_note (IsHeld place) note kept = with_waiting note kept
with_note IsNext note kept = with_next kept

abbrev pub taken_in : Arrival → Note → KeptInbox → List Note
taken_in IsUnknown note kept = []
taken_in IsRepeat note kept = []
taken_in (IsTooMany held) note kept = []
taken_in IsEarly note kept = []
taken_in (IsHeld place) note kept = []
taken_in IsNext note kept = note ∷ followers kept

-- what holds of each inbox: at most as many notes are held as may be. Those that wait are of the accepted name and after the next
-- place
abbrev pub IsWaiting : Option ℕ → ℕ → Note → Type 0
IsWaiting accepted next note = (accepted ≡ Some note.name) × (next < note.place)

pub record IsInbox (kept : KeptInbox) : Type 0 where
  pub wrap : least_wrap ≤ kept.wrap
  pub few : held_count kept ≤ held_limit
  pub waiting : AllByRecursion (IsWaiting kept.accepted kept.next) kept.waiting
