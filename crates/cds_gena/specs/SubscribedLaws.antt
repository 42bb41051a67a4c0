-- What one command does to the subscriptions that a book keeps, which of them live, and which are granted. The commands
-- alone say it.
use Rattle.std.specs.Prelude.{◌≡◌, ◌<◌, ℕ, nat_eq, cond, List, [], ◌∷◌, map, length, Some, None}
use Rattle.cds_catalog.specs.Library.{FolderMap}
use Rattle.cds_commands.specs.Commands.{Command, Start, Scans, Grants, Renews, Ends, Ticks, Stops, scans_of}
use Rattle.cds_commands.specs.Releases.{Release, release_at, releases_of}
use Rattle.cds_commands.specs.Subscriptions.{granted, end_after, is_alive}
use Rattle.cds_commands.specs.Notes.{Note, alive_names, sent_by, notes_of}
use Rattle.cds_commands.specs.Places.{seq_at}
use Rattle.cds_gena.specs.declared.book.Subscription.{Subscription}
use Rattle.cds_gena.specs.declared.error.GenaError.TheVariants.{Spent}
use Rattle.cds_gena.specs.Subscribed.{subscribed_by, nothing_granted, alive, with_grant, renewed, without, expired, notified, holds_alive, grant_refusal, last_number, if_full}

-- before any command nothing is granted
abbrev pub nothing_is_granted_at_first : Type 0
nothing_is_granted_at_first = (start : Start) → subscribed_by start [] ≡ nothing_granted

-- a grant makes one more
abbrev pub grants_make_one_more : Type 0
grants_make_one_more = (start : Start) (now : ℕ) (callback : List ℕ) (seconds : ℕ) (older : List Command) → 0 < start.wrap →
    subscribed_by start (Grants now callback seconds ∷ older) ≡ with_grant now callback seconds (subscribed_by start older)

-- a renewal puts off an end, and the subscription that is given up goes
abbrev pub renewals_put_off : Type 0
renewals_put_off = (start : Start) (now number seconds : ℕ) (older : List Command) →
    subscribed_by start (Renews now number seconds ∷ older) ≡ renewed number (end_after now seconds) (subscribed_by start older)

abbrev pub ends_drop : Type 0
ends_drop = (start : Start) (now number : ℕ) (older : List Command) →
    subscribed_by start (Ends now number ∷ older) ≡ without number (subscribed_by start older)

-- the name and the SEQ of a note, and the name and the SEQ of the next note to a subscription
abbrev pub sent_under : ℕ → Note → ℕ × ℕ
sent_under wrap note = (note.name, seq_at wrap note.place)

abbrev pub next_under : (ℕ × Subscription) → ℕ × ℕ
next_under p = (p.0, p.1.next_seq)

-- a tick drops those that have run out; with a release each of the others gets a note
abbrev pub ticks_expire : Type 0
ticks_expire = (start : Start) (now : ℕ) (older : List Command) → release_at now (scans_of start.first older) (releases_of start.first older) ≡ None →
    subscribed_by start (Ticks now ∷ older) ≡ expired now (subscribed_by start older)

abbrev pub ticks_notify : Type 0
ticks_notify = (start : Start) (now : ℕ) (older : List Command) (release : Release) → 0 < start.wrap → release_at now (scans_of start.first older) (releases_of start.first older) ≡ Some release →
    (subscribed_by start (Ticks now ∷ older) ≡ notified start.wrap (expired now (subscribed_by start older)))
    × (map (sent_under start.wrap) (sent_by start.first older (notes_of start.first older) (Ticks now))
    ≡ map next_under (alive now (subscribed_by start older).living))

-- other commands change nothing
abbrev pub other_commands_change_nothing : Type 0
other_commands_change_nothing = (start : Start) (older : List Command) →
    ((library : FolderMap) → subscribed_by start (Scans library ∷ older) ≡ subscribed_by start older)
    × (subscribed_by start (Stops ∷ older) ≡ subscribed_by start older)

-- those that live are the ones that have not run out, in order; the subscription of a number lives if it has not run
-- out
abbrev pub living_are_alive : Type 0
living_are_alive = (start : Start) (now : ℕ) (commands : List Command) →
    (alive_names now commands ≡ map (λ p. p.0) (alive now (subscribed_by start commands).living))
    × ((number : ℕ) → holds_alive now number (subscribed_by start commands).living
    ≡ is_alive number now commands)

-- a subscription is refused exactly if the last name was given, or if the limit of living subscriptions is reached
abbrev pub grants_are_refused : Type 0
grants_are_refused = (start : Start) (now : ℕ) (commands : List Command) →
    grant_refusal now (subscribed_by start commands)
    ≡ cond (nat_eq (granted commands) last_number) (Some Spent) (if_full (length (alive_names now commands)))
