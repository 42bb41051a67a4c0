-- The subscriptions that a server keeps. They are a function of what it began with and of the commands that it accepted,
-- the newest first. The commands alone say what a subscription is (UPnP Device Architecture 2.0 on eventing).
use Rattle.std.specs.Prelude.{◌≡◌, ◌+◌, ◌-◌, ◌≤◌, ◌^◌, ◌&&◌, ℕ, Bool, false, cond, not, nat_eq, nat_lt, nat_le, List, [], ◌∷◌, ◌++◌, map, filter, length, Option, Some, None, IsSome, unwrap_or}
use Rattle.std.specs.List.{AllByRecursion, filter_map, range_with_len}
use Rattle.std.specs.Map.{lookup}
use Rattle.cds_commands.specs.Commands.{Command, Start}
use Rattle.cds_commands.specs.Names.{names_of}
use Rattle.cds_commands.specs.Subscriptions.{granted, end_after, runs_until, callback_of, subscription_limit}
use Rattle.cds_commands.specs.Notes.{next_place_of, notes_of}
use Rattle.cds_commands.specs.Places.{seq_at, seq_after}
use Rattle.cds_gena.specs.Asked.{url_in}
use Rattle.cds_gena.specs.declared.address.Address.{Address}
use Rattle.cds_gena.specs.declared.book.Subscription.{Subscription}
use Rattle.cds_gena.specs.declared.error.GenaError.{GenaError}
use Rattle.cds_gena.specs.declared.error.GenaError.TheVariants.{Full, Spent}

-- ---- by the commands

-- a subscription with its number among the grants: its callback, the moment at which it runs out, and the SEQ of its
-- next note, by the place of that note; none if it has ended
abbrev pub running : ℕ → ℕ → List ℕ → ℕ → Option ℕ → Option (ℕ × Subscription)
running wrap number callback place None = None
running wrap number callback place (Some end) = Some (number, record { callback = callback; end = end; next_seq = seq_at wrap place })

abbrev pub subscription_of : Start → List Command → ℕ → Option (ℕ × Subscription)
subscription_of start commands number =
    running start.wrap number (unwrap_or (callback_of number commands) []) (next_place_of number (notes_of start.first commands)) (runs_until number commands)

-- how many subscriptions were granted, and those that have not ended, in the order in which they were granted
pub record Subscribed : Type 0 where
  pub granted : ℕ
  pub living : List (ℕ × Subscription)

abbrev pub subscribed_by : Start → List Command → Subscribed
subscribed_by start commands = record {
  granted = granted commands;
  living = filter_map (subscription_of start commands) (range_with_len 1 (granted commands));
}

-- a book: its subscriptions, the name of number 0, and the SEQ after which comes SEQ 1
pub record Booked : Type 0 where
  pub names : ℕ
  pub wrap : ℕ
  pub subscribed : Subscribed

-- the least SEQ after which SEQ 1 may come
abbrev pub least_wrap : ℕ
least_wrap = 256

-- a book has what the commands say
pub record StandsFor (book : Booked) (start : Start) (commands : List Command) : Type 0 where
  pub names : book.names ≡ names_of start
  pub wrap : book.wrap ≡ start.wrap
  pub wide : least_wrap ≤ start.wrap
  pub subscribed : book.subscribed ≡ subscribed_by start commands

-- ---- step by step

-- before any was granted
abbrev pub nothing_granted : Subscribed
nothing_granted = record { granted = 0; living = [] }

-- those that have not run out at a moment
abbrev pub alive : ℕ → List (ℕ × Subscription) → List (ℕ × Subscription)
alive now living = filter (λ (p : ℕ × Subscription). nat_lt now p.1.end) living

-- with one more, whose first note is sent
abbrev pub with_grant : ℕ → List ℕ → ℕ → Subscribed → Subscribed
with_grant now callback seconds s = record {
  granted = s.granted + 1;
  living = s.living ++ (s.granted + 1, record { callback = callback; end = end_after now seconds; next_seq = 1 }) ∷ [];
}

-- with the end of one put off
abbrev pub until : ℕ → ℕ → (ℕ × Subscription) → ℕ × Subscription
until number end p =
    cond (nat_eq p.0 number) (p.0, record { callback = p.1.callback; end = end; next_seq = p.1.next_seq }) p

abbrev pub renewed : ℕ → ℕ → Subscribed → Subscribed
renewed number end s = record { granted = s.granted; living = map (until number end) s.living }

-- without the subscription of a number
abbrev pub without : ℕ → Subscribed → Subscribed
without number s = record { granted = s.granted; living = filter (λ (p : ℕ × Subscription). not (nat_eq p.0 number)) s.living }

-- without those that have run out
abbrev pub expired : ℕ → Subscribed → Subscribed
expired now s = record { granted = s.granted; living = alive now s.living }

-- after each was sent a note: the SEQ of its next note is the one after that
abbrev pub raised : ℕ → (ℕ × Subscription) → ℕ × Subscription
raised wrap p = (p.0, record { callback = p.1.callback; end = p.1.end; next_seq = seq_after wrap p.1.next_seq })

abbrev pub notified : ℕ → Subscribed → Subscribed
notified wrap s = record { granted = s.granted; living = map (raised wrap) s.living }

-- ---- names

-- the most subscriptions that are ever granted
abbrev pub last_number : ℕ
last_number = 4294967295

-- the number of a name, if it is one that a book with this name of number 0 can give
abbrev pub number_of : ℕ → ℕ → Option ℕ
number_of names name = cond (nat_le names name && nat_le (name - names) last_number) (Some (name - names)) None

-- whether the subscription of a number has not run out at a moment
abbrev pub is_running : ℕ → Option Subscription → Bool
is_running now None = false
is_running now (Some s) = nat_lt now s.end

abbrev pub holds_alive : ℕ → ℕ → List (ℕ × Subscription) → Bool
holds_alive now number living = is_running now (lookup (nat_eq number) living)

-- the number of a name whose subscription has not run out
abbrev pub if_alive : ℕ → List (ℕ × Subscription) → Option ℕ → Option ℕ
if_alive now living None = None
if_alive now living (Some number) = cond (holds_alive now number living) (Some number) None

abbrev pub living_named : ℕ → ℕ → Booked → Option ℕ
living_named now name book = if_alive now book.subscribed.living (number_of book.names name)

-- the address of the note to a subscription
abbrev pub address_of : ℕ → (ℕ × Subscription) → Address
address_of names p = record { sid = record { 0 = names + p.0 }; callback = p.1.callback; seq = p.1.next_seq }

-- why no subscription is granted at a moment: no name is left, or the limit of living subscriptions is reached
abbrev pub if_full : ℕ → Option GenaError
if_full live = cond (nat_lt live subscription_limit) None (Some (Full live))

abbrev pub grant_refusal : ℕ → Subscribed → Option GenaError
grant_refusal now s = cond (nat_eq s.granted last_number) (Some Spent) (if_full (length (alive now s.living)))

-- ---- what every book keeps

-- the note of an address can be delivered: its callback is the text of an `http` URL with a host
abbrev pub IsDelivered : Address → Type 0
IsDelivered to = IsSome (url_in to.callback)

-- no more live than were granted, and their numbers are among those
abbrev pub AreGranted : ℕ → List (ℕ × Subscription) → Type 0
AreGranted granted living = (length living ≤ granted) × AllByRecursion (λ (p : ℕ × Subscription). p.0 ≤ granted) living

-- their notes can be delivered
abbrev pub AreDelivered : List (ℕ × Subscription) → Type 0
AreDelivered living = AllByRecursion (λ (p : ℕ × Subscription). IsSome (url_in p.1.callback)) living

pub record IsBook (names granted : ℕ) (living : List (ℕ × Subscription)) : Type 0 where
  pub room : names + 2 ^ 32 ≤ 2 ^ 128
  pub among : AreGranted granted living
  pub delivered : AreDelivered living
