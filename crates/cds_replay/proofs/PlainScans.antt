-- What a script's server has is plain: so what it writes is read back.
use Rattle.std.proofs.Common.{◌≡◌, inl, inr, ℕ, ◌+◌, ◌<◌, ◌≤◌, ◌^◌, List, [], ◌∷◌, ◌++◌, map, length, Bool, true, false, cond, Option, Some, None, refl, ap, sym, subst, ◌∙◌, arith}
use Rattle.std.specs.List.{AllByRecursion}
use Rattle.cds_object.specs.Path.{name_of}
use Rattle.cds_object.specs.declared.info.Comment.{Comment}
use Rattle.cds_object.specs.declared.info.FlacInfo.{FlacInfo}
use Rattle.cds_object.specs.declared.record.Record.{Record}
use Rattle.cds_catalog.specs.Library.{FolderMap, map_of}
use Rattle.cds_catalog.specs.History.{History, end_of}
use Rattle.cds_catalog.specs.Catalog.{catalog}
use Rattle.cds_catalog.specs.Scans.{bad_record, scan_answer}
use Rattle.cds_didl.specs.Plain.{IsPlainText, ArePlainRecords, HasSoundNumbers}
use Rattle.cds_didl.proofs.Plain.{contents-are-plain}
use Rattle.cds_base.proofs.Plain.{allowed-plain}
use Rattle.cds_exchange.specs.Honest.{IsPlainMoment}
use Rattle.cds_exchange.proofs.Histories.{histories-are-plain}
use Rattle.cds_commands.specs.Commands.{Command, Scans, Grants, Renews, Ends, Stops, Ticks, scans_of, AreAccepted}
use Rattle.cds_catalog.specs.Laws.{AreLibraries}
use Rattle.cds_load.specs.declared.exchange.Shown.{Shown}
use Rattle.cds_commands.specs.Notes.{has_room}
use Rattle.cds_commands.specs.Subscriptions.{granted}
use Rattle.cds_commands.proofs.Scanned.{scans-first}
use Rattle.cds_follow.specs.Inbox.{Requests, accepted}
use Rattle.cds_script.specs.Report.{Played, script_token, commented, last_commented, found_since, record_of, records_since, number_of, first_of, clock_of, scanned, given_up, with_renewal, lives}
use Rattle.cds_script.specs.Script.{IsInRange, IsInfoInRange, grant_at, granted_seconds}
use Rattle.cds_script.specs.declared.found.Found.{Found}
use Rattle.cds_script.specs.declared.found.Found.TheVariants.{Folder as FolderFound, Track as TrackFound}
use Rattle.cds_script.specs.declared.reply.HeldReply.TheVariants.{Named, Refusal}
use Rattle.cds_script.specs.declared.turn.ScriptTurn.{ScriptTurn}
use Rattle.cds_script.specs.declared.turn.ScriptTurn.TheVariants.{Folder, Track, Tag, Scan, Load, Read, Ask, First, Wrap, At, Subscribe, Accept, Renew, Unsubscribe, Deliver, ReadFault}
use Rattle.cds_replay.specs.Wired.{ReplayStep, turns_in, play_read, played_by, moment_by, AllStandBy, MayBeBy}
use Rattle.cds_script.proofs.Given.{ScannedCases, scanned-cases, scan-accepted}

-- ---- what was found

abbrev IsPlainFound : Found → Type 0
IsPlainFound (FolderFound path) = Unit {0}
IsPlainFound (TrackFound file) = IsInfoInRange file.info × (file.size < 2 ^ 64)

one-more : (found : List Found) (one : Found) → AllByRecursion IsPlainFound found → IsPlainFound one → AllByRecursion IsPlainFound (found ++ one ∷ [])
one-more [] one all plain = (plain, tt)
one-more (found ∷ others) one all plain = (all.0, one-more others one all.1 plain)

commented-plain : (comment : Comment) (one : Found) → IsPlainFound one → IsPlainFound (commented comment one)
commented-plain comment (FolderFound path) plain = tt
commented-plain comment (TrackFound file) plain = plain

last-plain : (comment : Comment) (found : List Found) → AllByRecursion IsPlainFound found → AllByRecursion IsPlainFound (last_commented comment found)
last-plain comment [] all = tt
last-plain comment (found ∷ []) all = (commented-plain comment found all.0, tt)
last-plain comment (found ∷ next ∷ others) all = (all.0, last-plain comment (next ∷ others) all.1)

found-plain : (turns : List ScriptTurn) → AllByRecursion IsInRange turns → AllByRecursion IsPlainFound (found_since turns)
found-plain [] all = tt
found-plain (Folder path ∷ older) all = one-more (found_since older) (FolderFound path) (found-plain older all.1) tt
found-plain (Track path info size ∷ older) all =
    one-more (found_since older) (TrackFound (record { path = path; info = info; size = size })) (found-plain older all.1) all.0
found-plain (Tag comment ∷ older) all = last-plain comment (found_since older) (found-plain older all.1)
found-plain (Scan ∷ older) all = tt
found-plain (Load ∷ older) all = found-plain older all.1
found-plain (Read ∷ older) all = found-plain older all.1
found-plain (Ask ∷ older) all = found-plain older all.1
found-plain (First number ∷ older) all = found-plain older all.1
found-plain (Wrap number ∷ older) all = found-plain older all.1
found-plain (At moment ∷ older) all = found-plain older all.1
found-plain (Subscribe ∷ older) all = found-plain older all.1
found-plain (Accept ∷ older) all = found-plain older all.1
found-plain (Renew ∷ older) all = found-plain older all.1
found-plain (Unsubscribe ∷ older) all = found-plain older all.1
found-plain (Deliver note ∷ older) all = found-plain older all.1
found-plain (ReadFault ∷ older) all = found-plain older all.1

sound : (info : FlacInfo) → IsInfoInRange info → HasSoundNumbers info
sound info is = record { rate = is.0; channels = is.1; bits = is.2; samples = is.3 }

recorded-plain : (found : List Found) → AllByRecursion IsPlainFound found → ArePlainRecords (map record_of found)
recorded-plain [] all = tt
recorded-plain (FolderFound path ∷ others) all = (contents-are-plain.folder (name_of path), recorded-plain others all.1)
recorded-plain (TrackFound file ∷ others) all =
    (contents-are-plain.track file.info (name_of file.path) file.size (sound file.info all.0.0) all.0.1, recorded-plain others all.1)

-- ---- the scans that were accepted

-- the folder maps of commands are those of lists of plain records, none of which is refused
pub record HasPlainScans (commands : List Command) : Type 0 where
  pub scans : List (List Record)
  pub are : (scans_of 0 commands).maps ≡ map map_of scans
  pub plain : AllByRecursion ArePlainRecords scans
  pub good : AllByRecursion (λ (records : List Record). bad_record records ≡ None) scans

same-scans : (one other : List Command) → (scans_of 0 other).maps ≡ (scans_of 0 one).maps → HasPlainScans one → HasPlainScans other
same-scans one other same has = record { scans = has.scans; are = same ∙ has.are; plain = has.plain; good = has.good }

scan-plain : (first : ℕ) (records : List Record) (commands : List Command) → ArePlainRecords records → HasPlainScans commands →
    HasPlainScans (scanned (scan_answer (scans_of first commands) records) records commands)
scan-plain first records commands plain has = by _ (scanned-cases (scans_of first commands) records commands)
  where
    by : (now : List Command) → ScannedCases (scans_of first commands) records commands now → HasPlainScans now
    by now (inl e) = subst HasPlainScans (sym e) has
    by now (inr e) =
        subst HasPlainScans (sym e.3)
        (record { scans = records ∷ has.scans; are = ap (λ maps. map_of records ∷ maps) has.are; plain = (plain, has.plain); good = (e.0, has.good) })

given-plain : (first now : ℕ) (commands : List Command) (o : Option ℕ) → HasPlainScans commands → HasPlainScans (given_up o now commands)
given-plain first now commands None has = has
given-plain first now commands (Some name) has = by (lives name now commands)
  where
    by : (b : Bool) → HasPlainScans (cond b (Ends now name ∷ commands) commands)
    by true = same-scans commands (Ends now name ∷ commands) refl has
    by false = has

renewal-plain : (first now : ℕ) (commands : List Command) (o : Option ℕ) → HasPlainScans commands → HasPlainScans (with_renewal o now commands)
renewal-plain first now commands None has = has
renewal-plain first now commands (Some name) has = by (lives name now commands)
  where
    by : (b : Bool) → HasPlainScans (cond b (Renews now name granted_seconds ∷ commands) commands)
    by true = same-scans commands (Renews now name granted_seconds ∷ commands) refl has
    by false = has

one-plain : (read : Option Shown) (first now : ℕ) (records : List Record) (p : Played) (turn : ScriptTurn) → ArePlainRecords records → HasPlainScans p.commands →
    HasPlainScans (play_read read first now records p turn).commands
one-plain read first now records p (Folder path) plain has = has
one-plain read first now records p (Track path info size) plain has = has
one-plain read first now records p (Tag comment) plain has = has
one-plain read first now records p Scan plain has = scan-plain first records p.commands plain has
one-plain read first now records p Load plain has = has
one-plain read first now records p Read plain has = has
one-plain read first now records p Ask plain has = has
one-plain read first now records p (First number) plain has = has
one-plain read first now records p (Wrap number) plain has = has
one-plain read first now records p (At moment) plain has = same-scans p.commands (Ticks moment ∷ p.commands) refl has
one-plain read first now records p Subscribe plain has = by (has_room now p.commands)
  where
    granting : Played
    granting = record p { commands = grant_at now ∷ p.commands; replica = Requests ∷ p.replica; reply = Named (granted p.commands + 1) }

    refusing : Played
    refusing = record p { replica = Requests ∷ p.replica; reply = Refusal }

    by : (b : Bool) → HasPlainScans (cond b granting refusing).commands
    by true = same-scans p.commands (grant_at now ∷ p.commands) refl has
    by false = has
one-plain read first now records p Accept plain has = has
one-plain read first now records p Renew plain has = renewal-plain first now p.commands (accepted p.replica) has
one-plain read first now records p Unsubscribe plain has = given-plain first now p.commands (accepted p.replica) has
one-plain read first now records p (Deliver note) plain has = has
one-plain read first now records p ReadFault plain has = has

steps-plain : (steps : List ReplayStep) → AllByRecursion IsInRange (turns_in steps) → HasPlainScans (played_by steps).commands
steps-plain [] all = record { scans = []; are = refl; plain = tt; good = tt }
steps-plain (step ∷ older) all =
    one-plain step.read (first_of (turns_in older)) (clock_of (turns_in older)) (records_since (turns_in older)) (played_by older) step.turn
    (recorded-plain (found_since (turns_in older)) (found-plain (turns_in older) all.1)) (steps-plain older all.1)

-- ---- they are accepted ones

more-accepted : (first : ℕ) (one other : List Command) → scans_of first other ≡ scans_of first one → AreAccepted first one → AreAccepted first other
more-accepted first one other same a = record {
  libraries = subst (λ (h : History). AreLibraries h.maps) (sym same) a.libraries;
  few = subst (λ (h : History). AllByRecursion (λ (library : FolderMap). length library ≤ 65535) h.maps) (sym same) a.few;
  numbers = subst (λ (h : History). end_of h ≤ 4294967295) (sym same) a.numbers;
}

scanned-accepted : (first : ℕ) (records : List Record) (commands : List Command) → AreAccepted first commands →
    AreAccepted first (scanned (scan_answer (scans_of first commands) records) records commands)
scanned-accepted first records commands a = by _ (scanned-cases (scans_of first commands) records commands)
  where
    by : (now : List Command) → ScannedCases (scans_of first commands) records commands now → AreAccepted first now
    by now (inl e) = subst (AreAccepted first) (sym e) a
    by now (inr e) = subst (AreAccepted first) (sym e.3) (scan-accepted first records commands a e.0 e.1 e.2)

given-accepted : (first now : ℕ) (commands : List Command) (o : Option ℕ) → AreAccepted first commands → AreAccepted first (given_up o now commands)
given-accepted first now commands None a = a
given-accepted first now commands (Some name) a = by (lives name now commands)
  where
    by : (b : Bool) → AreAccepted first (cond b (Ends now name ∷ commands) commands)
    by true = more-accepted first commands (Ends now name ∷ commands) refl a
    by false = a

renewal-accepted : (first now : ℕ) (commands : List Command) (o : Option ℕ) → AreAccepted first commands → AreAccepted first (with_renewal o now commands)
renewal-accepted first now commands None a = a
renewal-accepted first now commands (Some name) a = by (lives name now commands)
  where
    by : (b : Bool) → AreAccepted first (cond b (Renews now name granted_seconds ∷ commands) commands)
    by true = more-accepted first commands (Renews now name granted_seconds ∷ commands) refl a
    by false = a

one-accepted : (read : Option Shown) (first now : ℕ) (records : List Record) (p : Played) (turn : ScriptTurn) → AreAccepted first p.commands →
    AreAccepted first (play_read read first now records p turn).commands
one-accepted read first now records p (Folder path) a = a
one-accepted read first now records p (Track path info size) a = a
one-accepted read first now records p (Tag comment) a = a
one-accepted read first now records p Scan a = scanned-accepted first records p.commands a
one-accepted read first now records p Load a = a
one-accepted read first now records p Read a = a
one-accepted read first now records p Ask a = a
one-accepted read first now records p (First number) a = a
one-accepted read first now records p (Wrap number) a = a
one-accepted read first now records p (At moment) a = more-accepted first p.commands (Ticks moment ∷ p.commands) refl a
one-accepted read first now records p Subscribe a = by (has_room now p.commands)
  where
    granting : Played
    granting = record p { commands = grant_at now ∷ p.commands; replica = Requests ∷ p.replica; reply = Named (granted p.commands + 1) }

    refusing : Played
    refusing = record p { replica = Requests ∷ p.replica; reply = Refusal }

    by : (b : Bool) → AreAccepted first (cond b granting refusing).commands
    by true = more-accepted first p.commands (grant_at now ∷ p.commands) refl a
    by false = a
one-accepted read first now records p Accept a = a
one-accepted read first now records p Renew a = renewal-accepted first now p.commands (accepted p.replica) a
one-accepted read first now records p Unsubscribe a = given-accepted first now p.commands (accepted p.replica) a
one-accepted read first now records p (Deliver note) a = a
one-accepted read first now records p ReadFault a = a

none-accepted : (first : ℕ) → first ≤ 4294967295 → AreAccepted first []
none-accepted first low = record { libraries = tt; few = tt; numbers = omega (arith, low) }

-- the oldest turn may say the first number
begun-accepted : (read : Option Shown) (turn : ScriptTurn) → number_of turn ≤ 4294967295 → AreAccepted (number_of turn) (play_read read 0 0 [] (played_by []) turn).commands
begun-accepted read (Folder path) low = none-accepted 0 low
begun-accepted read (Track path info size) low = none-accepted 0 low
begun-accepted read (Tag comment) low = none-accepted 0 low
begun-accepted read Scan low = one-accepted read 0 0 [] (played_by []) Scan (none-accepted 0 low)
begun-accepted read Load low = none-accepted 0 low
begun-accepted read Read low = none-accepted 0 low
begun-accepted read Ask low = none-accepted 0 low
begun-accepted read (First number) low = none-accepted number low
begun-accepted read (Wrap number) low = none-accepted 0 low
begun-accepted read (At moment) low = one-accepted read 0 0 [] (played_by []) (At moment) (none-accepted 0 low)
begun-accepted read Subscribe low = one-accepted read 0 0 [] (played_by []) Subscribe (none-accepted 0 low)
begun-accepted read Accept low = none-accepted 0 low
begun-accepted read Renew low = one-accepted read 0 0 [] (played_by []) Renew (none-accepted 0 low)
begun-accepted read Unsubscribe low = one-accepted read 0 0 [] (played_by []) Unsubscribe (none-accepted 0 low)
begun-accepted read (Deliver note) low = none-accepted 0 low
begun-accepted read ReadFault low = none-accepted 0 low

pub steps-accepted : (steps : List ReplayStep) → first_of (turns_in steps) ≤ 4294967295 → AreAccepted (first_of (turns_in steps)) (played_by steps).commands
steps-accepted [] low = none-accepted 0 low
steps-accepted (step ∷ []) low = begun-accepted step.read step.turn low
steps-accepted (step ∷ next ∷ older) low =
    one-accepted step.read (first_of (turns_in (next ∷ older))) (clock_of (turns_in (next ∷ older))) (records_since (turns_in (next ∷ older))) (played_by (next ∷ older)) step.turn
    (steps-accepted (next ∷ older) low)

-- the maps are the same, whatever the first number
maps-same : (first : ℕ) (commands : List Command) → (scans_of first commands).maps ≡ (scans_of 0 commands).maps
maps-same first [] = refl
maps-same first (Scans library ∷ older) = ap (λ (maps : List FolderMap). library ∷ maps) (maps-same first older)
maps-same first (Grants moment callback seconds ∷ older) = maps-same first older
maps-same first (Renews moment name seconds ∷ older) = maps-same first older
maps-same first (Ends moment name ∷ older) = maps-same first older
maps-same first (Stops ∷ older) = maps-same first older
maps-same first (Ticks moment ∷ older) = maps-same first older

token-plain : IsPlainText script_token
token-plain = record { allowed = allowed-plain script_token refl; short = omega arith }

-- so what the server has is plain
pub moment-plain : (steps : List ReplayStep) → first_of (turns_in steps) ≤ 4294967295 → AllByRecursion IsInRange (turns_in steps) → IsPlainMoment (moment_by steps)
moment-plain steps low all =
    subst IsPlainMoment (ap (λ (h : History). record { token = script_token; number = end_of h; rows = catalog h }) (sym history))
    (histories-are-plain script_token first has.scans token-plain has.plain has.good (at (steps-accepted steps low).numbers))
  where
    first : ℕ
    first = first_of (turns_in steps)

    commands : List Command
    commands = (played_by steps).commands

    has : HasPlainScans commands
    has = steps-plain steps all

    history : scans_of first commands ≡ record { first = first; maps = map map_of has.scans }
    history = scans-first first commands ∙ ap (λ (maps : List FolderMap). record { first = first; maps = maps }) (maps-same first commands ∙ has.are)

    at : end_of (scans_of first commands) ≤ 4294967295 → end_of (record { first = first; maps = map map_of has.scans }) < 2 ^ 32
    at number = subst (λ (h : History). end_of h < 4294967296) history (omega (arith, number))

all-fit : (steps : List ReplayStep) → AllStandBy steps → AllByRecursion IsInRange (turns_in steps)
all-fit [] stand = tt
all-fit (step ∷ older) stand = (stand.1, all-fit older stand.3)

pub may-plain : (steps : List ReplayStep) → MayBeBy steps → IsPlainMoment (moment_by steps)
may-plain steps may = moment-plain steps may.number (all-fit steps may.stand)
