-- Laws of exchanges.
use Rattle.std.specs.Prelude.{◌<◌, ◌^◌, map, ◌≡◌, ◌≤◌, ◌+◌, ◌*◌, ℕ, Bool, IsTrue, Option, None, List, ◌++◌, length, codes}
use Rattle.std.specs.List.{AllByRecursion}
use Rattle.url.specs.Parts.{Parts}
use Rattle.cds_object.specs.Object.{ObjectRow}
use Rattle.cds_object.specs.declared.record.Record.{Record}
use Rattle.cds_catalog.specs.History.{end_of}
use Rattle.cds_catalog.specs.Scans.{bad_record}
use Rattle.cds_didl.specs.Plain.{IsPlainText, history_of, ArePlainRecords}
use Rattle.cds_soap.specs.Names.{name_of_action, IsVersion}
use Rattle.cds_soap.specs.Written.{host_in, answer_body, written_action, written_answer, CanBeToken}
use Rattle.cds_soap.specs.Laws.{is_host, AreRequest}
use Rattle.cds_load.specs.declared.exchange.Ask.{Ask}
use Rattle.cds_load.specs.declared.exchange.Shown.{Shown}
use Rattle.cds_load.specs.declared.exchange.Shown.TheVariants.{Page}
use Rattle.cds_load.specs.Server.{Moment, moment_at, reply_to}
use Rattle.cds_exchange.specs.Asking.{action_of}
use Rattle.cds_exchange.specs.Readings.{ReadsAs, IsReading}
use Rattle.cds_exchange.specs.Honest.{answer_saying, IsBase, CanBeShownTo, IsPlainMoment, IsInRange}

-- Bytes show at most one thing to an ask, so what is read of them is one.
abbrev pub OneReading : Type 0
OneReading = (ask : Ask) (bytes : List ℕ) (one other : Shown) → ReadsAs ask bytes one → ReadsAs ask bytes other → one ≡ other

abbrev pub ReadingsAreOne : Type 0
ReadingsAreOne = (ask : Ask) (bytes : List ℕ) (one other : Option Shown) → IsReading ask bytes one → IsReading ask bytes other → one ≡ other

-- The request of an ask, and after it anything, is read as the action of the ask in version 4. The address must have
-- the path `/control`, no query, and a host and port in the form of HOST.
abbrev pub AsksAreRead : Type 0
AsksAreRead =
    (ask : Ask) (url : Parts) (more : List ℕ) (ended : Bool) → IsInRange ask → url.path ≡ codes "/control" → url.query ≡ None
    → IsTrue (is_host (host_in url)) → AreRequest ended (written_action (action_of ask) url ++ more) (action_of ask) url more

-- A HOST in its form makes a base.
abbrev pub HostsMakeBases : Type 0
HostsMakeBases = (host : List ℕ) → IsTrue (is_host host) → IsBase (codes "http://" ++ host)

-- How long pages are. Each plain row takes at most 14,000 bytes in a body, in which its text is escaped once more. All
-- that is around the rows takes 2,048.
abbrev pub page_bound : ℕ → ℕ
page_bound rows = 2048 + rows * 14000

-- So the body of 256 rows has at most 3,586,048 bytes. The body of the greatest page, of 4,096 rows, has at most
-- 57,346,048, fewer than a document may have.
abbrev pub PagesAreShort : Type 0
PagesAreShort =
    (ask : Ask) (base : List ℕ) (version : ℕ) (rows : List ObjectRow) (total update : ℕ) → IsVersion version → IsBase base
    → CanBeShownTo ask (Page rows total update)
    → length (answer_body (name_of_action (action_of ask)) version (answer_saying base (Page rows total update))) ≤ page_bound (length rows)

-- What an honest server writes of what it may show is read as that, whatever comes after it. This holds in each
-- version, and with each token in its field or none.
abbrev pub HonestRepliesAreRead : Type 0
HonestRepliesAreRead =
    (ask : Ask) (base : List ℕ) (version : ℕ) (shown : Shown) (token : Option (List ℕ)) (more : List ℕ) → IsVersion version → IsBase base
    → CanBeShownTo ask shown → CanBeToken token
    → ReadsAs ask (written_answer (action_of ask) version (answer_saying base shown) token ++ more) shown

-- What a server has at a moment may be shown to any ask, if all of it is plain.
abbrev pub MomentsCanBeShown : Type 0
MomentsCanBeShown = (moment : Moment) (ask : Ask) → IsPlainMoment moment → CanBeShownTo ask (reply_to moment ask)

-- What a server has after scans of plain records is plain, if none of them is refused and the number has 32 bits.
abbrev pub HistoriesArePlain : Type 0
HistoriesArePlain =
    (token : List ℕ) (first : ℕ) (scans : List (List Record)) → IsPlainText token → AllByRecursion ArePlainRecords scans
    → AllByRecursion (λ records. bad_record records ≡ None) scans → end_of (history_of first scans) < 2 ^ 32
    → IsPlainMoment (moment_at token (history_of first scans))
