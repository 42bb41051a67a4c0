-- Scans one after another: what the counts of a scanner say of them.
use Rattle.std.proofs.Common.{◌≡◌, ◌≢◌, inl, inr, ℕ, Bool, true, false, true≢false, ◌+◌, ◌-◌, ◌^◌, ◌<◌, ◌≤◌, min, List, [], ◌∷◌, ◌++◌, length, suc, Option, Result, Ok, Err, IfErr, IsTrue, OnOk, refl, sym, ap, subst, ◌∙◌, append_assoc, arith, le_trans}
use Rattle.std.proofs.Math.Nat.{le-min}
use Rattle.std.specs.List.{AllByRecursion}
use Rattle.cds_outside.specs.declared.folder.Entry.{Entry}
use Rattle.cds_outside.specs.Entries.{Contents, FolderTold}
use Rattle.cds_outside.specs.Outside.{Rose, raised}
use Rattle.cds_catalog.specs.Library.{map_of}
use Rattle.cds_catalog.specs.Scans.{Accepted, BadRecord, NoNumbers, ScanAnswer, TooMany, scan_answer}
use Rattle.cds_commands.specs.Commands.{Command, Start, Scans, is_stopped, scans_of}
use Rattle.cds_scan.specs.Scanning.{Covers, IsScan, IsStop}
use Rattle.cds_scan.specs.declared.error.ScanError.{ScanError}
use Rattle.cds_scan.specs.declared.error.ScanError.TheVariants as scan_error
use Rattle.cds_scan.specs.declared.scanned.Scan.{Scan}
use Rattle.cds_store.specs.declared.error.ApplyError.{ApplyError}
use Rattle.cds_store.specs.declared.error.ApplyError.TheVariants as apply_error
use Rattle.cds_turn.specs.Line.{Extends}
use Rattle.cds_server.specs.Serving.{Serving, StandsFor}
use Rattle.cds_server.specs.Taking.{unfailing}
use Rattle.cds_serve.specs.Counted.{counted}
use Rattle.cds_serve.specs.Jobs.{AddsScans, AreAccepted, CanRefuse, EndsScanning, IsUnacceptable, ScansSoFar, StandAmong}
use Rattle.cds_serve.specs.Scanned.{Across, Accepts, IsApplyRefusal, IsScanRefusal, MayGive, ScansOnce}
use Rattle.cds_serve.specs.Served.{CanBeClosed}
use Rattle.cds_turn.specs.Turn.{SeatTold}
use Rattle.cds_serve.specs.declared.scanner.Counts.{Counts}
use Rattle.cds_serve.specs.declared.scanning.ScanRefused.{ScanRefused}
use Rattle.cds_serve.specs.declared.scanning.ScanRefused.TheVariants as refused
use Rattle.cds_serve.proofs.Looks.{begun-through}

-- ---- counts of faults

pub rose-on : (old mid new : ℕ) → old ≤ mid → Rose mid new → Rose old new
rose-on old mid new up (inl less) = inl (omega (arith, up, less))
rose-on old mid new up (inr last) = inr last

pub rose-more : (old mid new : ℕ) → Rose old mid → mid ≤ new → Rose old new
rose-more old mid new (inl less) up = inl (omega (arith, up, less))
rose-more old mid new (inr last) up = inr (le_trans last up)

covers-on : (n old mid new : ℕ) → old ≤ mid → Covers n mid new → Covers n old new
covers-on n old mid new up (inl less) = inl (omega (arith, up, less))
covers-on n old mid new up (inr last) = inr last

covers-more : (n old mid new : ℕ) → Covers n old mid → mid ≤ new → Covers n old new
covers-more n old mid new (inl less) up = inl (omega (arith, up, less))
covers-more n old mid new (inr last) up = inr (le_trans last up)

-- a stop with other counts of faults of files, which cover as much
stop-over : (tree : Option (List Entry)) (contents : Option Contents) (before now from to : ℕ) (error : ScanError) → ((n : ℕ) → Covers n before now → Covers n from to)
    → IsStop tree contents before now error → IsStop tree contents from to error
stop-over tree contents before now from to error covers stop = record {
  seen = stop.seen;
  outcomes = stop.outcomes;
  at = stop.at;
  told = stop.told;
  through = stop.through;
  unread = covers _ stop.unread;
  stops = stop.stops;
}

-- ---- which scans stand among commands

among-more : (scans : List Scan) (more since : List Command) → StandAmong scans since → StandAmong scans (more ++ since)
among-more [] more since stand = tt
among-more (scan ∷ scans) [] since stand = stand
among-more (scan ∷ scans) (command ∷ more) since stand = inr (among-more (scan ∷ scans) more since stand)

-- what was accepted of a folder may be of it later too
all-later : (P Q : Scan → Type 0) → ((scan : Scan) → P scan → Q scan) → (scans : List Scan) → AllByRecursion P scans → AllByRecursion Q scans
all-later P Q f [] all = tt
all-later P Q f (scan ∷ scans) all = (f scan all.0, all-later P Q f scans all.1)

-- with more that was seen, and nothing more by the only seat, of a folder that may give the same
accepted-later : (p q seats : ℕ) (old mid new : FolderTold) (before seen later : List Command) (accepted : ℕ) → ((scan : Scan) → MayGive old mid scan → MayGive old new scan)
    → q ≡ p → (p ≡ seats → later ≡ seen) → Extends later seen → AreAccepted p seats old mid before seen accepted
    → AreAccepted q seats old new before later accepted
accepted-later p q seats old mid new before seen later accepted gives passes same more a = record {
  scans = a.scans;
  many = a.many;
  given = all-later (MayGive old mid) (MayGive old new) gives a.scans a.given;
  since = more.0 ++ a.since;
  begun = more.1 ∙ ap (λ l. more.0 ++ l) a.begun ∙ sym (append_assoc more.0 a.since before);
  stand = among-more a.scans more.0 a.since a.stand;
  alone = λ only. same (sym passes ∙ only) ∙ a.alone (sym passes ∙ only);
}

-- one scan more was accepted
accepted-once : (passes seats : ℕ) (old new : FolderTold) (before found seen : List Command) (accepted more : ℕ) (scan : Scan) → more ≡ raised accepted 1
    → seen ≡ Scans (map_of scan.records) ∷ found → MayGive old new scan → AreAccepted passes seats old new before found accepted
    → AreAccepted passes seats old new before seen more
accepted-once passes seats old new before found seen accepted more scan counted is given a = record {
  scans = scan ∷ a.scans;
  many = one-up accepted more (length a.scans) (2 ^ 64 - 1) counted a.many;
  given = (given, a.given);
  since = Scans (map_of scan.records) ∷ a.since;
  begun = is ∙ ap (λ l. Scans (map_of scan.records) ∷ l) a.begun;
  stand = inl (refl, a.stand);
  alone = λ only. is ∙ ap (λ l. Scans (map_of scan.records) ∷ l) (a.alone only);
}
  where
    one-up : (accepted more n top : ℕ) → more ≡ min (accepted + 1) top → accepted ≡ min (0 + n) top → more ≡ min (0 + suc n) top
    one-up accepted more n top counted many = omega (arith, counted, many)

pub extends-itself : (seen list : List Command) → list ≡ seen → Extends list seen
extends-itself seen list same = ([], same)

-- whether an answer accepts a scan
abbrev accepts : ScanAnswer → Bool
accepts Accepted = true
accepts (BadRecord line) = false
accepts (TooMany objects) = false
accepts (NoNumbers needed) = false

-- ---- one scan more

module _ (start : Start) (told old new : FolderTold) (tree : new.tree ≡ old.tree) (contents : new.contents ≡ old.contents)
    (entries : old.entry_faults ≤ new.entry_faults) (files : old.file_faults ≤ new.file_faults) (tree_told : old.tree ≡ told.tree)
    (contents_told : old.contents ≡ told.contents) (entries_told : told.entry_faults ≤ old.entry_faults)
    (files_told : told.file_faults ≤ old.file_faults) where
  -- a cause stays one
  gives-later : (scan : Scan) → MayGive told old scan → MayGive told new scan
  gives-later scan given = record { found = given.found; unread = covers-more _ told.file_faults old.file_faults new.file_faults given.unread files }

  still-unacceptable : (seen later : List Command) → Extends later seen → IsUnacceptable start told old seen → IsUnacceptable start told new later
  still-unacceptable seen later more u = record {
    scan = u.scan;
    given = gives-later u.scan u.given;
    older = u.older;
    begun = begun-through later seen u.older more u.begun;
    refused = u.refused;
  }

  still-refuses : (seen later : List Command) → Extends later seen → CanRefuse start told old seen → CanRefuse start told new later
  still-refuses seen later more (inl rose) = inl (rose-more told.entry_faults old.entry_faults new.entry_faults rose entries)
  still-refuses seen later more (inr (inl stop)) = inr (inl (
    stop.0,
    stop-over told.tree told.contents told.file_faults old.file_faults told.file_faults new.file_faults stop.0
        (λ n covers. covers-more n told.file_faults old.file_faults new.file_faults covers files) stop.1,
  ))
  still-refuses seen later more (inr (inr u)) = inr (inr (still-unacceptable seen later more u))

  -- what a scan gave now, or why it was refused, is of the folder as it was told
  stop-told : (error : ScanError) → IsStop old.tree old.contents old.file_faults new.file_faults error → IsStop told.tree told.contents told.file_faults new.file_faults error
  stop-told error stop =
      stop-over told.tree told.contents old.file_faults new.file_faults told.file_faults new.file_faults error
      (λ n covers. covers-on n told.file_faults old.file_faults new.file_faults files_told covers)
      (subst (λ k. IsStop told.tree k old.file_faults new.file_faults error) contents_told (subst (λ t. IsStop t old.contents old.file_faults new.file_faults error) tree_told stop))

  scan-told : (scan : Scan) → IsScan old.tree old.contents scan → IsScan told.tree told.contents scan
  scan-told scan is = subst (λ k. IsScan told.tree k scan) contents_told (subst (λ t. IsScan t old.contents scan) tree_told is)

  gives-told : (scan : Scan) → MayGive old new scan → MayGive told new scan
  gives-told scan given = record {
    found = scan-told scan given.found;
    unread = covers-on _ told.file_faults old.file_faults new.file_faults files_told given.unread;
  }

  scan-refuses : (later : List Command) (error : ScanError) → IsScanRefusal old new error → CanRefuse start told new later
  scan-refuses later scan_error.FolderFault rose = inl (rose-on told.entry_faults old.entry_faults new.entry_faults entries_told rose)
  scan-refuses later (scan_error.TooDeep bytes) stop = inr (inl (scan_error.TooDeep bytes, stop-told (scan_error.TooDeep bytes) stop))
  scan-refuses later (scan_error.Full objects) stop = inr (inl (scan_error.Full objects, stop-told (scan_error.Full objects) stop))
  scan-refuses later scan_error.TooMany stop = inr (inl (scan_error.TooMany, stop-told scan_error.TooMany stop))
  scan-refuses later scan_error.Mem none = absurd none

  not-accepted : (found : List Command) (scan : Scan) (error : ApplyError) → IsApplyRefusal start found scan error
      → scan_answer (scans_of start.first found) scan.records ≢ Accepted
  not-accepted found scan (apply_error.BadRecords line) none = absurd none
  not-accepted found scan (apply_error.Full objects) is = λ accepted. true≢false (sym (ap accepts accepted) ∙ ap accepts is)
  not-accepted found scan (apply_error.Spent needed) is = λ accepted. true≢false (sym (ap accepts accepted) ∙ ap accepts is)
  not-accepted found scan apply_error.Mem none = absurd none

  server-refuses : (later found : List Command) (scan : Scan) (error : ApplyError) → MayGive old new scan → IsApplyRefusal start found scan error
      → Extends later found → CanRefuse start told new later
  server-refuses later found scan error given is more = inr (inr (record {
    scan = scan;
    given = gives-told scan given;
    older = found;
    begun = more;
    refused = not-accepted found scan error is;
  }))

  -- so far with what a scan adds
  with-scan : (passes seats : ℕ) (first seen later : List Command) (accepted refused accepted' refused' : ℕ)
      → ScansSoFar start passes seats told old first seen accepted refused → Extends later seen → AreAccepted passes seats told new first later accepted'
      → (0 < refused' → CanRefuse start told new later) → ScansSoFar start passes seats told new first later accepted' refused'
  with-scan passes seats first seen later accepted refused accepted' refused' s more stands cause = record {
    begun = begun-through later seen first more s.begun;
    stands = stands;
    cause = cause;
    tree = tree ∙ s.tree;
    contents = contents ∙ s.contents;
    entry_faults = le_trans s.entry_faults entries;
    file_faults = le_trans s.file_faults files;
  }

raised-some : (n : ℕ) → 1 ≤ raised n 1
raised-some n = le-min (omega arith) (omega arith)

-- what a scan makes of what was so far, by how it ended
module _ (start : Start) (told : FolderTold) (first : List Command) (before now : ℕ) (old new : Across) (a b : Counts)
    (tree : new.folder.tree ≡ old.folder.tree) (contents : new.folder.contents ≡ old.folder.contents)
    (entries : old.folder.entry_faults ≤ new.folder.entry_faults) (files : old.folder.file_faults ≤ new.folder.file_faults)
    (s : ScansSoFar start old.seat.passes old.seat.seats told old.folder first old.seat.seen a.accepted a.refused)
    (Closes : List Command → Type 0) (unclosed : (found : List Command) → Closes found → ⊥) where
  same-cause : Extends new.seat.seen old.seat.seen → b.refused ≡ a.refused → 0 < b.refused → CanRefuse start told new.folder new.seat.seen
  same-cause more same some =
      still-refuses start told old.folder new.folder tree contents entries files s.tree s.contents s.entry_faults s.file_faults
      old.seat.seen new.seat.seen more (s.cause (subst (λ n. 0 < n) same some))

  still-gives : (scan : Scan) → MayGive told old.folder scan → MayGive told new.folder scan
  still-gives scan given =
      gives-later start told old.folder new.folder tree contents entries files s.tree s.contents s.entry_faults s.file_faults scan given

  so-far-accepted : Accepts start before now old new → b ≡ record a { accepted = raised a.accepted 1 }
      → ScansSoFar start old.seat.passes old.seat.seats told new.folder first new.seat.seen b.accepted b.refused
  so-far-accepted c is =
      let seen : new.seat.seen ≡ Scans (map_of c.scan.records) ∷ c.found = ap (λ (t : SeatTold Command). t.seen) c.turn.seat in
      let more : Extends new.seat.seen old.seat.seen =
      (Scans (map_of c.scan.records) ∷ c.turn.begun.0, seen ∙ ap (λ l. Scans (map_of c.scan.records) ∷ l) c.turn.begun.1) in
      let begun : Extends c.found old.seat.seen = c.turn.begun in
      with-scan start told old.folder new.folder tree contents entries files s.tree s.contents s.entry_faults s.file_faults
      old.seat.passes old.seat.seats first old.seat.seen new.seat.seen a.accepted a.refused b.accepted b.refused s more
      (accepted-once old.seat.passes old.seat.seats told new.folder first c.found new.seat.seen a.accepted b.accepted c.scan (ap (λ (k : Counts). k.accepted) is) seen
      (gives-told start told old.folder new.folder tree contents entries files s.tree s.contents s.entry_faults s.file_faults c.scan c.given)
      (accepted-later old.seat.passes old.seat.passes old.seat.seats told old.folder new.folder first old.seat.seen c.found a.accepted still-gives refl
      c.turn.alone begun s.stands))
      (same-cause more (ap (λ (k : Counts). k.refused) is))

  -- it begins with what was seen, and is just that where no other seat is out, and no scan is counted as accepted
  so-far-more : (old.seat.passes ≡ old.seat.seats → new.seat.seen ≡ old.seat.seen) → Extends new.seat.seen old.seat.seen → b.accepted ≡ a.accepted → (0 < b.refused → CanRefuse start told new.folder new.seat.seen)
      → ScansSoFar start old.seat.passes old.seat.seats told new.folder first new.seat.seen b.accepted b.refused
  so-far-more only more accepted cause =
      with-scan start told old.folder new.folder tree contents entries files s.tree s.contents s.entry_faults s.file_faults
      old.seat.passes old.seat.seats first old.seat.seen new.seat.seen a.accepted a.refused b.accepted b.refused s more
      (subst (λ n. AreAccepted old.seat.passes old.seat.seats told new.folder first new.seat.seen n) (sym accepted)
      (accepted-later old.seat.passes old.seat.passes old.seat.seats told old.folder new.folder first old.seat.seen new.seat.seen a.accepted still-gives refl
      only more s.stands)) cause

  -- what was seen is the same
  so-far-same : new.seat.seen ≡ old.seat.seen → b.accepted ≡ a.accepted → (0 < b.refused → CanRefuse start told new.folder new.seat.seen)
      → ScansSoFar start old.seat.passes old.seat.seats told new.folder first new.seat.seen b.accepted b.refused
  so-far-same seen accepted cause = so-far-more (λ only. seen) (extends-itself old.seat.seen new.seat.seen seen) accepted cause

  pub one-more : {A : Type 0} (result : Result A ScanRefused) → ScansOnce Closes start result before now old new
      → OnOk result (b ≡ record a { accepted = raised a.accepted 1 }) → IfErr result (λ refusal. b ≡ counted a refusal)
      → ScansSoFar start old.seat.passes old.seat.seats told new.folder first new.seat.seen b.accepted b.refused
  one-more (Ok value) c is none = so-far-accepted c is
  one-more (Err (refused.Scan error)) c none is =
      so-far-same (ap (λ (t : SeatTold Command). t.seen) c.1.0) (ap (λ (k : Counts). k.accepted) is)
      (λ some. scan-refuses start told old.folder new.folder tree contents entries files s.tree s.contents s.entry_faults s.file_faults
      new.seat.seen error c.0)
  one-more (Err (refused.Apply error)) c none is =
      let seen : new.seat.seen ≡ c.found = ap (λ (t : SeatTold Command). t.seen) c.turn.seat in
      so-far-more (λ only. seen ∙ c.turn.alone only) (subst (λ l. Extends l old.seat.seen) (sym seen) c.turn.begun) (ap (λ (k : Counts). k.accepted) is)
      (λ some. server-refuses start told old.folder new.folder tree contents entries files s.tree s.contents s.entry_faults s.file_faults
      new.seat.seen c.found c.scan error c.given c.refused (extends-itself c.found new.seat.seen seen))
  one-more (Err refused.Keeper) c none is = absurd (unclosed c.0 c.1)
  one-more (Err refused.Mem) (inl none-taken) none is =
      let seen : new.seat.seen ≡ old.seat.seen = ap (λ (t : SeatTold Command). t.seen) none-taken.0 in
      so-far-same seen (ap (λ (k : Counts). k.accepted) is) (same-cause (extends-itself old.seat.seen new.seat.seen seen) (ap (λ (k : Counts). k.refused) is))
  one-more (Err refused.Mem) (inr taken) none is =
      let seen : new.seat.seen ≡ taken.0 = ap (λ (t : SeatTold Command). t.seen) taken.1.seat in
      let more : Extends new.seat.seen old.seat.seen = subst (λ l. Extends l old.seat.seen) (sym seen) taken.1.begun in
      so-far-more (λ only. seen ∙ taken.1.alone only) more (ap (λ (k : Counts). k.accepted) is) (same-cause more (ap (λ (k : Counts). k.refused) is))

-- a scan leaves the passes of its seat
pub scans-passes : {A : Type 0} (Closes : List Command → Type 0) (start : Start) (result : Result A ScanRefused) (before now : ℕ) (old new : Across) → ScansOnce Closes start result before now old new
    → new.seat.passes ≡ old.seat.passes
scans-passes Closes start (Ok value) before now old new c = ap (λ (t : SeatTold Command). t.passes) c.turn.seat
scans-passes Closes start (Err (refused.Scan error)) before now old new c = ap (λ (t : SeatTold Command). t.passes) c.1.0
scans-passes Closes start (Err (refused.Apply error)) before now old new c = ap (λ (t : SeatTold Command). t.passes) c.turn.seat
scans-passes Closes start (Err refused.Keeper) before now old new c = ap (λ (t : SeatTold Command). t.passes) c.2.seat
scans-passes Closes start (Err refused.Mem) before now old new (inl none) = ap (λ (t : SeatTold Command). t.passes) none.0
scans-passes Closes start (Err refused.Mem) before now old new (inr taken) = ap (λ (t : SeatTold Command). t.passes) taken.1.seat

-- the same scans, and as many counted as accepted
pub same-scans : (first own own' : List Command) (a b : Counts) → own' ≡ own → b.accepted ≡ a.accepted → AddsScans a.accepted first own → AddsScans b.accepted first own'
same-scans first own own' a b same counted s = (s.0, counted ∙ s.1, same ∙ s.2)

-- a scan adds its map to the own commands of its seat, or nothing
pub scans-own : {A : Type 0} (Closes : List Command → Type 0) (start : Start) (result : Result A ScanRefused) (before now : ℕ) (old new : Across) (a b : Counts) → ScansOnce Closes start result before now old new
    → OnOk result (b ≡ record a { accepted = raised a.accepted 1 }) → IfErr result (λ refusal. b ≡ counted a refusal)
    → (first : List Command) → AddsScans a.accepted first old.seat.own → AddsScans b.accepted first new.seat.own
scans-own Closes start (Ok value) before now old new a b c is none first s = (
  map_of c.scan.records ∷ s.0,
  one-up a.accepted b.accepted (length s.0) (2 ^ 64 - 1) (ap (λ (k : Counts). k.accepted) is) s.1,
  ap (λ (t : SeatTold Command). t.own) c.turn.seat ∙ ap (λ (z : List Command). Scans (map_of c.scan.records) ∷ z) s.2,
)
  where
    one-up : (accepted more n top : ℕ) → more ≡ min (accepted + 1) top → accepted ≡ min (0 + n) top → more ≡ min (0 + suc n) top
    one-up accepted more n top counted many = omega (arith, counted, many)
scans-own Closes start (Err (refused.Scan error)) before now old new a b c none is first s =
    same-scans first _ _ a b (ap (λ (t : SeatTold Command). t.own) c.1.0) (ap (λ (k : Counts). k.accepted) is) s
scans-own Closes start (Err (refused.Apply error)) before now old new a b c none is first s =
    same-scans first _ _ a b (ap (λ (t : SeatTold Command). t.own) c.turn.seat) (ap (λ (k : Counts). k.accepted) is) s
scans-own Closes start (Err refused.Keeper) before now old new a b c none is first s =
    same-scans first _ _ a b (ap (λ (t : SeatTold Command). t.own) c.2.seat) (ap (λ (k : Counts). k.accepted) is) s
scans-own Closes start (Err refused.Mem) before now old new a b (inl untaken) none is first s =
    same-scans first _ _ a b (ap (λ (t : SeatTold Command). t.own) untaken.0) (ap (λ (k : Counts). k.accepted) is) s
scans-own Closes start (Err refused.Mem) before now old new a b (inr taken) none is first s =
    same-scans first _ _ a b (ap (λ (t : SeatTold Command). t.own) taken.1.seat) (ap (λ (k : Counts). k.accepted) is) s

-- each scan is counted
pub some-counted : {A : Type 0} (result : Result A ScanRefused) (a b : Counts) → OnOk result (b ≡ record a { accepted = raised a.accepted 1 })
    → IfErr result (λ refusal. b ≡ counted a refusal) → 1 ≤ b.accepted + b.refused + b.memory
some-counted (Ok value) a b is none =
    let one : 1 ≤ b.accepted = subst (λ n. 1 ≤ n) (sym (ap (λ (k : Counts). k.accepted) is)) (raised-some a.accepted) in
    omega (arith, one)
some-counted (Err (refused.Scan error)) a b none is =
    let one : 1 ≤ b.refused = subst (λ n. 1 ≤ n) (sym (ap (λ (k : Counts). k.refused) is)) (raised-some a.refused) in
    omega (arith, one)
some-counted (Err (refused.Apply error)) a b none is =
    let one : 1 ≤ b.refused = subst (λ n. 1 ≤ n) (sym (ap (λ (k : Counts). k.refused) is)) (raised-some a.refused) in
    omega (arith, one)
some-counted (Err refused.Keeper) a b none is =
    let one : 1 ≤ b.refused = subst (λ n. 1 ≤ n) (sym (ap (λ (k : Counts). k.refused) is)) (raised-some a.refused) in
    omega (arith, one)
some-counted (Err refused.Mem) a b none is =
    let one : 1 ≤ b.memory = subst (λ n. 1 ≤ n) (sym (ap (λ (k : Counts). k.memory) is)) (raised-some a.memory) in
    omega (arith, one)

-- ---- before the first scan and after the last

pub so-far-none : (start : Start) (passes seats : ℕ) (told : FolderTold) (first : List Command) → ScansSoFar start passes seats told told first first 0 0
so-far-none start passes seats told first = record {
  begun = ([], refl);
  stands = record { scans = []; many = none; given = tt; since = []; begun = refl; stand = tt; alone = λ only. refl };
  cause = λ some. absurd (omega (arith, some));
  tree = refl;
  contents = refl;
  entry_faults = omega arith;
  file_faults = omega arith;
}
  where
    none : 0 ≡ raised 0 0
    none = omega arith

-- so far with what was seen later, which is nothing where no other seat is out
pub so-far-later : (start : Start) (p q seats : ℕ) (told new : FolderTold) (first seen later : List Command) (accepted refused : ℕ)
    → q ≡ p → (p ≡ seats → later ≡ seen) → ScansSoFar start p seats told new first seen accepted refused → Extends later seen
    → ScansSoFar start q seats told new first later accepted refused
so-far-later start p q seats told new first seen later accepted refused passes same s more =
    record {
      begun = begun-through later seen first more s.begun;
      stands = accepted-later p q seats told new new first seen later accepted (λ scan given. given) passes same more s.stands;
      cause = λ some. later-refuses (s.cause some);
      tree = s.tree;
      contents = s.contents;
      entry_faults = s.entry_faults;
      file_faults = s.file_faults;
    }
  where
    later-refuses : CanRefuse start told new seen → CanRefuse start told new later
    later-refuses (inl rose) = inl rose
    later-refuses (inr (inl stop)) = inr (inl stop)
    later-refuses (inr (inr u)) = inr (inr (record {
      scan = u.scan;
      given = u.given;
      older = u.older;
      begun = begun-through later seen u.older more u.begun;
      refused = u.refused;
    }))

pub ends-scanning : (start : Start) (passes seats : ℕ) (told new : FolderTold) (first seen : List Command) (accepted refused memory : ℕ)
    → ScansSoFar start passes seats told new first seen accepted refused → IsTrue (is_stopped seen) → 1 ≤ accepted + refused + memory
    → EndsScanning start passes seats told new first seen accepted refused memory
ends-scanning start passes seats told new first seen accepted refused memory s stopped some = record {
  begun = s.begun;
  stands = s.stands;
  stopped = stopped;
  some = some;
  cause = s.cause;
}

-- a turn that appends nothing
pub read-later : (new old : List Command) (found : List Command) (first : List Command) → new ≡ [] ++ found → Extends found old → Extends old first
    → Extends new first
read-later new old found first is more begun = begun-through new old first (subst (λ l. Extends l old) (sym is) more) begun

-- a server that keeps nothing outside is never closed
pub never-closed : (start : Start) (found : List Command) → CanBeClosed (λ (serving : Serving). unfailing) StandsFor start found → ⊥
never-closed start found closed = absurd (true≢false (sym closed.1))
