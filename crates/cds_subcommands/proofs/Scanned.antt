-- What a scan found, put into a store, and given back.
use Rattle.std.proofs.Common.{◌≡◌, ◌⊎◌, inl, inr, ℕ, suc, ◌+◌, ◌<◌, ◌≤◌, ◌^◌, min, Bool, true, false, cond, nat_lt, List, [], ◌∷◌, ◌++◌, length, map, reverse, Option, Some, None, Result, Ok, Err, IfOk, IfErr, Less, Equal, Greater, refl, sym, ap, ◌∙◌, subst, true≢false, length-append, append_assoc, append-nil, take, slice_get, get_or, arith, ◌-◌}
use Rattle.std.specs.List.{filter_map, cons_option, count_by, flat_map}
use Rattle.std.specs.BTreeMap.{insert_entry}
use Rattle.std.specs.Ordering.{match_ordering}
use Rattle.std.proofs.lemmas.Bool.{cond-false}
use Rattle.std.proofs.lemmas.Bool.Decides.{nat_tests}
use Rattle.std.proofs.lemmas.Grind.{flat_map-append}
use Rattle.std.proofs.lemmas.List.{length-map, length-reverse, take_all, take_more}
use Rattle.std.proofs.lemmas.Option.{slice_get_cases}
use Rattle.cds_outside.specs.Entries.{Contents, FolderTold}
use Rattle.cds_outside.specs.Outside.{Told, raised, Rose}
use Rattle.cds_outside.specs.declared.folder.Entry.{Entry}
use Rattle.cds_object.specs.Fragment.{fragment, full_text}
use Rattle.cds_object.specs.Object.{ObjectRow}
use Rattle.cds_object.specs.Path.{path_cmp}
use Rattle.cds_object.specs.declared.content.Content.{Content}
use Rattle.cds_object.specs.declared.record.Record.{Record}
use Rattle.cds_catalog.specs.Catalog.{PlacedRow, catalog}
use Rattle.cds_catalog.specs.Library.{FolderMap, arrival, found, map_from, map_of}
use Rattle.cds_catalog.specs.Scans.{Accepted, BadRecord, NoNumbers, ScanAnswer, TooMany, answer_by, bad_record, needed_by, scan_answer}
use Rattle.cds_catalog.specs.declared.change.Change.{Change}
use Rattle.cds_catalog.proofs.Accepted.{accepted_map}
use Rattle.cds_script.specs.Report.{Ending, limit_ending}
use Rattle.cds_script.specs.Word.{encoded, encoded_byte}
use Rattle.cds_store.specs.Applied.{Applied}
use Rattle.cds_store.specs.Rows.{rows_of}
use Rattle.cds_store.specs.Stands.{Stored, StandsFor, no_scans}
use Rattle.cds_store.specs.declared.error.ApplyError.{ApplyError}
use Rattle.cds_store.specs.declared.error.ApplyError.TheVariants.{BadRecords, Full as FullStore, Spent, Mem as NoMemory}
use Rattle.cds_store.specs.declared.span.Span.{Span}
use Rattle.cds_scan.specs.Found.{placed}
use Rattle.cds_scan.specs.Outcomes.{records_of}
use Rattle.cds_scan.specs.Scanning.{CameBack, Covers, IsRefused, IsScan, IsStop, climbed, is_read_fault}
use Rattle.cds_scan.specs.declared.error.ScanError.{ScanError}
use Rattle.cds_scan.specs.declared.error.ScanError.TheVariants.{FolderFault, TooDeep, Full, TooMany as ManyEntries, Mem}
use Rattle.cds_scan.specs.declared.scanned.RefusedFile.{RefusedFile}
use Rattle.cds_scan.specs.declared.scanned.Scan.{Scan}
use Rattle.cds_subcommands.specs.Found.{CanStand, EndsFound, ReturnsDone, WritesFound, line_of}
use Rattle.cds_subcommands.specs.Run.{Ends, IsFault, Writes}
use Rattle.cds_subcommands.specs.Scan.{EndsScan, IsOwed, IsStopped, IsWhole, Returns, WritesScan, one_scan, scan_ending}

-- ---- how many records there are

put_at_most : (k : List (List ℕ)) (v : Content) (es : FolderMap) → length (insert_entry path_cmp es k v) ≤ suc (length es)
put_at_most k v [] = omega arith
put_at_most k v (e ∷ es) =
    elim (path_cmp k e.0) as (λ r. length (match_ordering r ((k, v) ∷ e ∷ es) ((e.0, v) ∷ es) (e ∷ insert_entry path_cmp es k v)) ≤ suc (suc (length es))) [
      | Less ↦ (omega arith)
      | Equal ↦ (omega arith)
      | Greater ↦ (let h = put_at_most k v es in omega (arith, h))
    ]

map_at_most : (library : FolderMap) (records : List Record) → length (map_from library records) ≤ length library + length records
map_at_most library [] = omega arith
map_at_most library (r ∷ records) =
    let one = put_at_most r.path r.content library in
    let others = map_at_most (insert_entry path_cmp library r.path r.content) records in
    omega (arith, one, others)

few-records : (tree : Option (List Entry)) (contents : Option Contents) (scan : Scan) → IsScan tree contents scan → length scan.records ≤ 65535
few-records tree contents scan i = bound (length scan.records) (length (placed scan.records)) (length (map_of (records_of i.outcomes))) (length (records_of i.outcomes))
    (length-map scan.records (λ (r : Record). (r.path, r.content))) (ap length i.records) (map_at_most [] (records_of i.outcomes)) i.through.room
  where
    bound : (n p m r : ℕ) → p ≡ n → p ≡ m → m ≤ 0 + r → r ≤ 65535 → n ≤ 65535
    bound n p m r same is most room = omega (arith, same, is, most, room)

pub can_stand : (found : Result Scan ScanError) (tree : Option (List Entry)) (contents : Option Contents) → IfOk found (λ scan. IsScan tree contents scan) →
    IfOk found (λ scan. bad_record scan.records ≡ None) → IfOk found CanStand
can_stand (Ok scan) tree contents is stands = (stands, few-records tree contents scan is)
can_stand (Err error) tree contents is stands = tt

-- ---- a store takes them

put_option_at_most : (o : Option Change) (changes : List Change) (n : ℕ) → length changes ≤ n → length (cons_option o changes) ≤ suc n
put_option_at_most None changes n h = omega (arith, h)
put_option_at_most (Some change) changes n h = omega (arith, h)

arrivals_at_most : (old library : FolderMap) → length (filter_map (arrival old) library) ≤ length library
arrivals_at_most old [] = omega arith
arrivals_at_most old (e ∷ es) = put_option_at_most (arrival old e) (filter_map (arrival old) es) (length es) (arrivals_at_most old es)

needed_at_most : (library : FolderMap) → length (found [] library) ≤ length library
needed_at_most library = sum (length (found [] library)) (length (reverse (filter_map (arrival []) library))) (length (filter_map (arrival []) library)) (length library)
    (length-append (reverse (filter_map (arrival []) library)) []) (length-reverse (filter_map (arrival []) library)) (arrivals_at_most [] library)
  where
    sum : (f r a l : ℕ) → f ≡ r + 0 → r ≡ a → a ≤ l → f ≤ l
    sum f r a l is same most = omega (arith, is, same, most)

not_above : (limit n : ℕ) → n ≤ limit → nat_lt limit n ≡ false
not_above limit n most = grind (arith, nat_tests)

-- the first scan of a server whose first number is 0 is accepted, where no record is bad and there are not too many
pub is-accepted : (records : List Record) → bad_record records ≡ None → length records ≤ 65535 → scan_answer (no_scans 0) records ≡ Accepted
is-accepted records good few =
    ap (answer_by (no_scans 0) records) good
    ∙ cond-false _ _ _ (not_above 65535 (length records) few)
    ∙ cond-false _ _ _ (not_above 4294967295 (0 + 0 + needed_by (no_scans 0) records) room)
  where
    room : 0 + 0 + needed_by (no_scans 0) records ≤ 4294967295
    room = small (needed_by (no_scans 0) records) (length (map_of records)) (length records) (needed_at_most (map_of records)) (accepted_map records good).1 few
      where
        small : (n m r : ℕ) → n ≤ m → m ≡ r → r ≤ 65535 → 0 + 0 + n ≤ 4294967295
        small n m r most same few = omega (arith, most, same, few)

abbrev is_accepted : ScanAnswer → Bool
is_accepted Accepted = true
is_accepted (BadRecord line) = false
is_accepted (TooMany objects) = false
is_accepted (NoNumbers needed) = false

abbrev is_no_memory : ApplyError → Bool
is_no_memory NoMemory = true
is_no_memory (BadRecords line) = false
is_no_memory (FullStore objects) = false
is_no_memory (Spent needed) = false

-- so nothing but want of memory refuses it
pub only-memory : (records : List Record) (refusal : ApplyError) (before now : Stored) → bad_record records ≡ None → length records ≤ 65535 →
    Applied (no_scans 0) records (Err refusal) before now → is_no_memory refusal ≡ true
only-memory records NoMemory before now good few applied = refl
only-memory records (BadRecords line) before now good few applied = absurd (true≢false (ap is_accepted (sym (is-accepted records good few) ∙ applied.0)))
only-memory records (FullStore objects) before now good few applied = absurd (true≢false (ap is_accepted (sym (is-accepted records good few) ∙ applied.0)))
only-memory records (Spent needed) before now good few applied = absurd (true≢false (ap is_accepted (sym (is-accepted records good few) ∙ applied.0)))

pub rows-of-one : (records : List Record) (span : Span) (before now : Stored) → Applied (no_scans 0) records (Ok span) before now →
    rows_of now.standing.rows ≡ catalog (one_scan records)
rows-of-one records span before now applied = ap (λ s. rows_of s.rows) applied.1.1

-- ---- what is written of rows

pub full_step : (rows : List ObjectRow) (at : ℕ) → full_text (take (at + 1) rows) ≡ full_text (take at rows) ++ line_of (slice_get rows at)
full_step rows at = by (slice_get_cases rows at).1
  where
    by : ((row : ObjectRow) × (at < length rows) × (slice_get rows at ≡ Some row) × (get_or rows at row ≡ row)) ⊎ ((length rows ≤ at) × (slice_get rows at ≡ None)) →
        full_text (take (at + 1) rows) ≡ full_text (take at rows) ++ line_of (slice_get rows at)
    by (inl w) =
        ap full_text (take_more rows at w.0 w.1 ∙ ap (λ r. take at rows ++ r ∷ []) w.3)
        ∙ flat_map-append (λ (r : ObjectRow). fragment r ++ 10 ∷ []) (take at rows) (w.0 ∷ [])
        ∙ ap (λ more. full_text (take at rows) ++ more) (append-nil (fragment w.0 ++ 10 ∷ []))
        ∙ ap (λ o. full_text (take at rows) ++ line_of o) (sym w.2)
    by (inr w) =
        ap full_text (take_all (at + 1) rows (more (length rows) at w.0) ∙ sym (take_all at rows w.0))
        ∙ sym (append-nil (full_text (take at rows)))
        ∙ ap (λ o. full_text (take at rows) ++ line_of o) (sym w.1)
      where
        more : (n at : ℕ) → n ≤ at → n ≤ at + 1
        more n at h = omega (arith, h)

pub full_past : (rows : List ObjectRow) (n : ℕ) → length rows ≤ n → full_text (take n rows) ≡ full_text rows
full_past rows n most = ap full_text (take_all n rows most)

pub all_rows : (rows : List PlacedRow) (n at : ℕ) → n ≡ length rows → n ≤ at → full_text (take at (rows_of rows)) ≡ full_text (rows_of rows)
all_rows rows n at is past = full_past (rows_of rows) at (long (length (rows_of rows)) (length rows) n at (length-map rows (λ (placed : PlacedRow). placed.1)) is past)
  where
    long : (m l n at : ℕ) → m ≡ l → n ≡ l → n ≤ at → m ≤ at
    long m l n at one two past = omega (arith, one, two, past)

-- ---- what is written of paths

pub encoded_each : (bytes : List ℕ) → flat_map encoded_byte bytes ≡ encoded bytes
encoded_each [] = refl
encoded_each (b ∷ bytes) = ap (λ more. encoded_byte b ++ more) (encoded_each bytes)

-- ---- a folder that comes back

pub gives_back : (before after : Option (List FolderTold)) (folder : FolderTold) (opened returned entries : ℕ) → Returns before after folder →
    opened ≡ 0 → returned ≡ 0 → entries ≡ 0 → CameBack opened folder.opened returned folder.returned → folder.entries ≤ entries + 1048577 →
    ReturnsDone before after
gives_back before after folder opened returned entries back no_opened no_returned no_entries c most =
    (folder, back, (c.1 ∙ ap (climbed c.0) (no_opened ∙ sym no_returned) ∙ sym c.2, few entries folder.entries no_entries most))
  where
    few : (old now : ℕ) → old ≡ 0 → now ≤ old + 1048577 → now ≤ 1048577
    few old now none most = omega (arith, none, most)

rose-once : (old faults now : ℕ) → Rose 0 faults → now ≡ raised old (min 1 faults) → Rose old now
rose-once old faults now (inl some) is = once old faults now (2 ^ 64 - 1) some is
  where
    once : (old faults now top : ℕ) → 0 < faults → now ≡ min (old + min 1 faults) top → (old < now) ⊎ (top ≤ now)
    once old faults now top some is = grind (arith, some, is)
rose-once old faults now (inr most) is = once old faults now (2 ^ 64 - 1) most is
  where
    once : (old faults now top : ℕ) → 2 ^ 64 - 1 ≤ faults → now ≡ min (old + min 1 faults) top → (old < now) ⊎ (top ≤ now)
    once old faults now top some is = grind (arith, some, is)

-- ---- what is owed for it

-- what a scan answered of a folder
abbrev pub IsFound : FolderTold → Result Scan ScanError → Type 0
IsFound folder (Ok scan) = IsScan folder.tree folder.contents scan × Covers (count_by (λ (file : RefusedFile). is_read_fault file.error) scan.refused) 0 folder.file_faults
IsFound folder (Err error) = IsRefused folder.tree folder.contents 0 folder.entry_faults 0 folder.file_faults error

whole : (before after : Option (List FolderTold)) (folder : FolderTold) (scan : Scan) → Returns before after folder → IsFound folder (Ok scan) →
    IsOwed before after (scan_ending scan)
whole before after folder scan back is = record {
  folder = folder;
  returned = back;
  owed = inl (record { scan = scan; found = is.0; unread = is.1; owed = refl });
}

stopped : (before after : Option (List FolderTold)) (folder : FolderTold) (error : ScanError) → Returns before after folder →
    IsStop folder.tree folder.contents 0 folder.file_faults error → IsOwed before after limit_ending
stopped before after folder error back is = record {
  folder = folder;
  returned = back;
  owed = inr (record { error = error; stop = is; owed = refl });
}

owed-ends : (before after : Option (List FolderTold)) (ending : Ending) (status : ℕ) → IsOwed before after ending → Ends status ending.status → EndsScan before after status
owed-ends before after ending status owed (inl is) = inl (ending, owed, is)
owed-ends before after ending status owed (inr fault) = inr fault

ends-scan : (before after : Option (List FolderTold)) (folder : FolderTold) (found : Result Scan ScanError) (status : ℕ) →
    Returns before after folder → IsFound folder found → EndsFound found status → EndsScan before after status
ends-scan before after folder (Ok scan) status back is ends = owed-ends before after (scan_ending scan) status (whole before after folder scan back is) ends
ends-scan before after folder (Err FolderFault) status back is ends = inr (inl ends)
ends-scan before after folder (Err Mem) status back is ends = inr (inr (inr ends))
ends-scan before after folder (Err (TooDeep bytes)) status back is ends = owed-ends before after limit_ending status (stopped before after folder (TooDeep bytes) back is) ends
ends-scan before after folder (Err (Full objects)) status back is ends = owed-ends before after limit_ending status (stopped before after folder (Full objects) back is) ends
ends-scan before after folder (Err ManyEntries) status back is ends = owed-ends before after limit_ending status (stopped before after folder ManyEntries back is) ends

owed-writes : (before after : Option (List FolderTold)) (ending : Ending) (status : ℕ) (held : List ℕ) (holds : Option (List ℕ)) →
    IsOwed before after ending → Ends status ending.status → Writes status ending.text held holds → WritesScan before after status held holds
owed-writes before after ending status held holds owed (inr fault) writes = inr fault
owed-writes before after ending status held holds owed (inl is) (inl written) = inl (ending, owed, is, written)
owed-writes before after ending status held holds owed (inl is) (inr fault) = inr fault

writes-scan : (before after : Option (List FolderTold)) (folder : FolderTold) (found : Result Scan ScanError) (status : ℕ) (held : List ℕ) (holds : Option (List ℕ)) →
    Returns before after folder → IsFound folder found → EndsFound found status → WritesFound found status held holds → WritesScan before after status held holds
writes-scan before after folder (Ok scan) status held holds back is ends writes =
    owed-writes before after (scan_ending scan) status held holds (whole before after folder scan back is) ends writes
writes-scan before after folder (Err FolderFault) status held holds back is ends writes = inr (inl ends)
writes-scan before after folder (Err Mem) status held holds back is ends writes = inr (inr (inr ends))
writes-scan before after folder (Err (TooDeep bytes)) status held holds back is ends writes =
    owed-writes before after limit_ending status held holds (stopped before after folder (TooDeep bytes) back is) ends writes
writes-scan before after folder (Err (Full objects)) status held holds back is ends writes =
    owed-writes before after limit_ending status held holds (stopped before after folder (Full objects) back is) ends writes
writes-scan before after folder (Err ManyEntries) status held holds back is ends writes =
    owed-writes before after limit_ending status held holds (stopped before after folder ManyEntries back is) ends writes

-- a folder that failed raised the count of the outside
pub fault-rose : (folder : FolderTold) (found : Result Scan ScanError) (old now : ℕ) → IsFound folder found → found ≡ Err FolderFault →
    now ≡ raised old (min 1 folder.entry_faults) → Rose old now
fault-rose folder found old now is failed rises = rose-once old folder.entry_faults now (subst (λ r. IsFound folder r) failed is) rises

is-found : (folder : FolderTold) (found : Result Scan ScanError) (tree : Option (List Entry)) (contents : Option Contents) (entry_faults file_faults : ℕ) →
    folder.tree ≡ tree → folder.contents ≡ contents → entry_faults ≡ 0 → file_faults ≡ 0 →
    IfOk found (λ scan. IsScan tree contents scan) → IfErr found (λ e. IsRefused tree contents entry_faults folder.entry_faults file_faults folder.file_faults e) →
    IfOk found (λ scan. Covers (count_by (λ (file : RefusedFile). is_read_fault file.error) scan.refused) file_faults folder.file_faults) → IsFound folder found
is-found folder (Ok scan) tree contents entry_faults file_faults same_tree same_contents no_entry_faults no_file_faults is refused covers = (
  subst (λ t. IsScan t folder.contents scan) (sym same_tree) (subst (λ c. IsScan tree c scan) (sym same_contents) is),
  subst (λ n. Covers (count_by (λ (file : RefusedFile). is_read_fault file.error) scan.refused) n folder.file_faults) no_file_faults covers,
)
is-found folder (Err error) tree contents entry_faults file_faults same_tree same_contents no_entry_faults no_file_faults is refused covers =
    subst (λ t. IsRefused t folder.contents 0 folder.entry_faults 0 folder.file_faults error) (sym same_tree)
    (subst (λ c. IsRefused tree c 0 folder.entry_faults 0 folder.file_faults error) (sym same_contents)
    (subst (λ n. IsRefused tree contents n folder.entry_faults 0 folder.file_faults error) no_entry_faults
    (subst (λ n. IsRefused tree contents entry_faults folder.entry_faults n folder.file_faults error) no_file_faults refused)))

pub scan_ends : (before after : Option (List FolderTold)) (folder : FolderTold) (found : Result Scan ScanError) (status : ℕ)
    (tree : Option (List Entry)) (contents : Option Contents) (entry_faults file_faults : ℕ) → Returns before after folder →
    folder.tree ≡ tree → folder.contents ≡ contents → entry_faults ≡ 0 → file_faults ≡ 0 →
    IfOk found (λ scan. IsScan tree contents scan) → IfErr found (λ e. IsRefused tree contents entry_faults folder.entry_faults file_faults folder.file_faults e) →
    IfOk found (λ scan. Covers (count_by (λ (file : RefusedFile). is_read_fault file.error) scan.refused) file_faults folder.file_faults) →
    EndsFound found status → EndsScan before after status
scan_ends before after folder found status tree contents entry_faults file_faults back same_tree same_contents no_entry_faults no_file_faults is refused covers ends =
    ends-scan before after folder found status back
    (is-found folder found tree contents entry_faults file_faults same_tree same_contents no_entry_faults no_file_faults is refused covers) ends

pub scan_writes : (before after : Option (List FolderTold)) (folder : FolderTold) (found : Result Scan ScanError) (status : ℕ)
    (tree : Option (List Entry)) (contents : Option Contents) (entry_faults file_faults : ℕ) (held : List ℕ) (holds : Option (List ℕ)) →
    Returns before after folder → folder.tree ≡ tree → folder.contents ≡ contents → entry_faults ≡ 0 → file_faults ≡ 0 →
    IfOk found (λ scan. IsScan tree contents scan) → IfErr found (λ e. IsRefused tree contents entry_faults folder.entry_faults file_faults folder.file_faults e) →
    IfOk found (λ scan. Covers (count_by (λ (file : RefusedFile). is_read_fault file.error) scan.refused) file_faults folder.file_faults) →
    EndsFound found status → WritesFound found status held holds → WritesScan before after status held holds
scan_writes before after folder found status tree contents entry_faults file_faults held holds back same_tree same_contents no_entry_faults no_file_faults is refused covers ends writes =
    writes-scan before after folder found status held holds back
    (is-found folder found tree contents entry_faults file_faults same_tree same_contents no_entry_faults no_file_faults is refused covers) ends writes
