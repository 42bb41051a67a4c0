-- What a copy keeps of all that befell it (this project's profile): its rows, each with two numbers, and the greatest version
-- that was read.
use Rattle.std.specs.Prelude.{◌≡◌, ◌<◌, ℕ, Bool, true, false, cond, nat_eq, nat_lt, max, min, List, [], ◌∷◌, map, filter, Option, Some, None}
use Rattle.std.specs.List.{AllByRecursion, filter_map}
use Rattle.cds_object.specs.Object.{ObjectRow, is_folder}
use Rattle.cds_object.specs.declared.event.Event.{Event}
use Rattle.cds_follow.specs.Copy.{KnownRow, known_row, Happening, Changes, Reads, rows_after, cannot_be, knows, marks, since_deletion, least, read_up_to}
use Rattle.cds_object.specs.Events.{update_of, is_change}

-- a row of a copy; the greatest number at which a change added or modified its object since the object's last deletion; and the
-- greatest version of it that a read showed since then. If there is none it is 0
pub record KeptRow : Type 0 where
  pub row : KnownRow
  pub wanted : ℕ
  pub shown : ℕ

-- the id of a row
abbrev pub kept_id : KeptRow → ℕ
kept_id kept = kept.row.id

-- what a row stands for, whether it is known what it says or not
abbrev pub kept_in : ObjectRow → Bool → ℕ → ℕ → KeptRow
kept_in row known wanted shown = record {
  row = record {
    id = row.id;
    parent = row.parent;
    folder = is_folder row.content;
    says = cond known (Some (record { content = row.content; object_update = row.object_update })) None;
    trackers = row.trackers;
  };
  wanted = wanted;
  shown = shown;
}

-- a copy: its rows, and the greatest version that was read since its load
pub record KeptCopy : Type 0 where
  pub rows : List KeptRow
  pub read_up_to : ℕ

-- the greatest of numbers; 0 of none
abbrev pub greatest : List ℕ → ℕ
greatest [] = 0
greatest (n ∷ ns) = max n (greatest ns)

-- the number of the version that a happening shows of an id
abbrev pub shows : ℕ → Happening → Option ℕ
shows id (Changes event) = None
shows id (Reads other v) = cond (nat_eq other id) (Some v.object_update) None

-- the two numbers of an id
abbrev pub wanted_at : ℕ → List Happening → ℕ
wanted_at id happenings = greatest (filter_map (marks id) (since_deletion id happenings))

abbrev pub shown_at : ℕ → List Happening → ℕ
shown_at id happenings = greatest (filter_map (shows id) (since_deletion id happenings))

abbrev pub kept_row : List Happening → KnownRow → KeptRow
kept_row happenings row = record { row = row; wanted = wanted_at row.id happenings; shown = shown_at row.id happenings }

-- what a copy keeps after a load that ended with these rows, and after all that befell it since; the newest is the first
abbrev pub copy_of : List ObjectRow → List Happening → KeptCopy
copy_of rows happenings = record {
  rows = map (kept_row happenings) (rows_after rows happenings);
  read_up_to = read_up_to happenings;
}

-- its rows without the numbers
abbrev pub bare_rows : KeptCopy → List KnownRow
bare_rows copy = map (λ (kept : KeptRow). kept.row) copy.rows

-- no two rows have one id
abbrev pub AreDistinct : List KnownRow → Type 0
AreDistinct [] = Unit {0}
AreDistinct (row ∷ rows) = (knows row.id rows ≡ false) × AreDistinct rows

-- the load ended with the root's row among others, all of different ids; each change could be when it came, and had a number
-- above 0; each read was of an object that stood
abbrev pub IsSound : List ObjectRow → List Happening → Type 0
IsSound rows [] = (knows 0 (map known_row rows) ≡ true) × AreDistinct (map known_row rows)
IsSound rows (Changes event ∷ older) = (cannot_be (rows_after rows older) event ≡ false) × (0 < update_of event) × IsSound rows older
IsSound rows (Reads id v ∷ older) = (knows id (rows_after rows older) ≡ true) × IsSound rows older

-- events that are changes above a number
abbrev pub AreAbove : ℕ → List Event → Type 0
AreAbove at events = AllByRecursion (λ (event : Event). (is_change event ≡ true) × (at < update_of event)) events

-- whether an object is unread, by its two numbers
abbrev pub is_wanted : KeptRow → Bool
is_wanted kept = nat_lt kept.shown kept.wanted

-- the lesser of two numbers, if they are there
abbrev pub lesser_of : Option ℕ → Option ℕ → Option ℕ
lesser_of None other = other
lesser_of (Some n) None = Some n
lesser_of (Some n) (Some other) = Some (min n other)

-- the least id of a copy that is unread
abbrev pub least_wanted : KeptCopy → Option ℕ
least_wanted copy = least (map kept_id (filter is_wanted copy.rows))
