-- What a replica holds after its turns, what it asks next and what it says (this project's profile, over UPnP ContentDirectory:4
-- on Browse and SystemUpdateID).
--
-- A load reads the reset token, the number N, the root's metadata and the number again. Then it reads the children of each
-- container, page by page, each page followed by the number. The container of the least id that is not listed yet comes first. A
-- number other than N ends the attempt, and the next read begins a new one.
use Rattle.std.specs.Prelude.{◌-◌, ℕ, Bool, true, cond, not, nat_eq, nat_lt, min, ◌&&◌, List, [], ◌∷◌, ◌++◌, map, length, Option, Some, None}
use Rattle.std.specs.List.{list_all, list_any, filter_map}
use Rattle.std.specs.Option.{option_map}
use Rattle.cds_object.specs.Object.{ObjectRow, is_folder}
use Rattle.cds_object.specs.Tree.{is_child_of}
use Rattle.cds_object.specs.declared.row.Trackers.{Trackers}
use Rattle.cds_load.specs.Server.{page_size}
use Rattle.cds_load.specs.Outcome.{Outcome, Goes, CannotBeRead, Tears, after_outcome}
use Rattle.cds_load.specs.declared.exchange.Ask.{Ask}
use Rattle.cds_load.specs.declared.exchange.Ask.TheVariants.{Token, Number as AskNumber, Metadata, Children}
use Rattle.cds_load.specs.declared.exchange.Shown.{Shown}
use Rattle.cds_load.specs.declared.exchange.Shown.TheVariants.{Text, Number, Page, Fault}

-- a container that waits to be listed, with its child count
pub record Waiting : Type 0 where
  pub id : ℕ
  pub children : ℕ

-- the rows of whole listings in ascending order of ids; the containers among them that are not listed yet, in ascending order,
-- the first of which is being listed; and the children of that one that were shown so far
pub record Listing : Type 0 where
  pub rows : List ObjectRow
  pub waiting : List Waiting
  pub part : List ObjectRow

-- a load that runs: it was begun, or has the token, or the number N, or the root's row; or it lists; or it has a page, or a refusal
-- instead of one
pub data Stage : Type 0 where
  Begun : Stage
  HasToken : Stage
  HasNumber : ℕ → Stage
  HasRoot : ℕ → ObjectRow → Stage
  Lists : ℕ → Listing → Stage
  HasPage : ℕ → Listing → Option (List ObjectRow) → Stage

-- what a replica holds: nothing, as no load was begun; or a load that runs; or a copy of a number
pub data Held : Type 0 where
  Idle : Held
  Loads : Stage → Held
  HasCopy : ℕ → List ObjectRow → Held

-- the id and the child count of the container that is being listed
abbrev pub listed_id : Listing → ℕ
listed_id listing = first listing.waiting
  where
    first : List Waiting → ℕ
    first [] = 0
    first (w ∷ ws) = w.id

abbrev pub listed_children : Listing → ℕ
listed_children listing = first listing.waiting
  where
    first : List Waiting → ℕ
    first [] = 0
    first (w ∷ ws) = w.children

-- an item put among others in ascending order of keys, and so each of several
abbrev pub put_by : {X : Type 0} → (X → ℕ) → X → List X → List X
put_by key x [] = x ∷ []
put_by key x (y ∷ ys) = cond (nat_lt (key x) (key y)) (x ∷ y ∷ ys) (y ∷ put_by key x ys)

abbrev pub puts_by : {X : Type 0} → (X → ℕ) → List X → List X → List X
puts_by key [] others = others
puts_by key (x ∷ xs) others = puts_by key xs (put_by key x others)

-- rows put among others in ascending order of ids
abbrev pub put_rows : List ObjectRow → List ObjectRow → List ObjectRow
put_rows = puts_by (λ (row : ObjectRow). row.id)

-- a container waits with its child count; a track does not
abbrev pub waiting_of : ObjectRow → Option Waiting
waiting_of row = option_map (λ (t : Trackers). record { id = row.id; children = t.child_count }) row.trackers

-- the containers among rows put among those that wait, in ascending order of ids
abbrev pub put_containers : List ObjectRow → List Waiting → List Waiting
put_containers rows ws = puts_by (λ (w : Waiting). w.id) (filter_map waiting_of rows) ws

-- the listing that a load begins with: the root's row, and the root waits
abbrev pub listing_of : ObjectRow → Listing
listing_of root = record { rows = root ∷ []; waiting = put_containers (root ∷ []) []; part = [] }

-- whether no row has an id that is known, or that an earlier one of them has
abbrev pub all_new : List ℕ → List ObjectRow → Bool
all_new known [] = true
all_new known (row ∷ rows) = not (list_any (λ id. nat_eq row.id id) known) && all_new (row.id ∷ known) rows

-- the ids of all rows that were shown
abbrev pub known_ids : Listing → List ℕ
known_ids listing = map (λ (row : ObjectRow). row.id) (listing.rows ++ listing.part)

-- whether a page fits. Each row is a child of the container that is being listed, and none has a known id. There are as many as a
-- page has, or as the child count leaves if these are fewer
abbrev pub fits : Listing → List ObjectRow → Bool
fits listing page =
    list_all (is_child_of (listed_id listing)) page && all_new (known_ids listing) page
    && nat_eq (length page) (min page_size (listed_children listing - length listing.part))

-- the containers that wait after the one that was listed
abbrev pub others_waiting : Listing → List Waiting
others_waiting listing = rest listing.waiting
  where
    rest : List Waiting → List Waiting
    rest [] = []
    rest (w ∷ ws) = ws

-- what is held after a whole listing: the copy, if no container waits any more
abbrev pub listed : ℕ → List ObjectRow → List Waiting → Held
listed number rows [] = HasCopy number rows
listed number rows (w ∷ ws) = Loads (Lists number (record { rows = rows; waiting = w ∷ ws; part = [] }))

-- what is held after a page that fits
abbrev pub after_page : ℕ → Listing → List ObjectRow → Held
after_page number listing page =
    cond (nat_eq (length (listing.part ++ page)) (listed_children listing))
    (listed number (put_rows (listing.part ++ page) listing.rows) (put_containers (listing.part ++ page) (others_waiting listing)))
    (Loads (Lists number (record { rows = listing.rows; waiting = listing.waiting; part = listing.part ++ page })))

-- the root's metadata is one row, the root's, and that of a container
abbrev pub root_taken : ℕ → List ObjectRow → Outcome Held
root_taken number [] = CannotBeRead
root_taken number (row ∷ []) = cond (nat_eq row.id 0 && is_folder row.content) (Goes (Loads (HasRoot number row))) (Tears 0)
root_taken number (row ∷ next ∷ rows) = CannotBeRead

-- a page whose number did not change is judged: a refusal in its place, or rows that do not fit, cannot be
abbrev pub page_taken : ℕ → Listing → Option (List ObjectRow) → Outcome Held
page_taken number listing None = Tears (listed_id listing)
page_taken number listing (Some page) = cond (fits listing page) (Goes (after_page number listing page)) (Tears (listed_id listing))

-- what becomes of what was shown to a load that runs
abbrev pub stage_taken : Stage → Shown → Outcome Held
stage_taken Begun (Text token) = Goes (Loads HasToken)
stage_taken HasToken (Number n) = Goes (Loads (HasNumber n))
stage_taken (HasNumber number) (Page rows total update) = root_taken number rows
stage_taken (HasRoot number root) (Number n) = Goes (cond (nat_eq n number) (Loads (Lists number (listing_of root))) (Loads Begun))
stage_taken (Lists number listing) (Page rows total update) = Goes (Loads (HasPage number listing (Some rows)))
stage_taken (Lists number listing) (Fault code) = Goes (Loads (HasPage number listing None))
stage_taken (HasPage number listing page) (Number n) = cond (nat_eq n number) (page_taken number listing page) (Goes (Loads Begun))
stage_taken stage shown = CannotBeRead

-- what becomes of what was shown, by what is held
abbrev pub taken : Held → Shown → Outcome Held
taken Idle shown = CannotBeRead
taken (Loads stage) shown = stage_taken stage shown
taken (HasCopy number rows) shown = CannotBeRead

-- the next read of a load that runs, and of what is held
abbrev pub stage_ask : Stage → Ask
stage_ask Begun = Token
stage_ask HasToken = AskNumber
stage_ask (HasNumber number) = Metadata 0
stage_ask (HasRoot number root) = AskNumber
stage_ask (Lists number listing) = Children (listed_id listing) (length listing.part)
stage_ask (HasPage number listing page) = AskNumber

abbrev pub next_ask : Held → Option Ask
next_ask Idle = None
next_ask (Loads stage) = Some (stage_ask stage)
next_ask (HasCopy number rows) = None

-- what is said of a load: it has not ended, or a copy of a number stands
pub data Said : Type 0 where
  BehindLoad : Said
  Stands : ℕ → Said

abbrev pub says : Held → Said
says Idle = BehindLoad
says (Loads stage) = BehindLoad
says (HasCopy number rows) = Stands number

-- the rows of the copy; if none stands there are none
abbrev pub copied : Held → List ObjectRow
copied Idle = []
copied (Loads stage) = []
copied (HasCopy number rows) = rows

-- one turn of a replica: a load is begun, or a reply shows something
pub data ReplicaTurn : Type 0 where
  Begins : ReplicaTurn
  Shows : Shown → ReplicaTurn

-- what a replica holds after its turns, the newest first
abbrev pub held_by : List ReplicaTurn → Held
held_by [] = Idle
held_by (Begins ∷ older) = Loads Begun
held_by (Shows shown ∷ older) = after_outcome (held_by older) (taken (held_by older) shown)
