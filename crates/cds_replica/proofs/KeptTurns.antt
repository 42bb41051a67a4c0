-- Whatever a server tells and shows, what befell a copy is sound: its load ended with the root's row among others, all of
-- different ids; each change that was counted could be when it came; and each read was of an object that stood.
use Rattle.std.proofs.Common.{◌≡◌, ◌+◌, ◌-◌, ◌≤◌, ℕ, max, min, Bool, true, false, cond, not, ◌&&◌, ◌||◌, nat_eq, nat_lt, List, [], ◌∷◌, ◌++◌, map, length, Option, Some, None, refl, sym, ap, ◌∙◌, subst, true≢false, arith, ltb-true}
use Rattle.std.specs.List.{list_all, list_any}
use Rattle.cds_object.specs.Object.{ObjectRow, is_folder}
use Rattle.cds_object.specs.Tree.{is_child_of}
use Rattle.cds_object.specs.declared.event.Event.{Event}
use Rattle.cds_load.specs.Stages.{Held, Idle, Begun, HasToken, HasNumber, HasRoot, Lists, HasPage, HasCopy, Listing, Waiting, listing_of, listed_id, listed_children, all_new, known_ids, fits, put_by, put_rows, put_containers, others_waiting, listed, after_page, taken, page_taken, root_taken, Loads}
use Rattle.cds_load.specs.Server.{page_size}
use Rattle.cds_load.specs.declared.exchange.Shown.{Shown}
use Rattle.cds_load.specs.declared.exchange.Shown.TheVariants.{Text, Number, Page, Fault}
use Rattle.cds_commands.specs.Notes.{Note, changes_above}
use Rattle.cds_follow.specs.Copy.{KnownRow, known_row, known_of, knows, put_known, Happening, Reads, rows_after, least_unread}
use Rattle.cds_follow.specs.Inbox.{ReplicaTurn, Begins, Shows, Requests, Accepts, Refuses, Delivers, taken_by}
use Rattle.cds_follow.specs.Follow.{Known, position, new_changes, first_torn, counted_from, judged, with_changes, dropped, load_begun, is_drop, heard_of, with_notes, load_ended, loaded, is_of, row_read, copy_read, with_reply, known_by}
use Rattle.cds_follow.specs.ServerLaws.{befalling}
use Rattle.cds_replica.specs.CopyState.{AreDistinct, IsSound, AreAbove}
use Rattle.cds_replica.proofs.KeptIds.{swapped-eq, knows-put, distinct-put}
use Rattle.cds_replica.specs.CopySteps.{count_of}
use Rattle.cds_replica.specs.Ended.{end_count}
use Rattle.cds_replica.proofs.KeptCounts.{count-kept, count-sound, read-sound}
use Rattle.cds_object.specs.Events.{update_of, is_change}
use Rattle.cds_load.specs.Outcome.{Outcome, Goes, CannotBeRead, Jumps, Tears, after_outcome}

-- ---- the rows of a load

-- rows of ids that no known row has, and that differ
abbrev pub AreNew : List KnownRow → List ObjectRow → Type 0
AreNew known [] = Unit {0}
AreNew known (row ∷ rows) = (knows row.id known ≡ false) × AreNew (known_row row ∷ known) rows

new-same : (known other : List KnownRow) (rows : List ObjectRow) → ((id : ℕ) → knows id other ≡ knows id known) → AreNew known rows → AreNew other rows
new-same known other [] same new = tt
new-same known other (row ∷ rows) same new =
    (same row.id ∙ new.0, new-same (known_row row ∷ known) (known_row row ∷ other) rows (λ id. ap (λ (b : Bool). nat_eq row.id id || b) (same id)) new.1)

rows-put : (row : ObjectRow) (rows : List ObjectRow) → map known_row (put_by (λ (r : ObjectRow). r.id) row rows) ≡ put_known (known_row row) (map known_row rows)
rows-put row [] = refl
rows-put row (next ∷ rows) = by (nat_lt row.id next.id) (rows-put row rows)
  where
    by : (b : Bool) → map known_row (put_by (λ (r : ObjectRow). r.id) row rows) ≡ put_known (known_row row) (map known_row rows)
        → map known_row (cond b (row ∷ next ∷ rows) (next ∷ put_by (λ (r : ObjectRow). r.id) row rows))
        ≡ cond b (known_row row ∷ known_row next ∷ map known_row rows) (known_row next ∷ put_known (known_row row) (map known_row rows))
    by true r = refl
    by false r = ap (λ (rest : List KnownRow). known_row next ∷ rest) r

-- a load's rows: the root's among others, all of different ids
abbrev pub AreLoaded : List ObjectRow → Type 0
AreLoaded rows = (knows 0 (map known_row rows) ≡ true) × AreDistinct (map known_row rows)

or-right : (a b : Bool) → b ≡ true → a || b ≡ true
or-right true b e = refl
or-right false b e = e

loaded-puts : (new rows : List ObjectRow) → AreNew (map known_row rows) new → AreLoaded rows → AreLoaded (put_rows new rows)
loaded-puts [] rows fresh all = all
loaded-puts (row ∷ new) rows fresh all =
    let put = rows-put row rows in
    loaded-puts new (put_by (λ (r : ObjectRow). r.id) row rows)
    (subst (λ (known : List KnownRow). AreNew known new) (sym put)
    (new-same (known_row row ∷ map known_row rows) (put_known (known_row row) (map known_row rows)) new (λ id. knows-put id (known_row row) (map known_row rows)) fresh.1)) (
      ap (knows 0) put ∙ knows-put 0 (known_row row) (map known_row rows) ∙ or-right (nat_eq row.id 0) (knows 0 (map known_row rows)) all.0,
      subst AreDistinct (sym put) (distinct-put (known_row row) (map known_row rows) fresh.0 all.1),
    )

-- ---- a page that fits

and-parts : (a b : Bool) → a && b ≡ true → (a ≡ true) × (b ≡ true)
and-parts true b e = (refl, e)
and-parts false b e = absurd (true≢false (sym e))

not-true : (a : Bool) → not a ≡ true → a ≡ false
not-true true e = sym e
not-true false e = refl

page-new : (page : List ObjectRow) (ids : List ℕ) (known : List KnownRow) → ((id : ℕ) → list_any (nat_eq id) ids ≡ knows id known) → all_new ids page ≡ true → AreNew known page
page-new [] ids known same new = tt
page-new (row ∷ page) ids known same new =
    let both = and-parts (not (list_any (nat_eq row.id) ids)) (all_new (row.id ∷ ids) page) new in (
      sym (same row.id) ∙ not-true (list_any (nat_eq row.id) ids) both.0,
      page-new page (row.id ∷ ids) (known_row row ∷ known) (λ id i. swapped-eq id row.id i || same id i) both.1,
    )

or-move : (a b c d : Bool) → d ≡ (a || b) || c → d ≡ b || (a || c)
or-move true true c d e = e
or-move true false c d e = e
or-move false true c d e = e
or-move false false c d e = e

page-follows : (part page : List ObjectRow) (ids : List ℕ) (known : List KnownRow)
    → ((id : ℕ) → list_any (nat_eq id) ids ≡ list_any (λ (row : ObjectRow). nat_eq row.id id) part || knows id known)
    → AreNew known part → all_new ids page ≡ true → AreNew known (part ++ page)
page-follows [] page ids known same new fits = page-new page ids known same fits
page-follows (row ∷ part) page ids known same new fits =
    (new.0, page-follows part page ids (known_row row ∷ known) (λ id. or-move (nat_eq row.id id) (list_any (λ (r : ObjectRow). nat_eq r.id id) part) (knows id known) (list_any (nat_eq id) ids) (same id)) new.1 fits)

or-first : (a b c : Bool) → a || (b || c) ≡ b || (a || c)
or-first true true c = refl
or-first true false c = refl
or-first false true c = refl
or-first false false c = refl

ids-known : (rows part : List ObjectRow) (id : ℕ)
    → list_any (nat_eq id) (map (λ (row : ObjectRow). row.id) (rows ++ part)) ≡ list_any (λ (row : ObjectRow). nat_eq row.id id) part || knows id (map known_row rows)
ids-known [] [] id = refl
ids-known [] (row ∷ part) id = (λ i. swapped-eq id row.id i || ids-known [] part id i) ∙ or-end (nat_eq row.id id) (list_any (λ (r : ObjectRow). nat_eq r.id id) part)
  where
    or-end : (a b : Bool) → a || (b || false) ≡ (a || b) || false
    or-end true b = refl
    or-end false b = refl
ids-known (row ∷ rows) part id =
    (λ i. swapped-eq id row.id i || ids-known rows part id i)
    ∙ or-first (nat_eq row.id id) (list_any (λ (r : ObjectRow). nat_eq r.id id) part) (knows id (map known_row rows))

abbrev pub IsListing : Listing → Type 0
IsListing listing = AreLoaded listing.rows × AreNew (map known_row listing.rows) listing.part

fits-new : (listing : Listing) (page : List ObjectRow) → IsListing listing → fits listing page ≡ true → AreNew (map known_row listing.rows) (listing.part ++ page)
fits-new listing page is e =
    page-follows listing.part page (known_ids listing) (map known_row listing.rows) (ids-known listing.rows listing.part) is.1 (fresh e)
  where
    fresh : fits listing page ≡ true → all_new (known_ids listing) page ≡ true
    fresh f = (and-parts (list_all (is_child_of (listed_id listing)) page) (all_new (known_ids listing) page)
        (and-parts (list_all (is_child_of (listed_id listing)) page && all_new (known_ids listing) page)
        (nat_eq (length page) (min page_size (listed_children listing - length listing.part))) f).0).1

-- ---- what is held

abbrev pub SoundHeld : Held → List Happening → Type 0
SoundHeld Idle happenings = Unit {0}
SoundHeld (Loads Begun) happenings = Unit {0}
SoundHeld (Loads HasToken) happenings = Unit {0}
SoundHeld (Loads (HasNumber number)) happenings = Unit {0}
SoundHeld (Loads (HasRoot number root)) happenings = nat_eq root.id 0 ≡ true
SoundHeld (Loads (Lists number listing)) happenings = IsListing listing
SoundHeld (Loads (HasPage number listing page)) happenings = IsListing listing
SoundHeld (HasCopy number rows) happenings = IsSound rows happenings

listed-sound : (number : ℕ) (rows : List ObjectRow) (waiting : List Waiting) → AreLoaded rows → SoundHeld (listed number rows waiting) []
listed-sound number rows [] all = all
listed-sound number rows (w ∷ ws) all = (all, tt)

page-sound : (number : ℕ) (listing : Listing) (page : List ObjectRow) → IsListing listing → fits listing page ≡ true → SoundHeld (after_page number listing page) []
page-sound number listing page is e = by (nat_eq (length (listing.part ++ page)) (listed_children listing))
  where
    new : AreNew (map known_row listing.rows) (listing.part ++ page)
    new = fits-new listing page is e

    by : (b : Bool) → SoundHeld (cond b
        (listed number (put_rows (listing.part ++ page) listing.rows) (put_containers (listing.part ++ page) (others_waiting listing)))
        (Loads (Lists number (record { rows = listing.rows; waiting = listing.waiting; part = listing.part ++ page })))) []
    by true = listed-sound number (put_rows (listing.part ++ page) listing.rows) (put_containers (listing.part ++ page) (others_waiting listing)) (loaded-puts (listing.part ++ page) listing.rows new is.0)
    by false = (is.0, new)

-- a reply that is taken leads on to what is sound
abbrev pub SoundTaken : Outcome Held → Type 0
SoundTaken (Goes held) = SoundHeld held []
SoundTaken CannotBeRead = Unit {0}
SoundTaken (Jumps expected first) = Unit {0}
SoundTaken (Tears id) = Unit {0}

root-sound : (number : ℕ) (rows : List ObjectRow) → SoundTaken (root_taken number rows)
root-sound number [] = tt
root-sound number (row ∷ []) = by (nat_eq row.id 0) (is_folder row.content) refl
  where
    by : (b c : Bool) → nat_eq row.id 0 ≡ b → SoundTaken (cond (b && c) (Goes (Loads (HasRoot number row))) (Tears 0))
    by true true e = e
    by true false e = tt
    by false c e = tt
root-sound number (row ∷ next ∷ rows) = tt

judged-sound : (number : ℕ) (listing : Listing) (page : Option (List ObjectRow)) → IsListing listing → SoundTaken (page_taken number listing page)
judged-sound number listing None is = tt
judged-sound number listing (Some page) is = by (fits listing page) refl
  where
    by : (b : Bool) → fits listing page ≡ b → SoundTaken (cond b (Goes (after_page number listing page)) (Tears (listed_id listing)))
    by true e = page-sound number listing page is e
    by false e = tt

pub taken-sound : (held : Held) (happenings : List Happening) (shown : Shown) → SoundHeld held happenings → SoundTaken (taken held shown)
taken-sound Idle h shown is = tt
taken-sound (Loads Begun) h (Text token) is = tt
taken-sound (Loads Begun) h (Number n) is = tt
taken-sound (Loads Begun) h (Page rows total update) is = tt
taken-sound (Loads Begun) h (Fault code) is = tt
taken-sound (Loads HasToken) h (Text token) is = tt
taken-sound (Loads HasToken) h (Number n) is = tt
taken-sound (Loads HasToken) h (Page rows total update) is = tt
taken-sound (Loads HasToken) h (Fault code) is = tt
taken-sound (Loads (HasNumber number)) h (Text token) is = tt
taken-sound (Loads (HasNumber number)) h (Number n) is = tt
taken-sound (Loads (HasNumber number)) h (Page rows total update) is = root-sound number rows
taken-sound (Loads (HasNumber number)) h (Fault code) is = tt
taken-sound (Loads (HasRoot number root)) h (Text token) is = tt
taken-sound (Loads (HasRoot number root)) h (Number n) is = by (nat_eq n number)
  where
    by : (b : Bool) → SoundHeld (cond b (Loads (Lists number (listing_of root))) (Loads Begun)) []
    by true = ((ap (λ (b : Bool). b || false) is, (refl, tt)), tt)
    by false = tt
taken-sound (Loads (HasRoot number root)) h (Page rows total update) is = tt
taken-sound (Loads (HasRoot number root)) h (Fault code) is = tt
taken-sound (Loads (Lists number listing)) h (Text token) is = tt
taken-sound (Loads (Lists number listing)) h (Number n) is = tt
taken-sound (Loads (Lists number listing)) h (Page rows total update) is = is
taken-sound (Loads (Lists number listing)) h (Fault code) is = is
taken-sound (Loads (HasPage number listing page)) h (Text token) is = tt
taken-sound (Loads (HasPage number listing page)) h (Number n) is = by (nat_eq n number)
  where
    by : (b : Bool) → SoundTaken (cond b (page_taken number listing page) (Goes (Loads Begun)))
    by true = judged-sound number listing page is
    by false = tt
taken-sound (Loads (HasPage number listing page)) h (Page rows total update) is = tt
taken-sound (Loads (HasPage number listing page)) h (Fault code) is = tt
taken-sound (HasCopy number rows) h shown is = tt

-- ---- what is known

abbrev pub SoundKnown : Known → Type 0
SoundKnown known = SoundHeld known.held known.happenings

abbrev pub SoundOutcome : Outcome Known → Type 0
SoundOutcome (Goes known) = SoundKnown known
SoundOutcome CannotBeRead = Unit {0}
SoundOutcome (Jumps expected first) = Unit {0}
SoundOutcome (Tears id) = Unit {0}

pub above-filter : (number : ℕ) (events : List Event) → AreAbove number (changes_above number events)
above-filter number [] = tt
above-filter number (event ∷ events) = by (is_change event) (nat_lt number (update_of event)) refl refl (above-filter number events)
  where
    by : (b c : Bool) → is_change event ≡ b → nat_lt number (update_of event) ≡ c → AreAbove number (changes_above number events)
        → AreAbove number (cond (b && c) (event ∷ changes_above number events) (changes_above number events))
    by true true e f r = ((e, ltb-true number (update_of event) f), r)
    by true false e f r = r
    by false c e f r = r

above-lower : (low high : ℕ) (events : List Event) → low ≤ high → AreAbove high events → AreAbove low events
above-lower low high [] l all = tt
above-lower low high (event ∷ events) l all = ((all.0.0, (let m = all.0.1 in omega (arith, l, m))), above-lower low high events l all.1)

above-append : (at : ℕ) (xs ys : List Event) → AreAbove at xs → AreAbove at ys → AreAbove at (xs ++ ys)
above-append at [] ys a b = b
above-append at (x ∷ xs) ys a b = (a.0, above-append at xs ys a.1 b)

-- the new changes of notes are above the position
pub new-above : (at : ℕ) (notes : List Note) → AreAbove at (new_changes at notes)
new-above at [] = tt
new-above at (note ∷ notes) =
    above-append at (changes_above at note.events) (new_changes (max at note.number) notes) (above-filter at note.events)
    (above-lower at (max at note.number) (new_changes (max at note.number) notes) (omega arith) (new-above (max at note.number) notes))

-- changes leave what is held as it is
counted-held : (rows : List ObjectRow) (known : Known) (at : ℕ) (events : List Event) (now : Known) → counted_from rows known at events ≡ Goes now → now.held ≡ known.held
counted-held rows known at [] now e = let same : known ≡ now = cc in ap (λ (k : Known). k.held) (sym same)
counted-held rows known at (event ∷ events) now e = by (nat_eq (update_of event) (at + 1)) (first_torn (rows_after rows known.happenings) (event ∷ events)) e
  where
    by : (b : Bool) (o : Option ℕ) → cond b (judged known (event ∷ events) o) (Jumps (at + 1) (update_of event)) ≡ Goes now → now.held ≡ known.held
    by true (Some id) f = let no : ⊥ = cc in absurd no
    by true None f =
        let same : record known { happenings = befalling (event ∷ events) ++ known.happenings } ≡ now = cc in
        ap (λ (k : Known). k.held) (sym same)
    by false o f = let no : ⊥ = cc in absurd no

counted-sound : (number : ℕ) (rows : List ObjectRow) (known : Known) (at : ℕ) (events : List Event) → known.held ≡ HasCopy number rows → IsSound rows known.happenings → AreAbove at events
    → SoundOutcome (counted_from rows known at events)
counted-sound number rows known at events held sound above = by (counted_from rows known at events) refl
  where
    by : (o : Outcome Known) → counted_from rows known at events ≡ o → SoundOutcome o
    by (Goes now) e =
        subst (λ (h : Held). SoundHeld h now.happenings) (sym (counted-held rows known at events now e ∙ held)) (count-sound rows known now at events sound above e)
    by CannotBeRead e = tt
    by (Jumps expected first) e = tt
    by (Tears id) e = tt

changes-sound : (held : Held) (known : Known) (at : ℕ) (events : List Event) → known.held ≡ held → SoundHeld held known.happenings → AreAbove at events
    → SoundOutcome (with_changes held known at events)
changes-sound Idle known at events e is above = subst (λ (h : Held). SoundHeld h known.happenings) (sym e) tt
changes-sound (Loads Begun) known at events e is above = subst (λ (h : Held). SoundHeld h known.happenings) (sym e) tt
changes-sound (Loads HasToken) known at events e is above = subst (λ (h : Held). SoundHeld h known.happenings) (sym e) tt
changes-sound (Loads (HasNumber number)) known at events e is above = subst (λ (h : Held). SoundHeld h known.happenings) (sym e) tt
changes-sound (Loads (HasRoot number root)) known at events e is above = subst (λ (h : Held). SoundHeld h known.happenings) (sym e) is
changes-sound (Loads (Lists number listing)) known at events e is above = subst (λ (h : Held). SoundHeld h known.happenings) (sym e) is
changes-sound (Loads (HasPage number listing page)) known at events e is above = subst (λ (h : Held). SoundHeld h known.happenings) (sym e) is
changes-sound (HasCopy number rows) known at events e is above = counted-sound number rows known at events e is above

heard-sound : (notes : List Note) (o : Outcome Known) → SoundOutcome o → SoundOutcome (heard_of notes o)
heard-sound notes (Goes known) is = is
heard-sound notes CannotBeRead is = tt
heard-sound notes (Jumps expected first) is = tt
heard-sound notes (Tears id) is = tt

notes-sound : (notes : List Note) (known : Known) → SoundKnown known → SoundOutcome (with_notes notes known)
notes-sound notes known is =
    heard-sound notes (with_changes (dropped notes known).held (dropped notes known) (position known) (new_changes (position known) notes))
    (changes-sound (dropped notes known).held (dropped notes known) (position known) (new_changes (position known) notes) refl (by (is_drop (position known) notes)) (new-above (position known) notes))
  where
    by : (b : Bool) → SoundKnown (cond b (load_begun known) known)
    by true = tt
    by false = is

loaded-sound : (known : Known) (t : Outcome Held) → SoundTaken t → SoundOutcome (loaded known t)
loaded-sound known CannotBeRead is = tt
loaded-sound known (Jumps expected first) is = tt
loaded-sound known (Tears id) is = tt
loaded-sound known (Goes Idle) is = tt
loaded-sound known (Goes (Loads Begun)) is = tt
loaded-sound known (Goes (Loads HasToken)) is = tt
loaded-sound known (Goes (Loads (HasNumber number))) is = tt
loaded-sound known (Goes (Loads (HasRoot number root))) is = is
loaded-sound known (Goes (Loads (Lists number listing))) is = is
loaded-sound known (Goes (Loads (HasPage number listing page))) is = is
loaded-sound known (Goes (HasCopy number rows)) is =
    counted-sound number rows (record { held = HasCopy number rows; base = number; last_note = known.last_note; kept = []; happenings = [] }) number (changes_above number known.kept) refl is (above-filter number known.kept)

read-of-sound : (number : ℕ) (rows : List ObjectRow) (known : Known) (id : ℕ) (shown : List ObjectRow) → known.held ≡ HasCopy number rows → IsSound rows known.happenings
    → SoundOutcome (row_read known rows id shown)
read-of-sound number rows known id [] held sound = tt
read-of-sound number rows known id (row ∷ []) held sound = by (is_of id row (known_of id (rows_after rows known.happenings))) refl
  where
    by : (b : Bool) → is_of id row (known_of id (rows_after rows known.happenings)) ≡ b
        → SoundOutcome (cond b (Goes (record known { happenings = Reads id (record { content = row.content; object_update = row.object_update }) ∷ known.happenings })) (Tears id))
    by true e =
        subst (λ (h : Held). SoundHeld h (Reads id (record { content = row.content; object_update = row.object_update }) ∷ known.happenings)) (sym held)
        (read-sound rows known.happenings id row sound e)
    by false e = tt
read-of-sound number rows known id (row ∷ next ∷ others) held sound = tt

copy-read-sound : (number : ℕ) (rows : List ObjectRow) (known : Known) (o : Option ℕ) (shown : Shown) → known.held ≡ HasCopy number rows → IsSound rows known.happenings
    → SoundOutcome (copy_read known rows o shown)
copy-read-sound number rows known None shown held sound = tt
copy-read-sound number rows known (Some id) (Text token) held sound = tt
copy-read-sound number rows known (Some id) (Number n) held sound = tt
copy-read-sound number rows known (Some id) (Page shown total update) held sound = read-of-sound number rows known id shown held sound
copy-read-sound number rows known (Some id) (Fault code) held sound = subst (λ (h : Held). SoundHeld h known.happenings) (sym held) sound

reply-sound : (known : Known) (held : Held) (shown : Shown) → known.held ≡ held → SoundHeld held known.happenings → SoundOutcome (with_reply known held shown)
reply-sound known Idle shown e is = tt
reply-sound known (Loads stage) shown e is = loaded-sound known (taken (Loads stage) shown) (taken-sound (Loads stage) known.happenings shown is)
reply-sound known (HasCopy number rows) shown e is = copy-read-sound number rows known (least_unread known.happenings) shown e is

after-sound : (known : Known) (o : Outcome Known) → SoundKnown known → SoundOutcome o → SoundKnown (after_outcome known o)
after-sound known (Goes now) is then = then
after-sound known CannotBeRead is then = is
after-sound known (Jumps expected first) is then = is
after-sound known (Tears id) is then = is

pub turns-sound : (turns : List ReplicaTurn) → SoundKnown (known_by turns)
turns-sound [] = tt
turns-sound (Begins ∷ older) = tt
turns-sound (Shows shown ∷ older) =
    let before = turns-sound older in
    after-sound (known_by older) (with_reply (known_by older) (known_by older).held shown) before (reply-sound (known_by older) (known_by older).held shown refl before)
turns-sound (Requests ∷ older) = turns-sound older
turns-sound (Accepts name ∷ older) =
    let before = turns-sound older in
    after-sound (known_by older) (with_notes (taken_by (Accepts name) older) (known_by older)) before (notes-sound (taken_by (Accepts name) older) (known_by older) before)
turns-sound (Refuses ∷ older) = turns-sound older
turns-sound (Delivers note ∷ older) =
    let before = turns-sound older in
    after-sound (known_by older) (with_notes (taken_by (Delivers note) older) (known_by older)) before (notes-sound (taken_by (Delivers note) older) (known_by older) before)

-- where a copy stands after turns, what befell it is sound
pub copies-sound : (turns : List ReplicaTurn) (number : ℕ) (rows : List ObjectRow) → (known_by turns).held ≡ HasCopy number rows → IsSound rows (known_by turns).happenings
copies-sound turns number rows e = subst (λ (h : Held). SoundHeld h (known_by turns).happenings) e (turns-sound turns)

-- ---- where a load ends

-- the rows that a load ended with are the root's among others, all of different ids
pub ended-sound : (turns : List ReplicaTurn) (shown : Shown) (number : ℕ) (rows : List ObjectRow) → taken (known_by turns).held shown ≡ Goes (HasCopy number rows) → IsSound rows []
ended-sound turns shown number rows e =
    subst SoundTaken e (taken-sound (known_by turns).held (known_by turns).happenings shown (turns-sound turns))

-- what becomes of the changes that were kept meanwhile
pub ended-kept : (known : Known) (number : ℕ) (rows : List ObjectRow) → IsSound rows [] → count_of rows (load_ended known number rows) ≡ end_count rows number known.kept
ended-kept known number rows sound =
    count-kept rows (record { held = HasCopy number rows; base = number; last_note = known.last_note; kept = []; happenings = [] }) number
    (changes_above number known.kept) sound (above-filter number known.kept)
