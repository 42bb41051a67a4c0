-- Each row of a copy was shown by a reply, with its content and its objectUpdateID.
use Rattle.std.proofs.Common.{◌≡◌, ◌⊎◌, inl, inr, ◌+◌, ℕ, Bool, true, false, cond, not, ◌&&◌, ◌||◌, nat_eq, nat_lt, List, [], ◌∷◌, ◌++◌, map, filter, Option, Some, None, refl, sym, ap, ◌∙◌, subst, append_assoc, eqb-true}
use Rattle.std.specs.List.{AllByRecursion, filter_map}
use Rattle.std.specs.Option.{option_eq, option_map}
use Rattle.std.proofs.lemmas.List.{reverse-append}
use Rattle.cds_object.specs.Object.{ObjectRow, is_folder}
use Rattle.cds_object.specs.declared.row.Trackers.{Trackers}
use Rattle.cds_object.specs.declared.event.Event.{Event}
use Rattle.cds_object.specs.declared.event.Event.TheVariants.{ObjAdd, ObjMod, ObjDel, StDone}
use Rattle.cds_catalog.proofs.StepsFind.{none≢some, each-weaker, each-filter}
use Rattle.cds_load.specs.declared.exchange.Shown.{Shown}
use Rattle.cds_load.specs.declared.exchange.Shown.TheVariants.{Text, Number, Page, Fault}
use Rattle.cds_load.specs.Stages.{Held, Idle, HasCopy, taken, copied as load_copied, ReplicaTurn as LoadTurn, Begins as LoadBegins, Shows as LoadShows, Loads}
use Rattle.cds_load.specs.Seen.{rows_shown, HasVersion, WasShown as WasLoaded}
use Rattle.cds_load.proofs.Seen.{copied-shown}
use Rattle.cds_commands.specs.Notes.{Note, changes_above}
use Rattle.cds_follow.specs.Copy.{Version, KnownRow, known_row, shown_row, counted, added_row, put_known, changed, newer, read_anew, Happening, Changes, Reads, rows_after, counts_addition, counts_modification, counts_deletion, parent_in, known_of, least_unread}
use Rattle.cds_follow.specs.Inbox.{ReplicaTurn, Begins, Shows, Requests, Accepts, Refuses, Delivers, taken_by}
use Rattle.cds_follow.specs.Follow.{Known, position, first_torn, judged, counted_from, with_changes, load_begun, new_changes, is_drop, dropped, heard_of, with_notes, loaded, is_of, row_read, copy_read, with_reply, known_by, is_refused, rows_held}
use Rattle.cds_follow.specs.KnownLaws.{has_copy}
use Rattle.cds_follow.specs.ServerLaws.{befalling}
use Rattle.cds_follow.specs.LoadTurns.{load_turns}
use Rattle.cds_follow.specs.Seen.{WasShown, copied_rows_were_shown}
use Rattle.cds_follow.proofs.Heard.{knows-is}
use Rattle.cds_follow.proofs.LoadTurns.{loads-are-of-turns}
use Rattle.cds_object.specs.Events.{update_of}
use Rattle.cds_load.specs.Outcome.{Outcome, Goes, CannotBeRead, Jumps, Tears, after_outcome}

-- the row of an object, with a version of it
abbrev row_of_version : ℕ → Option ℕ → Version → Option Trackers → ObjectRow
row_of_version id parent v trackers = record { id = id; parent = parent; content = v.content; object_update = v.object_update; trackers = trackers }

-- a fact holds of what is known of an object; and of what a read showed
abbrev Knows_of : (ObjectRow → Type 0) → KnownRow → Type 0
Knows_of P row = (v : Version) → row.says ≡ Some v → P (row_of_version row.id row.parent v row.trackers)

abbrev Read_of : (ObjectRow → Type 0) → Happening → Type 0
Read_of P (Changes event) = Unit {0}
Read_of P (Reads id v) = P (row_of_version id None v None)

-- ---- a copy's rows, where a fact speaks of ids, contents and objectUpdateIDs alone

module _ (P : ObjectRow → Type 0)
    (alike : (a b : ObjectRow) → a.id ≡ b.id → a.content ≡ b.content → a.object_update ≡ b.object_update → P a → P b) where
  abbrev Holds_of : KnownRow → Type 0
  Holds_of = Knows_of P

  version-is : (a b : Version) → Some a ≡ Some b → a ≡ b
  version-is a b e = cc

  whole : (rows : List ObjectRow) → AllByRecursion P rows → AllByRecursion Holds_of (map known_row rows)
  whole [] all = tt
  whole (row ∷ rows) all = (one, whole rows all.1)
    where
      one : Holds_of (known_row row)
      one v e =
          let is = version-is (record { content = row.content; object_update = row.object_update }) v e in
          alike row (row_of_version row.id row.parent v row.trackers) refl (ap (λ (w : Version). w.content) is) (ap (λ (w : Version). w.object_update) is) all.0

  counted-holds : (count : Trackers → Trackers) (parent : Option ℕ) (rows : List KnownRow) → AllByRecursion Holds_of rows → AllByRecursion Holds_of (counted count parent rows)
  counted-holds count parent [] all = tt
  counted-holds count parent (row ∷ rows) all = (by (option_eq nat_eq (Some row.id) parent), counted-holds count parent rows all.1)
    where
      by : (b : Bool) → Holds_of (cond b (record row { trackers = option_map count row.trackers }) row)
      by true = λ v e. alike (row_of_version row.id row.parent v row.trackers) (row_of_version row.id row.parent v (option_map count row.trackers)) refl refl refl (all.0 v e)
      by false = all.0

  put-holds : (row : KnownRow) (rows : List KnownRow) → Holds_of row → AllByRecursion Holds_of rows → AllByRecursion Holds_of (put_known row rows)
  put-holds row [] this all = (this, tt)
  put-holds row (next ∷ rows) this all = by (nat_lt row.id next.id) (put-holds row rows this all.1)
    where
      by : (b : Bool) → AllByRecursion Holds_of (put_known row rows) → AllByRecursion Holds_of (cond b (row ∷ next ∷ rows) (next ∷ put_known row rows))
      by true rest = (this, all)
      by false rest = (all.0, rest)

  changed-holds : (rows : List KnownRow) (event : Event) → AllByRecursion Holds_of rows → AllByRecursion Holds_of (changed rows event)
  changed-holds rows (ObjAdd id number st parent class) all =
      put-holds (added_row id number parent class) (counted (counts_addition number) (Some parent) rows) (λ v e. none≢some None v refl e)
      (counted-holds (counts_addition number) (Some parent) rows all)
  changed-holds rows (ObjMod id number st) all = counted-holds (counts_modification number) (parent_in id rows) rows all
  changed-holds rows (ObjDel id number st) all =
      counted-holds (counts_deletion number) (parent_in id rows) (filter (λ (row : KnownRow). not (nat_eq row.id id)) rows)
      (each-filter Holds_of (λ (row : KnownRow). not (nat_eq row.id id)) rows all)
  changed-holds rows (StDone id number) all = all

  read-holds : (rows : List KnownRow) (id : ℕ) (v : Version) → P (row_of_version id None v None) → AllByRecursion Holds_of rows → AllByRecursion Holds_of (read_anew rows id v)
  read-holds [] id v this all = tt
  read-holds (row ∷ rows) id v this all = (by (nat_eq row.id id) refl, read-holds rows id v this all.1)
    where
      here : row.id ≡ id → (w : Version) → Some v ≡ Some w → P (row_of_version row.id row.parent w row.trackers)
      here same w e =
          let is = version-is v w e in
          alike (row_of_version id None v None) (row_of_version row.id row.parent w row.trackers) (sym same) (ap (λ (x : Version). x.content) is) (ap (λ (x : Version). x.object_update) is) this

      on : row.id ≡ id → (o : Option Version) → row.says ≡ o → (w : Version) → Some (newer v o) ≡ Some w → P (row_of_version row.id row.parent w row.trackers)
      on same None s w e = here same w e
      on same (Some before) s w e = pick (nat_lt v.object_update before.object_update) e
        where
          pick : (b : Bool) → Some (cond b before v) ≡ Some w → P (row_of_version row.id row.parent w row.trackers)
          pick true f = all.0 w (s ∙ f)
          pick false f = here same w f

      by : (b : Bool) → nat_eq row.id id ≡ b → Holds_of (cond b (record row { says = Some (newer v row.says) }) row)
      by true s = λ w e. on (eqb-true row.id id s) row.says refl w e
      by false s = all.0

  after-holds : (rows : List ObjectRow) (happenings : List Happening) → AllByRecursion P rows → AllByRecursion (Read_of P) happenings → AllByRecursion Holds_of (rows_after rows happenings)
  after-holds rows [] all reads = whole rows all
  after-holds rows (Changes event ∷ older) all reads = changed-holds (rows_after rows older) event (after-holds rows older all reads.1)
  after-holds rows (Reads id v ∷ older) all reads = read-holds (rows_after rows older) id v reads.0 (after-holds rows older all reads.1)

  shown-holds : (rows : List KnownRow) → AllByRecursion Holds_of rows → AllByRecursion P (filter_map shown_row rows)
  shown-holds [] all = tt
  shown-holds (row ∷ rows) all = by row.says refl (shown-holds rows all.1)
    where
      shown : Option Version → Option ObjectRow
      shown o = option_map (λ (v : Version). row_of_version row.id row.parent v row.trackers) o

      by : (o : Option Version) → row.says ≡ o → AllByRecursion P (filter_map shown_row rows) → AllByRecursion P (filter_map shown_row (row ∷ rows))
      by None e rest = rw e rest
      by (Some v) e rest = rw e (all.0 v e, rest)

-- ---- what replies showed

has-alike : (a b : ObjectRow) → a.id ≡ b.id → a.content ≡ b.content → a.object_update ≡ b.object_update → (rows : List ObjectRow) → HasVersion a rows → HasVersion b rows
has-alike a b same content update [] h = h
has-alike a b same content update (row ∷ rows) (inl h) = inl (h.0 ∙ same, h.1 ∙ content, h.2 ∙ update)
has-alike a b same content update (row ∷ rows) (inr h) = inr (has-alike a b same content update rows h)

was-alike : (turns : List ReplicaTurn) (a b : ObjectRow) → a.id ≡ b.id → a.content ≡ b.content → a.object_update ≡ b.object_update → WasShown a turns → WasShown b turns
was-alike [] a b same content update w = w
was-alike (Begins ∷ older) a b same content update w = was-alike older a b same content update w
was-alike (Shows shown ∷ older) a b same content update (inl h) = inl (has-alike a b same content update (rows_shown shown) h)
was-alike (Shows shown ∷ older) a b same content update (inr w) = inr (was-alike older a b same content update w)
was-alike (Requests ∷ older) a b same content update w = was-alike older a b same content update w
was-alike (Accepts name ∷ older) a b same content update w = was-alike older a b same content update w
was-alike (Refuses ∷ older) a b same content update w = was-alike older a b same content update w
was-alike (Delivers note ∷ older) a b same content update w = was-alike older a b same content update w

either : (b : Bool) (row : ObjectRow) (turns : List LoadTurn) → WasLoaded row (cond b (LoadBegins ∷ turns) turns) → WasLoaded row turns
either true row turns w = w
either false row turns w = w

-- what a turn of a load showed
was-loaded : (turns : List ReplicaTurn) (row : ObjectRow) → WasLoaded row (load_turns turns) → WasShown row turns
was-loaded [] row w = w
was-loaded (Begins ∷ older) row w = was-loaded older row w
was-loaded (Shows shown ∷ older) row w = by (has_copy (known_by older).held || is_refused (Shows shown) older) w (λ was. was-loaded older row was)
  where
    by : (b : Bool) → WasLoaded row (cond b (load_turns older) (LoadShows shown ∷ load_turns older)) → (WasLoaded row (load_turns older) → WasShown row older)
        → HasVersion row (rows_shown shown) ⊎ WasShown row older
    by true w r = inr (r w)
    by false (inl h) r = inl h
    by false (inr w) r = inr (r w)
was-loaded (Requests ∷ older) row w = was-loaded older row w
was-loaded (Accepts name ∷ older) row w = was-loaded older row (either (is_drop (position (known_by older)) (taken_by (Accepts name) older)) row (load_turns older) w)
was-loaded (Refuses ∷ older) row w = was-loaded older row w
was-loaded (Delivers note ∷ older) row w = was-loaded older row (either (is_drop (position (known_by older)) (taken_by (Delivers note) older)) row (load_turns older) w)

-- ---- what was read of a copy's objects

module _ (P : ObjectRow → Type 0) where
  abbrev AreRead : Known → Type 0
  AreRead known = AllByRecursion (Read_of P) known.happenings

  read-by : (made now : Known) → Goes made ≡ Goes now → AreRead made → AreRead now
  read-by made now e r = subst AreRead (knows-is made now e) r

  befalling-read : (events : List Event) (older : List Happening) → AllByRecursion (Read_of P) older → AllByRecursion (Read_of P) (befalling events ++ older)
  befalling-read [] older r = r
  befalling-read (event ∷ events) older r =
      subst (AllByRecursion (Read_of P))
      (sym (ap (λ (l : List Happening). l ++ older) (reverse-append (Changes event ∷ []) (map Changes events))
      ∙ append_assoc (befalling events) (Changes event ∷ []) older))
      (befalling-read events (Changes event ∷ older) (tt, r))

  counted-read : (rows : List ObjectRow) (known now : Known) (at : ℕ) (events : List Event) → AreRead known → counted_from rows known at events ≡ Goes now → AreRead now
  counted-read rows known now at [] r e = read-by known now e r
  counted-read rows known now at (event ∷ events) r e = by (nat_eq (update_of event) (at + 1)) e
    where
      on : (o : Option ℕ) → judged known (event ∷ events) o ≡ Goes now → AreRead now
      on (Some id) k = absurd (cc)
      on None k = read-by (record known { happenings = befalling (event ∷ events) ++ known.happenings }) now k (befalling-read (event ∷ events) known.happenings r)

      by : (b : Bool) → cond b (judged known (event ∷ events) (first_torn (rows_after rows known.happenings) (event ∷ events))) (Jumps (at + 1) (update_of event)) ≡ Goes now → AreRead now
      by true k = on (first_torn (rows_after rows known.happenings) (event ∷ events)) k
      by false k = absurd (cc)

  changes-read : (held : Held) (known now : Known) (at : ℕ) (events : List Event) → AreRead known → with_changes held known at events ≡ Goes now → AreRead now
  changes-read Idle known now at events r e = read-by known now e r
  changes-read (Loads stage) known now at events r e = read-by (record known { kept = known.kept ++ events }) now e r
  changes-read (HasCopy number rows) known now at events r e = counted-read rows known now at events r e

  notes-read : (notes : List Note) (known : Known) → AreRead known → AreRead (after_outcome known (with_notes notes known))
  notes-read notes known r = on (with_changes (dropped notes known).held (dropped notes known) (position known) (new_changes (position known) notes)) refl
    where
      begun : (b : Bool) → AreRead (cond b (load_begun known) known)
      begun true = tt
      begun false = r

      on : (o : Outcome Known) → with_changes (dropped notes known).held (dropped notes known) (position known) (new_changes (position known) notes) ≡ o
          → AreRead (after_outcome known (heard_of notes o))
      on (Goes made) e = changes-read (dropped notes known).held (dropped notes known) made (position known) (new_changes (position known) notes) (begun (is_drop (position known) notes)) e
      on CannotBeRead e = r
      on (Jumps expected first) e = r
      on (Tears id) e = r

  loaded-read : (known now : Known) (t : Outcome Held) → AreRead known → loaded known t ≡ Goes now → AreRead now
  loaded-read known now CannotBeRead r e = absurd (cc)
  loaded-read known now (Jumps expected first) r e = absurd (cc)
  loaded-read known now (Tears id) r e = absurd (cc)
  loaded-read known now (Goes held) r e = by held e
    where
      by : (h : Held) → loaded known (Goes h) ≡ Goes now → AreRead now
      by Idle k = read-by (record known { held = Idle }) now k r
      by (Loads stage) k = read-by (record known { held = Loads stage }) now k r
      by (HasCopy number rows) k =
          counted-read rows (record { held = HasCopy number rows; base = number; last_note = known.last_note; kept = []; happenings = [] }) now number (changes_above number known.kept) tt k

-- a reply to a read of an object shows it
module _ (older : List ReplicaTurn) (shown : Shown) where
  abbrev Now : ObjectRow → Type 0
  Now row = WasShown row (Shows shown ∷ older)

  abbrev AreNow : Known → Type 0
  AreNow known = AllByRecursion (Read_of Now) known.happenings

  row-now : (known now : Known) (rows : List ObjectRow) (id : ℕ) (page : List ObjectRow) → AreNow known → ((row : ObjectRow) → HasVersion row page → Now row)
      → row_read known rows id page ≡ Goes now → AreNow now
  row-now known now rows id [] r here e = absurd (cc)
  row-now known now rows id (row ∷ next ∷ others) r here e = absurd (cc)
  row-now known now rows id (row ∷ []) r here e = by (known_of id (rows_after rows known.happenings)) e
    where
      v : Version
      v = record { content = row.content; object_update = row.object_update }

      made : Known
      made = record known { happenings = Reads id v ∷ known.happenings }

      on : (b c : Bool) → nat_eq row.id id ≡ b → cond (b && c) (Goes made) (Tears id) ≡ Goes now → AreNow now
      on true true s k = read-by Now made now k (here (row_of_version id None v None) (inl (eqb-true row.id id s, refl, refl)), r)
      on true false s k = absurd (cc)
      on false c s k = absurd (cc)

      by : (o : Option KnownRow) → cond (is_of id row o) (Goes made) (Tears id) ≡ Goes now → AreNow now
      by None k = absurd (cc)
      by (Some before) k = on (nat_eq row.id id) (cond (is_folder row.content) before.folder (not before.folder)) refl k

  copy-now : (known now : Known) (rows : List ObjectRow) (o : Option ℕ) (s : Shown) → AreNow known → ((row : ObjectRow) → HasVersion row (rows_shown s) → Now row)
      → copy_read known rows o s ≡ Goes now → AreNow now
  copy-now known now rows None s r here e = absurd (cc)
  copy-now known now rows (Some id) (Text token) r here e = absurd (cc)
  copy-now known now rows (Some id) (Number number) r here e = absurd (cc)
  copy-now known now rows (Some id) (Page page total update) r here e = row-now known now rows id page r here e
  copy-now known now rows (Some id) (Fault code) r here e = read-by Now known now e r

  reply-now : (known now : Known) (held : Held) → AreNow known → with_reply known held shown ≡ Goes now → AreNow now
  reply-now known now Idle r e = absurd (cc)
  reply-now known now (Loads stage) r e = loaded-read Now known now (taken (Loads stage) shown) r e
  reply-now known now (HasCopy number rows) r e = copy-now known now rows (least_unread known.happenings) shown r (λ row h. inl h) e

  shown-now : (known : Known) → AreNow known → AreNow (after_outcome known (with_reply known known.held shown))
  shown-now known r = by (with_reply known known.held shown) refl
    where
      by : (o : Outcome Known) → with_reply known known.held shown ≡ o → AreNow (after_outcome known o)
      by (Goes now) e = reply-now known now known.held r e
      by CannotBeRead e = r
      by (Jumps expected first) e = r
      by (Tears id) e = r

read-more : (P Q : ObjectRow → Type 0) → ((row : ObjectRow) → P row → Q row) → (happening : Happening) → Read_of P happening → Read_of Q happening
read-more P Q f (Changes event) r = tt
read-more P Q f (Reads id v) r = f (row_of_version id None v None) r

abbrev WasAll : List ReplicaTurn → ObjectRow → Type 0
WasAll turns row = WasShown row turns

reads-shown : (turns : List ReplicaTurn) → AllByRecursion (Read_of (WasAll turns)) (known_by turns).happenings
reads-shown [] = tt
reads-shown (Begins ∷ older) = tt
reads-shown (Shows shown ∷ older) =
    shown-now older shown (known_by older)
    (each-weaker (Read_of (WasAll older)) (Read_of (WasAll (Shows shown ∷ older))) (read-more (WasAll older) (WasAll (Shows shown ∷ older)) (λ row w. inr w))
    (known_by older).happenings (reads-shown older))
reads-shown (Requests ∷ older) = reads-shown older
reads-shown (Accepts name ∷ older) = notes-read (WasAll older) (taken_by (Accepts name) older) (known_by older) (reads-shown older)
reads-shown (Refuses ∷ older) = reads-shown older
reads-shown (Delivers note ∷ older) = notes-read (WasAll older) (taken_by (Delivers note) older) (known_by older) (reads-shown older)

pub copies-shown : copied_rows_were_shown
copies-shown turns = by (known_by turns).held refl
  where
    loaded-rows : (number : ℕ) (rows : List ObjectRow) → (known_by turns).held ≡ HasCopy number rows → AllByRecursion (WasAll turns) rows
    loaded-rows number rows same =
        each-weaker (λ (row : ObjectRow). WasLoaded row (load_turns turns)) (WasAll turns) (was-loaded turns) rows
        (subst (λ (h : Held). AllByRecursion (λ (row : ObjectRow). WasLoaded row (load_turns turns)) (load_copied h)) (sym (loads-are-of-turns turns) ∙ same)
        (copied-shown (load_turns turns)))

    by : (held : Held) → (known_by turns).held ≡ held → AllByRecursion (WasAll turns) (rows_held held (known_by turns).happenings)
    by Idle e = tt
    by (Loads stage) e = tt
    by (HasCopy number rows) e =
        shown-holds (WasAll turns) (was-alike turns) (rows_after rows (known_by turns).happenings)
        (after-holds (WasAll turns) (was-alike turns) rows (known_by turns).happenings (loaded-rows number rows e) (reads-shown turns))
