-- Each change that was counted on a copy could be, and each read was of an object that stood, over every list of turns.
use Rattle.std.proofs.Common.{◌≡◌, ◌+◌, ℕ, Bool, true, false, cond, not, ◌&&◌, nat_eq, List, [], ◌∷◌, ◌++◌, Option, Some, None, refl, sym, subst}
use Rattle.cds_object.specs.Object.{ObjectRow, is_folder}
use Rattle.cds_object.specs.declared.event.Event.{Event}
use Rattle.cds_load.specs.declared.exchange.Shown.{Shown}
use Rattle.cds_load.specs.declared.exchange.Shown.TheVariants.{Text, Number, Page, Fault}
use Rattle.cds_load.specs.Stages.{Held, Idle, HasCopy, taken, Loads}
use Rattle.cds_commands.specs.Notes.{Note, changes_above}
use Rattle.cds_follow.specs.Copy.{KnownRow, Reads, rows_after, known_of, least_unread}
use Rattle.cds_follow.specs.Inbox.{ReplicaTurn, Begins, Shows, Requests, Accepts, Refuses, Delivers, taken_by}
use Rattle.cds_follow.specs.Follow.{Known, position, first_torn, judged, counted_from, with_changes, load_begun, new_changes, greatest_of, is_drop, dropped, heard_of, with_notes, loaded, is_of, row_read, copy_read, with_reply, known_by}
use Rattle.cds_follow.specs.ServerLaws.{befalling}
use Rattle.cds_follow.proofs.Happened.{Possible, possible-befalling}
use Rattle.cds_follow.proofs.Heard.{knows-is}
use Rattle.cds_object.specs.Events.{update_of}
use Rattle.cds_load.specs.Outcome.{Outcome, Goes, CannotBeRead, Jumps, Tears, after_outcome}

-- where a copy stands, all that befell it could be
abbrev On : Held → Known → Type 0
On Idle known = Unit {0}
On (Loads stage) known = Unit {0}
On (HasCopy number rows) known = Possible rows known.happenings

abbrev Could : Known → Type 0
Could known = On known.held known

could-by : (made now : Known) → Goes made ≡ Goes now → Could made → Could now
could-by made now e c = subst Could (knows-is made now e) c

-- no copy, or the same one with the same happenings
same-on : (held : Held) (known now : Known) → now.happenings ≡ known.happenings → On held known → On held now
same-on Idle known now e c = tt
same-on (Loads stage) known now e c = tt
same-on (HasCopy number rows) known now e c = subst (Possible rows) (sym e) c

counted-could : (number : ℕ) (rows : List ObjectRow) (known now : Known) (at : ℕ) (events : List Event) → known.held ≡ HasCopy number rows → Possible rows known.happenings
    → counted_from rows known at events ≡ Goes now → Could now
counted-could number rows known now at [] same c e = could-by known now e (subst (λ (h : Held). On h known) (sym same) c)
counted-could number rows known now at (event ∷ events) same c e = by (nat_eq (update_of event) (at + 1)) e
  where
    on : (o : Option ℕ) → first_torn (rows_after rows known.happenings) (event ∷ events) ≡ o → judged known (event ∷ events) o ≡ Goes now → Could now
    on (Some id) t k = absurd (cc)
    on None t k =
        could-by (record known { happenings = befalling (event ∷ events) ++ known.happenings }) now k
        (subst (λ (h : Held). On h (record known { happenings = befalling (event ∷ events) ++ known.happenings })) (sym same)
        (possible-befalling rows (event ∷ events) known.happenings c t))

    by : (b : Bool) → cond b (judged known (event ∷ events) (first_torn (rows_after rows known.happenings) (event ∷ events))) (Jumps (at + 1) (update_of event)) ≡ Goes now → Could now
    by true k = on (first_torn (rows_after rows known.happenings) (event ∷ events)) refl k
    by false k = absurd (cc)

changes-could : (held : Held) (known now : Known) (at : ℕ) (events : List Event) → known.held ≡ held → On held known → with_changes held known at events ≡ Goes now → Could now
changes-could Idle known now at events same c e = could-by known now e (subst (λ (h : Held). On h known) (sym same) tt)
changes-could (Loads stage) known now at events same c e = could-by (record known { kept = known.kept ++ events }) now e (subst (λ (h : Held). On h (record known { kept = known.kept ++ events })) (sym same) tt)
changes-could (HasCopy number rows) known now at events same c e = counted-could number rows known now at events same c e

notes-could : (notes : List Note) (known : Known) → Could known → Could (after_outcome known (with_notes notes known))
notes-could notes known c = on (with_changes (dropped notes known).held (dropped notes known) (position known) (new_changes (position known) notes)) refl
  where
    begun : (b : Bool) → Could (cond b (load_begun known) known)
    begun true = tt
    begun false = c

    on : (o : Outcome Known) → with_changes (dropped notes known).held (dropped notes known) (position known) (new_changes (position known) notes) ≡ o
        → Could (after_outcome known (heard_of notes o))
    on (Goes made) e =
        same-on made.held made (record made { last_note = greatest_of made.last_note notes }) refl
        (changes-could (dropped notes known).held (dropped notes known) made (position known) (new_changes (position known) notes) refl (begun (is_drop (position known) notes)) e)
    on CannotBeRead e = c
    on (Jumps expected first) e = c
    on (Tears id) e = c

loaded-could : (known now : Known) (t : Outcome Held) → loaded known t ≡ Goes now → Could now
loaded-could known now CannotBeRead e = absurd (cc)
loaded-could known now (Jumps expected first) e = absurd (cc)
loaded-could known now (Tears id) e = absurd (cc)
loaded-could known now (Goes held) e = by held e
  where
    by : (h : Held) → loaded known (Goes h) ≡ Goes now → Could now
    by Idle k = could-by (record known { held = Idle }) now k tt
    by (Loads stage) k = could-by (record known { held = Loads stage }) now k tt
    by (HasCopy number rows) k =
        counted-could number rows (record { held = HasCopy number rows; base = number; last_note = known.last_note; kept = []; happenings = [] }) now number (changes_above number known.kept) refl tt k

row-could : (known now : Known) (number : ℕ) (rows : List ObjectRow) (id : ℕ) (shown : List ObjectRow) → known.held ≡ HasCopy number rows → Possible rows known.happenings
    → row_read known rows id shown ≡ Goes now → Could now
row-could known now number rows id [] same c e = absurd (cc)
row-could known now number rows id (row ∷ next ∷ others) same c e = absurd (cc)
row-could known now number rows id (row ∷ []) same c e = by (known_of id (rows_after rows known.happenings)) refl e
  where
    made : Known
    made = record known { happenings = Reads id (record { content = row.content; object_update = row.object_update }) ∷ known.happenings }

    by : (o : Option KnownRow) → known_of id (rows_after rows known.happenings) ≡ o → cond (is_of id row o) (Goes made) (Tears id) ≡ Goes now → Could now
    by None f k = absurd (cc)
    by (Some before) f k = on (nat_eq row.id id && cond (is_folder row.content) before.folder (not before.folder)) k
      where
        on : (b : Bool) → cond b (Goes made) (Tears id) ≡ Goes now → Could now
        on true m = could-by made now m (subst (λ (h : Held). On h made) (sym same) ((before, f), c))
        on false m = absurd (cc)

copy-could : (known now : Known) (number : ℕ) (rows : List ObjectRow) (o : Option ℕ) (shown : Shown) → known.held ≡ HasCopy number rows → Possible rows known.happenings
    → copy_read known rows o shown ≡ Goes now → Could now
copy-could known now number rows None shown same c e = absurd (cc)
copy-could known now number rows (Some id) (Text token) same c e = absurd (cc)
copy-could known now number rows (Some id) (Number other) same c e = absurd (cc)
copy-could known now number rows (Some id) (Page shown total update) same c e = row-could known now number rows id shown same c e
copy-could known now number rows (Some id) (Fault code) same c e = could-by known now e (subst (λ (h : Held). On h known) (sym same) c)

reply-could : (known now : Known) (held : Held) (shown : Shown) → known.held ≡ held → On held known → with_reply known held shown ≡ Goes now → Could now
reply-could known now Idle shown same c e = absurd (cc)
reply-could known now (Loads stage) shown same c e = loaded-could known now (taken (Loads stage) shown) e
reply-could known now (HasCopy number rows) shown same c e = copy-could known now number rows (least_unread known.happenings) shown same c e

all-could : (turns : List ReplicaTurn) → Could (known_by turns)
all-could [] = tt
all-could (Begins ∷ older) = tt
all-could (Shows shown ∷ older) = by (with_reply (known_by older) (known_by older).held shown) refl (all-could older)
  where
    by : (o : Outcome Known) → with_reply (known_by older) (known_by older).held shown ≡ o → Could (known_by older) → Could (after_outcome (known_by older) o)
    by (Goes now) e c = reply-could (known_by older) now (known_by older).held shown refl c e
    by CannotBeRead e c = c
    by (Jumps expected first) e c = c
    by (Tears id) e c = c
all-could (Requests ∷ older) = all-could older
all-could (Accepts name ∷ older) = notes-could (taken_by (Accepts name) older) (known_by older) (all-could older)
all-could (Refuses ∷ older) = all-could older
all-could (Delivers note ∷ older) = notes-could (taken_by (Delivers note) older) (known_by older) (all-could older)

-- all that befell a copy could be
pub copies-possible : (turns : List ReplicaTurn) (number : ℕ) (rows : List ObjectRow) → (known_by turns).held ≡ HasCopy number rows → Possible rows (known_by turns).happenings
copies-possible turns number rows same = subst (λ (h : Held). On h (known_by turns)) same (all-could turns)
