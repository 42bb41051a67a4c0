-- What notes and replies leave of what is known: the load, the number that it began from, and the greatest number last_note.
use Rattle.std.proofs.Common.{◌≡◌, ◌+◌, ℕ, Bool, true, false, cond, nat_eq, List, [], ◌∷◌, ◌++◌, map, reverse, Option, Some, None, refl, sym, ap, ◌∙◌}
use Rattle.cds_object.specs.Object.{ObjectRow}
use Rattle.cds_object.specs.declared.event.Event.{Event}
use Rattle.cds_load.specs.declared.exchange.Shown.{Shown}
use Rattle.cds_load.specs.declared.exchange.Shown.TheVariants.{Text, Number, Page, Fault}
use Rattle.cds_load.specs.Stages.{Held, Idle, HasCopy, taken, Loads}
use Rattle.cds_commands.specs.Notes.{Note, changes_above}
use Rattle.cds_follow.specs.Copy.{Changes, Reads, rows_after, known_of, least_unread}
use Rattle.cds_follow.specs.Follow.{Known, position, first_torn, judged, counted_from, with_changes, load_begun, new_changes, greatest_of, is_drop, dropped, heard_of, with_notes, loaded, is_of, row_read, copy_read, with_reply}
use Rattle.cds_object.specs.Events.{update_of}
use Rattle.cds_load.specs.Outcome.{Outcome, Goes, CannotBeRead, Jumps, Tears}

pub knows-is : (a b : Known) → Goes a ≡ Goes b → a ≡ b
knows-is a b e = cc

-- the load or copy, the number of the last load that ended, and the greatest number last_note stay
abbrev pub Stays : Known → Known → Type 0
Stays known now = (now.held ≡ known.held) × (now.base ≡ known.base) × (now.last_note ≡ known.last_note)

stays-by : (known made now : Known) → Goes made ≡ Goes now → Stays known made → Stays known now
stays-by known made now e s =
    let same : made ≡ now = knows-is made now e in (
      ap (λ (x : Known). x.held) (sym same) ∙ s.0,
      ap (λ (x : Known). x.base) (sym same) ∙ s.1,
      ap (λ (x : Known). x.last_note) (sym same) ∙ s.2,
    )

pub counted-stays : (rows : List ObjectRow) (known now : Known) (at : ℕ) (events : List Event) → counted_from rows known at events ≡ Goes now → Stays known now
counted-stays rows known now at [] e = stays-by known known now e (refl, refl, refl)
counted-stays rows known now at (event ∷ events) e = by (nat_eq (update_of event) (at + 1)) e
  where
    on : (o : Option ℕ) → judged known (event ∷ events) o ≡ Goes now → Stays known now
    on (Some id) k = absurd (cc)
    on None k = stays-by known (record known { happenings = reverse (map Changes (event ∷ events)) ++ known.happenings }) now k (refl, refl, refl)

    by : (b : Bool) → cond b (judged known (event ∷ events) (first_torn (rows_after rows known.happenings) (event ∷ events))) (Jumps (at + 1) (update_of event)) ≡ Goes now → Stays known now
    by true k = on (first_torn (rows_after rows known.happenings) (event ∷ events)) k
    by false k = absurd (cc)

pub changes-stay : (held : Held) (known now : Known) (at : ℕ) (events : List Event) → with_changes held known at events ≡ Goes now → Stays known now
changes-stay Idle known now at events e = stays-by known known now e (refl, refl, refl)
changes-stay (Loads stage) known now at events e = stays-by known (record known { kept = known.kept ++ events }) now e (refl, refl, refl)
changes-stay (HasCopy number rows) known now at events e = counted-stays rows known now at events e

-- what notes that are taken leave: all but the greatest number, of what is known once a first note dropped the copy
pub notes-leave : (notes : List Note) (known now : Known) → with_notes notes known ≡ Goes now
    → (now.held ≡ (dropped notes known).held) × (now.base ≡ (dropped notes known).base) × (now.last_note ≡ greatest_of (dropped notes known).last_note notes)
notes-leave notes known now e =
    by (with_changes (dropped notes known).held (dropped notes known) (position known) (new_changes (position known) notes)) refl e
  where
    by : (o : Outcome Known) → with_changes (dropped notes known).held (dropped notes known) (position known) (new_changes (position known) notes) ≡ o → heard_of notes o ≡ Goes now
        → (now.held ≡ (dropped notes known).held) × (now.base ≡ (dropped notes known).base) × (now.last_note ≡ greatest_of (dropped notes known).last_note notes)
    by (Goes made) k h =
        let s = changes-stay (dropped notes known).held (dropped notes known) made (position known) (new_changes (position known) notes) k in
        let same : record made { last_note = greatest_of made.last_note notes } ≡ now = knows-is (record made { last_note = greatest_of made.last_note notes }) now h in (
          ap (λ (x : Known). x.held) (sym same) ∙ s.0,
          ap (λ (x : Known). x.base) (sym same) ∙ s.1,
          ap (λ (x : Known). x.last_note) (sym same) ∙ ap (λ (n : ℕ). greatest_of n notes) s.2,
        )
    by CannotBeRead k h = absurd (cc)
    by (Jumps expected first) k h = absurd (cc)
    by (Tears id) k h = absurd (cc)

pub dropped-heard : (notes : List Note) (known : Known) → (dropped notes known).last_note ≡ known.last_note
dropped-heard notes known = by (is_drop (position known) notes)
  where
    by : (b : Bool) → (cond b (load_begun known) known).last_note ≡ known.last_note
    by true = refl
    by false = refl

pub notes-heard : (notes : List Note) (known now : Known) → with_notes notes known ≡ Goes now → now.last_note ≡ greatest_of known.last_note notes
notes-heard notes known now e = (notes-leave notes known now e).2 ∙ ap (λ (n : ℕ). greatest_of n notes) (dropped-heard notes known)

-- ---- replies

loaded-heard : (known now : Known) (t : Outcome Held) → loaded known t ≡ Goes now → now.last_note ≡ known.last_note
loaded-heard known now CannotBeRead e = absurd (cc)
loaded-heard known now (Jumps expected first) e = absurd (cc)
loaded-heard known now (Tears id) e = absurd (cc)
loaded-heard known now (Goes held) e = by held e
  where
    made : (held : Held) → Goes (record known { held = held }) ≡ Goes now → now.last_note ≡ known.last_note
    made held k = ap (λ (x : Known). x.last_note) (sym (knows-is (record known { held = held }) now k))

    by : (held : Held) → loaded known (Goes held) ≡ Goes now → now.last_note ≡ known.last_note
    by Idle k = made Idle k
    by (Loads stage) k = made (Loads stage) k
    by (HasCopy number rows) k =
        (counted-stays rows (record { held = HasCopy number rows; base = number; last_note = known.last_note; kept = []; happenings = [] }) now number (changes_above number known.kept) k).2

row-heard : (known now : Known) (rows : List ObjectRow) (id : ℕ) (shown : List ObjectRow) → row_read known rows id shown ≡ Goes now → now.last_note ≡ known.last_note
row-heard known now rows id [] e = absurd (cc)
row-heard known now rows id (row ∷ next ∷ others) e = absurd (cc)
row-heard known now rows id (row ∷ []) e = by (is_of id row (known_of id (rows_after rows known.happenings))) e
  where
    by : (b : Bool)
        → cond b (Goes (record known { happenings = Reads id (record { content = row.content; object_update = row.object_update }) ∷ known.happenings })) (Tears id) ≡ Goes now
        → now.last_note ≡ known.last_note
    by true k =
        ap (λ (x : Known). x.last_note) (sym (knows-is (record known { happenings = Reads id (record { content = row.content; object_update = row.object_update }) ∷ known.happenings }) now k))
    by false k = absurd (cc)

copy-heard : (known now : Known) (rows : List ObjectRow) (o : Option ℕ) (shown : Shown) → copy_read known rows o shown ≡ Goes now → now.last_note ≡ known.last_note
copy-heard known now rows None shown e = absurd (cc)
copy-heard known now rows (Some id) (Text token) e = absurd (cc)
copy-heard known now rows (Some id) (Number number) e = absurd (cc)
copy-heard known now rows (Some id) (Page shown total update) e = row-heard known now rows id shown e
copy-heard known now rows (Some id) (Fault code) e = ap (λ (x : Known). x.last_note) (sym (knows-is known now e))

pub reply-heard : (known now : Known) (held : Held) (shown : Shown) → with_reply known held shown ≡ Goes now → now.last_note ≡ known.last_note
reply-heard known now Idle shown e = absurd (cc)
reply-heard known now (Loads stage) shown e = loaded-heard known now (taken (Loads stage) shown) e
reply-heard known now (HasCopy number rows) shown e = copy-heard known now rows (least_unread known.happenings) shown e
