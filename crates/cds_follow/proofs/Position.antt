-- The position and the changes that were counted, over every list of turns.
use Rattle.std.proofs.Common.{◌≡◌, ◌+◌, ◌≤◌, ℕ, max, Bool, true, false, cond, ◌&&◌, nat_eq, nat_lt, List, [], ◌∷◌, ◌++◌, map, reverse, Option, Some, None, refl, sym, ap, ◌∙◌, subst, arith, append_assoc, lt-ltb, ltb-true}
use Rattle.std.proofs.lemmas.List.{append-nil, reverse-append}
use Rattle.std.proofs.lemmas.List.Elements.{filter-append}
use Rattle.cds_object.specs.Object.{ObjectRow}
use Rattle.cds_object.specs.declared.event.Event.{Event}
use Rattle.cds_load.specs.declared.exchange.Shown.{Shown}
use Rattle.cds_load.specs.declared.exchange.Shown.TheVariants.{Text, Number, Page, Fault}
use Rattle.cds_load.specs.Stages.{Held, Idle, HasCopy, taken, Loads}
use Rattle.cds_commands.specs.Notes.{Note, changes_above}
use Rattle.cds_follow.specs.Copy.{Happening, Changes, Reads, rows_after, known_of, least_unread}
use Rattle.cds_follow.specs.Inbox.{ReplicaTurn, Begins, Shows, Requests, Accepts, Refuses, Delivers, taken_by}
use Rattle.cds_follow.specs.Follow.{Known, position, first_torn, judged, counted_from, with_changes, load_begun, new_changes, greatest_of, is_drop, dropped, heard_of, with_notes, loaded, is_of, row_read, copy_read, with_reply, known_by}
use Rattle.cds_follow.specs.ServerLaws.{befalling}
use Rattle.cds_follow.specs.KnownLaws.{taken_notes, and_told, told_since, counted_changes, position_is_the_greatest, counted_changes_are_fresh, notes_leave_the_load}
use Rattle.cds_follow.proofs.Heard.{knows-is, notes-leave, notes-heard, reply-heard}
use Rattle.cds_object.specs.Events.{update_of, is_change}
use Rattle.cds_load.specs.Outcome.{Outcome, Goes, CannotBeRead, Jumps, Tears, after_outcome, is_no}

-- ---- the position

greatest-append : (n : ℕ) (notes others : List Note) → greatest_of n (notes ++ others) ≡ greatest_of (greatest_of n notes) others
greatest-append n [] others = refl
greatest-append n (note ∷ notes) others = greatest-append (max n note.number) notes others

same-either : (b : Bool) → cond {A = List Note} b [] [] ≡ []
same-either true = refl
same-either false = refl

-- a turn that takes no note leaves the notes that were taken
none-taken : (b : Bool) (notes : List Note) → greatest_of 0 (notes ++ cond {A = List Note} b [] []) ≡ greatest_of 0 notes
none-taken b notes = ap (λ (l : List Note). greatest_of 0 (notes ++ l)) (same-either b) ∙ ap (greatest_of 0) (append-nil notes)

notes-greatest : (known : Known) (before notes : List Note) → known.last_note ≡ greatest_of 0 before
    → (after_outcome known (with_notes notes known)).last_note ≡ greatest_of 0 (before ++ cond (is_no (with_notes notes known)) [] notes)
notes-greatest known before notes is = by (with_notes notes known) refl
  where
    by : (o : Outcome Known) → with_notes notes known ≡ o → (after_outcome known o).last_note ≡ greatest_of 0 (before ++ cond (is_no o) [] notes)
    by (Goes now) e =
        notes-heard notes known now e ∙ ap (λ (n : ℕ). greatest_of n notes) is ∙ sym (greatest-append 0 before notes)
    by CannotBeRead e = is ∙ ap (greatest_of 0) (sym (append-nil before))
    by (Jumps expected first) e = is ∙ ap (greatest_of 0) (sym (append-nil before))
    by (Tears id) e = is ∙ ap (greatest_of 0) (sym (append-nil before))

heard-greatest : (turns : List ReplicaTurn) → (known_by turns).last_note ≡ greatest_of 0 (taken_notes turns)
heard-greatest [] = refl
heard-greatest (Begins ∷ older) = heard-greatest older ∙ sym (none-taken (is_no (with_notes [] (known_by older))) (taken_notes older))
heard-greatest (Shows shown ∷ older) =
    by (with_reply (known_by older) (known_by older).held shown) refl ∙ heard-greatest older ∙ sym (none-taken (is_no (with_notes [] (known_by older))) (taken_notes older))
  where
    by : (o : Outcome Known) → with_reply (known_by older) (known_by older).held shown ≡ o → (after_outcome (known_by older) o).last_note ≡ (known_by older).last_note
    by (Goes now) e = reply-heard (known_by older) now (known_by older).held shown e
    by CannotBeRead e = refl
    by (Jumps expected first) e = refl
    by (Tears id) e = refl
heard-greatest (Requests ∷ older) = heard-greatest older ∙ sym (none-taken (is_no (with_notes [] (known_by older))) (taken_notes older))
heard-greatest (Accepts name ∷ older) = notes-greatest (known_by older) (taken_notes older) (taken_by (Accepts name) older) (heard-greatest older)
heard-greatest (Refuses ∷ older) = heard-greatest older ∙ sym (none-taken (is_no (with_notes [] (known_by older))) (taken_notes older))
heard-greatest (Delivers note ∷ older) = notes-greatest (known_by older) (taken_notes older) (taken_by (Delivers note) older) (heard-greatest older)

pub position-greatest : position_is_the_greatest
position-greatest turns = ap (max (known_by turns).base) (heard-greatest turns)

-- ---- the load

pub leave-load : notes_leave_the_load
leave-load notes known now e kept =
    let left = notes-leave notes known now e in
    let same : dropped notes known ≡ known = λ i. cond (kept i) (load_begun known) known in
    (left.0 ∙ ap (λ (x : Known). x.held) same, left.1 ∙ ap (λ (x : Known). x.base) same)

-- ---- the changes that were counted

counted-befalling : (events : List Event) (older : List Happening) → counted_changes (befalling events ++ older) ≡ counted_changes older ++ events
counted-befalling [] older = sym (append-nil (counted_changes older))
counted-befalling (event ∷ events) older =
    ap (λ (l : List Happening). counted_changes (l ++ older)) (reverse-append (Changes event ∷ []) (map Changes events))
    ∙ ap counted_changes (append_assoc (befalling events) (Changes event ∷ []) older)
    ∙ counted-befalling events (Changes event ∷ older)
    ∙ append_assoc (counted_changes older) (event ∷ []) events

-- changes above a number are above each that is not above it
above-again : (b at : ℕ) (events : List Event) → b ≤ at → changes_above b (changes_above at events) ≡ changes_above at events
above-again b at [] l = refl
above-again b at (event ∷ events) l = by (is_change event) (nat_lt at (update_of event)) refl refl (above-again b at events l)
  where
    by : (c d : Bool) → is_change event ≡ c → nat_lt at (update_of event) ≡ d → changes_above b (changes_above at events) ≡ changes_above at events
        → changes_above b (cond (c && d) (event ∷ changes_above at events) (changes_above at events)) ≡ cond (c && d) (event ∷ changes_above at events) (changes_above at events)
    by true true e f r =
        let high = ltb-true at (update_of event) f in
        (λ i. cond (e i && lt-ltb b (update_of event) (omega (arith, high, l)) i) (event ∷ changes_above b (changes_above at events)) (changes_above b (changes_above at events)))
        ∙ ap (λ (x : List Event). event ∷ x) r
    by true false e f r = r
    by false d e f r = r

above-new : (b at : ℕ) (notes : List Note) → b ≤ at → changes_above b (new_changes at notes) ≡ new_changes at notes
above-new b at [] l = refl
above-new b at (note ∷ notes) l =
    filter-append (λ (event : Event). is_change event && nat_lt b (update_of event)) (changes_above at note.events) (new_changes (max at note.number) notes)
    ∙ ap (λ (x : List Event). x ++ changes_above b (new_changes (max at note.number) notes)) (above-again b at note.events l)
    ∙ ap (λ (x : List Event). changes_above at note.events ++ x) (above-new b (max at note.number) notes (omega (arith, l)))

-- what was counted or is kept, by the stage of the load
abbrev Counts : Held → Known → List Event → Type 0
Counts Idle known told = Unit {0}
Counts (Loads stage) known told = known.kept ≡ told
Counts (HasCopy number rows) known told = counted_changes known.happenings ≡ changes_above known.base told

-- what is known, with what was told
abbrev Fits : Known → List Event → Type 0
Fits known told = Counts known.held known told

fits-by : (made now : Known) (told : List Event) → Goes made ≡ Goes now → Fits made told → Fits now told
fits-by made now told e f = subst (λ (x : Known). Fits x told) (knows-is made now e) f

-- what changes that are counted add
counted-more : (rows : List ObjectRow) (known now : Known) (at : ℕ) (events : List Event) → counted_from rows known at events ≡ Goes now
    → (now.held ≡ known.held) × (now.base ≡ known.base) × (counted_changes now.happenings ≡ counted_changes known.happenings ++ events)
counted-more rows known now at [] e =
    let same : known ≡ now = knows-is known now e in (
      ap (λ (x : Known). x.held) (sym same),
      ap (λ (x : Known). x.base) (sym same),
      ap (λ (x : Known). counted_changes x.happenings) (sym same) ∙ sym (append-nil (counted_changes known.happenings)),
    )
counted-more rows known now at (event ∷ events) e = by (nat_eq (update_of event) (at + 1)) e
  where
    made : Known
    made = record known { happenings = reverse (map Changes (event ∷ events)) ++ known.happenings }

    on : (o : Option ℕ) → judged known (event ∷ events) o ≡ Goes now
        → (now.held ≡ known.held) × (now.base ≡ known.base) × (counted_changes now.happenings ≡ counted_changes known.happenings ++ (event ∷ events))
    on (Some id) k = absurd (cc)
    on None k =
        let same : made ≡ now = knows-is made now k in (
          ap (λ (x : Known). x.held) (sym same),
          ap (λ (x : Known). x.base) (sym same),
          ap (λ (x : Known). counted_changes x.happenings) (sym same) ∙ counted-befalling (event ∷ events) known.happenings,
        )

    by : (b : Bool) → cond b (judged known (event ∷ events) (first_torn (rows_after rows known.happenings) (event ∷ events))) (Jumps (at + 1) (update_of event)) ≡ Goes now
        → (now.held ≡ known.held) × (now.base ≡ known.base) × (counted_changes now.happenings ≡ counted_changes known.happenings ++ (event ∷ events))
    by true k = on (first_torn (rows_after rows known.happenings) (event ∷ events)) k
    by false k = absurd (cc)

-- changes that are new are kept or counted
new-fits : (held : Held) (known now : Known) (at : ℕ) (told new : List Event) → known.held ≡ held → Counts held known told → changes_above known.base new ≡ new
    → with_changes held known at new ≡ Goes now → Fits now (told ++ new)
new-fits held known now at told new is counts above e = by held is counts e
  where
    kept : (h : Held) → known.held ≡ h → known.kept ≡ told → Goes (record known { kept = known.kept ++ new }) ≡ Goes now
        → ((x : Known) → x.kept ≡ told ++ new → Counts h x (told ++ new)) → Fits now (told ++ new)
    kept h same k e f =
        fits-by (record known { kept = known.kept ++ new }) now (told ++ new) e
        (subst (λ (g : Held). Counts g (record known { kept = known.kept ++ new }) (told ++ new)) (sym same)
        (f (record known { kept = known.kept ++ new }) (ap (λ (l : List Event). l ++ new) k)))

    by : (h : Held) → known.held ≡ h → Counts h known told → with_changes h known at new ≡ Goes now → Fits now (told ++ new)
    by Idle same c e = fits-by known now (told ++ new) e (subst (λ (g : Held). Counts g known (told ++ new)) (sym same) tt)
    by (Loads stage) same c e = kept (Loads stage) same c e (λ x k. k)
    by (HasCopy number rows) same c e =
        let more = counted-more rows known now at new e in
        subst (λ (g : Held). Counts g now (told ++ new)) (sym (more.0 ∙ same))
        (more.2 ∙ ap (λ (l : List Event). l ++ new) c
        ∙ ap (λ (l : List Event). changes_above known.base told ++ l) (sym above)
        ∙ sym (filter-append (λ (event : Event). is_change event && nat_lt known.base (update_of event)) told new)
        ∙ ap (λ (n : ℕ). changes_above n (told ++ new)) (sym more.1))

-- the greatest number last_note is of no account
heard-fits : (known : Known) (n : ℕ) (told : List Event) → Fits known told → Fits (record known { last_note = n }) told
heard-fits known n told f = by known.held refl f
  where
    by : (h : Held) → known.held ≡ h → Counts h known told → Counts known.held (record known { last_note = n }) told
    by Idle same c = subst (λ (g : Held). Counts g (record known { last_note = n }) told) (sym same) tt
    by (Loads stage) same c = subst (λ (g : Held). Counts g (record known { last_note = n }) told) (sym same) c
    by (HasCopy number rows) same c = subst (λ (g : Held). Counts g (record known { last_note = n }) told) (sym same) c

notes-fit : (notes : List Note) (known : Known) (told : List Event) → Fits known told → Fits (after_outcome known (with_notes notes known)) (and_told notes known told)
notes-fit notes known told f = by (with_notes notes known) refl
  where
    new : List Event
    new = new_changes (position known) notes

    start : (b : Bool) → (cond b (load_begun known) known).base ≡ known.base
    start true = refl
    start false = refl

    from : (b : Bool) → Fits (cond b (load_begun known) known) (cond b [] told)
    from true = refl
    from false = f

    above : changes_above (dropped notes known).base new ≡ new
    above = ap (λ (n : ℕ). changes_above n new) (start (is_drop (position known) notes)) ∙ above-new known.base (position known) notes (omega arith)

    on : (o : Outcome Known) (now : Known) → with_changes (dropped notes known).held (dropped notes known) (position known) new ≡ o → heard_of notes o ≡ Goes now
        → Fits now (cond (is_drop (position known) notes) [] told ++ new)
    on (Goes made) now k h =
        fits-by (record made { last_note = greatest_of made.last_note notes }) now (cond (is_drop (position known) notes) [] told ++ new) h
        (heard-fits made (greatest_of made.last_note notes) (cond (is_drop (position known) notes) [] told ++ new)
        (new-fits (dropped notes known).held (dropped notes known) made (position known) (cond (is_drop (position known) notes) [] told) new refl
        (from (is_drop (position known) notes)) above k))
    on CannotBeRead now k h = absurd (cc)
    on (Jumps expected first) now k h = absurd (cc)
    on (Tears id) now k h = absurd (cc)

    by : (o : Outcome Known) → with_notes notes known ≡ o → Fits (after_outcome known o) (cond (is_no o) told (cond (is_drop (position known) notes) [] told ++ new))
    by (Goes now) e = on (with_changes (dropped notes known).held (dropped notes known) (position known) new) now refl e
    by CannotBeRead e = f
    by (Jumps expected first) e = f
    by (Tears id) e = f

-- ---- replies

-- a load that goes on keeps what it kept, and a copy counts what is above the number that the load read
loaded-fits : (known now : Known) (t : Outcome Held) (told : List Event) → known.kept ≡ told → loaded known t ≡ Goes now → Fits now told
loaded-fits known now CannotBeRead told kept e = absurd (cc)
loaded-fits known now (Jumps expected first) told kept e = absurd (cc)
loaded-fits known now (Tears id) told kept e = absurd (cc)
loaded-fits known now (Goes held) told kept e = by held e
  where
    ended : ℕ → List ObjectRow → Known
    ended number rows = record { held = HasCopy number rows; base = number; last_note = known.last_note; kept = []; happenings = [] }

    by : (h : Held) → loaded known (Goes h) ≡ Goes now → Fits now told
    by Idle k = fits-by (record known { held = Idle }) now told k tt
    by (Loads stage) k = fits-by (record known { held = Loads stage }) now told k kept
    by (HasCopy number rows) k =
        let more = counted-more rows (ended number rows) now number (changes_above number known.kept) k in
        subst (λ (h : Held). Counts h now told) (sym more.0)
        (more.2 ∙ ap (changes_above number) kept ∙ ap (λ (n : ℕ). changes_above n told) (sym more.1))

row-fits : (known now : Known) (number : ℕ) (rows : List ObjectRow) (id : ℕ) (shown : List ObjectRow) (told : List Event) → known.held ≡ HasCopy number rows
    → Counts (HasCopy number rows) known told → row_read known rows id shown ≡ Goes now → Fits now told
row-fits known now number rows id [] told same c e = absurd (cc)
row-fits known now number rows id (row ∷ next ∷ others) told same c e = absurd (cc)
row-fits known now number rows id (row ∷ []) told same c e = by (is_of id row (known_of id (rows_after rows known.happenings))) e
  where
    made : Known
    made = record known { happenings = Reads id (record { content = row.content; object_update = row.object_update }) ∷ known.happenings }

    by : (b : Bool) → cond b (Goes made) (Tears id) ≡ Goes now → Fits now told
    by true k = fits-by made now told k (subst (λ (h : Held). Counts h made told) (sym same) c)
    by false k = absurd (cc)

copy-fits : (known now : Known) (number : ℕ) (rows : List ObjectRow) (o : Option ℕ) (shown : Shown) (told : List Event) → known.held ≡ HasCopy number rows
    → Counts (HasCopy number rows) known told → copy_read known rows o shown ≡ Goes now → Fits now told
copy-fits known now number rows None shown told same c e = absurd (cc)
copy-fits known now number rows (Some id) (Text token) told same c e = absurd (cc)
copy-fits known now number rows (Some id) (Number other) told same c e = absurd (cc)
copy-fits known now number rows (Some id) (Page shown total update) told same c e = row-fits known now number rows id shown told same c e
copy-fits known now number rows (Some id) (Fault code) told same c e = fits-by known now told e (subst (λ (h : Held). Counts h known told) (sym same) c)

reply-fits : (known now : Known) (held : Held) (shown : Shown) (told : List Event) → known.held ≡ held → Counts held known told → with_reply known held shown ≡ Goes now → Fits now told
reply-fits known now Idle shown told same c e = absurd (cc)
reply-fits known now (Loads stage) shown told same c e = loaded-fits known now (taken (Loads stage) shown) told c e
reply-fits known now (HasCopy number rows) shown told same c e = copy-fits known now number rows (least_unread known.happenings) shown told same c e

known-fits : (turns : List ReplicaTurn) → Fits (known_by turns) (told_since turns)
known-fits [] = tt
known-fits (Begins ∷ older) = refl
known-fits (Shows shown ∷ older) = by (with_reply (known_by older) (known_by older).held shown) refl (known-fits older)
  where
    by : (o : Outcome Known) → with_reply (known_by older) (known_by older).held shown ≡ o → Fits (known_by older) (told_since older) → Fits (after_outcome (known_by older) o) (told_since older)
    by (Goes now) e f = reply-fits (known_by older) now (known_by older).held shown (told_since older) refl f e
    by CannotBeRead e f = f
    by (Jumps expected first) e f = f
    by (Tears id) e f = f
known-fits (Requests ∷ older) = known-fits older
known-fits (Accepts name ∷ older) = notes-fit (taken_by (Accepts name) older) (known_by older) (told_since older) (known-fits older)
known-fits (Refuses ∷ older) = known-fits older
known-fits (Delivers note ∷ older) = notes-fit (taken_by (Delivers note) older) (known_by older) (told_since older) (known-fits older)

pub fresh-counted : counted_changes_are_fresh
fresh-counted turns number rows same = subst (λ (h : Held). Counts h (known_by turns) (told_since turns)) same (known-fits turns)
