-- What was read of a copy's objects is what replies showed since its load ended.
use Rattle.std.proofs.Common.{◌≡◌, ◌⊎◌, inl, inr, ◌+◌, ℕ, Bool, true, false, cond, nat_eq, List, [], ◌∷◌, ◌++◌, map, Option, Some, None, refl, sym, ap, ◌∙◌, subst, true≢false}
use Rattle.std.proofs.lemmas.List.{reverse-append}
use Rattle.cds_object.specs.Object.{ObjectRow}
use Rattle.cds_object.specs.declared.event.Event.{Event}
use Rattle.cds_load.specs.declared.exchange.Shown.{Shown}
use Rattle.cds_load.specs.declared.exchange.Shown.TheVariants.{Text, Number, Page, Fault}
use Rattle.cds_load.specs.Stages.{Held, Idle, HasCopy, taken, Loads}
use Rattle.cds_commands.specs.Notes.{Note, changes_above}
use Rattle.cds_follow.specs.Copy.{Version, Happening, Changes, Reads, rows_after, known_of, least_unread}
use Rattle.cds_follow.specs.Inbox.{ReplicaTurn, Begins, Shows, Requests, Accepts, Refuses, Delivers, taken_by}
use Rattle.cds_follow.specs.Follow.{Known, position, first_torn, judged, counted_from, with_changes, load_begun, new_changes, greatest_of, is_drop, dropped, heard_of, with_notes, loaded, is_of, row_read, copy_read, with_reply, known_by, is_refused}
use Rattle.cds_follow.specs.KnownLaws.{has_copy}
use Rattle.cds_follow.specs.ServerLaws.{befalling}
use Rattle.cds_follow.specs.Seen.{StandsThrough, WasRead, reads_are_replies}
use Rattle.cds_commands.proofs.Among.{Among, among-contained, among-append, among-right}
use Rattle.cds_follow.proofs.Came.{contained-among}
use Rattle.cds_follow.proofs.Heard.{knows-is, notes-leave}
use Rattle.cds_object.specs.Events.{update_of}
use Rattle.cds_load.specs.Outcome.{Outcome, Goes, CannotBeRead, Jumps, Tears, after_outcome, is_no}

-- ---- happenings that are put before others

-- happenings that have those of others behind changes alone
abbrev Follows : List Happening → List Happening → Type 0
Follows now before = (events : List Event) × (now ≡ befalling events ++ before)

none-read : (events : List Event) (id : ℕ) (v : Version) → Among (Reads id v) (befalling events) → ⊥
none-read [] id v a = a
none-read (event ∷ events) id v a =
    by (among-append (befalling events) (Changes event ∷ []) (Reads id v)
    (subst (λ (l : List Happening). Among (Reads id v) l) (reverse-append (Changes event ∷ []) (map Changes events)) a)) (λ b. none-read events id v b)
  where
    last : (Reads id v ≡ Changes event) ⊎ ⊥ → ⊥
    last (inl e) = cc
    last (inr b) = b

    by : Among (Reads id v) (befalling events) ⊎ Among (Reads id v) (Changes event ∷ []) → (Among (Reads id v) (befalling events) → ⊥) → ⊥
    by (inl b) r = r b
    by (inr b) r = last b

same-reads : (now before : List Happening) (id : ℕ) (v : Version) → Follows now before → Among (Reads id v) now → Among (Reads id v) before
same-reads now before id v f a = by (among-append (befalling f.0) before (Reads id v) (subst (λ (l : List Happening). Among (Reads id v) l) f.1 a))
  where
    by : Among (Reads id v) (befalling f.0) ⊎ Among (Reads id v) before → Among (Reads id v) before
    by (inl b) = absurd (none-read f.0 id v b)
    by (inr b) = b

kept-reads : (now before : List Happening) (id : ℕ) (v : Version) → Follows now before → Among (Reads id v) before → Among (Reads id v) now
kept-reads now before id v f a = subst (λ (l : List Happening). Among (Reads id v) l) (sym f.1) (among-right (befalling f.0) before (Reads id v) a)

counted-follows : (rows : List ObjectRow) (known now : Known) (at : ℕ) (events : List Event) → counted_from rows known at events ≡ Goes now → Follows now.happenings known.happenings
counted-follows rows known now at [] e = ([], ap (λ (x : Known). x.happenings) (sym (knows-is known now e)))
counted-follows rows known now at (event ∷ events) e = by (nat_eq (update_of event) (at + 1)) e
  where
    on : (o : Option ℕ) → judged known (event ∷ events) o ≡ Goes now → Follows now.happenings known.happenings
    on (Some id) k = absurd (cc)
    on None k =
        (event ∷ events, ap (λ (x : Known). x.happenings) (sym (knows-is (record known { happenings = befalling (event ∷ events) ++ known.happenings }) now k)))

    by : (b : Bool) → cond b (judged known (event ∷ events) (first_torn (rows_after rows known.happenings) (event ∷ events))) (Jumps (at + 1) (update_of event)) ≡ Goes now
        → Follows now.happenings known.happenings
    by true k = on (first_torn (rows_after rows known.happenings) (event ∷ events)) k
    by false k = absurd (cc)

changes-follow : (held : Held) (known now : Known) (at : ℕ) (events : List Event) → with_changes held known at events ≡ Goes now → Follows now.happenings known.happenings
changes-follow Idle known now at events e = ([], ap (λ (x : Known). x.happenings) (sym (knows-is known now e)))
changes-follow (Loads stage) known now at events e = ([], ap (λ (x : Known). x.happenings) (sym (knows-is (record known { kept = known.kept ++ events }) now e)))
changes-follow (HasCopy number rows) known now at events e = counted-follows rows known now at events e

-- ---- notes

-- where a copy stands after notes it stood before them, and changes alone befell it
notes-follow : (notes : List Note) (known : Known) → has_copy (after_outcome known (with_notes notes known)).held ≡ true
    → (has_copy known.held ≡ true) × Follows (after_outcome known (with_notes notes known)).happenings known.happenings
notes-follow notes known stands = by (with_notes notes known) refl stands
  where
    on : (now : Known) → with_notes notes known ≡ Goes now → (o : Outcome Known)
        → with_changes (dropped notes known).held (dropped notes known) (position known) (new_changes (position known) notes) ≡ o → heard_of notes o ≡ Goes now
        → Follows now.happenings (dropped notes known).happenings
    on now e (Goes made) k h =
        let f = changes-follow (dropped notes known).held (dropped notes known) made (position known) (new_changes (position known) notes) k in
        (f.0, ap (λ (x : Known). x.happenings) (sym (knows-is (record made { last_note = greatest_of made.last_note notes }) now h)) ∙ f.1)
    on now e CannotBeRead k h = absurd (cc)
    on now e (Jumps expected first) k h = absurd (cc)
    on now e (Tears id) k h = absurd (cc)

    stood : (now : Known) → with_notes notes known ≡ Goes now → has_copy now.held ≡ true → Follows now.happenings (dropped notes known).happenings
        → (has_copy known.held ≡ true) × Follows now.happenings known.happenings
    stood now e s f = drop (is_drop (position known) notes) refl
      where
        left : now.held ≡ (dropped notes known).held
        left = (notes-leave notes known now e).0

        drop : (b : Bool) → is_drop (position known) notes ≡ b → (has_copy known.held ≡ true) × Follows now.happenings known.happenings
        drop true d = absurd (true≢false (sym s ∙ ap has_copy left ∙ (λ i. has_copy (cond (d i) (load_begun known) known).held)))
        drop false d =
            let same : dropped notes known ≡ known = λ i. cond (d i) (load_begun known) known in (
              ap (λ (x : Known). has_copy x.held) (sym same) ∙ ap has_copy (sym left) ∙ s,
              subst (λ (x : Known). Follows now.happenings x.happenings) same f,
            )

    by : (o : Outcome Known) → with_notes notes known ≡ o → has_copy (after_outcome known o).held ≡ true
        → (has_copy known.held ≡ true) × Follows (after_outcome known o).happenings known.happenings
    by (Goes now) e s =
        stood now e s (on now e (with_changes (dropped notes known).held (dropped notes known) (position known) (new_changes (position known) notes)) refl e)
    by CannotBeRead e s = (s, ([], refl))
    by (Jumps expected first) e s = (s, ([], refl))
    by (Tears id) e s = (s, ([], refl))

-- ---- replies

-- what a reply put before what befell a copy: nothing, or the version that it showed
abbrev Put : ReplicaTurn → Known → Known → Type 0
Put turn known now =
    (now.happenings ≡ known.happenings)
    ⊎ ((id : ℕ) × (row : ObjectRow) × (total : ℕ) × (update : ℕ) × (turn ≡ Shows (Page (row ∷ []) total update)) × (least_unread known.happenings ≡ Some id)
    × (now.happenings ≡ Reads id (record { content = row.content; object_update = row.object_update }) ∷ known.happenings))

row-put : (known now : Known) (rows : List ObjectRow) (id : ℕ) (page : List ObjectRow) (total update : ℕ) → least_unread known.happenings ≡ Some id
    → row_read known rows id page ≡ Goes now → Put (Shows (Page page total update)) known now
row-put known now rows id [] total update asked e = absurd (cc)
row-put known now rows id (row ∷ next ∷ others) total update asked e = absurd (cc)
row-put known now rows id (row ∷ []) total update asked e = by (is_of id row (known_of id (rows_after rows known.happenings))) e
  where
    made : Known
    made = record known { happenings = Reads id (record { content = row.content; object_update = row.object_update }) ∷ known.happenings }

    by : (b : Bool) → cond b (Goes made) (Tears id) ≡ Goes now → Put (Shows (Page (row ∷ []) total update)) known now
    by true k = inr (id, row, total, update, refl, asked, ap (λ (x : Known). x.happenings) (sym (knows-is made now k)))
    by false k = absurd (cc)

copy-put : (known now : Known) (rows : List ObjectRow) (o : Option ℕ) (shown : Shown) → least_unread known.happenings ≡ o → copy_read known rows o shown ≡ Goes now
    → Put (Shows shown) known now
copy-put known now rows None shown asked e = absurd (cc)
copy-put known now rows (Some id) (Text token) asked e = absurd (cc)
copy-put known now rows (Some id) (Number number) asked e = absurd (cc)
copy-put known now rows (Some id) (Page page total update) asked e = row-put known now rows id page total update asked e
copy-put known now rows (Some id) (Fault code) asked e = inl (ap (λ (x : Known). x.happenings) (sym (knows-is known now e)))

-- a load that ends begins with changes alone
loaded-follows : (known now : Known) (t : Outcome Held) → loaded known t ≡ Goes now → has_copy now.held ≡ true → Follows now.happenings []
loaded-follows known now CannotBeRead e s = absurd (cc)
loaded-follows known now (Jumps expected first) e s = absurd (cc)
loaded-follows known now (Tears id) e s = absurd (cc)
loaded-follows known now (Goes held) e s = by held e
  where
    no : (h : Held) → has_copy h ≡ false → Goes (record known { held = h }) ≡ Goes now → Follows now.happenings []
    no h c k = absurd (true≢false (sym s ∙ ap (λ (x : Known). has_copy x.held) (sym (knows-is (record known { held = h }) now k)) ∙ c))

    by : (h : Held) → loaded known (Goes h) ≡ Goes now → Follows now.happenings []
    by Idle k = no Idle refl k
    by (Loads stage) k = no (Loads stage) refl k
    by (HasCopy number rows) k =
        counted-follows rows (record { held = HasCopy number rows; base = number; last_note = known.last_note; kept = []; happenings = [] }) now number (changes_above number known.kept) k

-- a reply: a copy stood before it, or the load ended with it
abbrev Replied : ReplicaTurn → Held → Known → Known → Type 0
Replied turn held known now = ((has_copy held ≡ true) × Put turn known now) ⊎ ((has_copy held ≡ false) × Follows now.happenings [])

reply-put : (known now : Known) (held : Held) (shown : Shown) → with_reply known held shown ≡ Goes now → has_copy now.held ≡ true → Replied (Shows shown) held known now
reply-put known now Idle shown e s = absurd (cc)
reply-put known now (Loads stage) shown e s = inr (refl, loaded-follows known now (taken (Loads stage) shown) e s)
reply-put known now (HasCopy number rows) shown e s = inl (refl, copy-put known now rows (least_unread known.happenings) shown refl e)

-- ---- from what befell to the reply

module _ (id : ℕ) (v : Version) where
  abbrev InCopy : List ReplicaTurn → Type 0
  InCopy turns = Among (Reads id v) (known_by turns).happenings

  read-before : (turn : ReplicaTurn) (turns : List ReplicaTurn) → has_copy (known_by (turn ∷ turns)).held ≡ true → WasRead turns id v → WasRead (turn ∷ turns) id v
  read-before turn turns stands w = record {
    newer = turn ∷ w.newer;
    older = w.older;
    row = w.row;
    total = w.total;
    update = w.update;
    are = ap (λ (l : List ReplicaTurn). turn ∷ l) w.are;
    asked = w.asked;
    taken = w.taken;
    stands = ((subst (λ (l : List ReplicaTurn). has_copy (known_by (turn ∷ l)).held ≡ true) w.are stands, w.stands.0), w.stands.1);
    content = w.content;
    object_update = w.object_update;
  }

  was-read : (turns : List ReplicaTurn) → has_copy (known_by turns).held ≡ true → InCopy turns → WasRead turns id v
  was-read [] s a = absurd (true≢false (sym s))
  was-read (Begins ∷ older) s a = absurd (true≢false (sym s))
  was-read (Requests ∷ older) s a = read-before Requests older s (was-read older s a)
  was-read (Refuses ∷ older) s a = read-before Refuses older s (was-read older s a)
  was-read (Accepts name ∷ older) s a =
      let f = notes-follow (taken_by (Accepts name) older) (known_by older) s in
      read-before (Accepts name) older s
      (was-read older f.0 (same-reads (known_by (Accepts name ∷ older)).happenings (known_by older).happenings id v f.1 a))
  was-read (Delivers note ∷ older) s a =
      let f = notes-follow (taken_by (Delivers note) older) (known_by older) s in
      read-before (Delivers note) older s
      (was-read older f.0 (same-reads (known_by (Delivers note ∷ older)).happenings (known_by older).happenings id v f.1 a))
  was-read (Shows shown ∷ older) s a = by (with_reply (known_by older) (known_by older).held shown) refl s a (λ t b. read-before (Shows shown) older s (was-read older t b))
    where
      Rest : Type 0
      Rest = has_copy (known_by older).held ≡ true → InCopy older → WasRead (Shows shown ∷ older) id v

      on : (now : Known) → with_reply (known_by older) (known_by older).held shown ≡ Goes now → Among (Reads id v) now.happenings → Rest
          → Replied (Shows shown) (known_by older).held (known_by older) now → WasRead (Shows shown ∷ older) id v
      on now e b r (inr (c, f)) = absurd (same-reads now.happenings [] id v f b)
      on now e b r (inl (c, inl same)) = r c (subst (λ (l : List Happening). Among (Reads id v) l) same b)
      on now e b r (inl (c, inr (other, row, total, update, is, asked, put))) = here (subst (λ (l : List Happening). Among (Reads id v) l) put b)
        where
          found : Reads id v ≡ Reads other (record { content = row.content; object_update = row.object_update }) → WasRead (Shows (Page (row ∷ []) total update) ∷ older) id v
          found same =
              let one : id ≡ other = cc in
              let version : v ≡ record { content = row.content; object_update = row.object_update } = cc in
              record {
                newer = [];
                older = older;
                row = row;
                total = total;
                update = update;
                are = refl;
                asked = asked ∙ ap Some (sym one);
                taken = ap (λ (t : ReplicaTurn). is_refused t older) (sym is) ∙ ap is_no e;
                stands = (subst (λ (t : ReplicaTurn). has_copy (known_by (t ∷ older)).held ≡ true) is s, c);
                content = ap (λ (w : Version). w.content) (sym version);
                object_update = ap (λ (w : Version). w.object_update) (sym version);
              }

          here : (Reads id v ≡ Reads other (record { content = row.content; object_update = row.object_update })) ⊎ InCopy older → WasRead (Shows shown ∷ older) id v
          here (inl same) = subst (λ (t : ReplicaTurn). WasRead (t ∷ older) id v) (sym is) (found same)
          here (inr b) = r c b

      by : (o : Outcome Known) → with_reply (known_by older) (known_by older).held shown ≡ o → has_copy (after_outcome (known_by older) o).held ≡ true
          → Among (Reads id v) (after_outcome (known_by older) o).happenings → Rest → WasRead (Shows shown ∷ older) id v
      by (Goes now) e t b r = on now e b r (reply-put (known_by older) now (known_by older).held shown e t)
      by CannotBeRead e t b r = r t b
      by (Jumps expected first) e t b r = r t b
      by (Tears other) e t b r = r t b

  -- ---- from the reply to what befell

  still-read : (turn : ReplicaTurn) (older : List ReplicaTurn) → has_copy (known_by older).held ≡ true → has_copy (known_by (turn ∷ older)).held ≡ true → InCopy older → InCopy (turn ∷ older)
  still-read Begins older c s a = absurd (true≢false (sym s))
  still-read Requests older c s a = a
  still-read Refuses older c s a = a
  still-read (Accepts name) older c s a =
      kept-reads (known_by (Accepts name ∷ older)).happenings (known_by older).happenings id v (notes-follow (taken_by (Accepts name) older) (known_by older) s).1 a
  still-read (Delivers note) older c s a =
      kept-reads (known_by (Delivers note ∷ older)).happenings (known_by older).happenings id v (notes-follow (taken_by (Delivers note) older) (known_by older) s).1 a
  still-read (Shows shown) older c s a = by (with_reply (known_by older) (known_by older).held shown) refl s
    where
      on : (now : Known) → Replied (Shows shown) (known_by older).held (known_by older) now → Among (Reads id v) now.happenings
      on now (inr (n, f)) = absurd (true≢false (sym c ∙ n))
      on now (inl (t, inl same)) = subst (λ (l : List Happening). Among (Reads id v) l) (sym same) a
      on now (inl (t, inr (other, row, total, update, is, asked, put))) = subst (λ (l : List Happening). Among (Reads id v) l) (sym put) (inr a)

      by : (o : Outcome Known) → with_reply (known_by older) (known_by older).held shown ≡ o → has_copy (after_outcome (known_by older) o).held ≡ true
          → Among (Reads id v) (after_outcome (known_by older) o).happenings
      by (Goes now) e t = on now (reply-put (known_by older) now (known_by older).held shown e t)
      by CannotBeRead e t = a
      by (Jumps expected first) e t = a
      by (Tears other) e t = a

  stands-first : (newer older : List ReplicaTurn) → StandsThrough newer older → has_copy (known_by (newer ++ older)).held ≡ true
  stands-first [] older s = s
  stands-first (turn ∷ newer) older s = s.0

  through : (newer older : List ReplicaTurn) → StandsThrough newer older → InCopy older → InCopy (newer ++ older)
  through [] older s a = a
  through (turn ∷ newer) older s a = still-read turn (newer ++ older) (stands-first newer older s.1) s.0 (through newer older s.1 a)

  first-read : (older : List ReplicaTurn) (row : ObjectRow) (total update : ℕ) → row.content ≡ v.content → row.object_update ≡ v.object_update
      → least_unread (known_by older).happenings ≡ Some id → is_refused (Shows (Page (row ∷ []) total update)) older ≡ false → has_copy (known_by older).held ≡ true
      → InCopy (Shows (Page (row ∷ []) total update) ∷ older)
  first-read older row total update content number asked free c = on (known_by older).held refl c free
    where
      known : Known
      known = known_by older

      made : Known
      made = record known { happenings = Reads id (record { content = row.content; object_update = row.object_update }) ∷ known.happenings }

      same : Reads id v ≡ Reads id (record { content = row.content; object_update = row.object_update })
      same = λ i. Reads id (record { content = sym content i; object_update = sym number i })

      judge : (b : Bool) → is_no (cond b (Goes made) (Tears id)) ≡ false → Among (Reads id v) (after_outcome known (cond b (Goes made) (Tears id))).happenings
      judge true f = inl same
      judge false f = absurd (true≢false f)

      ask : (rows : List ObjectRow) (o : Option ℕ) → o ≡ Some id → is_no (copy_read known rows o (Page (row ∷ []) total update)) ≡ false
          → Among (Reads id v) (after_outcome known (copy_read known rows o (Page (row ∷ []) total update))).happenings
      ask rows o e f =
          let there : copy_read known rows o (Page (row ∷ []) total update) ≡ row_read known rows id (row ∷ []) = ap (λ (p : Option ℕ). copy_read known rows p (Page (row ∷ []) total update)) e in
          subst (λ (x : Outcome Known). Among (Reads id v) (after_outcome known x).happenings) (sym there)
          (judge (is_of id row (known_of id (rows_after rows known.happenings))) (ap is_no (sym there) ∙ f))

      on : (held : Held) → known.held ≡ held → has_copy held ≡ true → is_no (with_reply known held (Page (row ∷ []) total update)) ≡ false
          → Among (Reads id v) (after_outcome known (with_reply known held (Page (row ∷ []) total update))).happenings
      on Idle e c f = absurd (true≢false (sym c))
      on (Loads stage) e c f = absurd (true≢false (sym c))
      on (HasCopy n rows) e c f = ask rows (least_unread known.happenings) asked f

  read-in : (turns : List ReplicaTurn) → WasRead turns id v → InCopy turns
  read-in turns w =
      subst InCopy (sym w.are)
      (through w.newer (Shows (Page (w.row ∷ []) w.total w.update) ∷ w.older) w.stands.0
      (first-read w.older w.row w.total w.update w.content w.object_update w.asked w.taken w.stands.1))

pub reads-replied : reads_are_replies
reads-replied turns id version stands = (
  λ c. was-read id version turns stands (among-contained (known_by turns).happenings (Reads id version) c),
  λ w. contained-among (known_by turns).happenings (Reads id version) (read-in id version turns w),
)
