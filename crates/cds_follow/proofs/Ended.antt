-- The number that a copy's load read is the one that was shown last before it stood.
use Rattle.std.proofs.Common.{◌≡◌, ℕ, Bool, true, false, cond, not, ◌&&◌, nat_eq, List, [], ◌∷◌, ◌++◌, length, Option, Some, None, refl, sym, ap, ◌∙◌, eqb-true}
use Rattle.cds_object.specs.Object.{ObjectRow, is_folder}
use Rattle.cds_load.specs.declared.exchange.Shown.{Shown}
use Rattle.cds_load.specs.declared.exchange.Shown.TheVariants.{Text, Number, Page, Fault}
use Rattle.cds_load.specs.Stages.{Waiting, Listing, Held, Idle, Begun, HasToken, HasNumber, HasRoot, Lists, HasPage, HasCopy, taken, listed, after_page, page_taken, root_taken, listing_of, listed_id, listed_children, fits, others_waiting, put_rows, put_containers, Loads}
use Rattle.cds_commands.specs.Notes.{Note, changes_above}
use Rattle.cds_follow.specs.Copy.{Reads, rows_after, known_of, least_unread}
use Rattle.cds_follow.specs.Inbox.{ReplicaTurn, Begins, Shows, Requests, Accepts, Refuses, Delivers, taken_by}
use Rattle.cds_follow.specs.Follow.{Known, position, load_begun, is_drop, with_notes, loaded, is_of, row_read, copy_read, with_reply, known_by}
use Rattle.cds_follow.specs.KnownLaws.{has_copy, shown_number, ended_at, base_is_the_last_end}
use Rattle.cds_follow.proofs.Heard.{knows-is, counted-stays, notes-leave}
use Rattle.cds_load.specs.Outcome.{Outcome, Goes, CannotBeRead, Jumps, Tears, after_outcome}

-- ---- the reply with which a load ends

holds-is : (a b : Held) → Goes a ≡ Goes b → a ≡ b
holds-is a b e = cc

listed-number : (number other : ℕ) (rows others : List ObjectRow) (ws : List Waiting) → listed number rows ws ≡ HasCopy other others → number ≡ other
listed-number number other rows others [] e = cc
listed-number number other rows others (w ∷ ws) e = absurd (cc)

page-number : (number other : ℕ) (listing : Listing) (page others : List ObjectRow) → after_page number listing page ≡ HasCopy other others → number ≡ other
page-number number other listing page others e = by (nat_eq (length (listing.part ++ page)) (listed_children listing)) e
  where
    by : (b : Bool) → cond b
        (listed number (put_rows (listing.part ++ page) listing.rows) (put_containers (listing.part ++ page) (others_waiting listing)))
        (Loads (Lists number (record { rows = listing.rows; waiting = listing.waiting; part = listing.part ++ page }))) ≡ HasCopy other others → number ≡ other
    by true k = listed-number number other (put_rows (listing.part ++ page) listing.rows) others (put_containers (listing.part ++ page) (others_waiting listing)) k
    by false k = absurd (cc)

judged-number : (number other : ℕ) (listing : Listing) (page : Option (List ObjectRow)) (others : List ObjectRow)
    → page_taken number listing page ≡ Goes (HasCopy other others) → number ≡ other
judged-number number other listing None others e = absurd (cc)
judged-number number other listing (Some page) others e = by (fits listing page) e
  where
    by : (b : Bool) → cond b (Goes (after_page number listing page)) (Tears (listed_id listing)) ≡ Goes (HasCopy other others) → number ≡ other
    by true k = page-number number other listing page others (holds-is (after_page number listing page) (HasCopy other others) k)
    by false k = absurd (cc)

root-number : (number other : ℕ) (rows others : List ObjectRow) → root_taken number rows ≡ Goes (HasCopy other others) → ⊥
root-number number other [] others e = absurd (cc)
root-number number other (row ∷ next ∷ rows) others e = absurd (cc)
root-number number other (row ∷ []) others e = by (nat_eq row.id 0 && is_folder row.content) e
  where
    by : (b : Bool) → cond b (Goes (Loads (HasRoot number row))) (Tears 0) ≡ Goes (HasCopy other others) → ⊥
    by true k = absurd (cc)
    by false k = absurd (cc)

-- a reply that ends a load shows the copy's number
ends-with : (held : Held) (shown : Shown) (number : ℕ) (rows : List ObjectRow) → taken held shown ≡ Goes (HasCopy number rows) → shown_number shown ≡ number
ends-with Idle shown number rows e = absurd (cc)
ends-with (Loads Begun) (Text token) number rows e = absurd (cc)
ends-with (Loads Begun) (Number n) number rows e = absurd (cc)
ends-with (Loads Begun) (Page page total update) number rows e = absurd (cc)
ends-with (Loads Begun) (Fault code) number rows e = absurd (cc)
ends-with (Loads HasToken) (Text token) number rows e = absurd (cc)
ends-with (Loads HasToken) (Number n) number rows e = absurd (cc)
ends-with (Loads HasToken) (Page page total update) number rows e = absurd (cc)
ends-with (Loads HasToken) (Fault code) number rows e = absurd (cc)
ends-with (Loads (HasNumber other)) (Text token) number rows e = absurd (cc)
ends-with (Loads (HasNumber other)) (Number n) number rows e = absurd (cc)
ends-with (Loads (HasNumber other)) (Page page total update) number rows e = absurd (root-number other number page rows e)
ends-with (Loads (HasNumber other)) (Fault code) number rows e = absurd (cc)
ends-with (Loads (HasRoot other root)) (Text token) number rows e = absurd (cc)
ends-with (Loads (HasRoot other root)) (Number n) number rows e = by (nat_eq n other) (holds-is (cond (nat_eq n other) (Loads (Lists other (listing_of root))) (Loads Begun)) (HasCopy number rows) e)
  where
    by : (b : Bool) → cond b (Loads (Lists other (listing_of root))) (Loads Begun) ≡ HasCopy number rows → n ≡ number
    by true k = absurd (cc)
    by false k = absurd (cc)
ends-with (Loads (HasRoot other root)) (Page page total update) number rows e = absurd (cc)
ends-with (Loads (HasRoot other root)) (Fault code) number rows e = absurd (cc)
ends-with (Loads (Lists other listing)) (Text token) number rows e = absurd (cc)
ends-with (Loads (Lists other listing)) (Number n) number rows e = absurd (cc)
ends-with (Loads (Lists other listing)) (Page page total update) number rows e = absurd (cc)
ends-with (Loads (Lists other listing)) (Fault code) number rows e = absurd (cc)
ends-with (Loads (HasPage other listing page)) (Text token) number rows e = absurd (cc)
ends-with (Loads (HasPage other listing page)) (Number n) number rows e = by (nat_eq n other) refl e
  where
    by : (b : Bool) → nat_eq n other ≡ b → cond b (page_taken other listing page) (Goes (Loads Begun)) ≡ Goes (HasCopy number rows) → n ≡ number
    by true s k = eqb-true n other s ∙ judged-number other number listing page rows k
    by false s k = absurd (cc)
ends-with (Loads (HasPage other listing page)) (Page shown total update) number rows e = absurd (cc)
ends-with (Loads (HasPage other listing page)) (Fault code) number rows e = absurd (cc)
ends-with (HasCopy other others) shown number rows e = absurd (cc)

-- ---- the number by turns

-- what is known after a turn, by what was known before and the number that the turn showed
abbrev Ends : Known → ℕ → Known → Type 0
Ends before shown now = now.base ≡ cond (not (has_copy before.held) && has_copy now.held) shown before.base

no-copy : (before now : Known) (shown : ℕ) → has_copy now.held ≡ false → now.base ≡ before.base → Ends before shown now
no-copy before now shown none base = base ∙ sym (λ i. cond (neither (not (has_copy before.held)) (has_copy now.held) none i) shown before.base)
  where
    neither : (a b : Bool) → b ≡ false → a && b ≡ false
    neither true b e = e
    neither false b e = refl

same-copy : (before now : Known) (shown : ℕ) → has_copy now.held ≡ has_copy before.held → now.base ≡ before.base → Ends before shown now
same-copy before now shown same base = base ∙ sym (λ i. cond (not-both (has_copy before.held) (has_copy now.held) same i) shown before.base)
  where
    not-both : (a b : Bool) → b ≡ a → not a && b ≡ false
    not-both true b e = refl
    not-both false b e = e

notes-end : (notes : List Note) (known : Known) (shown : ℕ) → Ends known shown (after_outcome known (with_notes notes known))
notes-end notes known shown = by (with_notes notes known) refl
  where
    kept : Ends known shown known
    kept = same-copy known known shown refl refl

    on : (b : Bool) → is_drop (position known) notes ≡ b → (now : Known) → (now.held ≡ (cond b (load_begun known) known).held) × (now.base ≡ (cond b (load_begun known) known).base)
        → Ends known shown now
    on true e now left = no-copy known now shown (ap has_copy left.0) left.1
    on false e now left = same-copy known now shown (ap has_copy left.0) left.1

    by : (o : Outcome Known) → with_notes notes known ≡ o → Ends known shown (after_outcome known o)
    by (Goes now) e = let left = notes-leave notes known now e in on (is_drop (position known) notes) refl now (left.0, left.1)
    by CannotBeRead e = kept
    by (Jumps expected first) e = kept
    by (Tears id) e = kept

loaded-end : (known now : Known) (held : Held) (shown : Shown) → known.held ≡ held → has_copy held ≡ false → loaded known (taken held shown) ≡ Goes now → Ends known (shown_number shown) now
loaded-end known now held shown same none e = by (taken held shown) refl e
  where
    plain : (h : Held) → has_copy h ≡ false → Goes (record known { held = h }) ≡ Goes now → Ends known (shown_number shown) now
    plain h free k =
        let is : record known { held = h } ≡ now = knows-is (record known { held = h }) now k in
        no-copy known now (shown_number shown) (ap (λ (x : Known). has_copy x.held) (sym is) ∙ free) (ap (λ (x : Known). x.base) (sym is))

    by : (t : Outcome Held) → taken held shown ≡ t → loaded known t ≡ Goes now → Ends known (shown_number shown) now
    by CannotBeRead t k = absurd (cc)
    by (Jumps expected first) t k = absurd (cc)
    by (Tears id) t k = absurd (cc)
    by (Goes h) t k = on h t k
      where
        on : (g : Held) → taken held shown ≡ Goes g → loaded known (Goes g) ≡ Goes now → Ends known (shown_number shown) now
        on Idle t k = plain Idle refl k
        on (Loads stage) t k = plain (Loads stage) refl k
        on (HasCopy number rows) t k =
            let stays = counted-stays rows (record { held = HasCopy number rows; base = number; last_note = known.last_note; kept = []; happenings = [] }) now number (changes_above number known.kept) k in
            stays.1 ∙ sym (ends-with held shown number rows t)
            ∙ sym (λ i. cond (not ((ap has_copy same ∙ none) i) && ap has_copy stays.0 i) (shown_number shown) known.base)

copy-end : (known now : Known) (number : ℕ) (rows : List ObjectRow) (o : Option ℕ) (shown : Shown) (n : ℕ) → known.held ≡ HasCopy number rows → copy_read known rows o shown ≡ Goes now → Ends known n now
copy-end known now number rows None shown n same e = absurd (cc)
copy-end known now number rows (Some id) (Text token) n same e = absurd (cc)
copy-end known now number rows (Some id) (Number other) n same e = absurd (cc)
copy-end known now number rows (Some id) (Fault code) n same e =
    let is : known ≡ now = knows-is known now e in
    same-copy known now n (ap (λ (x : Known). has_copy x.held) (sym is)) (ap (λ (x : Known). x.base) (sym is))
copy-end known now number rows (Some id) (Page shown total update) n same e = on shown e
  where
    on : (page : List ObjectRow) → row_read known rows id page ≡ Goes now → Ends known n now
    on [] k = absurd (cc)
    on (row ∷ next ∷ others) k = absurd (cc)
    on (row ∷ []) k = by (is_of id row (known_of id (rows_after rows known.happenings))) k
      where
        made : Known
        made = record known { happenings = Reads id (record { content = row.content; object_update = row.object_update }) ∷ known.happenings }

        by : (b : Bool) → cond b (Goes made) (Tears id) ≡ Goes now → Ends known n now
        by true f =
            let is : made ≡ now = knows-is made now f in
            same-copy known now n (ap (λ (x : Known). has_copy x.held) (sym is)) (ap (λ (x : Known). x.base) (sym is))
        by false f = absurd (cc)

pub reply-end : (known : Known) (shown : Shown) → Ends known (shown_number shown) (after_outcome known (with_reply known known.held shown))
reply-end known shown = by (with_reply known known.held shown) refl
  where
    kept : Ends known (shown_number shown) known
    kept = same-copy known known (shown_number shown) refl refl

    on : (held : Held) (now : Known) → known.held ≡ held → with_reply known held shown ≡ Goes now → Ends known (shown_number shown) now
    on Idle now same e = absurd (cc)
    on (Loads stage) now same e = loaded-end known now (Loads stage) shown same refl e
    on (HasCopy number rows) now same e = copy-end known now number rows (least_unread known.happenings) shown (shown_number shown) same e

    by : (o : Outcome Known) → with_reply known known.held shown ≡ o → Ends known (shown_number shown) (after_outcome known o)
    by (Goes now) e = on known.held now refl e
    by CannotBeRead e = kept
    by (Jumps expected first) e = kept
    by (Tears id) e = kept

-- the number before a turn may be told otherwise
ends-by : (before now : Known) (shown other : ℕ) → Ends before shown now → before.base ≡ other → now.base ≡ cond (not (has_copy before.held) && has_copy now.held) shown other
ends-by before now shown other e is = e ∙ ap (λ (n : ℕ). cond (not (has_copy before.held) && has_copy now.held) shown n) is

last-end : (turns : List ReplicaTurn) → (known_by turns).base ≡ ended_at turns
last-end [] = refl
last-end (Begins ∷ older) = ends-by (known_by older) (load_begun (known_by older)) 0 (ended_at older) (no-copy (known_by older) (load_begun (known_by older)) 0 refl refl) (last-end older)
last-end (Shows shown ∷ older) =
    ends-by (known_by older) (known_by (Shows shown ∷ older)) (shown_number shown) (ended_at older) (reply-end (known_by older) shown) (last-end older)
last-end (Requests ∷ older) = ends-by (known_by older) (known_by older) 0 (ended_at older) (same-copy (known_by older) (known_by older) 0 refl refl) (last-end older)
last-end (Accepts name ∷ older) =
    ends-by (known_by older) (known_by (Accepts name ∷ older)) 0 (ended_at older) (notes-end (taken_by (Accepts name) older) (known_by older) 0) (last-end older)
last-end (Refuses ∷ older) = ends-by (known_by older) (known_by older) 0 (ended_at older) (same-copy (known_by older) (known_by older) 0 refl refl) (last-end older)
last-end (Delivers note ∷ older) =
    ends-by (known_by older) (known_by (Delivers note ∷ older)) 0 (ended_at older) (notes-end (taken_by (Delivers note) older) (known_by older) 0) (last-end older)

pub base-last-end : base_is_the_last_end
base-last-end turns = last-end turns
