-- The answer is complete: where every note was received, all is released and nothing is to be read, the replica stands at the
-- server's number.
use Rattle.std.proofs.Common.{◌≡◌, ◌⊎◌, inl, inr, ◌+◌, ◌-◌, ◌<◌, ◌≤◌, ℕ, Bool, true, false, cond, not, ◌&&◌, ◌||◌, nat_eq, nat_lt, List, [], ◌∷◌, ◌++◌, length, drop, Option, Some, None, is_some, refl, sym, ap, ◌∙◌, subst, arith, true≢false, le-ltb}
use Rattle.std.specs.Option.{option_map}
use Rattle.std.specs.List.{AllByRecursion, range_with_len}
use Rattle.std.proofs.lemmas.Bool.{cases_lt}
use Rattle.cds_object.specs.Object.{ObjectRow, is_folder}
use Rattle.cds_catalog.specs.History.{end_of}
use Rattle.cds_catalog.proofs.StepsFind.{none≢some}
use Rattle.cds_load.specs.declared.exchange.Ask.TheVariants.{Metadata}
use Rattle.cds_load.specs.declared.exchange.Shown.{Shown}
use Rattle.cds_load.specs.declared.exchange.Shown.TheVariants.{Text, Number, Page, Fault}
use Rattle.cds_load.specs.Stages.{Waiting, Listing, Held, Idle, Begun, HasToken, HasNumber, HasRoot, Lists, HasPage, HasCopy, taken, listed, after_page, page_taken, root_taken, listing_of, listed_id, listed_children, fits, others_waiting, put_rows, put_containers, Loads}
use Rattle.cds_commands.specs.Commands.{Command, scans_of, oldest, AreAccepted}
use Rattle.cds_commands.specs.Notes.{Note, next_place_of, alive_names, notes_of, changes_above}
use Rattle.cds_commands.specs.Releases.{released_to, releases_of}
use Rattle.cds_commands.specs.Subscriptions.{granted, runs_until, unless_past, is_alive}
use Rattle.cds_follow.specs.Copy.{Reads, least_unread, read_up_to, rows_after, known_of}
use Rattle.cds_follow.specs.Inbox.{ReplicaTurn, Begins, Shows, Requests, Accepts, Refuses, Delivers, accepted, received, has_place, next_place, missing, taken_by}
use Rattle.cds_follow.specs.Follow.{Known, position, load_begun, is_drop, with_changes, new_changes, heard_of, with_notes, loaded, is_of, row_read, copy_read, with_reply, known_by, ask_of, next_ask, says_of, says_without_gap, copy_says, says}
use Rattle.cds_follow.specs.Given.{length_at, given_by}
use Rattle.cds_follow.specs.HonestLaws.{load_was_begun, honest_answers_are_complete}
use Rattle.cds_follow.specs.declared.says.Says.TheVariants.{BehindVersion, Stands}
use Rattle.cds_commands.proofs.Among.{Among, among-all, among-contained, all-among, filter-among, row-among}
use Rattle.cds_follow.proofs.Told.{any-none}
use Rattle.cds_follow.proofs.Received.{longest-run}
use Rattle.cds_commands.proofs.Sent.{Sound, all-sound, some-older}
use Rattle.cds_commands.proofs.Chain.{note-among, every-seq}
use Rattle.cds_follow.proofs.CopyOf.{IsCopy}
use Rattle.cds_follow.proofs.Stages.{Stage, past-low}
use Rattle.cds_follow.proofs.Heard.{knows-is, counted-stays, notes-leave}
use Rattle.cds_follow.proofs.Honest.{IsServed, served-later, entries-served}
use Rattle.cds_load.specs.Outcome.{Outcome, Goes, CannotBeRead, Jumps, Tears, after_outcome}

-- ---- a load that was begun is not idle

abbrev is_idle : Held → Bool
is_idle Idle = true
is_idle (Loads stage) = false
is_idle (HasCopy number rows) = false

holds-is : (a b : Held) → Goes a ≡ Goes b → a ≡ b
holds-is a b e = cc

busy-by : (a b : Held) → Goes a ≡ Goes b → is_idle a ≡ false → is_idle b ≡ false
busy-by a b e f = ap is_idle (sym (holds-is a b e)) ∙ f

listed-busy : (number : ℕ) (rows : List ObjectRow) (ws : List Waiting) → is_idle (listed number rows ws) ≡ false
listed-busy number rows [] = refl
listed-busy number rows (w ∷ ws) = refl

page-busy : (number : ℕ) (listing : Listing) (page : List ObjectRow) → is_idle (after_page number listing page) ≡ false
page-busy number listing page = by (nat_eq (length (listing.part ++ page)) (listed_children listing))
  where
    by : (b : Bool) → is_idle (cond b
        (listed number (put_rows (listing.part ++ page) listing.rows) (put_containers (listing.part ++ page) (others_waiting listing)))
        (Loads (Lists number (record { rows = listing.rows; waiting = listing.waiting; part = listing.part ++ page })))) ≡ false
    by true = listed-busy number (put_rows (listing.part ++ page) listing.rows) (put_containers (listing.part ++ page) (others_waiting listing))
    by false = refl

judged-busy : (number : ℕ) (listing : Listing) (page : Option (List ObjectRow)) (held : Held) → page_taken number listing page ≡ Goes held → is_idle held ≡ false
judged-busy number listing None held e = absurd (cc)
judged-busy number listing (Some page) held e = by (fits listing page) e
  where
    by : (b : Bool) → cond b (Goes (after_page number listing page)) (Tears (listed_id listing)) ≡ Goes held → is_idle held ≡ false
    by true k = busy-by (after_page number listing page) held k (page-busy number listing page)
    by false k = absurd (cc)

root-busy : (number : ℕ) (rows : List ObjectRow) (held : Held) → root_taken number rows ≡ Goes held → is_idle held ≡ false
root-busy number [] held e = absurd (cc)
root-busy number (row ∷ next ∷ rows) held e = absurd (cc)
root-busy number (row ∷ []) held e = by (nat_eq row.id 0 && is_folder row.content) e
  where
    by : (b : Bool) → cond b (Goes (Loads (HasRoot number row))) (Tears 0) ≡ Goes held → is_idle held ≡ false
    by true k = busy-by (Loads (HasRoot number row)) held k refl
    by false k = absurd (cc)

taken-busy : (before held : Held) (shown : Shown) → taken before shown ≡ Goes held → is_idle held ≡ false
taken-busy Idle held shown e = absurd (cc)
taken-busy (Loads Begun) held (Text token) e = busy-by (Loads HasToken) held e refl
taken-busy (Loads Begun) held (Number n) e = absurd (cc)
taken-busy (Loads Begun) held (Page rows total update) e = absurd (cc)
taken-busy (Loads Begun) held (Fault code) e = absurd (cc)
taken-busy (Loads HasToken) held (Text token) e = absurd (cc)
taken-busy (Loads HasToken) held (Number n) e = busy-by (Loads (HasNumber n)) held e refl
taken-busy (Loads HasToken) held (Page rows total update) e = absurd (cc)
taken-busy (Loads HasToken) held (Fault code) e = absurd (cc)
taken-busy (Loads (HasNumber number)) held (Text token) e = absurd (cc)
taken-busy (Loads (HasNumber number)) held (Number n) e = absurd (cc)
taken-busy (Loads (HasNumber number)) held (Page rows total update) e = root-busy number rows held e
taken-busy (Loads (HasNumber number)) held (Fault code) e = absurd (cc)
taken-busy (Loads (HasRoot number root)) held (Text token) e = absurd (cc)
taken-busy (Loads (HasRoot number root)) held (Number n) e = busy-by (cond (nat_eq n number) (Loads (Lists number (listing_of root))) (Loads Begun)) held e (by (nat_eq n number))
  where
    by : (b : Bool) → is_idle (cond b (Loads (Lists number (listing_of root))) (Loads Begun)) ≡ false
    by true = refl
    by false = refl
taken-busy (Loads (HasRoot number root)) held (Page rows total update) e = absurd (cc)
taken-busy (Loads (HasRoot number root)) held (Fault code) e = absurd (cc)
taken-busy (Loads (Lists number listing)) held (Text token) e = absurd (cc)
taken-busy (Loads (Lists number listing)) held (Number n) e = absurd (cc)
taken-busy (Loads (Lists number listing)) held (Page rows total update) e = busy-by (Loads (HasPage number listing (Some rows))) held e refl
taken-busy (Loads (Lists number listing)) held (Fault code) e = busy-by (Loads (HasPage number listing None)) held e refl
taken-busy (Loads (HasPage number listing page)) held (Text token) e = absurd (cc)
taken-busy (Loads (HasPage number listing page)) held (Number n) e = by (nat_eq n number) e
  where
    by : (b : Bool) → cond b (page_taken number listing page) (Goes (Loads Begun)) ≡ Goes held → is_idle held ≡ false
    by true k = judged-busy number listing page held k
    by false k = busy-by (Loads Begun) held k refl
taken-busy (Loads (HasPage number listing page)) held (Page rows total update) e = absurd (cc)
taken-busy (Loads (HasPage number listing page)) held (Fault code) e = absurd (cc)
taken-busy (HasCopy number rows) held shown e = absurd (cc)

loaded-busy : (known now : Known) (held : Held) (shown : Shown) → loaded known (taken held shown) ≡ Goes now → is_idle now.held ≡ false
loaded-busy known now held shown e = by (taken held shown) refl e
  where
    by : (t : Outcome Held) → taken held shown ≡ t → loaded known t ≡ Goes now → is_idle now.held ≡ false
    by CannotBeRead t k = absurd (cc)
    by (Jumps expected first) t k = absurd (cc)
    by (Tears id) t k = absurd (cc)
    by (Goes h) t k = on h t k
      where
        plain : (g : Held) → is_idle g ≡ false → Goes (record known { held = g }) ≡ Goes now → is_idle now.held ≡ false
        plain g free m = ap (λ (x : Known). is_idle x.held) (sym (knows-is (record known { held = g }) now m)) ∙ free

        on : (g : Held) → taken held shown ≡ Goes g → loaded known (Goes g) ≡ Goes now → is_idle now.held ≡ false
        on Idle t m = absurd (true≢false (taken-busy held Idle shown t))
        on (Loads stage) t m = plain (Loads stage) refl m
        on (HasCopy number rows) t m =
            ap is_idle (counted-stays rows (record { held = HasCopy number rows; base = number; last_note = known.last_note; kept = []; happenings = [] }) now number (changes_above number known.kept) m).0

copy-busy : (known now : Known) (rows : List ObjectRow) (o : Option ℕ) (shown : Shown) → is_idle known.held ≡ false → copy_read known rows o shown ≡ Goes now → is_idle now.held ≡ false
copy-busy known now rows None shown busy e = absurd (cc)
copy-busy known now rows (Some id) (Text token) busy e = absurd (cc)
copy-busy known now rows (Some id) (Number other) busy e = absurd (cc)
copy-busy known now rows (Some id) (Fault code) busy e = ap (λ (x : Known). is_idle x.held) (sym (knows-is known now e)) ∙ busy
copy-busy known now rows (Some id) (Page shown total update) busy e = on shown e
  where
    on : (page : List ObjectRow) → row_read known rows id page ≡ Goes now → is_idle now.held ≡ false
    on [] k = absurd (cc)
    on (row ∷ next ∷ others) k = absurd (cc)
    on (row ∷ []) k = by (is_of id row (known_of id (rows_after rows known.happenings))) k
      where
        made : Known
        made = record known { happenings = Reads id (record { content = row.content; object_update = row.object_update }) ∷ known.happenings }

        by : (b : Bool) → cond b (Goes made) (Tears id) ≡ Goes now → is_idle now.held ≡ false
        by true f = ap (λ (x : Known). is_idle x.held) (sym (knows-is made now f)) ∙ busy
        by false f = absurd (cc)

reply-busy : (known : Known) (shown : Shown) → is_idle known.held ≡ false → is_idle (after_outcome known (with_reply known known.held shown)).held ≡ false
reply-busy known shown busy = by (with_reply known known.held shown) refl
  where
    on : (held : Held) (now : Known) → with_reply known held shown ≡ Goes now → is_idle now.held ≡ false
    on Idle now e = absurd (cc)
    on (Loads stage) now e = loaded-busy known now (Loads stage) shown e
    on (HasCopy number rows) now e = copy-busy known now rows (least_unread known.happenings) shown busy e

    by : (o : Outcome Known) → with_reply known known.held shown ≡ o → is_idle (after_outcome known o).held ≡ false
    by (Goes now) e = on known.held now e
    by CannotBeRead e = busy
    by (Jumps expected first) e = busy
    by (Tears id) e = busy

notes-busy : (notes : List Note) (known : Known) → is_drop (position known) notes || not (is_idle known.held) ≡ true → is_idle (after_outcome known (with_notes notes known)).held ≡ false
notes-busy notes known either = by (is_drop (position known) notes) refl either
  where
    after : (o : Outcome Known) (held : Held) → is_idle held ≡ false → ((now : Known) → o ≡ Goes now → now.held ≡ held) → is_idle known.held ≡ false → is_idle (after_outcome known o).held ≡ false
    after (Goes now) held busy is was = ap is_idle (is now refl) ∙ busy
    after CannotBeRead held busy is was = was
    after (Jumps expected first) held busy is was = was
    after (Tears id) held busy is was = was

    not-true : (b : Bool) → not b ≡ true → b ≡ false
    not-true true e = absurd (true≢false (sym e))
    not-true false e = refl

    by : (b : Bool) → is_drop (position known) notes ≡ b → b || not (is_idle known.held) ≡ true → is_idle (after_outcome known (with_notes notes known)).held ≡ false
    by true d e =
        let is : with_notes notes known ≡ heard_of notes (with_changes (Loads Begun) (load_begun known) (position known) (new_changes (position known) notes)) =
        (λ i. heard_of notes (with_changes (cond (d i) (load_begun known) known).held (cond (d i) (load_begun known) known) (position known) (new_changes (position known) notes))) in
        ap (λ (o : Outcome Known). is_idle (after_outcome known o).held) is
    by false d e =
        after (with_notes notes known) known.held (not-true (is_idle known.held) e)
        (λ now k. (notes-leave notes known now k).0 ∙ (λ i. (cond (d i) (load_begun known) known).held)) (not-true (is_idle known.held) e)

begun-busy : (turns : List ReplicaTurn) → load_was_begun turns ≡ true → is_idle (known_by turns).held ≡ false
begun-busy [] e = absurd (true≢false (sym e))
begun-busy (Begins ∷ older) e = refl
begun-busy (Shows shown ∷ older) e = reply-busy (known_by older) shown (begun-busy older e)
begun-busy (Requests ∷ older) e = begun-busy older e
begun-busy (Accepts name ∷ older) e =
    notes-busy (taken_by (Accepts name) older) (known_by older) (on (is_drop (position (known_by older)) (taken_by (Accepts name) older)) e (begun-busy older))
  where
    on : (b : Bool) → b || load_was_begun older ≡ true → (load_was_begun older ≡ true → is_idle (known_by older).held ≡ false) → b || not (is_idle (known_by older).held) ≡ true
    on true k r = refl
    on false k r = ap not (r k)
begun-busy (Refuses ∷ older) e = begun-busy older e
begun-busy (Delivers note ∷ older) e =
    notes-busy (taken_by (Delivers note) older) (known_by older) (on (is_drop (position (known_by older)) (taken_by (Delivers note) older)) e (begun-busy older))
  where
    on : (b : Bool) → b || load_was_begun older ≡ true → (load_was_begun older ≡ true → is_idle (known_by older).held ≡ false) → b || not (is_idle (known_by older).held) ≡ true
    on true k r = refl
    on false k r = ap not (r k)

-- ---- the answer

module _ (token : List ℕ) (first : ℕ) (commands : List Command) (given-accepted : AreAccepted first commands) (k : ℕ) (turns : List ReplicaTurn) (name : ℕ)
    (served : IsServed token first commands given-accepted k turns) (whole : length commands ≤ k) (named : accepted turns ≡ Some name)
    (low : 1 ≤ name) (high : name ≤ granted commands) (runs : is_some (runs_until name commands) ≡ true)
    (all : AllByRecursion (λ (note : Note). note.name ≡ name → has_place (received turns) note.place ≡ true) (notes_of first commands))
    (released : released_to first (releases_of first commands) ≡ end_of (scans_of first commands)) where
  abbrev end : ℕ
  end = end_of (scans_of first commands)

  oldest-all : oldest k commands ≡ commands
  oldest-all = let none : length commands - k ≡ 0 = omega (arith, whole) in ap (λ (n : ℕ). drop n commands) none

  sound : (note : Note) → Among note (notes_of first commands) → Sound first commands note
  sound note a = among-all (Sound first commands) (notes_of first commands) note (all-sound first commands) a

  -- the SEQs that were taken are at least those that were sent
  many : next_place_of name (notes_of first commands) ≤ next_place turns
  many = by (cases_lt (next_place turns) (next_place_of name (notes_of first commands)))
    where
      by : (next_place turns < next_place_of name (notes_of first commands)) ⊎ (next_place_of name (notes_of first commands) ≤ next_place turns) → next_place_of name (notes_of first commands) ≤ next_place turns
      by (inr l) = l
      by (inl l) =
          let note = every-seq first commands name (next_place turns) l in
          let is = among-all (λ (n : Note). n.name ≡ name → has_place (received turns) n.place ≡ true) (notes_of first commands) note.0 all note.1 note.2 in
          absurd (true≢false (sym is ∙ ap (has_place (received turns)) note.3 ∙ (longest-run turns).1))

  -- what was received was sent to the name
  sent : (note : Note) → Among note (received turns) → Among note (notes_of first commands) × (note.name ≡ name)
  sent note a =
      let s = served.hearing.sent note a in
      let both : Some note.name ≡ Some name = sym s.1 ∙ named in
      (subst (λ (cs : List Command). Among note (notes_of first cs)) oldest-all s.0, cc)

  none-missing : missing turns ≡ None
  none-missing =
      (λ i. cond (any-none (λ (note : Note). nat_lt (next_place turns) note.place) (received turns)
      (all-among (λ (note : Note). nat_lt (next_place turns) note.place ≡ false) (received turns) one) i) (Some (next_place turns)) None)
    where
      one : (note : Note) → Among note (received turns) → nat_lt (next_place turns) note.place ≡ false
      one note a =
          let s = sent note a in
          let counted = (sound note s.0).counted in
          let same = ap (λ (n : ℕ). next_place_of n (notes_of first commands)) s.1 in
          let most = many in
          le-ltb (next_place turns) note.place (omega (arith, counted, same, most))

  -- the last note that was taken has the server's number
  at-end : position (known_by turns) ≡ end
  at-end =
      let some = some-older first commands name low high in
      let most = many in
      let last = served.hearing.last (next_place_of name (notes_of first commands) - 1) (omega (arith, some, most)) in
      let a = note-among (next_place_of name (notes_of first commands) - 1) (received turns) last.0 last.1 in
      let s = sent last.0 a.0 in
      let same = ap (λ (n : ℕ). next_place_of n (notes_of first commands)) s.1 in
      let seq = a.1 in
      let reaches = (sound last.0 s.0).latest (omega (arith, seq, same, some)) (ap (λ (n : ℕ). is_some (runs_until n commands)) s.1 ∙ runs) in
      let far = reaches.0 in
      let last_note = last.2 in
      let top = past-low token first commands given-accepted k (position (known_by turns)) served.following.past in
      let is = ap (λ (cs : List Command). end_of (scans_of first cs)) oldest-all in
      omega (arith, far, last_note, top, is, released)

  pub complete : is_idle (known_by turns).held ≡ false → next_ask (known_by turns) ≡ None → says turns ≡ Stands end
  complete busy nothing = (λ i. says_of (none-missing i) (known_by turns)) ∙ by (known_by turns).held busy nothing served.following.stage
    where
      copy-on : (number : ℕ) (rows : List ObjectRow) → Stage token first commands k (HasCopy number rows) (known_by turns) → (o : Option ℕ) → option_map (λ (id : ℕ). Metadata id) o ≡ None
          → copy_says (known_by turns) o ≡ Stands end
      copy-on number rows stage (Some id) e = none≢some None (Metadata id) refl (sym e)
      copy-on number rows stage None e =
          let copy : IsCopy token first commands k number rows (known_by turns).happenings (position (known_by turns)) = stage.1 in
          let read = copy.read in
          let is = ap (λ (cs : List Command). end_of (scans_of first cs)) oldest-all in
          let at = at-end in
          (λ i. cond (le-ltb (position (known_by turns)) (read_up_to (known_by turns).happenings) (omega (arith, read, is, at)) i)
          (BehindVersion (read_up_to (known_by turns).happenings)) (Stands (position (known_by turns))))
          ∙ ap Stands at-end

      by : (held : Held) → is_idle held ≡ false → ask_of (known_by turns) held ≡ None → Stage token first commands k held (known_by turns) → says_without_gap (known_by turns) held ≡ Stands end
      by Idle b e stage = absurd (true≢false b)
      by (Loads load) b e stage = absurd (cc)
      by (HasCopy number rows) b e stage = copy-on number rows stage (least_unread (known_by turns).happenings) e

past-runs : (moment : ℕ) (o : Option ℕ) → is_some (unless_past moment o) ≡ true → is_some o ≡ true
past-runs moment None e = e
past-runs moment (Some until) e = refl

pub answers-complete : honest_answers_are_complete
answers-complete token first commands newest older name now given-accepted given begun named lives all released nothing =
    let turns : List ReplicaTurn = given_by token first commands (newest ∷ older) in
    let f = filter-among (λ (n : ℕ). is_alive n now commands) (range_with_len 1 (granted commands)) name
    (among-contained (alive_names now commands) name lives) in
    let row = row-among 1 (granted commands) name f.0 in
    let high = row.1 in
    complete token first commands given-accepted (length_at newest + length commands) turns name
    (served-later token first commands given-accepted (length_at newest) (length_at newest + length commands) turns (omega arith)
    (entries-served token first commands given-accepted (newest ∷ older) given)) (omega arith) named
    row.0 (omega (arith, high)) (past-runs now (runs_until name commands) f.1)
    all released (begun-busy turns begun) nothing
