-- What befell a copy stands in the order of the turns.
use Rattle.std.proofs.Common.{◌≡◌, ◌+◌, ℕ, Bool, true, false, cond, nat_eq, List, [], ◌∷◌, ◌++◌, Option, Some, None, refl, sym, ap, ◌∙◌, true≢false, append_assoc}
use Rattle.cds_object.specs.Object.{ObjectRow}
use Rattle.cds_object.specs.declared.event.Event.{Event}
use Rattle.cds_object.specs.Events.{update_of}
use Rattle.cds_load.specs.Outcome.{Goes, Jumps, Tears, after_outcome, is_no}
use Rattle.cds_load.specs.Stages.{Held, Idle, Loads, HasCopy}
use Rattle.cds_load.specs.declared.exchange.Shown.{Shown}
use Rattle.cds_load.specs.declared.exchange.Shown.TheVariants.{Text, Number, Page, Fault}
use Rattle.cds_commands.specs.Notes.{Note}
use Rattle.cds_follow.specs.Copy.{Reads, rows_after, known_of, least_unread}
use Rattle.cds_follow.specs.Inbox.{ReplicaTurn, Begins, Shows, Requests, Accepts, Refuses, Delivers, arrival, taken_by}
use Rattle.cds_follow.specs.Follow.{Known, position, first_torn, judged, counted_from, with_changes, load_begun, new_changes, is_drop, heard_of, with_notes, is_of, row_read, copy_read, with_reply, known_by, is_turned_away, is_refused}
use Rattle.cds_follow.specs.KnownLaws.{has_copy}
use Rattle.cds_follow.specs.Seen.{StandsThrough}
use Rattle.cds_follow.specs.ServerLaws.{befalling}
use Rattle.cds_follow.specs.OrderLaws.{read_of_rows, read_of_reply, befell_by, befell_in, happenings_are_in_order}
use Rattle.cds_follow.proofs.Happened.{neither}

-- ---- a reply to the read of an object

row-order : (known : Known) (rows : List ObjectRow) (id : ℕ) (page : List ObjectRow) → is_no (row_read known rows id page) ≡ false
    → (after_outcome known (row_read known rows id page)).happenings ≡ read_of_rows (Some id) page ++ known.happenings
row-order known rows id [] free = absurd (true≢false free)
row-order known rows id (row ∷ next ∷ others) free = absurd (true≢false free)
row-order known rows id (row ∷ []) free = by (is_of id row (known_of id (rows_after rows known.happenings))) free
  where
    made : Known
    made = record known { happenings = Reads id (record { content = row.content; object_update = row.object_update }) ∷ known.happenings }

    by : (b : Bool) → is_no (cond b (Goes made) (Tears id)) ≡ false → (after_outcome known (cond b (Goes made) (Tears id))).happenings ≡ read_of_rows (Some id) (row ∷ []) ++ known.happenings
    by true k = refl
    by false k = absurd (true≢false k)

copy-order : (known : Known) (rows : List ObjectRow) (o : Option ℕ) (shown : Shown) → is_no (copy_read known rows o shown) ≡ false
    → (after_outcome known (copy_read known rows o shown)).happenings ≡ read_of_reply o shown ++ known.happenings
copy-order known rows None shown free = absurd (true≢false free)
copy-order known rows (Some id) (Text token) free = absurd (true≢false free)
copy-order known rows (Some id) (Number number) free = absurd (true≢false free)
copy-order known rows (Some id) (Page page total update) free = row-order known rows id page free
copy-order known rows (Some id) (Fault code) free = refl

reply-order : (known : Known) (held : Held) (shown : Shown) → has_copy held ≡ true → is_no (with_reply known held shown) ≡ false
    → (after_outcome known (with_reply known held shown)).happenings ≡ read_of_reply (least_unread known.happenings) shown ++ known.happenings
reply-order known Idle shown copy free = absurd (true≢false (sym copy))
reply-order known (Loads stage) shown copy free = absurd (true≢false (sym copy))
reply-order known (HasCopy number rows) shown copy free = copy-order known rows (least_unread known.happenings) shown free

-- ---- notes that are taken

module _ (notes : List Note) (known : Known) where
  counted-order : (rows : List ObjectRow) (at : ℕ) (events : List Event) → is_no (heard_of notes (counted_from rows known at events)) ≡ false
      → (after_outcome known (heard_of notes (counted_from rows known at events))).happenings ≡ befalling events ++ known.happenings
  counted-order rows at [] free = refl
  counted-order rows at (event ∷ events) free = by (nat_eq (update_of event) (at + 1)) (first_torn (rows_after rows known.happenings) (event ∷ events)) free
    where
      by : (b : Bool) (o : Option ℕ) → is_no (heard_of notes (cond b (judged known (event ∷ events) o) (Jumps (at + 1) (update_of event)))) ≡ false
          → (after_outcome known (heard_of notes (cond b (judged known (event ∷ events) o) (Jumps (at + 1) (update_of event))))).happenings ≡ befalling (event ∷ events) ++ known.happenings
      by true None k = refl
      by true (Some id) k = absurd (true≢false k)
      by false o k = absurd (true≢false k)

  changes-order : (held : Held) (at : ℕ) (events : List Event) → has_copy held ≡ true → is_no (heard_of notes (with_changes held known at events)) ≡ false
      → (after_outcome known (heard_of notes (with_changes held known at events))).happenings ≡ befalling events ++ known.happenings
  changes-order Idle at events copy free = absurd (true≢false (sym copy))
  changes-order (Loads stage) at events copy free = absurd (true≢false (sym copy))
  changes-order (HasCopy number rows) at events copy free = counted-order rows at events free

  notes-order : has_copy known.held ≡ true → is_no (with_notes notes known) ≡ false → has_copy (after_outcome known (with_notes notes known)).held ≡ true
      → (after_outcome known (with_notes notes known)).happenings ≡ befalling (new_changes (position known) notes) ++ known.happenings
  notes-order before free after = by (is_drop (position known) notes) free after
    where
      events : List Event
      events = new_changes (position known) notes

      by : (b : Bool) → is_no (heard_of notes (with_changes (cond b (load_begun known) known).held (cond b (load_begun known) known) (position known) events)) ≡ false
          → has_copy (after_outcome known (heard_of notes (with_changes (cond b (load_begun known) known).held (cond b (load_begun known) known) (position known) events))).held ≡ true
          → (after_outcome known (heard_of notes (with_changes (cond b (load_begun known) known).held (cond b (load_begun known) known) (position known) events))).happenings ≡ befalling events ++ known.happenings
      by true k stands = absurd (true≢false (sym stands))
      by false k stands = changes-order known.held (position known) events before k

-- ---- turns

turn-order : (turn : ReplicaTurn) (older : List ReplicaTurn) → is_refused turn older ≡ false → has_copy (known_by older).held ≡ true → has_copy (known_by (turn ∷ older)).held ≡ true
    → (known_by (turn ∷ older)).happenings ≡ befell_by turn older ++ (known_by older).happenings
turn-order Begins older free before after = absurd (true≢false (sym after))
turn-order (Shows shown) older free before after = reply-order (known_by older) (known_by older).held shown before free
turn-order Requests older free before after = refl
turn-order (Accepts name) older free before after = notes-order (taken_by (Accepts name) older) (known_by older) before free after
turn-order Refuses older free before after = refl
turn-order (Delivers note) older free before after =
    notes-order (taken_by (Delivers note) older) (known_by older) before
    (neither (is_turned_away (arrival note older)) (is_no (with_notes (taken_by (Delivers note) older) (known_by older))) free).1 after

stands-last : (newer older : List ReplicaTurn) → StandsThrough newer older → has_copy (known_by (newer ++ older)).held ≡ true
stands-last [] older stands = stands
stands-last (turn ∷ newer) older stands = stands.0

pub in-order : happenings_are_in_order
in-order [] older none stands = refl
in-order (turn ∷ newer) older none stands =
    turn-order turn (newer ++ older) none.0 (stands-last newer older stands.1) stands.0
    ∙ ap (λ h. befell_by turn (newer ++ older) ++ h) (in-order newer older none.1 stands.1)
    ∙ sym (append_assoc (befell_by turn (newer ++ older)) (befell_in newer older) (known_by older).happenings)
