-- What a replica holds of its load is what the turns of its loads hold.
use Rattle.std.proofs.Common.{◌≡◌, ℕ, Bool, true, false, cond, ◌||◌, List, [], ◌∷◌, Option, Some, None, refl, sym, ap, ◌∙◌}
use Rattle.cds_object.specs.Object.{ObjectRow}
use Rattle.cds_load.specs.declared.exchange.Shown.{Shown}
use Rattle.cds_load.specs.declared.exchange.Shown.TheVariants.{Text, Number, Page, Fault}
use Rattle.cds_load.specs.Stages.{Held, Idle, HasCopy, taken, ReplicaTurn as LoadTurn, Begins as LoadBegins, Shows as LoadShows, held_by, Loads}
use Rattle.cds_commands.specs.Notes.{Note, changes_above}
use Rattle.cds_follow.specs.Copy.{Reads, rows_after, known_of, least_unread}
use Rattle.cds_follow.specs.Inbox.{Begins, Shows, Requests, Accepts, Refuses, Delivers, taken_by}
use Rattle.cds_follow.specs.Follow.{Known, position, with_changes, load_begun, new_changes, is_drop, heard_of, with_notes, load_ended, loaded, is_of, row_read, copy_read, with_reply, known_by, is_refused}
use Rattle.cds_follow.specs.KnownLaws.{has_copy}
use Rattle.cds_load.specs.Attempts.{ShowsRows as LoadShowsRows}
use Rattle.cds_follow.specs.LoadTurns.{load_turns, loads_are_of_turns, loads_show_rows}
use Rattle.cds_follow.proofs.Heard.{counted-stays, notes-leave}
use Rattle.cds_load.specs.Outcome.{Outcome, Goes, CannotBeRead, Jumps, Tears, after_outcome, is_no}

module _ (known : Known) (turns : List LoadTurn) (is : known.held ≡ held_by turns) where
  -- a first note that drops the copy is never refused, and others leave the load
  notes-held : (notes : List Note)
      → (after_outcome known (with_notes notes known)).held ≡ held_by (cond (is_drop (position known) notes) (LoadBegins ∷ turns) turns)
  notes-held notes = by (is_drop (position known) notes) refl
    where
      by : (b : Bool) → is_drop (position known) notes ≡ b → (after_outcome known (with_notes notes known)).held ≡ held_by (cond b (LoadBegins ∷ turns) turns)
      by true d =
          ap (λ (o : Outcome Known). (after_outcome known o).held)
          (λ i. heard_of notes (with_changes (cond (d i) (load_begun known) known).held (cond (d i) (load_begun known) known) (position known) (new_changes (position known) notes)))
      by false d = on (with_notes notes known) refl
        where
          on : (o : Outcome Known) → with_notes notes known ≡ o → (after_outcome known o).held ≡ held_by turns
          on (Goes now) e = (notes-leave notes known now e).0 ∙ (λ i. (cond (d i) (load_begun known) known).held) ∙ is
          on CannotBeRead e = is
          on (Jumps expected first) e = is
          on (Tears id) e = is

  module _ (shown : Shown) where
    -- what is held after a turn of a load or none
    abbrev held_then : Bool → Held
    held_then refused = held_by (cond refused turns (LoadShows shown ∷ turns))

    loaded-held : (held : Held) → known.held ≡ held → (t : Outcome Held) → taken held shown ≡ t → (after_outcome known (loaded known t)).held ≡ held_then (is_no (loaded known t))
    loaded-held held same CannotBeRead e = is
    loaded-held held same (Jumps expected first) e = is
    loaded-held held same (Tears id) e = is
    loaded-held held same (Goes h) e = by h there
      where
        there : held_by (LoadShows shown ∷ turns) ≡ h
        there = (λ i. after_outcome ((sym is ∙ same) i) (taken ((sym is ∙ same) i) shown)) ∙ ap (after_outcome held) e

        by : (g : Held) → held_by (LoadShows shown ∷ turns) ≡ g → (after_outcome known (loaded known (Goes g))).held ≡ held_then (is_no (loaded known (Goes g)))
        by Idle q = sym q
        by (Loads stage) q = sym q
        by (HasCopy number rows) q = on (load_ended known number rows) refl
          where
            on : (o : Outcome Known) → load_ended known number rows ≡ o → (after_outcome known o).held ≡ held_then (is_no o)
            on (Goes now) k =
                (counted-stays rows (record { held = HasCopy number rows; base = number; last_note = known.last_note; kept = []; happenings = [] }) now number (changes_above number known.kept) k).0
                ∙ sym q
            on CannotBeRead k = is
            on (Jumps expected first) k = is
            on (Tears id) k = is

    copy-held : (rows : List ObjectRow) (o : Option ℕ) (s : Shown) → (after_outcome known (copy_read known rows o s)).held ≡ known.held
    copy-held rows None s = refl
    copy-held rows (Some id) (Text token) = refl
    copy-held rows (Some id) (Number number) = refl
    copy-held rows (Some id) (Fault code) = refl
    copy-held rows (Some id) (Page page total update) = on page
      where
        on : (page : List ObjectRow) → (after_outcome known (row_read known rows id page)).held ≡ known.held
        on [] = refl
        on (row ∷ next ∷ others) = refl
        on (row ∷ []) = by (is_of id row (known_of id (rows_after rows known.happenings)))
          where
            by : (b : Bool)
                → (after_outcome known (cond b (Goes (record known { happenings = Reads id (record { content = row.content; object_update = row.object_update }) ∷ known.happenings })) (Tears id))).held
                ≡ known.held
            by true = refl
            by false = refl

    reply-held : (held : Held) → known.held ≡ held → (after_outcome known (with_reply known held shown)).held ≡ held_then (has_copy held || is_no (with_reply known held shown))
    reply-held Idle same = is
    reply-held (Loads stage) same = loaded-held (Loads stage) same (taken (Loads stage) shown) refl
    reply-held (HasCopy number rows) same = copy-held rows (least_unread known.happenings) shown ∙ is

pub loads-are-of-turns : loads_are_of_turns
loads-are-of-turns [] = refl
loads-are-of-turns (Begins ∷ older) = refl
loads-are-of-turns (Shows shown ∷ older) = reply-held (known_by older) (load_turns older) (loads-are-of-turns older) shown (known_by older).held refl
loads-are-of-turns (Requests ∷ older) = loads-are-of-turns older
loads-are-of-turns (Accepts name ∷ older) = notes-held (known_by older) (load_turns older) (loads-are-of-turns older) (taken_by (Accepts name) older)
loads-are-of-turns (Refuses ∷ older) = loads-are-of-turns older
loads-are-of-turns (Delivers note ∷ older) = notes-held (known_by older) (load_turns older) (loads-are-of-turns older) (taken_by (Delivers note) older)

-- ---- rows that were shown

begun-rows : (b : Bool) (turns : List LoadTurn) → LoadShowsRows turns → LoadShowsRows (cond b (LoadBegins ∷ turns) turns)
begun-rows true turns shows = shows
begun-rows false turns shows = shows

pub loads-show-rows : loads_show_rows
loads-show-rows [] shows = tt
loads-show-rows (Begins ∷ older) shows = loads-show-rows older shows
loads-show-rows (Shows shown ∷ older) shows = by (has_copy (known_by older).held || is_refused (Shows shown) older) (loads-show-rows older shows.1)
  where
    by : (b : Bool) → LoadShowsRows (load_turns older) → LoadShowsRows (cond b (load_turns older) (LoadShows shown ∷ load_turns older))
    by true rest = rest
    by false rest = (shows.0, rest)
loads-show-rows (Requests ∷ older) shows = loads-show-rows older shows
loads-show-rows (Accepts name ∷ older) shows = begun-rows (is_drop (position (known_by older)) (taken_by (Accepts name) older)) (load_turns older) (loads-show-rows older shows)
loads-show-rows (Refuses ∷ older) shows = loads-show-rows older shows
loads-show-rows (Delivers note ∷ older) shows = begun-rows (is_drop (position (known_by older)) (taken_by (Delivers note) older)) (load_turns older) (loads-show-rows older shows)
