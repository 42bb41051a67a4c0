-- A replica of an honest server takes each reply and each note, and goes on following it.
use Rattle.std.proofs.Common.{◌≡◌, ◌⊎◌, inl, inr, ◌+◌, ◌-◌, ◌<◌, ◌≤◌, ℕ, zero, suc, max, Bool, true, false, cond, not, ◌&&◌, List, [], ◌∷◌, ◌++◌, map, length, Option, Some, None, refl, sym, ap, ◌∙◌, subst, arith, true≢false, eq-eqb, lt-ltb}
use Rattle.std.specs.List.{range_with_len}
use Rattle.std.specs.Option.{option_map}
use Rattle.std.proofs.lemmas.Bool.{cases_lt}
use Rattle.cds_object.specs.Object.{ObjectRow, is_folder}
use Rattle.cds_object.specs.Tree.{row_of}
use Rattle.cds_object.specs.declared.event.Event.{Event}
use Rattle.cds_catalog.specs.History.{end_of}
use Rattle.cds_catalog.proofs.StepsFind.{none≢some}
use Rattle.cds_load.specs.declared.exchange.Ask.{Ask}
use Rattle.cds_load.specs.declared.exchange.Ask.TheVariants.{Metadata}
use Rattle.cds_load.specs.Server.{Moment, reply_to, metadata_reply}
use Rattle.cds_load.specs.Stages.{Held, Idle, Begun, HasCopy, taken, next_ask as load_ask, Loads}
use Rattle.cds_load.proofs.Trees.{found-id}
use Rattle.cds_load.proofs.Honest.{IsGiven}
use Rattle.cds_load.proofs.Replies.{reply-given}
use Rattle.cds_load.proofs.Servers.{StoodAt, server-serves}
use Rattle.cds_changes.proofs.Told.{spans-tell}
use Rattle.cds_commands.specs.Commands.{Command, scans_of, AreAccepted, oldest}
use Rattle.cds_commands.specs.Notes.{Note, changes_above, told_between}
use Rattle.cds_follow.specs.Copy.{Happening, Reads, rows_after, known_of, least_unread}
use Rattle.cds_follow.specs.Follow.{Known, position, first_torn, judged, counted_from, with_changes, load_begun, new_changes, greatest_of, heard_of, with_notes, load_ended, loaded, is_of, object_read, copy_read, with_reply, ask_of, next_ask}
use Rattle.cds_follow.specs.ServerLaws.{served, befalling}
use Rattle.cds_commands.proofs.Spanned.{above-changes, none-told, told-join}
use Rattle.cds_follow.proofs.Served.{serves, one-id}
use Rattle.cds_commands.proofs.Scanned.{dropped-grows}
use Rattle.cds_commands.proofs.Sent.{first-is, grows-rise}
use Rattle.cds_follow.proofs.Copies.{known-like}
use Rattle.cds_follow.proofs.CopyOf.{IsCopy, copy-begins, copy-goes, copy-reads, least-is-unread, unread-known}
use Rattle.cds_follow.proofs.Stages.{Bounds, taken-bounds, reply-number, greatest-least, greatest-max, Past, IsLoading, Stage, IsFollowing, AreNext, AreTaken, past-low}
use Rattle.cds_object.specs.Events.{update_of}
use Rattle.cds_load.specs.Outcome.{Outcome, Goes, Jumps, Tears}

-- what becomes of a note or a reply: it is taken, and what is known then follows the server
abbrev pub Follows : List ℕ → ℕ → List Command → ℕ → Outcome Known → Type 0
Follows token first commands k outcome = (now : Known) × (outcome ≡ Goes now) × IsFollowing token first commands k now

module _ (token : List ℕ) (first : ℕ) (commands : List Command) (accepted : AreAccepted first commands) where
  abbrev told : ℕ → ℕ → List Event
  told from to = told_between first commands from to

  number-bounds : (k : ℕ) → (first ≤ (served token first commands k).number) × ((served token first commands k).number ≤ end_of (scans_of first commands))
  number-bounds k = (
    let is = first-is first (oldest k commands) in omega (arith, is),
    grows-rise first commands (oldest k commands) (dropped-grows first (length commands - k) commands),
  )

  -- the first change that is told above a number is the one after it
  starts : (i j : ℕ) (event : Event) (events : List Event) → (served token first commands i).number ≤ (served token first commands j).number
      → told (served token first commands i).number (served token first commands j).number ≡ event ∷ events → update_of event ≡ (served token first commands i).number + 1
  starts i j event events l e = by (to - from) refl row
    where
      from : ℕ
      from = (served token first commands i).number

      to : ℕ
      to = (served token first commands j).number

      more : from + (to - from) ≡ to
      more = omega (arith, l)

      row : update_of event ∷ map update_of events ≡ range_with_len (from + 1) (to - from)
      row =
          let low = (number-bounds i).0 in
          let high = (number-bounds j).1 in
          let is = first-is first commands in
          ap (map update_of) (sym e) ∙ ap (λ (n : ℕ). map update_of (told from n)) (sym more)
          ∙ spans-tell (scans_of first commands) from (to - from) (omega (arith, low, is)) (omega (arith, l, high))

      by : (n : ℕ) → to - from ≡ n → update_of event ∷ map update_of events ≡ range_with_len (from + 1) n → update_of event ≡ from + 1
      by zero s r = absurd (cc)
      by (suc n) s r = cc

  -- changes that go on from a copy's position are counted on it
  counted : (k base : ℕ) (rows : List ObjectRow) (happenings : List Happening) (at j : ℕ) (known : Known) → j ≤ k
      → IsCopy token first commands k base rows happenings at → at ≤ (served token first commands j).number → known.happenings ≡ happenings
      → (now : List Happening) × (counted_from rows known at (told at (served token first commands j).number) ≡ Goes (record known { happenings = now }))
      × IsCopy token first commands k base rows now (served token first commands j).number
  counted k base rows happenings at j known l copy ahead same =
      let goes = copy-goes token first commands accepted k base rows happenings at j l copy ahead in
      by (told at (served token first commands j).number) refl goes.0 goes.1
    where
      here : at ≡ (served token first commands copy.at).number
      here = copy.here

      by : (events : List Event) → told at (served token first commands j).number ≡ events → first_torn (rows_after rows happenings) events ≡ None
          → IsCopy token first commands k base rows (befalling events ++ happenings) (served token first commands j).number
          → (now : List Happening) × (counted_from rows known at events ≡ Goes (record known { happenings = now }))
          × IsCopy token first commands k base rows now (served token first commands j).number
      by [] e none goes = (happenings, (λ i. Goes (record known { happenings = same i })), goes)
      by (event ∷ events) e none goes =
          let first-one : update_of event ≡ at + 1 =
          starts copy.at j event events (let h = here in let a = ahead in omega (arith, h, a)) (ap (λ (n : ℕ). told n (served token first commands j).number) (sym here) ∙ e)
          ∙ ap (λ (n : ℕ). n + 1) (sym here) in (
            befalling (event ∷ events) ++ happenings,
            (λ i. cond (eq-eqb (update_of event) (at + 1) first-one i) (judged known (event ∷ events) (first_torn (rows_after rows known.happenings) (event ∷ events))) (Jumps (at + 1) (update_of event)))
                ∙ ap (judged known (event ∷ events)) (ap (λ (hs : List Happening). first_torn (rows_after rows hs) (event ∷ events)) same ∙ none)
                ∙ (λ i. Goes (record known { happenings = befalling (event ∷ events) ++ same i })),
            goes,
          )

  -- ---- notes

  new-told : (k at : ℕ) (notes : List Note) → AreNext token first commands k at notes → new_changes at notes ≡ told at (greatest_of at notes)
  new-told k at [] next = sym (none-told (scans_of first commands) at at (omega arith))
  new-told k at (note ∷ notes) next =
      ap (λ (l : List Event). l ++ new_changes (max at note.number) notes) (next.1 at (omega arith))
      ∙ ap (λ (l : List Event). told at note.number ++ l) (new-told k (max at note.number) notes next.2)
      ∙ by (cases_lt at note.number)
    where
      by : (at < note.number) ⊎ (note.number ≤ at)
          → told at note.number ++ told (max at note.number) (greatest_of (max at note.number) notes) ≡ told at (greatest_of (max at note.number) notes)
      by (inl l) =
          let most : max at note.number ≡ note.number = omega (arith, l) in
          let least = greatest-least (max at note.number) notes in
          ap (λ (n : ℕ). told at note.number ++ told n (greatest_of (max at note.number) notes)) most
          ∙ told-join (scans_of first commands) at note.number (greatest_of (max at note.number) notes) (omega (arith, l)) (omega (arith, least, most))
      by (inr l) =
          let most : max at note.number ≡ at = omega (arith, l) in
          ap (λ (x : List Event). x ++ told (max at note.number) (greatest_of (max at note.number) notes)) (none-told (scans_of first commands) at note.number l)
          ∙ ap (λ (n : ℕ). told n (greatest_of (max at note.number) notes)) most

  past-max : (k a b : ℕ) → Past token first commands k a → Past token first commands k b → Past token first commands k (max a b)
  past-max k a b p q = by (cases_lt a b)
    where
      by : (a < b) ⊎ (b ≤ a) → Past token first commands k (max a b)
      by (inl l) = let same : b ≡ max a b = omega (arith, l) in subst (Past token first commands k) same q
      by (inr l) = let same : a ≡ max a b = omega (arith, l) in subst (Past token first commands k) same p

  greatest-past : (k at : ℕ) (notes : List Note) → Past token first commands k at → AreNext token first commands k at notes → Past token first commands k (greatest_of at notes)
  greatest-past k at [] past next = past
  greatest-past k at (note ∷ notes) past next = greatest-past k (max at note.number) notes (past-max k at note.number past (inr next.0)) next.2

  position-of : (known : Known) (notes : List Note) → max known.base (greatest_of known.last_note notes) ≡ greatest_of (position known) notes
  position-of known notes = sym (greatest-max known.base known.last_note notes)

  -- what the load keeps goes on
  keeps-on : (k : ℕ) (held : Held) (known : Known) (notes : List Note) → AreNext token first commands k (position known) notes → IsLoading token first commands k held known
      → IsLoading token first commands k held (record known { kept = known.kept ++ new_changes (position known) notes; last_note = greatest_of known.last_note notes })
  keeps-on k held known notes next loading =
      let least = greatest-least (position known) notes in
      let is = position-of known notes in
      let low = loading.before-position in
      record {
        from = loading.from;
        after-base = loading.after-base;
        before-position = omega (arith, least, is, low);
        bounds = loading.bounds;
        kept = ap (λ (l : List Event). l ++ new_changes (position known) notes) loading.kept
            ∙ ap (λ (l : List Event). told loading.from (position known) ++ l) (new-told k (position known) notes next)
            ∙ told-join (scans_of first commands) loading.from (position known) (greatest_of (position known) notes) low least
            ∙ ap (λ (n : ℕ). told loading.from n) (sym is);
      }

  -- notes that go on from the position
  next-follow : (k : ℕ) (known : Known) (notes : List Note) → IsFollowing token first commands k known → AreNext token first commands k (position known) notes
      → Follows token first commands k (heard_of notes (with_changes known.held known (position known) (new_changes (position known) notes)))
  next-follow k known notes f next = by known.held refl f.given f.stage
    where
      new : List Event
      new = new_changes (position known) notes

      past : Past token first commands k (max known.base (greatest_of known.last_note notes))
      past = subst (Past token first commands k) (sym (position-of known notes)) (greatest-past k (position known) notes f.past next)

      kept : Known
      kept = record known { kept = known.kept ++ new; last_note = greatest_of known.last_note notes }

      loading : (held : Held) → known.held ≡ held → IsGiven (StoodAt (served token first commands) k) held → Stage token first commands k held kept → Follows token first commands k (Goes kept)
      loading held same given stage = (
        kept,
        refl,
        record {
          given = subst (IsGiven (StoodAt (served token first commands) k)) (sym same) given;
          past = past;
          stage = subst (λ (h : Held). Stage token first commands k h kept) (sym same) stage;
        },
      )

      by : (held : Held) → known.held ≡ held → IsGiven (StoodAt (served token first commands) k) held → Stage token first commands k held known
          → Follows token first commands k (heard_of notes (with_changes held known (position known) new))
      by Idle same given stage = (
        record known { last_note = greatest_of known.last_note notes },
        refl,
        record {
          given = subst (IsGiven (StoodAt (served token first commands) k)) (sym same) given;
          past = past;
          stage = subst (λ (h : Held). Stage token first commands k h (record known { last_note = greatest_of known.last_note notes })) (sym same) tt;
        },
      )
      by (Loads load) same given stage = loading (Loads load) same given (keeps-on k (Loads load) known notes next stage)
      by (HasCopy number rows) same given stage = on (there (greatest-past k (position known) notes f.past next))
        where
          copy : IsCopy token first commands k number rows known.happenings (position known)
          copy = stage.1

          -- the new position is a number that the server had
          there : Past token first commands k (greatest_of (position known) notes) → (j : ℕ) × (j ≤ k) × (greatest_of (position known) notes ≡ (served token first commands j).number)
          there (inr p) = p
          there (inl none) =
              let least = greatest-least (position known) notes in
              let here = copy.here in
              (copy.at, copy.within, omega (arith, none, least, here))

          on : (j : ℕ) × (j ≤ k) × (greatest_of (position known) notes ≡ (served token first commands j).number)
              → Follows token first commands k (heard_of notes (counted_from rows known (position known) new))
          on (j, l, is) =
              let least = greatest-least (position known) notes in
              let c = counted k number rows known.happenings (position known) j known l copy (omega (arith, least, is)) refl in (
                record known { happenings = c.0; last_note = greatest_of known.last_note notes },
                ap (λ (events : List Event). heard_of notes (counted_from rows known (position known) events))
                    (new-told k (position known) notes next ∙ ap (λ (n : ℕ). told (position known) n) is)
                    ∙ ap (heard_of notes) c.1,
                record {
                  given = subst (IsGiven (StoodAt (served token first commands) k)) (sym same) given;
                  past = past;
                  stage = subst (λ (h : Held). Stage token first commands k h (record known { happenings = c.0; last_note = greatest_of known.last_note notes })) (sym same)
                      (stage.0, subst (IsCopy token first commands k number rows c.0) (sym (position-of known notes ∙ is)) c.2);
                },
              )

  -- a first note above the position, and those that go on from it
  drop-follows : (k : ℕ) (known : Known) (note : Note) (rest : List Note) → IsFollowing token first commands k known → note.events ≡ [] → position known < note.number
      → ((j : ℕ) × (j ≤ k) × (note.number ≡ (served token first commands j).number)) → AreNext token first commands k note.number rest
      → Follows token first commands k (heard_of (note ∷ rest) (with_changes (Loads Begun) (load_begun known) (position known) (new_changes (position known) (note ∷ rest))))
  drop-follows k known note rest f none above stood next = (
    now,
    refl,
    record {
      given = tt;
      past = subst (Past token first commands k) (sym is) (greatest-past k note.number rest (inr stood) next);
      stage = record {
        from = note.number;
        after-base = omega (arith, above);
        before-position = let least = greatest-least note.number rest in let at = is in omega (arith, least, at);
        bounds = past-low token first commands accepted k note.number (inr stood);
        kept = ap (λ (events : List Event). changes_above (position known) events ++ new_changes (max (position known) note.number) rest) none
            ∙ ap (λ (n : ℕ). new_changes n rest) most
            ∙ new-told k note.number rest next
            ∙ ap (λ (n : ℕ). told note.number n) (sym is);
      };
    },
  )
    where
      now : Known
      now = record (load_begun known) { kept = new_changes (position known) (note ∷ rest); last_note = greatest_of known.last_note (note ∷ rest) }

      most : max (position known) note.number ≡ note.number
      most = omega (arith, above)

      is : max known.base (greatest_of known.last_note (note ∷ rest)) ≡ greatest_of note.number rest
      is = position-of known (note ∷ rest) ∙ ap (λ (n : ℕ). greatest_of n rest) most

  -- notes that are taken are none of them refused
  pub notes-follow : (k : ℕ) (known : Known) (notes : List Note) → IsFollowing token first commands k known → AreTaken token first commands k (position known) notes
      → Follows token first commands k (with_notes notes known)
  notes-follow k known notes f (inl t) =
      subst (λ (d : Known). Follows token first commands k (heard_of notes (with_changes d.held d (position known) (new_changes (position known) notes))))
      (λ i. cond (sym t.0 i) (load_begun known) known)
      (next-follow k known notes f t.1)
  notes-follow k known notes f (inr (note, rest, is, zeroth, none, above, stood, next)) =
      subst (λ (l : List Note). Follows token first commands k (with_notes l known)) (sym is)
      (subst (λ (d : Known). Follows token first commands k (heard_of (note ∷ rest) (with_changes d.held d (position known) (new_changes (position known) (note ∷ rest)))))
      (sym (λ i. cond (eq-eqb note.place 0 zeroth i && lt-ltb (position known) note.number above i) (load_begun known) known))
      (drop-follows k known note rest f none above stood next))

  -- ---- replies

  -- a copy from a load that ended, with the changes that were kept
  ended-follows : (k : ℕ) (known : Known) (number : ℕ) (rows : List ObjectRow) → Past token first commands k (position known)
      → IsGiven (StoodAt (served token first commands) k) (HasCopy number rows)
      → (from : ℕ) → from ≤ number → known.base ≤ from → known.kept ≡ told from (position known) → Follows token first commands k (load_ended known number rows)
  ended-follows k known number rows past given from low after kept = on given.0.stood
    where
      ended : Known
      ended = record { held = HasCopy number rows; base = number; last_note = known.last_note; kept = []; happenings = [] }

      left : changes_above number known.kept ≡ told number (position known)
      left = ap (changes_above number) kept ∙ above-changes (scans_of first commands) number from (position known) low

      on : StoodAt (served token first commands) k given.0.moment → Follows token first commands k (counted_from rows ended number (changes_above number known.kept))
      on stood = by (cases_lt number (position known))
        where
          numbered : number ≡ (served token first commands stood.at).number
          numbered = given.0.numbered ∙ ap (λ (m : Moment). m.number) stood.is

          of-rows : rows ≡ (served token first commands stood.at).rows
          of-rows = given.1 ∙ ap (λ (m : Moment). m.rows) stood.is

          copy : IsCopy token first commands k number rows [] number
          copy =
              subst (λ (n : ℕ). IsCopy token first commands k n rows [] n) (sym numbered)
              (subst (λ (r : List ObjectRow). IsCopy token first commands k (served token first commands stood.at).number r [] (served token first commands stood.at).number) (sym of-rows)
              (copy-begins token first commands accepted stood.at k stood.within))

          by : (number < position known) ⊎ (position known ≤ number) → Follows token first commands k (counted_from rows ended number (changes_above number known.kept))
          by (inr most) =
              let same : number ≡ max number known.last_note = omega (arith, most) in (
                ended,
                ap (counted_from rows ended number) (left ∙ none-told (scans_of first commands) number (position known) most),
                record {
                  given = given;
                  past = inr (stood.at, stood.within, (let n = numbered in omega (arith, n, same)));
                  stage = (refl, subst (IsCopy token first commands k number rows []) same copy);
                },
              )
          by (inl more) = there past
            where
              there : Past token first commands k (position known) → Follows token first commands k (counted_from rows ended number (changes_above number known.kept))
              there (inl none) = let no : ⊥ = omega (arith, none, more) in absurd no
              there (inr (j, l, is)) =
                  let same : (served token first commands j).number ≡ max number known.last_note = omega (arith, is, more, after, low) in
                  let c = counted k number rows [] number j ended l copy (omega (arith, is, more)) refl in (
                    record ended { happenings = c.0 },
                    ap (counted_from rows ended number) (left ∙ ap (λ (n : ℕ). told number n) is) ∙ c.1,
                    record {
                      given = given;
                      past = inr (j, l, sym same);
                      stage = (refl, subst (IsCopy token first commands k number rows c.0) same c.2);
                    },
                  )

  -- a reply to a read of the load
  load-follows : (k : ℕ) (held : Held) (known : Known) (ask : Ask) → IsFollowing token first commands k known → IsLoading token first commands k held known
      → IsGiven (StoodAt (served token first commands) k) held → load_ask held ≡ Some ask
      → Follows token first commands k (loaded known (taken held (reply_to (served token first commands k) ask)))
  load-follows k held known ask f loading given asks =
      let t = reply-given (StoodAt (served token first commands) k) (served token first commands k) (server-serves (served token first commands) k (serves token first commands accepted.libraries)) held ask asks given in
      let low = loading.before-position in
      let most = past-low token first commands accepted k (position known) f.past in
      let bounds = taken-bounds loading.from (served token first commands k).number held t.0 (reply_to (served token first commands k) ask) (omega (arith, low, most))
      (λ n e. let is = reply-number (served token first commands k) ask n e in omega (arith, low, most, is)) loading.bounds t.1 in
      subst (λ (x : Outcome Held). Follows token first commands k (loaded known x)) (sym t.1) (by t.0 t.2 bounds)
    where
      still : (now : Held) → Bounds loading.from (served token first commands k).number now → IsLoading token first commands k now (record known { held = now })
      still now bounds = record {
        from = loading.from;
        after-base = loading.after-base;
        before-position = loading.before-position;
        bounds = bounds;
        kept = loading.kept;
      }

      by : (now : Held) → IsGiven (StoodAt (served token first commands) k) now → Bounds loading.from (served token first commands k).number now → Follows token first commands k (loaded known (Goes now))
      by Idle g b = (record known { held = Idle }, refl, record { given = g; past = f.past; stage = tt })
      by (Loads stage) g b = (record known { held = Loads stage }, refl, record { given = g; past = f.past; stage = still (Loads stage) b })
      by (HasCopy number rows) g b = ended-follows k known number rows f.past g loading.from b loading.after-base loading.kept

  -- a reply to a read of an unread object
  object-follows : (k : ℕ) (known : Known) (number : ℕ) (rows : List ObjectRow) (id : ℕ) → IsFollowing token first commands k known → known.held ≡ HasCopy number rows
      → IsGiven (StoodAt (served token first commands) k) (HasCopy number rows) → Stage token first commands k (HasCopy number rows) known → least_unread known.happenings ≡ Some id
      → Follows token first commands k (object_read known rows id (metadata_reply (served token first commands k) (row_of id (served token first commands k).rows)))
  object-follows k known number rows id f same given stage unread = by (row_of id (served token first commands k).rows) refl
    where
      copy : IsCopy token first commands k number rows known.happenings (position known)
      copy = stage.1

      kinds : (b c : Bool) → b ≡ c → cond b c (not c) ≡ true
      kinds true true e = refl
      kinds true false e = absurd (true≢false e)
      kinds false true e = absurd (true≢false (sym e))
      kinds false false e = refl

      by : (o : Option ObjectRow) → row_of id (served token first commands k).rows ≡ o → Follows token first commands k (object_read known rows id (metadata_reply (served token first commands k) o))
      by None e = (known, refl, f)
      by (Some row) e =
          let there = unread-known token first commands accepted rows known.happenings copy.possible id (least-is-unread token first commands accepted known.happenings id unread) in
          let was = known-like (rows_after rows known.happenings) (served token first commands copy.at).rows id there.0 copy.like there.1 in
          let one = one-id token first commands accepted.libraries copy.at k id row was.0 copy.within e was.1 in
          let kind : is_folder row.content ≡ there.0.folder = sym one.1 ∙ sym was.2.folder in
          let is : is_of id row (known_of id (rows_after rows known.happenings)) ≡ true =
          ap (is_of id row) there.1
          ∙ (λ i. eq-eqb row.id id (found-id id (served token first commands k).rows row e) i && kinds (is_folder row.content) there.0.folder kind i) in
          let now : Known = record known { happenings = Reads id (record { content = row.content; object_update = row.object_update }) ∷ known.happenings } in (
            now,
            (λ i. cond (is i) (Goes now) (Tears id)),
            record {
              given = subst (IsGiven (StoodAt (served token first commands) k)) (sym same) given;
              past = f.past;
              stage = subst (λ (h : Held). Stage token first commands k h now) (sym same)
                  (stage.0, copy-reads token first commands accepted k number rows known.happenings (position known) copy id row there.0 e there.1);
            },
          )

  -- a reply to the next read is not refused
  pub reply-follows : (k : ℕ) (known : Known) (ask : Ask) → IsFollowing token first commands k known → next_ask known ≡ Some ask
      → Follows token first commands k (with_reply known known.held (reply_to (served token first commands k) ask))
  reply-follows k known ask f asks = by known.held refl f.given f.stage asks
    where
      by : (held : Held) → known.held ≡ held → IsGiven (StoodAt (served token first commands) k) held → Stage token first commands k held known → ask_of known held ≡ Some ask
          → Follows token first commands k (with_reply known held (reply_to (served token first commands k) ask))
      by Idle same given stage a = none≢some None ask refl a
      by (Loads load) same given stage a = load-follows k (Loads load) known ask f stage given a
      by (HasCopy number rows) same given stage a = on (least_unread known.happenings) refl a
        where
          on : (o : Option ℕ) → least_unread known.happenings ≡ o → option_map (λ (id : ℕ). Metadata id) o ≡ Some ask
              → Follows token first commands k (copy_read known rows o (reply_to (served token first commands k) ask))
          on None e b = none≢some None ask refl b
          on (Some id) e b =
              let is : Metadata id ≡ ask = cc in
              subst (λ (x : Ask). Follows token first commands k (copy_read known rows (Some id) (reply_to (served token first commands k) x))) is
              (object-follows k known number rows id f same given stage e)
