-- The changes of a scan, and those of a span, lead from rows like those before them to rows like those after them.
use Rattle.std.proofs.Common.{◌≡◌, ◌+◌, ◌≤◌, ℕ, Bool, true, false, cond, ◌&&◌, List, [], ◌∷◌, ◌++◌, filter, length, Some, None, refl, sym, ap, ◌∙◌, subst, arith, length-append, lt-ltb, le-leb}
use Rattle.std.specs.List.{AllByRecursion}
use Rattle.std.proofs.lemmas.List.Elements.{filter-append}
use Rattle.cds_object.specs.Object.{ObjectRow}
use Rattle.cds_object.specs.declared.event.Event.{Event}
use Rattle.cds_catalog.specs.Library.{FolderMap, found}
use Rattle.cds_catalog.specs.History.{History, latest, changes_of, end_of}
use Rattle.cds_catalog.specs.Catalog.{catalog}
use Rattle.cds_catalog.specs.Laws.{AreLibraries}
use Rattle.cds_catalog.specs.Replay.{IsLegal}
use Rattle.cds_catalog.specs.declared.change.Change.{Change}
use Rattle.cds_catalog.proofs.Found.{history_is_legal}
use Rattle.cds_catalog.proofs.Numbers.{length_of_more}
use Rattle.cds_catalog.proofs.StepsRows.{rows_over}
use Rattle.cds_catalog.proofs.StepsCatalog.{placed_rows_over}
use Rattle.cds_changes.specs.Events.{event_of, scan_events, all_events, events_between, is_in_subtree, heads_done, done_events, change_events}
use Rattle.cds_changes.proofs.Numbers.{tells}
use Rattle.cds_changes.proofs.Within.{Lies, scan-lies, all-lie}
use Rattle.cds_changes.proofs.Spans.{is_in, span, none_above, spans-join, spans-stay}
use Rattle.cds_follow.specs.Copy.{KnownRow, cannot_be, changed}
use Rattle.cds_follow.specs.Follow.{first_torn}
use Rattle.cds_follow.specs.StepLaws.{AreLike, changed_by, spans_lead_to_the_rows}
use Rattle.cds_follow.proofs.Like.{unplaced}
use Rattle.cds_follow.proofs.Leads.{change-leads}
use Rattle.cds_object.specs.Events.{update_of, is_change, object_of}

-- changes that can all be, one by one, and what they lead to
abbrev pub LeadsTo : List KnownRow → List Event → List ObjectRow → Type 0
LeadsTo knowns events rows = (first_torn knowns events ≡ None) × AreLike (changed_by knowns events) rows

-- ---- one after the other

none-torn : (knowns : List KnownRow) (event : Event) (events : List Event) → cannot_be knowns event ≡ false
    → first_torn knowns (event ∷ events) ≡ first_torn (changed knowns event) events
none-torn knowns event events can = λ i. cond (can i) (Some (object_of event)) (first_torn (changed knowns event) events)

torn-append : (knowns : List KnownRow) (events others : List Event) → first_torn knowns events ≡ None
    → first_torn knowns (events ++ others) ≡ first_torn (changed_by knowns events) others
torn-append knowns [] others none = refl
torn-append knowns (event ∷ events) others none = by (cannot_be knowns event) none (torn-append (changed knowns event) events others)
  where
    by : (b : Bool) → cond b (Some (object_of event)) (first_torn (changed knowns event) events) ≡ None
        → (first_torn (changed knowns event) events ≡ None → first_torn (changed knowns event) (events ++ others) ≡ first_torn (changed_by (changed knowns event) events) others)
        → cond b (Some (object_of event)) (first_torn (changed knowns event) (events ++ others)) ≡ first_torn (changed_by (changed knowns event) events) others
    by true e r = some-none e
      where
        some-none : Some (object_of event) ≡ None → Some (object_of event) ≡ first_torn (changed_by (changed knowns event) events) others
        some-none e = cc
    by false e r = r e

changed-append : (knowns : List KnownRow) (events others : List Event) → changed_by knowns (events ++ others) ≡ changed_by (changed_by knowns events) others
changed-append knowns [] others = refl
changed-append knowns (event ∷ events) others = changed-append (changed knowns event) events others

pub leads-append : (knowns : List KnownRow) (events others : List Event) (rows : List ObjectRow) → first_torn knowns events ≡ None
    → LeadsTo (changed_by knowns events) others rows → LeadsTo knowns (events ++ others) rows
leads-append knowns events others rows none leads = (
  torn-append knowns events others none ∙ leads.0,
  subst (λ (k : List KnownRow). AreLike k rows) (sym (changed-append knowns events others)) leads.1,
)

-- ---- a scan

no-change-done : (number : ℕ) (changes heads : List Change) → filter is_change (done_events number changes heads) ≡ []
no-change-done number changes [] = refl
no-change-done number changes (head ∷ heads) = no-change-done number changes heads

-- of the events of a change its own alone tells one
pub one-change : (first : ℕ) (scan : List Change) (change : Change) (older : List Change)
    → filter is_change (change_events first scan change older) ≡ event_of (first + length (change ∷ older)) older change (is_in_subtree scan change) ∷ []
one-change first scan change older =
    (λ i. cond (tells (first + length (change ∷ older)) older change (is_in_subtree scan change) i) (told ∷ filter is_change done) (filter is_change done))
    ∙ ap (λ (l : List Event). told ∷ l) (no-change-done (first + length (change ∷ older)) (change ∷ older) (heads_done scan change))
  where
    told : Event
    told = event_of (first + length (change ∷ older)) older change (is_in_subtree scan change)

    done : List Event
    done = done_events (first + length (change ∷ older)) (change ∷ older) (heads_done scan change)

pub scan-leads : (first : ℕ) (before scan part : List Change) (knowns : List KnownRow) → IsLegal (part ++ before) → first + length (part ++ before) ≤ 4294967295
    → AreLike knowns (unplaced (rows_over first before))
    → LeadsTo knowns (filter is_change (scan_events first before scan part)) (unplaced (rows_over first (part ++ before)))
scan-leads first before scan [] knowns legal room like = (refl, like)
scan-leads first before scan (change ∷ earlier) knowns legal room like =
    let less : first + length (earlier ++ before) ≤ 4294967295 = omega (arith, room) in
    let led = scan-leads first before scan earlier knowns legal.0 less like in
    let next = change-leads first change (earlier ++ before) legal room (is_in_subtree scan change) (changed_by knowns (filter is_change (scan_events first before scan earlier))) led.1 in
    subst (λ (l : List Event). LeadsTo knowns l (unplaced (rows_over first (change ∷ earlier ++ before))))
    (sym (filter-append is_change (scan_events first before scan earlier) (change_events first scan change (earlier ++ before))
    ∙ ap (λ (l : List Event). filter is_change (scan_events first before scan earlier) ++ l) (one-change first scan change (earlier ++ before))))
    (leads-append knowns (filter is_change (scan_events first before scan earlier))
    (event_of (first + length (change ∷ earlier ++ before)) (earlier ++ before) change (is_in_subtree scan change) ∷ [])
    (unplaced (rows_over first (change ∷ earlier ++ before))) led.0 (
      none-torn (changed_by knowns (filter is_change (scan_events first before scan earlier)))
          (event_of (first + length (change ∷ earlier ++ before)) (earlier ++ before) change (is_in_subtree scan change)) [] next.0,
      next.1,
    ))

-- ---- a span

all-in : (from to : ℕ) (events : List Event) → AllByRecursion (Lies from to) events → span from to events ≡ events
all-in from to [] all = refl
all-in from to (event ∷ events) all =
    (λ i. cond (lt-ltb from (update_of event) all.0.above i && le-leb (update_of event) to all.0.within i) (event ∷ span from to events) (span from to events))
    ∙ ap (λ (l : List Event). event ∷ l) (all-in from to events all.1)

-- the span of the newest scan has the events of this scan
pub newest-span : (first : ℕ) (library : FolderMap) (older : List FolderMap)
    → events_between (record { first = first; maps = library ∷ older }) (end_of (record { first = first; maps = older })) (end_of (record { first = first; maps = library ∷ older }))
    ≡ scan_events first (changes_of older) (found (latest older) library) (found (latest older) library)
newest-span first library older =
    filter-append (is_in from to) (all_events first older) scan
    ∙ ap (λ (l : List Event). l ++ span from to scan) (none_above from to from first (all_events first older) (all-lie first older) (omega arith))
    ∙ all-in from to scan (subst (λ (n : ℕ). AllByRecursion (Lies from n) scan) sum (scan-lies first (changes_of older) (found (latest older) library) (found (latest older) library)))
  where
    scan : List Event
    scan = scan_events first (changes_of older) (found (latest older) library) (found (latest older) library)

    from : ℕ
    from = end_of (record { first = first; maps = older })

    to : ℕ
    to = end_of (record { first = first; maps = library ∷ older })

    sum : first + length (changes_of older) + length (found (latest older) library) ≡ to
    sum = let both = length-append (found (latest older) library) (changes_of older) in omega (arith, both)

-- the changes of the folder maps that came after older ones
abbrev pub told : ℕ → List FolderMap → List FolderMap → List Event
told first newer older =
    filter is_change (events_between (record { first = first; maps = newer ++ older }) (end_of (record { first = first; maps = older })) (end_of (record { first = first; maps = newer ++ older })))

-- the changes that a scan found
abbrev pub scan_told : ℕ → FolderMap → List FolderMap → List Event
scan_told first library older = filter is_change (scan_events first (changes_of older) (found (latest older) library) (found (latest older) library))

pub nothing-told : (first : ℕ) (older : List FolderMap) → told first [] older ≡ []
nothing-told first older = ap (filter is_change) (none_above end end end first (all_events first older) (all-lie first older) (omega arith))
  where
    end : ℕ
    end = end_of (record { first = first; maps = older })

pub told-more : (first : ℕ) (library : FolderMap) (newer older : List FolderMap)
    → told first (library ∷ newer) older ≡ told first newer older ++ scan_told first library (newer ++ older)
told-more first library newer older =
    let rise = length_of_more newer older in
    let both = length-append (found (latest (newer ++ older)) library) (changes_of (newer ++ older)) in
    ap (filter is_change) (spans-join now from to (end_of now) (omega (arith, rise)) (omega (arith, both))
    ∙ ap (λ (l : List Event). l ++ events_between now to (end_of now)) (spans-stay first (library ∷ []) (newer ++ older) from to (omega arith))
    ∙ ap (λ (l : List Event). events_between before from to ++ l) (newest-span first library (newer ++ older)))
    ∙ filter-append is_change (events_between before from to)
    (scan_events first (changes_of (newer ++ older)) (found (latest (newer ++ older)) library) (found (latest (newer ++ older)) library))
  where
    before : History
    before = record { first = first; maps = newer ++ older }

    now : History
    now = record { first = first; maps = library ∷ newer ++ older }

    from : ℕ
    from = end_of (record { first = first; maps = older })

    to : ℕ
    to = end_of before

pub catalog-over : (first : ℕ) (maps : List FolderMap) → AreLibraries maps
    → catalog (record { first = first; maps = maps }) ≡ unplaced (rows_over first (changes_of maps))
catalog-over first maps all = ap unplaced (placed_rows_over first maps all)

pub spans-lead : spans_lead_to_the_rows
spans-lead first [] older known all room like =
    subst (λ (l : List Event). LeadsTo known l (catalog (record { first = first; maps = older }))) (sym (nothing-told first older)) (refl, like)
spans-lead first (library ∷ newer) older known all room like =
    let both = length-append (found (latest (newer ++ older)) library) (changes_of (newer ++ older)) in
    on (spans-lead first newer older known all.1 (omega (arith, both, room)) like)
  where
    now : List ObjectRow
    now = catalog (record { first = first; maps = library ∷ newer ++ older })

    on : LeadsTo known (told first newer older) (catalog (record { first = first; maps = newer ++ older })) → LeadsTo known (told first (library ∷ newer) older) now
    on led =
        subst (λ (l : List Event). LeadsTo known l now) (sym (told-more first library newer older))
        (leads-append known (told first newer older) (scan_told first library (newer ++ older)) now led.0
        (subst (LeadsTo (changed_by known (told first newer older)) (scan_told first library (newer ++ older))) (sym (catalog-over first (library ∷ newer ++ older) all))
        (scan-leads first (changes_of (newer ++ older)) (found (latest (newer ++ older)) library) (found (latest (newer ++ older)) library)
        (changed_by known (told first newer older)) (history_is_legal (library ∷ newer ++ older) all).0 room
        (subst (AreLike (changed_by known (told first newer older))) (catalog-over first (newer ++ older) all.1) led.1))))
