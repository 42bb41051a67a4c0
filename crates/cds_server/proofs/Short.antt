-- How many bytes the body of a release has at most.
use Rattle.std.proofs.Common.{◌≡◌, ◌⊎◌, inl, inr, ℕ, suc, ◌+◌, ◌-◌, ◌*◌, ◌<◌, ◌≤◌, ◌^◌, Bool, true, false, cond, ◌&&◌, nat_lt, nat_le, List, [], ◌∷◌, ◌++◌, length, filter, drop, codes, Option, Some, None, refl, sym, ap, ◌∙◌, subst, arith, append_assoc, length-append, ltb-true, leb-true}
use Rattle.std.specs.List.{flat_map, filter_map, cons_option, AllByRecursion}
use Rattle.std.specs.Prelude.{MatchOption, option_and_then}
use Rattle.std.specs.Fmt.{decimal}
use Rattle.std.proofs.lemmas.Bool.{cases_lt}
use Rattle.std.proofs.lemmas.List.{drop-drop}
use Rattle.std.proofs.lemmas.List.Elements.{filter-append}
use Rattle.std.proofs.lemmas.List.Sums.{count_by-le-length}
use Rattle.cds_base.specs.Escape.{escaped}
use Rattle.cds_base.proofs.Wide.{wide, wide-append, short-decimal}
use Rattle.cds_object.specs.Object.{ObjectRow}
use Rattle.cds_object.specs.Path.{parent_of}
use Rattle.cds_object.specs.declared.row.Trackers.{Trackers}
use Rattle.cds_object.specs.Events.{class_of, update_of}
use Rattle.cds_object.specs.declared.event.Class.{Class}
use Rattle.cds_object.specs.declared.event.Class.TheVariants.{Container, Track}
use Rattle.cds_object.specs.declared.event.Event.{Event}
use Rattle.cds_object.specs.declared.event.Event.TheVariants.{StDone}
use Rattle.cds_catalog.specs.Library.{FolderMap, found}
use Rattle.cds_catalog.specs.History.{History, changes_of, end_of, is_addition, latest, place_of}
use Rattle.cds_catalog.specs.Catalog.{catalog, id_of}
use Rattle.cds_catalog.specs.Laws.{AreLibraries, IsLibrary, IsWithin}
use Rattle.cds_catalog.specs.Steps.{Standing, standing_of}
use Rattle.cds_catalog.proofs.Numbers.{ends_rise}
use Rattle.cds_catalog.specs.declared.change.Change.{Change}
use Rattle.cds_catalog.specs.declared.change.Change.TheVariants.{Deletion, Addition, Modification}
use Rattle.cds_catalog.proofs.StepsIds.{id_drawn}
use Rattle.cds_catalog.proofs.StepsWithin.{rows_are_within-proof}
use Rattle.cds_changes.specs.Events.{all_events, change_events, done_events, event_of, events_between, heads_done, is_in_subtree, scan_events}
use Rattle.cds_changes.specs.Containers.{containers_between}
use Rattle.cds_changes.specs.ContainerLaws.{changed_container}
use Rattle.cds_changes.proofs.ContainerNumbers.{containers-numbered}
use Rattle.cds_changes.proofs.Spans.{is_in, none_above, span, spans-join, spans-stay}
use Rattle.cds_changes.proofs.Within.{all-lie}
use Rattle.cds_lastchange.proofs.WideEvents.{wide-change, wide-flagged, wide-class, wide-added}
use Rattle.cds_lastchange.specs.Spelled.{change_text, flag_text, flagged_text, class_text, added_text, event_text, opening, closing, spelled}
use Rattle.cds_notify.specs.Propertyset.{property, pair_text, further_text, pairs_text, set_opening, propertyset_text}
use Rattle.cds_notify.specs.Laws.{IsPair}
use Rattle.cds_notify.proofs.Pieces.{long-property}
use Rattle.cds_commands.specs.Commands.{scans_of}
use Rattle.cds_commands.specs.Releases.{release_size, released_to, releases_of, scan_end_within}
use Rattle.cds_commands.proofs.Scanned.{Grows, dropped-grows, scans-first}
use Rattle.cds_commands.proofs.Sent.{Stood, first-is, grows-rise, release-is, released-stood, within-stood}
use Rattle.cds_server.specs.Laws.{bodies_are_short}
use Rattle.cds_server.proofs.Heads.{base, cost, costs-few, ends}

-- ---- the bytes of events, as they are escaped

wide-change-event : (name : List ℕ) (id update : ℕ) (st : Bool) → wide name ≡ 10 → id < 2 ^ 32 → update < 2 ^ 32
    → wide ((name ++ flagged_text id update st) ++ codes "/>") ≤ 99
wide-change-event name id update st w i u =
    let a = wide-append (name ++ flagged_text id update st) (codes "/>") in
    let c = wide-append name (flagged_text id update st) in
    let d = wide-flagged id update st i u in
    let g : wide (codes "/>") ≡ 5 = refl in
    omega (arith, a, c, d, w, g)

abbrev weights : List Event → ℕ
weights events = wide (flat_map event_text events)

weights-append : (events others : List Event) → weights (events ++ others) ≡ weights events + weights others
weights-append [] others = omega arith
weights-append (event ∷ events) others =
    let a = wide-append (event_text event) (flat_map event_text (events ++ others)) in
    let b = wide-append (event_text event) (flat_map event_text events) in
    let c = weights-append events others in
    omega (arith, a, b, c)

weights-filter : (test : Event → Bool) (events : List Event) → weights (filter test events) ≤ weights events
weights-filter test [] = omega arith
weights-filter test (event ∷ events) = by (test event) (weights-filter test events)
  where
    whole : weights (event ∷ events) ≡ wide (event_text event) + weights events
    whole = wide-append (event_text event) (flat_map event_text events)

    by : (b : Bool) → weights (filter test events) ≤ weights events → weights (cond b (event ∷ filter test events) (filter test events)) ≤ weights (event ∷ events)
    by true l = let a = whole in let b = wide-append (event_text event) (flat_map event_text (filter test events)) in omega (arith, l, a, b)
    by false l = let a = whole in omega (arith, l, a)

-- ---- the events of one scan

ids-few : (changes : List Change) (p : List (List ℕ)) → length changes < 2 ^ 32 → id_of changes p < 2 ^ 32
ids-few changes p few =
    let drawn = id_drawn changes p in
    let additions = count_by-le-length is_addition changes in
    omega (arith, few, drawn, additions)

event-weight : (number : ℕ) (older : List Change) (change : Change) (st : Bool) → number < 2 ^ 32 → suc (length older) < 2 ^ 32
    → wide (event_text (event_of number older change st)) ≤ base change
event-weight number older (Deletion path) st n few =
    wide-change-event (codes "<objDel") (id_of older path) number st refl (ids-few older path (omega (arith, few))) n
event-weight number older (Modification path content) st n few =
    wide-change-event (codes "<objMod") (id_of older path) number st refl (ids-few older path (omega (arith, few))) n
event-weight number older (Addition path content) st n few =
    let id : ℕ = id_of (Addition path content ∷ older) path in
    let parent : ℕ = id_of older (parent_of path) in
    let a = wide-append ((codes "<objAdd" ++ flagged_text id number st) ++ added_text parent (class_of content)) (codes "/>") in
    let b = wide-append (codes "<objAdd" ++ flagged_text id number st) (added_text parent (class_of content)) in
    let c = wide-append (codes "<objAdd") (flagged_text id number st) in
    let d = wide-flagged id number st (ids-few (Addition path content ∷ older) path few) n in
    let e = wide-added parent (class_of content) (ids-few older (parent_of path) (omega (arith, few))) in
    let f : wide (codes "<objAdd") ≡ 10 = refl in
    let g : wide (codes "/>") ≡ 5 = refl in
    omega (arith, a, b, c, d, e, f, g)

done-weight : (number : ℕ) (changes heads : List Change) → number < 2 ^ 32 → length changes < 2 ^ 32
    → weights (done_events number changes heads) ≤ 76 * length heads
done-weight number changes [] n few = omega arith
done-weight number changes (head ∷ heads) n few =
    let id : ℕ = id_of changes (place_of head) in
    let whole = wide-append (event_text (StDone id number)) (flat_map event_text (done_events number changes heads)) in
    let a = wide-append (codes "<stDone" ++ change_text id number) (codes "/>") in
    let c = wide-append (codes "<stDone") (change_text id number) in
    let d = wide-change id number (ids-few changes (place_of head) few) n in
    let f : wide (codes "<stDone") ≡ 10 = refl in
    let g : wide (codes "/>") ≡ 5 = refl in
    let r = done-weight number changes heads n few in
    omega (arith, whole, a, c, d, f, g, r)

change-weight : (first : ℕ) (scan : List Change) (change : Change) (older : List Change) → first + suc (length older) < 2 ^ 32
    → weights (change_events first scan change older) ≤ base change + 76 * ends scan change
change-weight first scan change older few =
    let number : ℕ = first + length (change ∷ older) in
    let whole =
    wide-append (event_text (event_of number older change (is_in_subtree scan change))) (flat_map event_text (done_events number (change ∷ older) (heads_done scan change))) in
    let one = event-weight number older change (is_in_subtree scan change) few (omega (arith, few)) in
    let more = done-weight number (change ∷ older) (heads_done scan change) few (omega (arith, few)) in
    omega (arith, whole, one, more)

scan-weight : (first : ℕ) (before scan part : List Change) → first + length (part ++ before) < 2 ^ 32 → weights (scan_events first before scan part) ≤ cost scan part
scan-weight first before scan [] few = omega arith
scan-weight first before scan (change ∷ earlier) few =
    let whole = weights-append (scan_events first before scan earlier) (change_events first scan change (earlier ++ before)) in
    let rest = scan-weight first before scan earlier (omega (arith, few)) in
    let one = change-weight first scan change (earlier ++ before) few in
    omega (arith, whole, rest, one)

-- ---- the events of a span of whole scans

abbrev hist : ℕ → List FolderMap → History
hist first maps = record { first = first; maps = maps }

abbrev end : ℕ → List FolderMap → ℕ
end first maps = end_of (hist first maps)

all-behind : {X : Type 0} (P : X → Type 0) (xs ys : List X) → AllByRecursion P (xs ++ ys) → AllByRecursion P ys
all-behind P [] ys all = all
all-behind P (x ∷ xs) ys all = all-behind P xs ys all.1

latest-library : (maps : List FolderMap) → AreLibraries maps → IsLibrary (latest maps)
latest-library [] all = record { ascending = tt; rootless = tt; held = tt }
latest-library (library ∷ older) all = all.0

span-weight : (first : ℕ) (middle older : List FolderMap) → AreLibraries (middle ++ older) → end first (middle ++ older) < 2 ^ 32
    → weights (events_between (hist first (middle ++ older)) (end first older) (end first (middle ++ older))) ≤ 226 * (end first (middle ++ older) - end first older)
span-weight first [] older all few =
    let none : weights (events_between (hist first older) (end first older) (end first older)) ≡ 0 =
    ap weights (none_above (end first older) (end first older) (end first older) first (all_events first older) (all-lie first older) (omega arith)) in
    omega (arith, none)
span-weight first (library ∷ middle) older all few =
    let rest : List FolderMap = middle ++ older in
    let scan : List Change = found (latest rest) library in
    let rise = ends_rise first middle older in
    let parts = length-append scan (changes_of rest) in
    let more : end first (library ∷ rest) ≡ end first rest + length scan = omega (arith, parts) in
    let whole : weights (events_between (hist first (library ∷ rest)) (end first older) (end first (library ∷ rest)))
    ≡ weights (events_between (hist first (library ∷ rest)) (end first older) (end first rest) ++ events_between (hist first (library ∷ rest)) (end first rest) (end first (library ∷ rest))) =
    ap weights (spans-join (hist first (library ∷ rest)) (end first older) (end first rest) (end first (library ∷ rest)) rise (omega (arith, more))) in
    let split = weights-append (events_between (hist first (library ∷ rest)) (end first older) (end first rest)) (events_between (hist first (library ∷ rest)) (end first rest) (end first (library ∷ rest))) in
    let early = ap weights (spans-stay first (library ∷ []) rest (end first older) (end first rest) (omega arith)) in
    let before = span-weight first middle older all.1 (omega (arith, few, more)) in
    let late : weights (events_between (hist first (library ∷ rest)) (end first rest) (end first (library ∷ rest)))
    ≡ weights (span (end first rest) (end first (library ∷ rest)) (scan_events first (changes_of rest) scan scan)) =
    ap weights
    (filter-append (is_in (end first rest) (end first (library ∷ rest))) (all_events first rest) (scan_events first (changes_of rest) scan scan)
    ∙ ap (λ l. l ++ span (end first rest) (end first (library ∷ rest)) (scan_events first (changes_of rest) scan scan))
    (none_above (end first rest) (end first (library ∷ rest)) (end first rest) first (all_events first rest) (all-lie first rest) (omega arith))) in
    let some = weights-filter (is_in (end first rest) (end first (library ∷ rest))) (scan_events first (changes_of rest) scan scan) in
    let cost_ = scan-weight first (changes_of rest) scan scan few in
    let most = costs-few (latest rest) library (latest-library rest all.1) all.0 in
    omega (arith, whole, split, early, before, late, some, cost_, most, rise, more)

-- where a span ends before it begins, it has none
none-between : (from to : ℕ) (events : List Event) → to ≤ from → weights (span from to events) ≡ 0
none-between from to [] l = refl
none-between from to (event ∷ events) l = by (nat_lt from (update_of event)) (nat_le (update_of event) to) refl refl (none-between from to events l)
  where
    by : (a b : Bool) → nat_lt from (update_of event) ≡ a → nat_le (update_of event) to ≡ b → weights (span from to events) ≡ 0
        → weights (cond (a && b) (event ∷ span from to events) (span from to events)) ≡ 0
    by true true e k r =
        let low = ltb-true from (update_of event) e in
        let high = leb-true (update_of event) to k in
        let none : ⊥ = omega (arith, l, low, high) in
        absurd none
    by true false e k r = r
    by false b e k r = r

-- ---- the containers

fewer-some : {X Y : Type 0} (f : X → Option Y) (xs : List X) → length (filter_map f xs) ≤ length xs
fewer-some f [] = omega arith
fewer-some {X} {Y} f (x ∷ xs) = by (f x) (fewer-some f xs)
  where
    by : (o : Option Y) → length (filter_map f xs) ≤ length xs → length (cons_option o (filter_map f xs)) ≤ suc (length xs)
    by None l = omega (arith, l)
    by (Some y) l = omega (arith, l)

pairs-fit : (from : ℕ) (s : Standing) (rows : List ObjectRow) → s.drawn < 2 ^ 32 → s.number < 2 ^ 32 → AllByRecursion (IsWithin s) rows
    → AllByRecursion IsPair (filter_map (changed_container from) rows)
pairs-fit from s [] d n all = tt
pairs-fit from s (row ∷ rows) d n all = of-trackers row.trackers all.0.trackers (pairs-fit from s rows d n all.1)
  where
    of-trackers : (o : Option Trackers) → MatchOption o (Unit {0}) (λ t. (t.container_update ≤ s.number) × (t.deleted ≤ s.number))
        → AllByRecursion IsPair (filter_map (changed_container from) rows)
        → AllByRecursion IsPair
        (cons_option (option_and_then (λ (t : Trackers). cond (nat_lt from t.container_update) (Some (row.id, t.container_update)) None) o) (filter_map (changed_container from) rows))
    of-trackers None m rest = rest
    of-trackers (Some t) m rest = by (nat_lt from t.container_update)
      where
        by : (b : Bool) → AllByRecursion IsPair (cons_option (cond b (Some (row.id, t.container_update)) None) (filter_map (changed_container from) rows))
        by true = let id = all.0.id in let update = m.0 in ((omega (arith, id, d), omega (arith, update, n)), rest)
        by false = rest

-- ---- the body

short-pair : (p : ℕ × ℕ) → IsPair p → length (pair_text p) ≤ 21
short-pair p (h, k) =
    let a = length-append (decimal p.0 ++ codes ",") (decimal p.1) in
    let b = length-append (decimal p.0) (codes ",") in
    let c = short-decimal p.0 h in
    let d = short-decimal p.1 k in
    omega (arith, a, b, c, d)

short-further : (pairs : List (ℕ × ℕ)) → AllByRecursion IsPair pairs → length (flat_map further_text pairs) ≤ 22 * length pairs
short-further [] each = omega arith
short-further (p ∷ pairs) each =
    let all = length-append (further_text p) (flat_map further_text pairs) in
    let one = length-append (codes ",") (pair_text p) in
    let pair = short-pair p each.0 in
    let rest = short-further pairs each.1 in
    omega (arith, all, one, pair, rest)

short-pairs : (pairs : List (ℕ × ℕ)) → AllByRecursion IsPair pairs → length (pairs_text pairs) ≤ 22 * length pairs
short-pairs [] each = omega arith
short-pairs (p ∷ pairs) each =
    let all = length-append (pair_text p) (flat_map further_text pairs) in
    let pair = short-pair p each.0 in
    let rest = short-further pairs each.1 in
    omega (arith, all, pair, rest)

wide-spelled : (events : List Event) → wide (spelled events) ≤ weights events + 103
wide-spelled events =
    let all = wide-append (opening ++ flat_map event_text events) closing in
    let front = wide-append opening (flat_map event_text events) in
    let a : wide opening ≤ 82 = omega arith in
    let b : wide closing ≤ 21 = omega arith in
    omega (arith, all, front, a, b)

body-short : (number : ℕ) (containers : List (ℕ × ℕ)) (events : List Event) → number < 2 ^ 32 → AllByRecursion IsPair containers
    → length (propertyset_text number containers events) ≤ 22 * length containers + weights events + 393
body-short number containers events n fit =
    let a = length-append (((set_opening ++ one) ++ two) ++ three) (codes "</e:propertyset>") in
    let b = length-append ((set_opening ++ one) ++ two) three in
    let c = length-append (set_opening ++ one) two in
    let d = length-append set_opening one in
    let e = long-property (codes "SystemUpdateID") (decimal number) in
    let f = long-property (codes "ContainerUpdateIDs") (pairs_text containers) in
    let g = long-property (codes "LastChange") (escaped (spelled events)) in
    let h = short-decimal number n in
    let i = short-pairs containers fit in
    let j = wide-spelled events in
    omega (arith, a, b, c, d, e, f, g, h, i, j)
  where
    one : List ℕ
    one = property (codes "SystemUpdateID") (decimal number)

    two : List ℕ
    two = property (codes "ContainerUpdateIDs") (pairs_text containers)

    three : List ℕ
    three = property (codes "LastChange") (escaped (spelled events))

-- ---- a release

latest-few : (maps : List FolderMap) → AllByRecursion (λ (library : FolderMap). length library ≤ 65535) maps → length (latest maps) ≤ 65535
latest-few [] few = omega arith
latest-few (library ∷ older) few = few.0

within-most : (first most : ℕ) (maps : List FolderMap) → first ≤ most → scan_end_within first most maps ≤ most
within-most first most [] l = l
within-most first most (library ∷ older) l = by (nat_le (end first (library ∷ older)) most) refl (within-most first most older l)
  where
    by : (b : Bool) → nat_le (end first (library ∷ older)) most ≡ b → scan_end_within first most older ≤ most
        → cond b (end first (library ∷ older)) (scan_end_within first most older) ≤ most
    by true e r = leb-true (end first (library ∷ older)) most e
    by false e r = r

-- over the folder maps up to the end of the release, which stand behind those of later scans
bytes-of : (first from to : ℕ) (newer upto : List FolderMap) → AreLibraries (newer ++ upto)
    → AllByRecursion (λ (library : FolderMap). length library ≤ 65535) (newer ++ upto) → end first (newer ++ upto) ≤ 4294967295 → first ≤ from → to ≡ end first upto
    → weights (events_between (hist first (newer ++ upto)) from to) ≤ 59244544
    → length (propertyset_text to (containers_between (hist first (newer ++ upto)) from to) (events_between (hist first (newer ++ upto)) from to)) < 66000000
bytes-of first from to newer upto all few numbers low at heavy =
    let rise = ends_rise first newer upto in
    let within = rows_are_within-proof (hist first upto) (all-behind IsLibrary newer upto all) in
    let drawn = within.1 in
    let rows = within.2 in
    let latest_ = latest-few upto (all-behind (λ (library : FolderMap). length library ≤ 65535) newer upto few) in
    let told : containers_between (hist first (newer ++ upto)) from to ≡ filter_map (changed_container from) (catalog (hist first upto)) =
    ap (containers_between (hist first (newer ++ upto)) from) at ∙ containers-numbered first newer upto from all low in
    let some = ap length told in
    let fewer = fewer-some (changed_container from) (catalog (hist first upto)) in
    let fit = subst (AllByRecursion IsPair) (sym told)
    (pairs-fit from (standing_of (hist first upto)) (catalog (hist first upto)) (omega (arith, drawn, numbers, rise)) (omega (arith, numbers, rise)) within.0) in
    let bound =
    body-short to (containers_between (hist first (newer ++ upto)) from to) (events_between (hist first (newer ++ upto)) from to) (omega (arith, at, numbers, rise)) fit in
    omega (arith, bound, some, fewer, rows, latest_, heavy)

pub release-short : bodies_are_short
release-short start commands now release accepted e =
    subst (λ (h : History). length (propertyset_text release.to (containers_between h release.from release.to) (events_between h release.from release.to)) < 66000000)
    (sym there)
    (bytes-of first release.from release.to grows.0 upto (subst AreLibraries grows.1 accepted.libraries)
    (subst (AllByRecursion (λ (library : FolderMap). length library ≤ 65535)) grows.1 accepted.few)
    (let is = ap end_of there in let most = accepted.numbers in omega (arith, is, most))
    (let least = first-is first (drop from.0 commands) in let a = from.1 in let is = parts.0 in omega (arith, least, a, is))
    ends_at heavy)
  where
    first : ℕ
    first = start.first

    history : History
    history = scans_of first commands

    parts : (release.from ≡ released_to first (releases_of first commands)) × (release.to ≡ scan_end_within first (released_to first (releases_of first commands) + release_size) history.maps)
    parts = release-is first now history (releases_of first commands) release (first-is first commands) e

    from : Stood first commands (released_to first (releases_of first commands))
    from = released-stood first commands

    to : Stood first commands (scan_end_within first (released_to first (releases_of first commands) + release_size) history.maps)
    to = within-stood first (released_to first (releases_of first commands) + release_size) commands

    upto : List FolderMap
    upto = (scans_of first (drop to.0 commands)).maps

    grows : Grows first commands (drop to.0 commands)
    grows = dropped-grows first to.0 commands

    there : history ≡ hist first (grows.0 ++ upto)
    there = scans-first first commands ∙ ap (hist first) grows.1

    ends_at : release.to ≡ end first upto
    ends_at = parts.1 ∙ to.1 ∙ ap end_of (scans-first first (drop to.0 commands))

    begins_at : release.from ≡ end_of (scans_of first (drop from.0 commands))
    begins_at = parts.0 ∙ from.1

    size : release.to ≤ release.from + 262144
    size =
        let least = first-is first (drop from.0 commands) in
        let a = begins_at in
        let b = parts.0 in
        let c = parts.1 in
        let most = within-most first (released_to first (releases_of first commands) + release_size) history.maps (omega (arith, least, a, b)) in
        omega (arith, most, b, c)

    early : weights (events_between (hist first (grows.0 ++ upto)) release.from release.to) ≡ weights (events_between (hist first upto) release.from release.to)
    early = ap weights (spans-stay first grows.0 upto release.from release.to (let at = ends_at in omega (arith, at)))

    heavy : weights (events_between (hist first (grows.0 ++ upto)) release.from release.to) ≤ 59244544
    heavy = by (cases_lt from.0 to.0)
      where
        by : (from.0 < to.0) ⊎ (to.0 ≤ from.0) → weights (events_between (hist first (grows.0 ++ upto)) release.from release.to) ≤ 59244544
        by (inl l) =
            let more : from.0 + (to.0 - from.0) ≡ to.0 = omega (arith, l) in
            let later : Grows first (drop from.0 commands) (drop to.0 commands) =
            subst (Grows first (drop from.0 commands)) (drop-drop (to.0 - from.0) from.0 commands ∙ ap (λ (n : ℕ). drop n commands) more)
            (dropped-grows first (to.0 - from.0) (drop from.0 commands)) in
            let rise = grows-rise first (drop from.0 commands) (drop to.0 commands) later in
            let a = begins_at in
            let b = parts.1 in
            let c = to.1 in
            let none = none-between release.from release.to (all_events first (grows.0 ++ upto)) (omega (arith, rise, a, b, c)) in
            omega (arith, none)
        by (inr l) =
            let more : to.0 + (from.0 - to.0) ≡ from.0 = omega (arith, l) in
            let later : Grows first (drop to.0 commands) (drop from.0 commands) =
            subst (Grows first (drop to.0 commands)) (drop-drop (from.0 - to.0) to.0 commands ∙ ap (λ (n : ℕ). drop n commands) more)
            (dropped-grows first (from.0 - to.0) (drop to.0 commands)) in
            let old : List FolderMap = (scans_of first (drop from.0 commands)).maps in
            let libraries : AreLibraries upto = all-behind IsLibrary grows.0 upto (subst AreLibraries grows.1 accepted.libraries) in
            let begin : release.from ≡ end first old = begins_at ∙ ap end_of (scans-first first (drop from.0 commands)) in
            let stop : release.to ≡ end first (later.0 ++ old) = ends_at ∙ ap (end first) later.1 in
            let top = ap end_of there in
            let rise = ends_rise first grows.0 upto in
            let at = ends_at in
            let numbers = accepted.numbers in
            let same : weights (events_between (hist first upto) release.from release.to)
            ≡ weights (events_between (hist first (later.0 ++ old)) (end first old) (end first (later.0 ++ old))) =
            (λ i. weights (events_between (hist first (later.1 i)) (begin i) (stop i))) in
            let weight = span-weight first later.0 old (subst AreLibraries later.1 libraries) (omega (arith, stop, at, top, rise, numbers)) in
            let early_ = early in
            let size_ = size in
            omega (arith, early_, same, weight, begin, stop, size_)
