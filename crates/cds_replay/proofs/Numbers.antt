-- What a release tells has numbers of 32 bits alone.
use Rattle.std.proofs.Common.{◌≡◌, ℕ, zero, suc, ◌+◌, ◌≤◌, ◌<◌, ◌^◌, Bool, true, false, cond, ◌&&◌, nat_lt, nat_le, List, [], ◌∷◌, ◌++◌, length, Option, Some, None, refl, ap, sym, arith, length-append}
use Rattle.std.specs.List.{AllByRecursion, count_by, filter_map, range_with_len, cons_option}
use Rattle.std.specs.Option.{option_map}
use Rattle.std.proofs.lemmas.List.Sums.{count_by-le-length}
use Rattle.cds_object.specs.Path.{parent_of}
use Rattle.cds_object.specs.Events.{update_of}
use Rattle.cds_catalog.specs.Library.{FolderMap, found}
use Rattle.cds_catalog.specs.History.{History, latest, changes_of, end_of, is_addition, place_of}
use Rattle.cds_catalog.specs.Catalog.{id_of}
use Rattle.cds_catalog.specs.declared.change.Change.{Change}
use Rattle.cds_catalog.specs.declared.change.Change.TheVariants.{Deletion, Addition, Modification}
use Rattle.cds_catalog.proofs.StepsFind.{each-append, each-filter}
use Rattle.cds_catalog.proofs.StepsIds.{id_drawn}
use Rattle.cds_changes.specs.Events.{event_of, done_events, change_events, scan_events, all_events, events_between, heads_done, is_in_subtree}
use Rattle.cds_changes.specs.Containers.{adds_container, is_in_container, last_touch, was_deleted, changes_to, touched_containers}
use Rattle.cds_commands.specs.Releases.{Release, release_at, release_size, released_to, may_release, released_containers, scan_end_within}
use Rattle.cds_lastchange.specs.Spelled.{IsNumbered}
use Rattle.cds_notify.specs.Laws.{IsPair, AreNumbers}

-- ---- the events

ids-few : (changes : List Change) (p : List (List ℕ)) → length changes < 2 ^ 32 → id_of changes p < 2 ^ 32
ids-few changes p few =
    let drawn = id_drawn changes p in
    let additions = count_by-le-length is_addition changes in
    omega (arith, few, drawn, additions)

event-fits : (number : ℕ) (older : List Change) (change : Change) (st : Bool) → number < 2 ^ 32 → suc (length older) < 2 ^ 32 → IsNumbered (event_of number older change st)
event-fits number older (Deletion path) st n few = (ids-few older path (omega (arith, few)), n)
event-fits number older (Modification path content) st n few = (ids-few older path (omega (arith, few)), n)
event-fits number older (Addition path content) st n few =
    (ids-few (Addition path content ∷ older) path few, n, ids-few older (parent_of path) (omega (arith, few)))

done-fit : (number : ℕ) (changes heads : List Change) → number < 2 ^ 32 → length changes < 2 ^ 32 → AllByRecursion IsNumbered (done_events number changes heads)
done-fit number changes [] n few = tt
done-fit number changes (head ∷ heads) n few = ((ids-few changes (place_of head) few, n), done-fit number changes heads n few)

change-fits : (first : ℕ) (scan : List Change) (change : Change) (older : List Change) → first + suc (length older) < 2 ^ 32 →
    AllByRecursion IsNumbered (change_events first scan change older)
change-fits first scan change older few = (
  event-fits (first + length (change ∷ older)) older change (is_in_subtree scan change) few (omega (arith, few)),
  done-fit (first + length (change ∷ older)) (change ∷ older) (heads_done scan change) few (omega (arith, few)),
)

scan-fits : (first : ℕ) (before scan part : List Change) → first + length (part ++ before) < 2 ^ 32 → AllByRecursion IsNumbered (scan_events first before scan part)
scan-fits first before scan [] few = tt
scan-fits first before scan (change ∷ earlier) few =
    each-append IsNumbered (scan_events first before scan earlier) (change_events first scan change (earlier ++ before))
    (scan-fits first before scan earlier (omega (arith, few)))
    (change-fits first scan change (earlier ++ before) (omega (arith, few)))

all-fit : (first : ℕ) (maps : List FolderMap) → first + length (changes_of maps) < 2 ^ 32 → AllByRecursion IsNumbered (all_events first maps)
all-fit first [] few = tt
all-fit first (library ∷ older) few =
    let parts = length-append (found (latest older) library) (changes_of older) in
    each-append IsNumbered (all_events first older) (scan_events first (changes_of older) (found (latest older) library) (found (latest older) library))
    (all-fit first older (omega (arith, few, parts)))
    (scan-fits first (changes_of older) (found (latest older) library) (found (latest older) library) few)

-- ---- the containers

touch-within : (first from id : ℕ) (changes : List Change) (n : ℕ) → last_touch first from id changes ≡ Some n → n ≤ first + length changes
touch-within first from id [] n e = absurd (cc)
touch-within first from id (change ∷ older) n e =
    by (nat_le (first + length (change ∷ older)) from) (adds_container id older change) (is_in_container id older change) e (touch-within first from id older n)
  where
    here : ℕ
    here = first + length (change ∷ older)

    by : (a b c : Bool) → cond a None (cond b (Some here) (cond c (Some here) (last_touch first from id older))) ≡ Some n →
        (last_touch first from id older ≡ Some n → n ≤ first + length older) → n ≤ first + suc (length older)
    by true b c f later = absurd (cc)
    by false true c f later = let same : here ≡ n = cc in omega (arith, same)
    by false false true f later = let same : here ≡ n = cc in omega (arith, same)
    by false false false f later = let l = later f in omega (arith, l)

changes-fewer : (first to : ℕ) (changes : List Change) → length (changes_to first to changes) ≤ length changes
changes-fewer first to [] = omega arith
changes-fewer first to (change ∷ older) = by (nat_le (first + length (change ∷ older)) to) (changes-fewer first to older)
  where
    by : (b : Bool) → length (changes_to first to older) ≤ length older → length (cond b (change ∷ older) (changes_to first to older)) ≤ suc (length older)
    by true l = omega arith
    by false l = omega (arith, l)

pairs-fit : (first from : ℕ) (changes : List Change) → first + length changes < 2 ^ 32 → (at many : ℕ) → at + many ≤ 2 ^ 32 →
    AllByRecursion IsPair
    (filter_map (λ id. cond (was_deleted first from id changes) None (option_map (λ number. (id, number)) (last_touch first from id changes))) (range_with_len at many))
pairs-fit first from changes few at zero l = tt
pairs-fit first from changes few at (suc many) l =
    by (was_deleted first from at changes) (last_touch first from at changes) refl (pairs-fit first from changes few (at + 1) many (omega (arith, l)))
  where
    Rest : List (ℕ × ℕ)
    Rest = filter_map (λ id. cond (was_deleted first from id changes) None (option_map (λ number. (id, number)) (last_touch first from id changes))) (range_with_len (at + 1) many)

    by : (b : Bool) (o : Option ℕ) → last_touch first from at changes ≡ o → AllByRecursion IsPair Rest →
        AllByRecursion IsPair (cons_option (cond b None (option_map (λ number. (at, number)) o)) Rest)
    by true o e rest = rest
    by false None e rest = rest
    by false (Some n) e rest = let within = touch-within first from at changes n e in ((omega (arith, l), omega (arith, within, few)), rest)

containers-fit : (first from : ℕ) (changes : List Change) → first + length changes < 2 ^ 32 → AllByRecursion IsPair (touched_containers first from changes)
containers-fit first from changes few =
    let additions = count_by-le-length is_addition changes in pairs-fit first from changes few 0 (count_by is_addition changes + 1) (omega (arith, additions, few))

-- ---- its end

end-within : (first most : ℕ) (maps : List FolderMap) → scan_end_within first most maps ≤ first + length (changes_of maps)
end-within first most [] = omega arith
end-within first most (library ∷ older) = by (nat_le (first + length (changes_of (library ∷ older))) most) (end-within first most older)
  where
    by : (b : Bool) → scan_end_within first most older ≤ first + length (changes_of older) →
        cond b (first + length (changes_of (library ∷ older))) (scan_end_within first most older) ≤ first + length (changes_of (library ∷ older))
    by true l = omega arith
    by false l = let parts = length-append (found (latest older) library) (changes_of older) in omega (arith, l, parts)

release-to : (now : ℕ) (history : History) (releases : List Release) (release : Release) → release_at now history releases ≡ Some release →
    release.to ≡ scan_end_within history.first (released_to history.first releases + release_size) history.maps
release-to now history releases release e = by (nat_lt (released_to history.first releases) (end_of history) && may_release now releases) e
  where
    here : Release
    here = record {
      moment = now;
      from = released_to history.first releases;
      to = scan_end_within history.first (released_to history.first releases + release_size) history.maps;
    }

    by : (b : Bool) → cond b (Some here) None ≡ Some release → release.to ≡ here.to
    by true f = let same : here ≡ release = cc in ap (λ (r : Release). r.to) (sym same)
    by false f = absurd (cc)

pub release-numbers : (now : ℕ) (history : History) (releases : List Release) (release : Release) → end_of history ≤ 4294967295 →
    release_at now history releases ≡ Some release → AreNumbers release.to (released_containers history release) (events_between history release.from release.to)
release-numbers now history releases release low e = record {
  update =
      let to = release-to now history releases release e in
      let within = end-within history.first (released_to history.first releases + release_size) history.maps in
      omega (arith, to, within, low);
  pairs =
      let fewer = changes-fewer history.first release.to (changes_of history.maps) in
      containers-fit history.first release.from (changes_to history.first release.to (changes_of history.maps)) (omega (arith, fewer, low));
  changes = each-filter IsNumbered (λ event. nat_lt release.from (update_of event) && nat_le (update_of event) release.to) (all_events history.first history.maps)
      (all-fit history.first history.maps (omega (arith, low)));
}
