-- Between which numbers the events of a scan lie.
use Rattle.std.proofs.Common.{◌≡◌, ◌+◌, ◌≤◌, ◌<◌, ℕ, List, [], ◌∷◌, ◌++◌, length, refl, subst, arith, length-append}
use Rattle.std.specs.List.{AllByRecursion}
use Rattle.cds_object.specs.declared.event.Event.{Event}
use Rattle.cds_catalog.specs.Library.{FolderMap, found}
use Rattle.cds_catalog.specs.History.{latest, changes_of, end_of}
use Rattle.cds_catalog.specs.declared.change.Change.{Change}
use Rattle.cds_catalog.proofs.StepsFind.{each-append, each-weaker}
use Rattle.cds_changes.specs.Events.{event_of, scan_events, all_events, done_events, heads_done, is_in_subtree, change_events}
use Rattle.cds_changes.proofs.Numbers.{numbered}
use Rattle.cds_object.specs.Events.{update_of}

-- an event lies above one number and not above another
pub record Lies (low high : ℕ) (event : Event) : Type 0 where
  pub above : low < update_of event
  pub within : update_of event ≤ high

pub lies-wider : (low high lower higher : ℕ) → lower ≤ low → high ≤ higher → (event : Event) → Lies low high event → Lies lower higher event
lies-wider low high lower higher l h event lies = record {
  above = let a = lies.above in omega (arith, l, a);
  within = let w = lies.within in omega (arith, h, w);
}

pub done-are : (number : ℕ) (changes heads : List Change) → AllByRecursion (λ event. update_of event ≡ number) (done_events number changes heads)
done-are number changes [] = tt
done-are number changes (head ∷ heads) = (refl, done-are number changes heads)

lies-at : (low number : ℕ) → low < number → (event : Event) → update_of event ≡ number → Lies low number event
lies-at low number l event e = record {
  above = omega (arith, l, e);
  within = omega (arith, e);
}

pub scan-lies : (first : ℕ) (before scan part : List Change)
    → AllByRecursion (Lies (first + length before) (first + length before + length part)) (scan_events first before scan part)
scan-lies first before scan [] = tt
scan-lies first before scan (change ∷ earlier) =
    let sum = length-append earlier before in
    let number : first + length (change ∷ earlier ++ before) ≡ first + length before + length (change ∷ earlier) = omega (arith, sum) in
    let less : first + length before < first + length (change ∷ earlier ++ before) = omega (arith, sum) in
    let here : Lies (first + length before) (first + length (change ∷ earlier ++ before)) (event_of (first + length (change ∷ earlier ++ before)) (earlier ++ before) change (is_in_subtree scan change)) =
    lies-at (first + length before) (first + length (change ∷ earlier ++ before)) less _
    (numbered (first + length (change ∷ earlier ++ before)) (earlier ++ before) change (is_in_subtree scan change)) in
    let after = each-weaker (λ event. update_of event ≡ first + length (change ∷ earlier ++ before))
    (Lies (first + length before) (first + length (change ∷ earlier ++ before)))
    (lies-at (first + length before) (first + length (change ∷ earlier ++ before)) less)
    (done_events (first + length (change ∷ earlier ++ before)) (change ∷ earlier ++ before) (heads_done scan change))
    (done-are (first + length (change ∷ earlier ++ before)) (change ∷ earlier ++ before) (heads_done scan change)) in
    each-append (Lies (first + length before) (first + length before + length (change ∷ earlier)))
    (scan_events first before scan earlier)
    (change_events first scan change (earlier ++ before))
    (each-weaker (Lies (first + length before) (first + length before + length earlier)) (Lies (first + length before) (first + length before + length (change ∷ earlier)))
    (lies-wider (first + length before) (first + length before + length earlier) (first + length before) (first + length before + length (change ∷ earlier)) (omega arith) (omega arith))
    (scan_events first before scan earlier) (scan-lies first before scan earlier))
    (subst (λ (h : ℕ). AllByRecursion (Lies (first + length before) h)
    (change_events first scan change (earlier ++ before))) number (here, after))

-- the events of a history lie above its first number and up to its end
pub all-lie : (first : ℕ) (maps : List FolderMap) → AllByRecursion (Lies first (end_of (record { first = first; maps = maps }))) (all_events first maps)
all-lie first [] = tt
all-lie first (library ∷ older) =
    let sum = length-append (found (latest older) library) (changes_of older) in
    each-append (Lies first (end_of (record { first = first; maps = library ∷ older }))) (all_events first older)
    (scan_events first (changes_of older) (found (latest older) library) (found (latest older) library))
    (each-weaker (Lies first (end_of (record { first = first; maps = older }))) (Lies first (end_of (record { first = first; maps = library ∷ older })))
    (lies-wider first (end_of (record { first = first; maps = older })) first (end_of (record { first = first; maps = library ∷ older })) (omega arith) (omega (arith, sum)))
    (all_events first older) (all-lie first older))
    (each-weaker (Lies (first + length (changes_of older)) (first + length (changes_of older) + length (found (latest older) library)))
    (Lies first (end_of (record { first = first; maps = library ∷ older })))
    (lies-wider (first + length (changes_of older)) (first + length (changes_of older) + length (found (latest older) library)) first
    (end_of (record { first = first; maps = library ∷ older })) (omega arith) (omega (arith, sum)))
    (scan_events first (changes_of older) (found (latest older) library) (found (latest older) library))
    (scan-lies first (changes_of older) (found (latest older) library) (found (latest older) library)))
