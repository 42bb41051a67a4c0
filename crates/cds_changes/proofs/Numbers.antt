-- The numbers of the changes that events tell.
use Rattle.std.proofs.Common.{◌≡◌, ◌+◌, ℕ, zero, suc, Bool, true, cond, List, [], ◌∷◌, ◌++◌, map, filter, length, refl, sym, ap, ◌∙◌, length-append, arith}
use Rattle.std.specs.List.{range_with_len}
use Rattle.std.proofs.lemmas.List.{map-append}
use Rattle.std.proofs.lemmas.List.Elements.{filter-append}
use Rattle.cds_object.specs.declared.event.Event.{Event}
use Rattle.cds_catalog.specs.Library.{FolderMap, found}
use Rattle.cds_catalog.specs.History.{latest, changes_of}
use Rattle.cds_catalog.specs.declared.change.Change.{Change}
use Rattle.cds_catalog.specs.declared.change.Change.TheVariants.{Deletion, Addition, Modification}
use Rattle.cds_changes.specs.Events.{event_of, scan_events, all_events, is_in_subtree, heads_done, done_events}
use Rattle.cds_object.specs.Events.{update_of, is_change}

pub numbered : (number : ℕ) (older : List Change) (change : Change) (st : Bool) → update_of (event_of number older change st) ≡ number
numbered number older (Deletion path) st = refl
numbered number older (Addition path content) st = refl
numbered number older (Modification path content) st = refl

pub tells : (number : ℕ) (older : List Change) (change : Change) (st : Bool) → is_change (event_of number older change st) ≡ true
tells number older (Deletion path) st = refl
tells number older (Addition path content) st = refl
tells number older (Modification path content) st = refl

-- the numbers of the changes among events
abbrev pub numbers : List Event → List ℕ
numbers events = map update_of (filter is_change events)

pub numbers-append : (events others : List Event) → numbers (events ++ others) ≡ numbers events ++ numbers others
numbers-append events others =
    ap (map update_of) (filter-append is_change events others) ∙ map-append update_of (filter is_change events) (filter is_change others)

-- what is done tells no change
pub none_done : (number : ℕ) (changes heads : List Change) → numbers (done_events number changes heads) ≡ []
none_done number changes [] = refl
none_done number changes (head ∷ heads) = none_done number changes heads

one_told : (event : Event) (others : List Event) → is_change event ≡ true → numbers (event ∷ others) ≡ update_of event ∷ numbers others
one_told event others is = λ i. map update_of (cond (is i) (event ∷ filter is_change others) (filter is_change others))

pub range-more : (a n : ℕ) → range_with_len a (suc n) ≡ range_with_len a n ++ (a + n) ∷ []
range-more a zero =
    let e : a ≡ a + 0 = omega arith in
    ap (λ (x : ℕ). x ∷ []) e
range-more a (suc n) =
    let e : a + 1 + n ≡ a + suc n = omega arith in
    ap (λ (l : List ℕ). a ∷ l) (range-more (a + 1) n)
    ∙ ap (λ (x : ℕ). a ∷ range_with_len (a + 1) n ++ x ∷ []) e

pub range-append : (a n m : ℕ) → range_with_len a (n + m) ≡ range_with_len a n ++ range_with_len (a + n) m
range-append a zero m =
    let none : 0 + m ≡ m = omega arith in
    let same : a ≡ a + 0 = omega arith in
    ap (range_with_len a) none ∙ ap (λ (x : ℕ). range_with_len x m) same
range-append a (suc n) m =
    let one : suc n + m ≡ suc (n + m) = omega arith in
    let next : a + 1 + n ≡ a + suc n = omega arith in
    ap (range_with_len a) one
    ∙ ap (λ (l : List ℕ). a ∷ l) (range-append (a + 1) n m)
    ∙ ap (λ (x : ℕ). a ∷ range_with_len (a + 1) n ++ range_with_len x m) next

-- one more change behind others, and what is done with it
more-numbers : (a n number : ℕ) (earlier : List Event) (told : Event) (done : List Event)
    → numbers earlier ≡ range_with_len a n → is_change told ≡ true → update_of told ≡ number → number ≡ a + n → numbers done ≡ []
    → numbers (earlier ++ told ∷ done) ≡ range_with_len a (suc n)
more-numbers a n number earlier told done before is its last none =
    numbers-append earlier (told ∷ done)
    ∙ ap (λ (l : List ℕ). l ++ numbers (told ∷ done)) before
    ∙ ap (λ (l : List ℕ). range_with_len a n ++ l) (one_told told done is)
    ∙ ap (λ (l : List ℕ). range_with_len a n ++ update_of told ∷ l) none
    ∙ ap (λ (x : ℕ). range_with_len a n ++ x ∷ []) (its ∙ last)
    ∙ sym (range-more a n)

pub scan-numbers : (first : ℕ) (before scan part : List Change)
    → numbers (scan_events first before scan part) ≡ range_with_len (first + length before + 1) (length part)
scan-numbers first before scan [] = refl
scan-numbers first before scan (change ∷ earlier) =
    more-numbers (first + length before + 1) (length earlier) (first + length (change ∷ earlier ++ before)) (scan_events first before scan earlier)
    (event_of (first + length (change ∷ earlier ++ before)) (earlier ++ before) change (is_in_subtree scan change))
    (done_events (first + length (change ∷ earlier ++ before)) (change ∷ earlier ++ before) (heads_done scan change))
    (scan-numbers first before scan earlier)
    (tells (first + length (change ∷ earlier ++ before)) (earlier ++ before) change (is_in_subtree scan change))
    (numbered (first + length (change ∷ earlier ++ before)) (earlier ++ before) change (is_in_subtree scan change))
    (let sum = length-append earlier before in omega (arith, sum))
    (none_done (first + length (change ∷ earlier ++ before)) (change ∷ earlier ++ before) (heads_done scan change))

pub all-numbers : (first : ℕ) (maps : List FolderMap)
    → numbers (all_events first maps) ≡ range_with_len (first + 1) (length (changes_of maps))
all-numbers first [] = refl
all-numbers first (library ∷ older) =
    let from : first + length (changes_of older) + 1 ≡ first + 1 + length (changes_of older) = omega arith in
    let both = length-append (found (latest older) library) (changes_of older) in
    let sum : length (changes_of older) + length (found (latest older) library) ≡ length (found (latest older) library ++ changes_of older) = omega (arith, both) in
    numbers-append (all_events first older) _
    ∙ ap (λ (l : List ℕ). l ++ numbers (scan_events first (changes_of older) (found (latest older) library) (found (latest older) library))) (all-numbers first older)
    ∙ ap (λ (l : List ℕ). range_with_len (first + 1) (length (changes_of older)) ++ l)
    (scan-numbers first (changes_of older) (found (latest older) library) (found (latest older) library)
    ∙ ap (λ (x : ℕ). range_with_len x (length (found (latest older) library))) from)
    ∙ sym (range-append (first + 1) (length (changes_of older)) (length (found (latest older) library)))
    ∙ ap (range_with_len (first + 1)) sum
