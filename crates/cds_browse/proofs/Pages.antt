-- Pages one after the other: what each has, and what all have together.
use Rattle.std.proofs.Common.{◌≡◌, ◌≢◌, ◌+◌, ◌<◌, ◌≤◌, ℕ, zero, suc, Bool, true, false, cond, nat_eq, List, [], ◌∷◌, ◌++◌, Option, Some, None, Ok, Err, Result, take, drop, length, filter, get_or, refl, sym, ◌∙◌, ap, subst, arith, length-append}
use Rattle.std.specs.List.{AllPairs, All}
use Rattle.std.specs.List.Sorted.{IsPermutation}
use Rattle.std.proofs.lemmas.Bool.Decides.{nat_tests, Decides-eqb}
use Rattle.std.proofs.lemmas.List.{length-take, length-drop, take_all, get_or-take, drop-drop}
use Rattle.std.proofs.lemmas.List.Elements.{All-cons, All-nil}
use Rattle.std.proofs.lemmas.List.Kept.{AllPairs-cons}
use Rattle.std.proofs.lemmas.List.Sorted.{IsPermutation-map}
use Rattle.std.proofs.lemmas.Map.Keys.{IsDistinct-IsPermutation}
use Rattle.std.proofs.lemmas.Map.Made.{AllPairs-from_IsDistinct, IsDistinct-from_AllPairs}
use Rattle.cds_base.proofs.Parts.{take_on}
use Rattle.cds_object.specs.Object.{ObjectRow, is_folder}
use Rattle.cds_object.specs.Tree.{is_child_of, children_of, IdsAscend}
use Rattle.cds_soap.specs.declared.action.BrowseRequest.{BrowseRequest}
use Rattle.cds_soap.specs.declared.action.SearchRequest.{SearchRequest}
use Rattle.cds_criteria.specs.Criteria.{Criteria}
use Rattle.cds_criteria.specs.Descendants.{is_below, descendants}
use Rattle.cds_criteria.specs.Meaning.{meets}
use Rattle.cds_criteria.specs.Reading.{criteria_read}
use Rattle.cds_criteria.specs.Sorting.{keys_read, ordered}
use Rattle.cds_criteria.specs.declared.sort.SortKey.{SortKey}
use Rattle.cds_criteria.proofs.Order.{same_rows}
use Rattle.cds_criteria.proofs.Unique.{none_keep}
use Rattle.cds_browse.specs.declared.page.Page.{Page}
use Rattle.cds_browse.specs.declared.page.Target.{Target}
use Rattle.cds_browse.specs.declared.page.Target.TheVariants.{Itself, Children}
use Rattle.cds_browse.specs.declared.error.BrowseError.{BrowseError}
use Rattle.cds_browse.specs.declared.error.BrowseError.TheVariants.{NoContainer}
use Rattle.cds_browse.specs.Paging.{row_named, ids_of, most_rows, page_of, sorted_page}
use Rattle.cds_browse.specs.Browsing.{target_named, target_at, target_asked, can_answer, matches, row_answer, target_answer, browse_answer}
use Rattle.cds_browse.specs.Searching.{container_in, found_in, criteria_answer, container_answer, search_answer}
use Rattle.cds_browse.specs.Laws.{browsed, searched, InTurn, shown_by, ShowsEach, IsBounded, pages_show_each_child_once, pages_show_each_match_once, pages_are_bounded, found_pages_are_bounded, an_object_is_one_row}
use Rattle.cds_browse.proofs.Alone.{AllAbove, above_head, tail_ascends, alone, some_rows, from_start}
use Rattle.cds_browse.proofs.Made.{length_ordered, slice_ids}

-- ---- what is known of a page that is answered

record IsSorted (number : ℕ) (rows : List ObjectRow) (row : ObjectRow) (start count : ℕ) (found : List ObjectRow) (sort : List ℕ) (page : Page) : Type 0 where
  keys : List SortKey
  read : keys_read sort ≡ Ok keys
  is : page ≡ page_of number rows row keys start count found

sorted : (number : ℕ) (rows : List ObjectRow) (row : ObjectRow) (start count : ℕ) (found : List ObjectRow) (sort : List ℕ) (page : Page)
    → sorted_page number rows row start count found (keys_read sort) ≡ Ok page → IsSorted number rows row start count found sort page
sorted number rows row start count found sort page e = by (keys_read sort) refl e
  where
    by : (k : Result (List SortKey) ℕ) → keys_read sort ≡ k → sorted_page number rows row start count found k ≡ Ok page → IsSorted number rows row start count found sort page
    by (Err at) k e = absurd (cc)
    by (Ok keys) k e = record { keys = keys; read = k; is = cc }

record IsAnswered (number : ℕ) (rows : List ObjectRow) (asked : BrowseRequest) (page : Page) : Type 0 where
  target : Target
  named : target_asked asked ≡ Some target
  row : ObjectRow
  found : row_named asked.object rows ≡ Some row
  is : IsSorted number rows row asked.start asked.count (matches target row rows) asked.sort page

answered : (number : ℕ) (rows : List ObjectRow) (asked : BrowseRequest) (page : Page) → browse_answer number rows asked ≡ Ok page → IsAnswered number rows asked page
answered number rows asked page e = by (target_asked asked) refl e
  where
    by : (t : Option Target) → target_asked asked ≡ t → target_answer number rows asked t ≡ Ok page → IsAnswered number rows asked page
    by None t e = absurd (cc)
    by (Some target) t e = of (row_named asked.object rows) refl e
      where
        of : (r : Option ObjectRow) → row_named asked.object rows ≡ r → row_answer number rows asked target r ≡ Ok page → IsAnswered number rows asked page
        of None r e = absurd (cc)
        of (Some row) r e = can (can_answer target row) e
          where
            can : (b : Bool) → cond b (sorted_page number rows row asked.start asked.count (matches target row rows) (keys_read asked.sort)) (Err NoContainer) ≡ Ok page
                → IsAnswered number rows asked page
            can false e = absurd (cc)
            can true e = record {
              target = target;
              named = t;
              row = row;
              found = r;
              is = sorted number rows row asked.start asked.count (matches target row rows) asked.sort page e;
            }

record IsFound (number : ℕ) (rows : List ObjectRow) (asked : SearchRequest) (page : Page) : Type 0 where
  row : ObjectRow
  found : row_named asked.container rows ≡ Some row
  criteria : Criteria
  read : criteria_read asked.criteria ≡ Ok criteria
  is : IsSorted number rows row asked.start asked.count (found_in criteria row.id rows) asked.sort page

found : (number : ℕ) (rows : List ObjectRow) (asked : SearchRequest) (page : Page) → search_answer number rows asked ≡ Ok page → IsFound number rows asked page
found number rows asked page e = by (row_named asked.container rows) refl e
  where
    by : (r : Option ObjectRow) → row_named asked.container rows ≡ r → container_answer number rows asked (container_in r) ≡ Ok page → IsFound number rows asked page
    by None r e = absurd (cc)
    by (Some row) r e = of (is_folder row.content) e
      where
        of : (b : Bool) → container_answer number rows asked (cond b (Some row) None) ≡ Ok page → IsFound number rows asked page
        of false e = absurd (cc)
        of true e = read (criteria_read asked.criteria) refl e
          where
            read : (c : Result Criteria ℕ) → criteria_read asked.criteria ≡ c → criteria_answer number rows asked row c ≡ Ok page → IsFound number rows asked page
            read (Err at) c e = absurd (cc)
            read (Ok criteria) c e = record {
              row = row;
              found = r;
              criteria = criteria;
              read = c;
              is = sorted number rows row asked.start asked.count (found_in criteria row.id rows) asked.sort page e;
            }

-- ---- a page's length

most_longest : (count : ℕ) → most_rows count ≤ 4096
most_longest count = grind (arith, nat_tests)

most_counted : (count : ℕ) → 0 < count → most_rows count ≤ count
most_counted count some = grind (arith, nat_tests)

bounds : (number : ℕ) (rows : List ObjectRow) (row : ObjectRow) (keys : List SortKey) (start count : ℕ) (found : List ObjectRow)
    → IsBounded start count (page_of number rows row keys start count found)
bounds number rows row keys start count found =
    let all = ids_of (ordered keys found) in
    let ids = ap length (slice_ids start (most_rows count) (ordered keys found)) in
    let taken = length-take (most_rows count) (drop start all) in
    let left = length-drop start all in
    let many = length_ordered keys found in
    record {
      longest = let most = most_longest count in omega (arith, ids, taken, most);
      counted = λ some. let most = most_counted count some in omega (arith, ids, taken, most);
      within = omega (arith, ids, taken, left, many);
      advances = λ below. let some = some_rows count in omega (arith, ids, taken, left, many, below, some);
    }

pub bounded : pages_are_bounded
bounded number rows asked page e =
    let a = answered number rows asked page e in
    subst (λ (p : Page). IsBounded asked.start asked.count p) (sym a.is.is)
    (bounds number rows a.row a.is.keys asked.start asked.count (matches a.target a.row rows))

pub found_bounded : found_pages_are_bounded
found_bounded number rows asked page e =
    let f = found number rows asked page e in
    subst (λ (p : Page). IsBounded asked.start asked.count p) (sym f.is.is)
    (bounds number rows f.row f.is.keys asked.start asked.count (found_in f.criteria f.row.id rows))

-- ---- an object itself

pub one_row : an_object_is_one_row
one_row number rows asked row page ascend flag named e =
    let a = answered number rows asked page e in
    let at : target_at asked.start (Some Itself) ≡ Some a.target = sym (ap (target_at asked.start) flag) ∙ a.named in
    let same : a.row ≡ row = cc in
    by (nat_eq asked.start 0) refl a.is.keys a.target at
    (a.is.is ∙ ap (λ (r : ObjectRow). page_of number rows r a.is.keys asked.start asked.count (matches a.target r rows)) same)
  where
    one : filter (λ (other : ObjectRow). nat_eq other.id row.id) rows ≡ row ∷ []
    one = alone asked.object row rows ascend named

    by : (b : Bool) → nat_eq asked.start 0 ≡ b → (keys : List SortKey) (target : Target) → cond b (Some Itself) None ≡ Some target
        → page ≡ page_of number rows row keys asked.start asked.count (matches target row rows) → (page.ids ≡ row.id ∷ []) × (page.total ≡ 1)
    by false start keys target at is = absurd (cc)
    by true start keys Children at is = absurd (cc)
    by true start keys Itself at is = (
      ap (λ (p : Page). p.ids) is
          ∙ ap (λ (all : List ObjectRow). ids_of (take (most_rows asked.count) (drop asked.start (ordered keys all)))) one
          ∙ ap ids_of (from_start asked.start start asked.count row),
      ap (λ (p : Page). p.total) is ∙ ap length one,
    )

-- ---- pages in turn

-- each page is a slice of these ids
abbrev AreSlices : (ℕ → ℕ → Result Page BrowseError) → List ℕ → Type 0
AreSlices answer ids = (start count : ℕ) (page : Page) → answer start count ≡ Ok page → page.ids ≡ take (most_rows count) (drop start ids)

front : (m : ℕ) (xs : List ℕ) → take m xs ≡ take (length (take m xs)) xs
front zero xs = refl
front (suc m) [] = refl
front (suc m) (x ∷ xs) = ap (λ (ys : List ℕ). x ∷ ys) (front m xs)

joined : (xs a b : List ℕ) (m : ℕ) → a ≡ take m xs → b ≡ take (length b) (drop (length a) xs) → a ++ b ≡ take (length (a ++ b)) xs
joined xs a b m first rest =
    let own : a ≡ take (length a) xs = first ∙ front m xs ∙ ap (λ (ys : List ℕ). take (length ys) xs) (sym first) in
    ap (λ (ys : List ℕ). ys ++ b) own ∙ ap (λ (ys : List ℕ). take (length a) xs ++ ys) rest ∙ take_on xs (length a) (length b)
    ∙ ap (λ n. take n xs) (sym (length-append a b))

walked : (answer : ℕ → ℕ → Result Page BrowseError) (ids : List ℕ) → AreSlices answer ids → (pages : List (ℕ × Page)) (start : ℕ) → InTurn answer start pages
    → shown_by pages ≡ take (length (shown_by pages)) (drop start ids)
walked answer ids slices [] start turn = refl
walked answer ids slices (next ∷ others) start turn =
    joined (drop start ids) next.1.ids (shown_by others) (most_rows next.0) (slices start next.0 next.1 turn.0)
    (walked answer ids slices others (start + length next.1.ids) turn.1
    ∙ ap (take (length (shown_by others))) (sym (drop-drop (length next.1.ids) start ids)))

-- ---- none twice, and in their order

abbrev Rises : List ℕ → Type 0
Rises = AllPairs (λ (one later : ℕ). one < later)

none_rise : Rises []
none_rise = λ i j d l h. absurd (omega (arith, l, h))

all_above : (n : ℕ) (rows : List ObjectRow) → AllAbove n rows → All (λ m. n < m) (ids_of rows)
all_above n [] above = All-nil (λ m. n < m)
all_above n (row ∷ rows) above = All-cons (λ m. n < m) row.id (ids_of rows) above.0 (all_above n rows above.1)

ids_rise : (rows : List ObjectRow) → IdsAscend rows → Rises (ids_of rows)
ids_rise [] ascend = none_rise
ids_rise (row ∷ rows) ascend =
    AllPairs-cons (λ (one later : ℕ). one < later) row.id (ids_of rows) (all_above row.id rows (above_head row rows ascend))
    (ids_rise rows (tail_ascends row rows ascend))

above_filtered : (test : ObjectRow → Bool) (n : ℕ) (rows : List ObjectRow) → AllAbove n rows → AllAbove n (filter test rows)
above_filtered test n [] above = tt
above_filtered test n (row ∷ rows) above = by (test row) (above_filtered test n rows above.1)
  where
    by : (b : Bool) → AllAbove n (filter test rows) → AllAbove n (cond b (row ∷ filter test rows) (filter test rows))
    by true further = (above.0, further)
    by false further = further

ascend_after : (row : ObjectRow) (rows : List ObjectRow) → AllAbove row.id rows → IdsAscend rows → IdsAscend (row ∷ rows)
ascend_after row [] above ascend = tt
ascend_after row (next ∷ rows) above ascend = (above.0, ascend)

pub filtered_ascend : (test : ObjectRow → Bool) (rows : List ObjectRow) → IdsAscend rows → IdsAscend (filter test rows)
filtered_ascend test [] ascend = tt
filtered_ascend test (row ∷ rows) ascend =
    by (test row) (above_filtered test row.id rows (above_head row rows ascend)) (filtered_ascend test rows (tail_ascends row rows ascend))
  where
    by : (b : Bool) → AllAbove row.id (filter test rows) → IdsAscend (filter test rows) → IdsAscend (cond b (row ∷ filter test rows) (filter test rows))
    by true above further = ascend_after row (filter test rows) above further
    by false above further = further

apart : (xs : List ℕ) → Rises xs → AllPairs (λ (one later : ℕ). one ≢ later) xs
apart xs rise = λ i j d l h e. let low = rise i j d l h in omega (arith, low, e)

front_pairs : (R : ℕ → ℕ → Type 0) (n : ℕ) (xs : List ℕ) → AllPairs R xs → AllPairs R (take n xs)
front_pairs R n xs pairs = λ i j d l h.
    let many = length-take n xs in
    let one = get_or-take n xs i d (omega (arith, l, h, many)) in
    let later = get_or-take n xs j d (omega (arith, l, h, many)) in
    subst (λ m. R m (get_or (take n xs) j d)) (sym one) (subst (λ m. R (get_or xs i d) m) (sym later) (pairs i j d l (omega (arith, h, many))))

nat_flips : (a b : ℕ) → nat_eq a b ≡ nat_eq b a
nat_flips a b = grind (arith, nat_tests)

ordered_apart : (keys : List SortKey) (rows : List ObjectRow) → IdsAscend rows → AllPairs (λ (one later : ℕ). one ≢ later) (ids_of (ordered keys rows))
ordered_apart keys rows ascend =
    AllPairs-from_IsDistinct Decides-eqb (ids_of (ordered keys rows))
    (IsDistinct-IsPermutation nat_eq nat_flips (ids_of rows) (ids_of (ordered keys rows))
    (IsPermutation-map (λ (r : ObjectRow). r.id) rows (ordered keys rows) (same_rows keys rows))
    (IsDistinct-from_AllPairs Decides-eqb (ids_of rows) (apart (ids_of rows) (ids_rise rows ascend))))

shows_each : (keys : List SortKey) (found : List ObjectRow) (pages : List (ℕ × Page)) → IdsAscend found
    → shown_by pages ≡ take (length (shown_by pages)) (ids_of (ordered keys found)) → ShowsEach keys found pages
shows_each keys found pages ascend first =
    let ids = ids_of (ordered keys found) in
    let whole : length (shown_by pages) ≡ length found → shown_by pages ≡ ids =
    λ many. first ∙ take_all (length (shown_by pages)) ids (let all = length_ordered keys found in omega (arith, many, all)) in
    record {
      first = first;
      once = subst (AllPairs (λ (one later : ℕ). one ≢ later)) (sym first)
          (front_pairs (λ one later. one ≢ later) (length (shown_by pages)) ids (ordered_apart keys found ascend));
      whole = whole;
      every = λ many. subst (IsPermutation (ids_of found)) (sym (whole many))
          (IsPermutation-map (λ (r : ObjectRow). r.id) found (ordered keys found) (same_rows keys found));
      rising = λ none. subst Rises (sym first)
          (front_pairs (λ one later. one < later) (length (shown_by pages)) ids
          (subst Rises (ap ids_of (sym (ap (λ (k : List SortKey). ordered k found) none ∙ none_keep found ascend))) (ids_rise found ascend)));
    }

slice : (number : ℕ) (rows : List ObjectRow) (row : ObjectRow) (start count : ℕ) (found : List ObjectRow) (sort : List ℕ) (keys : List SortKey) (page : Page)
    → keys_read sort ≡ Ok keys → IsSorted number rows row start count found sort page → page.ids ≡ take (most_rows count) (drop start (ids_of (ordered keys found)))
slice number rows row start count found sort keys page read is =
    let same : is.keys ≡ keys = cc in
    ap (λ (p : Page). p.ids) is.is ∙ slice_ids start (most_rows count) (ordered is.keys found)
    ∙ ap (λ (k : List SortKey). take (most_rows count) (drop start (ids_of (ordered k found)))) same

child_slices : (number : ℕ) (rows : List ObjectRow) (asked : BrowseRequest) (container : ObjectRow) (keys : List SortKey) → target_named asked.flag ≡ Some Children
    → row_named asked.object rows ≡ Some container → keys_read asked.sort ≡ Ok keys
    → AreSlices (browsed number rows asked) (ids_of (ordered keys (children_of container.id rows)))
child_slices number rows asked container keys flag named read start count page e =
    let a = answered number rows (record asked { start = start; count = count }) page e in
    let at : Some Children ≡ Some a.target = sym (ap (target_at start) flag) ∙ a.named in
    let target : a.target ≡ Children = cc in
    let same : a.row ≡ container = cc in
    slice number rows a.row start count (matches a.target a.row rows) asked.sort keys page read a.is
    ∙ ap (λ (t : Target). take (most_rows count) (drop start (ids_of (ordered keys (matches t a.row rows))))) target
    ∙ ap (λ (r : ObjectRow). take (most_rows count) (drop start (ids_of (ordered keys (children_of r.id rows))))) same

match_slices : (number : ℕ) (rows : List ObjectRow) (asked : SearchRequest) (container : ObjectRow) (criteria : Criteria) (keys : List SortKey)
    → row_named asked.container rows ≡ Some container → criteria_read asked.criteria ≡ Ok criteria → keys_read asked.sort ≡ Ok keys
    → AreSlices (searched number rows asked) (ids_of (ordered keys (found_in criteria container.id rows)))
match_slices number rows asked container criteria keys named meant read start count page e =
    let f = found number rows (record asked { start = start; count = count }) page e in
    let same : f.row ≡ container = cc in
    let asks : f.criteria ≡ criteria = cc in
    slice number rows f.row start count (found_in f.criteria f.row.id rows) asked.sort keys page read f.is
    ∙ ap (λ (c : Criteria). take (most_rows count) (drop start (ids_of (ordered keys (found_in c f.row.id rows))))) asks
    ∙ ap (λ (r : ObjectRow). take (most_rows count) (drop start (ids_of (ordered keys (found_in criteria r.id rows))))) same

pub each_child : pages_show_each_child_once
each_child number rows asked container keys pages ascend flag named read turn =
    shows_each keys (children_of container.id rows) pages (filtered_ascend (is_child_of container.id) rows ascend)
    (walked (browsed number rows asked) (ids_of (ordered keys (children_of container.id rows))) (child_slices number rows asked container keys flag named read) pages 0 turn)

pub each_match : pages_show_each_match_once
each_match number rows asked container criteria keys pages ascend named meant read turn =
    shows_each keys (found_in criteria container.id rows) pages
    (filtered_ascend (meets criteria) (descendants container.id rows) (filtered_ascend (is_below rows container.id) rows ascend))
    (walked (searched number rows asked) (ids_of (ordered keys (found_in criteria container.id rows)))
    (match_slices number rows asked container criteria keys named meant read) pages 0 turn)
