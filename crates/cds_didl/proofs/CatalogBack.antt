-- The rows of a catalog of plain records are in their ranges, so they are written and read back.
use Rattle.std.proofs.Common.{◌≡◌, ℕ, ◌+◌, ◌^◌, ◌<◌, ◌≤◌, nat_eq, Bool, true, false, cond, Option, Some, None, List, [], ◌∷◌, ◌++◌, length, map, refl, sym, ap, ◌∙◌, arith, append_assoc}
use Rattle.std.specs.Prelude.{IfSome, MatchOption}
use Rattle.std.specs.List.{AllByRecursion, count_by}
use Rattle.std.specs.Option.{option_eq}
use Rattle.std.proofs.lemmas.Bool.Decides.{nat_tests}
use Rattle.std.proofs.lemmas.List.Sums.{sum_by-cons, count_by-le-length}
use Rattle.cds_object.specs.declared.content.Content.{Content}
use Rattle.cds_object.specs.declared.content.Content.TheVariants.{Folder, Track}
use Rattle.cds_object.specs.declared.record.Record.{Record}
use Rattle.cds_object.specs.declared.row.Trackers.{Trackers}
use Rattle.cds_object.specs.Object.{ObjectRow, IsRow}
use Rattle.cds_object.specs.Tree.{is_child_of, IdsAscend, IsHeld, CountsChildren, is_container_row, row_of}
use Rattle.cds_catalog.specs.Library.{map_of}
use Rattle.cds_catalog.specs.History.{end_of}
use Rattle.cds_catalog.specs.Laws.{IsWithin, AreLibraries}
use Rattle.cds_catalog.specs.Scans.{bad_record}
use Rattle.cds_catalog.specs.Steps.{Standing, standing_of}
use Rattle.cds_catalog.specs.Catalog.{catalog}
use Rattle.cds_catalog.proofs.Accepted.{accepted_map}
use Rattle.cds_catalog.proofs.StepsTree.{catalogs_are_trees-proof}
use Rattle.cds_catalog.proofs.StepsWithin.{rows_are_within-proof}
use Rattle.cds_base.specs.Characters.{AreAllowed}
use Rattle.cds_didl.specs.ReadBack.{HasAllowedTexts, AreCounts, HasRanges, IsWritable}
use Rattle.cds_didl.specs.Plain.{IsPlainText, HasPlainTexts, IsPlain, history_of, ArePlainRecords, CatalogsAreReadBack}
use Rattle.cds_didl.proofs.Plain.{rows-are-plain}
use Rattle.cds_didl.proofs.ReadBack.{rows-are-read-back}

-- plain texts are allowed
each-allowed : (o : Option (List ℕ)) → IfSome o IsPlainText → IfSome o AreAllowed
each-allowed None is = tt
each-allowed (Some text) is = is.allowed

texts-allowed : (content : Content) → HasPlainTexts content → HasAllowedTexts content
texts-allowed (Folder title) is = is.allowed
texts-allowed (Track track) is = record {
  title = is.title.allowed;
  artist = each-allowed track.artist is.artist;
  album = each-allowed track.album is.album;
  genre = each-allowed track.genre is.genre;
}

-- no row is its own child, so its children are fewer than the rows
not-own : (id : ℕ) (parent : Option ℕ) (rows : List ObjectRow) → MatchOption parent (id ≡ 0) (λ p. (p < id) × (is_container_row (row_of p rows) ≡ true)) → option_eq nat_eq parent (Some id) ≡ false
not-own id None rows held = refl
not-own id (Some p) rows held = differ p held.0 where
  differ : (p : ℕ) → p < id → nat_eq p id ≡ false
  differ p h = grind (arith, nat_tests)

one-by-one : (p : ObjectRow → Bool) (x : ObjectRow) (xs : List ObjectRow) → count_by p (x ∷ xs) ≡ cond (p x) 1 0 + count_by p xs
one-by-one p x xs = sum_by-cons (λ y. cond (p y) 1 0) x xs

fewer : (p : ObjectRow → Bool) (before rest : List ObjectRow) (row : ObjectRow) → p row ≡ false → count_by p (before ++ row ∷ rest) + 1 ≤ length (before ++ row ∷ rest)
fewer p [] rest row none =
    let one = one-by-one p row rest in
    let zero_more = ap {B = ℕ} (λ t. cond t 1 0) none in
    omega (arith, one, zero_more, count_by-le-length p rest)
fewer p (x ∷ before) rest row none = by (p x) (fewer p before rest row none) (one-by-one p x (before ++ row ∷ rest)) where
  by : (t : Bool) → count_by p (before ++ row ∷ rest) + 1 ≤ length (before ++ row ∷ rest) → count_by p (x ∷ (before ++ row ∷ rest)) ≡ cond t 1 0 + count_by p (before ++ row ∷ rest)
      → count_by p (x ∷ (before ++ row ∷ rest)) + 1 ≤ length (x ∷ (before ++ row ∷ rest))
  by true h e = omega (arith, h, e)
  by false h e = omega (arith, h, e)

-- as many rows as ids up to the greatest
many : (n : ℕ) (row : ObjectRow) (rows : List ObjectRow) → IdsAscend (row ∷ rows) → AllByRecursion (λ r. r.id ≤ n) (row ∷ rows) → row.id + length (row ∷ rows) ≤ n + 1
many n row [] up each = omega (arith, each.0)
many n row (next ∷ rows) up each = let more = many n next rows up.1 each.1 in omega (arith, up.0, more)

no-more-than : (n : ℕ) (rows : List ObjectRow) → IdsAscend rows → AllByRecursion (λ r. r.id ≤ n) rows → length rows ≤ n + 1
no-more-than n [] up each = omega arith
no-more-than n (row ∷ rows) up each = let h = many n row rows up each in omega (arith, h)

ids-within : (s : Standing) (rows : List ObjectRow) → AllByRecursion (IsWithin s) rows → AllByRecursion (λ r. r.id ≤ s.drawn) rows
ids-within s [] each = tt
ids-within s (row ∷ rows) each = (each.0.id, ids-within s rows each.1)

-- one row
parent-range : (id : ℕ) (parent : Option ℕ) (rows : List ObjectRow) → id < 2 ^ 32 → MatchOption parent (id ≡ 0) (λ p. (p < id) × (is_container_row (row_of p rows) ≡ true)) → IfSome parent (λ n. n < 2 ^ 32)
parent-range id None rows h held = tt
parent-range id (Some p) rows h held = omega (arith, h, held.0)

counts-range : (number children : ℕ) (o : Option Trackers) → number < 2 ^ 32 → children < 2 ^ 32
    → MatchOption o (Unit {0}) (λ t. (t.container_update ≤ number) × (t.deleted ≤ number)) → MatchOption o (Unit {0}) (λ t. t.child_count ≡ children) → IfSome o AreCounts
counts-range number children None h few within counted = tt
counts-range number children (Some t) h few within counted =
    record { container_update = omega (arith, h, within.0); child_count = omega (arith, few, counted); deleted = omega (arith, h, within.1) }

module _ (s : Standing) (rows : List ObjectRow) (number : s.number < 2 ^ 32) (drawn : s.drawn < 2 ^ 32) (few : length rows ≤ s.drawn + 1) where
  row-range : (before rest : List ObjectRow) (row : ObjectRow) → rows ≡ before ++ row ∷ rest → IsRow row → IsWithin s row → IsHeld rows row → CountsChildren rows row → IsPlain row.content → HasRanges row
  row-range before rest row e is within held counted plain =
      let none = not-own row.id row.parent rows held in
      let less = fewer (is_child_of row.id) before rest row none in
      let same = ap (count_by (is_child_of row.id)) e in
      let long = ap length e in
      let id : row.id < 2 ^ 32 = omega (arith, within.id, drawn) in
      record {
        is = is;
        id = id;
        parent = parent-range row.id row.parent rows id held;
        numbers = plain.numbers;
        object_update = omega (arith, within.object_update, number);
        trackers = counts-range s.number (count_by (is_child_of row.id) rows) row.trackers number (omega (arith, less, same, long, few, drawn)) within.trackers counted;
      }

  writable : (before rest : List ObjectRow) → rows ≡ before ++ rest → AllByRecursion IsRow rest → AllByRecursion (IsWithin s) rest → AllByRecursion (IsHeld rows) rest → AllByRecursion (CountsChildren rows) rest
      → AllByRecursion (λ row. IsPlain row.content) rest → AllByRecursion IsWritable rest
  writable before [] e is within held counted plain = tt
  writable before (row ∷ rest) e is within held counted plain = (
    record { ranges = row-range before rest row e is.0 within.0 held.0 counted.0 plain.0; texts = texts-allowed row.content plain.0.texts },
    writable (before ++ row ∷ []) rest (e ∙ sym (append_assoc before (row ∷ []) rest)) is.1 within.1 held.1 counted.1 plain.1,
  )

-- the whole
pub libraries : (scans : List (List Record)) → AllByRecursion (λ records. bad_record records ≡ None) scans → AreLibraries (map map_of scans)
libraries [] each = tt
libraries (records ∷ older) each = ((accepted_map records each.0).0, libraries older each.1)

pub catalog-writable : (first : ℕ) (scans : List (List Record)) → AllByRecursion ArePlainRecords scans → AllByRecursion (λ records. bad_record records ≡ None) scans
    → end_of (history_of first scans) < 2 ^ 32 → AllByRecursion IsWritable (catalog (history_of first scans))
catalog-writable first scans plain accepted numbers =
    let h = history_of first scans in
    let rows = catalog h in
    let libs = libraries scans accepted in
    let within = rows_are_within-proof h libs in
    let tree = catalogs_are_trees-proof h libs in
    let s = standing_of h in
    let drawn : s.drawn < 2 ^ 32 = omega (arith, within.1, numbers) in
    writable s rows numbers drawn (no-more-than s.drawn rows tree.ascending (ids-within s rows within.0)) [] rows refl tree.each within.0 tree.held tree.counted (rows-are-plain first scans plain)

pub catalogs-are-read-back : CatalogsAreReadBack
catalogs-are-read-back base first scans can =
    rows-are-read-back base (catalog (history_of first scans)) can.base_allowed (catalog-writable first scans can.plain can.accepted can.numbers) can.short
