-- Rows that are written are read back.
use Rattle.std.proofs.Common.{◌≡◌, ℕ, ◌+◌, ◌≤◌, Bool, true, false, cond, ◌&&◌, Option, Some, None, Result, Ok, Err, List, [], ◌∷◌, codes, length, refl, sym, ap, subst, ◌∙◌, arith}
use Rattle.std.specs.Prelude.{IfSome, is_some}
use Rattle.std.specs.List.{AllByRecursion}
use Rattle.std.specs.Str.{bytes_eq}
use Rattle.cds_base.specs.declared.limits.TheConstants.{INPUT_LIMIT}
use Rattle.cds_markup.specs.declared.name.Name.{Name}
use Rattle.cds_markup.specs.Document.{Meaning, Meanings, Doc}
use Rattle.cds_markup.specs.Drafts.{CanBeDrafted}
use Rattle.cds_markup.specs.Children.{name_of, is_named}
use Rattle.cds_markup.proofs.Public.{drafts-are-read}
use Rattle.cds_object.specs.declared.content.Content.{Content}
use Rattle.cds_object.specs.declared.content.TrackContent.{TrackContent}
use Rattle.cds_object.specs.declared.content.Content.TheVariants.{Folder, Track}
use Rattle.cds_object.specs.declared.row.Trackers.{Trackers}
use Rattle.cds_object.specs.Object.{ObjectRow, is_folder}
use Rattle.cds_didl.specs.declared.error.Fault.{Fault}
use Rattle.cds_didl.specs.declared.error.Fault.TheVariants.{Root, NotRow}
use Rattle.cds_didl.specs.Spelled.{didl_space}
use Rattle.cds_didl.specs.Fragment.{didl_text}
use Rattle.cds_didl.specs.Reading.{container_of, item_of}
use Rattle.cds_didl.specs.Didl.{row_or, row_said, and_rows, rows_from, rows_said, Didl, Answers}
use Rattle.cds_didl.specs.ReadBack.{HasAllowedTexts, HasNumbers, AreCounts, HasRanges, IsWritable, RowsAreReadBack, IsReadBack}
use Rattle.cds_didl.proofs.RowDrafts.{didl_draft, didl-is}
use Rattle.cds_didl.proofs.RowSays.{said_name, container_said, item_said, row_meant, rows_meant, didl_said, didl-says, didl-can, didl-deep}
use Rattle.cds_didl.proofs.RowRead.{same-bytes, items, folder_row, container-read}
use Rattle.cds_didl.proofs.ItemRead.{track_row, item-read}

-- a row of each kind
named-by : (space local : List ℕ) (element : Meaning) → name_of element ≡ said_name space local → is_named space local element ≡ true
named-by space local element e =
    ap (λ (n : Name). bytes_eq n.space space && bytes_eq n.local local) e ∙ ap (λ t. t && bytes_eq local local) (same-bytes space) ∙ same-bytes local

named-not : (space local mine name : List ℕ) (element : Meaning) → name_of element ≡ said_name mine name → bytes_eq name local ≡ false → is_named space local element ≡ false
named-not space local mine name element e no_name =
    ap (λ (n : Name). bytes_eq n.space space && bytes_eq n.local local) e ∙ ap (λ t. bytes_eq mine space && t) no_name ∙ by (bytes_eq mine space)
  where
    by : (t : Bool) → (t && false) ≡ false
    by true = refl
    by false = refl

abbrev said_by : ℕ → Bool → Bool → Option ObjectRow → Option ObjectRow → Result ObjectRow Fault
said_by k container item one other = cond container (row_or k one) (cond item (row_or k other) (Err (NotRow k)))

folder-said : (k : ℕ) (row : ObjectRow) (title : List ℕ) (trackers : Trackers) → HasRanges row → AreCounts trackers → row_said k (container_said row title trackers) ≡ Ok (folder_row row title trackers)
unfolding row_said
folder-said k row title trackers r n =
    let element = container_said row title trackers in
    ap (λ t. said_by k t (is_named didl_space (codes "item") element) (container_of element) (item_of element)) (named-by didl_space (codes "container") element refl)
    ∙ ap (row_or k) (container-read row title trackers r n)

track-said : (k : ℕ) (base : List ℕ) (row : ObjectRow) (track : TrackContent) → HasRanges row → HasNumbers (Track track) → row_said k (item_said base row track) ≡ Ok (track_row row track)
unfolding row_said
track-said k base row track r n =
    let element = item_said base row track in
    ap (λ t. said_by k t (is_named didl_space (codes "item") element) (container_of element) (item_of element)) (named-not didl_space (codes "container") didl_space (codes "item") element refl refl)
    ∙ ap (λ t. said_by k false t (container_of element) (item_of element)) (named-by didl_space (codes "item") element refl)
    ∙ ap (row_or k) (item-read base row track r n)

-- the row with its own content and trackers is the row
abbrev with_both : ObjectRow → Content → Option Trackers → ObjectRow
with_both row content trackers = record { id = row.id; parent = row.parent; content = content; object_update = row.object_update; trackers = trackers }

same-row : (row : ObjectRow) (content : Content) (trackers : Option Trackers) → row.content ≡ content → row.trackers ≡ trackers → with_both row content trackers ≡ row
same-row row content trackers e f = ap (λ c. with_both row c trackers) (sym e) ∙ ap (with_both row row.content) (sym f)

none-of : (o : Option Trackers) → is_some o ≡ false → o ≡ None
none-of None e = refl
none-of (Some t) e = absurd (cc)

one-more : (k : ℕ) (element : Meaning) (row found : ObjectRow) (ms : Meanings) (rows : List ObjectRow) → row_said k element ≡ Ok found → found ≡ row → rows_from (k + 1) (items ms) ≡ Ok rows
    → and_rows (row_said k element) (rows_from (k + 1) (items ms)) ≡ Ok (row ∷ rows)
one-more k element row found ms rows one same more =
    ap (λ r. and_rows r (rows_from (k + 1) (items ms))) (one ∙ ap Ok same) ∙ ap (and_rows (Ok row)) more

row-back : (k : ℕ) (base : List ℕ) (row : ObjectRow) (content : Content) (trackers : Option Trackers) (ms : Meanings) (rows : List ObjectRow)
    → row.content ≡ content → row.trackers ≡ trackers → HasRanges row → HasNumbers content → IfSome trackers AreCounts → rows_from (k + 1) (items ms) ≡ Ok rows
    → rows_from k (items (row_meant base row content trackers ms)) ≡ Ok (row ∷ rows)
row-back k base row (Folder title) None ms rows e f r n c more =
    let tracked : false ≡ true = sym (ap is_some f) ∙ r.is.tracked ∙ ap is_folder e in absurd (cc)
row-back k base row (Folder title) (Some trackers) ms rows e f r n c more =
    one-more k (container_said row title trackers) row (folder_row row title trackers) ms rows (folder-said k row title trackers r c) (same-row row (Folder title) (Some trackers) e f) more
row-back k base row (Track track) trackers ms rows e f r n c more =
    let none = none-of row.trackers (r.is.tracked ∙ ap is_folder e) in
    one-more k (item_said base row track) row (track_row row track) ms rows (track-said k base row track r n) (same-row row (Track track) None e none) more

abbrev ranges-of : (rows : List ObjectRow) → AllByRecursion IsWritable rows → AllByRecursion HasRanges rows
ranges-of [] each = tt
ranges-of (row ∷ rows) each = (each.0.ranges, ranges-of rows each.1)

rows-back : (k : ℕ) (base : List ℕ) (rows : List ObjectRow) → AllByRecursion HasRanges rows → rows_from k (items (rows_meant base rows)) ≡ Ok rows
rows-back k base [] each = refl
rows-back k base (row ∷ rows) each =
    row-back k base row row.content row.trackers (rows_meant base rows) rows refl refl each.0 each.0.numbers each.0.trackers (rows-back (k + 1) base rows each.1)

didl-back : (base : List ℕ) (rows : List ObjectRow) → AllByRecursion HasRanges rows → Didl (didl_said base rows) rows
unfolding rows_said
didl-back base rows each =
    ap (λ t. cond t (rows_from 0 (items (rows_meant base rows))) (Err Root)) (named-by didl_space (codes "DIDL-Lite") (didl_said base rows) refl) ∙ rows-back 0 base rows each

pub rows-are-read-back : RowsAreReadBack
rows-are-read-back base rows allowed each short =
    let ranges = ranges-of rows each in
    let same = didl-is base rows ranges in
    let deep = didl-deep base rows in
    let can : CanBeDrafted [] (didl_draft base rows) = record {
      can_be = didl-can base rows allowed each;
      within = omega (arith, deep);
      short = subst (λ (b : List ℕ). length b ≤ INPUT_LIMIT) same short;
    } in (
      didl_said base rows,
      subst (λ (b : List ℕ). Doc b (didl_said base rows)) (sym same) (drafts-are-read.0 (didl_draft base rows) (didl_said base rows) can (didl-says base rows)),
      didl-back base rows ranges,
    )

-- the same of what a call is given
writable : (rows : List ObjectRow) → AllByRecursion HasRanges rows → AllByRecursion (λ row. HasAllowedTexts row.content) rows → AllByRecursion IsWritable rows
writable [] ranges texts = tt
writable (row ∷ rows) ranges texts = (record { ranges = ranges.0; texts = texts.0 }, writable rows ranges.1 texts.1)

pub is-read-back : (filter : Option (List (List ℕ))) (base : List ℕ) (rows : List ObjectRow) → AllByRecursion HasRanges rows → IsReadBack filter base rows
is-read-back filter base rows ranges can = by filter can.whole can.short where
  by : (filter : Option (List (List ℕ))) → filter ≡ None → length (didl_text filter base rows) ≤ INPUT_LIMIT → Answers (didl_text filter base rows) (Ok rows)
  by None e short = rows-are-read-back base rows can.base_allowed (writable rows ranges can.texts) short
  by (Some names) e short = absurd (cc)
