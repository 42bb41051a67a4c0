-- Plain contents stay plain on their way to the rows, and the rows of a catalog can be written and read back.
use Rattle.std.proofs.Common.{Less, Equal, Greater, ◌≡◌, ℕ, ◌*◌, ◌/◌, ◌^◌, ◌<◌, ◌≤◌, nat_eq, nat_lt, Bool, true, false, cond, ◌&&◌, ◌||◌, Option, Some, None, List, [], ◌∷◌, map, codes, take_while, refl, arith}
use Rattle.std.specs.Prelude.{IfSome, not}
use Rattle.std.specs.List.{AllByRecursion, list_all}
use Rattle.std.specs.Char.{is_ascii_digit}
use Rattle.std.specs.Option.{option_and_then, option_map}
use Rattle.std.specs.Ordering.{match_ordering}
use Rattle.std.specs.BTreeMap.{insert_entry}
use Rattle.std.proofs.lemmas.Bool.Decides.{nat_tests}
use Rattle.cds_base.specs.Characters.{is_allowed}
use Rattle.cds_base.specs.Number.{value_in, is_number_in, number_below}
use Rattle.cds_object.specs.declared.content.Content.{Content}
use Rattle.cds_object.specs.declared.record.Record.{Record}
use Rattle.cds_object.specs.Path.{path_cmp}
use Rattle.cds_object.specs.Clean.{cleaned, is_clean_character, ends_line}
use Rattle.cds_object.specs.ContentOf.{comment_text, leading_number, first_comment, track_title, milliseconds}
use Rattle.cds_object.proofs.Cleans.{cleaning}
use Rattle.cds_catalog.specs.Library.{FolderMap, map_from, map_of}
use Rattle.cds_catalog.specs.History.{History, latest, changes_of}
use Rattle.cds_catalog.specs.Catalog.{PlacedRow, row_at, put_row, in_order, root_entry, placed_rows, catalog}
use Rattle.cds_didl.specs.Plain.{IsPlainText, IsPlain, ContentsArePlain, history_of, ArePlainRecords, RowsArePlain}
use Rattle.cds_base.proofs.Plain.{and-both, and-first, and-second, allowed-plain}

-- a text that was cleaned
allowed-all : (cs : List ℕ) → list_all is_clean_character cs ≡ true → list_all is_allowed cs ≡ true
allowed-all [] e = refl
allowed-all (c ∷ cs) e =
    and-both (is_allowed c) (list_all is_allowed cs) (and-first (is_allowed c) (not (ends_line c)) (and-first (is_clean_character c) (list_all is_clean_character cs) e))
    (allowed-all cs (and-second (is_clean_character c) (list_all is_clean_character cs) e))

clean-plain : (text : List ℕ) → IsPlainText (cleaned text)
clean-plain text =
    let c = cleaning.0 text in
    record { allowed = (c.characters, allowed-all c.characters c.each, c.are); short = c.short }

each-clean : (o : Option (List ℕ)) → IfSome (option_map cleaned o) IsPlainText
each-clean None = tt
each-clean (Some text) = clean-plain text

-- the numbers of a track
number-within : (limit : ℕ) (text : List ℕ) → IfSome (number_below limit text) (λ n. n < limit)
number-within limit text = by (is_number_in 10 text) (nat_lt (value_in 10 text) limit) refl where
  by : (a b : Bool) → nat_lt (value_in 10 text) limit ≡ b → IfSome (cond (a && b) (Some (value_in 10 text)) None) (λ n. n < limit)
  by true true e = grind (arith, nat_tests)
  by true false e = tt
  by false b e = tt

leading-within : (o : Option (List ℕ)) → IfSome (option_and_then leading_number o) (λ n. n < 2 ^ 32)
leading-within None = tt
leading-within (Some text) = number-within (2 ^ 32) (take_while is_ascii_digit text)

no-more : (a b : ℕ) → a / b ≤ a
no-more a b = omega arith

milliseconds-within : (samples rate : ℕ) → samples < 2 ^ 36 → IfSome (milliseconds samples rate) (λ n. n < 2 ^ 64)
milliseconds-within samples rate h = by (nat_eq samples 0 || nat_eq rate 0) where
  by : (t : Bool) → IfSome (cond t None (Some (samples * 1000 / rate))) (λ n. n < 2 ^ 64)
  by true = tt
  by false = let less = no-more (samples * 1000) rate in omega (arith, h, less)

pub contents-are-plain : ContentsArePlain
contents-are-plain = record {
  folder = λ name. record { texts = clean-plain name; numbers = tt };
  track = λ info name size s h. record {
    texts = record {
      title = clean-plain (track_title info.comments name);
      artist = each-clean (comment_text (codes "artist") info.comments);
      album = each-clean (comment_text (codes "album") info.comments);
      genre = each-clean (comment_text (codes "genre") info.comments);
    };
    numbers = record {
      number = leading-within (first_comment (codes "tracknumber") info.comments);
      size = h;
      duration = milliseconds-within info.samples info.rate s.samples;
      rate = s.rate;
      channels = s.channels;
      bits = s.bits;
    };
  };
}

-- what holds of the content of each record holds of what stands at each place
abbrev Entries : (Content → Type 0) → FolderMap → Type 0
Entries P = AllByRecursion (λ entry. P entry.1)

inserted : (P : Content → Type 0) (k : List (List ℕ)) (v : Content) (es : FolderMap) → P v → Entries P es → Entries P (insert_entry path_cmp es k v)
inserted P k v [] new all = (new, tt)
inserted P k v (e ∷ es) new all =
    elim (path_cmp k e.0) as (λ r. Entries P (match_ordering r ((k, v) ∷ e ∷ es) ((e.0, v) ∷ es) (e ∷ insert_entry path_cmp es k v))) [
      | Less ↦ (new, all)
      | Equal ↦ (new, all.1)
      | Greater ↦ (all.0, inserted P k v es new all.1)
    ]

mapped : (P : Content → Type 0) (library : FolderMap) (records : List Record) → Entries P library → AllByRecursion (λ r. P r.content) records → Entries P (map_from library records)
mapped P library [] all each = all
mapped P library (r ∷ records) all each =
    mapped P (insert_entry path_cmp library r.path r.content) records (inserted P r.path r.content library each.0 all) each.1

-- and of each row
abbrev Rows : (Content → Type 0) → List PlacedRow → Type 0
Rows P = AllByRecursion (λ placed. P placed.1.content)

put-each : (P : Content → Type 0) (placed : PlacedRow) (others : List PlacedRow) → P placed.1.content → Rows P others → Rows P (put_row placed others)
put-each P placed [] one all = (one, tt)
put-each P placed (next ∷ others) one all = by (nat_lt placed.1.id next.1.id) (put-each P placed others one all.1) where
  by : (t : Bool) → Rows P (put_row placed others) → Rows P (cond t (placed ∷ next ∷ others) (next ∷ put_row placed others))
  by true more = (one, all)
  by false more = (all.0, more)

ordered : (P : Content → Type 0) (rows : List PlacedRow) → Rows P rows → Rows P (in_order rows)
ordered P [] all = tt
ordered P (placed ∷ others) all = put-each P placed (in_order others) all.0 (ordered P others all.1)

module _ (P : Content → Type 0) (history : History) where
  abbrev placed_at : (List (List ℕ) × Content) → PlacedRow
  placed_at entry = (entry.0, row_at history.first (changes_of history.maps) (latest history.maps) entry)

  of-entries : (entries : FolderMap) → Entries P entries → Rows P (map placed_at entries)
  of-entries [] all = tt
  of-entries (entry ∷ entries) all = (all.0, of-entries entries all.1)

  without-places : (rows : List PlacedRow) → Rows P rows → AllByRecursion (λ row. P row.content) (map (λ placed. placed.1) rows)
  without-places [] all = tt
  without-places (placed ∷ rows) all = (all.0, without-places rows all.1)

  shown : P root_entry.1 → Entries P (latest history.maps) → AllByRecursion (λ row. P row.content) (catalog history)
  shown root all =
      without-places (placed_rows history) (ordered P (map placed_at (root_entry ∷ latest history.maps)) (of-entries (root_entry ∷ latest history.maps) (root, all)))

latest-plain : (scans : List (List Record)) → AllByRecursion ArePlainRecords scans → Entries IsPlain (latest (map map_of scans))
latest-plain [] each = tt
latest-plain (records ∷ older) each = mapped IsPlain [] records tt each.0

root-plain : IsPlain root_entry.1
root-plain = record { texts = record { allowed = allowed-plain (codes "root") refl; short = omega arith }; numbers = tt }

pub rows-are-plain : RowsArePlain
rows-are-plain first scans each = shown IsPlain (history_of first scans) root-plain (latest-plain scans each)
