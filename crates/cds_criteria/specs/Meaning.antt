-- What criteria say of an object (UPnP ContentDirectory:4 on SearchCriteria). Which comparisons are of numbers, and that letters are
-- folded, is this project's profile.
use Rattle.std.specs.Prelude.{◌^◌, ◌||◌, ◌&&◌, ℕ, Bool, true, false, cond, not, nat_eq, List, [], ◌∷◌, ◌++◌, map, codes, Option, Some, None}
use Rattle.std.specs.Option.{option_map}
use Rattle.std.specs.Fmt.{decimal}
use Rattle.std.specs.Char.{to_ascii_lowercase}
use Rattle.std.specs.declared.cmp.Ordering.{Ordering}
use Rattle.std.specs.Ordering.{nat_cmp, is_eq, is_ne, is_lt, is_le, is_gt, is_ge}
use Rattle.std.specs.Cmp.Lexicographic.{slice_cmp}
use Rattle.cds_base.specs.Number.{number_below}
use Rattle.cds_object.specs.Object.{ObjectRow}
use Rattle.cds_object.specs.Fragment.{parent_text, duration_text}
use Rattle.cds_object.specs.declared.content.Content.{Content}
use Rattle.cds_object.specs.declared.content.Content.TheVariants.{Folder, Track}
use Rattle.cds_object.specs.declared.row.Trackers.{Trackers}
use Rattle.cds_criteria.specs.Criteria.{Property, Operator, AnyOf, AllOf, Factor, Criteria}
use Rattle.cds_criteria.specs.Criteria.{Id, ParentId, Title, Class, Artist, Album, Genre, TrackNumber, ObjectUpdate, ContainerUpdate, Size, Duration}
use Rattle.cds_criteria.specs.Criteria.{Equals, Differs, Below, AtMost, Above, AtLeast, Contains, DoesNotContain, DerivedFrom}
use Rattle.cds_criteria.specs.Criteria.{First, Or, Single, And, Compare, Exists, Group, Everything, Where}

-- ---- a property of a row

-- what a property is of an object: it lacks the property, or the property is a number or a text
pub data Shown : Type 0 where
  Lacking : Shown
  Number : ℕ → Shown
  Text : List ℕ → Shown

abbrev pub number_shown : Option ℕ → Shown
number_shown None = Lacking
number_shown (Some n) = Number n

abbrev pub text_shown : Option (List ℕ) → Shown
text_shown None = Lacking
text_shown (Some text) = Text text

abbrev pub title_of : Content → List ℕ
title_of (Folder title) = title
title_of (Track track) = track.title

abbrev pub class_text : Content → List ℕ
class_text (Folder title) = codes "object.container"
class_text (Track track) = codes "object.item.audioItem.musicTrack"

-- what only a track has
abbrev pub artist_of : Content → Option (List ℕ)
artist_of (Folder title) = None
artist_of (Track track) = track.artist

abbrev pub album_of : Content → Option (List ℕ)
album_of (Folder title) = None
album_of (Track track) = track.album

abbrev pub genre_of : Content → Option (List ℕ)
genre_of (Folder title) = None
genre_of (Track track) = track.genre

abbrev pub track_number_of : Content → Option ℕ
track_number_of (Folder title) = None
track_number_of (Track track) = track.number

abbrev pub size_of : Content → Option ℕ
size_of (Folder title) = None
size_of (Track track) = Some track.size

abbrev pub duration_of : Content → Option ℕ
duration_of (Folder title) = None
duration_of (Track track) = track.duration

-- what only a folder has
abbrev pub container_update_of : Option Trackers → Option ℕ
container_update_of None = None
container_update_of (Some trackers) = Some trackers.container_update

-- a property of a row
abbrev pub shown_by : Property → ObjectRow → Shown
shown_by Id row = Text (decimal row.id)
shown_by ParentId row = Text (parent_text row.parent)
shown_by Title row = Text (title_of row.content)
shown_by Class row = Text (class_text row.content)
shown_by Artist row = text_shown (artist_of row.content)
shown_by Album row = text_shown (album_of row.content)
shown_by Genre row = text_shown (genre_of row.content)
shown_by TrackNumber row = number_shown (track_number_of row.content)
shown_by ObjectUpdate row = Number row.object_update
shown_by ContainerUpdate row = number_shown (container_update_of row.trackers)
shown_by Size row = number_shown (size_of row.content)
shown_by Duration row = text_shown (option_map duration_text (duration_of row.content))

-- ---- comparisons

abbrev pub folded : List ℕ → List ℕ
folded text = map to_ascii_lowercase text

-- by bytes, with the letters of ASCII folded
abbrev pub text_order : List ℕ → List ℕ → Ordering
text_order a b = slice_cmp nat_cmp (folded a) (folded b)

-- whether a text begins with another
abbrev pub begins_with : List ℕ → List ℕ → Bool
begins_with [] text = true
begins_with (a ∷ part) [] = false
begins_with (a ∷ part) (b ∷ text) = nat_eq a b && begins_with part text

-- whether a text has another as a part
abbrev pub has_part : List ℕ → List ℕ → Bool
has_part part [] = begins_with part []
has_part part (b ∷ text) = begins_with part (b ∷ text) || has_part part text

abbrev pub has_folded : List ℕ → List ℕ → Bool
has_folded value text = has_part (folded value) (folded text)

-- whether a text is the class that a value names, or one derived from it
abbrev pub is_derived : List ℕ → List ℕ → Bool
is_derived value text = is_eq (text_order text value) || begins_with (folded value ++ codes ".") (folded text)

-- What an operator says of an order, and of a value and a text. The six signs go by the order, the others by the text.
abbrev pub compared : Operator → Ordering → List ℕ → List ℕ → Bool
compared Equals order value text = is_eq order
compared Differs order value text = is_ne order
compared Below order value text = is_lt order
compared AtMost order value text = is_le order
compared Above order value text = is_gt order
compared AtLeast order value text = is_ge order
compared Contains order value text = has_folded value text
compared DoesNotContain order value text = not (has_folded value text)
compared DerivedFrom order value text = is_derived value text

-- whether an operator goes by the order of numbers, if the property is one
abbrev pub is_by_order : Operator → Bool
is_by_order Contains = false
is_by_order DoesNotContain = false
is_by_order DerivedFrom = false
is_by_order operator = true

-- the order of a number and a value, none if the value is no number of at most 64 bits
abbrev pub number_order : ℕ → List ℕ → Option Ordering
number_order number value = option_map (λ other. nat_cmp number other) (number_below (2 ^ 64) value)

abbrev pub number_compared : Operator → Option Ordering → List ℕ → List ℕ → Bool
number_compared operator None value text = cond (is_by_order operator) false (compared operator (nat_cmp 0 0) value text)
number_compared operator (Some order) value text = compared operator order value text

abbrev pub shown_compared : Operator → List ℕ → Shown → Bool
shown_compared operator value Lacking = false
shown_compared operator value (Number number) = number_compared operator (number_order number value) value (decimal number)
shown_compared operator value (Text text) = compared operator (text_order text value) value text

abbrev pub is_shown : Shown → Bool
is_shown Lacking = false
is_shown (Number number) = true
is_shown (Text text) = true

abbrev pub same_truth : Bool → Bool → Bool
same_truth true b = b
same_truth false b = not b

-- ---- criteria

abbrev mutual
  pub any_met : AnyOf → ObjectRow → Bool
  any_met (First all) row = all_met all row
  any_met (Or any all) row = any_met any row || all_met all row

  pub all_met : AllOf → ObjectRow → Bool
  all_met (Single factor) row = factor_met factor row
  all_met (And all factor) row = all_met all row && factor_met factor row

  pub factor_met : Factor → ObjectRow → Bool
  factor_met (Compare property operator value) row = shown_compared operator value (shown_by property row)
  factor_met (Exists property there) row = same_truth there (is_shown (shown_by property row))
  factor_met (Group any) row = any_met any row

-- whether an object meets criteria
abbrev pub meets : Criteria → ObjectRow → Bool
meets Everything row = true
meets (Where any) row = any_met any row
