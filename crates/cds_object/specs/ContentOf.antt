-- What a track says of itself by its file: the comments that count, the numbers of the sound and the name of the file
-- (this project's profile; the names of comments are Vorbis comment field names).
use Rattle.std.specs.Prelude.{◌-◌, ◌*◌, ◌/◌, ◌^◌, ℕ, Bool, cond, nat_eq, nat_lt, ◌&&◌, ◌||◌, List, [], ◌∷◌, length, take, drop, take_while, Option, Some, None, unwrap_or, codes}
use Rattle.std.specs.Option.{option_and_then, option_map}
use Rattle.std.specs.Char.{is_ascii_digit}
use Rattle.std.specs.Str.{str_to_ascii_lowercase}
use Rattle.cds_base.specs.Number.{number_below}
use Rattle.cds_object.specs.declared.info.FlacInfo.{FlacInfo}
use Rattle.cds_object.specs.declared.info.Comment.{Comment}
use Rattle.cds_object.specs.Clean.{cleaned}
use Rattle.cds_object.specs.Content.{same_text}
use Rattle.cds_object.specs.declared.content.Content.{Content}
use Rattle.cds_object.specs.declared.content.Content.TheVariants.{Folder, Track}

-- the value of the first comment of a name, which is given in lower case; the ASCII case of the name in a comment does
-- not count
abbrev pub first_comment : List ℕ → List Comment → Option (List ℕ)
first_comment name [] = None
first_comment name (comment ∷ comments) =
    cond (same_text name (str_to_ascii_lowercase comment.name)) (Some comment.value) (first_comment name comments)

-- a text that is there and has at least one byte
abbrev pub if_not_empty : Option (List ℕ) → Option (List ℕ)
if_not_empty None = None
if_not_empty (Some text) = cond (nat_eq (length text) 0) None (Some text)

-- the text of the first comment of a name, none if it is empty
abbrev pub comment_text : List ℕ → List Comment → Option (List ℕ)
comment_text name comments = if_not_empty (first_comment name comments)

-- whether a name ends in `.flac` in any ASCII case, with something before it
abbrev pub has_flac_ending : List ℕ → Bool
has_flac_ending name =
    nat_lt 5 (length name) && same_text (str_to_ascii_lowercase (drop (length name - 5) name)) (codes ".flac")

-- the name of a file without its `.flac`, or the whole name if it does not end so or nothing else is left
abbrev pub title_from_name : List ℕ → List ℕ
title_from_name name = cond (has_flac_ending name) (take (length name - 5) name) name

-- the title by the comments, or by the name of the file if they have none
abbrev pub track_title : List Comment → List ℕ → List ℕ
track_title comments name = unwrap_or (comment_text (codes "title") comments) (title_from_name name)

-- the number that the leading digits of a text are, if there are any and the number is below 2^32
abbrev pub leading_number : List ℕ → Option ℕ
leading_number text = number_below (2 ^ 32) (take_while is_ascii_digit text)

-- the number of the first TRACKNUMBER comment
abbrev pub track_number : List Comment → Option ℕ
track_number comments = option_and_then leading_number (first_comment (codes "tracknumber") comments)

-- how many milliseconds this many samples last, rounded down, if both numbers are known
abbrev pub milliseconds : ℕ → ℕ → Option ℕ
milliseconds samples rate = cond (nat_eq samples 0 || nat_eq rate 0) None (Some (samples * 1000 / rate))

-- what a track says of itself, by what its file says, its name and its size in bytes; each of its texts is clean
abbrev pub track_of : FlacInfo → List ℕ → ℕ → Content
track_of info name size = Track (record {
  title = cleaned (track_title info.comments name);
  artist = option_map cleaned (comment_text (codes "artist") info.comments);
  album = option_map cleaned (comment_text (codes "album") info.comments);
  genre = option_map cleaned (comment_text (codes "genre") info.comments);
  number = track_number info.comments;
  size = size;
  duration = milliseconds info.samples info.rate;
  rate = info.rate;
  channels = info.channels;
  bits = info.bits;
})

-- what a folder says of itself: its name, cleaned
abbrev pub folder_of : List ℕ → Content
folder_of name = Folder (cleaned name)

-- what a file without comments says: its rate, channels, bits and samples
abbrev pub bare_info : ℕ → ℕ → ℕ → ℕ → FlacInfo
bare_info rate channels bits samples = record { rate = rate; channels = channels; bits = bits; samples = samples; comments = [] }
