-- What each line of a script means (this project's profile).
use Rattle.std.specs.Prelude.{◌+◌, ◌^◌, ◌<◌, ◌≤◌, ℕ, cond, nat_eq, nat_lt, List, [], ◌∷◌, ◌&&◌, Option, Some, None, codes}
use Rattle.std.specs.Str.{is_utf8}
use Rattle.std.specs.Option.{option_and_then}
use Rattle.std.specs.Result.{result_ok}
use Rattle.cds_base.specs.Number.{plain_below}
use Rattle.cds_object.specs.declared.info.FlacInfo.{FlacInfo}
use Rattle.cds_object.specs.Path.{path_read}
use Rattle.cds_object.specs.Content.{same_text}
use Rattle.cds_object.specs.ContentOf.{bare_info}
use Rattle.cds_script.specs.Lines.{words_of}
use Rattle.cds_script.specs.Word.{words_said}
use Rattle.cds_commands.specs.Commands.{Command, Grants}
use Rattle.cds_script.specs.declared.turn.ScriptTurn.{ScriptTurn}
use Rattle.cds_script.specs.declared.turn.ScriptTurn.TheVariants.{Folder, Track, Tag, Scan, Load, Read, Ask, First, Wrap, At, Subscribe, Accept, Renew, Unsubscribe, Deliver, ReadFault}
use Rattle.cds_script.specs.declared.turn.Meaning.{Meaning}
use Rattle.cds_script.specs.declared.turn.Meaning.TheVariants.{Nothing, Means, Outside}

-- a number in plain decimal from one number up to another
abbrev pub number_from_to : ℕ → ℕ → List ℕ → Option ℕ
number_from_to low high word = option_and_then (λ n. cond (nat_lt n low) None (Some n)) (plain_below (high + 1) word)

-- the place that a word names: it is text in UTF-8, and the text of a path
abbrev pub path_said : List ℕ → Option (List (List ℕ))
path_said word = cond (is_utf8 word) (result_ok (path_read word)) None

-- the turn of a folder at a place, if the word is one
abbrev pub folder_turn : Option (List (List ℕ)) → Option ScriptTurn
folder_turn None = None
folder_turn (Some path) = Some (Folder path)

-- what a file without comments says, if its words are its rate, channels, bits and samples
abbrev pub info_from : Option ℕ → Option ℕ → Option ℕ → Option ℕ → Option FlacInfo
info_from (Some rate) (Some channels) (Some bits) (Some samples) = Some (bare_info rate channels bits samples)
info_from rate channels bits samples = None

-- the turn of a track, if its words are a place, the file's size in bytes and what the file says
abbrev pub track_turn : Option (List (List ℕ)) → Option ℕ → Option FlacInfo → Option ScriptTurn
track_turn (Some path) (Some size) (Some info) = Some (Track path info size)
track_turn path size info = None

-- the turn of a comment, if its name and its value are texts in UTF-8
abbrev pub tag_turn : List ℕ → List ℕ → Option ScriptTurn
tag_turn name value = cond (is_utf8 name && is_utf8 value) (Some (Tag (record { name = name; value = value }))) None

-- the turn of a line of one word
abbrev pub plain_turn : List ℕ → Option ScriptTurn
plain_turn word =
    cond (same_text word (codes "scan")) (Some Scan)
    (cond (same_text word (codes "load")) (Some Load)
    (cond (same_text word (codes "read")) (Some Read)
    (cond (same_text word (codes "ask")) (Some Ask)
    (cond (same_text word (codes "subscribe")) (Some Subscribe)
    (cond (same_text word (codes "accept")) (Some Accept)
    (cond (same_text word (codes "renew")) (Some Renew)
    (cond (same_text word (codes "unsubscribe")) (Some Unsubscribe)
    (cond (same_text word (codes "readfault")) (Some ReadFault) None))))))))

-- each subscription of a script is granted and renewed for this many seconds, and has this callback
abbrev pub granted_seconds : ℕ
granted_seconds = 1800

abbrev pub script_callback : List ℕ
script_callback = codes "http://127.0.0.1:49153/notify"

abbrev pub grant_at : ℕ → Command
grant_at now = Grants now script_callback granted_seconds

-- the same time in milliseconds
abbrev pub granted_time : ℕ
granted_time = 1800000

-- a moment is below this one, in milliseconds: it has 64 bits
abbrev pub moment_limit : ℕ
moment_limit = 2 ^ 64

-- the turns of lines that name a number, if they do
abbrev pub first_turn : Option ℕ → Option ScriptTurn
first_turn None = None
first_turn (Some number) = Some (First number)

abbrev pub wrap_turn : Option ℕ → Option ScriptTurn
wrap_turn None = None
wrap_turn (Some number) = Some (Wrap number)

abbrev pub at_turn : Option ℕ → Option ScriptTurn
at_turn None = None
at_turn (Some moment) = Some (At moment)

abbrev pub deliver_turn : Option ℕ → Option ScriptTurn
deliver_turn None = None
deliver_turn (Some note) = Some (Deliver note)

-- the turn of a line of a word and a number
abbrev pub number_turn : List ℕ → List ℕ → Option ScriptTurn
number_turn word number =
    cond (same_text word (codes "first")) (first_turn (plain_below (2 ^ 32) number))
    (cond (same_text word (codes "at")) (at_turn (plain_below moment_limit number))
    (cond (same_text word (codes "deliver")) (deliver_turn (plain_below (2 ^ 32) number))
    (cond (same_text word (codes "wrap")) (wrap_turn (plain_below (2 ^ 32) number)) None)))

-- the turn of a line that begins with `folder`, by its other words
abbrev pub folder_line : List (List ℕ) → Option ScriptTurn
folder_line (path ∷ []) = folder_turn (path_said path)
folder_line words = None

-- the turn of a line that begins with `track`, by its other words
abbrev pub track_line : List (List ℕ) → Option ScriptTurn
track_line (path ∷ size ∷ rate ∷ channels ∷ bits ∷ samples ∷ []) =
    track_turn (path_said path) (plain_below (2 ^ 64) size)
    (info_from (plain_below (2 ^ 20) rate) (number_from_to 1 8 channels) (number_from_to 1 32 bits) (plain_below (2 ^ 36) samples))
track_line words = None

-- the turn of a line that begins with `tag`, by its other words
abbrev pub tag_line : List (List ℕ) → Option ScriptTurn
tag_line (name ∷ value ∷ []) = tag_turn name value
tag_line words = None

-- the turn of a line that is one word alone, or a word and a number
abbrev pub plain_line : List ℕ → List (List ℕ) → Option ScriptTurn
plain_line word [] = plain_turn word
plain_line word (number ∷ []) = number_turn word number
plain_line word (number ∷ next ∷ words) = None

-- the turn of a line, by its words
abbrev pub turn_of : List (List ℕ) → Option ScriptTurn
turn_of [] = None
turn_of (word ∷ words) =
    cond (same_text word (codes "folder")) (folder_line words)
    (cond (same_text word (codes "track")) (track_line words)
    (cond (same_text word (codes "tag")) (tag_line words) (plain_line word words)))

-- what a turn that may be none means
abbrev pub meaning_of_turn : Option ScriptTurn → Meaning
meaning_of_turn None = Outside
meaning_of_turn (Some turn) = Means turn

-- what words mean, if each part of a line is one
abbrev pub meaning_of_said : Option (List (List ℕ)) → Meaning
meaning_of_said None = Outside
meaning_of_said (Some words) = meaning_of_turn (turn_of words)

-- what the parts of a line mean: a turn, if each is a word and together they are a turn's. Otherwise the line is outside the
-- grammar
abbrev pub meaning_of_words : List (List ℕ) → Meaning
meaning_of_words parts = meaning_of_said (words_said parts)

-- what a line means: nothing, if it is empty or begins with `#`; else what its parts mean
abbrev pub meaning_of : List ℕ → Meaning
meaning_of [] = Nothing
meaning_of (b ∷ rest) = cond (nat_eq b 35) Nothing (meaning_of_words (words_of (b ∷ rest)))

-- the numbers of what a file says are in the ranges of their types, and its samples below 2^36
abbrev pub IsInfoInRange : FlacInfo → Type 0
IsInfoInRange info = (info.rate < 2 ^ 32) × (info.channels < 2 ^ 8) × (info.bits < 2 ^ 8) × (info.samples < 2 ^ 36)

-- the numbers of a turn are within their ranges
abbrev pub IsInRange : ScriptTurn → Type 0
IsInRange (Track path info size) = IsInfoInRange info × (size < 2 ^ 64)
IsInRange (First number) = number ≤ 4294967295
IsInRange (Wrap number) = number ≤ 4294967295
IsInRange (At moment) = moment < moment_limit
IsInRange turn = Unit {0}

abbrev pub MeansInRange : Meaning → Type 0
MeansInRange (Means turn) = IsInRange turn
MeansInRange meaning = Unit {0}

-- the numbers of what a line means are within their ranges
abbrev pub lines_mean_in_range : Type 0
lines_mean_in_range = (line : List ℕ) → MeansInRange (meaning_of line)
