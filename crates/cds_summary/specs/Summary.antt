-- The summary of a report: how many lines it has, and how many of them begin with each of some words (this project's profile).
use Rattle.std.specs.Prelude.{ℕ, ◌-◌, ◌^◌, min, Bool, cond, nat_eq, List, [], ◌∷◌, ◌++◌, length, codes}
use Rattle.std.specs.List.{count_by, flat_map}
use Rattle.std.specs.Fmt.{decimal}
use Rattle.cds_object.specs.Content.{same_text}
use Rattle.cds_script.specs.Lines.{lines_of}
use Rattle.cds_script.specs.Report.{Ending}
use Rattle.cds_script.specs.Played.{report_of, script_turns, script_stop}

-- the first word of a line: its bytes up to the first space, or all of them
abbrev pub first_word : List ℕ → List ℕ
first_word [] = []
first_word (b ∷ line) = cond (nat_eq b 32) [] (b ∷ first_word line)

-- whether a word is the first one of a line
abbrev pub begins_with : List ℕ → List ℕ → Bool
begins_with word line = same_text (first_word line) word

-- a count has 64 bits, and stops at its last value
abbrev pub held : ℕ → ℕ
held n = min n (2 ^ 64 - 1)

-- how many lines begin with a word
abbrev pub count_of : List ℕ → List (List ℕ) → ℕ
count_of word lines = held (count_by (begins_with word) lines)

-- the line that tells a count
abbrev pub count_line : List ℕ → ℕ → List ℕ
count_line word n = word ++ codes " " ++ decimal n ++ codes "\n"

-- the words that are counted, in the order of the summary
abbrev pub counted_words : List (List ℕ)
counted_words =
    codes "accept" ∷ codes "behind" ∷ codes "deliver" ∷ codes "gap" ∷ codes "note" ∷ codes "read" ∷ codes "readfault" ∷ codes "renew"
    ∷ codes "scan" ∷ codes "stands" ∷ codes "unsubscribe" ∷ []

-- the summary of lines. All of them count as lines, also the rows after a line `stands`
abbrev pub summary_of : List (List ℕ) → List ℕ
summary_of lines = count_line (codes "lines") (held (length lines)) ++ flat_map (λ word. count_line word (count_of word lines)) counted_words

-- the summary of a report
abbrev pub summary_text : List ℕ → List ℕ
summary_text report = summary_of (lines_of report)

-- what `summary` writes of a script: the summary of its report if it ends well, and otherwise its last line alone
abbrev pub summary_ending : List ℕ → Ending
summary_ending script =
    cond (nat_eq (script_stop script).status 0) (record { status = 0; text = summary_text (report_of (script_turns script)) }) (script_stop script)
