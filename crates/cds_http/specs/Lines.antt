-- The end of a head, of a trailer and of a chunk line.
use Rattle.std.specs.Prelude.{◌≡◌, ℕ, ◌+◌, ◌<◌, ◌≤◌, ◌==◌, ◌⊎◌, List, [], ◌∷◌, ◌++◌, length, take, Bool, true, false, Option, Some, None, Result, Ok, Err, if◌then◌else◌}
use Rattle.cds_http.specs.declared.error.HttpError.{HttpError}
use Rattle.cds_http.specs.declared.error.HttpError.TheVariants.{Mem}
use Rattle.cds_http.specs.declared.lines.LinePlace.{LinePlace}
use Rattle.cds_http.specs.declared.lines.LinePlace.TheVariants.{Before, Inside, Fresh, Return, InLine}
use Rattle.cds_http.specs.declared.lines.Scan.{Scan}
use Rattle.cds_http.specs.declared.lines.Scan.TheVariants.{Ended, Open}
use Rattle.cds_http.specs.declared.lines.Front.{Front}
use Rattle.cds_http.specs.declared.lines.Collected.{Collected}
use Rattle.cds_http.specs.declared.lines.Collected.TheVariants.{Whole as WholeText, Going}
use Rattle.cds_http.specs.Known.{Known, Refused, cut}

-- The place after the next byte of a head: after empty lines only, inside a line, at the start of a line after one that
-- is not empty, or after a CR there. None if the byte ends the first empty line after a line that is not empty. A
-- trailer begins at the start of a line. A chunk line ends with its LF.
abbrev pub next_place : LinePlace → ℕ → Option LinePlace
next_place Before b = if b == 10 then Some Before else if b == 13 then Some Before else Some Inside
next_place Inside b = if b == 10 then Some Fresh else Some Inside
next_place Fresh b = if b == 10 then None else if b == 13 then Some Return else Some Inside
next_place Return b = if b == 10 then None else Some Inside
next_place InLine b = if b == 10 then None else Some InLine

-- An end n bytes further on.
abbrev pub further : ℕ → Scan → Scan
further n (Ended at) = Ended (n + at)
further n (Open place) = Open place

abbrev pub scan_step : Option LinePlace → (LinePlace → Scan) → Scan
scan_step None rest = Ended 1
scan_step (Some next) rest = further 1 (rest next)

-- The end of a head, a trailer or a chunk line in the bytes after a place in it, or the place that they lead to.
abbrev pub scanned : LinePlace → List ℕ → Scan
scanned place [] = Open place
scanned place (b ∷ bytes) = scan_step (next_place place b) (λ next. scanned next bytes)

-- The number of bytes up to the end, if it has come.
abbrev pub end_of_scan : Scan → Option ℕ
end_of_scan (Ended at) = Some at
end_of_scan (Open place) = None

-- The prefix of the bytes up to the end of what begins at this place.
abbrev pub cut_at : LinePlace → HttpError → ℕ → List ℕ → Known (List ℕ)
cut_at start e limit bytes = cut e limit (end_of_scan (scanned start bytes)) bytes

-- The text ends with its last byte.
abbrev pub EndsThere : LinePlace → List ℕ → Type 0
EndsThere start text = scanned start text ≡ Ended (length text)

-- The bytes that came of something that begins at this place, without its end.
abbrev pub IsFront : LinePlace → ℕ → Front → Type 0
IsFront start limit f = (scanned start f.text ≡ Open f.place) × (length f.text < limit)

-- A piece comes after these bytes.
abbrev pub Collects : LinePlace → ℕ → HttpError → List ℕ → List ℕ → Result Collected HttpError → Type 0
Collects start limit refusal came piece (Ok (WholeText text used)) =
    (text ≡ came ++ take used piece) × EndsThere start text × (length text ≤ limit)
Collects start limit refusal came piece (Ok (Going f)) = (f.text ≡ came ++ piece) × IsFront start limit f
Collects start limit refusal came piece (Err e) =
    (e ≡ Mem) ⊎ ((e ≡ refusal) × ((more : List ℕ) → cut_at start refusal limit ((came ++ piece) ++ more) ≡ Refused refusal))

-- If the text is whole, it is not too long, and at least one byte of the piece was used.
abbrev pub UsesFront : ℕ → List ℕ → Result Collected HttpError → Type 0
UsesFront limit piece (Ok (WholeText text used)) = (0 < used) × (used ≤ length piece) × (length text ≤ limit)
UsesFront limit piece (Ok (Going f)) = Unit {0}
UsesFront limit piece (Err e) = Unit {0}

-- An end comes after at least one of the bytes.
abbrev pub IsWithin : List ℕ → Scan → Type 0
IsWithin bytes (Ended at) = (0 < at) × (at ≤ length bytes)
IsWithin bytes (Open place) = Unit {0}

-- A text with its last bytes, and a text that goes on.
abbrev pub EndsCollected : List ℕ → ℕ → HttpError → List ℕ → ℕ → Result Collected HttpError → Type 0
EndsCollected came limit refusal piece used (Ok (WholeText text at)) =
    (text ≡ came ++ take used piece) × (at ≡ used) × (length came + used ≤ limit)
EndsCollected came limit refusal piece used (Ok (Going f)) = ⊥
EndsCollected came limit refusal piece used (Err e) = (e ≡ Mem) ⊎ ((e ≡ refusal) × (limit < length came + used))

abbrev pub KeepsCollected : List ℕ → LinePlace → ℕ → HttpError → List ℕ → Result Collected HttpError → Type 0
KeepsCollected came place limit refusal piece (Ok (WholeText text at)) = ⊥
KeepsCollected came place limit refusal piece (Ok (Going f)) =
    (f.text ≡ came ++ piece) × (f.place ≡ place) × (length came + length piece < limit)
KeepsCollected came place limit refusal piece (Err e) = (e ≡ Mem) ⊎ ((e ≡ refusal) × (limit ≤ length came + length piece))

-- A piece without an end is added in place, or all stays as it was.
abbrev pub AddsFront : Front → ℕ → List ℕ → Result Bool HttpError → Front → Type 0
AddsFront before limit piece (Ok true) after =
    (scanned before.place piece ≡ Open after.place) × (after.text ≡ before.text ++ piece) × (length before.text + length piece < limit)
AddsFront before limit piece (Ok false) after = after ≡ before
AddsFront before limit piece (Err e) after = e ≡ Mem
