-- A load as its replies show it, with no word of what a replica holds: the replies of the attempt that runs, the next ask, which
-- replies are refused, what is said and what is copied. Laws say that these are what the replica's are, for every list of its
-- turns, honest or not.
--
-- An attempt is the replies that were taken since the load began, or since a number other than the attempt's N was shown. Its
-- first reply is a token, its second N, its third the root's row. Each later odd one is a page, and each even one N.
use Rattle.std.specs.Prelude.{◌≡◌, ◌-◌, ℕ, min, Bool, true, false, cond, not, nat_eq, nat_lt, ◌&&◌, List, [], ◌∷◌, ◌++◌, map, length, Option, Some, None, unwrap_or}
use Rattle.std.specs.List.{AllByRecursion, filter_map, cons_option, count_by, list_any, list_all}
use Rattle.std.specs.Option.{option_map, option_and_then}
use Rattle.cds_object.specs.Object.{ObjectRow, IsRow, is_folder}
use Rattle.cds_object.specs.Tree.{is_child_of}
use Rattle.cds_load.specs.declared.exchange.Ask.{Ask}
use Rattle.cds_load.specs.declared.exchange.Ask.TheVariants.{Token, Number as AskNumber, Metadata, Children}
use Rattle.cds_load.specs.declared.exchange.Shown.{Shown}
use Rattle.cds_load.specs.declared.exchange.Shown.TheVariants.{Text, Number, Page, Fault}
use Rattle.cds_load.specs.Server.{page_size}
use Rattle.cds_load.specs.Outcome.{Outcome, Goes, CannotBeRead, Tears, outcome_map, after_outcome}
use Rattle.cds_load.specs.Stages.{Waiting, waiting_of, put_rows, all_new, Held, ReplicaTurn, Begins, Shows, held_by, taken, next_ask, Said, BehindLoad, Stands, says, copied}
use Rattle.cds_load.specs.Loads.{load_reads}
use Rattle.cds_load.specs.Seen.{rows_shown}

-- the rows that replies show, in the order in which they were shown; in all lists of replies here the newest is the first
abbrev pub rows_in : List Shown → List ObjectRow
rows_in [] = []
rows_in (Text token ∷ older) = rows_in older
rows_in (Number n ∷ older) = rows_in older
rows_in (Page rows total update ∷ older) = rows_in older ++ rows
rows_in (Fault code ∷ older) = rows_in older

-- N: the number that was shown first
abbrev pub number_in : List Shown → Option ℕ
number_in [] = None
number_in (Text token ∷ older) = number_in older
number_in (Number n ∷ older) = Some (unwrap_or (number_in older) n)
number_in (Page rows total update ∷ older) = number_in older
number_in (Fault code ∷ older) = number_in older

-- whether an odd number of replies was taken
abbrev pub is_odd : List Shown → Bool
is_odd [] = false
is_odd (shown ∷ older) = not (is_odd older)

-- how many children of a container are among rows
abbrev pub children_among : List ObjectRow → Waiting → ℕ
children_among rows w = count_by (is_child_of w.id) rows

-- a container of which no page was asked; a track is none
abbrev pub unasked : List Waiting → ObjectRow → Option Waiting
unasked asked row = cond (list_any (λ (w : Waiting). nat_eq row.id w.id) asked) None (waiting_of row)

-- the container of the least id among those, if there is one
abbrev pub first_of : List Waiting → Option Waiting
first_of [] = None
first_of (w ∷ ws) = Some w

abbrev pub least_unasked : List ObjectRow → List Waiting → Option Waiting
least_unasked rows asked = first_of (filter_map (unasked asked) (put_rows rows []))

-- the container of the next page, by the rows that were shown and by the containers of the pages so far, the newest first. It is
-- the last one until all its children were shown, and then the least of which no page was asked
abbrev pub container_after : List ObjectRow → List Waiting → Option Waiting
container_after rows [] = least_unasked rows []
container_after rows (w ∷ asked) =
    cond (nat_lt (children_among rows w) w.children) (Some w) (least_unasked rows (w ∷ asked))

-- the containers of the pages of an attempt; the root's row comes while no container is known, and is of none
abbrev pub asked_in : List Shown → List Waiting
asked_in [] = []
asked_in (Text token ∷ older) = asked_in older
asked_in (Number n ∷ older) = asked_in older
asked_in (Page rows total update ∷ older) = cons_option (container_after (rows_in older) (asked_in older)) (asked_in older)
asked_in (Fault code ∷ older) = asked_in older

-- the container of the next page of an attempt
abbrev pub next_container : List Shown → Option Waiting
next_container attempt = container_after (rows_in attempt) (asked_in attempt)

-- the next ask of an attempt: the token, the number, the root's row, the number, and then a page and the number by turns. A page
-- begins at the number of the container's children that were shown so far
abbrev pub ask_in : List Shown → Option Ask
ask_in attempt =
    cond (is_odd attempt) (Some AskNumber)
    (cond (nat_eq (length attempt) 0) (Some Token)
    (cond (nat_eq (length attempt) 2) (Some (Metadata 0))
    (option_map (λ (w : Waiting). Children w.id (children_among (rows_in attempt) w)) (next_container attempt))))

-- whether an attempt is complete: it has as many replies as a load of the rows that it showed takes
abbrev pub is_complete : List Shown → Bool
is_complete attempt = nat_eq (length attempt) (load_reads (rows_in attempt))

-- what becomes of a reply by the attempt, with no word of what is held then: it is taken, or refused in one of these ways
abbrev pub Verdict : Type 0
Verdict = Outcome (Unit {0})

abbrev pub fine : Verdict
fine = Goes tt

abbrev pub verdict_of : Outcome Held → Verdict
verdict_of = outcome_map (λ held. tt)

-- the root's metadata is one row, the root's, and that of a container
abbrev pub root_verdict : List ObjectRow → Verdict
root_verdict [] = CannotBeRead
root_verdict (row ∷ []) = cond (nat_eq row.id 0 && is_folder row.content) fine (Tears 0)
root_verdict (row ∷ next ∷ rows) = CannotBeRead

-- whether the rows of a page can be, after these rows. All are children of the container, and none has an id that was shown
-- before. There are as many as a page has, or as many as the container still lacks if these are fewer
abbrev pub can_be : List ObjectRow → Waiting → List ObjectRow → Bool
can_be rows w page =
    list_all (is_child_of w.id) page && all_new (map (λ (row : ObjectRow). row.id) rows) page
    && nat_eq (length page) (min page_size (w.children - children_among rows w))

-- a page is judged as soon as the number after it shows that nothing changed; a refusal that came instead of a page cannot be
abbrev pub page_verdict : Option Waiting → List ObjectRow → Shown → Verdict
page_verdict None rows shown = fine
page_verdict (Some w) rows (Text token) = fine
page_verdict (Some w) rows (Number n) = fine
page_verdict (Some w) rows (Page page total update) = cond (can_be rows w page) fine (Tears w.id)
page_verdict (Some w) rows (Fault code) = Tears w.id

abbrev pub last_page_verdict : List Shown → Verdict
last_page_verdict [] = fine
last_page_verdict (shown ∷ older) = page_verdict (next_container older) (rows_in older) shown

-- whether a number is other than N
abbrev pub differs : Option ℕ → ℕ → Bool
differs None n = false
differs (Some number) n = not (nat_eq n number)

-- a number other than N is always taken
abbrev pub number_verdict : List Shown → ℕ → Verdict
number_verdict attempt n = cond (differs (number_in attempt) n) fine (last_page_verdict attempt)

-- what becomes of a reply to an ask of an attempt: a reply of another kind than the ask's cannot be read
abbrev pub reply_verdict : Option Ask → List Shown → Shown → Verdict
reply_verdict (Some Token) attempt (Text token) = fine
reply_verdict (Some AskNumber) attempt (Number n) = number_verdict attempt n
reply_verdict (Some (Metadata id)) attempt (Page rows total update) = root_verdict rows
reply_verdict (Some (Children id start)) attempt (Page rows total update) = fine
reply_verdict (Some (Children id start)) attempt (Fault code) = fine
reply_verdict ask attempt shown = CannotBeRead

abbrev pub verdict_in : List Shown → Shown → Verdict
verdict_in attempt shown = reply_verdict (ask_in attempt) attempt shown

-- an attempt and one more reply that is taken: a number other than N ends it
abbrev pub joined : List Shown → Shown → List Shown
joined attempt (Text token) = Text token ∷ attempt
joined attempt (Number n) = cond (differs (number_in attempt) n) [] (Number n ∷ attempt)
joined attempt (Page rows total update) = Page rows total update ∷ attempt
joined attempt (Fault code) = Fault code ∷ attempt

-- a refused reply leaves the attempt as it was
abbrev pub after_verdict : Verdict → List Shown → Shown → List Shown
after_verdict verdict attempt shown = after_outcome attempt (outcome_map (λ done. joined attempt shown) verdict)

-- the attempt that runs or has ended after turns; none if no load was ever begun
abbrev pub attempt_of : List ReplicaTurn → Option (List Shown)
attempt_of [] = None
attempt_of (Begins ∷ older) = Some []
attempt_of (Shows shown ∷ older) = option_map (λ attempt. after_verdict (verdict_in attempt shown) attempt shown) (attempt_of older)

-- the verdict on a reply, also if no load was begun
abbrev pub verdict_by : Option (List Shown) → Shown → Verdict
verdict_by None shown = CannotBeRead
verdict_by (Some attempt) shown = verdict_in attempt shown

-- what is said by an attempt, if there is one
abbrev pub says_by : Option (List Shown) → Said
says_by None = BehindLoad
says_by (Some attempt) = cond (is_complete attempt) (Stands (unwrap_or (number_in attempt) 0)) BehindLoad

-- what is copied by an attempt: if it is complete, the rows that it showed, in ascending order of ids
abbrev pub copied_by : Option (List Shown) → List ObjectRow
copied_by None = []
copied_by (Some attempt) = cond (is_complete attempt) (put_rows (rows_in attempt) []) []

-- each even reply shows this number
abbrev pub EvenAre : ℕ → List Shown → Type 0
EvenAre n [] = Unit {0}
EvenAre n (shown ∷ older) = (is_odd older ≡ true → shown ≡ Number n) × EvenAre n older

-- the rows that were shown are rows: only the root has no parent, and exactly the folders track their children
abbrev pub ShowsRows : List ReplicaTurn → Type 0
ShowsRows [] = Unit {0}
ShowsRows (Begins ∷ older) = ShowsRows older
ShowsRows (Shows shown ∷ older) = AllByRecursion IsRow (rows_shown shown) × ShowsRows older

-- the laws: for every list of turns that show rows
abbrev pub asks_are_of_attempts : Type 0
asks_are_of_attempts = (turns : List ReplicaTurn) → ShowsRows turns → next_ask (held_by turns) ≡ option_and_then ask_in (attempt_of turns)

abbrev pub refusals_are_of_attempts : Type 0
refusals_are_of_attempts = (turns : List ReplicaTurn) (shown : Shown) → ShowsRows (Shows shown ∷ turns) →
    verdict_of (taken (held_by turns) shown) ≡ verdict_by (attempt_of turns) shown

abbrev pub answers_are_of_attempts : Type 0
answers_are_of_attempts = (turns : List ReplicaTurn) → ShowsRows turns → says (held_by turns) ≡ says_by (attempt_of turns)

abbrev pub copies_are_of_attempts : Type 0
copies_are_of_attempts = (turns : List ReplicaTurn) → ShowsRows turns → copied (held_by turns) ≡ copied_by (attempt_of turns)

-- in an attempt that has a number, each even reply shows it
abbrev pub even_replies_are_the_number : Type 0
even_replies_are_the_number = (turns : List ReplicaTurn) (attempt : List Shown) (number : ℕ) → ShowsRows turns →
    attempt_of turns ≡ Some attempt → number_in attempt ≡ Some number → EvenAre number attempt
