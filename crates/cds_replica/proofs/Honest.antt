-- A replica of an honest server.
use Rattle.std.proofs.Common.{◌≡◌, ◌⊎◌, inl, inr, ◌-◌, ◌<◌, ◌≤◌, ◌&&◌, ◌||◌, ℕ, Bool, true, false, cond, not, nat_lt, nat_le, List, ◌∷◌, Option, Some, None, Result, Ok, Err, Contains, refl, sym, ap, ◌∙◌, subst, arith, ltb-true, ltb-false, true≢false}
use Rattle.std.proofs.lemmas.Bool.{cases_lt, leb-true, leb-false}
use Rattle.std.specs.Option.{option_map}
use Rattle.cds_load.specs.Server.{Moment, reply_to}
use Rattle.cds_load.specs.declared.exchange.Ask.{Ask}
use Rattle.cds_load.specs.declared.exchange.Read.{Read}
use Rattle.cds_load.specs.declared.exchange.Shown.{Shown}
use Rattle.cds_commands.specs.Notes.{Note}
use Rattle.cds_commands.specs.Places.{seq_at, reach, place_limit, place_of}
use Rattle.cds_commands.specs.Wire.{WireNote, on_wire, note_at}
use Rattle.cds_commands.proofs.Far.{past, old-none, new-none}
use Rattle.cds_follow.specs.Wire.{apart as distance, place_near, placed, arrival_by_seq, arrival_of, arrival_on_wire, and_note, heard, is_heard, is_recent, says_by_seq, says_on_wire}
use Rattle.cds_follow.proofs.Wire.{near-placed, unheard, unknown-refused, given-name}
use Rattle.cds_replica.proofs.Waiting.{and-parts}
use Rattle.cds_follow.specs.Inbox.{ReplicaTurn, Shows, Accepts, Delivers, Arrival, IsUnknown, IsNext, arrival, taken_by}
use Rattle.cds_follow.specs.Follow.{Known, copied, known_by, next_ask, says, with_reply, with_notes, and_turn}
use Rattle.cds_commands.specs.Commands.{oldest}
use Rattle.cds_follow.specs.Given.{grants_of, moment_after, Asks, Granted, Gets, given_by, asked_at, length_before_call}
use Rattle.cds_follow.specs.declared.says.Says.{Says}
use Rattle.cds_follow.specs.declared.says.Says.TheVariants.{Gap, BehindLoad, BehindRead, BehindVersion, Stands}
use Rattle.cds_follow.proofs.Honest.{calls-taken, copies-stood}
use Rattle.cds_follow.specs.Named.{KnowsTheSame, named, named_note}
use Rattle.cds_follow.proofs.Complete.{answers-complete}
use Rattle.cds_follow.proofs.NamedIn.{sent-in, granted-in, given-same}
use Rattle.cds_replica.specs.Calls.{IsTaken, IsNotice, IsAcceptance, IsAnswer, UnlessNoMemory, UnlessMem}
use Rattle.cds_replica.specs.Honest.{IsReadThen, IsHeardThen, is_near, and_gets, TakesGiven, HearsGiven, AcceptsGiven, SaysGiven, CompletesGiven}
use Rattle.cds_replica.specs.Steps.{phase_rows, kept_says}
use Rattle.cds_replica.specs.State.{ReplicaState, StandsFor}
use Rattle.cds_replica.specs.declared.error.AnswerError.{AnswerError}
use Rattle.cds_replica.specs.declared.error.AnswerError.TheVariants.{Unreadable, Jump as AnswerJump, Torn as AnswerTorn, Mem as AnswerMem}
use Rattle.cds_replica.specs.declared.note.Taken.{Taken}
use Rattle.cds_replica.specs.declared.notify_error.NotifyError.{NotifyError}
use Rattle.cds_replica.specs.declared.notify_error.NotifyError.TheVariants.{Unknown, Full, Jump, Torn, Mem}
use Rattle.cds_replica.proofs.Keeping.{says-kept, rows-kept}
use Rattle.cds_load.specs.Outcome.{Outcome, Goes, CannotBeRead, Jumps, Tears}

-- ---- what is taken is not refused

taken-read : (outcome : Outcome Known) (result : Result Read AnswerError) (fact : Type 0) → IsTaken outcome → IsAnswer outcome result → UnlessMem result fact → IsReadThen result fact
taken-read outcome (Ok read) fact taken is then = then
taken-read outcome (Err Unreadable) fact taken is then = let no : Goes taken.0 ≡ CannotBeRead = sym taken.1 ∙ is in cc
taken-read outcome (Err (AnswerJump expected first)) fact taken is then = let no : Goes taken.0 ≡ Jumps expected first = sym taken.1 ∙ is in cc
taken-read outcome (Err (AnswerTorn id)) fact taken is then = let no : Goes taken.0 ≡ Tears id = sym taken.1 ∙ is in cc
taken-read outcome (Err AnswerMem) fact taken is then = tt

-- what a call says of each list of turns, at one of them
abbrev pub AnswersAll : ReplicaState → Shown → ReplicaState → Result Read AnswerError → Type 0
AnswersAll old shown new result = (wrap : ℕ) (turns : List ReplicaTurn) → StandsFor old wrap turns →
    UnlessMem result (StandsFor new wrap (and_turn (Shows shown) turns)) × IsAnswer (with_reply (known_by turns) (known_by turns).held shown) result

pub takes-given : (old new : ReplicaState) (shown : Shown) (result : Result Read AnswerError) → AnswersAll old shown new result → TakesGiven old shown new result
takes-given old new shown result answers token names wrap first commands entries k apart accepted given stood replies =
    by (next_ask (known_by turns)) refl replies
  where
    turns : List ReplicaTurn
    turns = given_by token first commands entries

    same : KnowsTheSame names (grants_of commands) turns
    same = given-same token names first commands entries apart given.2

    moment : Moment
    moment = moment_after token first (oldest k commands)

    by : (o : Option Ask) → next_ask (known_by turns) ≡ o → option_map (reply_to moment) o ≡ Some shown
        → IsReadThen result (StandsFor new wrap (named names (asked_at moment turns o)))
    by None e replied = absurd (cc)
    by (Some ask) e replied =
        let is : reply_to moment ask ≡ shown = cc in
        let taken : IsTaken (with_reply (known_by turns) (known_by turns).held shown) =
        subst (λ (s : Shown). IsTaken (with_reply (known_by turns) (known_by turns).held s)) is (calls-taken token first commands (Asks k) entries accepted given ask e) in
        let all = answers wrap (named names turns) stood in
        let answer : IsAnswer (with_reply (known_by turns) (known_by turns).held shown) result =
        subst (λ (known : Known). IsAnswer (with_reply known known.held shown) result) same.knows all.1 in
        subst (λ (s : Shown). IsReadThen result (StandsFor new wrap (named names (and_turn (Shows s) turns)))) (sym is)
        (taken-read (with_reply (known_by turns) (known_by turns).held shown) result (StandsFor new wrap (named names (and_turn (Shows shown) turns))) taken answer
        (subst (λ (ts : List ReplicaTurn). UnlessMem result (StandsFor new wrap ts)) (same.goes_on (Shows shown) tt) all.0))

-- the place that a note is given which is heard: its own if it is near, and none if it is not
module _ (wrap : ℕ) (note : Note) (turns : List ReplicaTurn) (wide : 256 ≤ wrap) where
  abbrev N : ℕ
  N = place_near note.name turns

  far : place_of wrap N (seq_at wrap note.place) ≡ None → placed wrap (on_wire wrap note) turns ≡ None
  far e = ap (option_map (note_at (on_wire wrap note))) e

  pub here-placed : is_near wrap note turns ≡ true → placed wrap (on_wire wrap note) turns ≡ Some note
  here-placed e =
      let parts = and-parts (nat_lt N place_limit) (nat_le (distance note.place N) (reach wrap)) e in
      near-placed wrap note turns wide (ltb-true N place_limit parts.0) (leb-true (distance note.place N) (reach wrap) parts.1)

  pub away-placed : distance note.place N < wrap - reach wrap → is_near wrap note turns ≡ false → placed wrap (on_wire wrap note) turns ≡ None
  away-placed recent = by (nat_lt N place_limit) refl (nat_le (distance note.place N) (reach wrap)) refl
    where
      out : reach wrap < distance note.place N → placed wrap (on_wire wrap note) turns ≡ None
      out more = at (cases_lt note.place N)
        where
          at : (note.place < N) ⊎ (N ≤ note.place) → placed wrap (on_wire wrap note) turns ≡ None
          at (inl less) = far (old-none wrap N note.place wide (omega (arith, less, more)) (omega (arith, less, recent)))
          at (inr least) = far (new-none wrap N note.place wide (omega (arith, least, more)) (omega (arith, least, recent)))

      by : (a : Bool) → nat_lt N place_limit ≡ a → (b : Bool) → nat_le (distance note.place N) (reach wrap) ≡ b → a && b ≡ false
          → placed wrap (on_wire wrap note) turns ≡ None
      by true e true f is = absurd (true≢false is)
      by true e false f is = out (leb-false (distance note.place N) (reach wrap) f)
      by false e b f is = far (past wrap N (seq_at wrap note.place) (ltb-false N place_limit e))

-- one that is not near is no turn
passed : (wrap : ℕ) (note : Note) (turns : List ReplicaTurn) → 256 ≤ wrap → is_recent wrap note turns ≡ true → is_near wrap note turns ≡ false
    → (arrival_of wrap (placed wrap (on_wire wrap note) turns) turns ≡ IsUnknown) × (and_note (placed wrap (on_wire wrap note) turns) turns ≡ turns)
passed wrap note turns wide recent away = by (is_heard note.name turns) refl
  where
    place : Option ℕ
    place = place_of wrap (place_near note.name turns) (seq_at wrap note.place)

    by : (b : Bool) → is_heard note.name turns ≡ b
        → (arrival_of wrap (placed wrap (on_wire wrap note) turns) turns ≡ IsUnknown) × (and_note (placed wrap (on_wire wrap note) turns) turns ≡ turns)
    by true e =
        let less = ltb-true (distance note.place (place_near note.name turns)) (wrap - reach wrap)
        (sym (ap (λ b. not b || nat_lt (distance note.place (place_near note.name turns)) (wrap - reach wrap)) e) ∙ recent) in
        let none = away-placed wrap note turns wide less away in
        (ap (λ (o : Option Note). arrival_of wrap o turns) none, ap (λ (o : Option Note). and_note o turns) none)
    by false e = at place
      where
        at : (o : Option ℕ) → (arrival_of wrap (option_map (note_at (on_wire wrap note)) o) turns ≡ IsUnknown)
            × (and_note (option_map (note_at (on_wire wrap note)) o) turns ≡ turns)
        at None = (refl, refl)
        at (Some p) =
            let lost = unheard (note_at (on_wire wrap note) p) turns e in (
              ap (arrival_by_seq wrap) lost,
              ap (λ b. cond b turns (Delivers (note_at (on_wire wrap note) p) ∷ turns)) (unknown-refused (note_at (on_wire wrap note) p) turns lost),
            )

-- what follows of an answer to a note that is not refused for what notes tell
heard-then : (arrives : Arrival) (becomes : Outcome Known) (result : Result Taken NotifyError) (fact : Type 0)
    → ((expected first : ℕ) → arrives ≡ IsNext → becomes ≡ Jumps expected first → ⊥) → ((id : ℕ) → arrives ≡ IsNext → becomes ≡ Tears id → ⊥)
    → UnlessNoMemory result fact → IsNotice arrives becomes result → IsHeardThen result fact
heard-then arrives becomes (Ok x) fact jump tear then is = then
heard-then arrives becomes (Err Unknown) fact jump tear then is = then
heard-then arrives becomes (Err (Full held)) fact jump tear then is = then
heard-then arrives becomes (Err (Jump expected first)) fact jump tear then is = absurd (jump expected first is.0 is.1)
heard-then arrives becomes (Err (Torn id)) fact jump tear then is = absurd (tear id is.0 is.1)
heard-then arrives becomes (Err Mem) fact jump tear then is = tt

pub hears-given : (old new : ReplicaState) (note : WireNote) (result : Result Taken NotifyError)
    → ((wrap : ℕ) (turns : List ReplicaTurn) → StandsFor old wrap turns →
    UnlessNoMemory result (StandsFor new wrap (and_note (placed wrap note turns) turns)) × IsNotice (arrival_on_wire wrap note turns) (heard (placed wrap note turns) turns) result)
    → HearsGiven old note new result
hears-given old new note result all token names wrap first commands entries k sent is wide recent apart accepted given stood =
    by (is_near wrap sent turns) refl
  where
    turns : List ReplicaTurn
    turns = given_by token first commands entries

    same : KnowsTheSame names (grants_of commands) turns
    same = given-same token names first commands entries apart given.2

    into : Contains (grants_of commands) sent.name
    into = sent-in first commands k sent given.1

    comes : placed wrap note (named names turns) ≡ option_map (named_note names) (placed wrap (on_wire wrap sent) turns)
    comes = ap (λ (n : WireNote). placed wrap n (named names turns)) is ∙ same.comes wrap sent into

    -- what the call says at these turns, by the place that the note has
    here : (o : Option Note) → placed wrap note (named names turns) ≡ o
        → UnlessNoMemory result (StandsFor new wrap (and_note o (named names turns)))
        × IsNotice (arrival_of wrap o (named names turns)) (heard o (named names turns)) result
    here o e =
        subst (λ (o : Option Note). UnlessNoMemory result (StandsFor new wrap (and_note o (named names turns)))
        × IsNotice (arrival_of wrap o (named names turns)) (heard o (named names turns)) result) e (all wrap (named names turns) stood)

    taken : IsTaken (with_notes (taken_by (Delivers (named_note names sent)) (named names turns)) (known_by (named names turns)))
    taken = subst IsTaken (sym (same.takes (Delivers sent) into)) (calls-taken token first commands (Gets k sent) entries accepted given)

    -- no turn
    still : (o : Option Note) → placed wrap (on_wire wrap sent) turns ≡ o → and_note o turns ≡ turns → and_note (option_map (named_note names) o) (named names turns) ≡ named names turns
    still None e unchanged = refl
    still (Some other) e unchanged =
        same.goes_on (Delivers other) (subst (Contains (grants_of commands)) (sym (given-name wrap sent other turns e)) into) ∙ ap (named names) unchanged

    by : (b : Bool) → is_near wrap sent turns ≡ b
        → IsHeardThen result (StandsFor new wrap (named names (given_by token first commands (and_gets b k sent entries))))
    by true e =
        let at = here (Some (named_note names sent)) (comes ∙ ap (option_map (named_note names)) (here-placed wrap sent turns wide e)) in
        heard-then (arrival_by_seq wrap (arrival (named_note names sent) (named names turns)))
        (with_notes (taken_by (Delivers (named_note names sent)) (named names turns)) (known_by (named names turns))) result
        (StandsFor new wrap (named names (and_turn (Delivers sent) turns)))
        (λ expected number next jumps. let no : Goes taken.0 ≡ Jumps expected number = sym taken.1 ∙ jumps in cc)
        (λ id next tears. let no : Goes taken.0 ≡ Tears id = sym taken.1 ∙ tears in cc)
        (subst (λ (ts : List ReplicaTurn). UnlessNoMemory result (StandsFor new wrap ts)) (same.goes_on (Delivers sent) into) at.0) at.1
    by false e =
        let none = passed wrap sent turns wide recent e in
        let unknown : arrival_on_wire wrap note (named names turns) ≡ IsUnknown =
        ap (λ (n : WireNote). arrival_on_wire wrap n (named names turns)) is ∙ same.hears_on_wire wrap sent into ∙ none.0 in
        let at = all wrap (named names turns) stood in
        heard-then (arrival_on_wire wrap note (named names turns)) (heard (placed wrap note (named names turns)) (named names turns)) result
        (StandsFor new wrap (named names turns))
        (λ expected number next jumps. let no : IsUnknown ≡ IsNext = sym unknown ∙ next in cc)
        (λ id next tears. let no : IsUnknown ≡ IsNext = sym unknown ∙ next in cc)
        (subst (λ (ts : List ReplicaTurn). UnlessNoMemory result (StandsFor new wrap ts))
        (ap (λ (o : Option Note). and_note o (named names turns)) comes ∙ still (placed wrap (on_wire wrap sent) turns) refl none.1) at.0) at.1

pub accepts-given : (old new : ReplicaState) (name : ℕ) (result : Result (Unit {0}) NotifyError)
    → ((wrap : ℕ) (turns : List ReplicaTurn) → StandsFor old wrap turns →
    UnlessNoMemory result (StandsFor new wrap (and_turn (Accepts name) turns)) × IsAcceptance (with_notes (taken_by (Accepts name) turns) (known_by turns)) result)
    → AcceptsGiven old name new result
accepts-given old new name result all token names wrap first commands entries k number is apart accepted given stood =
    by result
    (subst (λ (ts : List ReplicaTurn). UnlessNoMemory result (StandsFor new wrap ts)) (ap (λ (n : ℕ). and_turn (Accepts n) (named names turns)) is ∙ same.goes_on (Accepts number) (granted-in commands k (length_before_call entries) number given.1.1 given.1.2)) here.0)
    here.1
  where
    turns : List ReplicaTurn
    turns = given_by token first commands entries

    same : KnowsTheSame names (grants_of commands) turns
    same = given-same token names first commands entries apart given.2

    here : UnlessNoMemory result (StandsFor new wrap (and_turn (Accepts name) (named names turns)))
        × IsAcceptance (with_notes (taken_by (Accepts name) (named names turns)) (known_by (named names turns))) result
    here = all wrap (named names turns) stood

    taken : IsTaken (with_notes (taken_by (Accepts name) (named names turns)) (known_by (named names turns)))
    taken =
        subst (λ (n : ℕ). IsTaken (with_notes (taken_by (Accepts n) (named names turns)) (known_by (named names turns)))) (sym is)
        (subst IsTaken (sym (same.takes (Accepts number) (granted-in commands k (length_before_call entries) number given.1.1 given.1.2))) (calls-taken token first commands (Granted k number) entries accepted given))

    by : (result : Result (Unit {0}) NotifyError) → UnlessNoMemory result (StandsFor new wrap (named names (and_turn (Accepts number) turns)))
        → IsAcceptance (with_notes (taken_by (Accepts name) (named names turns)) (known_by (named names turns))) result
        → IsHeardThen result (StandsFor new wrap (named names (and_turn (Accepts number) turns)))
    by (Ok x) then is = then
    by (Err Unknown) then is = then
    by (Err (Full held)) then is = then
    by (Err (Jump expected first)) then is = let no : Goes taken.0 ≡ Jumps expected first = sym taken.1 ∙ is in cc
    by (Err (Torn id)) then is = let no : Goes taken.0 ≡ Tears id = sym taken.1 ∙ is in cc
    by (Err Mem) then is = tt

-- ---- where it stands

-- a copy that stands on the wire stands
stands-there : (wrap number : ℕ) (said : Says) → says_by_seq wrap said ≡ Stands number → said ≡ Stands number
stands-there wrap number (Gap place) e = let no : ⊥ = cc in absurd no
stands-there wrap number BehindLoad e = e
stands-there wrap number (BehindRead id) e = e
stands-there wrap number (BehindVersion version) e = e
stands-there wrap number (Stands at) e = e

pub says-given : (kept : ReplicaState) (answer : Says) → answer ≡ kept_says kept → SaysGiven kept answer
says-given kept answer is token names wrap first commands newest older number apart accepted given stood stands =
    let turns = given_by token first commands (newest ∷ older) in
    let same = given-same token names first commands (newest ∷ older) apart given in
    let on_wire : says_on_wire wrap (named names turns) ≡ Stands number = sym (says-kept wrap (named names turns)) ∙ sym (ap kept_says stood) ∙ sym is ∙ stands in
    let copy = copies-stood token first commands newest older number accepted given
    (sym same.says_so ∙ stands-there wrap number (says (named names turns)) on_wire) in
    record {
      length = copy.0;
      within = copy.1;
      ends = copy.2;
      has_catalog = ap (λ (k : ReplicaState). phase_rows k.known.phase) stood ∙ rows-kept wrap (named names turns) ∙ ap copied same.knows ∙ copy.3;
    }

pub completes-given : (kept : ReplicaState) (answer : Says) → answer ≡ kept_says kept → CompletesGiven kept answer
completes-given kept answer is token names wrap first commands newest older name now apart accepted given stood begun named-one alive received released nothing =
    let turns = given_by token first commands (newest ∷ older) in
    let same = given-same token names first commands (newest ∷ older) apart given in
    is ∙ ap kept_says stood ∙ says-kept wrap (named names turns)
    ∙ ap (says_by_seq wrap) (same.says_so ∙ answers-complete token first commands newest older name now accepted given begun named-one alive received released nothing)
