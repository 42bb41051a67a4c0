-- What a script's replica is given, under the names on the wire, it takes or refuses as the turns say, which name subscriptions by the
-- numbers of their grants.
use Rattle.std.proofs.Common.{◌≡◌, ℕ, List, ◌++◌, true, false, Option, Some, None, Result, Ok, Err, IsSome, refl, ap, sym, subst, ◌∙◌}
use Rattle.std.proofs.lemmas.Bool.{true≢false}
use Rattle.std.specs.Prelude.{codes}
use Rattle.std.specs.Fmt.{decimal}
use Rattle.cds_load.specs.declared.exchange.Ask.{Ask as Asked}
use Rattle.cds_load.specs.declared.exchange.Read.{Read}
use Rattle.cds_load.specs.declared.exchange.Shown.{Shown}
use Rattle.cds_load.specs.declared.exchange.Shown.TheVariants.{Text, Number, Page, Fault}
use Rattle.std.specs.Option.{option_map}
use Rattle.cds_commands.specs.Notes.{Note}
use Rattle.cds_commands.specs.Wire.{WireNote, on_wire}
use Rattle.cds_follow.specs.Inbox.{ReplicaTurn, Shows, Accepts, Refuses, Delivers, taken_by, Arrival}
use Rattle.cds_follow.specs.Follow.{Known, known_by, next_ask, with_notes}
use Rattle.cds_follow.specs.Named.{named, named_note}
use Rattle.cds_follow.specs.Wire.{placed, and_note, heard, arrival_on_wire}
use Rattle.cds_replica.specs.Answer.{read_of}
use Rattle.cds_replica.specs.Calls.{IsAcceptance, IsNotice, IsTaken, TakesTurn, TakesNote, GoesOn, UnlessNoMemory}
use Rattle.cds_replica.specs.Replies.{IsNextReading, and_shown, with_reading, TakesReply, AnswersReply, IsRead, WhereShown}
use Rattle.cds_replica.specs.State.{ReplicaState, StandsFor}
use Rattle.cds_replica.specs.Steps.{phase_ask}
use Rattle.cds_replica.proofs.Keeping.{ask-kept}
use Rattle.cds_replica.specs.declared.note.Taken.{Taken}
use Rattle.cds_replica.specs.declared.note.Taken.TheVariants.{Took, Repeat, Early, Held}
use Rattle.cds_replica.specs.declared.notify_error.NotifyError.{NotifyError}
use Rattle.cds_replica.specs.declared.notify_error.NotifyError.TheVariants.{Unknown, Full as TooMany, Jump, Torn, Mem as NoMemory}
use Rattle.cds_replica.specs.declared.error.AnswerError.{AnswerError}
use Rattle.cds_replica.specs.declared.error.AnswerError.TheVariants.{Unreadable, Jump as AnswerJump, Torn as AnswerTorn, Mem as AnswerMem}
use Rattle.cds_script.specs.Report.{reply_text, arrival_text, accept_text}
use Rattle.cds_script.specs.declared.reply.HeldReply.TheVariants.{Named, Refusal}
use Rattle.cds_replay.specs.Lines.{read_line, taken_text, delivered_line, was_noticed, can_be_told}
use Rattle.cds_replay.specs.Session.{ReplyTaken, NameTaken, NoteTaken, RefusalIsTaken, script_names}
use Rattle.cds_replay.specs.Wired.{and_read, refuses_read, refuses_arrival, read_text_by}
use Rattle.cds_replay.specs.declared.session.TurnError.TheVariants.{Refused}
use Rattle.cds_replay.proofs.Apart.{knows-same}
use Rattle.cds_load.specs.Outcome.{Outcome, Goes, CannotBeRead, Jumps, Tears, is_no}

-- ---- what was read of a reply

none-asked : (P : Type 0) → false ≡ true → P
none-asked P never = absurd (true≢false (sym never))

-- where something is asked, what is read is refused exactly where nothing comes of it
refuses-is : (o : Option Asked) (read : Option Shown) (turns : List ReplicaTurn) → IsSome o → is_no (with_reading (known_by turns) read) ≡ refuses_read o read turns
refuses-is None read turns some = none-asked _ some
refuses-is (Some ask) None turns some = refl
refuses-is (Some ask) (Some shown) turns some = refl

stands-is : (o : Option Asked) (read : Option Shown) (turns : List ReplicaTurn) → IsSome o → and_shown read turns ≡ and_read o read turns
stands-is None read turns some = none-asked _ some
stands-is (Some ask) read turns some = refl

shown-same : (read : Option Shown) (turns : List ReplicaTurn) → and_shown read (named script_names turns) ≡ named script_names (and_shown read turns)
shown-same None turns = refl
shown-same (Some shown) turns = (knows-same turns).goes_on (Shows shown)

line-is : (shown : Shown) → read_line (read_of shown) ≡ reply_text shown
line-is (Text token) = refl
line-is (Number n) = refl
line-is (Page rows total update) = refl
line-is (Fault code) = refl

text-is : (o : Option Asked) (read : Option Shown) (bytes : List ℕ) (known : Known) (now : Known) (r : Read) → IsSome o → IsNextReading o bytes read →
    with_reading known read ≡ Goes now → WhereShown o bytes (λ (shown : Shown). r ≡ read_of shown) → read_line r ≡ read_text_by o read
text-is None read bytes known now r some is taken shows = none-asked _ some
text-is (Some ask) None bytes known now r some is taken shows = let never : CannotBeRead ≡ Goes now = taken in absurd (cc)
text-is (Some ask) (Some shown) bytes known now r some is taken shows = ap read_line (shows shown is) ∙ line-is shown

module _ (old new : ReplicaState) (wrap : ℕ) (turns : List ReplicaTurn) (bytes was out : List ℕ) (some : IsSome (phase_ask old.known.phase))
    (stood : StandsFor old wrap (named script_names turns)) where
  abbrev there : List ReplicaTurn
  there = named script_names turns

  abbrev o : Option Asked
  o = next_ask (known_by turns)

  same : known_by there ≡ known_by turns
  same = (knows-same turns).knows

  -- what is asked next is what stands in the replica
  ask-is : phase_ask old.known.phase ≡ o
  ask-is = ap (λ (k : ReplicaState). phase_ask k.known.phase) stood ∙ ask-kept wrap there ∙ ap next_ask same

  asked : IsSome o
  asked = subst IsSome ask-is some

  here : (read : Option Shown) → IsNextReading (phase_ask old.known.phase) bytes read → IsNextReading o bytes read
  here read at = subst (λ (a : Option Asked). IsNextReading a bytes read) ask-is at

  wired : (read : Option Shown) → IsNextReading o bytes read → IsNextReading (next_ask (known_by there)) bytes read
  wired read at = subst (λ (k : Known). IsNextReading (next_ask k) bytes read) (sym same) at

  reads-same : (read : Option Shown) → with_reading (known_by there) read ≡ with_reading (known_by turns) read
  reads-same read = ap (λ (k : Known). with_reading k read) same

  pub reply-taken : (r : Read) → IsRead (phase_ask old.known.phase) bytes (Ok r) → TakesReply old bytes new → AnswersReply old bytes (Ok r) →
      WhereShown (phase_ask old.known.phase) bytes (λ (shown : Shown). r ≡ read_of shown) → out ≡ was ++ read_line r → ReplyTaken wrap turns bytes was out new (Ok tt)
  reply-taken r is takes answers shows wrote =
      let at : IsNextReading o bytes is.0 = here is.0 is.1 in
      let taken : IsTaken (with_reading (known_by there) is.0) = answers wrap there is.0 stood (wired is.0 at) in (
        is.0,
        at,
        record {
          takes = sym (refuses-is o is.0 turns asked) ∙ ap is_no (sym (reads-same is.0)) ∙ ap is_no taken.1;
          stands = subst (StandsFor new wrap) (shown-same is.0 turns ∙ ap (named script_names) (stands-is o is.0 turns asked)) (takes wrap there is.0 stood (wired is.0 at));
          out = wrote
              ∙ ap (λ text. was ++ text)
              (text-is o is.0 bytes (known_by there) taken.0 r asked at taken.1
              (subst (λ (a : Option Asked). WhereShown a bytes (λ (shown : Shown). r ≡ read_of shown)) ask-is shows));
        },
      )

  -- nothing comes of it
  refused-by : (read : Option Shown) (outcome : Outcome Known) → with_reading (known_by there) read ≡ outcome → is_no outcome ≡ true → refuses_read o read turns ≡ true
  refused-by read outcome is never = sym (refuses-is o read turns asked) ∙ ap is_no (sym (reads-same read) ∙ is) ∙ never

  pub reply-refused : (e : AnswerError) → (e ≡ AnswerMem → ⊥) → IsRead (phase_ask old.known.phase) bytes (Err e) → AnswersReply old bytes (Err e) → out ≡ was →
      ReplyTaken wrap turns bytes was out new (Err Refused)
  reply-refused Unreadable none at gives stays =
      let answer : with_reading (known_by there) at.0 ≡ CannotBeRead = gives wrap there at.0 stood (wired at.0 (here at.0 at.1)) in
      (at.0, here at.0 at.1, record { refused = refused-by at.0 CannotBeRead answer refl; out = stays })
  reply-refused (AnswerJump expected first) none at gives stays =
      let answer : with_reading (known_by there) at.0 ≡ Jumps expected first = gives wrap there at.0 stood (wired at.0 (here at.0 at.1)) in
      (at.0, here at.0 at.1, record { refused = refused-by at.0 (Jumps expected first) answer refl; out = stays })
  reply-refused (AnswerTorn id) none at gives stays =
      let answer : with_reading (known_by there) at.0 ≡ Tears id = gives wrap there at.0 stood (wired at.0 (here at.0 at.1)) in
      (at.0, here at.0 at.1, record { refused = refused-by at.0 (Tears id) answer refl; out = stays })
  reply-refused AnswerMem none at gives stays = absurd (none refl)

-- ---- a name

module _ (old new : ReplicaState) (wrap : ℕ) (turns : List ReplicaTurn) (name sid : ℕ) (was out : List ℕ) (stood : StandsFor old wrap (named script_names turns))
    (is : sid ≡ script_names name) where
  abbrev becomes : ℕ → Outcome Known
  becomes s = with_notes (taken_by (Accepts s) (named script_names turns)) (known_by (named script_names turns))

  comes : becomes sid ≡ with_notes (taken_by (Accepts name) turns) (known_by turns)
  comes = ap becomes is ∙ (knows-same turns).takes (Accepts name)

  pub name-taken : TakesTurn old (Accepts sid) new → IsAcceptance (becomes sid) (Ok tt) → out ≡ was ++ accept_text (Named name) →
      NameTaken wrap turns name was out new (Ok tt)
  name-taken takes taken wrote = record {
    takes = ap is_no (sym comes ∙ taken.1);
    stands = subst (StandsFor new wrap) ((knows-same turns).goes_on (Accepts name))
        (subst (λ (s : ℕ). TakesTurn old (Accepts s) new) is takes wrap (named script_names turns) stood);
    out = wrote;
  }

  pub name-refused : (e : NotifyError) → (e ≡ NoMemory → ⊥) → IsAcceptance (becomes sid) (Err e) → out ≡ was → NameTaken wrap turns name was out new (Err Refused)
  name-refused Unknown none answer stays = absurd answer
  name-refused (TooMany held) none answer stays = absurd answer
  name-refused (Jump expected first) none answer stays = record { refused = ap is_no (sym comes ∙ answer); out = stays }
  name-refused (Torn id) none answer stays = record { refused = ap is_no (sym comes ∙ answer); out = stays }
  name-refused NoMemory none answer stays = absurd (none refl)

-- ---- a refusal

pub refusal-taken : (old new : ReplicaState) (wrap : ℕ) (turns : List ReplicaTurn) (was out : List ℕ) → StandsFor old wrap (named script_names turns) → GoesOn old Refuses new →
    out ≡ was ++ accept_text Refusal → RefusalIsTaken wrap turns was out new
refusal-taken old new wrap turns was out stood goes wrote = record { stands = goes wrap (named script_names turns) stood; out = wrote }

-- ---- a note

-- a fact holds where a note was answered
pub noticed : {P : Type 0} (answer : Result Taken NotifyError) → was_noticed answer ≡ true → UnlessNoMemory answer P → P
noticed (Ok taken) told fact = fact
noticed (Err Unknown) told fact = fact
noticed (Err (TooMany held)) told fact = fact
noticed (Err (Jump expected first)) told fact = fact
noticed (Err (Torn id)) told fact = fact
noticed (Err NoMemory) told fact = absurd (cc)

-- a note that is not refused for its changes is taken, or turned away with an answer, and its delivery writes that answer
arrives-so : (arrives : Arrival) (outcome : Outcome Known) (answer : Result Taken NotifyError) → was_noticed answer ≡ true → can_be_told answer ≡ true →
    IsNotice arrives outcome answer → (refuses_arrival arrives outcome ≡ false) × (taken_text answer ≡ arrival_text arrives)
arrives-so arrives outcome (Ok Took) told can notice =
    (ap (λ a. refuses_arrival a outcome) notice.0 ∙ ap is_no notice.1.1, ap arrival_text (sym notice.0))
arrives-so arrives outcome (Ok Repeat) told can notice = (ap (λ a. refuses_arrival a outcome) notice, ap arrival_text (sym notice))
arrives-so arrives outcome (Ok Early) told can notice = (ap (λ a. refuses_arrival a outcome) notice, ap arrival_text (sym notice))
arrives-so arrives outcome (Ok (Held missing)) told can notice = (ap (λ a. refuses_arrival a outcome) notice, ap arrival_text (sym notice))
arrives-so arrives outcome (Err Unknown) told can notice = (ap (λ a. refuses_arrival a outcome) notice, ap arrival_text (sym notice))
arrives-so arrives outcome (Err (TooMany held)) told can notice = (ap (λ a. refuses_arrival a outcome) notice, ap arrival_text (sym notice))
arrives-so arrives outcome (Err (Jump expected first)) told can notice = absurd (cc)
arrives-so arrives outcome (Err (Torn id)) told can notice = absurd (cc)
arrives-so arrives outcome (Err NoMemory) told can notice = absurd (cc)

refused-so : (arrives : Arrival) (outcome : Outcome Known) (answer : Result Taken NotifyError) → can_be_told answer ≡ false → IsNotice arrives outcome answer →
    refuses_arrival arrives outcome ≡ true
refused-so arrives outcome (Ok taken) cannot notice = absurd (cc)
refused-so arrives outcome (Err Unknown) cannot notice = absurd (cc)
refused-so arrives outcome (Err (TooMany held)) cannot notice = absurd (cc)
refused-so arrives outcome (Err (Jump expected first)) cannot notice = ap (λ a. refuses_arrival a outcome) notice.0 ∙ ap is_no notice.1
refused-so arrives outcome (Err (Torn id)) cannot notice = ap (λ a. refuses_arrival a outcome) notice.0 ∙ ap is_no notice.1
refused-so arrives outcome (Err NoMemory) cannot notice = absurd (cc)

-- what is known after a note that came, and the turns with it, are the same under the names
heard-same : (turns : List ReplicaTurn) (o : Option Note) → heard (option_map (named_note script_names) o) (named script_names turns) ≡ heard o turns
heard-same turns None = ap (λ (k : Known). Goes k) (knows-same turns).knows
heard-same turns (Some note) = (knows-same turns).takes (Delivers note)

and-same : (turns : List ReplicaTurn) (o : Option Note) → and_note (option_map (named_note script_names) o) (named script_names turns) ≡ named script_names (and_note o turns)
and-same turns None = refl
and-same turns (Some note) = (knows-same turns).goes_on (Delivers note)

module _ (old new : ReplicaState) (wrap : ℕ) (turns : List ReplicaTurn) (number : ℕ) (note : WireNote) (told : Note) (was out : List ℕ) (answer : Result Taken NotifyError)
    (stood : StandsFor old wrap (named script_names turns)) (is : note ≡ on_wire wrap (named_note script_names told)) where
  abbrev on_it : List ReplicaTurn
  on_it = named script_names turns

  abbrev place : Option Note
  place = placed wrap (on_wire wrap told) turns

  abbrev Notices : WireNote → Type 0
  Notices n = IsNotice (arrival_on_wire wrap n on_it) (heard (placed wrap n on_it) on_it) answer

  comes-at : placed wrap (on_wire wrap (named_note script_names told)) on_it ≡ option_map (named_note script_names) place
  comes-at = (knows-same turns).comes wrap told

  notices : Notices note → IsNotice (arrival_on_wire wrap (on_wire wrap told) turns) (heard place turns) answer
  notices notice =
      subst (λ (a : Arrival). IsNotice a (heard place turns) answer) ((knows-same turns).hears_on_wire wrap told)
      (subst (λ (w : Outcome Known). IsNotice (arrival_on_wire wrap (on_wire wrap (named_note script_names told)) on_it) w answer)
      (ap (λ (o : Option Note). heard o on_it) comes-at ∙ heard-same turns place) (subst Notices is notice))

  pub note-taken : was_noticed answer ≡ true → can_be_told answer ≡ true → UnlessNoMemory answer (TakesNote old note new) → Notices note →
      out ≡ was ++ delivered_line number answer → NoteTaken wrap turns number told was out new (Ok tt)
  note-taken noted can takes notice wrote =
      let so = arrives-so (arrival_on_wire wrap (on_wire wrap told) turns) (heard place turns) answer noted can (notices notice) in
      record {
        takes = so.0;
        stands = subst (StandsFor new wrap) (ap (λ (o : Option Note). and_note o on_it) comes-at ∙ and-same turns place)
            (subst (λ (n : WireNote). TakesNote old n new) is (noticed answer noted takes) wrap on_it stood);
        out = wrote ∙ ap (λ v. was ++ (codes "deliver " ++ decimal number ++ codes " " ++ v ++ codes "\n")) so.1;
      }

  pub note-refused : can_be_told answer ≡ false → Notices note → out ≡ was → NoteTaken wrap turns number told was out new (Err Refused)
  note-refused cannot notice stays = record {
    refused = refused-so (arrival_on_wire wrap (on_wire wrap told) turns) (heard place turns) answer cannot (notices notice);
    out = stays;
  }
