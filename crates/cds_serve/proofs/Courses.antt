-- How one connection is served, put together from its parts.
use Rattle.std.proofs.Common.{◌≡◌, ◌+◌, inl, inr, ℕ, true, List, [], ◌∷◌, ◌++◌, append_assoc, length, Option, Some, None, Result, Ok, Err, IsErr, IsOk, IsSome, IfOk, OnOk, OnErr, refl, sym, ap, subst, ◌∙◌, append-nil, true≢false, arith}
use Rattle.std.specs.Prelude.{⊤}
use Rattle.std.proofs.lemmas.List.{take_all}
use Rattle.cds_base.specs.declared.mem.Mem.{Mem as Memory}
use Rattle.cds_outside.specs.Outside.{HoldsPart, Rose, SinkTold, Told}
use Rattle.cds_commands.specs.Commands.{Command, Start}
use Rattle.cds_http.specs.declared.message.Message.{Message}
use Rattle.cds_http.specs.declared.message.Side.TheVariants as side
use Rattle.cds_http.specs.Decided.{Decides}
use Rattle.cds_http.specs.Known.{Known}
use Rattle.cds_server.specs.Asking.{Fits, IsAsking, note_in, reply_in, said}
use Rattle.cds_ssdp.specs.declared.device.Device.{Device}
use Rattle.cds_server.specs.Media.{media_by}
use Rattle.cds_server.specs.declared.media.Media.{Media}
use Rattle.cds_server.specs.declared.made.Answered.{Answered}
use Rattle.cds_server.specs.declared.asking.Asking.{Asking}
use Rattle.cds_server.specs.declared.asking.Asking.TheVariants as asking
use Rattle.cds_server.specs.Outcome.{Ended, GoesOut, Granted, Outcome, Refused as RefusedBy, Renewed, outcome}
use Rattle.cds_server.specs.Replies.{IsReply, command_at, command_by}
use Rattle.cds_server.specs.Route.{Goes, Route, Subscribes, route}
use Rattle.std.specs.List.{AllByRecursion}
use Rattle.cds_serve.specs.Jobs.{AddsAnswers, IsOfMessage}
use Rattle.cds_serve.specs.Served.{added}
use Rattle.cds_turn.specs.Line.{Extends}
use Rattle.cds_turn.specs.Turn.{SeatTold, after_turn}
use Rattle.cds_serve.specs.Acts.{IsAnswerGiven, IsFileNamed, IsReplyGiven, IsWritten, answer_adds, free_text, reply_adds, reply_requests, reply_text}
use Rattle.cds_serve.specs.Answered.{Around, Broken, Course, Fetched, Free, Handled, NeedsTurn, ReadsFrom, Serves, Starved, TakesTurn, Unhandled, file_asked, free_answer, no_memory_reply}
use Rattle.cds_serve.specs.Fetched.{Fetches, IsEndedBy}
use Rattle.cds_serve.specs.declared.fetching.Fate.{Fate}
use Rattle.cds_serve.specs.declared.fetching.Fate.TheVariants as fates
use Rattle.cds_serve.specs.declared.target.FreeAnswer.{FreeAnswer}
use Rattle.cds_serve.specs.Sent.{GivesAll, GivesEach, first_requests}
use Rattle.cds_serve.specs.Told.{IsAlone, IsMoment, Writes}
use Rattle.cds_serve.specs.declared.acts.Reply.{Reply}

-- ---- what was written

pub writes-nothing : (old new : SinkTold) → new ≡ old → Writes [] old new
writes-nothing old new same held told =
    let is : new.holds ≡ Some (held ++ []) = ap (λ (t : SinkTold). t.holds) same ∙ told ∙ ap Some (sym (append-nil held)) in
    ((0, omega arith, is), inl is)

pub writes-from : (text : List ℕ) (old mid new : SinkTold) → mid ≡ old → Writes text mid new → Writes text old new
writes-from text old mid new same w = subst (λ (t : SinkTold). Writes text t new) same w

-- by how the writing ended
pub written-by : {X E : Type 0} (result : Result X E) (text : List ℕ) (old new : SinkTold)
    → OnOk result (Told old.holds (λ held. new.holds ≡ Some (held ++ text))) → OnErr result (Told old.holds (λ held. HoldsPart held text new.holds))
    → OnErr result (Rose old.faults new.faults) → Writes text old new
written-by (Ok value) text old new all part rose held told =
    let is = all held told in
    ((length text, omega arith, is ∙ ap (λ l. Some (held ++ l)) (sym (take_all (length text) text (omega arith)))), inl is)
written-by (Err e) text old new all part rose held told = (part held told, inr rose)

-- what is written for want of memory
pub free-starved : {A : Type 0} (device : Device) (answer : FreeAnswer) (result : Result A Memory) → IsErr result → free_text device answer result ≡ no_memory_reply
free-starved device answer (Ok value) err = absurd (true≢false (sym err))
free-starved device answer (Err memory) err = refl

-- ---- what was read

-- what is read of a connection is what is left of it at the end
pub reads-on : (left mid after : Option (List ℕ)) (P Q : List ℕ → Type 0) → ((piece : List ℕ) → P piece → Q piece) → after ≡ mid
    → Told left (λ bytes. ReadsFrom bytes mid P) → Told left (λ bytes. ReadsFrom bytes after Q)
reads-on left mid after P Q f same read bytes told =
    let r = read bytes told in
    record { came = r.came; piece = r.piece; rest = r.rest; all = r.all; told = same ∙ r.told; needed = r.needed; short = r.short; last = f r.piece r.last }

-- ---- the course

-- what a list is, by other words for what was added to it
pub of-reply : (list added reply found : List Command) → list ≡ added ++ found → added ≡ reply → list ≡ reply ++ found
of-reply list added reply found is same = is ∙ ap (λ (l : List Command). l ++ found) same

-- a first note that was given goes out
pub goes-out : (start : Start) (found : List Command) (now : ℕ) (m : Message) (reply : Result Reply Memory) → IsReplyGiven start found now m reply
    → IfOk reply (λ reply. GoesOut reply.note)
goes-out start found now m (Ok reply) given = given.2
goes-out start found now m (Err memory) given = tt

-- what the server answered, put together
pub answer-given : (start : Start) (found : List Command) (now : ℕ) (asking : Asking) (result : Result Answered Memory)
    → IfOk result (λ answered. said asking answered.made ≡ reply_in start found now asking)
    → IfOk result (λ answered. answered.note ≡ note_in start found now asking) → IfOk result (λ answered. Fits asking answered.made)
    → IfOk result (λ answered. GoesOut answered.note) → IsAnswerGiven start found now asking result
answer-given start found now asking (Ok answered) said note fits delivered = (said, note, fits, delivered)
answer-given start found now asking (Err memory) said note fits delivered = tt

-- the answer fits what was asked
pub answer-fits : (start : Start) (found : List Command) (now : ℕ) (asking : Asking) (result : Result Answered Memory)
    → IsAnswerGiven start found now asking result → IfOk result (λ answered. Fits asking answered.made)
answer-fits start found now asking (Ok answered) given = given.2
answer-fits start found now asking (Err memory) given = tt

-- The answer to what was asked of a message, once it is written, is the reply to the message. It added the command of the message,
-- or nothing if there was no memory to write it.
pub asked-given : (start : Start) (found : List Command) (now : ℕ) (m : Message) (asking : Asking) (answered : Result Answered Memory)
    (reply : Result Reply Memory) → IsAsking m asking → IsAnswerGiven start found now asking answered → IsWritten asking answered reply
    → IsReplyGiven start found now m reply × (answer_adds start found now asking answered ≡ reply_adds start found now m reply)
asked-given start found now m asking (Ok answered) (Ok reply) is given written = (
  (
    subst (λ (t : List ℕ). IsReply start found now m t) (sym (written.0 ∙ given.0)) (is.replies start found now),
    written.1 ∙ given.1 ∙ sym (is.note start found now),
    subst GoesOut (sym written.1) given.3,
  ),
  ap added (sym (is.command start found now)),
)
asked-given start found now m (asking.Ready text) (Ok answered) (Err memory) is given written = absurd written
asked-given start found now m (asking.Action host asked) (Ok answered) (Err memory) is given written = (tt, refl)
asked-given start found now m (asking.Subscription gena) (Ok answered) (Err memory) is given written = absurd written
asked-given start found now m asking (Err memory) (Ok reply) is given written = absurd (true≢false (sym written))
asked-given start found now m asking (Err memory) (Err other) is given written = (tt, refl)

-- a turn was taken that added nothing
pub same-seat : (old new : SeatTold Command) (found : List Command) → new.seen ≡ found → new.own ≡ old.own → new.passes ≡ old.passes
    → new.turns ≡ old.turns + 1 → new.seats ≡ old.seats → new ≡ after_turn old found []
same-seat old new found seen own passes turns seats = λ i. record {
  seen = seen i;
  own = own i;
  passes = passes i;
  turns = turns i;
  seats = seats i;
}

module _ {A : Type 0} (start : Start) (device : Device) (result : Result A Memory) (before now : ℕ) (old new : Around) where
  -- what is so for all that the bytes may say
  abbrev pub ForBytes : (Known Message → Type 0) → Type 0
  ForBytes P = Told old.conn.source.left (λ bytes. (known : Known Message) → Decides true side.Request bytes known → P known)

  -- the bytes are a message that the server answers
  abbrev pub IsForServer : Message → Known Message → Type 0
  IsForServer m known = NeedsTurn m known × (file_asked m ≡ None)

  abbrev pub WritesHere : List ℕ → Type 0
  WritesHere text = Writes text old.conn.sink new.conn.sink

  abbrev pub ReadsHere : (List ℕ → Type 0) → Type 0
  ReadsHere P = Told old.conn.source.left (λ bytes. ReadsFrom bytes new.conn.source.left P)

  -- a turn was taken
  pub turned : (found : List Command) (m : Message) (reply : Result Reply Memory) → new.folder ≡ old.folder → ForBytes (IsForServer m) → ReadsHere (λ piece. ⊤) → Extends found old.seat.seen
      → IsAlone old.seat found → IsReplyGiven start found now m reply
      → new.seat ≡ after_turn old.seat found (reply_adds start found now m reply)
      → IsMoment old.clock new.clock before now → WritesHere (reply_text reply)
      → GivesAll result (reply_requests reply) old.link.requests new.link.requests → (IsErr reply → IsErr result)
      → IfOk reply (λ reply. IsErr result → IsSome reply.note)
      → Serves start device result before now old new
  turned found m (Ok reply) stays bytes read begun alone given seat moment written notes starved noted = record {
    course = Handled found m;
    for_bytes = bytes;
    read = read;
    cause = λ err. subst (λ n. IsSome n) given.1 (noted err);
    turn = (begun, alone, seat);
    moment = moment;
    text = reply.text;
    owed = given.0;
    written = written;
    folder = stays;
    notes = subst (λ n. GivesAll result (first_requests n) old.link.requests new.link.requests) given.1 notes;
  }
  turned found m (Err memory) stays bytes read begun alone given seat moment written notes starved noted = record {
    course = Unhandled found m;
    for_bytes = λ bits told known d. (bytes bits told known d).0;
    read = read;
    cause = starved refl;
    turn = (begun, alone, seat);
    moment = moment;
    text = no_memory_reply;
    owed = refl;
    written = written;
    folder = stays;
    notes = notes;
  }

  -- the same of the moment that the turn was given
  pub turned-at : (found : List Command) (m : Message) (reply : Result Reply Memory) (tick : ℕ) → tick ≡ now → new.folder ≡ old.folder → ForBytes (IsForServer m)
      → ReadsHere (λ piece. ⊤) → Extends found old.seat.seen → IsAlone old.seat found → IsReplyGiven start found tick m reply → new.seat.seen ≡ reply_adds start found tick m reply ++ found
      → new.seat.own ≡ reply_adds start found tick m reply ++ old.seat.own
      → new.seat.passes ≡ old.seat.passes → new.seat.turns ≡ old.seat.turns + 1 → new.seat.seats ≡ old.seat.seats
      → IsMoment old.clock new.clock before now → WritesHere (reply_text reply)
      → GivesAll result (reply_requests reply) old.link.requests new.link.requests → (IsErr reply → IsErr result)
      → IfOk reply (λ reply. IsErr result → IsSome reply.note)
      → Serves start device result before now old new
  turned-at found m reply tick same stays bytes read begun alone given seen own passes turns seats moment written notes starved noted =
      turned found m reply stays bytes read begun alone (subst (λ (n : ℕ). IsReplyGiven start found n m reply) same given)
      (λ i. record {
        seen = (seen ∙ ap (λ (n : ℕ). reply_adds start found n m reply ++ found) same) i;
        own = (own ∙ ap (λ (n : ℕ). reply_adds start found n m reply ++ old.seat.own) same) i;
        passes = passes i;
        turns = turns i;
        seats = seats i;
      }) moment written notes starved noted

  -- nothing went out
  quiet : new.link.requests ≡ old.link.requests → GivesAll result [] old.link.requests new.link.requests
  quiet link = by result
    where
      kept : GivesEach [] old.link.requests new.link.requests
      kept = λ sent told. link ∙ told ∙ ap Some (sym (append-nil sent))

      by : (r : Result A Memory) → GivesAll r [] old.link.requests new.link.requests
      by (Ok value) = kept
      by (Err memory) = kept

  -- In the turn the server named the file that was asked for, or had no memory for it. What was written before is `mid`.
  pub fetched : (found : List Command) (m : Message) (id : ℕ) (answer : Result (Option Media) Memory) (fate : Fate) (mid : SinkTold)
      → mid ≡ old.conn.sink → ForBytes (λ known. NeedsTurn m known × (file_asked m ≡ Some id)) → ReadsHere (λ piece. ⊤) → Extends found old.seat.seen
      → IsAlone old.seat found → IsFileNamed start found id answer → new.seat ≡ after_turn old.seat found [] → IsMoment old.clock new.clock before now
      → IfOk answer (λ media. Fetches m media fate old.folder new.folder mid new.conn.sink)
      → OnErr answer ((fate ≡ fates.Starved) × Writes no_memory_reply mid new.conn.sink) → OnErr answer (new.folder ≡ old.folder)
      → IsEndedBy fate result → new.link.requests ≡ old.link.requests → Serves start device result before now old new
  fetched found m id (Ok media) fate mid same bytes read begun alone named seat moment fetch starved stays ended link =
      let here : Fetches m (media_by start found id) fate old.folder new.folder old.conn.sink new.conn.sink =
      subst (λ (t : SinkTold). Fetches m (media_by start found id) fate old.folder new.folder t new.conn.sink) same
      (subst (λ o. Fetches m o fate old.folder new.folder mid new.conn.sink) named fetch) in
      record {
        course = Fetched found m id fate;
        for_bytes = bytes;
        read = read;
        cause = ended;
        turn = (begun, alone, seat);
        moment = moment;
        text = here.text;
        owed = here.owed;
        written = here.written;
        folder = here.touched;
        notes = quiet link;
      }
  fetched found m id (Err memory) fate mid same bytes read begun alone named seat moment fetch starved stays ended link = record {
    course = Unhandled found m;
    for_bytes = λ bits told known d. (bytes bits told known d).0;
    read = read;
    cause = subst (λ f. IsEndedBy f result) starved.0 ended;
    turn = (begun, alone, seat);
    moment = moment;
    text = no_memory_reply;
    owed = refl;
    written = writes-from no_memory_reply old.conn.sink mid new.conn.sink same starved.1;
    folder = stays;
    notes = quiet link;
  }

  -- none was
  module _ (seat : new.seat ≡ old.seat) (moment : now ≡ before) (clock : new.clock ≡ old.clock) (link : new.link.requests ≡ old.link.requests)
      (stays : new.folder ≡ old.folder) where
    pub broken : IsOk result → ReadsHere (λ piece. piece ≡ []) → Rose old.conn.source.faults new.conn.source.faults → WritesHere [] → Serves start device result before now old new
    broken ok read rose written = record {
      course = Broken;
      for_bytes = λ bytes told known d. tt;
      read = read;
      cause = (rose, ok);
      turn = seat;
      moment = (moment, clock);
      text = [];
      owed = refl;
      written = written;
      folder = stays;
      notes = quiet link;
    }

    pub starved : ReadsHere (λ piece. ⊤) → IsErr result → WritesHere no_memory_reply → Serves start device result before now old new
    starved read err written = record {
      course = Starved;
      for_bytes = λ bytes told known d. tt;
      read = read;
      cause = err;
      turn = seat;
      moment = (moment, clock);
      text = no_memory_reply;
      owed = refl;
      written = written;
      folder = stays;
      notes = quiet link;
    }

-- a status was answered, or there was no memory for it
pub freed : {A : Type 0} (start : Start) (device : Device) (result : Result A Memory) (before now : ℕ) (old new : Around) → new.seat ≡ old.seat → now ≡ before
    → new.clock ≡ old.clock → new.link.requests ≡ old.link.requests → new.folder ≡ old.folder → (answer : FreeAnswer)
    → ForBytes start device result before now old new (λ known. free_answer known ≡ Some answer)
    → ReadsHere start device result before now old new (λ piece. ⊤) → WritesHere start device result before now old new (free_text device answer result) → Serves start device result before now old new
freed start device (Ok value) before now old new seat moment clock link stays answer bytes read written = record {
  course = Free answer;
  for_bytes = bytes;
  read = read;
  cause = refl;
  turn = seat;
  moment = (moment, clock);
  text = _;
  owed = refl;
  written = written;
  folder = stays;
  notes = λ sent told. link ∙ told ∙ ap Some (sym (append-nil sent));
}
freed start device (Err memory) before now old new seat moment clock link stays answer bytes read written =
    starved start device (Err memory) before now old new seat moment clock link stays read refl written

-- ---- what a seat has after a connection

pub turn-passes : (start : Start) (now : ℕ) (course : Course) (old new : SeatTold Command) → TakesTurn start now course old new → new.passes ≡ old.passes
turn-passes start now Broken old new is = ap (λ (t : SeatTold Command). t.passes) is
turn-passes start now Starved old new is = ap (λ (t : SeatTold Command). t.passes) is
turn-passes start now (Free status) old new is = ap (λ (t : SeatTold Command). t.passes) is
turn-passes start now (Handled found m) old new t = ap (λ (s : SeatTold Command). s.passes) t.2
turn-passes start now (Unhandled found m) old new t = ap (λ (s : SeatTold Command). s.passes) t.2
turn-passes start now (Fetched found m id fate) old new t = ap (λ (s : SeatTold Command). s.passes) t.2

-- the command of a message
of-message : (way : Route) (now : ℕ) (come : Outcome) → AllByRecursion IsOfMessage (added (command_by way now come))
of-message (Goes way) now come = tt
of-message Subscribes now (RefusedBy status) = tt
of-message Subscribes now (Granted callback seconds) = (tt, tt)
of-message Subscribes now (Renewed number seconds) = (tt, tt)
of-message Subscribes now (Ended number) = (tt, tt)

all-both : {A : Type 0} (P : A → Type 0) (xs ys : List A) → AllByRecursion P xs → AllByRecursion P ys → AllByRecursion P (xs ++ ys)
all-both P [] ys all both = both
all-both P (x ∷ xs) ys all both = (all.0, all-both P xs ys all.1 both)

pub turn-own : (start : Start) (now : ℕ) (course : Course) (old new : SeatTold Command) (first : List Command) → TakesTurn start now course old new
    → AddsAnswers first old.own → AddsAnswers first new.own
turn-own start now Broken old new first is a = subst (AddsAnswers first) (sym (ap (λ (t : SeatTold Command). t.own) is)) a
turn-own start now Starved old new first is a = subst (AddsAnswers first) (sym (ap (λ (t : SeatTold Command). t.own) is)) a
turn-own start now (Free status) old new first is a = subst (AddsAnswers first) (sym (ap (λ (t : SeatTold Command). t.own) is)) a
turn-own start now (Handled found m) old new first t a =
    let more = added (command_at start found now m) in (
      more ++ a.0,
      all-both IsOfMessage more a.0 (of-message (route m) now (outcome start found now m)) a.1,
      ap (λ (s : SeatTold Command). s.own) t.2 ∙ ap (λ (z : List Command). more ++ z) a.2 ∙ sym (append_assoc more a.0 first),
    )
turn-own start now (Unhandled found m) old new first t a = subst (AddsAnswers first) (sym (ap (λ (s : SeatTold Command). s.own) t.2)) a
turn-own start now (Fetched found m id fate) old new first t a = subst (AddsAnswers first) (sym (ap (λ (s : SeatTold Command). s.own) t.2)) a
