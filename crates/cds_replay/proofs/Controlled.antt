-- The bytes of a control request to a script's server, as its message, and the reply to it.
use Rattle.std.proofs.Common.{◌≡◌, ◌↔◌, ℕ, Bool, List, [], ◌++◌, take, drop, true, false, Option, Some, None, Result, Ok, Err, refl, ap, sym, subst, ◌∙◌, true≢false}
use Rattle.std.specs.Prelude.{codes, IsTrue}
use Rattle.std.proofs.lemmas.List.{append-nil, take-append-drop}
use Rattle.cds_http.specs.declared.error.HttpError.{HttpError}
use Rattle.cds_http.specs.declared.message.Fed.{Fed}
use Rattle.cds_http.specs.declared.error.HttpError.TheVariants.{BadHead, HeadTooLong, BadLength, BadChunk, TooLong, Truncated, Failed, Mem}
use Rattle.cds_http.specs.declared.message.Fed.TheVariants.{More, Whole as WholeFed}
use Rattle.cds_http.specs.declared.message.Message.{Message}
use Rattle.cds_http.specs.declared.message.Side.{Side}
use Rattle.cds_http.specs.declared.message.Side.TheVariants.{Request}
use Rattle.cds_http.specs.declared.message.Start.TheVariants.{Request as of_request}
use Rattle.cds_http.specs.declared.reader.MessageReader.{MessageReader}
use Rattle.cds_http.specs.Decided.{Decides}
use Rattle.cds_http.specs.Known.{Known, Whole, Needs, Refused}
use Rattle.cds_http.specs.Reading.{IsWhole, Stands, Takes, Finishes, at_end}
use Rattle.cds_http.specs.Steps.{Explains}
use Rattle.cds_http.proofs.Once.{one_outcome}
use Rattle.cds_soap.specs.Laws.{AreRequest, value_of, is_host}
use Rattle.cds_soap.specs.Written.{written_action, written_answer}
use Rattle.cds_load.specs.declared.exchange.Ask.{Ask}
use Rattle.cds_exchange.specs.Asking.{action_of}
use Rattle.cds_load.specs.Server.{reply_to}
use Rattle.cds_exchange.specs.Honest.{IsInRange, IsPlainMoment, answer_saying}
use Rattle.cds_exchange.specs.Laws.{AsksAreRead}
use Rattle.cds_commands.specs.Commands.{Command}
use Rattle.cds_follow.specs.Given.{moment_after}
use Rattle.cds_script.specs.Report.{script_token}
use Rattle.cds_soap.specs.Control.{AnswersAsk}
use Rattle.cds_control.specs.Answering.{answer_to}
use Rattle.cds_server.specs.Published.{published_by}
use Rattle.cds_server.specs.Laws.{what_is_asked_is_answered}
use Rattle.cds_server.specs.Replies.{IsReply, Replied}
use Rattle.cds_server.specs.Route.{Controls, Goes, asks_events, route}
use Rattle.cds_server.proofs.Controls.{control-goes, control-unasked}
use Rattle.cds_replay.specs.Events.{IsMessage, control_url}
use Rattle.cds_replay.specs.Session.{script_start}
use Rattle.cds_replay.specs.Wire.{script_base, server_reply}
use Rattle.cds_replay.proofs.Asked.{control-host}
use Rattle.cds_replay.proofs.Replied.{server-says}

-- ---- the message

abbrev is-whole : Known Message → Bool
is-whole (Whole m rest) = true
is-whole Needs = false
is-whole (Refused e) = false

abbrev is-ok : Result Message HttpError → Bool
is-ok (Ok m) = true
is-ok (Err e) = false

whole-one : (m n : Message) (one other : List ℕ) → Whole m one ≡ Whole n other → m ≡ n
whole-one m n one other e = cc

ended-one : (m w : Message) (result : Result Message HttpError) (known : Known Message) → known ≡ Whole w [] → result ≡ at_end known → result ≡ Ok m → m ≡ w
ended-one m w result known is gives ok = let e : Ok m ≡ Ok w = sym ok ∙ gives ∙ ap at_end is in cc

front-read : (side : Side) (request front : List ℕ) (message m w : Message) (rest : List ℕ) (result : Result Message HttpError) → front ++ rest ≡ request → IsWhole side front w →
    Finishes side (Some front) result → result ≡ Ok m → Decides false side request (Whole message []) → m ≡ message
front-read side request front message m w rest result parts whole ends ok decides =
    ended-one m w result ends.0 known ends.2 ok
    ∙ whole-one w message rest []
    (one_outcome false side request (Whole w rest) (Whole message [])
    (subst (λ bytes. Decides false side bytes (Whole w rest)) parts (whole false rest)) decides)
  where
    known : ends.0 ≡ Whole w []
    known =
        one_outcome true side front ends.0 (Whole w []) ends.1
        (subst (λ bytes. Decides true side bytes (Whole w [])) (append-nil front) (whole true []))

pub one-message : (side : Side) (bytes : List ℕ) (m n : Message) → Decides false side bytes (Whole m []) → Decides false side bytes (Whole n []) → m ≡ n
one-message side bytes m n one other = whole-one m n [] [] (one_outcome false side bytes (Whole m []) (Whole n []) one other)

-- bytes that are a message are no front of one, and are not refused
more-never : (side : Side) (bytes : List ℕ) (m : Message) → Decides false side bytes (Whole m []) → Decides false side bytes Needs → ⊥
more-never side bytes m whole needs = let no : Whole m [] ≡ Needs = one_outcome false side bytes (Whole m []) Needs whole needs in absurd (true≢false (ap is-whole no))

refused-never : (side : Side) (bytes : List ℕ) (m : Message) (e : HttpError) → Decides false side bytes (Whole m []) → Decides false side bytes (Refused e) → ⊥
refused-never side bytes m e whole refused =
    let no : Whole m [] ≡ Refused e = one_outcome false side bytes (Whole m []) (Refused e) whole refused in absurd (true≢false (ap is-whole no))

pub fed-more : (kind : Side) (old new : MessageReader) (request : List ℕ) (fed : Result Fed HttpError) → Stands kind old (Some []) →
    ((side : Side) (came : Option (List ℕ)) → Stands side old came → (now : Option (List ℕ)) × Stands side new now × Takes side came request fed now) →
    IsMessage kind request → fed ≡ Ok More → ⊥
fed-more kind old new request fed stood takes is more =
    let t = takes kind (Some []) stood in
    let took : Takes kind (Some []) request (Ok More) t.0 = subst (λ f. Takes kind (Some []) request f t.0) more t.2 in
    more-never kind request is.0 is.1 took.0.0

refused-by : (e : HttpError) (kind : Side) (request : List ℕ) → IsMessage kind request →
    Explains e ((ended : Bool) (more : List ℕ) → Decides ended kind (request ++ more) (Refused e)) → e ≡ Mem
refused-by Mem kind request is cause = refl
refused-by Failed kind request is cause = absurd cause
refused-by Truncated kind request is cause = absurd cause
refused-by BadHead kind request is cause =
    absurd (refused-never kind request is.0 BadHead is.1 (subst (λ b. Decides false kind b (Refused BadHead)) (append-nil request) (cause false [])))
refused-by HeadTooLong kind request is cause =
    absurd (refused-never kind request is.0 HeadTooLong is.1 (subst (λ b. Decides false kind b (Refused HeadTooLong)) (append-nil request) (cause false [])))
refused-by BadLength kind request is cause =
    absurd (refused-never kind request is.0 BadLength is.1 (subst (λ b. Decides false kind b (Refused BadLength)) (append-nil request) (cause false [])))
refused-by BadChunk kind request is cause =
    absurd (refused-never kind request is.0 BadChunk is.1 (subst (λ b. Decides false kind b (Refused BadChunk)) (append-nil request) (cause false [])))
refused-by TooLong kind request is cause =
    absurd (refused-never kind request is.0 TooLong is.1 (subst (λ b. Decides false kind b (Refused TooLong)) (append-nil request) (cause false [])))

pub fed-refused : (kind : Side) (old new : MessageReader) (request : List ℕ) (fed : Result Fed HttpError) (e : HttpError) → Stands kind old (Some []) →
    ((side : Side) (came : Option (List ℕ)) → Stands side old came → (now : Option (List ℕ)) × Stands side new now × Takes side came request fed now) →
    IsMessage kind request → fed ≡ Err e → e ≡ Mem
fed-refused kind old new request fed e stood takes is refused =
    let t = takes kind (Some []) stood in
    let took : Takes kind (Some []) request (Err e) t.0 = subst (λ f. Takes kind (Some []) request f t.0) refused t.2 in
    refused-by e kind request is took.0.1

-- behind the whole message the connection may end
pub ended-never : (kind : Side) (old new : MessageReader) (request : List ℕ) (fed : Result Fed HttpError) (rest : ℕ) (result : Result Message HttpError) (e : HttpError) →
    Stands kind old (Some []) →
    ((side : Side) (came : Option (List ℕ)) → Stands side old came → (now : Option (List ℕ)) × Stands side new now × Takes side came request fed now) →
    fed ≡ Ok (WholeFed rest) → ((side : Side) (came : Option (List ℕ)) → Stands side new came → Finishes side came result) → result ≡ Err e → ⊥
ended-never kind old new request fed rest result e stood takes is ends failed =
    let t = takes kind (Some []) stood in
    let took : Takes kind (Some []) request (Ok (WholeFed rest)) t.0 = subst (λ f. Takes kind (Some []) request f t.0) is t.2 in
    let answers = took.0 in
    let front : List ℕ = take answers.0 request in
    let closes : Finishes kind (Some front) result = subst (λ came. Finishes kind came result) answers.3 (ends kind t.0 t.1) in
    let known : closes.0 ≡ Whole answers.4.0 [] =
    one_outcome true kind front closes.0 (Whole answers.4.0 []) closes.1
    (subst (λ bytes. Decides true kind bytes (Whole answers.4.0 [])) (append-nil front) (answers.4.1 true [])) in
    let no : Ok answers.4.0 ≡ Err e = sym (closes.2 ∙ ap at_end known) ∙ failed in absurd (true≢false (ap is-ok no))

pub message-read : (kind : Side) (old new : MessageReader) (request : List ℕ) (message m : Message) (fed : Result Fed HttpError) (rest : ℕ) (result : Result Message HttpError) →
    Stands kind old (Some []) →
    ((side : Side) (came : Option (List ℕ)) → Stands side old came → (now : Option (List ℕ)) × Stands side new now × Takes side came request fed now) →
    fed ≡ Ok (WholeFed rest) → ((side : Side) (came : Option (List ℕ)) → Stands side new came → Finishes side came result) → result ≡ Ok m →
    Decides false kind request (Whole message []) → m ≡ message
message-read kind old new request message m fed rest result stood takes is ends ok decides =
    let t = takes kind (Some []) stood in
    let took : Takes kind (Some []) request (Ok (WholeFed rest)) t.0 = subst (λ f. Takes kind (Some []) request f t.0) is t.2 in
    let answers = took.0 in
    let front : List ℕ = take answers.0 request in
    front-read kind request front message m answers.4.0 (drop answers.0 request) result (take-append-drop answers.0 request) answers.4.1
    (subst (λ came. Finishes kind came result) answers.3 (ends kind t.0 t.1)) ok decides

-- ---- the reply

host-held : is_host (codes "127.0.0.1:49152") ≡ true
host-held = refl

control-way : (m : Message) → m.start ≡ of_request (codes "POST") (codes "/control") → value_of (codes "host") m ≡ Some (codes "127.0.0.1:49152") →
    route m ≡ Goes (Controls (codes "127.0.0.1:49152"))
control-way m start host = control-goes m (codes "127.0.0.1:49152") start host host-held

-- the message of an ask's request
asked : AsksAreRead → (ask : Ask) → IsInRange ask → AreRequest false (written_action (action_of ask) control_url ++ []) (action_of ask) control_url []
asked read ask fits = read ask control_url [] false fits refl refl (subst (λ h. IsTrue (is_host h)) (sym control-host) refl)

asked-whole : (read : AsksAreRead) (ask : Ask) (fits : IsInRange ask) (request : List ℕ) → request ≡ written_action (action_of ask) control_url →
    Decides false Request request (Whole (asked read ask fits).message [])
asked-whole read ask fits request sent =
    subst (λ bytes. Decides false Request bytes (Whole (asked read ask fits).message [])) (append-nil (written_action (action_of ask) control_url) ∙ sym sent)
    (asked read ask fits).whole

pub asked-message : AsksAreRead → (ask : Ask) (request : List ℕ) → IsInRange ask → request ≡ written_action (action_of ask) control_url → IsMessage Request request
asked-message read ask request fits sent = ((asked read ask fits).message, asked-whole read ask fits request sent)

-- what the server replies to its message
pub ask-replied : AsksAreRead → what_is_asked_is_answered → (wrap first : ℕ) (commands : List Command) (now : ℕ) (ask : Ask) (m : Message) (text : List ℕ) →
    IsPlainMoment (moment_after script_token first commands) → IsInRange ask → Decides false Request (written_action (action_of ask) control_url) (Whole m []) →
    IsReply (script_start wrap first) commands now m text ↔ (text ≡ server_reply (moment_after script_token first commands) ask)
ask-replied read answered wrap first commands now ask m text plain fits whole = (
  λ reply. law.0 reply ∙ ap (λ given. written_answer (action_of ask) 4 given None) says,
  λ is. law.1 (is ∙ ap (λ given. written_answer (action_of ask) 4 given None) (sym says)),
)
  where
    r : AreRequest false (written_action (action_of ask) control_url ++ []) (action_of ask) control_url []
    r = asked read ask fits

    same : m ≡ r.message
    same = one-message Request (written_action (action_of ask) control_url) m r.message whole (asked-whole read ask fits (written_action (action_of ask) control_url) refl)

    law : IsReply (script_start wrap first) commands now m text
        ↔ (text ≡ written_answer (action_of ask) 4 (answer_to (published_by (script_start wrap first) commands) (codes "127.0.0.1:49152") (action_of ask)) None)
    law =
        answered (script_start wrap first) commands now m (codes "127.0.0.1:49152") (record { action = action_of ask; version = 4 }) text
        (ap route same ∙ control-way r.message r.start (r.host ∙ ap Some control-host))
        (subst (λ n. AnswersAsk n (Ok (record { action = action_of ask; version = 4 }))) (sym same) r.asks)

    says : answer_to (published_by (script_start wrap first) commands) (codes "127.0.0.1:49152") (action_of ask)
        ≡ answer_saying script_base (reply_to (moment_after script_token first commands) ask)
    says = server-says wrap first commands ask plain fits

-- so to the bytes of its request
replied : AsksAreRead → what_is_asked_is_answered → (wrap first : ℕ) (commands : List Command) (now : ℕ) (ask : Ask) (request : List ℕ) (m : Message) (text : List ℕ) →
    IsPlainMoment (moment_after script_token first commands) → IsInRange ask → request ≡ written_action (action_of ask) control_url →
    ((r : Message) → Decides false Request request (Whole r []) → m ≡ r) →
    IsReply (script_start wrap first) commands now m text → text ≡ server_reply (moment_after script_token first commands) ask
replied read answered wrap first commands now ask request m text plain fits sent is reply =
    (ask-replied read answered wrap first commands now ask m text plain fits (subst (λ bytes. Decides false Request bytes (Whole m [])) sent whole)).0 reply
  where
    whole : Decides false Request request (Whole m [])
    whole =
        subst (λ (n : Message). Decides false Request request (Whole n [])) (sym (is (asked read ask fits).message (asked-whole read ask fits request sent)))
        (asked-whole read ask fits request sent)

pub reply-is : AsksAreRead → what_is_asked_is_answered → (wrap first : ℕ) (commands : List Command) (now : ℕ) (ask : Ask) (request : List ℕ) (m : Message) (was out : List ℕ) →
    IsPlainMoment (moment_after script_token first commands) → IsInRange ask → request ≡ written_action (action_of ask) control_url →
    ((r : Message) → Decides false Request request (Whole r []) → m ≡ r) → was ≡ [] → Replied (script_start wrap first) commands now m was out →
    out ≡ server_reply (moment_after script_token first commands) ask
reply-is read answered wrap first commands now ask request m was out plain fits sent is empty reply =
    reply.2 ∙ ap (λ front. front ++ reply.0) empty ∙ replied read answered wrap first commands now ask request m reply.0 plain fits sent is reply.1

-- the message of an ask asks of no subscription
pub asked-unasked : AsksAreRead → (ask : Ask) (request : List ℕ) (m : Message) → IsInRange ask → request ≡ written_action (action_of ask) control_url →
    ((r : Message) → Decides false Request request (Whole r []) → m ≡ r) → asks_events m.start ≡ false
asked-unasked read ask request m fits sent is =
    control-unasked m
    (ap (λ (n : Message). n.start) (is (asked read ask fits).message (asked-whole read ask fits request sent)) ∙ (asked read ask fits).start)
