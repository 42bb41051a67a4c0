-- Laws of replies.
use Rattle.std.specs.Prelude.{◌≡◌, ◌≢◌, ◌⊎◌, ◌↔◌, ◌≤◌, ◌<◌, ℕ, IsTrue, true, List, ◌∷◌, length, codes, None, Some, Ok, Err, IsSome}
use Rattle.std.specs.List.{AllByRecursion}
use Rattle.url.specs.Parts.{Parts}
use Rattle.cds_http.specs.declared.message.Start.TheVariants.{Request, Reply}
use Rattle.cds_http.specs.declared.message.Message.{Message}
use Rattle.cds_gena.specs.Asked.{field_of, gena_of}
use Rattle.cds_gena.specs.Served.{Served}
use Rattle.cds_gena.specs.Subscribed.{last_number}
use Rattle.cds_gena.specs.declared.sid.Sid.{Sid}
use Rattle.cds_gena.specs.declared.error.GenaError.TheVariants.{Incompatible, Precondition}
use Rattle.cds_gena.specs.declared.gena.Gena.TheVariants.{Subscribe, Renew, Unsubscribe}
use Rattle.cds_soap.specs.declared.action.Action.{Action}
use Rattle.cds_soap.specs.declared.action.Asked.{Asked}
use Rattle.cds_soap.specs.Control.{Control, AnswersAsk}
use Rattle.cds_soap.specs.Written.{written_answer}
use Rattle.cds_changes.specs.Events.{events_between}
use Rattle.cds_commands.specs.Commands.{Command, Start, Ticks, AreAccepted, scans_of}
use Rattle.cds_commands.specs.Names.{name_of}
use Rattle.cds_commands.specs.Releases.{Release, release_at, releases_of}
use Rattle.cds_commands.specs.Subscriptions.{granted, is_alive, subscription_limit}
use Rattle.cds_commands.specs.Notes.{Note, alive_names, notes_of, sent_by}
use Rattle.cds_soap.specs.Laws.{is_host}
use Rattle.cds_control.specs.Answering.{answer_to}
use Rattle.cds_control.specs.Laws.{HasCause, HasNoDocument, HasStatus, Passes}
use Rattle.cds_control.specs.Replies.{empty_reply}
use Rattle.cds_server.specs.Route.{Controls, Goes, route}
use Rattle.cds_server.specs.Published.{published_by}
use Rattle.cds_server.specs.Due.{body_of}
use Rattle.cds_server.specs.Replies.{IsReply, command_at}

-- A message has one reply, at each moment and after each list of commands.
abbrev pub one_reply : Type 0
one_reply = (start : Start) (commands : List Command) (now : ℕ) (m : Message) (one other : List ℕ) →
    IsReply start commands now m one → IsReply start commands now m other → one ≡ other

-- A control request that asks for an action gets the answer to it, in the version that was asked, and nothing else.
abbrev pub what_is_asked_is_answered : Type 0
what_is_asked_is_answered = (start : Start) (commands : List Command) (now : ℕ) (m : Message) (host : List ℕ) (asked : Asked) (text : List ℕ) →
    route m ≡ Goes (Controls host) → AnswersAsk m (Ok asked) →
    IsReply start commands now m text ↔ (text ≡ written_answer asked.action asked.version (answer_to (published_by start commands) host asked.action) None)

-- A control request whose checks all pass is answered with status 200.
abbrev pub passed_checks_get_200 : Type 0
passed_checks_get_200 = (start : Start) (commands : List Command) (now : ℕ) (m : Message) (host : List ℕ) (asked : Action) (version : ℕ) (text : List ℕ) →
    route m ≡ Goes (Controls host) → Control m asked version → Passes (published_by start commands) asked → IsReply start commands now m text →
    HasStatus 200 text

-- ---- why a message gets a status

-- The message asks for control; its HOST is in its form.
abbrev pub AsksControl : Message → Type 0
AsksControl m = m.start ≡ Request (codes "POST") (codes "/control")

abbrev pub IsAt : Message → List ℕ → Type 0
IsAt m host = (field_of (codes "host") m.fields ≡ Some host) × IsTrue (is_host host)

-- 404: the message goes to another target. 405: it goes to the target of control or of events, by another method.
abbrev pub GoesElsewhere : Message → Type 0
GoesElsewhere m =
    (method : List ℕ) × (target : List ℕ) × (m.start ≡ Request method target) × (target ≢ codes "/control") × (target ≢ codes "/event")

abbrev pub GoesOtherwise : Message → Type 0
GoesOtherwise m = (method : List ℕ) × (((m.start ≡ Request method (codes "/control")) × (method ≢ codes "POST"))
    ⊎ ((m.start ≡ Request method (codes "/event")) × (method ≢ codes "SUBSCRIBE") × (method ≢ codes "UNSUBSCRIBE")))

-- 400: the message is no request. Or it asks for control without a HOST in its form, or with a body that is no document.
abbrev pub IsNoRequest : Message → Type 0
IsNoRequest m = (status : ℕ) × (m.start ≡ Reply status)

abbrev pub IsBad : Message → Type 0
IsBad m = IsNoRequest m ⊎ (AsksControl m × (((host : List ℕ) → ¬ (IsAt m host)) ⊎ HasNoDocument m))

-- ---- why a request about a subscription gets its status

-- The message asks about a subscription, at the target of events.
abbrev pub AsksOfSubscription : Message → Type 0
AsksOfSubscription m =
    (method : List ℕ) × (m.start ≡ Request method (codes "/event")) × ((method ≡ codes "SUBSCRIBE") ⊎ (method ≡ codes "UNSUBSCRIBE"))

-- 412: a field is missing or not in its form, or no subscription of the name lives. A name is that of a number.
abbrev pub LivesNone : Start → List Command → ℕ → ℕ → Type 0
LivesNone start commands now name =
    (number : ℕ) → number ≤ last_number → name ≡ name_of start number → is_alive number now commands ≡ true → ⊥

abbrev pub NamesNoneLiving : Start → List Command → ℕ → Message → Type 0
NamesNoneLiving start commands now m = (sid : Sid) × LivesNone start commands now sid.0
    × (((seconds : ℕ) × (gena_of m ≡ Ok (Renew sid seconds))) ⊎ (gena_of m ≡ Ok (Unsubscribe sid)))

-- 503: the message asks for a new subscription, and no number is left, or as many live as may.
abbrev pub FindsNoRoom : Start → List Command → ℕ → Message → Type 0
FindsNoRoom start commands now m = ((url : Parts) × (seconds : ℕ) × (gena_of m ≡ Ok (Subscribe url seconds)))
    × ((granted commands ≡ last_number) ⊎ (subscription_limit ≤ length (alive_names now commands)))

-- 200: the request is accepted.
abbrev pub IsAccepted : Start → List Command → ℕ → Message → Type 0
IsAccepted start commands now m = IsSome (command_at start commands now m)

abbrev pub HasEventCause : Start → List Command → ℕ → Message → List ℕ → Type 0
HasEventCause start commands now m text =
    ((text ≡ empty_reply 400) × (gena_of m ≡ Err Incompatible))
    ⊎ ((text ≡ empty_reply 412) × ((gena_of m ≡ Err Precondition) ⊎ NamesNoneLiving start commands now m))
    ⊎ ((text ≡ empty_reply 503) × FindsNoRoom start commands now m)
    ⊎ (HasStatus 200 text × IsAccepted start commands now m)

-- If moments never fall, what is accepted is served: a subscription is granted if there is room, and renewed if it lives. So at
-- most 64 live.
abbrev pub accepted_are_served : Type 0
accepted_are_served = (start : Start) (older : List Command) (before now : ℕ) (m : Message) (command : Command) →
    Served before older → before ≤ now → command_at start older now m ≡ Some command → Served now (command ∷ older)

-- Each reply has its status for its cause, and no message is answered otherwise.
abbrev pub replies_have_causes : Type 0
replies_have_causes = (start : Start) (commands : List Command) (now : ℕ) (m : Message) (text : List ℕ) → IsReply start commands now m text →
    ((text ≡ empty_reply 404) × GoesElsewhere m) ⊎ ((text ≡ empty_reply 405) × GoesOtherwise m) ⊎ ((text ≡ empty_reply 400) × IsBad m)
    ⊎ (AsksControl m × ((host : List ℕ) × IsAt m host) × HasCause (published_by start commands) m text)
    ⊎ (AsksOfSubscription m × HasEventCause start commands now m text)

-- ---- what is told

-- Each note that a tick sends has the number and the changes that the one body of its notes tells.
abbrev pub notes_are_sent : Type 0
notes_are_sent = (start : Start) (commands : List Command) (now : ℕ) (release : Release) →
    release_at now (scans_of start.first commands) (releases_of start.first commands) ≡ Some release →
    AllByRecursion (λ (note : Note). (note.number ≡ release.to) × (note.events ≡ events_between (scans_of start.first commands) release.from release.to))
    (sent_by start.first commands (notes_of start.first commands) (Ticks now))

-- The body of the notes of a release has fewer than 66,000,000 bytes. Each change takes at most 188, each end of a subtree update
-- 76, and each container that stands 22. Two changes have at most one end of a subtree update.
abbrev pub bodies_are_short : Type 0
bodies_are_short = (start : Start) (commands : List Command) (now : ℕ) (release : Release) → AreAccepted start.first commands →
    release_at now (scans_of start.first commands) (releases_of start.first commands) ≡ Some release →
    length (body_of start commands release) < 66000000
