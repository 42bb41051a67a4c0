-- What a script's server replies to the messages of its requests.
use Rattle.std.proofs.Common.{◌≡◌, ℕ, ◌+◌, Bool, true, false, cond, List, Ok, refl, ap, sym, subst, ◌∙◌, arith}
use Rattle.std.specs.Prelude.{codes}
use Rattle.cds_http.specs.declared.message.Start.TheVariants.{Request as of_request}
use Rattle.cds_soap.proofs.OneAnswer.{one-ask}
use Rattle.cds_exchange.proofs.Honest.{asks-are-read}
use Rattle.cds_commands.specs.Commands.{Command, Start}
use Rattle.cds_commands.specs.Names.{names_of}
use Rattle.cds_commands.specs.Notes.{has_room}
use Rattle.cds_commands.specs.Subscriptions.{granted}
use Rattle.cds_gena.specs.Written.{subscribe_text, renewal_text, unsubscribe_text}
use Rattle.cds_gena.specs.declared.gena.Gena.{Gena}
use Rattle.cds_gena.specs.declared.gena.Gena.TheVariants.{Subscribe, Renew, Unsubscribe}
use Rattle.cds_control.proofs.Passing.{answers-it as control-answers}
use Rattle.cds_server.specs.Outcome.{Outcome, event_reply, living_number, outcome, outcome_of, outcome_reply, refusal_of}
use Rattle.cds_server.specs.Replies.{IsReplyOf}
use Rattle.cds_server.specs.Route.{Route, Subscribes, asks_events, route}
use Rattle.cds_server.proofs.Passing.{answers-it}
use Rattle.cds_server.proofs.Stands.{asks-way}
use Rattle.cds_script.specs.Report.{lives}
use Rattle.cds_replay.specs.Events.{HasStatus, event_url, callback_url}
use Rattle.cds_replay.specs.Replied.{AreReplied, asks_are_replied, subscriptions_are_replied, renewals_are_replied, ends_are_replied}
use Rattle.cds_replay.specs.Session.{script_names, script_start}
use Rattle.cds_replay.proofs.Controlled.{ask-replied}
use Rattle.cds_replay.proofs.EventAnswers.{asked-whole, grant_of, renewal_of, end_so, subscribe-is, subscribe-comes, renewal-is, renewal-comes, unsubscribe-is, end-comes}
use Rattle.cds_replay.proofs.EventReads.{empty-has-200, empty-has-412, empty-has-503, lease-has, names-short}
use Rattle.cds_replay.proofs.EventUrls.{event-target}

pub asks-replied : asks_are_replied
asks-replied wrap first now commands ask m reply plain fits whole = ask-replied asks-are-read (answers-it (control-answers one-ask)) wrap first commands now ask m reply plain fits whole

module _ (wrap first now : ℕ) (commands : List Command) (request : List ℕ) (status : ℕ) (method : List ℕ) (gena : Gena) (come : Outcome) where
  abbrev start : Start
  start = script_start wrap first

  came : asked-whole request method gena → asks_events (of_request method (codes "/event")) ≡ true →
      outcome_of (refusal_of now commands) (living_number start now commands) (Ok gena) ≡ come →
      HasStatus (outcome_reply (names_of start) (granted commands) come) status → AreReplied start commands now request status
  came asked events comes has = record {
    message = asked.message;
    whole = asked.whole;
    reply = event_reply start commands now asked.message;
    replied = subst (λ (w : Route). IsReplyOf start commands now asked.message w (event_reply start commands now asked.message)) (sym way) refl;
    has = subst (λ (come : Outcome). HasStatus (outcome_reply (names_of start) (granted commands) come) status) (sym is) has;
  }
    where
      way : route asked.message ≡ Subscribes
      way = asks-way asked.message (ap asks_events (asked.start ∙ ap (of_request method) event-target) ∙ events)

      is : outcome start commands now asked.message ≡ come
      is = ap (outcome_of (refusal_of now commands) (living_number start now commands)) asked.asks ∙ comes

pub subscriptions-replied : subscriptions_are_replied
subscriptions-replied wrap first now commands few = by (has_room now commands) refl
  where
    comes : (b : Bool) → has_room now commands ≡ b →
        outcome_of (refusal_of now commands) (living_number (script_start wrap first) now commands) (Ok (Subscribe callback_url 1800)) ≡ grant_of b
    comes b e = subscribe-comes first now commands (omega (arith, few)) (living_number (script_start wrap first) now commands) ∙ ap grant_of e

    by : (b : Bool) → has_room now commands ≡ b →
        AreReplied (script_start wrap first) commands now (subscribe_text event_url callback_url) (cond b 200 503)
    by true e =
        came wrap first now commands (subscribe_text event_url callback_url) 200 (codes "SUBSCRIBE") (Subscribe callback_url 1800) (grant_of true) subscribe-is refl (comes true e)
        (lease-has (script_names (granted commands + 1)) (names-short (granted commands + 1) few))
    by false e =
        came wrap first now commands (subscribe_text event_url callback_url) 503 (codes "SUBSCRIBE") (Subscribe callback_url 1800) (grant_of false) subscribe-is refl (comes false e)
        empty-has-503

pub renewals-replied : renewals_are_replied
renewals-replied wrap first now name commands few short = by (lives name now commands) refl
  where
    by : (b : Bool) → lives name now commands ≡ b →
        AreReplied (script_start wrap first) commands now (renewal_text event_url (script_names name)) (cond b 200 412)
    by true e =
        came wrap first now commands (renewal_text event_url (script_names name)) 200 (codes "SUBSCRIBE") (Renew (record { 0 = script_names name }) 1800) (renewal_of name true)
        (renewal-is (script_names name) short) refl (renewal-comes wrap first now name commands (omega (arith, few)) short (refusal_of now commands) true e)
        (lease-has (script_names name) short)
    by false e =
        came wrap first now commands (renewal_text event_url (script_names name)) 412 (codes "SUBSCRIBE") (Renew (record { 0 = script_names name }) 1800) (renewal_of name false)
        (renewal-is (script_names name) short) refl (renewal-comes wrap first now name commands (omega (arith, few)) short (refusal_of now commands) false e)
        empty-has-412

pub ends-replied : ends_are_replied
ends-replied wrap first now name commands few short = by (lives name now commands) refl
  where
    by : (b : Bool) → lives name now commands ≡ b →
        AreReplied (script_start wrap first) commands now (unsubscribe_text event_url (script_names name)) (cond b 200 412)
    by true e =
        came wrap first now commands (unsubscribe_text event_url (script_names name)) 200 (codes "UNSUBSCRIBE") (Unsubscribe (record { 0 = script_names name })) (end_so name true)
        (unsubscribe-is (script_names name) short) refl (end-comes wrap first now name commands (omega (arith, few)) short (refusal_of now commands) true e)
        empty-has-200
    by false e =
        came wrap first now commands (unsubscribe_text event_url (script_names name)) 412 (codes "UNSUBSCRIBE") (Unsubscribe (record { 0 = script_names name })) (end_so name false)
        (unsubscribe-is (script_names name) short) refl (end-comes wrap first now name commands (omega (arith, few)) short (refusal_of now commands) false e)
        empty-has-412
