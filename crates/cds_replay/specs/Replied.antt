-- The server's replies, as a report tells them, are those that a server gives to the messages of the requests.
use Rattle.std.specs.Prelude.{◌≡◌, ◌+◌, ◌<◌, ◌^◌, ◌↔◌, ℕ, false, cond, List, []}
use Rattle.cds_http.specs.declared.message.Message.{Message}
use Rattle.cds_http.specs.declared.message.Side.TheVariants.{Request}
use Rattle.cds_http.specs.Decided.{Decides}
use Rattle.cds_http.specs.Known.{Whole}
use Rattle.cds_soap.specs.Written.{written_action}
use Rattle.cds_load.specs.declared.exchange.Ask.{Ask}
use Rattle.cds_exchange.specs.Asking.{action_of}
use Rattle.cds_exchange.specs.Honest.{IsInRange, IsPlainMoment}
use Rattle.cds_commands.specs.Commands.{Command, Start}
use Rattle.cds_commands.specs.Notes.{has_room}
use Rattle.cds_commands.specs.Subscriptions.{granted}
use Rattle.cds_follow.specs.Given.{moment_after}
use Rattle.cds_gena.specs.Written.{subscribe_text, renewal_text, unsubscribe_text}
use Rattle.cds_server.specs.Replies.{IsReply}
use Rattle.cds_script.specs.Report.{lives, script_token}
use Rattle.cds_replay.specs.Events.{HasStatus, callback_url, control_url, event_url}
use Rattle.cds_replay.specs.Session.{script_names, script_start}
use Rattle.cds_replay.specs.Wire.{server_reply}

-- bytes are one message, and a server that accepted commands gives it a reply with a status
pub record AreReplied (start : Start) (commands : List Command) (now : ℕ) (request : List ℕ) (status : ℕ) : Type 0 where
  pub message : Message
  pub whole : Decides false Request request (Whole message [])
  pub reply : List ℕ
  pub replied : IsReply start commands now message reply
  pub has : HasStatus reply status

-- if what the server has is plain, the reply to an ask is the server's reply to the message of the ask's request. That message
-- has no other reply
abbrev pub asks_are_replied : Type 0
asks_are_replied = (wrap first now : ℕ) (commands : List Command) (ask : Ask) (m : Message) (reply : List ℕ) →
    IsPlainMoment (moment_after script_token first commands) → IsInRange ask → Decides false Request (written_action (action_of ask) control_url) (Whole m []) →
    IsReply (script_start wrap first) commands now m reply ↔ (reply ≡ server_reply (moment_after script_token first commands) ask)

-- a subscribe request gets 200 if there is room, and otherwise 503
abbrev pub subscriptions_are_replied : Type 0
subscriptions_are_replied = (wrap first now : ℕ) (commands : List Command) → granted commands + 1 < 2 ^ 32 →
    AreReplied (script_start wrap first) commands now (subscribe_text event_url callback_url) (cond (has_room now commands) 200 503)

-- a renewal and a request to end get 200 if the subscription lives, and otherwise 412
abbrev pub renewals_are_replied : Type 0
renewals_are_replied = (wrap first now name : ℕ) (commands : List Command) → granted commands < 2 ^ 32 → script_names name < 2 ^ 128 →
    AreReplied (script_start wrap first) commands now (renewal_text event_url (script_names name)) (cond (lives name now commands) 200 412)

abbrev pub ends_are_replied : Type 0
ends_are_replied = (wrap first now name : ℕ) (commands : List Command) → granted commands < 2 ^ 32 → script_names name < 2 ^ 128 →
    AreReplied (script_start wrap first) commands now (unsubscribe_text event_url (script_names name)) (cond (lives name now commands) 200 412)
