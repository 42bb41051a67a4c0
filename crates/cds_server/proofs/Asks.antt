-- What was read of a message is all that counts of it.
use Rattle.std.proofs.Common.{◌≡◌, ◌≢◌, ◌⊎◌, inl, inr, ◌&&◌, ℕ, Bool, true, false, cond, List, IsTrue, Ok, Err, refl, sym, ap, ◌∙◌, subst}
use Rattle.cds_http.specs.declared.message.Message.{Message}
use Rattle.cds_commands.specs.Names.{names_of}
use Rattle.cds_commands.specs.Subscriptions.{granted}
use Rattle.cds_catalog.specs.History.{end_of}
use Rattle.cds_commands.specs.Commands.{scans_of}
use Rattle.cds_gena.specs.Asked.{IsDeliverable, asks_of_subscription, gena_of}
use Rattle.cds_gena.specs.declared.error.GenaError.{GenaError}
use Rattle.cds_gena.specs.declared.error.GenaError.TheVariants.{Mem}
use Rattle.cds_gena.specs.declared.gena.Gena.{Gena}
use Rattle.cds_gena.specs.declared.gena.Gena.TheVariants.{Subscribe, Renew, Unsubscribe}
use Rattle.cds_control.specs.Published.{Published}
use Rattle.cds_control.specs.Replies.{IsControlReply, empty_reply}
use Rattle.cds_soap.specs.Control.{AnswersAsk}
use Rattle.cds_soap.specs.declared.action.Asked.{Asked}
use Rattle.cds_server.specs.declared.asking.Asking.TheVariants as ask
use Rattle.cds_server.specs.declared.asking.EventRequest.{EventRequest}
use Rattle.cds_server.specs.Asking.{AsksBy, IsAsking, asked_reply, reply_in}
use Rattle.cds_server.specs.Route.{Answers, Controls, Goes, Route, Subscribes, Way, asks_events, goes_to, route, way_by}
use Rattle.cds_server.specs.Published.{published_by}
use Rattle.cds_server.specs.Outcome.{can_deliver, command_of, first_of, living_number, outcome, outcome_note, outcome_of, outcome_reply, refusal_of, status_of}
use Rattle.cds_server.specs.Replies.{IsReplyBy, IsReplyOf, command_by, note_by}

-- ---- messages that ask of no subscription

module _ (m : Message) (way : Way) (there : route m ≡ Goes way) where
  -- a reply that is the same whatever is published
  pub ready-asks : (text : List ℕ) → ((published : Published) → IsReplyBy published m way text) → IsAsking m (ask.Ready text)
  ready-asks text is = record {
    replies = λ start commands now. subst (λ (r : Route). IsReplyOf start commands now m r text) (sym there) (is (published_by start commands));
    command = λ start commands now. ap (λ (r : Route). command_by r now (outcome start commands now m)) there;
    note = λ start commands now. ap (λ (r : Route). note_by r (first_of start commands now m)) there;
  }

pub status-asks : (m : Message) (status : ℕ) (text : List ℕ) → text ≡ empty_reply status → AsksBy m (Answers status) (ask.Ready text)
status-asks m status text is there = ready-asks m (Answers status) there text (λ published. is)

pub refusal-asks : (m : Message) (host text : List ℕ) → ((published : Published) (at : List ℕ) → IsControlReply published at m text)
    → AsksBy m (Controls host) (ask.Ready text)
refusal-asks m host text is there = ready-asks m (Controls host) there text (λ published. is published host)

pub action-asks : (m : Message) (host : List ℕ) (asked : Asked) → AnswersAsk m (Ok asked) → AsksBy m (Controls host) (ask.Action host asked)
action-asks m host asked reading there = record {
  replies = λ start commands now.
      subst (λ (r : Route). IsReplyOf start commands now m r (reply_in start commands now (ask.Action host asked))) (sym there) (Ok asked, reading, refl);
  command = λ start commands now. ap (λ (r : Route). command_by r now (outcome start commands now m)) there;
  note = λ start commands now. ap (λ (r : Route). note_by r (first_of start commands now m)) there;
}

-- ---- messages that ask of a subscription

by-asks : (b : Bool) (way : Way) → cond b Subscribes (Goes way) ≡ Subscribes → b ≡ true
by-asks true way e = refl
by-asks false way e = absurd (cc)

second : (a b : Bool) → a && b ≡ true → b ≡ true
second true b e = e
second false b e = absurd (cc)

pub asks-method : (m : Message) → route m ≡ Subscribes → IsTrue (asks_of_subscription m.start)
asks-method m there = second (goes_to _ m.start) (asks_of_subscription m.start) (by-asks (asks_events m.start) (way_by m.start m.fields) there)

pub delivers : (gena : Gena) → IsDeliverable gena → IsTrue (can_deliver gena)
delivers (Subscribe url seconds) can = can
delivers (Renew sid seconds) can = refl
delivers (Unsubscribe sid) can = refl

module _ (m : Message) (there : route m ≡ Subscribes) where
  pub event-asks : (request : EventRequest) → gena_of m ≡ Ok request.gena → IsAsking m (ask.Subscription request)
  event-asks request is = record {
    replies = λ start commands now. subst (λ (r : Route). IsReplyOf start commands now m r (asked_reply start commands now request.gena)) (sym there)
        (sym (ap (λ g. outcome_reply (names_of start) (granted commands) (outcome_of (refusal_of now commands) (living_number start now commands) g)) is));
    command = λ start commands now. ap (λ (r : Route). command_by r now (outcome start commands now m)) there
        ∙ ap (λ g. command_of now (outcome_of (refusal_of now commands) (living_number start now commands) g)) is;
    note = λ start commands now. ap (λ (r : Route). note_by r (first_of start commands now m)) there
        ∙ ap (λ g. outcome_note (names_of start) (granted commands) (end_of (scans_of start.first commands))
        (outcome_of (refusal_of now commands) (living_number start now commands) g)) is;
  }

  refused-is : (refusal : GenaError) → (refusal ≡ Mem) ⊎ (gena_of m ≡ Err refusal) → refusal ≢ Mem → gena_of m ≡ Err refusal
  refused-is refusal (inl e) cause = absurd (cause e)
  refused-is refusal (inr e) cause = e

  refused-asks-so : (refusal : GenaError) (text : List ℕ) → gena_of m ≡ Err refusal → text ≡ empty_reply (status_of refusal) → IsAsking m (ask.Ready text)
  refused-asks-so refusal text is same = record {
    replies = λ start commands now. subst (λ (r : Route). IsReplyOf start commands now m r text) (sym there)
        (same ∙ sym (ap (λ g. outcome_reply (names_of start) (granted commands) (outcome_of (refusal_of now commands) (living_number start now commands) g)) is));
    command = λ start commands now. ap (λ (r : Route). command_by r now (outcome start commands now m)) there
        ∙ ap (λ g. command_of now (outcome_of (refusal_of now commands) (living_number start now commands) g)) is;
    note = λ start commands now. ap (λ (r : Route). note_by r (first_of start commands now m)) there
        ∙ ap (λ g. outcome_note (names_of start) (granted commands) (end_of (scans_of start.first commands))
        (outcome_of (refusal_of now commands) (living_number start now commands) g)) is;
  }

  pub refused-asks : (refusal : GenaError) (text : List ℕ) → (refusal ≡ Mem) ⊎ (gena_of m ≡ Err refusal) → refusal ≢ Mem → text ≡ empty_reply (status_of refusal)
      → IsAsking m (ask.Ready text)
  refused-asks refusal text why cause same = refused-asks-so refusal text (refused-is refusal why cause) same
