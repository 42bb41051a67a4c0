-- A message, handled in parts.
use Rattle.std.proofs.Common.{◌≡◌, ◌++◌, ℕ, List, Option, None, is_some, Result, Ok, Err, IfOk, OnOk, OnErr, refl, sym, ap, ◌∙◌, subst}
use Rattle.cds_base.specs.declared.mem.Mem.{Mem as Memory}
use Rattle.cds_http.specs.declared.message.Message.{Message}
use Rattle.cds_commands.specs.Commands.{Command, Start}
use Rattle.cds_gena.specs.declared.gena.Gena.{Gena}
use Rattle.cds_gena.specs.Subscribed.{Booked}
use Rattle.cds_server.specs.declared.asking.Asking.{Asking}
use Rattle.cds_server.specs.declared.asking.Asking.TheVariants as ask
use Rattle.cds_server.specs.declared.asking.EventRequest.{EventRequest}
use Rattle.cds_server.specs.declared.made.Settled.{Settled}
use Rattle.cds_server.specs.declared.notes.FirstNote.{FirstNote}
use Rattle.cds_server.specs.Asking.{ChangesNone, IsAsking, asked_command, asked_note, asked_reply, command_in, note_in, reply_in}
use Rattle.cds_server.specs.Outcome.{IsDone, and_command, outcome_in}
use Rattle.cds_server.specs.Replies.{Replied, command_at, note_at}
use Rattle.cds_server.specs.Serving.{Serving, StandsFor, IsServing}
use Rattle.cds_server.proofs.Stands.{event-accepted, event-note, event-replied, event-same, event-serving, event-stands}

-- ---- a request about a subscription

abbrev Answer : Type 0
Answer = Result Settled Memory

abbrev pub with_book : Serving → Booked → Serving
with_book serving after = record { store = serving.store; book = after; moderated = serving.moderated; stopped = serving.stopped }

module _ (serving : Serving) (now : ℕ) (gena : Gena) (old new : List ℕ) (after : Booked) (number : ℕ) (is : number ≡ serving.store.standing.number) where
  abbrev pub Done : Settled → Type 0
  Done settled = IsDone serving.book number now (outcome_in serving.book now (Ok gena)) old new settled after

  abbrev There : Settled → Type 0
  There settled = IsDone serving.book serving.store.standing.number now (outcome_in serving.book now (Ok gena)) old new settled after

  there : (settled : Settled) → Done settled → There settled
  there settled d = subst (λ n. IsDone serving.book n now (outcome_in serving.book now (Ok gena)) old new settled after) is d

  pub settled-serving : (r : Answer) → IfOk r Done → OnErr r (after ≡ serving.book) → IsServing serving → IsServing (with_book serving after)
  settled-serving (Ok settled) d stays kept = event-serving serving now (outcome_in serving.book now (Ok gena)) after kept (there settled d).kept
  settled-serving (Err memory) d stays kept = subst (λ b. IsServing (with_book serving b)) (sym stays) kept

  pub settled-replied : (r : Answer) → IfOk r Done → (start : Start) (commands : List Command) → StandsFor serving start commands
      → OnOk r (new ≡ old ++ asked_reply start commands now gena)
  settled-replied (Ok settled) d start commands s = event-replied serving start commands now gena old new settled after s (there settled d)
  settled-replied (Err memory) d start commands s = tt

  pub settled-stands : (r : Answer) → IfOk r Done → (start : Start) (commands : List Command) → StandsFor serving start commands
      → OnOk r (StandsFor (with_book serving after) start (and_command (asked_command start commands now gena) commands))
  settled-stands (Ok settled) d start commands s = event-stands serving start commands now gena old new settled after s (there settled d)
  settled-stands (Err memory) d start commands s = tt

  pub settled-note : (r : Answer) → IfOk r Done → (start : Start) (commands : List Command) → StandsFor serving start commands
      → IfOk r (λ settled. settled.note ≡ asked_note start commands now gena)
  settled-note (Ok settled) d start commands s = event-note serving start commands now gena old new settled after s (there settled d)
  settled-note (Err memory) d start commands s = tt

  pub settled-accepted : (r : Answer) → IfOk r Done → (start : Start) (commands : List Command) → StandsFor serving start commands
      → IfOk r (λ settled. settled.accepted ≡ is_some (asked_command start commands now gena))
  settled-accepted (Ok settled) d start commands s = event-accepted serving start commands now gena old new settled after s (there settled d)
  settled-accepted (Err memory) d start commands s = tt

  pub settled-same : (r : Answer) → IfOk r Done → OnErr r (after ≡ serving.book) → (start : Start) (commands : List Command) → StandsFor serving start commands
      → asked_command start commands now gena ≡ None → with_book serving after ≡ serving
  settled-same (Ok settled) d stays start commands s none =
      ap (λ b. with_book serving b) (event-same serving start commands now gena old new settled after s (there settled d) none)
  settled-same (Err memory) d stays start commands s none = ap (λ b. with_book serving b) stays

-- ---- what changes no server

pub unasked : (asking : Asking) → ((request : EventRequest) → asking ≡ ask.Subscription request → ⊥) → ChangesNone asking
unasked (ask.Ready text) other = tt
unasked (ask.Action host asked) other = tt
unasked (ask.Subscription request) other = absurd (other request refl)

no-command : (start : Start) (commands : List Command) (now : ℕ) (asking : Asking) → ChangesNone asking → command_in start commands now asking ≡ None
no-command start commands now (ask.Ready text) none = refl
no-command start commands now (ask.Action host asked) none = refl
no-command start commands now (ask.Subscription request) none = absurd none

no-note : (start : Start) (commands : List Command) (now : ℕ) (asking : Asking) → ChangesNone asking → note_in start commands now asking ≡ None
no-note start commands now (ask.Ready text) none = refl
no-note start commands now (ask.Action host asked) none = refl
no-note start commands now (ask.Subscription request) none = absurd none

-- ---- a message, by what was read of it

module _ (m : Message) (asking : Asking) (start : Start) (commands : List Command) (now : ℕ) (a : IsAsking m asking) where
  pub handled-replied : (old new : List ℕ) → new ≡ old ++ reply_in start commands now asking → Replied start commands now m old new
  handled-replied old new is = (reply_in start commands now asking, a.replies start commands now, is)

  pub handled-stands : (serving : Serving) → StandsFor serving start (and_command (command_in start commands now asking) commands)
      → StandsFor serving start (and_command (command_at start commands now m) commands)
  handled-stands serving s = subst (λ (c : Option Command). StandsFor serving start (and_command c commands)) (sym (a.command start commands now)) s

  pub handled-note : (first : Option FirstNote) → first ≡ note_in start commands now asking → first ≡ note_at start commands now m
  handled-note first is = is ∙ sym (a.note start commands now)

  pub handled-none : command_at start commands now m ≡ None → command_in start commands now asking ≡ None
  handled-none none = sym (a.command start commands now) ∙ none

  pub kept-stands : (old new : Serving) → ChangesNone asking → new ≡ old → StandsFor old start commands
      → StandsFor new start (and_command (command_at start commands now m) commands)
  kept-stands old new none same s =
      subst (λ (z : Serving). StandsFor z start (and_command (command_at start commands now m) commands)) (sym same)
      (handled-stands old
      (subst (λ (c : Option Command). StandsFor old start (and_command c commands)) (sym (no-command start commands now asking none)) s))

  pub kept-note : ChangesNone asking → None ≡ note_at start commands now m
  kept-note none = sym (a.note start commands now ∙ no-note start commands now asking none)
