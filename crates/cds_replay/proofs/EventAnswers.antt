-- What a script's server answers to the requests about its subscriptions.
use Rattle.std.proofs.Common.{◌≡◌, ◌⊎◌, inl, inr, ℕ, ◌+◌, ◌-◌, ◌<◌, ◌≤◌, ◌^◌, Bool, true, false, cond, ◌&&◌, nat_lt, nat_le, List, [], ◌∷◌, ◌++◌, length, Option, Some, None, Result, Ok, Err, IfOk, refl, ap, sym, subst, ◌∙◌, arith, ne_eqb, length-append, append-nil, ltb-true}
use Rattle.std.specs.Prelude.{codes, OnOk}
use Rattle.std.specs.Fmt.{digits}
use Rattle.std.specs.Int.{w128, to_be_bytes}
use Rattle.std.proofs.lemmas.Bool.{cases_lt}
use Rattle.std.proofs.lemmas.Bool.Decides.{nat_tests}
use Rattle.uuid.specs.Text.{hyphenated_text, lower}
use Rattle.uuid.proofs.TextLemmas.{by_index_length}
use Rattle.url.specs.Parts.{serialize}
use Rattle.url.proofs.OnLiterals.{url_on_literals}
use Rattle.cds_base.specs.declared.mem.Mem.{Mem as Memory}
use Rattle.cds_catalog.specs.History.{end_of}
use Rattle.cds_http.specs.declared.fields.Field.{Field}
use Rattle.cds_http.specs.declared.message.Message.{Message}
use Rattle.cds_http.specs.declared.message.Side.TheVariants.{Request}
use Rattle.cds_http.specs.declared.message.Start.TheVariants.{Request as of_request}
use Rattle.cds_http.specs.Decided.{Decides}
use Rattle.cds_http.specs.Head.{head_limit}
use Rattle.cds_http.specs.Known.{Whole}
use Rattle.cds_http.specs.Written.{line_break, field_line, field_lines, last_lines, request_line, request_text}
use Rattle.cds_commands.specs.Commands.{Command, Start, Renews, Ends, scans_of}
use Rattle.cds_commands.specs.Names.{names_of}
use Rattle.cds_commands.specs.Notes.{alive_names, first_note, has_room}
use Rattle.cds_commands.specs.Subscriptions.{granted, subscription_limit}
use Rattle.cds_gena.specs.SidText.{sid_text}
use Rattle.cds_gena.specs.Subscribed.{if_full, last_number, number_of}
use Rattle.cds_gena.specs.Written.{field, host_of, renewal_fields, renewal_text, subscribe_fields, subscribe_text, target_of, unsubscribe_fields, unsubscribe_text}
use Rattle.cds_gena.specs.WrittenLaws.{AreAsked}
use Rattle.cds_gena.specs.declared.error.GenaError.{GenaError}
use Rattle.cds_gena.specs.declared.error.GenaError.TheVariants.{Full, Spent}
use Rattle.cds_gena.specs.declared.gena.Gena.{Gena}
use Rattle.cds_gena.specs.declared.gena.Gena.TheVariants.{Subscribe, Renew, Unsubscribe}
use Rattle.cds_gena.proofs.Requests.{subscribes-read, renewals-read, unsubscribes-read}
use Rattle.cds_control.specs.Replies.{empty_reply}
use Rattle.cds_server.specs.Outcome.{GoesOut, Outcome, Refused, Granted, Renewed, Ended, and_command, command_of, granting, if_lives, lease_reply, living_number, noted, ending, outcome, outcome_note, outcome_of, outcome_reply, refusal_of, renewing}
use Rattle.cds_server.specs.Replies.{IsReplyOf, Replied, command_at, command_by, note_at, note_by}
use Rattle.cds_server.specs.Route.{Route, Subscribes, asks_events, route}
use Rattle.cds_server.specs.Serving.{Serving, StandsFor}
use Rattle.cds_server.specs.declared.notes.FirstNote.{FirstNote}
use Rattle.cds_server.proofs.Stands.{asks-way}
use Rattle.cds_script.specs.Report.{lives}
use Rattle.cds_script.specs.Script.{grant_at, granted_seconds, script_callback}
use Rattle.cds_replay.specs.Events.{HasStatus, IsAnswered, IsAsked, IsMessage, event_url, callback_url}
use Rattle.cds_commands.specs.Places.{last_seq}
use Rattle.cds_replay.specs.Session.{script_names, script_start}
use Rattle.cds_replay.proofs.Controlled.{one-message}
use Rattle.cds_replay.proofs.EventUrls.{event-goes, event-host, event-target, event-valid, callback-goes, callback-text, callback-valid}
use Rattle.cds_replay.proofs.Living.{living-alive, lives-granted}

-- ---- the heads of the requests are short

pub length-line : (name value : List ℕ) → length (field_line name value) ≡ length name + length value + 4
length-line name value =
    let a = length-append ((name ++ codes ": ") ++ value) line_break in
    let b = length-append (name ++ codes ": ") value in
    let c = length-append name (codes ": ") in
    let d : length (codes ": ") ≡ 2 = refl in
    let e : length line_break ≡ 2 = refl in
    omega (arith, a, b, c, d, e)

pub length-lines : (f : Field) (fields : List Field) → length (field_lines (f ∷ fields)) ≡ length f.name + length f.value + 4 + length (field_lines fields)
length-lines f fields =
    let a = length-append (field_line f.name f.value) (field_lines fields) in
    let b = length-line f.name f.value in
    omega (arith, a, b)

pub long-sid : (name : ℕ) → length (sid_text name) ≡ 41
long-sid name =
    let a = length-append (codes "uuid:") (hyphenated_text lower (to_be_bytes w128 name)) in
    let b : length (hyphenated_text lower (to_be_bytes w128 name)) ≡ 36 = by_index_length 36 _ in
    let c : length (codes "uuid:") ≡ 5 = refl in
    omega (arith, a, b, c)

pub length-head : (method target : List ℕ) (fields : List Field) (count : ℕ) →
    length (request_text method target fields count) ≡ length (request_line method target) + length (field_lines fields) + length (last_lines count)
length-head method target fields count =
    let a = length-append (request_line method target ++ field_lines fields) (last_lines count) in
    let b = length-append (request_line method target) (field_lines fields) in
    omega (arith, a, b)

pub short-end : length (last_lines 0) ≡ 40
unfolding digits
short-end = refl

short-subscribe : length (request_text (codes "SUBSCRIBE") (target_of event_url) (subscribe_fields event_url callback_url) 0) ≤ head_limit
unfolding url_on_literals
short-subscribe =
    let l : length (request_text (codes "SUBSCRIBE") (target_of event_url) (subscribe_fields event_url callback_url) 0) < head_limit =
    ltb-true (length (request_text (codes "SUBSCRIBE") (target_of event_url) (subscribe_fields event_url callback_url) 0)) head_limit refl in
    omega (arith, l)

abbrev host-field : Field
host-field = field (codes "HOST") (host_of event_url)

abbrev sid-field : ℕ → Field
sid-field name = field (codes "SID") (sid_text name)

abbrev timeout-field : Field
timeout-field = field (codes "TIMEOUT") (codes "Second-1800")

long-host : length (host_of event_url) ≡ 15
long-host = ap length event-host

short-renewal : (name : ℕ) → length (request_text (codes "SUBSCRIBE") (target_of event_url) (renewal_fields event_url name) 0) ≤ head_limit
short-renewal name =
    let a = length-head (codes "SUBSCRIBE") (target_of event_url) (renewal_fields event_url name) 0 in
    let b : length (request_line (codes "SUBSCRIBE") (target_of event_url)) ≡ 27 = ap (λ t. length (request_line (codes "SUBSCRIBE") t)) event-target in
    let c = length-lines host-field (sid-field name ∷ timeout-field ∷ []) in
    let d = length-lines (sid-field name) (timeout-field ∷ []) in
    let e : length (field_lines (timeout-field ∷ [])) ≡ 22 = refl in
    let f = long-host in
    let g = long-sid name in
    let h = short-end in
    let i : length (codes "HOST") ≡ 4 = refl in
    let j : length (codes "SID") ≡ 3 = refl in
    omega (arith, a, b, c, d, e, f, g, h, i, j)

short-unsubscribe : (name : ℕ) → length (request_text (codes "UNSUBSCRIBE") (target_of event_url) (unsubscribe_fields event_url name) 0) ≤ head_limit
short-unsubscribe name =
    let a = length-head (codes "UNSUBSCRIBE") (target_of event_url) (unsubscribe_fields event_url name) 0 in
    let b : length (request_line (codes "UNSUBSCRIBE") (target_of event_url)) ≡ 29 = ap (λ t. length (request_line (codes "UNSUBSCRIBE") t)) event-target in
    let c = length-lines host-field (sid-field name ∷ []) in
    let d = length-lines (sid-field name) [] in
    let e : length (field_lines []) ≡ 0 = refl in
    let f = long-host in
    let g = long-sid name in
    let h = short-end in
    let i : length (codes "HOST") ≡ 4 = refl in
    let j : length (codes "SID") ≡ 3 = refl in
    omega (arith, a, b, c, d, e, f, g, h, i, j)

-- ---- what comes of a request

-- a message that was handled, as the bytes of it were answered
pub handled : (result : Result (Option FirstNote) Memory) (start : Start) (commands : List Command) (now : ℕ) (request old new : List ℕ) (m : Message) (after : Serving) →
    IsMessage Request request → ((r : Message) → Decides false Request request (Whole r []) → m ≡ r) → OnOk result (Replied start commands now m old new) →
    OnOk result (StandsFor after start (and_command (command_at start commands now m) commands)) → IfOk result (λ (sent : Option FirstNote). sent ≡ note_at start commands now m) →
    IfOk result GoesOut → IfOk result (λ (sent : Option FirstNote). IsAnswered start commands now request old new sent after)
handled (Ok sent) start commands now request old new m after one is replied stands noted goes = record {
  message = m;
  whole = subst (λ (n : Message). Decides false Request request (Whole n [])) (sym (is one.0 one.1)) one.1;
  replied = replied;
  stands = stands;
  noted = noted;
  goes = goes;
}
handled (Err memory) start commands now request old new m after one is replied stands noted goes = tt

-- with the status of the reply
pub asked-by : (result : Result ℕ Memory) (start : Start) (commands : List Command) (now : ℕ) (request old reply bytes : List ℕ) (note : Option FirstNote) (after : Serving) →
    old ≡ [] → bytes ≡ reply → IsAnswered start commands now request old reply note after → IfOk result (λ (status : ℕ). HasStatus bytes status) →
    IfOk result (λ (status : ℕ). IsAsked start commands now request status after)
asked-by (Ok status) start commands now request old reply bytes first after none same answered has = record {
  reply = reply;
  note = first;
  answered = subst (λ o. IsAnswered start commands now request o reply first after) none answered;
  has = subst (λ b. HasStatus b status) same has;
}
asked-by (Err memory) start commands now request old reply bytes first after none same answered has = tt

-- where its message asks of a subscription at the target of events, and this comes of it
module _ (start : Start) (commands : List Command) (now : ℕ) (request old new : List ℕ) (note : Option FirstNote) (after : Serving) (method : List ℕ) (gena : Gena)
    (come : Outcome) (asked : AreAsked false request method event_url gena []) (events : asks_events (of_request method (codes "/event")) ≡ true)
    (comes : outcome_of (refusal_of now commands) (living_number start now commands) (Ok gena) ≡ come)
    (answered : IsAnswered start commands now request old new note after) where
  abbrev m : Message
  m = asked.message

  same : answered.message ≡ m
  same = one-message Request request answered.message m answered.whole asked.whole

  way : route m ≡ Subscribes
  way = asks-way m (ap asks_events (asked.start ∙ ap (of_request method) event-target) ∙ events)

  is : outcome start commands now m ≡ come
  is = ap (outcome_of (refusal_of now commands) (living_number start now commands)) asked.asks ∙ comes

  replied-so : new ≡ old ++ outcome_reply (names_of start) (granted commands) come
  replied-so =
      let r : Replied start commands now m old new = subst (λ (n : Message). Replied start commands now n old new) same answered.replied in
      let text : IsReplyOf start commands now m Subscribes r.0 = subst (λ (w : Route). IsReplyOf start commands now m w r.0) way r.1 in
      r.2 ∙ ap (λ t. old ++ t) (text ∙ ap (outcome_reply (names_of start) (granted commands)) is)

  noted-so : note ≡ outcome_note (names_of start) (granted commands) (end_of (scans_of start.first commands)) come
  noted-so =
      answered.noted ∙ ap (note_at start commands now) same
      ∙ ap (λ (w : Route). note_by w (outcome_note (names_of start) (granted commands) (end_of (scans_of start.first commands)) (outcome start commands now m))) way
      ∙ ap (outcome_note (names_of start) (granted commands) (end_of (scans_of start.first commands))) is

  stands-so : StandsFor after start (and_command (command_of now come) commands)
  stands-so =
      subst (λ (c : Option Command). StandsFor after start (and_command c commands))
      (ap (λ (w : Route). command_by w now (outcome start commands now m)) way ∙ ap (command_of now) is)
      (subst (λ (n : Message). StandsFor after start (and_command (command_at start commands now n) commands)) same answered.stands)

  comes-so : (new ≡ old ++ outcome_reply (names_of start) (granted commands) come)
      × (note ≡ outcome_note (names_of start) (granted commands) (end_of (scans_of start.first commands)) come)
      × StandsFor after start (and_command (command_of now come) commands)
  comes-so = (replied-so, noted-so, stands-so)

-- ---- a subscription is granted where there is room

abbrev pub asked-whole : List ℕ → List ℕ → Gena → Type 0
asked-whole request method gena = AreAsked false request method event_url gena []

pub subscribe-is : asked-whole (subscribe_text event_url callback_url) (codes "SUBSCRIBE") (Subscribe callback_url 1800)
subscribe-is =
    subst (λ r. asked-whole r (codes "SUBSCRIBE") (Subscribe callback_url 1800)) (append-nil (subscribe_text event_url callback_url))
    (subscribes-read event_url callback_url [] false event-valid event-goes callback-valid callback-goes short-subscribe)

pub renewal-is : (name : ℕ) → name < 2 ^ 128 → asked-whole (renewal_text event_url name) (codes "SUBSCRIBE") (Renew (record { 0 = name }) 1800)
renewal-is name low =
    subst (λ r. asked-whole r (codes "SUBSCRIBE") (Renew (record { 0 = name }) 1800)) (append-nil (renewal_text event_url name))
    (renewals-read event_url (record { 0 = name }) [] false event-valid event-goes low (short-renewal name))

pub unsubscribe-is : (name : ℕ) → name < 2 ^ 128 → asked-whole (unsubscribe_text event_url name) (codes "UNSUBSCRIBE") (Unsubscribe (record { 0 = name }))
unsubscribe-is name low =
    subst (λ r. asked-whole r (codes "UNSUBSCRIBE") (Unsubscribe (record { 0 = name }))) (append-nil (unsubscribe_text event_url name))
    (unsubscribes-read event_url (record { 0 = name }) [] false event-valid event-goes low (short-unsubscribe name))

-- what comes of the request: by whether there is room
abbrev pub grant_of : Bool → Outcome
grant_of true = Granted script_callback granted_seconds
grant_of false = Refused 503

full-or : (live : ℕ) (b : Bool) → nat_lt live subscription_limit ≡ b → granting (if_full live) (serialize callback_url) 1800 ≡ grant_of b
full-or live true e = ap (λ t. granting (cond t None (Some (Full live))) (serialize callback_url) 1800) e ∙ ap (λ c. Granted c 1800) callback-text
full-or live false e = ap (λ t. granting (cond t None (Some (Full live))) (serialize callback_url) 1800) e

pub subscribe-comes : (first now : ℕ) (commands : List Command) → granted commands < last_number → (number : ℕ → Option ℕ) →
    outcome_of (refusal_of now commands) number (Ok (Subscribe callback_url 1800)) ≡ grant_of (has_room now commands)
subscribe-comes first now commands left number =
    ap (λ b. granting (cond b (Some Spent) (if_full (length (alive_names now commands)))) (serialize callback_url) 1800)
    (ne_eqb (granted commands) last_number (λ e. omega (arith, e, left)))
    ∙ full-or (length (alive_names now commands)) (has_room now commands) refl

-- by whether there is room: the name is granted, and the first note sent; or nothing is done
abbrev pub IsSubscribed : Bool → ℕ → ℕ → ℕ → List Command → List ℕ → Option FirstNote → Serving → Type 0
IsSubscribed true wrap first now commands reply note after =
    (reply ≡ lease_reply (script_names (granted commands + 1)) granted_seconds)
    × (note ≡ Some (noted (script_names (granted commands + 1)) script_callback (first_note (granted commands + 1) (end_of (scans_of first commands)))))
    × StandsFor after (script_start wrap first) (grant_at now ∷ commands)
IsSubscribed false wrap first now commands reply note after = (reply ≡ empty_reply 503) × (note ≡ None) × StandsFor after (script_start wrap first) commands

pub subscribe-answered : (wrap first now : ℕ) (commands : List Command) (reply : List ℕ) (note : Option FirstNote) (after : Serving) → granted commands + 1 < 2 ^ 32 →
    IsAnswered (script_start wrap first) commands now (subscribe_text event_url callback_url) [] reply note after →
    IsSubscribed (has_room now commands) wrap first now commands reply note after
subscribe-answered wrap first now commands reply note after few answered = by (has_room now commands) refl
  where
    comes : (b : Bool) → has_room now commands ≡ b →
        outcome_of (refusal_of now commands) (living_number (script_start wrap first) now commands) (Ok (Subscribe callback_url 1800)) ≡ grant_of b
    comes b e = subscribe-comes first now commands (omega (arith, few)) (living_number (script_start wrap first) now commands) ∙ ap grant_of e

    by : (b : Bool) → has_room now commands ≡ b → IsSubscribed b wrap first now commands reply note after
    by true e =
        comes-so (script_start wrap first) commands now (subscribe_text event_url callback_url) [] reply note after (codes "SUBSCRIBE") (Subscribe callback_url 1800)
        (grant_of true) subscribe-is refl (comes true e) answered
    by false e =
        comes-so (script_start wrap first) commands now (subscribe_text event_url callback_url) [] reply note after (codes "SUBSCRIBE") (Subscribe callback_url 1800)
        (grant_of false) subscribe-is refl (comes false e) answered

-- ---- one that lives is renewed, and given up

both : (a b : Bool) → a ≡ true → b ≡ true → (a && b) ≡ true
both a b e f = ap (λ c. c && b) e ∙ f

neither : (a b : Bool) → b ≡ false → (a && b) ≡ false
neither true b e = e
neither false b e = refl

small : (a b : ℕ) → a ≤ b → nat_le a b ≡ true
small a b l = grind (arith, nat_tests)

large : (a b : ℕ) → b < a → nat_le a b ≡ false
large a b l = grind (arith, nat_tests)

number-back : (names number : ℕ) → names + number - names ≡ number
number-back names number = omega arith

its-number : (names number : ℕ) → number ≤ last_number → number_of names (names + number) ≡ Some number
its-number names number low =
    ap (λ d. cond (nat_le names (names + number) && nat_le d last_number) (Some d) None) (number-back names number)
    ∙ ap (λ b. cond b (Some number) None) (both (nat_le names (names + number)) (nat_le number last_number) (small names (names + number) (omega arith)) (small number last_number low))

no-number : (names number : ℕ) → last_number < number → number_of names (names + number) ≡ None
no-number names number high =
    ap (λ d. cond (nat_le names (names + number) && nat_le d last_number) (Some d) None) (number-back names number)
    ∙ ap (λ b. cond b (Some number) None) (neither (nat_le names (names + number)) (nat_le number last_number) (large number last_number high))

pub living-is : (wrap first now number : ℕ) (commands : List Command) → granted commands ≤ last_number →
    living_number (script_start wrap first) now commands (script_names number) ≡ cond (lives number now commands) (Some number) None
living-is wrap first now number commands few = by (cases_lt last_number number)
  where
    names : ℕ
    names = names_of (script_start last_seq 0)

    by : (last_number < number) ⊎ (number ≤ last_number) → if_lives now commands (number_of names (names + number)) ≡ cond (lives number now commands) (Some number) None
    by (inl high) =
        ap (if_lives now commands) (no-number names number high)
        ∙ ap (λ b. cond b (Some number) None) (sym (none (lives number now commands) refl))
      where
        none : (b : Bool) → lives number now commands ≡ b → b ≡ false
        none true e = let high-one = lives-granted number now commands e in absurd (omega (arith, high, high-one, few))
        none false e = refl
    by (inr low) =
        ap (if_lives now commands) (its-number names number low)
        ∙ ap (λ b. cond b (Some number) None) (sym (living-alive number now commands))

-- by whether it lives: its time begins anew; or nothing is done
abbrev pub RenewedSo : Bool → ℕ → ℕ → ℕ → ℕ → List Command → List ℕ → Serving → Type 0
RenewedSo true number wrap first now commands reply after =
    (reply ≡ lease_reply (script_names number) granted_seconds) × StandsFor after (script_start wrap first) (Renews now number granted_seconds ∷ commands)
RenewedSo false number wrap first now commands reply after = (reply ≡ empty_reply 412) × StandsFor after (script_start wrap first) commands

abbrev pub EndedSo : Bool → ℕ → ℕ → ℕ → ℕ → List Command → List ℕ → Serving → Type 0
EndedSo true number wrap first now commands reply after = (reply ≡ empty_reply 200) × StandsFor after (script_start wrap first) (Ends now number ∷ commands)
EndedSo false number wrap first now commands reply after = (reply ≡ empty_reply 412) × StandsFor after (script_start wrap first) commands

abbrev pub renewal_of : ℕ → Bool → Outcome
renewal_of number true = Renewed number 1800
renewal_of number false = Refused 412

abbrev pub end_so : ℕ → Bool → Outcome
end_so number true = Ended number
end_so number false = Refused 412

module _ (wrap first now number : ℕ) (commands : List Command) (few : granted commands ≤ last_number) (short : script_names number < 2 ^ 128) where
  abbrev start : Start
  start = script_start wrap first

  pub renewal-comes : (refusal : Option GenaError) (b : Bool) → lives number now commands ≡ b →
      outcome_of refusal (living_number start now commands) (Ok (Renew (record { 0 = script_names number }) 1800)) ≡ renewal_of number b
  renewal-comes refusal true e =
      ap (λ o. renewing o 1800) (living-is wrap first now number commands few ∙ ap (λ b. cond b (Some number) None) e)
  renewal-comes refusal false e =
      ap (λ o. renewing o 1800) (living-is wrap first now number commands few ∙ ap (λ b. cond b (Some number) None) e)

  pub end-comes : (refusal : Option GenaError) (b : Bool) → lives number now commands ≡ b →
      outcome_of refusal (living_number start now commands) (Ok (Unsubscribe (record { 0 = script_names number }))) ≡ end_so number b
  end-comes refusal true e = ap ending (living-is wrap first now number commands few ∙ ap (λ b. cond b (Some number) None) e)
  end-comes refusal false e = ap ending (living-is wrap first now number commands few ∙ ap (λ b. cond b (Some number) None) e)

  pub renewal-answered : (reply : List ℕ) (note : Option FirstNote) (after : Serving) →
      IsAnswered start commands now (renewal_text event_url (script_names number)) [] reply note after →
      RenewedSo (lives number now commands) number wrap first now commands reply after
  renewal-answered reply note after answered = by (lives number now commands) refl
    where
      by : (b : Bool) → lives number now commands ≡ b → RenewedSo b number wrap first now commands reply after
      by true e =
          let so = comes-so start commands now (renewal_text event_url (script_names number)) [] reply note after (codes "SUBSCRIBE")
          (Renew (record { 0 = script_names number }) 1800) (renewal_of number true) (renewal-is (script_names number) short) refl
          (renewal-comes (refusal_of now commands) true e) answered in
          (so.0, so.2)
      by false e =
          let so = comes-so start commands now (renewal_text event_url (script_names number)) [] reply note after (codes "SUBSCRIBE")
          (Renew (record { 0 = script_names number }) 1800) (renewal_of number false) (renewal-is (script_names number) short) refl
          (renewal-comes (refusal_of now commands) false e) answered in
          (so.0, so.2)

  pub end-answered : (reply : List ℕ) (note : Option FirstNote) (after : Serving) →
      IsAnswered start commands now (unsubscribe_text event_url (script_names number)) [] reply note after →
      EndedSo (lives number now commands) number wrap first now commands reply after
  end-answered reply note after answered = by (lives number now commands) refl
    where
      by : (b : Bool) → lives number now commands ≡ b → EndedSo b number wrap first now commands reply after
      by true e =
          let so = comes-so start commands now (unsubscribe_text event_url (script_names number)) [] reply note after (codes "UNSUBSCRIBE")
          (Unsubscribe (record { 0 = script_names number })) (end_so number true) (unsubscribe-is (script_names number) short) refl
          (end-comes (refusal_of now commands) true e) answered in
          (so.0, so.2)
      by false e =
          let so = comes-so start commands now (unsubscribe_text event_url (script_names number)) [] reply note after (codes "UNSUBSCRIBE")
          (Unsubscribe (record { 0 = script_names number })) (end_so number false) (unsubscribe-is (script_names number) short) refl
          (end-comes (refusal_of now commands) false e) answered in
          (so.0, so.2)
