-- What is read of a server's replies about subscriptions, and of the requests that carry notes.
use Rattle.std.proofs.Common.{◌≡◌, ℕ, ◌+◌, ◌<◌, ◌≤◌, ◌^◌, ◌==◌, Bool, true, false, cond, IfSome, List, [], ◌∷◌, ◌++◌, length, Option, Some, None, is_some, option_map, option_and_then, Result, Ok, Err, refl, ap, sym, subst, ◌∙◌, arith, true≢false, eqb-true, append-nil, length-append}
use Rattle.std.specs.Prelude.{codes}
use Rattle.std.specs.Fmt.{decimal, digits}
use Rattle.std.proofs.lemmas.Fmt.{length-decimal-le}
use Rattle.std.proofs.lemmas.List.Elements.{All-nil}
use Rattle.url.specs.Parts.{Parts}
use Rattle.cds_http.specs.declared.fields.Field.{Field}
use Rattle.cds_http.specs.declared.message.Message.{Message}
use Rattle.cds_http.specs.declared.message.Side.TheVariants.{Request, Reply}
use Rattle.cds_http.specs.declared.message.Start.{Start as Line}
use Rattle.cds_http.specs.declared.message.Start.TheVariants.{Request as of_request, Reply as of_reply}
use Rattle.cds_http.specs.Decided.{Decides}
use Rattle.cds_http.specs.Head.{head_limit, kept_fields}
use Rattle.cds_http.specs.Known.{Whole}
use Rattle.cds_http.specs.Returned.{IsReadBack, own_pairs, last_pairs}
use Rattle.cds_http.specs.Written.{field_line, field_lines, last_lines, line_break, request_line, request_text, reply_text}
use Rattle.cds_http.proofs.Returning.{replies_are_read_back}
use Rattle.cds_commands.specs.Commands.{Command, Renews, Ends}
use Rattle.cds_commands.specs.Names.{names_of}
use Rattle.cds_commands.specs.Notes.{Note}
use Rattle.cds_commands.specs.Subscriptions.{granted}
use Rattle.cds_gena.specs.Asked.{field_of, seconds_of, url_in}
use Rattle.cds_gena.specs.Leased.{has_status, lease_in, leased, only_field}
use Rattle.cds_gena.specs.SidText.{sid_in, sid_text}
use Rattle.cds_gena.specs.Written.{renewal_text, unsubscribe_text}
use Rattle.cds_gena.specs.WrittenLaws.{AreGranting}
use Rattle.cds_gena.specs.declared.address.Address.{Address}
use Rattle.cds_gena.specs.declared.lease.Lease.{Lease}
use Rattle.cds_gena.proofs.Leases.{leases-read, others-grant-nothing}
use Rattle.cds_notify.specs.Laws.{note_message}
use Rattle.cds_notify.specs.Notify.{field, host_of, note_fields, notify_text, target_of}
use Rattle.cds_notify.specs.Propertyset.{propertyset_text}
use Rattle.cds_notify.specs.Said.{Answers, IsNote, heading_of}
use Rattle.cds_notify.specs.declared.heading.Heading.{Heading}
use Rattle.cds_notify.specs.declared.note.NoteError.{NoteError}
use Rattle.cds_notify.specs.declared.note.NoteError.TheVariants.{Mem as NoMemory, Head, Precondition, Body}
use Rattle.cds_notify.proofs.Notes.{notes-read}
use Rattle.cds_notify.proofs.Reading.{one-answer}
use Rattle.cds_control.specs.Replies.{empty_reply}
use Rattle.cds_server.specs.Outcome.{lease_reply}
use Rattle.cds_server.specs.Serving.{Serving, StandsFor as ServerStandsFor}
use Rattle.cds_server.specs.declared.notes.FirstNote.{FirstNote}
use Rattle.cds_script.specs.Report.{given_up, lives, with_renewal}
use Rattle.cds_script.specs.Script.{granted_seconds, script_callback}
use Rattle.cds_script.specs.declared.reply.HeldReply.{HeldReply}
use Rattle.cds_script.specs.declared.reply.HeldReply.TheVariants.{NoReply, Named, Refusal}
use Rattle.cds_follow.specs.Inbox.{ReplicaTurn, Refuses}
use Rattle.cds_follow.specs.Named.{named, named_note}
use Rattle.cds_replica.specs.Calls.{GoesOn}
use Rattle.cds_replica.specs.State.{ReplicaState, StandsFor}
use Rattle.cds_replay.specs.Events.{CarriesNote, HasLease, HasSomeStatus, HasStatus, IsAnswered, IsAsked, IsNoteRequest, callback_url, event_url}
use Rattle.cds_replay.specs.Lines.{numbered_line}
use Rattle.cds_replay.specs.Sending.{SentNote, carries}
use Rattle.cds_commands.specs.Places.{seq_at, last_seq}
use Rattle.cds_commands.specs.Wire.{WireNote, on_wire}
use Rattle.cds_replay.specs.Session.{HeldTaken, IsHeldAs, IsSentAs, NameTaken, script_names, script_start}
use Rattle.cds_replay.specs.declared.session.TurnError.{TurnError}
use Rattle.cds_replay.proofs.Controlled.{one-message}
use Rattle.cds_replay.proofs.Heard.{refusal-taken}
use Rattle.cds_replay.proofs.EventAnswers.{EndedSo, RenewedSo, end-answered, length-head, length-line, length-lines, long-sid, renewal-answered}
use Rattle.cds_replay.proofs.EventUrls.{callback-goes, callback-host, callback-in, callback-target, callback-valid}

abbrev is-headed : Result Heading NoteError → Bool
is-headed (Ok heading) = true
is-headed (Err e) = false

-- ---- replies without a body

abbrev empty-message : ℕ → Message
empty-message status = record { start = of_reply status; fields = kept_fields (own_pairs ++ last_pairs 0); body = [] }

empty-whole : (status : ℕ) → 100 ≤ status → status < 1000 → length (reply_text status [] 0) ≤ head_limit →
    Decides false Reply (empty_reply status) (Whole (empty-message status) [])
empty-whole status low high short =
    subst (λ bytes. Decides false Reply bytes (Whole (empty-message status) [])) (append-nil (empty_reply status))
    (replies_are_read_back status [] [] [] false low high (All-nil IsReadBack) (omega arith) short (omega arith))

long-200 : length (reply_text 200 [] 0) ≡ 98
unfolding digits
long-200 = refl

long-412 : length (reply_text 412 [] 0) ≡ 115
unfolding digits
long-412 = refl

long-503 : length (reply_text 503 [] 0) ≡ 115
unfolding digits
long-503 = refl

whole-200 : Decides false Reply (empty_reply 200) (Whole (empty-message 200) [])
whole-200 = let l = long-200 in empty-whole 200 (omega arith) (omega arith) (omega (arith, l))

whole-412 : Decides false Reply (empty_reply 412) (Whole (empty-message 412) [])
whole-412 = let l = long-412 in empty-whole 412 (omega arith) (omega arith) (omega (arith, l))

whole-503 : Decides false Reply (empty_reply 503) (Whole (empty-message 503) [])
whole-503 = let l = long-503 in empty-whole 503 (omega arith) (omega arith) (omega (arith, l))

-- bytes have one status, and grant one thing
same-status : (a b : ℕ) → of_reply a ≡ of_reply b → a ≡ b
same-status a b e = cc

status-one : (reply : List ℕ) (m : Message) (code status : ℕ) → Decides false Reply reply (Whole m []) → m.start ≡ of_reply code → HasStatus reply status → status ≡ code
status-one reply m code status whole start has =
    same-status status code (sym has.2 ∙ ap (λ (n : Message). n.start) (one-message Reply reply has.0 m has.1 whole) ∙ start)

lease-one : (reply : List ℕ) (m : Message) (lease : Option Lease) → Decides false Reply reply (Whole m []) → HasLease reply lease → lease ≡ lease_in m
lease-one reply m lease whole has = has.2 ∙ ap lease_in (one-message Reply reply has.0 m has.1 whole)

pub empty-status-200 : (status : ℕ) → HasStatus (empty_reply 200) status → status ≡ 200
empty-status-200 status has = status-one (empty_reply 200) (empty-message 200) 200 status whole-200 refl has

pub empty-status-412 : (status : ℕ) → HasStatus (empty_reply 412) status → status ≡ 412
empty-status-412 status has = status-one (empty_reply 412) (empty-message 412) 412 status whole-412 refl has

pub empty-status-503 : (status : ℕ) → HasStatus (empty_reply 503) status → status ≡ 503
empty-status-503 status has = status-one (empty_reply 503) (empty-message 503) 503 status whole-503 refl has

pub no-lease : (lease : Option Lease) → HasLease (empty_reply 503) lease → lease ≡ None
no-lease lease has =
    lease-one (empty_reply 503) (empty-message 503) lease whole-503 has ∙ others-grant-nothing (empty-message 503) 503 refl (λ e. omega (arith, e))

-- ---- replies that grant

names-are : names_of (script_start last_seq 0) ≡ 0x80008000000000000000
names-are = refl

pub names-short : (number : ℕ) → number < 2 ^ 32 → script_names number < 2 ^ 128
names-short number low = short (names_of (script_start last_seq 0)) number names-are low
  where
    short : (names number : ℕ) → names ≡ 0x80008000000000000000 → number < 2 ^ 32 → names + number < 2 ^ 128
    short names number is low = omega (arith, is, low)

abbrev lease-for : ℕ → Lease
lease-for name = record { sid = record { 0 = name }; seconds = 1800 }

granting-message : (name : ℕ) → name < 2 ^ 128 → AreGranting false (lease_reply name 1800) (lease-for name) []
granting-message name low =
    subst (λ bytes. AreGranting false bytes (lease-for name) []) (append-nil (lease_reply name 1800))
    (leases-read (record { 0 = name }) 1800 [] false low (omega arith) (omega arith))

-- only a reply 200 grants
granting-start : (m : Message) (lease : Lease) → lease_in m ≡ Some lease → m.start ≡ of_reply 200
granting-start m lease grants = by m.start refl
  where
    granted-by : Option Lease
    granted-by = option_map (leased (seconds_of (field_of (codes "timeout") m.fields))) (option_and_then sid_in (only_field (codes "sid") m.fields))

    by : (line : Line) → m.start ≡ line → line ≡ of_reply 200
    by (of_request method target) e =
        let no : None ≡ Some lease = sym (ap (λ s. cond (has_status 200 s) granted-by None) e) ∙ grants in absurd (true≢false (sym (ap is_some no)))
    by (of_reply status) e = at (status == 200) refl
      where
        at : (b : Bool) → (status == 200) ≡ b → of_reply status ≡ of_reply 200
        at true same = ap of_reply (eqb-true status 200 same)
        at false other =
            let no : None ≡ Some lease = sym (others-grant-nothing m status e (λ is. absurd (true≢false (sym (ap (λ s. s == 200) is) ∙ other)))) ∙ grants in
            absurd (true≢false (sym (ap is_some no)))

pub lease-status : (name status : ℕ) → name < 2 ^ 128 → HasStatus (lease_reply name granted_seconds) status → status ≡ 200
lease-status name status low has =
    let g = granting-message name low in
    status-one (lease_reply name granted_seconds) g.message 200 status g.whole (granting-start g.message (lease-for name) g.grants) has

pub lease-named : (name : ℕ) (lease : Option Lease) → name < 2 ^ 128 → HasLease (lease_reply name granted_seconds) lease → lease ≡ Some (lease-for name)
lease-named name lease low has = let g = granting-message name low in lease-one (lease_reply name granted_seconds) g.message lease g.whole has ∙ g.grants

-- so each of these replies has a status
pub lease-has : (name : ℕ) → name < 2 ^ 128 → HasStatus (lease_reply name granted_seconds) 200
lease-has name low = let g = granting-message name low in (g.message, g.whole, granting-start g.message (lease-for name) g.grants)

pub empty-has-200 : HasStatus (empty_reply 200) 200
empty-has-200 = (empty-message 200, whole-200, refl)

pub empty-has-412 : HasStatus (empty_reply 412) 412
empty-has-412 = (empty-message 412, whole-412, refl)

pub empty-has-503 : HasStatus (empty_reply 503) 503
empty-has-503 = (empty-message 503, whole-503, refl)

-- ---- the reply that is held back

same-lease : (a b : Lease) → Some a ≡ Some b → a ≡ b
same-lease a b e = cc

-- it is a reply
pub held-has : (reply : List ℕ) (held : HeldReply) → IsHeldAs (Some reply) held → HasSomeStatus reply
held-has reply NoReply held = absurd held
held-has reply (Named name) held = subst HasSomeStatus (sym held.0) (200, lease-has (script_names name) (names-short name held.1))
held-has reply Refusal held = subst HasSomeStatus (sym held) (503, empty-has-503)

-- what grants something grants the name
pub held-name : (reply : List ℕ) (lease : Lease) (name : ℕ) → IsHeldAs (Some reply) (Named name) → HasLease reply (Some lease) → lease.sid.0 ≡ script_names name
held-name reply lease name held has =
    ap (λ (l : Lease). l.sid.0)
    (same-lease lease (lease-for (script_names name))
    (lease-named (script_names name) (Some lease) (names-short name held.1) (subst (λ bytes. HasLease bytes (Some lease)) held.0 has)))

-- and is no refusal
pub held-granted : (reply : List ℕ) (lease : Lease) → IsHeldAs (Some reply) Refusal → HasLease reply (Some lease) → ⊥
held-granted reply lease held has =
    true≢false (ap is_some (no-lease (Some lease) (subst (λ bytes. HasLease bytes (Some lease)) held has)))

-- what grants nothing names nothing
pub held-unnamed : (reply : List ℕ) (name : ℕ) → IsHeldAs (Some reply) (Named name) → HasLease reply None → ⊥
held-unnamed reply name held has =
    true≢false
    (sym (ap is_some (lease-named (script_names name) None (names-short name held.1) (subst (λ bytes. HasLease bytes None) held.0 has))))

-- and is the refusal
pub held-status : (reply : List ℕ) (status : ℕ) → IsHeldAs (Some reply) Refusal → HasStatus reply status → status ≡ 503
held-status reply status held has = empty-status-503 status (subst (λ bytes. HasStatus bytes status) held has)

pub refusal-line : numbered_line (codes "accept ") 503 ≡ codes "accept 503\n"
unfolding digits
refusal-line = refl

-- what grants something is taken as the name
pub lease-taken : (wrap : ℕ) (turns : List ReplicaTurn) (held : HeldReply) (reply : List ℕ) (lease : Lease) (was out : List ℕ) (new : ReplicaState) (result : Result (Unit {0}) TurnError) →
    IsHeldAs (Some reply) held → HasLease reply (Some lease) → ((name : ℕ) → lease.sid.0 ≡ script_names name → NameTaken wrap turns name was out new result) →
    HeldTaken wrap turns held was out new result
lease-taken wrap turns NoReply reply lease was out new result held has taken = absurd held
lease-taken wrap turns (Named name) reply lease was out new result held has taken = taken name (held-name reply lease name held has)
lease-taken wrap turns Refusal reply lease was out new result held has taken = absurd (held-granted reply lease held has)

-- and what grants nothing as the refusal
pub refusal-held : (wrap : ℕ) (turns : List ReplicaTurn) (held : HeldReply) (reply : List ℕ) (old new : ReplicaState) (was out : List ℕ) (status : ℕ) →
    StandsFor old wrap (named script_names turns) → IsHeldAs (Some reply) held → HasLease reply None → HasStatus reply status → GoesOn old Refuses new →
    out ≡ was ++ numbered_line (codes "accept ") status → HeldTaken wrap turns held was out new (Ok tt)
refusal-held wrap turns NoReply reply old new was out status stood held none has goes wrote = absurd held
refusal-held wrap turns (Named name) reply old new was out status stood held none has goes wrote = absurd (held-unnamed reply name held none)
refusal-held wrap turns Refusal reply old new was out status stood held none has goes wrote =
    refusal-taken old new wrap turns was out stood goes
    (wrote ∙ ap (λ n. was ++ numbered_line (codes "accept ") n) (held-status reply status held has) ∙ ap (λ t. was ++ t) refusal-line)

-- ---- what is asked about a subscription that stands

renewed-by : (lived : Bool) (wrap first now number : ℕ) (commands : List Command) (reply : List ℕ) (status : ℕ) (after : Serving) → script_names number < 2 ^ 128 →
    lives number now commands ≡ lived → RenewedSo lived number wrap first now commands reply after → HasStatus reply status →
    ServerStandsFor after (script_start wrap first) (with_renewal (Some number) now commands) × (status ≡ cond lived 200 412)
renewed-by true wrap first now number commands reply status after short e so has = (
  subst (λ (b : Bool). ServerStandsFor after (script_start wrap first) (cond b (Renews now number granted_seconds ∷ commands) commands)) (sym e) so.1,
  lease-status (script_names number) status short (subst (λ bytes. HasStatus bytes status) so.0 has),
)
renewed-by false wrap first now number commands reply status after short e so has = (
  subst (λ (b : Bool). ServerStandsFor after (script_start wrap first) (cond b (Renews now number granted_seconds ∷ commands) commands)) (sym e) so.1,
  empty-status-412 status (subst (λ bytes. HasStatus bytes status) so.0 has),
)

pub renewal-asked : (wrap first now name status : ℕ) (commands : List Command) (after : Serving) → granted commands < 2 ^ 32 → script_names name < 2 ^ 128 →
    IsAsked (script_start wrap first) commands now (renewal_text event_url (script_names name)) status after →
    ServerStandsFor after (script_start wrap first) (with_renewal (Some name) now commands) × (status ≡ cond (lives name now commands) 200 412)
renewal-asked wrap first now name status commands after few short asked =
    renewed-by (lives name now commands) wrap first now name commands asked.reply status after short refl
    (renewal-answered wrap first now name commands (omega (arith, few)) short asked.reply asked.note after asked.answered) asked.has

renewed-has : (lived : Bool) (wrap first now number : ℕ) (commands : List Command) (reply : List ℕ) (after : Serving) → script_names number < 2 ^ 128 →
    RenewedSo lived number wrap first now commands reply after → HasSomeStatus reply
renewed-has true wrap first now number commands reply after short so = subst HasSomeStatus (sym so.0) (200, lease-has (script_names number) short)
renewed-has false wrap first now number commands reply after short so = subst HasSomeStatus (sym so.0) (412, empty-has-412)

pub renewal-replies : (wrap first now name : ℕ) (commands : List Command) (reply : List ℕ) (note : Option FirstNote) (after : Serving) → granted commands < 2 ^ 32 →
    script_names name < 2 ^ 128 → IsAnswered (script_start wrap first) commands now (renewal_text event_url (script_names name)) [] reply note after → HasSomeStatus reply
renewal-replies wrap first now name commands reply note after few short answered =
    renewed-has (lives name now commands) wrap first now name commands reply after short
    (renewal-answered wrap first now name commands (omega (arith, few)) short reply note after answered)

ended-by : (lived : Bool) (wrap first now number : ℕ) (commands : List Command) (reply : List ℕ) (status : ℕ) (after : Serving) →
    lives number now commands ≡ lived → EndedSo lived number wrap first now commands reply after → HasStatus reply status →
    ServerStandsFor after (script_start wrap first) (given_up (Some number) now commands) × (status ≡ cond lived 200 412)
ended-by true wrap first now number commands reply status after e so has = (
  subst (λ (b : Bool). ServerStandsFor after (script_start wrap first) (cond b (Ends now number ∷ commands) commands)) (sym e) so.1,
  empty-status-200 status (subst (λ bytes. HasStatus bytes status) so.0 has),
)
ended-by false wrap first now number commands reply status after e so has = (
  subst (λ (b : Bool). ServerStandsFor after (script_start wrap first) (cond b (Ends now number ∷ commands) commands)) (sym e) so.1,
  empty-status-412 status (subst (λ bytes. HasStatus bytes status) so.0 has),
)

pub unsubscribe-asked : (wrap first now name status : ℕ) (commands : List Command) (after : Serving) → granted commands < 2 ^ 32 → script_names name < 2 ^ 128 →
    IsAsked (script_start wrap first) commands now (unsubscribe_text event_url (script_names name)) status after →
    ServerStandsFor after (script_start wrap first) (given_up (Some name) now commands) × (status ≡ cond (lives name now commands) 200 412)
unsubscribe-asked wrap first now name status commands after few short asked =
    ended-by (lives name now commands) wrap first now name commands asked.reply status after refl
    (end-answered wrap first now name commands (omega (arith, few)) short asked.reply asked.note after asked.answered) asked.has

ended-has : (lived : Bool) (wrap first now number : ℕ) (commands : List Command) (reply : List ℕ) (after : Serving) →
    EndedSo lived number wrap first now commands reply after → HasSomeStatus reply
ended-has true wrap first now number commands reply after so = subst HasSomeStatus (sym so.0) (200, empty-has-200)
ended-has false wrap first now number commands reply after so = subst HasSomeStatus (sym so.0) (412, empty-has-412)

pub unsubscribe-replies : (wrap first now name : ℕ) (commands : List Command) (reply : List ℕ) (note : Option FirstNote) (after : Serving) → granted commands < 2 ^ 32 →
    script_names name < 2 ^ 128 → IsAnswered (script_start wrap first) commands now (unsubscribe_text event_url (script_names name)) [] reply note after → HasSomeStatus reply
unsubscribe-replies wrap first now name commands reply note after few short answered =
    ended-has (lives name now commands) wrap first now name commands reply after
    (end-answered wrap first now name commands (omega (arith, few)) short reply note after answered)

-- ---- notes

short-decimal : (n : ℕ) → n < 2 ^ 32 → length (decimal n) ≤ 10
short-decimal n low = length-decimal-le 10 n (omega arith) (omega (arith, low)) (omega (arith, low))

short-end : (count : ℕ) → count < 2 ^ 32 → length (last_lines count) ≤ 50
short-end count low =
    let a = length-append (field_line (codes "CONTENT-LENGTH") (decimal count) ++ field_line (codes "CONNECTION") (codes "close")) line_break in
    let b = length-append (field_line (codes "CONTENT-LENGTH") (decimal count)) (field_line (codes "CONNECTION") (codes "close")) in
    let c = length-line (codes "CONTENT-LENGTH") (decimal count) in
    let d : length (field_line (codes "CONNECTION") (codes "close")) ≡ 19 = refl in
    let e : length (codes "CONTENT-LENGTH") ≡ 14 = refl in
    let f : length line_break ≡ 2 = refl in
    let g = short-decimal count low in
    omega (arith, a, b, c, d, e, f, g)

abbrev seq-field : ℕ → Field
seq-field seq = field (codes "SEQ") (decimal seq)

abbrev sid-fields : ℕ → ℕ → List Field
sid-fields name seq = field (codes "SID") (sid_text name) ∷ seq-field seq ∷ []

abbrev nts-fields : ℕ → ℕ → List Field
nts-fields name seq = field (codes "NTS") (codes "upnp:propchange") ∷ sid-fields name seq

abbrev nt-fields : ℕ → ℕ → List Field
nt-fields name seq = field (codes "NT") (codes "upnp:event") ∷ nts-fields name seq

abbrev type-fields : ℕ → ℕ → List Field
type-fields name seq = field (codes "CONTENT-TYPE") (codes "text/xml; charset=\"utf-8\"") ∷ nt-fields name seq

short-note : (name seq count : ℕ) → seq < 2 ^ 32 → count < 2 ^ 32 →
    length (request_text (codes "NOTIFY") (target_of callback_url) (note_fields (host_of callback_url) name seq) count) ≤ head_limit
short-note name seq count low few =
    let a = length-head (codes "NOTIFY") (target_of callback_url) (note_fields (host_of callback_url) name seq) count in
    let b : length (request_line (codes "NOTIFY") (target_of callback_url)) ≡ 25 = ap (λ t. length (request_line (codes "NOTIFY") t)) callback-target in
    let c = length-lines (field (codes "HOST") (host_of callback_url)) (type-fields name seq) in
    let d = length-lines (field (codes "CONTENT-TYPE") (codes "text/xml; charset=\"utf-8\"")) (nt-fields name seq) in
    let e = length-lines (field (codes "NT") (codes "upnp:event")) (nts-fields name seq) in
    let f = length-lines (field (codes "NTS") (codes "upnp:propchange")) (sid-fields name seq) in
    let g = length-lines (field (codes "SID") (sid_text name)) (seq-field seq ∷ []) in
    let h = length-lines (seq-field seq) [] in
    let i : length (field_lines []) ≡ 0 = refl in
    let j : length (host_of callback_url) ≡ 15 = ap length callback-host in
    let k = long-sid name in
    let l = short-decimal seq low in
    let m = short-end count few in
    let n : length (codes "HOST") ≡ 4 = refl in
    let o : length (codes "CONTENT-TYPE") ≡ 12 = refl in
    let p : length (codes "text/xml; charset=\"utf-8\"") ≡ 25 = refl in
    let q : length (codes "NT") ≡ 2 = refl in
    let r : length (codes "upnp:event") ≡ 10 = refl in
    let s : length (codes "NTS") ≡ 3 = refl in
    let t : length (codes "upnp:propchange") ≡ 15 = refl in
    let u : length (codes "SID") ≡ 3 = refl in
    let v : length (codes "SEQ") ≡ 3 = refl in
    omega (arith, a, b, c, d, e, f, g, h, i, j, k, l, m, n, o, p, q, r, s, t, u, v)

-- what carries a note to the callback of a script
carried-text : (to : Address) (body request : List ℕ) → to.callback ≡ script_callback → carries to body request → request ≡ notify_text callback_url to body
carried-text to body request at goes =
    subst (λ (o : Option Parts). IfSome o (λ (url : Parts). request ≡ notify_text url to body)) (ap url_in at ∙ callback-in) goes

pub note-read : (wrap : ℕ) (sent : SentNote) (note : Note) (containers : List (ℕ × ℕ)) (request : List ℕ) → IsSentAs wrap sent note containers →
    carries sent.to sent.body request → IsNoteRequest request (on_wire wrap (named_note script_names note))
note-read wrap sent note containers request is goes =
    let r = notes-read callback_url to note.number containers note.events [] false callback-valid callback-goes (names-short note.name is.name) is.seq is.numbers
    (let long = is.short in let same : length sent.body ≡ length body = ap length is.body in short-note (script_names note.name) (seq_at wrap note.place) (length body) is.seq (omega (arith, long, same)))
    (let long = is.short in let same : length sent.body ≡ length body = ap length is.body in omega (arith, long, same)) in
    record {
      message = note_message callback_url to body;
      whole = subst (λ bytes. Decides false Request bytes (Whole (note_message callback_url to body) []))
          (append-nil (notify_text callback_url to body) ∙ sym text) r.0;
      is = r.1;
    }
  where
    to : Address
    to = record { sid = record { 0 = script_names note.name }; callback = script_callback; seq = seq_at wrap note.place }

    body : List ℕ
    body = propertyset_text note.number containers note.events

    text : request ≡ notify_text callback_url to body
    text =
        carried-text sent.to sent.body request (ap (λ (a : Address). a.callback) is.to) goes
        ∙ (λ i. notify_text callback_url (is.to i) (is.body i))

-- a request that carries a note is answered with it, or by want of memory
pub note-refused : (request : List ℕ) (m : Message) (e : NoteError) → CarriesNote request → ((r : Message) → Decides false Request request (Whole r []) → m ≡ r) →
    Answers m (Err e) → e ≡ NoMemory
note-refused request m e some same answers = by e (subst (λ (n : Message). Answers n (Err e)) (same some.1.message some.1.whole) answers)
  where
    headed : (r : Result Heading NoteError) → heading_of some.1.message ≡ r → is-headed r ≡ true
    headed r is = ap is-headed (sym is ∙ some.1.is.heading)

    by : (e : NoteError) → Answers some.1.message (Err e) → e ≡ NoMemory
    by NoMemory answers = refl
    by Head answers = absurd (true≢false (sym (headed (Err Head) answers)))
    by Precondition answers = absurd (true≢false (sym (headed (Err Precondition) answers)))
    by Body answers = absurd (answers.none some.0.number some.0.events some.1.is.body)

-- the note that a request carries is the one that is read
pub one-note : (m : Message) (read note : WireNote) → Answers m (Ok read) → IsNote m note → read ≡ note
one-note m read note answers is =
    let e : Ok read ≡ Ok note = one-answer m (Ok read) (Ok note) answers is (λ e. cc) (λ e. cc) in cc

pub read-is-note : (request : List ℕ) (note : WireNote) (m : Message) (read : WireNote) → IsNoteRequest request note →
    ((r : Message) → Decides false Request request (Whole r []) → m ≡ r) → Answers m (Ok read) → read ≡ note
read-is-note request note m read is same answers =
    one-note m read note answers (subst (λ (x : Message). IsNote x note) (sym (same is.message is.whole)) is.is)
