-- What was delivered of the accepted name is received, and after `read none` nothing is to be read: the answer is complete.
use Rattle.std.proofs.Common.{◌≡◌, ◌⊎◌, inl, inr, ℕ, zero, suc, ◌+◌, ◌<◌, ◌≤◌, List, [], ◌∷◌, ◌++◌, length, take, drop, Bool, true, false, cond, not, ◌&&◌, ◌||◌, nat_eq, nat_lt, nat_le, refl, ap, sym, subst, ◌∙◌, arith, true≢false, eq-eqb, ltb-true, Option, Some, None}
use Rattle.std.specs.Prelude.{codes}
use Rattle.std.specs.Fmt.{digits}
use Rattle.std.specs.Option.{option_eq}
use Rattle.std.specs.List.{AllByRecursion, list_all, slice_get}
use Rattle.std.proofs.lemmas.Bool.{and_parts, ne_eqb, leb-true}
use Rattle.cds_object.specs.declared.record.Record.{Record}
use Rattle.cds_object.specs.Object.{ObjectRow, is_folder}
use Rattle.cds_object.specs.Tree.{row_of, children_of}
use Rattle.cds_load.specs.Server.{Moment, page_size, update_of, reply_to, metadata_reply, children_reply}
use Rattle.cds_script.specs.Report.{read_text, reply_text, first_of, clock_of, records_since, Played, after_reply, after_note, reaching, is_recent_one, sent_note, lives, given_up, with_renewal, play, played, script_token}
use Rattle.cds_load.specs.declared.exchange.Ask.{Ask as Asked}
use Rattle.cds_load.specs.declared.exchange.Ask.TheVariants.{Token, Number as AskNumber, Metadata, Children}
use Rattle.cds_load.specs.declared.exchange.Shown.TheVariants.{Page, Fault}
use Rattle.cds_commands.specs.Commands.{Command, Renews, Ends, Ticks, scans_of}
use Rattle.cds_commands.specs.Notes.{Note, has_room, notes_of, sent_by}
use Rattle.cds_commands.specs.Subscriptions.{granted}
use Rattle.cds_follow.specs.Inbox.{ReplicaTurn, Begins, Shows, Requests, Accepts, Delivers, Arrival, IsUnknown, IsRepeat, IsTooMany, IsEarly, IsHeld, IsNext, is_out, accepted, is_accepted, is_early, early_notes, received, has_place, taken_by, arrival}
use Rattle.cds_follow.specs.Follow.{Known, with_notes, is_turned_away, is_refused, and_turn, known_by, next_ask}
use Rattle.cds_follow.specs.Given.{moment_after, asked_at}
use Rattle.cds_commands.specs.Wire.{on_wire}
use Rattle.cds_follow.specs.Wire.{placed, arrival_by_seq, arrival_of, arrival_on_wire, is_recent}
use Rattle.cds_follow.proofs.Wire.{placed-or-unknown}
use Rattle.cds_commands.proofs.Among.{Among, among-contained, among-all, among-filter}
use Rattle.cds_commands.proofs.Sent.{Sound, all-sound}
use Rattle.cds_script.specs.declared.turn.ScriptTurn.{ScriptTurn}
use Rattle.cds_script.specs.declared.turn.ScriptTurn.TheVariants.{Folder, Track, Tag, Scan, Load, Read, Ask, First, Wrap, At, Subscribe, Accept, Renew, Unsubscribe, Deliver, ReadFault}
use Rattle.cds_script.specs.Played.{AllStand}
use Rattle.cds_script.specs.Complete.{is_lost, delivered_notes_are_received, is_quiet, nothing_is_to_be_read, all_answers_are_complete}
use Rattle.cds_script.proofs.Given.{Waits, Kept, ScannedCases, scanned-cases, granted-rises, sent-place, sent-contained, turns-kept}
use Rattle.cds_script.proofs.Wrapped.{wide}
use Rattle.cds_script.proofs.Stood.{note-taken, name-taken, may-before_ask, answers-are_complete}
use Rattle.cds_script.specs.declared.reply.HeldReply.{HeldReply}
use Rattle.cds_script.specs.declared.reply.HeldReply.TheVariants.{NoReply, Named, Refusal}
use Rattle.cds_script.specs.Script.{grant_at, granted_seconds}
use Rattle.cds_load.specs.Outcome.{Goes, is_no}

-- ---- the note of a number

get-append : (n : ℕ) (notes more : List Note) (note : Note) → slice_get notes n ≡ Some note → slice_get (notes ++ more) n ≡ Some note
get-append n [] more note e = absurd (cc)
get-append zero (other ∷ notes) more note e = e
get-append (suc n) (other ∷ notes) more note e = get-append n notes more note e

sent-append : (number : ℕ) (notes more : List Note) (note : Note) → sent_note number notes ≡ Some note → sent_note number (notes ++ more) ≡ Some note
sent-append zero notes more note e = absurd (cc)
sent-append (suc n) notes more note e = sent-place n (notes ++ more) ∙ get-append n notes more note (sym (sent-place n notes) ∙ e)

-- a number from 1 up to how many there are has a note
get-there : (n : ℕ) (notes : List Note) → n < length notes → (note : Note) × (slice_get notes n ≡ Some note)
get-there n [] low = absurd (omega (arith, low))
get-there zero (note ∷ notes) low = (note, refl)
get-there (suc n) (note ∷ notes) low = get-there n notes (omega (arith, low))

sent-there : (number : ℕ) (notes : List Note) → 0 < number → number ≤ length notes → (note : Note) × (sent_note number notes ≡ Some note)
sent-there zero notes low high = absurd (omega (arith, low))
sent-there (suc n) notes low high = let there = get-there n notes (omega (arith, high)) in (there.0, sent-place n notes ∙ there.1)

sent-among : (number : ℕ) (notes : List Note) (note : Note) → sent_note number notes ≡ Some note → Among note notes
sent-among number notes note e = among-contained notes note (sent-contained number notes note e)

-- what holds of the note of each number holds of each note
sent-later : (n : ℕ) (other : Note) (notes : List Note) (note : Note) → sent_note n notes ≡ Some note → sent_note (suc n) (other ∷ notes) ≡ Some note
sent-later zero other notes note e = absurd (cc)
sent-later (suc n) other notes note e = sent-place (suc n) (other ∷ notes) ∙ sym (sent-place n notes) ∙ e

sent-all : (P : Note → Type 0) (notes : List Note) → ((number : ℕ) (note : Note) → sent_note number notes ≡ Some note → P note) → AllByRecursion P notes
sent-all P [] h = tt
sent-all P (note ∷ notes) h = (h 1 note refl, sent-all P notes (λ number other e. h (suc number) other (sent-later number note notes other e)))

-- ---- names

-- the accepted name was granted, and before the one whose reply is held back
record NamesRise (p : Played) : Type 0 where
  granted_one : (name : ℕ) → accepted p.replica ≡ Some name → name ≤ granted p.commands
  before : (name next : ℕ) → accepted p.replica ≡ Some name → p.reply ≡ Named next → name < next

accepted-and : (turn : ReplicaTurn) (turns : List ReplicaTurn) → accepted (turn ∷ turns) ≡ accepted turns → accepted (and_turn turn turns) ≡ accepted turns
accepted-and turn turns e = by (is_refused turn turns)
  where
    by : (b : Bool) → accepted (cond b turns (turn ∷ turns)) ≡ accepted turns
    by true = refl
    by false = e

accepted-asked : (moment : Moment) (turns : List ReplicaTurn) (o : Option Asked) → accepted (asked_at moment turns o) ≡ accepted turns
accepted-asked moment turns None = refl
accepted-asked moment turns (Some ask) = accepted-and (Shows (reply_to moment ask)) turns refl

accepted-noted : (o : Option Note) (turns : List ReplicaTurn) → accepted (after_note o turns) ≡ accepted turns
accepted-noted None turns = refl
accepted-noted (Some note) turns = accepted-and (Delivers note) turns refl

replica-named : (p : Played) (then : List ReplicaTurn) → accepted then ≡ accepted p.replica → NamesRise p → NamesRise (record p { replica = then })
replica-named p then e named = record {
  granted_one = λ name f. named.granted_one name (sym e ∙ f);
  before = λ name next f g. named.before name next (sym e ∙ f) g;
}

command-named : (p : Played) (command : Command) → NamesRise p → NamesRise (record p { commands = command ∷ p.commands })
command-named p command named = record {
  granted_one = λ name f. let one = named.granted_one name f in let rise = granted-rises command p.commands in omega (arith, one, rise);
  before = named.before;
}

same-named : (p : Played) (commands : List Command) → commands ≡ p.commands → NamesRise p → NamesRise (record p { commands = commands })
same-named p commands e named = record {
  granted_one = λ name f. let one = named.granted_one name f in let same = ap granted e in omega (arith, one, same);
  before = named.before;
}

reply-named : (first wrap : ℕ) (commands : List Command) (replica : List ReplicaTurn) (reply : HeldReply) →
    Kept first (record { commands = commands; replica = replica; reply = reply; wrap = wrap }) →
    NamesRise (record { commands = commands; replica = replica; reply = reply; wrap = wrap }) →
    NamesRise (record { commands = commands; replica = after_reply reply replica; reply = NoReply; wrap = wrap })
reply-named first wrap commands replica NoReply kept named = record { granted_one = named.granted_one; before = λ name next f g. absurd (cc) }
reply-named first wrap commands replica Refusal kept named = record { granted_one = named.granted_one; before = λ name next f g. absurd (cc) }
reply-named first wrap commands replica (Named other) kept named = record {
  granted_one = λ name f. by name (is_refused (Accepts other) replica) f;
  before = λ name next f g. absurd (cc);
}
  where
    by : (name : ℕ) (b : Bool) → accepted (cond b replica (Accepts other ∷ replica)) ≡ Some name → name ≤ granted commands
    by name true f = named.granted_one name f
    by name false f = let same : other ≡ name = cc in let high = kept.waits.2 in omega (arith, same, high)

step-named : (first now : ℕ) (records : List Record) (p : Played) → Kept first p → NamesRise p → (turn : ScriptTurn) → NamesRise (play first now records p turn)
step-named first now records p kept named (Folder path) = named
step-named first now records p kept named (Track path info size) = named
step-named first now records p kept named (Tag comment) = named
step-named first now records p kept named Scan = by _ (scanned-cases (scans_of first p.commands) records p.commands)
  where
    by : (after : List Command) → ScannedCases (scans_of first p.commands) records p.commands after → NamesRise (record p { commands = after })
    by after (inl e) = same-named p after e named
    by after (inr e) = subst (λ (cs : List Command). NamesRise (record p { commands = cs })) (sym e.3) (command-named p _ named)
step-named first now records p kept named Load = replica-named p (Begins ∷ p.replica) refl named
step-named first now records p kept named Read =
    replica-named p (asked_at (moment_after script_token first p.commands) p.replica (next_ask (known_by p.replica)))
    (accepted-asked (moment_after script_token first p.commands) p.replica (next_ask (known_by p.replica))) named
step-named first now records p kept named Ask = named
step-named first now records p kept named (First number) = named
step-named first now records p kept named (Wrap number) = record { granted_one = named.granted_one; before = named.before }
step-named first now records p kept named (At moment) = command-named p (Ticks moment) named
step-named first now records p kept named Subscribe = by (has_room now p.commands)
  where
    by : (b : Bool) → NamesRise (cond b
        (record p { commands = grant_at now ∷ p.commands; replica = Requests ∷ p.replica; reply = Named (granted p.commands + 1) })
        (record p { replica = Requests ∷ p.replica; reply = Refusal }))
    by true = record {
      granted_one = λ name f. let one = named.granted_one name f in omega (arith, one);
      before = λ name next f g. let one = named.granted_one name f in let same : granted p.commands + 1 ≡ next = cc in omega (arith, one, same);
    }
    by false = record { granted_one = named.granted_one; before = λ name next f g. absurd (cc) }
step-named first now records p kept named Accept = reply-named first p.wrap p.commands p.replica p.reply
    (record { accepted = kept.accepted; entries = kept.entries; given = kept.given; are = kept.are; within = kept.within; waits = kept.waits })
    (record { granted_one = named.granted_one; before = named.before })
step-named first now records p kept named Renew = by (accepted p.replica)
  where
    on : (name : ℕ) (b : Bool) → NamesRise (record p { commands = cond b (Renews now name granted_seconds ∷ p.commands) p.commands })
    on name true = command-named p (Renews now name granted_seconds) named
    on name false = same-named p p.commands refl named

    by : (o : Option ℕ) → NamesRise (record p { commands = with_renewal o now p.commands })
    by None = same-named p p.commands refl named
    by (Some name) = on name (lives name now p.commands)
step-named first now records p kept named Unsubscribe = by (accepted p.replica)
  where
    on : (name : ℕ) (b : Bool) → NamesRise (record p { commands = cond b (Ends now name ∷ p.commands) p.commands })
    on name true = command-named p (Ends now name) named
    on name false = same-named p p.commands refl named

    by : (o : Option ℕ) → NamesRise (record p { commands = given_up o now p.commands })
    by None = same-named p p.commands refl named
    by (Some name) = on name (lives name now p.commands)
step-named first now records p kept named (Deliver note) =
    replica-named p (after_note (reaching p.wrap p.replica (sent_note note (notes_of first p.commands))) p.replica)
    (accepted-noted (reaching p.wrap p.replica (sent_note note (notes_of first p.commands))) p.replica) named
step-named first now records p kept named ReadFault = named

nothing-named : NamesRise (played [])
nothing-named = record { granted_one = λ name f. absurd (cc); before = λ name next f g. absurd (cc) }

-- the first number of older turns is not above the last
low-older : (turn : ScriptTurn) (older : List ScriptTurn) → first_of (turn ∷ older) ≤ 4294967295 → first_of older ≤ 4294967295
low-older turn [] low = omega arith
low-older turn (next ∷ older) low = low

turns-named : (turns : List ScriptTurn) → first_of turns ≤ 4294967295 → AllStand turns → NamesRise (played turns)
turns-named [] low all = nothing-named
turns-named (turn ∷ older) low all =
    step-named (first_of older) (clock_of older) (records_since older) (played older) (turns-kept older (low-older turn older low) all.1)
    (turns-named older (low-older turn older low) all.1) turn

-- ---- a note that was delivered

-- it is received, where its name is the accepted one; and early, where the reply that is held back is its name
record Got (p : Played) (note : Note) : Type 0 where
  taken : accepted p.replica ≡ Some note.name → Among note (received p.replica)
  early : p.reply ≡ Named note.name → Among note (early_notes p.replica)

is-accepted : (note : Note) (r : List ReplicaTurn) → accepted r ≡ Some note.name → is_accepted note.name r ≡ true
is-accepted note r e = ap (λ o. option_eq nat_eq o (Some note.name)) e ∙ eq-eqb note.name note.name refl

-- a request is out while a reply is held back
waits-out : (first : ℕ) (p : Played) (kept : Kept first p) (name : ℕ) → p.reply ≡ Named name → is_out p.replica ≡ true
waits-out first p kept name e = (subst (Waits p.commands kept.entries p.replica) e kept.waits).0

delivered-got : (first number : ℕ) (p : Played) (note : Note) → Kept first p → NamesRise p → sent_note number (notes_of first p.commands) ≡ Some note →
    is_turned_away (arrival note p.replica) ≡ false → Got (record p { replica = and_turn (Delivers note) p.replica }) note
delivered-got first number p note kept named sent free =
    subst (λ (b : Bool). Got (record p { replica = cond b r (Delivers note ∷ r) }) note) refused added
  where
    r : List ReplicaTurn
    r = p.replica

    ok : (now : Known) × (with_notes (taken_by (Delivers note) r) (known_by r) ≡ Goes now)
    ok = note-taken first p kept number note sent

    refused : false ≡ is_refused (Delivers note) r
    refused = λ i. sym free i || is_no (sym ok.1 i)

    added : Got (record p { replica = Delivers note ∷ r }) note
    added = record {
      taken = λ e. subst (λ (b : Bool). Among note (cond b (note ∷ received r) (received r))) (sym (is-accepted note r e)) (inl refl);
      early = λ e.
          let apart : is_accepted note.name r ≡ false = other (accepted r) refl e in
          subst (λ (b : Bool). Among note (cond b (note ∷ early_notes r) (early_notes r))) (λ i. sym (waits-out first p kept note.name e) i && not (sym apart i)) (inl refl);
    }
      where
        other : (o : Option ℕ) → accepted r ≡ o → p.reply ≡ Named note.name → is_accepted note.name r ≡ false
        other None f e = ap (λ v. option_eq nat_eq v (Some note.name)) f
        other (Some name) f e =
            let less = named.before name note.name f e in
            ap (λ v. option_eq nat_eq v (Some note.name)) f ∙ ne_eqb name note.name (λ g. omega (arith, less, g))

-- ---- later turns leave it

record Keeps (then r : List ReplicaTurn) : Type 0 where
  name : accepted then ≡ accepted r
  more : (note : Note) → Among note (received r) → Among note (received then)
  early : (note : Note) → Among note (early_notes r) → Among note (early_notes then)

same-keeps : (r : List ReplicaTurn) → Keeps r r
same-keeps r = record { name = refl; more = λ note a. a; early = λ note a. a }

and-keeps : (turn : ReplicaTurn) (r : List ReplicaTurn) → Keeps (turn ∷ r) r → Keeps (and_turn turn r) r
and-keeps turn r k = by (is_refused turn r)
  where
    by : (b : Bool) → Keeps (cond b r (turn ∷ r)) r
    by true = same-keeps r
    by false = k

asked-keeps : (moment : Moment) (r : List ReplicaTurn) (o : Option Asked) → Keeps (asked_at moment r o) r
asked-keeps moment r None = same-keeps r
asked-keeps moment r (Some ask) = and-keeps (Shows (reply_to moment ask)) r (record { name = refl; more = λ note a. a; early = λ note a. a })

noted-keeps : (o : Option Note) (r : List ReplicaTurn) → Keeps (after_note o r) r
noted-keeps None r = same-keeps r
noted-keeps (Some other) r = and-keeps (Delivers other) r (record {
  name = refl;
  more = λ note a. on note (is_accepted other.name r) (received r) a;
  early = λ note a. on note (is_early other r) (early_notes r) a;
})
  where
    on : (note : Note) (b : Bool) (notes : List Note) → Among note notes → Among note (cond b (other ∷ notes) notes)
    on note true notes a = inr a
    on note false notes a = a

keeps-got : (p : Played) (then : List ReplicaTurn) (note : Note) → Keeps then p.replica → Got p note → Got (record p { replica = then }) note
keeps-got p then note k got = record {
  taken = λ e. k.more note (got.taken (sym k.name ∙ e));
  early = λ e. k.early note (got.early e);
}

reply-got : (first : ℕ) (p : Played) (note : Note) → Kept first p → Got p note → (o : HeldReply) → p.reply ≡ o →
    Got (record p { replica = after_reply o p.replica; reply = NoReply }) note
reply-got first p note kept got NoReply e = record { taken = got.taken; early = λ f. absurd (cc) }
reply-got first p note kept got Refusal e = record { taken = got.taken; early = λ f. absurd (cc) }
reply-got first p note kept got (Named name) e =
    let ok = name-taken first p kept name e in
    subst (λ (b : Bool). Got (record p { replica = cond b p.replica (Accepts name ∷ p.replica); reply = NoReply }) note) (sym (ap is_no ok.1))
    (record {
      taken = λ f.
          let same : name ≡ note.name = cc in
          among-filter (λ (n : Note). nat_eq n.name name) (early_notes p.replica) note (got.early (e ∙ ap (λ v. Named v) same)) (eq-eqb note.name name (sym same));
      early = λ f. absurd (cc);
    })

-- ---- the note of a number stays

step-sent : (first now number : ℕ) (records : List Record) (p : Played) (note : Note) → sent_note number (notes_of first p.commands) ≡ Some note → (turn : ScriptTurn) →
    sent_note number (notes_of first (play first now records p turn).commands) ≡ Some note
step-sent first now number records p note e (Folder path) = e
step-sent first now number records p note e (Track path info size) = e
step-sent first now number records p note e (Tag comment) = e
step-sent first now number records p note e Scan = by _ (scanned-cases (scans_of first p.commands) records p.commands)
  where
    by : (after : List Command) → ScannedCases (scans_of first p.commands) records p.commands after → sent_note number (notes_of first after) ≡ Some note
    by after (inl f) = ap (λ (cs : List Command). sent_note number (notes_of first cs)) f ∙ e
    by after (inr f) = ap (λ (cs : List Command). sent_note number (notes_of first cs)) f.3 ∙ sent-append number (notes_of first p.commands) [] note e
step-sent first now number records p note e Load = e
step-sent first now number records p note e Read = e
step-sent first now number records p note e Ask = e
step-sent first now number records p note e (First other) = e
step-sent first now number records p note e (Wrap other) = e
step-sent first now number records p note e (At moment) =
    sent-append number (notes_of first p.commands) (sent_by first p.commands (notes_of first p.commands) (Ticks moment)) note e
step-sent first now number records p note e Subscribe = by (has_room now p.commands)
  where
    by : (b : Bool) → let after : Played = cond b
        (record p { commands = grant_at now ∷ p.commands; replica = Requests ∷ p.replica; reply = Named (granted p.commands + 1) })
        (record p { replica = Requests ∷ p.replica; reply = Refusal }) in sent_note number (notes_of first after.commands) ≡ Some note
    by true = sent-append number (notes_of first p.commands) (sent_by first p.commands (notes_of first p.commands) (grant_at now)) note e
    by false = e
step-sent first now number records p note e Accept = e
step-sent first now number records p note e Renew = by (accepted p.replica)
  where
    on : (name : ℕ) (b : Bool) → sent_note number (notes_of first (cond b (Renews now name granted_seconds ∷ p.commands) p.commands)) ≡ Some note
    on name true = sent-append number (notes_of first p.commands) [] note e
    on name false = e

    by : (o : Option ℕ) → sent_note number (notes_of first (with_renewal o now p.commands)) ≡ Some note
    by None = e
    by (Some name) = on name (lives name now p.commands)
step-sent first now number records p note e Unsubscribe = by (accepted p.replica)
  where
    on : (name : ℕ) (b : Bool) → sent_note number (notes_of first (cond b (Ends now name ∷ p.commands) p.commands)) ≡ Some note
    on name true = sent-append number (notes_of first p.commands) [] note e
    on name false = e

    by : (o : Option ℕ) → sent_note number (notes_of first (given_up o now p.commands)) ≡ Some note
    by None = e
    by (Some name) = on name (lives name now p.commands)
step-sent first now number records p note e (Deliver other) = e
step-sent first now number records p note e ReadFault = e

known-note : (first number : ℕ) (commands : List Command) (note : Note) → sent_note number (notes_of first commands) ≡ Some note → note.name ≤ granted commands
known-note first number commands note e =
    (among-all (Sound first commands) (notes_of first commands) note (all-sound first commands) (sent-among number (notes_of first commands) note e)).known

-- ---- and so does what was delivered

step-got : (first now number : ℕ) (records : List Record) (p : Played) (note : Note) → Kept first p → sent_note number (notes_of first p.commands) ≡ Some note → Got p note → (turn : ScriptTurn) →
    Got (play first now records p turn) note
step-got first now number records p note kept e got (Folder path) = got
step-got first now number records p note kept e got (Track path info size) = got
step-got first now number records p note kept e got (Tag comment) = got
step-got first now number records p note kept e got Scan = record { taken = got.taken; early = got.early }
step-got first now number records p note kept e got Load =
    keeps-got p (Begins ∷ p.replica) note (record { name = refl; more = λ note a. a; early = λ note a. a }) got
step-got first now number records p note kept e got Read =
    keeps-got p (asked_at (moment_after script_token first p.commands) p.replica (next_ask (known_by p.replica))) note
    (asked-keeps (moment_after script_token first p.commands) p.replica (next_ask (known_by p.replica))) got
step-got first now number records p note kept e got Ask = got
step-got first now number records p note kept e got (First other) = got
step-got first now number records p note kept e got (Wrap other) = record { taken = got.taken; early = got.early }
step-got first now number records p note kept e got (At moment) = record { taken = got.taken; early = got.early }
step-got first now number records p note kept e got Subscribe = by (has_room now p.commands)
  where
    by : (b : Bool) → Got (cond b
        (record p { commands = grant_at now ∷ p.commands; replica = Requests ∷ p.replica; reply = Named (granted p.commands + 1) })
        (record p { replica = Requests ∷ p.replica; reply = Refusal })) note
    by true = record {
      taken = got.taken;
      early = λ f. let same : granted p.commands + 1 ≡ note.name = cc in let known = known-note first number p.commands note e in absurd (omega (arith, same, known));
    }
    by false = record { taken = got.taken; early = λ f. absurd (cc) }
step-got first now number records p note kept e got Accept = reply-got first p note kept got p.reply refl
step-got first now number records p note kept e got Renew = record { taken = got.taken; early = got.early }
step-got first now number records p note kept e got Unsubscribe = record { taken = got.taken; early = got.early }
step-got first now number records p note kept e got (Deliver other) =
    keeps-got p (after_note (reaching p.wrap p.replica (sent_note other (notes_of first p.commands))) p.replica) note
    (noted-keeps (reaching p.wrap p.replica (sent_note other (notes_of first p.commands))) p.replica) got
step-got first now number records p note kept e got ReadFault = got

-- ---- all turns

first-after_deliver : (number : ℕ) (older : List ScriptTurn) → first_of (Deliver number ∷ older) ≡ first_of older
first-after_deliver number [] = refl
first-after_deliver number (turn ∷ older) = refl

first-after : (turn : ScriptTurn) (newer : List ScriptTurn) (other : ScriptTurn) (older : List ScriptTurn) → first_of (turn ∷ (newer ++ other ∷ older)) ≡ first_of (newer ++ other ∷ older)
first-after turn [] other older = refl
first-after turn (next ∷ newer) other older = refl

-- the note of a number after further turns
later-sent : (newer : List ScriptTurn) (number : ℕ) (older : List ScriptTurn) (note : Note) → sent_note number (notes_of (first_of older) (played older).commands) ≡ Some note →
    sent_note number (notes_of (first_of (newer ++ Deliver number ∷ older)) (played (newer ++ Deliver number ∷ older)).commands) ≡ Some note
later-sent [] number older note e = ap (λ (f : ℕ). sent_note number (notes_of f (played older).commands)) (first-after_deliver number older) ∙ e
later-sent (turn ∷ newer) number older note e =
    let turns : List ScriptTurn = newer ++ Deliver number ∷ older in
    ap (λ (f : ℕ). sent_note number (notes_of f (played (turn ∷ turns)).commands)) (first-after turn newer (Deliver number) older)
    ∙ step-sent (first_of turns) (clock_of turns) number (records_since turns) (played turns) note (later-sent newer number older note e) turn

-- an answer that is neither `full` nor `unknown` is that of a note which reached the replica as it was sent, and was not turned away
lost-turned : (wrap : ℕ) (a : Arrival) → is_lost (arrival_by_seq wrap a) ≡ false → is_turned_away a ≡ false
lost-turned wrap IsUnknown e = absurd (cc)
lost-turned wrap IsRepeat e = refl
lost-turned wrap (IsTooMany held) e = absurd (cc)
lost-turned wrap IsEarly e = refl
lost-turned wrap (IsHeld place) e = refl
lost-turned wrap IsNext e = refl

came-placed : (wrap : ℕ) (note : Note) (turns : List ReplicaTurn) → 256 ≤ wrap → is_recent wrap note turns ≡ true → is_lost (arrival_on_wire wrap (on_wire wrap note) turns) ≡ false →
    (placed wrap (on_wire wrap note) turns ≡ Some note) × (is_turned_away (arrival note turns) ≡ false)
came-placed wrap note turns low recent free = by (placed-or-unknown wrap note turns low recent)
  where
    by : (placed wrap (on_wire wrap note) turns ≡ Some note)
        ⊎ ((arrival_on_wire wrap (on_wire wrap note) turns ≡ IsUnknown)
        × ((other : Note) → placed wrap (on_wire wrap note) turns ≡ Some other → is_refused (Delivers other) turns ≡ true)) →
        (placed wrap (on_wire wrap note) turns ≡ Some note) × (is_turned_away (arrival note turns) ≡ false)
    by (inl own) = (own, lost-turned wrap (arrival note turns) (ap (λ (o : Option Note). is_lost (arrival_of wrap o turns)) (sym own) ∙ free))
    by (inr away) = absurd (true≢false (sym (ap is_lost away.0) ∙ free))

-- what was delivered, after further turns
later-got : (newer : List ScriptTurn) (number : ℕ) (older : List ScriptTurn) (note : Note) → first_of (newer ++ Deliver number ∷ older) ≤ 4294967295 →
    AllStand (newer ++ Deliver number ∷ older) → sent_note number (notes_of (first_of older) (played older).commands) ≡ Some note →
    is_lost (arrival_on_wire (played older).wrap (on_wire (played older).wrap note) (played older).replica) ≡ false →
    Got (played (newer ++ Deliver number ∷ older)) note
later-got [] number older note low all e free =
    let older-low = low-older (Deliver number) older low in
    let p : Played = played older in
    let recent : is_recent p.wrap note p.replica ≡ true = ap (λ (o : Option Note). is_recent_one p.wrap o p.replica) (sym e) ∙ (and_parts _ _ all.0).1 in
    let came = came-placed p.wrap note p.replica (wide older all.1) recent free in
    subst (λ (o : Option Note). Got (record p { replica = after_note o p.replica }) note) (sym (ap (reaching p.wrap p.replica) e ∙ came.0))
    (delivered-got (first_of older) number p note (turns-kept older older-low all.1) (turns-named older older-low all.1) e came.1)
later-got (turn ∷ newer) number older note low all e free =
    let turns : List ScriptTurn = newer ++ Deliver number ∷ older in
    let rest : first_of turns ≤ 4294967295 = low-older turn turns low in
    step-got (first_of turns) (clock_of turns) number (records_since turns) (played turns) note (turns-kept turns rest all.1) (later-sent newer number older note e)
    (later-got newer number older note rest all.1 e free) turn

low-rest : (newer older : List ScriptTurn) → first_of (newer ++ older) ≤ 4294967295 → first_of older ≤ 4294967295
low-rest [] older low = low
low-rest (turn ∷ newer) older low = low-rest newer older (low-older turn (newer ++ older) low)

all-rest : (newer older : List ScriptTurn) → AllStand (newer ++ older) → AllStand older
all-rest [] older all = all
all-rest (turn ∷ newer) older all = all-rest newer older all.1

seq-there : (note : Note) (notes : List Note) → Among note notes → has_place notes note.place ≡ true
seq-there note [] a = absurd a
seq-there note (other ∷ notes) a = by a (λ b. seq-there note notes b)
  where
    there : (b : Bool) → b ≡ true → (nat_eq other.place note.place || b) ≡ true
    there b e = on (nat_eq other.place note.place)
      where
        on : (c : Bool) → (c || b) ≡ true
        on true = refl
        on false = e

    by : (note ≡ other) ⊎ Among note notes → (Among note notes → has_place notes note.place ≡ true) → (nat_eq other.place note.place || has_place notes note.place) ≡ true
    by (inl e) later = ap (λ b. b || has_place notes note.place) (eq-eqb other.place note.place (ap (λ (n : Note). n.place) (sym e)))
    by (inr b) later = there (has_place notes note.place) (later b)

pub delivered-received : delivered_notes_are_received
delivered-received turns name may named delivered =
    sent-all (λ note. note.name ≡ name → has_place (received (played turns).replica) note.place ≡ true) (notes_of (first_of turns) (played turns).commands) one
  where
    one : (number : ℕ) (note : Note) → sent_note number (notes_of (first_of turns) (played turns).commands) ≡ Some note → note.name ≡ name →
        has_place (received (played turns).replica) note.place ≡ true
    one number note sent is = seq-there note (received (played turns).replica) among
      where
        d : (newer : List ScriptTurn) × (older : List ScriptTurn) × (turns ≡ newer ++ Deliver number ∷ older)
            × (is_lost (arrival_on_wire (played older).wrap (on_wire (played older).wrap note) (played older).replica) ≡ false)
        d = delivered number note sent is

        low : first_of (d.0 ++ Deliver number ∷ d.1) ≤ 4294967295
        low = subst (λ ts. first_of ts ≤ 4294967295) d.2 may.number

        low-before : first_of d.1 ≤ 4294967295
        low-before = low-older (Deliver number) d.1 (low-rest d.0 (Deliver number ∷ d.1) low)

        all : AllStand (d.0 ++ Deliver number ∷ d.1)
        all = subst AllStand d.2 may.stand

        stands : nat_lt 0 number && nat_le number (length (notes_of (first_of d.1) (played d.1).commands)) ≡ true
        stands = (and_parts _ _ (all-rest d.0 (Deliver number ∷ d.1) all).0).0

        there : (old : Note) × (sent_note number (notes_of (first_of d.1) (played d.1).commands) ≡ Some old)
        there =
            let both = and_parts _ _ stands in
            sent-there number (notes_of (first_of d.1) (played d.1).commands) (ltb-true 0 number both.0) (leb-true number _ both.1)

        -- the note that was delivered is the one that the number names now
        same : there.0 ≡ note
        same =
            let both : Some there.0 ≡ Some note =
            sym (later-sent d.0 number d.1 there.0 there.1) ∙ ap (λ ts. sent_note number (notes_of (first_of ts) (played ts).commands)) (sym d.2) ∙ sent in cc

        got : Got (played (d.0 ++ Deliver number ∷ d.1)) note
        got = later-got d.0 number d.1 note low all (there.1 ∙ ap Some same) d.3

        among : Among note (received (played turns).replica)
        among =
            subst (λ ts. Among note (received (played ts).replica)) (sym d.2)
            (got.taken (ap (λ ts. accepted (played ts).replica) (sym d.2) ∙ named ∙ ap Some (sym is)))

-- ---- nothing is to be read

letter_at : ℕ → List ℕ → ℕ
letter_at k [] = 0
letter_at zero (b ∷ bytes) = b
letter_at (suc k) (b ∷ bytes) = letter_at k bytes

-- what a server replies never writes `read none`
none-asked : (moment : Moment) (o : Option Asked) → read_text moment o ≡ codes "read none\n" → o ≡ None
unfolding letter_at digits
none-asked moment None e = refl
none-asked moment (Some Token) e = let letter : 111 ≡ 110 = ap (letter_at 5) e in absurd (omega (arith, letter))
none-asked moment (Some AskNumber) e = let letter : 111 ≡ 110 = ap (letter_at 5) e in absurd (omega (arith, letter))
none-asked moment (Some (Metadata id)) e = absurd (by (row_of id moment.rows) e)
  where
    by : (o : Option ObjectRow) → reply_text (metadata_reply moment o) ≡ codes "read none\n" → ⊥
    by None f = let letter : 55 ≡ 110 = ap (letter_at 5) f in omega (arith, letter)
    by (Some row) f = let letter : 111 ≡ 110 = ap (letter_at 5) f in omega (arith, letter)
none-asked moment (Some (Children id start)) e = absurd (by (row_of id moment.rows) e)
  where
    on : (row : ObjectRow) (b : Bool) → reply_text (cond b
        (Page (take page_size (drop start (children_of row.id moment.rows))) (length (children_of row.id moment.rows)) (update_of moment row)) (Fault 710)) ≡ codes "read none\n" → ⊥
    on row true f = let letter : 111 ≡ 110 = ap (letter_at 5) f in omega (arith, letter)
    on row false f = let letter : 55 ≡ 110 = ap (letter_at 5) f in omega (arith, letter)

    by : (o : Option ObjectRow) → reply_text (children_reply moment start o) ≡ codes "read none\n" → ⊥
    by None f = let letter : 55 ≡ 110 = ap (letter_at 5) f in omega (arith, letter)
    by (Some row) f = on row (is_folder row.content) f

step-quiet : (first now : ℕ) (records : List Record) (p : Played) (turn : ScriptTurn) → is_quiet turn ≡ true → next_ask (known_by p.replica) ≡ None →
    next_ask (known_by (play first now records p turn).replica) ≡ None
step-quiet first now records p (Folder path) q e = e
step-quiet first now records p (Track path info size) q e = e
step-quiet first now records p (Tag comment) q e = e
step-quiet first now records p Scan q e = e
step-quiet first now records p Load q e = absurd (cc)
step-quiet first now records p Read q e = ap (λ o. next_ask (known_by (asked_at (moment_after script_token first p.commands) p.replica o))) e ∙ e
step-quiet first now records p Ask q e = e
step-quiet first now records p (First number) q e = e
step-quiet first now records p (Wrap number) q e = e
step-quiet first now records p (At moment) q e = e
step-quiet first now records p Subscribe q e = by (has_room now p.commands)
  where
    by : (b : Bool) → let after : Played = cond b
        (record p { commands = grant_at now ∷ p.commands; replica = Requests ∷ p.replica; reply = Named (granted p.commands + 1) })
        (record p { replica = Requests ∷ p.replica; reply = Refusal }) in next_ask (known_by after.replica) ≡ None
    by true = e
    by false = e
step-quiet first now records p Accept q e = absurd (cc)
step-quiet first now records p Renew q e = e
step-quiet first now records p Unsubscribe q e = e
step-quiet first now records p (Deliver note) q e = absurd (cc)
step-quiet first now records p ReadFault q e = e

pub nothing-read : nothing_is_to_be_read
nothing-read [] older wrote quiet =
    let none = none-asked (moment_after script_token (first_of older) (played older).commands) (next_ask (known_by (played older).replica)) wrote in
    step-quiet (first_of older) (clock_of older) (records_since older) (played older) Read refl none
nothing-read (turn ∷ newer) older wrote quiet =
    let both = and_parts (is_quiet turn) (list_all is_quiet newer) quiet in
    let turns : List ScriptTurn = newer ++ Read ∷ older in
    step-quiet (first_of turns) (clock_of turns) (records_since turns) (played turns) turn both.0 (nothing-read newer older wrote both.1)

-- ---- the answer is complete

pub answers-complete : all_answers_are_complete
answers-complete turns may newer older name parts is =
    let before = may-before_ask newer older turns parts may in
    (answers-are_complete older name before (record {
      begun = is.begun;
      named = is.named;
      alive = is.alive;
      all = delivered-received older name before is.named is.delivered;
      released = is.released;
      nothing = subst (λ ts. next_ask (known_by (played ts).replica) ≡ None) (sym is.parts) (nothing-read is.newer is.older is.nothing is.quiet);
    })).1
