-- What reading a note's body and its fields answers.
use Rattle.std.proofs.Common.{◌≡◌, ◌≢◌, ℕ, Bool, true, false, cond, ◌&&◌, Option, Some, None, is_some, Result, Ok, Err, List, [], ◌∷◌, codes, refl, sym, ap, ◌∙◌, subst, append-nil, true≢false}
use Rattle.std.specs.Prelude.{option_and_then}
use Rattle.cds_commands.specs.Wire.{WireNote}
use Rattle.cds_object.specs.declared.event.Event.{Event}
use Rattle.cds_http.specs.declared.message.Message.{Message}
use Rattle.cds_markup.specs.declared.error.MarkupError.{MarkupError}
use Rattle.cds_markup.specs.declared.error.MarkupError.TheVariants.{Mem as OutOfMemory, Bad as BadAt, TooDeep, TooLong as TooManyBytes, Failed as RefusedBefore}
use Rattle.cds_markup.specs.Decided.{Decides as DecidesDocument}
use Rattle.cds_markup.specs.Pieces.{goes_on}
use Rattle.cds_markup.proofs.Public.{one-element}
use Rattle.cds_lastchange.specs.declared.error.StateError.{StateError}
use Rattle.cds_lastchange.specs.declared.error.StateError.TheVariants.{Mem as Out, Bad, NotStateEvent, TooLong, Failed}
use Rattle.cds_lastchange.specs.Refusal.{Decides}
use Rattle.cds_lastchange.specs.Feeding.{Came, IsRead, Fed, Finished}
use Rattle.cds_lastchange.proofs.Feeding.{every-cutting}
use Rattle.cds_lastchange.specs.StateEvent.{IsStateEvent}
use Rattle.cds_lastchange.proofs.Deciding.{one-list}
use Rattle.cds_gena.specs.Asked.{has_method, field_of}
use Rattle.cds_notify.specs.declared.note.NoteError.{NoteError}
use Rattle.cds_notify.specs.declared.note.NoteError.TheVariants.{Mem, Head, Precondition, Body}
use Rattle.cds_notify.specs.declared.heading.Heading.{Heading}
use Rattle.cds_notify.specs.declared.body.Said.{Said}
use Rattle.cds_notify.specs.Said.{heading_by, heading_of, is_word, named_note, said_of, seq_in, with_seq, Says, IsNote, Answers}
use Rattle.cds_notify.specs.Reading.{BodyTold, EventsTold, IsSaid, SaidTold, of_document, of_state}

-- ---- refusals

pub fed-decides : (text : List ℕ) (new next : Came) (answer : Result (Unit {0}) StateError) (result : Result (List Event) StateError)
    → IsRead [] new → Fed new text answer next → goes_on answer result (Finished next result) → Decides text result
fed-decides text new next answer result is fed on = subst (λ bytes. Decides bytes result) (append-nil text) (every-cutting new (text ∷ []) result is (answer, next, fed, on))

pub state-told : (text : List ℕ) (e : StateError) → Decides text (Err e) → EventsTold text (Err (of_state e))
state-told text Out h = tt
state-told text (Bad at) h = h.2
state-told text (NotStateEvent at) h = h.2
state-told text TooLong h = h.2
state-told text Failed h = h.2

pub document-told : (body : List ℕ) (e : MarkupError) → DecidesDocument body (Err e) → SaidTold body (Err (of_document e))
document-told body OutOfMemory h = tt
document-told body (BadAt at) h = h.2
document-told body (TooDeep at) h = h.2
document-told body TooManyBytes h = h.2
document-told body RefusedBefore h = h.2

pub no-document : (body : List ℕ) (e : NoteError) → SaidTold body (Err e) → BodyTold body (Err e)
no-document body Mem h = tt
no-document body Head h = h
no-document body Precondition h = h
no-document body Body h = λ number events says. h says.root says.document

pub no-said : (body : List ℕ) → IsSaid body None → BodyTold body (Err Body)
no-said body none = λ number events says.
    let same = one-element body says.root none.root says.document none.document in
    true≢false (ap is_some (sym says.said ∙ ap said_of same ∙ none.is))

some-same : (a b : Said) → Some a ≡ Some b → a ≡ b
some-same a b e = cc

pub no-events : (body : List ℕ) (said : Said) → IsSaid body (Some said) → (e : NoteError) → EventsTold said.changes (Err e) → BodyTold body (Err e)
no-events body said is Mem h = tt
no-events body said is Head h = h
no-events body said is Precondition h = h
no-events body said is Body h = λ number events says.
    let same = one-element body says.root is.root says.document is.document in
    let one = some-same (record { number = number; changes = says.changes }) said (sym says.said ∙ ap said_of same ∙ is.is) in
    h events (subst (λ (s : Said). IsStateEvent s.changes events) one says.state)

-- ---- the fields

err-same : (a b : NoteError) → ((a ≡ b) → ⊥) → (r : Result Heading NoteError) → r ≡ Err a → r ≡ Err b → ⊥
err-same a b apart r e f = apart (cc)

ok≢err : (heading : Heading) (e : NoteError) (r : Result Heading NoteError) → r ≡ Ok heading → r ≡ Err e → ⊥
ok≢err heading e r f g = cc

apart-head : Head ≡ Body → ⊥
apart-head e = cc

apart-precondition : Precondition ≡ Body → ⊥
apart-precondition e = cc

never-body : (b : Bool) (nt nts sid seq : Option (List ℕ)) → heading_by b nt nts sid seq ≡ Err Body → ⊥
never-body b nt nts sid seq e = by (b && (is_some nt && is_some nts)) e
  where
    in-name : (s : ℕ) (o : Option ℕ) → named_note s o ≡ Err Body → ⊥
    in-name s None k = err-same Precondition Body apart-precondition (Err Precondition) refl k
    in-name s (Some n) k = ok≢err (record { sid = record { 0 = n }; seq = s }) Body (named_note s (Some n)) refl k

    in-events : (t : Bool) (s : ℕ) (o : Option ℕ) → cond t (named_note s o) (Err Precondition) ≡ Err Body → ⊥
    in-events true s o k = in-name s o k
    in-events false s o k = err-same Precondition Body apart-precondition (Err Precondition) refl k

    in-seq : (o : Option ℕ) → with_seq nt nts sid o ≡ Err Body → ⊥
    in-seq None k = err-same Head Body apart-head (Err Head) refl k
    in-seq (Some s) k = in-events (is_word (codes "upnp:event") nt && is_word (codes "upnp:propchange") nts) s (option_and_then _ sid) k

    by : (t : Bool) → cond t (with_seq nt nts sid (seq_in seq)) (Err Head) ≡ Err Body → ⊥
    by true k = in-seq (seq_in seq) k
    by false k = err-same Head Body apart-head (Err Head) refl k

pub heading-refused : (message : Message) (e : NoteError) → heading_of message ≡ Err e → Answers message (Err e)
heading-refused message Mem h = tt
heading-refused message Head h = h
heading-refused message Precondition h = h
heading-refused message Body h = absurd (never-body (has_method (codes "NOTIFY") message.start) (field_of (codes "nt") message.fields) (field_of (codes "nts") message.fields) (field_of (codes "sid") message.fields)
    (field_of (codes "seq") message.fields) h)

pub body-refused : (message : Message) (heading : Heading) (e : NoteError) → heading_of message ≡ Ok heading → BodyTold message.body (Err e) → Answers message (Err e)
body-refused message heading Mem h b = tt
body-refused message heading Head h b = absurd b
body-refused message heading Precondition h b = absurd b
body-refused message heading Body h b = record { heading = heading; headed = h; none = b }

-- ---- one answer

pub record Same (n m : ℕ) (es fs : List Event) : Type 0 where
  pub numbers : n ≡ m
  pub lists : es ≡ fs

said-once : (body : List ℕ) (n m : ℕ) (es fs : List Event) → Says body n es → Says body m fs → Same n m es fs
said-once body n m es fs s t =
    let root = one-element body s.root t.root s.document t.document in
    let said = some-same (record { number = n; changes = s.changes }) (record { number = m; changes = t.changes }) (sym s.said ∙ ap said_of root ∙ t.said) in
    record {
      numbers = ap (λ (z : Said). z.number) said;
      lists = one-list t.changes es fs (subst (λ (z : Said). IsStateEvent z.changes es) said s.state) t.state;
    }

heading-same : (a b : Heading) (r : Result Heading NoteError) → r ≡ Ok a → r ≡ Ok b → a ≡ b
heading-same a b r e f = cc

note-same : (message : Message) (a b : WireNote) → IsNote message a → IsNote message b → a ≡ b
note-same message a b h k =
    let heading = heading-same (record { sid = record { 0 = a.name }; seq = a.seq }) (record { sid = record { 0 = b.name }; seq = b.seq }) (heading_of message) h.heading k.heading in
    let said = said-once message.body a.number b.number a.events b.events h.body k.body in
    λ i. record { name = (heading i).sid.0; seq = (heading i).seq; number = said.numbers i; events = said.lists i }

pub one-answer : (message : Message) (one other : Result WireNote NoteError) → Answers message one → Answers message other → one ≢ Err Mem → other ≢ Err Mem → one ≡ other
one-answer message (Ok a) (Ok b) h k p q = ap Ok (note-same message a b h k)
one-answer message (Ok a) (Err Mem) h k p q = absurd (q refl)
one-answer message (Ok a) (Err Head) h k p q = absurd (ok≢err _ Head (heading_of message) h.heading k)
one-answer message (Ok a) (Err Precondition) h k p q = absurd (ok≢err _ Precondition (heading_of message) h.heading k)
one-answer message (Ok a) (Err Body) h k p q = absurd (k.none a.number a.events h.body)
one-answer message (Err Mem) other h k p q = absurd (p refl)
one-answer message (Err Head) (Ok b) h k p q = absurd (ok≢err _ Head (heading_of message) k.heading h)
one-answer message (Err Head) (Err Mem) h k p q = absurd (q refl)
one-answer message (Err Head) (Err Head) h k p q = refl
one-answer message (Err Head) (Err Precondition) h k p q = absurd (err-same Head Precondition (λ e. cc) (heading_of message) h k)
one-answer message (Err Head) (Err Body) h k p q = absurd (ok≢err k.heading Head (heading_of message) k.headed h)
one-answer message (Err Precondition) (Ok b) h k p q = absurd (ok≢err _ Precondition (heading_of message) k.heading h)
one-answer message (Err Precondition) (Err Mem) h k p q = absurd (q refl)
one-answer message (Err Precondition) (Err Head) h k p q = absurd (err-same Head Precondition (λ e. cc) (heading_of message) k h)
one-answer message (Err Precondition) (Err Precondition) h k p q = refl
one-answer message (Err Precondition) (Err Body) h k p q = absurd (ok≢err k.heading Precondition (heading_of message) k.headed h)
one-answer message (Err Body) (Ok b) h k p q = absurd (h.none b.number b.events k.body)
one-answer message (Err Body) (Err Mem) h k p q = absurd (q refl)
one-answer message (Err Body) (Err Head) h k p q = absurd (ok≢err h.heading Head (heading_of message) h.headed k)
one-answer message (Err Body) (Err Precondition) h k p q = absurd (ok≢err h.heading Precondition (heading_of message) h.headed k)
one-answer message (Err Body) (Err Body) h k p q = refl
