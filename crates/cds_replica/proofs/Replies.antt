-- What the bytes of a reply are read as is one: so what `take` does with what they show holds of each reading of them.
use Rattle.std.proofs.Common.{◌≡◌, ℕ, Bool, true, false, List, ◌∷◌, Option, Some, None, Result, Ok, Err, OnErr, IfOk, IsSome, refl, sym, ap, ◌∙◌, subst}
use Rattle.std.specs.Option.{option_map}
use Rattle.cds_load.specs.Server.{Moment, reply_to}
use Rattle.cds_load.specs.declared.exchange.Ask.{Ask}
use Rattle.cds_load.specs.declared.exchange.Read.{Read}
use Rattle.cds_load.specs.declared.exchange.Shown.{Shown}
use Rattle.cds_exchange.specs.Laws.{ReadingsAreOne}
use Rattle.cds_commands.specs.Commands.{oldest}
use Rattle.cds_follow.specs.Inbox.{ReplicaTurn}
use Rattle.cds_follow.specs.Follow.{known_by, next_ask}
use Rattle.cds_follow.specs.Given.{moment_after, Asks, given_by}
use Rattle.cds_follow.specs.Named.{named}
use Rattle.cds_follow.proofs.NamedIn.{given-same}
use Rattle.cds_replica.specs.Answer.{read_of}
use Rattle.cds_replica.specs.Attempted.{TakesByAttempt}
use Rattle.cds_replica.specs.Calls.{HoldsFew, IsAnswer, UnlessMem}
use Rattle.cds_replica.specs.Honest.{IsReadThen}
use Rattle.cds_replica.specs.Replies.{IsNextReading, and_shown, with_reading, TakesReply, AnswersReply, IsRead, WhereShown, TakesRead, AnswersGiven}
use Rattle.cds_replica.specs.State.{ReplicaState, StandsFor}
use Rattle.cds_replica.specs.Steps.{phase_ask}
use Rattle.cds_replica.specs.declared.error.AnswerError.{AnswerError}
use Rattle.cds_replica.specs.declared.error.AnswerError.TheVariants.{Unreadable, Jump, Torn, Mem}
use Rattle.cds_replica.proofs.Keeping.{ask-kept}
use Rattle.cds_load.specs.Outcome.{CannotBeRead}

next-one : ReadingsAreOne → (ask : Option Ask) (bytes : List ℕ) (one other : Option Shown) → IsNextReading ask bytes one → IsNextReading ask bytes other → one ≡ other
next-one law None bytes one other is also = is ∙ sym also
next-one law (Some ask) bytes one other is also = law ask bytes one other is also

ask-is : (kept : ReplicaState) (wrap : ℕ) (turns : List ReplicaTurn) → StandsFor kept wrap turns → phase_ask kept.known.phase ≡ next_ask (known_by turns)
ask-is kept wrap turns stood = ap (λ (k : ReplicaState). phase_ask k.known.phase) stood ∙ ask-kept wrap turns

-- nothing and something are never both read
not-both : ReadingsAreOne → (ask : Option Ask) (bytes : List ℕ) (shown : Shown) → IsNextReading ask bytes None → IsNextReading ask bytes (Some shown) → ⊥
not-both law ask bytes shown none some = let e = next-one law ask bytes None (Some shown) none some in cc

some-one : ReadingsAreOne → (ask : Option Ask) (bytes : List ℕ) (one other : Shown) → IsNextReading ask bytes (Some one) → IsNextReading ask bytes (Some other) → one ≡ other
some-one law ask bytes one other is also = let e = next-one law ask bytes (Some one) (Some other) is also in cc

-- one reading of the bytes to the next ask, beside another after turns
turns-one : ReadingsAreOne → (kept : ReplicaState) (bytes : List ℕ) (read other : Option Shown) (wrap : ℕ) (turns : List ReplicaTurn) → StandsFor kept wrap turns
    → IsNextReading (phase_ask kept.known.phase) bytes read → IsNextReading (next_ask (known_by turns)) bytes other → read ≡ other
turns-one law kept bytes read other wrap turns stood is also =
    next-one law (next_ask (known_by turns)) bytes read other (subst (λ (ask : Option Ask). IsNextReading ask bytes read) (ask-is kept wrap turns stood) is) also

-- a fact that holds unless memory ran out
pub unless : {P Q : Type 0} (result : Result Read AnswerError) → (P → Q) → UnlessMem result P → UnlessMem result Q
unless (Ok read) f p = f p
unless (Err Unreadable) f p = f p
unless (Err (Jump expected first)) f p = f p
unless (Err (Torn id)) f p = f p
unless (Err Mem) f p = tt

pub always : {P : Type 0} (result : Result Read AnswerError) → P → UnlessMem result P
always (Ok read) p = p
always (Err Unreadable) p = p
always (Err (Jump expected first)) p = p
always (Err (Torn id)) p = p
always (Err Mem) p = tt

-- ---- each clause, by what was read

pub reply-unchanged : (old new : ReplicaState) (read : Option Shown) (result : Result Read AnswerError) → TakesRead old read new result → OnErr result (new ≡ old)
reply-unchanged old new None result takes = subst (λ (r : Result Read AnswerError). OnErr r (new ≡ old)) (sym takes.refused) takes.unchanged
reply-unchanged old new (Some shown) result takes = takes.unchanged

pub reply-few : (old new : ReplicaState) (read : Option Shown) (result : Result Read AnswerError) → HoldsFew old → TakesRead old read new result → HoldsFew new
reply-few old new None result few takes = subst HoldsFew (sym takes.unchanged) few
reply-few old new (Some shown) result few takes = takes.few

pub reply-read : (ask : Option Ask) (bytes : List ℕ) (read : Option Shown) (result : Result Read AnswerError) → IsNextReading ask bytes read → IsRead ask bytes result
reply-read ask bytes read result is = always result (read, is)

pub reply-unreadable : ReadingsAreOne → (old new : ReplicaState) (bytes : List ℕ) (read : Option Shown) (result : Result Read AnswerError)
    → IsNextReading (phase_ask old.known.phase) bytes read → TakesRead old read new result
    → IsNextReading (phase_ask old.known.phase) bytes None → IsAnswer CannotBeRead result
reply-unreadable law old new bytes None result is takes none = subst (IsAnswer CannotBeRead) (sym takes.refused) refl
reply-unreadable law old new bytes (Some shown) result is takes none = absurd (not-both law (phase_ask old.known.phase) bytes shown none is)

pub reply-stands : ReadingsAreOne → (old new : ReplicaState) (bytes : List ℕ) (read : Option Shown) (result : Result Read AnswerError)
    → IsNextReading (phase_ask old.known.phase) bytes read → TakesRead old read new result → UnlessMem result (TakesReply old bytes new)
reply-stands law old new bytes read result is takes = by read is takes
  where
    each : (r : Option Shown) → IsNextReading (phase_ask old.known.phase) bytes r
        → ((wrap : ℕ) (turns : List ReplicaTurn) → StandsFor old wrap turns → StandsFor new wrap (and_shown r turns)) → TakesReply old bytes new
    each r here all wrap turns other stood also =
        subst (λ (o : Option Shown). StandsFor new wrap (and_shown o turns)) (turns-one law old bytes r other wrap turns stood here also) (all wrap turns stood)

    by : (r : Option Shown) → IsNextReading (phase_ask old.known.phase) bytes r → TakesRead old r new result → UnlessMem result (TakesReply old bytes new)
    by None here takes = always result (each None here (λ wrap turns stood. takes.unchanged ∙ stood))
    by (Some shown) here takes = unless result (each (Some shown) here) takes.stands

pub reply-answers : ReadingsAreOne → (old new : ReplicaState) (bytes : List ℕ) (read : Option Shown) (result : Result Read AnswerError)
    → IsNextReading (phase_ask old.known.phase) bytes read → TakesRead old read new result → AnswersReply old bytes result
reply-answers law old new bytes read result is takes wrap turns other stood also =
    subst (λ (o : Option Shown). IsAnswer (with_reading (known_by turns) o) result) (turns-one law old bytes read other wrap turns stood is also) (by read takes)
  where
    by : (r : Option Shown) → TakesRead old r new result → IsAnswer (with_reading (known_by turns) r) result
    by None taken = subst (IsAnswer CannotBeRead) (sym taken.refused) refl
    by (Some shown) taken = taken.answer wrap turns stood

pub reply-reads : ReadingsAreOne → (old new : ReplicaState) (bytes : List ℕ) (read : Option Shown) (result : Result Read AnswerError)
    → IsNextReading (phase_ask old.known.phase) bytes read → TakesRead old read new result
    → WhereShown (phase_ask old.known.phase) bytes (λ (shown : Shown). IfOk result (λ (r : Read). r ≡ read_of shown))
reply-reads law old new bytes None result is takes shown also = absurd (not-both law (phase_ask old.known.phase) bytes shown is also)
reply-reads law old new bytes (Some one) result is takes shown also =
    subst (λ (s : Shown). IfOk result (λ (r : Read). r ≡ read_of s)) (some-one law (phase_ask old.known.phase) bytes one shown is also) takes.read

pub reply-attempts : ReadingsAreOne → (old new : ReplicaState) (bytes : List ℕ) (read : Option Shown) (result : Result Read AnswerError)
    → IsNextReading (phase_ask old.known.phase) bytes read → TakesRead old read new result
    → WhereShown (phase_ask old.known.phase) bytes (λ (shown : Shown). TakesByAttempt old shown result)
reply-attempts law old new bytes None result is takes shown also = absurd (not-both law (phase_ask old.known.phase) bytes shown is also)
reply-attempts law old new bytes (Some one) result is takes shown also =
    subst (λ (s : Shown). TakesByAttempt old s result) (some-one law (phase_ask old.known.phase) bytes one shown is also) takes.attempt

-- ---- replies of a server

abbrev IsFalse : Bool → Type 0
IsFalse true = ⊥
IsFalse false = Unit {0}

pub reply-given : ReadingsAreOne → (old new : ReplicaState) (bytes : List ℕ) (read : Option Shown) (result : Result Read AnswerError)
    → IsSome (phase_ask old.known.phase) → IsNextReading (phase_ask old.known.phase) bytes read → TakesRead old read new result → AnswersGiven old bytes new result
reply-given law old new bytes read result some is takes token names wrap first commands entries k apart accepted given stood replies =
    by read (next_ask (known_by turns)) refl (subst (λ (ask : Option Ask). IsNextReading ask bytes read) asks is) takes
  where
    turns : List ReplicaTurn
    turns = given_by token first commands entries

    moment : Moment
    moment = moment_after token first (oldest k commands)

    asks : phase_ask old.known.phase ≡ next_ask (known_by turns)
    asks = ask-is old wrap (named names turns) stood ∙ ap next_ask (given-same token names first commands entries apart given.2).knows

    shows : (ask : Ask) → next_ask (known_by turns) ≡ Some ask → (other : Option Shown) → IsNextReading (next_ask (known_by turns)) bytes other
        → other ≡ Some (reply_to moment ask)
    shows ask e other also =
        law ask bytes other (Some (reply_to moment ask)) (subst (λ (o : Option Ask). IsNextReading o bytes other) e also) (replies ask e)

    by : (r : Option Shown) (o : Option Ask) → next_ask (known_by turns) ≡ o → IsNextReading (next_ask (known_by turns)) bytes r → TakesRead old r new result
        → IsReadThen result (StandsFor new wrap (named names (given_by token first commands (Asks k ∷ entries))))
    by r None e also taken = let no : false ≡ true = subst IsSome (asks ∙ e) some in absurd (subst IsFalse no tt)
    by None (Some ask) e also taken = let no : None ≡ Some (reply_to moment ask) = shows ask e None also in absurd (cc)
    by (Some shown) (Some ask) e also taken =
        taken.given token names wrap first commands entries k apart accepted given stood
        (ap (option_map (reply_to moment)) e ∙ sym (shows ask e (Some shown) also))
