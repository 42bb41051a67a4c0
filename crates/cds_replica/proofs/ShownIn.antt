-- Each row of a copy was in one of the replies whose bytes were read.
use Rattle.std.proofs.Common.{◌≡◌, inl, inr, ℕ, Bool, true, false, cond, List, [], ◌∷◌, Option, Some, None, Result, ◌∙◌, Bor}
use Rattle.std.specs.Prelude.{IfSome, option_copied, slice_get}
use Rattle.cds_object.specs.Object.{ObjectRow}
use Rattle.cds_load.specs.Seen.{rows_shown, HasVersion}
use Rattle.cds_load.specs.declared.exchange.Ask.{Ask}
use Rattle.cds_load.specs.declared.exchange.Read.{Read}
use Rattle.cds_load.specs.declared.exchange.Shown.{Shown}
use Rattle.cds_exchange.specs.Readings.{ReadsAs}
use Rattle.cds_follow.specs.Inbox.{ReplicaTurn, Begins, Shows, Requests, Accepts, Refuses, Delivers}
use Rattle.cds_follow.specs.Follow.{copied, known_by, is_refused, and_turn}
use Rattle.cds_follow.specs.Seen.{WasShown}
use Rattle.cds_replica.specs.Calls.{UnlessMem}
use Rattle.cds_replica.specs.Replies.{IsNextReading, TakesRead}
use Rattle.cds_replica.specs.ShownIn.{IsShownIn, AreShownIn, WasInReply, GoesOnIn, WasReplied}
use Rattle.cds_replica.specs.State.{ReplicaState, StandsFor}
use Rattle.cds_replica.specs.Steps.{phase_ask}
use Rattle.cds_replica.specs.declared.error.AnswerError.{AnswerError}
use Rattle.cds_replica.proofs.Attempted.{rows-shown}
use Rattle.cds_replica.proofs.Replies.{always, unless}

-- one more reply
and-reply : (bytes : List ℕ) (replies : List (List ℕ)) (turns : List ReplicaTurn) → AreShownIn replies turns → AreShownIn (bytes ∷ replies) turns
and-reply bytes replies [] are = tt
and-reply bytes replies (Begins ∷ older) are = and-reply bytes replies older are
and-reply bytes replies (Shows shown ∷ older) are = (inr are.0, and-reply bytes replies older are.1)
and-reply bytes replies (Requests ∷ older) are = and-reply bytes replies older are
and-reply bytes replies (Accepts name ∷ older) are = and-reply bytes replies older are
and-reply bytes replies (Refuses ∷ older) are = and-reply bytes replies older are
and-reply bytes replies (Delivers note ∷ older) are = and-reply bytes replies older are

-- the ask to which bytes show something
asked-in : (ask : Option Ask) (bytes : List ℕ) (shown : Shown) → IsNextReading ask bytes (Some shown) → (a : Ask) × ReadsAs a bytes shown
asked-in None bytes shown is = let no : Some shown ≡ None = is in absurd (cc)
asked-in (Some a) bytes shown is = (a, is)

and-shown_in : (bytes : List ℕ) (replies : List (List ℕ)) (turns : List ReplicaTurn) (shown : Shown) → ((a : Ask) × ReadsAs a bytes shown)
    → AreShownIn replies turns → AreShownIn (bytes ∷ replies) (and_turn (Shows shown) turns)
and-shown_in bytes replies turns shown reads are = by (is_refused (Shows shown) turns)
  where
    by : (b : Bool) → AreShownIn (bytes ∷ replies) (cond b turns (Shows shown ∷ turns))
    by true = and-reply bytes replies turns are
    by false = (inl reads, and-reply bytes replies turns are)

pub reply-goes : (old new : ReplicaState) (bytes : List ℕ) (read : Option Shown) (result : Result Read AnswerError)
    → IsNextReading (phase_ask old.known.phase) bytes read → TakesRead old read new result → UnlessMem result (GoesOnIn old bytes new)
reply-goes old new bytes None result is takes =
    always result (λ replies wrap turns stood are. (turns, takes.unchanged ∙ stood, and-reply bytes replies turns are))
reply-goes old new bytes (Some shown) result is takes =
    unless result
    (λ goes replies wrap turns stood are.
    (and_turn (Shows shown) turns, goes wrap turns stood, and-shown_in bytes replies turns shown (asked-in (phase_ask old.known.phase) bytes shown is) are))
    takes.stands

-- what was shown was in a reply
in-reply : (row : ObjectRow) (replies : List (List ℕ)) (shown : Shown) → IsShownIn replies shown → HasVersion row (rows_shown shown) → WasInReply row replies
in-reply row [] shown is has = is
in-reply row (bytes ∷ replies) shown (inl reads) has = inl (record { ask = reads.0; shown = shown; reads = reads.1; has = has })
in-reply row (bytes ∷ replies) shown (inr is) has = inr (in-reply row replies shown is has)

was-in_reply : (row : ObjectRow) (replies : List (List ℕ)) (turns : List ReplicaTurn) → AreShownIn replies turns → WasShown row turns → WasInReply row replies
was-in_reply row replies [] are was = absurd was
was-in_reply row replies (Begins ∷ older) are was = was-in_reply row replies older are was
was-in_reply row replies (Shows shown ∷ older) are (inl has) = in-reply row replies shown are.0 has
was-in_reply row replies (Shows shown ∷ older) are (inr was) = was-in_reply row replies older are.1 was
was-in_reply row replies (Requests ∷ older) are was = was-in_reply row replies older are was
was-in_reply row replies (Accepts name ∷ older) are was = was-in_reply row replies older are was
was-in_reply row replies (Refuses ∷ older) are was = was-in_reply row replies older are was
was-in_reply row replies (Delivers note ∷ older) are was = was-in_reply row replies older are was

pub rows-replied : (kept : ReplicaState) (at : ℕ) (result : Option (Bor ObjectRow))
    → ((wrap : ℕ) (turns : List ReplicaTurn) → StandsFor kept wrap turns → option_copied result ≡ slice_get (copied (known_by turns)) at)
    → IfSome result (λ row. WasReplied kept row.now)
rows-replied kept at None is = tt
rows-replied kept at (Some row) is = λ replies wrap turns stood are. was-in_reply row.now replies turns are (rows-shown kept at (Some row) wrap turns is stood)
