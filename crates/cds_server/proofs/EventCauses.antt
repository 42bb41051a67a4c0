-- Why a request about a subscription gets its status.
use Rattle.std.proofs.Common.{◌≡◌, inl, inr, ◌+◌, ◌-◌, ◌≤◌, ◌&&◌, ◌||◌, ℕ, Bool, true, false, cond, nat_eq, nat_lt, nat_le, List, [], length, Option, Some, None, is_some, IsSome, Result, Ok, Err, refl, sym, ◌∙◌, ap, subst, arith, true≢false, eqb-true, ltb-false, le-leb}
use Rattle.std.specs.Prelude.{codes, option_and_then, ⊤}
use Rattle.url.specs.Parts.{Parts, serialize}
use Rattle.cds_http.specs.declared.message.Message.{Message}
use Rattle.cds_commands.specs.Commands.{Command, Start}
use Rattle.cds_commands.specs.Names.{names_of}
use Rattle.cds_commands.specs.Subscriptions.{granted, subscription_limit}
use Rattle.cds_commands.specs.Notes.{alive_names}
use Rattle.cds_gena.specs.Asked.{callback_in, ending, field_of, gena_by, gena_of, has_method, is_event, renewing, seconds_of, subscribe_of, subscribing}
use Rattle.cds_gena.specs.SidText.{sid_in}
use Rattle.cds_gena.specs.Subscribed.{last_number, number_of}
use Rattle.cds_gena.specs.declared.sid.Sid.{Sid}
use Rattle.cds_gena.specs.declared.error.GenaError.{GenaError}
use Rattle.cds_gena.specs.declared.error.GenaError.TheVariants.{Mem, Incompatible, Precondition, Spent, Full}
use Rattle.cds_gena.specs.declared.gena.Gena.{Gena}
use Rattle.cds_gena.specs.declared.gena.Gena.TheVariants.{Subscribe, Renew, Unsubscribe}
use Rattle.cds_server.specs.Route.{Subscribes, route}
use Rattle.cds_control.specs.Replies.{empty_reply}
use Rattle.cds_server.specs.Outcome.{Outcome, Refused, Granted, Renewed, Ended, granting, if_lives, lease_fields, living_number, outcome, outcome_of, outcome_reply, refusal_of}
use Rattle.cds_server.specs.Outcome as come
use Rattle.cds_server.specs.Replies.{command_by}
use Rattle.cds_server.specs.Laws.{HasEventCause, IsAccepted, LivesNone}

-- ---- which refusals there are

abbrev IsOwed : Result Gena GenaError → Type 0
IsOwed (Ok gena) = ⊤
IsOwed (Err Incompatible) = ⊤
IsOwed (Err Precondition) = ⊤
IsOwed (Err Spent) = ⊥
IsOwed (Err (Full live)) = ⊥
IsOwed (Err Mem) = ⊥

renewal-owed : (name : Option ℕ) (seconds : ℕ) → IsOwed (renewing name seconds)
renewal-owed None seconds = tt
renewal-owed (Some name) seconds = tt

ending-owed : (name : Option ℕ) → IsOwed (ending name)
ending-owed None = tt
ending-owed (Some name) = tt

grant-owed : (url : Option Parts) (seconds : ℕ) → IsOwed (subscribing url seconds)
grant-owed None seconds = tt
grant-owed (Some url) seconds = tt

subscribe-owed : (sid callback nt timeout : Option (List ℕ)) → IsOwed (subscribe_of sid callback nt timeout)
subscribe-owed (Some sid) callback nt timeout = renewal-owed (sid_in sid) (seconds_of timeout)
subscribe-owed None callback nt timeout = by (is_event nt)
  where
    by : (b : Bool) → IsOwed (cond b (subscribing (option_and_then callback_in callback) (seconds_of timeout)) (Err Precondition))
    by true = grant-owed (option_and_then callback_in callback) (seconds_of timeout)
    by false = tt

owed-by : (subscribes : Bool) (sid callback nt timeout : Option (List ℕ)) → IsOwed (gena_by subscribes sid callback nt timeout)
owed-by subscribes sid callback nt timeout = by (is_some sid && (is_some callback || is_some nt)) subscribes
  where
    by : (a b : Bool) → IsOwed (cond a (Err Incompatible) (cond b (subscribe_of sid callback nt timeout) (ending (option_and_then sid_in sid))))
    by true b = tt
    by false true = subscribe-owed sid callback nt timeout
    by false false = ending-owed (option_and_then sid_in sid)

owed : (m : Message) → IsOwed (gena_of m)
owed m =
    owed-by (has_method (codes "SUBSCRIBE") m.start) (field_of (codes "sid") m.fields) (field_of (codes "callback") m.fields) (field_of (codes "nt") m.fields)
    (field_of (codes "timeout") m.fields)

-- ---- the number of a name

numbered : (names number : ℕ) → number ≤ last_number → number_of names (names + number) ≡ Some number
numbered names number few =
    let less : names + number - names ≡ number = omega arith in
    (λ i. cond (le-leb names (names + number) (omega arith) i && nat_le (less i) last_number) (Some (less i)) None)
    ∙ (λ i. cond (le-leb number last_number few i) (Some number) None)

none-some : (number : ℕ) → Some number ≡ None → ⊥
none-some number e = true≢false (ap is_some e)

lives-none : (start : Start) (commands : List Command) (now name : ℕ) → living_number start now commands name ≡ None → LivesNone start commands now name
lives-none start commands now name none number few is lives =
    none-some number
    (sym (ap (if_lives now commands) (ap (number_of (names_of start)) is ∙ numbered (names_of start) number few)
    ∙ ap (λ b. cond b (Some number) None) lives)
    ∙ none)

-- ---- the causes

module _ (start : Start) (commands : List Command) (now : ℕ) (m : Message) (text : List ℕ) (way : route m ≡ Subscribes) where
  abbrev Cause : Type 0
  Cause = HasEventCause start commands now m text

  abbrev replies : Outcome → Type 0
  replies o = text ≡ outcome_reply (names_of start) (granted commands) o

  -- what is accepted has its command
  accepted : (o : Outcome) → outcome start commands now m ≡ o → IsSome (command_by Subscribes now o) → IsAccepted start commands now m
  accepted o is some = subst IsSome (sym ((λ i. command_by (way i) now (is i)))) some

  by-renewal : (sid : Sid) (seconds : ℕ) → gena_of m ≡ Ok (Renew sid seconds) → (o : Option ℕ) → living_number start now commands sid.0 ≡ o
      → outcome start commands now m ≡ come.renewing o seconds → replies (come.renewing o seconds) → Cause
  by-renewal sid seconds e None none is reply = inr (inl (reply, inr (sid, lives-none start commands now sid.0 none, inl (seconds, e))))
  by-renewal sid seconds e (Some number) some is reply =
      inr (inr (inr (record { fields = lease_fields (names_of start + number) seconds; body = []; written = reply }, accepted (Renewed number seconds) is refl)))

  by-end : (sid : Sid) → gena_of m ≡ Ok (Unsubscribe sid) → (o : Option ℕ) → living_number start now commands sid.0 ≡ o
      → outcome start commands now m ≡ come.ending o → replies (come.ending o) → Cause
  by-end sid e None none is reply = inr (inl (reply, inr (sid, lives-none start commands now sid.0 none, inr e)))
  by-end sid e (Some number) some is reply = inr (inr (inr (record { fields = []; body = []; written = reply }, accepted (Ended number) is refl)))

  by-grant : (url : Parts) (seconds : ℕ) → gena_of m ≡ Ok (Subscribe url seconds) → (a b : Bool) → nat_eq (granted commands) last_number ≡ a
      → nat_lt (length (alive_names now commands)) subscription_limit ≡ b
      → outcome start commands now m
      ≡ granting (cond a (Some Spent) (cond b None (Some (Full (length (alive_names now commands)))))) (serialize url) seconds
      → replies (granting (cond a (Some Spent) (cond b None (Some (Full (length (alive_names now commands)))))) (serialize url) seconds)
      → Cause
  by-grant url seconds e true b last live is reply = inr (inr (inl (reply, ((url, seconds, e), inl (eqb-true (granted commands) last_number last)))))
  by-grant url seconds e false true last live is reply =
      inr (inr (inr (
        record { fields = lease_fields (names_of start + (granted commands + 1)) seconds; body = []; written = reply },
        accepted (Granted (serialize url) seconds) is refl,
      )))
  by-grant url seconds e false false last live is reply =
      inr (inr (inl (reply, ((url, seconds, e), inr (ltb-false (length (alive_names now commands)) subscription_limit live)))))

  by-gena : (g : Result Gena GenaError) → gena_of m ≡ g → IsOwed g
      → outcome start commands now m ≡ outcome_of (refusal_of now commands) (living_number start now commands) g
      → replies (outcome_of (refusal_of now commands) (living_number start now commands) g) → Cause
  by-gena (Ok (Subscribe url seconds)) e o is reply =
      by-grant url seconds e (nat_eq (granted commands) last_number)
      (nat_lt (length (alive_names now commands)) subscription_limit) refl refl is reply
  by-gena (Ok (Renew sid seconds)) e o is reply = by-renewal sid seconds e (living_number start now commands sid.0) refl is reply
  by-gena (Ok (Unsubscribe sid)) e o is reply = by-end sid e (living_number start now commands sid.0) refl is reply
  by-gena (Err Incompatible) e o is reply = inl (reply, e)
  by-gena (Err Precondition) e o is reply = inr (inl (reply, inl e))
  by-gena (Err Spent) e o is reply = absurd o
  by-gena (Err (Full live)) e o is reply = absurd o
  by-gena (Err Mem) e o is reply = absurd o

  pub event-cause : text ≡ outcome_reply (names_of start) (granted commands) (outcome start commands now m) → Cause
  event-cause reply = by-gena (gena_of m) refl (owed m) refl reply
