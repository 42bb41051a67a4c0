-- At most 64 subscriptions of a script live: one is granted only where fewer do, and nothing else adds to them while the moments
-- never fall.
use Rattle.std.proofs.Common.{◌≡◌, ℕ, zero, suc, ◌+◌, ◌<◌, ◌≤◌, List, [], ◌∷◌, length, Bool, true, false, cond, nat_eq, nat_lt, refl, ap, sym, subst, ◌∙◌, arith, true≢false, inl, inr, Option, Some, None, is_some}
use Rattle.std.specs.Prelude.{filter}
use Rattle.std.specs.List.{range_with_len}
use Rattle.std.proofs.lemmas.Bool.{eqb-true, leb-true, ltb-true, lt-ltb, ne_eqb}
use Rattle.cds_object.specs.declared.record.Record.{Record}
use Rattle.cds_catalog.specs.Library.{map_of}
use Rattle.cds_catalog.specs.Scans.{scan_answer}
use Rattle.cds_commands.specs.Commands.{Command, Scans, Renews, Ends, Ticks, scans_of}
use Rattle.cds_commands.specs.Subscriptions.{granted, end_after, renewed_until, unless_past, runs_until, is_alive, subscription_limit}
use Rattle.cds_commands.specs.Notes.{alive_names, has_room}
use Rattle.cds_follow.specs.Inbox.{Requests, accepted}
use Rattle.cds_commands.proofs.Among.{among-contained, filter-among}
use Rattle.cds_script.specs.declared.turn.ScriptTurn.{ScriptTurn}
use Rattle.cds_script.specs.declared.turn.ScriptTurn.TheVariants.{Folder, Track, Tag, Scan, Load, Read, Ask, First, Wrap, At, Subscribe, Accept, Renew, Unsubscribe, Deliver, ReadFault}
use Rattle.cds_script.specs.Report.{first_of, clock_of, records_since, Played, scanned, lives, given_up, with_renewal, play, played, may_stand}
use Rattle.cds_script.specs.Played.{AllStand}
use Rattle.cds_script.specs.ScriptGiven.{subscriptions_are_few}
use Rattle.cds_script.proofs.Given.{ScannedCases, scanned-cases}
use Rattle.cds_script.proofs.Stood.{any-contained}
use Rattle.cds_script.specs.declared.reply.HeldReply.TheVariants.{Named, Refusal}
use Rattle.cds_script.specs.Script.{grant_at, granted_seconds}

-- ---- how many of a row of numbers pass a test

-- no more than pass a weaker one
fewer : (p q : ℕ → Bool) (a n : ℕ) → ((k : ℕ) → k < a + n → p k ≡ true → q k ≡ true) →
    length (filter p (range_with_len a n)) ≤ length (filter q (range_with_len a n))
fewer p q a zero weaker = omega arith
fewer p q a (suc n) weaker = by (p a) (q a) refl refl (fewer p q (a + 1) n (λ k low passes. weaker k (omega (arith, low)) passes))
  where
    ps : List ℕ
    ps = filter p (range_with_len (a + 1) n)

    qs : List ℕ
    qs = filter q (range_with_len (a + 1) n)

    by : (b c : Bool) → p a ≡ b → q a ≡ c → length ps ≤ length qs → length (cond b (a ∷ ps) ps) ≤ length (cond c (a ∷ qs) qs)
    by false false e f rest = rest
    by false true e f rest = omega (arith, rest)
    by true true e f rest = omega (arith, rest)
    by true false e f rest = absurd (true≢false (sym (weaker a (omega arith) e) ∙ f))

-- a row with one more number has at most one more
one-more : (p : ℕ → Bool) (a n : ℕ) → length (filter p (range_with_len a (suc n))) ≤ length (filter p (range_with_len a n)) + 1
one-more p a zero = by (p a)
  where
    by : (b : Bool) → length (cond b (a ∷ []) []) ≤ 1
    by true = omega arith
    by false = omega arith
one-more p a (suc n) = by (p a) (one-more p (a + 1) n)
  where
    more : List ℕ
    more = filter p (range_with_len (a + 1) (suc n))

    ps : List ℕ
    ps = filter p (range_with_len (a + 1) n)

    by : (b : Bool) → length more ≤ length ps + 1 → length (cond b (a ∷ more) more) ≤ length (cond b (a ∷ ps) ps) + 1
    by true rest = omega (arith, rest)
    by false rest = rest

-- ---- what a command leaves of the subscriptions that live

-- whether a granted name lives at a moment
abbrev Lives : ℕ → List Command → ℕ → Bool
Lives now commands name = is_alive name now commands

abbrev Living : ℕ → List Command → ℕ
Living now commands = length (alive_names now commands)

scans-few : (now : ℕ) (older : List Command) (command : Command) → granted (command ∷ older) ≡ granted older →
    ((name : ℕ) → is_alive name now (command ∷ older) ≡ true → is_alive name now older ≡ true) → Living now (command ∷ older) ≤ Living now older
scans-few now older command same alive =
    subst (λ (n : ℕ). length (filter (Lives now (command ∷ older)) (range_with_len 1 n)) ≤ Living now older) (sym same)
    (fewer (Lives now (command ∷ older)) (Lives now older) 1 (granted older)
    (λ name low. alive name))

-- one that was given up
ends-alive : (now name other : ℕ) (older : List Command) → is_alive name now (Ends now other ∷ older) ≡ true → is_alive name now older ≡ true
ends-alive now name other older = by (nat_eq name other)
  where
    by : (b : Bool) → is_some (unless_past now (cond b None (runs_until name older))) ≡ true → is_some (unless_past now (runs_until name older)) ≡ true
    by true e = absurd (cc)
    by false e = e

-- only one that lives is renewed, so it lived before
lives-alive : (name now : ℕ) (commands : List Command) → lives name now commands ≡ true → is_alive name now commands ≡ true
lives-alive name now commands living =
    let names : List ℕ = alive_names now commands in
    let among = among-contained names name (any-contained name names living) in
    let passes = filter-among (Lives now commands) (range_with_len 1 (granted commands)) name among in
    passes.1

renews-alive : (now name other : ℕ) (older : List Command) → is_alive name now older ≡ true → is_alive other now (Renews now name granted_seconds ∷ older) ≡ true →
    is_alive other now older ≡ true
renews-alive now name other older alive = by (nat_eq other name) refl
  where
    ends : Option ℕ
    ends = runs_until other older

    by : (b : Bool) → nat_eq other name ≡ b → is_some (unless_past now (cond b (renewed_until (end_after now granted_seconds) ends) ends)) ≡ true →
        is_some (unless_past now ends) ≡ true
    by true same e = ap (λ (n : ℕ). is_alive n now older) (eqb-true other name same) ∙ alive
    by false same e = e

-- after a tick at the same moment or a later one
tick-alive : (now moment : ℕ) → now ≤ moment → (o : Option ℕ) → is_some (unless_past moment (unless_past moment o)) ≡ true → is_some (unless_past now o) ≡ true
tick-alive now moment late None e = e
tick-alive now moment late (Some end) e = by (nat_lt moment end) refl e
  where
    by : (b : Bool) → nat_lt moment end ≡ b → is_some (unless_past moment (cond b (Some end) None)) ≡ true → is_some (cond (nat_lt now end) (Some end) None) ≡ true
    by true l f = let low = ltb-true moment end l in ap (λ b. is_some (cond b (Some end) None)) (lt-ltb now end (omega (arith, late, low)))
    by false l f = absurd (cc)

tick-few : (now moment : ℕ) (older : List Command) → now ≤ moment → Living moment (Ticks moment ∷ older) ≤ Living now older
tick-few now moment older late =
    fewer (Lives moment (Ticks moment ∷ older)) (Lives now older) 1 (granted older)
    (λ name low alive. tick-alive now moment late (runs_until name older) alive)

-- a name that was granted before
grant-alive : (now name : ℕ) (older : List Command) → name < 1 + granted older → is_alive name now (grant_at now ∷ older) ≡ true → is_alive name now older ≡ true
grant-alive now name older low e =
    ap (λ b. is_some (unless_past now (cond b (Some (end_after now granted_seconds)) (runs_until name older)))) (sym (ne_eqb name (granted older + 1) (λ same. omega (arith, low, same)))) ∙ e

grant-few : (now : ℕ) (older : List Command) → has_room now older ≡ true → Living now (grant_at now ∷ older) ≤ subscription_limit
grant-few now older room =
    let low = ltb-true (Living now older) subscription_limit room in
    let next : granted older + 1 ≡ suc (granted older) = omega arith in
    let p = Lives now (grant_at now ∷ older) in
    let more = one-more p 1 (granted older) in
    let few = fewer p (Lives now older) 1 (granted older) (λ name under. grant-alive now name older under) in
    subst (λ (n : ℕ). length (filter p (range_with_len 1 n)) ≤ subscription_limit) (sym next) (omega (arith, more, few, low))

-- ---- the subscriptions after turns

abbrev AreFew : ℕ → List Command → Type 0
AreFew now commands = Living now commands ≤ subscription_limit

scan-few : (first now : ℕ) (records : List Record) (commands : List Command) → AreFew now commands →
    AreFew now (scanned (scan_answer (scans_of first commands) records) records commands)
scan-few first now records commands few = by _ (scanned-cases (scans_of first commands) records commands)
  where
    by : (after : List Command) → ScannedCases (scans_of first commands) records commands after → AreFew now after
    by after (inl same) = subst (AreFew now) (sym same) few
    by after (inr scan) =
        let fewer = scans-few now commands (Scans (map_of records)) refl (λ name alive. alive) in
        subst (AreFew now) (sym scan.3) (omega (arith, fewer, few))

given_up-few : (now : ℕ) (commands : List Command) (o : Option ℕ) → AreFew now commands → AreFew now (given_up o now commands)
given_up-few now commands None few = few
given_up-few now commands (Some name) few = by (lives name now commands)
  where
    by : (b : Bool) → AreFew now (cond b (Ends now name ∷ commands) commands)
    by true = let fewer = scans-few now commands (Ends now name) refl (λ other alive. ends-alive now other name commands alive) in omega (arith, fewer, few)
    by false = few

renewal-few : (now : ℕ) (commands : List Command) (o : Option ℕ) → AreFew now commands → AreFew now (with_renewal o now commands)
renewal-few now commands None few = few
renewal-few now commands (Some name) few = by (lives name now commands) refl
  where
    by : (b : Bool) → lives name now commands ≡ b → AreFew now (cond b (Renews now name granted_seconds ∷ commands) commands)
    by true living =
        let before = lives-alive name now commands living in
        let fewer = scans-few now commands (Renews now name granted_seconds) refl (λ other alive. renews-alive now name other commands before alive) in
        omega (arith, fewer, few)
    by false living = few

step : (first : ℕ) (older : List ScriptTurn) (turn : ScriptTurn) → may_stand older turn ≡ true → AreFew (clock_of older) (played older).commands →
    AreFew (clock_of (turn ∷ older)) (play first (clock_of older) (records_since older) (played older) turn).commands
step first older (Folder path) stands few = few
step first older (Track path info size) stands few = few
step first older (Tag comment) stands few = few
step first older Scan stands few = scan-few first (clock_of older) (records_since older) (played older).commands few
step first older Load stands few = few
step first older Read stands few = few
step first older Ask stands few = few
step first older (First number) stands few = few
step first older (Wrap number) stands few = few
step first older (At moment) stands few =
    let late = leb-true (clock_of older) moment stands in
    let fewer = tick-few (clock_of older) moment (played older).commands late in omega (arith, fewer, few)
step first older Subscribe stands few = by (has_room (clock_of older) (played older).commands) refl
  where
    p : Played
    p = played older

    by : (b : Bool) → has_room (clock_of older) p.commands ≡ b → let after : Played = cond b
        (record p { commands = grant_at (clock_of older) ∷ p.commands; replica = Requests ∷ p.replica; reply = Named (granted p.commands + 1) })
        (record p { replica = Requests ∷ p.replica; reply = Refusal }) in AreFew (clock_of older) after.commands
    by true room = grant-few (clock_of older) p.commands room
    by false room = few
step first older Accept stands few = few
step first older Renew stands few = renewal-few (clock_of older) (played older).commands (accepted (played older).replica) few
step first older Unsubscribe stands few = given_up-few (clock_of older) (played older).commands (accepted (played older).replica) few
step first older (Deliver note) stands few = few
step first older ReadFault stands few = few

few-live : (turns : List ScriptTurn) → AllStand turns → AreFew (clock_of turns) (played turns).commands
few-live [] stand = omega arith
few-live (turn ∷ older) stand = step (first_of older) older turn stand.0 (few-live older stand.1)

pub subscriptions-few : subscriptions_are_few
subscriptions-few turns may = few-live turns may.stand
