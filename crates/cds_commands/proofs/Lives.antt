-- A subscription runs exactly where it was granted, was not given up, and no tick came at or past its end.
use Rattle.std.proofs.Common.{◌≡◌, ◌⊎◌, inl, inr, ◌+◌, ◌<◌, ◌≤◌, ℕ, suc, Bool, true, false, cond, ◌&&◌, nat_eq, nat_lt, List, [], ◌∷◌, ◌++◌, Option, Some, None, is_some, refl, sym, ap, ◌∙◌, subst, arith, true≢false, eqb-true, eq-eqb, ne_eqb, ltb-true, lt-ltb, leb-true, le-leb}
use Rattle.std.specs.Prelude.{◌↔◌, IsSome}
use Rattle.std.specs.List.{Contains, range_with_len}
use Rattle.std.proofs.lemmas.Bool.{eqb-false}
use Rattle.cds_catalog.proofs.StepsFind.{none≢some}
use Rattle.cds_catalog.specs.History.{History, end_of}
use Rattle.cds_commands.specs.Commands.{Command, Scans, Grants, Renews, Ends, Ticks, Stops, scans_of}
use Rattle.cds_commands.specs.Releases.{Release, release_pause, released_to, may_release, release_at, releases_of}
use Rattle.cds_commands.specs.Subscriptions.{granted, end_after, renewed_until, unless_past, runs_until, is_alive}
use Rattle.cds_commands.specs.Notes.{alive_names}
use Rattle.cds_commands.specs.SubscriptionLaws.{lease_end, HasRun, Lives, subscriptions_live_until_their_end, ticks_release_what_is_due}
use Rattle.cds_commands.proofs.Among.{Among, among-contained, among-filter, filter-among, among-row}
use Rattle.cds_commands.proofs.Sent.{granted-more, first-is}

pub among-contains : {X : Type 0} (xs : List X) (x : X) → Among x xs → Contains xs x
among-contains [] x a = absurd a
among-contains {X} (y ∷ ys) x a = by a (λ b. among-contains ys x b)
  where
    by : (x ≡ y) ⊎ Among x ys → (Among x ys → Contains ys x) → Contains (y ∷ ys) x
    by (inl e) r = (0, omega arith, sym e)
    by (inr b) r = let c = r b in let low = c.1 in (suc c.0, omega (arith, low), c.2)

-- ---- one more command

extend : (name : ℕ) (command : Command) (older : List Command) (before end : ℕ) → (r : HasRun name older before) →
    ((at : ℕ) → command ≡ Ends at name → ⊥) → ((at : ℕ) → command ≡ Ticks at → at < before) →
    end ≡ lease_end name (end_after r.moment r.seconds) (command ∷ r.newer) → HasRun name (command ∷ older) end
extend name command older before end r no-end tick is = record {
  newer = command ∷ r.newer;
  older = r.older;
  moment = r.moment;
  callback = r.callback;
  seconds = r.seconds;
  parts = ap (λ (l : List Command). command ∷ l) r.parts;
  named = r.named;
  not_given_up = given;
  not_past = past;
  ends = is;
}
  where
    given : (later old : List Command) (at : ℕ) → command ∷ r.newer ≡ later ++ Ends at name ∷ old → ⊥
    given [] old at e = let h : command ≡ Ends at name = cc in no-end at h
    given (c ∷ later) old at e = let t : r.newer ≡ later ++ Ends at name ∷ old = cc in r.not_given_up later old at t

    past : (later old : List Command) (at : ℕ) → command ∷ r.newer ≡ later ++ Ticks at ∷ old → at < lease_end name (end_after r.moment r.seconds) old
    past [] old at e =
        let h : command ≡ Ticks at = cc in
        let t : r.newer ≡ old = cc in
        let low = tick at h in
        subst (λ (n : ℕ). at < n) (r.ends ∙ ap (lease_end name (end_after r.moment r.seconds)) t) low
    past (c ∷ later) old at e = let t : r.newer ≡ later ++ Ticks at ∷ old = cc in r.not_past later old at t

begin : (name moment seconds : ℕ) (callback : List ℕ) (older : List Command) → name ≡ granted older + 1 →
    HasRun name (Grants moment callback seconds ∷ older) (end_after moment seconds)
begin name moment seconds callback older is = record {
  newer = [];
  older = older;
  moment = moment;
  callback = callback;
  seconds = seconds;
  parts = refl;
  named = is;
  not_given_up = given;
  not_past = past;
  ends = refl;
}
  where
    given : (later old : List Command) (at : ℕ) → [] ≡ later ++ Ends at name ∷ old → ⊥
    given [] old at e = absurd (cc)
    given (c ∷ later) old at e = absurd (cc)

    past : (later old : List Command) (at : ℕ) → [] ≡ later ++ Ticks at ∷ old → at < lease_end name (end_after moment seconds) old
    past [] old at e = absurd (cc)
    past (c ∷ later) old at e = absurd (cc)

-- ---- what runs has run

pub has-run : (name end : ℕ) (commands : List Command) → runs_until name commands ≡ Some end → HasRun name commands end
has-run name end [] e = none≢some None end refl e
has-run name end (Scans library ∷ older) e =
    let r = has-run name end older e in extend name (Scans library) older end end r (λ at h. absurd (cc)) (λ at h. absurd (cc)) r.ends
has-run name end (Grants moment callback seconds ∷ older) e = by (nat_eq name (granted older + 1)) refl e (λ n f. has-run name n older f)
  where
    by : (b : Bool) → nat_eq name (granted older + 1) ≡ b → cond b (Some (end_after moment seconds)) (runs_until name older) ≡ Some end → ((n : ℕ) → runs_until name older ≡ Some n → HasRun name older n) →
        HasRun name (Grants moment callback seconds ∷ older) end
    by true t f run =
        let same : end_after moment seconds ≡ end = cc in
        subst (HasRun name (Grants moment callback seconds ∷ older)) same (begin name moment seconds callback older (eqb-true name (granted older + 1) t))
    by false t f run =
        let r = run end f in extend name (Grants moment callback seconds) older end end r (λ at h. absurd (cc)) (λ at h. absurd (cc)) r.ends
has-run name end (Renews moment other seconds ∷ older) e = by (nat_eq name other) refl (runs_until name older) refl e (λ n f. has-run name n older f)
  where
    by : (b : Bool) → nat_eq name other ≡ b → (o : Option ℕ) → runs_until name older ≡ o → cond b (renewed_until (end_after moment seconds) o) o ≡ Some end → ((n : ℕ) → runs_until name older ≡ Some n → HasRun name older n) →
        HasRun name (Renews moment other seconds ∷ older) end
    by true t None g f run = none≢some None end refl f
    by true t (Some before) g f run =
        let r = run before g in
        let same : end_after moment seconds ≡ end = cc in
        extend name (Renews moment other seconds) older before end r (λ at h. absurd (cc)) (λ at h. absurd (cc))
        (sym same ∙ ap (λ c. cond c (end_after moment seconds) (lease_end name (end_after r.moment r.seconds) r.newer)) (sym t))
    by false t o g f run =
        let r = run end (g ∙ f) in
        extend name (Renews moment other seconds) older end end r (λ at h. absurd (cc)) (λ at h. absurd (cc))
        (r.ends ∙ ap (λ c. cond c (end_after moment seconds) (lease_end name (end_after r.moment r.seconds) r.newer)) (sym t))
has-run name end (Ends moment other ∷ older) e = by (nat_eq name other) refl e (λ n f. has-run name n older f)
  where
    by : (b : Bool) → nat_eq name other ≡ b → cond b None (runs_until name older) ≡ Some end → ((n : ℕ) → runs_until name older ≡ Some n → HasRun name older n) → HasRun name (Ends moment other ∷ older) end
    by true t f run = none≢some None end refl f
    by false t f run =
        let r = run end f in
        extend name (Ends moment other) older end end r (λ at h. let same : other ≡ name = cc in eqb-false name other t (sym same)) (λ at h. absurd (cc)) r.ends
has-run name end (Ticks moment ∷ older) e = by (runs_until name older) refl e (λ n f. has-run name n older f)
  where
    on : (before : ℕ) → runs_until name older ≡ Some before → (b : Bool) → nat_lt moment before ≡ b → cond b (Some before) None ≡ Some end → ((n : ℕ) → runs_until name older ≡ Some n → HasRun name older n) → HasRun name (Ticks moment ∷ older) end
    on before g false t f run = none≢some None end refl f
    on before g true t f run =
        let same : before ≡ end = cc in
        let r = run end (g ∙ ap Some same) in
        let low = ltb-true moment before t in
        extend name (Ticks moment) older end end r (λ at h. absurd (cc)) (λ at h. let is : moment ≡ at = cc in omega (arith, is, low, same)) r.ends

    by : (o : Option ℕ) → runs_until name older ≡ o → unless_past moment o ≡ Some end → ((n : ℕ) → runs_until name older ≡ Some n → HasRun name older n) → HasRun name (Ticks moment ∷ older) end
    by None g f run = none≢some None end refl f
    by (Some before) g f run = on before g (nat_lt moment before) refl f run
has-run name end (Stops ∷ older) e =
    let r = has-run name end older e in extend name Stops older end end r (λ at h. absurd (cc)) (λ at h. absurd (cc)) r.ends

-- ---- what has run runs

granted-append : (newer older : List Command) → granted older ≤ granted (newer ++ older)
granted-append [] older = omega arith
granted-append (command ∷ newer) older =
    let rest = granted-append newer older in let more = granted-more command (newer ++ older) in omega (arith, rest, more)

module _ (name moment seconds : ℕ) (callback : List ℕ) (older : List Command) (named : name ≡ granted older + 1) where
  abbrev begun : List Command
  begun = Grants moment callback seconds ∷ older

  abbrev lease : List Command → ℕ
  lease newer = lease_end name (end_after moment seconds) newer

  pub still : (newer : List Command) → ((later old : List Command) (at : ℕ) → newer ≡ later ++ Ends at name ∷ old → ⊥)
      → ((later old : List Command) (at : ℕ) → newer ≡ later ++ Ticks at ∷ old → at < lease old) → runs_until name (newer ++ begun) ≡ Some (lease newer)
  still [] given past = ap (λ b. cond b (Some (end_after moment seconds)) (runs_until name older)) (eq-eqb name (granted older + 1) named)
  still (command ∷ newer) given past =
      on command given past (still newer (λ later old at e. given (command ∷ later) old at (ap (λ (l : List Command). command ∷ l) e))
      (λ later old at e. past (command ∷ later) old at (ap (λ (l : List Command). command ∷ l) e)))
    where
      on : (command : Command) → ((later old : List Command) (at : ℕ) → command ∷ newer ≡ later ++ Ends at name ∷ old → ⊥)
          → ((later old : List Command) (at : ℕ) → command ∷ newer ≡ later ++ Ticks at ∷ old → at < lease old) → runs_until name (newer ++ begun) ≡ Some (lease newer)
          → runs_until name (command ∷ newer ++ begun) ≡ Some (lease (command ∷ newer))
      on (Scans library) given past r = r
      on (Grants m c s) given past r =
          let low = granted-append newer begun in
          ap (λ b. cond b (Some (end_after m s)) (runs_until name (newer ++ begun))) (ne_eqb name (granted (newer ++ begun) + 1) (λ e. omega (arith, low, named, e))) ∙ r
      on (Renews m other s) given past r = by (nat_eq name other)
        where
          by : (b : Bool) → cond b (renewed_until (end_after m s) (runs_until name (newer ++ begun))) (runs_until name (newer ++ begun)) ≡ Some (cond b (end_after m s) (lease newer))
          by true = ap (renewed_until (end_after m s)) r
          by false = r
      on (Ends m other) given past r = by (nat_eq name other) refl
        where
          by : (b : Bool) → nat_eq name other ≡ b → cond b None (runs_until name (newer ++ begun)) ≡ Some (lease newer)
          by true t = absurd (given [] newer m (ap (λ (n : ℕ). Ends m n ∷ newer) (sym (eqb-true name other t))))
          by false t = r
      on (Ticks m) given past r =
          ap (unless_past m) r ∙ ap (λ b. cond b (Some (lease newer)) None) (lt-ltb m (lease newer) (past [] newer m refl))
      on Stops given past r = r

pub runs : (name end : ℕ) (commands : List Command) → HasRun name commands end → runs_until name commands ≡ Some end
runs name end commands r =
    ap (runs_until name) r.parts ∙ still name r.moment r.seconds r.callback r.older r.named r.newer r.not_given_up r.not_past ∙ ap Some (sym r.ends)

-- ---- which names live

named-within : (name end : ℕ) (commands : List Command) → HasRun name commands end → (1 ≤ name) × (name ≤ granted commands)
named-within name end commands r =
    let is = r.named in
    let low = granted-append r.newer (Grants r.moment r.callback r.seconds ∷ r.older) in
    let all = ap granted r.parts in
    (omega (arith, is), omega (arith, is, low, all))

-- a name that runs was granted
pub runs-granted : (name end : ℕ) (commands : List Command) → runs_until name commands ≡ Some end → (1 ≤ name) × (name ≤ granted commands)
runs-granted name end commands e = named-within name end commands (has-run name end commands e)

both : (a b : Bool) → a && b ≡ true → (a ≡ true) × (b ≡ true)
both true b e = (refl, e)
both false b e = absurd (true≢false (sym e))

has-end : (now : ℕ) (o : Option ℕ) → is_some (unless_past now o) ≡ true → (end : ℕ) × (o ≡ Some end) × (now < end)
has-end now None e = absurd (true≢false (sym e))
has-end now (Some end) e = by (nat_lt now end) refl e
  where
    by : (b : Bool) → nat_lt now end ≡ b → is_some (cond b (Some end) None) ≡ true → (n : ℕ) × (Some end ≡ Some n) × (now < n)
    by true t f = (end, refl, ltb-true now end t)
    by false t f = absurd (true≢false (sym f))

abbrev pub passes : ℕ → List Command → ℕ → Bool
passes now commands n = is_alive n now commands

-- what is tested of a name says that it lives, and the other way round
pub test-lives : (name now : ℕ) (commands : List Command) → passes now commands name ≡ true → Lives name now commands
test-lives name now commands e = let end = has-end now (runs_until name commands) e in (end.0, has-run name end.0 commands end.1, end.2)

pub lives-test : (name now : ℕ) (commands : List Command) → Lives name now commands → passes now commands name ≡ true
lives-test name now commands (end, run, before) =
    ap (λ o. is_some (unless_past now o)) (runs name end commands run) ∙ ap (λ b. is_some (cond b (Some end) None)) (lt-ltb now end before)

lives-found : (name now : ℕ) (commands : List Command) → Contains (alive_names now commands) name → Lives name now commands
lives-found name now commands c =
    let f = filter-among (passes now commands) (range_with_len 1 (granted commands)) name (among-contained (alive_names now commands) name c) in
    test-lives name now commands f.1

found-lives : (name now : ℕ) (commands : List Command) → Lives name now commands → Contains (alive_names now commands) name
found-lives name now commands lives =
    let within = named-within name lives.0 commands lives.1 in
    let low = within.0 in
    let high = within.1 in
    among-contains (alive_names now commands) name
    (among-filter (passes now commands) (range_with_len 1 (granted commands)) name (among-row 1 (granted commands) name low (omega (arith, high)))
    (lives-test name now commands lives))

pub live-until : subscriptions_live_until_their_end
live-until name now commands = (lives-found name now commands, found-lives name now commands)

-- ---- ticks

both-hold : (a b : Bool) → a ≡ true → b ≡ true → a && b ≡ true
both-hold a b e f = λ i. e i && f i

some-test : {X : Type 0} (b : Bool) (x : X) → IsSome (cond b (Some x) None) → b ≡ true
some-test true x s = refl
some-test false x s = absurd (true≢false (sym s))

test-some : {X : Type 0} (b : Bool) (x : X) → b ≡ true → IsSome (cond b (Some x) None)
test-some true x e = refl
test-some false x e = absurd (true≢false (sym e))

-- no release came before a moment, or the last one is long enough past
abbrev Waited : ℕ → List Release → Type 0
Waited now releases = (releases ≡ []) ⊎ ((last : Release) × (before : List Release) × (releases ≡ last ∷ before) × (last.moment + release_pause ≤ now))

may-waited : (now : ℕ) (releases : List Release) → may_release now releases ≡ true → Waited now releases
may-waited now [] e = inl refl
may-waited now (last ∷ before) e = inr (last, before, refl, leb-true (last.moment + release_pause) now e)

waited-may : (now : ℕ) (releases : List Release) → Waited now releases → may_release now releases ≡ true
waited-may now releases (inl e) = ap (may_release now) e
waited-may now releases (inr (last, before, e, low)) = ap (may_release now) e ∙ le-leb (last.moment + release_pause) now low

due : (first now : ℕ) (history : History) (releases : List Release) → history.first ≡ first →
    (IsSome (release_at now history releases)) ↔ ((released_to first releases < end_of history) × Waited now releases)
due first now history releases same = (
  (λ s. let t = both _ _ (some-test (nat_lt (released_to history.first releases) (end_of history) && may_release now releases) _ s) in
      (subst (λ (f : ℕ). released_to f releases < end_of history) same (ltb-true (released_to history.first releases) (end_of history) t.0), may-waited now releases t.1)),
  (λ t. test-some (nat_lt (released_to history.first releases) (end_of history) && may_release now releases) _
      (both-hold _ _ (lt-ltb (released_to history.first releases) (end_of history) (subst (λ (f : ℕ). released_to f releases < end_of history) (sym same) t.0))
      (waited-may now releases t.1))),
)

pub release-due : ticks_release_what_is_due
release-due first now commands = due first now (scans_of first commands) (releases_of first commands) (first-is first commands)
