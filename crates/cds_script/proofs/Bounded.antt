-- The bound on the reads of a load, over any turns of a script.
use Rattle.std.proofs.Common.{◌≡◌, ◌≢◌, ℕ, zero, suc, ◌+◌, ◌<◌, ◌≤◌, List, [], ◌∷◌, length, Bool, true, false, cond, not, ◌&&◌, ◌||◌, nat_eq, nat_lt, refl, ap, sym, subst, ◌∙◌, arith, true≢false, ◌⊎◌, inl, inr, Option, Some, None}
use Rattle.std.specs.Prelude.{codes}
use Rattle.std.proofs.lemmas.Bool.{eqb-true, eqb-false}
use Rattle.cds_object.specs.Object.{ObjectRow}
use Rattle.cds_object.specs.Tree.{IsTree}
use Rattle.cds_object.specs.declared.record.Record.{Record}
use Rattle.cds_catalog.specs.Library.{map_of}
use Rattle.cds_catalog.specs.History.{end_of, with_scan}
use Rattle.cds_catalog.specs.Catalog.{catalog}
use Rattle.cds_catalog.specs.Laws.{AreLibraries}
use Rattle.cds_catalog.proofs.Accepted.{accepted_map}
use Rattle.cds_catalog.proofs.Numbers.{ends_rise, equal_ends_equal_catalogs}
use Rattle.cds_load.specs.declared.exchange.Ask.{Ask as Asked}
use Rattle.cds_load.specs.declared.exchange.Shown.{Shown}
use Rattle.cds_load.specs.Server.{Moment, reply_to}
use Rattle.cds_load.specs.Stages.{Held, Idle, Begun, HasToken, HasNumber, HasRoot, Lists, HasPage, HasCopy, taken, held_by, next_ask as load_ask, Begins as LoadBegins, Shows as LoadShows, Loads}
use Rattle.cds_script.specs.Report.{script_token, number_of, first_of, clock_of, records_since, Played, after_reply, after_note, reaching, sent_note, given_up, with_renewal, lives, play, played, history_of, answer_text}
use Rattle.cds_load.specs.Loads.{load_reads, held_with, read_once}
use Rattle.cds_script.specs.LoadBounds.{answered, drops, reply_drops, note_drops, answered_after, answered_since, loads_are_bounded, all_turns_bound_loads}
use Rattle.cds_load.proofs.Honest.{IsServed, IsGiven as IsHeldGiven}
use Rattle.cds_load.proofs.Servers.{StoodAt, server-serves}
use Rattle.cds_load.proofs.Ends.{Left, read-left, none-left}
use Rattle.cds_load.proofs.Bounds.{Stale, Owes, read-stale, scan-stale}
use Rattle.cds_commands.specs.Commands.{Command, Renews, Ends, scans_of}
use Rattle.cds_commands.specs.Notes.{Note, has_room, notes_of}
use Rattle.cds_commands.specs.Subscriptions.{granted}
use Rattle.cds_follow.specs.Copy.{least_unread, read_up_to}
use Rattle.cds_follow.specs.Inbox.{ReplicaTurn, Begins, Shows, Requests, Accepts, Refuses, Delivers, accepted, missing, taken_by, arrival}
use Rattle.cds_follow.specs.Follow.{Known, position, is_drop, with_notes, with_reply, known_by, is_turned_away, is_refused, and_turn, ask_of, next_ask, copy_says, says_without_gap, says_of, says}
use Rattle.cds_follow.specs.Given.{moment_after, asked_at, given_by, latest_length}
use Rattle.cds_follow.specs.HonestLaws.{begins_load, load_was_begun}
use Rattle.cds_follow.specs.KnownLaws.{has_copy}
use Rattle.cds_follow.specs.LoadTurns.{load_turns}
use Rattle.cds_follow.specs.ServerLaws.{served}
use Rattle.cds_follow.specs.Wire.{says_by_seq}
use Rattle.cds_follow.specs.declared.says.Says.{Says}
use Rattle.cds_follow.specs.declared.says.Says.TheVariants.{Gap, BehindLoad, BehindRead, BehindVersion, Stands}
use Rattle.cds_follow.proofs.Served.{commands-serve}
use Rattle.cds_follow.proofs.Stages.{following-later}
use Rattle.cds_follow.proofs.Honest.{entries-served}
use Rattle.cds_follow.proofs.LoadTurns.{loads-are-of-turns}
use Rattle.cds_script.specs.declared.turn.ScriptTurn.{ScriptTurn}
use Rattle.cds_script.specs.declared.turn.ScriptTurn.TheVariants.{Folder, Track, Tag, Scan, Load, Read, Ask, First, Wrap, At, Subscribe, Accept, Renew, Unsubscribe, Deliver, ReadFault}
use Rattle.cds_script.proofs.Given.{Kept, ScannedCases, scanned-cases, oldest-all, turns-kept}
use Rattle.cds_script.specs.Played.{AllStand}
use Rattle.cds_script.proofs.Wrapped.{Reaches, next-reaches}
use Rattle.cds_script.proofs.Stood.{read-taken, note-taken, name-taken, may-before_ask, letter_at}
use Rattle.cds_script.specs.declared.reply.HeldReply.{HeldReply}
use Rattle.cds_script.specs.declared.reply.HeldReply.TheVariants.{NoReply, Named, Refusal}
use Rattle.cds_script.specs.Script.{grant_at, granted_seconds}
use Rattle.cds_load.specs.Outcome.{Goes, after_outcome, is_no}

-- ---- what is owed

left-not_idle : (m : Moment) (held : Held) (r : ℕ) → Left m held r → held ≢ Idle
left-not_idle m held r left e = let P : Held → Type 0 = λ h. Left m h r in subst P e left

stale-not_idle : (m : Moment) (held : Held) (r : ℕ) → Stale m held r → held ≢ Idle
stale-not_idle m held r stale e = let P : Held → Type 0 = λ h. Stale m h r in subst P e stale

stale-some : (m : Moment) (held : Held) → Stale m held 0 → ⊥
stale-some m Idle stale = stale
stale-some m (Loads Begun) stale = stale
stale-some m (Loads HasToken) stale = stale
stale-some m (Loads (HasNumber number)) stale = omega (arith, stale.1)
stale-some m (Loads (HasRoot number root)) stale = omega (arith, stale.1)
stale-some m (Loads (Lists number l)) stale = omega (arith, stale.1)
stale-some m (Loads (HasPage number l page)) stale = omega (arith, stale.1)
stale-some m (HasCopy number rows) stale = stale

-- a replica that holds no copy owes so many reads
pub record Owing (m : Moment) (held : Held) (n : ℕ) : Type 0 where
  pub begun : held ≢ Idle
  pub left : ℕ
  pub bound : n + left ≤ load_reads m.rows + 2
  pub owes : Left m held left ⊎ Stale m held left

-- no load was begun; or a copy stands; or so many reads are owed
abbrev Bound : Moment → List ReplicaTurn → ℕ → Type 0
Bound m r n = ((load_was_begun r ≡ false) × ((known_by r).held ≡ Idle)) ⊎ ((has_copy (known_by r).held ≡ true) ⊎ Owing m (known_by r).held n)

owing-by : (m : Moment) (held : Held) (n left : ℕ) → held ≢ Idle → n + left ≤ load_reads m.rows + 2 → Owes m held left → (has_copy held ≡ true) ⊎ Owing m held n
owing-by m held n left begun bound (inl copy) = inl (ap has_copy copy.2)
owing-by m held n left begun bound (inr owes) = inr (record { begun = begun; left = left; bound = bound; owes = owes })

-- other turns of the replica that leave what it holds
same-bound : (m : Moment) (r then : List ReplicaTurn) (n : ℕ) → load_was_begun then ≡ load_was_begun r → (known_by then).held ≡ (known_by r).held → Bound m r n → Bound m then n
same-bound m r then n begun held (inl none) = inl (begun ∙ none.0, held ∙ none.1)
same-bound m r then n begun held (inr (inl copy)) = inr (inl (ap has_copy held ∙ copy))
same-bound m r then n begun held (inr (inr owing)) = inr (inr (subst (λ (h : Held). Owing m h n) (sym held) owing))

begun-bound : (m : Moment) (r : List ReplicaTurn) → (known_by r).held ≡ (Loads Begun) → Bound m r 0
begun-bound m r held = inr (inr (subst (λ (h : Held). Owing m h 0) (sym held) (record {
  begun = λ (e : (Loads Begun) ≡ Idle). cc;
  left = load_reads m.rows;
  bound = omega arith;
  owes = inl refl;
})))

-- ---- the server of a script

module _ (first : ℕ) (p : Played) (kept : Kept first p) where
  abbrev m : Moment
  m = moment_after script_token first p.commands

  abbrev n : ℕ
  n = length p.commands

  abbrev Stood : Moment → Type 0
  Stood = StoodAt (served script_token first p.commands) n

  now-serves : IsServed Stood m
  now-serves =
      subst (λ (cs : List Command). IsServed Stood (moment_after script_token first cs)) (oldest-all p.commands)
      (server-serves (served script_token first p.commands) n (commands-serve script_token first p.commands kept.accepted.libraries))

  held-given : IsHeldGiven Stood (known_by p.replica).held
  held-given =
      let s = entries-served script_token first p.commands kept.accepted kept.entries kept.given in
      subst (λ turns. IsHeldGiven Stood (known_by turns).held) (sym kept.are)
      (following-later script_token first p.commands kept.accepted (latest_length kept.entries) n (known_by (given_by script_token first p.commands kept.entries)) kept.within s.following).given

-- ---- a scan

-- a scan that keeps the number keeps the moment
same-moment : (first : ℕ) (records : List Record) (commands now : List Command) → AreLibraries (scans_of first commands).maps →
    ScannedCases (scans_of first commands) records commands now → end_of (scans_of first now) ≡ end_of (scans_of first commands) →
    moment_after script_token first now ≡ moment_after script_token first commands
same-moment first records commands now libraries (inl e) ends = ap (moment_after script_token first) e
same-moment first records commands now libraries (inr e) ends =
    let accepted : AreLibraries (map_of records ∷ (scans_of first commands).maps) = ((accepted_map records e.0).0, libraries) in
    let same : end_of (with_scan (scans_of first commands) (map_of records)) ≡ end_of (scans_of first commands) = ap (λ cs. end_of (scans_of first cs)) (sym e.3) ∙ ends in
    ap (moment_after script_token first) e.3
    ∙ (let M : ℕ → List ObjectRow → Moment = λ k rows. record { token = script_token; number = k; rows = rows } in
    λ i. M (same i) ((equal_ends_equal_catalogs (scans_of first commands).first (map_of records ∷ []) (scans_of first commands).maps accepted same) i))

number-above : (first : ℕ) (records : List Record) (commands now : List Command) → ScannedCases (scans_of first commands) records commands now →
    (end_of (scans_of first now) ≡ end_of (scans_of first commands) → ⊥) → end_of (scans_of first commands) < end_of (scans_of first now)
number-above first records commands now (inl e) apart = absurd (apart (ap (λ cs. end_of (scans_of first cs)) e))
number-above first records commands now (inr e) apart =
    let rise : end_of (scans_of first commands) ≤ end_of (with_scan (scans_of first commands) (map_of records)) =
    ends_rise (scans_of first commands).first (map_of records ∷ []) (scans_of first commands).maps in
    let same : end_of (scans_of first now) ≡ end_of (with_scan (scans_of first commands) (map_of records)) = ap (λ cs. end_of (scans_of first cs)) e.3 in
    omega (arith, rise, same, apart)

scan-bound : (first : ℕ) (records : List Record) (p : Played) → Kept first p → (n : ℕ) → Bound (moment_after script_token first p.commands) p.replica n → (now : List Command) →
    ScannedCases (scans_of first p.commands) records p.commands now →
    Bound (moment_after script_token first now) p.replica (cond (nat_eq (end_of (scans_of first now)) (end_of (scans_of first p.commands))) n 0)
scan-bound first records p kept n (inl none) now cases = inl none
scan-bound first records p kept n (inr (inl copy)) now cases = inr (inl copy)
scan-bound first records p kept n (inr (inr owing)) now cases = by (nat_eq (end_of (scans_of first now)) (end_of (scans_of first p.commands))) refl
  where
    by : (b : Bool) → nat_eq (end_of (scans_of first now)) (end_of (scans_of first p.commands)) ≡ b → Bound (moment_after script_token first now) p.replica (cond b n 0)
    by true e =
        let same = same-moment first records p.commands now kept.accepted.libraries cases (eqb-true _ _ e) in
        inr (inr (subst (λ m. Owing m (known_by p.replica).held n) (sym same) owing))
    by false e =
        let above = number-above first records p.commands now cases (eqb-false _ _ e) in
        let stale = scan-stale (Stood first p kept) (moment_after script_token first p.commands) (moment_after script_token first now) (now-serves first p kept) above (known_by p.replica).held owing.begun
        (held-given first p kept) in
        inr (owing-by (moment_after script_token first now) (known_by p.replica).held 0 stale.0 owing.begun (omega (arith, stale.1)) stale.2)

-- ---- a read

-- what a read leaves of what was owed
pub record OneLess (m : Moment) (now : Held) (left : ℕ) : Type 0 where
  pub begun : now ≢ Idle
  pub less : ℕ
  pub fewer : less + 1 ≡ left
  pub owes : Left m now less ⊎ Stale m now less

read-owes : (Stood : Moment → Type 0) (m : Moment) → IsServed Stood m → IsTree m.rows → (held : Held) (ask : Asked) (left : ℕ) →
    load_ask held ≡ Some ask → IsHeldGiven Stood held → Left m held left ⊎ Stale m held left → OneLess m (read_once m held) left
read-owes Stood m served tree held ask zero asks given (inl fresh) =
    let none : load_ask held ≡ None = ap load_ask (none-left m tree held fresh) in absurd (cc)
read-owes Stood m served tree held ask (suc n) asks given (inl fresh) =
    let now : Left m (read_once m held) n = read-left m tree held n fresh in
    record { begun = left-not_idle m (read_once m held) n now; less = n; fewer = omega arith; owes = inl now }
read-owes Stood m served tree held ask zero asks given (inr stale) = absurd (stale-some m held stale)
read-owes Stood m served tree held ask (suc n) asks given (inr stale) = by (read-stale Stood m served held n given stale)
  where
    by : Stale m (read_once m held) n ⊎ Left m (read_once m held) n → OneLess m (read_once m held) (suc n)
    by (inl now) = record { begun = stale-not_idle m (read_once m held) n now; less = n; fewer = omega arith; owes = inr now }
    by (inr now) = record { begun = left-not_idle m (read_once m held) n now; less = n; fewer = omega arith; owes = inl now }

-- while no copy stands the next ask is the load's
ask-load : (known : Known) (held : Held) → has_copy held ≡ false → ask_of known held ≡ load_ask held
ask-load known Idle c = refl
ask-load known (Loads stage) c = refl
ask-load known (HasCopy number rows) c = absurd (cc)

-- what is held after a reply that is not refused: where a copy stands it stays
reply-held : (r : List ReplicaTurn) (shown : Shown) (b : Bool) → has_copy (known_by r).held ≡ b → is_refused (Shows shown) r ≡ false →
    (known_by (Shows shown ∷ r)).held ≡ cond b (known_by r).held (after_outcome (known_by r).held (taken (known_by r).held shown))
reply-held r shown b copy free =
    loads-are-of-turns (Shows shown ∷ r) ∙ (λ i. held_by (cond (copy i || free i) (load_turns r) (LoadShows shown ∷ load_turns r))) ∙ by b
  where
    held : held_by (load_turns r) ≡ (known_by r).held
    held = sym (loads-are-of-turns r)

    by : (c : Bool) → held_by (cond (c || false) (load_turns r) (LoadShows shown ∷ load_turns r))
        ≡ cond c (known_by r).held (after_outcome (known_by r).held (taken (known_by r).held shown))
    by true = held
    by false = ap (λ (h : Held). after_outcome h (taken h shown)) held

-- and after notes: a first note that drops the copy begins a load, others leave it
notes-held : (r : List ReplicaTurn) (drop : Bool) → held_by (cond drop (LoadBegins ∷ load_turns r) (load_turns r)) ≡ cond drop (Loads Begun) (known_by r).held
notes-held r true = refl
notes-held r false = sym (loads-are-of-turns r)

-- a reply that is taken
shows-by : (r : List ReplicaTurn) (turn : ReplicaTurn) → is_refused turn r ≡ false → and_turn turn r ≡ turn ∷ r
shows-by r turn free = ap (λ b. cond b r (turn ∷ r)) free

read-bound : (first : ℕ) (p : Played) → Kept first p → (n : ℕ) → Bound (moment_after script_token first p.commands) p.replica n → (o : Option Asked) → next_ask (known_by p.replica) ≡ o →
    Bound (moment_after script_token first p.commands) (asked_at (moment_after script_token first p.commands) p.replica o) (answered o n)
read-bound first p kept n bound None asks = bound
read-bound first p kept n bound (Some ask) asks =
    subst (λ turns. Bound m turns (n + 1)) (sym turns) (by bound (has_copy known.held) refl)
  where
    m : Moment
    m = moment_after script_token first p.commands

    known : Known
    known = known_by p.replica

    ok : (now : Known) × (with_reply known known.held (reply_to m ask) ≡ Goes now)
    ok = read-taken first p kept ask asks

    free : is_refused (Shows (reply_to m ask)) p.replica ≡ false
    free = ap is_no ok.1

    turns : asked_at m p.replica (Some ask) ≡ Shows (reply_to m ask) ∷ p.replica
    turns = shows-by p.replica (Shows (reply_to m ask)) free

    by : Bound m p.replica n → (b : Bool) → has_copy known.held ≡ b → Bound m (Shows (reply_to m ask) ∷ p.replica) (n + 1)
    by any true c = inr (inl (ap has_copy (reply-held p.replica (reply_to m ask) true c free) ∙ c))
    by (inl none) false c =
        let idle : next_ask known ≡ None = ask-load known known.held c ∙ ap load_ask none.1 in absurd (cc)
    by (inr (inl copy)) false c = absurd (cc)
    by (inr (inr owing)) false c =
        let asked : load_ask known.held ≡ Some ask = sym (ask-load known known.held c) ∙ asks in
        let now : (known_by (Shows (reply_to m ask) ∷ p.replica)).held ≡ read_once m known.held =
        reply-held p.replica (reply_to m ask) false c free ∙ sym (ap (held_with m known.held) asked) in
        let serves = now-serves first p kept in
        let less = read-owes (Stood first p kept) m serves (serves.trees m serves.stood) known.held ask owing.left asked (held-given first p kept) owing.owes in
        let bound = owing.bound in let fewer = less.fewer in
        inr (inr (subst (λ (h : Held). Owing m h (n + 1)) (sym now) (record {
          begun = less.begun;
          left = less.less;
          bound = omega (arith, bound, fewer);
          owes = less.owes;
        })))

-- ---- notes that are taken

taken-bound : (m : Moment) (r : List ReplicaTurn) (turn : ReplicaTurn) (n : ℕ) → begins_load turn ≡ false →
    (known_by (turn ∷ r)).held ≡ cond (is_drop (position (known_by r)) (taken_by turn r)) (Loads Begun) (known_by r).held → Bound m r n →
    Bound m (turn ∷ r) (cond (is_drop (position (known_by r)) (taken_by turn r)) 0 n)
taken-bound m r turn n begins held bound = by (is_drop (position (known_by r)) (taken_by turn r)) refl
  where
    by : (b : Bool) → is_drop (position (known_by r)) (taken_by turn r) ≡ b → Bound m (turn ∷ r) (cond b 0 n)
    by true e = begun-bound m (turn ∷ r) (held ∙ ap (λ b. cond b (Loads Begun) (known_by r).held) e)
    by false e = same-bound m r (turn ∷ r) n
        ((λ i. begins i || is_drop (position (known_by r)) (taken_by turn r) || load_was_begun r) ∙ ap (λ b. b || load_was_begun r) e)
        (held ∙ ap (λ b. cond b (Loads Begun) (known_by r).held) e) bound

reply-bound : (first : ℕ) (m : Moment) (p : Played) → Kept first p → (n : ℕ) → Bound m p.replica n → (o : HeldReply) → p.reply ≡ o →
    Bound m (after_reply o p.replica) (cond (reply_drops o p.replica) 0 n)
reply-bound first m p kept n bound NoReply e = bound
reply-bound first m p kept n bound Refusal e = same-bound m p.replica (Refuses ∷ p.replica) n refl refl bound
reply-bound first m p kept n bound (Named name) e =
    let ok = name-taken first p kept name e in
    let free : is_refused (Accepts name) p.replica ≡ false = ap is_no ok.1 in
    subst (λ turns. Bound m turns (cond (drops (Accepts name) p.replica) 0 n)) (sym (shows-by p.replica (Accepts name) free))
    (subst (λ (b : Bool). Bound m (Accepts name ∷ p.replica) (cond (not b && is_drop (position (known_by p.replica)) (taken_by (Accepts name) p.replica)) 0 n)) (sym free)
    (taken-bound m p.replica (Accepts name) n refl
    (loads-are-of-turns (Accepts name ∷ p.replica) ∙ notes-held p.replica (is_drop (position (known_by p.replica)) (taken_by (Accepts name) p.replica))) bound))

-- a note that was sent
sent-bound : (first : ℕ) (m : Moment) (p : Played) → Kept first p → (n number : ℕ) → Bound m p.replica n → (note : Note) → sent_note number (notes_of first p.commands) ≡ Some note →
    Bound m (and_turn (Delivers note) p.replica) (cond (drops (Delivers note) p.replica) 0 n)
sent-bound first m p kept n number bound note e = by (is_turned_away (arrival note p.replica)) refl
  where
    ok : (now : Known) × (with_notes (taken_by (Delivers note) p.replica) (known_by p.replica) ≡ Goes now)
    ok = note-taken first p kept number note e

    refused : (b : Bool) → is_turned_away (arrival note p.replica) ≡ b → is_refused (Delivers note) p.replica ≡ b || false
    refused b a = λ i. a i || is_no (ok.1 i)

    by : (b : Bool) → is_turned_away (arrival note p.replica) ≡ b → Bound m (and_turn (Delivers note) p.replica) (cond (drops (Delivers note) p.replica) 0 n)
    by true a =
        subst (λ (b : Bool). Bound m (cond b p.replica (Delivers note ∷ p.replica)) (cond (not b && is_drop (position (known_by p.replica)) (taken_by (Delivers note) p.replica)) 0 n))
        (sym (refused true a)) bound
    by false a =
        subst (λ (b : Bool). Bound m (cond b p.replica (Delivers note ∷ p.replica)) (cond (not b && is_drop (position (known_by p.replica)) (taken_by (Delivers note) p.replica)) 0 n))
        (sym (refused false a))
        (taken-bound m p.replica (Delivers note) n refl
        (loads-are-of-turns (Delivers note ∷ p.replica) ∙ notes-held p.replica (is_drop (position (known_by p.replica)) (taken_by (Delivers note) p.replica))) bound)

-- a note that reaches the replica was sent, or is refused
note-bound : (first : ℕ) (m : Moment) (p : Played) → Kept first p → (n number : ℕ) → Bound m p.replica n → (o : Option Note) →
    ((note : Note) → o ≡ Some note → (sent_note number (notes_of first p.commands) ≡ Some note) ⊎ (is_refused (Delivers note) p.replica ≡ true)) →
    Bound m (after_note o p.replica) (cond (note_drops o p.replica) 0 n)
note-bound first m p kept n number bound None from = bound
note-bound first m p kept n number bound (Some note) from = by (from note refl)
  where
    by : (sent_note number (notes_of first p.commands) ≡ Some note) ⊎ (is_refused (Delivers note) p.replica ≡ true) →
        Bound m (and_turn (Delivers note) p.replica) (cond (drops (Delivers note) p.replica) 0 n)
    by (inl e) = sent-bound first m p kept n number bound note e
    by (inr refused) =
        subst (λ (b : Bool). Bound m (cond b p.replica (Delivers note ∷ p.replica)) (cond (not b && is_drop (position (known_by p.replica)) (taken_by (Delivers note) p.replica)) 0 n))
        (sym refused) bound

-- ---- all turns

given_up-same : (first now : ℕ) (commands : List Command) (o : Option ℕ) → moment_after script_token first (given_up o now commands) ≡ moment_after script_token first commands
given_up-same first now commands None = refl
given_up-same first now commands (Some name) = by (lives name now commands)
  where
    by : (b : Bool) → moment_after script_token first (cond b (Ends now name ∷ commands) commands) ≡ moment_after script_token first commands
    by true = refl
    by false = refl

renewal-same : (first now : ℕ) (commands : List Command) (o : Option ℕ) →
    moment_after script_token first (with_renewal o now commands) ≡ moment_after script_token first commands
renewal-same first now commands None = refl
renewal-same first now commands (Some name) = by (lives name now commands)
  where
    by : (b : Bool) → moment_after script_token first (cond b (Renews now name granted_seconds ∷ commands) commands) ≡ moment_after script_token first commands
    by true = refl
    by false = refl

step : (first now : ℕ) (records : List Record) (p : Played) → Kept first p → (n : ℕ) → Bound (moment_after script_token first p.commands) p.replica n → (turn : ScriptTurn) → Reaches first p turn →
    Bound (moment_after script_token first (play first now records p turn).commands) (play first now records p turn).replica (answered_after first records p n turn)
step first now records p kept n bound (Folder path) reaches = bound
step first now records p kept n bound (Track path info size) reaches = bound
step first now records p kept n bound (Tag comment) reaches = bound
step first now records p kept n bound Scan reaches = scan-bound first records p kept n bound _ (scanned-cases (scans_of first p.commands) records p.commands)
step first now records p kept n bound Load reaches = begun-bound (moment_after script_token first p.commands) (Begins ∷ p.replica) refl
step first now records p kept n bound Read reaches = read-bound first p kept n bound (next_ask (known_by p.replica)) refl
step first now records p kept n bound Ask reaches = bound
step first now records p kept n bound (First number) reaches = bound
step first now records p kept n bound (Wrap number) reaches = bound
step first now records p kept n bound (At moment) reaches = bound
step first now records p kept n bound Subscribe reaches = by (has_room now p.commands)
  where
    called : Bound (moment_after script_token first p.commands) (Requests ∷ p.replica) n
    called = same-bound (moment_after script_token first p.commands) p.replica (Requests ∷ p.replica) n refl refl bound

    by : (b : Bool) → let after : Played = cond b
        (record p { commands = grant_at now ∷ p.commands; replica = Requests ∷ p.replica; reply = Named (granted p.commands + 1) })
        (record p { replica = Requests ∷ p.replica; reply = Refusal }) in Bound (moment_after script_token first after.commands) after.replica n
    by true = called
    by false = called
step first now records p kept n bound Accept reaches = reply-bound first (moment_after script_token first p.commands) p kept n bound p.reply refl
step first now records p kept n bound Renew reaches = subst (λ m. Bound m p.replica n) (sym (renewal-same first now p.commands (accepted p.replica))) bound
step first now records p kept n bound Unsubscribe reaches =
    subst (λ m. Bound m p.replica n) (sym (given_up-same first now p.commands (accepted p.replica))) bound
step first now records p kept n bound (Deliver note) reaches = note-bound first (moment_after script_token first p.commands) p kept n note bound (reaching p.wrap p.replica (sent_note note (notes_of first p.commands))) reaches
step first now records p kept n bound ReadFault reaches = bound

nothing-bound : (m : Moment) → Bound m [] 0
nothing-bound m = inl (refl, refl)

first-bound : (turn : ScriptTurn) → number_of turn ≤ 4294967295 → Reaches 0 (played []) turn → Bound (moment_after script_token (number_of turn) (play 0 0 [] (played []) turn).commands) (play 0 0 [] (played []) turn).replica
    (answered_after 0 [] (played []) 0 turn)
first-bound (First number) low reaches = nothing-bound (moment_after script_token number [])
first-bound (Folder path) low reaches = nothing-bound (moment_after script_token 0 [])
first-bound (Track path info size) low reaches = nothing-bound (moment_after script_token 0 [])
first-bound (Tag comment) low reaches = nothing-bound (moment_after script_token 0 [])
first-bound Scan low reaches = step 0 0 [] (played []) (turns-kept [] low tt) 0 (nothing-bound (moment_after script_token 0 [])) Scan reaches
first-bound Load low reaches = step 0 0 [] (played []) (turns-kept [] low tt) 0 (nothing-bound (moment_after script_token 0 [])) Load reaches
first-bound Read low reaches = step 0 0 [] (played []) (turns-kept [] low tt) 0 (nothing-bound (moment_after script_token 0 [])) Read reaches
first-bound Ask low reaches = nothing-bound (moment_after script_token 0 [])
first-bound (Wrap number) low reaches = nothing-bound (moment_after script_token 0 [])
first-bound (At moment) low reaches = step 0 0 [] (played []) (turns-kept [] low tt) 0 (nothing-bound (moment_after script_token 0 [])) (At moment) reaches
first-bound Subscribe low reaches = step 0 0 [] (played []) (turns-kept [] low tt) 0 (nothing-bound (moment_after script_token 0 [])) Subscribe reaches
first-bound Accept low reaches = step 0 0 [] (played []) (turns-kept [] low tt) 0 (nothing-bound (moment_after script_token 0 [])) Accept reaches
first-bound Renew low reaches = step 0 0 [] (played []) (turns-kept [] low tt) 0 (nothing-bound (moment_after script_token 0 [])) Renew reaches
first-bound Unsubscribe low reaches = step 0 0 [] (played []) (turns-kept [] low tt) 0 (nothing-bound (moment_after script_token 0 [])) Unsubscribe reaches
first-bound (Deliver note) low reaches = step 0 0 [] (played []) (turns-kept [] low tt) 0 (nothing-bound (moment_after script_token 0 [])) (Deliver note) reaches
first-bound ReadFault low reaches = nothing-bound (moment_after script_token 0 [])

bounds : (turns : List ScriptTurn) → first_of turns ≤ 4294967295 → AllStand turns →
    Bound (moment_after script_token (first_of turns) (played turns).commands) (played turns).replica (answered_since turns)
bounds [] low all = nothing-bound (moment_after script_token 0 [])
bounds (turn ∷ []) low all = first-bound turn low (next-reaches turn [] all)
bounds (turn ∷ next ∷ older) low all =
    step (first_of (next ∷ older)) (clock_of (next ∷ older)) (records_since (next ∷ older)) (played (next ∷ older)) (turns-kept (next ∷ older) low all.1)
    (answered_since (next ∷ older)) (bounds (next ∷ older) low all.1) turn (next-reaches turn (next ∷ older) all)

-- where no copy stands some reads are owed
behind-no_copy : (r : List ReplicaTurn) → says r ≡ BehindLoad → has_copy (known_by r).held ≡ false
behind-no_copy r behind = by (missing r) behind
  where
    copy-on : (o : Option ℕ) → copy_says (known_by r) o ≡ BehindLoad → ⊥
    copy-on (Some id) e = cc
    copy-on None e = on (nat_lt (position (known_by r)) (read_up_to (known_by r).happenings)) e
      where
        on : (b : Bool) → cond b (BehindVersion (read_up_to (known_by r).happenings)) (Stands (position (known_by r))) ≡ BehindLoad → ⊥
        on true k = cc
        on false k = cc

    held-on : (held : Held) → says_without_gap (known_by r) held ≡ BehindLoad → has_copy held ≡ false
    held-on Idle e = refl
    held-on (Loads stage) e = refl
    held-on (HasCopy number rows) e = absurd (copy-on (least_unread (known_by r).happenings) e)

    by : (o : Option ℕ) → says_of o (known_by r) ≡ BehindLoad → has_copy (known_by r).held ≡ false
    by (Some seq) e = absurd (cc)
    by None e = held-on (known_by r).held e

pub loads-bounded : loads_are_bounded
loads-bounded turns may behind = by (bounds turns may.number may.stand)
  where
    kept : Kept (first_of turns) (played turns)
    kept = turns-kept turns may.number may.stand

    m : Moment
    m = moment_after script_token (first_of turns) (played turns).commands

    held : Held
    held = (known_by (played turns).replica).held

    no-copy : has_copy held ≡ false
    no-copy = behind-no_copy (played turns).replica behind

    some : (left : ℕ) → Left m held left ⊎ Stale m held left → 0 < left
    some zero (inl fresh) =
        let serves = now-serves (first_of turns) (played turns) kept in
        let copy : has_copy held ≡ true = ap has_copy (none-left m (serves.trees m serves.stood) held fresh) in absurd (true≢false (sym copy ∙ no-copy))
    some (suc n) (inl fresh) = omega arith
    some zero (inr stale) = absurd (stale-some m held stale)
    some (suc n) (inr stale) = omega arith

    by : Bound m (played turns).replica (answered_since turns) →
        (load_was_begun (played turns).replica ≡ false) ⊎ (answered_since turns < load_reads (catalog (history_of turns)) + 2)
    by (inl none) = inl none.0
    by (inr (inl copy)) = absurd (true≢false (sym copy ∙ no-copy))
    by (inr (inr owing)) = let left = some owing.left owing.owes in let bound = owing.bound in inr (omega (arith, bound, left))

-- an ask that writes `behind load` comes where the replica is behind its load
pub turns-bound_loads : all_turns_bound_loads
unfolding letter_at
turns-bound_loads turns may newer older parts written =
    loads-bounded older (may-before_ask newer older turns parts may) (by (says (played older).replica) written)
  where
    by : (s : Says) → answer_text (history_of older) (says_by_seq (played older).wrap s) ≡ codes "behind load\n" → s ≡ BehindLoad
    by (Gap place) e = let letter : 103 ≡ 98 = ap (letter_at 0) e in absurd (omega (arith, letter))
    by BehindLoad e = refl
    by (BehindRead id) e = let letter : 114 ≡ 108 = ap (letter_at 7) e in absurd (omega (arith, letter))
    by (BehindVersion number) e = let letter : 118 ≡ 108 = ap (letter_at 7) e in absurd (omega (arith, letter))
    by (Stands number) e = let letter : 115 ≡ 98 = ap (letter_at 0) e in absurd (omega (arith, letter))
