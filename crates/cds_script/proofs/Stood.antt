-- In a script nothing is refused, what stands is a scan end, and the answer is complete.
use Rattle.std.proofs.Common.{◌≡◌, ℕ, zero, suc, ◌-◌, ◌≤◌, List, [], ◌∷◌, ◌++◌, length, Bool, true, false, nat_eq, ◌||◌, refl, ap, sym, subst, ◌∙◌, arith, true≢false, Some, None}
use Rattle.std.specs.Prelude.{codes}
use Rattle.std.specs.Fmt.{decimal}
use Rattle.std.specs.List.{Contains, list_any, AllByRecursion}
use Rattle.std.proofs.lemmas.Bool.{eqb-true}
use Rattle.cds_object.specs.Object.{ObjectRow}
use Rattle.cds_object.specs.Fragment.{full_text}
use Rattle.cds_catalog.specs.History.{History, end_of}
use Rattle.cds_catalog.specs.Catalog.{catalog, catalog_at}
use Rattle.cds_catalog.specs.Laws.{AreLibraries}
use Rattle.cds_catalog.proofs.Numbers.{catalog_at_end}
use Rattle.cds_load.specs.Server.{reply_to}
use Rattle.cds_script.specs.ScriptGiven.{IsScanEnd, nothing_is_refused, all_turns_stand_at_scan_ends, answers_are_complete}
use Rattle.cds_load.specs.declared.exchange.Ask.{Ask as Asked}
use Rattle.cds_commands.specs.Commands.{Command, scans_of, oldest}
use Rattle.cds_commands.specs.Notes.{Note, notes_of, alive_names}
use Rattle.cds_commands.specs.Subscriptions.{granted}
use Rattle.cds_commands.specs.Releases.{released_to, releases_of}
use Rattle.cds_follow.specs.Inbox.{ReplicaTurn, Accepts, Delivers, is_out, accepted, received, has_place, taken_by}
use Rattle.cds_follow.specs.Follow.{Known, known_by, next_ask, with_reply, with_notes, says, copied}
use Rattle.cds_follow.specs.Given.{moment_after, Asks, Granted, Gets, asked_at, given_by, latest_length}
use Rattle.cds_follow.specs.HonestLaws.{load_was_begun}
use Rattle.cds_follow.specs.Wire.{says_by_seq}
use Rattle.cds_follow.specs.declared.says.Says.{Says}
use Rattle.cds_follow.specs.declared.says.Says.TheVariants.{Gap, BehindLoad, BehindRead, BehindVersion, Stands}
use Rattle.cds_commands.proofs.Scanned.{scans-first, dropped-grows}
use Rattle.cds_follow.proofs.Honest.{stood, entries-served, entry-taken}
use Rattle.cds_follow.proofs.Complete.{answers-complete}
use Rattle.cds_script.specs.declared.turn.ScriptTurn.{ScriptTurn}
use Rattle.cds_script.specs.declared.turn.ScriptTurn.TheVariants.{Ask}
use Rattle.cds_script.specs.Report.{first_of, clock_of, sent_note, lives, Played, played, history_of, answer_text, written_by, script_token}
use Rattle.cds_script.specs.Played.{AllStand, MayBe}
use Rattle.cds_script.proofs.Given.{Waits, Kept, oldest-all, sent-contained, turns-kept}
use Rattle.cds_script.specs.declared.reply.HeldReply.TheVariants.{Named}
use Rattle.cds_load.specs.Outcome.{Goes}

-- ---- older turns may be

first-rest : (newer : List ScriptTurn) (turn : ScriptTurn) (older : List ScriptTurn) → first_of (newer ++ turn ∷ older) ≡ first_of (turn ∷ older)
first-rest [] turn older = refl
first-rest (next ∷ []) turn older = refl
first-rest (next ∷ after ∷ newer) turn older = first-rest (after ∷ newer) turn older

all-rest : (newer older : List ScriptTurn) → AllStand (newer ++ older) → AllStand older
all-rest [] older all = all
all-rest (turn ∷ newer) older all = all-rest newer older all.1

first-after_ask : (older : List ScriptTurn) → first_of (Ask ∷ older) ≡ first_of older
first-after_ask [] = refl
first-after_ask (turn ∷ older) = refl

pub may-before_ask : (newer older turns : List ScriptTurn) → turns ≡ newer ++ Ask ∷ older → MayBe turns → MayBe older
may-before_ask newer older turns parts may =
    let same : first_of turns ≡ first_of older = ap first_of parts ∙ first-rest newer Ask older ∙ first-after_ask older in
    let low = may.number in
    record {
      stand = (all-rest newer (Ask ∷ older) (subst AllStand parts may.stand)).1;
      number = omega (arith, same, low);
    }

-- ---- nothing is refused

module _ (first : ℕ) (p : Played) (kept : Kept first p) where
  abbrev r : List ReplicaTurn
  r = p.replica

  abbrev n : ℕ
  n = length p.commands

  pub read-taken : (ask : Asked) → next_ask (known_by r) ≡ Some ask →
      (now : Known) × (with_reply (known_by r) (known_by r).held (reply_to (moment_after script_token first p.commands) ask) ≡ Goes now)
  read-taken ask asks =
      let t = entry-taken script_token first p.commands kept.accepted (Asks n) kept.entries (kept.within, tt, kept.given) ask
      (ap (λ turns. next_ask (known_by turns)) (sym kept.are) ∙ asks) in
      (t.0, (λ i. with_reply (known_by (kept.are i)) (known_by (kept.are i)).held (reply_to (moment_after script_token first (sym (oldest-all p.commands) i)) ask)) ∙ t.1)

  pub note-taken : (number : ℕ) (note : Note) → sent_note number (notes_of first p.commands) ≡ Some note →
      (now : Known) × (with_notes (taken_by (Delivers note) r) (known_by r) ≡ Goes now)
  note-taken number note sent =
      let here = subst (λ (cs : List Command). Contains (notes_of first cs) note) (sym (oldest-all p.commands)) (sent-contained number (notes_of first p.commands) note sent) in
      let t = entry-taken script_token first p.commands kept.accepted (Gets n note) kept.entries (kept.within, here, kept.given) in
      (t.0, (λ i. with_notes (taken_by (Delivers note) (kept.are i)) (known_by (kept.are i))) ∙ t.1)

pub name-taken : (first : ℕ) (p : Played) (kept : Kept first p) (name : ℕ) → p.reply ≡ Named name →
    (now : Known) × (with_notes (taken_by (Accepts name) p.replica) (known_by p.replica) ≡ Goes now)
name-taken first p kept name held =
    let waits : Waits p.commands kept.entries p.replica (Named name) = subst (Waits p.commands kept.entries p.replica) held kept.waits in
    let t = entry-taken script_token first p.commands kept.accepted (Granted (length p.commands) name) kept.entries (
      kept.within,
      (ap is_out (sym kept.are) ∙ waits.0, waits.1, subst (λ (cs : List Command). name ≤ granted cs) (sym (oldest-all p.commands)) waits.2),
      kept.given,
    ) in
    (t.0, (λ i. with_notes (taken_by (Accepts name) (kept.are i)) (known_by (kept.are i))) ∙ t.1)

pub turns-taken : nothing_is_refused
turns-taken turns may =
    let kept = turns-kept turns may.number may.stand in
    record {
      reads = read-taken (first_of turns) (played turns) kept;
      names = name-taken (first_of turns) (played turns) kept;
      notes = note-taken (first_of turns) (played turns) kept;
    }

-- ---- what stands

end-catalog : (history : History) (number : ℕ) (rows : List ObjectRow) → AreLibraries history.maps → IsScanEnd history number rows →
    catalog_at history.first history.maps number ≡ rows
end-catalog history number rows all s =
    (λ i. catalog_at history.first (s.parts i) (sym s.ends i))
    ∙ catalog_at_end history.first s.newer s.older (subst AreLibraries s.parts all) ∙ sym s.are

scan-end : (first : ℕ) (p : Played) → Kept first p → (number : ℕ) → says p.replica ≡ Stands number →
    IsScanEnd (scans_of first p.commands) number (copied (known_by p.replica))
scan-end first p kept number stands =
    let s = stood script_token first p.commands kept.accepted (latest_length kept.entries) number (given_by script_token first p.commands kept.entries)
    (entries-served script_token first p.commands kept.accepted kept.entries kept.given) (ap says (sym kept.are) ∙ stands) in
    let grows = dropped-grows first (length p.commands - s.0) p.commands in
    let at-first : (scans_of first p.commands).first ≡ first = ap (λ (h : History). h.first) (scans-first first p.commands) in
    let older : scans_of first (oldest s.0 p.commands) ≡ record { first = (scans_of first p.commands).first; maps = (scans_of first (oldest s.0 p.commands)).maps } =
    scans-first first (oldest s.0 p.commands) ∙ ap (λ (f : ℕ). record { first = f; maps = (scans_of first (oldest s.0 p.commands)).maps }) (sym at-first) in
    record {
      newer = grows.0;
      older = (scans_of first (oldest s.0 p.commands)).maps;
      parts = grows.1;
      ends = ap end_of (sym older) ∙ s.2;
      are = ap (λ turns. copied (known_by turns)) kept.are ∙ s.3 ∙ ap catalog older;
    }

-- what an ask writes where the replica stands at a number
pub stands-at : (turns : List ScriptTurn) → MayBe turns → (number : ℕ) → says (played turns).replica ≡ Stands number →
    IsScanEnd (history_of turns) number (copied (known_by (played turns).replica))
    × (written_by turns Ask ≡ codes "stands " ++ decimal number ++ codes "\n" ++ full_text (copied (known_by (played turns).replica)))
stands-at turns may number stands =
    let kept = turns-kept turns may.number may.stand in
    let end = scan-end (first_of turns) (played turns) kept number stands in (
      end,
      ap (λ answer. answer_text (history_of turns) (says_by_seq (played turns).wrap answer)) stands
          ∙ ap (λ rows. codes "stands " ++ decimal number ++ codes "\n" ++ full_text rows)
          (end-catalog (history_of turns) number (copied (known_by (played turns).replica)) kept.accepted.libraries end),
    )

-- a letter of a text tells what wrote it
unfoldable pub letter_at : ℕ → List ℕ → ℕ
letter_at k [] = 0
letter_at zero (b ∷ bytes) = b
letter_at (suc k) (b ∷ bytes) = letter_at k bytes

stands-written : (history : History) (wrap : ℕ) (answer : Says) (rest : List ℕ) → answer_text history (says_by_seq wrap answer) ≡ codes "stands " ++ rest → (number : ℕ) × (answer ≡ Stands number)
unfolding letter_at
stands-written history wrap (Gap place) rest e = let letter : 103 ≡ 115 = ap (letter_at 0) e in absurd (omega (arith, letter))
stands-written history wrap BehindLoad rest e = let letter : 98 ≡ 115 = ap (letter_at 0) e in absurd (omega (arith, letter))
stands-written history wrap (BehindRead id) rest e = let letter : 98 ≡ 115 = ap (letter_at 0) e in absurd (omega (arith, letter))
stands-written history wrap (BehindVersion number) rest e = let letter : 98 ≡ 115 = ap (letter_at 0) e in absurd (omega (arith, letter))
stands-written history wrap (Stands number) rest e = (number, refl)

pub turns-stand : all_turns_stand_at_scan_ends
turns-stand turns may newer older rest parts wrote =
    let stands = stands-written (history_of older) (played older).wrap (says (played older).replica) rest wrote in
    let at = stands-at older (may-before_ask newer older turns parts may) stands.0 stands.1 in (stands.0, stands.1, at.0, at.1)

-- ---- the answer is complete

pub any-contained : (name : ℕ) (names : List ℕ) → list_any (λ other. nat_eq other name) names ≡ true → Contains names name
any-contained name [] e = absurd (true≢false (sym e))
any-contained name (other ∷ names) e = by (nat_eq other name) refl e (λ f. any-contained name names f)
  where
    by : (b : Bool) → nat_eq other name ≡ b → (b || list_any (λ n. nat_eq n name) names) ≡ true →
        (list_any (λ n. nat_eq n name) names ≡ true → Contains names name) → Contains (other ∷ names) name
    by true same f later = (0, omega arith, eqb-true other name same)
    by false same f later = let there = later f in let low = there.1 in (suc there.0, omega (arith, low), there.2)

stands-complete : (first now name : ℕ) (p : Played) → Kept first p → load_was_begun p.replica ≡ true → accepted p.replica ≡ Some name →
    lives name now p.commands ≡ true →
    AllByRecursion (λ (note : Note). note.name ≡ name → has_place (received p.replica) note.place ≡ true) (notes_of first p.commands) →
    released_to first (releases_of first p.commands) ≡ end_of (scans_of first p.commands) → next_ask (known_by p.replica) ≡ None →
    says p.replica ≡ Stands (end_of (scans_of first p.commands))
stands-complete first now name p kept begun named alive all released nothing =
    ap says are
    ∙ answers-complete script_token first p.commands (Asks (length p.commands)) kept.entries name now kept.accepted (kept.within, tt, kept.given)
    (ap load_was_begun (sym are) ∙ begun) (ap accepted (sym are) ∙ named) (any-contained name (alive_names now p.commands) alive)
    (subst (λ (turns : List ReplicaTurn). AllByRecursion (λ (note : Note). note.name ≡ name → has_place (received turns) note.place ≡ true) (notes_of first p.commands)) are all)
    released (ap (λ turns. next_ask (known_by turns)) (sym are) ∙ nothing)
  where
    are : p.replica ≡ given_by script_token first p.commands (Asks (length p.commands) ∷ kept.entries)
    are = kept.are
        ∙ ap (asked_at (moment_after script_token first (oldest (length p.commands) p.commands)) (given_by script_token first p.commands kept.entries))
        (sym (ap (λ turns. next_ask (known_by turns)) (sym kept.are) ∙ nothing))

pub answers-are_complete : answers_are_complete
answers-are_complete turns name may complete =
    let kept = turns-kept turns may.number may.stand in
    let stands = stands-complete (first_of turns) (clock_of turns) name (played turns) kept complete.begun complete.named complete.alive complete.all complete.released complete.nothing in (
      stands,
      ap (λ answer. answer_text (history_of turns) (says_by_seq (played turns).wrap answer)) stands
          ∙ ap (λ rows. codes "stands " ++ decimal (end_of (history_of turns)) ++ codes "\n" ++ full_text rows)
          (catalog_at_end (history_of turns).first [] (history_of turns).maps kept.accepted.libraries),
    )
