-- Over a wire that leaves each reply as it is nothing is refused, and a script ends as scripts do: all that is said of them is cited.
use Rattle.std.proofs.Common.{◌≡◌, ◌⊎◌, inl, inr, ℕ, ◌+◌, ◌≤◌, List, [], ◌∷◌, length, take, Bool, true, false, cond, nat_lt, nat_le, ◌&&◌, Option, Some, None, refl, ap, sym, subst, ◌∙◌, arith, codes}
use Rattle.std.specs.List.{AllByRecursion}
use Rattle.std.proofs.lemmas.List.{append-nil}
use Rattle.cds_object.specs.Object.{ObjectRow}
use Rattle.cds_load.specs.Server.{Moment, reply_to}
use Rattle.cds_load.specs.declared.exchange.Ask.{Ask as Asked}
use Rattle.cds_load.specs.declared.exchange.Shown.{Shown}
use Rattle.cds_exchange.specs.Honest.{IsPlainMoment}
use Rattle.cds_exchange.specs.Readings.{ReadsAs, IsReading}
use Rattle.cds_exchange.proofs.OneReading.{readings-are-one}
use Rattle.cds_exchange.proofs.Honest.{honest-replies-are-read}
use Rattle.cds_exchange.proofs.Moments.{moments-can-be-shown}
use Rattle.cds_exchange.proofs.Bases.{hosts-make-bases}
use Rattle.cds_commands.specs.Notes.{Note, notes_of}
use Rattle.cds_follow.specs.Inbox.{ReplicaTurn, Accepts, Delivers, Arrival, IsUnknown, IsRepeat, IsTooMany, IsEarly, IsHeld, IsNext, taken_by}
use Rattle.cds_follow.specs.Follow.{Known, known_by, next_ask, with_reply, with_notes, is_refused, says, copied}
use Rattle.cds_follow.specs.Wire.{placed, heard, says_by_seq, says_on_wire, arrival_on_wire}
use Rattle.cds_follow.proofs.Wire.{placed-or-unknown}
use Rattle.cds_commands.specs.Wire.{on_wire}
use Rattle.cds_follow.specs.Given.{moment_after, asked_at}
use Rattle.cds_follow.specs.declared.says.Says.{Says}
use Rattle.cds_follow.specs.declared.says.Says.TheVariants.{Gap, BehindLoad, BehindRead, BehindVersion, Stands}
use Rattle.cds_script.specs.Lines.{lines_of, ended_lines, script_limit, line_limit}
use Rattle.cds_script.specs.Played.{MayBe}
use Rattle.cds_script.specs.Report.{Played, Ending, script_token, first_of, clock_of, records_since, history_of, is_recent_one, sent_note, play, played, read_text, written_by, answer_text, may_stand, written_first, outside_ending, limit_ending, ending_at, ending_from, script_ending}
use Rattle.cds_script.specs.Script.{IsInRange, MeansInRange, meaning_of}
use Rattle.cds_script.specs.declared.reply.HeldReply.{HeldReply}
use Rattle.cds_script.specs.declared.reply.HeldReply.TheVariants.{NoReply, Named, Refusal}
use Rattle.cds_script.specs.declared.turn.Meaning.{Meaning}
use Rattle.cds_script.specs.declared.turn.Meaning.TheVariants.{Nothing, Means, Outside}
use Rattle.cds_script.specs.declared.turn.ScriptTurn.{ScriptTurn}
use Rattle.cds_script.specs.declared.turn.ScriptTurn.TheVariants.{Folder, Track, Tag, Scan, Load, Read, Ask, First, Wrap, At, Subscribe, Accept, Renew, Unsubscribe, Deliver, ReadFault}
use Rattle.cds_script.proofs.MayBe.{lines-range}
use Rattle.cds_script.proofs.Stood.{turns-taken, stands-at}
use Rattle.cds_script.proofs.Wrapped.{wide}
use Rattle.std.proofs.lemmas.Bool.{and_parts}
use Rattle.cds_replay.specs.Lines.{known_text}
use Rattle.cds_replay.specs.Wire.{WiredEnding, unrefused, refused_at, wired_first, script_base, server_reply, Either, IsLeftOf, IsReadBy, AreReadBy, EndsAtStep, EndsAtLine, EndsFrom, EndsOver, straight_wires_are_taken, straight_reports_are_the_scripts}
use Rattle.cds_replay.specs.Wired.{ReplayStep, turns_in, and_read, play_read, played_by, moment_by, may_stand_by, refuses_read, refuses_reply, refuses_arrival, refuses_note, refuses_turn, refuses, read_text_by, written_read, written_on, AllStandBy}
use Rattle.cds_replay.proofs.PlainScans.{moment-plain}
use Rattle.cds_load.specs.Outcome.{Outcome, Goes, is_no}

-- ---- what is read of an honest reply

honest-read : (moment : Moment) (ask : Asked) (read : Option Shown) → IsPlainMoment moment → IsReading ask (server_reply moment ask) read → read ≡ Some (reply_to moment ask)
honest-read moment ask read plain is =
    readings-are-one ask (server_reply moment ask) read (Some (reply_to moment ask)) is
    (subst (λ bytes. ReadsAs ask bytes (reply_to moment ask)) (append-nil (server_reply moment ask))
    (honest-replies-are-read ask script_base 4 (reply_to moment ask) None [] (omega arith, omega arith) (hosts-make-bases (codes "127.0.0.1:49152") refl)
    (moments-can-be-shown moment ask plain) tt))

left-read : (carried : List ℕ → List ℕ) (moment : Moment) (o : Option Asked) (read : Option Shown) → ((bytes : List ℕ) → carried bytes ≡ bytes) → IsPlainMoment moment →
    IsLeftOf carried moment o read → (o ≡ None) ⊎ ((ask : Asked) × (o ≡ Some ask) × (read ≡ Some (reply_to moment ask)))
left-read carried moment None read same plain is = inl refl
left-read carried moment (Some ask) read same plain is =
    inr (ask, refl, honest-read moment ask read plain (subst (λ bytes. IsReading ask bytes read) (same (server_reply moment ask)) is))

-- ---- what it leads to, is refused and writes

abbrev IsHonest : Moment → Option Asked → Option Shown → Type 0
IsHonest moment o read = (o ≡ None) ⊎ ((ask : Asked) × (o ≡ Some ask) × (read ≡ Some (reply_to moment ask)))

honest-turns : (moment : Moment) (o : Option Asked) (read : Option Shown) (turns : List ReplicaTurn) → IsHonest moment o read → and_read o read turns ≡ asked_at moment turns o
honest-turns moment o read turns (inl none) = ap (λ a. and_read a read turns) none ∙ sym (ap (asked_at moment turns) none)
honest-turns moment o read turns (inr h) =
    (λ i. and_read (h.1 i) (h.2 i) turns) ∙ sym (ap (asked_at moment turns) h.1)

honest-takes : (moment : Moment) (o : Option Asked) (read : Option Shown) (turns : List ReplicaTurn) → IsHonest moment o read →
    ((ask : Asked) → o ≡ Some ask → (now : Known) × (with_reply (known_by turns) (known_by turns).held (reply_to moment ask) ≡ Goes now)) → refuses_read o read turns ≡ false
honest-takes moment o read turns (inl none) taken = ap (λ a. refuses_read a read turns) none
honest-takes moment o read turns (inr h) taken = (λ i. refuses_read (h.1 i) (h.2 i) turns) ∙ ap is_no (taken h.0 h.1).1

-- ---- one more step

-- the first number stays low
low-more : (turn : ScriptTurn) (turns : List ScriptTurn) → IsInRange turn → first_of turns ≤ 4294967295 → first_of (turn ∷ turns) ≤ 4294967295
low-more turn (next ∷ older) fits low = low
low-more (Folder path) [] fits low = omega arith
low-more (Track path info size) [] fits low = omega arith
low-more (Tag comment) [] fits low = omega arith
low-more Scan [] fits low = omega arith
low-more Load [] fits low = omega arith
low-more Read [] fits low = omega arith
low-more Ask [] fits low = omega arith
low-more (First number) [] fits low = fits
low-more (Wrap number) [] fits low = omega arith
low-more (At moment) [] fits low = omega arith
low-more Subscribe [] fits low = omega arith
low-more Accept [] fits low = omega arith
low-more Renew [] fits low = omega arith
low-more Unsubscribe [] fits low = omega arith
low-more (Deliver note) [] fits low = omega arith
low-more ReadFault [] fits low = omega arith

low-less : (turn : ScriptTurn) (turns : List ScriptTurn) → first_of (turn ∷ turns) ≤ 4294967295 → first_of turns ≤ 4294967295
low-less turn [] low = omega arith
low-less turn (next ∷ older) low = low

-- steps that were read over a straight wire are those of their turns
pub record IsStraight (steps : List ReplayStep) : Type 0 where
  pub same : played_by steps ≡ played (turns_in steps)
  pub may : MayBe (turns_in steps)
  pub fit : AllByRecursion IsInRange (turns_in steps)

stand-same : (older : List ReplayStep) (turn : ScriptTurn) → played_by older ≡ played (turns_in older) → may_stand_by older turn ≡ may_stand (turns_in older) turn
stand-same older (Folder path) same = refl
stand-same older (Track path info size) same = refl
stand-same older (Tag comment) same = refl
stand-same older Scan same = refl
stand-same older Load same = refl
stand-same older Read same = refl
stand-same older Ask same = refl
stand-same older (First number) same = refl
stand-same older (Wrap number) same = refl
stand-same older (At moment) same = refl
stand-same older Subscribe same = refl
stand-same older Accept same = refl
stand-same older Renew same = refl
stand-same older Unsubscribe same = refl
stand-same older (Deliver note) same =
    ap (λ (p : Played). (nat_lt 0 note && nat_le note (length (notes_of (first_of (turns_in older)) p.commands)))
    && is_recent_one p.wrap (sent_note note (notes_of (first_of (turns_in older)) p.commands)) p.replica) same
stand-same older ReadFault same = refl

module _ (carried : List ℕ → List ℕ) (straight : (bytes : List ℕ) → carried bytes ≡ bytes) where
  -- a read after straight steps
  read-honest : (older : List ReplayStep) (read : Option Shown) → IsStraight older → IsLeftOf carried (moment_by older) (next_ask (known_by (played_by older).replica)) read →
      IsHonest (moment_after script_token (first_of (turns_in older)) (played (turns_in older)).commands) (next_ask (known_by (played (turns_in older)).replica)) read
  read-honest older read is left =
      left-read carried (moment_after script_token (first_of (turns_in older)) (played (turns_in older)).commands) (next_ask (known_by (played (turns_in older)).replica)) read
      straight (subst (λ (p : Played). IsPlainMoment (moment_after script_token (first_of (turns_in older)) p.commands)) is.same (moment-plain older is.may.number is.fit))
      (subst (λ (p : Played). IsLeftOf carried (moment_after script_token (first_of (turns_in older)) p.commands) (next_ask (known_by p.replica)) read) is.same left)

  -- what a turn leads to
  play-same : (older : List ReplayStep) (turn : ScriptTurn) (read : Option Shown) → IsStraight older → IsReadBy carried older turn read →
      play_read read (first_of (turns_in older)) (clock_of (turns_in older)) (records_since (turns_in older)) (played (turns_in older)) turn
      ≡ play (first_of (turns_in older)) (clock_of (turns_in older)) (records_since (turns_in older)) (played (turns_in older)) turn
  play-same older (Folder path) read is at = refl
  play-same older (Track path info size) read is at = refl
  play-same older (Tag comment) read is at = refl
  play-same older Scan read is at = refl
  play-same older Load read is at = refl
  play-same older Read read is at =
      let p : Played = played (turns_in older) in
      ap (λ (turns : List ReplicaTurn). record { commands = p.commands; replica = turns; reply = p.reply; wrap = p.wrap })
      (honest-turns (moment_after script_token (first_of (turns_in older)) p.commands) (next_ask (known_by p.replica)) read p.replica (read-honest older read is at))
  play-same older Ask read is at = refl
  play-same older (First number) read is at = refl
  play-same older (Wrap number) read is at = refl
  play-same older (At moment) read is at = refl
  play-same older Subscribe read is at = refl
  play-same older Accept read is at = refl
  play-same older Renew read is at = refl
  play-same older Unsubscribe read is at = refl
  play-same older (Deliver note) read is at = refl
  play-same older ReadFault read is at = refl

  -- what becomes of it
  reply-takes : (reply : HeldReply) (turns : List ReplicaTurn) →
      ((name : ℕ) → reply ≡ Named name → (now : Known) × (with_notes (taken_by (Accepts name) turns) (known_by turns) ≡ Goes now)) → refuses_reply reply turns ≡ false
  reply-takes NoReply turns taken = refl
  reply-takes (Named name) turns taken = ap is_no (taken name refl).1
  reply-takes Refusal turns taken = refl

  arrival-takes : (arrives : Arrival) (outcome : Outcome Known) (now : Known) → outcome ≡ Goes now → refuses_arrival arrives outcome ≡ false
  arrival-takes IsUnknown outcome now is = refl
  arrival-takes IsRepeat outcome now is = refl
  arrival-takes (IsTooMany held) outcome now is = refl
  arrival-takes IsEarly outcome now is = refl
  arrival-takes (IsHeld missing) outcome now is = refl
  arrival-takes IsNext outcome now is = ap is_no is

  note-takes : (wrap : ℕ) (o : Option Note) (turns : List ReplicaTurn) → 256 ≤ wrap → is_recent_one wrap o turns ≡ true →
      ((note : Note) → o ≡ Some note → (now : Known) × (with_notes (taken_by (Delivers note) turns) (known_by turns) ≡ Goes now)) → refuses_note wrap o turns ≡ false
  note-takes wrap None turns wide recent taken = refl
  note-takes wrap (Some note) turns wide recent taken = by (placed-or-unknown wrap note turns wide recent)
    where
      by : (placed wrap (on_wire wrap note) turns ≡ Some note)
          ⊎ ((arrival_on_wire wrap (on_wire wrap note) turns ≡ IsUnknown)
          × ((other : Note) → placed wrap (on_wire wrap note) turns ≡ Some other → is_refused (Delivers other) turns ≡ true)) →
          refuses_note wrap (Some note) turns ≡ false
      by (inl own) =
          let t = taken note refl in
          arrival-takes (arrival_on_wire wrap (on_wire wrap note) turns) (heard (placed wrap (on_wire wrap note) turns) turns) t.0 (ap (λ (o : Option Note). heard o turns) own ∙ t.1)
      by (inr away) = ap (λ (a : Arrival). refuses_arrival a (heard (placed wrap (on_wire wrap note) turns) turns)) away.0

  turn-takes : (older : List ReplayStep) (turn : ScriptTurn) (read : Option Shown) → IsStraight older → may_stand (turns_in older) turn ≡ true → IsReadBy carried older turn read →
      refuses_turn read (first_of (turns_in older)) (played (turns_in older)) turn ≡ false
  turn-takes older (Folder path) read is stands at = refl
  turn-takes older (Track path info size) read is stands at = refl
  turn-takes older (Tag comment) read is stands at = refl
  turn-takes older Scan read is stands at = refl
  turn-takes older Load read is stands at = refl
  turn-takes older Read read is stands at =
      let p : Played = played (turns_in older) in
      honest-takes (moment_after script_token (first_of (turns_in older)) p.commands) (next_ask (known_by p.replica)) read p.replica (read-honest older read is at)
      (turns-taken (turns_in older) is.may).reads
  turn-takes older Ask read is stands at = refl
  turn-takes older (First number) read is stands at = refl
  turn-takes older (Wrap number) read is stands at = refl
  turn-takes older (At moment) read is stands at = refl
  turn-takes older Subscribe read is stands at = refl
  turn-takes older Accept read is stands at =
      reply-takes (played (turns_in older)).reply (played (turns_in older)).replica (turns-taken (turns_in older) is.may).names
  turn-takes older Renew read is stands at = refl
  turn-takes older Unsubscribe read is stands at = refl
  turn-takes older (Deliver note) read is stands at =
      note-takes (played (turns_in older)).wrap (sent_note note (notes_of (first_of (turns_in older)) (played (turns_in older)).commands)) (played (turns_in older)).replica
      (wide (turns_in older) is.may.stand) (and_parts _ _ stands).1
      ((turns-taken (turns_in older) is.may).notes note)
  turn-takes older ReadFault read is stands at = refl

  step-takes : (older : List ReplayStep) (step : ReplayStep) → IsStraight older → may_stand_by older step.turn ≡ true → IsReadBy carried older step.turn step.read → refuses older step ≡ false
  step-takes older step is may at =
      ap (λ (p : Played). refuses_turn step.read (first_of (turns_in older)) p step.turn) is.same
      ∙ turn-takes older step.turn step.read is (sym (stand-same older step.turn is.same) ∙ may) at

  -- one more step
  more-straight : (older : List ReplayStep) (step : ReplayStep) → IsStraight older → may_stand_by older step.turn ≡ true → IsInRange step.turn →
      IsReadBy carried older step.turn step.read → IsStraight (step ∷ older)
  more-straight older step is may fits at = record {
    same =
        ap (λ (p : Played). play_read step.read (first_of (turns_in older)) (clock_of (turns_in older)) (records_since (turns_in older)) p step.turn) is.same
        ∙ play-same older step.turn step.read is at;
    may = record {
      stand = (sym (stand-same older step.turn is.same) ∙ may, is.may.stand);
      number = low-more step.turn (turns_in older) fits is.may.number;
    };
    fit = (fits, is.fit);
  }

  all-straight : (steps : List ReplayStep) → AllStandBy steps → AreReadBy carried steps → IsStraight steps
  all-straight [] stand read = record { same = refl; may = record { stand = tt; number = omega arith }; fit = tt }
  all-straight (step ∷ older) stand read = more-straight older step (all-straight older stand.3 read.1) stand.0 stand.1 read.0

  -- ---- what is written

  -- what a replica knows after turns is what they answer
  ask-written : (turns : List ScriptTurn) → MayBe turns → known_text (says_on_wire (played turns).wrap (played turns).replica) (copied (known_by (played turns).replica)) ≡ written_by turns Ask
  ask-written turns may = by (says (played turns).replica) refl
    where
      rows : List ObjectRow
      rows = copied (known_by (played turns).replica)

      told : Says → Says
      told answer = says_by_seq (played turns).wrap answer

      by : (s : Says) → says (played turns).replica ≡ s → known_text (told (says (played turns).replica)) rows ≡ written_by turns Ask
      by (Gap missing) e = ap (λ s. known_text (told s) rows) e ∙ sym (ap (λ s. answer_text (history_of turns) (told s)) e)
      by BehindLoad e = ap (λ s. known_text (told s) rows) e ∙ sym (ap (λ s. answer_text (history_of turns) (told s)) e)
      by (BehindRead id) e = ap (λ s. known_text (told s) rows) e ∙ sym (ap (λ s. answer_text (history_of turns) (told s)) e)
      by (BehindVersion version) e = ap (λ s. known_text (told s) rows) e ∙ sym (ap (λ s. answer_text (history_of turns) (told s)) e)
      by (Stands number) e =
          ap (λ s. known_text (told s) rows) e
          ∙ sym (stands-at turns may number e).1

  read-written : (moment : Moment) (o : Option Asked) (read : Option Shown) (turns : List ReplicaTurn) → IsHonest moment o read → read_text_by o read ≡ read_text moment o
  read-written moment o read turns (inl none) = ap (λ a. read_text_by a read) none ∙ sym (ap (read_text moment) none)
  read-written moment o read turns (inr h) = (λ i. read_text_by (h.1 i) (h.2 i)) ∙ sym (ap (read_text moment) h.1)

  turn-written : (older : List ReplayStep) (turn : ScriptTurn) (read : Option Shown) → IsStraight older → IsReadBy carried older turn read →
      written_read read (first_of (turns_in older)) (clock_of (turns_in older)) (records_since (turns_in older)) (played (turns_in older)) turn ≡ written_by (turns_in older) turn
  turn-written older (Folder path) read is at = refl
  turn-written older (Track path info size) read is at = refl
  turn-written older (Tag comment) read is at = refl
  turn-written older Scan read is at = refl
  turn-written older Load read is at = refl
  turn-written older Read read is at =
      let p : Played = played (turns_in older) in
      read-written (moment_after script_token (first_of (turns_in older)) p.commands) (next_ask (known_by p.replica)) read p.replica (read-honest older read is at)
  turn-written older Ask read is at = ask-written (turns_in older) is.may
  turn-written older (First number) read is at = refl
  turn-written older (Wrap number) read is at = refl
  turn-written older (At moment) read is at = refl
  turn-written older Subscribe read is at = refl
  turn-written older Accept read is at = refl
  turn-written older Renew read is at = refl
  turn-written older Unsubscribe read is at = refl
  turn-written older (Deliver note) read is at = refl
  turn-written older ReadFault read is at = refl

  step-written : (older : List ReplayStep) (step : ReplayStep) → IsStraight older → IsReadBy carried older step.turn step.read → written_on older step ≡ written_by (turns_in older) step.turn
  step-written older step is at =
      ap (λ (p : Played). written_read step.read (first_of (turns_in older)) (clock_of (turns_in older)) (records_since (turns_in older)) p step.turn) is.same
      ∙ turn-written older step.turn step.read is at

  -- ---- how a script ends

  abbrev IsAs : WiredEnding → Ending → Type 0
  IsAs wired ending = (wired.refused ≡ None) × (wired.ending ≡ ending)

  as-unrefused : (wired : WiredEnding) (steps : List ReplayStep) (ending : Ending) → wired ≡ unrefused steps ending → IsAs wired ending
  as-unrefused wired steps ending is = (ap (λ (w : WiredEnding). w.refused) is, ap (λ (w : WiredEnding). w.ending) is)

  abbrev Continues : (List ReplayStep → WiredEnding → Type 0) → (List ScriptTurn → Ending) → Type 0
  Continues Later go_on = (now : List ReplayStep) (later : WiredEnding) → IsStraight now → Later now later → IsAs later (go_on (turns_in now))

  step-ends : (older : List ReplayStep) (step : ReplayStep) (number : ℕ) (Later : List ReplayStep → WiredEnding → Type 0) (go_on : List ScriptTurn → Ending) (wired : WiredEnding) → IsStraight older →
      may_stand_by older step.turn ≡ true → IsInRange step.turn → IsReadBy carried older step.turn step.read → Continues Later go_on → EndsAtStep older step number Later wired →
      IsAs wired (written_first (written_by (turns_in older) step.turn) (go_on (step.turn ∷ turns_in older)))
  step-ends older step number Later go_on wired is may fits at continues ends =
      goes (subst (λ b. Either b (wired ≡ refused_at (step ∷ older) number)
      ((later : WiredEnding) × Later (step ∷ older) later × (wired ≡ wired_first (written_on older step) later))) (step-takes older step is may at) ends)
    where
      goes : (later : WiredEnding) × Later (step ∷ older) later × (wired ≡ wired_first (written_on older step) later) →
          IsAs wired (written_first (written_by (turns_in older) step.turn) (go_on (step.turn ∷ turns_in older)))
      goes t =
          let rest = continues (step ∷ older) t.0 (more-straight older step is may fits at) t.1 in (
            ap (λ (w : WiredEnding). w.refused) t.2 ∙ rest.0,
            ap (λ (w : WiredEnding). w.ending) t.2
                ∙ (λ i. written_first (step-written older step is at i) (rest.1 i)),
          )

  line-ends : (steps : List ReplayStep) (meaning : Meaning) (number : ℕ) (Later : List ReplayStep → WiredEnding → Type 0) (go_on : List ScriptTurn → Ending) (wired : WiredEnding) → IsStraight steps →
      MeansInRange meaning → Continues Later go_on → EndsAtLine carried steps meaning number Later wired → IsAs wired (ending_at meaning (turns_in steps) number go_on)
  line-ends steps Nothing number Later go_on wired is fits continues ends = continues steps wired is ends
  line-ends steps Outside number Later go_on wired is fits continues ends = as-unrefused wired steps (outside_ending number) ends
  line-ends steps (Means turn) number Later go_on wired is fits continues ends = by (may_stand_by steps turn) refl ends
    where
      turns : List ScriptTurn
      turns = turns_in steps

      Goes : Type 0
      Goes = (read : Option Shown) × IsReadBy carried steps turn read × EndsAtStep steps (record { turn = turn; read = read }) number Later wired

      by : (b : Bool) → may_stand_by steps turn ≡ b → Either b Goes (wired ≡ unrefused steps (outside_ending number)) →
          IsAs wired (cond (may_stand turns turn) (written_first (written_by turns turn) (go_on (turn ∷ turns))) (outside_ending number))
      by true e t =
          subst (λ c. IsAs wired (cond c (written_first (written_by turns turn) (go_on (turn ∷ turns))) (outside_ending number))) (sym (sym (stand-same steps turn is.same) ∙ e))
          (step-ends steps (record { turn = turn; read = t.0 }) number Later go_on wired is e fits t.1 continues t.2)
      by false e t =
          subst (λ c. IsAs wired (cond c (written_first (written_by turns turn) (go_on (turn ∷ turns))) (outside_ending number))) (sym (sym (stand-same steps turn is.same) ∙ e))
          (as-unrefused wired steps (outside_ending number) t)

  from-ends : (lines : List (List ℕ)) (whole : Bool) (number : ℕ) (steps : List ReplayStep) (wired : WiredEnding) → IsStraight steps → EndsFrom carried steps number lines whole wired →
      IsAs wired (ending_from (turns_in steps) number lines whole)
  from-ends [] whole number steps wired is ends = as-unrefused wired steps (cond whole (record { status = 0; text = [] }) limit_ending) ends
  from-ends (line ∷ lines) whole number steps wired is ends =
      by (nat_lt line_limit (length line)) (λ now later straight_now ends_now. from-ends lines whole (number + 1) now later straight_now ends_now) ends
    where
      by : (b : Bool) → Continues (λ now later. EndsFrom carried now (number + 1) lines whole later) (λ now. ending_from now (number + 1) lines whole) → Either b (wired ≡ unrefused steps limit_ending)
          (EndsAtLine carried steps (meaning_of line) number (λ now later. EndsFrom carried now (number + 1) lines whole later) wired) →
          IsAs wired (cond b limit_ending (ending_at (meaning_of line) (turns_in steps) number (λ now. ending_from now (number + 1) lines whole)))
      by true continues e = as-unrefused wired steps limit_ending e
      by false continues e =
          line-ends steps (meaning_of line) number (λ now later. EndsFrom carried now (number + 1) lines whole later) (λ now. ending_from now (number + 1) lines whole) wired is
          (lines-range line) continues e

pub straight-taken : straight_wires_are_taken
straight-taken carried older step same may read stands at = step-takes carried same older step (all-straight carried same older may.stand read) stands at

-- the lines of a script and whether they are all of it, told by one test
lines-told : (carried : List ℕ → List ℕ) (straight : (bytes : List ℕ) → carried bytes ≡ bytes) (bytes : List ℕ) (wired : WiredEnding) (b : Bool) →
    EndsFrom carried [] 1 (cond b (lines_of bytes) (ended_lines (take script_limit bytes))) b wired →
    (wired.refused ≡ None) × (wired.ending ≡ cond b (ending_from [] 1 (lines_of bytes) true) (ending_from [] 1 (ended_lines (take script_limit bytes)) false))
lines-told carried straight bytes wired true ends =
    from-ends carried straight (lines_of bytes) true 1 [] wired (all-straight carried straight [] tt tt) ends
lines-told carried straight bytes wired false ends =
    from-ends carried straight (ended_lines (take script_limit bytes)) false 1 [] wired (all-straight carried straight [] tt tt) ends

pub straight-reports : straight_reports_are_the_scripts
unfolding EndsOver script_ending
straight-reports carried script wired same ends = lines-told carried same script wired (nat_le (length script) script_limit) ends
