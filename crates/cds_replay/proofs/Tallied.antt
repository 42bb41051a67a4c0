-- The counting of a report, step by step, and how it ends.
use Rattle.std.proofs.Common.{◌≡◌, ℕ, List, [], ◌++◌, take, drop, Option, Some, None, Result, Ok, Err, IfErr, OnOk, refl, ap, sym, subst, ◌∙◌, ◌⊎◌, inl, inr, append_assoc}
use Rattle.std.proofs.lemmas.List.{append-nil, take-append-drop}
use Rattle.cds_outside.specs.Outside.{Told}
use Rattle.cds_script.specs.Report.{Ending, limit_ending, outside_ending}
use Rattle.cds_summary.specs.Summary.{summary_ending, summary_text}
use Rattle.cds_summary.specs.Tally.{IsTally}
use Rattle.cds_summary.specs.declared.tally.Tally.{Tally}
use Rattle.cds_replay.specs.declared.script.Script.{Script}
use Rattle.cds_replay.specs.declared.script.ScriptStop.{ScriptStop}
use Rattle.cds_replay.specs.declared.script.ScriptStop.TheVariants.{Outside, Limit as PastLimit, Refused as RefusedAt}
use Rattle.cds_replay.specs.declared.play.ReplayError.{ReplayError}
use Rattle.cds_replay.specs.declared.play.ReplayError.TheVariants.{Line, ReadFault, WriteFault, Limit, Refused, Mem}
use Rattle.cds_replay.specs.Script.{AtLimit, AtRefusal, EndsAt, Fed, Finished, StopsAt, Went, stop_text}
use Rattle.cds_replay.specs.Replay.{Holds, OnLimit, answer_of}
use Rattle.cds_replay.specs.Summing.{Counted, Counting, Halted, IsOfReading, IsOfScript, Midway, Sums, straight}
use Rattle.cds_replay.proofs.Summed.{owed-limit, owed-outside, owed-well}
use Rattle.cds_replay.proofs.Unchanged.{straight-reports}

-- ---- an answer

-- what holds of an answer, by its cases
pub answer-case : (Q : Result (Unit {0}) ReplayError → Type 0) (result : Result (Unit {0}) ReplayError) (stop : Option ScriptStop) →
    (result ≡ Err Mem) ⊎ (result ≡ answer_of stop) → Q (Err Mem) → (stop ≡ None → Q (Ok tt)) → ((by : ScriptStop) → stop ≡ Some by → Q (answer_of (Some by))) → Q result
answer-case Q result stop (inl is) none well stops = subst Q (sym is) none
answer-case Q result None (inr is) none well stops = subst Q (sym is) (well refl)
answer-case Q result (Some by) (inr is) none well stops = subst Q (sym is) (stops by refl)

-- a stop is an error
pub stop-ok : (by : ScriptStop) (P : Type 0) → OnOk (answer_of (Some by)) P
stop-ok (Outside line) P = tt
stop-ok PastLimit P = tt
stop-ok (RefusedAt line) P = tt

stop-own : (by : ScriptStop) → AtRefusal (Some by) ⊥ → IfErr (answer_of (Some by)) IsOfScript
stop-own (Outside line) none = tt
stop-own PastLimit none = tt
stop-own (RefusedAt line) none = none

pub own : (result : Result (Unit {0}) ReplayError) (stop : Option ScriptStop) → (result ≡ Err Mem) ⊎ (result ≡ answer_of stop) → AtRefusal stop ⊥ → IfErr result IsOfScript
own result stop answer none =
    answer-case (λ r. IfErr r IsOfScript) result stop answer tt (λ is. tt) (λ by is. stop-own by (subst (λ s. AtRefusal s ⊥) is none))

stop-limit : (by : ScriptStop) (P : Type 0) → AtLimit (Some by) P → IfErr (answer_of (Some by)) (λ e. OnLimit e P)
stop-limit (Outside line) P is = tt
stop-limit PastLimit P is = is
stop-limit (RefusedAt line) P is = tt

pub at-limit : (result : Result (Unit {0}) ReplayError) (stop : Option ScriptStop) (P : Type 0) → (result ≡ Err Mem) ⊎ (result ≡ answer_of stop) →
    AtLimit stop P → IfErr result (λ e. OnLimit e P)
at-limit result stop P answer limit =
    answer-case (λ r. IfErr r (λ e. OnLimit e P)) result stop answer tt (λ is. tt) (λ by is. stop-limit by P (subst (λ s. AtLimit s P) is limit))

-- ---- how a script ends

halted-by : (script written old new : List ℕ) (by : ScriptStop) → StopsAt straight script written by old new → IfErr (answer_of (Some by)) (λ e. Halted e script)
halted-by script written old new (Outside line) stops =
    owed-outside script (written ++ stops.front) line
    (sym (straight-reports straight script stops.ending (λ bytes. refl) stops.is).1 ∙ stops.ends
    ∙ ap (λ (text : List ℕ). record { status = 1; text = text }) (sym (append_assoc written stops.front (stop_text (Outside line)))))
halted-by script written old new PastLimit stops =
    owed-limit script (written ++ (stops.front ++ stop_text PastLimit)) (sym (straight-reports straight script stops.ending (λ bytes. refl) stops.is).1 ∙ stops.ends)
halted-by script written old new (RefusedAt line) stops = tt

-- a part of a script after bytes: it goes on
pub counts-on : (result : Result (Unit {0}) ReplayError) (stop : Option ScriptStop) (script later : Script) (tally next : Tally) (before piece old new text : List ℕ) →
    (result ≡ Err Mem) ⊎ (result ≡ answer_of stop) → old ≡ [] → text ≡ new →
    (counting : Counting script tally before) → Fed straight stop before counting.written piece old new later →
    ((report : List ℕ) → IsTally tally report → OnOk result (IsTally next (report ++ text))) →
    OnOk result (Counting later next (before ++ piece))
counts-on result stop script later tally next before piece old new text answer empty same counting fed counted =
    answer-case (λ r. OnOk r (IsTally next (counting.written ++ text)) → OnOk r (Counting later next (before ++ piece))) result stop answer
    (λ done. tt)
    (λ none is.
    let went : Went straight before counting.written piece old new later = subst (λ s. Fed straight s before counting.written piece old new later) none fed in
    let added : text ≡ went.added = same ∙ went.out ∙ ap (λ (t : List ℕ). t ++ went.added) empty in
    record { written = counting.written ++ went.added; goes = went.goes; counted = subst (λ (t : List ℕ). IsTally next (counting.written ++ t)) added is })
    (λ by is done. stop-ok by (Counting later next (before ++ piece)))
    (counted counting.written counting.counted)

-- and it stops
pub counts-stop : (result : Result (Unit {0}) ReplayError) (stop : Option ScriptStop) (later : Script) (before written piece more old new : List ℕ) →
    (result ≡ Err Mem) ⊎ (result ≡ answer_of stop) → Fed straight stop before written piece old new later → IfErr result (λ e. Halted e ((before ++ piece) ++ more))
counts-stop result stop later before written piece more old new answer fed =
    answer-case (λ r. IfErr r (λ e. Halted e ((before ++ piece) ++ more))) result stop answer tt (λ none. tt)
    (λ by is. halted-by ((before ++ piece) ++ more) written old new by (subst (λ s. Fed straight s before written piece old new later) is fed more))

-- the end of a script
pub counts-end : (result : Result (Unit {0}) ReplayError) (stop : Option ScriptStop) (script : Script) (tally next : Tally) (before old new text : List ℕ) →
    (result ≡ Err Mem) ⊎ (result ≡ answer_of stop) → old ≡ [] → text ≡ new →
    (counting : Counting script tally before) → Finished straight stop before counting.written old new →
    ((report : List ℕ) → IsTally tally report → OnOk result (IsTally next (report ++ text))) →
    OnOk result (Counted next before)
counts-end result stop script tally next before old new text answer empty same counting finished counted =
    answer-case (λ r. OnOk r (IsTally next (counting.written ++ text)) → OnOk r (Counted next before)) result stop answer
    (λ done. tt)
    (λ none is.
    let ends : EndsAt straight before counting.written None 0 [] old new = subst (λ s. Finished straight s before counting.written old new) none finished in
    let added : text ≡ ends.front ++ [] = same ∙ ends.out ∙ ap (λ (t : List ℕ). t ++ (ends.front ++ [])) empty in
    record {
      report = counting.written ++ (ends.front ++ []);
      counted = subst (λ (t : List ℕ). IsTally next (counting.written ++ t)) added is;
      ending = owed-well before (counting.written ++ (ends.front ++ [])) (sym (straight-reports straight before ends.ending (λ bytes. refl) ends.is).1 ∙ ends.ends);
    })
    (λ by is done. stop-ok by (Counted next before))
    (counted counting.written counting.counted)

pub counts-end-stop : (result : Result (Unit {0}) ReplayError) (stop : Option ScriptStop) (before written old new : List ℕ) →
    (result ≡ Err Mem) ⊎ (result ≡ answer_of stop) → Finished straight stop before written old new → IfErr result (λ e. Halted e before)
counts-end-stop result stop before written old new answer finished =
    answer-case (λ r. IfErr r (λ e. Halted e before)) result stop answer tt (λ none. tt)
    (λ by is. halted-by before written old new by (subst (λ s. Finished straight s before written old new) is finished))

-- ---- a piece

-- the same told of other parts of the bytes
pub counting-as : (script : Script) (tally : Tally) (before bytes : List ℕ) → before ≡ bytes → Counting script tally before → Counting script tally bytes
counting-as script tally before bytes same = subst (Counting script tally) same

pub halted-as : (e : ReplayError) (script bytes : List ℕ) → script ≡ bytes → Halted e script → Halted e bytes
halted-as e script bytes same = subst (Halted e) same

-- ---- a source

pub midway-begin : (script : Script) (tally : Tally) (whole : List ℕ) (told : Option (List ℕ)) → Counting script tally [] → told ≡ Some whole → Midway script tally whole told
midway-begin script tally whole told counting is = record { front = []; bytes = whole; parts = refl; left = is; counting = counting }

-- the bytes that are left, as a piece and what comes after it
parted : (n : ℕ) (whole front bytes piece : List ℕ) → whole ≡ front ++ bytes → piece ≡ take n bytes → whole ≡ (front ++ piece) ++ drop n bytes
parted n whole front bytes piece parts is =
    parts ∙ ap (λ bs. front ++ bs) (sym (ap (λ p. p ++ drop n bytes) is ∙ take-append-drop n bytes)) ∙ sym (append_assoc front piece (drop n bytes))

pub midway-on : (script later : Script) (tally next : Tally) (whole : List ℕ) (told then_told : Option (List ℕ)) (piece : List ℕ) (n : ℕ) →
    (mid : Midway script tally whole told) → piece ≡ take n mid.bytes → then_told ≡ Some (drop n mid.bytes) → Counting later next (mid.front ++ piece) →
    Midway later next whole then_told
midway-on script later tally next whole told then_told piece n mid is left counting = record {
  front = mid.front ++ piece;
  bytes = drop n mid.bytes;
  parts = parted n whole mid.front mid.bytes piece mid.parts is;
  left = left;
  counting = counting;
}

pub midway-stops : (e : ReplayError) (script : Script) (tally : Tally) (whole : List ℕ) (told : Option (List ℕ)) (piece : List ℕ) (n : ℕ) →
    (mid : Midway script tally whole told) → piece ≡ take n mid.bytes → Halted e ((mid.front ++ piece) ++ drop n mid.bytes) → Halted e whole
midway-stops e script tally whole told piece n mid is = subst (Halted e) (sym (parted n whole mid.front mid.bytes piece mid.parts is))

-- at the end of the source
all-taken : (whole front bytes : List ℕ) → whole ≡ front ++ bytes → bytes ≡ [] → front ≡ whole
all-taken whole front bytes parts none = sym (parts ∙ ap (λ bs. front ++ bs) none ∙ append-nil front)

pub midway-last : (e : ReplayError) (script : Script) (tally : Tally) (whole : List ℕ) (told : Option (List ℕ)) → (mid : Midway script tally whole told) → mid.bytes ≡ [] →
    Halted e mid.front → Halted e whole
midway-last e script tally whole told mid none = subst (Halted e) (all-taken whole mid.front mid.bytes mid.parts none)

pub midway-well : (script : Script) (tally next : Tally) (whole : List ℕ) (told : Option (List ℕ)) → (mid : Midway script tally whole told) → mid.bytes ≡ [] →
    Counted next mid.front → Counted next whole
midway-well script tally next whole told mid none = subst (Counted next) (all-taken whole mid.front mid.bytes mid.parts none)

-- what holds of an error if the source tells its bytes
pub err-told : (result : Result (Unit {0}) ReplayError) (told : Option (List ℕ)) (P : ReplayError → List ℕ → Type 0) →
    ((bytes : List ℕ) → told ≡ Some bytes → IfErr result (λ e. P e bytes)) → IfErr result (λ e. Told told (P e))
err-told (Ok done) told P from = tt
err-told (Err e) told P from = from

-- errors of a script are errors of reading it
pub of-reading : (e : ReplayError) → IsOfScript e → IsOfReading e
of-reading (Line line) is = tt
of-reading ReadFault is = absurd is
of-reading WriteFault is = absurd is
of-reading Limit is = tt
of-reading (Refused line) is = absurd is
of-reading Mem is = tt

-- ---- what is written

pub sums-well : (tally : Tally) (before after : Option (List ℕ)) (script : List ℕ) (counted : Counted tally script) → Holds before (summary_text counted.report) after →
    Sums 0 before after script
sums-well tally before after script counted holds = record {
  is = ap (λ (e : Ending). e.status) counted.ending;
  text = subst (λ (e : Ending). Holds before e.text after) (sym counted.ending) holds;
}

pub sums-line : (line : ℕ) (before after : Option (List ℕ)) (script : List ℕ) → summary_ending script ≡ outside_ending line → Holds before (outside_ending line).text after →
    Sums 1 before after script
sums-line line before after script is holds = record {
  is = ap (λ (e : Ending). e.status) is;
  text = subst (λ (e : Ending). Holds before e.text after) (sym is) holds;
}

pub sums-limit : (before after : Option (List ℕ)) (script : List ℕ) → summary_ending script ≡ limit_ending → Holds before limit_ending.text after → Sums 6 before after script
sums-limit before after script is holds = record {
  is = ap (λ (e : Ending). e.status) is;
  text = subst (λ (e : Ending). Holds before e.text after) (sym is) holds;
}

-- what holds of the answer of a script that stops, by its cases
pub halt-case : (Q : Result (Unit {0}) ReplayError → Type 0) (result : Result (Unit {0}) ReplayError) (by : ScriptStop) →
    (result ≡ Err Mem) ⊎ ((result ≡ Err WriteFault) ⊎ (result ≡ answer_of (Some by))) → Q (Err Mem) → Q (Err WriteFault) →
    (result ≡ answer_of (Some by) → Q (answer_of (Some by))) → Q result
halt-case Q result by (inl is) none fault stops = subst Q (sym is) none
halt-case Q result by (inr (inl is)) none fault stops = subst Q (sym is) fault
halt-case Q result by (inr (inr is)) none fault stops = subst Q (sym is) (stops is)
