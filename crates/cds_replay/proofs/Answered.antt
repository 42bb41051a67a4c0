-- What a session's server answers is what its steps write.
use Rattle.std.proofs.Common.{◌≡◌, ℕ, List, ◌++◌, true, Result, Ok, Err, ap, sym, ◌∙◌}
use Rattle.std.specs.Prelude.{codes, OnOk}
use Rattle.cds_object.specs.declared.record.Record.{Record}
use Rattle.cds_catalog.specs.History.{end_of}
use Rattle.cds_catalog.specs.Scans.{scan_answer}
use Rattle.cds_store.specs.declared.span.Span.{Span}
use Rattle.cds_store.specs.declared.error.ApplyError.{ApplyError}
use Rattle.cds_store.specs.declared.error.ApplyError.TheVariants.{BadRecords, Full, Spent, Mem as NoRoom}
use Rattle.cds_commands.specs.Commands.{Command, scans_of}
use Rattle.cds_script.specs.Report.{scan_text, scanned}
use Rattle.cds_server.specs.Serving.{Serving, Scanned}
use Rattle.cds_replay.specs.Lines.{numbered_line, scan_line, was_answered}
use Rattle.cds_replay.specs.Session.{script_start}

-- a fact that holds whatever was answered
pub always : {E P : Type 0} (answer : Result (Unit {0}) E) → P → OnOk answer P
always (Ok done) fact = fact
always (Err e) fact = tt

-- what was written, told otherwise
pub written-as : {E : Type 0} (answer : Result (Unit {0}) E) (new old a b : List ℕ) → a ≡ b → OnOk answer (new ≡ old ++ a) → OnOk answer (new ≡ old ++ b)
written-as (Ok done) new old a b same written = written ∙ ap (λ v. old ++ v) same
written-as (Err e) new old a b same written = tt

-- what a scan was answered is what the scan writes
pub scan-written : (wrap first : ℕ) (commands : List Command) (records : List Record) (answer : Result Span ApplyError) (old new : Serving) →
    Scanned (script_start wrap first) commands records answer old new → was_answered answer ≡ true →
    scan_line answer
    ≡ scan_text (end_of (scans_of first (scanned (scan_answer (scans_of first commands) records) records commands))) (scan_answer (scans_of first commands) records)
scan-written wrap first commands records (Ok span) old new applied told =
    ap (λ (s : Span). numbered_line (codes "scan ") s.to) applied.2
    ∙ sym (ap (λ a. scan_text (end_of (scans_of first (scanned a records commands))) a) applied.0)
scan-written wrap first commands records (Err (BadRecords line)) old new applied told =
    sym (ap (λ a. scan_text (end_of (scans_of first (scanned a records commands))) a) applied.0)
scan-written wrap first commands records (Err (Full objects)) old new applied told =
    sym (ap (λ a. scan_text (end_of (scans_of first (scanned a records commands))) a) applied.0)
scan-written wrap first commands records (Err (Spent needed)) old new applied told =
    sym (ap (λ a. scan_text (end_of (scans_of first (scanned a records commands))) a) applied.0)
scan-written wrap first commands records (Err NoRoom) old new applied told = absurd (cc)
