-- A scan that was answered.
use Rattle.std.proofs.Common.{◌≡◌, true, List, ◌∷◌, map, sym, ap, subst, ◌∙◌, string_bytes}
use Rattle.std.proofs.lemmas.Result.{on_ok_weaker}
use Rattle.cds_object.specs.declared.record.Record.{Record}
use Rattle.cds_catalog.specs.History.{end_of}
use Rattle.cds_catalog.specs.Scans.{scan_answer}
use Rattle.cds_commands.specs.Commands.{scans_of}
use Rattle.cds_script.specs.declared.found.Found.{Found}
use Rattle.cds_script.specs.declared.turn.ScriptTurn.TheVariants.{Scan}
use Rattle.cds_script.specs.Report.{first_of, record_of, records_since, scan_text, scanned}
use Rattle.cds_server.specs.Serving.{Scanned}
use Rattle.cds_replay.specs.declared.last.Last.TheVariants.{Other}
use Rattle.cds_replay.specs.Lines.{scan_line, was_answered}
use Rattle.cds_replay.specs.Session.{Playing, IsAfter, script_start, quiet}
use Rattle.cds_replay.specs.Wired.{turns_in, played_by}
use Rattle.cds_replay.proofs.Answered.{scan-written, written-as}
use Rattle.cds_replay.proofs.Turns.{scan-after}
use Rattle.cds_replay.proofs.session.Session.scan.Goals as goal

pub returns-clause-after : goal.returns-clause-after
returns-clause-after c = λ steps after.
    let told : was_answered c.accept_records-answer.result ≡ true = sym c.was_answered.ensures ∙ c.if-not-was_answered.false in
    let was : Playing = record { server = c.self.inside.server; replica = c.self.inside.replica; sent = c.self.inside.sent; found = c.self.inside.found; clock = c.self.inside.clock; reply = c.self.inside.reply; last = c.self.inside.last; wrap = c.self.inside.wrap } in
    let old : IsAfter was steps = subst (λ p. IsAfter p steps) (sym c.self.view_is) after in
    let wrap = (played_by steps).wrap in
    let first = first_of (turns_in steps) in
    let commands = (played_by steps).commands in
    let records : c.in_ok-records.records ≡ records_since (turns_in steps) = c.in_ok-records.ensures ∙ ap (map record_of) old.found in
    let scans = subst (λ (r : List Record). Scanned (script_start wrap first) commands r c.accept_records-answer.result was.server c.accept_records-answer.new.self) records
    (c.accept_records-answer.ensures.scanned (script_start wrap first) commands old.server) in
    let now = scan-after was c.accept_records-answer.new.self c.accept_records-answer.result steps old scans told in
    on_ok_weaker c.put_scan.result
    (λ written. subst (λ (found : List Found). IsAfter (record was { server = c.accept_records-answer.new.self; found = found; last = Other }) (quiet Scan ∷ steps)) (sym (c.replace.ensures.after ∙ c.new.ensures)) now)
    c.put_scan.ensures

pub returns-clause-written : goal.returns-clause-written
returns-clause-written c = λ steps after.
    let told : was_answered c.accept_records-answer.result ≡ true = sym c.was_answered.ensures ∙ c.if-not-was_answered.false in
    let was : Playing = record { server = c.self.inside.server; replica = c.self.inside.replica; sent = c.self.inside.sent; found = c.self.inside.found; clock = c.self.inside.clock; reply = c.self.inside.reply; last = c.self.inside.last; wrap = c.self.inside.wrap } in
    let old : IsAfter was steps = subst (λ p. IsAfter p steps) (sym c.self.view_is) after in
    let wrap = (played_by steps).wrap in
    let first = first_of (turns_in steps) in
    let commands = (played_by steps).commands in
    let records : c.in_ok-records.records ≡ records_since (turns_in steps) = c.in_ok-records.ensures ∙ ap (map record_of) old.found in
    let scans = subst (λ (r : List Record). Scanned (script_start wrap first) commands r c.accept_records-answer.result was.server c.accept_records-answer.new.self) records
    (c.accept_records-answer.ensures.scanned (script_start wrap first) commands old.server) in
    written-as c.put_scan.result (string_bytes c.put_scan.new.out) (string_bytes c.args.out.now) (scan_line c.accept_records-answer.result)
    (scan_text (end_of (scans_of first (scanned (scan_answer (scans_of first commands) (records_since (turns_in steps))) (records_since (turns_in steps)) commands))) (scan_answer (scans_of first commands) (records_since (turns_in steps))))
    (scan-written wrap first commands (records_since (turns_in steps)) c.accept_records-answer.result was.server c.accept_records-answer.new.self scans told)
    c.put_scan.ensures
