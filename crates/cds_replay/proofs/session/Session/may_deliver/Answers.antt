-- As many notes were sent as the commands send.
use Rattle.std.proofs.Common.{◌&&◌, Bool, nat_lt, ap, sym, ◌∙◌}
use Rattle.std.specs.Prelude.{nat_le}
use Rattle.cds_commands.specs.Notes.{notes_of}
use Rattle.cds_script.specs.Report.{first_of, is_recent_one, sent_note}
use Rattle.cds_replay.specs.Wired.{turns_in, played_by}
use Rattle.cds_replay.proofs.SentNotes.{sent-count}
use Rattle.cds_replay.proofs.session.Session.may_deliver.Goals as goal

pub returns-then-has_sent : goal.returns-then-has_sent
returns-then-has_sent c = λ steps after.
    let count = sent-count (played_by steps).wrap c.args.self.now.sent (first_of (turns_in steps)) (played_by steps).commands after.sent in
    let sent = sym c.if-has_sent.true ∙ c.has_sent.ensures ∙ ap (λ n. nat_lt 0 c.args.number && nat_le c.args.number n) count in
    c.is_recent.ensures steps after
    ∙ ap (λ (b : Bool). b && is_recent_one (played_by steps).wrap (sent_note c.args.number (notes_of (first_of (turns_in steps)) (played_by steps).commands)) (played_by steps).replica) sent

pub returns-else-has_sent : goal.returns-else-has_sent
returns-else-has_sent c = λ steps after.
    let count = sent-count (played_by steps).wrap c.args.self.now.sent (first_of (turns_in steps)) (played_by steps).commands after.sent in
    let sent = sym c.if-has_sent.false ∙ c.has_sent.ensures ∙ ap (λ n. nat_lt 0 c.args.number && nat_le c.args.number n) count in
    ap (λ (b : Bool). b && is_recent_one (played_by steps).wrap (sent_note c.args.number (notes_of (first_of (turns_in steps)) (played_by steps).commands)) (played_by steps).replica) sent
