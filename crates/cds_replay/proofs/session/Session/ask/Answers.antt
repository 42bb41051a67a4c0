use Rattle.std.proofs.Common.{◌≡◌, ap, ◌∙◌, string_bytes}
use Rattle.cds_follow.specs.Follow.{known_by, copied}
use Rattle.cds_follow.specs.Wire.{says_by_seq, says_on_wire}
use Rattle.cds_follow.specs.Named.{named}
use Rattle.cds_replay.specs.Lines.{known_text, known_rows}
use Rattle.cds_replay.specs.Session.{Playing, script_names}
use Rattle.cds_replay.specs.Wired.{played_by}
use Rattle.cds_replay.proofs.Answered.{written-as}
use Rattle.cds_replay.proofs.Apart.{knows-same}
use Rattle.cds_replay.proofs.session.Session.ask.Goals as goal

pub returns-clause-written : goal.returns-clause-written
returns-clause-written c = λ steps after.
    let turns = (played_by steps).replica in
    let wrap = (played_by steps).wrap in
    let stands = ap (λ (p : Playing). p.replica) c.self.view_is ∙ after.replica in
    let said : c.says.result ≡ says_on_wire wrap turns = c.says.ensures.says wrap (named script_names turns) stands ∙ ap (says_by_seq wrap) (knows-same turns).says_so in
    let rows : known_rows c.copy.result.now ≡ copied (known_by turns) = c.copy.ensures.rows wrap (named script_names turns) stands ∙ ap copied (knows-same turns).knows in
    let same : known_text c.says.result (known_rows c.copy.result.now) ≡ known_text (says_on_wire wrap turns) (copied (known_by turns)) = λ i. known_text (said i) (rows i) in
    written-as c.put_known.result (string_bytes c.put_known.new.out) (string_bytes c.args.out.now)
    (known_text c.says.result (known_rows c.copy.result.now)) (known_text (says_on_wire wrap turns) (copied (known_by turns))) same c.put_known.ensures
