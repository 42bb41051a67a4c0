use Rattle.cds_http.proofs.StageForms.{whole_body, truncated_body}
use Rattle.cds_http.proofs.reader.end_body.Goals as goal

pub returns-in-ToEnd : goal.returns-in-ToEnd
returns-in-ToEnd c side bytes stands = whole_body side bytes c.args.head c.args.body c.with_body.result c.in-ToEnd.is c.with_body.ensures stands

pub returns-in_default : goal.returns-in_default
returns-in_default c side bytes stands = truncated_body side bytes c.args.head c.args.body c.in_default.not-ToEnd stands
