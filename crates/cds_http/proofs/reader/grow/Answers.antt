use Rattle.cds_http.proofs.Growing.{grows_head, grows_body}
use Rattle.cds_http.proofs.reader.grow.Goals as goal

pub returns-in-InHead-clause-grows : goal.returns-in-InHead-clause-grows
returns-in-InHead-clause-grows c side bytes stands =
    grows_head side bytes c.args.stage.now c.in-InHead.front c.add_front.new.front c.args.piece.now c.add_front.result c.in-InHead.is c.add_front.ensures stands

pub returns-in-InBody-clause-grows : goal.returns-in-InBody-clause-grows
returns-in-InBody-clause-grows c side bytes stands =
    grows_body side bytes c.args.stage.now c.in-InBody.head c.in-InBody.body c.lengthen.new.body c.args.piece.now c.lengthen.result c.in-InBody.is c.lengthen.ensures stands
