use Rattle.cds_http.proofs.Growing.{lengthens_counted, lengthens_data}
use Rattle.cds_http.proofs.body.lengthen.Goals as goal

pub returns-in-Counted : goal.returns-in-Counted
returns-in-Counted c =
    lengthens_counted c.args.body.now c.in-Counted.left c.args.piece.now c.add.result c.add.new.bytes c.add.new.left c.in-Counted.is c.add.ensures

pub returns-in-Data : goal.returns-in-Data
returns-in-Data c =
    lengthens_data c.args.body.now c.in-Data.left c.args.piece.now c.add-in-Data.result c.add-in-Data.new.bytes c.add-in-Data.new.left c.in-Data.is c.add-in-Data.ensures
