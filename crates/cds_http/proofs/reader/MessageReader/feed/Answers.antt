use Rattle.std.proofs.Common.{◌∙◌, ap, refl, Bool, Ok}
use Rattle.cds_http.proofs.Growing.{feed_grows, feed_refuses}
use Rattle.cds_http.proofs.reader.MessageReader.feed.Goals as goal

pub returns-in-Ok-true : goal.returns-in-Ok-true
returns-in-Ok-true c side came stands =
    feed_grows side came c.args.self.now (record { side = c.args.self.now.side; stage = c.grow.new.stage }) c.args.piece.now c.grow.result
    (c.in-Ok-true.is ∙ ap (λ (b : Bool). Ok b) c.in-Ok-true.field-0-test) refl stands c.grow.ensures.grows c.grow.ensures.failed

pub returns-in-Err : goal.returns-in-Err
returns-in-Err c side came stands =
    feed_refuses side came c.args.self.now (record { side = c.args.self.now.side; stage = c.put_stage.new.stage }) c.grow.new.stage c.args.piece.now c.grow.result c.in-Err.refusal
    c.in-Err.is c.put_stage.ensures stands c.grow.ensures.grows c.grow.ensures.ends c.grow.ensures.failed
