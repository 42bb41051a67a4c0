-- Whether a note may be delivered, and whether a wrap may be named.
use Rattle.std.proofs.Common.{sym, ap, ◌∙◌}
use Rattle.cds_replay.specs.Wired.{may_stand_by}
use Rattle.cds_replay.proofs.session.Session.may_stand.Goals as goal

pub returns-in-Deliver : goal.returns-in-Deliver
returns-in-Deliver c = λ steps after. c.may_deliver.ensures steps after ∙ sym (ap (may_stand_by steps) c.in-Deliver.is)

pub returns-in-Wrap : goal.returns-in-Wrap
returns-in-Wrap c = λ steps after. c.may_begin_with.ensures steps after ∙ sym (ap (may_stand_by steps) c.in-Wrap.is)
