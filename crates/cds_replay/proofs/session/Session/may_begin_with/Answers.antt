-- No turn came but the first number.
use Rattle.std.proofs.Common.{◌&&◌, sym, ap, ◌∙◌}
use Rattle.std.specs.List.{list_all}
use Rattle.std.proofs.lemmas.Bool.{le-leb}
use Rattle.cds_script.specs.Report.{is_first}
use Rattle.cds_replay.specs.Wired.{turns_in}
use Rattle.cds_replay.proofs.Turns.{begins-is}
use Rattle.cds_replay.proofs.session.Session.may_begin_with.Goals as goal

pub returns-then-wrap-ge256 : goal.returns-then-wrap-ge256
returns-then-wrap-ge256 c = λ steps after.
    c.is_beginning.ensures ∙ begins-is c.args.self.now steps after
    ∙ sym (ap (λ b. b && list_all is_first (turns_in steps)) (le-leb 256 c.args.wrap c.if-wrap-ge256.true))
