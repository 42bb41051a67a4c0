use Rattle.cds_server.proofs.Takes.{never-closes, stays, takes}
use Rattle.cds_server.proofs.serving.ServerServing.take_scan.Goals as goal

pub returns-clause-takes : goal.returns-clause-takes
returns-clause-takes c start commands stands =
    takes start commands c.args.scan.now.records c.accept_scan.result c.taken.result c.args.self.now c.accept_scan.new.self stands
    (c.accept_scan.ensures.scanned start commands stands) c.taken.ensures.ok c.taken.ensures.refused

pub returns-clause-closes : goal.returns-clause-closes
returns-clause-closes c = never-closes c.accept_scan.result c.taken.result c.taken.ensures.ok c.taken.ensures.refused

pub returns-clause-kept : goal.returns-clause-kept
returns-clause-kept c = stays c.accept_scan.result c.taken.result c.args.self.now c.accept_scan.new.self c.accept_scan.ensures.kept c.taken.ensures.ok
