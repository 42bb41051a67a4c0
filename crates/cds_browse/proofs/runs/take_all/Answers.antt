use Rattle.cds_browse.specs.Runs.{after_scans, Stopped}
use Rattle.cds_browse.proofs.Running.{taken_more, stopped_at, err_exit}
use Rattle.cds_browse.proofs.runs.take_all.Goals as goal
use Rattle.std.proofs.Common.{take}

pub returns-in_err-_span-clause-stopped : goal.returns-in_err-_span-clause-stopped
returns-in_err-_span-clause-stopped g c = λ history stands.
    let scans = c.args.scans.now in
    let k = c.loop-records.records-index in
    let before = g.K.Keeping.stored c.loop-records.keeping in
    let now = g.K.Keeping.stored c.apply.new.self in
    let was = c.loop-records.invariant history stands in
    err_exit (λ refusal. Stopped history scans refusal now) c.from_residual.result c.in_err-_span.field-0.0 c.from_residual.ensures.1
    (stopped_at history scans k c.records-item.result c.in_err-_span.field-0.0 before now c.loop-records-test.true c.records-item.is was
    (c.in_err-_span.ensures (after_scans history (take k scans)) was.1))

pub loop-records-preserved : goal.loop-records-preserved
loop-records-preserved g c = λ history stands.
    let scans = c.args.scans.now in
    let k = c.loop-records.records-index in
    let before = g.K.Keeping.stored c.loop-records.keeping in
    let now = g.K.Keeping.stored c.apply.new.self in
    let was = c.loop-records.invariant history stands in
    taken_more history scans k c.records-item.result c.in_ok-_span._span before now c.loop-records-test.true c.records-item.is was
    (c.in_ok-_span.ensures (after_scans history (take k scans)) was.1)
