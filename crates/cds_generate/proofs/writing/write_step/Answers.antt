-- The scan and what ends the step are taken one after the other.
use Rattle.std.proofs.Common.{◌≡◌, ℕ, length, subst, rules}
use Rattle.std.proofs.lemmas.Result.{err_from_is_err_and}
use Rattle.cds_generate.specs.Generated.{scanned_text, ending_text, step_reads}
use Rattle.cds_generate.specs.Writing.{Took}
use Rattle.cds_generate.proofs.Pieces.{took_then, took_stops}
use Rattle.std.proofs.Common.{◌%◌, nat_eq}
use Rattle.cds_generate.proofs.writing.write_step.Goals as goal

pub returns-in_err-write_scanned : goal.returns-in_err-write_scanned
returns-in_err-write_scanned g c =
    let error = err_from_is_err_and c.from_residual.result c.from_residual.ensures.1 in
    rw (error.1, error.2)
    (took_stops c.in_err-write_scanned.field-0.0 (g.K.Sink.told c.args.sink.now) (g.K.Sink.told c.write_scanned.new.sink) (scanned_text c.args.tracks.now c.args.step) (ending_text c.args.step.late (step_reads c.args.step.number (length c.args.tracks.now)) (nat_eq (c.args.step.number % 10) 0)) c.in_err-write_scanned.ensures)

pub returns : goal.returns
returns g c =
    (took_then c.write_ending.result (g.K.Sink.told c.args.sink.now) (g.K.Sink.told c.write_scanned.new.sink) (g.K.Sink.told c.write_ending.new.sink) (scanned_text c.args.tracks.now c.args.step) (ending_text c.args.step.late (step_reads c.args.step.number (length c.args.tracks.now)) (nat_eq (c.args.step.number % 10) 0)) c.in_ok-write_scanned.ensures (let reads : c.step_reads-reads.result ≡ step_reads c.args.step.number (length c.args.tracks.now) = search rules in
    subst (λ (k : ℕ). Took c.write_ending.result (g.K.Sink.told c.write_scanned.new.sink) (ending_text c.args.step.late k (nat_eq (c.args.step.number % 10) 0)) (g.K.Sink.told c.write_ending.new.sink)) reads c.write_ending.ensures))
