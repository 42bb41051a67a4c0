use Rattle.std.proofs.Common.{arith}
use Rattle.cds_http.proofs.Walking.{goes_whole, reached_more}
use Rattle.cds_http.proofs.body.take_body.Goals as goal

pub loop-body-preserved : goal.loop-body-preserved
loop-body-preserved c = record {
  within = omega (arith, (rw c.in-Ok-More.field-0-is at c.in-Ok-More.ensures.uses).0, c.split_at.ensures.back_len);
  reached = λ fits.
      let reached = c.loop-body.invariant.reached fits in
      let known = rw c.in-Ok-More.field-0-is at c.in-Ok-More.ensures.goes in
      let goes = rw c.split_at.ensures.back at known in
      reached_more c.args.body c.loop-body.here c.in-Ok-More.body c.args.piece.now c.loop-body.at c.in-Ok-More.used reached (goes reached.fits);
}

pub returns-in-Ok-Whole-clause-goes : goal.returns-in-Ok-Whole-clause-goes
returns-in-Ok-Whole-clause-goes c fits =
    let reached = c.loop-body.invariant.reached fits in
    let known = rw c.in-Ok-Whole.field-0-is at c.in-Ok-Whole.ensures.goes in
    let goes = rw c.split_at.ensures.back at known in
    goes_whole c.args.body c.loop-body.here c.in-Ok-Whole.body c.args.piece.now c.loop-body.at c.in-Ok-Whole.used c.loop-body.invariant.within reached (goes reached.fits)
