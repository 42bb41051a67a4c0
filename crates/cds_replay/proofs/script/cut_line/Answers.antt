-- The search for the first LF, as the parts around it.
use Rattle.std.proofs.Common.{arith, ◌≡◌, drop, ◌∙◌, ap}
use Rattle.cds_summary.proofs.Cuts.{unbroken-none, unbroken-before, cut-at}
use Rattle.cds_replay.proofs.script.cut_line.Goals as goal

pub returns-in-None : goal.returns-in-None
returns-in-None c = unbroken-none c.args.bytes.now (λ k low. c.in-None.ensures k (omega arith) low)

pub returns-in-Some : goal.returns-in-Some
returns-in-Some c =
    let bytes = c.args.bytes.now in
    let at = c.in-Some.at in
    let found = c.in-Some.ensures in
    let after : c.split_at-in-Some.result.1.now ≡ drop 1 (drop at bytes) = c.split_at-in-Some.ensures.back ∙ ap (drop 1) c.split_at.ensures.back in (
      rw c.split_at.ensures.front (unbroken-before bytes at found.0.high (λ k low. found.0.before k (omega arith) low)),
      rw (c.split_at.ensures.front, after) (cut-at bytes at found.0.high found.1),
    )
