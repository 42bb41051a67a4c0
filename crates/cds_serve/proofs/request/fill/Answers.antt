-- The last piece is that of the last read.
use Rattle.cds_serve.proofs.Coming.{came-read}
use Rattle.cds_serve.proofs.request.fill.Goals as goal

pub returns-in-Some-clause-read : goal.returns-in-Some-clause-read
returns-in-Some-clause-read g c bytes comes = (c.in-Some.ensures.goes bytes (c.pieces.invariant.comes bytes comes)).1

pub returns-clause-read : goal.returns-clause-read
returns-clause-read g c bytes comes =
    let now = c.pieces.invariant.comes bytes comes in
    came-read bytes _ _ c.pieces.reader now _ now.told tt
