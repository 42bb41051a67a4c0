use Rattle.std.proofs.Common.{[], refl}
use Rattle.cds_serve.specs.Requested.{ComesTo}
use Rattle.cds_serve.proofs.Coming.{nothing-said}
use Rattle.cds_serve.proofs.request.read_message.Goals as goal

pub returns-clause-request : goal.returns-clause-request
returns-clause-request g c = λ bytes told known d.
    let comes : ComesTo bytes (g.C.Source.told c.args.conn.now).left c.in_ok-reader.reader = record {
      came = [];
      rest = bytes;
      all = refl;
      told = told;
      stands = c.in_ok-reader.ensures;
      needed = nothing-said;
    } in
    c.request_of.ensures.request bytes (c.fill-filled.ensures.filled bytes comes) known d

pub returns-clause-read : goal.returns-clause-read
returns-clause-read g c = λ bytes told.
    let comes : ComesTo bytes (g.C.Source.told c.args.conn.now).left c.in_ok-reader.reader = record {
      came = [];
      rest = bytes;
      all = refl;
      told = told;
      stands = c.in_ok-reader.ensures;
      needed = nothing-said;
    } in
    c.request_of.ensures.read bytes (g.C.Source.told c.fill-filled.new.conn).left (c.fill-filled.ensures.read bytes comes)
