-- The names of a server that listens tell the moment of its boot words, its port and the number of the grant.
use Rattle.std.proofs.Common.{arith}
use Rattle.cds_serve.specs.Laws.{names_are_of_the_start, names_tell_the_server}

pub of-the-start : names_are_of_the_start
of-the-start moment port number l = omega (arith, l)

pub tell-the-server : names_tell_the_server
tell-the-server moment other port beside number count l k m n e =
    let a = of-the-start moment port number l in
    let b = of-the-start other beside count k in
    (omega (arith, l, k, m, n, a, b, e), omega (arith, l, k, m, n, a, b, e), omega (arith, l, k, m, n, a, b, e))
