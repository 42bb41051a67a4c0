use Rattle.std.proofs.Common.{[], refl, ap, arith, slice_index}
use Rattle.cds_commands.specs.Commands.{Start}
use Rattle.cds_gena.specs.Subscribed.{Booked}
use Rattle.cds_server.proofs.server.Server.with_wrap.Goals as goal

pub invariant_of-result : goal.invariant_of-result
invariant_of-result c =
    let start : Start = record { high = slice_index c.args.boot 0; low = slice_index c.args.boot 1; first = c.args.first; wrap = c.args.wrap } in
    record {
      start = start;
      commands = [];
      stands = record {
        store = c.in_ok-store.ensures.stands;
        kept = c.in_ok-store.ensures.forgotten;
        book = c.with_wrap-book.ensures.stands start refl refl refl;
        moderated = c.new-2.ensures.stands c.args.first;
        stopped = refl;
      };
      accepted = record { libraries = tt; few = tt; numbers = omega arith };
      room = omega (arith, c.book.invariant.room, ap (λ (b : Booked). b.names) c.book.view_is);
    }

pub returns : goal.returns
returns c =
    let start : Start = record { high = slice_index c.args.boot 0; low = slice_index c.args.boot 1; first = c.args.first; wrap = c.args.wrap } in
    record {
      store = c.in_ok-store.ensures.stands;
      kept = c.in_ok-store.ensures.forgotten;
      book = c.with_wrap-book.ensures.stands start refl refl refl;
      moderated = c.new-2.ensures.stands c.args.first;
      stopped = refl;
    }
