-- Scan after scan, until the server was stopped.
use Rattle.std.proofs.Common.{◌≡◌, List, [], refl, sym, ◌∙◌, arith}
use Rattle.cds_outside.specs.Entries.{FolderTold}
use Rattle.cds_commands.specs.Commands.{Command}
use Rattle.cds_server.specs.Serving.{Serving, StandsFor}
use Rattle.cds_server.specs.Taking.{unfailing}
use Rattle.cds_turn.specs.Turn.{own_by, passes_of, seat_told, seats_of, seen_by, start_of}
use Rattle.cds_serve.specs.Scanned.{Across}
use Rattle.cds_serve.specs.Served.{CanBeClosed}
use Rattle.cds_serve.proofs.Rounds.{ends-scanning, never-closed, one-more, same-scans, scans-own, scans-passes, so-far-later, so-far-none, some-counted}
use Rattle.cds_serve.proofs.scanner.scan_until_stopped.Goals as goal

pub scans-init : goal.scans-init
scans-init g c = record {
  seat = c.requires;
  passes = refl;
  own = ([], omega arith, refl);
  so_far = so-far-none _ _ _ _ _;
}

pub scans-preserved : goal.scans-preserved
scans-preserved g c =
    let turn = c.args.turn.now in
    let closes : List Command → Type 0 = CanBeClosed (λ (serving : Serving). unfailing) StandsFor (start_of turn c.scans.seat) in
    let told : FolderTold = g.F.Folder.told c.args.folder.now in
    let first = seen_by c.args.seat.now in
    let a = c.scans.counts in
    let b = c.count.new.self in
    let old : Across = record {
      seat = seat_told turn c.scans.seat;
      folder = g.F.Folder.told c.scans.folder;
      clock = g.T.Clock.told c.scans.clock;
    } in
    let new : Across = record {
      seat = seat_told turn c.scan_once-scanned.new.seat;
      folder = g.F.Folder.told c.scan_once-scanned.new.folder;
      clock = g.T.Clock.told c.scan_once-scanned.new.clock;
    } in
    let once = c.scan_once-scanned.ensures in
    let later = c.wait_for_scan.ensures in
    let passes : new.seat.passes ≡ old.seat.passes = scans-passes closes (start_of turn c.scans.seat) c.scan_once-scanned.result c.scans.last c.scan_once-scanned.new.last old new once.scanned in
    record {
      seat = later.seat;
      passes = later.passes ∙ passes ∙ c.scans.invariant.passes;
      own = same-scans (own_by c.args.seat.now) (own_by c.scan_once-scanned.new.seat) (own_by c.wait_for_scan.new.seat) b b later.own refl
          (scans-own closes (start_of turn c.scans.seat) c.scan_once-scanned.result c.scans.last c.scan_once-scanned.new.last old new a b once.scanned
          c.count.ensures.accepted c.count.ensures.refused (own_by c.args.seat.now) c.scans.invariant.own);
      so_far = so-far-later (start_of turn c.scans.seat) old.seat.passes (passes_of c.wait_for_scan.new.seat) (seats_of turn) told new.folder first new.seat.seen (seen_by c.wait_for_scan.new.seat)
          b.accepted b.refused (later.passes ∙ passes) (λ only. later.alone (passes ∙ only))
          (one-more (start_of turn c.scans.seat) told first c.scans.last c.scan_once-scanned.new.last old new a b once.goes.0 once.goes.1 once.goes.4 once.goes.5
          c.scans.invariant.so_far closes (never-closed (start_of turn c.scans.seat)) c.scan_once-scanned.result once.scanned c.count.ensures.accepted c.count.ensures.refused) later.begun;
    }

pub returns-then-wait_for_scan-clause-passes : goal.returns-then-wait_for_scan-clause-passes
returns-then-wait_for_scan-clause-passes g c =
    let turn = c.args.turn.now in
    let closes : List Command → Type 0 = CanBeClosed (λ (serving : Serving). unfailing) StandsFor (start_of turn c.scans.seat) in
    let old : Across = record {
      seat = seat_told turn c.scans.seat;
      folder = g.F.Folder.told c.scans.folder;
      clock = g.T.Clock.told c.scans.clock;
    } in
    let new : Across = record {
      seat = seat_told turn c.scan_once-scanned.new.seat;
      folder = g.F.Folder.told c.scan_once-scanned.new.folder;
      clock = g.T.Clock.told c.scan_once-scanned.new.clock;
    } in
    c.wait_for_scan.ensures.passes
    ∙ scans-passes closes (start_of turn c.scans.seat) c.scan_once-scanned.result c.scans.last c.scan_once-scanned.new.last old new c.scan_once-scanned.ensures.scanned
    ∙ c.scans.invariant.passes

pub returns-then-wait_for_scan-clause-own : goal.returns-then-wait_for_scan-clause-own
returns-then-wait_for_scan-clause-own g c =
    let turn = c.args.turn.now in
    let closes : List Command → Type 0 = CanBeClosed (λ (serving : Serving). unfailing) StandsFor (start_of turn c.scans.seat) in
    let a = c.scans.counts in
    let b = c.count.new.self in
    let old : Across = record {
      seat = seat_told turn c.scans.seat;
      folder = g.F.Folder.told c.scans.folder;
      clock = g.T.Clock.told c.scans.clock;
    } in
    let new : Across = record {
      seat = seat_told turn c.scan_once-scanned.new.seat;
      folder = g.F.Folder.told c.scan_once-scanned.new.folder;
      clock = g.T.Clock.told c.scan_once-scanned.new.clock;
    } in
    same-scans (own_by c.args.seat.now) (own_by c.scan_once-scanned.new.seat) (own_by c.wait_for_scan.new.seat) b b c.wait_for_scan.ensures.own refl
    (scans-own closes (start_of turn c.scans.seat) c.scan_once-scanned.result c.scans.last c.scan_once-scanned.new.last old new a b c.scan_once-scanned.ensures.scanned
    c.count.ensures.accepted c.count.ensures.refused (own_by c.args.seat.now) c.scans.invariant.own)

pub returns-then-wait_for_scan-clause-ends : goal.returns-then-wait_for_scan-clause-ends
returns-then-wait_for_scan-clause-ends g c =
    let turn = c.args.turn.now in
    let closes : List Command → Type 0 = CanBeClosed (λ (serving : Serving). unfailing) StandsFor (start_of turn c.scans.seat) in
    let told : FolderTold = g.F.Folder.told c.args.folder.now in
    let first = seen_by c.args.seat.now in
    let a = c.scans.counts in
    let b = c.count.new.self in
    let old : Across = record {
      seat = seat_told turn c.scans.seat;
      folder = g.F.Folder.told c.scans.folder;
      clock = g.T.Clock.told c.scans.clock;
    } in
    let new : Across = record {
      seat = seat_told turn c.scan_once-scanned.new.seat;
      folder = g.F.Folder.told c.scan_once-scanned.new.folder;
      clock = g.T.Clock.told c.scan_once-scanned.new.clock;
    } in
    let once = c.scan_once-scanned.ensures in
    let later = c.wait_for_scan.ensures in
    let passes : new.seat.passes ≡ old.seat.passes = scans-passes closes (start_of turn c.scans.seat) c.scan_once-scanned.result c.scans.last c.scan_once-scanned.new.last old new once.scanned in
    ends-scanning _ _ _ told new.folder first (seen_by c.wait_for_scan.new.seat) b.accepted b.refused b.memory
    (so-far-later (start_of turn c.scans.seat) old.seat.passes (passes_of c.args.seat.now) (seats_of turn) told new.folder first new.seat.seen (seen_by c.wait_for_scan.new.seat)
    b.accepted b.refused (sym c.scans.invariant.passes) (λ only. later.alone (passes ∙ only))
    (one-more (start_of turn c.scans.seat) told first c.scans.last c.scan_once-scanned.new.last old new a b once.goes.0 once.goes.1 once.goes.4 once.goes.5
    c.scans.invariant.so_far closes (never-closed (start_of turn c.scans.seat)) c.scan_once-scanned.result once.scanned c.count.ensures.accepted c.count.ensures.refused) later.begun)
    (later.stopped c.if-wait_for_scan.true) (some-counted c.scan_once-scanned.result a b c.count.ensures.accepted c.count.ensures.refused)
