use Rattle.std.proofs.Common.{◌+◌, ◌++◌, ◌≤◌, length, take, vec_capacity, ap, ◌∙◌, arith}
use Rattle.cds_base.specs.Escape.{escaped}
use Rattle.cds_escape.proofs.Cuts.{length-cut, room_left, more_done}
use Rattle.cds_escape.proofs.escaped.put_escaped.Goals as goal

pub put_piece-requires-clause-room : goal.put_piece-requires-clause-room
put_piece-requires-clause-room c =
    let start : length c.args.out.now.items + length (escaped c.args.text.now) ≤ vec_capacity c.args.out.now = omega (arith, c.requires.room) in
    let left = room_left c.args.out.now.items c.loop-piece.out.items c.loop-piece.rest.now c.args.text.now _ c.loop-piece.invariant.0 start in
    let parts = length-cut c.loop-piece.rest.now 256 in
    let same = ap (λ x. length (escaped x)) c.in-Some.ensures.cases.0 in
    omega (arith, left, parts, same, c.loop-piece.invariant.1)

pub loop-piece-preserved : goal.loop-piece-preserved
loop-piece-preserved c =
    let done = c.loop-piece.out.items in
    let behind = c.in-Some.behind.now in
    let rest = c.loop-piece.rest.now in (
      ap (λ x. x ++ escaped behind) c.put_piece.ensures.items
          ∙ ap (λ x. (done ++ escaped x) ++ escaped behind) c.in-Some.ensures.cases.0
          ∙ ap (λ x. (done ++ escaped (take 256 rest)) ++ escaped x) c.in-Some.ensures.cases.1
          ∙ more_done done rest _ 256 c.loop-piece.invariant.0,
      omega (arith, c.put_piece.ensures.capacity, c.loop-piece.invariant.1),
    )

pub put_piece-requires-2-clause-room : goal.put_piece-requires-2-clause-room
put_piece-requires-2-clause-room c =
    let start : length c.args.out.now.items + length (escaped c.args.text.now) ≤ vec_capacity c.args.out.now = omega (arith, c.requires.room) in
    let left = room_left c.args.out.now.items c.loop-piece.out.items c.loop-piece.rest.now c.args.text.now _ c.loop-piece.invariant.0 start in
    omega (arith, left, c.loop-piece.invariant.1)
