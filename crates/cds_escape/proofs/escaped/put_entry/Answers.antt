use Rattle.std.proofs.Common.{◌-◌, drop, arith, append-nil, length-drop, take_all, drop-drop}
use Rattle.std.proofs.lemmas.List.{drop_all}
use Rattle.std.proofs.lemmas.Simd.{put_chunk_is}
use Rattle.cds_escape.proofs.escaped.put_entry.Goals as goal

pub returns : goal.returns
returns c =
    let buffer = c.args.buffer.now in
    let at = c.args.at in
    let long = length-drop at buffer in
    rw (
      take_all (1538 - at) (drop at buffer) (omega arith),
      put_chunk_is 0 (drop at buffer) c.args.entry (omega (arith, c.fits-entry.0)),
      drop_all (1538 - at) (drop at buffer) (omega arith),
      append-nil,
      c.fits-entry.0,
      drop-drop 8 at buffer,
    )
