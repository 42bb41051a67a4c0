-- Each read brings a piece more.
use Rattle.std.proofs.Common.{◌≡◌, ◌+◌, ◌≤◌, Some, length, take, drop, ap, sym, ◌∙◌, arith}
use Rattle.std.proofs.lemmas.List.{drop-drop}
use Rattle.cds_flac.proofs.Takes.{text_more, length-text_more, length-take-most, text-taken, within_more}
use Rattle.cds_flac.proofs.input.read_text.Goals as goal

pub loop-piece-preserved : goal.loop-piece-preserved
loop-piece-preserved g c =
    let text = c.loop-piece.text in
    let next = c.extend.new.self in
    let n = c.in_ok-count.count in
    let piece = c.read.new.into in
    let enough : n ≤ length piece = omega (arith, c.in_ok-count.ensures.room, c.read.auto.into) in
    let longer : length next ≡ length text + n = length-text_more text next piece _ n c.in_ok-extend.ensures.ok enough in (
      omega (arith, longer, c.in_ok-count.ensures.room, length-take-most c.min-want.result c.loop-piece.piece),
      λ bytes told.
          let before = c.loop-piece.invariant.1 bytes told in
          let within : length text + n ≤ length bytes = within_more (length text) n bytes before.0 (c.in_ok-count.ensures.enough _ before.2) in (
            omega (arith, longer, within),
            text_more text next piece _ bytes n c.in_ok-extend.ensures.ok before.1 enough (c.in_ok-count.ensures.content _ before.2) ∙ ap (λ m. take m bytes) (sym longer),
            c.in_ok-count.ensures.rest _ before.2 ∙ ap Some (drop-drop n (length text) bytes) ∙ ap (λ m. Some (drop m bytes)) (sym longer),
          ),
      omega arith,
      omega (arith, c.in_ok-count.ensures.count, longer),
    )

pub returns-clause-told : goal.returns-clause-told
returns-clause-told g c = λ bytes told.
    let now = c.loop-piece.invariant.1 bytes told in (
      drop (length c.loop-piece.text) bytes,
      text-taken c.args.at c.args.n c.loop-piece.text bytes (omega (arith, c.loop-piece.invariant.0)) now.0 now.1,
      now.2,
    )
