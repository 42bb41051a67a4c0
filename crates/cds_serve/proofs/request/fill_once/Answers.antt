-- What a piece makes of a reader.
use Rattle.std.proofs.Common.{◌≡◌, Some, Ok, length, arith, ap, ◌∙◌, subst}
use Rattle.cds_http.specs.declared.message.Side.TheVariants as side
use Rattle.cds_http.specs.Reading.{Takes}
use Rattle.cds_serve.proofs.Coming.{end-read, more-needed, piece-read, refused-now, whole-now}
use Rattle.cds_serve.proofs.request.fill_once.Goals as goal

pub returns-in-Ok-More-clause-goes : goal.returns-in-Ok-More-clause-goes
returns-in-Ok-More-clause-goes g c bytes comes =
    let fed = c.feed.ensures side.Request (Some comes.came) comes.stands in
    more-needed bytes _ _ c.args.reader.now c.feed.new.self comes c.split_at.result.0.now c.in-Ok.count
    (c.split_at.ensures.front ∙ c.in-Ok.ensures.content comes.rest comes.told) (c.in-Ok.ensures.rest comes.rest comes.told) fed.0 fed.1
    (subst (λ r. Takes side.Request (Some comes.came) c.split_at.result.0.now r fed.0) (c.in-Ok-More.is ∙ ap Ok c.in-Ok-More.field-0-is) fed.2)

pub returns-in-Ok-Whole-clause-goes : goal.returns-in-Ok-Whole-clause-goes
returns-in-Ok-Whole-clause-goes g c bytes comes =
    let fed = c.feed.ensures side.Request (Some comes.came) comes.stands in (
      whole-now bytes _ c.args.reader.now c.feed.new.self comes c.split_at.result.0.now c.in-Ok.count c.in-Ok-Whole.field-0-0
          (c.split_at.ensures.front ∙ c.in-Ok.ensures.content comes.rest comes.told) fed.0 fed.1
          (subst (λ r. Takes side.Request (Some comes.came) c.split_at.result.0.now r fed.0) (c.in-Ok-Whole.is ∙ ap Ok c.in-Ok-Whole.field-0-is) fed.2),
      piece-read bytes _ _ c.args.reader.now comes c.split_at.result.0.now c.in-Ok.count _ c.receive.new.into c.split_at.ensures.front (omega (arith, c.receive.auto.into, c.requires.short))
          (c.split_at.ensures.front ∙ c.in-Ok.ensures.content comes.rest comes.told) (c.in-Ok.ensures.rest comes.rest comes.told) tt,
    )

pub returns-in-Err-feed-clause-goes : goal.returns-in-Err-feed-clause-goes
returns-in-Err-feed-clause-goes g c bytes comes =
    let fed = c.feed.ensures side.Request (Some comes.came) comes.stands in (
      refused-now bytes _ c.args.reader.now comes c.split_at.result.0.now c.in-Ok.count c.in-Err-feed.refusal
          (c.split_at.ensures.front ∙ c.in-Ok.ensures.content comes.rest comes.told) fed.0
          (subst (λ r. Takes side.Request (Some comes.came) c.split_at.result.0.now r fed.0) c.in-Err-feed.is fed.2),
      piece-read bytes _ _ c.args.reader.now comes c.split_at.result.0.now c.in-Ok.count _ c.receive.new.into c.split_at.ensures.front (omega (arith, c.receive.auto.into, c.requires.short))
          (c.split_at.ensures.front ∙ c.in-Ok.ensures.content comes.rest comes.told) (c.in-Ok.ensures.rest comes.rest comes.told) tt,
    )

pub returns-in-Ok-eq0-clause-goes : goal.returns-in-Ok-eq0-clause-goes
returns-in-Ok-eq0-clause-goes g c bytes comes =
    let none = c.in-Ok-eq0 in
    let zero : c.in-Ok-eq0.field-0 ≡ 0 = omega (arith, c.in-Ok-eq0.field-0-test) in
    end-read bytes _ _ c.args.reader.now comes (length c.args.piece.now) none.field-0 c.requires.some
    (none.ensures.end zero comes.rest comes.told) zero (none.ensures.rest comes.rest comes.told)
