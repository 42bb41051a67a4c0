-- Each piece goes on where the last one ended.
use Rattle.std.proofs.Common.{◌≡◌, ℕ, ◌+◌, ◌-◌, ◌≤◌, Some, List, [], ◌++◌, take, drop, ap, sym, ◌∙◌, arith}
use Rattle.std.proofs.lemmas.Result.{err_from_is_err_and}
use Rattle.cds_outside.specs.Outside.{raised}
use Rattle.cds_base.specs.declared.limits.TheConstants.{INPUT_LIMIT}
use Rattle.cds_subcommands.proofs.Feeding.{SoFar, Coming, goes-on, stops-at, on-limit, moved-by, raised-twice, moved-past, piece-past, piece-within, fed-on, all-fed, none-left}
use Rattle.cds_subcommands.proofs.checking.feed_all.Goals as goal

pub returns-in-Ok-eq0-clause-fed : goal.returns-in-Ok-eq0-clause-fed
returns-in-Ok-eq0-clause-fed g c = λ bytes told.
    let coming = c.loop-count.invariant.1 bytes told in
    let zero : c.in-Ok-eq0.field-0 ≡ 0 = omega (arith, c.in-Ok-eq0.field-0-test) in
    all-fed _ _ bytes coming (c.in-Ok-eq0.ensures.end zero coming.rest coming.told)

pub returns-in-Ok-eq0-clause-stays : goal.returns-in-Ok-eq0-clause-stays
returns-in-Ok-eq0-clause-stays g c = let fed = c.loop-count.invariant.0 in (fed.bytes, fed.is)

pub returns-in-Ok-eq0-clause-whole : goal.returns-in-Ok-eq0-clause-whole
returns-in-Ok-eq0-clause-whole g c = λ bytes told.
    let coming = c.loop-count.invariant.1 bytes told in
    let zero : c.in-Ok-eq0.field-0 ≡ 0 = omega (arith, c.in-Ok-eq0.field-0-test) in
    none-left _ coming.rest c.in-Ok-eq0.field-0 (c.in-Ok-eq0.ensures.end zero coming.rest coming.told)
    (c.in-Ok-eq0.ensures.rest coming.rest coming.told)

pub returns-in_err-feed-in-Ok-clause-cause : goal.returns-in_err-feed-in-Ok-clause-cause
returns-in_err-feed-in-Ok-clause-cause g c =
    let error = err_from_is_err_and c.from_residual.result c.from_residual.ensures.1 in
    rw (error.1, error.2)
    (λ bytes told.
    let coming = c.loop-count.invariant.1 bytes told in
    stops-at _ _ bytes c.split_at.result.0.now c.in-Ok.count _ coming
    (c.split_at.ensures.front ∙ c.in-Ok.ensures.content coming.rest coming.told)
    (c.in_err-feed-in-Ok.ensures.cause coming.bytes coming.is))

pub returns-in_err-feed-in-Ok-clause-long : goal.returns-in_err-feed-in-Ok-clause-long
returns-in_err-feed-in-Ok-clause-long g c =
    let error = err_from_is_err_and c.from_residual.result c.from_residual.ensures.1 in
    let fed = c.loop-count.invariant.0 in
    rw (error.1, error.2)
    (on-limit _ _ _
    (λ long. moved-past (g.S.Source.told c.args.source.now).moved ((INPUT_LIMIT - c.loop-count.left) + c.in-Ok.count) _
    (piece-past fed.bytes c.split_at.result.0.now c.loop-count.left c.in-Ok.count fed.within c.split_at.ensures.front_len long)
    (c.in-Ok.ensures.count ∙ c.loop-count.invariant.2 c.in-Ok.count))
    (c.in_err-feed-in-Ok.ensures.long fed.bytes fed.is))

pub overflow_sub-left : goal.overflow_sub-left
overflow_sub-left g c =
    let fed = c.loop-count.invariant.0 in
    piece-within fed.bytes c.split_at.result.0.now c.loop-count.left c.in-Ok.count fed.within c.split_at.ensures.front_len
    (c.in_ok-feed-in-Ok.ensures.within fed.bytes fed.is)

pub loop-count-smaller : goal.loop-count-smaller
loop-count-smaller g c = omega (arith, overflow_sub-left g c, c.in-Ok.count-test)

pub loop-count-preserved : goal.loop-count-preserved
loop-count-preserved g c =
    let fed = c.loop-count.invariant.0 in
    let few = overflow_sub-left g c in
    let moved = moved-by _ _ _ c.in-Ok.ensures.count in (
      fed-on c.loop-count.left c.in-Ok.count _ _ c.split_at.result.0.now fed c.split_at.ensures.front_len few (c.in_ok-feed-in-Ok.ensures.fed fed.bytes fed.is),
      λ bytes told.
          let coming = c.loop-count.invariant.1 bytes told in
          goes-on _ _ _ _ bytes c.split_at.result.0.now c.in-Ok.count coming
          (c.split_at.ensures.front ∙ c.in-Ok.ensures.content coming.rest coming.told)
          (c.in-Ok.ensures.rest coming.rest coming.told)
          (c.in_ok-feed-in-Ok.ensures.fed coming.bytes coming.is),
      λ n.
          let more : (INPUT_LIMIT - c.loop-count.left) + (c.in-Ok.count + n) ≡ (INPUT_LIMIT - (c.loop-count.left - c.in-Ok.count)) + n = omega (arith, few, fed.within) in
          ap (λ m. raised m n) c.in-Ok.ensures.count
          ∙ raised-twice (g.S.Source.told c.loop-count.source).moved c.in-Ok.count n
          ∙ c.loop-count.invariant.2 (c.in-Ok.count + n)
          ∙ ap (raised (g.S.Source.told c.args.source.now).moved) more,
      omega (arith, c.loop-count.invariant.3, c.in-Ok.ensures.never_falls),
      omega (arith, c.loop-count.invariant.4, moved, few, fed.within),
    )
