-- One block more, until the last.
use Rattle.std.proofs.Common.{◌≡◌, ℕ, ◌+◌, ◌-◌, ◌<◌, ◌≤◌, List, Option, refl, ap, ◌∙◌, arith}
use Rattle.cds_object.specs.declared.info.Comment.{Comment}
use Rattle.cds_flac.specs.Reading.{blocks_from, most_blocks}
use Rattle.cds_flac.proofs.Walks.{walk-no_header, walk-no_body, walk-last, walk-more}
use Rattle.cds_flac.proofs.Steps.{judged-same, agrees-exit}
use Rattle.cds_flac.proofs.block.read_blocks.Goals as goal

enough : 67108868 < most_blocks + 42
unfolding most_blocks
enough = omega arith

pub loop-found-init : goal.loop-found-init
loop-found-init g c = (omega arith, omega arith, omega arith, λ bytes told. (most_blocks, bytes, told, enough, refl), omega arith)

-- a block may come
some_left : (fewer place : ℕ) → 67108868 < fewer + place → place ≤ 67108868 → 0 < fewer
some_left fewer place h within = omega arith

next_place : (place n : ℕ) → place + n ≤ 67108864 → place + (4 + n) ≤ 67108868
next_place place n h = omega arith

fewer_left : (fewer place n : ℕ) → 67108868 < fewer + place → place ≤ 67108868 → 67108868 < fewer - 1 + (place + (4 + n))
fewer_left fewer place n h within = omega arith

same_place : (fewer : ℕ) (found : Option (List Comment)) (place n : ℕ) (left : List ℕ) → blocks_from fewer found (place + 4 + n) left ≡ blocks_from fewer found (place + (4 + n)) left
same_place fewer found place n left =
    let same : place + 4 + n ≡ place + (4 + n) = omega arith in ap (λ at. blocks_from fewer found at left) same

pub returns-in_err-header-clause-told : goal.returns-in_err-header-clause-told
returns-in_err-header-clause-told g c = λ bytes told.
    let before = c.loop-found.invariant.3 bytes told in
    agrees-exit _ c.from_residual.result _ c.in_err-header.field-0.0 c.from_residual.ensures.1
    (judged-same _ before.4
    (walk-no_header before.0 c.loop-found.found c.loop-found.place before.1 (some_left before.0 c.loop-found.place before.3 c.loop-found.invariant.0) _
    (c.in_err-header.ensures.told before.1 before.2)))

pub returns-in_err-found-clause-told : goal.returns-in_err-found-clause-told
returns-in_err-found-clause-told g c = λ bytes told.
    let before = c.loop-found.invariant.3 bytes told in
    let header = c.in_ok-header.ensures.told before.1 before.2 in
    agrees-exit _ c.from_residual-in_err-found.result _ c.in_err-found.field-0.0 c.from_residual-in_err-found.ensures.1
    (judged-same _ before.4
    (walk-no_body before.0 c.loop-found.found c.loop-found.place before.1 (some_left before.0 c.loop-found.place before.3 c.loop-found.invariant.0)
    c.in_ok-header.header header.0 _ header.1 (c.in_err-found.ensures.told header.0 header.2)))

pub returns-then-header-clause-told : goal.returns-then-header-clause-told
returns-then-header-clause-told g c = λ bytes told.
    let before = c.loop-found.invariant.3 bytes told in
    let header = c.in_ok-header.ensures.told before.1 before.2 in
    let body = c.in_ok-found.ensures.told header.0 header.2 in (
      body.0,
      before.4
          ∙ walk-last before.0 c.loop-found.found c.loop-found.place before.1 (some_left before.0 c.loop-found.place before.3 c.loop-found.invariant.0)
          c.in_ok-header.header header.0 body.0 _ header.1 body.1 c.if-header.true,
      body.2,
    )

pub loop-found-preserved : goal.loop-found-preserved
loop-found-preserved g c = (
  next_place c.loop-found.place c.in_ok-header.header.length c.in_ok-header.ensures.within,
  omega arith,
  omega (arith, c.in_ok-header.ensures.took, c.in_ok-found.ensures.took),
  λ bytes told.
      let before = c.loop-found.invariant.3 bytes told in
      let header = c.in_ok-header.ensures.told before.1 before.2 in
      let body = c.in_ok-found.ensures.told header.0 header.2 in (
        before.0 - 1,
        body.0,
        body.2,
        fewer_left before.0 c.loop-found.place c.in_ok-header.header.length before.3 c.loop-found.invariant.0,
        before.4
            ∙ walk-more before.0 c.loop-found.found c.loop-found.place before.1 (some_left before.0 c.loop-found.place before.3 c.loop-found.invariant.0)
            c.in_ok-header.header header.0 body.0 _ header.1 body.1 c.if-header.false
            ∙ same_place (before.0 - 1) c.in_ok-found.found c.loop-found.place c.in_ok-header.header.length body.0,
      ),
  omega arith,
)
