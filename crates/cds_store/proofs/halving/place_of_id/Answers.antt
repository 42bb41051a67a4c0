use Rattle.std.proofs.Common.{◌+◌, ◌-◌, ◌/◌, ℕ, ◌≡◌, ◌<◌, ◌≤◌, ◌∙◌, length, sym, subst, arith}
use Rattle.cds_store.proofs.RowsFound.{found_at, low_moves, high_moves, none_between}
use Rattle.cds_store.proofs.halving.place_of_id.Goals as goal

half_within : (low high most : ℕ) → low < high → high ≤ most → low + (high - low) / 2 < most
half_within low high most h k = omega arith

half_below : (low high : ℕ) → low < high → low + (high - low) / 2 + 1 ≤ high
half_below low high h = omega arith

half_above : (low high : ℕ) → low ≤ low + (high - low) / 2
half_above low high = omega arith

pub returns-then-found-id : goal.returns-then-found-id
returns-then-found-id c =
    found_at c.args.rows.now (c.loop-low.low + (c.loop-low.high - c.loop-low.low) / 2) c.args.id c.index-rows-middle.result c.requires
    (half_within c.loop-low.low c.loop-low.high (length c.args.rows.now) c.loop-low-test.true c.loop-low.invariant.within) c.index-rows-middle.is
    (sym c.id-found.ensures ∙ c.if-found-id.true)

pub loop-low-preserved-then-found-id-2 : goal.loop-low-preserved-then-found-id-2
loop-low-preserved-then-found-id-2 c = record {
  order = half_below c.loop-low.low c.loop-low.high c.loop-low-test.true;
  within = c.loop-low.invariant.within;
  below = low_moves c.args.rows.now (c.loop-low.low + (c.loop-low.high - c.loop-low.low) / 2) c.args.id c.index-rows-middle.result c.requires
      (half_within c.loop-low.low c.loop-low.high (length c.args.rows.now) c.loop-low-test.true c.loop-low.invariant.within) c.index-rows-middle.is
      (subst (λ n. n < c.args.id) c.id-found.ensures c.if-found-id-2.true);
  above = c.loop-low.invariant.above;
}

more_than : (found id here : ℕ) → found ≡ here → (found ≡ id → ⊥) → id ≤ found → id < here
more_than found id here e d h = omega (arith, e, d, h)

pub loop-low-preserved : goal.loop-low-preserved
loop-low-preserved c =
    let within = half_within c.loop-low.low c.loop-low.high (length c.args.rows.now) c.loop-low-test.true c.loop-low.invariant.within in
    record {
      order = half_above c.loop-low.low c.loop-low.high;
      within = omega (arith, within);
      below = c.loop-low.invariant.below;
      above = high_moves c.args.rows.now (c.loop-low.low + (c.loop-low.high - c.loop-low.low) / 2) c.args.id c.index-rows-middle.result c.requires within c.index-rows-middle.is
          (more_than c.id-found.result c.args.id c.index-rows-middle.result.1.id c.id-found.ensures c.if-found-id.false c.if-found-id-2.false);
    }

pub returns : goal.returns
returns c =
    none_between c.args.rows.now c.loop-low.low c.loop-low.high c.args.id c.loop-low-test.false c.loop-low.invariant.order c.loop-low.invariant.below
    c.loop-low.invariant.above
