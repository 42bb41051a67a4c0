use Rattle.std.proofs.Common.{◌≡◌, ◌<◌, ◌+◌, ◌-◌, length, drop, sym, ap, subst, arith}
use Rattle.cds_markup.specs.Prefixes.{Indexes, PutsPlace}
use Rattle.cds_markup.specs.declared.tag.Declaration.{Declaration}
use Rattle.cds_markup.proofs.PrefixPlaces.{one_indexed}
use Rattle.cds_markup.proofs.prefixes.index_of.Goals as goal

pub loop-at-preserved : goal.loop-at-preserved
loop-at-preserved c =
    let listed = c.args.listed.now in
    let at = c.loop-at.at - 1 in
    let less : at < length listed = omega (arith, c.loop-at.invariant.within, c.loop-at-test.true) in
    let next : c.loop-at.at ≡ at + 1 = omega (arith, c.loop-at-test.true) in
    let others : Indexes listed (drop (at + 1) listed) c.loop-at.index = subst (λ n. Indexes listed (drop n listed) c.loop-at.index) next c.loop-at.invariant.indexed in
    let puts : PutsPlace c.loop-at.index c.put_place.new.index c.index-listed-at.result.prefix at =
    subst (λ prefix. PutsPlace c.loop-at.index c.put_place.new.index prefix at) (sym (ap (λ (d : Declaration). d.prefix) c.index-listed-at.is)) c.in_ok-put_place.ensures in
    record {
      within = omega (arith, less);
      indexed = one_indexed listed at c.index-listed-at.result c.loop-at.index c.put_place.new.index less c.index-listed-at.is others puts;
    }
