use Rattle.std.proofs.Common.{sym, subst}
use Rattle.cds_markup.proofs.Terms.{name_bytes, StandsUpTo}
use Rattle.cds_markup.proofs.Decoded.{stands_more}
use Rattle.cds_markup.proofs.end_tag.place_behind.Goals as goal

pub loop-first-preserved : goal.loop-first-preserved
loop-first-preserved c = λ place h.
    c.loop-first.invariant place
    (subst (λ left. StandsUpTo (name_bytes c.args.name.now) c.loop-first.at left place) (sym c.in-Some.ensures.cases.0)
    (stands_more (name_bytes c.args.name.now) c.in-Some.rest.now c.loop-first.at c.in-Some.first.now c.in-Some-byte_of_name.byte place
    (sym c.in-Some-byte_of_name.ensures.value) c.if-byte-first.false h))
