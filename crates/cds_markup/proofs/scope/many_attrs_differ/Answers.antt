use Rattle.std.proofs.Common.{◌∙◌, refl}
use Rattle.cds_markup.specs.NamesSeen.{has_seen}
use Rattle.cds_markup.proofs.SeenNames.{attr_hash, attr_prefix, attr_local, attrs_begin, new_of, sees_of, seen_first, seen_again}
use Rattle.cds_markup.proofs.scope.many_attrs_differ.Goals as goal

pub loop-attr-init : goal.loop-attr-init
loop-attr-init c = attrs_begin c.new-seen.result c.args.attrs.now c.new-seen.ensures.empty

pub loop-attr-preserved : goal.loop-attr-preserved
loop-attr-preserved c =
    let a = c.attr-item.result in
    let old = c.loop-attr.seen in
    let now = c.see.new.seen in
    seen_first attr_hash attr_prefix attr_local c.args.attrs.now c.loop-attr.attr-index a (has_seen old) (has_seen now)
    c.in_ok-new.new c.loop-attr-test.true c.attr-item.is
    (new_of old 0 0 c.as_str.result.now (attr_prefix a) (attr_local a) c.in_ok-new.new refl c.as_str.ensures c.in_ok-new.ensures.new)
    c.if-not-new.false
    (sees_of old now 0 0 c.as_str.result.now (attr_prefix a) (attr_local a) refl c.as_str.ensures c.in_ok-new.ensures.seen)
    ∙ c.loop-attr.invariant

pub returns-then-not-new : goal.returns-then-not-new
returns-then-not-new c =
    let a = c.attr-item.result in
    let old = c.loop-attr.seen in
    seen_again attr_hash attr_prefix attr_local c.args.attrs.now c.loop-attr.attr-index a (has_seen old)
    c.in_ok-new.new c.loop-attr-test.true c.attr-item.is
    (new_of old 0 0 c.as_str.result.now (attr_prefix a) (attr_local a) c.in_ok-new.new refl c.as_str.ensures c.in_ok-new.ensures.new)
    c.if-not-new.true
    ∙ c.loop-attr.invariant
