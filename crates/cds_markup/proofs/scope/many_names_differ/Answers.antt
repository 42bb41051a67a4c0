use Rattle.std.proofs.Common.{◌∙◌}
use Rattle.cds_markup.specs.NamesSeen.{has_seen}
use Rattle.cds_markup.proofs.SeenNames.{name_hash, name_space, name_local, names_begin, new_of, sees_of, seen_first, seen_again}
use Rattle.cds_markup.proofs.scope.many_names_differ.Goals as goal

pub loop-attr-init : goal.loop-attr-init
loop-attr-init c = names_begin c.new-seen.result c.args.attrs.now c.new-seen.ensures.empty

pub loop-attr-preserved : goal.loop-attr-preserved
loop-attr-preserved c =
    let a = c.attr-item.result in
    let old = c.loop-attr.seen in
    let now = c.see.new.seen in
    seen_first name_hash name_space name_local c.args.attrs.now c.loop-attr.attr-index a (has_seen old) (has_seen now)
    c.in_ok-new.new c.loop-attr-test.true c.attr-item.is
    (new_of old c.hash.result (name_hash a) c.as_str.result.now (name_space a) (name_local a) c.in_ok-new.new c.hash.ensures c.as_str.ensures c.in_ok-new.ensures.new)
    c.if-not-new.false
    (sees_of old now c.hash.result (name_hash a) c.as_str.result.now (name_space a) (name_local a) c.hash.ensures c.as_str.ensures c.in_ok-new.ensures.seen)
    ∙ c.loop-attr.invariant

pub returns-then-not-new : goal.returns-then-not-new
returns-then-not-new c =
    let a = c.attr-item.result in
    let old = c.loop-attr.seen in
    seen_again name_hash name_space name_local c.args.attrs.now c.loop-attr.attr-index a (has_seen old)
    c.in_ok-new.new c.loop-attr-test.true c.attr-item.is
    (new_of old c.hash.result (name_hash a) c.as_str.result.now (name_space a) (name_local a) c.in_ok-new.new c.hash.ensures c.as_str.ensures c.in_ok-new.ensures.new)
    c.if-not-new.true
    ∙ c.loop-attr.invariant
