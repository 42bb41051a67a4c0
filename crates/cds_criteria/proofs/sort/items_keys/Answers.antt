use Rattle.std.proofs.Common.{◌≡◌, ◌<◌, ◌-◌, Ok, sym, ap, ◌∙◌, length, length-drop, arith}
use Rattle.std.proofs.lemmas.Bool.Decides.{nat_tests}
use Rattle.cds_criteria.proofs.SortItems.{left_read, refused_item, last_key, further_key}
use Rattle.cds_criteria.proofs.sort.items_keys.Goals as goal

pub returns-in-None : goal.returns-in-None
returns-in-None c =
    c.loop-keys.invariant.read
    ∙ refused_item c.loop-keys.keys (length c.args.text.now - length c.loop-keys.rest.now) c.item_length.result c.loop-keys.rest.now c.split_at.result.0.now c.item_length.ensures.exact c.split_at.ensures.front
    (sym c.key_of.ensures ∙ c.in-None.is)

pub returns-then-is_empty : goal.returns-then-is_empty
returns-then-is_empty c =
    let none : length c.split_at.result.1.now ≡ 0 = grind (arith, nat_tests) in
    c.loop-keys.invariant.read
    ∙ last_key c.loop-keys.keys c.in-Some.key (length c.args.text.now) c.item_length.result c.loop-keys.rest.now c.split_at.result.0.now c.split_at.result.1.now c.item_length.ensures.exact c.split_at.ensures.front
    c.split_at.ensures.back (sym c.key_of.ensures ∙ c.in-Some.is) none
    ∙ sym (ap (λ keys. Ok keys) c.in_ok-push-in-Some.ensures.ok)

pub loop-keys-preserved : goal.loop-keys-preserved
loop-keys-preserved c =
    let there : 0 < length c.split_at.result.1.now = grind (arith, nat_tests) in
    let long = ap length c.split_at.ensures.back ∙ length-drop c.item_length.result c.loop-keys.rest.now in
    let short = ap length c.split_at-in-loop-keys.ensures.back ∙ length-drop 1 c.split_at.result.1.now in
    record {
      read = c.loop-keys.invariant.read
          ∙ further_key c.loop-keys.keys c.in-Some.key (length c.args.text.now) c.item_length.result c.loop-keys.rest.now c.split_at.result.0.now c.split_at.result.1.now c.split_at-in-loop-keys.result.1.now
          c.loop-keys.invariant.within c.item_length.ensures.exact c.split_at.ensures.front c.split_at.ensures.back (sym c.key_of.ensures ∙ c.in-Some.is) there c.split_at-in-loop-keys.ensures.back
          ∙ ap (λ keys. left_read keys (length c.args.text.now) c.split_at-in-loop-keys.result.1.now) (sym c.in_ok-push-in-Some.ensures.ok);
      within = omega (arith, c.loop-keys.invariant.within, long, short);
    }
