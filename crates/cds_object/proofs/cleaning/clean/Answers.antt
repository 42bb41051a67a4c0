-- Each character is the next of the text; the first that does not fit ends it.
use Rattle.std.proofs.Common.{◌≡◌, ◌<◌, ◌≤◌, ◌+◌, ◌++◌, encode_utf8, length, drop, string_bytes, sym, ap, ◌∙◌, arith, length-append}
use Rattle.std.specs.Str.{chars}
use Rattle.std.specs.Char.{len_utf8}
use Rattle.std.proofs.lemmas.Iterator.{YieldsList-from_chars}
use Rattle.std.proofs.lemmas.Iterator.Consumers.{YieldsList-turn, YieldsList-end}
use Rattle.std.proofs.lemmas.List.{length_push}
use Rattle.std.proofs.lemmas.Str.{length-encode}
use Rattle.cds_object.specs.Clean.{clean_character}
use Rattle.cds_object.proofs.Cleans.{left, nothing_yet, nothing_left, one_more, no_more}
use Rattle.cds_object.proofs.cleaning.clean.Goals as goal

pub loop-c-init : goal.loop-c-init
loop-c-init c = (omega (arith, ap length c.new-kept.ensures.bytes), nothing_yet (string_bytes c.new-kept.result) c.args.text.now c.new-kept.ensures.bytes)

pub returns-then-len-len_utf8-gt-LONGEST : goal.returns-then-len-len_utf8-gt-LONGEST
returns-then-len-len_utf8-gt-LONGEST c =
    let t = YieldsList-turn (YieldsList-from_chars c.args.text.now c.utf8.text cc) c.loop-c.yielded _ c.loop-c.yielded_by _ _ c.in-Some.c c.in-Some.is c.next.ensures.steps in
    let wide : c.len_utf8.result ≡ len_utf8 (clean_character c.in-Some.c) = c.len_utf8.ensures.value ∙ ap len_utf8 c.clean_character-c.ensures in
    let long : 255 < length (string_bytes c.loop-c.kept) + len_utf8 (clean_character c.in-Some.c) =
    omega (arith, wide, c.len.ensures, c.if-len-len_utf8-gt-LONGEST.true) in
    sym (no_more (string_bytes c.loop-c.kept) (chars c.args.text.now) (length c.loop-c.yielded) c.in-Some.c t long) ∙ c.loop-c.invariant.1

pub loop-c-preserved : goal.loop-c-preserved
loop-c-preserved c =
    let t = YieldsList-turn (YieldsList-from_chars c.args.text.now c.utf8.text cc) c.loop-c.yielded _ c.loop-c.yielded_by _ _ c.in-Some.c c.in-Some.is c.next.ensures.steps in
    let n = length_push c.loop-c.yielded c.in-Some.c in
    let kept = string_bytes c.loop-c.kept in
    let more = string_bytes c.push.new.self in
    let d = clean_character c.in-Some.c in
    let wide : c.len_utf8.result ≡ len_utf8 d = c.len_utf8.ensures.value ∙ ap len_utf8 c.clean_character-c.ensures in
    let short : length kept + len_utf8 d ≤ 255 = omega (arith, wide, c.len.ensures, c.if-len-len_utf8-gt-LONGEST.false) in
    let grown : more ≡ kept ++ encode_utf8 d = (c.in_ok-push.ensures).bytes ∙ ap (λ x. kept ++ encode_utf8 x) c.clean_character-c.ensures in (
      omega (arith, short, ap length grown, length-append kept (encode_utf8 d), length-encode d),
      ap (λ k. left more (drop k (chars c.args.text.now))) n
          ∙ one_more kept more (chars c.args.text.now) (length c.loop-c.yielded) c.in-Some.c t short grown ∙ c.loop-c.invariant.1,
    )

pub returns : goal.returns
returns c =
    let t = YieldsList-end (YieldsList-from_chars c.args.text.now c.utf8.text cc) c.loop-c.yielded _ c.loop-c.yielded_by _ _ c.in-None.is c.next.ensures.steps in
    sym (nothing_left (string_bytes c.loop-c.kept) (chars c.args.text.now) (length c.loop-c.yielded) (omega (arith, t.1))) ∙ c.loop-c.invariant.1
