use Rattle.std.proofs.Common.{sym, ap, ◌∙◌}
use Rattle.cds_script.specs.Word.{decoded}
use Rattle.cds_script.proofs.Words.{joined, joined-one, joined-nothing, joined-all, nothing-left}
use Rattle.cds_script.proofs.word.decode.Goals as goal

pub loop-rest-init : goal.loop-rest-init
loop-rest-init c = sym (ap (λ w. joined w (decoded c.args.part.now)) c.new-word.ensures ∙ joined-nothing (decoded c.args.part.now))

pub returns-in-None : goal.returns-in-None
returns-in-None c = sym (c.loop-rest.invariant ∙ ap (joined c.loop-rest.word) c.in-None.ensures.meaning)

pub loop-rest-smaller : goal.loop-rest-smaller
loop-rest-smaller c = c.in-Some.ensures.shorter

pub loop-rest-preserved : goal.loop-rest-preserved
loop-rest-preserved c =
    c.loop-rest.invariant ∙ ap (joined c.loop-rest.word) c.in-Some.ensures.meaning ∙ joined-one c.loop-rest.word c.in-Some.byte (decoded c.in-Some.after.now)
    ∙ ap (λ w. joined w (decoded c.in-Some.after.now)) (sym c.in_ok-push-in-Some.ensures.ok)

pub returns : goal.returns
returns c =
    sym (c.loop-rest.invariant ∙ ap (λ rest. joined c.loop-rest.word (decoded rest)) (nothing-left c.loop-rest.rest.now (sym c.is_empty.ensures ∙ c.loop-rest-test.false))
    ∙ joined-all c.loop-rest.word)
