use Rattle.std.proofs.Common.{◌≡◌, ◌<◌, min, max, sym, ap, ◌∙◌, length, length-drop, drop, arith}
use Rattle.std.specs.Option.{option_map}
use Rattle.std.proofs.lemmas.Bool.Decides.{nat_tests}
use Rattle.cds_criteria.specs.Course.{reading_of}
use Rattle.cds_criteria.specs.Taken.{taken_of}
use Rattle.cds_criteria.proofs.TextRead.{step_refused, step_further}
use Rattle.cds_criteria.proofs.criteria.read_text.Goals as goal

pub returns-in-None : goal.returns-in-None
returns-in-None c =
    let there : 0 < length c.loop-rest.rest.now = grind (arith, nat_tests) in
    c.loop-rest.invariant.read
    ∙ step_refused (length c.args.text.now) (reading_of c.loop-rest.course) c.loop-rest.rest.now there (sym (ap (option_map taken_of) c.in-None.is) ∙ c.in_ok-take.ensures)

pub loop-rest-preserved : goal.loop-rest-preserved
loop-rest-preserved c =
    let there : 0 < length c.loop-rest.rest.now = grind (arith, nat_tests) in
    let size : c.min.result ≡ min (max c.in-Some.taken.size 1) (length c.loop-rest.rest.now) = grind (arith, nat_tests) in
    let left = c.split_at.ensures.back ∙ ap (λ n. drop n c.loop-rest.rest.now) size in
    let short = ap length c.split_at.ensures.back ∙ length-drop c.min.result c.loop-rest.rest.now in
    record {
      read = c.loop-rest.invariant.read
          ∙ step_further (length c.args.text.now) (reading_of c.loop-rest.course) (reading_of c.in-Some.taken.course) c.in-Some.taken.size c.loop-rest.rest.now c.split_at.result.1.now there
          c.loop-rest.invariant.within (sym (ap (option_map taken_of) c.in-Some.is) ∙ c.in_ok-take.ensures) left;
      within = omega (arith, c.loop-rest.invariant.within, short);
    }
