-- While both places are low, the note is near.
use Rattle.std.proofs.Common.{◌≡◌, ◌-◌, ◌≤◌, ◌<◌, true, Some, sym, ap, subst, ◌∙◌}
use Rattle.cds_commands.specs.Places.{reach}
use Rattle.cds_replay.specs.Sending.{named_before}
use Rattle.cds_replay.specs.Session.{Playing, is_near_in, is_near_to, near_in}
use Rattle.cds_replay.proofs.NotePlaces.{near-enough}
use Rattle.cds_replay.proofs.session.Session.is_near.Goals as goal

pub returns-then-from-far : goal.returns-then-from-far
returns-then-from-far c =
    let was = c.self.inside in
    let near : near_in was.replica.inbox c.args.sid.0 ≡ Some c.in-Some.near = sym c.near_of.ensures ∙ c.in-Some.is in
    let low : c.in-Some.near < was.wrap - reach was.wrap = subst (λ n. c.in-Some.near < n) c.far_from-far.ensures c.if-near-far.true in
    let most : c.args.number ≤ was.wrap - reach was.wrap =
    subst (λ n. n ≤ was.wrap - reach was.wrap) c.from.ensures (subst (λ n. c.from.result ≤ n) c.far_from-far.ensures c.if-from-far.true) in
    let is = near-enough c.args.sid.0 c.args.number c.in-Some.near (was.wrap - reach was.wrap) was.sent c.requires.some low most in
    subst (λ (p : Playing). true ≡ is_near_in p c.args.sid.0 c.args.number) c.self.view_is
    (sym (ap (is_near_to was.wrap (named_before c.args.sid.0 c.args.number was.sent)) near ∙ is))
