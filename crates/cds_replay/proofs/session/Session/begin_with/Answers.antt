-- The server and the replica begin again.
use Rattle.std.proofs.Common.{◌≤◌, [], ◌∷◌, sym, subst, arith}
use Rattle.cds_script.specs.declared.turn.ScriptTurn.TheVariants.{Wrap}
use Rattle.cds_server.specs.Serving.{StandsFor as ServerStandsFor}
use Rattle.cds_replay.specs.Session.{Playing, IsAfter, quiet, script_start, first_in}
use Rattle.cds_replay.specs.declared.last.Last.TheVariants.{Other}
use Rattle.cds_replay.proofs.Turns.{with-after}
use Rattle.cds_replay.proofs.session.Session.begin_with.Goals as goal

pub returns : goal.returns
returns c = record {
  after = λ steps after.
      let was : Playing = record { server = c.self.inside.server; replica = c.self.inside.replica; sent = c.self.inside.sent; found = c.self.inside.found; clock = c.self.inside.clock; reply = c.self.inside.reply; last = c.self.inside.last; wrap = c.self.inside.wrap } in
      let low : c.args.wrap ≤ 4294967295 = omega arith in
      let serves : ServerStandsFor c.in_ok-server.server (script_start c.args.wrap (first_in was.last)) [] =
      subst (λ n. ServerStandsFor c.in_ok-server.server (script_start c.args.wrap n) []) c.first_in.ensures c.in_ok-server.ensures in
      subst (λ s. IsAfter (record was { server = s; replica = c.replace-2.new.dest; last = Other; wrap = c.args.wrap }) (quiet (Wrap c.args.wrap) ∷ steps)) (sym c.replace.ensures.after)
      (subst (λ r. IsAfter (record was { server = c.in_ok-server.server; replica = r; last = Other; wrap = c.args.wrap }) (quiet (Wrap c.args.wrap) ∷ steps)) (sym c.replace-2.ensures.after)
      (with-after was c.in_ok-server.server c.with_wrap-2.result c.args.wrap steps (subst (λ p. IsAfter p steps) (sym c.self.view_is) after)
      (c.requires.stands steps after) low serves c.with_wrap-2.ensures));
}
