-- The request is answered, and its reply has a status.
use Rattle.std.proofs.Common.{ℕ, List, IfOk, sym, subst}
use Rattle.cds_server.specs.Serving.{StandsFor}
use Rattle.cds_replay.specs.Events.{HasSomeStatus, IsAnswered, IsAsked, RepliesTo}
use Rattle.cds_replay.specs.Session.{Playing}
use Rattle.cds_replay.proofs.EventAnswers.{asked-by}
use Rattle.cds_replay.proofs.session.Session.asked.Goals as goal

pub status_of-requires : goal.status_of-requires
status_of-requires c =
    let r : RepliesTo c.self.inside.server c.self.inside.clock c.args.request.now =
    subst (λ (p : Playing). RepliesTo p.server p.clock c.args.request.now) (sym c.self.view_is) c.requires.replies in
    subst HasSomeStatus (sym c.as_slice.ensures.value)
    (r.replies c.answered.new.reply.items c.in_ok-_note._note c.answered.new.server
    (subst (λ (o : List ℕ). IsAnswered r.start r.commands c.self.inside.clock c.args.request.now o c.answered.new.reply.items c.in_ok-_note._note c.answered.new.server) c.new-reply.ensures.items
    (c.in_ok-_note.ensures r.start r.commands r.stands)))

pub returns-clause-answered : goal.returns-clause-answered
returns-clause-answered c = λ start commands stands.
    let old : StandsFor c.self.inside.server start commands = subst (λ (p : Playing). StandsFor p.server start commands) (sym c.self.view_is) stands in
    subst (λ (p : Playing). IfOk c.status_of.result (λ status. IsAsked start commands p.clock c.args.request.now status c.answered.new.server)) c.self.view_is
    (asked-by c.status_of.result start commands c.self.inside.clock c.args.request.now c.new-reply.result.items c.answered.new.reply.items c.as_slice.result.now
    c.in_ok-_note._note c.answered.new.server c.new-reply.ensures.items c.as_slice.ensures.value (c.in_ok-_note.ensures start commands old) c.status_of.ensures)
