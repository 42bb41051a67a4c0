use Rattle.std.proofs.Common.{◌∙◌, sym, subst}
use Rattle.cds_server.specs.Asking.{IsAsking}
use Rattle.cds_server.proofs.Stands.{other-command, other-note}
use Rattle.cds_server.proofs.Handled.{handled-none, handled-note, handled-replied, handled-stands, kept-note, kept-stands, unasked}
use Rattle.cds_server.proofs.server.Server.handle.Goals as goal

pub returns-in_ok-settled-in-Subscription-clause-replied : goal.returns-in_ok-settled-in-Subscription-clause-replied
returns-in_ok-settled-in-Subscription-clause-replied c start commands stands =
    let asked = subst (IsAsking c.args.message.now) c.in-Subscription.is c.in_ok-asking.ensures in
    handled-replied c.args.message.now _ start commands c.args.now asked _ _ (c.in_ok-settled-in-Subscription.ensures.replied start commands stands)

pub returns-in_ok-settled-in-Subscription-clause-stands : goal.returns-in_ok-settled-in-Subscription-clause-stands
returns-in_ok-settled-in-Subscription-clause-stands c start commands stands =
    let asked = subst (IsAsking c.args.message.now) c.in-Subscription.is c.in_ok-asking.ensures in
    handled-stands c.args.message.now _ start commands c.args.now asked _ (c.in_ok-settled-in-Subscription.ensures.stands start commands stands)

pub returns-in_ok-settled-in-Subscription-clause-note : goal.returns-in_ok-settled-in-Subscription-clause-note
returns-in_ok-settled-in-Subscription-clause-note c start commands stands =
    let asked = subst (IsAsking c.args.message.now) c.in-Subscription.is c.in_ok-asking.ensures in
    handled-note c.args.message.now _ start commands c.args.now asked _ (c.in_ok-settled-in-Subscription.ensures.note start commands stands)

pub returns-in_ok-settled-in-Subscription-clause-unaccepted : goal.returns-in_ok-settled-in-Subscription-clause-unaccepted
returns-in_ok-settled-in-Subscription-clause-unaccepted c start commands stands none =
    let asked = subst (IsAsking c.args.message.now) c.in-Subscription.is c.in_ok-asking.ensures in
    c.in_ok-settled-in-Subscription.ensures.unaccepted start commands stands (handled-none c.args.message.now _ start commands c.args.now asked none)

pub returns-in_ok-settled-in-Subscription-clause-same : goal.returns-in_ok-settled-in-Subscription-clause-same
returns-in_ok-settled-in-Subscription-clause-same c away =
    let asked = subst (IsAsking c.args.message.now) c.in-Subscription.is c.in_ok-asking.ensures in
    let kept = c.serves.ensures in
    c.in_ok-settled-in-Subscription.ensures.unaccepted kept.start kept.commands kept.stands
    (handled-none c.args.message.now _ kept.start kept.commands c.args.now asked (other-command kept.start kept.commands c.args.now c.args.message.now away))

pub returns-in_ok-settled-in-Subscription-clause-none : goal.returns-in_ok-settled-in-Subscription-clause-none
returns-in_ok-settled-in-Subscription-clause-none c away =
    let asked = subst (IsAsking c.args.message.now) c.in-Subscription.is c.in_ok-asking.ensures in
    let kept = c.serves.ensures in
    c.in_ok-settled-in-Subscription.ensures.note kept.start kept.commands kept.stands
    ∙ sym (asked.note kept.start kept.commands c.args.now) ∙ other-note kept.start kept.commands c.args.now c.args.message.now away

pub returns-in_ok-append_reply-in_default-clause-stands : goal.returns-in_ok-append_reply-in_default-clause-stands
returns-in_ok-append_reply-in_default-clause-stands c start commands stands =
    kept-stands c.args.message.now c.in_ok-asking.asking start commands c.args.now c.in_ok-asking.ensures c.args.self.now _
    (unasked c.in_ok-asking.asking c.in_default.not-Subscription) c.append_reply.ensures.stays stands

pub returns-in_ok-append_reply-in_default-clause-note : goal.returns-in_ok-append_reply-in_default-clause-note
returns-in_ok-append_reply-in_default-clause-note c start commands stands =
    kept-note c.args.message.now c.in_ok-asking.asking start commands c.args.now c.in_ok-asking.ensures
    (unasked c.in_ok-asking.asking c.in_default.not-Subscription)
