-- A message has one reply.
use Rattle.std.proofs.Common.{◌≡◌, List, ℕ, sym, ◌∙◌}
use Rattle.cds_http.specs.declared.message.Message.{Message}
use Rattle.cds_commands.specs.Commands.{Command, Start}
use Rattle.cds_control.specs.Published.{Published}
use Rattle.cds_control.specs.Laws.{one_reply as one_control_reply}
use Rattle.cds_server.specs.Route.{Way, Answers, Controls, Route, Subscribes, Goes, route}
use Rattle.cds_server.specs.Published.{published_by}
use Rattle.cds_server.specs.Replies.{IsReplyBy, IsReplyOf}
use Rattle.cds_server.specs.Laws.{one_reply}

one-by : one_control_reply → (published : Published) (m : Message) (way : Way) (one other : List ℕ) → IsReplyBy published m way one
    → IsReplyBy published m way other → one ≡ other
one-by control published m (Answers status) one other is also = is ∙ sym also
one-by control published m (Controls host) one other is also = control published host m one other is also

one-of : one_control_reply → (start : Start) (commands : List Command) (now : ℕ) (m : Message) (r : Route) (one other : List ℕ)
    → IsReplyOf start commands now m r one → IsReplyOf start commands now m r other → one ≡ other
one-of control start commands now m Subscribes one other is also = is ∙ sym also
one-of control start commands now m (Goes way) one other is also = one-by control (published_by start commands) m way one other is also

pub replies-are-one : one_control_reply → one_reply
replies-are-one control start commands now m one other = one-of control start commands now m (route m) one other
