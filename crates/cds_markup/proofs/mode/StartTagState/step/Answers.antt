-- Behind a name that may end.
use Rattle.cds_markup.proofs.Terms.{Name, goes_on, is_whole, name_of, tag_named, tagged_step}
use Rattle.cds_markup.proofs.Decoded.{named_ends, named_breaks}
use Rattle.cds_markup.proofs.mode.StartTagState.step.Goals as goal

pub returns-in-Ends : goal.returns-in-Ends
returns-in-Ends c =
    let n = c.in-Name.name_state in
    rw c.in-Name.is
    (named_ends (goes_on n c.args.c) Name (is_whole n.second) (name_of n) c.in-Ends.name (λ p. tagged_step (tag_named p) c.args.c) c.name_step.new.name_state c.tagged.result c.tagged.new.self
    (rw c.in-Ends.is at c.in_ok-name_step-in-Name.ensures) (rw c.new-attrs.ensures at c.tagged.ensures))

pub returns-in-Breaks : goal.returns-in-Breaks
returns-in-Breaks c =
    let n = c.in-Name.name_state in
    rw c.in-Name.is
    (named_breaks (goes_on n c.args.c) Name (is_whole n.second) (name_of n) (tagged_step (tag_named (name_of n)) c.args.c) c.name_step.new.name_state (Name c.name_step.new.name_state)
    (rw c.in-Breaks.is at c.in_ok-name_step-in-Name.ensures))
