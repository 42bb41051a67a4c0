-- What is made of an action is the answer to it.
use Rattle.std.proofs.Common.{◌≡◌, ℕ, List, None, sym, ap, ◌∙◌, subst}
use Rattle.cds_soap.specs.Written.{written_answer}
use Rattle.cds_soap.specs.declared.action.Asked.{Asked}
use Rattle.cds_soap.specs.declared.answer.Answer.{Answer}
use Rattle.cds_commands.specs.Commands.{Command, Start}
use Rattle.cds_control.specs.declared.made.Made.{Made as ControlMade}
use Rattle.cds_control.specs.Published.{Published}
use Rattle.cds_control.specs.Answering.{answer_to}
use Rattle.cds_control.specs.Making.{FitsAction, made_to}
use Rattle.cds_control.proofs.Makes.{answer-made, made-fits}
use Rattle.cds_server.specs.declared.asking.Asking.{Asking}
use Rattle.cds_server.specs.declared.asking.Asking.TheVariants as ask
use Rattle.cds_server.specs.declared.made.Made.{Made}
use Rattle.cds_server.specs.declared.made.Made.TheVariants as make
use Rattle.cds_server.specs.Asking.{Fits, reply_in, said}
use Rattle.cds_server.specs.Serving.{Serving, StandsFor, published_of}
use Rattle.cds_server.proofs.Stands.{published-is}

module _ (serving : Serving) (asking : Asking) (host : List ℕ) (asked : Asked) (given : ControlMade) (made : Made) (at : asking ≡ ask.Action host asked)
    (is : given ≡ made_to (published_of serving) asked.action) (same : made ≡ make.Action given) where
  pub action-fits : Fits asking made
  action-fits =
      subst (λ (a : Asking). Fits a made) (sym at) (subst (λ (m : Made). Fits (ask.Action host asked) m) (sym same)
      (subst (FitsAction host asked.action) (sym is) (made-fits (published_of serving) host asked.action)))

  pub action-replied : (start : Start) (commands : List Command) (now : ℕ) → StandsFor serving start commands
      → said asking made ≡ reply_in start commands now asking
  action-replied start commands now s =
      subst (λ (a : Asking). said a made ≡ reply_in start commands now a) (sym at)
      (ap (said (ask.Action host asked)) (same ∙ ap make.Action is)
      ∙ ap (λ (given : Answer). written_answer asked.action asked.version given None) (answer-made (published_of serving) host asked.action)
      ∙ ap (λ (p : Published). written_answer asked.action asked.version (answer_to p host asked.action) None) (published-is serving start commands s))
