-- The piece is judged behind what came before it.
use Rattle.std.proofs.Common.{◌≡◌, ◌&&◌, ap, sym, subst, ◌∙◌}
use Rattle.std.specs.List.{list_all}
use Rattle.cds_base.specs.Characters.{is_blank}
use Rattle.cds_lastchange.specs.Feeding.{Came, came, Fed}
use Rattle.cds_lastchange.proofs.Feeding.{feeds}
use Rattle.cds_lastchange.proofs.reader.StateReader.feed.Goals as goal
use Rattle.cds_lastchange.proofs.reader.StateReader.feed.Goals.{then-self, else-self}

pub returns-clause-fed : goal.returns-clause-fed
returns-clause-fed c =
    let blank : c.if-self.self ≡ (c.self.inside.blank && list_all is_blank c.args.piece.now) = elim c.if-self.branch [
      | then-self w ↦ w.self-is ∙ w.is_blank-self-inside.ensures ∙ ap (λ t. t && list_all is_blank c.args.piece.now) (sym w.if-self.true)
      | else-self w ↦ w.self-is ∙ w.if-self.false ∙ ap (λ t. t && list_all is_blank c.args.piece.now) (sym w.if-self.false)
    ] in
    subst (λ (before : Came). Fed before c.args.piece.now c.refused.result (came c.feed-read.new.self c.feed-read.new.to c.if-self.self)) c.self.view_is
    (feeds (came c.self.inside.parts c.self.inside.judging c.self.inside.blank) c.args.piece.now c.feed-read.result c.feed-read.new.to c.feed-read.new.self c.if-self.self c.misplaced.result c.refused.result blank c.misplaced.ensures c.refused.ensures c.feed-read.ensures.takes)
