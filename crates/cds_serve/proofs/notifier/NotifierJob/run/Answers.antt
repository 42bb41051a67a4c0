-- Each look goes on with what the seat had seen, and the last one sees the stop.
use Rattle.std.proofs.Common.{[], refl, sym, ap, ◌∙◌, subst, rules}
use Rattle.std.specs.Arc.{arc_value}
use Rattle.cds_turn.specs.Turn.{IsSeatOf, seat_told, seats_of}
use Rattle.cds_serve.specs.Jobs.{EndsNotifying}
use Rattle.cds_serve.proofs.Looks.{begun-through, ends-looking, looks-begun, looks-own, looks-ticks}
use Rattle.cds_serve.proofs.notifier.NotifierJob.run.Goals as goal

pub looks-init : goal.looks-init
looks-init g c = record { seat = search rules; passes = refl; begun = ([], refl); own = ([], refl); alone = λ only. ([], refl) }

pub returns-then-saw_stop : goal.returns-then-saw_stop
returns-then-saw_stop g c = (
  subst (λ t. IsSeatOf t c.notify_once-looked.new.seat) c.deref.ensures c.notify_once-looked.ensures.seat,
  subst (λ t. EndsNotifying (seat_told (arc_value c.args.self.turn) c.args.self.seat) (seat_told t c.notify_once-looked.new.seat)) c.deref.ensures
      (ends-looking _ _ _ _ _ _ c.looks.invariant.begun (c.notify_once-looked.ensures.looked.passes ∙ c.looks.invariant.passes)
      (looks-own _ _ _ _ _ _ _ c.notify_once-looked.ensures.looked c.looks.invariant.own)
      (λ only. looks-ticks _ _ _ _ _ _ _ c.notify_once-looked.ensures.looked (c.looks.invariant.passes ∙ only ∙ sym (ap seats_of c.deref.ensures))
      (c.looks.invariant.alone (c.looks.invariant.passes ∙ only))) _ c.notify_once-looked.ensures.looked (c.saw_stop.ensures c.if-saw_stop.true)),
)

pub looks-preserved : goal.looks-preserved
looks-preserved g c = record {
  seat = subst (λ t. IsSeatOf t c.notify_once-looked.new.seat) c.deref.ensures c.notify_once-looked.ensures.seat;
  passes = c.notify_once-looked.ensures.looked.passes ∙ c.looks.invariant.passes;
  begun = begun-through _ _ _ (looks-begun _ _ _ _ _ _ c.notify_once-looked.ensures.looked) c.looks.invariant.begun;
  own = looks-own _ _ _ _ _ _ _ c.notify_once-looked.ensures.looked c.looks.invariant.own;
  alone = λ only.
      let before = sym c.notify_once-looked.ensures.looked.passes ∙ only in
      looks-ticks _ _ _ _ _ _ _ c.notify_once-looked.ensures.looked (before ∙ sym (ap seats_of c.deref.ensures)) (c.looks.invariant.alone before);
}
