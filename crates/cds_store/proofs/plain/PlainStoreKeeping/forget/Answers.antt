use Rattle.std.proofs.Common.{◌≤◌, sym, subst}
use Rattle.cds_store.specs.Stands.{Stored, StandsFor}
use Rattle.cds_store.proofs.KeptEvents.{forgets}
use Rattle.cds_store.proofs.plain.PlainStoreKeeping.forget.Goals as goal

pub invariant_of-self : goal.invariant_of-self
invariant_of-self c =
    let before : Stored = record { standing = c.self.inside.catalog; forgotten = c.self.inside.forgotten; kept = c.self.inside.kept.items } in
    let most : c.args.to ≤ before.standing.number = subst (λ (s : Stored). c.args.to ≤ s.standing.number) (sym c.self.view_is) c.requires in
    record {
      history = c.self.invariant.history;
      stands = forgets before c.self.invariant.history c.args.to c.max-self-inside.result c.retain_after.new.kept.items c.self.invariant.stands most
          c.max-self-inside.ensures c.retain_after.ensures;
      few = c.self.invariant.few;
    }

pub returns-clause-stands : goal.returns-clause-stands
returns-clause-stands c = λ history stands.
    let before : Stored = record { standing = c.self.inside.catalog; forgotten = c.self.inside.forgotten; kept = c.self.inside.kept.items } in
    let most : c.args.to ≤ before.standing.number = subst (λ (s : Stored). c.args.to ≤ s.standing.number) (sym c.self.view_is) c.requires in
    let stood : StandsFor before history = subst (λ (s : Stored). StandsFor s history) (sym c.self.view_is) stands in
    forgets before history c.args.to c.max-self-inside.result c.retain_after.new.kept.items stood most c.max-self-inside.ensures c.retain_after.ensures
