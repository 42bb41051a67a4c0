use Rattle.std.proofs.Common.{◌∙◌, ◌++◌, ◌∷◌, []}
use Rattle.cds_store.proofs.resolving.resolve_next.Goals as goal

pub returns : goal.returns
returns c =
    let comes = c.in_ok-own.ensures in
    record {
      number = comes.number;
      drawn = comes.drawn;
      resolved = c.in_ok-push.ensures.items
          ∙ (λ i. comes.resolved i ++ record { change = c.args.marked.change; own = comes.names.0 i; parent = comes.names.1 i } ∷ []);
      told = comes.told;
      goes = comes.goes;
      come = comes.come;
      learns = comes.learns;
    }
