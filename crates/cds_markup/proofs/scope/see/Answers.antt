-- The set is asked in its own order, which finds the same names.
use Rattle.std.proofs.Common.{◌&&◌, ◌||◌, ap, not, ◌∙◌, bytes_eq}
use Rattle.cds_markup.specs.NamesSeen.{SeenName, is_hashed, is_among}
use Rattle.cds_markup.proofs.SeenNames.{is_found, is_added}
use Rattle.cds_markup.proofs.scope.see.Goals as goal

pub returns : goal.returns
returns c =
    let names = c.args.seen.now.keys in
    let hash = c.args.hash in
    let space = c.args.space.now in
    let name : SeenName = (c.as_str.result, (hash, c.args.space)) in
    record {
      new = c.in_ok-new.ensures.added ∙ ap not (is_found names name)
          ∙ ap (λ l. not (is_among names hash space l)) c.as_str.ensures;
      seen = λ h s l. ap (λ x. is_among x h s l) c.in_ok-new.ensures.keys ∙ is_added names name h s l
          ∙ ap (λ t. (is_hashed hash space h s && bytes_eq t l) || is_among names h s l) c.as_str.ensures;
    }
