use Rattle.std.proofs.Common.{◌≡◌, ℕ, List, true, length, subst, rules}
use Rattle.cds_generate.specs.Generated.{all_reads, ending_text}
use Rattle.cds_generate.specs.Writing.{Took}
use Rattle.cds_generate.proofs.writing.write_closing.Goals as goal

pub returns : goal.returns
returns g c =
    let reads : c.all_reads-reads.result ≡ all_reads (length c.args.history.now.library.tracks) = search rules in
    subst (λ (t : List ℕ). Took c.write_ending.result (g.K.Sink.told c.args.sink.now) t (g.K.Sink.told c.write_ending.new.sink))
    (λ i. ending_text (c.late.ensures i) (reads i) true) c.write_ending.ensures
