use Rattle.std.proofs.Common.{◌≡◌, map, drop}
use Rattle.cds_script.specs.Word.{words_said}
use Rattle.cds_script.proofs.Words.{joined}
use Rattle.cds_script.proofs.word.words_in.Given as goal

abbrev pub invariant-loop-part : goal.invariant-loop-part
invariant-loop-part l = words_said (map (λ p. p.now) l.parts) ≡ joined l.words (words_said (map (λ p. p.now) (drop l.part-index l.parts)))
