-- By whether the clock gave a moment.
use Rattle.std.proofs.Common.{inl, inr, refl}
use Rattle.cds_serve.proofs.means.boot_words.Goals as goal

pub returns-in-Ok-clause-words : goal.returns-in-Ok-clause-words
returns-in-Ok-clause-words g c = record { moment = c.in-Ok.moment; asked = inl c.in-Ok.ensures.gave; words = c.words_of.ensures }

pub returns-in-Err-clause-words : goal.returns-in-Err-clause-words
returns-in-Err-clause-words g c = record {
  moment = 0;
  asked = inr (c.in-Err.ensures.rose, refl, c.in-Err.ensures.others_stay);
  words = c.words_of-in-Err.ensures;
}
