-- Lines that are each followed by an LF, and a last one without it.
use Rattle.std.proofs.Common.{◌≡◌, ℕ, List, [], ◌∷◌, ◌++◌, Bool, true, false, not, nat_eq, refl, ap, ◌∙◌, append_assoc}
use Rattle.std.proofs.lemmas.Bool.{and_from, not_from_false, eqb-true}
use Rattle.cds_script.specs.Lines.{lines_of, ended_lines, is_unbroken}
use Rattle.cds_script.specs.LineLaws.{with_feeds, AreUnbroken, IsLines, scripts_are_lines, ended_lines_are_read, last_lines_are_read}
use Rattle.cds_script.proofs.Lines.{lines-append, ended-append, ended-none, lines-last}

-- a byte before other bytes is on their first line
grow : (b : ℕ) (bytes : List ℕ) (lines : List (List ℕ)) (last : List ℕ) → not (nat_eq b 10) ≡ true → AreUnbroken lines → is_unbroken last ≡ true →
    bytes ≡ with_feeds lines ++ last → IsLines (b ∷ bytes)
grow b bytes [] last other all whole is = record {
  lines = [];
  last = b ∷ last;
  unbroken = tt;
  whole = and_from _ _ other whole;
  is = ap (λ more. b ∷ more) is;
}
grow b bytes (line ∷ lines) last other all whole is = record {
  lines = (b ∷ line) ∷ lines;
  last = last;
  unbroken = (and_from _ _ other all.0, all.1);
  whole = whole;
  is = ap (λ more. b ∷ more) is;
}

pub are-lines : scripts_are_lines
are-lines [] = record { lines = []; last = []; unbroken = tt; whole = refl; is = refl }
are-lines (b ∷ bytes) = by (nat_eq b 10) refl (are-lines bytes)
  where
    by : (test : Bool) → nat_eq b 10 ≡ test → IsLines bytes → IsLines (b ∷ bytes)
    by true e more = record {
      lines = [] ∷ more.lines;
      last = more.last;
      unbroken = (refl, more.unbroken);
      whole = more.whole;
      is = ap (λ first. first ∷ bytes) (eqb-true b 10 e) ∙ ap (λ rest. 10 ∷ rest) more.is;
    }
    by false e more = grow b bytes more.lines more.last (not_from_false (nat_eq b 10) e) more.unbroken more.whole more.is

pub ended-read : ended_lines_are_read
ended-read [] all = (refl, refl)
ended-read (line ∷ lines) all = (
  lines-append line (with_feeds lines) all.0 ∙ ap (λ others. line ∷ others) (ended-read lines all.1).0,
  ended-append line (with_feeds lines) all.0 ∙ ap (λ others. line ∷ others) (ended-read lines all.1).1,
)

pub last-read : last_lines_are_read
last-read [] b last all whole = (lines-last b last whole, ended-none (b ∷ last) whole)
last-read (line ∷ lines) b last all whole = (
  ap lines_of (append_assoc line (10 ∷ with_feeds lines) (b ∷ last))
      ∙ lines-append line (with_feeds lines ++ b ∷ last) all.0
      ∙ ap (λ others. line ∷ others) (last-read lines b last all.1 whole).0,
  ap ended_lines (append_assoc line (10 ∷ with_feeds lines) (b ∷ last))
      ∙ ended-append line (with_feeds lines ++ b ∷ last) all.0
      ∙ ap (λ others. line ∷ others) (last-read lines b last all.1 whole).1,
)
