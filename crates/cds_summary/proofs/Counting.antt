-- The counts of lines, one line after the other, and of a report in parts.
use Rattle.std.proofs.Common.{◌≡◌, ℕ, ◌+◌, ◌-◌, ◌^◌, List, [], ◌∷◌, ◌++◌, length, min, Bool, true, false, cond, refl, ap, sym, ◌∙◌, append_assoc, length-append, arith}
use Rattle.std.specs.Prelude.{codes}
use Rattle.std.specs.List.{count_by}
use Rattle.std.proofs.lemmas.List.{append-nil}
use Rattle.std.proofs.lemmas.List.Sums.{sum_by_push}
use Rattle.cds_script.specs.Lines.{lines_of, is_unbroken}
use Rattle.cds_script.proofs.Lines.{lines-append, lines-last}
use Rattle.cds_summary.specs.Summary.{begins_with, count_of, count_line, first_word, held, summary_of}
use Rattle.cds_summary.specs.Tally.{IsTally, and_line, and_word, counts_of, counts_text}
use Rattle.cds_summary.specs.declared.counts.Counts.{Counts}
use Rattle.cds_summary.specs.declared.tally.Tally.{Tally}
use Rattle.cds_summary.proofs.Cuts.{unbroken-append}

-- ---- one more line

-- a count that stops stays where it stopped
more-held : (n top : ℕ) → min (min n top + 1) top ≡ min (n + 1) top
more-held n top = omega arith

more-or-not : (b : Bool) (n top : ℕ) → cond b (min (min n top + 1) top) (min n top) ≡ min (n + cond b 1 0) top
more-or-not true n top = more-held n top
more-or-not false n top = ap (λ m. min m top) (let same : n ≡ n + 0 = omega arith in same)

lines-more : (all : List (List ℕ)) (line : List ℕ) → held (held (length all) + 1) ≡ held (length (all ++ line ∷ []))
lines-more all line =
    more-held (length all) (2 ^ 64 - 1) ∙ ap held (let size : length all + 1 ≡ length (all ++ line ∷ []) = sym (length-append all (line ∷ [])) in size)

count-more : (word : List ℕ) (all : List (List ℕ)) (line : List ℕ) → and_word word (first_word line) (count_of word all) ≡ count_of word (all ++ line ∷ [])
count-more word all line =
    more-or-not (begins_with word line) (count_by (begins_with word) all) (2 ^ 64 - 1)
    ∙ ap held (sym (sum_by_push (λ l. cond (begins_with word l) 1 0) all line))

-- counts with these parts
made : (lines accept behind deliver gap note read readfault renew scan stands unsubscribe : ℕ) → Counts
made lines accept behind deliver gap note read readfault renew scan stands unsubscribe = record {
  lines = lines;
  accept = accept;
  behind = behind;
  deliver = deliver;
  gap = gap;
  note = note;
  read = read;
  readfault = readfault;
  renew = renew;
  scan = scan;
  stands = stands;
  unsubscribe = unsubscribe;
}

pub line-more : (all : List (List ℕ)) (line : List ℕ) → and_line line (counts_of all) ≡ counts_of (all ++ line ∷ [])
line-more all line =
    rw (
      lines-more all line,
      count-more (codes "accept") all line,
      count-more (codes "behind") all line,
      count-more (codes "deliver") all line,
      count-more (codes "gap") all line,
      count-more (codes "note") all line,
      count-more (codes "read") all line,
      count-more (codes "readfault") all line,
      count-more (codes "renew") all line,
      count-more (codes "scan") all line,
      count-more (codes "stands") all line,
      count-more (codes "unsubscribe") all line,
    ) refl

-- ---- the text

flat : (a b c d e f g h i j k l : List ℕ) →
    (a ++ (b ++ (c ++ d))) ++ ((e ++ (f ++ (g ++ h))) ++ (i ++ (j ++ (k ++ l)))) ≡ a ++ (b ++ (c ++ (d ++ (e ++ (f ++ (g ++ (h ++ (i ++ (j ++ (k ++ (l ++ [])))))))))))
flat a b c d e f g h i j k l = simp (append_assoc, append-nil)

pub text-is : (all : List (List ℕ)) → counts_text (counts_of all) ≡ summary_of all
text-is all =
    flat
    (count_line (codes "lines") (held (length all)))
    (count_line (codes "accept") (count_of (codes "accept") all))
    (count_line (codes "behind") (count_of (codes "behind") all))
    (count_line (codes "deliver") (count_of (codes "deliver") all))
    (count_line (codes "gap") (count_of (codes "gap") all))
    (count_line (codes "note") (count_of (codes "note") all))
    (count_line (codes "read") (count_of (codes "read") all))
    (count_line (codes "readfault") (count_of (codes "readfault") all))
    (count_line (codes "renew") (count_of (codes "renew") all))
    (count_line (codes "scan") (count_of (codes "scan") all))
    (count_line (codes "stands") (count_of (codes "stands") all))
    (count_line (codes "unsubscribe") (count_of (codes "unsubscribe") all))

-- ---- a report in parts

-- a tally of nothing
pub tally-begin : (tally : Tally) → tally.counts ≡ counts_of [] → tally.partial.items ≡ [] → IsTally tally []
tally-begin tally counts none = record {
  front = [];
  parts = sym none;
  unbroken = ap is_unbroken none;
  counted = counts;
  whole = λ more. refl;
}

-- a line that ends
pub tally-line : (tally next : Tally) (report line : List ℕ) → IsTally tally report → is_unbroken line ≡ true →
    next.counts ≡ and_line (tally.partial.items ++ line) tally.counts → next.partial.items ≡ [] → IsTally next (report ++ (line ++ 10 ∷ []))
tally-line tally next report line is unbroken counts none =
    let bytes = tally.partial.items ++ line in
    let ended : (more : List ℕ) → lines_of ((is.front ++ (bytes ++ 10 ∷ [])) ++ more) ≡ lines_of is.front ++ (bytes ∷ lines_of more) = λ more.
    ap lines_of (append_assoc is.front (bytes ++ 10 ∷ []) more ∙ ap (λ bs. is.front ++ bs) (append_assoc bytes (10 ∷ []) more))
    ∙ is.whole (bytes ++ 10 ∷ more)
    ∙ ap (λ ls. lines_of is.front ++ ls) (lines-append bytes more (unbroken-append tally.partial.items line is.unbroken unbroken)) in
    let all : lines_of (is.front ++ (bytes ++ 10 ∷ [])) ≡ lines_of is.front ++ bytes ∷ [] =
    ap lines_of (sym (append-nil (is.front ++ (bytes ++ 10 ∷ [])))) ∙ ended [] in
    record {
      front = is.front ++ (bytes ++ 10 ∷ []);
      parts = ap (λ r. r ++ (line ++ 10 ∷ [])) is.parts
          ∙ append_assoc is.front tally.partial.items (line ++ 10 ∷ [])
          ∙ ap (λ bs. is.front ++ bs) (sym (append_assoc tally.partial.items line (10 ∷ [])))
          ∙ sym (append-nil (is.front ++ (bytes ++ 10 ∷ [])))
          ∙ ap (λ bs. (is.front ++ (bytes ++ 10 ∷ [])) ++ bs) (sym none);
      unbroken = ap is_unbroken none;
      counted = counts ∙ ap (and_line bytes) is.counted ∙ line-more (lines_of is.front) bytes ∙ ap counts_of (sym all);
      whole = λ more. ended more ∙ sym (append_assoc (lines_of is.front) (bytes ∷ []) (lines_of more)) ∙ ap (λ ls. ls ++ lines_of more) (sym all);
    }

-- bytes of a line that has not ended
pub tally-keep : (tally next : Tally) (report rest : List ℕ) → IsTally tally report → is_unbroken rest ≡ true →
    next.counts ≡ tally.counts → next.partial.items ≡ tally.partial.items ++ rest → IsTally next (report ++ rest)
tally-keep tally next report rest is unbroken counts more = record {
  front = is.front;
  parts = ap (λ r. r ++ rest) is.parts ∙ append_assoc is.front tally.partial.items rest ∙ ap (λ bs. is.front ++ bs) (sym more);
  unbroken = ap is_unbroken more ∙ unbroken-append tally.partial.items rest is.unbroken unbroken;
  counted = counts ∙ is.counted;
  whole = is.whole;
}

-- all lines, the last of which ended
pub tally-ended : (tally : Tally) (report : List ℕ) → IsTally tally report → tally.partial.items ≡ [] → tally.counts ≡ counts_of (lines_of report)
tally-ended tally report is none =
    is.counted ∙ ap (λ r. counts_of (lines_of r)) (sym (is.parts ∙ ap (λ bs. is.front ++ bs) none ∙ append-nil is.front))

-- all lines, the last of which has not ended
pub tally-last : (tally : Tally) (report : List ℕ) → IsTally tally report → (tally.partial.items ≡ [] → ⊥) → and_line tally.partial.items tally.counts ≡ counts_of (lines_of report)
tally-last tally report is some =
    let one : lines_of report ≡ lines_of is.front ++ tally.partial.items ∷ [] =
    ap lines_of is.parts ∙ is.whole tally.partial.items ∙ ap (λ ls. lines_of is.front ++ ls) (last tally.partial.items is.unbroken some) in
    ap (and_line tally.partial.items) is.counted ∙ line-more (lines_of is.front) tally.partial.items ∙ ap counts_of (sym one)
  where
    last : (bytes : List ℕ) → is_unbroken bytes ≡ true → (bytes ≡ [] → ⊥) → lines_of bytes ≡ bytes ∷ []
    last [] whole some = absurd (some refl)
    last (b ∷ bytes) whole some = lines-last b bytes whole
