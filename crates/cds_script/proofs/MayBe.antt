-- The turns of a script may be: each may stand after the older ones, and its first number is one of the server's.
use Rattle.std.proofs.Common.{◌≡◌, ℕ, suc, ◌+◌, ◌<◌, ◌≤◌, ◌^◌, List, [], ◌∷◌, take, Bool, true, false, cond, ◌&&◌, refl, ap, sym, subst, ◌∙◌, arith, Option, Some, None}
use Rattle.std.specs.Prelude.{nat_lt, codes}
use Rattle.std.specs.List.{AllByRecursion, cons_option}
use Rattle.std.specs.Str.{is_utf8}
use Rattle.std.specs.Option.{option_and_then}
use Rattle.std.proofs.lemmas.Bool.{and_parts, ltb-true}
use mathlib.Core.List.{reverse_aux}
use Rattle.cds_base.specs.Number.{plain_below, has_leading_zero, is_number_in, value_in}
use Rattle.cds_object.specs.declared.info.FlacInfo.{FlacInfo}
use Rattle.cds_object.specs.Content.{same_text}
use Rattle.cds_script.specs.Lines.{words_of}
use Rattle.cds_script.specs.Word.{words_said}
use Rattle.cds_script.specs.Script.{number_from_to, info_from, path_said, folder_turn, track_turn, plain_turn, moment_limit, first_turn, wrap_turn, at_turn, deliver_turn, number_turn, folder_line, track_line, tag_line, plain_line, turn_of, meaning_of_turn, meaning_of_said, meaning_of_words, meaning_of, IsInfoInRange, IsInRange, MeansInRange, lines_mean_in_range}
use Rattle.cds_script.specs.Played.{script_lines, turn_in, is_within, is_answered, and_meant, answered_lines, AllStand, script_turns_may_be}
use Rattle.cds_script.specs.declared.turn.Meaning.{Meaning}
use Rattle.cds_script.specs.declared.turn.Meaning.TheVariants.{Nothing, Means, Outside}
use Rattle.cds_script.specs.declared.turn.ScriptTurn.{ScriptTurn}
use Rattle.cds_script.specs.declared.turn.ScriptTurn.TheVariants.{Folder, Track, Tag, Scan, Load, Read, Ask, First, Wrap, At, Subscribe, Accept, Renew, Unsubscribe, Deliver, ReadFault}
use Rattle.cds_script.specs.Report.{number_of, first_of, may_stand}
use Rattle.cds_script.proofs.Played.{turns_in}
use Rattle.cds_object.specs.ContentOf.{bare_info}

-- ---- a first number that a line names is below its limit

below-limit : (limit : ℕ) (bytes : List ℕ) (n : ℕ) → plain_below limit bytes ≡ Some n → n < limit
below-limit limit bytes n = by (has_leading_zero bytes) (is_number_in 10 bytes) (nat_lt (value_in 10 bytes) limit) refl
  where
    by : (a b c : Bool) → nat_lt (value_in 10 bytes) limit ≡ c → cond a None (cond (b && c) (Some (value_in 10 bytes)) None) ≡ Some n → n < limit
    by true b c l e = absurd (cc)
    by false false c l e = absurd (cc)
    by false true false l e = absurd (cc)
    by false true true l e = let is : value_in 10 bytes ≡ n = cc in let low = ltb-true (value_in 10 bytes) limit l in omega (arith, is, low)

-- the numbers of a turn, if it is one, are within their ranges
abbrev Fine : Option ScriptTurn → Type 0
Fine None = Unit {0}
Fine (Some turn) = IsInRange turn

low-number : (turn : ScriptTurn) → IsInRange turn → number_of turn ≤ 4294967295
low-number (Folder path) f = omega arith
low-number (Track path info size) f = omega arith
low-number (Tag comment) f = omega arith
low-number Scan f = omega arith
low-number Load f = omega arith
low-number Read f = omega arith
low-number Ask f = omega arith
low-number (First number) f = f
low-number (Wrap number) f = omega arith
low-number (At moment) f = omega arith
low-number Subscribe f = omega arith
low-number Accept f = omega arith
low-number Renew f = omega arith
low-number Unsubscribe f = omega arith
low-number (Deliver note) f = omega arith
low-number ReadFault f = omega arith

cond-fine : (b : Bool) (x y : Option ScriptTurn) → Fine x → Fine y → Fine (cond b x y)
cond-fine true x y fx fy = fx
cond-fine false x y fx fy = fy

first-fine : (o : Option ℕ) → ((n : ℕ) → o ≡ Some n → n < 2 ^ 32) → Fine (first_turn o)
first-fine None h = tt
first-fine (Some n) h = let l : n < 4294967296 = h n refl in omega (arith, l)

wrap-fine : (o : Option ℕ) → ((n : ℕ) → o ≡ Some n → n < 2 ^ 32) → Fine (wrap_turn o)
wrap-fine None h = tt
wrap-fine (Some n) h = let l : n < 4294967296 = h n refl in omega (arith, l)

at-fine : (o : Option ℕ) → ((n : ℕ) → o ≡ Some n → n < moment_limit) → Fine (at_turn o)
at-fine None h = tt
at-fine (Some n) h = h n refl

deliver-fine : (o : Option ℕ) → Fine (deliver_turn o)
deliver-fine None = tt
deliver-fine (Some n) = tt

folder-fine : (o : Option (List (List ℕ))) → Fine (folder_turn o)
folder-fine (Some path) = tt
folder-fine None = tt

-- a number up to another is no greater
from-high : (low high : ℕ) (word : List ℕ) (n : ℕ) → number_from_to low high word ≡ Some n → n < high + 1
from-high low high word n = by (plain_below (high + 1) word) refl
  where
    at : (m : ℕ) (b : Bool) → plain_below (high + 1) word ≡ Some m → cond b None (Some m) ≡ Some n → n < high + 1
    at m true below e = absurd (cc)
    at m false below e = let is : m ≡ n = cc in subst (λ (k : ℕ). k < high + 1) is (below-limit (high + 1) word m below)

    by : (o : Option ℕ) → plain_below (high + 1) word ≡ o → option_and_then (λ m. cond (nat_lt m low) None (Some m)) o ≡ Some n → n < high + 1
    by None below e = absurd (cc)
    by (Some m) below e = at m (nat_lt m low) below e

-- what a file says is what its words are
info-fine : (r c b s : Option ℕ) → ((n : ℕ) → r ≡ Some n → n < 2 ^ 20) → ((n : ℕ) → c ≡ Some n → n < 9) → ((n : ℕ) → b ≡ Some n → n < 33) →
    ((n : ℕ) → s ≡ Some n → n < 2 ^ 36) → (info : FlacInfo) → info_from r c b s ≡ Some info → IsInfoInRange info
info-fine (Some rate) (Some channels) (Some bits) (Some samples) rs cs bs few info e =
    let same : bare_info rate channels bits samples ≡ info = cc in
    let low : rate < 1048576 = rs rate refl in
    let eight : channels < 9 = cs channels refl in
    let wide : bits < 33 = bs bits refl in
    subst IsInfoInRange same (omega (arith, low), omega (arith, eight), omega (arith, wide), few samples refl)
info-fine None c b s rs cs bs few info e = absurd (cc)
info-fine (Some rate) None b s rs cs bs few info e = absurd (cc)
info-fine (Some rate) (Some channels) None s rs cs bs few info e = absurd (cc)
info-fine (Some rate) (Some channels) (Some bits) None rs cs bs few info e = absurd (cc)

track-fine : (o : Option (List (List ℕ))) (size : Option ℕ) (says : Option FlacInfo) → ((n : ℕ) → size ≡ Some n → n < 2 ^ 64) →
    ((info : FlacInfo) → says ≡ Some info → IsInfoInRange info) → Fine (track_turn o size says)
track-fine (Some path) (Some size) (Some info) fits fine = (fine info refl, fits size refl)
track-fine (Some path) (Some size) None fits fine = tt
track-fine (Some path) None says fits fine = tt
track-fine None size says fits fine = tt

folder_line-fine : (words : List (List ℕ)) → Fine (folder_line words)
folder_line-fine [] = tt
folder_line-fine (path ∷ []) = folder-fine (path_said path)
folder_line-fine (path ∷ next ∷ words) = tt

track_line-fine : (words : List (List ℕ)) → Fine (track_line words)
track_line-fine [] = tt
track_line-fine (a ∷ []) = tt
track_line-fine (a ∷ b ∷ []) = tt
track_line-fine (a ∷ b ∷ c ∷ []) = tt
track_line-fine (a ∷ b ∷ c ∷ d ∷ []) = tt
track_line-fine (a ∷ b ∷ c ∷ d ∷ f ∷ []) = tt
track_line-fine (a ∷ b ∷ c ∷ d ∷ f ∷ g ∷ []) =
    track-fine (path_said a) (plain_below (2 ^ 64) b)
    (info_from (plain_below (2 ^ 20) c) (number_from_to 1 8 d) (number_from_to 1 32 f) (plain_below (2 ^ 36) g)) (below-limit (2 ^ 64) b)
    (info-fine (plain_below (2 ^ 20) c) (number_from_to 1 8 d) (number_from_to 1 32 f) (plain_below (2 ^ 36) g) (below-limit (2 ^ 20) c) (from-high 1 8 d) (from-high 1 32 f)
    (below-limit (2 ^ 36) g))
track_line-fine (a ∷ b ∷ c ∷ d ∷ f ∷ g ∷ h ∷ words) = tt

tag_line-fine : (words : List (List ℕ)) → Fine (tag_line words)
tag_line-fine [] = tt
tag_line-fine (a ∷ []) = tt
tag_line-fine (a ∷ b ∷ []) = cond-fine (is_utf8 a && is_utf8 b) _ None tt tt
tag_line-fine (a ∷ b ∷ c ∷ words) = tt

number-fine : (word number : List ℕ) → Fine (number_turn word number)
number-fine word number =
    cond-fine (same_text word (codes "first")) _ _ (first-fine (plain_below (2 ^ 32) number) (below-limit (2 ^ 32) number))
    (cond-fine (same_text word (codes "at")) _ _ (at-fine (plain_below moment_limit number) (below-limit moment_limit number))
    (cond-fine (same_text word (codes "deliver")) _ _ (deliver-fine (plain_below (2 ^ 32) number))
    (cond-fine (same_text word (codes "wrap")) _ _ (wrap-fine (plain_below (2 ^ 32) number) (below-limit (2 ^ 32) number)) tt)))

plain-fine : (word : List ℕ) → Fine (plain_turn word)
plain-fine word =
    cond-fine (same_text word (codes "scan")) (Some Scan) _ tt
    (cond-fine (same_text word (codes "load")) (Some Load) _ tt
    (cond-fine (same_text word (codes "read")) (Some Read) _ tt
    (cond-fine (same_text word (codes "ask")) (Some Ask) _ tt
    (cond-fine (same_text word (codes "subscribe")) (Some Subscribe) _ tt
    (cond-fine (same_text word (codes "accept")) (Some Accept) _ tt
    (cond-fine (same_text word (codes "renew")) (Some Renew) _ tt
    (cond-fine (same_text word (codes "unsubscribe")) (Some Unsubscribe) _ tt
    (cond-fine (same_text word (codes "readfault")) (Some ReadFault) None tt tt))))))))

plain_line-fine : (word : List ℕ) (words : List (List ℕ)) → Fine (plain_line word words)
plain_line-fine word [] = plain-fine word
plain_line-fine word (number ∷ []) = number-fine word number
plain_line-fine word (number ∷ next ∷ words) = tt

turn-fine : (words : List (List ℕ)) → Fine (turn_of words)
turn-fine [] = tt
turn-fine (word ∷ words) =
    cond-fine (same_text word (codes "folder")) (folder_line words) _ (folder_line-fine words)
    (cond-fine (same_text word (codes "track")) (track_line words) _ (track_line-fine words)
    (cond-fine (same_text word (codes "tag")) (tag_line words) (plain_line word words) (tag_line-fine words) (plain_line-fine word words)))

meant-fine : (o : Option ScriptTurn) → Fine o → Fine (turn_in (meaning_of_turn o))
meant-fine None f = tt
meant-fine (Some turn) f = f

words-fine : (parts : List (List ℕ)) → Fine (turn_in (meaning_of_words parts))
words-fine parts = by (words_said parts)
  where
    by : (o : Option (List (List ℕ))) → Fine (turn_in (meaning_of_said o))
    by (Some words) = meant-fine (turn_of words) (turn-fine words)
    by None = tt

line-fine : (line : List ℕ) → Fine (turn_in (meaning_of line))
line-fine [] = tt
line-fine (b ∷ rest) = by _
  where
    by : (c : Bool) → Fine (turn_in (cond c Nothing (meaning_of_words (words_of (b ∷ rest)))))
    by true = tt
    by false = words-fine (words_of (b ∷ rest))

-- ---- the turns of answered lines

abbrev AreFine : List ScriptTurn → Type 0
AreFine turns = AllStand turns × AllByRecursion (λ turn. number_of turn ≤ 4294967295) turns

and-fine : (turns : List ScriptTurn) (o : Option ScriptTurn) → Fine o → ((turn : ScriptTurn) → o ≡ Some turn → may_stand turns turn ≡ true) → AreFine turns → AreFine (and_meant o turns)
and-fine turns None f stands all = all
and-fine turns (Some turn) f stands all = ((stands turn refl, all.0), (low-number turn f, all.1))

within-stands : (turns : List ScriptTurn) (meaning : Meaning) (turn : ScriptTurn) → is_within turns meaning ≡ true → turn_in meaning ≡ Some turn → may_stand turns turn ≡ true
within-stands turns Nothing turn w e = absurd (cc)
within-stands turns (Means other) turn w e = let same : other ≡ turn = cc in ap (may_stand turns) (sym same) ∙ w
within-stands turns Outside turn w e = absurd (cc)

lines-fine : (turns : List ScriptTurn) (lines : List (List ℕ)) → AreFine turns → AreFine (reverse_aux (turns_in (take (answered_lines turns lines) lines)) turns)
lines-fine turns [] all = all
lines-fine turns (line ∷ lines) all = by (is_answered turns line) refl (λ now n f. lines-fine now lines f)
  where
    next : List ScriptTurn
    next = and_meant (turn_in (meaning_of line)) turns

    Later : Type 0
    Later = (now : List ScriptTurn) → (n : ℕ) → AreFine now → AreFine (reverse_aux (turns_in (take (answered_lines now lines) lines)) now)

    counted : (b : Bool) → is_answered turns line ≡ b → answered_lines turns (line ∷ lines) ≡ cond b (answered_lines next lines + 1) 0
    counted b e = ap (λ v. cond v (answered_lines next lines + 1) 0) e

    onto : (o : Option ScriptTurn) (rest : List ScriptTurn) → reverse_aux (cons_option o rest) turns ≡ reverse_aux rest (and_meant o turns)
    onto None rest = refl
    onto (Some turn) rest = refl

    by : (b : Bool) → is_answered turns line ≡ b → Later → AreFine (reverse_aux (turns_in (take (answered_lines turns (line ∷ lines)) (line ∷ lines))) turns)
    by true e later =
        let one : answered_lines turns (line ∷ lines) ≡ suc (answered_lines next lines) = let c = counted true e in omega (arith, c) in
        let within : is_within turns (meaning_of line) ≡ true = (and_parts _ _ e).1 in
        subst AreFine
        (sym (ap (λ n. reverse_aux (turns_in (take n (line ∷ lines))) turns) one ∙ onto (turn_in (meaning_of line)) (turns_in (take (answered_lines next lines) lines))))
        (later next 0 (and-fine turns (turn_in (meaning_of line)) (line-fine line) (λ turn t. within-stands turns (meaning_of line) turn within t) all))
    by false e later = subst AreFine (sym (ap (λ n. reverse_aux (turns_in (take n (line ∷ lines))) turns) (counted false e))) all

first-low : (turns : List ScriptTurn) → AllByRecursion (λ turn. number_of turn ≤ 4294967295) turns → first_of turns ≤ 4294967295
first-low [] all = omega arith
first-low (turn ∷ []) all = all.0
first-low (turn ∷ next ∷ older) all = first-low (next ∷ older) all.1

pub turns-may_be : script_turns_may_be
turns-may_be bytes =
    let all = lines-fine [] (script_lines bytes) (tt, tt) in
    record { stand = all.0; number = first-low _ all.1 }

-- ---- the numbers of what a line means

meant-range : (meaning : Meaning) → Fine (turn_in meaning) → MeansInRange meaning
meant-range Nothing f = tt
meant-range (Means turn) f = f
meant-range Outside f = tt

pub lines-range : lines_mean_in_range
lines-range line = meant-range (meaning_of line) (line-fine line)
