-- Each line of a generated script is a turn.
use Rattle.std.proofs.Common.{◌≡◌, ◌+◌, ◌*◌, ◌-◌, ◌/◌, ◌%◌, ◌^◌, ◌<◌, ◌≤◌, ℕ, zero, suc, max, Bool, true, false, cond, nat_eq, nat_lt, List, [], ◌∷◌, ◌++◌, length, slice_get, Option, Some, None, codes, refl, sym, ap, subst, ◌∙◌, arith, append_assoc, length-append, add-one}
use Rattle.std.specs.List.{list_all}
use Rattle.std.specs.Fmt.{decimal}
use Rattle.std.proofs.lemmas.Bool.{and_from}
use Rattle.cds_object.specs.ContentOf.{bare_info}
use Rattle.cds_object.specs.Path.{bad_name_at}
use Rattle.cds_script.specs.Lines.{line_limit, is_unbroken, words_of}
use Rattle.cds_script.specs.Script.{meaning_of, meaning_of_turn, meaning_of_said, moment_limit, folder_turn, track_turn, deliver_turn, at_turn, info_from, path_said}
use Rattle.cds_script.specs.Word.{is_plain_byte, byte_before, words_said}
use Rattle.cds_script.specs.declared.turn.Meaning.TheVariants.{Means}
use Rattle.cds_script.specs.declared.turn.ScriptTurn.{ScriptTurn}
use Rattle.cds_script.specs.declared.turn.ScriptTurn.TheVariants.{Folder, Track, Tag, Scan, Load, Read, Ask, At, Subscribe, Accept, Unsubscribe, Deliver}
use Rattle.cds_script.proofs.Words.{plain_words-stand}
use Rattle.cds_generate.specs.Generated.{deliver_line, folder_line, track_line, tag_line}
use Rattle.cds_generate.proofs.Libraries.{folder_name, title_of, place_of}
use Rattle.cds_generate.proofs.Plain.{Said, all-join, decimal-not, decimal-plain, decimal-ascii, decimal-short, plain-read, parts-one, parts-more, said-by, said-plain, said-decimal, line-one, line-more, is-text, path-read, good-f, good-t}

-- ---- lines that are turns

-- a text is one line, ended, that means a turn
pub record IsSpoken (text : List ℕ) (turn : ScriptTurn) : Type 0 where
  pub line : List ℕ
  pub whole : is_unbroken line ≡ true
  pub means : meaning_of line ≡ Means turn
  pub short : length line ≤ line_limit
  pub is : text ≡ line ++ 10 ∷ []

line-is : (line : List ℕ) (turn : ScriptTurn) → is_unbroken line ≡ true → meaning_of line ≡ Means turn → length line ≤ 4096 → IsSpoken (line ++ 10 ∷ []) turn
line-is line turn whole means short = record { line = line; whole = whole; means = means; short = short; is = refl }

-- ---- lines of a word

pub load-spoken : IsSpoken (codes "load\n") Load
load-spoken = line-is (codes "load") Load refl refl (omega arith)

pub read-spoken : IsSpoken (codes "read\n") Read
read-spoken = line-is (codes "read") Read refl refl (omega arith)

pub ask-spoken : IsSpoken (codes "ask\n") Ask
ask-spoken = line-is (codes "ask") Ask refl refl (omega arith)

pub scan-spoken : IsSpoken (codes "scan\n") Scan
scan-spoken = line-is (codes "scan") Scan refl refl (omega arith)

pub subscribe-spoken : IsSpoken (codes "subscribe\n") Subscribe
subscribe-spoken = line-is (codes "subscribe") Subscribe refl refl (omega arith)

pub accept-spoken : IsSpoken (codes "accept\n") Accept
accept-spoken = line-is (codes "accept") Accept refl refl (omega arith)

pub unsubscribe-spoken : IsSpoken (codes "unsubscribe\n") Unsubscribe
unsubscribe-spoken = line-is (codes "unsubscribe") Unsubscribe refl refl (omega arith)

pub deliver_first-spoken : IsSpoken (codes "deliver 1\n") (Deliver 1)
deliver_first-spoken = line-is (codes "deliver 1") (Deliver 1) refl refl (omega arith)

-- ---- lines with numbers

pub deliver-spoken : (n : ℕ) → n < 2 ^ 32 → IsSpoken (deliver_line n) (Deliver n)
deliver-spoken n low =
    let wide : n < 2 ^ 64 = omega (arith, low) in
    let short = decimal-short n wide in
    line-is (codes "deliver " ++ decimal n) (Deliver n) (decimal-not n wide 10 (omega arith))
    (ap meaning_of_said (line-more (codes "deliver") (codes "deliver") (decimal n) (decimal n ∷ []) (said-plain (codes "deliver") (omega arith) refl) (line-one (decimal n) (decimal n) (said-decimal n wide)))
    ∙ ap (λ (o : Option ℕ). meaning_of_turn (deliver_turn o)) (plain-read (2 ^ 32) n (omega arith) low))
    (omega (arith, short))

pub at-spoken : (n : ℕ) → n < 2 ^ 64 → IsSpoken (codes "at " ++ decimal n ++ codes "\n") (At n)
at-spoken n wide =
    let short = decimal-short n wide in
    line-is (codes "at " ++ decimal n) (At n) (decimal-not n wide 10 (omega arith))
    (ap meaning_of_said (line-more (codes "at") (codes "at") (decimal n) (decimal n ∷ []) (said-plain (codes "at") (omega arith) refl) (line-one (decimal n) (decimal n) (said-decimal n wide)))
    ∙ ap (λ (o : Option ℕ). meaning_of_turn (at_turn o)) (plain-read moment_limit n (omega arith) wide))
    (omega (arith, short))

pub folder-spoken : (n : ℕ) → n < 2 ^ 64 → IsSpoken (folder_line n) (Folder (folder_name n ∷ []))
folder-spoken n wide =
    let short = decimal-short n wide in
    let part : List ℕ = codes "f" ++ decimal n in
    let place : path_said (codes "f" ++ decimal n) ≡ Some ((codes "f" ++ decimal n) ∷ []) =
    path-read (codes "f" ++ decimal n) ((codes "f" ++ decimal n) ∷ []) (decimal-ascii n wide) (parts-one 47 (codes "f" ++ decimal n) (decimal-not n wide 47 (omega arith)))
    (ap (λ (b : Bool). cond b (Some 0) None) (good-f (decimal n) (omega (arith, short)) (decimal-not n wide 0 (omega arith)))) (omega (arith, short)) in
    line-is (codes "folder f" ++ decimal n) (Folder ((codes "f" ++ decimal n) ∷ [])) (decimal-not n wide 10 (omega arith))
    (ap meaning_of_said (line-more (codes "folder") (codes "folder") (codes "f" ++ decimal n) ((codes "f" ++ decimal n) ∷ []) (said-plain (codes "folder") (omega arith) refl)
    (line-one (codes "f" ++ decimal n) (codes "f" ++ decimal n) (said-plain (codes "f" ++ decimal n) (omega arith) (decimal-plain n wide))))
    ∙ ap (λ (o : Option (List (List ℕ))). meaning_of_turn (folder_turn o)) place)
    (omega (arith, short))

-- ---- tracks

pub tag-spoken : (n : ℕ) → n < 2 ^ 64 → IsSpoken (tag_line n) (Tag (title_of n))
tag-spoken n wide =
    let short = decimal-short n wide in
    let value : Said (codes "Title%20" ++ decimal n) (codes "Title " ++ decimal n) = record {
      whole = decimal-not n wide 32 (omega arith);
      said = said-by (codes "Title%20" ++ decimal n) (codes "Title " ++ decimal n) (omega arith)
          (ap (λ (o : Option (List ℕ)). byte_before (Some 84) (byte_before (Some 105) (byte_before (Some 116) (byte_before (Some 108) (byte_before (Some 101) (byte_before (Some 32) o))))))
          (plain_words-stand (decimal n) (decimal-plain n wide)));
    } in
    line-is (codes "tag TITLE Title%20" ++ decimal n) (Tag (record { name = codes "TITLE"; value = codes "Title " ++ decimal n })) (decimal-not n wide 10 (omega arith))
    (ap meaning_of_said (line-more (codes "tag") (codes "tag") (codes "TITLE" ++ 32 ∷ (codes "Title%20" ++ decimal n)) (codes "TITLE" ∷ (codes "Title " ++ decimal n) ∷ []) (said-plain (codes "tag") (omega arith) refl)
    (line-more (codes "TITLE") (codes "TITLE") (codes "Title%20" ++ decimal n) ((codes "Title " ++ decimal n) ∷ []) (said-plain (codes "TITLE") (omega arith) refl)
    (line-one (codes "Title%20" ++ decimal n) (codes "Title " ++ decimal n) value)))
    ∙ ap (λ (b : Bool). meaning_of_turn (cond b (Some (Tag (record { name = codes "TITLE"; value = codes "Title " ++ decimal n }))) None))
    (and_from _ _ (is-text (codes "TITLE") refl) (is-text (codes "Title " ++ decimal n) (decimal-ascii n wide))))
    (omega (arith, short))

flat : (k f a t b g p s x m e : List ℕ) → (((((k ++ f) ++ a) ++ t) ++ b) ++ (g ++ p)) ++ (((s ++ x) ++ m) ++ e) ≡ (k ++ ((f ++ (a ++ (t ++ (b ++ g)))) ++ (p ++ (s ++ (x ++ m))))) ++ e
flat k f a t b g p s x m e = simp append_assoc

shape : (a b s m : List ℕ) →
    codes "track f" ++ a ++ codes "/t" ++ b ++ codes ".flac " ++ (s ++ codes " 44100 2 16 " ++ m ++ codes "\n")
    ≡ (codes "track" ++ 32 ∷ ((codes "f" ++ (a ++ 47 ∷ (codes "t" ++ (b ++ codes ".flac")))) ++ 32 ∷ (s ++ 32 ∷ (codes "44100" ++ 32 ∷ (codes "2" ++ 32 ∷ (codes "16" ++ 32 ∷ m)))))) ++ 10 ∷ []
shape a b s m = flat (codes "track ") (codes "f") a (codes "/t") b (codes ".flac") (codes " ") s (codes " 44100 2 16 ") m (codes "\n")

-- the numbers of a track's line
module _ (a b s m : ℕ) (la : a < 2 ^ 64) (lb : b < 2 ^ 64) (ls : s < 2 ^ 64) (lm : m < 2 ^ 36) where
  wm : m < 2 ^ 64
  wm = omega (arith, lm)

  abbrev file : List ℕ
  file = codes "t" ++ (decimal b ++ codes ".flac")

  abbrev path : List ℕ
  path = codes "f" ++ (decimal a ++ 47 ∷ file)

  abbrev after_path : List ℕ
  after_path = decimal s ++ 32 ∷ (codes "44100" ++ 32 ∷ (codes "2" ++ 32 ∷ (codes "16" ++ 32 ∷ decimal m)))

  abbrev line : List ℕ
  line = codes "track" ++ 32 ∷ (path ++ 32 ∷ after_path)

  abbrev place : List (List ℕ)
  place = (codes "f" ++ decimal a) ∷ file ∷ []

  abbrev turn : ScriptTurn
  turn = Track place (bare_info 44100 2 16 m) s

  in-path : (q : ℕ → Bool) → list_all q (decimal a) ≡ true → list_all q (decimal b) ≡ true → list_all q (codes "f") ≡ true → list_all q (47 ∷ codes "t") ≡ true → list_all q (codes ".flac") ≡ true → list_all q path ≡ true
  in-path q one two f t e =
      all-join q (codes "f") (decimal a ++ 47 ∷ file) f
      (all-join q (decimal a) (47 ∷ file) one (all-join q (47 ∷ codes "t") (decimal b ++ codes ".flac") t (all-join q (decimal b) (codes ".flac") two e)))

  file-size : length (decimal b ++ codes ".flac") ≤ 25
  file-size = let short = decimal-short b lb in let sum = length-append (decimal b) (codes ".flac") in omega (arith, short, sum)

  path-size : length path ≤ 100
  path-size =
      let one = decimal-short a la in
      let sum = length-append (decimal a) (47 ∷ file) in
      let two = file-size in
      omega (arith, one, sum, two)

  names-are : bad_name_at 0 0 place ≡ None
  names-are =
      let one = good-f (decimal a) (let short = decimal-short a la in omega (arith, short)) (decimal-not a la 0 (omega arith)) in
      let two = good-t (decimal b ++ codes ".flac") (let size = file-size in omega (arith, size))
      (all-join (λ c. Rattle.std.proofs.Common.not (nat_eq c 0)) (decimal b) (codes ".flac") (decimal-not b lb 0 (omega arith)) refl) in
      λ i. cond (one i) (Some 0) (cond (two i) (Some (0 + length (codes "f" ++ decimal a) + 1)) None)

  path-is : path_said path ≡ Some place
  path-is =
      path-read path place (in-path (λ c. nat_lt c 128) (decimal-ascii a la) (decimal-ascii b lb) refl refl refl)
      (parts-more 47 (codes "f" ++ decimal a) file (decimal-not a la 47 (omega arith))
      ∙ ap (λ (ns : List (List ℕ)). (codes "f" ++ decimal a) ∷ ns) (parts-one 47 file (all-join (λ c. Rattle.std.proofs.Common.not (nat_eq c 47)) (decimal b) (codes ".flac") (decimal-not b lb 47 (omega arith)) refl)))
      names-are (let size = path-size in omega (arith, size))

  words-are : words_said (words_of line) ≡ Some (codes "track" ∷ path ∷ decimal s ∷ codes "44100" ∷ codes "2" ∷ codes "16" ∷ decimal m ∷ [])
  words-are =
      line-more (codes "track") (codes "track") (path ++ 32 ∷ after_path) _ (said-plain (codes "track") (omega arith) refl)
      (line-more path path after_path _ (said-plain path (omega arith) (in-path is_plain_byte (decimal-plain a la) (decimal-plain b lb) refl refl refl))
      (line-more (decimal s) (decimal s) (codes "44100" ++ 32 ∷ (codes "2" ++ 32 ∷ (codes "16" ++ 32 ∷ decimal m))) _ (said-decimal s ls)
      (line-more (codes "44100") (codes "44100") (codes "2" ++ 32 ∷ (codes "16" ++ 32 ∷ decimal m)) _ (said-plain (codes "44100") (omega arith) refl)
      (line-more (codes "2") (codes "2") (codes "16" ++ 32 ∷ decimal m) _ (said-plain (codes "2") (omega arith) refl)
      (line-more (codes "16") (codes "16") (decimal m) _ (said-plain (codes "16") (omega arith) refl)
      (line-one (decimal m) (decimal m) (said-decimal m wm)))))))

  means : meaning_of line ≡ Means turn
  means =
      ap meaning_of_said words-are
      ∙ (λ i. meaning_of_turn (track_turn (path-is i) (plain-read (2 ^ 64) s (omega arith) ls i) (info_from (Some 44100) (Some 2) (Some 16) (plain-read (2 ^ 36) m (omega arith) lm i))))

  unbroken : is_unbroken line ≡ true
  unbroken =
      all-join (λ c. Rattle.std.proofs.Common.not (nat_eq c 10)) path (32 ∷ after_path)
      (in-path (λ c. Rattle.std.proofs.Common.not (nat_eq c 10)) (decimal-not a la 10 (omega arith)) (decimal-not b lb 10 (omega arith)) refl refl refl)
      (all-join (λ c. Rattle.std.proofs.Common.not (nat_eq c 10)) (decimal s) (32 ∷ (codes "44100" ++ 32 ∷ (codes "2" ++ 32 ∷ (codes "16" ++ 32 ∷ decimal m)))) (decimal-not s ls 10 (omega arith)) (decimal-not m wm 10 (omega arith)))

  short : length line ≤ 4096
  short =
      let size = path-size in
      let one = decimal-short s ls in
      let two = decimal-short m wm in
      let sum = length-append path (32 ∷ after_path) in
      let more = length-append (decimal s) (32 ∷ (codes "44100" ++ 32 ∷ (codes "2" ++ 32 ∷ (codes "16" ++ 32 ∷ decimal m)))) in
      omega (arith, size, one, two, sum, more)

  line-turn : IsSpoken (line ++ 10 ∷ []) turn
  line-turn = line-is line turn unbroken means short

pub track-spoken : (folders number version : ℕ) → number ≤ 10000 → version < 2 ^ 32 → number % folders < 2 ^ 64
    → IsSpoken (track_line folders number version) (Track (place_of folders number) (bare_info 44100 2 16 (441000 + number)) (1000000 + 1000 * number + version))
track-spoken folders number version few low rest =
    let spoken = line-turn (number % folders) number (1000000 + 1000 * number + version) (441000 + number) rest (omega (arith, few)) (omega (arith, few, low)) (omega (arith, few)) in
    record {
      line = spoken.line;
      whole = spoken.whole;
      means = spoken.means;
      short = spoken.short;
      is = shape (decimal (number % folders)) (decimal number) (decimal (1000000 + 1000 * number + version)) (decimal (441000 + number)) ∙ spoken.is;
    }
