-- What `summary` owes for a script, by the report of the script.
use Rattle.std.proofs.Common.{◌≡◌, ℕ, zero, suc, ◌+◌, ◌/◌, ◌%◌, ◌==◌, ◌||◌, Bool, true, false, cond, nat_eq, nat_lt, nat_le, List, [], ◌∷◌, ◌++◌, length, drop, codes, refl, ap, sym, ◌∙◌, append_assoc, arith}
use Rattle.std.specs.List.{list_any}
use Rattle.std.specs.Fmt.{decimal, digits, digits_onto, digit_glyph}
use Rattle.std.proofs.lemmas.Bool.Decides.{nat_tests}
use Rattle.std.proofs.lemmas.List.{append-nil}
use Rattle.cds_script.specs.Report.{Ending, limit_ending, outside_ending, script_ending, written_first}
use Rattle.cds_script.specs.Played.{is_long, report_of, script_stop, script_turns, stop_at, script_lines, answered_of}
use Rattle.cds_script.specs.Lines.{script_limit}
use Rattle.cds_script.proofs.Played.{reports-of_turns}
use Rattle.cds_summary.specs.Summary.{summary_ending, summary_text}

-- ---- the number in the last line

abbrev is_space : ℕ → Bool
is_space b = nat_eq b 32

-- the bytes after the last space
abbrev after_space : List ℕ → List ℕ
after_space [] = []
after_space (b ∷ bytes) = cond (list_any is_space bytes) (after_space bytes) (cond (is_space b) bytes (b ∷ bytes))

or-true : (b : Bool) → (b || true) ≡ true
or-true true = refl
or-true false = refl

has-space : (front rest : List ℕ) → list_any is_space (front ++ 32 ∷ rest) ≡ true
has-space [] rest = refl
has-space (b ∷ front) rest = ap (λ c. is_space b || c) (has-space front rest) ∙ or-true (is_space b)

after-space : (front rest : List ℕ) → list_any is_space rest ≡ false → after_space (front ++ 32 ∷ rest) ≡ rest
after-space [] rest none = ap (λ c. cond c (after_space rest) rest) none
after-space (b ∷ front) rest none =
    ap (λ c. cond c (after_space (front ++ 32 ∷ rest)) (cond (is_space b) (front ++ 32 ∷ rest) (b ∷ (front ++ 32 ∷ rest)))) (has-space front rest)
    ∙ after-space front rest none

same-after : (before front other one two : List ℕ) → list_any is_space one ≡ false → list_any is_space two ≡ false →
    front ++ (before ++ 32 ∷ one) ≡ other ++ (before ++ 32 ∷ two) → one ≡ two
same-after before front other one two first second same =
    sym (after-space (front ++ before) one first)
    ∙ ap after_space (append_assoc front before (32 ∷ one) ∙ same ∙ sym (append_assoc other before (32 ∷ two)))
    ∙ after-space (other ++ before) two second

no-glyph : (d : ℕ) → is_space (digit_glyph false d) ≡ false
no-glyph d = by (nat_lt d 10)
  where
    by : (low : Bool) → is_space (cond low (48 + d) (87 + d)) ≡ false
    by true = grind (arith, nat_tests)
    by false = grind (arith, nat_tests)

no-space-by : (b : Bool) (xs ys : List ℕ) → list_any is_space xs ≡ false → list_any is_space ys ≡ false → list_any is_space (cond b xs ys) ≡ false
no-space-by true xs ys one two = one
no-space-by false xs ys one two = two

no-digit : (k n : ℕ) (after : List ℕ) → list_any is_space after ≡ false → list_any is_space (digits_onto k 10 false n after) ≡ false
no-digit zero n after none = none
no-digit (suc k) n after none =
    let more : list_any is_space (digit_glyph false (n % 10) ∷ after) ≡ false = ap (λ c. c || list_any is_space after) (no-glyph (n % 10)) ∙ none in
    no-space-by (n / 10 == 0) (digit_glyph false (n % 10) ∷ after) (digits_onto k 10 false (n / 10) (digit_glyph false (n % 10) ∷ after)) more
    (no-digit k (n / 10) (digit_glyph false (n % 10) ∷ after) more)

no-number : (n : ℕ) → list_any is_space (decimal n) ≡ false
unfolding digits
no-number n = no-digit 64 n [] refl

no-join : (xs ys : List ℕ) → list_any is_space xs ≡ false → list_any is_space ys ≡ false → list_any is_space (xs ++ ys) ≡ false
no-join [] ys one two = two
no-join (x ∷ xs) ys one two = by (is_space x) (list_any is_space xs) one (no-join xs ys)
  where
    by : (b c : Bool) → (b || c) ≡ false → (c ≡ false → list_any is_space ys ≡ false → list_any is_space (xs ++ ys) ≡ false) →
        (b || list_any is_space (xs ++ ys)) ≡ false
    by true c is rest = absurd (cc)
    by false c is rest = rest is two

no-line : (n : ℕ) → list_any is_space (decimal n ++ codes "\n") ≡ false
no-line n = no-join (decimal n) (codes "\n") (no-number n) refl

same-line : (front other : List ℕ) (one two : ℕ) → front ++ (outside_ending one).text ≡ other ++ (outside_ending two).text → outside_ending one ≡ outside_ending two
same-line front other one two same =
    ap (λ (line : List ℕ). record { status = 1; text = codes "error line " ++ line })
    (same-after (codes "error line") front other (decimal one ++ codes "\n") (decimal two ++ codes "\n") (no-line one) (no-line two) same)

-- ---- how a script stops

is-status : (n : ℕ) (ending : Ending) → ending.status ≡ n → (nat_eq ending.status 0) ≡ nat_eq n 0
is-status n ending is = ap (λ s. nat_eq s 0) is

stop-outside : (number : ℕ) (lines : List (List ℕ)) (whole : Bool) → (stop_at number lines whole).status ≡ 1 → stop_at number lines whole ≡ outside_ending number
stop-outside number [] true is = absurd (omega (arith, is))
stop-outside number [] false is = absurd (omega (arith, is))
stop-outside number (line ∷ later) whole is = by (is_long line) is
  where
    by : (long : Bool) → (cond long limit_ending (outside_ending number)).status ≡ 1 → cond long limit_ending (outside_ending number) ≡ outside_ending number
    by true is = absurd (omega (arith, is))
    by false is = refl

stop-limit : (number : ℕ) (lines : List (List ℕ)) (whole : Bool) → (stop_at number lines whole).status ≡ 6 → stop_at number lines whole ≡ limit_ending
stop-limit number [] true is = absurd (omega (arith, is))
stop-limit number [] false is = refl
stop-limit number (line ∷ later) whole is = by (is_long line) is
  where
    by : (long : Bool) → (cond long limit_ending (outside_ending number)).status ≡ 6 → cond long limit_ending (outside_ending number) ≡ limit_ending
    by true is = refl
    by false is = absurd (omega (arith, is))

stop-well : (number : ℕ) (lines : List (List ℕ)) (whole : Bool) → (stop_at number lines whole).status ≡ 0 → (stop_at number lines whole).text ≡ []
stop-well number [] true is = refl
stop-well number [] false is = absurd (omega (arith, is))
stop-well number (line ∷ later) whole is = by (is_long line) is
  where
    by : (long : Bool) → (cond long limit_ending (outside_ending number)).status ≡ 0 → (cond long limit_ending (outside_ending number)).text ≡ []
    by true is = absurd (omega (arith, is))
    by false is = absurd (omega (arith, is))

-- ---- what is owed

module _ (script : List ℕ) (status : ℕ) (text : List ℕ) (ends : script_ending script ≡ record { status = status; text = text }) where
  ending : written_first (report_of (script_turns script)) (script_stop script) ≡ record { status = status; text = text }
  ending = sym (reports-of_turns script) ∙ ends

  stop-status : (script_stop script).status ≡ status
  stop-status = ap (λ (e : Ending). e.status) ending

  text-parts : report_of (script_turns script) ++ (script_stop script).text ≡ text
  text-parts = ap (λ (e : Ending). e.text) ending

  owed : summary_ending script ≡ cond (nat_eq status 0) (record { status = 0; text = summary_text (report_of (script_turns script)) }) (script_stop script)
  owed = ap (λ (s : ℕ). cond (nat_eq s 0) (record { status = 0; text = summary_text (report_of (script_turns script)) }) (script_stop script)) stop-status

-- a script that ends well
pub owed-well : (script text : List ℕ) → script_ending script ≡ record { status = 0; text = text } → summary_ending script ≡ record { status = 0; text = summary_text text }
owed-well script text ends =
    let none : (script_stop script).text ≡ [] =
    stop-well (answered_of script + 1) (drop (answered_of script) (script_lines script)) (nat_le (length script) script_limit) (stop-status script 0 text ends) in
    let report : report_of (script_turns script) ≡ text =
    sym (append-nil (report_of (script_turns script))) ∙ ap (λ (t : List ℕ). report_of (script_turns script) ++ t) (sym none) ∙ text-parts script 0 text ends in
    owed script 0 text ends ∙ ap (λ (t : List ℕ). record { status = 0; text = summary_text t }) report

-- a script with a line outside the grammar
pub owed-outside : (script front : List ℕ) (line : ℕ) → script_ending script ≡ record { status = 1; text = front ++ (outside_ending line).text } →
    summary_ending script ≡ outside_ending line
owed-outside script front line ends =
    let is : script_stop script ≡ outside_ending (answered_of script + 1) =
    stop-outside (answered_of script + 1) (drop (answered_of script) (script_lines script)) (nat_le (length script) script_limit)
    (stop-status script 1 (front ++ (outside_ending line).text) ends) in
    owed script 1 (front ++ (outside_ending line).text) ends ∙ is
    ∙ same-line (report_of (script_turns script)) front (answered_of script + 1) line
    (ap (λ (e : Ending). report_of (script_turns script) ++ e.text) (sym is) ∙ text-parts script 1 (front ++ (outside_ending line).text) ends)

-- a script past a limit
pub owed-limit : (script text : List ℕ) → script_ending script ≡ record { status = 6; text = text } → summary_ending script ≡ limit_ending
owed-limit script text ends =
    owed script 6 text ends
    ∙ stop-limit (answered_of script + 1) (drop (answered_of script) (script_lines script)) (nat_le (length script) script_limit) (stop-status script 6 text ends)
