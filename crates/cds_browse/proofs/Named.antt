-- The row whose id a text is in plain decimal.
use Rattle.std.proofs.Common.{◌≡◌, ◌<◌, ◌≤◌, ◌^◌, ◌&&◌, ℕ, Bool, true, false, cond, nat_eq, List, [], ◌∷◌, Some, None, refl, sym, ◌∙◌, ap, arith, true≢false}
use Rattle.std.specs.Str.{bytes_eq}
use Rattle.std.specs.Fmt.{decimal}
use Rattle.std.proofs.lemmas.Bool.Decides.{nat_tests}
use Rattle.std.proofs.lemmas.Slice.Eq.{bytes_eq-Decides}
use Rattle.cds_base.specs.Number.{number_below}
use Rattle.cds_base.proofs.Plain.{decimal-read}
use Rattle.cds_object.specs.Object.{ObjectRow}
use Rattle.cds_object.specs.Tree.{row_of}
use Rattle.cds_store.specs.Views.{IdsFit}
use Rattle.cds_browse.specs.Paging.{has_id_text, row_named}

limit_fits : 2 ^ 32 ≤ 2 ^ 64
limit_fits = omega arith

read_back : (text : List ℕ) (id : ℕ) → id < 2 ^ 32 → text ≡ decimal id → number_below (2 ^ 32) text ≡ Some id
read_back text id fits is = ap (number_below (2 ^ 32)) is ∙ decimal-read (2 ^ 32) id limit_fits fits

pub same_as : (a b : ℕ) → a ≡ b → nat_eq a b ≡ true
same_as a b e = grind (arith, nat_tests)

pub are_same : (a b : ℕ) → nat_eq a b ≡ true → a ≡ b
are_same a b e = grind (arith, nat_tests)

-- a text that is read as a number is an id's exactly where the id is the number and the text is its own
by_number : (text : List ℕ) (id n : ℕ) → id < 2 ^ 32 → number_below (2 ^ 32) text ≡ Some n → bytes_eq text (decimal id) ≡ nat_eq id n && bytes_eq text (decimal n)
by_number text id n fits read = by (bytes_eq text (decimal id)) refl (nat_eq id n) refl
  where
    by : (b : Bool) → bytes_eq text (decimal id) ≡ b → (c : Bool) → nat_eq id n ≡ c → b ≡ c && bytes_eq text (decimal n)
    by true e true f = sym (ap (λ m. bytes_eq text (decimal m)) (sym (are_same id n f)) ∙ e)
    by true e false f =
        let is : Some id ≡ Some n = sym (read_back text id fits ((bytes_eq-Decides text (decimal id)).0 e)) ∙ read in
        let same : id ≡ n = cc in
        absurd (true≢false (sym (same_as id n same) ∙ f))
    by false e true f = sym (ap (λ m. bytes_eq text (decimal m)) (sym (are_same id n f)) ∙ e)
    by false e false f = refl

pub found_named : (text : List ℕ) (n : ℕ) (rows : List ObjectRow) → IdsFit rows → number_below (2 ^ 32) text ≡ Some n
    → row_named text rows ≡ cond (bytes_eq text (decimal n)) (row_of n rows) None
found_named text n [] fit read = by (bytes_eq text (decimal n))
  where
    by : (b : Bool) → None ≡ cond b (row_of n []) None
    by true = refl
    by false = refl
found_named text n (row ∷ rows) fit read =
    (λ i. cond (by_number text row.id n fit.0 read i) (Some row) (found_named text n rows fit.1 read i))
    ∙ by (nat_eq row.id n) (bytes_eq text (decimal n))
  where
    by : (b c : Bool) → cond (b && c) (Some row) (cond c (row_of n rows) None) ≡ cond c (cond b (Some row) (row_of n rows)) None
    by true true = refl
    by true false = refl
    by false true = refl
    by false false = refl

pub none_named : (text : List ℕ) (rows : List ObjectRow) → IdsFit rows → number_below (2 ^ 32) text ≡ None → row_named text rows ≡ None
none_named text [] fit read = refl
none_named text (row ∷ rows) fit read =
    ap (λ b. cond b (Some row) (row_named text rows)) (by (bytes_eq text (decimal row.id)) refl) ∙ none_named text rows fit.1 read
  where
    by : (b : Bool) → bytes_eq text (decimal row.id) ≡ b → b ≡ false
    by true e =
        let is : Some row.id ≡ None = sym (read_back text row.id fit.0 ((bytes_eq-Decides text (decimal row.id)).0 e)) ∙ read in
        absurd (cc)
    by false e = refl

-- what is found of a text that is a number's
pub named_by : (text : List ℕ) (n : ℕ) (rows : List ObjectRow) → IdsFit rows → number_below (2 ^ 32) text ≡ Some n → bytes_eq text (decimal n) ≡ true
    → row_named text rows ≡ row_of n rows
named_by text n rows fit read is = found_named text n rows fit read ∙ ap (λ b. cond b (row_of n rows) None) is

pub not_named : (text : List ℕ) (n : ℕ) (rows : List ObjectRow) → IdsFit rows → number_below (2 ^ 32) text ≡ Some n → bytes_eq text (decimal n) ≡ false
    → row_named text rows ≡ None
not_named text n rows fit read is = found_named text n rows fit read ∙ ap (λ b. cond b (row_of n rows) None) is

-- ---- the row that a text names

has_name : (text : List ℕ) (row : ObjectRow) (rows : List ObjectRow) → row_named text rows ≡ Some row → has_id_text text row ≡ true
has_name text row [] found = absurd (cc)
has_name text row (other ∷ rows) found = by (has_id_text text other) refl found (has_name text row rows)
  where
    by : (b : Bool) → has_id_text text other ≡ b → cond b (Some other) (row_named text rows) ≡ Some row
        → (row_named text rows ≡ Some row → has_id_text text row ≡ true) → has_id_text text row ≡ true
    by true test is further = let same : other ≡ row = cc in ap (has_id_text text) (sym same) ∙ test
    by false test is further = further is

-- a row that a text does not name has another id than the one that it names
pub other_id : (text : List ℕ) (row other : ObjectRow) (rows : List ObjectRow) → row_named text rows ≡ Some row → has_id_text text other ≡ false → nat_eq other.id row.id ≡ false
other_id text row other rows found test = by (nat_eq other.id row.id) refl
  where
    by : (b : Bool) → nat_eq other.id row.id ≡ b → b ≡ false
    by true e =
        let same : has_id_text text other ≡ has_id_text text row = ap (λ n. bytes_eq text (decimal n)) (are_same other.id row.id e) in
        absurd (true≢false (sym (has_name text row rows found) ∙ sym same ∙ test))
    by false e = refl

-- it is the row of its id
pub named_row : (text : List ℕ) (row : ObjectRow) (rows : List ObjectRow) → row_named text rows ≡ Some row → row_of row.id rows ≡ Some row
named_row text row [] found = absurd (cc)
named_row text row (other ∷ rows) found = by (has_id_text text other) refl found (named_row text row rows)
  where
    by : (b : Bool) → has_id_text text other ≡ b → cond b (Some other) (row_named text rows) ≡ Some row → (row_named text rows ≡ Some row → row_of row.id rows ≡ Some row)
        → cond (nat_eq other.id row.id) (Some other) (row_of row.id rows) ≡ Some row
    by true test is further =
        let same : other ≡ row = cc in
        ap (λ b. cond b (Some other) (row_of row.id rows)) (same_as other.id row.id (ap (λ (r : ObjectRow). r.id) same)) ∙ ap Some same
    by false test is further = ap (λ b. cond b (Some other) (row_of row.id rows)) (other_id text row other rows is test) ∙ further is
