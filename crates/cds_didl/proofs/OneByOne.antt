-- Rows one by one.
use Rattle.std.proofs.Common.{◌≡◌, ◌+◌, ◌<◌, ◌≤◌, ℕ, Bool, true, false, cond, codes, Option, Some, None, List, [], ◌∷◌, ◌++◌, length, map, Result, Ok, Err, refl, ap, subst, arith, append_assoc}
use Rattle.cds_markup.specs.Document.{Meaning}
use Rattle.cds_object.specs.Object.{ObjectRow}
use Rattle.cds_didl.specs.declared.error.Fault.{Fault}
use Rattle.cds_didl.specs.declared.error.Fault.TheVariants.{Root, NotRow, BadRow, OutOfMemory}
use Rattle.cds_markup.specs.Children.{is_named, elements_in, nodes_in}
use Rattle.cds_didl.specs.Spelled.{didl_space}
use Rattle.cds_didl.specs.Reading.{container_of, item_of}
use Rattle.cds_didl.specs.Didl.{row_or, row_said, and_rows, rows_from, rows_said}

-- rows before what others say
abbrev pub behind : List ObjectRow → Result (List ObjectRow) Fault → Result (List ObjectRow) Fault
behind rows (Err fault) = Err fault
behind rows (Ok more) = Ok (rows ++ more)

pub behind-none : (said : Result (List ObjectRow) Fault) → behind [] said ≡ said
behind-none (Err fault) = refl
behind-none (Ok more) = refl

pub one-more : (rows : List ObjectRow) (row : ObjectRow) (said : Result (List ObjectRow) Fault) → behind (rows ++ row ∷ []) said ≡ behind rows (and_rows (Ok row) said)
one-more rows row (Err fault) = refl
one-more rows row (Ok more) = ap Ok (append_assoc rows (row ∷ []) more)

pub a-fault : (rows : List ObjectRow) (fault : Fault) (said : Result (List ObjectRow) Fault) → behind rows (and_rows (Err fault) said) ≡ Err fault
a-fault rows fault said = refl

-- the number of the child in a fault
abbrev pub Inside : ℕ → Fault → Type 0
Inside limit (NotRow number) = number < limit
Inside limit (BadRow number) = number < limit
Inside limit Root = Unit {0}
Inside limit OutOfMemory = Unit {0}

wider : (fault : Fault) (m n : ℕ) → m ≤ n → Inside m fault → Inside n fault
wider (NotRow number) m n h is = omega arith
wider (BadRow number) m n h is = omega arith
wider Root m n h is = tt
wider OutOfMemory m n h is = tt

row-same : (a b : Fault) → ◌≡◌ {A = Result ObjectRow Fault} (Err a) (Err b) → a ≡ b
row-same a b e = cc

rows-same : (a b : Fault) → ◌≡◌ {A = Result (List ObjectRow) Fault} (Err a) (Err b) → a ≡ b
rows-same a b e = cc

row-inside : (k : ℕ) (element : Meaning) (fault : Fault) → row_said k element ≡ Err fault → Inside (k + 1) fault
unfolding row_said
row-inside k element fault is =
    by (is_named didl_space (codes "container") element) (is_named didl_space (codes "item") element) (container_of element) (item_of element) is
  where
    bad : ◌≡◌ {A = Result ObjectRow Fault} (Err (BadRow k)) (Err fault) → Inside (k + 1) fault
    bad e = subst (Inside (k + 1)) (row-same (BadRow k) fault e) (omega arith)

    other : ◌≡◌ {A = Result ObjectRow Fault} (Err (NotRow k)) (Err fault) → Inside (k + 1) fault
    other e = subst (Inside (k + 1)) (row-same (NotRow k) fault e) (omega arith)

    by : (a b : Bool) (c i : Option ObjectRow) → cond a (row_or k c) (cond b (row_or k i) (Err (NotRow k))) ≡ Err fault → Inside (k + 1) fault
    by true b None i e = bad e
    by true b (Some row) i e = absurd (cc)
    by false true c None e = bad e
    by false true c (Some row) e = absurd (cc)
    by false false c i e = other e

rows-inside : (elements : List Meaning) (k : ℕ) (fault : Fault) → rows_from k elements ≡ Err fault → Inside (k + length elements) fault
rows-inside [] k fault is = absurd (cc)
rows-inside (element ∷ more) k fault is =
    by (row_said k element) refl (rows_from (k + 1) more) refl (row-inside k element) (rows-inside more (k + 1)) is
  where
    by : (r : Result ObjectRow Fault) → row_said k element ≡ r → (rs : Result (List ObjectRow) Fault) → rows_from (k + 1) more ≡ rs
        → ((f : Fault) → row_said k element ≡ Err f → Inside (k + 1) f) → ((f : Fault) → rows_from (k + 1) more ≡ Err f → Inside (k + 1 + length more) f)
        → and_rows r rs ≡ Err fault → Inside (k + length (element ∷ more)) fault
    by (Err f) one rs two here there e =
        wider fault (k + 1) (k + length (element ∷ more)) (omega arith) (subst (Inside (k + 1)) (rows-same f fault e) (here f one))
    by (Ok row) one (Err f) two here there e =
        wider fault (k + 1 + length more) (k + length (element ∷ more)) (omega arith) (subst (Inside (k + 1 + length more)) (rows-same f fault e) (there f two))
    by (Ok row) one (Ok rows) two here there e = absurd (cc)

pub said-inside : (element : Meaning) (fault : Fault) → rows_said element ≡ Err fault → Inside (length (elements_in (nodes_in element))) fault
unfolding rows_said
said-inside element fault is = by (is_named didl_space (codes "DIDL-Lite") element) is where
  by : (b : Bool) → cond b (rows_from 0 (elements_in (nodes_in element))) (Err Root) ≡ Err fault → Inside (length (elements_in (nodes_in element))) fault
  by true e = wider fault (0 + length (elements_in (nodes_in element))) (length (elements_in (nodes_in element))) (omega arith) (rows-inside (elements_in (nodes_in element)) 0 fault e)
  by false e = subst (Inside (length (elements_in (nodes_in element)))) (rows-same Root fault e) tt

pub map-twice : {X Y Z : Type 0} (f : X → Y) (g : Y → Z) (xs : List X) → map (λ x. g (f x)) xs ≡ map g (map f xs)
map-twice f g [] = refl
map-twice f g (x ∷ xs) = ap (λ l. g (f x) ∷ l) (map-twice f g xs)
