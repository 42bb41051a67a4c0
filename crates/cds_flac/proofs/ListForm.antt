-- Lists of blocks: the reading and the form say the same.
use Rattle.std.proofs.Common.{◌≡◌, ℕ, zero, suc, ◌+◌, ◌-◌, ◌<◌, ◌≤◌, Bool, true, false, cond, ◌&&◌, List, [], ◌∷◌, ◌++◌, length, Option, Some, None, MatchOption, find, Ok, refl, sym, ap, subst, ◌∙◌, ◌⊎◌, inl, inr, arith, append_assoc, length-append}
use Rattle.std.specs.List.{flat_map}
use Rattle.cds_flac.specs.declared.block.Header.{Header}
use Rattle.cds_object.specs.declared.info.Comment.{Comment}
use Rattle.cds_flac.specs.Step.{Step, after}
use Rattle.cds_flac.specs.Reading.{block_body, blocks_from, header_at, is_first_comment, is_last, kind_of}
use Rattle.cds_flac.specs.Form.{Block, block_bytes, IsBlock, EachIsBlock, LastIsLast, is_comment_block, FirstComments, SaysComments}
use Rattle.cds_flac.proofs.Walks.{walk-last, walk-more}
use Rattle.cds_flac.proofs.Shapes.{after-was, same_pair}
use Rattle.cds_flac.proofs.WalkForm.{HeaderRead, header-was, header-front, Adds, PartRead, part-was, part-front}

-- the comments of further blocks, behind those that were found
abbrev pub FoundIn : Option (List Comment) → List Block → Option (List Comment) → Type 0
FoundIn (Some comments) blocks now = now ≡ Some comments
FoundIn None blocks now = FirstComments blocks now

and-false : (b : Bool) → (b && false) ≡ false
and-false true = refl
and-false false = refl

and-true : (b : Bool) → (b && true) ≡ b
and-true true = refl
and-true false = refl

unfoldable pub SaidBy : Option (List Comment) → Block → Type 0
SaidBy now b = (comments : List Comment) × (now ≡ Some comments) × SaysComments b.body comments

pub adds-then : (b : Block) (more : List Block) (found now end : Option (List Comment)) → Adds (is_first_comment (kind_of b.head) found) b.body found now → FoundIn now more end → FoundIn found (b ∷ more) end
unfolding SaidBy
adds-then b more (Some comments) now end adds later =
    let same : now ≡ Some comments = subst (λ t. Adds t b.body (Some comments) now) (and-false (is_comment_block b)) adds in
    subst (λ f. FoundIn f more end) same later
adds-then b more None now end adds later =
    by (is_comment_block b) refl (subst (λ t. Adds t b.body None now) (and-true (is_comment_block b)) adds)
  where
    by : (t : Bool) → is_comment_block b ≡ t → Adds t b.body None now → FirstComments (b ∷ more) end
    by true e (comments, is, says) =
        let last : end ≡ Some comments = subst (λ f. FoundIn f more end) is later in
        subst (λ t. MatchOption (cond t (Some b) (find is_comment_block more)) (end ≡ None) (SaidBy end)) (sym e) (comments, last, says)
    by false e is =
        let last : FirstComments more end = subst (λ f. FoundIn f more end) is later in
        subst (λ t. MatchOption (cond t (Some b) (find is_comment_block more)) (end ≡ None) (SaidBy end)) (sym e) last

pub adds-apart : (b : Block) (more : List Block) (found end : Option (List Comment)) → FoundIn found (b ∷ more) end → (now : Option (List Comment)) × Adds (is_first_comment (kind_of b.head) found) b.body found now × FoundIn now more end
unfolding SaidBy
adds-apart b more (Some comments) end is =
    let same : ◌≡◌ {A = Option (List Comment)} (Some comments) (Some comments) = refl in
    (Some comments, subst (λ t. Adds t b.body (Some comments) (Some comments)) (sym (and-false (is_comment_block b))) same, is)
adds-apart b more None end is = by (is_comment_block b) refl where
  by : (t : Bool) → is_comment_block b ≡ t → (now : Option (List Comment)) × Adds (is_first_comment (kind_of b.head) None) b.body None now × FoundIn now more end
  by true e =
      let here : SaidBy end b = subst (λ t. MatchOption (cond t (Some b) (find is_comment_block more)) (end ≡ None) (SaidBy end)) e is in
      let counts : is_first_comment (kind_of b.head) None ≡ true = and-true (is_comment_block b) ∙ e in
      let adds : Adds true b.body None (Some here.0) = (here.0, refl, here.2) in
      (Some here.0, subst (λ t. Adds t b.body None (Some here.0)) (sym counts) adds, here.1)
  by false e =
      let later : FirstComments more end = subst (λ t. MatchOption (cond t (Some b) (find is_comment_block more)) (end ≡ None) (SaidBy end)) e is in
      let counts : is_first_comment (kind_of b.head) None ≡ false = and-true (is_comment_block b) ∙ e in
      let none : ◌≡◌ {A = Option (List Comment)} None None = refl in
      (None, subst (λ t. Adds t b.body None None) (sym counts) none, later)

-- blocks that were read
pub record WalkRead (at : ℕ) (left rest : List ℕ) (found now : Option (List Comment)) : Type 0 where
  pub first : Block
  pub more : List Block
  pub spelled : left ≡ flat_map block_bytes (first ∷ more) ++ rest
  pub each_is_block : EachIsBlock (first ∷ more)
  pub last_is_last : LastIsLast first more
  pub within : at + length (flat_map block_bytes (first ∷ more)) ≤ 67108868
  pub comments : FoundIn found (first ∷ more) now

pub choice-was : {A : Type 0} (b : Bool) (x y : Step A) (result : A × List ℕ) → cond b x y ≡ Ok result → ((b ≡ true) × (x ≡ Ok result)) ⊎ ((b ≡ false) × (y ≡ Ok result))
choice-was true x y result e = inl (refl, e)
choice-was false x y result e = inr (refl, e)

pub block_spelled : (head : ℕ) (size body flat tail left rest behind : List ℕ) → left ≡ head ∷ (size ++ rest) → rest ≡ body ++ behind → behind ≡ flat ++ tail → left ≡ ((head ∷ (size ++ body)) ++ flat) ++ tail
block_spelled head size body flat tail left rest behind a b c =
    a
    ∙ ap (λ xs. head ∷ (size ++ xs)) (b ∙ ap (λ xs. body ++ xs) c)
    ∙ ap (λ xs. head ∷ xs) (sym (append_assoc size body (flat ++ tail)) ∙ sym (append_assoc (size ++ body) flat tail))

pub block_long : (head : ℕ) (size body flat : List ℕ) → length size ≡ 3 → length ((head ∷ (size ++ body)) ++ flat) ≡ 4 + length body + length flat
block_long head size body flat h = omega (arith, h, length-append (head ∷ (size ++ body)) flat, length-append size body)

module _ (at : ℕ) (left rest behind tail : List ℕ) (header : Header) (found now end : Option (List Comment)) (read : HeaderRead at left header rest) (part : PartRead header.length rest behind (is_first_comment header.kind found) found now) where
  this_block : Block
  this_block = record { head = read.head; size = read.size; body = part.body }

  is_block : IsBlock this_block
  unfolding this_block
  is_block = record { size_bytes = read.size_bytes; size_says = read.size_says ∙ sym part.long; allowed = read.allowed }

  adds_here : Adds (is_first_comment (kind_of read.head) found) part.body found now
  adds_here = subst (λ k. Adds (is_first_comment k found) part.body found now) (sym read.kind) part.adds

  last_block : header.last ≡ true → behind ≡ tail → now ≡ end → WalkRead at left tail found end
  unfolding this_block
  last_block last same is = record {
    first = this_block;
    more = [];
    spelled = block_spelled read.head read.size part.body [] tail left rest behind read.spelled part.spelled same;
    each_is_block = (is_block, tt);
    last_is_last = read.last ∙ last;
    within = omega (arith, read.within, part.long, block_long read.head read.size part.body [] read.size_bytes);
    comments = adds-then this_block [] found now end adds_here (subst (λ f. FoundIn now [] f) is (none_after now));
  }
    where
      none_after : (f : Option (List Comment)) → FoundIn f [] f
      none_after None = refl
      none_after (Some comments) = refl

  more_blocks : header.last ≡ false → WalkRead (at + 4 + header.length) behind tail now end → WalkRead at left tail found end
  unfolding this_block
  more_blocks last later =
      let flat = flat_map block_bytes (later.first ∷ later.more) in
      record {
        first = this_block;
        more = later.first ∷ later.more;
        spelled = block_spelled read.head read.size part.body flat tail left rest behind read.spelled part.spelled later.spelled;
        each_is_block = (is_block, later.each_is_block);
        last_is_last = (read.last ∙ last, later.last_is_last);
        within = omega (arith, later.within, part.long, block_long read.head read.size part.body flat read.size_bytes);
        comments = adds-then this_block (later.first ∷ later.more) found now end adds_here later.comments;
      }

pub walk-was : (fewer : ℕ) (found : Option (List Comment)) (at : ℕ) (left : List ℕ) (result : Option (List Comment) × List ℕ) → blocks_from fewer found at left ≡ Ok result → WalkRead at left result.1 found result.0
walk-was zero found at left result e = absurd (cc)
walk-was (suc fewer) found at left result e =
    let next : Header → List ℕ → Step (Option (List Comment)) = λ header rest. after (block_body header.kind found (at + 4) header.length rest) (λ found rest. cond header.last (Ok (found, rest)) (blocks_from fewer found (at + 4 + header.length) rest)) in
    let was = after-was (header_at at left) next result e in
    let header = was.0.0 in
    let rest = was.0.1 in
    let read = header-was at left was.0 was.1 in
    let ends : Option (List Comment) → List ℕ → Step (Option (List Comment)) = λ found rest. cond header.last (Ok (found, rest)) (blocks_from fewer found (at + 4 + header.length) rest) in
    let body = after-was (block_body header.kind found (at + 4) header.length rest) ends result was.2 in
    let part = part-was header.kind found (at + 4) header.length rest body.0 body.1 in
    let ended : Step (Option (List Comment)) = Ok body.0 in
    let going = blocks_from fewer body.0.0 (at + 4 + header.length) body.0.1 in
    elim (choice-was header.last ended going result body.2) [
      | inl h ↦ (let parts = same_pair body.0 result h.1 in last_block at left rest body.0.1 result.1 header found body.0.0 result.0 read part h.0 parts.1 parts.0)
      | inr h ↦ more_blocks at left rest body.0.1 result.1 header found body.0.0 result.0 read part h.0 (walk-was fewer body.0.0 (at + 4 + header.length) body.0.1 result h.1)
    ]

pub head_apart : (b : Block) (flat rest : List ℕ) → (block_bytes b ++ flat) ++ rest ≡ b.head ∷ (b.size ++ (b.body ++ (flat ++ rest)))
head_apart b flat rest =
    ap (λ xs. b.head ∷ xs) (append_assoc (b.size ++ b.body) flat rest ∙ append_assoc b.size b.body (flat ++ rest))

pub walk-front : (first : Block) (more : List Block) (fewer : ℕ) (found : Option (List Comment)) (at : ℕ) (rest : List ℕ) (end : Option (List Comment)) → EachIsBlock (first ∷ more) → LastIsLast first more → at + length (flat_map block_bytes (first ∷ more)) ≤ 67108868 → 67108868 < fewer + at → FoundIn found (first ∷ more) end → blocks_from fewer found at (flat_map block_bytes (first ∷ more) ++ rest) ≡ Ok (end, rest)
walk-front first [] fewer found at rest end each last within fuel comments =
    let parts = adds-apart first [] found end comments in
    let long = block_long first.head first.size first.body [] each.0.size_bytes in
    let some : 0 < fewer = omega (arith, fuel, within) in
    let header : Header = record { last = is_last first.head; kind = kind_of first.head; length = length first.body } in
    let left = first.head ∷ (first.size ++ (first.body ++ rest)) in
    let read = header-front at first (first.body ++ rest) each.0 (omega (arith, within, long)) in
    let body = part-front (kind_of first.head) found (at + 4) first.body rest parts.0 parts.1 in
    ap (λ left. blocks_from fewer found at left) (head_apart first [] rest)
    ∙ walk-last fewer found at left some header (first.body ++ rest) rest parts.0 read body last
    ∙ ap (λ f. Ok (f, rest)) (same_end parts.0 end parts.2)
  where
    same_end : (now end : Option (List Comment)) → FoundIn now [] end → now ≡ end
    same_end None end is = sym is
    same_end (Some comments) end is = sym is
walk-front first (next ∷ more) fewer found at rest end each last within fuel comments =
    let parts = adds-apart first (next ∷ more) found end comments in
    let flat = flat_map block_bytes (next ∷ more) in
    let long = block_long first.head first.size first.body flat each.0.size_bytes in
    let some : 0 < fewer = omega (arith, fuel, within) in
    let header : Header = record { last = is_last first.head; kind = kind_of first.head; length = length first.body } in
    let behind = flat ++ rest in
    let left = first.head ∷ (first.size ++ (first.body ++ behind)) in
    let read = header-front at first (first.body ++ behind) each.0 (omega (arith, within, long)) in
    let body = part-front (kind_of first.head) found (at + 4) first.body behind parts.0 parts.1 in
    ap (λ left. blocks_from fewer found at left) (head_apart first flat rest)
    ∙ walk-more fewer found at left some header (first.body ++ behind) behind parts.0 read body last.0
    ∙ walk-front next more (fewer - 1) parts.0 (at + 4 + length first.body) rest end each.1 last.1 (omega (arith, within, long)) (omega (arith, fuel, some)) parts.2
