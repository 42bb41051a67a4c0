-- The ends of subtree updates are few: right before an addition that is the last of one stands a change whose event is short, or an
-- addition that is the last of none.
use Rattle.std.proofs.Common.{◌≡◌, ◌⊎◌, inl, inr, ◌+◌, ◌*◌, ◌≤◌, ℕ, zero, suc, Bool, true, false, cond, ◌&&◌, ◌||◌, List, [], ◌∷◌, ◌++◌, length, refl, sym, ap, ◌∙◌, subst, arith, true≢false, append_assoc, Less, Equal, Greater, is_eq}
use Rattle.std.specs.List.{list_any}
use Rattle.std.specs.declared.cmp.Ordering.{Ordering}
use Rattle.std.specs.Ordering.{nat_cmp, ordering_then, ordering_reverse}
use Rattle.std.specs.Cmp.{tied_itself}
use Rattle.std.specs.Cmp.Lexicographic.{slice_cmp, bytes_decides, nat_list_cmp_total, texts_ties}
use Rattle.cds_object.specs.Path.{path_cmp, same_path}
use Rattle.cds_object.specs.declared.content.Content.{Content}
use Rattle.cds_object.specs.declared.event.Event.{Event}
use Rattle.cds_object.specs.declared.event.Event.TheVariants.{StDone}
use Rattle.cds_catalog.specs.Library.{FolderMap, found}
use Rattle.cds_catalog.specs.History.{place_of, is_addition}
use Rattle.cds_catalog.specs.Laws.{IsLibrary}
use Rattle.cds_catalog.specs.Catalog.{id_of}
use Rattle.cds_catalog.specs.declared.change.Change.{Change}
use Rattle.cds_catalog.specs.declared.change.Change.TheVariants.{Deletion, Addition, Modification}
use Rattle.cds_catalog.proofs.Paths.{paths_total, same_path_itself, same_path_Less}
use Rattle.cds_changes.specs.Events.{done_events, heads, heads_done, is_alike, is_below, is_in_subtree, is_within}
use Rattle.cds_changes.specs.MarkLaws.{TellsEnd}
use Rattle.cds_changes.specs.Subtrees.{InOrder, Follows, is_over}
use Rattle.cds_changes.proofs.MarkedFolders.{ends_are_told_once-proof}
use Rattle.cds_changes.proofs.Marks.{order-behind}
use Rattle.cds_changes.proofs.Orderly.{found-orderly}
use Rattle.cds_changes.proofs.Places.{below-before, both-parts, not-below-itself, over-parts}
use Rattle.cds_commands.proofs.Among.{Among, among-all, among-append}

abbrev Place : Type 0
Place = List (List ℕ)

-- ---- lists

or-true : (b c : Bool) → (b ≡ true) ⊎ (c ≡ true) → b || c ≡ true
or-true true c m = refl
or-true false c (inl k) = absurd (true≢false (sym k))
or-true false c (inr k) = k

any-among : (test : Change → Bool) (xs : List Change) (x : Change) → Among x xs → test x ≡ true → list_any test xs ≡ true
any-among test [] x a e = absurd a
any-among test (y ∷ ys) x a e = by a (λ b. any-among test ys x b e)
  where
    by : (x ≡ y) ⊎ Among x ys → (Among x ys → list_any test ys ≡ true) → test y || list_any test ys ≡ true
    by (inl s) r = or-true (test y) (list_any test ys) (inl (ap test (sym s) ∙ e))
    by (inr b) r = or-true (test y) (list_any test ys) (inr (r b))

any-found : (test : Change → Bool) (xs : List Change) → list_any test xs ≡ true → (x : Change) × Among x xs × (test x ≡ true)
any-found test [] e = absurd (true≢false (sym e))
any-found test (y ∷ ys) e = by (test y) refl e (λ d. any-found test ys d)
  where
    by : (b : Bool) → test y ≡ b → b || list_any test ys ≡ true → (list_any test ys ≡ true → (x : Change) × Among x ys × (test x ≡ true))
        → (x : Change) × Among x (y ∷ ys) × (test x ≡ true)
    by true t d r = (y, inl refl, t)
    by false t d r = let found = r d in (found.0, inr found.1, found.2)

any-behind : (test : Change → Bool) (xs ys : List Change) → list_any test ys ≡ true → list_any test (xs ++ ys) ≡ true
any-behind test [] ys e = e
any-behind test (x ∷ xs) ys e = or-true (test x) (list_any test (xs ++ ys)) (inr (any-behind test xs ys e))

-- ---- what lies between a place and one below it, in order, is below it too

over-cons : (n k : List ℕ) (h p : Place) → n ≡ k → is_over h p ≡ true → is_over (n ∷ h) (k ∷ p) ≡ true
over-cons n k h p e o = (λ i. ((bytes_decides n k).1 e i && same_path h p) || ((bytes_decides n k).1 e i && is_below h p)) ∙ o

no-greater : Greater ≡ Less → ⊥
no-greater e = absurd (cc)

convex : (h p c : Place) → path_cmp h p ≡ Less → path_cmp p c ≡ Less → is_over h c ≡ true → is_over h p ≡ true
convex [] p c l m o = by p
  where
    by : (q : Place) → is_over [] q ≡ true
    by [] = refl
    by (k ∷ q) = refl
convex (n ∷ h) [] c l m o = absurd (no-greater l)
convex (n ∷ h) (k ∷ p) [] l m o = absurd (true≢false (sym o))
convex (n ∷ h) (k ∷ p) (x ∷ c) l m o = by (slice_cmp nat_cmp n k) refl l (λ a b. convex h p c a b parts.1)
  where
    parts : (n ≡ x) × (is_over h c ≡ true)
    parts = over-parts n x h c o

    by : (r : Ordering) → slice_cmp nat_cmp n k ≡ r → ordering_then r (path_cmp h p) ≡ Less
        → (path_cmp h p ≡ Less → path_cmp p c ≡ Less → is_over h p ≡ true) → is_over (n ∷ h) (k ∷ p) ≡ true
    by Equal e a r =
        let same : n ≡ k = (bytes_decides n k).0 (texts_ties n k ∙ ap is_eq e) in
        let step : path_cmp (x ∷ p) (x ∷ c) ≡ Less = sym (ap (λ (y : List ℕ). path_cmp (y ∷ p) (x ∷ c)) (sym same ∙ parts.0)) ∙ m in
        over-cons n k h p same (r a (sym (ap (λ r. ordering_then r (path_cmp p c)) (tied_itself nat_list_cmp_total x)) ∙ step))
    by Less e a r =
        let back : slice_cmp nat_cmp k x ≡ Greater =
        ap (slice_cmp nat_cmp k) (sym parts.0) ∙ nat_list_cmp_total.antisymm k n ∙ ap ordering_reverse e in
        absurd (no-greater (sym (ap (λ r. ordering_then r (path_cmp p c)) back) ∙ m))
    by Greater e a r = absurd (no-greater a)

-- ---- how many ends come with a change

abbrev pub ends : List Change → Change → ℕ
ends scan c = length (heads_done scan c)

told-ends : (number : ℕ) (changes ends : List Change) → length (done_events number changes ends) ≡ length ends
told-ends number changes [] = refl
told-ends number changes (head ∷ ends) = ap suc (told-ends number changes ends)

-- a head whose subtree update it belongs to
record HasHead (scan later : List Change) (c : Change) : Type 0 where
  head : Change
  among : Among head scan
  heads_it : heads scan head ≡ true
  within : is_within head c ≡ true
  told : ends scan c ≡ cond (list_any (is_within head) later) 0 1

count-cond : (b : Bool) (event : Event) → length (cond b [] (event ∷ [])) ≡ cond b 0 1
count-cond true event = refl
count-cond false event = refl

which : (scan later : List Change) (c : Change) → TellsEnd scan later c → (ends scan c ≡ 0) ⊎ HasHead scan later c
which scan later c tells = by (is_in_subtree scan c) refl
  where
    by : (b : Bool) → is_in_subtree scan c ≡ b → (ends scan c ≡ 0) ⊎ HasHead scan later c
    by false e = inl (sym (told-ends 0 [] (heads_done scan c)) ∙ ap length (tells.none e 0 []))
    by true e =
        let f = any-found (λ head. heads scan head && is_within head c) scan e in
        let both = both-parts (heads scan f.0) (is_within f.0 c) f.2 in
        inr (record {
          head = f.0;
          among = f.1;
          heads_it = both.0;
          within = both.1;
          told = sym (told-ends 0 [] (heads_done scan c))
              ∙ ap length (among-all (λ head. heads scan head ≡ true → is_within head c ≡ true → (number : ℕ) (changes : List Change) →
              done_events number changes (heads_done scan c)
              ≡ cond (list_any (is_within head) later) [] (StDone (id_of changes (place_of head)) number ∷ [])) scan f.0 tells.one f.1 both.0 both.1 0 [])
              ∙ count-cond (list_any (is_within f.0) later) (StDone (id_of [] (place_of f.0)) 0);
        })

pub one-end : (scan later : List Change) (c : Change) → TellsEnd scan later c → ends scan c ≤ 1
one-end scan later c tells = by (which scan later c tells)
  where
    few : (b : Bool) → cond b 0 1 ≤ 1
    few true = omega arith
    few false = omega arith

    by : (ends scan c ≡ 0) ⊎ HasHead scan later c → ends scan c ≤ 1
    by (inl e) = omega (arith, e)
    by (inr h) = let t = h.told in let l = few (list_any (is_within h.head) later) in omega (arith, t, l)

-- ---- the change before an addition that is the last of a subtree update

-- the bytes of the event of a change, but for those of ends
abbrev pub base : Change → ℕ
base (Deletion path) = 99
base (Addition path content) = 188
base (Modification path content) = 99

-- the bytes of all events of changes of a scan, the newest first
abbrev pub cost : List Change → List Change → ℕ
cost scan [] = 0
cost scan (c ∷ rest) = base c + 76 * ends scan c + cost scan rest

alike-addition : (head : Change) (path : Place) (content : Content) → is_alike head (Addition path content) ≡ true
    → (at : Place) × (said : Content) × (head ≡ Addition at said)
alike-addition (Deletion at) path content e = absurd (true≢false (sym e))
alike-addition (Addition at said) path content e = (at, said, refl)
alike-addition (Modification at said) path content e = absurd (true≢false (sym e))

module _ (old new : FolderMap) (is_old : IsLibrary old) (is_new : IsLibrary new) where
  abbrev scan : List Change
  scan = found old new

  tells : (later earlier : List Change) (c : Change) → scan ≡ later ++ c ∷ earlier → TellsEnd scan later c
  tells later earlier c parted = ends_are_told_once-proof old new is_old is_new later earlier c parted

  ordered : (later earlier : List Change) (c : Change) → scan ≡ later ++ c ∷ earlier → InOrder earlier × Follows c earlier
  ordered later earlier c parted = order-behind later (c ∷ earlier) (subst InOrder parted (found-orderly old new is_old is_new).in_order)

  -- a head of an addition that is the last of its subtree update stands before it
  stands-before : (later earlier : List Change) (path : Place) (content : Content) → scan ≡ later ++ Addition path content ∷ earlier
      → (at : Place) (said : Content) → Among (Addition at said) scan → heads scan (Addition at said) ≡ true → is_within (Addition at said) (Addition path content) ≡ true
      → list_any (is_within (Addition at said)) later ≡ false → Among (Addition at said) earlier
  stands-before later earlier path content parted at said among head within last =
      by (among-append later (Addition path content ∷ earlier) (Addition at said) (subst (Among (Addition at said)) parted among))
    where
      itself : is_within (Addition at said) (Addition at said) ≡ true
      itself = or-true (same_path at at) (is_below at at) (inl (same_path_itself at))

      -- it is not the addition itself, since what lies below that comes later
      not-itself : Addition at said ≡ Addition path content → ⊥
      not-itself e =
          let f = any-found (λ other. is_alike (Addition at said) other && is_below at (place_of other)) scan (both-parts _ _ head).0 in
          place f.0 f.2 (among-append later (Addition path content ∷ earlier) f.0 (subst (Among f.0) parted f.1))
        where
          same : at ≡ path
          same = ap place_of e

          follows : Follows (Addition path content) earlier
          follows = (ordered later earlier (Addition path content) parted).1

          lower : (o : Change) → is_alike (Addition at said) o && is_below at (place_of o) ≡ true → (Among o later) ⊎ ((o ≡ Addition path content) ⊎ Among o earlier) → ⊥
          lower o below (inl a) =
              let parts = both-parts (is_alike (Addition at said) o) (is_below at (place_of o)) below in
              true≢false (sym (any-among (is_within (Addition at said)) later o a
              (λ i. parts.0 i && or-true (same_path at (place_of o)) (is_below at (place_of o)) (inr parts.1) i)) ∙ last)
          lower o below (inr (inl k)) =
              let parts = both-parts (is_alike (Addition at said) o) (is_below at (place_of o)) below in
              true≢false (sym parts.1 ∙ (λ i. is_below (same i) (place_of (k i))) ∙ not-below-itself path)
          lower (Deletion q) below (inr (inr a)) = true≢false (sym below)
          lower (Modification q s) below (inr (inr a)) = true≢false (sym below)
          lower (Addition q s) below (inr (inr a)) =
              let before = among-all (λ change. is_addition change ≡ true → path_cmp (place_of change) path ≡ Less) earlier (Addition q s) follows a refl in
              let after = below-before at q below in
              true≢false (sym (same_path_itself path) ∙ same_path_Less path path (paths_total.trans path q path (sym (ap (λ t. path_cmp t q) same) ∙ after) before))

          place : (o : Change) → is_alike (Addition at said) o && is_below at (place_of o) ≡ true → Among o later ⊎ Among o (Addition path content ∷ earlier) → ⊥
          place o below (inl a) = lower o below (inl a)
          place o below (inr a) = lower o below (inr a)

      by : Among (Addition at said) later ⊎ Among (Addition at said) (Addition path content ∷ earlier) → Among (Addition at said) earlier
      by (inl a) = absurd (true≢false (sym (any-among (is_within (Addition at said)) later (Addition at said) a itself) ∙ last))
      by (inr (inl e)) = absurd (not-itself e)
      by (inr (inr a)) = a

  abbrev Short : List Change → Type 0
  Short earlier = (p : Change) × (rest : List Change) × (earlier ≡ p ∷ rest) × (base p + 76 * ends scan p ≤ 188)

  short-before : (later earlier : List Change) (path : Place) (content : Content) → scan ≡ later ++ Addition path content ∷ earlier
      → (at : Place) (said : Content) → Among (Addition at said) scan → heads scan (Addition at said) ≡ true → is_within (Addition at said) (Addition path content) ≡ true
      → Among (Addition at said) earlier → Short earlier
  short-before later [] path content parted at said among head within there = absurd there
  short-before later (p ∷ rest) path content parted at said among head within there = (p, rest, refl, by p refl)
    where
      parted_p : scan ≡ (later ++ Addition path content ∷ []) ++ p ∷ rest
      parted_p = parted ∙ sym (append_assoc later (Addition path content ∷ []) (p ∷ rest))

      tells_p : TellsEnd scan (later ++ Addition path content ∷ []) p
      tells_p = tells (later ++ Addition path content ∷ []) rest p parted_p

      over : is_over at path ≡ true
      over = within

      within_p : (q : Place) (s : Content) → p ≡ Addition q s → (Addition at said ≡ p) ⊎ Among (Addition at said) rest → is_within (Addition at said) p ≡ true
      within_p q s e (inl k) = ap (λ c. is_within (Addition at said) c) (sym k) ∙ or-true (same_path at at) (is_below at at) (inl (same_path_itself at))
      within_p q s e (inr a) =
          let follows = subst (λ c. Follows c rest) e (ordered (later ++ Addition path content ∷ []) rest p parted_p).1 in
          let low = among-all (λ change. is_addition change ≡ true → path_cmp (place_of change) q ≡ Less) rest (Addition at said) follows a refl in
          let high = among-all (λ change. is_addition change ≡ true → path_cmp (place_of change) path ≡ Less) (p ∷ rest) p
          (ordered later (p ∷ rest) (Addition path content) parted).1 (inl refl) (ap is_addition e) in
          ap (is_within (Addition at said)) e ∙ convex at q path low (sym (ap (λ c. path_cmp (place_of c) path) e) ∙ high) over

      none : (q : Place) (s : Content) → p ≡ Addition q s → ends scan p ≡ 0
      none q s e =
          sym (told-ends 0 [] (heads_done scan p))
          ∙ ap length (among-all (λ head. heads scan head ≡ true → is_within head p ≡ true → (number : ℕ) (changes : List Change) →
          done_events number changes (heads_done scan p)
          ≡ cond (list_any (is_within head) (later ++ Addition path content ∷ [])) [] (StDone (id_of changes (place_of head)) number ∷ [])) scan (Addition at said) tells_p.one among head
          (within_p q s e there) 0 [])
          ∙ ap (λ b. length (cond b [] (StDone (id_of [] at) 0 ∷ [])))
          (any-behind (is_within (Addition at said)) later (Addition path content ∷ []) (or-true (is_within (Addition at said) (Addition path content)) false (inl within)))

      by : (c : Change) → p ≡ c → base p + 76 * ends scan p ≤ 188
      by (Deletion q) e = let b = ap base e in let few = one-end scan _ p tells_p in omega (arith, b, few)
      by (Modification q s) e = let b = ap base e in let few = one-end scan _ p tells_p in omega (arith, b, few)
      by (Addition q s) e = let b = ap base e in let zero_ = none q s e in omega (arith, b, zero_)

  before-addition : (later earlier : List Change) (path : Place) (content : Content) → scan ≡ later ++ Addition path content ∷ earlier
      → (ends scan (Addition path content) ≡ 0) ⊎ Short earlier
  before-addition later earlier path content parted = by (which scan later (Addition path content) (tells later earlier (Addition path content) parted))
    where
      of-head : (h : HasHead scan later (Addition path content)) (b : Bool) → list_any (is_within h.head) later ≡ b
          → (ends scan (Addition path content) ≡ 0) ⊎ Short earlier
      of-head h true e = inl (h.told ∙ ap (λ b. cond b 0 1) e)
      of-head h false e =
          let is = alike-addition h.head path content (both-parts (is_alike h.head (Addition path content)) _ h.within).0 in
          let among = subst (λ c. Among c scan) is.2 h.among in
          let head = sym (ap (heads scan) is.2) ∙ h.heads_it in
          let within = sym (ap (λ c. is_within c (Addition path content)) is.2) ∙ h.within in
          let last = sym (ap (λ c. list_any (is_within c) later) is.2) ∙ e in
          inr (short-before later earlier path content parted is.0 is.1 among head within
          (stands-before later earlier path content parted is.0 is.1 among head within last))

      by : (ends scan (Addition path content) ≡ 0) ⊎ HasHead scan later (Addition path content) → (ends scan (Addition path content) ≡ 0) ⊎ Short earlier
      by (inl e) = inl e
      by (inr h) = of-head h (list_any (is_within h.head) later) refl

  -- ---- what all changes cost

  abbrev Costs : List Change → Type 0
  Costs others = cost scan others ≤ 226 * length others

  costs-within : (n : ℕ) (later part : List Change) → length part ≤ n → scan ≡ later ++ part → cost scan part ≤ 226 * length part
  costs-within n later [] l parted = omega arith
  costs-within zero later (c ∷ rest) l parted = let none : ⊥ = omega (arith, l) in absurd none
  costs-within (suc n) later (c ∷ rest) l parted =
      by c refl (costs-within n (later ++ c ∷ []) rest (omega (arith, l)) (parted ∙ sym (append_assoc later (c ∷ []) rest)))
      (λ more others k p. costs-within n more others k p)
    where
      few : ends scan c ≤ 1
      few = one-end scan later c (tells later rest c parted)

      behind : ((more others : List Change) → length others ≤ n → scan ≡ more ++ others → Costs others) → base c ≤ 188
          → (p : Change) (others : List Change) → rest ≡ p ∷ others → base p + 76 * ends scan p ≤ 188 → Costs (c ∷ rest)
      behind go b p others e short =
          let many = ap length e in
          let further = go (later ++ c ∷ p ∷ []) others (omega (arith, l, many))
          (parted ∙ ap (λ (r : List Change). later ++ c ∷ r) e ∙ sym (append_assoc later (c ∷ p ∷ []) others)) in
          let one = ap (cost scan) e in
          let few_ = few in
          omega (arith, b, few_, short, further, one, many)

      of-addition : Costs rest → ((more others : List Change) → length others ≤ n → scan ≡ more ++ others → Costs others) → base c ≤ 188
          → (ends scan c ≡ 0) ⊎ Short rest → Costs (c ∷ rest)
      of-addition next go b (inl e) = omega (arith, b, e, next)
      of-addition next go b (inr s) = behind go b s.0 s.1 s.2 s.3

      by : (d : Change) → c ≡ d → Costs rest → ((more others : List Change) → length others ≤ n → scan ≡ more ++ others → Costs others) → Costs (c ∷ rest)
      by (Deletion q) e next go = let b = ap base e in let few_ = few in omega (arith, b, few_, next)
      by (Modification q s) e next go = let b = ap base e in let few_ = few in omega (arith, b, few_, next)
      by (Addition q s) e next go =
          let b = ap base e in
          of-addition next go (omega (arith, b))
          (subst (λ d. (ends scan d ≡ 0) ⊎ Short rest) (sym e) (before-addition later rest q s (subst (λ d. scan ≡ later ++ d ∷ rest) e parted)))

  pub costs-few : cost scan scan ≤ 226 * length scan
  costs-few = costs-within (length scan) [] scan (omega arith) refl
