-- What shows at a place, and what refuses there, is told by the bytes up to it.
use Rattle.std.proofs.Common.{◌≡◌, ℕ, ◌+◌, ◌<◌, ◌≤◌, inl, inr, List, [], ◌∷◌, ◌++◌, take, drop, length, refl, sym, ap, subst, ◌∙◌, arith, append_assoc, length-append}
use Rattle.std.proofs.lemmas.List.{length-take-le, take-append-drop, take-append-le, take_all}
use Rattle.cds_markup.specs.declared.tag.Tag.{Tag}
use Rattle.cds_markup.specs.Grammar.{Leaf}
use Rattle.cds_markup.specs.Refusal.{CanGoOn, TagEnds, LeafEnds, TextByte, Refuses}
use Rattle.cds_lastchange.specs.Refusal.{Shows}

-- what begins the one up to a place begins the other
abbrev pub Agree : ℕ → List ℕ → List ℕ → Type 0
Agree n bytes others = (front rest : List ℕ) → bytes ≡ front ++ rest → length front ≤ n → (back : List ℕ) × (others ≡ front ++ back)

pub longer : (bytes more : List ℕ) → Agree (length bytes) bytes (bytes ++ more)
longer bytes more front rest e h = (rest ++ more, ap (λ xs. xs ++ more) e ∙ append_assoc front rest more)

pub shorter : (bytes more : List ℕ) → Agree (length bytes) (bytes ++ more) bytes
shorter bytes more front rest e h =
    let same : take (length front) bytes ≡ front = sym (take-append-le (length front) bytes more h) ∙ ap (take (length front)) e ∙ take-append-le (length front) front rest (omega arith) ∙ take_all (length front) front (omega arith) in
    (drop (length front) bytes, sym (take-append-drop (length front) bytes) ∙ ap (λ xs. xs ++ drop (length front) bytes) same)

module _ (n : ℕ) (bytes others : List ℕ) (few : n ≤ length bytes) (agree : Agree n bytes others) where
  behind : (before word rest : List ℕ) → bytes ≡ before ++ (word ++ rest) → length before + length word ≤ n → (back : List ℕ) × (others ≡ before ++ (word ++ back))
  behind before word rest e h =
      let r = agree (before ++ word) rest (e ∙ sym (append_assoc before word rest)) (omega (arith, h, length-append before word)) in
      (r.0, r.1 ∙ append_assoc before word r.0)

  same-take : (k : ℕ) → k ≤ n → (take k bytes ≡ take k others) × (k ≤ length others)
  same-take k h =
      let long = length-take-le k bytes (omega (arith, h, few)) in
      let r = agree (take k bytes) (drop k bytes) (sym (take-append-drop k bytes)) (omega (arith, long, h)) in (
        sym (ap (take k) r.1 ∙ take-append-le k (take k bytes) r.0 (omega (arith, long)) ∙ take_all k (take k bytes) (omega (arith, long))),
        omega (arith, ap length r.1, length-append (take k bytes) r.0, long),
      )

  tag-there : (tags : List Tag) (begin at : ℕ) (tag : Tag) → TagEnds bytes tags begin at tag → at < n → TagEnds others tags begin at tag
  tag-there tags begin at tag t h =
      let grouped : (rest : List ℕ) → (60 ∷ (t.inside ++ t.end ∷ [])) ++ rest ≡ 60 ∷ (t.inside ++ t.end ∷ rest) = λ rest. ap (λ xs. 60 ∷ xs) (append_assoc t.inside (t.end ∷ []) rest) in
      let r = behind t.before (60 ∷ (t.inside ++ t.end ∷ [])) t.rest (t.spelled ∙ ap (λ xs. t.before ++ xs) (sym (grouped t.rest))) (omega (arith, h, t.begins, t.place, length-append t.inside (t.end ∷ []))) in
      record { before = t.before; inside = t.inside; end = t.end; rest = r.0; spelled = r.1 ∙ ap (λ xs. t.before ++ xs) (grouped r.0); begins = t.begins; place = t.place; opens = t.opens; is_tag = t.is_tag; ends = t.ends }

  pub leaf-there : (tags : List Tag) (begin at : ℕ) (leaf : Leaf) → LeafEnds bytes tags begin at leaf → at < n → LeafEnds others tags begin at leaf
  leaf-there tags begin at leaf l h =
      let r = behind l.before l.front l.rest l.spelled (omega (arith, h, l.begins, l.place)) in
      record { before = l.before; front = l.front; rest = r.0; spelled = r.1; begins = l.begins; place = l.place; opens = l.opens; inside = l.inside; is_leaf = l.is_leaf }

  pub text-there : (tags : List Tag) (at byte : ℕ) → TextByte bytes tags at byte → at < n → TextByte others tags at byte
  text-there tags at byte t h =
      let r = behind t.before (byte ∷ []) t.rest t.spelled (omega (arith, h, t.place)) in
      record { before = t.before; rest = r.0; spelled = r.1; place = t.place; opens = t.opens; inside = t.inside; no_blank = t.no_blank; no_markup = t.no_markup; may_be = subst CanGoOn (same-take (at + 1) (omega (arith, h))).0 t.may_be }

  pub refuses-there : (at : ℕ) → Refuses bytes at → at < n → Refuses others at
  refuses-there at (inl (inl (inl b))) h =
      let next = same-take (at + 1) (omega (arith, h)) in
      inl (inl (inl (record { inside = omega (arith, next.1); before = subst CanGoOn (same-take at (omega (arith, h))).0 b.before; here = λ g. b.here (subst CanGoOn (sym next.0) g) })))
  refuses-there at (inl (inl (inr s))) h = absurd (omega (arith, s.end, h, few))
  refuses-there at (inl (inr (tags, begin, tag, ends, breaks))) h = inl (inr (tags, begin, tag, tag-there tags begin at tag ends h, breaks))
  refuses-there at (inr d) h =
      let r = behind d.before (60 ∷ d.first ∷ []) d.rest d.spelled (omega (arith, h, d.place)) in
      inr (record { tags = d.tags; before = d.before; first = d.first; rest = r.0; spelled = r.1; place = d.place; opens = d.opens; many = d.many; begins = d.begins })

  pub shows-there : (shown at : ℕ) → Shows bytes shown at → shown < n → Shows others shown at
  shows-there shown at (inl s) h = inl (record { tags = s.tags; tag = s.tag; name = s.name; attrs = s.attrs; ends = tag-there s.tags at shown s.tag s.ends h; says = s.says; misplaced = s.misplaced })
  shows-there shown at (inr (inl s)) h = inr (inl (record { tags = s.tags; leaf = s.leaf; ends = leaf-there s.tags at shown s.leaf s.ends h; indirect = s.indirect }))
  shows-there shown at (inr (inr s)) h = inr (inr (record { tags = s.tags; byte = s.byte; begins = text-there s.tags at s.byte s.begins (omega (arith, h, s.here)); here = s.here }))
