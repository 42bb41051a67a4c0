-- Attributes without a prefix are in no namespace, so that their names differ if they are written differently.
use Rattle.std.proofs.Common.{◌≡◌, ◌&&◌, ◌||◌, if◌then◌else◌, Bool, true, false, not, Option, Some, None, List, [], ◌∷◌, codes, refl, sym, ◌∙◌, ap}
use Rattle.std.specs.List.{list_any}
use Rattle.std.specs.Str.{bytes_eq}
use Rattle.std.proofs.lemmas.Bool.{and_parts}
use Rattle.cds_markup.specs.Namespaces.{is_empty, declares_prefix, is_declaration, in_space, element_name, attr_name, with_value, and_more, named_attrs, same_qname, same_name, no_attr_twice, no_name_twice}
use Rattle.cds_markup.specs.NamesSeen.{is_prefixed}
use Rattle.cds_markup.specs.declared.name.Attr.{Attr}
use Rattle.cds_markup.specs.declared.tag.TagAttr.{TagAttr}
use Rattle.cds_markup.specs.declared.tag.Declaration.{Declaration}
use Rattle.cds_markup.proofs.Terms.{cases, clash, some-is, empty-is}

either-not : (a b : Bool) → (a || b) ≡ false → (a ≡ false) × (b ≡ false)
either-not true b e = clash refl e
either-not false b e = (refl, e)

not-so : (b : Bool) → not b ≡ true → b ≡ false
not-so true e = clash e refl
not-so false e = refl

both : (a b : Bool) → a ≡ false → b ≡ true → (not a && b) ≡ true
both a b e f = ap (λ x. not x && b) e ∙ f

none-at-all : (e x d : Bool) → (not e && not d) ≡ false → ((e && x) || d) ≡ false → e ≡ true
none-at-all true x d p q = refl
none-at-all false x true p q = clash refl q
none-at-all false x false p q = clash refl p

abbrev without : TagAttr → Attr
without a = record { name = record { space = []; local = a.name.local }; value = a.value }

without-prefix : (a : TagAttr) → is_prefixed a ≡ false → is_declaration a ≡ false → is_empty a.name.prefix ≡ true
without-prefix a p d = none-at-all (is_empty a.name.prefix) (bytes_eq a.name.local (codes "xmlns")) (declares_prefix a.name) p d

more-of : (x : Attr) (o : Option (List Attr)) (rest : List Attr) → and_more (Some x) o ≡ Some rest → (tail : List Attr) × (o ≡ Some tail) × (rest ≡ x ∷ tail)
more-of x None rest e = absurd (cc)
more-of x (Some tail) rest e = (tail, refl, sym (some-is e))

module _ (scopes : List (List Declaration)) where
  abbrev or_named : TagAttr → List TagAttr → Bool → Option (List Attr)
  or_named a more b = if b then named_attrs scopes more else and_more (with_value a.value (attr_name scopes a.name)) (named_attrs scopes more)

  abbrev or_element : TagAttr → Bool → Option Attr
  or_element a b = with_value a.value (if b then in_space a.name.local (Some []) else element_name scopes a.name)

  behind-declared : (a : TagAttr) (more : List TagAttr) (found : List Attr) → is_declaration a ≡ true → named_attrs scopes (a ∷ more) ≡ Some found → named_attrs scopes more ≡ Some found
  behind-declared a more found d n = sym (ap (or_named a more) d) ∙ n

  behind-plain : (a : TagAttr) (more : List TagAttr) (found : List Attr) → is_prefixed a ≡ false → is_declaration a ≡ false → named_attrs scopes (a ∷ more) ≡ Some found
      → (tail : List Attr) × (named_attrs scopes more ≡ Some tail) × (found ≡ without a ∷ tail)
  behind-plain a more found p d n =
      more-of (without a) (named_attrs scopes more) found
      (sym (ap (λ o. and_more o (named_attrs scopes more)) (ap (or_element a) (without-prefix a p d))) ∙ sym (ap (or_named a more) d) ∙ n)

  locals-differ : (a b : TagAttr) → is_empty a.name.prefix ≡ true → is_empty b.name.prefix ≡ true → same_qname a.name b.name ≡ false → bytes_eq a.name.local b.name.local ≡ false
  locals-differ a b e f s =
      let l = bytes_eq a.name.local b.name.local in
      sym (ap (λ p. bytes_eq p b.name.prefix && l) (empty-is a.name.prefix e) ∙ ap (λ p. bytes_eq [] p && l) (empty-is b.name.prefix f)) ∙ s

  none-same : (a : TagAttr) (more : List TagAttr) (found : List Attr) → is_empty a.name.prefix ≡ true → list_any is_prefixed more ≡ false → named_attrs scopes more ≡ Some found
      → list_any (λ b. same_qname a.name b.name) more ≡ false → list_any (λ b. same_name (without a).name b.name) found ≡ false
  none-same a [] found e p n s = ap (list_any (λ b. same_name (without a).name b.name)) (sym (some-is n))
  none-same a (b ∷ more) found e p n s =
      let plain = either-not (is_prefixed b) (list_any is_prefixed more) p in
      let apart = either-not (same_qname a.name b.name) (list_any (λ c. same_qname a.name c.name) more) s in
      cases (is_declaration b)
      (λ d. none-same a more found e plain.1 (behind-declared b more found d n) apart.1)
      (λ d. let t = behind-plain b more found plain.0 d n in
      ap (list_any (λ c. same_name (without a).name c.name)) t.2
      ∙ ap (λ x. x || list_any (λ c. same_name (without a).name c.name) t.0) (locals-differ a b e (without-prefix b plain.0 d) apart.0)
      ∙ none-same a more t.0 e plain.1 t.1 apart.1)

  pub names-differ : (attrs : List TagAttr) (found : List Attr) → list_any is_prefixed attrs ≡ false → no_attr_twice attrs ≡ true → named_attrs scopes attrs ≡ Some found → no_name_twice found ≡ true
  names-differ [] found p o n = ap no_name_twice (sym (some-is n))
  names-differ (a ∷ more) found p o n =
      let plain = either-not (is_prefixed a) (list_any is_prefixed more) p in
      let once = and_parts (not (list_any (λ b. same_qname a.name b.name) more)) (no_attr_twice more) o in
      cases (is_declaration a)
      (λ d. names-differ more found plain.1 once.1 (behind-declared a more found d n))
      (λ d. let t = behind-plain a more found plain.0 d n in
      ap no_name_twice t.2
      ∙ both (list_any (λ b. same_name (without a).name b.name) t.0) (no_name_twice t.0)
      (none-same a more t.0 (without-prefix a plain.0 d) plain.1 t.1 (not-so (list_any (λ b. same_qname a.name b.name) more) once.0))
      (names-differ more t.0 plain.1 once.1 t.1))
