-- An attribute is named behind those before it.
use Rattle.std.proofs.Common.{◌≡◌, ◌==◌, if◌then◌else◌, false, Some, List, [], ◌∷◌, ◌++◌, length, sym, ap, ◌∙◌}
use Rattle.cds_markup.proofs.Terms.{Attr, TagAttr, is_declaration, attr_name, with_value, named_attrs, scopes_in}
use Rattle.cds_markup.specs.Namespaces.{in_space, element_name}
use Rattle.cds_markup.specs.declared.tag.Declaration.{Declaration}
use Rattle.cds_markup.proofs.Only.{named_behind, named-more}
use Rattle.cds_markup.proofs.scope.named_attrs.Goals as goal

one-more : (scopes : List (List Declaration)) (found : List Attr) (attr : TagAttr) (rest : List TagAttr) (named : Attr) → is_declaration attr ≡ false → Some named ≡ with_value attr.value (attr_name scopes attr.name) → named_behind (found ++ named ∷ []) (named_attrs scopes rest) ≡ named_behind found (named_attrs scopes (attr ∷ rest))
one-more scopes found attr rest named e d = rw (e, ← d) (sym (named-more found named (named_attrs scopes rest)))

pub loop-attr-preserved : goal.loop-attr-preserved
loop-attr-preserved c =
    ap (λ found. named_behind found (named_attrs (c.args.inner.now ∷ scopes_in c.args.opens.now) c.next.new.self.rest.items)) c.in_ok-push-2.ensures.ok
    ∙ one-more (c.args.inner.now ∷ scopes_in c.args.opens.now) c.loop-attr.found c.in-Some.attr c.next.new.self.rest.items c.in-Some-2.named (sym c.is_declaration.ensures ∙ c.if-is_declaration.false) (sym c.in-Some-2.is ∙ c.in_ok-named.ensures)
    ∙ ap (λ xs. named_behind c.loop-attr.found (named_attrs (c.args.inner.now ∷ scopes_in c.args.opens.now) xs)) (sym c.in-Some.ensures.steps.0)
    ∙ c.loop-attr.invariant

without-prefix : (scopes : List (List Declaration)) (attr : TagAttr) (named : Attr) → length attr.name.prefix ≡ 0 → Some named ≡ with_value attr.value (in_space attr.name.local (Some [])) → Some named ≡ with_value attr.value (attr_name scopes attr.name)
without-prefix scopes attr named none e =
    e ∙ ap (λ n. with_value attr.value (if n == 0 then in_space attr.name.local (Some []) else element_name scopes attr.name)) (sym none)

pub loop-attr-preserved-then-len-eq0 : goal.loop-attr-preserved-then-len-eq0
loop-attr-preserved-then-len-eq0 c =
    let scopes = c.args.inner.now ∷ scopes_in c.args.opens.now in
    let rest = c.next.new.self.rest.items in
    ap (λ found. named_behind found (named_attrs scopes rest)) c.in_ok-push.ensures.ok
    ∙ one-more scopes c.loop-attr.found c.in-Some.attr rest c.plain_attr.result (sym c.is_declaration.ensures ∙ c.if-is_declaration.false)
    (without-prefix scopes c.in-Some.attr c.plain_attr.result (sym c.len-in-loop-attr.ensures ∙ c.if-len-eq0.true) c.plain_attr.ensures)
    ∙ ap (λ xs. named_behind c.loop-attr.found (named_attrs scopes xs)) (sym c.in-Some.ensures.steps.0)
    ∙ c.loop-attr.invariant
