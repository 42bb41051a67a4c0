use Rattle.std.proofs.Common.{◌<◌, string_bytes, sym, ap, ◌∙◌, arith, append_assoc, append-nil}
use Rattle.std.proofs.lemmas.List.{drop_all}
use Rattle.cds_markup.specs.Weight.{weight, weight_one}
use Rattle.cds_markup.proofs.NodesForm.{child_of, children_again}
use Rattle.cds_markup.proofs.write.+put_element.Goals as goal

pub put_element-requires : goal.put_element-requires
put_element-requires t c =
    let h : weight_one c.in-Child.child < weight c.element.inside.children =
    child_of c.as_slice-nodes.result.now c.element.inside.children c.loop-node.node-index c.node-item.result c.in-Child.child c.as_slice-nodes.ensures c.loop-node-test.true c.node-item.is c.in-Child.is in
    (omega (arith, h, ap weight_one c.element.view_is), tt)

pub returns : goal.returns
returns t c =
    let e = c.element.inside in
    let none = drop_all c.loop-node.node-index c.as_slice-nodes.result.now c.loop-node-test.false in
    let so_far = sym (append-nil (string_bytes c.loop-node.out)) ∙ rw none at c.loop-node.invariant in
    rw (← c.element.view_is, c.in_ok-put_end.ensures, so_far, c.in_ok-put_start.ensures, c.as_slice.ensures, c.as_str-2.ensures, c.as_slice-nodes.ensures, c.as_str-space.ensures, children_again e.children) (simp append_assoc)
