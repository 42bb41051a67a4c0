use Rattle.std.proofs.Common.{ℕ, List, [], ◌∷◌, ◌++◌, map, ap, ◌∙◌, Vec, Global}
use Rattle.std.specs.Fmt.{digits}
use Rattle.cds_ssdp.specs.Targets.{root_device, device_name, device_type, service_type}
use Rattle.cds_ssdp.specs.Replies.{reply_text}
use Rattle.cds_ssdp.proofs.Answering.{four}
use Rattle.cds_ssdp.proofs.searching.every_reply.Goals as goal

abbrev texts : List (Vec ℕ Global) → List (List ℕ)
texts all = map (λ (v : Vec ℕ Global). v.items) all

pub returns : goal.returns
unfolding digits root_device device_type service_type
returns c =
    let device = c.args.device.now in
    let name = c.as_slice.ensures.value ∙ c.in_ok-name.ensures in
    four (texts c.new-all.result.items) (texts c.put_reply.new.out.items) (texts c.put_reply-2.new.out.items) (texts c.put_reply-3.new.out.items) (texts c.put_reply-4.new.out.items)
    (reply_text device root_device) (reply_text device (device_name device.uuid)) (reply_text device (device_type 4)) (reply_text device (service_type 4))
    (ap texts c.new-all.ensures.items) c.in_ok-put_reply.ensures
    (c.in_ok-put_reply-2.ensures ∙ ap (λ t. texts c.put_reply.new.out.items ++ reply_text device t ∷ []) name)
    c.in_ok-put_reply-3.ensures c.in_ok-put_reply-4.ensures
