use Rattle.std.proofs.Common.{refl}
use Rattle.std.specs.Fmt.{digits}
use Rattle.cds_object.specs.Writing.{number_attribute, text_element, number_element}
use Rattle.cds_object.specs.Fragment.{object_attributes, rate_attribute, item_front}
use Rattle.cds_didl.specs.Filter.{filter_of, wants_resource}
use Rattle.cds_didl.specs.Fragment.{sound_wanted, resource_attributes_wanted, place_text, resource_wanted, work_wanted, item_wanted, didl_start, didl_text}
use Rattle.cds_control.proofs.examples.actions_are_answered.Goals as goal

pub returns : goal.returns
unfolding digits number_attribute text_element number_element object_attributes rate_attribute item_front filter_of wants_resource sound_wanted resource_attributes_wanted place_text resource_wanted work_wanted item_wanted didl_start didl_text
returns c = (refl, refl, refl, refl, refl, refl, refl, refl, refl, refl, refl, refl, refl, refl, refl, refl, refl, refl, refl, refl, refl)
