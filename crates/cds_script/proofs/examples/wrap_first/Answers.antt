use lib.Utf8.{encode}
use Rattle.std.proofs.Common.{refl}
use Rattle.std.specs.Fmt.{digits}
use Rattle.std.specs.Str.{is_utf8, chars}
use Rattle.cds_script.specs.Report.{script_ending}
use Rattle.cds_object.specs.Writing.{text_element, number_element, number_attribute}
use Rattle.cds_object.specs.Clean.{cleaned}
use Rattle.cds_object.specs.Fragment.{object_attributes, duration_text, seconds_text, duration_attribute, rate_attribute, sound_attributes, resource_text, container_front, trackers_text, resource_attributes, work_text, item_front}
use Rattle.cds_script.proofs.examples.wrap_first.Goals as goal

pub returns : goal.returns
unfolding script_ending digits is_utf8 chars encode cleaned text_element number_element object_attributes duration_text seconds_text duration_attribute number_attribute rate_attribute sound_attributes resource_text container_front trackers_text resource_attributes work_text item_front
returns c = (refl, refl, refl, refl, refl, refl, refl, refl, refl)
