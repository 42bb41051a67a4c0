-- What the reading's state in the code stands for.
use Rattle.std.specs.Prelude.{reverse}
use Rattle.cds_criteria.specs.Reading.{Reading, Start, All, Inside, Cut}
use Rattle.cds_criteria.specs.declared.course.Course.{Course}
use Rattle.cds_criteria.specs.declared.course.Course.TheVariants as course

abbrev pub reading_of : Course → Reading
reading_of course.Start = Start
reading_of course.All = All
reading_of (course.Inside at) = Inside at.stage at.room at.level (reverse at.outer.items)
reading_of course.Cut = Cut
