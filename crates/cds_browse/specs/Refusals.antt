-- What it is to Browse and to Search that a text is no criteria.
use Rattle.cds_criteria.specs.declared.error.CriteriaError.{CriteriaError}
use Rattle.cds_criteria.specs.declared.error.CriteriaError.TheVariants as criteria
use Rattle.cds_browse.specs.declared.error.BrowseError.{BrowseError}
use Rattle.cds_browse.specs.declared.error.BrowseError.TheVariants.{BadCriteria, BadSort, Mem}

abbrev pub refusal_of : CriteriaError → BrowseError
refusal_of (criteria.BadCriteria at) = BadCriteria at
refusal_of (criteria.BadSort at) = BadSort at
refusal_of criteria.Mem = Mem
