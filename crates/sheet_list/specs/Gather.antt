-- The jobs of a lent list, in a list of fixed length.
use Rattle.std.specs.Prelude.{List, min, length}
use Rattle.sheet_format.specs.declared.Job.{Job}
use Rattle.sheet_format.specs.Figures.{most_jobs}
use Rattle.sheet_format.specs.Format.{jobs_in, places}

-- the first jobs in their places, as many as there are places
abbrev pub gathered : List Job → List Job
gathered js = places (min (length js) most_jobs) (jobs_in js)
